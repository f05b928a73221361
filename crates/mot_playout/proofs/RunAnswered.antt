-- How what a run answers on every disk goes on by one more command.
use Rattle.std.proofs.Common.{◌≡◌, ℕ, Bool, true, false, List, [], ◌∷◌, ◌++◌, length, drop}
use Rattle.std.proofs.Common.{Option, Some, None, Ok, Err, refl, sym, ◌∙◌, ap, subst}
use Rattle.std.specs.Prelude.{slice_get, IsTrue, IsFalse}
use Rattle.disk_model.specs.Disk.{State}
use Rattle.mot_numbers.specs.declared.refusal.Refusal.{Refusal}
use Rattle.mot_numbers.specs.declared.refusal.Refusal.TheVariants.{OutOfMemory, DeviceFault, Halted}
use Rattle.mot_objects.specs.declared.command.Command.{Command}
use Rattle.mot_objects.specs.declared.command.Done.{Done}
use Rattle.mot_repository.specs.Answers.{IsAnswered, IsChanged, IsRefusal, accepted, refused}
use Rattle.mot_repository.specs.Answers.{failed}
use Rattle.mot_repository.specs.Repository.{RepositoryView}
use Rattle.mot_playout.specs.RunAnswers.{AreAnswered, EndsRun, RunAnswers}
use Rattle.mot_playout.specs.RunAnswers as run
use Rattle.mot_playout.specs.RunEnds.{is_run_ending}
use Rattle.mot_playout.proofs.Answered.{error_is, not_ok, no_fault_of}
use Rattle.mot_playout.proofs.Runs.{not_there, same}

-- one mark more, where the command was accepted
pub one_done : (view mid next : RepositoryView) (commands : List Command) (marks : List Bool)
    (command : Command) (done : Done) → slice_get commands (length marks) ≡ Some command
    → AreAnswered view commands marks mid → IsChanged mid command done next
    → AreAnswered view commands (marks ++ true ∷ []) next
one_done view mid next [] marks command done at so_far step = absurd (not_there command at)
one_done view mid next (c ∷ commands) [] command done at so_far step =
    let here = subst (λ d. IsChanged mid d done next) (sym (same c command at)) step in
    (done, next, subst (λ v. IsChanged v c done next) so_far here, refl)
one_done view mid next (c ∷ commands) (true ∷ marks) command done at so_far step = (
  so_far.0,
  so_far.1,
  so_far.2,
  one_done so_far.1 mid next commands marks command done at so_far.3 step,
)
one_done view mid next (c ∷ commands) (false ∷ marks) command done at so_far step = (
  so_far.0,
  so_far.1,
  so_far.2,
  one_done view mid next commands marks command done at so_far.3 step,
)

-- and where it was refused
pub one_refused : (view mid : RepositoryView) (commands : List Command) (marks : List Bool)
    (command : Command) (refusal : Refusal) → slice_get commands (length marks) ≡ Some command
    → AreAnswered view commands marks mid → is_run_ending refusal ≡ false
    → IsRefusal mid command refusal → AreAnswered view commands (marks ++ false ∷ []) mid
one_refused view mid [] marks command refusal at so_far goes why = absurd (not_there command at)
one_refused view mid (c ∷ commands) [] command refusal at so_far goes why =
    let here = subst (λ d. IsRefusal mid d refusal) (sym (same c command at)) why in
    (refusal, goes, subst (λ v. IsRefusal v c refusal) so_far here, so_far)
one_refused view mid (c ∷ commands) (true ∷ marks) command refusal at so_far goes why = (
  so_far.0,
  so_far.1,
  so_far.2,
  one_refused so_far.1 mid commands marks command refusal at so_far.3 goes why,
)
one_refused view mid (c ∷ commands) (false ∷ marks) command refusal at so_far goes why = (
  so_far.0,
  so_far.1,
  so_far.2,
  one_refused view mid commands marks command refusal at so_far.3 goes why,
)

-- the commands behind the marks begin with the one that comes next
next-is : (commands : List Command) (marks : List Bool) (command : Command)
    → slice_get commands (length marks) ≡ Some command
    → (later : List Command) × (drop (length marks) commands ≡ command ∷ later)
next-is [] marks command at = absurd (not_there command at)
next-is (c ∷ commands) [] command at =
    (commands, ap (λ d. d ∷ commands) (same c command at))
next-is (c ∷ commands) (mark ∷ marks) command at = next-is commands marks command at

drop-whole : (commands : List Command) → drop (length commands) commands ≡ []
drop-whole [] = refl
drop-whole (c ∷ commands) = drop-whole commands

none-behind : (commands : List Command) (n : ℕ) → n ≡ length commands → drop n commands ≡ []
none-behind commands n e = ap (λ k. drop k commands) e ∙ drop-whole commands

module _ (first view view' : RepositoryView) (mid now : State) (commands : List Command)
    (marks : List Bool) (command : Command)
    (at : slice_get commands (length marks) ≡ Some command)
    (so_far : AreAnswered first commands marks view) where
  -- a true mark more
  pub answered_true : (done : Done) → IsAnswered view view' mid now command (Ok done)
      → AreAnswered first commands (marks ++ true ∷ []) view'
  answered_true done (accepted d e changed) =
      one_done first view view' commands marks command d at so_far changed
  answered_true done (refused refusal e why same still) = absurd (not_ok done refusal (sym e))
  answered_true done (failed e going rises halts) = absurd (not_ok done DeviceFault (sym e))

  -- a false mark more
  pub answered_false : (refusal : Refusal) → is_run_ending refusal ≡ false
      → IsAnswered view view' mid now command (Err refusal)
      → AreAnswered first commands (marks ++ false ∷ []) view'
  answered_false refusal goes (accepted done e changed) = absurd (not_ok done refusal e)
  answered_false refusal goes (refused r e why same still) =
      let is : refusal ≡ r = cc in
      subst (AreAnswered first commands (marks ++ false ∷ [])) (sym same)
      (one_refused first view commands marks command r at so_far
      (subst (λ x. is_run_ending x ≡ false) is goes) why)
  answered_false refusal goes (failed e going rises halts) = absurd (no_fault_of refusal goes e)

  -- the end of the run
  pub answered_end : (refusal : Refusal) → is_run_ending refusal ≡ true
      → IsAnswered view view' mid now command (Err refusal)
      → RunAnswers first view' commands marks (Some refusal)
  answered_end refusal ends (accepted done e changed) = absurd (not_ok done refusal e)
  answered_end refusal ends (refused r e why same still) =
      let is : refusal ≡ r = cc in
      let next = next-is commands marks command at in
      record {
        last = view;
        marked = so_far;
        ends = run.refused command next.0 r next.1 why
            (subst (λ x. is_run_ending x ≡ true) is ends) same (ap (λ x. Some x) is);
      }
  answered_end refusal ends (failed e going rises halts) =
      let next = next-is commands marks command at in
      record {
        last = view;
        marked = so_far;
        ends = run.failed command next.0 next.1 going halts
            (ap (λ x. Some x) (error_is refusal e));
      }

-- the layout stays
same_layout : (view last : RepositoryView) (commands : List Command) (marks : List Bool)
    → AreAnswered view commands marks last → last.journal.layout ≡ view.journal.layout
same_layout view last commands [] is = ap (λ (v : RepositoryView). v.journal.layout) is
same_layout view last [] (mark ∷ marks) is = absurd is
same_layout view last (c ∷ commands) (true ∷ marks) is =
    same_layout is.1 last commands marks is.3 ∙ is.2.layout
same_layout view last (c ∷ commands) (false ∷ marks) is =
    same_layout view last commands marks is.3

-- nothing was begun
pub answered_halted : (view : RepositoryView) (commands : List Command) (marks : List Bool)
    → marks ≡ [] → IsTrue view.halted → RunAnswers view view commands marks (Some Halted)
answered_halted view commands marks none is =
    subst (λ l. RunAnswers view view commands l (Some Halted)) (sym none)
    (record { last = view; marked = refl; ends = run.halted is refl refl refl })

-- without memory for the marks a run ends before its first command
pub answered_no_memory : (view : RepositoryView) (commands : List Command) (marks : List Bool)
    → marks ≡ [] → IsFalse view.halted → RunAnswers view view commands marks (Some OutOfMemory)
answered_no_memory view commands marks none going =
    subst (λ l. RunAnswers view view commands l (Some OutOfMemory)) (sym none)
    (record { last = view; marked = refl; ends = run.no_memory going refl refl refl })

-- all commands were answered
pub answered_whole : (first view : RepositoryView) (commands : List Command) (marks : List Bool)
    → length marks ≡ length commands → AreAnswered first commands marks view
    → RunAnswers first view commands marks None
answered_whole first view commands marks all so_far = record {
  last = view;
  marked = so_far;
  ends = run.whole (none-behind commands (length marks) all) refl refl;
}

-- and the layout stays to the end
ends-layout : (last new : RepositoryView) (others : List Command) (marks : List Bool)
    (fault : Option Refusal) → EndsRun last new others marks fault
    → new.journal.layout ≡ last.journal.layout
ends-layout last new others marks fault (run.whole none same is) =
    ap (λ (v : RepositoryView). v.journal.layout) same
ends-layout last new others marks fault (run.refused c later r at why ends same is) =
    ap (λ (v : RepositoryView). v.journal.layout) same
ends-layout last new others marks fault (run.failed c later at going halts is) = halts.layout
ends-layout last new others marks fault (run.halted is none same f) =
    ap (λ (v : RepositoryView). v.journal.layout) same
ends-layout last new others marks fault (run.no_memory is none same f) =
    ap (λ (v : RepositoryView). v.journal.layout) same

-- a run leaves the journal in its layout
pub keeps_layout : (view new : RepositoryView) (commands : List Command) (marks : List Bool)
    (fault : Option Refusal) → RunAnswers view new commands marks fault
    → new.journal.layout ≡ view.journal.layout
keeps_layout view new commands marks fault answers =
    ends-layout answers.last new _ marks fault answers.ends
    ∙ same_layout view answers.last commands marks answers.marked
