-- What is told of commands is what comes of them.
use Rattle.std.proofs.Common.{◌≡◌, ◌∙◌, Bool, true, false, List, [], ◌∷◌, ◌++◌, length, Result, Ok}
use Rattle.std.proofs.Common.{Err, arith, ap, refl, subst, sym}
use Rattle.std.specs.Prelude.{IfErr, IfOk, IsFalse, IsTrue, OnOk}
use Rattle.disk_model.specs.Disk.{State}
use Rattle.mot_journal.specs.Image.{Standing}
use Rattle.mot_journal.specs.declared.layout.Layout.{Layout}
use Rattle.mot_numbers.specs.declared.refusal.Refusal.{Refusal}
use Rattle.mot_numbers.specs.declared.refusal.Refusal.TheVariants.{DeviceFault}
use Rattle.mot_objects.specs.declared.command.Command.{Command}
use Rattle.mot_objects.specs.declared.command.Done.{Done}
use Rattle.mot_repository.specs.Answers.{IsAnswered, IsRefusal}
use Rattle.mot_repository.specs.Outcome.{after_command}
use Rattle.mot_repository.specs.Repository.{Agrees, RepositoryView}
use Rattle.mot_playout.specs.Attempts.{answer_of}
use Rattle.mot_playout.specs.RunEnds.{AreMarks, is_run_ending}
use Rattle.mot_playout.specs.declared.running.Attempt.{Attempt}
use Rattle.mot_playout.specs.declared.running.Attempt.TheVariants.{Accepted, Refused}
use Rattle.mot_update.proofs.Found.{same_err, same_ok}
use Rattle.mot_update.specs.Told.{Answer, AreAnswers, AreAttemptsOf, IsAttemptOf, came_of}
use Rattle.mot_update.specs.Told.{was_accepted}

-- it is what comes of this command, whatever that leaves
abbrev pub ComesOf : Layout → Standing → Command → Attempt → Type 0
ComesOf layout s c attempt = (next : Standing) × IsAttemptOf layout s c attempt next

-- further commands that were not answered
pub right-cut : (layout : Layout) (s : Standing) (commands others : List Command)
    (answers : List Answer) → AreAttemptsOf layout s commands answers
    → AreAttemptsOf layout s (commands ++ others) answers
right-cut layout s commands others [] right = tt
right-cut layout s [] others (answer ∷ answers) right = absurd right
right-cut layout s (c ∷ commands) others (answer ∷ answers) right =
    (right.0, right.1, right-cut layout right.0 commands others answers right.2)

abbrev or_that : Result (Standing × Done) Refusal → Standing → Standing
or_that (Ok made) s = made.0
or_that (Err refusal) s = s

same_next : (r : Result (Standing × Done) Refusal) (next other : Standing) (done its : Done)
    → r ≡ Ok (next, done) → r ≡ Ok (other, its) → next ≡ other
same_next r next other done its a b = ap (λ x. or_that x next) (sym a ∙ b)

-- an accepted command leaves what its mark says
next_accepted : (layout : Layout) (s next other : Standing) (c : Command) (done : Done)
    (attempt : Attempt) → was_accepted attempt ≡ true → IsAttemptOf layout s c attempt next
    → after_command layout s c ≡ Ok (other, done) → other ≡ next
next_accepted layout s next other c done (Accepted its) ok is a =
    same_next (after_command layout s c) other next done its a is
next_accepted layout s next other c done (Refused refusal) ok is a =
    absurd (let no : false ≡ true = ok in cc)

-- and a refused one nothing
next_refused : (layout : Layout) (s next : Standing) (c : Command) (attempt : Attempt)
    → was_accepted attempt ≡ false → IsAttemptOf layout s c attempt next → next ≡ s
next_refused layout s next c (Accepted done) fails is = absurd (let e : true ≡ false = fails in cc)
next_refused layout s next c (Refused refusal) fails is = is.0

-- one run of commands behind another
pub right-join : (layout : Layout) (s last : Standing) (commands others : List Command)
    (marks : List Bool) (answers more : List Answer) → AreMarks layout s commands marks last
    → length marks ≡ length commands → AreAnswers answers commands marks
    → AreAttemptsOf layout s commands answers → AreAttemptsOf layout last others more
    → AreAttemptsOf layout s (commands ++ others) (answers ++ more)
right-join layout s last [] others [] answers more marks whole told right then =
    subst (λ l. AreAttemptsOf layout s others (l ++ more)) (sym told)
    (subst (λ (t : Standing). AreAttemptsOf layout t others more) marks then)
right-join layout s last [] others (mark ∷ marks) answers more is whole told right then =
    absurd (omega (arith, whole))
right-join layout s last (c ∷ commands) others [] answers more is whole told right then =
    absurd (omega (arith, whole))
right-join layout s last (c ∷ commands) others (mark ∷ marks) [] more is whole told right then =
    absurd told
right-join layout s last (c ∷ commands) others (true ∷ marks) (answer ∷ answers) more is whole told
    right then =
    let same = next_accepted layout s right.0 is.1 c is.0 (came_of answer)
    told.1 right.1 is.2 in (
      right.0,
      right.1,
      right-join layout right.0 last commands others marks answers more
          (subst (λ (t : Standing). AreMarks layout t commands marks last) same is.3)
          (omega (arith, whole)) told.2 right.2 then,
    )
right-join layout s last (c ∷ commands) others (false ∷ marks) (answer ∷ answers) more is whole told
    right then =
    let same = next_refused layout s right.0 c (came_of answer) told.1 right.1 in (
      right.0,
      right.1,
      right-join layout right.0 last commands others marks answers more
          (subst (λ (t : Standing). AreMarks layout t commands marks last) (sym same) is.2)
          (omega (arith, whole)) told.2 right.2 then,
    )

-- one command
pub right-one : (layout : Layout) (s : Standing) (c : Command) (answer : Answer)
    → ComesOf layout s c (came_of answer) → AreAttemptsOf layout s (c ∷ []) (answer ∷ [])
right-one layout s c answer is = (is.0, is.1, tt)

going_on : (now new old : Bool) → new ≡ old → IsFalse old → IsTrue new → ⊥
going_on now new old e a b = cc

not_both : (a : Done) (b : Refusal) → ◌≡◌ {A = Result Done Refusal} (Ok a) (Err b) → ⊥
not_both a b e = absurd (cc (e))

by_refusal : (view : RepositoryView) (s : Standing) (c : Command) (refusal its : Refusal)
    → refusal ≡ its → is_run_ending refusal ≡ false → Agrees view s → IsFalse view.halted
    → IsRefusal view c its → ComesOf view.journal.layout s c (Refused refusal)
by_refusal view s c refusal its same goes agrees going (IsRefusal.halted halted is) =
    absurd (going_on false view.halted view.halted refl going halted)
by_refusal view s c refusal its same goes agrees going (IsRefusal.by_rules on fits rules) =
    (s, (refl, rules s agrees ∙ ap Err (sym same)))
by_refusal view s c refusal its same goes agrees going (IsRefusal.no_memory on short is) =
    absurd (let e : true ≡ false = sym (ap is_run_ending (same ∙ is)) ∙ goes in cc)

-- an answer on every disk, of what it stands for
pub right_of : (view new : RepositoryView) (old now : State) (s : Standing) (c : Command)
    (r : Result Attempt Refusal) → Agrees view s → OnOk r (IsFalse view.halted)
    → OnOk r (new.halted ≡ view.halted)
    → IfOk r (λ answer. IfErr (answer_of (Ok answer)) (λ refusal. is_run_ending refusal ≡ false))
    → IsAnswered view new old now c (answer_of r)
    → IfOk r (ComesOf view.journal.layout s c)
right_of view new old now s c (Ok (Accepted done)) agrees going stays goes
    (IsAnswered.accepted its is changed) =
    let next = changed.becomes s agrees in
    (next.0, next.1 ∙ ap (λ (d : Done). Ok (next.0, d)) (sym (same_ok done its is)))
right_of view new old now s c (Ok (Accepted done)) agrees going stays goes
    (IsAnswered.refused its is why same still) = absurd (not_both done its is)
right_of view new old now s c (Ok (Accepted done)) agrees going stays goes
    (IsAnswered.failed is on rises halts) = absurd (not_both done DeviceFault is)
right_of view new old now s c (Ok (Refused refusal)) agrees going stays goes
    (IsAnswered.accepted its is changed) = absurd (not_both its refusal (sym is))
right_of view new old now s c (Ok (Refused refusal)) agrees going stays goes
    (IsAnswered.refused its is why same still) =
    by_refusal view s c refusal its (same_err refusal its is) goes agrees going why
right_of view new old now s c (Ok (Refused refusal)) agrees going stays goes
    (IsAnswered.failed is on rises halts) =
    absurd (going_on false new.halted view.halted stays going halts.halted)
right_of view new old now s c (Err refusal) agrees going stays goes is = tt
