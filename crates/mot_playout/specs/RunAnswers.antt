-- What a run of commands answers on every disk, whatever the disk holds and however it fails: in
-- the words of what the repository keeps in memory.
use Rattle.std.specs.Prelude.{◌≡◌, Bool, true, false, List, [], ◌∷◌, length, drop, Option, Some}
use Rattle.std.specs.Prelude.{None, IsTrue, IsFalse}
use Rattle.mot_numbers.specs.declared.refusal.Refusal.{Refusal}
use Rattle.mot_numbers.specs.declared.refusal.Refusal.TheVariants.{OutOfMemory, DeviceFault, Halted}
use Rattle.mot_objects.specs.declared.command.Command.{Command}
use Rattle.mot_objects.specs.declared.command.Done.{Done}
use Rattle.mot_repository.specs.Answers.{IsChanged, IsHalted, IsRefusal}
use Rattle.mot_repository.specs.Repository.{RepositoryView}
use Rattle.mot_playout.specs.RunEnds.{is_run_ending}

-- each mark is right where the commands before it left the repository, and the last one leaves this
abbrev pub AreAnswered : RepositoryView → List Command → List Bool → RepositoryView → Type 0
AreAnswered view commands [] last = last ≡ view
AreAnswered view [] (mark ∷ marks) last = ⊥
AreAnswered view (command ∷ commands) (true ∷ marks) last =
    (done : Done) × (next : RepositoryView) × IsChanged view command done next
    × AreAnswered next commands marks last
AreAnswered view (command ∷ commands) (false ∷ marks) last =
    (refusal : Refusal) × (is_run_ending refusal ≡ false) × IsRefusal view command refusal
    × AreAnswered view commands marks last

-- why nothing more was marked, and what that left; these are the commands behind the marks
pub data EndsRun (last new : RepositoryView) (others : List Command) (marks : List Bool)
    (fault : Option Refusal) : Type 0 where
  whole : others ≡ [] → new ≡ last → fault ≡ None → EndsRun last new others marks fault
  -- the first of them was refused, and nothing changed
  refused : (command : Command) (later : List Command) (refusal : Refusal)
      → others ≡ command ∷ later → IsRefusal last command refusal → is_run_ending refusal ≡ true
      → new ≡ last → fault ≡ Some refusal → EndsRun last new others marks fault
  -- the disk failed in the first of them
  failed : (command : Command) (later : List Command) → others ≡ command ∷ later
      → IsFalse last.halted → IsHalted last new → fault ≡ Some DeviceFault
      → EndsRun last new others marks fault
  -- nothing was begun: the server was halted, or there was no memory for the marks
  halted : IsTrue last.halted → marks ≡ [] → new ≡ last → fault ≡ Some Halted
      → EndsRun last new others marks fault
  no_memory : IsFalse last.halted → marks ≡ [] → new ≡ last → fault ≡ Some OutOfMemory
      → EndsRun last new others marks fault

pub record RunAnswers (old new : RepositoryView) (commands : List Command) (marks : List Bool)
    (fault : Option Refusal) : Type 0 where
  pub last : RepositoryView
  pub marked : AreAnswered old commands marks last
  pub ends : EndsRun last new (drop (length marks) commands) marks fault
