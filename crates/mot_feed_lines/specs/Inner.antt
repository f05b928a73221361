-- What one request is answered, and then the lines of an input.
use Rattle.std.specs.Prelude.{◌≡◌, ◌⊎◌, ℕ, Bool, List, [], ◌∷◌, Option, Some, None, Result, Ok, Err}
use Rattle.disk_model.specs.Disk.{State}
use Rattle.mot_feed_lines.specs.Answering.{AreAskedBy, HaveEnded}
use Rattle.mot_journal.specs.Image.{Standing}
use Rattle.mot_numbers.specs.declared.refusal.Refusal.{Refusal}
use Rattle.mot_numbers.specs.declared.refusal.Refusal.TheVariants.{OutOfMemory}
use Rattle.mot_objects.specs.declared.command.Command.{Command}
use Rattle.mot_repository.specs.Repository.{Holds}
use Rattle.mot_playout.specs.Runs.{ServerView}
use Rattle.mot_playout.specs.declared.running.Attempt.{Attempt}
use Rattle.mot_update.specs.HasRun.{HasRun}

-- the command that was run: none, where memory was wanted for it
abbrev pub ran_of : Command → Result Attempt Refusal → List Command
ran_of c (Err OutOfMemory) = []
ran_of c answer = c ∷ []

-- what a command ends: want of memory ends nothing
abbrev pub end_of : Result Attempt Refusal → Option Refusal
end_of (Ok answer) = None
end_of (Err OutOfMemory) = None
end_of (Err refusal) = Some refusal

module _ {D : Type 0} (state : D → State) where
  -- a request for this command, or for none, was answered: that was run, unless memory was wanted
  pub record HasAnswered (old new : ServerView D) (asked : List Command)
      (fault : Option Refusal) : Type 0 where
    pub commands : List Command
    pub are : (commands ≡ []) ⊎ (commands ≡ asked)
    pub run : (s : Standing) → Holds old.view s (state old.disk) → (state new.disk).IsHonest
        → (marks : List Bool)
        × HasRun old new (state old.disk) (state new.disk) s commands marks fault

  -- Of an input that was taken before, each line that has ended since was answered, up to a fault,
  -- and these commands of them were run.
  pub record AnswersMore (old new : ServerView D) (before after : List ℕ)
      (fault : Option Refusal) : Type 0 where
    pub lines : List (List ℕ)
    pub ended : HaveEnded before after lines fault
    pub commands : List Command
    pub are : AreAskedBy lines commands
    pub run : (s : Standing) → Holds old.view s (state old.disk) → (state new.disk).IsHonest
        → (marks : List Bool)
        × HasRun old new (state old.disk) (state new.disk) s commands marks fault
