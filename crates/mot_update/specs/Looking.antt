-- What a look at a source of wanted objects does.
use Rattle.std.specs.Prelude.{◌≡◌, ℕ, Bool, true, false, not, List, [], ◌++◌, map, filter, take}
use Rattle.std.specs.Prelude.{Option, Some, None, ⊤}
use Rattle.std.specs.List.{flat_map, AllByRecursion}
use Rattle.disk_model.specs.Disk.{State}
use Rattle.mot_journal.specs.Image.{Standing}
use Rattle.mot_numbers.specs.declared.refusal.Refusal.{Refusal}
use Rattle.mot_objects.specs.declared.command.Command.{Command}
use Rattle.mot_objects.specs.declared.command.Command.TheVariants.{Withdraw}
use Rattle.mot_objects.specs.declared.object.Object.{Object}
use Rattle.mot_playout.specs.Runs.{ServerView}
use Rattle.mot_update.specs.HasRun.{HasRun}
use Rattle.mot_update.specs.Laws.{IsUpdate, names_of}
use Rattle.mot_update.specs.Told.{Answer, AreAnswers, AreAttemptsOf, was_accepted}
use Rattle.mot_update.specs.Updating.{is_known, settling, updating}
use Rattle.mot_update.specs.declared.settling.SettleOutcome.{SettleOutcome}
use Rattle.mot_update.specs.declared.settling.SettleOutcome.TheVariants.{Right, Put, Replaced}
use Rattle.mot_objects.specs.declared.command.Item.{Item}

-- what was to be done for an object, if anything was, is done
abbrev pub was_settled : SettleOutcome → Bool
was_settled Right = true
was_settled (Put attempt) = was_accepted attempt
was_settled (Replaced attempt) = was_accepted attempt

-- a command was run for it, and accepted
abbrev pub was_stored : SettleOutcome → Bool
was_stored Right = false
was_stored (Put attempt) = was_accepted attempt
was_stored (Replaced attempt) = was_accepted attempt

-- each command that was answered was accepted
abbrev pub AreAccepted : List Bool → Type 0
AreAccepted marks = AllByRecursion (λ (mark : Bool). mark ≡ true) marks

-- the objects that were given, where they are told, go on by these
abbrev pub Gives : Option (List Item) → Option (List Item) → List Item → Type 0
Gives None new more = ⊤
Gives (Some known) None more = ⊥
Gives (Some known) (Some new) more = new ≡ known ++ more

-- the names that are not known, of a carousel's objects
abbrev pub unknown_names : List (List ℕ) → List Object → List (List ℕ)
unknown_names names objects =
    filter (λ n. not (is_known names n)) (map (λ (o : Object). o.name) objects)

abbrev pub withdraw_all : List (List ℕ) → List Command
withdraw_all names = map Withdraw names

-- In the next three, `fine` is whether nothing was refused.

-- a beginning of these commands was run, and all of them where no fault came
pub record RunsThrough {D : Type 0} (old new : ServerView D) (start now : State) (s : Standing)
    (all : List Command) (fine : Bool) (fault : Option Refusal) : Type 0 where
  pub commands : List Command
  pub others : List Command
  pub split : all ≡ commands ++ others
  pub whole : fault ≡ None → others ≡ []
  pub marks : List Bool
  pub run : HasRun old new start now s commands marks fault
  pub accepted : fine ≡ true → fault ≡ None → AreAccepted marks
  -- what was told of them
  pub answers : List Answer
  pub told : AreAnswers answers commands marks
  pub right : AreAttemptsOf old.view.journal.layout s commands answers

-- Objects of these names were given, and settled one after the other. Where nothing was refused one
-- of each name was given, behind the first so many.
pub record HasSettled {D : Type 0} (old new : ServerView D) (start now : State) (s : Standing)
    (names : List (List ℕ)) (first : ℕ) (before after : Option (List Item)) (fine : Bool)
    (fault : Option Refusal) : Type 0 where
  pub wanted : List Item
  pub gives : Gives before after wanted
  pub is_update : IsUpdate names wanted
  pub every : fine ≡ true → fault ≡ None → take first names ++ names_of wanted ≡ names
  pub runs : RunsThrough old new start now s (flat_map (settling s.carousel.objects) wanted)
      fine fault

-- The carousel was updated to what was given: the commands are those of the update, or, up to a
-- fault, a beginning of them.
pub record HasLooked {D : Type 0} (old new : ServerView D) (start now : State) (s : Standing)
    (names : List (List ℕ)) (first : ℕ) (before after : Option (List Item)) (fine : Bool)
    (fault : Option Refusal) : Type 0 where
  pub wanted : List Item
  pub gives : Gives before after wanted
  pub is_update : IsUpdate names wanted
  pub every : fine ≡ true → fault ≡ None → take first names ++ names_of wanted ≡ names
  pub runs : RunsThrough old new start now s (updating s.carousel names wanted) fine fault
