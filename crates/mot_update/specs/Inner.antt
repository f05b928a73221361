-- What came of an object that a source offered: it was not given, or it was settled so, or a fault
-- came.
use Rattle.std.specs.Prelude.{◌≡◌, ◌<◌, ◌≤◌, ℕ, Bool, true, false, List, [], ◌∷◌, Option, Some}
use Rattle.std.specs.Prelude.{None, Result, Ok, Err, length, ⊤}
use Rattle.mot_carousel.specs.Gap.{IsLongestGap}
use Rattle.mot_journal.specs.Image.{Standing}
use Rattle.mot_journal.specs.declared.layout.Layout.{Layout}
use Rattle.mot_numbers.specs.declared.refusal.Refusal.{Refusal}
use Rattle.mot_objects.specs.Carousel.{Object}
use Rattle.mot_objects.specs.declared.command.Command.{Command}
use Rattle.mot_repository.specs.Repository.{RepositoryView}
use Rattle.mot_update.specs.HasRun.{marks_of_settling}
use Rattle.mot_update.specs.Told.{AreAttemptsOf, answers_of, commands_of}
use Rattle.mot_update.specs.Updating.{settling}
use Rattle.mot_update.specs.declared.settling.Need.{Need}
use Rattle.mot_update.specs.declared.settling.Need.TheVariants as need
use Rattle.mot_update.specs.declared.settling.SettleOutcome.{SettleOutcome}
use Rattle.mot_objects.specs.declared.command.Item.{Item}

-- whether a command is needed
abbrev pub is_command : Result Need Refusal → Bool
is_command (Ok need.Nothing) = false
is_command (Ok need.Put) = true
is_command (Ok need.Replace) = true
is_command (Err refusal) = false

-- a gap holds so many bytes
abbrev pub HasGapFor : RepositoryView → ℕ → Type 0
HasGapFor view n =
    (gap : ℕ) → IsLongestGap view.extents view.journal.geometry.area gap → n ≤ gap

-- the object comes into the carousel: a command is needed, and there is room for what it brings
abbrev pub HasRoomFor : RepositoryView → Need → Item → Type 0
HasRoomFor view need.Nothing w = ⊥
HasRoomFor view need.Put w =
    (length view.carousel.objects.items < view.journal.geometry.objects)
    × HasGapFor view (length w.body)
HasRoomFor view need.Replace w = HasGapFor view (length w.body)

-- what was given
abbrev pub given_if : Result (Option SettleOutcome) Refusal → Item → List Item
given_if (Ok None) w = []
given_if (Ok (Some settled)) w = w ∷ []
given_if (Err refusal) w = w ∷ []

-- what was to be done for it, and the marks of what was answered
abbrev pub commands_if : Result (Option SettleOutcome) Refusal → List Object → Item → List Command
commands_if (Ok None) objects w = []
commands_if (Ok (Some settled)) objects w = settling objects w
commands_if (Err refusal) objects w = settling objects w

abbrev pub marks_if : Result (Option SettleOutcome) Refusal → List Bool
marks_if (Ok None) = []
marks_if (Ok (Some settled)) = marks_of_settling (Ok settled)
marks_if (Err refusal) = []

-- what was done is what was to be done, and its ids and its refusal are the command's
abbrev pub IsDoneRightly : Layout → Standing → Item → Result (Option SettleOutcome) Refusal → Type 0
IsDoneRightly layout s w (Ok None) = ⊤
IsDoneRightly layout s w (Ok (Some settled)) =
    (settling s.carousel.objects w ≡ commands_of settled w)
    × AreAttemptsOf layout s (settling s.carousel.objects w) (answers_of w.name settled)
IsDoneRightly layout s w (Err refusal) = ⊤
