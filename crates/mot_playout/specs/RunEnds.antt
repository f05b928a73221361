-- How a run of commands ends, and what it leaves.
use Rattle.std.specs.Prelude.{◌≡◌, ℕ, Bool, true, false, List, [], ◌∷◌, ◌++◌, Option, IsTrue}
use Rattle.std.specs.Prelude.{IsFalse, None, Some, ⊤, Ok, Err}
use Rattle.disk_model.specs.Disk.{State, Throughout, Rises}
use Rattle.mot_journal.specs.Image.{Standing}
use Rattle.mot_numbers.specs.declared.refusal.Refusal.{Refusal}
use Rattle.mot_numbers.specs.declared.refusal.Refusal.TheVariants.{OutOfMemory, DeviceFault, Halted}
use Rattle.mot_objects.specs.declared.command.Command.{Command}
use Rattle.mot_objects.specs.Carousel.{Carousel, carousel_if_accepted, change, AllKeepRules}
use Rattle.mot_player.specs.Place.{Place, change_turn, changed}
use Rattle.mot_player.specs.Turn.{turn_of_carousel}
use Rattle.mot_repository.specs.Repository.{RepositoryView, Agrees, Holds}
use Rattle.mot_playout.specs.Runs.{accepted_commands, commands_in_flight, IsAfter, StandsAfterSome}
use Rattle.std.specs.Option.{option_map_or}
use Rattle.mot_numbers.specs.Refusal.{is_device_fault}
use Rattle.mot_journal.specs.declared.layout.Layout.{Layout}
use Rattle.mot_journal.specs.declared.layout.Layout.TheVariants.{Two}
use Rattle.mot_objects.specs.declared.command.Done.{Done}
use Rattle.mot_repository.specs.Outcome.{after_command, has_long_name}

-- What the marks of a run say of its commands.

-- Each mark is right where it stands, behind those before it, and the last one leaves this. No name
-- is too long for layout 2.
abbrev pub AreMarks : Layout → Standing → List Command → List Bool → Standing → Type 0
AreMarks layout s commands [] last = last ≡ s
AreMarks layout s [] (mark ∷ marks) last = ⊥
AreMarks layout s (command ∷ commands) (true ∷ marks) last =
    (done : Done) × (next : Standing) × (after_command layout s command ≡ Ok (next, done))
    × AreMarks layout next commands marks last
AreMarks layout s (command ∷ commands) (false ∷ marks) last =
    (refusal : Refusal)
    × ((after_command layout s command ≡ Err refusal) × (has_long_name Two command ≡ false))
    × AreMarks layout s commands marks last

-- the refusals that end a run; every other one marks its command false
abbrev pub is_run_ending : Refusal → Bool
is_run_ending OutOfMemory = true
is_run_ending DeviceFault = true
is_run_ending Halted = true
is_run_ending refusal = false

-- what may end a run before its last command
pub data IsRunFault (old new : RepositoryView) (start now : State)
    (refusal : Refusal) : Type 0 where
  halted : IsTrue old.halted → refusal ≡ Halted → IsRunFault old new start now refusal
  no_memory : IsFalse old.halted → refusal ≡ OutOfMemory → IsRunFault old new start now refusal
  device : IsFalse old.halted → refusal ≡ DeviceFault → Rises start.failures now.failures
      → IsTrue new.halted → IsRunFault old new start now refusal

-- each carousel that accepted commands make on the way keeps the rules of its fields
abbrev pub RulesAlong : (limit : ℕ) → Carousel → List Command → Type 0
RulesAlong limit c [] = ⊤
RulesAlong limit c (command ∷ commands) =
    (next : Carousel) → carousel_if_accepted (change c limit command) ≡ Some next
    → AllKeepRules next × RulesAlong limit next commands

-- What a run of commands leaves that began where the disk and the repository stood for s.
pub record RunLeaves (old new : RepositoryView) (start now : State) (s : Standing)
    (commands : List Command) (marks : List Bool) (fault : Option Refusal) : Type 0 where
  -- what the accepted commands make of s
  pub last : Standing
  pub after : IsAfter s (accepted_commands commands marks) last
  pub marked : AreMarks old.journal.layout s commands marks last
  pub rules : RulesAlong s.geometry.objects s.carousel (accepted_commands commands marks)
  -- that is the carousel at the end
  pub agrees : Agrees new last
  -- where no device fault ended the run, the disk stands for it too
  pub going : option_map_or is_device_fault fault false ≡ false → Holds new last now
  -- At each moment since the start a crash leaves the carousel after a beginning of the accepted
  -- commands, or after all of them and the one in flight.
  pub any_moment : Throughout start now (StandsAfterSome s []
      (accepted_commands commands marks ++ commands_in_flight commands marks fault))
  -- Now it leaves one that holds each accepted command, and at most the one in flight besides.
  pub at_end : (image : List ℕ) → now.MayLeave image
      → StandsAfterSome s (accepted_commands commands marks)
      (commands_in_flight commands marks fault) image

-- where the player stands behind commands that are accepted, each where it stands, with so many
-- objects at most and segments of this size: the turn of each carousel comes behind the group under
-- way, and is followed or begins anew
abbrev pub place_after : (limit size : ℕ) → Carousel → List Command → Place → Place
place_after limit size c [] place = place
place_after limit size c (command ∷ commands) place =
    option_map_or (λ next.
    place_after limit size next commands (changed (turn_of_carousel next size) place))
    (carousel_if_accepted (change c limit command)) place

-- the same of what a disk stands for
abbrev pub place_behind : Standing → List Command → Place → Place
place_behind s commands place =
    place_after s.geometry.objects s.geometry.segment s.carousel commands place

-- where it stands, if it does not follow: the turn of the last carousel begins
abbrev pub place_anew : List Command → Standing → Place → Place
place_anew [] last place = place
place_anew (command ∷ commands) last place =
    change_turn (turn_of_carousel last.carousel last.geometry.segment) place

-- Where a player does not follow, only the last carousel's turn counts.
abbrev pub TurnsBeginAnew : Type 0
TurnsBeginAnew =
    (s last : Standing) (commands : List Command) (place : Place) → place.follows ≡ None
    → IsAfter s commands last → place_behind s commands place ≡ place_anew commands last place
