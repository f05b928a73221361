-- The words of the headline: which commands of a run were accepted, which one was in flight, and
-- what a carousel is after commands; and what contracts see of a server.
use Rattle.std.specs.Prelude.{◌≡◌, ℕ, ◌≤◌, Bool, true, false, List, [], ◌∷◌, ◌++◌, length, take}
use Rattle.std.specs.Prelude.{drop, Option, Some, if◌then◌else◌, map}
use Rattle.mot_journal.specs.Image.{Standing}
use Rattle.mot_numbers.specs.declared.refusal.Refusal.{Refusal}
use Rattle.mot_objects.specs.declared.command.Command.{Command}
use Rattle.mot_objects.specs.Carousel.{carousel_after, Carousel, Object}
use Rattle.mot_repository.specs.Repository.{IsOf, RepositoryView}
use Rattle.std.specs.Option.{option_map_or}
use Rattle.mot_numbers.specs.Refusal.{is_device_fault}
use Rattle.mot_journal.specs.Image as journal
use Rattle.mot_player.specs.Place.{Place}
use Rattle.mot_player.specs.PlayerView.{PlayerView, place_of}

-- the commands that were marked true
abbrev pub accepted_commands : List Command → List Bool → List Command
accepted_commands commands [] = []
accepted_commands [] (mark ∷ marks) = []
accepted_commands (command ∷ commands) (true ∷ marks) = command ∷ accepted_commands commands marks
accepted_commands (command ∷ commands) (false ∷ marks) = accepted_commands commands marks

-- where the run ended in a device fault, the one command after those that were marked
abbrev pub commands_in_flight : List Command → List Bool → Option Refusal → List Command
commands_in_flight commands marks fault =
    if option_map_or is_device_fault fault false then take 1 (drop (length marks) commands) else []

-- these commands, each accepted where it stands, make the one of the other
pub record IsAfter (s : Standing) (commands : List Command) (last : Standing) : Type 0 where
  pub geometry : last.geometry ≡ s.geometry
  pub carousel : carousel_after s.carousel s.geometry.objects commands ≡ Some last.carousel
  -- the bytes after the data area stay
  pub rest : last.rest ≡ s.rest

-- all of the sure commands and a beginning of the others make the one of the other
pub record IsAfterSome (s : Standing) (sure others : List Command) (last : Standing) : Type 0 where
  pub count : ℕ
  pub few : count ≤ length others
  pub after : IsAfter s (sure ++ take count others) last

-- the image is clean, and stands for what all of the sure commands and a beginning of the others
-- make
pub record StandsAfterSome (s : Standing) (sure others : List Command)
    (image : List ℕ) : Type 0 where
  pub last : Standing
  pub after : IsAfterSome s sure others last
  pub image_is : IsOf last image

-- What contracts see of a server.

-- what its repository keeps in memory, its disk, and where its player stands but for the bodies
pub record ServerView (D : Type 0) : Type 0 where
  pub view : RepositoryView
  pub disk : D
  pub player : PlayerView

abbrev pub bodies_of : Carousel → List (List ℕ)
bodies_of c = map (λ (o : Object). o.body) c.objects

-- where it stands in playing what the disk stands for
abbrev pub place_in : {D : Type 0} → ServerView D → journal.Standing → Place
place_in server s = place_of server.player (bodies_of s.carousel)
