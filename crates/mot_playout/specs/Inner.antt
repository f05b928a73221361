use Rattle.std.specs.Prelude.{◌≡◌, ℕ, ◌+◌, ◌≤◌, List, ◌++◌, map, take, replicate, slice_range, refl}
use Rattle.std.specs.Prelude.{Option, None}
use Rattle.disk_model.specs.Disk.{State, KeepsLength, IsUnchanged}
use Rattle.mot_numbers.specs.Geometry.{area_start}
use Rattle.mot_numbers.specs.declared.geometry.Geometry.{Geometry}
use Rattle.mot_repository.specs.Repository.{RepositoryView}
use Rattle.mot_objects.specs.Stands.{AreBodiesOf, carousel_of, index_of}
use Rattle.mot_objects.specs.declared.command.Command.{Command}
use Rattle.mot_objects.specs.declared.command.Command.TheVariants.{Replace}
use Rattle.mot_objects.specs.declared.carousel.Carousel.{Carousel}
use Rattle.mot_player.specs.PlayerView.{AreBodiesFor, PlayerView, turn_with}
use Rattle.mot_player.specs.Turn.{IsTurnOf, turn_of_carousel}
use Rattle.std.proofs.Common.{le-add_right}
use Rattle.disk_model.proofs.Laws.{keeps_none, unchanged_none}

-- The bodies of a repository, as its disk gives them.

-- so many bytes: those that there are, and zeros behind them
abbrev pub filled_up : ℕ → List ℕ → List ℕ
filled_up n bytes = take n (bytes ++ replicate n 0)

-- the bytes of an extent of the data area; zeros for those that the image does not have
abbrev pub bytes_in : Geometry → List ℕ → ℕ × ℕ → List ℕ
bytes_in g image extent =
    let start = area_start g + extent.0 in
    filled_up extent.1 (slice_range image start (start + extent.1))

-- the bytes of each extent
abbrev pub bodies_on : Geometry → List (ℕ × ℕ) → List ℕ → List (List ℕ)
bodies_on g extents image = map (bytes_in g image) extents

-- At most one read of a body has come between: what is kept in memory stays, and on the disk
-- nothing changes.
pub record HasRead (old new : RepositoryView) (before now : State) : Type 0 where
  pub view : new ≡ old
  pub keeps : KeepsLength before now
  pub unchanged : before.IsHonest → IsUnchanged before now
  pub cost : now.calls ≤ before.calls + 1

-- What holds of a server's player between its calls.

-- whatever the bodies are, it plays the carousel with them, in segments of this size
pub record PlaysCarousel (carousel : Carousel) (size : ℕ) (player : PlayerView) : Type 0 where
  pub size_is : player.segment_size ≡ size
  pub sized : (bodies : List (List ℕ)) → AreBodiesOf carousel bodies
      → AreBodiesFor player.turn bodies
  pub turn_is : (bodies : List (List ℕ)) → AreBodiesOf carousel bodies
      → turn_with player.turn bodies ≡ turn_of_carousel (carousel_of carousel bodies) size
  pub is_turn : (bodies : List (List ℕ)) → AreBodiesOf carousel bodies
      → IsTurnOf (turn_with player.turn bodies) (carousel_of carousel bodies) size

-- where the object of a replace stands
abbrev pub replaced_in : Command → Carousel → Option ℕ
replaced_in (Replace name content mime body) next = index_of name next.objects.items
replaced_in command next = None

-- Where no read has come, all stays.

pub unread : (view : RepositoryView) (state : State) → HasRead view view state state
unread view state = record {
  view = refl;
  keeps = keeps_none state;
  unchanged = λ honest. unchanged_none state;
  cost = le-add_right state.calls 1;
}
