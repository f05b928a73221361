-- A command on the server of a disk that it opens.
use Rattle.std.specs.Prelude.{ℕ, List, ◌≡◌, Ok, IsOk}
use Rattle.disk_model.specs.Disk.{State, IsStill}
use Rattle.mot_journal.specs.Image.{Standing, stands_for}
use Rattle.mot_numbers.specs.Geometry.{packet_room}
use Rattle.mot_numbers.specs.Refusal.{IsCalm}
use Rattle.mot_numbers.specs.declared.refusal.Refusal.{Refusal}
use Rattle.mot_player.specs.Place.{Place, opened_place}
use Rattle.mot_player.specs.Turn.{turn_of_carousel}
use Rattle.mot_repository.specs.Opening.{IsOpeningRefusal}
use Rattle.mot_repository.specs.Repository.{IsOf}

-- In these the disk was in a state start and is in a state now.

-- where the disk's bytes stood for something, clean or not, and it is honest to the end, there is P
-- of that
abbrev pub OfStanding : (Standing → Type 0) → State → State → Type 0
OfStanding P start now =
    (s : Standing) → now.IsHonest → stands_for start.bytes ≡ Ok s → P s

-- the same where it stood for that clean: so does each image that a crash might have left of it
abbrev pub OfClean : (Standing → Type 0) → State → State → Type 0
OfClean P start now =
    (s : Standing) → now.IsHonest → ((image : List ℕ) → start.MayLeave image → IsOf s image) → P s

-- the disk's bytes stand for something, if it is honest to the end
abbrev pub IsOpenable : State → State → Type 0
IsOpenable start now = now.IsHonest → IsOk (stands_for start.bytes)

-- the disk was not opened, and only synced
pub record IsUnopened (refusal : Refusal) (start now : State) : Type 0 where
  pub why : IsOpeningRefusal start now refusal
  pub calm : IsCalm refusal start.failures now.failures
  pub still : now.IsHonest → IsStill start now

-- where a server begins to play that was just opened of a disk that stands for this
abbrev pub first_place : Standing → Place
first_place s =
    opened_place s.geometry.address (packet_room s.geometry) s.geometry.segment
    (turn_of_carousel s.carousel s.geometry.segment)
