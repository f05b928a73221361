-- What becomes of a disk from its formatting on, in the words of commands and of a receiver alone.
use Rattle.std.specs.Prelude.{⊤, ◌≡◌, ◌⊎◌, ◌≤◌, ◌<◌, ◌+◌, ◌%◌, ℕ, Bool, true, false, List, [], ◌∷◌}
use Rattle.std.specs.Prelude.{◌++◌, length, take, Some, None}
use Rattle.std.specs.List.{flat_map}
use Rattle.disk_model.specs.Disk.{State}
use Rattle.mot_journal.specs.Geometry.{has_magic}
use Rattle.mot_journal.specs.Making.{IsFormatRefusal}
use Rattle.mot_numbers.specs.declared.geometry.Geometry.{Geometry}
use Rattle.mot_numbers.specs.declared.refusal.Refusal.{Refusal}
use Rattle.mot_objects.specs.declared.command.Command.{Command}
use Rattle.mot_objects.specs.declared.command.Command.TheVariants.{Put, Replace, Withdraw, Period}
use Rattle.mot_objects.specs.Carousel.{Carousel, Object, carousel_after, carousel_if_accepted}
use Rattle.mot_objects.specs.Carousel.{change}
use Rattle.mot_packets.specs.Packet.{PacketFields, read_packet}
use Rattle.mot_player.specs.Reading.{ReadsAs}
use Rattle.mot_repository.specs.Opening.{IsPassing}

-- no image that a crash now may leave has the magic of a formatted disk
abbrev pub IsBlank : State → Type 0
IsBlank state = (image : List ℕ) → state.MayLeave image → has_magic image ≡ false

-- the carousel of a new disk, whose directory has this transport id
abbrev pub carousel_from : ℕ → Carousel
carousel_from id = record { period = 0; directory = id; cursor = id; objects = [] }

-- the packets have the geometry's address, at most its length, and continuity indexes that count
-- modulo 4 from this one on (EN 300 401, clause 5.3.2)
abbrev pub AreNumbered : Geometry → ℕ → List (List ℕ) → Type 0
AreNumbered g index [] = ⊤
AreNumbered g index (packet ∷ packets) = (p : PacketFields) × (read_packet packet ≡ Some p)
    × (p.address ≡ g.address) × (p.index ≡ index) × (p.room + 5 ≤ g.packet)
    × AreNumbered g ((index + 1) % 4) packets

-- The packets of a turn read as exactly the carousel that all of the sure commands and a beginning
-- of the others make of the new one, each accepted where it stands; and they are numbered.
pub record PlaysAfter (g : Geometry) (first : ℕ) (sure others : List Command)
    (packets : List (List ℕ)) : Type 0 where
  pub count : ℕ
  pub few : count ≤ length others
  pub carousel : Carousel
  pub after : carousel_after (carousel_from first) g.objects (sure ++ take count others)
      ≡ Some carousel
  pub reads : ReadsAs packets carousel g.segment
  pub numbered : AreNumbered g 0 packets

-- There may be no gap for a body: with as many bytes as it has in front of each object's, and
-- itself, the data area is more than full.
abbrev pub MayLackRoom : ℕ → List Object → List ℕ → Type 0
MayLackRoom area objects body =
    area < length (flat_map (λ (o : Object). body ++ o.body) objects ++ body)

-- there may be no room for what a command brings
abbrev pub LacksRoom : ℕ → List Object → Command → Type 0
LacksRoom area objects (Put name content mime body) = MayLackRoom area objects body
LacksRoom area objects (Replace name content mime body) = MayLackRoom area objects body
LacksRoom area objects (Withdraw name) = ⊥
LacksRoom area objects (Period period) = ⊥

-- Each mark is right where it stands: true where the carousel accepts the command, and goes on from
-- what it makes; false where the rules refuse it, or where there may be no room for what it brings.
abbrev pub AreMarksOf : Geometry → Carousel → List Command → List Bool → Type 0
AreMarksOf g c commands [] = ⊤
AreMarksOf g c [] (mark ∷ marks) = ⊥
AreMarksOf g c (command ∷ commands) (true ∷ marks) =
    (next : Carousel) × (carousel_if_accepted (change c g.objects command) ≡ Some next)
    × AreMarksOf g next commands marks
AreMarksOf g c (command ∷ commands) (false ∷ marks) =
    ((carousel_if_accepted (change c g.objects command) ≡ None)
    ⊎ LacksRoom g.area c.objects command) × AreMarksOf g c commands marks

-- why no new disk of this geometry was made and opened, where the disk is honest
abbrev pub IsUnmade : Geometry → State → State → Refusal → Type 0
IsUnmade g old new refusal = IsFormatRefusal g old new refusal ⊎ IsPassing old new refusal
