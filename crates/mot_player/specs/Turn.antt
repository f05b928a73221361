-- One playing of a carousel, from its directory to its last body.
use Rattle.std.specs.Prelude.{◌≡◌, ℕ, ◌*◌, ◌^◌, ◌<◌, ◌≤◌, List, ◌++◌, length, map, flat_map, All}
use Rattle.std.specs.Prelude.{Some, [], slice_index_or, Result, OnOk, OnErr, IfErr, ◌==◌, true}
use Rattle.std.specs.Prelude.{false, ◌∷◌}
use Rattle.mot_directory.specs.Directory.{bytes_of_directory, read_directory}
use Rattle.mot_directory.specs.Entries.{directory_of}
use Rattle.mot_groups.specs.Entity.{segments_of}
use Rattle.mot_groups.specs.Group.{Segment}
use Rattle.mot_objects.specs.Carousel.{Object, Carousel}
use Rattle.disk_model.specs.Disk.{Rises}
use Rattle.mot_numbers.specs.declared.refusal.Refusal.{Refusal}
use Rattle.mot_numbers.specs.declared.refusal.Refusal.TheVariants.{DeviceFault}
use Rattle.mot_objects.specs.Ids.{is_distinct}

-- the directory's transport id and bytes, and each body behind its transport id
pub record Turn : Type 0 where
  pub tid : ℕ
  pub directory : List ℕ
  pub bodies : List (ℕ × List ℕ)

-- the bodies of objects, each behind its transport id
abbrev pub bodies_with_ids : List Object → List (ℕ × List ℕ)
bodies_with_ids objects = map (λ (o : Object). (o.tid, o.body)) objects

-- the directory reads as the carousel's, and the bodies are its bodies in order
pub record IsTurnOf (turn : Turn) (c : Carousel) (size : ℕ) : Type 0 where
  pub tid : turn.tid ≡ c.directory
  pub directory : read_directory turn.directory ≡ Some (directory_of c size)
  pub bodies : turn.bodies ≡ bodies_with_ids c.objects

-- the turn of a carousel with the one list of bytes that its directory is written as
abbrev pub turn_of_carousel : Carousel → ℕ → Turn
turn_of_carousel c size = record {
  tid = c.directory;
  directory = bytes_of_directory (directory_of c size);
  bodies = bodies_with_ids c.objects;
}

-- the segments of bodies, each body's in order
abbrev pub segments_of_bodies : ℕ → List (ℕ × List ℕ) → List Segment
segments_of_bodies size bodies = flat_map (λ (b : ℕ × List ℕ). segments_of 4 b.0 size b.1) bodies

-- the segments of a turn: the directory's, and then each body's (own order)
abbrev pub segments_of_turn : Turn → ℕ → List Segment
segments_of_turn turn size =
    segments_of 6 turn.tid size turn.directory ++ segments_of_bodies size turn.bodies

-- an entity that is not empty and whose segments a segment number can count
pub record IsSendable (size : ℕ) (bytes : List ℕ) : Type 0 where
  pub some : 0 < length bytes
  pub numbered : length bytes ≤ 2 ^ 15 * size

-- a turn whose entities can all be sent in segments of this size
pub record IsPlayable (turn : Turn) (size : ℕ) : Type 0 where
  pub directory : IsSendable size turn.directory
  pub bodies : All (λ (b : ℕ × List ℕ). IsSendable size b.1) turn.bodies

-- The bodies that a player reads.

-- the body at a place; no bytes past the last
abbrev pub body_at : List (List ℕ) → ℕ → List ℕ
body_at bodies k = slice_index_or bodies k []

-- A call only reads of the bodies, and is refused where a read failed. What the bodies are, whether
-- they are honest, how often a read has failed, and what reads leave as it was is told by the trait
-- `Bodies`.
pub record ReadsBodies {B T : Type 0} (bodies : B → List (List ℕ)) (IsHonest : B → Type 0)
    (failures : B → ℕ) (HasOnlyRead : B → B → Type 0) (old new : B)
    (result : Result T Refusal) : Type 0 where
  pub lengths : map length (bodies new) ≡ map length (bodies old)
  pub unchanged : IsHonest old → bodies new ≡ bodies old
  pub was_honest : IsHonest new → IsHonest old
  pub only_read : HasOnlyRead old new
  pub failed : OnErr result (Rises (failures old) (failures new))
  pub no_fault : OnOk result (failures new ≡ failures old)
  pub refused : IfErr result (λ refusal. refusal ≡ DeviceFault)

-- Which turns a player can follow: one change at a time, as a command makes it.

-- the new bodies are the old ones; or one was put behind them, one came in the place of another,
-- with another id, or one is gone
pub data IsOneChange (old new : List (ℕ × List ℕ)) : Type 0 where
  same : new ≡ old → IsOneChange old new
  put : (fresh : ℕ × List ℕ) → new ≡ old ++ fresh ∷ [] → IsOneChange old new
  replaced : (before after : List (ℕ × List ℕ)) (gone fresh : ℕ × List ℕ)
      → old ≡ before ++ gone ∷ after → new ≡ before ++ fresh ∷ after
      → (gone.0 == fresh.0) ≡ false → IsOneChange old new
  withdrawn : (before after : List (ℕ × List ℕ)) (gone : ℕ × List ℕ)
      → old ≡ before ++ gone ∷ after → new ≡ before ++ after → IsOneChange old new

-- and no two of the old ones have one id
pub record IsFollowable (old new : Turn) : Type 0 where
  pub change : IsOneChange old.bodies new.bodies
  pub distinct : is_distinct (map (λ (b : ℕ × List ℕ). b.0) old.bodies) ≡ true
