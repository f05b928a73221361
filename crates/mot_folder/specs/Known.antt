-- What looks know of files that they need not read again.
use Rattle.std.specs.Prelude.{◌≡◌, ◌⊎◌, ◌&&◌, ℕ, Bool, true, List, [], ◌∷◌, bytes_eq, nat_eq, ⊤}
use Rattle.std.specs.List.{AllByRecursion, list_any}
use Rattle.mot_files.specs.declared.system.Stamp.{Stamp}
use Rattle.mot_folder.specs.declared.known.Known.{Known}
use Rattle.mot_objects.specs.Carousel.{Carousel, Object}
use Rattle.mot_shelf.specs.Given.{Given}
use Rattle.mot_update.specs.Told.{Answer, Put, Replaced, Withdrew, was_accepted}

-- it is one of these
abbrev pub Among : {X : Type 0} → List X → X → Type 0
Among [] x = ⊥
Among (y ∷ ys) x = (x ≡ y) ⊎ Among ys x

-- the carousel has the object that is known of a file: one of its name, its id and its version
abbrev pub is_it : Known → Object → Bool
is_it k o = bytes_eq o.name k.name && (nat_eq o.tid k.tid && nat_eq o.version k.version)

abbrev pub has_it : Carousel → Known → Bool
has_it c k = list_any (is_it k) c.objects

-- A file that a look passed over, with the stamp that it had when the look listed it: it is known with
-- that stamp, and the carousel has its object. One that changed after that is found by the next look
-- at the latest.
abbrev pub IsPassedOver : List Known → Carousel → List ℕ × Stamp → Type 0
IsPassedOver known c file = (k : Known) × Among known k × (k.name ≡ file.0) × (k.stamp ≡ file.1)
    × (has_it c k ≡ true)

-- no put or replacement of the object of this name was refused
abbrev pub IsFineFor : List ℕ → Answer → Type 0
IsFineFor name (Withdrew other came) = ⊤
IsFineFor name (Put other came) = other ≡ name → was_accepted came ≡ true
IsFineFor name (Replaced other came) = other ≡ name → was_accepted came ≡ true

-- Why a file is known behind a look: it was before. Or the look read it, with the stamp that it had
-- before that; nothing that it did for its object was refused; and the carousel has that object
-- behind the look.
pub data ComesFrom (known : List Known) (given : Given) (answers : List Answer) (last : Carousel)
    (k : Known) : Type 0 where
  was_known : Among known k → ComesFrom known given answers last k
  was_read : (bytes : List ℕ) → Among given.read (k.name, bytes)
      → Among given.stamped (k.name, k.stamp) → AllByRecursion (IsFineFor k.name) answers
      → has_it last k ≡ true → ComesFrom known given answers last k
