-- The laws that join the carousel's rules to the records on the disk.
use Rattle.std.specs.Prelude.{◌≡◌, ℕ, ◌+◌, ◌<◌, ◌≤◌, All, true, List, [], ◌∷◌, ◌++◌, length, map}
use Rattle.std.specs.Prelude.{slice_range, bytes_eq, Option, Some, None, Ok, if◌then◌else◌}
use Rattle.std.specs.List.{AllByRecursion}
use Rattle.mot_journal.specs.declared.record.Record.{Record}
use Rattle.mot_journal.specs.declared.record.Action.{Action}
use Rattle.mot_journal.specs.declared.record.Action.TheVariants.{Nothing, Set, Remove}
use Rattle.mot_journal.specs.Image.{catalogue_of}
use Rattle.mot_journal.specs.Catalogue.{Placed, Catalogue, catalogue_after}
use Rattle.mot_journal.specs.Catalogue.{carousel_in, extents_of, is_consistent}
use Rattle.mot_journal.specs.Image.{Standing, stands_for}
use Rattle.mot_numbers.specs.declared.geometry.TheConstants.{MAX_OBJECTS}
use Rattle.mot_objects.specs.declared.command.Command.{Command}
use Rattle.mot_objects.specs.declared.command.Command.TheVariants.{Put, Replace, Withdraw, Period}
use Rattle.mot_objects.specs.declared.command.Done.{Done}
use Rattle.mot_objects.specs.Carousel.{Object, Carousel, change, has_name, IsSound}
use Rattle.mot_carousel.specs.Gap.{is_free}
use Rattle.mot_repository.specs.Records.{records_of_catalogue}

abbrev pub extent_of : Placed → ℕ × ℕ
extent_of p = (p.start, p.object.length)

-- the extents, with this one for the object of this name
abbrev pub extents_with : List ℕ → ℕ × ℕ → List Placed → List (ℕ × ℕ)
extents_with name extent [] = []
extents_with name extent (p ∷ objects) =
    if bytes_eq p.object.name name then extent ∷ map extent_of objects
    else extent_of p ∷ extents_with name extent objects

-- the extents without that of the object of this name
abbrev pub extents_without : List ℕ → List Placed → List (ℕ × ℕ)
extents_without name [] = []
extents_without name (p ∷ objects) =
    if bytes_eq p.object.name name then map extent_of objects
    else extent_of p ∷ extents_without name objects

-- the extents after an accepted command whose body, if it brings one, begins here
abbrev pub placed_extents_after : List Placed → Command → ℕ → List (ℕ × ℕ)
placed_extents_after objects (Put name content mime body) start =
    map extent_of objects ++ (start, length body) ∷ []
placed_extents_after objects (Replace name content mime body) start =
    extents_with name (start, length body) objects
placed_extents_after objects (Withdraw name) start = extents_without name objects
placed_extents_after objects (Period period) start = map extent_of objects

-- the first object of this name
abbrev pub object_named : List ℕ → List Object → Option Object
object_named name [] = None
object_named name (o ∷ objects) = if has_name name o then Some o else object_named name objects

-- what is written of the object of this name, whose body lies here
abbrev pub set_action : ℕ → ℕ → Option Object → Action
set_action start size None = Nothing
set_action start size (Some o) = Set o.tid o.version o.content start size o.name o.mime

abbrev pub remove_action : Option Object → Action
remove_action None = Nothing
remove_action (Some o) = Remove o.tid

abbrev pub action_of : Carousel → Carousel → Command → ℕ → Action
action_of old next (Put name content mime body) start =
    set_action start (length body) (object_named name next.objects)
action_of old next (Replace name content mime body) start =
    set_action start (length body) (object_named name next.objects)
action_of old next (Withdraw name) start = remove_action (object_named name old.objects)
action_of old next (Period period) start = Nothing

-- the record of an accepted command: the carousel's numbers after it, and what it did
abbrev pub record_of : Carousel → Carousel → Command → ℕ → Record
record_of old next command start = record {
  period = next.period;
  directory = next.directory;
  cursor = next.cursor;
  action = action_of old next command start;
}

-- the command's body, if it brings one, lies in the area from this start on and meets no extent
abbrev pub IsPlaced : List ℕ → List (ℕ × ℕ) → Command → ℕ → Type 0
IsPlaced area extents (Put name content mime body) start =
    (slice_range area start (start + length body) ≡ body)
    × (is_free extents (length body) start ≡ true)
IsPlaced area extents (Replace name content mime body) start =
    (slice_range area start (start + length body) ≡ body)
    × (is_free extents (length body) start ≡ true)
IsPlaced area extents (Withdraw name) start = Unit {0}
IsPlaced area extents (Period period) start = Unit {0}

-- The record of an accepted command makes of the catalogue what the command makes of the carousel,
-- and the extents of all other objects stay.
abbrev pub RecordsFollowCommands : Type 0
RecordsFollowCommands =
    (limit start : ℕ) (area : List ℕ) (c : Catalogue) (next : Carousel)
    (command : Command) (done : Done)
    → limit ≤ MAX_OBJECTS → is_consistent c ≡ true → IsSound (carousel_in area c)
    → change (carousel_in area c) limit command ≡ Ok (next, done)
    → IsPlaced area (extents_of c) command start
    → (after : Catalogue)
    × (catalogue_after limit c (record_of (carousel_in area c) next command start) ≡ Some after)
    × (carousel_in area after ≡ next)
    × (extents_of after ≡ placed_extents_after c.objects command start)

-- The records that a full half is rewritten to, or that it is migrated to, fold to the catalogue
-- that they are of.
abbrev pub RewritingKeepsTheCatalogue : Type 0
RewritingKeepsTheCatalogue =
    (limit : ℕ) (records : List Record) (c : Catalogue) → catalogue_of limit records ≡ Ok c
    → catalogue_of limit (records_of_catalogue c) ≡ Ok c

-- What an image of bytes stands for is a sound carousel of at most as many objects as the geometry
-- has, whose bodies have at least one byte and lie in the data area.
abbrev pub StandingsAreSound : Type 0
StandingsAreSound =
    (image : List ℕ) (s : Standing) → All (λ b. b < 256) image → stands_for image ≡ Ok s
    → IsSound s.carousel × (length s.carousel.objects ≤ s.geometry.objects)
    × AllByRecursion (λ (e : ℕ × ℕ). (1 ≤ e.1) × (e.0 + e.1 ≤ s.geometry.area)) s.extents
