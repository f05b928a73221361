-- What records without faults make.
use Rattle.std.specs.Prelude.{◌≡◌, ℕ, ◌≤◌, true, List, length, map}
use Rattle.std.specs.List.{AllByRecursion}
use Rattle.mot_journal.specs.declared.layout.Layout.{Layout}
use Rattle.mot_journal.specs.declared.record.Action.{Action}
use Rattle.mot_journal.specs.declared.record.Action.TheVariants.{Set}
use Rattle.mot_journal.specs.Slot.{is_sound_action}
use Rattle.mot_journal.specs.Catalogue.{Placed, Catalogue, is_consistent}
use Rattle.mot_numbers.specs.declared.geometry.Geometry.{Geometry}
use Rattle.mot_objects.specs.Carousel.{are_names_distinct}

abbrev pub placed_names : List Placed → List (List ℕ)
placed_names objects = map (λ (p : Placed). p.object.name) objects

abbrev pub placed_tids : List Placed → List ℕ
placed_tids objects = map (λ (p : Placed). p.object.tid) objects

-- no fault of the list, names that differ, and at most the limit
pub record IsGood (limit : ℕ) (c : Catalogue) : Type 0 where
  pub consistent : is_consistent c ≡ true
  pub names : are_names_distinct (placed_names c.objects) ≡ true
  pub few : length c.objects ≤ limit

abbrev pub set_of : Placed → Action
set_of p =
    Set p.object.tid p.object.version p.object.content p.start p.object.length p.object.name
    p.object.mime

-- an object without a fault of fields
abbrev pub IsSoundPlaced : Geometry → Layout → Placed → Type 0
IsSoundPlaced g layout p = (is_sound_action g layout (set_of p) ≡ true) × (p.object.tid ≤ 65535)

-- a catalogue without a fault of fields or of the list
pub record IsWhole (g : Geometry) (layout : Layout) (c : Catalogue) : Type 0 where
  pub good : IsGood g.objects c
  pub directory : (1 ≤ c.directory) × (c.directory ≤ 65535)
  pub cursor : (1 ≤ c.cursor) × (c.cursor ≤ 65535)
  pub each : AllByRecursion (IsSoundPlaced g layout) c.objects
