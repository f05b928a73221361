-- What the code that folds records says of a record that makes a fault of the list.
use Rattle.std.specs.Prelude.{◌≡◌, ℕ, false, List, map, Some, None}
use Rattle.mot_journal.specs.Catalogue.{Placed, are_all_apart}
use Rattle.mot_journal.specs.Faults.{tids_of}
use Rattle.mot_journal.specs.Reason.{BreaksList}
use Rattle.mot_journal.specs.declared.reason.ListFault.{ListFault}
use Rattle.mot_journal.specs.declared.reason.ListFault.TheVariants.{TooMany, SameId, Meets}
use Rattle.mot_journal.specs.declared.reason.Reason.{Reason}
use Rattle.mot_journal.specs.declared.reason.Reason.TheVariants.{List as InList}
use Rattle.mot_journal.specs.declared.record.Record.{Record}
use Rattle.mot_objects.specs.Ids.{is_distinct}
use Rattle.mot_objects.specs.declared.object.Object.{Object}
use Rattle.mot_repository.specs.Inner.Fold.{are_extents_apart, objects_set}

-- the object of this id has that of another, or a body that meets another
abbrev pub IsClash : ℕ → List Object → List (ℕ × ℕ) → ListFault → Type 0
IsClash id objects extents (SameId n) =
    (n ≡ id) × (is_distinct (map (λ (o : Object). o.tid) objects) ≡ false)
IsClash id objects extents (Meets n) = (n ≡ id) × (are_extents_apart extents ≡ false)
IsClash id objects extents _ = ⊥

-- an object set among these makes the fault
abbrev pub HasSettingFault : ℕ → Placed → List Placed → ListFault → Type 0
HasSettingFault limit p objects (TooMany most) =
    (most ≡ limit) × (objects_set limit p objects ≡ None)
HasSettingFault limit p objects (SameId id) =
    (id ≡ p.object.tid) × ((next : List Placed) × (objects_set limit p objects ≡ Some next)
    × (is_distinct (tids_of next) ≡ false))
HasSettingFault limit p objects (Meets id) =
    (id ≡ p.object.tid) × ((next : List Placed) × (objects_set limit p objects ≡ Some next)
    × (are_all_apart next ≡ false))
HasSettingFault limit p objects _ = ⊥

-- one of these records makes a fault of the list
abbrev pub IsFoldReason : ℕ → List Record → Reason → Type 0
IsFoldReason limit records (InList number fault) = BreaksList limit records number fault
IsFoldReason limit records _ = ⊥
