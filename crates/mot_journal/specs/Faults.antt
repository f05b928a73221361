-- What is wrong with the bytes of a disk that stands for nothing: with its head, with a field of a
-- slot, or with a record after those before it (own format).
use Rattle.std.specs.Prelude.{◌≡◌, ◌≢◌, ◌⊎◌, ℕ, ◌+◌, ◌<◌, true, false, List, length, take, drop}
use Rattle.std.specs.Prelude.{map, Some, None}
use Rattle.std.specs.Option.{option_map_or}
use Rattle.mot_journal.specs.Catalogue.{Placed, Catalogue, objects_after, are_all_apart}
use Rattle.mot_journal.specs.Geometry.{has_magic, head_numbers, number_at}
use Rattle.mot_journal.specs.Slot.{kind_base, longest_name, short_text_in}
use Rattle.mot_journal.specs.declared.layout.Layout.{Layout}
use Rattle.mot_journal.specs.declared.reason.FieldFault.{FieldFault}
use Rattle.mot_journal.specs.declared.reason.FieldFault.TheVariants.{Directory, Last, Kind, Object}
use Rattle.mot_journal.specs.declared.reason.FieldFault.TheVariants.{Content, Length, Extent, Name}
use Rattle.mot_journal.specs.declared.reason.FieldFault.TheVariants.{Mime}
use Rattle.mot_journal.specs.declared.reason.HeadFault.{HeadFault}
use Rattle.mot_journal.specs.declared.reason.HeadFault.TheVariants.{Short, Foreign, OutOfRange, Cut}
use Rattle.mot_journal.specs.declared.reason.ListFault.{ListFault}
use Rattle.mot_journal.specs.declared.reason.ListFault.TheVariants.{Missing, TooMany, SameId}
use Rattle.mot_journal.specs.declared.reason.ListFault.TheVariants.{DirectoryId, Meets}
use Rattle.mot_journal.specs.declared.reason.Size.{Size}
use Rattle.mot_journal.specs.declared.reason.Size.TheVariants.{Objects, Segment, Address, Packet}
use Rattle.mot_journal.specs.declared.reason.Size.TheVariants.{Data}
use Rattle.mot_journal.specs.declared.record.Action.{Action}
use Rattle.mot_journal.specs.declared.record.Action.TheVariants.{Set, Remove}
use Rattle.mot_journal.specs.declared.record.Record.{Record}
use Rattle.mot_numbers.specs.Geometry.{length_of}
use Rattle.mot_numbers.specs.declared.geometry.Geometry.{Geometry}
use Rattle.mot_numbers.specs.declared.geometry.TheConstants.{MAX_OBJECTS, MAX_DATA_AREA}
use Rattle.mot_numbers.specs.declared.numbers.TheConstants.{MAX_ADDRESS, MIN_SEGMENT, MAX_SEGMENT}
use Rattle.mot_objects.specs.Ids.{contains, is_distinct}
use Rattle.mot_objects.specs.Name.{is_mime, is_name}
use Rattle.mot_objects.specs.declared.body.TheConstants.{MAX_BODY}
use Rattle.mot_objects.specs.declared.content.TheConstants.{MAX_SUBTYPE, MAX_TYPE}

-- a number is below the one, or above the other
abbrev pub IsOutside : ℕ → ℕ → ℕ → Type 0
IsOutside low high n = (n < low) ⊎ (high < n)

abbrev pub number_of : Size → Geometry → ℕ
number_of Objects g = g.objects
number_of Segment g = g.segment
number_of Address g = g.address
number_of Packet g = g.packet
number_of Data g = g.area

abbrev pub IsOutOfRange : Size → ℕ → Type 0
IsOutOfRange Objects n = IsOutside 1 MAX_OBJECTS n
IsOutOfRange Segment n = IsOutside MIN_SEGMENT MAX_SEGMENT n
IsOutOfRange Address n = IsOutside 1 MAX_ADDRESS n
IsOutOfRange Packet n = (n ≢ 24) × (n ≢ 48) × (n ≢ 72) × (n ≢ 96)
IsOutOfRange Data n = IsOutside 1 MAX_DATA_AREA n

-- The head is too short, or has not the magic; or it has, and gives these numbers, and the fault is
-- one of them, or of the length of the disk.
abbrev pub HasHeadFault : List ℕ → HeadFault → Type 0
HasHeadFault image (Short len) = (len ≡ length image) × (len < 64)
HasHeadFault image Foreign = has_magic image ≡ false
HasHeadFault image (OutOfRange size number) =
    (has_magic image ≡ true) × ((g : Geometry) × (head_numbers image ≡ Some g)
    × (number ≡ number_of size g) × IsOutOfRange size number)
HasHeadFault image (Cut len asked) =
    (has_magic image ≡ true) × ((g : Geometry) × (head_numbers image ≡ Some g)
    × (len ≡ length image) × (asked ≡ length_of g) × (len < asked))

-- the slot is of this kind: 1 nothing, 2 set an object, 3 remove one
abbrev pub IsOfKind : Layout → ℕ → List ℕ → Type 0
IsOfKind layout kind slot = number_at 1 1 slot ≡ kind_base layout + kind

-- the fault is one of this slot, of a disk of this geometry
abbrev pub HasFieldFault : Geometry → Layout → List ℕ → FieldFault → Type 0
HasFieldFault g layout slot Directory = number_at 5 2 slot ≡ 0
HasFieldFault g layout slot Last = number_at 7 2 slot ≡ 0
HasFieldFault g layout slot (Kind other kind) =
    (other ≡ layout) × (kind ≡ number_at 1 1 slot)
    × IsOutside (kind_base layout + 1) (kind_base layout + 3) kind
HasFieldFault g layout slot Object =
    (IsOfKind layout 2 slot ⊎ IsOfKind layout 3 slot) × (number_at 9 2 slot ≡ 0)
HasFieldFault g layout slot (Content type subtype) =
    IsOfKind layout 2 slot × (type ≡ number_at 12 1 slot) × (subtype ≡ number_at 13 2 slot)
    × ((MAX_TYPE < type) ⊎ (MAX_SUBTYPE < subtype))
HasFieldFault g layout slot (Length size) =
    IsOfKind layout 2 slot × (size ≡ number_at 19 4 slot) × IsOutside 1 MAX_BODY size
HasFieldFault g layout slot (Extent end area) =
    IsOfKind layout 2 slot × (end ≡ number_at 15 4 slot + number_at 19 4 slot)
    × (area ≡ g.area) × (area < end)
HasFieldFault g layout slot (Name size) =
    IsOfKind layout 2 slot × (size ≡ number_at 23 1 slot)
    × (is_name (longest_name layout) (take size (drop 24 slot)) ≡ false)
HasFieldFault g layout slot (Mime size) =
    let texts = drop (number_at 23 1 slot) (drop 24 slot) in
    IsOfKind layout 2 slot × (size ≡ number_at 0 1 texts)
    × (option_map_or is_mime (short_text_in texts) true ≡ false)

-- the action sets an object of this id
abbrev pub Sets : Action → ℕ → Type 0
Sets (Set tid version content start size name mime) id = tid ≡ id
Sets _ id = ⊥

abbrev pub tids_of : List Placed → List ℕ
tids_of objects = map (λ (p : Placed). p.object.tid) objects

-- An action makes the fault after these objects, of a disk for so many: it removes none of them; it
-- sets one too many; or it sets one that has the id of another, or a body that meets another.
abbrev pub HasActionFault : ℕ → List Placed → Action → ListFault → Type 0
HasActionFault limit objects action (Missing id) =
    (action ≡ Remove id) × (objects_after limit objects action ≡ None)
HasActionFault limit objects action (TooMany most) =
    (most ≡ limit) × ((id : ℕ) × Sets action id) × (objects_after limit objects action ≡ None)
HasActionFault limit objects action (SameId id) =
    Sets action id × ((next : List Placed) × (objects_after limit objects action ≡ Some next)
    × (is_distinct (tids_of next) ≡ false))
HasActionFault limit objects action (Meets id) =
    Sets action id × ((next : List Placed) × (objects_after limit objects action ≡ Some next)
    × (are_all_apart next ≡ false))
HasActionFault limit objects action (DirectoryId id) = ⊥

-- the record makes the fault after the catalogue of those before it, of a disk for so many objects
abbrev pub HasListFault : ℕ → Catalogue → Record → ListFault → Type 0
HasListFault limit c r (DirectoryId id) =
    (id ≡ r.directory) × ((next : List Placed) × (objects_after limit c.objects r.action ≡ Some next)
    × (contains (tids_of next) id ≡ true))
HasListFault limit c r fault = HasActionFault limit c.objects r.action fault
