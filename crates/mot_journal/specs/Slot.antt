-- A slot of the journal: a gate, and the record after it (own format).
use Rattle.std.specs.Prelude.{ℕ, ◌+◌, ◌*◌, ◌-◌, Bool, true, ◌&&◌, ◌==◌, nat_lt, nat_le}
use Rattle.std.specs.Prelude.{if◌then◌else◌, List, [], ◌∷◌, ◌++◌, length, take, drop, replicate}
use Rattle.std.specs.Prelude.{slice_index, Option, Some, None, ◌≡◌, All}
use Rattle.std.specs.Int.{w16, w32, to_be_bytes, bytes_high_first}
use Rattle.std.specs.Option.{option_map_or}
use Rattle.mot_journal.specs.declared.layout.Layout.{Layout}
use Rattle.mot_journal.specs.declared.layout.Layout.TheVariants.{One, Two}
use Rattle.mot_journal.specs.declared.record.Record.{Record}
use Rattle.mot_journal.specs.declared.record.Action.{Action}
use Rattle.mot_journal.specs.declared.record.Action.TheVariants.{Nothing, Set, Remove}
use Rattle.mot_journal.specs.Geometry.{columns}
use Rattle.mot_numbers.specs.Reading.{◌>>=◌}
use Rattle.mot_numbers.specs.declared.geometry.Geometry.{Geometry}
use Rattle.mot_numbers.specs.Geometry.{is_within}
use Rattle.mot_objects.specs.Name.{ContentNumbers, is_name, is_mime}
use Rattle.mot_objects.specs.declared.body.TheConstants.{MAX_BODY}
use Rattle.mot_objects.specs.declared.content.TheConstants.{MAX_SUBTYPE, MAX_TYPE}
use Rattle.mot_objects.specs.declared.name.TheConstants.{MAX_NAME}

abbrev pub slot_size : Layout → ℕ
slot_size One = 256
slot_size Two = 512

abbrev pub slot_count : Layout → Geometry → ℕ
slot_count One g = 2 * g.objects + 4
slot_count Two g = g.objects + 2

-- kinds are 1 nothing, 2 set object, 3 remove; in layout 2 they are 17, 18 and 19
abbrev pub kind_base : Layout → ℕ
kind_base One = 0
kind_base Two = 16

abbrev pub longest_name : Layout → ℕ
longest_name One = 100
longest_name Two = MAX_NAME

-- the value of an open gate; any other is closed
abbrev pub open_gate : ℕ
open_gate = 0xA5

abbrev pub is_open : List ℕ → Bool
is_open slot = slice_index slot 0 == open_gate

-- a half is of layout 2 where its slot 0 has an open gate and a kind of layout 2
abbrev pub layout_of : List ℕ → Layout
layout_of half = if is_open half && is_within 17 19 (slice_index half 1) then Two else One

-- a length, 0 for none, and the text
abbrev pub short_text_in : List ℕ → Option (List ℕ)
short_text_in bytes = let size = slice_index bytes 0 in if size == 0 then None
    else Some (take size (drop 1 bytes))

abbrev pub action_in : ℕ → ℕ → ℕ → ContentNumbers → ℕ → ℕ → ℕ → List ℕ → Option Action
action_in kind tid version content start size n texts =
    if kind == 1 then Some Nothing
    else if kind == 2
    then Some (Set tid version content start size (take n texts) (short_text_in (drop n texts)))
    else if kind == 3 then Some (Remove tid)
    else None

-- gate; kind; period; directory id; cursor; tid; version; content type; subtype; start; length;
-- name length. Then come the name, the MIME type's length and its text.
abbrev pub record_in : Layout → List ℕ → List ℕ → Option Record
record_in layout texts (gate ∷ kind ∷ period ∷ directory ∷ cursor ∷ tid ∷ version ∷ type ∷ subtype
    ∷ start ∷ size ∷ n ∷ []) = do
      content ← Some (record { content_type = type; subtype = subtype })
      action ← action_in (kind - kind_base layout) tid version content start size n texts
      Some (record { period = period; directory = directory; cursor = cursor; action = action })
record_in layout texts _ = None

abbrev pub is_sound_action : Geometry → Layout → Action → Bool
is_sound_action g layout Nothing = true
is_sound_action g layout (Remove tid) = nat_lt 0 tid
is_sound_action g layout (Set tid version content start size name mime) =
    nat_lt 0 tid && nat_le content.content_type MAX_TYPE && nat_le content.subtype MAX_SUBTYPE
    && is_within 1 MAX_BODY size && nat_le (start + size) g.area
    && is_name (longest_name layout) name && option_map_or is_mime mime true

-- no field of the record is out of its range
abbrev pub is_sound : Geometry → Layout → Record → Bool
is_sound g layout r = nat_lt 0 r.directory && nat_lt 0 r.cursor && is_sound_action g layout r.action

abbrev pub slot_columns : List ℕ
slot_columns = 1 ∷ 1 ∷ 3 ∷ 2 ∷ 2 ∷ 2 ∷ 1 ∷ 1 ∷ 2 ∷ 4 ∷ 4 ∷ 1 ∷ []

-- the record of an open slot; none where a field has a fault
unfoldable pub read_slot : Geometry → Layout → List ℕ → Option Record
read_slot g layout slot = do
  r ← record_in layout (drop 24 slot) (columns slot_columns slot)
  if is_sound g layout r then Some r else None

abbrev pub mime_bytes : Option (List ℕ) → List ℕ
mime_bytes None = 0 ∷ []
mime_bytes (Some text) = length text ∷ text

abbrev pub action_kind : Action → ℕ
action_kind Nothing = 1
action_kind (Set tid version content start size name mime) = 2
action_kind (Remove tid) = 3

abbrev pub action_bytes : Action → List ℕ
action_bytes Nothing = []
action_bytes (Remove tid) = to_be_bytes w16 tid
action_bytes (Set tid version content start size name mime) =
    to_be_bytes w16 tid ++ version ∷ content.content_type ∷ to_be_bytes w16 content.subtype
    ++ to_be_bytes w32 start ++ to_be_bytes w32 size ++ length name ∷ name ++ mime_bytes mime

-- the slot of a record as it is written, with an open gate; the rest of it is 0
unfoldable pub bytes_of_slot : Layout → Record → List ℕ
bytes_of_slot layout r =
    let used = open_gate ∷ (kind_base layout + action_kind r.action) ∷ bytes_high_first 3 r.period
    ++ to_be_bytes w16 r.directory ++ to_be_bytes w16 r.cursor ++ action_bytes r.action in
    used ++ replicate (slot_size layout - length used) 0

-- no record has a fault of fields
abbrev pub AreSound : Geometry → Layout → List Record → Type 0
AreSound g layout given = All (λ r. is_sound g layout r ≡ true) given
