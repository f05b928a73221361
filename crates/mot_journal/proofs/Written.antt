-- A slot that was written reads as its record.
use Rattle.std.proofs.Common.{◌≡◌, ℕ, suc, ◌+◌, ◌-◌, ◌^◌, ◌<◌, ◌≤◌, Bool, true, false, List, []}
use Rattle.std.proofs.Common.{◌∷◌, ◌++◌, length, take, drop, replicate, Option, Some, None, refl}
use Rattle.std.proofs.Common.{◌∙◌, ap, arith, append_assoc}
use Rattle.std.specs.Prelude.{if◌then◌else◌, ◌==◌, nat_le, slice_index}
use Rattle.std.specs.Int.{bytes_high_first, w16, to_be_bytes}
use Rattle.std.proofs.lemmas.List.{length-append, length-replicate}
use Rattle.std.specs.Option.{option_map_or}
use Rattle.std.proofs.Math.Seq.{take-append_seam, drop-append_seam}
use Rattle.std.proofs.lemmas.Bool.Decides.{nat_tests}
use Rattle.mot_journal.specs.declared.layout.Layout.{Layout}
use Rattle.mot_journal.specs.declared.layout.Layout.TheVariants.{One, Two}
use Rattle.mot_journal.specs.declared.record.Record.{Record}
use Rattle.mot_journal.specs.declared.record.Action.{Action}
use Rattle.mot_journal.specs.declared.record.Action.TheVariants.{Nothing, Set, Remove}
use Rattle.mot_journal.specs.Slot.{action_bytes, action_kind, read_slot, bytes_of_slot, is_sound}
use Rattle.mot_journal.specs.Slot.{is_sound_action, longest_name, short_text_in, mime_bytes}
use Rattle.mot_journal.specs.Slot.{is_open, slot_size, kind_base}
use Rattle.mot_journal.specs.Inner.Steps.{FitsAction, FitsSlot}
use Rattle.mot_numbers.specs.Reading.{number_in}
use Rattle.mot_numbers.specs.declared.geometry.Geometry.{Geometry}
use Rattle.mot_objects.specs.Name.{ContentNumbers, is_mime}
use Rattle.std.proofs.lemmas.Bool.{and_parts}

-- columns of one to four bytes
number_1 : (n : ℕ) → n < 256 → number_in (n ∷ []) ≡ n
number_1 n lt = omega arith

-- a number of two bytes, high first, reads as itself
pub number_2 : (n : ℕ) → n < 2 ^ 16 → number_in (bytes_high_first 2 n) ≡ n
number_2 n lt = omega arith

number_3 : (n : ℕ) → n < 2 ^ 24 → number_in (bytes_high_first 3 n) ≡ n
number_3 n lt = omega arith

-- a number of four bytes, high first, reads as itself
pub number_4 : (n : ℕ) → n < 2 ^ 32 → number_in (bytes_high_first 4 n) ≡ n
number_4 n lt = omega arith

abbrev some-text : List ℕ → Option (List ℕ)
some-text text = Some text

nonzero : (n : ℕ) → (suc n == 0) ≡ false
nonzero n = grind (arith, nat_tests)

-- the MIME type, before whatever follows it
mime_reads : (mime : Option (List ℕ)) (rest : List ℕ) → option_map_or is_mime mime true ≡ true
    → short_text_in (mime_bytes mime ++ rest) ≡ mime
mime_reads None rest sound = refl
mime_reads (Some []) rest sound = cc
mime_reads (Some (b ∷ text)) rest sound =
    ap (λ (t : Bool). if t then None else some-text (take (length (b ∷ text)) ((b ∷ text) ++ rest)))
    (nonzero (length text))
    ∙ ap some-text (take-append_seam (b ∷ text) rest)

texts_read : (name : List ℕ) (mime : Option (List ℕ)) (rest : List ℕ)
    → (take (length name) ((name ++ mime_bytes mime) ++ rest) ≡ name)
    × (drop (length name) ((name ++ mime_bytes mime) ++ rest) ≡ mime_bytes mime ++ rest)
texts_read name mime rest =
    let e : (name ++ mime_bytes mime) ++ rest ≡ name ++ (mime_bytes mime ++ rest) =
    append_assoc name (mime_bytes mime) rest in (
      ap (take (length name)) e ∙ take-append_seam name (mime_bytes mime ++ rest),
      ap (drop (length name)) e ∙ drop-append_seam name (mime_bytes mime ++ rest),
    )

-- a record that is there
abbrev pub some-entry : Record → Option Record
some-entry r = Some r

-- a record by its parts
abbrev pub entry : ℕ → ℕ → ℕ → Action → Record
entry p d c a = record { period = p; directory = d; cursor = c; action = a }

same-record : (p p' d d' c c' : ℕ) (a a' : Action) → p' ≡ p → d' ≡ d → c' ≡ c → a' ≡ a
    → entry p' d' c' a' ≡ entry p d c a
same-record p p' d d' c c' a a' ep ed ec ea = cc

step : (g : Geometry) (layout : Layout) (s r : Record) → s ≡ r → is_sound g layout r ≡ true
    → (if is_sound g layout s then some-entry s else None) ≡ some-entry r
step g layout s r e sound =
    ap (λ (x : Record). if is_sound g layout x then some-entry x else None) e
    ∙ ap (λ (b : Bool). if b then some-entry r else None) sound

le_of : (m n : ℕ) → nat_le m n ≡ true → m ≤ n
le_of m n e = grind (arith, nat_tests)

-- the numbers of a sound object fit their columns
pub record SetFits (layout : Layout) (content : ContentNumbers) (size : ℕ) (name : List ℕ)
    (mime : Option (List ℕ)) : Type 0 where
  type : content.content_type < 256
  subtype : content.subtype < 2 ^ 16
  long : size < 2 ^ 32
  short : length name < 256
  within : length name ≤ longest_name layout
  sound : option_map_or is_mime mime true ≡ true

-- no layout has names of more than 255 bytes
pub longest_most : (layout : Layout) → longest_name layout ≤ 255
longest_most One = omega arith
longest_most Two = omega arith

set_fits : (g : Geometry) (layout : Layout) (tid version : ℕ) (content : ContentNumbers)
    (start size : ℕ) (name : List ℕ) (mime : Option (List ℕ))
    → is_sound_action g layout (Set tid version content start size name mime) ≡ true
    → SetFits layout content size name mime
set_fits g layout tid version content start size name mime sound =
    let p6 = and_parts _ _ sound in
    let p5 = and_parts _ _ p6.0 in
    let p4 = and_parts _ _ p5.0 in
    let p3 = and_parts _ _ p4.0 in
    let p2 = and_parts _ _ p3.0 in
    let p1 = and_parts _ _ p2.0 in
    let type : content.content_type ≤ 63 = le_of _ _ p1.1 in
    let subtype : content.subtype ≤ 511 = le_of _ _ p2.1 in
    let most : size ≤ 262144 = le_of _ _ (and_parts _ _ p3.1).1 in
    let n : length name ≤ longest_name layout =
    le_of _ _ (and_parts _ _ (and_parts _ _ (and_parts _ _ p5.1).0).0).1 in
    record {
      type = omega (arith, type);
      subtype = omega (arith, subtype);
      long = omega (arith, most);
      short = omega (arith, n, longest_most layout);
      within = n;
      sound = p6.1;
    }

same-content : (t t' s s' : ℕ) → t' ≡ t → s' ≡ s
    → (let c : ContentNumbers = record { content_type = t'; subtype = s' } in c)
    ≡ record { content_type = t; subtype = s }
same-content t t' s s' et es = cc

-- what sets an object, of equal fields
pub same-set : (tid tid' version version' : ℕ) (content content' : ContentNumbers)
    (start start' size size' : ℕ) (name name' : List ℕ) (mime mime' : Option (List ℕ))
    → tid' ≡ tid → version' ≡ version → content' ≡ content → start' ≡ start → size' ≡ size
    → name' ≡ name → mime' ≡ mime
    → (let a : Action = Set tid' version' content' start' size' name' mime' in a)
    ≡ Set tid version content start size name mime
same-set tid tid' version version' content content' start start' size size' name name' mime mime' e1
    e2 e3 e4 e5 e6 e7 = cc

-- an object's action, as its columns are read before whatever follows
set_reads : (layout : Layout) (tid version : ℕ) (content : ContentNumbers) (start size : ℕ)
    (name : List ℕ) (mime : Option (List ℕ)) (rest : List ℕ)
    → FitsAction (Set tid version content start size name mime)
    → SetFits layout content size name mime
    → (let a : Action = Set (number_in (bytes_high_first 2 tid)) (number_in (version ∷ []))
    (record {
      content_type = number_in (content.content_type ∷ []);
      subtype =
          number_in (bytes_high_first 2 content.subtype);
    })
    (number_in (bytes_high_first 4 start)) (number_in (bytes_high_first 4 size))
    (take (number_in (length name ∷ [])) ((name ++ mime_bytes mime) ++ rest))
    (short_text_in (drop (number_in (length name ∷ [])) ((name ++ mime_bytes mime) ++ rest))) in a)
    ≡ Set tid version content start size name mime
set_reads layout tid version content start size name mime rest fits is =
    let n : number_in (length name ∷ []) ≡ length name = number_1 (length name) is.short in
    let texts = texts_read name mime rest in
    same-set _ _ _ _ _ _ _ _ _ _ _ _ _ _ (number_2 tid fits.0) (number_1 version fits.1)
    (same-content _ _ _ _ (number_1 content.content_type is.type)
    (number_2 content.subtype is.subtype))
    (number_4 start fits.2) (number_4 size is.long)
    (ap (λ k. take k ((name ++ mime_bytes mime) ++ rest)) n ∙ texts.0)
    (ap (λ k. short_text_in (drop k ((name ++ mime_bytes mime) ++ rest))) n
    ∙ ap short_text_in texts.1 ∙ mime_reads mime rest is.sound)

sound_action : (g : Geometry) (layout : Layout) (r : Record) → is_sound g layout r ≡ true
    → is_sound_action g layout r.action ≡ true
sound_action g layout r sound = (and_parts _ _ sound).1

reads : (g : Geometry) (layout : Layout) (p d c : ℕ) (a : Action) → FitsSlot (entry p d c a)
    → is_sound g layout (entry p d c a) ≡ true
    → read_slot g layout (bytes_of_slot layout (entry p d c a)) ≡ some-entry (entry p d c a)
unfolding read_slot bytes_of_slot
reads g One p d c Nothing fits sound =
    step g One _ _ (same-record _ _ _ _ _ _ _ Nothing (number_3 p fits.period)
    (number_2 d fits.directory) (number_2 c fits.cursor) refl) sound
reads g Two p d c Nothing fits sound =
    step g Two _ _ (same-record _ _ _ _ _ _ _ Nothing (number_3 p fits.period)
    (number_2 d fits.directory) (number_2 c fits.cursor) refl) sound
reads g One p d c (Remove tid) fits sound =
    step g One _ _ (same-record _ _ _ _ _ _ _ _ (number_3 p fits.period) (number_2 d fits.directory)
    (number_2 c fits.cursor)
    (ap (λ (n : ℕ). let a : Action = Remove n in a) (number_2 tid fits.action))) sound
reads g Two p d c (Remove tid) fits sound =
    step g Two _ _ (same-record _ _ _ _ _ _ _ _ (number_3 p fits.period) (number_2 d fits.directory)
    (number_2 c fits.cursor)
    (ap (λ (n : ℕ). let a : Action = Remove n in a) (number_2 tid fits.action))) sound
reads g One p d c (Set tid version content start size name mime) fits sound =
    let is = set_fits g One tid version content start size name mime
    (sound_action g One (entry p d c (Set tid version content start size name mime)) sound) in
    step g One _ _ (same-record _ _ _ _ _ _ _ _ (number_3 p fits.period) (number_2 d fits.directory)
    (number_2 c fits.cursor)
    (set_reads One tid version content start size name mime _ fits.action is)) sound
reads g Two p d c (Set tid version content start size name mime) fits sound =
    let is = set_fits g Two tid version content start size name mime
    (sound_action g Two (entry p d c (Set tid version content start size name mime)) sound) in
    step g Two _ _ (same-record _ _ _ _ _ _ _ _ (number_3 p fits.period) (number_2 d fits.directory)
    (number_2 c fits.cursor)
    (set_reads Two tid version content start size name mime _ fits.action is)) sound

-- a record without a fault of fields, written in its layout, reads as itself
pub slot_reads_back : (g : Geometry) (layout : Layout) (r : Record) → FitsSlot r
    → is_sound g layout r ≡ true
    → read_slot g layout (bytes_of_slot layout r) ≡ Some r
slot_reads_back g layout r fits sound =
    reads g layout r.period r.directory r.cursor r.action fits sound

-- its first byte is an open gate
pub written_gate : (layout : Layout) (r : Record) → slice_index (bytes_of_slot layout r) 0 ≡ 0xA5
unfolding bytes_of_slot
written_gate layout r = refl

-- its gate is open
pub written_is_open : (layout : Layout) (r : Record) → is_open (bytes_of_slot layout r) ≡ true
unfolding bytes_of_slot
written_is_open layout r = refl

mime_length : (mime : Option (List ℕ)) → option_map_or is_mime mime true ≡ true
    → length (mime_bytes mime) ≤ 65
mime_length None sound = omega arith
mime_length (Some text) sound =
    let n : length text ≤ 64 = le_of _ _ (and_parts _ _ (and_parts _ _ (and_parts _ _ sound).0).0).1 in
    omega (arith, n)

action_length : (g : Geometry) (layout : Layout) (a : Action) → is_sound_action g layout a ≡ true
    → length (action_bytes a) ≤ 80 + longest_name layout
action_length g layout Nothing sound = omega arith
action_length g layout (Remove tid) sound = omega arith
action_length g layout (Set tid version content start size name mime) sound =
    let fits = set_fits g layout tid version content start size name mime sound in
    let whole : length (action_bytes (Set tid version content start size name mime))
    ≡ suc (suc (suc (suc (suc
    (suc (suc (suc (suc (suc
    (suc (suc (suc (suc (suc (length (name ++ mime_bytes mime)))))))))))))))) = refl in
    omega (
      arith,
      whole,
      length-append name (mime_bytes mime),
      mime_length mime fits.sound,
      fits.within,
    )

filled_length : (used : List ℕ) (size : ℕ) → length used ≤ size
    → length (used ++ replicate (size - length used) 0) ≡ size
filled_length used size fits =
    omega (
      arith,
      fits,
      length-append used (replicate (size - length used) 0),
      length-replicate {A = ℕ} (size - length used) 0,
    )

sizes : (layout : Layout) → 89 + longest_name layout ≤ slot_size layout
sizes One = omega arith
sizes Two = omega arith

abbrev used_bytes : Layout → Record → List ℕ
used_bytes layout r =
    0xA5 ∷ (kind_base layout + action_kind r.action) ∷ bytes_high_first 3 r.period
    ++ to_be_bytes w16 r.directory
    ++ to_be_bytes w16 r.cursor ++ action_bytes r.action

-- the slot of a record without a fault of fields has its layout's length
pub written_length : (g : Geometry) (layout : Layout) (r : Record) → is_sound g layout r ≡ true
    → length (bytes_of_slot layout r) ≡ slot_size layout
unfolding bytes_of_slot
written_length g layout r sound =
    let used : length (used_bytes layout r)
    ≡ suc (suc (suc (suc (suc (suc (suc (suc (suc (length (action_bytes r.action)))))))))) =
    refl in
    let a = action_length g layout r.action (sound_action g layout r sound) in
    filled_length (used_bytes layout r) (slot_size layout) (omega (arith, used, a, sizes layout))
