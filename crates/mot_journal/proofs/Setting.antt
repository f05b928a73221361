-- The action of a slot that sets an object, from its parts.
use Rattle.std.proofs.Common.{◌≡◌, ◌⊎◌, inl, inr, ℕ, ◌+◌, ◌-◌, ◌≤◌, ◌<◌, Bool, true, false, List}
use Rattle.std.proofs.Common.{length, take, drop, Option, Some, None, sym, ◌∙◌, ap, arith}
use Rattle.std.specs.Prelude.{if◌then◌else◌, nat_lt, nat_le}
use Rattle.std.specs.Option.{option_map_or}
use Rattle.std.proofs.Math.Seq.{take-length}
use Rattle.std.proofs.lemmas.List.{drop-drop, length-drop, length-take}
use Rattle.std.proofs.lemmas.Bool.{cases_Bool, cases_lt, le-leb, lt-ltb, leb-true, ltb-true}
use Rattle.std.proofs.lemmas.Bool.{false_from_ne_true, and_from, and_parts}
use Rattle.mot_journal.specs.declared.layout.Layout.{Layout}
use Rattle.mot_journal.specs.declared.layout.Layout.TheVariants.{One, Two}
use Rattle.mot_journal.specs.declared.record.Action.TheVariants.{Set}
use Rattle.mot_journal.specs.Slot.{short_text_in, is_sound_action, longest_name, slot_size}
use Rattle.mot_journal.specs.Inner.Reading.{content_at, if_sound, set_in_slot, name_from, mime_from}
use Rattle.mot_journal.specs.Geometry.{number_at}
use Rattle.mot_journal.proofs.Decoded.{text, act-of, kept, and-false}
use Rattle.mot_journal.proofs.Written.{same-set}
use Rattle.mot_numbers.specs.declared.geometry.Geometry.{Geometry}
use Rattle.mot_objects.specs.Name.{ContentNumbers, is_mime, is_name}

-- what follows a name of n bytes
pub rest_is : (xs : List ℕ) (at n : ℕ)
    → take (length xs - (at + n)) (drop (at + n) xs) ≡ drop n (drop at xs)
rest_is xs at n =
    ap (λ k. take k (drop (at + n) xs)) (sym (length-drop (at + n) xs))
    ∙ take-length (drop (at + n) xs) ∙ sym (drop-drop n at xs)

name_parts : (longest : ℕ) (bytes name : List ℕ) → name_from longest bytes ≡ text name
    → (is_name longest bytes ≡ true) × (bytes ≡ name)
name_parts longest bytes name e = elim (cases_Bool (is_name longest bytes)) [
  | inl is ↦
      let same : text bytes ≡ text name =
      sym (ap (λ (b : Bool). if b then text bytes else None) is) ∙ e in
      let eq : bytes ≡ name = cc in (is, eq)
  | inr isnt ↦
      let wrong : None ≡ text name =
      sym (ap (λ (b : Bool). if b then text bytes else None) isnt) ∙ e in absurd (cc)
]

mime_parts : (bytes : List ℕ) (mime : Option (List ℕ)) → mime_from bytes ≡ kept mime
    → (option_map_or is_mime (short_text_in bytes) true ≡ true) × (short_text_in bytes ≡ mime)
unfolding mime_from
mime_parts bytes mime e = elim (cases_Bool (option_map_or is_mime (short_text_in bytes) true)) [
  | inl is ↦
      let same : kept (short_text_in bytes) ≡ kept mime =
      sym (ap (λ (b : Bool). if b then kept (short_text_in bytes) else None) is) ∙ e in
      let eq : short_text_in bytes ≡ mime = cc in (is, eq)
  | inr isnt ↦
      let wrong : None ≡ kept mime =
      sym (ap (λ (b : Bool). if b then kept (short_text_in bytes) else None) isnt) ∙ e in
      absurd (cc)
]

-- bytes that are not read as a MIME type break its rule
pub no_mime_parts : (bytes : List ℕ) → mime_from bytes ≡ None
    → option_map_or is_mime (short_text_in bytes) true ≡ false
unfolding mime_from
no_mime_parts bytes e = elim (cases_Bool (option_map_or is_mime (short_text_in bytes) true)) [
  | inl is ↦
      let wrong : kept (short_text_in bytes) ≡ None =
      sym (ap (λ (b : Bool). if b then kept (short_text_in bytes) else None) is) ∙ e in
      absurd (cc)
  | inr isnt ↦ isnt
]

-- bytes that are not read as a name break its rule
pub no_name : (longest : ℕ) (bytes : List ℕ) → name_from longest bytes ≡ None
    → is_name longest bytes ≡ true → ⊥
no_name longest bytes e is =
    let read : name_from longest bytes ≡ text bytes =
    ap (λ (b : Bool). if b then text bytes else None) is in cc

no_shorter : (layout : Layout) (slot : List ℕ) (n : ℕ) → length slot ≡ slot_size layout → n < 256
    → longest_name layout < n → longest_name layout < length (take n (drop 24 slot))
no_shorter One slot n size fits long = simp (length-take, length-drop) (omega arith)
no_shorter Two slot n size fits long = absurd (omega arith)

-- a slot's name that is longer than its layout allows breaks its rule
pub long_name : (layout : Layout) (slot : List ℕ) (n : ℕ) → length slot ≡ slot_size layout
    → n < 256 → longest_name layout < n
    → is_name (longest_name layout) (take n (drop 24 slot)) ≡ true → ⊥
long_name layout slot n size fits long is =
    let p1 = and_parts _ _ is in
    let p2 = and_parts _ _ p1.0 in
    let p3 = and_parts _ _ p2.0 in
    let most : length (take n (drop 24 slot)) ≤ longest_name layout = leb-true _ _ p3.1 in
    let more = no_shorter layout slot n size fits long in omega arith

-- two numbers that are not both small enough
pub either_above : (most most2 n m : ℕ) → ((n ≤ most) × (m ≤ most2) → false ≡ true)
    → (most < n) ⊎ (most2 < m)
either_above most most2 n m both = elim (cases_lt most n) [
  | inl lt ↦ inl lt
  | inr le ↦ elim (cases_lt most2 m) [
    | inl lt ↦ inr lt
    | inr le2 ↦ let wrong = both (le, le2) in absurd (cc)
  ]
]

-- a number that is not in its range
pub is_outside : (least most n : ℕ) → ((least ≤ n) × (n ≤ most) → false ≡ true)
    → (n < least) ⊎ (most < n)
is_outside least most n inside = elim (cases_lt n least) [
  | inl lt ↦ inl lt
  | inr le ↦ elim (cases_lt most n) [
    | inl lt ↦ inr lt
    | inr le2 ↦ let wrong = inside (le, le2) in absurd (cc)
  ]
]

module _ (g : Geometry) (layout : Layout) (slot : List ℕ) where
  -- what the fields of a slot have that sets an object
  pub record HasFields : Type 0 where
    pub tid : 1 ≤ number_at 9 2 slot
    pub type : number_at 12 1 slot ≤ 63
    pub subtype : number_at 13 2 slot ≤ 511
    pub some : 1 ≤ number_at 19 4 slot
    pub most : number_at 19 4 slot ≤ 262144
    pub inside : number_at 15 4 slot + number_at 19 4 slot ≤ g.area
    pub name : is_name (longest_name layout) (take (number_at 23 1 slot) (drop 24 slot)) ≡ true

  -- a slot whose fields have not all of that sets no object
  pub none_of : (HasFields → ⊥) → if_sound g layout (set_in_slot slot) ≡ None
  none_of lacks =
      let fails : is_sound_action g layout (set_in_slot slot) ≡ true → ⊥ = λ all.
      let p1 = and_parts _ _ all in
      let p2 = and_parts _ _ p1.0 in
      let p3 = and_parts _ _ p2.0 in
      let p4 = and_parts _ _ p3.0 in
      let p5 = and_parts _ _ p4.0 in
      let p6 = and_parts _ _ p5.0 in
      let size = and_parts _ _ p4.1 in
      lacks (record {
        tid = ltb-true _ _ p6.0;
        type = leb-true _ _ p6.1;
        subtype = leb-true _ _ p5.1;
        some = leb-true _ _ size.0;
        most = leb-true _ _ size.1;
        inside = leb-true _ _ p3.1;
        name = p2.1;
      }) in
      ap (λ (b : Bool). if b then act-of (set_in_slot slot) else None)
      (false_from_ne_true (is_sound_action g layout (set_in_slot slot)) fails)

  -- a slot whose MIME type breaks its rule sets no object
  pub no_mime_of : mime_from (drop (number_at 23 1 slot) (drop 24 slot)) ≡ None
      → if_sound g layout (set_in_slot slot) ≡ None
  no_mime_of e =
      let isnt : is_sound_action g layout (set_in_slot slot) ≡ false =
      and-false _ (option_map_or is_mime (short_text_in (drop (number_at 23 1 slot) (drop 24 slot)))
      true) (no_mime_parts (drop (number_at 23 1 slot) (drop 24 slot)) e) in
      ap (λ (b : Bool). if b then act-of (set_in_slot slot) else None) isnt

  -- a slot whose fields are all in their range sets the object of these fields
  pub set_sound : (tid version : ℕ) (content : ContentNumbers) (start size : ℕ) (name : List ℕ)
      (mime : Option (List ℕ))
      → tid ≡ number_at 9 2 slot → version ≡ number_at 11 1 slot → content ≡ content_at slot
      → start ≡ number_at 15 4 slot → size ≡ number_at 19 4 slot
      → 1 ≤ tid → number_at 12 1 slot ≤ 63 → number_at 13 2 slot ≤ 511 → 1 ≤ size → size ≤ 262144
      → start + size ≤ g.area
      → name_from (longest_name layout) (take (number_at 23 1 slot) (drop 24 slot)) ≡ Some name
      → mime_from (drop (number_at 23 1 slot) (drop 24 slot)) ≡ Some mime
      → if_sound g layout (set_in_slot slot) ≡ Some (Set tid version content start size name mime)
  set_sound tid version content start size name mime et ev ec es el lt lct lst l1 lmax larea en em =
      let n = name_parts (longest_name layout) (take (number_at 23 1 slot) (drop 24 slot)) name
      en in
      let m = mime_parts (drop (number_at 23 1 slot) (drop 24 slot)) mime em in
      let b1 : nat_lt 0 (number_at 9 2 slot) ≡ true = lt-ltb 0 (number_at 9 2 slot) (omega arith) in
      let b2 : nat_le (number_at 12 1 slot) 63 ≡ true = le-leb (number_at 12 1 slot) 63 lct in
      let b3 : nat_le (number_at 13 2 slot) 511 ≡ true = le-leb (number_at 13 2 slot) 511 lst in
      let b4 : nat_le 1 (number_at 19 4 slot) ≡ true =
      le-leb 1 (number_at 19 4 slot) (omega arith) in
      let b5 : nat_le (number_at 19 4 slot) 262144 ≡ true =
      le-leb (number_at 19 4 slot) 262144 (omega arith) in
      let b6 : nat_le (number_at 15 4 slot + number_at 19 4 slot) g.area ≡ true =
      le-leb (number_at 15 4 slot + number_at 19 4 slot) g.area (omega arith) in
      let all : is_sound_action g layout (set_in_slot slot) ≡ true =
      and_from _ _ (and_from _ _ (and_from _ _ (and_from _ _ (and_from _ _ (and_from _ _ b1 b2) b3) (and_from _ _ b4 b5))
      b6) n.0) m.0 in
      ap (λ (b : Bool). if b then act-of (set_in_slot slot) else None) all
      ∙ ap act-of (same-set tid _ version _ content _ start _ size _ name _ mime _ (sym et) (sym ev)
      (sym ec) (sym es) (sym el) n.1 m.1)
