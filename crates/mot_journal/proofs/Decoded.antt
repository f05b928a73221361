-- What the parts of a slot read as.
use Rattle.std.proofs.Common.{◌≡◌, ◌⊎◌, inl, inr, ℕ, ◌+◌, ◌-◌, ◌<◌, ◌≤◌, Bool, true, false, List}
use Rattle.std.proofs.Common.{[], ◌∷◌, length, take, drop, Option, Some, None, refl, sym, ◌∙◌, ap}
use Rattle.std.proofs.Common.{arith}
use Rattle.std.specs.Prelude.{if◌then◌else◌, ◌==◌, nat_lt, slice_index, ◌&&◌}
use Rattle.std.specs.Option.{option_map_or}
use Rattle.std.proofs.lemmas.List.{drop-drop, length-take, length-drop}
use Rattle.std.proofs.lemmas.Bool.{cases_lt, lt-ltb, false_from_ne_true, and_from}
use Rattle.mot_journal.specs.Faults.{IsOutside}
use Rattle.mot_numbers.specs.Reading.{◌>>=◌}
use Rattle.std.proofs.lemmas.Bool.Decides.{nat_tests}
use Rattle.mot_journal.specs.declared.layout.Layout.{Layout}
use Rattle.mot_journal.specs.declared.record.Record.{Record}
use Rattle.mot_journal.specs.declared.record.Action.{Action}
use Rattle.mot_journal.specs.declared.record.Action.TheVariants.{Nothing, Remove}
use Rattle.mot_journal.specs.Geometry.{columns, number_at}
use Rattle.mot_journal.specs.Inner.Unread.{BreaksSlot}
use Rattle.mot_journal.specs.declared.decoding.SlotFault.{SlotFault}
use Rattle.mot_journal.specs.declared.decoding.SlotFault.TheVariants.{OutOfMemory, Field}
use Rattle.mot_journal.specs.Slot.{short_text_in, read_slot, is_sound, is_sound_action, kind_base}
use Rattle.mot_journal.specs.Slot.{slot_columns, record_in, action_in}
use Rattle.mot_journal.specs.Inner.Reading.{content_at, if_sound, set_in_slot, action_in_slot}
use Rattle.mot_journal.specs.Inner.Reading.{sound_action_of, name_from, mime_from}
use Rattle.mot_numbers.specs.declared.geometry.Geometry.{Geometry}
use Rattle.mot_objects.specs.Name.{IsName, IsMime, is_mime, is_name}
use Rattle.mot_objects.proofs.Laws.{name_true, name_is, mime_true, mime_is}
use Rattle.mot_journal.proofs.Written.{entry, some-entry}

-- an action that is there
abbrev pub act-of : Action → Option Action
act-of a = Some a

same-entry : (p p' d d' c c' : ℕ) (a : Action) → p ≡ p' → d ≡ d' → c ≡ c'
    → (let r : Record = record { period = p'; directory = d'; cursor = c'; action = a } in r)
    ≡ record { period = p; directory = d; cursor = c; action = a }
same-entry p p' d d' c c' a ep ed ec = cc

true_or_false : (b : Bool) → (b ≡ true) ⊎ (b ≡ false)
true_or_false true = inl refl
true_or_false false = inr refl

-- two tests that hold, hold together
-- a text that is there
abbrev pub text : List ℕ → Option (List ℕ)
text bytes = Some bytes

-- bytes that keep a name's rule, and are not too long, are read as a name
pub name_ok : (longest : ℕ) (bytes : List ℕ) → IsName bytes → length bytes ≤ longest
    → name_from longest bytes ≡ Some bytes
name_ok longest bytes is short =
    ap (λ (b : Bool). if b then text bytes else None) (name_true longest bytes is short)

-- bytes that break a name's rule are read as no name
pub name_bad : (longest : ℕ) (bytes : List ℕ) → longest ≤ 255 → (IsName bytes → ⊥)
    → name_from longest bytes ≡ None
name_bad longest bytes most bad = ap (λ (b : Bool). if b then text bytes else None)
    (false_from_ne_true (is_name longest bytes) (λ is. bad (name_is longest bytes most is)))

-- a MIME type, or none, that keeps its rule
abbrev pub kept : Option (List ℕ) → Option (Option (List ℕ))
kept m = Some m

-- a length of 0 is read as no MIME type, and that is no fault
pub mime_none : (bytes : List ℕ) → slice_index bytes 0 ≡ 0 → mime_from bytes ≡ Some None
unfolding mime_from
mime_none bytes e =
    let is : short_text_in bytes ≡ None =
    ap (λ n. if n == 0 then None else text (take n (drop 1 bytes))) e in
    ap (λ m. if option_map_or is_mime m true then kept m else None) is

there_is : (bytes : List ℕ) → (slice_index bytes 0 ≡ 0 → ⊥)
    → short_text_in bytes ≡ text (take (slice_index bytes 0) (drop 1 bytes))
there_is bytes some =
    let no : (slice_index bytes 0 == 0) ≡ false = grind (arith, nat_tests) in
    ap (λ (b : Bool). if b then None else text (take (slice_index bytes 0) (drop 1 bytes))) no

-- a text behind its length that keeps a MIME type's rule is read as one
pub mime_ok : (bytes : List ℕ) → (slice_index bytes 0 ≡ 0 → ⊥)
    → IsMime (take (slice_index bytes 0) (drop 1 bytes))
    → mime_from bytes ≡ Some (Some (take (slice_index bytes 0) (drop 1 bytes)))
unfolding mime_from
mime_ok bytes some is =
    let t : List ℕ = take (slice_index bytes 0) (drop 1 bytes) in
    ap (λ m. if option_map_or is_mime m true then kept m else None) (there_is bytes some)
    ∙ ap (λ (b : Bool). if b then kept (text t) else None) (mime_true t is)

-- a text behind its length that breaks a MIME type's rule is a fault
pub mime_bad : (bytes : List ℕ) → (slice_index bytes 0 ≡ 0 → ⊥)
    → (IsMime (take (slice_index bytes 0) (drop 1 bytes)) → ⊥)
    → mime_from bytes ≡ None
unfolding mime_from
mime_bad bytes some bad =
    let t : List ℕ = take (slice_index bytes 0) (drop 1 bytes) in
    ap (λ m. if option_map_or is_mime m true then kept m else None) (there_is bytes some)
    ∙ ap (λ (b : Bool). if b then kept (text t) else None)
    (false_from_ne_true (is_mime t) (λ e. bad (mime_is t e)))

-- a MIME type whose length is above 64 is a fault
pub mime_long : (bytes : List ℕ) → 66 ≤ length bytes → 64 < slice_index bytes 0
    → mime_from bytes ≡ None
mime_long bytes fits long =
    mime_bad bytes (λ e. omega (arith, e)) (λ is.
    absurd (omega (
      arith,
      is.short,
      length-take (slice_index bytes 0) (drop 1 bytes),
      length-drop 1 bytes,
    )))

-- the action of a slot, by its kind
module _ (g : Geometry) (layout : Layout) (slot : List ℕ) where
  at-kind : (k : ℕ) → number_at 1 1 slot - kind_base layout ≡ k
      → sound_action_of g layout slot
      ≡ (action_in k (number_at 9 2 slot) (number_at 11 1 slot) (content_at slot)
      (number_at 15 4 slot) (number_at 19 4 slot) (number_at 23 1 slot) (drop 24 slot)
      >>= if_sound g layout)
  unfolding sound_action_of
  at-kind k e = ap (λ (n : ℕ).
      action_in n (number_at 9 2 slot) (number_at 11 1 slot) (content_at slot) (number_at 15 4 slot)
      (number_at 19 4 slot) (number_at 23 1 slot) (drop 24 slot) >>= if_sound g layout) e

  -- a slot of the first kind does nothing
  pub nothing_of : number_at 1 1 slot - kind_base layout ≡ 1
      → sound_action_of g layout slot ≡ act-of Nothing
  nothing_of e = at-kind 1 e

  -- a slot of the second kind sets an object, if no field is out of its range
  pub set_action : number_at 1 1 slot - kind_base layout ≡ 2
      → sound_action_of g layout slot ≡ if_sound g layout (set_in_slot slot)
  set_action e = at-kind 2 e

  -- a slot of the third kind, with an id, removes the object of that id
  pub remove_of : (tid : ℕ) → number_at 1 1 slot - kind_base layout ≡ 3 → tid ≡ number_at 9 2 slot
      → 1 ≤ tid → sound_action_of g layout slot ≡ act-of (Remove tid)
  remove_of tid e is some =
      at-kind 3 e ∙ ap (λ n. if nat_lt 0 n then act-of (Remove n) else None) (sym is)
      ∙ ap (λ (b : Bool). if b then act-of (Remove tid) else None) (lt-ltb 0 tid some)

  -- a slot of the third kind with the id 0 has no action
  pub no_remove : number_at 1 1 slot - kind_base layout ≡ 3 → number_at 9 2 slot ≡ 0
      → sound_action_of g layout slot ≡ None
  no_remove e none = at-kind 3 e ∙ ap (λ n. if nat_lt 0 n then act-of (Remove n) else None) none

  -- a slot of any other kind has no action
  pub no_kind : (k : ℕ) → number_at 1 1 slot - kind_base layout ≡ k → (k ≡ 1 → ⊥) → (k ≡ 2 → ⊥)
      → (k ≡ 3 → ⊥) → sound_action_of g layout slot ≡ None
  no_kind k e n1 n2 n3 =
      let e1 : (k == 1) ≡ false = grind (arith, nat_tests) in
      let e2 : (k == 2) ≡ false = grind (arith, nat_tests) in
      let e3 : (k == 3) ≡ false = grind (arith, nat_tests) in
      let set = set_in_slot slot in
      let remove : Action = Remove (number_at 9 2 slot) in
      at-kind k e
      ∙ ap (λ (b : Bool). (if b then act-of Nothing else if k == 2 then act-of set else if k == 3
      then act-of remove else None) >>= if_sound g layout) e1
      ∙ ap (λ (b : Bool). (if b then act-of set else if k == 3 then act-of remove else None)
      >>= if_sound g layout) e2
      ∙ ap (λ (b : Bool). (if b then act-of remove else None) >>= if_sound g layout) e3

-- where nothing is read if nothing else is, it has the fault of the other
pub unread_by : {A B : Type 0} (a : Option A) (b : Option B) (g : Geometry) (layout : Layout)
    (slot : List ℕ) (fault : SlotFault) → (b ≡ None → a ≡ None) → BreaksSlot b g layout slot fault
    → BreaksSlot a g layout slot fault
unread_by a b g layout slot OutOfMemory e is = tt
unread_by a b g layout slot (Field fault) e is = (e is.0, is.1)

-- a kind that is none of the three is outside of them
pub outside_kinds : (k b : ℕ) → (k - b ≡ 1 → ⊥) → (k - b ≡ 2 → ⊥) → (k - b ≡ 3 → ⊥)
    → IsOutside (b + 1) (b + 3) k
outside_kinds k b n1 n2 n3 =
    elim (cases_lt k (b + 1)) [ inl low ↦ inl low | inr le ↦ inr (omega arith) ]

-- the columns of a slot, by their places
abbrev pub places : List ℕ → ℕ → List ℕ → List ℕ
places [] at xs = []
places (w ∷ ws) at xs = number_at at w xs ∷ places ws (at + w) xs

-- the columns from a place on are the numbers at their places
pub columns_from : (ws : List ℕ) (at : ℕ) (xs : List ℕ) → columns ws (drop at xs) ≡ places ws at xs
columns_from [] at xs = refl
columns_from (w ∷ ws) at xs =
    ap (λ l. number_at at w xs ∷ columns ws l) (drop-drop w at xs)
    ∙ ap (λ (l : List ℕ). number_at at w xs ∷ l) (columns_from ws (at + w) xs)

-- a record, if it has no fault of fields
abbrev pub checked : Geometry → Layout → Record → Option Record
checked g layout r = if is_sound g layout r then Some r else None

bind-some : (o : Option Action) (f : Action → Record) (h : Record → Option Record)
    → ((o >>= (λ a. let r : Option Record = Some (f a) in r)) >>= h) ≡ (o >>= (λ a. h (f a)))
bind-some None f h = refl
bind-some (Some a) f h = refl

whole : (g : Geometry) (layout : Layout) (slot : List ℕ)
    → read_slot g layout slot
    ≡ (action_in_slot layout slot
    >>= (λ a. checked g layout
    (entry (number_at 2 3 slot) (number_at 5 2 slot) (number_at 7 2 slot) a)))
unfolding read_slot
whole g layout slot =
    ap (λ cs. record_in layout (drop 24 slot) cs >>= checked g layout)
    (columns_from slot_columns 0 slot)
    ∙ bind-some (action_in_slot layout slot)
    (entry (number_at 2 3 slot) (number_at 5 2 slot) (number_at 7 2 slot)) (checked g layout)

-- a test whose second half fails, fails
pub and-false : (a b : Bool) → b ≡ false → (a && b) ≡ false
and-false true b e = e
and-false false b e = refl

module _ (g : Geometry) (layout : Layout) (p d c : ℕ) where
  step-none : (o : Option Action) → (o >>= if_sound g layout) ≡ None
      → (o >>= (λ a. checked g layout (entry p d c a))) ≡ None
  step-none None e = refl
  step-none (Some a) e = elim (true_or_false (is_sound_action g layout a)) [
    | inl is ↦
        let wrong : None ≡ act-of a = sym e ∙ ap (λ (b : Bool). if b then act-of a else None) is in
        absurd (cc)
    | inr isnt ↦ ap (λ (b : Bool). if b then some-entry (entry p d c a) else None)
        (and-false (nat_lt 0 d && nat_lt 0 c) (is_sound_action g layout a) isnt)
  ]

  step-some : (o : Option Action) (a' : Action) → (o >>= if_sound g layout) ≡ act-of a' → 1 ≤ d
      → 1 ≤ c → (o >>= (λ a. checked g layout (entry p d c a))) ≡ some-entry (entry p d c a')
  step-some None a' e ld lc = absurd (cc)
  step-some (Some a) a' e ld lc = elim (true_or_false (is_sound_action g layout a)) [
    | inl is ↦
        let same : act-of a ≡ act-of a' =
        sym (ap (λ (b : Bool). if b then act-of a else None) is) ∙ e in
        let sound : is_sound g layout (entry p d c a) ≡ true =
        and_from _ _ (and_from _ _ (lt-ltb 0 d ld) (lt-ltb 0 c lc)) is in
        let is-a : a ≡ a' = cc in
        ap (λ (b : Bool). if b then some-entry (entry p d c a) else None) sound
        ∙ ap (λ (x : Action). some-entry (entry p d c x)) is-a
    | inr isnt ↦ let wrong : None ≡ act-of a' =
        sym (ap (λ (b : Bool). if b then act-of a else None) isnt) ∙ e in absurd (cc)
  ]

  step-zero : (o : Option Action) → (nat_lt 0 d && nat_lt 0 c) ≡ false
      → (o >>= (λ a. checked g layout (entry p d c a))) ≡ None
  step-zero None e = refl
  step-zero (Some a) e = ap
      (λ (b : Bool). if b && is_sound_action g layout a then some-entry (entry p d c a) else None) e

module _ (g : Geometry) (layout : Layout) (slot : List ℕ) where
  -- a slot whose directory has the id 0 has no record
  pub zero_directory : number_at 5 2 slot ≡ 0 → read_slot g layout slot ≡ None
  zero_directory e =
      whole g layout slot ∙ step-zero g layout (number_at 2 3 slot) (number_at 5 2 slot)
      (number_at 7 2 slot) (action_in_slot layout slot)
      (ap (λ n. nat_lt 0 n && nat_lt 0 (number_at 7 2 slot)) e)

  -- a slot whose cursor is 0 has no record
  pub zero_cursor : number_at 7 2 slot ≡ 0 → read_slot g layout slot ≡ None
  zero_cursor e =
      whole g layout slot ∙ step-zero g layout (number_at 2 3 slot) (number_at 5 2 slot)
      (number_at 7 2 slot) (action_in_slot layout slot)
      (and-false (nat_lt 0 (number_at 5 2 slot)) (nat_lt 0 (number_at 7 2 slot))
      (ap (λ n. nat_lt 0 n) e))

  -- a slot without a sound action has no record
  pub no_action : sound_action_of g layout slot ≡ None → read_slot g layout slot ≡ None
  unfolding sound_action_of
  no_action e = whole g layout slot
      ∙ step-none g layout (number_at 2 3 slot) (number_at 5 2 slot) (number_at 7 2 slot)
      (action_in_slot layout slot) e

  -- a slot of a sound action, with a directory and a cursor, has the record of its numbers
  pub whole_entry : (p d c : ℕ) (a : Action) → p ≡ number_at 2 3 slot → d ≡ number_at 5 2 slot
      → c ≡ number_at 7 2 slot → 1 ≤ d → 1 ≤ c
      → sound_action_of g layout slot ≡ Some a → read_slot g layout slot ≡ Some (entry p d c a)
  unfolding sound_action_of
  whole_entry p d c a ep ed ec ld lc e =
      whole g layout slot
      ∙ step-some g layout (number_at 2 3 slot) (number_at 5 2 slot) (number_at 7 2 slot)
      (action_in_slot layout slot) a e (omega arith) (omega arith)
      ∙ ap some-entry (same-entry p _ d _ c _ a ep ed ec)

-- false is not true
pub wrong-ok : false ≡ true → ⊥
wrong-ok e = cc

-- a MIME type that is there and keeps its rule
abbrev pub kept-text : List ℕ → Option (Option (List ℕ))
kept-text t = kept (text t)
