-- The bytes of a slot, put together piece by piece.
use Rattle.std.proofs.Common.{◌≡◌, ℕ, ◌+◌, ◌-◌, ◌*◌, ◌^◌, ◌<◌, List, [], ◌∷◌, ◌++◌, length, take}
use Rattle.std.proofs.Common.{drop, get_or, replicate, Option, refl, sym, ◌∙◌, ap, arith}
use Rattle.std.proofs.Common.{append_assoc, zero, suc, Fits, w8, inl, inr}
use Rattle.std.specs.Int.{w16, w32, to_be_bytes, bytes_high_first}
use Rattle.std.proofs.Math.Seq.{drop-cons}
use Rattle.std.proofs.lemmas.List.{length-take, length-drop, drop_all, get_or-take, get_or-drop}
use Rattle.std.proofs.lemmas.List.{get_or_past}
use Rattle.std.proofs.lemmas.List.Elements.{All-from_get_or}
use Rattle.byteorder.specs.Endian.{big_from, big_number}
use Rattle.mot_numbers.specs.Reading.{IsByte, number_in}
use Rattle.mot_numbers.proofs.Laws.{number_in-fits}
use Rattle.std.proofs.lemmas.Bool.{cases_lt}
use Rattle.mot_journal.specs.declared.layout.Layout.{Layout}
use Rattle.mot_journal.specs.declared.record.Record.{Record}
use Rattle.mot_journal.specs.declared.record.Action.{Action}
use Rattle.mot_journal.specs.declared.record.Action.TheVariants.{Set}
use Rattle.mot_journal.specs.Slot.{action_bytes, mime_bytes, bytes_of_slot, kind_base, action_kind}
use Rattle.mot_journal.specs.Slot.{slot_size}
use Rattle.mot_objects.specs.Name.{ContentNumbers}

regroup : (o a b c d e f n m : List ℕ)
    → (((((((o ++ a) ++ b) ++ c) ++ d) ++ e) ++ f) ++ n) ++ m
    ≡ o ++ (((((((a ++ b) ++ c) ++ d) ++ e) ++ f) ++ n) ++ m)
regroup o a b c d e f n m = simp append_assoc

set_pieces : (tid version : ℕ) (content : ContentNumbers) (start size : ℕ) (name : List ℕ)
    (mime : Option (List ℕ))
    → ((((((to_be_bytes w16 tid ++ version ∷ content.content_type ∷ [])
    ++ to_be_bytes w16 content.subtype) ++ to_be_bytes w32 start) ++ to_be_bytes w32 size)
    ++ length name ∷ []) ++ name) ++ mime_bytes mime
    ≡ action_bytes (Set tid version content start size name mime)
set_pieces tid version content start size name mime = refl

-- the pieces put behind other bytes, one by one, are the action's that sets an object
pub put_set : (action : Action) (tid version : ℕ) (content : ContentNumbers) (start size : ℕ)
    (name : List ℕ) (mime : Option (List ℕ))
    → action ≡ Set tid version content start size name mime
    → (o a b c d e f n x1 x2 x3 x4 x5 x6 x7 x8 : List ℕ)
    → a ≡ to_be_bytes w16 tid → b ≡ version ∷ content.content_type ∷ []
    → c ≡ to_be_bytes w16 content.subtype
    → d ≡ to_be_bytes w32 start → e ≡ to_be_bytes w32 size → f ≡ length name ∷ [] → n ≡ name
    → x1 ≡ o ++ a → x2 ≡ x1 ++ b → x3 ≡ x2 ++ c → x4 ≡ x3 ++ d → x5 ≡ x4 ++ e → x6 ≡ x5 ++ f
    → x7 ≡ x6 ++ n → x8 ≡ x7 ++ mime_bytes mime
    → x8 ≡ o ++ action_bytes action
put_set action tid version content start size name mime is o a b c d e f n x1 x2 x3 x4 x5 x6 x7 x8
    ea eb ec ed ee ef en e1 e2 e3 e4 e5 e6 e7 e8 =
    let m : List ℕ = mime_bytes mime in
    let chain : x8 ≡ (((((((o ++ a) ++ b) ++ c) ++ d) ++ e) ++ f) ++ n) ++ m =
    rw (e8, e7, e6, e5, e4, e3, e2, e1) in
    let inner : ((((((a ++ b) ++ c) ++ d) ++ e) ++ f) ++ n) ++ m
    ≡ action_bytes (Set tid version content start size name mime) =
    rw (ea, eb, ec, ed, ee, ef, en) (set_pieces tid version content start size name mime) in
    chain ∙ regroup o a b c d e f n m ∙ ap (λ l. o ++ l) (inner ∙ ap action_bytes (sym is))

-- the pieces of a slot, one by one and filled with zeros, are a record's slot
pub slot_pieces : (layout : Layout) (r : Record) (kb k size : ℕ)
    (p d c x0 x1 x2 x3 x4 x5 x6 x7 : List ℕ)
    → kb ≡ kind_base layout → k ≡ action_kind r.action → size ≡ slot_size layout
    → p ≡ bytes_high_first 3 r.period → d ≡ to_be_bytes w16 r.directory
    → c ≡ to_be_bytes w16 r.cursor
    → x0 ≡ [] → x1 ≡ x0 ++ 0xA5 ∷ [] → x2 ≡ x1 ++ (kb + k) ∷ [] → x3 ≡ x2 ++ p → x4 ≡ x3 ++ d
    → x5 ≡ x4 ++ c
    → x6 ≡ x5 ++ action_bytes r.action → x7 ≡ x6 ++ replicate (size - length x6) 0
    → x7 ≡ bytes_of_slot layout r
unfolding bytes_of_slot
slot_pieces layout r kb k size p d c x0 x1 x2 x3 x4 x5 x6 x7 ekb ek es ep ed ec e0 e1 e2 e3 e4 e5 e6
    e7 =
    let used : x6 ≡ ((((0xA5 ∷ (kind_base layout + action_kind r.action) ∷ [])
    ++ bytes_high_first 3 r.period) ++ to_be_bytes w16 r.directory) ++ to_be_bytes w16 r.cursor)
    ++ action_bytes r.action =
    rw (e6, e5, e4, e3, e2, e1, e0, ekb, ek, ep, ed, ec) refl in
    e7 ∙ ap (λ s. x6 ++ replicate (s - length x6) 0) es
    ∙ ap (λ (u : List ℕ). u ++ replicate (slot_size layout - length u) 0) used

-- the bytes from a place on, as they are read
number-from : (n i : ℕ) (xs : List ℕ) → i + n ≡ length xs → big_from i n xs ≡ number_in (drop i xs)
number-from zero i xs e = sym (ap number_in (drop_all i xs (omega (arith, e))))
number-from (suc n) i xs e =
    let rest : length (drop (suc i) xs) ≡ n = omega (arith, e, length-drop (suc i) xs) in
    ap (λ t. get_or xs i 0 * 256 ^ n + t) (number-from n (suc i) xs (omega (arith, e)))
    ∙ ap (λ k. get_or xs i 0 * 256 ^ k + number_in (drop (suc i) xs)) (sym rest)
    ∙ sym (ap number_in (drop-cons xs i 0 (omega (arith, e))))

-- bytes read high first as a number of their length are their number
pub number_read : (n : ℕ) (xs : List ℕ) → length xs ≡ n → big_number n xs ≡ number_in xs
number_read n xs e = number-from n 0 xs (omega (arith, e))

-- so many bytes are a number below that power of 256
pub number_below : (xs : List ℕ) → ((i : ℕ) → get_or xs i 0 < 256) → number_in xs < 256 ^ length xs
number_below xs bytes = number_in-fits xs (All-from_get_or IsByte xs 0 (λ i lt. bytes i))

-- a byte of a part of a list of bytes
pub All-get_or-below : (xs : List ℕ) (at n i : ℕ) → ((k : ℕ) → Fits w8 (get_or xs k 0))
    → get_or (take n (drop at xs)) i 0 < 256
All-get_or-below xs at n i bytes = elim (cases_lt i n) [
  | inl lt ↦
      let e : get_or (take n (drop at xs)) i 0 ≡ get_or xs (at + i) 0 =
      get_or-take n (drop at xs) i 0 lt ∙ get_or-drop at xs i 0 in
      omega (arith, e, bytes (at + i))
  | inr ge ↦
      let e : get_or (take n (drop at xs)) i 0 ≡ 0 =
      get_or_past (take n (drop at xs)) i 0 (omega (arith, length-take n (drop at xs))) in
      omega (arith, e)
]
