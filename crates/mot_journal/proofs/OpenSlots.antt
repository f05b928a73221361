-- Open slots, and closed ones behind them.
use Rattle.std.proofs.Common.{◌≡◌, inl, inr, ℕ, suc, ◌+◌, ◌<◌, Bool, true, false, not, List}
use Rattle.std.proofs.Common.{[], ◌∷◌, ◌++◌}
use Rattle.std.proofs.Common.{length, take, drop, get_or, Option, Some, None, Result, Ok, Err, refl}
use Rattle.std.proofs.Common.{sym, ◌∙◌, ap, subst}
use Rattle.std.specs.Prelude.{if◌then◌else◌, take_while}
use Rattle.std.specs.List.{list_all}
use Rattle.std.proofs.lemmas.Bool.{cases_Bool}
use Rattle.std.proofs.Math.Seq.{drop-append_seam, drop-cons}
use Rattle.std.proofs.lemmas.List.Sums.{take_while-cons}
use Rattle.mot_journal.specs.declared.record.Record.{Record}
use Rattle.mot_journal.specs.Slot.{is_open}
use Rattle.mot_journal.specs.Image.{or_damaged}
use Rattle.mot_numbers.specs.Refusal.{◌>>=◌}
use Rattle.mot_journal.specs.Image.{records_in, are_gates_clean}
use Rattle.mot_journal.proofs.Records.{ok, AreOpen, StartsShut, open_then_shut}
use Rattle.mot_numbers.specs.declared.refusal.Refusal.{Refusal}
use Rattle.std.proofs.lemmas.Bool.{and_from, and_parts}

-- the gate of each slot is closed
abbrev pub AreShut : List (List ℕ) → Type 0
AreShut [] = Unit {0}
AreShut (slot ∷ slots) = (is_open slot ≡ false) × AreShut slots

abbrev shut : List ℕ → Bool
shut slot = not (is_open slot)

pub starts_shut : (slots : List (List ℕ)) → AreShut slots → StartsShut slots
starts_shut [] are = tt
starts_shut (slot ∷ slots) are = are.0

not-true : (b : Bool) → not b ≡ true → b ≡ false
not-true true e = absurd (cc)
not-true false e = refl

are_shut : (slots : List (List ℕ)) → list_all shut slots ≡ true → AreShut slots
are_shut [] e = tt
are_shut (slot ∷ slots) e =
    let two = and_parts (shut slot) (list_all shut slots) e in
    (not-true (is_open slot) two.0, are_shut slots two.1)

all_shut : (slots : List (List ℕ)) → AreShut slots → list_all shut slots ≡ true
all_shut [] are = refl
all_shut (slot ∷ slots) are =
    and_from (shut slot) (list_all shut slots) (ap not are.0) (all_shut slots are.1)

open_taken : (slots : List (List ℕ)) → AreOpen (take_while is_open slots)
open_taken [] = tt
open_taken (slot ∷ slots) = elim (cases_Bool (is_open slot)) [
  | inl is ↦
      let now : take_while is_open (slot ∷ slots) ≡ slot ∷ take_while is_open slots =
      take_while-cons is_open slot slots
      ∙ ap (λ (b : Bool). if b then slot ∷ take_while is_open slots else []) is in
      subst AreOpen (sym now) (is, open_taken slots)
  | inr isnt ↦
      let now : take_while is_open (slot ∷ slots) ≡ [] =
      take_while-cons is_open slot slots
      ∙ ap (λ (b : Bool). if b then slot ∷ take_while is_open slots else []) isnt in
      subst AreOpen (sym now) tt
]

taken_front : (slots : List (List ℕ))
    → take (length (take_while is_open slots)) slots ≡ take_while is_open slots
taken_front [] = refl
taken_front (slot ∷ slots) = elim (cases_Bool (is_open slot)) [
  | inl is ↦
      let now : take_while is_open (slot ∷ slots) ≡ slot ∷ take_while is_open slots =
      take_while-cons is_open slot slots
      ∙ ap (λ (b : Bool). if b then slot ∷ take_while is_open slots else []) is in
      ap (λ l. take (length l) (slot ∷ slots)) now ∙ ap (λ l. slot ∷ l) (taken_front slots)
      ∙ sym now
  | inr isnt ↦
      let now : take_while is_open (slot ∷ slots) ≡ [] =
      take_while-cons is_open slot slots
      ∙ ap (λ (b : Bool). if b then slot ∷ take_while is_open slots else []) isnt in
      ap (λ l. take (length l) (slot ∷ slots)) now ∙ sym now
]

-- the open slots of a clean half, and the closed ones behind them
pub record IsSplit (n : ℕ) (slots : List (List ℕ)) : Type 0 where
  -- the slots before the first closed gate are the first n
  pub front_is : take_while is_open slots ≡ take n slots
  -- the first n are open
  pub front : AreOpen (take n slots)
  -- those behind them are closed
  pub back : AreShut (drop n slots)

-- clean gates, n of them open in front: the first n slots are open, the others closed
pub split_at : (n : ℕ) (slots : List (List ℕ)) → length (take_while is_open slots) ≡ n
    → are_gates_clean slots ≡ true
    → IsSplit n slots
split_at n slots count clean =
    let same : take_while is_open slots ≡ take n slots =
    sym (taken_front slots) ∙ ap (λ k. take k slots) count in
    record {
      front_is = same;
      front = subst AreOpen same (open_taken slots);
      back = are_shut (drop n slots) (sym (ap (λ k. list_all shut (drop k slots)) count) ∙ clean);
    }

-- open slots and then closed ones are clean
pub clean_of : (slots front back : List (List ℕ)) → slots ≡ front ++ back → AreOpen front
    → AreShut back
    → (take_while is_open slots ≡ front) × (are_gates_clean slots ≡ true)
clean_of slots front back is are_open are_closed =
    let taken : take_while is_open slots ≡ front =
    ap (λ l. take_while is_open l) is
    ∙ open_then_shut front back are_open (starts_shut back are_closed) in (
      taken,
      ap (λ l. list_all shut (drop (length l) slots)) taken
          ∙ ap (λ l. list_all shut (drop (length front) l)) is
          ∙ ap (λ l. list_all shut l) (drop-append_seam front back) ∙ all_shut back are_closed,
    )

-- what is closed from a slot on
pub shut_from : (slots : List (List ℕ)) (n : ℕ) → n < length slots → AreShut (drop n slots)
    → (is_open (get_or slots n []) ≡ false) × AreShut (drop (suc n) slots)
shut_from slots n lt are = subst AreShut (drop-cons slots n [] lt) are

length-step : (k n : ℕ) (o : Option Record) (rest : Result (List Record) Refusal)
    (records : List Record)
    → ((xs : List Record) → rest ≡ ok xs → n ≡ length xs)
    → ◌>>=◌ (or_damaged k o) (λ x. ◌>>=◌ rest (λ l. ok (x ∷ l))) ≡ ok records
    → suc n ≡ length records
length-step k n None rest records more e = absurd (cc)
length-step k n (Some x) (Err f) records more e = absurd (cc)
length-step k n (Some x) (Ok xs) records more e =
    let is : x ∷ xs ≡ records = cc in ap suc (more xs refl) ∙ ap length is

-- as many records as slots
pub length_read : (read : List ℕ → Option Record) (k : ℕ) (slots : List (List ℕ))
    (records : List Record)
    → records_in read k slots ≡ ok records → length slots ≡ length records
length_read read k [] records e = let is : [] ≡ records = cc in ap length is
length_read read k (slot ∷ slots) records e =
    length-step k (length slots) (read slot) (records_in read (k + 1) slots) records
    (λ xs same. length_read read (k + 1) slots xs same) e
