-- The records of slots: one more open gate, and slots as they are written.
use Rattle.std.proofs.Common.{◌≡◌, ℕ, ◌+◌, Bool, true, false, List, [], ◌∷◌, ◌++◌, map, length}
use Rattle.std.proofs.Common.{Option, Some, None, Result, Ok, Err, refl, ◌∙◌, ap, arith}
use Rattle.std.proofs.Common.{append-nil}
use Rattle.std.specs.Prelude.{if◌then◌else◌, take_while}
use Rattle.std.proofs.lemmas.List.Sums.{take_while-cons}
use Rattle.mot_journal.specs.declared.layout.Layout.{Layout}
use Rattle.mot_journal.specs.declared.record.Record.{Record}
use Rattle.mot_journal.specs.Slot.{bytes_of_slot, is_open}
use Rattle.mot_journal.specs.Image.{or_damaged}
use Rattle.mot_numbers.specs.Refusal.{◌>>=◌}
use Rattle.mot_journal.specs.Image.{records_in}
use Rattle.mot_journal.proofs.Written.{written_is_open}
use Rattle.mot_numbers.specs.declared.refusal.Refusal.{Refusal}
use Rattle.mot_numbers.specs.declared.refusal.Refusal.TheVariants.{Damaged}

-- records that were read
abbrev pub ok : List Record → Result (List Record) Refusal
ok records = Ok records

more-step : (k : ℕ) (o : Option Record) (rest rest' : Result (List Record) Refusal)
    (records : List Record) (r : Record)
    → ((xs : List Record) → rest ≡ ok xs → rest' ≡ ok (xs ++ r ∷ []))
    → ◌>>=◌ (or_damaged k o) (λ x. ◌>>=◌ rest (λ l. ok (x ∷ l))) ≡ ok records
    → ◌>>=◌ (or_damaged k o) (λ x. ◌>>=◌ rest' (λ l. ok (x ∷ l)))
    ≡ ok (records ++ r ∷ [])
more-step k None rest rest' records r more e = cc
more-step k (Some x) (Err f) rest' records r more e = cc
more-step k (Some x) (Ok xs) rest' records r more e =
    let is : x ∷ xs ≡ records = cc in
    ap (λ q. ◌>>=◌ q (λ l. ok (x ∷ l))) (more xs refl) ∙ ap (λ l. ok (l ++ r ∷ [])) is

-- one slot more that reads is one record more
pub records_more : (read : List ℕ → Option Record) (k : ℕ) (front : List (List ℕ)) (slot : List ℕ)
    (records : List Record) (r : Record)
    → records_in read k front ≡ Ok records → read slot ≡ Some r
    → records_in read k (front ++ slot ∷ []) ≡ Ok (records ++ r ∷ [])
records_more read k [] slot records r e is =
    let none : [] ≡ records = cc in
    ap (λ o. ◌>>=◌ (or_damaged k o) (λ x. ok (x ∷ []))) is ∙ ap (λ l. ok (l ++ r ∷ [])) none
records_more read k (s ∷ front) slot records r e is =
    more-step k (read s) (records_in read (k + 1) front)
    (records_in read (k + 1) (front ++ slot ∷ [])) records r
    (λ xs same. records_more read (k + 1) front slot xs r same is) e

fault-step : (k n : ℕ) (o : Option Record) (rest rest' : Result (List Record) Refusal)
    (records : List Record)
    → ((xs : List Record) → rest ≡ ok xs → rest' ≡ Err (Damaged n))
    → ◌>>=◌ (or_damaged k o) (λ x. ◌>>=◌ rest (λ l. ok (x ∷ l))) ≡ ok records
    → ◌>>=◌ (or_damaged k o) (λ x. ◌>>=◌ rest' (λ l. ok (x ∷ l))) ≡ Err (Damaged n)
fault-step k n None rest rest' records more e = cc
fault-step k n (Some x) (Err f) rest' records more e = cc
fault-step k n (Some x) (Ok xs) rest' records more e =
    ap (λ q. ◌>>=◌ q (λ l. ok (x ∷ l))) (more xs refl)

-- the first slot with a fault is named
pub records_fault : (read : List ℕ → Option Record) (k : ℕ) (front : List (List ℕ)) (slot : List ℕ)
    (back : List (List ℕ)) (records : List Record)
    → records_in read k front ≡ Ok records → read slot ≡ None
    → records_in read k (front ++ slot ∷ back) ≡ Err (Damaged (k + length front))
records_fault read k [] slot back records e is =
    let here : k ≡ k + 0 = omega arith in
    ap (λ o. ◌>>=◌ (or_damaged k o)
    (λ x. ◌>>=◌ (records_in read (k + 1) back) (λ l. ok (x ∷ l)))) is
    ∙ ap (λ n. let f : Result (List Record) Refusal = Err (Damaged n) in f) here
records_fault read k (s ∷ front) slot back records e is =
    let there : k + 1 + length front ≡ k + length (s ∷ front) = omega arith in
    fault-step k (k + length (s ∷ front)) (read s) (records_in read (k + 1) front)
    (records_in read (k + 1) (front ++ slot ∷ back)) records
    (λ xs same. records_fault read (k + 1) front slot back xs same is
    ∙ ap (λ n. let f : Result (List Record) Refusal = Err (Damaged n) in f) there) e

-- the gate of each slot is open
abbrev pub AreOpen : List (List ℕ) → Type 0
AreOpen [] = Unit {0}
AreOpen (slot ∷ slots) = (is_open slot ≡ true) × AreOpen slots

-- there is none, or the first is closed
abbrev pub StartsShut : List (List ℕ) → Type 0
StartsShut [] = Unit {0}
StartsShut (slot ∷ slots) = is_open slot ≡ false

-- open slots in front are taken whole, and then what is taken of those behind them
pub open_front : (front back : List (List ℕ)) → AreOpen front
    → take_while is_open (front ++ back) ≡ front ++ take_while is_open back
open_front [] back are = refl
open_front (slot ∷ front) back are =
    take_while-cons is_open slot (front ++ back)
    ∙ ap (λ (b : Bool). if b then slot ∷ take_while is_open (front ++ back) else []) are.0
    ∙ ap (λ (l : List (List ℕ)). slot ∷ l) (open_front front back are.1)

pub shut_back : (back : List (List ℕ)) → StartsShut back → take_while is_open back ≡ []
shut_back [] shut = refl
shut_back (slot ∷ back) shut =
    take_while-cons is_open slot back
    ∙ ap (λ (b : Bool). if b then slot ∷ take_while is_open back else []) shut

-- of open slots, and then none or a closed one, just the open ones are taken
pub open_then_shut : (front back : List (List ℕ)) → AreOpen front → StartsShut back
    → take_while is_open (front ++ back) ≡ front
open_then_shut front back are shut =
    open_front front back are ∙ ap (λ l. front ++ l) (shut_back back shut) ∙ append-nil front

-- one open slot more behind open slots
pub are_open_more : (front : List (List ℕ)) (slot : List ℕ) → AreOpen front → is_open slot ≡ true
    → AreOpen (front ++ slot ∷ [])
are_open_more [] slot are is = (is, tt)
are_open_more (s ∷ front) slot are is = (are.0, are_open_more front slot are.1 is)

-- the slots of records, as they are written, are open
pub written_open : (layout : Layout) (records : List Record)
    → AreOpen (map (bytes_of_slot layout) records)
written_open layout [] = tt
written_open layout (r ∷ records) = (written_is_open layout r, written_open layout records)
