-- A fold of records, one record after another.
use Rattle.std.proofs.Common.{◌≡◌, ℕ, suc, ◌+◌, ◌<◌, List, [], ◌∷◌, ◌++◌, length, get_or, take, drop}
use Rattle.std.proofs.Common.{Option, Some, None, Result, Ok, Err, refl, sym, ap, ◌∙◌, arith, add-one}
use Rattle.std.proofs.Common.{drop-cons, take-append-drop}
use Rattle.std.proofs.lemmas.List.{drop_all, take_more, length-take-le}
use Rattle.mot_journal.specs.declared.record.Record.{Record}
use Rattle.mot_journal.specs.Faults.{HasListFault}
use Rattle.mot_journal.specs.Image.{catalogue_of, fold_from, or_damaged}
use Rattle.mot_journal.specs.Reason.{BreaksList}
use Rattle.mot_journal.specs.declared.reason.ListFault.{ListFault}
use Rattle.mot_numbers.specs.Refusal.{◌>>=◌}
use Rattle.mot_journal.specs.Catalogue.{Catalogue, catalogue_after, new_catalogue}
use Rattle.mot_numbers.specs.declared.refusal.Refusal.{Refusal}
use Rattle.mot_numbers.specs.declared.refusal.Refusal.TheVariants.{Damaged}

-- a catalogue that was folded
abbrev pub folded : Catalogue → Result Catalogue Refusal
folded c = Ok c

-- the record of this number
pub record IsNext (records : List Record) (number : ℕ) (r : Record) : Type 0 where
  -- there is a record of this number
  pub within : number < length records
  -- it is this record
  pub is : r ≡ get_or records number r

-- the record at as many as were folded is the next one
pub is_next : (records : List Record) (number count : ℕ) (r : Record) → number ≡ count
    → (count < length records) × (r ≡ get_or records count r)
    → IsNext records number r
is_next records number count r same turn = record {
  within = let lt = turn.0 in omega (arith, same, lt);
  is = turn.1 ∙ ap (λ k. get_or records k r) (sym same);
}

first-out : (records : List Record) (number : ℕ) (r : Record) → number < length records
    → r ≡ get_or records number r
    → drop number records ≡ r ∷ drop (number + 1) records
first-out records number r within is =
    rw (add-one, drop-cons records number r) (ap (λ x. x ∷ drop (suc number) records) (sym is))

module _ (limit number : ℕ) (c : Catalogue) (records : List Record) (r : Record)
    (next_is : IsNext records number r) where
  -- a record without a fault of the list lets the fold go on with its catalogue
  pub fold_goes_on : (next : Catalogue) → catalogue_after limit c r ≡ Some next
      → fold_from limit number c (drop number records)
      ≡ fold_from limit (number + 1) next (drop (number + 1) records)
  unfolding fold_from
  fold_goes_on next after =
      ap (fold_from limit number c) (first-out records number r next_is.within next_is.is)
      ∙ ap (λ o. ◌>>=◌ (or_damaged number o)
      (λ n. fold_from limit (number + 1) n (drop (number + 1) records))) after

  -- a record with a fault of the list breaks the fold, with its slot
  pub fold_breaks : catalogue_after limit c r ≡ None
      → fold_from limit number c (drop number records) ≡ Err (Damaged number)
  unfolding fold_from
  fold_breaks after =
      ap (fold_from limit number c) (first-out records number r next_is.within next_is.is)
      ∙ ap (λ o. ◌>>=◌ (or_damaged number o)
      (λ n. fold_from limit (number + 1) n (drop (number + 1) records))) after

fold-more-cases : (limit number : ℕ) (front : List Record) (r : Record) (mid next : Catalogue)
    (o : Option Catalogue)
    → ((k : Catalogue) → fold_from limit (number + 1) k front ≡ Ok mid
    → fold_from limit (number + 1) k (front ++ r ∷ []) ≡ Ok next)
    → ◌>>=◌ (or_damaged number o) (λ n. fold_from limit (number + 1) n front) ≡ Ok mid
    → ◌>>=◌ (or_damaged number o) (λ n. fold_from limit (number + 1) n (front ++ r ∷ []))
    ≡ Ok next
fold-more-cases limit number front r mid next None step e = cc
fold-more-cases limit number front r mid next (Some k) step e = step k e

-- a record without a fault of the list behind those that were folded is folded with them
pub fold_more : (limit number : ℕ) (c mid next : Catalogue) (front : List Record) (r : Record)
    → fold_from limit number c front ≡ Ok mid → catalogue_after limit mid r ≡ Some next
    → fold_from limit number c (front ++ r ∷ []) ≡ Ok next
unfolding fold_from
fold_more limit number c mid next [] r e after =
    let same : c ≡ mid = cc in
    ap (λ k. ◌>>=◌ (or_damaged number (catalogue_after limit k r)) (λ n. folded n)) same
    ∙ ap (λ o. ◌>>=◌ (or_damaged number o) (λ n. folded n)) after
fold_more limit number c mid next (x ∷ front) r e after =
    fold-more-cases limit number front r mid next (catalogue_after limit c x)
    (λ k is. fold_more limit (number + 1) k mid next front r is after) e

-- no record is folded to the catalogue that the fold began with
pub fold_none : (limit number : ℕ) (c : Catalogue) → fold_from limit number c [] ≡ Ok c
unfolding fold_from
fold_none limit number c = refl

module _ (limit number : ℕ) (c : Catalogue) (records : List Record) (r : Record)
    (next_is : IsNext records number r) (so_far : catalogue_of limit (take number records) ≡ Ok c) where
  -- with the next record, so many more are folded
  pub folds_so_far : (next : Catalogue) → catalogue_after limit c r ≡ Some next
      → catalogue_of limit (take (number + 1) records) ≡ Ok next
  folds_so_far next after =
      ap (catalogue_of limit) (take_more records number r next_is.within
      ∙ ap (λ x. take number records ++ x ∷ []) (sym next_is.is))
      ∙ fold_more limit 0 new_catalogue c next (take number records) r so_far after

  -- a fault of the next record breaks the list there
  pub breaks_there : (fault : ListFault) → HasListFault limit c r fault
      → BreaksList limit records number fault
  breaks_there fault has = record {
    front = take number records;
    last = r;
    rest = drop (number + 1) records;
    is = sym (take-append-drop number records)
        ∙ ap (λ l. take number records ++ l)
        (first-out records number r next_is.within next_is.is);
    count = let within = next_is.within in length-take-le number records (omega (arith, within));
    before = c;
    folded = so_far;
    has = has;
  }

-- behind the last record the fold gives its catalogue
pub fold_ends : (limit number : ℕ) (c : Catalogue) (records : List Record) → number ≡ length records
    → fold_from limit number c (drop number records) ≡ Ok c
unfolding fold_from
fold_ends limit number c records end =
    ap (fold_from limit number c) (drop_all number records (omega (arith, end)))
