-- The values of an argument, in what a parse found and in its rows.
use Rattle.std.proofs.Common.{◌≡◌, ◌∙◌, ℕ, Bool, true, false, cond, List, [], ◌∷◌, Option, Some, None}
use Rattle.std.proofs.Common.{map, refl, sym, ap}
use Rattle.std.specs.Prelude.{option_map, option_and_then, find, slice_get}
use Rattle.std.specs.Borrow.{Bor}
use Rattle.std.specs.Str.{bytes_eq}
use Rattle.clap.specs.Words.{Row, all_of, first_of, first_value, matched_of, raw_values, rows_of}
use Rattle.clap.specs.Walk.{row_of}
use Rattle.clap.specs.declared.parser.matches.Found.{Found}
use Rattle.clap.specs.declared.parser.matches.MatchedArg.{MatchedArg}

first_text : (vals : List (Bor (List ℕ)))
    → option_map (λ (s : Bor (List ℕ)). s.now) (slice_get vals 0)
    ≡ slice_get (map (λ (s : Bor (List ℕ)). s.now) vals) 0
first_text [] = refl
first_text (v ∷ vals) = refl

abbrev value_in : Option MatchedArg → Option (List ℕ)
value_in = option_and_then (λ a.
    option_map (λ (s : Bor (List ℕ)). s.now) (slice_get a.vals.items 0))

abbrev value_of_row : Option Row → Option (List ℕ)
value_of_row = option_and_then (λ (r : Row). slice_get r.values 0)

abbrev first_in : Option (List (List ℕ)) → Option (List ℕ)
first_in = option_and_then (λ values. slice_get values 0)

value_first : (a : Option MatchedArg) → value_in a ≡ first_in (option_map raw_values a)
value_first None = refl
value_first (Some a) = first_text a.vals.items

row_first : (r : Option Row) → value_of_row r ≡ first_in (option_map (λ (r : Row). r.values) r)
row_first None = refl
row_first (Some r) = refl

module _ (id : List ℕ) where
  all_step : (b : Bool) (e : Bor (List ℕ) × MatchedArg)
      (found : Option (Bor (List ℕ) × MatchedArg)) (row : Row) (rows : Option Row)
      → row.values ≡ raw_values e.1
      → option_map raw_values (option_map (λ (x : Bor (List ℕ) × MatchedArg). x.1) found)
      ≡ option_map (λ (r : Row). r.values) rows
      → option_map raw_values
      (option_map (λ (x : Bor (List ℕ) × MatchedArg). x.1) (cond b (Some e) found))
      ≡ option_map (λ (r : Row). r.values) (cond b (Some row) rows)
  all_step true e found row rows v h = ap (λ (l : List (List ℕ)). Some l) (sym v)
  all_step false e found row rows v h = h

  entries_all : (es : List (Bor (List ℕ) × MatchedArg))
      → option_map raw_values (option_map (λ (x : Bor (List ℕ) × MatchedArg). x.1)
      (find (λ (x : Bor (List ℕ) × MatchedArg). bytes_eq x.0.now id) es))
      ≡ option_map (λ (r : Row). r.values)
      (find (λ (r : Row). bytes_eq r.id id) (map row_of es))
  entries_all [] = refl
  entries_all (e ∷ es) = all_step (bytes_eq e.0.now id) e
      (find (λ (x : Bor (List ℕ) × MatchedArg). bytes_eq x.0.now id) es) (row_of e)
      (find (λ (r : Row). bytes_eq r.id id) (map row_of es)) refl (entries_all es)

  -- all values that were found of an argument are those in its rows
  pub all_found : (f : Found) → option_map raw_values (matched_of f id) ≡ all_of id (rows_of f)
  all_found f = entries_all f.entries.items

  -- the first value that was found of an argument is the first in its rows
  pub first_found : (f : Found) → first_value f id ≡ first_of id (rows_of f)
  first_found f = value_first (matched_of f id) ∙ ap first_in (all_found f)
      ∙ sym (row_first (find (λ (r : Row). bytes_eq r.id id) (rows_of f)))
