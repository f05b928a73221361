-- The lines of an input that grows.
use Rattle.std.proofs.Common.{◌≡◌, ℕ, ◌<◌, Bool, true, false, cond, List, [], ◌∷◌, ◌++◌, length}
use Rattle.std.proofs.Common.{refl, sym, ap, ◌∙◌, arith, append_assoc, append-nil}
use Rattle.std.specs.Prelude.{nat_eq}
use Rattle.std.specs.List.{onto_first}
use Rattle.mot_groups.specs.Entity.{all_but_last}
use Rattle.mot_lines.specs.Lines.{pieces_between, last_of, whole_lines, rest_of}
use Rattle.mot_lines.specs.Lines.{lines_of, unless_empty}
use Rattle.mot_lines.specs.Lines.{HasNoLineEnd}
use Rattle.std.proofs.lemmas.Bool.{eqb-true}
use Rattle.std.proofs.lemmas.List.Elements.{All-head, All-tail}

all_but_last-push : (ps : List (List ℕ)) (q : List ℕ) → all_but_last (ps ++ q ∷ []) ≡ ps
all_but_last-push [] q = refl
all_but_last-push (x ∷ []) q = refl
all_but_last-push (x ∷ y ∷ zs) q = ap (λ l. x ∷ l) (all_but_last-push (y ∷ zs) q)

last_of-push : (ps : List (List ℕ)) (q : List ℕ) → last_of (ps ++ q ∷ []) ≡ q
last_of-push [] q = refl
last_of-push (x ∷ []) q = refl
last_of-push (x ∷ y ∷ zs) q = last_of-push (y ∷ zs) q

all_but_last_and_last : (ps : List (List ℕ)) → 0 < length ps
    → all_but_last ps ++ last_of ps ∷ [] ≡ ps
all_but_last_and_last [] h = absurd (omega arith)
all_but_last_and_last (x ∷ []) h = refl
all_but_last_and_last (x ∷ y ∷ zs) h =
    ap (λ l. x ∷ l) (all_but_last_and_last (y ∷ zs) (omega arith))

some_first : (x : ℕ) (ps : List (List ℕ)) → 0 < length (onto_first x ps)
some_first x [] = omega arith
some_first x (p ∷ ps) = omega arith

some_cond : (b : Bool) (ps qs : List (List ℕ)) → 0 < length qs → 0 < length (cond b ([] ∷ ps) qs)
some_cond true ps qs h = omega arith
some_cond false ps qs h = h

-- there is always a piece
pub some_piece : (xs : List ℕ) → 0 < length (pieces_between xs)
some_piece [] = omega arith
some_piece (x ∷ xs) = some_cond (nat_eq x 10) (pieces_between xs) (onto_first x (pieces_between xs))
    (some_first x (pieces_between xs))

end_step : (b : Bool) (x : ℕ) (ps : List (List ℕ)) → 0 < length ps
    → cond b ([] ∷ (ps ++ [] ∷ [])) (onto_first x (ps ++ [] ∷ []))
    ≡ cond b ([] ∷ ps) (onto_first x ps) ++ [] ∷ []
end_step b x [] h = absurd (omega arith)
end_step true x (p ∷ ps) h = refl
end_step false x (p ∷ ps) h = refl

-- after a line end
pieces_end : (xs : List ℕ) → pieces_between (xs ++ 10 ∷ []) ≡ pieces_between xs ++ [] ∷ []
pieces_end [] = refl
pieces_end (x ∷ xs) = ap (λ l. cond (nat_eq x 10) ([] ∷ l) (onto_first x l)) (pieces_end xs)
    ∙ end_step (nat_eq x 10) x (pieces_between xs) (some_piece xs)

more_step : (b : Bool) (x c : ℕ) (ps : List (List ℕ)) → 0 < length ps
    → cond b ([] ∷ (all_but_last ps ++ (last_of ps ++ c ∷ []) ∷ []))
    (onto_first x (all_but_last ps ++ (last_of ps ++ c ∷ []) ∷ []))
    ≡ all_but_last (cond b ([] ∷ ps) (onto_first x ps)) ++
    (last_of (cond b ([] ∷ ps) (onto_first x ps)) ++ c ∷ []) ∷ []
more_step b x c [] h = absurd (omega arith)
more_step true x c (p ∷ ps) h = refl
more_step false x c (p ∷ []) h = refl
more_step false x c (p ∷ q ∷ ps) h = refl

-- after another byte
pieces_more : (xs : List ℕ) (c : ℕ) → nat_eq c 10 ≡ false
    → pieces_between (xs ++ c ∷ [])
    ≡ all_but_last (pieces_between xs) ++ (last_of (pieces_between xs) ++ c ∷ []) ∷ []
pieces_more [] c h = ap (λ b. cond b ([] ∷ [] ∷ []) ((c ∷ []) ∷ [])) h
pieces_more (x ∷ xs) c h =
    ap (λ l. cond (nat_eq x 10) ([] ∷ l) (onto_first x l)) (pieces_more xs c h)
    ∙ more_step (nat_eq x 10) x c (pieces_between xs) (some_piece xs)

-- a line's end makes one whole line more, of what was left over
pub whole_end : (xs : List ℕ) → whole_lines (xs ++ 10 ∷ []) ≡ whole_lines xs ++ rest_of xs ∷ []
unfolding whole_lines rest_of
whole_end xs = ap all_but_last (pieces_end xs) ∙ all_but_last-push (pieces_between xs) []
    ∙ sym (all_but_last_and_last (pieces_between xs) (some_piece xs))

-- behind a line's end nothing is left over
pub rest_end : (xs : List ℕ) → rest_of (xs ++ 10 ∷ []) ≡ []
unfolding rest_of
rest_end xs = ap last_of (pieces_end xs) ∙ last_of-push (pieces_between xs) []

whole_more : (xs : List ℕ) (c : ℕ) → nat_eq c 10 ≡ false
    → whole_lines (xs ++ c ∷ []) ≡ whole_lines xs
unfolding whole_lines
whole_more xs c h = ap all_but_last (pieces_more xs c h)
    ∙ all_but_last-push (all_but_last (pieces_between xs)) (last_of (pieces_between xs) ++ c ∷ [])

rest_more : (xs : List ℕ) (c : ℕ) → nat_eq c 10 ≡ false
    → rest_of (xs ++ c ∷ []) ≡ rest_of xs ++ c ∷ []
unfolding rest_of
rest_more xs c h = ap last_of (pieces_more xs c h)
    ∙ last_of-push (all_but_last (pieces_between xs)) (last_of (pieces_between xs) ++ c ∷ [])

-- after more bytes of a line
pub whole_within : (xs ys : List ℕ) → HasNoLineEnd ys
    → whole_lines (xs ++ ys) ≡ whole_lines xs
whole_within xs [] h = ap whole_lines (append-nil xs)
whole_within xs (y ∷ ys) h =
    ap whole_lines (sym (append_assoc xs (y ∷ []) ys))
    ∙ whole_within (xs ++ y ∷ []) ys (All-tail (λ b. nat_eq b 10 ≡ false) y ys h)
    ∙ whole_more xs y (All-head (λ b. nat_eq b 10 ≡ false) y ys h)

-- bytes without a line's end are left over behind what was
pub rest_within : (xs ys : List ℕ) → HasNoLineEnd ys → rest_of (xs ++ ys) ≡ rest_of xs ++ ys
rest_within xs [] h = ap rest_of (append-nil xs) ∙ sym (append-nil (rest_of xs))
rest_within xs (y ∷ ys) h =
    ap rest_of (sym (append_assoc xs (y ∷ []) ys))
    ∙ rest_within (xs ++ y ∷ []) ys (All-tail (λ b. nat_eq b 10 ≡ false) y ys h)
    ∙ ap (λ l. l ++ ys) (rest_more xs y (All-head (λ b. nat_eq b 10 ≡ false) y ys h))
    ∙ append_assoc (rest_of xs) (y ∷ []) ys

one_more : (b : Bool) (xs : List ℕ) (c : ℕ) → nat_eq c 10 ≡ b
    → (extra : List (List ℕ)) × (whole_lines (xs ++ c ∷ []) ≡ whole_lines xs ++ extra)
one_more true xs c h = (
  rest_of xs ∷ [],
  ap (λ x. whole_lines (xs ++ x ∷ [])) (eqb-true c 10 h)
      ∙ whole_end xs,
)
one_more false xs c h = ([], whole_more xs c h ∙ sym (append-nil (whole_lines xs)))

-- the whole lines of a front are a front of the whole lines
pub whole_front : (xs ys : List ℕ) → (extra : List (List ℕ))
    × (whole_lines (xs ++ ys) ≡ whole_lines xs ++ extra)
whole_front xs [] = ([], ap whole_lines (append-nil xs) ∙ sym (append-nil (whole_lines xs)))
whole_front xs (y ∷ ys) =
    let first = one_more (nat_eq y 10) xs y refl in
    let rest = whole_front (xs ++ y ∷ []) ys in (
      first.0 ++ rest.0,
      ap whole_lines (sym (append_assoc xs (y ∷ []) ys)) ∙ rest.1
          ∙ ap (λ l. l ++ rest.0) first.1 ∙ append_assoc (whole_lines xs) first.0 rest.0,
    )

-- of no input there are no whole lines
pub no_lines : whole_lines [] ≡ []
unfolding whole_lines
no_lines = refl

-- of no input nothing is left over
pub no_rest : rest_of [] ≡ []
unfolding rest_of
no_rest = refl

-- the lines of an input that ends with one are the whole ones
pub lines_empty : (xs : List ℕ) → rest_of xs ≡ [] → lines_of xs ≡ whole_lines xs
unfolding lines_of
lines_empty xs h = ap (λ l. whole_lines xs ++ unless_empty l) h ∙ append-nil (whole_lines xs)

unless_some : (l : List ℕ) → (l ≡ [] → ⊥) → unless_empty l ≡ l ∷ []
unless_some [] h = absurd (h refl)
unless_some (x ∷ l) h = refl

-- the lines of an input that ends within one are the whole ones, and what is left over
pub lines_last : (xs : List ℕ) → (rest_of xs ≡ [] → ⊥)
    → lines_of xs ≡ whole_lines xs ++ rest_of xs ∷ []
unfolding lines_of
lines_last xs h = ap (λ l. whole_lines xs ++ l) (unless_some (rest_of xs) h)
