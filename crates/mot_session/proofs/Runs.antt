-- The line in hand, as bytes of the input come.
use Rattle.std.proofs.Common.{◌≡◌, ℕ, ◌+◌, List, [], ◌∷◌, ◌++◌, length, sym, ap, ◌∙◌, arith}
use Rattle.std.proofs.Common.{length-append}
use Rattle.mot_lines.specs.Lines.{bytes_in_hand, HasNoLineEnd, rest_of}
use Rattle.mot_lines.proofs.Laws.{whole_lines-none, rest_of-none, whole_lines-end, rest_of-end}
use Rattle.mot_lines.proofs.Laws.{whole_lines-within, rest_of-within}
use Rattle.mot_session.specs.Inner.Writes.{InHand}

-- of no input nothing is in hand, and no lines are counted
pub InHand-none : (hand : List ℕ) → hand ≡ bytes_in_hand [] → InHand [] hand 0
InHand-none hand h = record {
  rest = h ∙ ap bytes_in_hand (sym rest_of-none);
  counted = ap length (sym whole_lines-none);
}

module _ (xs : List ℕ) (hand : List ℕ) (count : ℕ) (is : InHand xs hand count) where
  -- more bytes of a line came
  pub InHand-within : (ys : List ℕ) (next : List ℕ) → HasNoLineEnd ys
      → next ≡ bytes_in_hand (rest_of xs ++ ys) → InHand (xs ++ ys) next count
  InHand-within ys next none h = record {
    rest = h ∙ ap bytes_in_hand (sym (rest_of-within xs ys none));
    counted = is.counted ∙ ap length (sym (whole_lines-within xs ys none));
  }

  -- a line ended
  pub InHand-end : (next : List ℕ) → next ≡ bytes_in_hand []
      → InHand (xs ++ 10 ∷ []) next (count + 1)
  InHand-end next h = record {
    rest = h ∙ ap bytes_in_hand (sym (rest_of-end xs));
    counted = let c = is.counted in rw (whole_lines-end, length-append) (omega arith);
  }
