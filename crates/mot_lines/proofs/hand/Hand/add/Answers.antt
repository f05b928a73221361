use Rattle.std.proofs.Common.{◌≡◌, ◌∙◌, ◌+◌, ◌-◌, ◌<◌, ◌++◌, List, ℕ, min, Bool, true, false}
use Rattle.std.proofs.Common.{refl, sym, ap, length, take, append-nil, vec_len, arith, rules}
use Rattle.std.proofs.Math.Seq.{take-append-add}
use Rattle.std.proofs.lemmas.Bool.{leb-true, leb-false}
use Rattle.std.proofs.lemmas.List.{length-take, take-append-le, take_all, take_min}
use Rattle.std.specs.Prelude.{nat_le}
use Rattle.mot_lines.proofs.hand.Hand.add.Goals as goal

module _ (n count : ℕ) (line more : List ℕ)
    (is : count ≡ min (length more) (n - length (take n line))) where
  -- there is room for some of them
  room_left : (left : ℕ) → length line + left ≡ n
      → take n line ++ take count more ≡ take n (line ++ more)
  room_left left e =
      let all : take n line ≡ line = take_all n line (omega (arith, e)) in
      let so : count ≡ min left (length more) = omega (arith, is, ap length all, e) in
      ap (λ l. l ++ take count more) all
      ∙ ap (λ l. line ++ l) (ap (λ i. take i more) so ∙ take_min left more)
      ∙ sym (ap (λ i. take i (line ++ more)) (sym e) ∙ take-append-add line more left)

  -- there is none
  full : n < length line → take n line ++ take count more ≡ take n (line ++ more)
  full long =
      let none : count ≡ 0 = omega (arith, is, length-take n line, long) in
      ap (λ i. take n line ++ take i more) none ∙ append-nil (take n line)
      ∙ sym (take-append-le n line more (omega (arith, long)))

  added-cases : (b : Bool) → nat_le (length line) n ≡ b
      → take n line ++ take count more ≡ take n (line ++ more)
  added-cases true e = let short = leb-true (length line) n e in
      room_left (n - length line) (omega (arith, short))
  added-cases false e = full (leb-false (length line) n e)

  added : take n line ++ take count more ≡ take n (line ++ more)
  added = added-cases (nat_le (length line) n) refl

pub returns : goal.returns
returns c = λ line is.
    let bytes = c.self.inside.bytes in
    let kept : bytes.items ≡ take 530001 line = c.self.view_is ∙ is in
    let len : vec_len bytes ≡ length bytes.items = search rules in
    let count = c.min-count.ensures
    ∙ ap (λ k. min (length c.args.bytes.now) (530001 - k)) (c.len.ensures ∙ len ∙ ap length kept) in
    (rw c.unwrap.ensures at c.extend_from_slice.ensures.items)
    ∙ ap (λ l. l ++ take c.min-count.result c.args.bytes.now) kept
    ∙ added 530001 c.min-count.result line c.args.bytes.now count
