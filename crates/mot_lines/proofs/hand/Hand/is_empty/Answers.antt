use Rattle.std.proofs.Common.{◌≡◌, ◌∙◌, ◌+◌, ℕ, List, [], sym, ap, length, take, vec_len}
use Rattle.std.proofs.Common.{arith, rules}
use Rattle.std.proofs.lemmas.Bool.{eqb-true, eq-eqb}
use Rattle.std.proofs.lemmas.List.{length-take, nil_from_length}
use Rattle.mot_lines.proofs.hand.Hand.is_empty.Goals as goal

-- of what line nothing is kept
none_kept : (n : ℕ) (line : List ℕ) → length (take (n + 1) line) ≡ 0 → line ≡ []
none_kept n line e = nil_from_length line (omega (arith, e, length-take (n + 1) line))

pub returns : goal.returns
returns c = λ line is.
    let bytes = c.self.inside.bytes in
    let kept : vec_len bytes ≡ length (take 530001 line) =
    search rules ∙ ap length (c.self.view_is ∙ is) in (
      λ empty. none_kept 530000 line
          (sym kept ∙ eqb-true (vec_len bytes) 0 (sym c.is_empty.ensures ∙ empty)),
      λ e. c.is_empty.ensures
          ∙ eq-eqb (vec_len bytes) 0 (kept ∙ ap (λ l. length (take 530001 l)) e),
    )
