-- All of a list that was read in one piece.
use Rattle.std.proofs.Common.{◌≡◌, ◌∙◌, ◌≤◌, ◌+◌, ◌-◌, ℕ, List, ◌++◌, ap, arith, drop, length}
use Rattle.std.proofs.Common.{take}
use Rattle.std.proofs.lemmas.List.{take-append-le, take_all}
use Rattle.std.specs.Prelude.{slice_range}

-- a room that is as long as the list has all of it
pub read_all : (body out room : List ℕ) → length room ≡ length body
    → out ≡ slice_range body 0 (0 + length room) → out ≡ body
read_all body out room same is =
    let size : 0 + length room - 0 ≡ length body = omega arith in
    is ∙ ap (λ n. take n (drop 0 body)) size ∙ take_all (length body) body (omega arith)

-- and what stands before what is left of other bytes of that length
pub whole_again : (out body items : List ℕ) (n : ℕ) → out ≡ body → n ≡ length body
    → take n (out ++ drop (length out) items) ≡ body
whole_again out body items n is size =
    let long : n ≤ length out = omega (arith, ap length is) in
    rw take-append-le (take_all n out (omega (arith, ap length is)) ∙ is)
