-- The bytes that are appended in turn are those of the group.
use Rattle.std.proofs.Common.{◌≡◌, ℕ, ◌+◌, ◌-◌, ◌*◌, ◌%◌, ◌<◌, List, [], ◌∷◌, ◌++◌, refl, length}
use Rattle.std.proofs.Common.{take, drop, arith, append_assoc, length-append}
use Rattle.std.proofs.Math.Seq.{drop-append_seam}
use Rattle.std.proofs.lemmas.Grind.{numeral_or}
use Rattle.std.proofs.lemmas.List.{take_all}
use Rattle.std.specs.Int.RustNames.{bit_or}

-- two bytes of a header, and what comes behind them, appended in turn are the group's
pub header-appended : (out head segment : List ℕ) (kind index : ℕ) → kind < 16 → index < 16 →
    out ++ bit_or 112 kind ∷ (index * 16 % 256) ∷ [] ++ head ++ segment
    ≡ out ++ ((112 + kind) ∷ (16 * index) ∷ (head ++ segment))
header-appended out head segment kind index k i =
    let first : bit_or 112 kind ≡ 112 + kind = numeral_or 111 kind refl k in
    let second : index * 16 % 256 ≡ 16 * index = omega arith in
    rw (first, second) (simp append_assoc)

-- what stands behind the old bytes
pub rest_of-append : (out more : List ℕ) (start : ℕ) → start ≡ length out →
    take (length (out ++ more) - start) (drop start (out ++ more)) ≡ more
rest_of-append out more start e =
    rw (e, drop-append_seam out more)
    (take_all (length (out ++ more) - length out) more (omega (arith, length-append out more)))
