use Rattle.std.proofs.Common.{◌<◌, ◌-◌, List, ℕ, [], ◌∷◌, ◌++◌, length, take, drop, get_or}
use Rattle.std.proofs.Common.{refl, ap, ◌∙◌, arith}
use Rattle.mot_base.specs.Checksum.{bits_of_bytes}
use Rattle.mot_base.proofs.Division.{eight_front}
use Rattle.mot_base.proofs.Words.{eight_small, next_word}
use Rattle.mot_base.proofs.checksum.cut_word.Goals as goal

pub returns-in-len8-up-clause-bits : goal.returns-in-len8-up-clause-bits
returns-in-len8-up-clause-bits c = λ tail.
    let bytes : List ℕ = c.args.bytes.now in
    let others : List ℕ = take (length bytes - 8) (drop 8 bytes) in
    let eight : List ℕ = get_or bytes 0 0 ∷ get_or bytes 1 0 ∷ get_or bytes 2 0 ∷ get_or bytes 3 0
    ∷ get_or bytes 4 0 ∷ get_or bytes 5 0 ∷ get_or bytes 6 0 ∷ get_or bytes 7 0 ∷ [] in
    let small : (i : ℕ) → get_or eight i 0 < 256 =
    eight_small (get_or bytes 0 0) (get_or bytes 1 0) (get_or bytes 2 0) (get_or bytes 3 0)
    (get_or bytes 4 0) (get_or bytes 5 0) (get_or bytes 6 0) (get_or bytes 7 0)
    (omega arith) (omega arith) (omega arith) (omega arith)
    (omega arith) (omega arith) (omega arith) (omega arith) in
    ap (λ l. bits_of_bytes l ++ tail) (eight_front bytes c.in-len8-up.len_at_least)
    ∙ next_word c.from_le_bytes-word.result eight others tail refl small
    c.from_le_bytes-word.ensures
