use Rattle.std.proofs.Common.{◌≡◌, ◌<◌, ℕ, List, [], ◌∷◌, arith, ltb-true, subst, suc, sym, zero}
use Rattle.std.proofs.lemmas.Bool.{and_parts}
use Rattle.std.proofs.lemmas.Str.{IsUtf8-from_ascii}
use Rattle.std.specs.List.{AllPass}
use Rattle.std.specs.Prelude.{◌&&◌, IsAscii, IsUtf8, nat_lt, true}
use Rattle.mot_commands.proofs.shown.mime_value.Goals as goal

one : (b : ℕ) → (nat_lt 32 b && nat_lt b 127) ≡ true → b < 128
one b e = let below : b < 127 = ltb-true b 127 (and_parts _ _ e).1 in omega arith

ascii : (bytes : List ℕ) → AllPass (λ b. nat_lt 32 b && nat_lt b 127) bytes → IsAscii bytes
ascii [] passes i = omega arith
ascii (b ∷ bytes) passes zero = one b (passes 0 b (omega arith))
ascii (b ∷ bytes) passes (suc i) =
    ascii bytes (λ k d l. passes (suc k) d (omega (arith, l))) i

pub of_bytes-requires : goal.of_bytes-requires
of_bytes-requires c =
    subst IsUtf8 (sym c.as_bytes.ensures.value)
    (IsUtf8-from_ascii c.in-Some.mime (ascii c.in-Some.mime c.as_bytes.ensures.rule.printed))
