use Rattle.std.proofs.Common.{ℕ, List, [], ◌∷◌, ◌≡◌, ◌≤◌, length, take, refl, set, arith, inr}
use Rattle.mot_line_folder.proofs.spool.Spool.end_torn.Goals as goal

torn_end : (room : List ℕ) → 2 ≤ length room → take 2 (set (set room 0 13) 1 10) ≡ 13 ∷ 10 ∷ []
torn_end [] few = absurd (omega (arith, few))
torn_end (x ∷ []) few = absurd (omega (arith, few))
torn_end (x ∷ y ∷ room) few = refl

pub returns-clause-ends : goal.returns-clause-ends
returns-clause-ends g c = inr (torn_end c.args.buf.now c.if-buf-lt2.false)
