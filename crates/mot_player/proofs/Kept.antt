-- The content of the group that was begun last, by its two parts.
use Rattle.std.proofs.Common.{◌≡◌, ℕ, ◌+◌, ◌%◌, Bool, false, ◌&&◌, List, [], ◌∷◌, ◌++◌, length}
use Rattle.std.proofs.Common.{refl, arith}
use Rattle.std.proofs.lemmas.Bool.{eqb-false}
use Rattle.std.specs.Prelude.{◌==◌, bytes_eq, vec_len}
use Rattle.mot_numbers.proofs.Laws.{is_empty-some}
use Rattle.mot_player.specs.PlayerView.{kept_last}
use Rattle.mot_player.specs.Place.{next_index}
use Rattle.mot_player.specs.declared.groups.LastGroup.{LastGroup}

both-first : (first second third : Bool)
    → ((first && second) && third) ≡ (first && (second && third))
both-first first second third = grind arith

bytes_eq-parts : (a b x y : List ℕ) → length a ≡ length b →
    bytes_eq (a ++ x) (b ++ y) ≡ (bytes_eq a b && bytes_eq x y)
bytes_eq-parts [] [] x y e = refl
bytes_eq-parts [] (b ∷ bs) x y e = absurd (omega (arith, e))
bytes_eq-parts (a ∷ as') [] x y e = absurd (omega (arith, e))
bytes_eq-parts (a ∷ as') (b ∷ bs) x y e =
    grind (arith, bytes_eq-parts as' bs x y (omega (arith, e)))

-- a content that differs in one of its parts gets the next index
pub index-of_other : (kept : LastGroup) (front segment : List ℕ) (one other : Bool) →
    length kept.front ≡ length front → (vec_len kept.segment == 0) ≡ false →
    bytes_eq kept.front front ≡ one → bytes_eq kept.segment.items segment ≡ other →
    (one && other) ≡ false → (kept.index + 1) % 16 ≡ next_index (kept_last kept) (front ++ segment)
index-of_other kept front segment one other l some f s d =
    grind (arith, eqb-false, is_empty-some, bytes_eq-parts)
