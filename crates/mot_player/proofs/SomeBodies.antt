-- There are bodies of a turn's lengths with given bytes at a place of one of them.
use Rattle.std.proofs.Common.{◌≡◌, ℕ, zero, suc, ◌+◌, ◌-◌, ◌<◌, ◌≤◌, List, [], ◌∷◌, ◌++◌, refl, sym}
use Rattle.std.proofs.Common.{ap, ◌∙◌, arith, length, length-append, map, take, drop}
use Rattle.std.proofs.lemmas.Bool.{ne_eqb}
use Rattle.std.proofs.lemmas.List.{length-replicate}
use Rattle.std.specs.Prelude.{replicate, slice_index}
use Rattle.mot_player.specs.Turn.{body_at}
use Rattle.mot_player.specs.Laws.{blank_bodies}
use Rattle.mot_player.specs.PlayerView.{AreBodiesFor, BodyPlan, TurnPlan}
use Rattle.mot_player.specs.Inner.Entities.{entity_bytes, entity_length}
use Rattle.mot_player.proofs.Nearer.{are-blank, blank-lengths}

-- so many bytes, with the given ones at a place
abbrev padded : ℕ → ℕ → List ℕ → List ℕ
padded total before bytes =
    replicate before 0 ++ (bytes ++ replicate (total - (before + length bytes)) 0)

length-padded : (total before : ℕ) (bytes : List ℕ) → before + length bytes ≤ total →
    length (padded total before bytes) ≡ total
length-padded total before bytes fits =
    grind (arith, length-append, length-replicate)

drop-zeros : (count : ℕ) (behind : List ℕ) → drop count (replicate count 0 ++ behind) ≡ behind
drop-zeros zero behind = refl
drop-zeros (suc count) behind = drop-zeros count behind

take-front : (front behind : List ℕ) → take (length front) (front ++ behind) ≡ front
take-front [] behind = refl
take-front (x ∷ front) behind = ap (λ xs. x ∷ xs) (take-front front behind)

part-padded : (total before : ℕ) (bytes : List ℕ) →
    take (length bytes) (drop before (padded total before bytes)) ≡ bytes
part-padded total before bytes = grind (arith, drop-zeros, take-front)

-- zeros in all bodies but one, which has the bytes
abbrev with_part : List BodyPlan → ℕ → ℕ → List ℕ → List (List ℕ)
with_part [] k from bytes = []
with_part (b ∷ plans) zero from bytes =
    padded b.length from bytes ∷ map (λ (p : BodyPlan). replicate p.length 0) plans
with_part (b ∷ plans) (suc k) from bytes =
    replicate b.length 0 ∷ with_part plans k from bytes

lengths-with_part : (plans : List BodyPlan) (k from : ℕ) (bytes : List ℕ) → k < length plans →
    from + length bytes ≤ slice_index (map (λ (b : BodyPlan). b.length) plans) k →
    map (length {A = ℕ}) (with_part plans k from bytes) ≡ map (λ (b : BodyPlan). b.length) plans
lengths-with_part [] k from bytes within fits = refl
lengths-with_part (b ∷ plans) zero from bytes within fits =
    let others : List (List ℕ) = map (λ (p : BodyPlan). replicate {A = ℕ} p.length 0) plans in
    ap (λ (n : ℕ). n ∷ map (length {A = ℕ}) others) (length-padded b.length from bytes fits)
    ∙ ap (λ ns. b.length ∷ ns) (blank-lengths plans)
lengths-with_part (b ∷ plans) (suc k) from bytes within fits =
    let others : List (List ℕ) = with_part plans k from bytes in
    ap (λ (n : ℕ). n ∷ map (length {A = ℕ}) others) (length-replicate {A = ℕ} b.length 0)
    ∙ ap (λ ns. b.length ∷ ns) (lengths-with_part plans k from bytes (omega (arith, within)) fits)

body-with_part : (plans : List BodyPlan) (k from : ℕ) (bytes : List ℕ) → k < length plans →
    take (length bytes) (drop from (body_at (with_part plans k from bytes) k)) ≡ bytes
body-with_part [] k from bytes within = absurd (omega (arith, within))
body-with_part (b ∷ plans) zero from bytes within = part-padded b.length from bytes
body-with_part (b ∷ plans) (suc k) from bytes within =
    body-with_part plans k from bytes (omega (arith, within))

-- of the directory the bytes are its own
pub some_bodies : (plan : TurnPlan) (entity from : ℕ) (bytes : List ℕ) →
    entity < length plan.bodies + 1 → from + length bytes ≤ entity_length plan entity →
    (entity ≡ 0 → bytes ≡ take (length bytes) (drop from plan.directory)) →
    (some : List (List ℕ)) × AreBodiesFor plan some
    × (bytes ≡ take (length bytes) (drop from (entity_bytes plan some entity)))
some_bodies plan zero from bytes within fits own =
    (blank_bodies plan, are-blank plan, own refl)
some_bodies plan (suc k) from bytes within fits own =
    let inside : k < length plan.bodies = omega (arith, within) in
    let some : List (List ℕ) = with_part plan.bodies k from bytes in
    let less : suc k - 1 ≡ k = omega arith in
    let is : entity_length plan (suc k)
    ≡ slice_index (map (λ (b : BodyPlan). b.length) plan.bodies) k =
    rw (ne_eqb (suc k) 0 (λ z. omega arith), less) refl in
    let has : entity_bytes plan some (suc k) ≡ body_at some k =
    rw (ne_eqb (suc k) 0 (λ z. omega arith), less) refl in (
      some,
      lengths-with_part plan.bodies k from bytes inside (omega (arith, fits, is)),
      sym (ap (λ (body : List ℕ). take (length bytes) (drop from body)) has
          ∙ body-with_part plan.bodies k from bytes inside),
    )
