-- Objects with other ids keep all else, and the ids of a copy are those of a carousel.
use Rattle.std.proofs.Common.{◌≡◌, ℕ, zero, suc, ◌+◌, ◌<◌, ◌≤◌, Bool, true, false, not, List, []}
use Rattle.std.proofs.Common.{◌∷◌, length, map, get_or, Option, refl, sym, ap, ◌∙◌, arith}
use Rattle.std.proofs.lemmas.Bool.{and_parts, and_from, or_parts, not_from_false}
use Rattle.std.proofs.lemmas.List.Sums.{sum_by-cons}
use Rattle.std.specs.Prelude.{nat_eq, unwrap_or, if◌then◌else◌, ◌==◌}
use Rattle.std.specs.List.{AllByRecursion}
use Rattle.mot_carousel.specs.NewIds.{new_ids}
use Rattle.mot_carousel.proofs.Laws.{new_ids-count, new_ids-new}
use Rattle.mot_objects.specs.declared.object.Object.{Object}
use Rattle.mot_objects.specs.Ids.{contains, is_distinct}
use Rattle.mot_repository.specs.Copy.{copied_ids, renumbered}
use Rattle.mot_repository.specs.Inner.Extents.{bytes_of_bodies}
use Rattle.mot_repository.specs.Inner.Prepared.{IsId}

-- ---- objects with other ids, of which there are as many

-- an object with this id
abbrev pub numbered : ℕ → Object → Object
numbered id o = record o { tid = id }

pub renumbered-length : (ids : List ℕ) (os : List Object) → length ids ≡ length os
    → length (renumbered ids os) ≡ length os
renumbered-length [] os same = same
renumbered-length (id ∷ ids) [] same = absurd (omega (arith, same))
renumbered-length (id ∷ ids) (o ∷ os) same =
    ap suc (renumbered-length ids os (omega (arith, same)))

pub renumbered-names : (ids : List ℕ) (os : List Object) → length ids ≡ length os
    → map (λ (o : Object). o.name) (renumbered ids os) ≡ map (λ (o : Object). o.name) os
renumbered-names [] [] same = refl
renumbered-names [] (o ∷ os) same = absurd (omega (arith, same))
renumbered-names (id ∷ ids) [] same = absurd (omega (arith, same))
renumbered-names (id ∷ ids) (o ∷ os) same =
    ap (λ l. o.name ∷ l) (renumbered-names ids os (omega (arith, same)))

pub renumbered-tids : (ids : List ℕ) (os : List Object) → length ids ≡ length os
    → map (λ (o : Object). o.tid) (renumbered ids os) ≡ ids
renumbered-tids [] os same = refl
renumbered-tids (id ∷ ids) [] same = absurd (omega (arith, same))
renumbered-tids (id ∷ ids) (o ∷ os) same =
    ap (λ l. id ∷ l) (renumbered-tids ids os (omega (arith, same)))

pub renumbered-bytes : (ids : List ℕ) (os : List Object) → length ids ≡ length os
    → bytes_of_bodies (renumbered ids os) ≡ bytes_of_bodies os
renumbered-bytes [] [] same = refl
renumbered-bytes [] (o ∷ os) same = absurd (omega (arith, same))
renumbered-bytes (id ∷ ids) [] same = absurd (omega (arith, same))
renumbered-bytes (id ∷ ids) (o ∷ os) same =
    let size : Object → ℕ = λ p. p.length in
    sum_by-cons size (numbered id o) (renumbered ids os)
    ∙ ap (λ n. o.length + n) (renumbered-bytes ids os (omega (arith, same)))
    ∙ sym (sum_by-cons size o os)

-- the one at a place
pub renumbered-at : (ids : List ℕ) (os : List Object) (k id : ℕ) (o : Object)
    → length ids ≡ length os → k < length os → id ≡ get_or ids k id → o ≡ get_or os k o
    → numbered id o ≡ get_or (renumbered ids os) k (numbered id o)
renumbered-at ids [] k id o same lt here at = absurd (omega (arith, lt))
renumbered-at [] (p ∷ os) k id o same lt here at = absurd (omega (arith, same))
renumbered-at (i ∷ ids) (p ∷ os) zero id o same lt here at =
    ap (numbered id) at ∙ ap (λ n. numbered n p) here
renumbered-at (i ∷ ids) (p ∷ os) (suc k) id o same lt here at =
    renumbered-at ids os k id o (omega (arith, same)) (omega (arith, lt)) here at

-- ---- the ids of a copy

-- there are as many for objects as objects
pub copied_ids-count : (after : Option ℕ) (resized : Bool) (directory cursor : ℕ) (tids : List ℕ)
    → length (copied_ids after resized directory cursor tids).0 ≡ length tids
copied_ids-count after true directory cursor tids =
    new_ids-count (length tids) (unwrap_or after cursor) (directory ∷ tids)
copied_ids-count after false directory cursor tids = refl

-- as many ids for objects as there are; all are ids, and differ
pub record AreIdsOf (tids : List ℕ) (ids : List ℕ × ℕ) : Type 0 where
  pub count : length ids.0 ≡ length tids
  pub range : AllByRecursion IsId (ids.1 ∷ ids.0)
  pub distinct : is_distinct (ids.1 ∷ ids.0) ≡ true

module _ (after : Option ℕ) (directory cursor : ℕ) (tids : List ℕ)
    (last : IsId (unwrap_or after cursor)) (few : length tids ≤ 250)
    (range : AllByRecursion IsId (directory ∷ tids))
    (distinct : is_distinct (directory ∷ tids) ≡ true) where
  -- objects that keep their ids, beside the same directory or one with a new id
  kept : (b : Bool)
      → AreIdsOf tids (
        tids,
        if b then directory
            else (new_ids 0 (unwrap_or after cursor) (directory ∷ tids)).1,
      )
  kept true = record { count = refl; range = range; distinct = distinct }
  kept false =
      let new = new_ids-new 0 (unwrap_or after cursor) (directory ∷ tids) last.0 last.1
      (omega (arith, few)) in
      let id = (new_ids 0 (unwrap_or after cursor) (directory ∷ tids)).1 in
      let other = or_parts (nat_eq id directory) (contains tids id) new.unused.0 in
      let rest = and_parts (not (contains tids directory)) (is_distinct tids) distinct in record {
        count = refl;
        range = (new.range.0, range.1);
        distinct = and_from _ _ (not_from_false (contains tids id) other.1) rest.1;
      }

  pub are_ids : (resized : Bool) → AreIdsOf tids (copied_ids after resized directory cursor tids)
  are_ids true =
      let last_id = unwrap_or after cursor in
      let new = new_ids-new (length tids) last_id (directory ∷ tids) last.0 last.1
      (omega (arith, few)) in record {
        count = copied_ids-count after true directory cursor tids;
        range = new.range;
        distinct = new.distinct;
      }
  are_ids false = kept (unwrap_or after cursor == directory)
