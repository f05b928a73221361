-- The segments of bodies of which one is put, replaced or gone, from one of them on.
use Rattle.std.proofs.Common.{◌≡◌, ℕ, suc, zero, ◌+◌, ◌<◌, Bool, false, List, [], ◌∷◌, ◌++◌, length}
use Rattle.std.proofs.Common.{refl, sym, ap, ◌∙◌, arith, drop, get_or, map}
use Rattle.std.proofs.lemmas.Grind.{flat_map-append}
use Rattle.std.proofs.lemmas.List.{append_assoc}
use Rattle.std.specs.List.{AllByRecursion}
use Rattle.std.specs.Prelude.{◌==◌, flat_map, if◌then◌else◌}
use Rattle.mot_groups.specs.Entity.{numbered_segments, pieces}
use Rattle.mot_groups.specs.Group.{Segment}
use Rattle.mot_player.specs.Place.{in_its_place, without}
use Rattle.mot_player.specs.Course.{Entity, segments_from, segments_in}
use Rattle.mot_player.proofs.Followed.{place-of_gone}
use Rattle.mot_player.proofs.Segments.{body_entity}

-- the segments of bodies; those from a segment of one of them on; and those of one of them from a
-- segment on
abbrev pub all_of : ℕ → List (ℕ × List ℕ) → List Segment
all_of size bodies = flat_map (segments_in size) (map body_entity bodies)

abbrev pub from : ℕ → List (ℕ × List ℕ) → ℕ → ℕ → List Segment
from size bodies k s = segments_from size (map body_entity bodies) k s

abbrev pub no_entity : Entity
no_entity = record { kind = 4; tid = 0; bytes = [] }

abbrev pub of_one : ℕ → List (ℕ × List ℕ) → ℕ → ℕ → List Segment
of_one size bodies k s = drop s (segments_in size (get_or (map body_entity bodies) k no_entity))

pub all-append : (size : ℕ) (xs ys : List (ℕ × List ℕ)) →
    all_of size (xs ++ ys) ≡ all_of size xs ++ all_of size ys
all-append size [] ys = refl
all-append size (x ∷ xs) ys =
    ap (λ (ss : List Segment). segments_in size (body_entity x) ++ ss) (all-append size xs ys)
    ∙ sym (append_assoc (segments_in size (body_entity x)) (all_of size xs) (all_of size ys))

pub from-append : (size : ℕ) (xs ys : List (ℕ × List ℕ)) (k s : ℕ) → k < length xs →
    from size (xs ++ ys) k s ≡ from size xs k s ++ all_of size ys
from-append size [] ys k s l = absurd (omega (arith, l))
from-append size (x ∷ xs) ys zero s l =
    let first : List Segment = drop s (segments_in size (body_entity x)) in
    ap (λ (ss : List Segment). first ++ ss) (all-append size xs ys)
    ∙ sym (append_assoc first (all_of size xs) (all_of size ys))
from-append size (x ∷ xs) ys (suc k) s l = from-append size xs ys k s (omega (arith, l))

pub from-behind : (size : ℕ) (xs ys : List (ℕ × List ℕ)) (k j s : ℕ) → k ≡ length xs + j →
    from size (xs ++ ys) k s ≡ from size ys j s
from-behind size [] ys k j s e =
    let same : k ≡ j = omega (arith, e) in ap (λ (n : ℕ). from size ys n s) same
from-behind size (x ∷ xs) ys zero j s e = absurd (omega (arith, e))
from-behind size (x ∷ xs) ys (suc k) j s e = from-behind size xs ys k j s (omega (arith, e))

pub one-append : (size : ℕ) (xs ys : List (ℕ × List ℕ)) (k s : ℕ) → k < length xs →
    of_one size (xs ++ ys) k s ≡ of_one size xs k s
one-append size [] ys k s l = absurd (omega (arith, l))
one-append size (x ∷ xs) ys zero s l = refl
one-append size (x ∷ xs) ys (suc k) s l = one-append size xs ys k s (omega (arith, l))

pub one-behind : (size : ℕ) (xs ys : List (ℕ × List ℕ)) (k j s : ℕ) → k ≡ length xs + j →
    of_one size (xs ++ ys) k s ≡ of_one size ys j s
one-behind size [] ys k j s e =
    let same : k ≡ j = omega (arith, e) in ap (λ (n : ℕ). of_one size ys n s) same
one-behind size (x ∷ xs) ys zero j s e = absurd (omega (arith, e))
one-behind size (x ∷ xs) ys (suc k) j s e = one-behind size xs ys k j s (omega (arith, e))

-- bodies of other ids than this
abbrev pub AreOthers : ℕ → List (ℕ × List ℕ) → Type 0
AreOthers id bodies = AllByRecursion (λ (b : ℕ × List ℕ). (b.0 == id) ≡ false) bodies

-- what stands in the place of their segments are they themselves
place-numbered : (old : ℕ) (fresh : List Segment) (tid n s : ℕ) (ps : List (List ℕ)) →
    (tid == old) ≡ false →
    flat_map (in_its_place old fresh) (drop s (numbered_segments 4 tid n ps))
    ≡ drop s (numbered_segments 4 tid n ps)
place-numbered old fresh tid n zero [] e = refl
place-numbered old fresh tid n (suc s) [] e = refl
place-numbered old fresh tid n zero (p ∷ ps) e =
    grind (arith, place-numbered old fresh tid (n + 1) zero ps e)
place-numbered old fresh tid n (suc s) (p ∷ ps) e = place-numbered old fresh tid (n + 1) s ps e

place-all : (size old : ℕ) (fresh : List Segment) (bodies : List (ℕ × List ℕ)) →
    AreOthers old bodies →
    flat_map (in_its_place old fresh) (all_of size bodies) ≡ all_of size bodies
place-all size old fresh [] o = refl
place-all size old fresh (b ∷ bodies) o =
    let f : Segment → List Segment = in_its_place old fresh in
    let first : List Segment = segments_in size (body_entity b) in
    flat_map-append f first (all_of size bodies)
    ∙ ap (λ (ss : List Segment). ss ++ flat_map f (all_of size bodies))
    (place-numbered old fresh b.0 0 zero (pieces size b.1) o.0)
    ∙ ap (λ (ss : List Segment). first ++ ss) (place-all size old fresh bodies o.1)

place-from : (size old : ℕ) (fresh : List Segment) (bodies : List (ℕ × List ℕ)) (k s : ℕ) →
    AreOthers old bodies →
    flat_map (in_its_place old fresh) (from size bodies k s) ≡ from size bodies k s
place-from size old fresh [] k s o = refl
place-from size old fresh (b ∷ bodies) zero s o =
    let f : Segment → List Segment = in_its_place old fresh in
    let first : List Segment = drop s (segments_in size (body_entity b)) in
    flat_map-append f first (all_of size bodies)
    ∙ ap (λ (ss : List Segment). ss ++ flat_map f (all_of size bodies))
    (place-numbered old fresh b.0 0 s (pieces size b.1) o.0)
    ∙ ap (λ (ss : List Segment). first ++ ss) (place-all size old fresh bodies o.1)
place-from size old fresh (b ∷ bodies) (suc k) s o = place-from size old fresh bodies k s o.1

place-one : (size old : ℕ) (fresh : List Segment) (bodies : List (ℕ × List ℕ)) (k s : ℕ) →
    k < length bodies → AreOthers old bodies →
    flat_map (in_its_place old fresh) (of_one size bodies k s) ≡ of_one size bodies k s
place-one size old fresh [] k s l o = absurd (omega (arith, l))
place-one size old fresh (b ∷ bodies) zero s l o =
    place-numbered old fresh b.0 0 s (pieces size b.1) o.0
place-one size old fresh (b ∷ bodies) (suc k) s l o =
    place-one size old fresh bodies k s (omega (arith, l)) o.1

pub without-place : (old : ℕ) (xs : List Segment) →
    without old xs ≡ flat_map (in_its_place old []) xs
without-place old [] = refl
without-place old (x ∷ xs) = grind (arith, without-place old xs)

-- Bodies of which one goes: the others have other ids, and it is not empty.
pub record IsGoing (before after : List (ℕ × List ℕ)) (gone : ℕ × List ℕ) : Type 0 where
  pub before_it : AreOthers gone.0 before
  pub behind_it : AreOthers gone.0 after
  pub some : 0 < length gone.1

-- what stands in the place of the segments from one before it on
pub place-before : (size : ℕ) (fresh : List Segment) (before after : List (ℕ × List ℕ))
    (gone : ℕ × List ℕ) (k s : ℕ) → 0 < size → IsGoing before after gone → k < length before →
    flat_map (in_its_place gone.0 fresh) (from size (before ++ gone ∷ after) k s)
    ≡ from size before k s ++ (fresh ++ all_of size after)
place-before size fresh before after gone k s some is l =
    let f : Segment → List Segment = in_its_place gone.0 fresh in
    let own : List Segment = segments_in size (body_entity gone) in
    ap (flat_map f) (from-append size before (gone ∷ after) k s l)
    ∙ flat_map-append f (from size before k s) (all_of size (gone ∷ after))
    ∙ ap (λ (ss : List Segment). ss ++ flat_map f (all_of size (gone ∷ after)))
    (place-from size gone.0 fresh before k s is.before_it)
    ∙ ap (λ (ss : List Segment). from size before k s ++ ss)
    (flat_map-append f own (all_of size after)
    ∙ ap (λ (ss : List Segment). ss ++ flat_map f (all_of size after))
    (place-of_gone gone.0 0 size gone.1 fresh some is.some)
    ∙ ap (λ (ss : List Segment). fresh ++ ss)
    (place-all size gone.0 fresh after is.behind_it))

-- from one of its own on
pub place-inside : (size : ℕ) (fresh : List Segment) (before after : List (ℕ × List ℕ))
    (gone : ℕ × List ℕ) (k s : ℕ) → 0 < size → IsGoing before after gone → k ≡ length before →
    flat_map (in_its_place gone.0 fresh) (from size (before ++ gone ∷ after) k s)
    ≡ (if s == 0 then fresh else []) ++ all_of size after
place-inside size fresh before after gone k s some is e =
    let f : Segment → List Segment = in_its_place gone.0 fresh in
    let own : List Segment = drop s (segments_in size (body_entity gone)) in
    ap (flat_map f) (from-behind size before (gone ∷ after) k 0 s (omega (arith, e)))
    ∙ flat_map-append f own (all_of size after)
    ∙ ap (λ (ss : List Segment). ss ++ flat_map f (all_of size after))
    (place-of_gone gone.0 s size gone.1 fresh some is.some)
    ∙ ap (λ (ss : List Segment). (if s == 0 then fresh else []) ++ ss)
    (place-all size gone.0 fresh after is.behind_it)

-- and from one behind it on
pub place-behind : (size : ℕ) (fresh : List Segment) (before after : List (ℕ × List ℕ))
    (gone : ℕ × List ℕ) (k j s : ℕ) → IsGoing before after gone → k ≡ length before + suc j →
    flat_map (in_its_place gone.0 fresh) (from size (before ++ gone ∷ after) k s)
    ≡ from size after j s
place-behind size fresh before after gone k j s is e =
    let f : Segment → List Segment = in_its_place gone.0 fresh in
    ap (flat_map f) (from-behind size before (gone ∷ after) k (suc j) s e)
    ∙ place-from size gone.0 fresh after j s is.behind_it

-- of one body alone
pub one-place-before : (size : ℕ) (before after : List (ℕ × List ℕ)) (gone : ℕ × List ℕ)
    (k s : ℕ) → IsGoing before after gone → k < length before →
    without gone.0 (of_one size (before ++ gone ∷ after) k s) ≡ of_one size before k s
one-place-before size before after gone k s is l =
    grind (arith, without-place, of_one, one-append, place-one)

abbrev none : List Segment
none = []

none-either : (b : Bool) → (if b then none else none) ≡ none
none-either b = grind arith

pub one-place-inside : (size : ℕ) (before after : List (ℕ × List ℕ)) (gone : ℕ × List ℕ)
    (k s : ℕ) → 0 < size → IsGoing before after gone → k ≡ length before →
    without gone.0 (of_one size (before ++ gone ∷ after) k s) ≡ []
one-place-inside size before after gone k s some is e =
    without-place gone.0 (of_one size (before ++ gone ∷ after) k s)
    ∙ ap (flat_map (in_its_place gone.0 []))
    (one-behind size before (gone ∷ after) k 0 s (omega (arith, e)))
    ∙ place-of_gone gone.0 s size gone.1 [] some is.some
    ∙ none-either (s == 0)

pub one-place-behind : (size : ℕ) (before after : List (ℕ × List ℕ)) (gone : ℕ × List ℕ)
    (k j s : ℕ) → IsGoing before after gone → k ≡ length before + suc j → j < length after →
    without gone.0 (of_one size (before ++ gone ∷ after) k s) ≡ of_one size after j s
one-place-behind size before after gone k j s is e l =
    without-place gone.0 (of_one size (before ++ gone ∷ after) k s)
    ∙ ap (flat_map (in_its_place gone.0 [])) (one-behind size before (gone ∷ after) k (suc j) s e)
    ∙ place-one size gone.0 [] after j s l is.behind_it
