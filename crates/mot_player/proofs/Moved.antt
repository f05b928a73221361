-- Behind a change of its bodies the course of a turn lies within the new turn.
use Rattle.std.proofs.Common.{◌≡◌, ℕ, suc, zero, ◌+◌, ◌-◌, ◌<◌, ◌≤◌, List, [], ◌∷◌, ◌++◌, length}
use Rattle.std.proofs.Common.{map, refl, sym, ap, ◌∙◌, subst, arith, Bool, true, false, Option}
use Rattle.std.proofs.Common.{Some, None, inl, inr}
use Rattle.std.proofs.lemmas.Bool.{and_parts, cases_lt, eqb-true, eqb-false, ltb-true, ltb-false}
use Rattle.std.proofs.lemmas.Bool.{ne_eqb}
use Rattle.std.proofs.lemmas.List.{append-nil, length-append}
use Rattle.std.proofs.lemmas.Option.{none-some, same_Some}
use Rattle.std.specs.List.{AllByRecursion}
use Rattle.std.specs.Prelude.{◌==◌, ◌&&◌, nat_lt, slice_index, if◌then◌else◌}
use Rattle.mot_player.specs.Course.{CourseView}
use Rattle.mot_player.specs.Inner.Course.{fresh_of, followed, kept, kept_of, one_more}
use Rattle.mot_player.specs.Inner.Course.{changed_course, has_ended, is_queued, left_course}
use Rattle.mot_player.specs.Inner.Course.{rest_from, whole_course}
use Rattle.mot_player.specs.Inner.Difference.{added, are_alike, difference_from, difference_here}
use Rattle.mot_player.specs.Inner.Difference.{difference_in, is_same}
use Rattle.mot_player.specs.PlayerView.{BodyPlan, TurnPlan}
use Rattle.mot_player.specs.Inner.Entities.{IsInside, IsOnCourse, IsPlannable, IsWithinTurn}
use Rattle.mot_player.specs.declared.course.Waiting.{Waiting}
use Rattle.mot_player.specs.declared.difference.Difference.{Difference}
use Rattle.mot_player.specs.declared.difference.Difference.TheVariants.{Nothing, Added, Changed}
use Rattle.mot_player.specs.declared.difference.Difference.TheVariants.{Removed}
use Rattle.mot_player.proofs.NextSegment.{entity-some, within-first}
use Rattle.mot_player.proofs.Passing.{on-whole}

-- how new bodies come of old ones, of which the first has this number
data Moves (n : ℕ) (olds news : List BodyPlan) (d : Difference) : Type 0 where
  nothing : d ≡ Nothing → news ≡ olds → Moves n olds news d
  more : (b : BodyPlan) → d ≡ Added → news ≡ olds ++ b ∷ [] → Moves n olds news d
  changed : (xs ys : List BodyPlan) (o m : BodyPlan) (k : ℕ) → d ≡ Changed k → k ≡ n + length xs
      → olds ≡ xs ++ o ∷ ys → news ≡ xs ++ m ∷ ys → Moves n olds news d
  removed : (xs ys : List BodyPlan) (o : BodyPlan) (k : ℕ) → d ≡ Removed k → k ≡ n + length xs
      → olds ≡ xs ++ o ∷ ys → news ≡ xs ++ ys → Moves n olds news d

same-plan : (o m : BodyPlan) → is_same o m ≡ true → o ≡ m
same-plan o m e = grind arith

same-plans : (os ns : List BodyPlan) → are_alike os ns ≡ true → os ≡ ns
same-plans [] [] e = refl
same-plans [] (m ∷ ns) e = absurd (let f : false ≡ true = e in cc)
same-plans (o ∷ os) [] e = absurd (let f : false ≡ true = e in cc)
same-plans (o ∷ os) (m ∷ ns) e =
    let parts = and_parts (is_same o m) (are_alike os ns) e in
    ap (λ (b : BodyPlan). b ∷ os) (same-plan o m parts.0)
    ∙ ap (λ (bs : List BodyPlan). m ∷ bs) (same-plans os ns parts.1)

moves-added : (n : ℕ) (ns : List BodyPlan) (d : Difference) → added (length ns) ≡ Some d →
    Moves n [] ns d
moves-added n [] d e = nothing (sym (same_Some Nothing d e)) refl
moves-added n (b ∷ []) d e = more b (sym (same_Some Added d e)) refl
moves-added n (b ∷ c ∷ ns) d e =
    let two : ℕ = suc (suc (length ns)) in
    absurd (none-some d (sym (rw (
      ne_eqb two 0 (λ z. omega (arith, z)),
      ne_eqb two 1 (λ z. omega (arith, z)),
    ) refl) ∙ e))

moves-behind : (n : ℕ) (o m : BodyPlan) (os ns : List BodyPlan) (d : Difference) → o ≡ m →
    Moves (n + 1) os ns d → Moves n (o ∷ os) (m ∷ ns) d
moves-behind n o m os ns d e (nothing f g) =
    nothing f (ap (λ (bs : List BodyPlan). m ∷ bs) g ∙ ap (λ (b : BodyPlan). b ∷ os) (sym e))
moves-behind n o m os ns d e (more b f g) =
    more b f (ap (λ (bs : List BodyPlan). m ∷ bs) g
    ∙ ap (λ (c : BodyPlan). c ∷ os ++ b ∷ []) (sym e))
moves-behind n o m os ns d e (changed xs ys p q k f at g h) =
    changed (o ∷ xs) ys p q k f (omega (arith, at)) (ap (λ (bs : List BodyPlan). o ∷ bs) g)
    (ap (λ (bs : List BodyPlan). m ∷ bs) h ∙ ap (λ (b : BodyPlan). b ∷ xs ++ q ∷ ys) (sym e))
moves-behind n o m os ns d e (removed xs ys p k f at g h) =
    removed (o ∷ xs) ys p k f (omega (arith, at)) (ap (λ (bs : List BodyPlan). o ∷ bs) g)
    (ap (λ (bs : List BodyPlan). m ∷ bs) h ∙ ap (λ (b : BodyPlan). b ∷ xs ++ ys) (sym e))

moves-one : (n : ℕ) (o : BodyPlan) (os ns : List BodyPlan) (d : Difference) (t : Bool) →
    are_alike os ns ≡ t → (rest : Option Difference) →
    (if t then Some (Removed n) else rest) ≡ Some d →
    (rest ≡ Some d → Moves n (o ∷ os) ns d) → Moves n (o ∷ os) ns d
moves-one n o os ns d true e rest h f =
    removed [] os o n (sym (same_Some (Removed n) d h)) (omega arith) refl (sym (same-plans os ns e))
moves-one n o os ns d false e rest h f = f h

moves-other : (n : ℕ) (o m : BodyPlan) (os ns : List BodyPlan) (d : Difference) (t : Bool) →
    are_alike os ns ≡ t → (if t then Some (Changed n) else None) ≡ Some d →
    Moves n (o ∷ os) (m ∷ ns) d
moves-other n o m os ns d true e h =
    changed [] os o m n (sym (same_Some (Changed n) d h)) (omega arith) refl
    (ap (λ (bs : List BodyPlan). m ∷ bs) (sym (same-plans os ns e)))
moves-other n o m os ns d false e h = absurd (none-some d h)

moves-here : (n : ℕ) (o : BodyPlan) (os ns : List BodyPlan) (d : Difference) →
    difference_here n os ns ≡ Some d → Moves n (o ∷ os) ns d
moves-here n o os [] d e =
    moves-one n o os [] d (are_alike os []) refl None e (λ h. absurd (none-some d h))
moves-here n o os (m ∷ ns) d e =
    moves-one n o os (m ∷ ns) d (are_alike os (m ∷ ns)) refl
    (if are_alike os ns then Some (Changed n) else None) e
    (moves-other n o m os ns d (are_alike os ns) refl)

moves-cases : (n : ℕ) (o m : BodyPlan) (os ns : List BodyPlan) (d : Difference) (t : Bool) →
    is_same o m ≡ t →
    (if t then difference_from (n + 1) os ns else difference_here n os (m ∷ ns)) ≡ Some d →
    (difference_from (n + 1) os ns ≡ Some d → Moves (n + 1) os ns d) →
    Moves n (o ∷ os) (m ∷ ns) d
moves-cases n o m os ns d true e h f = moves-behind n o m os ns d (same-plan o m e) (f h)
moves-cases n o m os ns d false e h f = moves-here n o os (m ∷ ns) d h

moves : (n : ℕ) (os ns : List BodyPlan) (d : Difference) → difference_from n os ns ≡ Some d →
    Moves n os ns d
moves n [] ns d e = moves-added n ns d e
moves n (o ∷ os) [] d e = moves-here n o os [] d e
moves n (o ∷ os) (m ∷ ns) d e =
    moves-cases n o m os ns d (is_same o m) refl e (moves (n + 1) os ns d)

-- the length of a body by its place
abbrev long : List BodyPlan → ℕ → ℕ
long bodies j = slice_index (map (λ (b : BodyPlan). b.length) bodies) j

long-front : (xs ys zs : List BodyPlan) (j : ℕ) → j < length xs →
    long (xs ++ ys) j ≡ long (xs ++ zs) j
long-front [] ys zs j l = absurd (omega (arith, l))
long-front (x ∷ xs) ys zs zero l = refl
long-front (x ∷ xs) ys zs (suc j) l = long-front xs ys zs j (omega (arith, l))

long-other : (xs ys : List BodyPlan) (o m : BodyPlan) (j : ℕ) → (j ≡ length xs → ⊥) →
    long (xs ++ m ∷ ys) j ≡ long (xs ++ o ∷ ys) j
long-other [] ys o m zero l = absurd (l refl)
long-other [] ys o m (suc j) l = refl
long-other (x ∷ xs) ys o m zero l = refl
long-other (x ∷ xs) ys o m (suc j) l = long-other xs ys o m j (λ e. l (ap suc e))

long-behind : (xs ys : List BodyPlan) (o : BodyPlan) (j : ℕ) → length xs ≤ j →
    long (xs ++ ys) j ≡ long (xs ++ o ∷ ys) (suc j)
long-behind [] ys o j l = refl
long-behind (x ∷ xs) ys o zero l = absurd (omega (arith, l))
long-behind (x ∷ xs) ys o (suc j) l = long-behind xs ys o j (omega (arith, l))

-- a segment of a body that has its length still
carry : (plan next : TurnPlan) (size : ℕ) (w v : Waiting) → 0 < w.entity → IsInside plan size w →
    0 < v.entity → v.entity < length next.bodies + 1 → v.segment ≡ w.segment →
    long next.bodies (v.entity - 1) ≡ long plan.bodies (w.entity - 1) → IsInside next size v
carry plan next size w v some inside l within same e = grind arith

-- the first segment of a body, or the turn's end
abbrev IsPlaced : TurnPlan → ℕ → Waiting → Type 0
IsPlaced plan size w = (0 < w.entity) × IsWithinTurn plan size w.entity w.segment

first-inside : (plan : TurnPlan) (size : ℕ) (w : Waiting) → IsPlannable plan →
    w.entity < length plan.bodies + 1 → w.segment ≡ 0 → IsInside plan size w
first-inside plan size w p l e = grind (arith, entity-some)

first-placed : (plan : TurnPlan) (size : ℕ) (w : Waiting) → IsPlannable plan → 0 < w.entity →
    w.entity ≤ length plan.bodies + 1 → w.segment ≡ 0 → IsPlaced plan size w
first-placed plan size w p some l e =
    grind (arith, cases_lt, first-inside)

-- what is kept of a turn of which one body went, or comes in the place of another
kept-other : (w v : Waiting) (k : ℕ) (t : Bool) → (w.entity == k) ≡ t →
    (if t then None else Some w) ≡ Some v → (w.entity ≡ k → ⊥) × (w ≡ v)
kept-other w v k t e h = grind arith

data IsMoved (k : ℕ) (w v : Waiting) : Type 0 where
  before : w.entity < k → w ≡ v → IsMoved k w v
  behind : k < w.entity → record { entity = w.entity - 1; segment = w.segment } ≡ v
      → IsMoved k w v

kept-moved : (w v : Waiting) (k : ℕ) (t u : Bool) → (w.entity == k) ≡ t →
    nat_lt k w.entity ≡ u →
    (if t then None
    else if u then Some (record { entity = w.entity - 1; segment = w.segment }) else Some w)
    ≡ Some v → IsMoved k w v
kept-moved w v k t u e f h = grind arith

-- the lengths of the bodies that stay, at their places
long-more : (olds : List BodyPlan) (b : BodyPlan) (j : ℕ) → j < length olds →
    long (olds ++ b ∷ []) j ≡ long olds j
long-more [] b j l = absurd (omega (arith, l))
long-more (x ∷ olds) b zero l = refl
long-more (x ∷ olds) b (suc j) l = long-more olds b j (omega (arith, l))

module _ (plan next : TurnPlan) (size : ℕ) (p : IsPlannable next) where
  stays-at : (w : Waiting) → 0 < w.entity → IsInside plan size w →
      w.entity < length next.bodies + 1 →
      long next.bodies (w.entity - 1) ≡ long plan.bodies (w.entity - 1) → IsInside next size w
  stays-at w some inside l e = carry plan next size w w some inside some l refl e

  same-inside : (w : Waiting) → next.bodies ≡ plan.bodies → 0 < w.entity →
      IsInside plan size w → IsInside next size w
  same-inside w f some inside = grind arith

  more-inside : (w : Waiting) (b : BodyPlan) → next.bodies ≡ plan.bodies ++ b ∷ [] →
      0 < w.entity → IsInside plan size w → IsInside next size w
  more-inside w b f some inside =
      grind (arith, stays-at, length-append, long-more)

  module _ (xs ys : List BodyPlan) (o : BodyPlan) (k : ℕ) (at : k ≡ 1 + length xs)
      (f : plan.bodies ≡ xs ++ o ∷ ys) where
    count-old : length plan.bodies ≡ length xs + suc (length ys)
    count-old = ap length f ∙ length-append xs (o ∷ ys)

    changed-inside : (w : Waiting) (m : BodyPlan) → next.bodies ≡ xs ++ m ∷ ys →
        (w.entity ≡ k → ⊥) → 0 < w.entity → IsInside plan size w → IsInside next size w
    changed-inside w m g other some inside =
        stays-at w some inside
        (omega (arith, count-old, ap length g, length-append xs (m ∷ ys), inside.0))
        (ap (λ (bs : List BodyPlan). long bs (w.entity - 1)) g
        ∙ long-other xs ys o m (w.entity - 1) (λ e. other (omega (arith, e, at, some)))
        ∙ ap (λ (bs : List BodyPlan). long bs (w.entity - 1)) (sym f))

    before-inside : (w : Waiting) → next.bodies ≡ xs ++ ys → w.entity < k → 0 < w.entity →
        IsInside plan size w → IsInside next size w
    before-inside w g l some inside =
        stays-at w some inside (omega (arith, ap length g, length-append xs ys, at, l))
        (ap (λ (bs : List BodyPlan). long bs (w.entity - 1)) g
        ∙ long-front xs ys (o ∷ ys) (w.entity - 1) (omega (arith, at, l, some))
        ∙ ap (λ (bs : List BodyPlan). long bs (w.entity - 1)) (sym f))

    behind-inside : (w : Waiting) → next.bodies ≡ xs ++ ys → k < w.entity → 0 < w.entity →
        IsInside plan size w →
        IsInside next size (record { entity = w.entity - 1; segment = w.segment })
    behind-inside w g l some inside =
        let j : ℕ = w.entity - 1 - 1 in
        let one : suc j ≡ w.entity - 1 = omega (arith, at, l) in
        carry plan next size w (record { entity = w.entity - 1; segment = w.segment }) some inside
        (omega (arith, at, l))
        (omega (arith, count-old, ap length g, length-append xs ys, inside.0, at, l)) refl
        (ap (λ (bs : List BodyPlan). long bs j) g
        ∙ long-behind xs ys o j (omega (arith, at, l))
        ∙ ap (λ (bs : List BodyPlan). long bs (suc j)) (sym f)
        ∙ ap (λ (i : ℕ). long plan.bodies i) one)

  -- what is queued and kept is within the new turn
  kept-inside : (d : Difference) (w v : Waiting) → Moves 1 plan.bodies next.bodies d →
      kept d w ≡ Some v → (0 < w.entity) × IsInside plan size w →
      (0 < v.entity) × IsInside next size v
  kept-inside d w v (nothing e f) h i =
      subst (λ (u : Waiting). (0 < u.entity) × IsInside next size u)
      (same_Some w v (ap (λ (c : Difference). kept c w) (sym e) ∙ h))
      (i.0, same-inside w f i.0 i.1)
  kept-inside d w v (more b e f) h i =
      subst (λ (u : Waiting). (0 < u.entity) × IsInside next size u)
      (same_Some w v (ap (λ (c : Difference). kept c w) (sym e) ∙ h))
      (i.0, more-inside w b f i.0 i.1)
  kept-inside d w v (changed xs ys o m k e at f g) h i =
      let is = kept-other w v k (w.entity == k) refl
      (ap (λ (c : Difference). kept c w) (sym e) ∙ h) in
      subst (λ (u : Waiting). (0 < u.entity) × IsInside next size u) is.1
      (i.0, changed-inside xs ys o k at f w m g is.0 i.0 i.1)
  kept-inside d w v (removed xs ys o k e at f g) h i =
      elim (kept-moved w v k (w.entity == k) (nat_lt k w.entity) refl refl
      (ap (λ (c : Difference). kept c w) (sym e) ∙ h)) [
        | before l q ↦ subst (λ (u : Waiting). (0 < u.entity) × IsInside next size u) q
            (i.0, before-inside xs ys o k at f w g l i.0 i.1)
        | behind l q ↦ subst (λ (u : Waiting). (0 < u.entity) × IsInside next size u) q
            (omega (arith, at, l), behind-inside xs ys o k at f w g l i.0 i.1)
      ]

  -- the body that came is in it
  fresh-inside : (d : Difference) (count : ℕ) (v : Waiting) →
      Moves 1 plan.bodies next.bodies d → count ≡ length plan.bodies + 1 →
      fresh_of d count ≡ Some v → (0 < v.entity) × IsInside next size v
  fresh-inside d count v (nothing e f) c h =
      absurd (none-some v (ap (λ (x : Difference). fresh_of x count) (sym e) ∙ h))
  fresh-inside d count v (more b e f) c h =
      subst (λ (u : Waiting). (0 < u.entity) × IsInside next size u)
      (same_Some (record { entity = count; segment = 0 }) v
      (ap (λ (x : Difference). fresh_of x count) (sym e) ∙ h)) (
        omega (arith, c),
        first-inside next size (record { entity = count; segment = 0 }) p
            (omega (arith, c, ap length f, length-append plan.bodies (b ∷ []))) refl,
      )
  fresh-inside d count v (changed xs ys o m k e at f g) c h =
      subst (λ (u : Waiting). (0 < u.entity) × IsInside next size u)
      (same_Some (record { entity = k; segment = 0 }) v
      (ap (λ (x : Difference). fresh_of x count) (sym e) ∙ h)) (
        omega (arith, at),
        first-inside next size (record { entity = k; segment = 0 }) p
            (omega (arith, at, ap length g, length-append xs (m ∷ ys))) refl,
      )
  fresh-inside d count v (removed xs ys o k e at f g) c h =
      absurd (none-some v (ap (λ (x : Difference). fresh_of x count) (sym e) ∙ h))

  abbrev AreInside : List Waiting → Type 0
  AreInside q = AllByRecursion (λ (w : Waiting). (0 < w.entity) × IsInside next size w) q

  one-on : (o : Option Waiting) (q rest : List Waiting) →
      ((v : Waiting) → o ≡ Some v → (0 < v.entity) × IsInside next size v) →
      AreInside (q ++ rest) → AreInside (one_more o q ++ rest)
  one-on o q rest f a = grind arith

  queue-on : (d : Difference) (count : ℕ) (q : List Waiting) → Moves 1 plan.bodies next.bodies d →
      count ≡ length plan.bodies + 1 →
      AllByRecursion (λ (w : Waiting). (0 < w.entity) × IsInside plan size w) q →
      AreInside (kept_of d q ++ one_more (fresh_of d count) [])
  queue-on d count [] m c a =
      subst AreInside (append-nil (one_more (fresh_of d count) []))
      (one-on (fresh_of d count) [] [] (λ v h. fresh-inside d count v m c h) tt)
  queue-on d count (w ∷ q) m c a =
      one-on (kept d w) (kept_of d q) (one_more (fresh_of d count) [])
      (λ v h. kept-inside d w v m h a.0) (queue-on d count q m c a.1)

  front-inside : (q rest : List Waiting) → AreInside (q ++ rest) → AreInside q
  front-inside [] rest a = tt
  front-inside (w ∷ q) rest a = (a.0, front-inside q rest a.1)

  -- what stays queued is in it
  pub kept-on : (d : Difference) (q : List Waiting) →
      difference_from 1 plan.bodies next.bodies ≡ Some d →
      AllByRecursion (λ (w : Waiting). (0 < w.entity) × IsInside plan size w) q →
      AreInside (kept_of d q)
  kept-on d q e a =
      let count : ℕ = length plan.bodies + 1 in
      front-inside (kept_of d q) (one_more (fresh_of d count) [])
      (queue-on d count q (moves 1 plan.bodies next.bodies d e) refl a)

  -- and what is queued then
  queue-if : (q rest : List Waiting) (b : Bool) → AreInside (q ++ rest) →
      AreInside (q ++ (if b then rest else []))
  queue-if q rest true a = a
  queue-if q rest false a =
      subst AreInside (sym (append-nil q)) (front-inside q rest a)

  -- the rest of the turn is within the new one
  within-inside : (w : Waiting) → (0 < w.entity) → IsInside next size w → IsPlaced next size w
  within-inside w some inside = (some, inl inside)

  abbrev IsWithin : Waiting → Type 0
  IsWithin w = IsWithinTurn plan size w.entity w.segment

  rest-same : (w : Waiting) → next.bodies ≡ plan.bodies → 0 < w.entity → IsWithin w →
      IsPlaced next size w
  rest-same w f some h3 = grind arith

  rest-more : (w : Waiting) (b : BodyPlan) (count : ℕ) (t early : Bool) →
      (w.entity == count) ≡ t →
      next.bodies ≡ plan.bodies ++ b ∷ [] → count ≡ length plan.bodies + 1 → 0 < w.entity →
      IsWithin w →
      IsPlaced next size (if t && early then record { entity = count + 1; segment = 0 } else w)
  rest-more w b count true false e f c some (inl i) =
      within-inside w some (more-inside w b f some i)
  rest-more w b count true false e f c some (inr i) =
      first-placed next size w p some
      (omega (arith, i.0, ap length f, length-append plan.bodies (b ∷ []))) i.1
  rest-more w b count true true e f c some i =
      first-placed next size (record { entity = count + 1; segment = 0 }) p (omega arith)
      (omega (arith, c, ap length f, length-append plan.bodies (b ∷ []))) refl
  rest-more w b count false early e f c some (inl i) =
      within-inside w some (more-inside w b f some i)
  rest-more w b count false early e f c some (inr i) =
      absurd (eqb-false w.entity count e (omega (arith, i.0, c)))

  module _ (xs ys : List BodyPlan) (o : BodyPlan) (k : ℕ) (at : k ≡ 1 + length xs)
      (f : plan.bodies ≡ xs ++ o ∷ ys) where
    rest-changed : (w : Waiting) (m : BodyPlan) (t u : Bool) → (w.entity == k) ≡ t →
        (w.segment == 0) ≡ u → next.bodies ≡ xs ++ m ∷ ys → 0 < w.entity → IsWithin w →
        IsPlaced next size
        (if t then if u then w else record { entity = w.entity + 1; segment = 0 } else w)
    rest-changed w m true true e h g some i =
        first-placed next size w p some
        (omega (arith, eqb-true w.entity k e, at, ap length g, length-append xs (m ∷ ys)))
        (eqb-true w.segment 0 h)
    rest-changed w m true false e h g some i =
        first-placed next size (record { entity = w.entity + 1; segment = 0 }) p (omega arith)
        (omega (arith, eqb-true w.entity k e, at, ap length g, length-append xs (m ∷ ys))) refl
    rest-changed w m false u e h g some (inl i) =
        within-inside w some
        (changed-inside xs ys o k at f w m g (eqb-false w.entity k e) some i)
    rest-changed w m false u e h g some (inr i) =
        first-placed next size w p some (omega (
          arith,
          i.0,
          count-old xs ys o k at f,
          ap length g,
          length-append xs (m ∷ ys),
        )) i.1

    rest-removed : (w : Waiting) (t u : Bool) → (w.entity == k) ≡ t → nat_lt k w.entity ≡ u →
        next.bodies ≡ xs ++ ys → 0 < w.entity → IsWithin w →
        IsPlaced next size (if t then record { entity = k; segment = 0 }
        else if u then record { entity = w.entity - 1; segment = w.segment } else w)
    rest-removed w true u e h g some i =
        first-placed next size (record { entity = k; segment = 0 }) p (omega (arith, at))
        (omega (arith, at, ap length g, length-append xs ys)) refl
    rest-removed w false true e h g some (inl i) =
        let more : k < w.entity = ltb-true k w.entity h in
        within-inside (record { entity = w.entity - 1; segment = w.segment })
        (omega (arith, at, more)) (behind-inside xs ys o k at f w g more some i)
    rest-removed w false true e h g some (inr i) =
        let more : k < w.entity = ltb-true k w.entity h in
        first-placed next size (record { entity = w.entity - 1; segment = w.segment }) p
        (omega (arith, at, more))
        (omega (arith, i.0, count-old xs ys o k at f, ap length g, length-append xs ys)) i.1
    rest-removed w false false e h g some (inl i) =
        within-inside w some (before-inside xs ys o k at f w g
        (omega (arith, ltb-false k w.entity h, eqb-false w.entity k e)) some i)
    rest-removed w false false e h g some (inr i) =
        absurd (eqb-false w.entity k e (omega (
          arith,
          i.0,
          count-old xs ys o k at f,
          at,
          ltb-false k w.entity h,
        )))

  rest-on : (d : Difference) (early : Bool) (count : ℕ) (w : Waiting) →
      Moves 1 plan.bodies next.bodies d → count ≡ length plan.bodies + 1 → 0 < w.entity →
      IsWithin w → IsPlaced next size (rest_from d early count w)
  rest-on d early count w (nothing e f) c some i =
      subst (λ (x : Difference). IsPlaced next size (rest_from x early count w)) (sym e)
      (rest-same w f some i)
  rest-on d early count w (more b e f) c some i =
      subst (λ (x : Difference). IsPlaced next size (rest_from x early count w)) (sym e)
      (rest-more w b count (w.entity == count) early refl f c some i)
  rest-on d early count w (changed xs ys o m k e at f g) c some i =
      subst (λ (x : Difference). IsPlaced next size (rest_from x early count w)) (sym e)
      (rest-changed xs ys o k at f w m (w.entity == k) (w.segment == 0) refl refl g some i)
  rest-on d early count w (removed xs ys o k e at f g) c some i =
      subst (λ (x : Difference). IsPlaced next size (rest_from x early count w)) (sym e)
      (rest-removed xs ys o k at f w (w.entity == k) (nat_lt k w.entity) refl refl g some i)

  -- the course in the new turn is within it
  pub on-followed : (d : Difference) (most count : ℕ) (c : CourseView) →
      difference_from 1 plan.bodies next.bodies ≡ Some d → count ≡ length plan.bodies + 1 →
      IsOnCourse plan size c → IsOnCourse next size (followed d most count c)
  on-followed d most count c e n on =
      let m : Moves 1 plan.bodies next.bodies d = moves 1 plan.bodies next.bodies d e in
      let w : Waiting = record { entity = c.entity; segment = c.segment } in
      let early : Bool = is_queued d most c.queue in
      let rest : IsPlaced next size (rest_from d early count w) =
      rest-on d early count w m n on.body on.within in
      record {
        directory = within-first next size p;
        queue = queue-if (kept_of d c.queue) (one_more (fresh_of d count) []) early
            (queue-on d count c.queue m n on.queue);
        body = rest.0;
        within = rest.1;
      }

on-ended_or : (plan : TurnPlan) (size : ℕ) (c : CourseView) (t : Bool) → IsPlannable plan →
    IsOnCourse plan size c → IsOnCourse plan size (if t then whole_course else c)
on-ended_or plan size c true p on = on-whole plan size p
on-ended_or plan size c false p on = on

on-left : (plan : TurnPlan) (size count : ℕ) (c : CourseView) (idle : Bool) → IsPlannable plan →
    IsOnCourse plan size c → IsOnCourse plan size (left_course idle count c)
on-left plan size count c true p on = on-ended_or plan size c (has_ended count c) p on
on-left plan size count c false p on = on

on-found : (plan next : TurnPlan) (size most count : ℕ) (c : CourseView) (idle : Bool)
    (found : Option Difference) → difference_from 1 plan.bodies next.bodies ≡ found →
    IsPlannable plan → IsPlannable next → count ≡ length plan.bodies + 1 →
    IsOnCourse plan size c → IsOnCourse next size (changed_course found idle most count c)
on-found plan next size most count c idle None e p q n on = on-whole next size q
on-found plan next size most count c idle (Some d) e p q n on =
    on-followed plan next size q d most count (left_course idle count c) e n
    (on-left plan size count c idle p on)

on-changed-cases : (plan next : TurnPlan) (size most count : ℕ) (c : CourseView) (idle t : Bool) →
    IsPlannable plan → IsPlannable next → count ≡ length plan.bodies + 1 →
    IsOnCourse plan size c → IsOnCourse next size
    (changed_course (if t then difference_from 1 plan.bodies next.bodies else None) idle most count
    c)
on-changed-cases plan next size most count c idle true p q n on =
    on-found plan next size most count c idle (difference_from 1 plan.bodies next.bodies) refl p q n on
on-changed-cases plan next size most count c idle false p q n on = on-whole next size q

-- the course of a changed turn is within it
pub on-changed : (plan next : TurnPlan) (size most count room : ℕ) (c : CourseView)
    (idle follows : Bool) → IsPlannable plan → IsPlannable next →
    count ≡ length plan.bodies + 1 → IsOnCourse plan size c → IsOnCourse next size
    (changed_course (difference_in follows room c plan.bodies next.bodies) idle most count c)
on-changed plan next size most count room c idle follows p q n on =
    on-changed-cases plan next size most count c idle (follows && nat_lt (length c.queue) room) p q
    n on
