-- The course of a turn that is followed: what waits of it, by what changed of its bodies.
use Rattle.std.proofs.Common.{◌≡◌, ◌⊎◌, ℕ, suc, zero, ◌+◌, ◌-◌, ◌<◌, ◌≤◌, Bool, true, false, List, []}
use Rattle.std.proofs.Common.{◌∷◌, ◌++◌, length, refl, sym, ap, ◌∙◌, arith, append-nil, eq-eqb}
use Rattle.std.proofs.Common.{inl, inr, drop, map}
use Rattle.std.proofs.lemmas.Bool.{cases_lt, eqb-false, eqb-true, le-ltb, lt-ltb, ne_eqb}
use Rattle.std.proofs.lemmas.List.{length-append}
use Rattle.std.proofs.lemmas.List.Elements.{filter-append}
use Rattle.std.specs.List.{AllByRecursion}
use Rattle.std.specs.Prelude.{◌==◌, ◌&&◌, if◌then◌else◌}
use Rattle.mot_groups.specs.Entity.{segments_of}
use Rattle.mot_groups.specs.Group.{Segment}
use Rattle.mot_numbers.specs.Reading.{is_empty}
use Rattle.mot_player.specs.Course.{Entity, entity_in, queued, segments_from, segments_in}
use Rattle.mot_player.specs.Inner.Course.{fresh_of, kept, kept_of, one_more, rest_from}
use Rattle.mot_player.specs.Place.{Change, Same, Put, Replaced, Withdrawn}
use Rattle.mot_player.specs.Place.{fresh_segments, rest_after, that_stay}
use Rattle.mot_player.specs.declared.course.Waiting.{Waiting}
use Rattle.mot_player.specs.declared.difference.Difference.{Difference}
use Rattle.mot_player.specs.declared.difference.Difference.TheVariants.{Nothing, Added, Changed}
use Rattle.mot_player.specs.declared.difference.Difference.TheVariants.{Removed}
use Rattle.mot_player.proofs.NextSegment.{from-first}
use Rattle.mot_player.proofs.Renewed.{IsGoing, all_of, from, from-append, from-behind}
use Rattle.mot_player.proofs.Renewed.{of_one, one-append, one-behind, one-place-before}
use Rattle.mot_player.proofs.Renewed.{one-place-behind, one-place-inside, place-before}
use Rattle.mot_player.proofs.Renewed.{place-behind, place-inside, without-place}
use Rattle.mot_player.proofs.Segments.{body_entity}

-- the entities of a directory and bodies
abbrev pub entities : Entity → List (ℕ × List ℕ) → List Entity
entities directory bodies = directory ∷ map body_entity bodies

abbrev pub IsOfBody : ℕ → Waiting → Type 0
IsOfBody count w = (0 < w.entity) × (w.entity < count)

abbrev pub waits : ℕ → ℕ → Waiting
waits entity segment = record { entity = entity; segment = segment }

-- What is queued and stays goes on, the body that came is queued, and the rest goes on.
pub record GoesOn (size : ℕ) (old new : Entity) (olds news : List (ℕ × List ℕ)) (count : ℕ)
    (difference : Difference) (change : Change) : Type 0 where
  pub queue : (q : List Waiting) → AllByRecursion (IsOfBody count) q →
      queued size (entities new news) (kept_of difference q)
      ≡ that_stay change (queued size (entities old olds) q)
  pub fresh : queued size (entities new news) (one_more (fresh_of difference count) [])
      ≡ fresh_segments size change
  pub rest : (early : Bool) (e s : ℕ) → 0 < e → e ≤ count → (e ≡ count → s ≡ 0) →
      is_empty (segments_from size (entities old olds) e s) ≡ (e == count) →
      segments_from size (entities new news) (rest_from difference early count (waits e s)).entity
      (rest_from difference early count (waits e s)).segment
      ≡ rest_after change early (fresh_segments size change)
      (segments_from size (entities old olds) e s)

-- of a body that is queued
abbrev OneGoesOn : ℕ → Entity → List (ℕ × List ℕ) → List (ℕ × List ℕ) → Difference → Change
    → Type 0
OneGoesOn size new olds news difference change =
    (k s : ℕ) (q : List Waiting) → k < length olds →
    queued size (entities new news) (one_more (kept difference (waits (suc k) s)) q)
    ≡ that_stay change (of_one size olds k s) ++ queued size (entities new news) q

stay-append : (change : Change) (xs ys : List Segment) →
    that_stay change (xs ++ ys) ≡ that_stay change xs ++ that_stay change ys
stay-append change xs ys = grind (arith, filter-append)

stay-none : (change : Change) → that_stay change [] ≡ []
stay-none change = grind arith

one-of : (size : ℕ) (old new : Entity) (olds news : List (ℕ × List ℕ)) (d : Difference)
    (change : Change) (e s : ℕ) (q : List Waiting) → OneGoesOn size new olds news d change →
    0 < e → e < length olds + 1 →
    queued size (entities new news) (one_more (kept d (waits e s)) q)
    ≡ that_stay change (queued size (entities old olds) (waits e s ∷ []))
    ++ queued size (entities new news) q
one-of size old new olds news d change e s q one some l =
    grind (arith, append-nil, of_one)

queue-of : (size : ℕ) (old new : Entity) (olds news : List (ℕ × List ℕ)) (d : Difference)
    (change : Change) (q : List Waiting) → OneGoesOn size new olds news d change →
    AllByRecursion (IsOfBody (length olds + 1)) q →
    queued size (entities new news) (kept_of d q)
    ≡ that_stay change (queued size (entities old olds) q)
queue-of size old new olds news d change [] one all = sym (stay-none change)
queue-of size old new olds news d change (w ∷ q) one all =
    let first : List Segment = queued size (entities old olds) (w ∷ []) in
    let later : List Segment = queued size (entities old olds) q in
    one-of size old new olds news d change w.entity w.segment (kept_of d q) one all.0.0 all.0.1
    ∙ ap (λ (ss : List Segment). that_stay change first ++ ss)
    (queue-of size old new olds news d change q one all.1)
    ∙ sym (stay-append change first later)
    ∙ ap (λ (ss : List Segment). that_stay change (ss ++ later))
    (append-nil (drop w.segment (segments_in size (entity_in (entities old olds) w.entity))))

-- where the bodies stay
rest-same : (size : ℕ) (old new : Entity) (bodies : List (ℕ × List ℕ)) (e s : ℕ) → 0 < e →
    segments_from size (entities new bodies) e s ≡ segments_from size (entities old bodies) e s
rest-same size old new bodies e s some = grind arith

pub goes_on-same : (size : ℕ) (old new : Entity) (bodies : List (ℕ × List ℕ)) →
    GoesOn size old new bodies bodies (length bodies + 1) Nothing Same
goes_on-same size old new bodies = record {
  queue = λ q all. queue-of size old new bodies bodies Nothing Same q (λ k s q l. refl) all;
  fresh = refl;
  rest = λ early e s some l ends empty. rest-same size old new bodies e s some;
}

-- where one is put behind them
one-put : (size : ℕ) (new : Entity) (olds : List (ℕ × List ℕ)) (f : ℕ × List ℕ) →
    OneGoesOn size new olds (olds ++ f ∷ []) Added (Put f)
one-put size new olds f k s q l = grind (arith, one-append)

fresh-put : (size : ℕ) (new : Entity) (olds : List (ℕ × List ℕ)) (f : ℕ × List ℕ) (e : ℕ) →
    e ≡ length olds + 1 →
    queued size (entities new (olds ++ f ∷ [])) (waits e 0 ∷ []) ≡ segments_of 4 f.0 size f.1
fresh-put size new olds f zero h = absurd (omega (arith, h))
fresh-put size new olds f (suc k) h =
    ap (λ (ss : List Segment). ss ++ []) (one-behind size olds (f ∷ []) k 0 0 (omega (arith, h)))
    ∙ append-nil (segments_of 4 f.0 size f.1)

none-empty : (xs : List Segment) → is_empty xs ≡ true → xs ≡ []
none-empty xs e = grind arith

rest-put : (size : ℕ) (old new : Entity) (olds : List (ℕ × List ℕ)) (f : ℕ × List ℕ)
    (k s : ℕ) (t early : Bool) → suc k ≤ length olds + 1 → (suc k ≡ length olds + 1 → s ≡ 0) →
    (suc k == length olds + 1) ≡ t → is_empty (from size olds k s) ≡ t →
    segments_from size (entities new (olds ++ f ∷ []))
    (if t && early then waits (length olds + 1 + 1) 0 else waits (suc k) s).entity
    (if t && early then waits (length olds + 1 + 1) 0 else waits (suc k) s).segment
    ≡ (if t && early then [] else from size olds k s ++ segments_of 4 f.0 size f.1)
rest-put size old new olds f k s true false l ends e empty =
    let last : suc k ≡ length olds + 1 = eqb-true (suc k) (length olds + 1) e in
    from-behind size olds (f ∷ []) k 0 s (omega (arith, last))
    ∙ append-nil (drop s (segments_of 4 f.0 size f.1))
    ∙ ap (λ (n : ℕ). drop n (segments_of 4 f.0 size f.1)) (ends last)
    ∙ ap (λ (ss : List Segment). ss ++ segments_of 4 f.0 size f.1)
    (sym (none-empty (from size olds k s) empty))
rest-put size old new olds f k s true true l ends e empty =
    let two : length olds + 1 + 1 ≡ suc (length olds + 1) = omega arith in
    ap (λ (n : ℕ). segments_from size (entities new (olds ++ f ∷ [])) n 0) two
    ∙ from-behind size olds (f ∷ []) (length olds + 1) 1 0 refl
rest-put size old new olds f k s false early l ends e empty =
    let less : k < length olds =
    omega (arith, l, eqb-false (suc k) (length olds + 1) e) in
    from-append size olds (f ∷ []) k s less
    ∙ ap (λ (ss : List Segment). from size olds k s ++ ss) (append-nil (segments_of 4 f.0 size f.1))

rest-put-at : (size : ℕ) (old new : Entity) (olds : List (ℕ × List ℕ)) (f : ℕ × List ℕ)
    (early : Bool) (e s : ℕ) → 0 < e → e ≤ length olds + 1 → (e ≡ length olds + 1 → s ≡ 0) →
    is_empty (segments_from size (entities old olds) e s) ≡ (e == length olds + 1) →
    segments_from size (entities new (olds ++ f ∷ []))
    (rest_from Added early (length olds + 1) (waits e s)).entity
    (rest_from Added early (length olds + 1) (waits e s)).segment
    ≡ rest_after (Put f) early (segments_of 4 f.0 size f.1)
    (segments_from size (entities old olds) e s)
rest-put-at size old new olds f early e s some l ends empty = grind (arith, rest-put)

pub goes_on-put : (size : ℕ) (old new : Entity) (olds : List (ℕ × List ℕ)) (f : ℕ × List ℕ) →
    GoesOn size old new olds (olds ++ f ∷ []) (length olds + 1) Added (Put f)
goes_on-put size old new olds f = record {
  queue = λ q all. queue-of size old new olds (olds ++ f ∷ []) Added (Put f) q
      (one-put size new olds f) all;
  fresh = fresh-put size new olds f (length olds + 1) refl;
  rest = λ early e s some l ends empty. rest-put-at size old new olds f early e s some l ends
      empty;
}

-- where the others lie: before the one that goes, or behind it
at-or-behind : (n k : ℕ) → n ≤ k → (k ≡ n) ⊎ ((j : ℕ) × (k ≡ n + suc j))
at-or-behind n k l = elim (cases_lt n k) [
  | inl h ↦ inr (k - n - 1, omega (arith, h))
  | inr h ↦ inl (omega (arith, l, h))
]

-- where one comes in the place of another
one-replaced : (size : ℕ) (new : Entity) (before after : List (ℕ × List ℕ))
    (g f : ℕ × List ℕ) → 0 < size → IsGoing before after g →
    OneGoesOn size new (before ++ g ∷ after) (before ++ f ∷ after) (Changed (1 + length before))
    (Replaced g.0 f)
one-replaced size new before after g f some is k s q l =
    let n : ℕ = 1 + length before in
    let olds : List (ℕ × List ℕ) = before ++ g ∷ after in
    let news : List (ℕ × List ℕ) = before ++ f ∷ after in
    let rest : List Segment = queued size (entities new news) q in
    elim (cases_lt k (length before)) [
      | inl h ↦ (
          rw (ne_eqb (suc k) n (λ e. absurd (omega (arith, e, h))))
          (ap (λ (ss : List Segment). ss ++ rest)
          (one-append size before (f ∷ after) k s h
          ∙ sym (one-place-before size before after g k s is h))))
      | inr h ↦ elim (at-or-behind (length before) k h) [
        | inl e ↦ (
            rw (eq-eqb (suc k) n (omega (arith, e)))
            (ap (λ (ss : List Segment). ss ++ rest)
            (sym (one-place-inside size before after g k s some is e))))
        | inr b ↦ (
            let less : b.0 < length after =
            omega (arith, b.1, l, length-append before (g ∷ after)) in
            rw (ne_eqb (suc k) n (λ e. absurd (omega (arith, e, b.1))))
            (ap (λ (ss : List Segment). ss ++ rest)
            (one-behind size before (f ∷ after) k (suc b.0) s b.1
            ∙ sym (one-place-behind size before after g k b.0 s is b.1 less))))
      ]
    ]

fresh-replaced : (size : ℕ) (new : Entity) (before after : List (ℕ × List ℕ)) (f : ℕ × List ℕ)
    (e : ℕ) → e ≡ 1 + length before →
    queued size (entities new (before ++ f ∷ after)) (waits e 0 ∷ []) ≡ segments_of 4 f.0 size f.1
fresh-replaced size new before after f zero h = absurd (omega (arith, h))
fresh-replaced size new before after f (suc k) h =
    ap (λ (ss : List Segment). ss ++ [])
    (one-behind size before (f ∷ after) k 0 0 (omega (arith, h)))
    ∙ append-nil (segments_of 4 f.0 size f.1)

rest-replaced-inside : (size : ℕ) (new : Entity) (before after : List (ℕ × List ℕ))
    (f : ℕ × List ℕ) (k s : ℕ) (t : Bool) → k ≡ length before → (s == 0) ≡ t →
    segments_from size (entities new (before ++ f ∷ after))
    (if t then waits (suc k) s else waits (suc k + 1) 0).entity
    (if t then waits (suc k) s else waits (suc k + 1) 0).segment
    ≡ (if t then segments_of 4 f.0 size f.1 else []) ++ all_of size after
rest-replaced-inside size new before after f k s true e z =
    from-behind size before (f ∷ after) k 0 s (omega (arith, e))
    ∙ ap (λ (n : ℕ). drop n (segments_of 4 f.0 size f.1) ++ all_of size after) (eqb-true s 0 z)
rest-replaced-inside size new before after f k s false e z =
    let two : suc k + 1 ≡ suc (k + 1) = omega arith in
    ap (λ (n : ℕ). segments_from size (entities new (before ++ f ∷ after)) n 0) two
    ∙ from-behind size before (f ∷ after) (k + 1) 1 0 (omega (arith, e))
    ∙ from-first size (map body_entity after)

rest-replaced : (size : ℕ) (old new : Entity) (before after : List (ℕ × List ℕ))
    (g f : ℕ × List ℕ) (early : Bool) (count e s : ℕ) → 0 < size → IsGoing before after g →
    0 < e →
    segments_from size (entities new (before ++ f ∷ after))
    (rest_from (Changed (1 + length before)) early count (waits e s)).entity
    (rest_from (Changed (1 + length before)) early count (waits e s)).segment
    ≡ rest_after (Replaced g.0 f) early (segments_of 4 f.0 size f.1)
    (segments_from size (entities old (before ++ g ∷ after)) e s)
rest-replaced size old new before after g f early count zero s some is l =
    absurd (omega (arith, l))
rest-replaced size old new before after g f early count (suc k) s some is l =
    let n : ℕ = 1 + length before in
    let fresh : List Segment = segments_of 4 f.0 size f.1 in
    elim (cases_lt k (length before)) [
      | inl h ↦ (
          rw (ne_eqb (suc k) n (λ e. absurd (omega (arith, e, h))))
          (from-append size before (f ∷ after) k s h
          ∙ sym (place-before size fresh before after g k s some is h)))
      | inr h ↦ elim (at-or-behind (length before) k h) [
        | inl e ↦ (
            rw (eq-eqb (suc k) n (omega (arith, e)))
            (rest-replaced-inside size new before after f k s (s == 0) e refl
            ∙ sym (place-inside size fresh before after g k s some is e)))
        | inr b ↦ (
            rw (ne_eqb (suc k) n (λ e. absurd (omega (arith, e, b.1))))
            (from-behind size before (f ∷ after) k (suc b.0) s b.1
            ∙ sym (place-behind size fresh before after g k b.0 s is b.1)))
      ]
    ]

pub goes_on-replaced : (size : ℕ) (old new : Entity) (before after : List (ℕ × List ℕ))
    (g f : ℕ × List ℕ) → 0 < size → IsGoing before after g →
    GoesOn size old new (before ++ g ∷ after) (before ++ f ∷ after)
    (length (before ++ g ∷ after) + 1) (Changed (1 + length before)) (Replaced g.0 f)
goes_on-replaced size old new before after g f some is = record {
  queue = λ q all. queue-of size old new (before ++ g ∷ after) (before ++ f ∷ after)
      (Changed (1 + length before)) (Replaced g.0 f) q
      (one-replaced size new before after g f some is) all;
  fresh = fresh-replaced size new before after f (1 + length before) refl;
  rest = λ early e s l m ends empty. rest-replaced size old new before after g f early
      (length (before ++ g ∷ after) + 1) e s some is l;
}

-- where one is gone
one-withdrawn : (size : ℕ) (new : Entity) (before after : List (ℕ × List ℕ)) (g : ℕ × List ℕ) →
    0 < size → IsGoing before after g →
    OneGoesOn size new (before ++ g ∷ after) (before ++ after) (Removed (1 + length before))
    (Withdrawn g.0)
one-withdrawn size new before after g some is k s q l =
    let n : ℕ = 1 + length before in
    let news : List (ℕ × List ℕ) = before ++ after in
    let rest : List Segment = queued size (entities new news) q in
    elim (cases_lt k (length before)) [
      | inl h ↦ (
          rw (
            ne_eqb (suc k) n (λ e. absurd (omega (arith, e, h))),
            le-ltb n (suc k) (omega (arith, h)),
          )
          (ap (λ (ss : List Segment). ss ++ rest)
          (one-append size before after k s h
          ∙ sym (one-place-before size before after g k s is h))))
      | inr h ↦ elim (at-or-behind (length before) k h) [
        | inl e ↦ (
            rw (eq-eqb (suc k) n (omega (arith, e)))
            (ap (λ (ss : List Segment). ss ++ rest)
            (sym (one-place-inside size before after g k s some is e))))
        | inr b ↦ (
            let less : b.0 < length after =
            omega (arith, b.1, l, length-append before (g ∷ after)) in
            let one_less : suc k - 1 ≡ suc (k - 1) = omega (arith, b.1) in
            rw (
              ne_eqb (suc k) n (λ e. absurd (omega (arith, e, b.1))),
              lt-ltb n (suc k) (omega (arith, b.1)),
              one_less,
            )
            (ap (λ (ss : List Segment). ss ++ rest)
            (one-behind size before after (k - 1) b.0 s (omega (arith, b.1))
            ∙ sym (one-place-behind size before after g k b.0 s is b.1 less))))
      ]
    ]

none-or : (b : Bool) (xs : List Segment) → (if b then [] else []) ++ xs ≡ xs
none-or b xs = grind arith

rest-withdrawn : (size : ℕ) (old new : Entity) (before after : List (ℕ × List ℕ))
    (g : ℕ × List ℕ) (early : Bool) (count e s : ℕ) → 0 < size → IsGoing before after g →
    0 < e →
    segments_from size (entities new (before ++ after))
    (rest_from (Removed (1 + length before)) early count (waits e s)).entity
    (rest_from (Removed (1 + length before)) early count (waits e s)).segment
    ≡ rest_after (Withdrawn g.0) early []
    (segments_from size (entities old (before ++ g ∷ after)) e s)
rest-withdrawn size old new before after g early count zero s some is l =
    absurd (omega (arith, l))
rest-withdrawn size old new before after g early count (suc k) s some is l =
    let n : ℕ = 1 + length before in
    let olds : List (ℕ × List ℕ) = before ++ g ∷ after in
    elim (cases_lt k (length before)) [
      | inl h ↦ (
          rw (
            ne_eqb (suc k) n (λ e. absurd (omega (arith, e, h))),
            le-ltb n (suc k) (omega (arith, h)),
          )
          (from-append size before after k s h
          ∙ sym (without-place g.0 (from size olds k s)
          ∙ place-before size [] before after g k s some is h)))
      | inr h ↦ elim (at-or-behind (length before) k h) [
        | inl e ↦ (
            let first : n ≡ suc k = omega (arith, e) in
            rw (eq-eqb (suc k) n (omega (arith, e)))
            (ap (λ (m : ℕ). segments_from size (entities new (before ++ after)) m 0) first
            ∙ from-behind size before after k 0 0 (omega (arith, e))
            ∙ from-first size (map body_entity after)
            ∙ sym (without-place g.0 (from size olds k s)
            ∙ place-inside size [] before after g k s some is e
            ∙ none-or (s == 0) (all_of size after))))
        | inr b ↦ (
            let one_less : suc k - 1 ≡ suc (k - 1) = omega (arith, b.1) in
            rw (
              ne_eqb (suc k) n (λ e. absurd (omega (arith, e, b.1))),
              lt-ltb n (suc k) (omega (arith, b.1)),
              one_less,
            )
            (from-behind size before after (k - 1) b.0 s (omega (arith, b.1))
            ∙ sym (without-place g.0 (from size olds k s)
            ∙ place-behind size [] before after g k b.0 s is b.1)))
      ]
    ]

pub goes_on-withdrawn : (size : ℕ) (old new : Entity) (before after : List (ℕ × List ℕ))
    (g : ℕ × List ℕ) → 0 < size → IsGoing before after g →
    GoesOn size old new (before ++ g ∷ after) (before ++ after)
    (length (before ++ g ∷ after) + 1) (Removed (1 + length before)) (Withdrawn g.0)
goes_on-withdrawn size old new before after g some is = record {
  queue = λ q all. queue-of size old new (before ++ g ∷ after) (before ++ after)
      (Removed (1 + length before)) (Withdrawn g.0) q
      (one-withdrawn size new before after g some is) all;
  fresh = refl;
  rest = λ early e s l m ends empty. rest-withdrawn size old new before after g early
      (length (before ++ g ∷ after) + 1) e s some is l;
}
