-- What a change leaves of the rest of a turn: the end of the new turn's bodies.
use Rattle.std.proofs.Common.{◌≡◌, ℕ, ◌+◌, ◌<◌, List, [], ◌∷◌, ◌++◌, Bool, true, false, refl, sym}
use Rattle.std.proofs.Common.{subst, map, length, ap, ◌∙◌, append-nil, append_assoc}
use Rattle.std.proofs.lemmas.Grind.{flat_map-append}
use Rattle.std.specs.Prelude.{◌==◌, ◌&&◌, flat_map, if◌then◌else◌}
use Rattle.std.specs.List.{AllByRecursion}
use Rattle.mot_groups.specs.Entity.{numbered_segments, pieces, segments_of}
use Rattle.mot_groups.specs.Group.{Segment}
use Rattle.mot_numbers.specs.Reading.{is_empty}
use Rattle.mot_objects.specs.Ids.{is_distinct}
use Rattle.mot_player.specs.Turn.{IsOneChange, put, replaced, same, withdrawn, segments_of_bodies}
use Rattle.mot_player.specs.Place.{Change, change_between, fresh_segments, in_its_place, rest_after}
use Rattle.mot_player.proofs.Laws.{AreOthers, between-put, between-replaced, between-same}
use Rattle.mot_player.proofs.Laws.{between-withdrawn, others-both, place-of_gone, without-place}

abbrev Pair : Type 0
Pair = ℕ × List ℕ

both-bodies : (size : ℕ) (xs ys : List Pair) →
    segments_of_bodies size (xs ++ ys) ≡ segments_of_bodies size xs ++ segments_of_bodies size ys
both-bodies size [] ys = refl
both-bodies size (x ∷ xs) ys =
    ap (λ (ss : List Segment). segments_of 4 x.0 size x.1 ++ ss) (both-bodies size xs ys)
    ∙ sym (append_assoc (segments_of 4 x.0 size x.1) (segments_of_bodies size xs)
    (segments_of_bodies size ys))

-- ---- another body in its place

other-stays : (old id n : ℕ) (fresh : List Segment) (ps : List (List ℕ)) → (id == old) ≡ false →
    flat_map (in_its_place old fresh) (numbered_segments 4 id n ps) ≡ numbered_segments 4 id n ps
other-stays old id n fresh [] e = refl
other-stays old id n fresh (p ∷ ps) e =
    let x : Segment = record {
      kind = 4;
      tid = id;
      number = n;
      last = is_empty ps;
      bytes = p;
    } in
    ap (λ (b : Bool). (if b then if n == 0 then fresh else [] else x ∷ [])
    ++ flat_map (in_its_place old fresh) (numbered_segments 4 id (n + 1) ps)) e
    ∙ ap (λ (ss : List Segment). x ∷ ss) (other-stays old id (n + 1) fresh ps e)

others-stay : (size old : ℕ) (fresh : List Segment) (bodies : List Pair) → AreOthers old bodies →
    flat_map (in_its_place old fresh) (segments_of_bodies size bodies)
    ≡ segments_of_bodies size bodies
others-stay size old fresh [] o = refl
others-stay size old fresh (b ∷ bodies) o =
    let f : Segment → List Segment = in_its_place old fresh in
    flat_map-append f (segments_of 4 b.0 size b.1) (segments_of_bodies size bodies)
    ∙ ap (λ (ss : List Segment). ss ++ flat_map f (segments_of_bodies size bodies))
    (other-stays old b.0 0 fresh (pieces size b.1) o.0)
    ∙ ap (λ (ss : List Segment). segments_of 4 b.0 size b.1 ++ ss)
    (others-stay size old fresh bodies o.1)

-- of all bodies
whole-in_place : (size : ℕ) (fresh : List Segment) (before after : List Pair) (g : Pair) →
    0 < size →
    0 < length g.1 → AreOthers g.0 before × AreOthers g.0 after →
    flat_map (in_its_place g.0 fresh) (segments_of_bodies size (before ++ g ∷ after))
    ≡ segments_of_bodies size before ++ (fresh ++ segments_of_bodies size after)
whole-in_place size fresh before after g some body (first, behind) =
    let f : Segment → List Segment = in_its_place g.0 fresh in
    let own : List Segment = segments_of 4 g.0 size g.1 in
    let front : List Segment = segments_of_bodies size before in
    let back : List Segment = segments_of_bodies size after in
    ap (flat_map f) (both-bodies size before (g ∷ after))
    ∙ flat_map-append f front (own ++ back)
    ∙ ap (λ (ss : List Segment). ss ++ flat_map f (own ++ back))
    (others-stay size g.0 fresh before first)
    ∙ ap (λ (ss : List Segment). front ++ ss)
    (flat_map-append f own back
    ∙ ap (λ (ss : List Segment). ss ++ flat_map f back)
    (place-of_gone g.0 0 size g.1 fresh some body)
    ∙ ap (λ (ss : List Segment). fresh ++ ss) (others-stay size g.0 fresh after behind))

-- each body has bytes
abbrev pub AreSomeBodies : List Pair → Type 0
AreSomeBodies bodies = AllByRecursion (λ (b : Pair). 0 < length b.1) bodies

some-inside : (before after : List Pair) (g : Pair) → AreSomeBodies (before ++ g ∷ after) →
    0 < length g.1
some-inside [] after g s = s.0
some-inside (b ∷ before) after g s = some-inside before after g s.1

-- ---- the rest is the end of the bodies

-- what was the end of the old bodies' segments is, changed, the end of the new ones'
abbrev pub Renews : (size : ℕ) (olds news : List Pair) (early : Bool) (rest : List Segment) →
    Change → Type 0
Renews size olds news early rest change = (done : List Segment)
    × (segments_of_bodies size news
    ≡ done ++ rest_after change early (fresh_segments size change) rest)

put-cases : (size : ℕ) (olds : List Pair) (f : Pair) (done rest : List Segment) →
    segments_of_bodies size olds ≡ done ++ rest → (b : Bool) →
    (more : List Segment) × (segments_of_bodies size (olds ++ f ∷ [])
    ≡ more ++ (if b then [] else rest ++ segments_of 4 f.0 size f.1))
put-cases size olds f done rest e true = (
  segments_of_bodies size (olds ++ f ∷ []),
  sym (append-nil (segments_of_bodies size (olds ++ f ∷ []))),
)
put-cases size olds f done rest e false =
    let fresh : List Segment = segments_of 4 f.0 size f.1 in (
      done,
      both-bodies size olds (f ∷ [])
          ∙ ap (λ (ss : List Segment). segments_of_bodies size olds ++ ss) (append-nil fresh)
          ∙ ap (λ (ss : List Segment). ss ++ fresh) e ∙ append_assoc done rest fresh,
    )

in_place-renews : (size : ℕ) (fresh : List Segment) (before after : List Pair) (g : Pair)
    (done rest : List Segment) → 0 < size → 0 < length g.1 →
    AreOthers g.0 before × AreOthers g.0 after →
    segments_of_bodies size (before ++ g ∷ after) ≡ done ++ rest →
    (more : List Segment)
    × (segments_of_bodies size before ++ (fresh ++ segments_of_bodies size after)
    ≡ more ++ flat_map (in_its_place g.0 fresh) rest)
in_place-renews size fresh before after g done rest some body others e =
    let f : Segment → List Segment = in_its_place g.0 fresh in (
      flat_map f done,
      sym (whole-in_place size fresh before after g some body others)
          ∙ ap (flat_map f) e ∙ flat_map-append f done rest,
    )

pub renews : (size : ℕ) (olds news : List Pair) (early : Bool) (done rest : List Segment) →
    0 < size → IsOneChange olds news → is_distinct (map (λ (b : Pair). b.0) olds) ≡ true →
    AreSomeBodies olds → segments_of_bodies size olds ≡ done ++ rest →
    Renews size olds news early rest (change_between olds news)
renews size olds news early done rest some (same h) distinct bodies e =
    subst (Renews size olds news early rest)
    (sym (ap (change_between olds) h ∙ between-same olds))
    (done, ap (segments_of_bodies size) h ∙ e)
renews size olds news early done rest some (put f h) distinct bodies e =
    let cases = put-cases size olds f done rest e (is_empty rest && early) in
    subst (Renews size olds news early rest)
    (sym (ap (change_between olds) h ∙ between-put olds f))
    (cases.0, ap (segments_of_bodies size) h ∙ cases.1)
renews size olds news early done rest some (replaced before after g f h i o) distinct bodies e =
    let fresh : List Segment = segments_of 4 f.0 size f.1 in
    let once : is_distinct (map (λ (b : Pair). b.0) (before ++ g ∷ after)) ≡ true =
    ap (λ (bs : List Pair). is_distinct (map (λ (b : Pair). b.0) bs)) (sym h) ∙ distinct in
    let made = in_place-renews size fresh before after g done rest some
    (some-inside before after g (subst AreSomeBodies h bodies)) (others-both before after g once)
    (ap (segments_of_bodies size) (sym h) ∙ e) in
    subst (Renews size olds news early rest)
    (sym (ap (λ (bs : List Pair). change_between bs news) h
    ∙ ap (change_between (before ++ g ∷ after)) i ∙ between-replaced before after g f o))
    (made.0, ap (segments_of_bodies size) i ∙ both-bodies size before (f ∷ after) ∙ made.1)
renews size olds news early done rest some (withdrawn before after g h i) distinct bodies e =
    let once : is_distinct (map (λ (b : Pair). b.0) (before ++ g ∷ after)) ≡ true =
    ap (λ (bs : List Pair). is_distinct (map (λ (b : Pair). b.0) bs)) (sym h) ∙ distinct in
    let others = others-both before after g once in
    let made = in_place-renews size [] before after g done rest some
    (some-inside before after g (subst AreSomeBodies h bodies)) others
    (ap (segments_of_bodies size) (sym h) ∙ e) in
    subst (Renews size olds news early rest)
    (sym (ap (λ (bs : List Pair). change_between bs news) h
    ∙ ap (change_between (before ++ g ∷ after)) i ∙ between-withdrawn before after g others.1)) (
      made.0,
      ap (segments_of_bodies size) i ∙ both-bodies size before after ∙ made.1
          ∙ ap (λ (ss : List Segment). made.0 ++ ss) (sym (without-place g.0 rest)),
    )
