-- Where a changed turn is followed, all that is left behind the group under way is of the new turn.
use Rattle.std.proofs.Common.{◌≡◌, ℕ, ◌+◌, ◌<◌, arith, List, [], ◌∷◌, ◌++◌, Bool, true, false, not}
use Rattle.std.proofs.Common.{refl, sym, subst, map, ap, ◌∙◌, eq-eqb}
use Rattle.std.proofs.lemmas.List.{take-append-drop}
use Rattle.std.proofs.lemmas.List.Elements.{filter-append}
use Rattle.std.proofs.lemmas.Grind.{flat_map-append}
use Rattle.std.specs.Prelude.{◌==◌, ◌&&◌, ◌||◌, flat_map, if◌then◌else◌, is_some}
use Rattle.std.specs.List.{list_any, AllByRecursion}
use Rattle.mot_groups.specs.Entity.{numbered_segments, pieces, segments_of}
use Rattle.mot_groups.specs.Group.{Segment}
use Rattle.mot_numbers.specs.Reading.{is_empty}
use Rattle.mot_objects.specs.Ids.{is_distinct}
use Rattle.mot_player.specs.Turn.{IsFollowable, IsOneChange, put, replaced, same, withdrawn, Turn}
use Rattle.mot_player.specs.Turn.{segments_of_bodies, segments_of_turn}
use Rattle.mot_player.specs.Place.{Change, Place, Put, Replaced, Same, Withdrawn, change_between}
use Rattle.mot_player.specs.Place.{change_turn, changed, directory_segments, early_after, early_of}
use Rattle.mot_player.specs.Place.{follow, goes_early, in_its_place, left_of, of_bodies, rest_of}
use Rattle.mot_player.specs.Place.{without}
use Rattle.mot_player.specs.Repeats.{is_same_segment}
use Rattle.mot_player.specs.Staying.{HasDirectory}
use Rattle.mot_listening.proofs.Collected.{all-had, filter-had, kind-respects, same-is}
use Rattle.mot_player.proofs.Laws.{IsHad, all-append, all-behind, all-front, between-put}
use Rattle.mot_player.proofs.Laws.{between-replaced, between-same, between-withdrawn, bodies-bodies}
use Rattle.mot_player.proofs.Laws.{followed-left, had-all, of_bodies-all, of_bodies-directory}
use Rattle.mot_player.proofs.Laws.{others-both, renewed}
use Rattle.mot_listening.proofs.Counts.{front-append, front-behind, front-none, front-turn}
use Rattle.mot_listening.proofs.Heard.{AreOfTurn, IsFew, IsOnAir, left-on}

abbrev Pair : Type 0
Pair = ℕ × List ℕ

-- ---- among segments in a row

pub any-append : (p : Segment → Bool) (xs ys : List Segment) →
    list_any p (xs ++ ys) ≡ (list_any p xs || list_any p ys)
any-append p [] ys = refl
any-append p (x ∷ xs) ys = append-cases (p x) (any-append p xs ys)
  where
    append-cases : (b : Bool) → list_any p (xs ++ ys) ≡ (list_any p xs || list_any p ys) →
        (b || list_any p (xs ++ ys)) ≡ ((b || list_any p xs) || list_any p ys)
    append-cases true e = refl
    append-cases false e = e

pub or-left : (a b : Bool) → a ≡ true → (a || b) ≡ true
or-left true b e = refl
or-left false b e = absurd (let f : false ≡ true = e in cc)

pub or-right : (a b : Bool) → b ≡ true → (a || b) ≡ true
or-right true b e = refl
or-right false b e = e

-- neither among those in the middle
or-outside : (a m b : Bool) → (m ≡ true → a ≡ true) → (a || (m || b)) ≡ true → (a || b) ≡ true
or-outside true m b f e = refl
or-outside false true b f e = absurd (let g : false ≡ true = f refl in cc)
or-outside false false b f e = e

-- what holds of those that are not of an id
abbrev AreButOf : ℕ → (Segment → Type 0) → List Segment → Type 0
AreButOf old P xs = AllByRecursion (λ (s : Segment). (s.tid == old) ≡ false → P s) xs

without-cases : (P : Segment → Type 0) (x : Segment) (ys : List Segment) (b : Bool) →
    (b ≡ false → P x) → AllByRecursion P ys → AllByRecursion P (if not b then x ∷ ys else ys)
without-cases P x ys true f p = p
without-cases P x ys false f p = (f refl, p)

all-without : (P : Segment → Type 0) (old : ℕ) (xs : List Segment) → AreButOf old P xs →
    AllByRecursion P (without old xs)
all-without P old [] p = tt
all-without P old (x ∷ xs) p =
    without-cases P x (without old xs) (x.tid == old) p.0 (all-without P old xs p.1)

place-cases : (P : Segment → Type 0) (fresh : List Segment) (x : Segment) (b c : Bool) →
    (b ≡ false → P x) → AllByRecursion P fresh →
    AllByRecursion P (if b then if c then fresh else [] else x ∷ [])
place-cases P fresh x true true f p = p
place-cases P fresh x true false f p = tt
place-cases P fresh x false c f p = (f refl, tt)

all-in_place : (P : Segment → Type 0) (old : ℕ) (fresh xs : List Segment) → AreButOf old P xs →
    AllByRecursion P fresh → AllByRecursion P (flat_map (in_its_place old fresh) xs)
all-in_place P old fresh [] p q = tt
all-in_place P old fresh (x ∷ xs) p q =
    all-append P (in_its_place old fresh x) (flat_map (in_its_place old fresh) xs)
    (place-cases P fresh x (x.tid == old) (x.number == 0) p.0 q)
    (all-in_place P old fresh xs p.1 q)

if-all : (P : Segment → Type 0) (fresh : List Segment) (b : Bool) → AllByRecursion P fresh →
    AllByRecursion P (if b then fresh else [])
if-all P fresh true p = p
if-all P fresh false p = tt

put-all : (P : Segment → Type 0) (rest fresh : List Segment) (b : Bool) →
    AllByRecursion P rest → AllByRecursion P fresh →
    AllByRecursion P (if b then [] else rest ++ fresh)
put-all P rest fresh true p q = tt
put-all P rest fresh false p q = all-append P rest fresh p q

-- ---- the bodies of a turn, before and behind a change

abbrev AreOfBodies : ℕ → List Pair → List Segment → Type 0
AreOfBodies size bodies segments =
    AllByRecursion (IsHad (segments_of_bodies size bodies)) segments

bodies-row : (size : ℕ) (before after : List Pair) (b : Pair) →
    segments_of_bodies size (before ++ b ∷ after)
    ≡ segments_of_bodies size before ++ (segments_of 4 b.0 size b.1
    ++ segments_of_bodies size after)
bodies-row size before after b =
    flat_map-append (λ (b : Pair). segments_of 4 b.0 size b.1) before (b ∷ after)

-- a segment of a body has its id
id-of_numbered : (tid n : ℕ) (ps : List (List ℕ)) (s : Segment) →
    IsHad (numbered_segments 4 tid n ps) s → (s.tid == tid) ≡ true
id-of_numbered tid n [] s h = absurd (let f : false ≡ true = h in cc)
id-of_numbered tid n (p ∷ ps) s h =
    id-cases (is_same_segment s first) refl (λ e. id-of_numbered tid (n + 1) ps s e) h
  where
    first : Segment
    first = record { kind = 4; tid = tid; number = n; last = is_empty ps; bytes = p }

    id-cases : (b : Bool) → is_same_segment s first ≡ b →
        (list_any (is_same_segment s) (numbered_segments 4 tid (n + 1) ps) ≡ true →
        (s.tid == tid) ≡ true) →
        (b || list_any (is_same_segment s) (numbered_segments 4 tid (n + 1) ps)) ≡ true →
        (s.tid == tid) ≡ true
    id-cases true e f k = eq-eqb s.tid tid (ap (λ (x : Segment). x.tid) (same-is s first e))
    id-cases false e f k = f k

not-both : (a : Bool) → a ≡ true → a ≡ false → ⊥
not-both true e f = absurd (let g : true ≡ false = f in cc)
not-both false e f = absurd (let g : false ≡ true = e in cc)

module _ (size : ℕ) (before after : List Pair) (g : Pair) where
  abbrev front : List Segment
  front = segments_of_bodies size before

  abbrev back : List Segment
  back = segments_of_bodies size after

  -- of other bodies: in front or behind
  other-split : (s : Segment) → IsHad (segments_of_bodies size (before ++ g ∷ after)) s →
      (s.tid == g.0) ≡ false → (list_any (is_same_segment s) front
      || list_any (is_same_segment s) back) ≡ true
  other-split s h other =
      let same : Segment → Bool = is_same_segment s in
      let middle : List Segment = segments_of 4 g.0 size g.1 in
      or-outside (list_any same front) (list_any same middle) (list_any same back)
      (λ e. absurd (not-both (s.tid == g.0) (id-of_numbered g.0 0 (pieces size g.1) s e) other))
      (sym (ap (list_any same) (bodies-row size before after g)
      ∙ any-append same front (middle ++ back)
      ∙ ap (λ (b : Bool). list_any same front || b) (any-append same middle back)) ∙ h)

  or-widen : (a m b : Bool) → (a || b) ≡ true → (a || (m || b)) ≡ true
  or-widen true m b e = refl
  or-widen false m b e = or-right m b e

  stays-replaced : (f : Pair) (s : Segment) →
      IsHad (segments_of_bodies size (before ++ g ∷ after)) s → (s.tid == g.0) ≡ false →
      IsHad (segments_of_bodies size (before ++ f ∷ after)) s
  stays-replaced f s h other =
      let same : Segment → Bool = is_same_segment s in
      let middle : List Segment = segments_of 4 f.0 size f.1 in
      ap (list_any same) (bodies-row size before after f)
      ∙ any-append same front (middle ++ back)
      ∙ ap (λ (b : Bool). list_any same front || b) (any-append same middle back)
      ∙ or-widen (list_any same front) (list_any same middle) (list_any same back)
      (other-split s h other)

  stays-withdrawn : (s : Segment) →
      IsHad (segments_of_bodies size (before ++ g ∷ after)) s → (s.tid == g.0) ≡ false →
      IsHad (segments_of_bodies size (before ++ after)) s
  stays-withdrawn s h other =
      let same : Segment → Bool = is_same_segment s in
      ap (list_any same) (flat_map-append (λ (b : Pair). segments_of 4 b.0 size b.1) before after)
      ∙ any-append same front back ∙ other-split s h other

  -- the body in the middle
  middle-had : AreOfBodies size (before ++ g ∷ after) (segments_of 4 g.0 size g.1)
  middle-had =
      let middle : List Segment = segments_of 4 g.0 size g.1 in
      all-front (IsHad (segments_of_bodies size (before ++ g ∷ after))) middle back
      (all-behind (IsHad (segments_of_bodies size (before ++ g ∷ after))) front (middle ++ back)
      (subst (AreOfBodies size (before ++ g ∷ after)) (bodies-row size before after g)
      (had-all (segments_of_bodies size (before ++ g ∷ after)))))

but-of : (P Q : Segment → Type 0) (old : ℕ) (xs : List Segment) →
    ((s : Segment) → P s → (s.tid == old) ≡ false → Q s) → AllByRecursion P xs →
    AreButOf old Q xs
but-of P Q old [] f p = tt
but-of P Q old (x ∷ xs) f p = (f x p.0, but-of P Q old xs f p.1)

pub all-of : (P Q : Segment → Type 0) (xs : List Segment) → ((s : Segment) → P s → Q s) →
    AllByRecursion P xs → AllByRecursion Q xs
all-of P Q [] f p = tt
all-of P Q (x ∷ xs) f p = (f x p.0, all-of P Q xs f p.1)

-- what comes early after a change, and the rest of the turn
module _ (place : Place) (olds news : List Pair)
    (early : AreOfBodies place.segment_size olds (early_of place))
    (rest : AreOfBodies place.segment_size olds (rest_of place)) where
  abbrev piece_size : ℕ
  piece_size = place.segment_size

  abbrev Of : List Pair → Segment → Type 0
  Of bodies = IsHad (segments_of_bodies piece_size bodies)

  abbrev After : Change → Type 0
  After change = AllByRecursion (Of news) (early_after change place)
      × AllByRecursion (Of news) (renewed change place)

  after-same : news ≡ olds → After Same
  after-same e = (
    all-append (Of news) (early_of place) (if goes_early Same place then [] else [])
        (subst (λ (bs : List Pair). AreOfBodies piece_size bs (early_of place)) (sym e) early)
        (if-all (Of news) [] (goes_early Same place) tt),
    subst (λ (bs : List Pair). AreOfBodies piece_size bs (rest_of place)) (sym e) rest,
  )

  after-put : (f : Pair) → news ≡ olds ++ f ∷ [] → After (Put f)
  after-put f e =
      let wider : (s : Segment) → Of olds s → Of news s = λ s h.
      ap (λ (bs : List Pair). list_any (is_same_segment s) (segments_of_bodies piece_size bs)) e
      ∙ ap (list_any (is_same_segment s))
      (flat_map-append (λ (b : Pair). segments_of 4 b.0 piece_size b.1) olds (f ∷ []))
      ∙ any-append (is_same_segment s) (segments_of_bodies piece_size olds)
      (segments_of_bodies piece_size (f ∷ []))
      ∙ or-left (list_any (is_same_segment s) (segments_of_bodies piece_size olds))
      (list_any (is_same_segment s) (segments_of_bodies piece_size (f ∷ []))) h in
      let fresh : AllByRecursion (Of news) (segments_of 4 f.0 piece_size f.1) =
      subst (λ (bs : List Pair). AreOfBodies piece_size bs (segments_of 4 f.0 piece_size f.1))
      (sym e) (middle-had piece_size olds [] f) in (
        all-append (Of news) (early_of place)
            (if goes_early (Put f) place then segments_of 4 f.0 piece_size f.1 else [])
            (all-of (Of olds) (Of news) (early_of place) wider early)
            (if-all (Of news) (segments_of 4 f.0 piece_size f.1) (goes_early (Put f) place) fresh),
        put-all (Of news) (rest_of place) (segments_of 4 f.0 piece_size f.1)
            (is_empty (rest_of place) && goes_early (Put f) place)
            (all-of (Of olds) (Of news) (rest_of place) wider rest) fresh,
      )

  after-replaced : (before after : List Pair) (g f : Pair) → olds ≡ before ++ g ∷ after →
      news ≡ before ++ f ∷ after → After (Replaced g.0 f)
  after-replaced before after g f d e =
      let stay : (s : Segment) → Of olds s → (s.tid == g.0) ≡ false → Of news s = λ s h o.
      subst (λ (bs : List Pair). Of bs s) (sym e)
      (stays-replaced piece_size before after g f s (subst (λ (bs : List Pair). Of bs s) d h) o) in
      let fresh : AllByRecursion (Of news) (segments_of 4 f.0 piece_size f.1) =
      subst (λ (bs : List Pair). AreOfBodies piece_size bs (segments_of 4 f.0 piece_size f.1))
      (sym e) (middle-had piece_size before after f) in (
        all-append (Of news) (without g.0 (early_of place))
            (if goes_early (Replaced g.0 f) place then segments_of 4 f.0 piece_size f.1 else [])
            (all-without (Of news) g.0 (early_of place)
            (but-of (Of olds) (Of news) g.0 (early_of place) stay early))
            (if-all (Of news) (segments_of 4 f.0 piece_size f.1)
            (goes_early (Replaced g.0 f) place) fresh),
        all-in_place (Of news) g.0 (segments_of 4 f.0 piece_size f.1) (rest_of place)
            (but-of (Of olds) (Of news) g.0 (rest_of place) stay rest) fresh,
      )

  after-withdrawn : (before after : List Pair) (g : Pair) → olds ≡ before ++ g ∷ after →
      news ≡ before ++ after → After (Withdrawn g.0)
  after-withdrawn before after g d e =
      let stay : (s : Segment) → Of olds s → (s.tid == g.0) ≡ false → Of news s = λ s h o.
      subst (λ (bs : List Pair). Of bs s) (sym e)
      (stays-withdrawn piece_size before after g s (subst (λ (bs : List Pair). Of bs s) d h) o) in (
        all-append (Of news) (without g.0 (early_of place))
            (if goes_early (Withdrawn g.0) place then [] else [])
            (all-without (Of news) g.0 (early_of place)
            (but-of (Of olds) (Of news) g.0 (early_of place) stay early))
            (if-all (Of news) [] (goes_early (Withdrawn g.0) place) tt),
        all-without (Of news) g.0 (rest_of place)
            (but-of (Of olds) (Of news) g.0 (rest_of place) stay rest),
      )

  after-change : IsOneChange olds news →
      is_distinct (map (λ (b : Pair). b.0) olds) ≡ true → After (change_between olds news)
  after-change (same h) d =
      subst After (sym (ap (change_between olds) h ∙ between-same olds)) (after-same h)
  after-change (put f h) d =
      subst After (sym (ap (change_between olds) h ∙ between-put olds f)) (after-put f h)
  after-change (replaced before after g f h i o) d =
      subst After (sym (ap (λ (bs : List Pair). change_between bs news) h
      ∙ ap (change_between (before ++ g ∷ after)) i ∙ between-replaced before after g f o))
      (after-replaced before after g f h i)
  after-change (withdrawn before after g h i) d =
      let once : is_distinct (map (λ (b : Pair). b.0) (before ++ g ∷ after)) ≡ true =
      ap (λ (bs : List Pair). is_distinct (map (λ (b : Pair). b.0) bs)) (sym h) ∙ d in
      subst After (sym (ap (λ (bs : List Pair). change_between bs news) h
      ∙ ap (change_between (before ++ g ∷ after)) i
      ∙ between-withdrawn before after g (others-both before after g once).1))
      (after-withdrawn before after g h i)

-- ---- a place

abbrev is_body : Segment → Bool
is_body s = s.kind == 4

-- of a turn's segments, those of bodies are the bodies'
pub bodies-of_turn : (size : ℕ) (turn : Turn) →
    of_bodies (segments_of_turn turn size) ≡ segments_of_bodies size turn.bodies
bodies-of_turn size turn =
    let bodies : List Segment = segments_of_bodies size turn.bodies in
    filter-append is_body (directory_segments turn size) bodies
    ∙ ap (λ (ss : List Segment). ss ++ of_bodies bodies)
    (of_bodies-directory turn.tid 0 (pieces size turn.directory))
    ∙ of_bodies-all bodies (bodies-bodies size turn.bodies)

bodies-on : (size : ℕ) (turn : Turn) (segments : List Segment) → AreOfTurn size turn segments →
    AreOfBodies size turn.bodies (of_bodies segments)
bodies-on size turn segments on =
    subst (λ (ws : List Segment). AllByRecursion (IsHad ws) (of_bodies segments))
    (bodies-of_turn size turn)
    (filter-had is_body (kind-respects 4) (segments_of_turn turn size) segments on)

module _ (turn : Turn) (place : Place) (some : 0 < place.segment_size) (has : HasDirectory turn)
    (followable : IsFollowable place.turn turn)
    (on : AreOfTurn place.segment_size place.turn (left_of place)) where
  abbrev own_size : ℕ
  own_size = place.segment_size

  own-bodies : AreOfBodies own_size place.turn.bodies
      (early_of place ++ rest_of place)
  own-bodies =
      subst (AreOfBodies own_size place.turn.bodies)
      (sym (take-append-drop place.early (of_bodies (left_of place))))
      (bodies-on own_size place.turn (left_of place) on)

  own-early : AreOfBodies own_size place.turn.bodies (early_of place)
  own-early = all-front (IsHad (segments_of_bodies own_size place.turn.bodies)) (early_of place)
      (rest_of place) own-bodies

  own-rest : AreOfBodies own_size place.turn.bodies (rest_of place)
  own-rest = all-behind (IsHad (segments_of_bodies own_size place.turn.bodies)) (early_of place)
      (rest_of place) own-bodies

  of_turn-bodies : (segments : List Segment) → AreOfBodies own_size turn.bodies segments →
      AreOfTurn own_size turn segments
  of_turn-bodies segments p =
      let directory : List Segment = directory_segments turn own_size in
      let bodies : List Segment = segments_of_bodies own_size turn.bodies in
      all-had (IsHad (segments_of_turn turn own_size)) bodies segments
      (all-behind (IsHad (segments_of_turn turn own_size)) directory bodies
      (had-all (segments_of_turn turn own_size))) p

  follow-left : AreOfTurn own_size turn (left_of (follow turn place))
  unfolding follow
  follow-left =
      let change : Change = change_between place.turn.bodies turn.bodies in
      let directory : List Segment = directory_segments turn own_size in
      let bodies : List Segment = segments_of_bodies own_size turn.bodies in
      let after = after-change place place.turn.bodies turn.bodies own-early own-rest
      followable.change followable.distinct in
      subst (AreOfTurn own_size turn) (sym (followed-left change turn place some has))
      (all-append (IsHad (segments_of_turn turn own_size))
      (directory ++ early_after change place) (renewed change place)
      (all-append (IsHad (segments_of_turn turn own_size)) directory (early_after change place)
      (all-front (IsHad (segments_of_turn turn own_size)) directory bodies
      (had-all (segments_of_turn turn own_size)))
      (of_turn-bodies (early_after change place) after.0))
      (of_turn-bodies (renewed change place) after.1))

  are-bodies : (segments : List Segment) → AreOfBodies own_size turn.bodies segments →
      AllByRecursion (λ (s : Segment). s.kind ≡ 4) segments
  are-bodies segments p =
      all-had (λ (s : Segment). s.kind ≡ 4) (segments_of_bodies own_size turn.bodies) segments
      (bodies-bodies own_size turn.bodies) p

  follow-few : (room : ℕ) → IsFew own_size turn room (follow turn place).waiting
  unfolding follow
  follow-few room =
      let change : Change = change_between place.turn.bodies turn.bodies in
      let directory : List Segment = directory_segments turn own_size in
      let early : List Segment = early_after change place in
      let rest : List Segment = renewed change place in
      let after = after-change place place.turn.bodies turn.bodies own-early own-rest
      followable.change followable.distinct in
      omega (
        arith,
        front-append room (directory ++ early) rest,
        front-behind room directory early (are-bodies early after.0),
        front-none room rest (are-bodies rest after.1),
      )

pub followed-on : (size : ℕ) (old turn : Turn) (place : Place) → 0 < size → HasDirectory turn →
    IsFollowable old turn → IsOnAir size old place → IsOnAir size turn (follow turn place)
unfolding follow
followed-on size old turn place some has followable on =
    let here : AreOfTurn place.segment_size place.turn (left_of place) =
    subst (λ (n : ℕ). AreOfTurn n place.turn (left_of place)) (sym on.size_is)
    (subst (λ (t : Turn). AreOfTurn size t (left_of place)) (sym on.turn_is) on.left) in record {
      room = on.room;
      size_is = on.size_is;
      turn_is = refl;
      keeps = record { directory = on.keeps.directory; body = on.keeps.body };
      inside = on.inside;
      left = subst (λ (n : ℕ). AreOfTurn n turn (left_of (follow turn place))) on.size_is
          (follow-left turn place (subst (λ (n : ℕ). 0 < n) (sym on.size_is) some) has
          (subst (λ (t : Turn). IsFollowable t turn) (sym on.turn_is) followable) here);
      few = subst (λ (n : ℕ). IsFew n turn place.room (follow turn place).waiting) on.size_is
          (follow-few turn place (subst (λ (n : ℕ). 0 < n) (sym on.size_is) some) has
          (subst (λ (t : Turn). IsFollowable t turn) (sym on.turn_is) followable) here place.room);
    }

anew-on : (size : ℕ) (old turn : Turn) (place : Place) → IsOnAir size old place →
    IsOnAir size turn (change_turn turn place)
unfolding change_turn
anew-on size old turn place on = record {
  room = on.room;
  size_is = on.size_is;
  turn_is = refl;
  keeps = record { directory = on.keeps.directory; body = on.keeps.body };
  inside = on.inside;
  left = left-on size turn (change_turn turn place) place.under_way on.size_is refl
      (subst (λ (n : ℕ). AreOfTurn size turn (segments_of_turn turn n)) (sym on.size_is)
      (had-all (segments_of_turn turn size)));
  few = subst (λ (n : ℕ). IsFew size turn place.room (segments_of_turn turn n)) (sym on.size_is)
      (front-turn place.room size turn);
}

change-cases : (b : Bool) (size : ℕ) (old turn : Turn) (place : Place) → 0 < size →
    HasDirectory turn → IsFollowable old turn → IsOnAir size old place →
    IsOnAir size turn (if b then follow turn place else change_turn turn place)
change-cases true size old turn place some has followable on =
    followed-on size old turn place some has followable on
change-cases false size old turn place some has followable on = anew-on size old turn place on

-- the turn changed: it begins anew, or is followed
pub changed-on : (size : ℕ) (old turn : Turn) (place : Place) → 0 < size → HasDirectory turn →
    IsFollowable old turn → IsOnAir size old place → IsOnAir size turn (changed turn place)
unfolding changed
changed-on size old turn place some has followable on =
    change-cases (is_some place.follows) size old turn place some has followable on
