-- What comes early of a place on air: of at most so many bodies, and of one that is begun.
use Rattle.std.proofs.Common.{◌≡◌, ◌⊎◌, ℕ, zero, suc, ◌+◌, ◌*◌, ◌-◌, ◌<◌, ◌≤◌, List, [], ◌∷◌, ◌++◌}
use Rattle.std.proofs.Common.{Bool, true, false, Option, Some, None, inl, inr, refl, sym, subst}
use Rattle.std.proofs.Common.{length, take, ap, ◌∙◌, arith, append-nil, eq-eqb, map}
use Rattle.std.proofs.lemmas.Option.{none-some, same_Some, some_pair_parts}
use Rattle.std.specs.Prelude.{◌==◌, if◌then◌else◌, is_some, unwrap_or}
use Rattle.std.specs.List.{AllByRecursion}
use Rattle.mot_groups.specs.Entity.{own_segments, segments_of}
use Rattle.mot_groups.specs.Group.{GroupFields, Segment, bytes_of_group}
use Rattle.mot_numbers.specs.Reading.{is_empty}
use Rattle.mot_objects.specs.Carousel.{Carousel, Object}
use Rattle.mot_objects.specs.Ids.{contains, is_distinct}
use Rattle.mot_player.specs.Turn.{IsFollowable, IsOneChange, put, replaced, same, withdrawn, Turn}
use Rattle.mot_player.specs.Turn.{bodies_with_ids, turn_of_carousel}
use Rattle.mot_player.specs.Place.{Change, Place, Put, Replaced, Same, Sent, Step, UnderWay}
use Rattle.mot_player.specs.Place.{Withdrawn, bodies_not_begun, change_between, change_turn}
use Rattle.mot_player.specs.Place.{changed, early_of, first_sent, follow, fresh_segments}
use Rattle.mot_player.specs.Place.{goes_early, group_for, hear_directory, left_of, left_with}
use Rattle.mot_player.specs.Place.{most_early, next_sent, of_bodies, opened_place, packet_sent}
use Rattle.mot_player.specs.Place.{Directory, Follow, NewTurn, Request, request, sent_by, that_stay}
use Rattle.mot_player.specs.Place.{to_send, with_begun, without}
use Rattle.mot_player.specs.Staying.{AreFewEarly, HasDirectory}
use Rattle.mot_player.proofs.Laws.{changes-go-early, few-changed, few-followed, few-heard}
use Rattle.mot_player.proofs.Laws.{few-opened, few-sent, few-steps, AreKinds-turn, FirstRequest}
use Rattle.mot_player.proofs.Laws.{IsKind, between-put, between-replaced, between-same}
use Rattle.mot_player.proofs.Laws.{between-withdrawn, changes-come-next, first_request, others-both}
use Rattle.mot_listening.proofs.Collected.{had-holds}
use Rattle.mot_listening.proofs.Counts.{packets-are, packets_for}
use Rattle.mot_listening.proofs.EarlyBodies.{AreOthersOf, ComesEarly, IsOneOf, Pair, Stay, Widens}
use Rattle.mot_listening.proofs.EarlyBodies.{early-few, early-more, early-others, early-tail}
use Rattle.mot_listening.proofs.EarlyBodies.{early-widen, early-without, first_ones-are, ids_of}
use Rattle.mot_listening.proofs.EarlyBodies.{none-early, not-own, one-front, one-middle}
use Rattle.mot_listening.proofs.EarlyBodies.{one-replaced, one-withdrawn, others-without}
use Rattle.mot_listening.proofs.EarlyBodies.{own-behind}
use Rattle.mot_listening.proofs.Heard.{AreOfTurn, IsOnAir, heard-on, opened-on, sent-on}
use Rattle.mot_listening.proofs.OfTurn.{changed-on, followed-on}
use Rattle.mot_listening.proofs.Rest.{bodies-heard}
use Rattle.mot_listening.specs.Ends.{AreFollowed, EarlyIsShort, HasBodies, turn_behind}
use Rattle.mot_listening.specs.Listening.{HearsBodiesIn, HearsEntity, HearsNewBodies}
use Rattle.mot_listening.specs.Waits.{early_packets, early_within, longest_body, longest_of}

-- what comes early of a place of a turn
abbrev Comes : ℕ → Turn → Place → Type 0
Comes size turn place = ComesEarly size turn.bodies (early_of place)

take-none : (xs : List Segment) → take zero xs ≡ []
take-none [] = refl
take-none (x ∷ xs) = refl

-- ---- it stays so

first-none : (size early : ℕ) (bodies : List Pair) (xs : List Segment) → early ≡ 0 →
    ComesEarly size bodies (take early xs)
first-none size early bodies xs e =
    subst (ComesEarly size bodies) (sym (ap (λ (n : ℕ). take n xs) e ∙ take-none xs))
    (none-early size bodies)

pub opened-comes : (address room size : ℕ) (turn : Turn) (follows : Option ℕ) →
    Comes size turn (record (opened_place address room size turn) { follows = follows })
opened-comes address room size turn follows =
    let place : Place = record (opened_place address room size turn) { follows = follows } in
    first-none size 0 turn.bodies (of_bodies (left_of place)) refl

-- a segment is begun
body-begun : (size early : ℕ) (bodies : List Pair) (t : Segment) (xs : List Segment) →
    ComesEarly size bodies (take early (t ∷ xs)) → ComesEarly size bodies (take (early - 1) xs)
body-begun size zero bodies t xs comes =
    first-none size (0 - 1) bodies xs (let none : 0 - 1 ≡ 0 = omega arith in none)
body-begun size (suc k) bodies t xs comes =
    subst (λ (n : ℕ). ComesEarly size bodies (take n xs))
    (let same : k ≡ suc k - 1 = omega arith in same) (early-tail size bodies t (take k xs) comes)

begun-comes : (size early : ℕ) (bodies : List Pair) (t : Segment) (xs : List Segment) →
    IsKind t → ComesEarly size bodies (take early (of_bodies (t ∷ xs))) →
    ComesEarly size bodies (take (if t.kind == 6 then early else early - 1) (of_bodies xs))
begun-comes size early bodies t xs (inl six) comes =
    let body : (t.kind == 4) ≡ false = ap (λ (n : ℕ). n == 4) six in
    let other : (t.kind == 6) ≡ true = eq-eqb t.kind 6 six in
    subst (λ (b : Bool). ComesEarly size bodies (take (if b then early else early - 1)
    (of_bodies xs))) (sym other)
    (subst (λ (b : Bool). ComesEarly size bodies (take early (if b then t ∷ of_bodies xs
    else of_bodies xs))) body comes)
begun-comes size early bodies t xs (inr four) comes =
    let body : (t.kind == 4) ≡ true = eq-eqb t.kind 4 four in
    let other : (t.kind == 6) ≡ false = ap (λ (n : ℕ). n == 6) four in
    subst (λ (b : Bool). ComesEarly size bodies (take (if b then early else early - 1)
    (of_bodies xs))) (sym other)
    (body-begun size early bodies t (of_bodies xs)
    (subst (λ (b : Bool). ComesEarly size bodies (take early (if b then t ∷ of_bodies xs
    else of_bodies xs))) body comes))

-- what waits comes early, where so much of it is counted
waits-early : (place : Place) → place.early ≤ length (of_bodies place.waiting) →
    early_of place ≡ take place.early (of_bodies place.waiting)
waits-early place counted = under-cases place.under_way
  where
    waits-cases : (waiting whole : List Segment) →
        place.early ≤ length (of_bodies waiting) →
        take place.early (of_bodies (if is_empty waiting then whole else waiting))
        ≡ take place.early (of_bodies waiting)
    waits-cases [] whole l =
        let none : place.early ≡ 0 = omega (arith, l) in
        ap (λ (n : ℕ). take n (of_bodies whole)) none ∙ take-none (of_bodies whole)
        ∙ sym (ap (λ (n : ℕ). take n (of_bodies [])) none ∙ take-none (of_bodies []))
    waits-cases (t ∷ waiting) whole l = refl

    under-cases : (u : Option UnderWay) →
        take place.early (of_bodies (left_with place u))
        ≡ take place.early (of_bodies place.waiting)
    under-cases None = waits-cases place.waiting _ counted
    under-cases (Some u) = refl

first-comes : (size : ℕ) (turn : Turn) (place : Place) (segments : List Segment) (s : Sent) →
    AreOfTurn size turn segments →
    ComesEarly size turn.bodies (take place.early (of_bodies segments)) →
    first_sent place segments ≡ Some s →
    ComesEarly size turn.bodies (take s.place.early (of_bodies s.place.waiting))
first-comes size turn place [] s of_turn comes e = absurd (none-some s e)
first-comes size turn place (t ∷ segments) s of_turn comes e =
    let g : GroupFields = group_for place t in
    let begun : Place = with_begun place g segments in
    subst (λ (x : Sent). ComesEarly size turn.bodies
    (take x.place.early (of_bodies x.place.waiting)))
    (same_Some (packet_sent begun (bytes_of_group g) 0) s e)
    (begun-comes size place.early turn.bodies t segments
    (had-holds IsKind _ t (AreKinds-turn turn size) of_turn.0) comes)

next-comes : (size : ℕ) (turn : Turn) (place : Place) (u : Option UnderWay) (s : Sent) →
    AreOfTurn size turn (left_with place u) →
    ComesEarly size turn.bodies (take place.early (of_bodies (left_with place u))) →
    next_sent place u ≡ Some s →
    ComesEarly size turn.bodies (take s.place.early (of_bodies s.place.waiting))
next-comes size turn place None s of_turn comes e =
    first-comes size turn place (to_send place) s of_turn comes e
next-comes size turn place (Some u) s of_turn comes e =
    subst (λ (x : Sent). ComesEarly size turn.bodies
    (take x.place.early (of_bodies x.place.waiting)))
    (same_Some (packet_sent place u.group u.sent) s e) comes

pub sent-comes : (size : ℕ) (turn : Turn) (place : Place) (s : Sent) → IsOnAir size turn place →
    AreFewEarly s.place → Comes size turn place → request place ≡ Some s →
    Comes size turn s.place
unfolding request
sent-comes size turn place s on few comes e =
    subst (ComesEarly size turn.bodies) (sym (waits-early s.place few.counted))
    (next-comes size turn place place.under_way s on.left comes e)

pub heard-comes : (size : ℕ) (turn : Turn) (place : Place) → 0 < size → HasDirectory turn →
    IsOnAir size turn place → Comes size turn place → Comes size turn (hear_directory place)
unfolding hear_directory
heard-comes size turn place some has on comes =
    subst (λ (xs : List Segment). ComesEarly size turn.bodies (take place.early xs))
    (sym (bodies-heard size turn place some has on)) comes

-- ---- behind a change

-- a change leaves of what came early what stays, and the body that came, if it goes early
abbrev AfterChange : ℕ → List Pair → List Segment → (Change → Bool) → Change → Type 0
AfterChange size news early goes change =
    ComesEarly size news (that_stay change early
    ++ (if goes change then fresh_segments size change else []))

none-more : (size : ℕ) (bodies : List Pair) (early : List Segment) (b : Bool) →
    ComesEarly size bodies early → ComesEarly size bodies (early ++ (if b then [] else []))
none-more size bodies early b comes =
    subst (ComesEarly size bodies) (sym (append-none b)) comes
  where
    append-none : (b : Bool) → early ++ (if b then [] else []) ≡ early
    append-none true = append-nil early
    append-none false = append-nil early

if-more : (size : ℕ) (bodies : List Pair) (early : List Segment) (f : Pair) (b : Bool) →
    IsOneOf bodies f → ComesEarly size bodies early →
    ComesEarly size bodies (early ++ (if b then segments_of 4 f.0 size f.1 else []))
if-more size bodies early f true one comes = early-more size bodies early f one comes
if-more size bodies early f false one comes =
    subst (ComesEarly size bodies) (sym (append-nil early)) comes

early-changes : (size : ℕ) (olds news : List Pair) (early : List Segment) (goes : Change → Bool) →
    IsOneChange olds news → is_distinct (ids_of olds) ≡ true → ComesEarly size olds early →
    AfterChange size news early goes (change_between olds news)
early-changes size olds news early goes (same h) distinct comes =
    subst (AfterChange size news early goes)
    (sym (ap (change_between olds) h ∙ between-same olds))
    (none-more size news early (goes Same)
    (subst (λ (bs : List Pair). ComesEarly size bs early) (sym h) comes))
early-changes size olds news early goes (put f h) distinct comes =
    let wider : Widens olds news = λ b one.
    subst (λ (bs : List Pair). IsOneOf bs b) (sym h) (one-front olds (f ∷ []) b one) in
    subst (AfterChange size news early goes)
    (sym (ap (change_between olds) h ∙ between-put olds f))
    (if-more size news early f (goes (Put f))
    (subst (λ (bs : List Pair). IsOneOf bs f) (sym h) (one-middle olds [] f))
    (early-widen size olds news early wider comes))
early-changes size olds news early goes (replaced before after g f h i o) distinct comes =
    let stay : Stay g.0 olds news = λ b one other.
    subst (λ (bs : List Pair). IsOneOf bs b) (sym i)
    (one-replaced before after g f b (subst (λ (bs : List Pair). IsOneOf bs b) h one) other) in
    subst (AfterChange size news early goes)
    (sym (ap (λ (bs : List Pair). change_between bs news) h
    ∙ ap (change_between (before ++ g ∷ after)) i ∙ between-replaced before after g f o))
    (if-more size news (that_stay (Replaced g.0 f) early) f (goes (Replaced g.0 f))
    (subst (λ (bs : List Pair). IsOneOf bs f) (sym i) (one-middle before after f))
    (early-without size g.0 olds news early stay comes))
early-changes size olds news early goes (withdrawn before after g h i) distinct comes =
    let once : is_distinct (ids_of (before ++ g ∷ after)) ≡ true =
    ap (λ (bs : List Pair). is_distinct (ids_of bs)) (sym h) ∙ distinct in
    let stay : Stay g.0 olds news = λ b one other.
    subst (λ (bs : List Pair). IsOneOf bs b) (sym i)
    (one-withdrawn before after g b (subst (λ (bs : List Pair). IsOneOf bs b) h one) other) in
    subst (AfterChange size news early goes)
    (sym (ap (λ (bs : List Pair). change_between bs news) h
    ∙ ap (change_between (before ++ g ∷ after)) i
    ∙ between-withdrawn before after g (others-both before after g once).1))
    (none-more size news (that_stay (Withdrawn g.0) early) (goes (Withdrawn g.0))
    (early-without size g.0 olds news early stay comes))

pub followed-comes : (size : ℕ) (old turn : Turn) (place : Place) → 0 < size →
    HasDirectory turn → IsFollowable old turn → IsOnAir size old place → Comes size old place →
    Comes size turn (follow turn place)
followed-comes size old turn place some has followable on comes =
    let here : 0 < place.segment_size = subst (λ (n : ℕ). 0 < n) (sym on.size_is) some in
    let next = changes-come-next place turn here has in
    let goes : Change → Bool = λ c. goes_early c place in
    subst (ComesEarly size turn.bodies) (sym next.early)
    (subst (λ (n : ℕ). ComesEarly size turn.bodies
    (that_stay (change_between place.turn.bodies turn.bodies) (early_of place)
    ++ (if goes (change_between place.turn.bodies turn.bodies)
    then fresh_segments n (change_between place.turn.bodies turn.bodies) else [])))
    (sym on.size_is)
    (subst (λ (t : Turn). AfterChange size turn.bodies (early_of place) goes
    (change_between t.bodies turn.bodies)) (sym on.turn_is)
    (early-changes size old.bodies turn.bodies (early_of place) goes followable.change
    followable.distinct comes)))

anew-comes : (size : ℕ) (turn : Turn) (place : Place) → Comes size turn (change_turn turn place)
unfolding change_turn
anew-comes size turn place =
    first-none size 0 turn.bodies (of_bodies (left_of (change_turn turn place))) refl

pub changed-comes_early : (size : ℕ) (old turn : Turn) (place : Place) → 0 < size →
    HasDirectory turn → IsFollowable old turn → IsOnAir size old place → Comes size old place →
    Comes size turn (changed turn place)
unfolding changed
changed-comes_early size old turn place some has followable on comes =
    change-cases (is_some place.follows)
  where
    change-cases : (b : Bool) →
        Comes size turn (if b then follow turn place else change_turn turn place)
    change-cases true = followed-comes size old turn place some has followable on comes
    change-cases false = anew-comes size turn place

-- the body that came
abbrev FreshBehind : ℕ → List Segment → Pair → Change → Type 0
FreshBehind size early f change =
    own_segments 4 f.0 (that_stay change early ++ fresh_segments size change)
    ≡ segments_of 4 f.0 size f.1

one-of_more : (xs : List Pair) (f b : Pair) → IsOneOf (xs ++ f ∷ []) b → IsOneOf xs b ⊎ (b ≡ f)
one-of_more [] f b (inl e) = inr e
one-of_more [] f b (inr is) = absurd is
one-of_more (x ∷ xs) f b (inl e) = inl (inl e)
one-of_more (x ∷ xs) f b (inr is) = more-cases (one-of_more xs f b is)
  where
    more-cases : IsOneOf xs b ⊎ (b ≡ f) → IsOneOf (x ∷ xs) b ⊎ (b ≡ f)
    more-cases (inl one) = inl (inr one)
    more-cases (inr e) = inr e

one-of_replaced : (before after : List Pair) (g f b : Pair) → IsOneOf (before ++ f ∷ after) b →
    IsOneOf (before ++ g ∷ after) b ⊎ (b ≡ f)
one-of_replaced [] after g f b (inl e) = inr e
one-of_replaced [] after g f b (inr is) = inl (inr is)
one-of_replaced (x ∷ before) after g f b (inl e) = inl (inl e)
one-of_replaced (x ∷ before) after g f b (inr is) =
    replaced-cases (one-of_replaced before after g f b is)
  where
    replaced-cases : IsOneOf (before ++ g ∷ after) b ⊎ (b ≡ f) →
        IsOneOf (x ∷ before ++ g ∷ after) b ⊎ (b ≡ f)
    replaced-cases (inl one) = inl (inr one)
    replaced-cases (inr e) = inr e

one-of_withdrawn : (before after : List Pair) (g b : Pair) → IsOneOf (before ++ after) b →
    IsOneOf (before ++ g ∷ after) b
one-of_withdrawn [] after g b is = inr is
one-of_withdrawn (x ∷ before) after g b (inl e) = inl e
one-of_withdrawn (x ∷ before) after g b (inr is) =
    inr (one-of_withdrawn before after g b is)

-- it has none of the old ids
not-old : (bodies : List Pair) (b : Pair) → IsOneOf bodies b →
    contains (ids_of bodies) b.0 ≡ false → ⊥
not-old bodies b one other =
    let not : (b.0 == b.0) ≡ false = not-own bodies b.0 b one other in
    absurd (let f : true ≡ false = sym (eq-eqb b.0 b.0 refl) ∙ not in cc)

fresh-one : (size : ℕ) (olds : List Pair) (early : List Segment) (f b : Pair) →
    contains (ids_of olds) b.0 ≡ false → IsOneOf olds b ⊎ (b ≡ f) → AreOthersOf b.0 early →
    own_segments 4 b.0 (early ++ segments_of 4 f.0 size f.1) ≡ segments_of 4 b.0 size b.1
fresh-one size olds early f b other (inl one) none = absurd (not-old olds b one other)
fresh-one size olds early f b other (inr e) none =
    ap (λ (p : Pair). own_segments 4 b.0 (early ++ segments_of 4 p.0 size p.1)) (sym e)
    ∙ own-behind size b early none

fresh-behind : (size : ℕ) (olds news : List Pair) (early : List Segment) (b : Pair) →
    IsOneChange olds news → is_distinct (ids_of olds) ≡ true → IsOneOf news b →
    contains (ids_of olds) b.0 ≡ false → AreOthersOf b.0 early →
    FreshBehind size early b (change_between olds news)
fresh-behind size olds news early b (same h) distinct one other none =
    absurd (not-old olds b (subst (λ (bs : List Pair). IsOneOf bs b) h one) other)
fresh-behind size olds news early b (put f h) distinct one other none =
    subst (FreshBehind size early b)
    (sym (ap (change_between olds) h ∙ between-put olds f))
    (fresh-one size olds early f b other
    (one-of_more olds f b (subst (λ (bs : List Pair). IsOneOf bs b) h one)) none)
fresh-behind size olds news early b (replaced before after g f h i o) distinct one other none =
    subst (FreshBehind size early b)
    (sym (ap (λ (bs : List Pair). change_between bs news) h
    ∙ ap (change_between (before ++ g ∷ after)) i ∙ between-replaced before after g f o))
    (fresh-one size olds (without g.0 early) f b other
    (subst (λ (bs : List Pair). IsOneOf bs b ⊎ (b ≡ f)) (sym h)
    (one-of_replaced before after g f b (subst (λ (bs : List Pair). IsOneOf bs b) i one)))
    (others-without b.0 g.0 early none))
fresh-behind size olds news early b (withdrawn before after g h i) distinct one other none =
    absurd (not-old olds b (subst (λ (bs : List Pair). IsOneOf bs b) (sym h)
    (one-of_withdrawn before after g b (subst (λ (bs : List Pair). IsOneOf bs b) i one))) other)

-- ---- how many packets that is

longest-one : (room size : ℕ) (bodies : List Pair) (b : Pair) → IsOneOf bodies b →
    packets_for room (segments_of 4 b.0 size b.1) ≤ longest_of room size bodies
longest-one room size [] b one = absurd one
longest-one room size (x ∷ bodies) b (inl e) =
    omega (
      arith,
      ap (λ (p : Pair). packets_for room (segments_of 4 p.0 size p.1)) e,
      packets-are room (segments_of 4 x.0 size x.1),
    )
longest-one room size (x ∷ bodies) b (inr one) = omega (arith, longest-one room size bodies b one)

-- what comes early takes no more packets than so many bodies, and one
pub early-short : (size : ℕ) (turn : Turn) (place : Place) → IsOnAir size turn place →
    AreFewEarly place → Comes size turn place → early_packets place ≤ early_within place
early-short size turn place on few comes =
    let longest : ℕ = longest_of place.room size turn.bodies in
    let long : longest_body place ≡ longest =
    ap (λ (n : ℕ). longest_of place.room n place.turn.bodies) on.size_is
    ∙ ap (λ (t : Turn). longest_of place.room size t.bodies) on.turn_is in
    let count : packets_for place.room (early_of place) ≤ (most_early place + 1) * longest =
    early-few place.room size (most_early place) longest turn.bodies (early_of place)
    (longest-one place.room size turn.bodies) comes
    (omega (arith, first_ones-are (early_of place), few.few)) in
    subst (λ (n : ℕ). early_packets place ≤ (most_early place + 1) * n) (sym long)
    (subst (λ (n : ℕ). n ≤ (most_early place + 1) * longest)
    (packets-are place.room (early_of place)) count)

-- ---- over steps

-- a place on air, of which few bodies come early
pub record IsEarlyOn (size : ℕ) (turn : Turn) (place : Place) : Type 0 where
  pub on : IsOnAir size turn place
  pub few : AreFewEarly place
  pub comes : Comes size turn place

pub early-opened : (address room size : ℕ) (turn : Turn) (follows : Option ℕ) → 0 < room →
    IsEarlyOn size turn (record (opened_place address room size turn) { follows = follows })
early-opened address room size turn follows some = record {
  on = opened-on address room size turn follows some;
  few = few-opened address room size turn follows;
  comes = opened-comes address room size turn follows;
}

pub early-sent : (size : ℕ) (turn : Turn) (place : Place) (s : Sent) → 0 < size →
    IsEarlyOn size turn place → request place ≡ Some s → IsEarlyOn size turn s.place
early-sent size turn place s some is e =
    let few : AreFewEarly s.place = (few-sent place s is.few e).0 in record {
      on = sent-on size turn place s some is.on e;
      few = few;
      comes = sent-comes size turn place s is.on few is.comes e;
    }

pub early-heard : (size : ℕ) (turn : Turn) (place : Place) → 0 < size → HasDirectory turn →
    IsEarlyOn size turn place → IsEarlyOn size turn (hear_directory place)
early-heard size turn place some has is = record {
  on = heard-on size turn place some has is.on;
  few = few-heard place is.few;
  comes = heard-comes size turn place some has is.on is.comes;
}

pub early-followed : (size : ℕ) (old turn : Turn) (place : Place) → 0 < size →
    HasDirectory turn → IsFollowable old turn → IsEarlyOn size old place →
    IsEarlyOn size turn (follow turn place)
early-followed size old turn place some has followable is = record {
  on = followed-on size old turn place some has followable is.on;
  few = few-followed turn place is.few;
  comes = followed-comes size old turn place some has followable is.on is.comes;
}

pub early-changed : (size : ℕ) (old turn : Turn) (place : Place) → 0 < size →
    HasDirectory turn → IsFollowable old turn → IsEarlyOn size old place →
    IsEarlyOn size turn (changed turn place)
early-changed size old turn place some has followable is = record {
  on = changed-on size old turn place some has followable is.on;
  few = few-changed turn place is.few;
  comes = changed-comes_early size old turn place some has followable is.on is.comes;
}

early-steps : (size : ℕ) (turn : Turn) (steps : List Step) (place : Place) (sents : List Sent)
    (new : Place) → 0 < size → HasBodies turn → IsEarlyOn size turn place →
    AreFollowed turn steps → sent_by place steps ≡ Some (sents, new) →
    IsEarlyOn size (turn_behind turn steps) new
unfolding sent_by
early-steps size turn [] place sents new some has is f h =
    subst (IsEarlyOn size turn) (some_pair_parts [] sents place new h).1 is
early-steps size turn (Request ∷ steps) place sents new some has is f h =
    let q : FirstRequest place steps sents new = first_request place steps sents new h in
    early-steps size turn steps q.first.place q.others new some has
    (early-sent size turn place q.first some is q.asked) f q.rest
early-steps size turn (NewTurn t ∷ steps) place sents new some has is f h = absurd f
early-steps size turn (Directory ∷ steps) place sents new some has is f h =
    early-steps size turn steps (hear_directory place) sents new some has
    (early-heard size turn place some has.directory is) f h
early-steps size turn (Follow t ∷ steps) place sents new some has is f h =
    early-steps size t steps (follow t place) sents new some f.0
    (early-followed size turn t place some f.0.directory
    (record { change = f.1; distinct = has.distinct }) is) f.2 h

pub early_is_short : EarlyIsShort
early_is_short address room size most first steps sents place some large has followed happens =
    let start : Place = record (opened_place address room size first) { follows = Some most } in
    let is = early-steps size first steps start sents place large has
    (early-opened address room size first (Some most) some) followed happens in
    let same : most_early place ≡ most =
    ap (λ (o : Option ℕ). unwrap_or o 0)
    (few-steps steps start place sents (few-opened address room size first (Some most)) happens).1
    in
    subst (λ (n : ℕ). early_packets place ≤ (n + 1) * longest_body place) same
    (early-short size (turn_behind first steps) place is.on is.few is.comes)

-- ---- the body of a change

some-follows : (o : Option ℕ) (n : ℕ) → n < unwrap_or o 0 → is_some o ≡ true
some-follows None n l = absurd (omega (arith, l))
some-follows (Some most) n l = refl

-- one that comes with a change, of none of the old ids, comes early whole, where few do
fresh-early : (size : ℕ) (old turn : Turn) (place : Place) (f : Pair) → 0 < size →
    HasDirectory turn → IsFollowable old turn → IsEarlyOn size old place →
    bodies_not_begun (early_of place) < most_early place →
    IsOneOf turn.bodies f → contains (ids_of old.bodies) f.0 ≡ false →
    own_segments 4 f.0 (early_of (changed turn place)) ≡ segments_of 4 f.0 size f.1
unfolding changed
fresh-early size old turn place f some has followable is few one other =
    let follows : is_some place.follows ≡ true =
    some-follows place.follows (bodies_not_begun (early_of place)) few in
    let c : Change = change_between place.turn.bodies turn.bodies in
    let here : 0 < place.segment_size = subst (λ (n : ℕ). 0 < n) (sym is.on.size_is) some in
    let comes : early_of (follow turn place)
    ≡ that_stay c (early_of place) ++ fresh_segments place.segment_size c =
    changes-go-early place turn here has few in
    let same : c ≡ change_between old.bodies turn.bodies =
    ap (λ (t : Turn). change_between t.bodies turn.bodies) is.on.turn_is in
    let same_fresh : fresh_segments place.segment_size c
    ≡ fresh_segments size (change_between old.bodies turn.bodies) =
    ap (λ (n : ℕ). fresh_segments n c) is.on.size_is
    ∙ ap (fresh_segments size) same in
    ap (λ (b : Bool). own_segments 4 f.0
    (early_of (if b then follow turn place else change_turn turn place))) follows
    ∙ ap (own_segments 4 f.0) (comes ∙ ap (λ (x : Change). that_stay x (early_of place)
    ++ fresh_segments place.segment_size c) same
    ∙ ap (λ (ss : List Segment). that_stay (change_between old.bodies turn.bodies)
    (early_of place) ++ ss) same_fresh)
    ∙ fresh-behind size old.bodies turn.bodies (early_of place) f followable.change
    followable.distinct one other (early-others size f.0 old.bodies (early_of place) other is.comes)

ids-same : (objects : List Object) →
    ids_of (bodies_with_ids objects) ≡ map (λ (o : Object). o.tid) objects
ids-same [] = refl
ids-same (o ∷ objects) = ap (λ (ids : List ℕ). o.tid ∷ ids) (ids-same objects)

-- each new body is heard, if all new ones come early
new-bodies : (size : ℕ) (bodies : List Pair) (ids : List ℕ) (early : List Segment)
    (Hears : Object → Type 0) (objects : List Object) →
    ((f : Pair) → IsOneOf bodies f → contains ids f.0 ≡ false →
    own_segments 4 f.0 early ≡ segments_of 4 f.0 size f.1) →
    ((f : Pair) → IsOneOf (bodies_with_ids objects) f → IsOneOf bodies f) →
    AllByRecursion (λ (o : Object).
    own_segments 4 o.tid early ≡ segments_of 4 o.tid size o.body → Hears o) objects →
    AllByRecursion (λ (o : Object). contains ids o.tid ≡ false → Hears o) objects
new-bodies size bodies ids early Hears [] own among heard = tt
new-bodies size bodies ids early Hears (o ∷ objects) own among heard = (
  λ new. heard.0 (own (o.tid, o.body) (among (o.tid, o.body) (inl refl)) new),
  new-bodies size bodies ids early Hears objects own (λ f one. among f (inr one)) heard.1,
)

pub hears-new : (size : ℕ) (old now : Carousel) (was : Place) (packets : List (List ℕ)) →
    0 < size → HasDirectory (turn_of_carousel now size) →
    IsFollowable (turn_of_carousel old size) (turn_of_carousel now size) →
    IsEarlyOn size (turn_of_carousel old size) was →
    bodies_not_begun (early_of was) < most_early was →
    HearsBodiesIn packets now size (early_of (changed (turn_of_carousel now size) was)) →
    HearsNewBodies packets old now
hears-new size old now was packets some has can early few heard =
    let turn : Turn = turn_of_carousel now size in
    new-bodies size (bodies_with_ids now.objects) (map (λ (o : Object). o.tid) old.objects)
    (early_of (changed turn was)) (λ (o : Object). HearsEntity packets 4 o.tid o.body) now.objects
    (λ f one new. fresh-early size (turn_of_carousel old size) turn was f some has can early few one
    (ap (λ (ids : List ℕ). contains ids f.0) (ids-same old.objects) ∙ new)) (λ f one. one) heard
