-- A turn of which no packet was sent, whatever changes were followed before it, reads as its
-- carousel.
use Rattle.std.proofs.Common.{◌≡◌, ℕ, suc, zero, ◌+◌, ◌<◌, ◌≤◌, List, [], ◌∷◌, ◌++◌, Bool, true}
use Rattle.std.proofs.Common.{false, Option, Some, None, ◌⊎◌, inl, inr, refl, sym, subst, map}
use Rattle.std.proofs.Common.{length, ap, ◌∙◌, arith, append-nil, eq-eqb, not}
use Rattle.std.proofs.lemmas.Bool.{and_parts, eqb-true, ltb-false, not-true, not_from_false}
use Rattle.std.proofs.lemmas.List.{append_assoc, take-append-drop}
use Rattle.std.proofs.lemmas.List.Elements.{filter-append}
use Rattle.std.specs.Prelude.{◌==◌, ◌&&◌, IfSome, filter, flat_map, if◌then◌else◌, is_some}
use Rattle.std.specs.List.{AllByRecursion}
use Rattle.std.specs.Cmp.{nat_eq_equiv}
use Rattle.mot_directory.specs.Directory.{bytes_of_directory}
use Rattle.mot_groups.specs.Entity.{own_segments, pieces, segments_of}
use Rattle.mot_groups.specs.Group.{Segment, bytes_of_group}
use Rattle.mot_numbers.specs.Reading.{is_empty}
use Rattle.mot_numbers.specs.declared.numbers.TheConstants.{MAX_SEGMENT}
use Rattle.mot_objects.specs.Carousel.{Carousel, IsSound}
use Rattle.mot_objects.specs.Ids.{contains, is_distinct}
use Rattle.mot_packets.specs.Gather.{gather, gather_front, groups_after}
use Rattle.mot_player.specs.Turn.{IsFollowable, IsOneChange, put, replaced, same, withdrawn}
use Rattle.mot_player.specs.Turn.{IsPlayable, IsTurnOf, Turn, segments_of_bodies, segments_of_turn}
use Rattle.mot_player.specs.Turn.{turn_of_carousel}
use Rattle.mot_player.specs.Laws.{AreSent, IsPlace}
use Rattle.mot_player.specs.Place.{Change, Place, Put, Replaced, Same, Sent, Step, UnderWay}
use Rattle.mot_player.specs.Place.{Withdrawn, bodies_not_begun, change_between, change_turn}
use Rattle.mot_player.specs.Place.{changed, goes_early, most_early, directory_segments, early_after}
use Rattle.mot_player.specs.Place.{early_of, follow, followed_by, hear_directory, in_its_place}
use Rattle.mot_player.specs.Place.{left_of, left_with, next_sent, of_bodies, opened_place, request}
use Rattle.mot_player.specs.Place.{rest_of, sent_by, without}
use Rattle.mot_player.specs.Reading.{read_segments}
use Rattle.mot_player.specs.Repeats.{ReadsOnceAs, ends_at_last, read_turn_once, received}
use Rattle.mot_player.specs.Staying.{AreFewEarly, HasDirectory, touches}
use Rattle.mot_player.proofs.Asked.{keep_turn}
use Rattle.mot_player.proofs.Addresses.{one_address, steps-address}
use Rattle.mot_player.proofs.Beginnings.{StandsAt}
use Rattle.mot_player.proofs.FewEarly.{both-counted}
use Rattle.mot_player.proofs.Followed.{AreBodies, bodies-append, bodies-early_after, takes_away}
use Rattle.mot_player.proofs.Followed.{bodies-renewed, followed-bodies, gone-none, followed-left}
use Rattle.mot_player.proofs.Followed.{own-followed, renewed, of_bodies-directory}
use Rattle.mot_player.proofs.FollowedTurn.{between-put, between-replaced, between-same, AreSome}
use Rattle.mot_player.proofs.FollowedTurn.{between-withdrawn, ids, other-inside, others-both}
use Rattle.mot_player.proofs.FollowedTurn.{some-inside}
use Rattle.mot_player.proofs.FreshReads.{IsOwn, all-again, body-absent, body_of, copies, map-ids}
use Rattle.mot_player.proofs.FreshReads.{own-whole, reads-again}
use Rattle.mot_player.proofs.Left.{filter-within, own, own-directory, own-of_bodies}
use Rattle.mot_player.proofs.Repeated.{heard-left, none-behind, of_bodies-all}
use Rattle.mot_player.proofs.Requests.{packets_of}
use Rattle.mot_player.proofs.TurnOnce.{IsWithin, bodies-bodies, steps-send, front-fit}
use Rattle.mot_player.proofs.UnderWay.{front_of, group_of}
use Rattle.mot_player.proofs.TurnReads.{EntityLaws, bodies-some, own-numbered_segments}
use Rattle.mot_player.proofs.WholeTurn.{IsFit, append-fit, are_fit-turn, entity-laws, groups-read}
use Rattle.mot_player.proofs.WholeTurn.{whole_or_none}

-- No packet of the turn was sent yet: no group is under way, and what is left is its directory and
-- then bodies of it, each whole, once or more often.
pub record IsFresh (place : Place) : Type 0 where
  pub under_way : place.under_way ≡ None
  pub bodies : List Segment
  pub left : left_of place ≡ directory_segments place.turn place.segment_size ++ bodies
  pub are_bodies : AreBodies bodies
  pub own : (id : ℕ) → IsOwn place.segment_size id (body_of id place.turn.bodies)
      (own_segments 4 id (left_of place))

-- no two bodies have one id
abbrev pub IsApartTurn : Turn → Type 0
IsApartTurn turn = is_distinct (ids turn.bodies) ≡ true

-- ---- a whole turn

own-turn : (id size : ℕ) (turn : Turn) → IsApartTurn turn →
    IsOwn size id (body_of id turn.bodies) (own_segments 4 id (segments_of_turn turn size))
own-turn id size turn d =
    grind (arith, body_of, filter-append, own-directory, own-whole)

pub fresh-whole : (place : Place) → place.under_way ≡ None →
    (place.waiting ≡ []) ⊎ (place.waiting ≡ segments_of_turn place.turn place.segment_size) →
    IsApartTurn place.turn → IsFresh place
fresh-whole place none next d =
    let size : ℕ = place.segment_size in
    let left : left_of place ≡ segments_of_turn place.turn size =
    ap (left_with place) none
    ∙ whole_or_none place.waiting (segments_of_turn place.turn size) next in
    record {
      under_way = none;
      bodies = segments_of_bodies size place.turn.bodies;
      left = left;
      are_bodies = bodies-bodies size place.turn.bodies;
      own = λ id. subst (λ (ss : List Segment).
          IsOwn size id (body_of id place.turn.bodies) (own_segments 4 id ss)) (sym left)
          (own-turn id size place.turn d);
    }

pub fresh-opened : (address room size : ℕ) (turn : Turn) (follows : Option ℕ) → IsApartTurn turn →
    IsFresh (record (opened_place address room size turn) { follows = follows })
fresh-opened address room size turn follows d =
    grind (arith, fresh-whole)

-- where a turn has ended, nothing is under way and nothing waits
abbrev HasEnded : Place → Type 0
HasEnded place = (place.under_way ≡ None) × (place.waiting ≡ [])

pub next-ended : (place : Place) (u : Option UnderWay) (s : Sent) → next_sent place u ≡ Some s →
    s.ends_turn ≡ true → HasEnded s.place
next-ended place u s e f = grind arith

-- behind the packet that ends a turn
pub fresh-sent : (place : Place) (s : Sent) → request place ≡ Some s → s.ends_turn ≡ true →
    IsApartTurn s.place.turn → IsFresh s.place
unfolding request
fresh-sent place s e f d =
    let ended = next-ended place place.under_way s e f in
    fresh-whole s.place ended.0 (inl ended.1) d

-- ---- the directory is asked for

heard-fresh-left : (place : Place) → 0 < place.segment_size → HasDirectory place.turn →
    IsFresh place → left_of (hear_directory place) ≡ left_of place
unfolding hear_directory
heard-fresh-left place some has fresh =
    cases (heard-left place place.under_way place.waiting (is_empty place.waiting) refl some has)
  where
    directory : List Segment
    directory = directory_segments place.turn place.segment_size

    bodies-are : of_bodies (left_of place) ≡ fresh.bodies
    bodies-are =
        ap of_bodies fresh.left
        ∙ filter-append (λ (s : Segment). s.kind == 4) directory fresh.bodies
        ∙ ap (λ (ss : List Segment). ss ++ of_bodies fresh.bodies)
        (of_bodies-directory place.turn.tid 0 (pieces place.segment_size place.turn.directory))
        ∙ of_bodies-all fresh.bodies fresh.are_bodies

    cases : (left_of (hear_directory place) ≡ left_of place)
        ⊎ (left_of (hear_directory place) ≡ directory ++ of_bodies (left_of place)) →
        left_of (hear_directory place) ≡ left_of place
    cases (inl e) = e
    cases (inr e) = e ∙ ap (λ (ss : List Segment). directory ++ ss) bodies-are ∙ sym fresh.left

pub fresh-heard : (place : Place) → 0 < place.segment_size → HasDirectory place.turn →
    IsFresh place → IsFresh (hear_directory place)
unfolding hear_directory
fresh-heard place some has fresh =
    let left : left_of (hear_directory place) ≡ left_of place =
    heard-fresh-left place some has fresh in
    record {
      under_way = fresh.under_way;
      bodies = fresh.bodies;
      left = left ∙ fresh.left;
      are_bodies = fresh.are_bodies;
      own = λ id. subst (λ (ss : List Segment).
          IsOwn place.segment_size id (body_of id place.turn.bodies) (own_segments 4 id ss))
          (sym left) (fresh.own id);
    }

-- ---- bodies by their ids, before and behind a change

abbrev Pair : Type 0
Pair = ℕ × List ℕ

body-of_out : (id : ℕ) (before after : List Pair) (g : Pair) → (id == g.0) ≡ false →
    body_of id (before ++ after) ≡ body_of id (before ++ g ∷ after)
body-of_out id [] after g d = rw d refl
body-of_out id (b ∷ before) after g d =
    grind (arith, body-of_out id before after g d)

body-of_put : (id : ℕ) (bodies : List Pair) (f : Pair) → (id == f.0) ≡ false →
    body_of id (bodies ++ f ∷ []) ≡ body_of id bodies
body-of_put id bodies f e =
    sym (body-of_out id bodies [] f e) ∙ ap (body_of id) (append-nil bodies)

body-of_other : (id : ℕ) (before after : List Pair) (g f : Pair) → (id == g.0) ≡ false →
    (id == f.0) ≡ false → body_of id (before ++ f ∷ after) ≡ body_of id (before ++ g ∷ after)
body-of_other id before after g f d e =
    sym (body-of_out id before after f e) ∙ body-of_out id before after g d

-- one id differs from the ids before it
first-differs : (b f : Pair) (before after : List Pair) →
    is_distinct (ids (b ∷ before ++ f ∷ after)) ≡ true → (f.0 == b.0) ≡ false
first-differs b f before after d =
    grind (arith, and_parts, other-inside, not-true)

body-of_fresh : (before after : List Pair) (f : Pair) →
    is_distinct (ids (before ++ f ∷ after)) ≡ true →
    body_of f.0 (before ++ f ∷ after) ≡ Some f.1
body-of_fresh [] after f d = rw (eq-eqb f.0 f.0 refl) refl
body-of_fresh (b ∷ before) after f d =
    let all : List ℕ = ids (before ++ f ∷ after) in
    let parts = and_parts (not (contains all b.0)) (is_distinct all) d in
    rw (first-differs b f before after d) (body-of_fresh before after f parts.1)

-- and of one whose id stands once, none is where it is not
body-of_gone : (before after : List Pair) (f : Pair) →
    is_distinct (ids (before ++ f ∷ after)) ≡ true → body_of f.0 (before ++ after) ≡ None
body-of_gone [] after f d =
    let parts = and_parts (not (contains (ids after) f.0)) (is_distinct (ids after)) d in
    body-absent f.0 after (not-true (contains (ids after) f.0) parts.0)
body-of_gone (b ∷ before) after f d =
    let all : List ℕ = ids (before ++ f ∷ after) in
    let parts = and_parts (not (contains all b.0)) (is_distinct all) d in
    rw (first-differs b f before after d) (body-of_gone before after f parts.1)

body-of_none : (before after : List Pair) (f g : Pair) →
    is_distinct (ids (before ++ f ∷ after)) ≡ true → (f.0 == g.0) ≡ false →
    body_of f.0 (before ++ g ∷ after) ≡ None
body-of_none before after f g d e =
    sym (body-of_out f.0 before after g e) ∙ body-of_gone before after f d

-- ---- the segments of the body that came

-- none in front, where there are none
none-front : (xs ys : List Segment) → xs ++ ys ≡ [] → xs ≡ []
none-front [] ys e = refl
none-front (x ∷ xs) ys e = absurd (omega (arith, ap length e))

abbrev AreCopies : List Segment → List Segment → Type 0
AreCopies segments fresh = (n : ℕ) × (segments ≡ copies (suc n) fresh)

put-behind : (id : ℕ) (rest fresh : List Segment) → own_segments 4 id rest ≡ [] →
    own_segments 4 id fresh ≡ fresh → own_segments 4 id (rest ++ fresh) ≡ fresh
put-behind id rest fresh e f =
    filter-append (own id) rest fresh ∙ ap (λ ss. ss ++ own_segments 4 id fresh) e ∙ f

put-copies : (id : ℕ) (rest fresh : List Segment) (b early : Bool) →
    own_segments 4 id rest ≡ [] → own_segments 4 id fresh ≡ fresh →
    AreCopies (own_segments 4 id (if early then fresh else [])
    ++ own_segments 4 id (if b && early then [] else rest ++ fresh)) fresh
put-copies id rest fresh true true e f = (0, ap (λ ss. ss ++ []) f)
put-copies id rest fresh true false e f =
    (0, put-behind id rest fresh e f ∙ sym (append-nil fresh))
put-copies id rest fresh false true e f = (
  1,
  ap (λ ss. ss ++ own_segments 4 id (rest ++ fresh)) f
      ∙ ap (λ ss. fresh ++ ss) (put-behind id rest fresh e f ∙ sym (append-nil fresh)),
)
put-copies id rest fresh false false e f =
    (0, put-behind id rest fresh e f ∙ sym (append-nil fresh))

none-first : (b : Bool) (x : Segment) (ys : List Segment) → (if b then x ∷ ys else ys) ≡ [] →
    (b ≡ false) × (ys ≡ [])
none-first b x ys e = grind arith

-- of bodies, the first segments of those of this id
abbrev is_of : ℕ → Segment → Bool
is_of id = λ (s : Segment). s.tid == id

abbrev first_ones : ℕ → List Segment → ℕ
first_ones id segments = bodies_not_begun (filter (is_of id) segments)

in_place-cases : (id old n : ℕ) (fresh later xs : List Segment) (x : Segment) (t z : Bool) →
    own id x ≡ false → (x.number == 0) ≡ z → own_segments 4 id fresh ≡ fresh →
    n ≡ bodies_not_begun xs → later ≡ copies n fresh →
    own_segments 4 id (if t then if z then fresh else [] else x ∷ []) ++ later
    ≡ copies (bodies_not_begun (if t then x ∷ xs else xs)) fresh
in_place-cases id old n fresh later xs x t z o e f m l = grind arith

-- each first segment of the one that went stands for the one that came
in_place-copies : (id old : ℕ) (fresh xs : List Segment) → own_segments 4 id fresh ≡ fresh →
    own_segments 4 id xs ≡ [] →
    own_segments 4 id (flat_map (in_its_place old fresh) xs) ≡ copies (first_ones old xs) fresh
in_place-copies id old fresh [] f e = refl
in_place-copies id old fresh (x ∷ xs) f e =
    let none = none-first (own id x) x (own_segments 4 id xs) e in
    let rest : List Segment = flat_map (in_its_place old fresh) xs in
    filter-append (own id) (in_its_place old fresh x) rest
    ∙ in_place-cases id old (first_ones old xs) fresh (own_segments 4 id rest)
    (filter (is_of old) xs) x (x.tid == old) (x.number == 0) none.0 refl f refl
    (in_place-copies id old fresh xs f none.1)

-- a body's own segments are those of this id of bodies
own-cases : (old : ℕ) (x : Segment) (bodies owns : List Segment) (four : Bool) →
    filter (is_of old) bodies ≡ owns →
    filter (is_of old) (if four then x ∷ bodies else bodies)
    ≡ (if four && x.tid == old then x ∷ owns else owns)
own-cases old x bodies owns four e = grind arith

own-of : (old : ℕ) (xs : List Segment) →
    filter (is_of old) (of_bodies xs) ≡ own_segments 4 old xs
own-of old [] = refl
own-of old (x ∷ xs) =
    own-cases old x (of_bodies xs) (own_segments 4 old xs) (x.kind == 4) (own-of old xs)

split-first : (id : ℕ) (xs : List Segment) →
    bodies_not_begun xs ≡ bodies_not_begun (without id xs) + first_ones id xs
split-first id [] = refl
split-first id (x ∷ xs) = grind (arith, split-first id xs)

both-first : (id : ℕ) (xs ys : List Segment) →
    first_ones id (xs ++ ys) ≡ first_ones id xs + first_ones id ys
both-first id xs ys = grind (arith, filter-append, both-counted)

-- of a body that is left whole, at least one is not begun
whole-first : (id size n : ℕ) (bytes : List ℕ) (segments : List Segment) → 0 < size →
    0 < length bytes → segments ≡ copies (suc n) (segments_of 4 id size bytes) →
    0 < bodies_not_begun segments
whole-first id size n bytes segments some body e = grind arith

replaced-copies : (id : ℕ) (fresh : List Segment) (b : Bool) (n : ℕ) →
    own_segments 4 id fresh ≡ fresh → (b ≡ false → 0 < n) →
    AreCopies (own_segments 4 id (if b then fresh else []) ++ copies n fresh) fresh
replaced-copies id fresh true n f w = (n, ap (λ ss. ss ++ copies n fresh) f)
replaced-copies id fresh false zero f w = absurd (omega (arith, w refl))
replaced-copies id fresh false (suc n) f w = (n, refl)

-- behind a turn that is followed, where none of this id was left
module _ (id : ℕ) (turn : Turn) (place : Place) (some : 0 < place.segment_size)
    (has : HasDirectory turn) (none : own_segments 4 id (left_of place) ≡ []) where
  abbrev size : ℕ
  size = place.segment_size

  both-none : own_segments 4 id (early_of place) ++ own_segments 4 id (rest_of place) ≡ []
  both-none =
      sym (filter-append (own id) (early_of place) (rest_of place))
      ∙ ap (own_segments 4 id) (take-append-drop place.early (of_bodies (left_of place)))
      ∙ own-of_bodies id (left_of place) ∙ none

  early-none : own_segments 4 id (early_of place) ≡ []
  early-none = grind (arith, none-front, both-none)

  rest-none : own_segments 4 id (rest_of place) ≡ []
  rest-none = grind (arith, none-behind, both-none)

  parts-of : (change : Change) →
      own_segments 4 id (left_of (followed_by change turn place))
      ≡ own_segments 4 id (early_after change place)
      ++ own_segments 4 id (renewed change place)
  parts-of change =
      sym (own-of_bodies id (left_of (followed_by change turn place)))
      ∙ ap (own_segments 4 id) (followed-bodies change turn place some has)
      ∙ filter-append (own id) (early_after change place) (renewed change place)

  came-put : (bytes : List ℕ) →
      IsOwn size id (Some bytes) (own_segments 4 id (left_of
      (followed_by (Put (id, bytes)) turn place)))
  came-put bytes =
      let fresh : List Segment = segments_of 4 id size bytes in
      let own_fresh = own-numbered_segments 4 id 0 (pieces size bytes) in
      let goes : Bool = goes_early (Put (id, bytes)) place in
      let more = put-copies id (rest_of place) fresh (is_empty (rest_of place)) goes rest-none
      own_fresh in (
        more.0,
        parts-of (Put (id, bytes))
            ∙ ap (λ ss. ss ++ own_segments 4 id (renewed (Put (id, bytes)) place))
            (filter-append (own id) (early_of place) (if goes then fresh else [])
            ∙ ap (λ ss. ss ++ own_segments 4 id (if goes then fresh else [])) early-none)
            ∙ more.1,
      )

  -- where it does not go early, its place is to come
  early-or_place : (old : ℕ) (new : ℕ × List ℕ) → AreFewEarly place →
      0 < bodies_not_begun (own_segments 4 old (left_of place)) →
      goes_early (Replaced old new) place ≡ false → 0 < first_ones old (rest_of place)
  early-or_place old new few waits e =
      let early : List Segment = early_of place in
      let left : List Segment = of_bodies (left_of place) in
      let all : first_ones old early + first_ones old (rest_of place)
      ≡ bodies_not_begun (own_segments 4 old (left_of place)) =
      sym (both-first old early (rest_of place))
      ∙ ap (first_ones old) (take-append-drop place.early left)
      ∙ ap bodies_not_begun (own-of old (left_of place)) in
      omega (
        arith,
        waits,
        all,
        split-first old early,
        few.few,
        ltb-false (bodies_not_begun (without old early)) (most_early place) e,
      )

  came-replaced : (old : ℕ) (bytes : List ℕ) → (id == old) ≡ false → AreFewEarly place →
      0 < bodies_not_begun (own_segments 4 old (left_of place)) →
      IsOwn size id (Some bytes) (own_segments 4 id (left_of
      (followed_by (Replaced old (id, bytes)) turn place)))
  came-replaced old bytes other few waits =
      let fresh : List Segment = segments_of 4 id size bytes in
      let own_fresh = own-numbered_segments 4 id 0 (pieces size bytes) in
      let stay : own_segments 4 id (without old (early_of place)) ≡ [] =
      filter-within (own id) (λ (s : Segment). not (s.tid == old))
      (λ s e. not_from_false (s.tid == old)
      (ap (λ (n : ℕ). n == old) (eqb-true s.tid id (and_parts (s.kind == 4) (s.tid == id) e).1)
      ∙ other)) (early_of place) ∙ early-none in
      let goes : Bool = goes_early (Replaced old (id, bytes)) place in
      let more = replaced-copies id fresh goes (first_ones old (rest_of place)) own_fresh
      (early-or_place old (id, bytes) few waits) in (
        more.0,
        parts-of (Replaced old (id, bytes))
            ∙ ap (λ ss. ss ++ own_segments 4 id (renewed (Replaced old (id, bytes)) place))
            (filter-append (own id) (without old (early_of place)) (if goes then fresh else [])
            ∙ ap (λ ss. ss ++ own_segments 4 id (if goes then fresh else [])) stay)
            ∙ ap (λ ss. own_segments 4 id (if goes then fresh else []) ++ ss)
            (in_place-copies id old fresh (rest_of place) own_fresh rest-none)
            ∙ more.1,
      )

-- ---- a change is followed

module _ (turn : Turn) (place : Place) (some : 0 < place.segment_size) (has : HasDirectory turn)
    (own_before : (id : ℕ) → IsOwn place.segment_size id (body_of id place.turn.bodies)
    (own_segments 4 id (left_of place))) (few : AreFewEarly place)
    (filled : AreSome place.turn.bodies) (id : ℕ) where
  abbrev IsThen : Option (List ℕ) → Type 0
  IsThen o = IsOwn place.segment_size id o (own_segments 4 id (left_of (follow turn place)))

  abbrev change_is : Change → Type 0
  change_is change = change_between place.turn.bodies turn.bodies ≡ change

  not-touched : (change : Change) → change_is change → touches change id ≡ false →
      IsThen (body_of id place.turn.bodies)
  not-touched change is t = grind (arith, body_of, own-followed)

  taken : (change : Change) → change_is change → takes_away change id ≡ true → IsThen None
  taken change is t =
      gone-none id turn place some has (ap (λ (c : Change). takes_away c id) is ∙ t)

  none-before : body_of id place.turn.bodies ≡ None → own_segments 4 id (left_of place) ≡ []
  none-before e = grind arith

  put-own : (f : Pair) (t : Bool) → (id == f.0) ≡ t → change_is (Put f) →
      is_distinct (ids (place.turn.bodies ++ f ∷ [])) ≡ true →
      IsThen (body_of id (place.turn.bodies ++ f ∷ []))
  unfolding follow
  put-own f false e is d =
      subst IsThen (sym (body-of_put id place.turn.bodies f e)) (not-touched (Put f) is e)
  put-own f true e is d =
      let mine : id ≡ f.0 = eqb-true id f.0 e in
      let before : body_of id place.turn.bodies ≡ None =
      ap (λ (k : ℕ). body_of k place.turn.bodies) mine
      ∙ ap (body_of f.0) (sym (append-nil place.turn.bodies))
      ∙ body-of_gone place.turn.bodies [] f d in
      let behind : body_of id (place.turn.bodies ++ f ∷ []) ≡ Some f.1 =
      ap (λ (k : ℕ). body_of k (place.turn.bodies ++ f ∷ [])) mine
      ∙ body-of_fresh place.turn.bodies [] f d in
      subst IsThen (sym behind)
      (subst (λ (c : Change). IsOwn place.segment_size id (Some f.1)
      (own_segments 4 id (left_of (followed_by c turn place))))
      (ap (λ (k : ℕ). Put (k, f.1)) mine ∙ sym is)
      (came-put id turn place some has (none-before before) f.1))

  replaced-own : (before after : List Pair) (g f : Pair) (s t : Bool) → (id == g.0) ≡ s →
      (id == f.0) ≡ t → (g.0 == f.0) ≡ false → change_is (Replaced g.0 f) →
      place.turn.bodies ≡ before ++ g ∷ after →
      is_distinct (ids (before ++ g ∷ after)) ≡ true →
      is_distinct (ids (before ++ f ∷ after)) ≡ true → IsThen (body_of id (before ++ f ∷ after))
  unfolding follow
  replaced-own before after g f true t e h apart is was d n =
      let mine : id ≡ g.0 = eqb-true id g.0 e in
      subst IsThen (sym (ap (λ (k : ℕ). body_of k (before ++ f ∷ after)) mine
      ∙ body-of_none before after g f d apart)) (taken (Replaced g.0 f) is e)
  replaced-own before after g f false false e h apart is was d n =
      subst IsThen (ap (body_of id) was ∙ sym (body-of_other id before after g f e h))
      (not-touched (Replaced g.0 f) is (rw (e, h) refl))
  replaced-own before after g f false true e h apart is was d n =
      let mine : id ≡ f.0 = eqb-true id f.0 h in
      let other : (f.0 == g.0) ≡ false = nat_eq_equiv.symm f.0 g.0 ∙ apart in
      let none : body_of id place.turn.bodies ≡ None =
      ap (λ (k : ℕ). body_of k place.turn.bodies) mine ∙ ap (body_of f.0) was
      ∙ body-of_none before after f g n other in
      let behind : body_of id (before ++ f ∷ after) ≡ Some f.1 =
      ap (λ (k : ℕ). body_of k (before ++ f ∷ after)) mine ∙ body-of_fresh before after f n in
      let old : body_of g.0 place.turn.bodies ≡ Some g.1 =
      ap (body_of g.0) was ∙ body-of_fresh before after g d in
      let left = subst (λ (o : Option (List ℕ)). IsOwn place.segment_size g.0 o
      (own_segments 4 g.0 (left_of place))) old (own_before g.0) in
      let waits : 0 < bodies_not_begun (own_segments 4 g.0 (left_of place)) =
      whole-first g.0 place.segment_size left.0 g.1 (own_segments 4 g.0 (left_of place)) some
      (some-inside before after g (subst AreSome was filled)) left.1 in
      subst IsThen (sym behind)
      (subst (λ (c : Change). IsOwn place.segment_size id (Some f.1)
      (own_segments 4 id (left_of (followed_by c turn place))))
      (ap (λ (k : ℕ). Replaced g.0 (k, f.1)) mine ∙ sym is)
      (came-replaced id turn place some has (none-before none) g.0 f.1 e few waits))

  withdrawn-own : (before after : List Pair) (g : Pair) (s : Bool) → (id == g.0) ≡ s →
      change_is (Withdrawn g.0) → place.turn.bodies ≡ before ++ g ∷ after →
      is_distinct (ids (before ++ g ∷ after)) ≡ true → IsThen (body_of id (before ++ after))
  withdrawn-own before after g true e is was d =
      let mine : id ≡ g.0 = eqb-true id g.0 e in
      subst IsThen (sym (ap (λ (k : ℕ). body_of k (before ++ after)) mine
      ∙ body-of_gone before after g d)) (taken (Withdrawn g.0) is e)
  withdrawn-own before after g false e is was d =
      subst IsThen (ap (body_of id) was ∙ sym (body-of_out id before after g e))
      (not-touched (Withdrawn g.0) is e)

  changed-own : IsOneChange place.turn.bodies turn.bodies → IsApartTurn place.turn →
      IsApartTurn turn → IsThen (body_of id turn.bodies)
  changed-own (same h) d n =
      subst IsThen (ap (body_of id) (sym h))
      (not-touched Same (ap (change_between place.turn.bodies) h
      ∙ between-same place.turn.bodies) refl)
  changed-own (put f h) d n =
      subst IsThen (ap (body_of id) (sym h))
      (put-own f (id == f.0) refl (ap (change_between place.turn.bodies) h
      ∙ between-put place.turn.bodies f)
      (ap (λ (bs : List Pair). is_distinct (ids bs)) (sym h) ∙ n))
  changed-own (replaced before after g f h i o) d n =
      subst IsThen (ap (body_of id) (sym i))
      (replaced-own before after g f (id == g.0) (id == f.0) refl refl o
      (ap (λ (bs : List Pair). change_between bs turn.bodies) h
      ∙ ap (change_between (before ++ g ∷ after)) i ∙ between-replaced before after g f o) h
      (ap (λ (bs : List Pair). is_distinct (ids bs)) (sym h) ∙ d)
      (ap (λ (bs : List Pair). is_distinct (ids bs)) (sym i) ∙ n))
  changed-own (withdrawn before after g h i) d n =
      let once : is_distinct (ids (before ++ g ∷ after)) ≡ true =
      ap (λ (bs : List Pair). is_distinct (ids bs)) (sym h) ∙ d in
      subst IsThen (ap (body_of id) (sym i))
      (withdrawn-own before after g (id == g.0) refl
      (ap (λ (bs : List Pair). change_between bs turn.bodies) h
      ∙ ap (change_between (before ++ g ∷ after)) i
      ∙ between-withdrawn before after g (others-both before after g once).1) h once)

fresh-followed : (turn : Turn) (place : Place) → 0 < place.segment_size → HasDirectory turn →
    IsFollowable place.turn turn → IsApartTurn turn → AreFewEarly place →
    AreSome place.turn.bodies → IsFresh place → IsFresh (follow turn place)
unfolding follow
fresh-followed turn place some has followable apart few filled fresh =
    let change : Change = change_between place.turn.bodies turn.bodies in
    record {
      under_way = fresh.under_way;
      bodies = early_after change place ++ renewed change place;
      left = followed-left change turn place some has
          ∙ append_assoc (directory_segments turn place.segment_size) (early_after change place)
          (renewed change place);
      are_bodies = bodies-append (early_after change place) (renewed change place)
          (bodies-early_after change place) (bodies-renewed change place);
      own = λ id. changed-own turn place some has fresh.own few filled id followable.change
          followable.distinct apart;
    }

change-cases : (b : Bool) (turn : Turn) (place : Place) → 0 < place.segment_size →
    HasDirectory turn → IsFollowable place.turn turn → IsApartTurn turn → AreFewEarly place →
    AreSome place.turn.bodies → IsFresh place →
    IsFresh (if b then follow turn place else change_turn turn place)
unfolding change_turn
change-cases true turn place some has followable apart few filled fresh =
    fresh-followed turn place some has followable apart few filled fresh
change-cases false turn place some has followable apart few filled fresh =
    fresh-whole (change_turn turn place) fresh.under_way (inr refl) apart

-- the turn changed, of which no body was empty
pub fresh-changed : (turn : Turn) (place : Place) → 0 < place.segment_size → HasDirectory turn →
    IsFollowable place.turn turn → IsApartTurn turn → AreFewEarly place →
    AreSome place.turn.bodies → IsFresh place → IsFresh (changed turn place)
unfolding changed
fresh-changed turn place some has followable apart few filled fresh =
    change-cases (is_some place.follows) turn place some has followable apart few filled fresh

-- ---- the turn of a carousel

-- it has a directory
pub has-directory : (c : Carousel) (size : ℕ) → HasDirectory (turn_of_carousel c size)
unfolding bytes_of_directory
has-directory c size = grind arith

-- and of a sound one no two bodies have one id
pub apart-carousel : (c : Carousel) (size : ℕ) → IsSound c → IsApartTurn (turn_of_carousel c size)
apart-carousel c size sound = grind (arith, map-ids, and_parts)

-- ---- reading

behind-fit : (xs ys : List Segment) → AllByRecursion IsFit (xs ++ ys) → AllByRecursion IsFit ys
behind-fit [] ys f = f
behind-fit (x ∷ xs) ys f = behind-fit xs ys f.1

-- every group can be sent there
pub fresh-place : (follows between whole : Bool) (size : ℕ) (turn : Turn) (place : Place) →
    StandsAt follows between whole size turn place → (0 < size) × (size ≤ MAX_SEGMENT) →
    IsPlayable turn size → IsFresh place → IsPlace place
fresh-place follows between whole size turn place st range playable fresh =
    grind arith

module _ (old : Place) (c : Carousel) (place : IsPlace old)
    (is_turn : IsTurnOf old.turn c old.segment_size) (sound : IsSound c) (fresh : IsFresh old) where
  abbrev piece_size : ℕ
  piece_size = old.segment_size

  abbrev directory : List Segment
  directory = directory_segments old.turn piece_size

  fit-whole : AllByRecursion IsFit (segments_of_turn old.turn piece_size)
  fit-whole = grind (arith, are_fit-turn, entity-laws)

  fit-directory : AllByRecursion IsFit directory
  fit-directory = front-fit directory (segments_of_bodies piece_size old.turn.bodies) fit-whole

  -- what is left of each body is behind the directory
  own-bodies : (id : ℕ) → IsOwn piece_size id (body_of id old.turn.bodies)
      (own_segments 4 id fresh.bodies)
  own-bodies id = grind (arith, body_of, filter-append, own-directory)

  fit-left : AllByRecursion IsFit (directory ++ fresh.bodies)
  fit-left =
      grind (arith, append-fit, fit-directory, all-again, behind-fit, fit-whole, own-bodies)

  within-fresh : IsWithin [] old (left_of old)
  within-fresh = record {
    keeps = record { directory = place.directory; body = place.body };
    room = place.room;
    size = place.size.0;
    some = place.playable.directory.some;
    directory = fit-directory;
    fit = subst (AllByRecursion IsFit) (sym fresh.left) fit-left;
    is_left = record {
      before = [];
      after = directory;
      bodies = fresh.bodies;
      cut = refl;
      all = fresh.left;
      known = tt;
      are_bodies = fresh.are_bodies;
    };
  }

  reads-left : read_segments (received [] (left_of old))
      ≡ Some (record {
        directory = c.directory;
        period = c.period;
        segment_size = piece_size;
        objects = c.objects;
      })
  reads-left =
      grind (arith, entity-laws, reads-again, bodies-some, body_of, own-bodies)

  -- the packets up to the one that ends the turn
  pub fresh-reads : (new : Place) (steps : List Step) (sents : List Sent)
      (packets : List (List ℕ)) → keep_turn steps ≡ true →
      sent_by old steps ≡ Some (sents, new) → ends_at_last sents ≡ true → AreSent sents packets →
      ReadsOnceAs packets c piece_size
  unfolding read_turn_once gather gather_front
  fresh-reads new steps sents packets keep h ends sent =
      let laws : EntityLaws piece_size = entity-laws piece_size place.size.0 in
      let sends = steps-send steps [] old sents new within-fresh
      (subst (λ (u : Option UnderWay). IfSome u (λ (u : UnderWay). u.sent < length u.group))
      (sym fresh.under_way) tt) keep h ends in
      let gathered : groups_after [] (packets_of sents)
      ≡ Some (map bytes_of_group sends.groups, []) =
      ap (λ (u : Option UnderWay). groups_after (front_of u) (packets_of sents))
      (sym fresh.under_way)
      ∙ sends.gathered
      ∙ ap (λ (u : Option UnderWay). Some (group_of u ++ map bytes_of_group sends.groups, []))
      fresh.under_way in
      let address = one_address old.address (packets_of sents) (steps-address steps old sents new h)
      in
      rw (
        sent,
        address,
        gathered,
        groups-read piece_size laws place.size.1 sends.groups sends.are_groups,
        sends.once,
      ) reads-left
