-- A changed turn that is followed: what comes early, and how the rest goes on.
use Rattle.std.proofs.Common.{◌≡◌, ℕ, suc, zero, ◌+◌, ◌*◌, ◌<◌, ◌≤◌, Bool, true, false, List, []}
use Rattle.std.proofs.Common.{◌∷◌, ◌++◌, length, refl, sym, ap, ◌∙◌, arith, append-nil, eq-eqb}
use Rattle.std.proofs.Common.{take, drop, subst}
use Rattle.std.proofs.Math.Seq.{take-append_seam, drop-append_seam}
use Rattle.std.proofs.lemmas.Bool.{and_parts, eqb-true, lt-ltb, ne_eqb, not_from_false}
use Rattle.std.proofs.lemmas.Bool.{not_from_true, or_parts}
use Rattle.std.proofs.lemmas.Grind.{div_ceil_times, flat_map-append}
use Rattle.std.proofs.lemmas.List.{take-append-drop}
use Rattle.std.proofs.lemmas.List.Elements.{filter-append}
use Rattle.std.specs.List.{AllByRecursion}
use Rattle.std.specs.Prelude.{◌==◌, ◌&&◌, filter, flat_map, if◌then◌else◌}
use Rattle.mot_groups.specs.Entity.{first_pieces, numbered_segments, own_segments, pieces}
use Rattle.mot_groups.specs.Entity.{segments_of}
use Rattle.mot_groups.specs.Group.{Segment}
use Rattle.mot_numbers.specs.Reading.{is_empty}
use Rattle.mot_player.specs.Place.{Place, Change, Same, Put, Replaced, Withdrawn, change_between}
use Rattle.mot_player.specs.Place.{directory_segments, early_after, early_of, follow, followed_by}
use Rattle.mot_player.specs.Place.{fresh_segments, goes_early, in_its_place, left_of, of_bodies}
use Rattle.mot_player.specs.Place.{bodies_not_begun, rest_after, rest_of, that_stay, to_send}
use Rattle.mot_player.specs.Place.{without}
use Rattle.mot_player.specs.Staying.{ChangesComeNext, ChangesGoEarly, HasDirectory}
use Rattle.mot_player.specs.Staying.{ReplacedKeepsItsPlace, touches}
use Rattle.mot_player.specs.Turn.{Turn}
use Rattle.mot_player.proofs.Left.{filter-within, own, own-of_bodies}

-- segments of bodies
abbrev pub AreBodies : List Segment → Type 0
AreBodies segments = AllByRecursion (λ (s : Segment). s.kind ≡ 4) segments

bodies-kept : (b : Bool) (s : Segment) (xs : List Segment) → (b ≡ true → s.kind ≡ 4) →
    AreBodies xs → AreBodies (if b then s ∷ xs else xs)
bodies-kept b s xs k r = grind arith

pub bodies-of_bodies : (xs : List Segment) → AreBodies (of_bodies xs)
bodies-of_bodies [] = tt
bodies-of_bodies (x ∷ xs) =
    bodies-kept (x.kind == 4) x (of_bodies xs) (λ e. eqb-true x.kind 4 e) (bodies-of_bodies xs)

bodies-filter : (p : Segment → Bool) (xs : List Segment) → AreBodies xs → AreBodies (filter p xs)
bodies-filter p [] k = tt
bodies-filter p (x ∷ xs) k =
    bodies-kept (p x) x (filter p xs) (λ e. k.0) (bodies-filter p xs k.1)

pub bodies-append : (xs ys : List Segment) → AreBodies xs → AreBodies ys → AreBodies (xs ++ ys)
bodies-append [] ys j k = k
bodies-append (x ∷ xs) ys j k = (j.0, bodies-append xs ys j.1 k)

bodies-front : (xs ys : List Segment) → AreBodies (xs ++ ys) → AreBodies xs
bodies-front [] ys k = tt
bodies-front (x ∷ xs) ys k = (k.0, bodies-front xs ys k.1)

bodies-behind : (xs ys : List Segment) → AreBodies (xs ++ ys) → AreBodies ys
bodies-behind [] ys k = k
bodies-behind (x ∷ xs) ys k = bodies-behind xs ys k.1

bodies-take : (n : ℕ) (xs : List Segment) → AreBodies xs → AreBodies (take n xs)
bodies-take zero xs k = tt
bodies-take (suc n) [] k = tt
bodies-take (suc n) (x ∷ xs) k = (k.0, bodies-take n xs k.1)

bodies-drop : (n : ℕ) (xs : List Segment) → AreBodies xs → AreBodies (drop n xs)
bodies-drop zero xs k = k
bodies-drop (suc n) [] k = tt
bodies-drop (suc n) (x ∷ xs) k = bodies-drop n xs k.1

pub bodies-numbered : (tid n : ℕ) (ps : List (List ℕ)) → AreBodies (numbered_segments 4 tid n ps)
bodies-numbered tid n [] = tt
bodies-numbered tid n (p ∷ ps) = (refl, bodies-numbered tid (n + 1) ps)

pub of_bodies-same : (xs : List Segment) → AreBodies xs → of_bodies xs ≡ xs
of_bodies-same [] k = refl
of_bodies-same (x ∷ xs) k =
    rw (eq-eqb x.kind 4 k.0) (ap (λ (ss : List Segment). x ∷ ss) (of_bodies-same xs k.1))

pub of_bodies-directory : (tid n : ℕ) (ps : List (List ℕ)) →
    of_bodies (numbered_segments 6 tid n ps) ≡ []
of_bodies-directory tid n [] = refl
of_bodies-directory tid n (p ∷ ps) = of_bodies-directory tid (n + 1) ps

-- what comes early and what is left of the rest are segments of bodies
bodies-early_of : (place : Place) → AreBodies (early_of place)
bodies-early_of place =
    bodies-take place.early (of_bodies (left_of place)) (bodies-of_bodies (left_of place))

bodies-rest_of : (place : Place) → AreBodies (rest_of place)
bodies-rest_of place =
    bodies-drop place.early (of_bodies (left_of place)) (bodies-of_bodies (left_of place))

bodies-fresh : (size : ℕ) (change : Change) → AreBodies (fresh_segments size change)
bodies-fresh size change = grind (arith, bodies-numbered)

bodies-that_stay : (change : Change) (xs : List Segment) → AreBodies xs →
    AreBodies (that_stay change xs)
bodies-that_stay change xs k = grind (arith, bodies-filter)

bodies-one_place : (fresh : List Segment) (s : Segment) (b c : Bool) → AreBodies fresh →
    s.kind ≡ 4 → AreBodies (if b then if c then fresh else [] else s ∷ [])
bodies-one_place fresh s b c f k = grind arith

bodies-in_place : (old : ℕ) (fresh xs : List Segment) → AreBodies fresh → AreBodies xs →
    AreBodies (flat_map (in_its_place old fresh) xs)
bodies-in_place old fresh [] f k = tt
bodies-in_place old fresh (x ∷ xs) f k =
    grind (arith, bodies-in_place old fresh xs f k.1, bodies-append, bodies-one_place)

bodies-put : (fresh rest : List Segment) (b : Bool) → AreBodies fresh → AreBodies rest →
    AreBodies (if b then [] else rest ++ fresh)
bodies-put fresh rest true f k = tt
bodies-put fresh rest false f k = bodies-append rest fresh k f

bodies-rest_after : (change : Change) (early : Bool) (fresh rest : List Segment) →
    AreBodies fresh → AreBodies rest → AreBodies (rest_after change early fresh rest)
bodies-rest_after change early fresh rest f k =
    grind (arith, bodies-put, bodies-in_place, bodies-filter)

bodies-if : (b : Bool) (xs : List Segment) → AreBodies xs → AreBodies (if b then xs else [])
bodies-if b xs k = grind arith

pub bodies-early_after : (change : Change) (place : Place) → AreBodies (early_after change place)
bodies-early_after change place =
    grind (arith, bodies-append, bodies-that_stay, bodies-early_of, bodies-if, bodies-fresh)

-- the rest of the turn of a place after a change
abbrev pub renewed : Change → Place → List Segment
renewed change place =
    rest_after change (goes_early change place) (fresh_segments place.segment_size change)
    (rest_of place)

pub bodies-renewed : (change : Change) (place : Place) → AreBodies (renewed change place)
bodies-renewed change place =
    grind (arith, bodies-rest_after, bodies-fresh, bodies-rest_of)

followed-to_send : (change : Change) (turn : Turn) (place : Place) → 0 < place.segment_size →
    HasDirectory turn →
    to_send (followed_by change turn place) ≡ (followed_by change turn place).waiting
followed-to_send change turn place some has = grind arith

pub followed-left : (change : Change) (turn : Turn) (place : Place) → 0 < place.segment_size →
    HasDirectory turn →
    left_of (followed_by change turn place) ≡ (followed_by change turn place).waiting
followed-left change turn place some has = grind arith

-- of bodies, those that come early wait, and the rest
pub followed-waiting : (change : Change) (turn : Turn) (place : Place) →
    of_bodies (followed_by change turn place).waiting
    ≡ early_after change place ++ renewed change place
followed-waiting change turn place =
    let directory : List Segment = directory_segments turn place.segment_size in
    let early : List Segment = early_after change place in
    let rest : List Segment = renewed change place in
    let is_body : Segment → Bool = λ (s : Segment). s.kind == 4 in
    filter-append is_body (directory ++ early) rest
    ∙ ap (λ (ss : List Segment). ss ++ of_bodies rest)
    (filter-append is_body directory early
    ∙ ap (λ (ss : List Segment). ss ++ of_bodies early)
    (of_bodies-directory turn.tid 0 (pieces place.segment_size turn.directory))
    ∙ of_bodies-same early (bodies-early_after change place))
    ∙ ap (λ (ss : List Segment). early ++ ss)
    (of_bodies-same rest (bodies-renewed change place))

-- and those are left
pub followed-bodies : (change : Change) (turn : Turn) (place : Place) → 0 < place.segment_size →
    HasDirectory turn →
    of_bodies (left_of (followed_by change turn place))
    ≡ early_after change place ++ renewed change place
followed-bodies change turn place some has =
    ap of_bodies (followed-left change turn place some has) ∙ followed-waiting change turn place

followed-early : (change : Change) (turn : Turn) (place : Place) → 0 < place.segment_size →
    HasDirectory turn → early_of (followed_by change turn place) ≡ early_after change place
followed-early change turn place some has =
    grind (arith, followed-bodies, take-append_seam)

followed-rest : (change : Change) (turn : Turn) (place : Place) → 0 < place.segment_size →
    HasDirectory turn → rest_of (followed_by change turn place) ≡ renewed change place
followed-rest change turn place some has =
    grind (arith, followed-bodies, drop-append_seam)

-- a test that fails where another holds
other-test : (a b : Bool) → (a ≡ true → b ≡ false) → b ≡ true → a ≡ false
other-test a b w e = grind arith

-- of segments of one entity, none passes that its id forbids
none-numbered : (p : Segment → Bool) (kind tid n : ℕ) (ps : List (List ℕ)) →
    ((s : Segment) → s.tid ≡ tid → p s ≡ false) →
    filter p (numbered_segments kind tid n ps) ≡ []
none-numbered p kind tid n [] w = refl
none-numbered p kind tid n (b ∷ ps) w =
    grind (arith, none-numbered p kind tid (n + 1) ps w)

none-of : (p : Segment → Bool) (size : ℕ) (body : ℕ × List ℕ) →
    ((s : Segment) → p s ≡ true → (s.tid == body.0) ≡ false) →
    filter p (segments_of 4 body.0 size body.1) ≡ []
none-of p size body w = grind (arith, none-numbered, other-test)

-- a test that passes none of the body that went, where another came in its place
other-place : (p : Segment → Bool) (fresh : List Segment) (x : Segment) (t z q : Bool) →
    p x ≡ q → (q ≡ true → t ≡ false) → filter p fresh ≡ [] →
    filter p (if t then if z then fresh else [] else x ∷ []) ≡ filter p (x ∷ [])
other-place p fresh x t z q e w f = grind arith

others-in_place : (p : Segment → Bool) (old : ℕ) (fresh xs : List Segment) →
    ((s : Segment) → p s ≡ true → (s.tid == old) ≡ false) → filter p fresh ≡ [] →
    filter p (flat_map (in_its_place old fresh) xs) ≡ filter p xs
others-in_place p old fresh [] w f = refl
others-in_place p old fresh (x ∷ xs) w f =
    grind (arith, others-in_place p old fresh xs w f, filter-append, other-place)

-- and one that passes no other
own-place : (p : Segment → Bool) (fresh : List Segment) (x : Segment) (t z q : Bool) →
    p x ≡ q → (q ≡ true → t ≡ true) → filter p fresh ≡ [] →
    filter p (if t then if z then fresh else [] else x ∷ []) ≡ []
own-place p fresh x t z q e w f = grind arith

own-in_place : (p : Segment → Bool) (old : ℕ) (fresh xs : List Segment) →
    ((s : Segment) → p s ≡ true → (s.tid == old) ≡ true) → filter p fresh ≡ [] →
    filter p (flat_map (in_its_place old fresh) xs) ≡ []
own-in_place p old fresh [] w f = refl
own-in_place p old fresh (x ∷ xs) w f =
    grind (arith, own-in_place p old fresh xs w f, filter-append, own-place)

-- a test passes only bodies that neither came nor went
abbrev pub IsOfOthers : (Segment → Bool) → Change → Type 0
IsOfOthers p change = (s : Segment) → p s ≡ true → touches change s.tid ≡ false

-- of the body that came none pass
none-fresh : (p : Segment → Bool) (change : Change) (size : ℕ) → IsOfOthers p change →
    filter p (fresh_segments size change) ≡ []
none-fresh p change size w = grind (arith, none-of, or_parts)

none-if : (p : Segment → Bool) (b : Bool) (xs : List Segment) → filter p xs ≡ [] →
    filter p (if b then xs else []) ≡ []
none-if p b xs e = grind arith

-- of what stays those that pass are as they were
others-stay : (p : Segment → Bool) (change : Change) (xs : List Segment) → IsOfOthers p change →
    filter p (that_stay change xs) ≡ filter p xs
others-stay p change xs w = grind (arith, filter-within, not_from_false, or_parts)

-- of what comes early, and of the rest, those that pass are as they were
others-early : (p : Segment → Bool) (change : Change) (place : Place) → IsOfOthers p change →
    filter p (early_after change place) ≡ filter p (early_of place)
others-early p change place w =
    grind (arith, filter-append, none-if, none-fresh, append-nil, others-stay)

others-put : (p : Segment → Bool) (fresh rest : List Segment) (early : Bool) →
    filter p fresh ≡ [] →
    filter p (if is_empty rest && early then [] else rest ++ fresh) ≡ filter p rest
others-put p fresh rest early f = grind (arith, filter-append, append-nil)

others-rest : (p : Segment → Bool) (change : Change) (early : Bool) (size : ℕ)
    (rest : List Segment) → IsOfOthers p change →
    filter p (rest_after change early (fresh_segments size change) rest) ≡ filter p rest
others-rest p change early size rest w =
    grind (arith, others-put, none-of, others-in_place, or_parts, filter-within, not_from_false)

own-id : (id : ℕ) (s : Segment) → own id s ≡ true → s.tid ≡ id
own-id id s e = eqb-true s.tid id (and_parts (s.kind == 4) (s.tid == id) e).1

-- a body that neither came nor went goes on behind a turn that is followed
pub own-followed : (id : ℕ) (turn : Turn) (place : Place) → 0 < place.segment_size →
    HasDirectory turn → touches (change_between place.turn.bodies turn.bodies) id ≡ false →
    own_segments 4 id (left_of (follow turn place)) ≡ own_segments 4 id (left_of place)
unfolding follow
own-followed id turn place some has stays =
    let change : Change = change_between place.turn.bodies turn.bodies in
    let left : List Segment = of_bodies (left_of place) in
    let others : IsOfOthers (own id) change =
    λ s e. ap (touches change) (own-id id s e) ∙ stays in
    sym (own-of_bodies id (left_of (followed_by change turn place)))
    ∙ ap (own_segments 4 id) (followed-bodies change turn place some has)
    ∙ filter-append (own id) (early_after change place) (renewed change place)
    ∙ ap (λ (ss : List Segment). ss ++ own_segments 4 id (renewed change place))
    (others-early (own id) change place others)
    ∙ ap (λ (ss : List Segment). own_segments 4 id (early_of place) ++ ss)
    (others-rest (own id) change (goes_early change place) place.segment_size (rest_of place)
    others)
    ∙ sym (filter-append (own id) (early_of place) (rest_of place))
    ∙ ap (own_segments 4 id) (take-append-drop place.early left)
    ∙ own-of_bodies id (left_of place)

-- a body comes in the place of another one
abbrev IsApart : Change → Type 0
IsApart Same = Unit {0}
IsApart (Put new) = Unit {0}
IsApart (Replaced old new) = (old == new.0) ≡ false
IsApart (Withdrawn old) = Unit {0}

change_between-apart : (olds news : List (ℕ × List ℕ)) → IsApart (change_between olds news)
change_between-apart [] [] = tt
change_between-apart [] (new ∷ news) = tt
change_between-apart (old ∷ olds) [] = tt
change_between-apart (old ∷ olds) (new ∷ news) =
    grind (arith, change_between-apart olds news)

-- of those that fail a test, none is left where only others pass the first
outside-cases : (p : Segment → Bool) (x : Segment) (ys : List Segment) (b c : Bool) →
    p x ≡ c → (c ≡ true → b ≡ false) → filter p ys ≡ [] →
    filter p (if b then x ∷ ys else ys) ≡ []
outside-cases p x ys b c e w h = grind arith

filter-outside : (p q : Segment → Bool) → ((s : Segment) → p s ≡ true → q s ≡ false) →
    (xs : List Segment) → filter p (filter q xs) ≡ []
filter-outside p q w [] = refl
filter-outside p q w (x ∷ xs) =
    outside-cases p x (filter q xs) (q x) (p x) refl (w x) (filter-outside p q w xs)

without-none : (id old : ℕ) (xs : List Segment) → id ≡ old →
    own_segments 4 id (without old xs) ≡ []
without-none id old xs same =
    grind (arith, filter-outside, not_from_true, own-id)

fresh-none : (id size old : ℕ) (new : ℕ × List ℕ) → id ≡ old → (old == new.0) ≡ false →
    own_segments 4 id (segments_of 4 new.0 size new.1) ≡ []
fresh-none id size old new same apart = grind (arith, none-of, own-id)

-- the body of this id went with a change
abbrev pub takes_away : Change → ℕ → Bool
takes_away Same id = false
takes_away (Put new) id = false
takes_away (Replaced old new) id = id == old
takes_away (Withdrawn old) id = id == old

gone-taken : (change : Change) (s : Segment) → that_stay change (s ∷ []) ≡ [] →
    takes_away change s.tid ≡ true
gone-taken change s e = grind arith

-- of a body that is gone nothing is left
gone-early : (change : Change) (id : ℕ) (place : Place) → IsApart change →
    takes_away change id ≡ true → own_segments 4 id (early_after change place) ≡ []
gone-early change id place apart e =
    grind (arith, filter-append, without-none, eqb-true, none-if, fresh-none)

gone-rest : (change : Change) (early : Bool) (id size : ℕ) (rest : List Segment) →
    IsApart change → takes_away change id ≡ true →
    own_segments 4 id (rest_after change early (fresh_segments size change) rest) ≡ []
gone-rest change early id size rest apart e =
    grind (arith, own-in_place, own-id, eqb-true, fresh-none, without-none)

own-gone : (change : Change) (id : ℕ) (turn : Turn) (place : Place) → 0 < place.segment_size →
    HasDirectory turn → IsApart change → takes_away change id ≡ true →
    own_segments 4 id (left_of (followed_by change turn place)) ≡ []
own-gone change id turn place some has apart e =
    sym (own-of_bodies id (left_of (followed_by change turn place)))
    ∙ ap (own_segments 4 id) (followed-bodies change turn place some has)
    ∙ filter-append (own id) (early_after change place) (renewed change place)
    ∙ ap (λ (ss : List Segment). ss ++ own_segments 4 id (renewed change place))
    (gone-early change id place apart e)
    ∙ gone-rest change (goes_early change place) id place.segment_size (rest_of place) apart e

-- of a body that is gone no segment comes
pub gone-none : (id : ℕ) (turn : Turn) (place : Place) → 0 < place.segment_size →
    HasDirectory turn → takes_away (change_between place.turn.bodies turn.bodies) id ≡ true →
    own_segments 4 id (left_of (follow turn place)) ≡ []
unfolding follow
gone-none id turn place some has e =
    grind (arith, own-gone, change_between-apart)

-- changes come next
pub changes-come-next : ChangesComeNext
unfolding follow
changes-come-next place turn some has =
    let change : Change = change_between place.turn.bodies turn.bodies in
    let directory : List Segment = directory_segments turn place.segment_size in
    record {
      next = followed-to_send change turn place some has
          ∙ ap (λ (ss : List Segment). directory ++ ss ++ renewed change place)
          (sym (followed-early change turn place some has))
          ∙ ap (λ (ss : List Segment). directory ++ early_of (followed_by change turn place) ++ ss)
          (sym (followed-rest change turn place some has));
      early = followed-early change turn place some has;
      rest = followed-rest change turn place some has;
      gone = λ id e.
          let s : Segment =
          record { kind = 4; tid = id; number = 0; last = true; bytes = [] } in
          gone-none id turn place some has (gone-taken change s (e s refl));
    }

-- of what stays no more bodies are not begun
fewer-cases : (b c : Bool) (x : Segment) (ys zs : List Segment) →
    bodies_not_begun ys ≤ bodies_not_begun zs → (x.number == 0) ≡ c →
    bodies_not_begun (if b then x ∷ ys else ys) ≤ bodies_not_begun (x ∷ zs)
fewer-cases b c x ys zs l e = grind arith

fewer-filter : (p : Segment → Bool) (xs : List Segment) →
    bodies_not_begun (filter p xs) ≤ bodies_not_begun xs
fewer-filter p [] = omega arith
fewer-filter p (x ∷ xs) =
    fewer-cases (p x) (x.number == 0) x (filter p xs) xs (fewer-filter p xs) refl

pub fewer-stay : (change : Change) (xs : List Segment) →
    bodies_not_begun (that_stay change xs) ≤ bodies_not_begun xs
fewer-stay change xs = grind (arith, fewer-filter)

-- changes go early where fewer do so than may
pub changes-go-early : ChangesGoEarly
unfolding follow
changes-go-early place turn some has fewer =
    grind (arith, lt-ltb, fewer-stay, followed-early)

others-none : (x : Segment) (rest : List Segment) (t : Bool) →
    (if t then x ∷ rest else rest) ≡ [] → rest ≡ []
others-none x rest t h = grind arith

kept-in_place : (old : ℕ) (fresh xs : List Segment) → AreBodies xs →
    own_segments 4 old xs ≡ [] → flat_map (in_its_place old fresh) xs ≡ xs
kept-in_place old fresh [] k h = refl
kept-in_place old fresh (x ∷ xs) k h =
    grind (arith, kept-in_place old fresh xs k.1 (others-none x (own_segments 4 old xs) (own old x) h))

-- the later segments of the old body go
later-go : (old n k : ℕ) (fresh : List Segment) (ps : List (List ℕ)) →
    flat_map (in_its_place old fresh) (drop k (numbered_segments 4 old (n + 1) ps)) ≡ []
later-go old n zero fresh [] = refl
later-go old n (suc k) fresh [] = refl
later-go old n zero fresh (p ∷ ps) =
    grind (arith, later-go old (n + 1) zero fresh ps)
later-go old n (suc k) fresh (p ∷ ps) = later-go old (n + 1) k fresh ps

first-goes : (old k size count : ℕ) (bytes : List ℕ) (fresh : List Segment) → 0 < length bytes →
    length bytes ≤ count * size →
    flat_map (in_its_place old fresh)
    (drop k (numbered_segments 4 old 0 (first_pieces count size bytes)))
    ≡ (if k == 0 then fresh else [])
first-goes old k size zero bytes fresh some enough = absurd (omega (arith, some, enough))
first-goes old zero size (suc count) bytes fresh some enough =
    rw (eq-eqb old old refl)
    (ap (λ (ss : List Segment). fresh ++ ss)
    (later-go old 0 zero fresh (first_pieces count size (drop size bytes)))
    ∙ append-nil fresh)
first-goes old (suc k) size (suc count) bytes fresh some enough =
    rw (ne_eqb (suc k) 0 (λ e. absurd (omega (arith, e))))
    (later-go old 0 k fresh (first_pieces count size (drop size bytes)))

-- Of the body that went the first segment stands for the one that came, and the others go.
pub place-of_gone : (old k size : ℕ) (bytes : List ℕ) (fresh : List Segment) → 0 < size →
    0 < length bytes →
    flat_map (in_its_place old fresh) (drop k (segments_of 4 old size bytes))
    ≡ (if k == 0 then fresh else [])
place-of_gone old k size bytes fresh some body =
    grind (arith, first-goes, div_ceil_times)

-- a replaced body keeps its place
pub replaced-keeps-its_place : ReplacedKeepsItsPlace
unfolding follow
replaced-keeps-its_place place turn old bytes new begun before after some has body is rest none none_later =
    let size : ℕ = place.segment_size in
    let fresh : List Segment = segments_of 4 new.0 size new.1 in
    let old_ones : List Segment = drop begun (segments_of 4 old size bytes) in
    let f : Segment → List Segment = in_its_place old fresh in
    let all : AreBodies (before ++ old_ones ++ after) = subst AreBodies rest (bodies-rest_of place) in
    let front : AreBodies before =
    bodies-front before old_ones (bodies-front (before ++ old_ones) after all) in
    let behind : AreBodies after = bodies-behind (before ++ old_ones) after all in
    ap (λ (c : Change). rest_of (followed_by c turn place)) is
    ∙ followed-rest (Replaced old new) turn place some has
    ∙ ap (flat_map f) rest
    ∙ flat_map-append f (before ++ old_ones) after
    ∙ ap (λ (ss : List Segment). ss ++ flat_map f after) (flat_map-append f before old_ones)
    ∙ ap (λ (ss : List Segment). flat_map f before ++ flat_map f old_ones ++ ss)
    (kept-in_place old fresh after behind none_later)
    ∙ ap (λ (ss : List Segment). ss ++ flat_map f old_ones ++ after)
    (kept-in_place old fresh before front none)
    ∙ ap (λ (ss : List Segment). before ++ ss ++ after)
    (place-of_gone old begun size bytes fresh some body)
