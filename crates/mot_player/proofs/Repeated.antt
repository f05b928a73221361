-- A turn in which the directory is asked for reads as its carousel.
use Rattle.std.proofs.Common.{◌≡◌, ℕ, ◌+◌, ◌<◌, List, [], ◌∷◌, ◌++◌, Bool, true, false, not, Option}
use Rattle.std.proofs.Common.{◌⊎◌, refl, sym, length, drop, ap, ◌∙◌, arith, append_assoc}
use Rattle.std.proofs.Common.{append-nil, eq-eqb}
use Rattle.std.proofs.lemmas.Bool.{and_parts, not-true, or_right}
use Rattle.std.proofs.lemmas.List.Elements.{filter-append}
use Rattle.std.proofs.lemmas.Slice.Eq.{bytes_eq-Decides}
use Rattle.std.specs.Prelude.{◌==◌, ◌||◌, if◌then◌else◌}
use Rattle.std.specs.List.{list_any, AllByRecursion}
use Rattle.mot_groups.specs.Entity.{numbered_segments, pieces, segments_of}
use Rattle.mot_groups.specs.Group.{Segment}
use Rattle.mot_numbers.specs.Reading.{is_empty}
use Rattle.mot_objects.specs.Carousel.{Object}
use Rattle.mot_objects.specs.Ids.{contains, is_distinct}
use Rattle.mot_player.specs.Place.{Place, UnderWay, directory_segments, left_with, of_bodies}
use Rattle.mot_player.specs.Repeats.{had_with, is_same_segment, received}
use Rattle.mot_player.specs.Turn.{Turn, bodies_with_ids, segments_of_bodies}
use Rattle.mot_player.proofs.Followed.{AreBodies, of_bodies-directory}
use Rattle.mot_player.proofs.TurnReads.{ids_of}

-- ---- what a receiver has

abbrev pub IsHad : List Segment → Segment → Type 0
IsHad had s = list_any (is_same_segment s) had ≡ true

same-flags : (b : Bool) → (if b then b else not b) ≡ true
same-flags b = grind arith

pub same-self : (s : Segment) → is_same_segment s s ≡ true
same-self s = grind (arith, same-flags, bytes_eq-Decides)

pub any-front : (p : Segment → Bool) (xs ys : List Segment) → list_any p xs ≡ true →
    list_any p (xs ++ ys) ≡ true
any-front p [] ys e = absurd (let f : false ≡ true = e in cc)
any-front p (x ∷ xs) ys e = front-cases (p x) (λ f. any-front p xs ys f) e
  where
    front-cases : (b : Bool) → (list_any p xs ≡ true → list_any p (xs ++ ys) ≡ true) →
        (b || list_any p xs) ≡ true → (b || list_any p (xs ++ ys)) ≡ true
    front-cases true more f = refl
    front-cases false more f = more f

any-last : (p : Segment → Bool) (xs : List Segment) (s : Segment) → p s ≡ true →
    list_any p (xs ++ s ∷ []) ≡ true
any-last p [] s e = rw e refl
any-last p (x ∷ xs) s e = or_right (p x) (list_any p (xs ++ s ∷ [])) (any-last p xs s e)

with-cases : (b : Bool) (had : List Segment) (s t : Segment) → IsHad had t →
    IsHad (if b then had else had ++ s ∷ []) t
with-cases true had s t e = e
with-cases false had s t e = any-front (is_same_segment t) had (s ∷ []) e

-- what was had is had
had-more : (had : List Segment) (s t : Segment) → IsHad had t → IsHad (had_with had s) t
had-more had s t e = with-cases (list_any (is_same_segment s) had) had s t e

all_had-more : (had : List Segment) (s : Segment) (xs : List Segment) →
    AllByRecursion (IsHad had) xs → AllByRecursion (IsHad (had_with had s)) xs
all_had-more had s [] h = tt
all_had-more had s (x ∷ xs) h = (had-more had s x h.0, all_had-more had s xs h.1)

-- and so is what came
pub had-new : (had : List Segment) (s : Segment) → IsHad (had_with had s) s
had-new had s = new-cases (list_any (is_same_segment s) had) refl
  where
    new-cases : (b : Bool) → list_any (is_same_segment s) had ≡ b →
        IsHad (if b then had else had ++ s ∷ []) s
    new-cases true e = e
    new-cases false e = any-last (is_same_segment s) had s (same-self s)

all_had-last : (had : List Segment) (s : Segment) (xs : List Segment) →
    AllByRecursion (IsHad had) xs → AllByRecursion (IsHad (had_with had s)) (xs ++ s ∷ [])
all_had-last had s [] h = (had-new had s, tt)
all_had-last had s (x ∷ xs) h = (had-more had s x h.0, all_had-last had s xs h.1)

-- segments that are had change nothing
pub again : (had xs ys : List Segment) → AllByRecursion (IsHad had) xs →
    received had (xs ++ ys) ≡ received had ys
again had [] ys h = refl
again had (x ∷ xs) ys h =
    ap (λ b. received (if b then had else had ++ x ∷ []) (xs ++ ys)) h.0 ∙ again had xs ys h.1

-- ---- segments that all differ

-- before the segments of an entity from a number on
abbrev IsBelow : ℕ → ℕ → ℕ → Segment → Type 0
IsBelow kind tid n h = h.kind ≡ kind → h.tid ≡ tid → h.number < n

differs : (s h : Segment) → IsBelow s.kind s.tid s.number h → (b : Bool) → is_same_segment s h ≡ b →
    is_same_segment s h ≡ false
differs s h below b e = grind arith

none-same : (s : Segment) (had : List Segment) →
    AllByRecursion (IsBelow s.kind s.tid s.number) had → list_any (is_same_segment s) had ≡ false
none-same s [] h = refl
none-same s (x ∷ had) h =
    rw (differs s x h.0 (is_same_segment s x) refl) (none-same s had h.1)

below-more : (kind tid n : ℕ) (had : List Segment) (s : Segment) → s.number ≡ n →
    AllByRecursion (IsBelow kind tid n) had →
    AllByRecursion (IsBelow kind tid (n + 1)) (had ++ s ∷ [])
below-more kind tid n [] s e h = (λ k t. omega (arith, e), tt)
below-more kind tid n (x ∷ had) s e h =
    (λ k t. omega (arith, h.0 k t), below-more kind tid n had s e h.1)

pub received-numbered : (had ys : List Segment) (kind tid n : ℕ) (ps : List (List ℕ)) →
    AllByRecursion (IsBelow kind tid n) had →
    received had (numbered_segments kind tid n ps ++ ys)
    ≡ received (had ++ numbered_segments kind tid n ps) ys
received-numbered had ys kind tid n [] h = ap (λ l. received l ys) (sym (append-nil had))
received-numbered had ys kind tid n (p ∷ ps) h =
    let s : Segment = record
    { kind = kind; tid = tid; number = n; last = is_empty ps; bytes = p } in
    let rest : List Segment = numbered_segments kind tid (n + 1) ps in
    ap (λ b. received (if b then had else had ++ s ∷ []) (rest ++ ys)) (none-same s had h)
    ∙ received-numbered (had ++ s ∷ []) ys kind tid (n + 1) ps (below-more kind tid n had s refl h)
    ∙ ap (λ l. received l ys) (append_assoc had (s ∷ []) rest)

-- none of an entity's
abbrev IsForeign : ℕ → ℕ → Segment → Type 0
IsForeign kind tid h = h.kind ≡ kind → h.tid ≡ tid → ⊥

all-below : (kind tid n : ℕ) (had : List Segment) → AllByRecursion (IsForeign kind tid) had →
    AllByRecursion (IsBelow kind tid n) had
all-below kind tid n [] h = tt
all-below kind tid n (x ∷ had) h = (λ k t. absurd (h.0 k t), all-below kind tid n had h.1)

foreign-numbered : (kind tid other_kind other n : ℕ) (ps : List (List ℕ)) →
    (other_kind ≡ kind → other ≡ tid → ⊥) →
    AllByRecursion (IsForeign kind tid) (numbered_segments other_kind other n ps)
foreign-numbered kind tid other_kind other n [] f = tt
foreign-numbered kind tid other_kind other n (p ∷ ps) f =
    (f, foreign-numbered kind tid other_kind other (n + 1) ps f)

foreign-append : (kind tid : ℕ) (xs ys : List Segment) → AllByRecursion (IsForeign kind tid) xs →
    AllByRecursion (IsForeign kind tid) ys → AllByRecursion (IsForeign kind tid) (xs ++ ys)
foreign-append kind tid [] ys p q = q
foreign-append kind tid (x ∷ xs) ys p q = (p.0, foreign-append kind tid xs ys p.1 q)

-- an id that is among others is not one that is not
other-id : (ids : List ℕ) (x y : ℕ) → contains ids x ≡ false → contains ids y ≡ true → x ≡ y → ⊥
other-id ids x y p q e = grind arith

received-bodies : (had : List Segment) (size : ℕ) (objects : List Object) →
    is_distinct (ids_of objects) ≡ true →
    ((tid : ℕ) → contains (ids_of objects) tid ≡ true → AllByRecursion (IsForeign 4 tid) had) →
    received had (segments_of_bodies size (bodies_with_ids objects))
    ≡ had ++ segments_of_bodies size (bodies_with_ids objects)
received-bodies had size [] d f = sym (append-nil had)
received-bodies had size (o ∷ objects) d f =
    let parts = and_parts (not (contains (ids_of objects) o.tid)) (is_distinct (ids_of objects))
    d in
    let absent : contains (ids_of objects) o.tid ≡ false =
    not-true (contains (ids_of objects) o.tid) parts.0 in
    let here : List Segment = segments_of 4 o.tid size o.body in
    let rest : List Segment = segments_of_bodies size (bodies_with_ids objects) in
    received-numbered had rest 4 o.tid 0 (pieces size o.body)
    (all-below 4 o.tid 0 had (f o.tid (rw (eq-eqb o.tid o.tid refl) refl)))
    ∙ received-bodies (had ++ here) size objects parts.1
    (λ tid h. foreign-append 4 tid had here
    (f tid (or_right (tid == o.tid) (contains (ids_of objects) tid) h))
    (foreign-numbered 4 tid 4 o.tid 0 (pieces size o.body)
    (λ k e. other-id (ids_of objects) o.tid tid absent h e)))
    ∙ append_assoc had here rest

-- no segment of a turn is that of another
pub received-turn : (id size : ℕ) (bytes : List ℕ) (objects : List Object) →
    is_distinct (ids_of objects) ≡ true →
    received [] (segments_of 6 id size bytes
    ++ segments_of_bodies size (bodies_with_ids objects))
    ≡ segments_of 6 id size bytes ++ segments_of_bodies size (bodies_with_ids objects)
received-turn id size bytes objects d =
    let directory : List Segment = segments_of 6 id size bytes in
    received-numbered [] (segments_of_bodies size (bodies_with_ids objects)) 6 id 0
    (pieces size bytes) tt
    ∙ received-bodies directory size objects d
    (λ tid h. foreign-numbered 4 tid 6 id 0 (pieces size bytes) (λ k e. omega arith))

-- ---- what is left of a turn

-- What is left is the rest of its directory and bodies, and the front of the directory is had.
pub record IsLeft (directory had left : List Segment) : Type 0 where
  pub before : List Segment
  pub after : List Segment
  pub bodies : List Segment
  pub cut : directory ≡ before ++ after
  pub all : left ≡ after ++ bodies
  pub known : AllByRecursion (IsHad had) before
  pub are_bodies : AreBodies bodies

abbrev list_head : Segment → List Segment → Segment
list_head d [] = d
list_head d (x ∷ xs) = x

-- one is sent
pub left-next : (directory had : List Segment) (t : Segment) (rest : List Segment) →
    IsLeft directory had (t ∷ rest) → IsLeft directory (had_with had t) rest
left-next directory had t rest l =
    next-cases l.before l.after l.bodies l.cut l.all l.known l.are_bodies
  where
    next-cases : (before after bodies : List Segment) → directory ≡ before ++ after →
        t ∷ rest ≡ after ++ bodies → AllByRecursion (IsHad had) before → AreBodies bodies →
        IsLeft directory (had_with had t) rest
    next-cases before [] [] cut all h b = absurd (omega (arith, ap length all))
    next-cases before [] (x ∷ bodies) cut all h b = record {
      before = before;
      after = [];
      bodies = bodies;
      cut = cut;
      all = ap (drop 1) all;
      known = all_had-more had t before h;
      are_bodies = b.1;
    }
    next-cases before (x ∷ after) bodies cut all h b =
        let same : t ≡ x = ap (list_head t) all in record {
          before = before ++ t ∷ [];
          after = after;
          bodies = bodies;
          cut = cut ∙ ap (λ (y : Segment). before ++ y ∷ after) (sym same)
              ∙ sym (append_assoc before (t ∷ []) after);
          all = ap (drop 1) all;
          known = all_had-last had t before h;
          are_bodies = b;
        }

pub of_bodies-all : (xs : List Segment) → AreBodies xs → of_bodies xs ≡ xs
of_bodies-all [] b = refl
of_bodies-all (x ∷ xs) b = rw (eq-eqb x.kind 4 b.0, of_bodies-all xs b.1) refl

pub none-behind : (xs ys : List Segment) → xs ++ ys ≡ [] → ys ≡ []
none-behind [] ys e = e
none-behind (x ∷ xs) ys e = absurd (omega (arith, ap length e))

-- the directory is asked for
module _ (turn : Turn) (size : ℕ) (had left : List Segment)
    (l : IsLeft (directory_segments turn size) had left) where
  abbrev whole : List Segment
  whole = directory_segments turn size

  bodies-left : of_bodies left ≡ l.bodies
  bodies-left =
      let test : Segment → Bool = λ (s : Segment). s.kind == 4 in
      let none : of_bodies l.after ≡ [] =
      none-behind (of_bodies l.before) (of_bodies l.after)
      (sym (filter-append test l.before l.after) ∙ ap of_bodies (sym l.cut)
      ∙ of_bodies-directory turn.tid 0 (pieces size turn.directory)) in
      ap of_bodies l.all ∙ filter-append test l.after l.bodies
      ∙ ap (λ ss. ss ++ of_bodies l.bodies) none ∙ of_bodies-all l.bodies l.are_bodies

  -- what is received then is what was to be received before
  pub left-heard : received had (whole ++ of_bodies left) ≡ received had left
  left-heard =
      ap (λ ss. received had (whole ++ ss)) bodies-left
      ∙ ap (λ ss. received had (ss ++ l.bodies)) l.cut
      ∙ ap (received had) (append_assoc l.before l.after l.bodies)
      ∙ again had l.before (l.after ++ l.bodies) l.known
      ∙ ap (received had) (sym l.all)

  pub is_left-heard : IsLeft whole had (whole ++ of_bodies left)
  is_left-heard = record {
    before = [];
    after = whole;
    bodies = l.bodies;
    cut = refl;
    all = ap (λ ss. whole ++ ss) bodies-left;
    known = tt;
    are_bodies = l.are_bodies;
  }

-- what is left where the directory was asked for: the same, or the directory and then the bodies
pub heard-left : (place : Place) (u : Option UnderWay) (segments : List Segment) (b : Bool) →
    is_empty segments ≡ b → 0 < place.segment_size → 0 < length place.turn.directory →
    (left_with (record place {
      waiting = if b then []
          else directory_segments place.turn place.segment_size ++ of_bodies segments;
    }) u ≡ left_with (record place { waiting = segments }) u)
    ⊎ (left_with (record place {
      waiting = if b then []
          else directory_segments place.turn place.segment_size ++ of_bodies segments;
    }) u ≡ directory_segments place.turn place.segment_size
    ++ of_bodies (left_with (record place { waiting = segments }) u))
heard-left place u segments b e some has = grind arith
