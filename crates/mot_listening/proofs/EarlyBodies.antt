-- What comes early: what is left of a body that is begun, and whole bodies, all of the turn.
use Rattle.std.proofs.Common.{◌≡◌, ◌⊎◌, ℕ, zero, suc, ◌+◌, ◌*◌, ◌≤◌, List, [], ◌∷◌, ◌++◌, Bool}
use Rattle.std.proofs.Common.{true, false, not, inl, inr, refl, sym, subst, map, length, drop, ap}
use Rattle.std.proofs.Common.{◌∙◌, arith, eq-eqb, append_assoc, append-nil}
use Rattle.std.proofs.lemmas.Bool.{ne_eqb}
use Rattle.std.proofs.lemmas.Grind.{flat_map-append}
use Rattle.std.proofs.lemmas.List.Elements.{filter-append}
use Rattle.std.specs.Prelude.{◌==◌, ◌&&◌, ◌||◌, filter, if◌then◌else◌, nat_eq}
use Rattle.std.specs.List.{AllByRecursion}
use Rattle.mot_groups.specs.Entity.{numbered_segments, own_segments, pieces, segments_of}
use Rattle.mot_groups.specs.Group.{Segment}
use Rattle.mot_objects.specs.Ids.{contains}
use Rattle.mot_listening.proofs.Counts.{packets-append, packets_for}
pub use Rattle.mot_player.proofs.Laws.{IsOneOf}
use Rattle.mot_player.specs.Place.{bodies_not_begun, without}
use Rattle.mot_player.specs.Turn.{segments_of_bodies}

abbrev pub Pair : Type 0
Pair = ℕ × List ℕ

-- ---- one of some bodies

pub one-front : (xs ys : List Pair) (b : Pair) → IsOneOf xs b → IsOneOf (xs ++ ys) b
one-front [] ys b is = absurd is
one-front (x ∷ xs) ys b (inl e) = inl e
one-front (x ∷ xs) ys b (inr is) = inr (one-front xs ys b is)

pub one-middle : (before after : List Pair) (f : Pair) → IsOneOf (before ++ f ∷ after) f
one-middle [] after f = inl refl
one-middle (x ∷ before) after f = inr (one-middle before after f)

not-this : (b g : Pair) → b ≡ g → (b.0 == g.0) ≡ false → ⊥
not-this b g e other =
    let same : (b.0 == g.0) ≡ true = eq-eqb b.0 g.0 (ap (λ (p : Pair). p.0) e) in
    absurd (let f : true ≡ false = sym same ∙ other in cc)

pub one-replaced : (before after : List Pair) (g f b : Pair) → IsOneOf (before ++ g ∷ after) b →
    (b.0 == g.0) ≡ false → IsOneOf (before ++ f ∷ after) b
one-replaced [] after g f b (inl e) other = absurd (not-this b g e other)
one-replaced [] after g f b (inr is) other = inr is
one-replaced (x ∷ before) after g f b (inl e) other = inl e
one-replaced (x ∷ before) after g f b (inr is) other =
    inr (one-replaced before after g f b is other)

pub one-withdrawn : (before after : List Pair) (g b : Pair) → IsOneOf (before ++ g ∷ after) b →
    (b.0 == g.0) ≡ false → IsOneOf (before ++ after) b
one-withdrawn [] after g b (inl e) other = absurd (not-this b g e other)
one-withdrawn [] after g b (inr is) other = is
one-withdrawn (x ∷ before) after g b (inl e) other = inl e
one-withdrawn (x ∷ before) after g b (inr is) other = inr (one-withdrawn before after g b is other)

-- ---- the first ones of segments

unfoldable pub first_ones : List Segment → ℕ
first_ones [] = 0
first_ones (s ∷ segments) = (if s.number == 0 then 1 else 0) + first_ones segments

pub first_ones-are : (xs : List Segment) → first_ones xs ≡ bodies_not_begun xs
unfolding first_ones
first_ones-are [] = refl
first_ones-are (x ∷ xs) = count-cases (x.number == 0) (first_ones-are xs)
  where
    count-cases : (b : Bool) → first_ones xs ≡ bodies_not_begun xs →
        (if b then 1 else 0) + first_ones xs
        ≡ length (if b then x ∷ filter (λ (s : Segment). s.number == 0) xs
        else filter (λ (s : Segment). s.number == 0) xs)
    count-cases true e = omega (arith, e)
    count-cases false e = omega (arith, e)

pub first_ones-append : (xs ys : List Segment) →
    first_ones (xs ++ ys) ≡ first_ones xs + first_ones ys
unfolding first_ones
first_ones-append [] ys = omega arith
first_ones-append (x ∷ xs) ys = omega (arith, first_ones-append xs ys)

-- ---- how many packets

drop-fewer : (room n : ℕ) (xs : List Segment) → packets_for room (drop n xs) ≤ packets_for room xs
unfolding packets_for
drop-fewer room zero [] = omega arith
drop-fewer room (suc n) [] = omega arith
drop-fewer room zero (x ∷ xs) = omega arith
drop-fewer room (suc n) (x ∷ xs) = omega (arith, drop-fewer room n xs)

once-more : (n k most : ℕ) → n ≤ most → n ≤ (1 + k) * most
once-more n k most l = omega (arith, l)

body-packets : (room most id : ℕ) (ps : List (List ℕ)) →
    packets_for room (numbered_segments 4 id 0 ps) ≤ most →
    packets_for room (numbered_segments 4 id 0 ps)
    ≤ first_ones (numbered_segments 4 id 0 ps) * most
unfolding packets_for first_ones
body-packets room most id [] l = omega arith
body-packets room most id (p ∷ ps) l =
    once-more (packets_for room (numbered_segments 4 id 0 (p ∷ ps)))
    (first_ones (numbered_segments 4 id (0 + 1) ps)) most l

both-packets : (m n j k most : ℕ) → m ≤ j * most → n ≤ k * most → m + n ≤ (j + k) * most
both-packets m n j k most f g = omega (arith, f, g)

-- each body that is not begun takes no more than the longest
pub bodies-packets : (room size most : ℕ) (whole : List Pair) →
    AllByRecursion (λ (b : Pair). packets_for room (segments_of 4 b.0 size b.1) ≤ most) whole →
    packets_for room (segments_of_bodies size whole)
    ≤ first_ones (segments_of_bodies size whole) * most
unfolding packets_for
bodies-packets room size most [] l = omega arith
bodies-packets room size most (b ∷ whole) l =
    subst (λ (n : ℕ). n ≤ first_ones (segments_of_bodies size (b ∷ whole)) * most)
    (sym (packets-append room own others))
    (subst (λ (n : ℕ). packets_for room own + packets_for room others ≤ n * most)
    (sym (first_ones-append own others))
    (both-packets (packets_for room own) (packets_for room others) (first_ones own)
    (first_ones others) most (body-packets room most b.0 (pieces size b.1) l.0)
    (bodies-packets room size most whole l.1)))
  where
    own : List Segment
    own = segments_of 4 b.0 size b.1

    others : List Segment
    others = segments_of_bodies size whole

-- ---- what comes early

-- what is left of one of these bodies, which is begun
pub record IsBegun (size : ℕ) (bodies : List Pair) (front : List Segment) : Type 0 where
  body : Pair
  at : ℕ
  one : IsOneOf bodies body
  left : front ≡ drop (suc at) (segments_of 4 body.0 size body.1)

-- and behind it whole ones
pub record ComesEarly (size : ℕ) (bodies : List Pair) (early : List Segment) : Type 0 where
  front : List Segment
  whole : List Pair
  row : early ≡ front ++ segments_of_bodies size whole
  begun : (front ≡ []) ⊎ IsBegun size bodies front
  each : AllByRecursion (IsOneOf bodies) whole

-- whole bodies come early
pub whole-early : (size : ℕ) (bodies whole : List Pair) → AllByRecursion (IsOneOf bodies) whole →
    ComesEarly size bodies (segments_of_bodies size whole)
whole-early size bodies whole each =
    record { front = []; whole = whole; row = refl; begun = inl refl; each = each }

pub none-early : (size : ℕ) (bodies : List Pair) → ComesEarly size bodies []
none-early size bodies = whole-early size bodies [] tt

-- the first segment is begun
drop-more : (n : ℕ) (t : Segment) (xs ys : List Segment) → t ∷ xs ≡ drop n ys →
    xs ≡ drop (suc n) ys
drop-more zero t xs [] e = absurd (cc)
drop-more (suc n) t xs [] e = absurd (cc)
drop-more zero t xs (y ∷ []) e = let f : xs ≡ [] = cc in f
drop-more zero t xs (y ∷ z ∷ ys) e = let f : xs ≡ z ∷ ys = cc in f
drop-more (suc n) t xs (y ∷ ys) e = drop-more n t xs ys e

abbrev AreOf : List Pair → List Pair → Type 0
AreOf bodies whole = AllByRecursion (IsOneOf bodies) whole

drop-none : (xs : List Segment) → drop zero xs ≡ xs
drop-none [] = refl
drop-none (x ∷ xs) = refl

whole-tail : (size : ℕ) (bodies whole : List Pair) (t : Segment) (xs : List Segment) →
    AreOf bodies whole → t ∷ xs ≡ segments_of_bodies size whole → ComesEarly size bodies xs
whole-tail size bodies [] t xs each e = absurd (cc)
whole-tail size bodies (b ∷ whole) t xs each e =
    pieces-cases (pieces size b.1) refl e (λ f. whole-tail size bodies whole t xs each.1 f)
  where
    others : List Segment
    others = segments_of_bodies size whole

    pieces-cases : (ps : List (List ℕ)) → pieces size b.1 ≡ ps →
        t ∷ xs ≡ numbered_segments 4 b.0 0 ps ++ others →
        (t ∷ xs ≡ others → ComesEarly size bodies xs) → ComesEarly size bodies xs
    pieces-cases [] f e next = next e
    pieces-cases (p ∷ ps) f e next = record {
      front = numbered_segments 4 b.0 (0 + 1) ps;
      whole = whole;
      row = let g : xs ≡ numbered_segments 4 b.0 (0 + 1) ps ++ others = cc in g;
      begun = inr (record {
        body = b;
        at = 0;
        one = each.0;
        left = sym (ap (λ (qs : List (List ℕ)). drop (suc 0) (numbered_segments 4 b.0 0 qs)) f
            ∙ drop-none (numbered_segments 4 b.0 (0 + 1) ps));
      });
      each = each.1;
    }

pub early-tail : (size : ℕ) (bodies : List Pair) (t : Segment) (xs : List Segment) →
    ComesEarly size bodies (t ∷ xs) → ComesEarly size bodies xs
early-tail size bodies t xs early = front-cases early.front early.begun early.row
  where
    behind : List Segment
    behind = segments_of_bodies size early.whole

    front-cases : (front : List Segment) → (front ≡ []) ⊎ IsBegun size bodies front →
        t ∷ xs ≡ front ++ behind → ComesEarly size bodies xs
    front-cases [] begun e = whole-tail size bodies early.whole t xs early.each e
    front-cases (f ∷ front) (inl none) e = absurd (cc)
    front-cases (f ∷ front) (inr begun) e = record {
      front = front;
      whole = early.whole;
      row = let g : xs ≡ front ++ behind = cc in g;
      begun = inr (record {
        body = begun.body;
        at = suc begun.at;
        one = begun.one;
        left = drop-more (suc begun.at) f front (segments_of 4 begun.body.0 size begun.body.1)
            begun.left;
      });
      each = early.each;
    }

-- all segments of a body have its id
tid-numbered : (P : ℕ → Type 0) (id n : ℕ) (ps : List (List ℕ)) → P id →
    AllByRecursion (λ (s : Segment). P s.tid) (numbered_segments 4 id n ps)
tid-numbered P id n [] p = tt
tid-numbered P id n (q ∷ ps) p = (p, tid-numbered P id (n + 1) ps p)

all-drop : (P : Segment → Type 0) (n : ℕ) (xs : List Segment) → AllByRecursion P xs →
    AllByRecursion P (drop n xs)
all-drop P zero [] p = tt
all-drop P (suc n) [] p = tt
all-drop P zero (x ∷ xs) p = p
all-drop P (suc n) (x ∷ xs) p = all-drop P n xs p.1

filter-none : (p : Segment → Bool) (xs : List Segment) →
    AllByRecursion (λ (s : Segment). p s ≡ false) xs → filter p xs ≡ []
filter-none p [] none = refl
filter-none p (x ∷ xs) none = rw none.0 (filter-none p xs none.1)

filter-all : (p : Segment → Bool) (xs : List Segment) →
    AllByRecursion (λ (s : Segment). p s ≡ true) xs → filter p xs ≡ xs
filter-all p [] all = refl
filter-all p (x ∷ xs) all = rw all.0 (ap (λ (ss : List Segment). x ∷ ss) (filter-all p xs all.1))

-- what stays of it where a body goes
abbrev others : ℕ → List Pair → List Pair
others g [] = []
others g (b ∷ whole) = if b.0 == g then others g whole else b ∷ others g whole

without-cases : (g : ℕ) (b : Pair) (segments own rest : List Segment) (size : ℕ)
    (whole : List Pair) → own ≡ segments_of 4 b.0 size b.1 → (c : Bool) → (b.0 == g) ≡ c →
    AllByRecursion (λ (s : Segment). not (s.tid == g) ≡ not c) own →
    without g rest ≡ segments_of_bodies size whole →
    without g own ++ without g rest
    ≡ segments_of_bodies size (if c then whole else b ∷ whole)
without-cases g b segments own rest size whole is true e all rest_is =
    ap (λ (ss : List Segment). ss ++ without g rest)
    (filter-none (λ (s : Segment). not (s.tid == g)) own all) ∙ rest_is
without-cases g b segments own rest size whole is false e all rest_is =
    ap (λ (ss : List Segment). ss ++ without g rest)
    (filter-all (λ (s : Segment). not (s.tid == g)) own all ∙ is)
    ∙ ap (λ (ss : List Segment). segments_of 4 b.0 size b.1 ++ ss) rest_is

without-bodies : (size g : ℕ) (whole : List Pair) →
    without g (segments_of_bodies size whole) ≡ segments_of_bodies size (others g whole)
without-bodies size g [] = refl
without-bodies size g (b ∷ whole) =
    let own : List Segment = segments_of 4 b.0 size b.1 in
    filter-append (λ (s : Segment). not (s.tid == g)) own (segments_of_bodies size whole)
    ∙ without-cases g b [] own (segments_of_bodies size whole) size (others g whole) refl
    (b.0 == g) refl
    (tid-numbered (λ (id : ℕ). not (id == g) ≡ not (b.0 == g)) b.0 0 (pieces size b.1) refl)
    (without-bodies size g whole)

-- bodies of a turn that stay in the next
abbrev pub Stay : ℕ → List Pair → List Pair → Type 0
Stay g olds news = (b : Pair) → IsOneOf olds b → (b.0 == g) ≡ false → IsOneOf news b

others-are : (g : ℕ) (olds news whole : List Pair) → Stay g olds news → AreOf olds whole →
    AreOf news (others g whole)
others-are g olds news [] stay each = tt
others-are g olds news (b ∷ whole) stay each =
    others-cases (b.0 == g) refl (others-are g olds news whole stay each.1)
  where
    others-cases : (c : Bool) → (b.0 == g) ≡ c → AreOf news (others g whole) →
        AreOf news (if c then others g whole else b ∷ others g whole)
    others-cases true e rest = rest
    others-cases false e rest = (stay b each.0 e, rest)

pub early-without : (size g : ℕ) (olds news : List Pair) (early : List Segment) →
    Stay g olds news → ComesEarly size olds early → ComesEarly size news (without g early)
early-without size g olds news early stay comes = record {
  front = without g comes.front;
  whole = others g comes.whole;
  row = ap (without g) comes.row
      ∙ filter-append (λ (s : Segment). not (s.tid == g)) comes.front
      (segments_of_bodies size comes.whole)
      ∙ ap (λ (ss : List Segment). without g comes.front ++ ss)
      (without-bodies size g comes.whole);
  begun = front-cases comes.front comes.begun;
  each = others-are g olds news comes.whole stay comes.each;
}
  where
    begun-cases : (front : List Segment) (begun : IsBegun size olds front) (c : Bool) →
        (begun.body.0 == g) ≡ c →
        AllByRecursion (λ (s : Segment). not (s.tid == g) ≡ not c) front →
        (without g front ≡ []) ⊎ IsBegun size news (without g front)
    begun-cases front begun true e all =
        inl (filter-none (λ (s : Segment). not (s.tid == g)) front all)
    begun-cases front begun false e all = inr (record {
      body = begun.body;
      at = begun.at;
      one = stay begun.body begun.one e;
      left = filter-all (λ (s : Segment). not (s.tid == g)) front all ∙ begun.left;
    })

    front-cases : (front : List Segment) → (front ≡ []) ⊎ IsBegun size olds front →
        (without g front ≡ []) ⊎ IsBegun size news (without g front)
    front-cases front (inl e) = inl (ap (without g) e)
    front-cases front (inr begun) =
        begun-cases front begun (begun.body.0 == g) refl
        (subst (AllByRecursion (λ (s : Segment). not (s.tid == g) ≡ not (begun.body.0 == g)))
        (sym begun.left)
        (all-drop (λ (s : Segment). not (s.tid == g) ≡ not (begun.body.0 == g)) (suc begun.at)
        (segments_of 4 begun.body.0 size begun.body.1)
        (tid-numbered (λ (id : ℕ). not (id == g) ≡ not (begun.body.0 == g)) begun.body.0 0
        (pieces size begun.body.1) refl)))

-- in a turn that has them all
abbrev pub Widens : List Pair → List Pair → Type 0
Widens olds news = (b : Pair) → IsOneOf olds b → IsOneOf news b

all-widen : (olds news whole : List Pair) → Widens olds news → AreOf olds whole →
    AreOf news whole
all-widen olds news [] wider each = tt
all-widen olds news (b ∷ whole) wider each =
    (wider b each.0, all-widen olds news whole wider each.1)

pub early-widen : (size : ℕ) (olds news : List Pair) (early : List Segment) → Widens olds news →
    ComesEarly size olds early → ComesEarly size news early
early-widen size olds news early wider comes = record {
  front = comes.front;
  whole = comes.whole;
  row = comes.row;
  begun = front-cases comes.begun;
  each = all-widen olds news comes.whole wider comes.each;
}
  where
    front-cases : (comes.front ≡ []) ⊎ IsBegun size olds comes.front →
        (comes.front ≡ []) ⊎ IsBegun size news comes.front
    front-cases (inl e) = inl e
    front-cases (inr begun) = inr (record {
      body = begun.body;
      at = begun.at;
      one = wider begun.body begun.one;
      left = begun.left;
    })

-- one more comes behind them
all-more : (bodies whole : List Pair) (f : Pair) → IsOneOf bodies f → AreOf bodies whole →
    AreOf bodies (whole ++ f ∷ [])
all-more bodies [] f one each = (one, tt)
all-more bodies (b ∷ whole) f one each = (each.0, all-more bodies whole f one each.1)

pub early-more : (size : ℕ) (bodies : List Pair) (early : List Segment) (f : Pair) →
    IsOneOf bodies f → ComesEarly size bodies early →
    ComesEarly size bodies (early ++ segments_of 4 f.0 size f.1)
early-more size bodies early f one comes =
    let fresh : List Segment = segments_of 4 f.0 size f.1 in
    let behind : List Segment = segments_of_bodies size comes.whole in record {
      front = comes.front;
      whole = comes.whole ++ f ∷ [];
      row = ap (λ (ss : List Segment). ss ++ fresh) comes.row
          ∙ append_assoc comes.front behind fresh
          ∙ ap (λ (ss : List Segment). comes.front ++ ss)
          (sym (flat_map-append (λ (b : Pair). segments_of 4 b.0 size b.1) comes.whole (f ∷ [])
          ∙ ap (λ (ss : List Segment). behind ++ ss) (append-nil fresh)));
      begun = comes.begun;
      each = all-more bodies comes.whole f one comes.each;
    }

-- ---- how much that is

one-most : (room size most : ℕ) (bodies whole : List Pair) →
    ((b : Pair) → IsOneOf bodies b → packets_for room (segments_of 4 b.0 size b.1) ≤ most) →
    AreOf bodies whole →
    AllByRecursion (λ (b : Pair). packets_for room (segments_of 4 b.0 size b.1) ≤ most) whole
one-most room size most bodies [] long each = tt
one-most room size most bodies (b ∷ whole) long each =
    (long b each.0, one-most room size most bodies whole long each.1)

times-more : (n m most : ℕ) → n ≤ m → n * most ≤ m * most
times-more zero m most l = omega arith
times-more (suc n) zero most l = absurd (omega (arith, l))
times-more (suc n) (suc m) most l = omega (arith, times-more n m most (omega (arith, l)))

pub early-few : (room size most longest : ℕ) (bodies : List Pair) (early : List Segment) →
    ((b : Pair) → IsOneOf bodies b → packets_for room (segments_of 4 b.0 size b.1) ≤ longest) →
    ComesEarly size bodies early → first_ones early ≤ most →
    packets_for room early ≤ (most + 1) * longest
unfolding packets_for
early-few room size most longest bodies early long comes few =
    omega (
      arith,
      ap (packets_for room) comes.row,
      packets-append room comes.front behind,
      front-cases comes.front comes.begun,
      bodies-packets room size longest comes.whole
          (one-most room size longest bodies comes.whole long comes.each),
      times-more (first_ones behind) most longest (omega (
        arith,
        ap first_ones comes.row,
        first_ones-append comes.front behind,
        few,
      )),
    )
  where
    behind : List Segment
    behind = segments_of_bodies size comes.whole

    front-cases : (front : List Segment) → (front ≡ []) ⊎ IsBegun size bodies front →
        packets_for room front ≤ longest
    front-cases front (inl e) = omega (arith, ap (packets_for room) e)
    front-cases front (inr begun) =
        omega (
          arith,
          ap (packets_for room) begun.left,
          drop-fewer room (suc begun.at) (segments_of 4 begun.body.0 size begun.body.1),
          long begun.body begun.one,
        )

-- ---- of other ids

or_none : (a b : Bool) → (a || b) ≡ false → (a ≡ false) × (b ≡ false)
or_none true b e = absurd (let f : true ≡ false = e in cc)
or_none false b e = (refl, e)

all-both : (P : Segment → Type 0) (xs ys : List Segment) → AllByRecursion P xs →
    AllByRecursion P ys → AllByRecursion P (xs ++ ys)
all-both P [] ys p q = q
all-both P (x ∷ xs) ys p q = (p.0, all-both P xs ys p.1 q)

abbrev pub ids_of : List Pair → List ℕ
ids_of bodies = map (λ (b : Pair). b.0) bodies

pub not-own : (bodies : List Pair) (id : ℕ) (b : Pair) → IsOneOf bodies b →
    contains (ids_of bodies) id ≡ false → (b.0 == id) ≡ false
not-own [] id b is none = absurd is
not-own (x ∷ bodies) id b is none =
    let parts = or_none (nat_eq id x.0) (contains (ids_of bodies) id) none in
    own-cases is parts.0 (λ one. not-own bodies id b one parts.1)
  where
    own-cases : (b ≡ x) ⊎ IsOneOf bodies b → nat_eq id x.0 ≡ false →
        (IsOneOf bodies b → (b.0 == id) ≡ false) → (b.0 == id) ≡ false
    own-cases (inl e) first rest =
        ap (λ (p : Pair). p.0 == id) e
        ∙ ne_eqb x.0 id (λ same. absurd (let f : true ≡ false =
        sym (eq-eqb id x.0 (sym same)) ∙ first in cc))
    own-cases (inr one) first rest = rest one

-- what comes early is of none other
abbrev pub AreOthersOf : ℕ → List Segment → Type 0
AreOthersOf id segments = AllByRecursion (λ (s : Segment). (s.tid == id) ≡ false) segments

all-others : (size id : ℕ) (bodies whole : List Pair) → contains (ids_of bodies) id ≡ false →
    AreOf bodies whole → AreOthersOf id (segments_of_bodies size whole)
all-others size id bodies [] none each = tt
all-others size id bodies (b ∷ whole) none each =
    all-both (λ (s : Segment). (s.tid == id) ≡ false) (segments_of 4 b.0 size b.1)
    (segments_of_bodies size whole)
    (tid-numbered (λ (n : ℕ). (n == id) ≡ false) b.0 0 (pieces size b.1)
    (not-own bodies id b each.0 none)) (all-others size id bodies whole none each.1)

pub early-others : (size id : ℕ) (bodies : List Pair) (early : List Segment) →
    contains (ids_of bodies) id ≡ false → ComesEarly size bodies early → AreOthersOf id early
early-others size id bodies early none comes =
    subst (AreOthersOf id) (sym comes.row)
    (all-both (λ (s : Segment). (s.tid == id) ≡ false) comes.front
    (segments_of_bodies size comes.whole) (front-cases comes.front comes.begun)
    (all-others size id bodies comes.whole none comes.each))
  where
    front-cases : (front : List Segment) → (front ≡ []) ⊎ IsBegun size bodies front →
        AreOthersOf id front
    front-cases front (inl e) = subst (AreOthersOf id) (sym e) tt
    front-cases front (inr begun) =
        subst (AreOthersOf id) (sym begun.left)
        (all-drop (λ (s : Segment). (s.tid == id) ≡ false) (suc begun.at)
        (segments_of 4 begun.body.0 size begun.body.1)
        (tid-numbered (λ (n : ℕ). (n == id) ≡ false) begun.body.0 0 (pieces size begun.body.1)
        (not-own bodies id begun.body begun.one none)))

others-kept : (id : ℕ) (p : Segment → Bool) (xs : List Segment) → AreOthersOf id xs →
    AreOthersOf id (filter p xs)
others-kept id p [] none = tt
others-kept id p (x ∷ xs) none = kept-cases (p x) (others-kept id p xs none.1)
  where
    kept-cases : (b : Bool) → AreOthersOf id (filter p xs) →
        AreOthersOf id (if b then x ∷ filter p xs else filter p xs)
    kept-cases true rest = (none.0, rest)
    kept-cases false rest = rest

pub others-without : (id g : ℕ) (xs : List Segment) → AreOthersOf id xs →
    AreOthersOf id (without g xs)
others-without id g xs none = others-kept id (λ (s : Segment). not (s.tid == g)) xs none

-- so of a body of another id nothing is among them, and all of it where it comes behind them
pub own-behind : (size : ℕ) (f : Pair) (early : List Segment) → AreOthersOf f.0 early →
    own_segments 4 f.0 (early ++ segments_of 4 f.0 size f.1) ≡ segments_of 4 f.0 size f.1
own-behind size f early none =
    let own : Segment → Bool = λ s. s.kind == 4 && s.tid == f.0 in
    filter-append own early (segments_of 4 f.0 size f.1)
    ∙ ap (λ (ss : List Segment). ss ++ own_segments 4 f.0 (segments_of 4 f.0 size f.1))
    (filter-none own early (none-own early none))
    ∙ filter-all own (segments_of 4 f.0 size f.1) (all-own f.0 0 (pieces size f.1))
  where
    and-false : (a b : Bool) → b ≡ false → (a && b) ≡ false
    and-false true b e = e
    and-false false b e = refl

    none-own : (xs : List Segment) → AreOthersOf f.0 xs →
        AllByRecursion (λ (s : Segment). (s.kind == 4 && s.tid == f.0) ≡ false) xs
    none-own [] none = tt
    none-own (x ∷ xs) none =
        (and-false (x.kind == 4) (x.tid == f.0) none.0, none-own xs none.1)

    all-own : (id n : ℕ) (ps : List (List ℕ)) →
        AllByRecursion (λ (s : Segment). (s.kind == 4 && s.tid == id) ≡ true)
        (numbered_segments 4 id n ps)
    all-own id n [] = tt
    all-own id n (p ∷ ps) = (eq-eqb id id refl, all-own id (n + 1) ps)
