-- What holds where a player begins that sends some bodies first.
use Rattle.std.proofs.Common.{◌≡◌, ℕ, suc, ◌-◌, ◌<◌, ◌≤◌, Bool, true, false, List, [], ◌∷◌, ◌++◌, length}
use Rattle.std.proofs.Common.{Option, Some, None, inl, inr, refl, sym, subst, ap, ◌∙◌, arith, eq-eqb}
use Rattle.std.proofs.Common.{append_assoc}
use Rattle.std.proofs.Math.Seq.{take-append_seam}
use Rattle.std.proofs.lemmas.Bool.{and_parts, eqb-true, not-true, or_parts}
use Rattle.std.proofs.lemmas.List.{length-append}
use Rattle.std.proofs.lemmas.List.Elements.{filter-append}
use Rattle.std.specs.Cmp.{nat_eq_equiv}
use Rattle.std.specs.List.{AllByRecursion}
use Rattle.std.specs.Prelude.{◌==◌, ◌&&◌, is_some, nat_eq, not}
use Rattle.mot_groups.specs.Entity.{own_segments, pieces, segments_of}
use Rattle.mot_groups.specs.Group.{Segment}
use Rattle.mot_objects.specs.Ids.{contains, is_distinct}
use Rattle.mot_player.specs.Continuity.{IsContinuous}
use Rattle.mot_player.specs.Laws.{AreSent}
use Rattle.mot_player.specs.Place.{Place, Sent, Step, bodies_not_begun, directory_segments}
use Rattle.mot_player.specs.Place.{left_of, of_bodies, opened_place, sent_by}
use Rattle.mot_player.specs.Start.{begin_with, newest, start_place}
use Rattle.mot_player.specs.Staying.{AreFewEarly, HasDirectory}
use Rattle.mot_player.specs.Turn.{Turn, segments_of_bodies, segments_of_turn}
use Rattle.mot_player.proofs.Beginnings.{StandsAt}
use Rattle.mot_player.proofs.Continuous.{AreKinds-turn, IsKind, steps-from_opened}
use Rattle.mot_player.proofs.FewEarly.{both-counted, few-opened, few-place, one-numbered}
use Rattle.mot_player.proofs.Followed.{bodies-append, of_bodies-directory, of_bodies-same}
use Rattle.mot_player.proofs.FollowedTurn.{ids}
use Rattle.mot_player.proofs.FreshReads.{IsOwn, all-append, all-behind, all-front, body_of}
use Rattle.mot_player.proofs.FreshReads.{own-whole}
use Rattle.mot_player.proofs.FreshTurns.{IsApartTurn, IsFresh, fresh-opened}
use Rattle.mot_player.proofs.Left.{own-directory}
use Rattle.mot_player.proofs.FirstBodies.{IsOneOf, newest-few, newest-one}
use Rattle.mot_player.proofs.TurnOnce.{bodies-bodies}
use Rattle.mot_player.proofs.TurnReads.{foreign-numbered_segments, own-append}
use Rattle.mot_player.proofs.TurnReads.{own-numbered_segments}

abbrev Pair : Type 0
Pair = ℕ × List ℕ

-- what holds of all bodies' segments holds of each one's
pub of-one : (P : Segment → Type 0) (size : ℕ) (bodies : List Pair) (b : Pair) → IsOneOf bodies b →
    AllByRecursion P (segments_of_bodies size bodies) →
    AllByRecursion P (segments_of 4 b.0 size b.1)
of-one P size [] b one all = absurd one
of-one P size (x ∷ bodies) b (inl e) all =
    subst (λ (p : Pair). AllByRecursion P (segments_of 4 p.0 size p.1)) (sym e)
    (all-front P (segments_of 4 x.0 size x.1) (segments_of_bodies size bodies) all)
of-one P size (x ∷ bodies) b (inr one) all =
    grind (arith, of-one P size bodies b one (all-behind P (segments_of 4 x.0 size x.1) (segments_of_bodies size bodies) all))

-- and of some of them
pub of-some : (P : Segment → Type 0) (size : ℕ) (bodies some : List Pair) →
    AllByRecursion (IsOneOf bodies) some → AllByRecursion P (segments_of_bodies size bodies) →
    AllByRecursion P (segments_of_bodies size some)
of-some P size bodies [] are all = tt
of-some P size bodies (b ∷ some) are all =
    all-append P (segments_of 4 b.0 size b.1) (segments_of_bodies size some)
    (of-one P size bodies b are.0 all) (of-some P size bodies some are.1 all)

-- of each whole body the first segment is one
few-bodies : (size : ℕ) (bodies : List Pair) →
    bodies_not_begun (segments_of_bodies size bodies) ≤ length bodies
few-bodies size [] = omega arith
few-bodies size (b ∷ bodies) =
    grind (arith, few-bodies size bodies, both-counted, one-numbered)

-- ---- one of a turn's bodies, by its id

other-id : (bodies : List Pair) (id : ℕ) (b : Pair) → IsOneOf bodies b →
    contains (ids bodies) id ≡ false → (b.0 == id) ≡ false
other-id [] id b one none = absurd one
other-id (x ∷ bodies) id b (inl e) none =
    nat_eq_equiv.symm b.0 id ∙ ap (λ (p : Pair). id == p.0) e
    ∙ (or_parts (nat_eq id x.0) (contains (ids bodies) id) none).0
other-id (x ∷ bodies) id b (inr one) none =
    other-id bodies id b one (or_parts (nat_eq id x.0) (contains (ids bodies) id) none).1

body-of_one : (bodies : List Pair) (b : Pair) → IsOneOf bodies b →
    is_distinct (ids bodies) ≡ true → body_of b.0 bodies ≡ Some b.1
body-of_one [] b one d = absurd one
body-of_one (x ∷ bodies) b (inl e) d =
    subst (λ (p : Pair). body_of p.0 (x ∷ bodies) ≡ Some p.1) (sym e)
    (rw (eq-eqb x.0 x.0 refl) refl)
body-of_one (x ∷ bodies) b (inr one) d =
    let parts = and_parts (not (contains (ids bodies) x.0)) (is_distinct (ids bodies)) d in
    rw (other-id bodies x.0 b one (not-true (contains (ids bodies) x.0) parts.0))
    (body-of_one bodies b one parts.1)

-- a body that comes once more is there whole
module _ (id size : ℕ) (bodies : List Pair) (d : is_distinct (ids bodies) ≡ true) where
  abbrev own_of : Pair → List Segment
  own_of b = own_segments 4 id (segments_of 4 b.0 size b.1)

  once-more : (b : Pair) (xs : List Segment) (t : Bool) → (id == b.0) ≡ t → IsOneOf bodies b →
      IsOwn size id (body_of id bodies) xs → IsOwn size id (body_of id bodies) (own_of b ++ xs)
  once-more b xs true e one is =
      let same : id ≡ b.0 = eqb-true id b.0 e in
      let whole : own_of b ≡ segments_of 4 id size b.1 =
      ap (λ (k : ℕ). own_segments 4 id (segments_of 4 k size b.1)) (sym same)
      ∙ own-numbered_segments 4 id 0 (pieces size b.1) in
      let is_body : body_of id bodies ≡ Some b.1 =
      ap (λ (k : ℕ). body_of k bodies) same ∙ body-of_one bodies b one d in
      let was : IsOwn size id (Some b.1) xs =
      subst (λ (o : Option (List ℕ)). IsOwn size id o xs) is_body is in
      subst (λ (o : Option (List ℕ)). IsOwn size id o (own_of b ++ xs)) (sym is_body) (
        suc was.0,
        ap (λ (ss : List Segment). ss ++ xs) whole
            ∙ ap (λ (ss : List Segment). segments_of 4 id size b.1 ++ ss) was.1,
      )
  once-more b xs false e one is =
      subst (λ (ss : List Segment). IsOwn size id (body_of id bodies) (ss ++ xs))
      (sym (foreign-numbered_segments 4 id 4 b.0 0 (pieces size b.1)
      (nat_eq_equiv.symm b.0 id ∙ e))) is

  more-own : (some : List Pair) (xs : List Segment) → AllByRecursion (IsOneOf bodies) some →
      IsOwn size id (body_of id bodies) xs →
      IsOwn size id (body_of id bodies) (own_segments 4 id (segments_of_bodies size some) ++ xs)
  more-own [] xs are is = is
  more-own (b ∷ some) xs are is =
      let rest : List Segment = own_segments 4 id (segments_of_bodies size some) in
      subst (IsOwn size id (body_of id bodies))
      (sym (ap (λ (ss : List Segment). ss ++ xs)
      (own-append 4 id (segments_of 4 b.0 size b.1) (segments_of_bodies size some))
      ∙ append_assoc (own_of b) rest xs))
      (once-more b (rest ++ xs) (id == b.0) refl are.0 (more-own some xs are.1 is))

-- ---- the start

module _ (address room size most : ℕ) (turn : Turn) (firsts : List Pair) where
  abbrev pub first_place : Place
  first_place =
      begin_with firsts (record (opened_place address room size turn) { follows = Some most })

  abbrev directory : List Segment
  directory = directory_segments turn size

  abbrev pub early : List Segment
  early = segments_of_bodies size firsts

  abbrev pub bodies : List Segment
  bodies = segments_of_bodies size turn.bodies

  -- of bodies, those that come first wait, and then all
  pub first-bodies : of_bodies first_place.waiting ≡ early ++ bodies
  first-bodies =
      grind (arith, filter-append, of_bodies-directory, of_bodies-same, bodies-bodies)

  -- all that waits is left
  pub first-left : 0 < size → HasDirectory turn → left_of first_place ≡ first_place.waiting
  first-left some has = grind arith

  pub few-first : length firsts ≤ most → AreFewEarly first_place
  few-first few =
      grind (arith, few-place, first-bodies, length-append, take-append_seam, few-bodies)

  pub stands-first : 0 < room → StandsAt true true false size turn first_place
  stands-first some = grind arith

  pub fresh-first : 0 < size → HasDirectory turn → AllByRecursion (IsOneOf turn.bodies) firsts →
      IsApartTurn turn → IsFresh first_place
  fresh-first some has are apart =
      let left : left_of first_place ≡ directory ++ (early ++ bodies) =
      first-left some has ∙ append_assoc directory early bodies in
      record {
        under_way = refl;
        bodies = early ++ bodies;
        left = left;
        are_bodies = bodies-append early bodies (bodies-bodies size firsts)
            (bodies-bodies size turn.bodies);
        own = λ id.
            subst (IsOwn size id (body_of id turn.bodies))
            (sym (ap (own_segments 4 id) left
            ∙ own-append 4 id directory (early ++ bodies)
            ∙ ap (λ (ss : List Segment). ss ++ own_segments 4 id (early ++ bodies))
            (own-directory id turn.tid 0 (pieces size turn.directory))
            ∙ own-append 4 id early bodies))
            (more-own id size turn.bodies apart firsts (own_segments 4 id bodies) are
            (own-whole id size turn.bodies apart));
      }

  -- they are of the kinds of a turn
  first-kinds : AllByRecursion (IsOneOf turn.bodies) firsts →
      AllByRecursion IsKind first_place.waiting
  first-kinds are =
      let whole : AllByRecursion IsKind (segments_of_turn turn size) = AreKinds-turn turn size in
      let behind : AllByRecursion IsKind bodies = all-behind IsKind directory bodies whole in
      all-append IsKind (directory ++ early) bodies
      (all-append IsKind directory early (all-front IsKind directory bodies whole)
      (of-some IsKind size turn.bodies firsts are behind)) behind

-- ---- of a player that follows, or does not

pub few-start : (address room size : ℕ) (turn : Turn) (cursor : ℕ) (follows : Option ℕ)
    (newest_first : Bool) →
    AreFewEarly (start_place address room size turn cursor follows newest_first)
few-start address room size turn cursor None newest_first =
    few-opened address room size turn None
few-start address room size turn cursor (Some most) false =
    few-opened address room size turn (Some most)
few-start address room size turn cursor (Some most) true =
    few-first address room size most turn (newest (most - 1) cursor turn.bodies)
    (omega (arith, newest-few (most - 1) cursor turn.bodies))

pub stands-start : (address room size : ℕ) (turn : Turn) (cursor : ℕ) (follows : Option ℕ)
    (newest_first : Bool) → 0 < room →
    StandsAt (is_some follows) true (not (is_some follows && newest_first)) size turn
    (start_place address room size turn cursor follows newest_first)
stands-start address room size turn cursor follows newest_first some = grind arith

pub fresh-start : (address room size : ℕ) (turn : Turn) (cursor : ℕ) (follows : Option ℕ)
    (newest_first : Bool) → 0 < size → HasDirectory turn → IsApartTurn turn →
    IsFresh (start_place address room size turn cursor follows newest_first)
fresh-start address room size turn cursor None newest_first some has apart =
    fresh-opened address room size turn None apart
fresh-start address room size turn cursor (Some most) false some has apart =
    fresh-opened address room size turn (Some most) apart
fresh-start address room size turn cursor (Some most) true some has apart =
    fresh-first address room size most turn (newest (most - 1) cursor turn.bodies) some has
    (newest-one (most - 1) cursor turn.bodies) apart

-- whatever turns come between requests, the packets have their continuity indexes
pub start-continuous : (address room size : ℕ) (turn : Turn) (cursor : ℕ) (follows : Option ℕ)
    (newest_first : Bool) (steps : List Step) (sents : List Sent) (new : Place)
    (packets : List (List ℕ)) → 0 < room →
    sent_by (start_place address room size turn cursor follows newest_first) steps
    ≡ Some (sents, new) → AreSent sents packets → IsContinuous packets
start-continuous address room size turn cursor None newest_first steps sents new packets some h
    sent =
    steps-from_opened address room size turn None [] 0 steps sents new packets some tt h sent
start-continuous address room size turn cursor (Some most) false steps sents new packets some h
    sent =
    steps-from_opened address room size turn (Some most) [] 0 steps sents new packets some tt h sent
start-continuous address room size turn cursor (Some most) true steps sents new packets some h
    sent =
    let firsts : List Pair = newest (most - 1) cursor turn.bodies in
    let place : Place = first_place address room size most turn firsts in
    steps-from_opened address room size turn (Some most) place.waiting place.early steps sents new
    packets some
    (first-kinds address room size most turn firsts (newest-one (most - 1) cursor turn.bodies)) h
    sent
