-- Where a player begins that sends some bodies first, all is of the turn on air, and few come early.
use Rattle.std.proofs.Common.{Bool, true, false, ◌≡◌, ℕ, ◌-◌, ◌<◌, ◌≤◌, List, [], ◌++◌, Option, Some, None, inl, refl, sym}
use Rattle.std.proofs.Common.{subst, ap, ◌∙◌, length, take, drop, append_assoc}
use Rattle.std.proofs.Math.Seq.{drop-append_seam, take-append_seam}
use Rattle.std.specs.List.{AllByRecursion}
use Rattle.mot_groups.specs.Group.{Segment}
use Rattle.mot_player.specs.Place.{Place, directory_segments, early_of, left_of, of_bodies}
use Rattle.mot_player.specs.Place.{opened_place, rest_of, to_send}
use Rattle.mot_player.specs.Start.{begin_with, newest, start_place}
use Rattle.mot_player.specs.Staying.{HasDirectory}
use Rattle.mot_player.specs.Turn.{Turn, segments_of_bodies, segments_of_turn}
use Rattle.mot_player.proofs.Laws.{IsHad, IsOneOf, all-append, all-behind, all-front, bodies-bodies}
use Rattle.mot_player.proofs.Laws.{few-start, first-bodies, first-left, had-all, newest-one}
use Rattle.mot_player.proofs.Laws.{of-some}
use Rattle.mot_listening.proofs.Counts.{front-behind}
use Rattle.mot_listening.proofs.Early.{IsEarlyOn, early-opened}
use Rattle.mot_listening.proofs.EarlyBodies.{ComesEarly, Pair, whole-early}
use Rattle.mot_listening.proofs.Heard.{AreOfTurn, IsFew, IsOnAir, opened-on}
use Rattle.mot_listening.proofs.Rest.{IsRest, rest-ended}

module _ (address room size most : ℕ) (turn : Turn) (firsts : List Pair) where
  abbrev first_place : Place
  first_place =
      begin_with firsts (record (opened_place address room size turn) { follows = Some most })

  abbrev directory : List Segment
  directory = directory_segments turn size

  abbrev early : List Segment
  early = segments_of_bodies size firsts

  abbrev bodies : List Segment
  bodies = segments_of_bodies size turn.bodies

  first-on : 0 < room → 0 < size → HasDirectory turn → AllByRecursion (IsOneOf turn.bodies) firsts →
      IsOnAir size turn first_place
  first-on some large has are =
      let P : Segment → Type 0 = IsHad (segments_of_turn turn size) in
      let behind : AllByRecursion P bodies = all-behind P directory bodies (had-all (segments_of_turn turn size)) in
      let front : AllByRecursion P directory = all-front P directory bodies (had-all (segments_of_turn turn size)) in
      record {
        room = some;
        size_is = refl;
        turn_is = refl;
        keeps = record { directory = tt; body = tt };
        inside = tt;
        left = subst (AreOfTurn size turn)
            (sym (first-left address room size most turn firsts large has))
            (all-append P (directory ++ early) bodies
            (all-append P directory early front (of-some P size turn.bodies firsts are behind))
            behind);
        few = subst (IsFew size turn room) (sym (append_assoc directory early bodies))
            (front-behind room directory (early ++ bodies)
            (all-append (λ (s : Segment). s.kind ≡ 4) early bodies (bodies-bodies size firsts)
            (bodies-bodies size turn.bodies)));
      }

  -- of the bodies that are left, those that come first are early, and all are behind them
  left-are : 0 < size → HasDirectory turn → of_bodies (left_of first_place) ≡ early ++ bodies
  left-are large has =
      ap of_bodies (first-left address room size most turn firsts large has)
      ∙ first-bodies address room size most turn firsts

  early-are : 0 < size → HasDirectory turn → early_of first_place ≡ early
  early-are large has =
      ap (take (length early)) (left-are large has) ∙ take-append_seam early bodies

  rest-are : 0 < size → HasDirectory turn → rest_of first_place ≡ bodies
  rest-are large has =
      ap (drop (length early)) (left-are large has) ∙ drop-append_seam early bodies

-- all that is left is of the turn
pub start-on : (address room size : ℕ) (turn : Turn) (cursor : ℕ) (follows : Option ℕ)
    (newest_first : Bool) → 0 < room → 0 < size → HasDirectory turn →
    IsOnAir size turn (start_place address room size turn cursor follows newest_first)
start-on address room size turn cursor None newest_first some large has =
    opened-on address room size turn None some
start-on address room size turn cursor (Some most) false some large has =
    opened-on address room size turn (Some most) some
start-on address room size turn cursor (Some most) true some large has =
    first-on address room size most turn (newest (most - 1) cursor turn.bodies) some large has
    (newest-one (most - 1) cursor turn.bodies)

-- the rest of the bodies is the end of them: here it is all of them
pub start-rest : (address room size : ℕ) (turn : Turn) (cursor : ℕ) (follows : Option ℕ)
    (newest_first : Bool) → 0 < room → 0 < size → HasDirectory turn →
    IsRest size turn (start_place address room size turn cursor follows newest_first).early
    (left_of (start_place address room size turn cursor follows newest_first))
start-rest address room size turn cursor None newest_first some large has =
    rest-ended size turn (opened_place address room size turn)
    (opened-on address room size turn None some) refl refl
start-rest address room size turn cursor (Some most) false some large has =
    rest-ended size turn (start_place address room size turn cursor (Some most) false)
    (opened-on address room size turn (Some most) some) refl refl
start-rest address room size turn cursor (Some most) true some large has = (
  [],
  sym (rest-are address room size most turn (newest (most - 1) cursor turn.bodies) large has),
)

-- few bodies come early
pub start-early : (address room size : ℕ) (turn : Turn) (cursor : ℕ) (follows : Option ℕ)
    (newest_first : Bool) → 0 < room → 0 < size → HasDirectory turn →
    IsEarlyOn size turn (start_place address room size turn cursor follows newest_first)
start-early address room size turn cursor None newest_first some large has =
    early-opened address room size turn None some
start-early address room size turn cursor (Some most) false some large has =
    early-opened address room size turn (Some most) some
start-early address room size turn cursor (Some most) true some large has =
    let firsts : List Pair = newest (most - 1) cursor turn.bodies in record {
      on = start-on address room size turn cursor (Some most) true some large has;
      few = few-start address room size turn cursor (Some most) true;
      comes = subst (ComesEarly size turn.bodies)
          (sym (early-are address room size most turn firsts large has))
          (whole-early size turn.bodies firsts (newest-one (most - 1) cursor turn.bodies));
    }

-- behind the directory come the bodies that are early
pub start-comes : (address room size : ℕ) (turn : Turn) (cursor : ℕ) (follows : Option ℕ)
    (newest_first : Bool) → 0 < size → HasDirectory turn →
    (rest : List Segment) × (to_send (start_place address room size turn cursor follows newest_first)
    ≡ directory_segments turn size
    ++ (early_of (start_place address room size turn cursor follows newest_first) ++ rest))
start-comes address room size turn cursor None newest_first large has =
    (segments_of_bodies size turn.bodies, refl)
start-comes address room size turn cursor (Some most) false large has =
    (segments_of_bodies size turn.bodies, refl)
start-comes address room size turn cursor (Some most) true large has =
    let firsts : List Pair = newest (most - 1) cursor turn.bodies in
    let directory : List Segment = directory_segments turn size in
    let bodies : List Segment = segments_of_bodies size turn.bodies in (
      bodies,
      first-left address room size most turn firsts large has
          ∙ append_assoc directory (segments_of_bodies size firsts) bodies
          ∙ ap (λ (ss : List Segment). directory ++ (ss ++ bodies))
          (sym (early-are address room size most turn firsts large has)),
    )
