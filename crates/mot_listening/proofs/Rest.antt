-- In a turn that does not change, the rest of the bodies is the end of them.
use Rattle.std.proofs.Common.{◌≡◌, ℕ, zero, suc, ◌-◌, ◌<◌, List, [], ◌∷◌, ◌++◌, Bool, true}
use Rattle.std.proofs.Common.{false, Option, Some, None, ◌⊎◌, inl, inr, refl, sym, subst, ap, ◌∙◌}
use Rattle.std.proofs.Common.{arith, drop, take, append_assoc, eq-eqb}
use Rattle.std.proofs.lemmas.List.{take-append-drop}
use Rattle.std.proofs.lemmas.List.Elements.{filter-append}
use Rattle.std.proofs.lemmas.Option.{none-some, same_Some}
use Rattle.std.specs.Prelude.{◌==◌, if◌then◌else◌, is_some}
use Rattle.std.specs.List.{AllByRecursion}
use Rattle.mot_groups.specs.Entity.{pieces}
use Rattle.mot_groups.specs.Group.{GroupFields, Segment, bytes_of_group}
use Rattle.mot_numbers.specs.Reading.{is_empty}
use Rattle.mot_player.specs.Place.{Place, Sent, UnderWay, change_turn, changed}
use Rattle.mot_player.specs.Place.{directory_segments, early_of, first_sent, follow}
use Rattle.mot_player.specs.Place.{group_for, hear_directory, left_of, left_with, next_sent}
use Rattle.mot_player.specs.Place.{of_bodies, packet_sent, request, rest_of, to_send, with_begun}
use Rattle.mot_player.specs.Staying.{HasDirectory}
use Rattle.mot_player.specs.Turn.{Turn, segments_of_bodies, segments_of_turn}
use Rattle.mot_listening.proofs.Collected.{all-filter, had-holds}
use Rattle.mot_player.proofs.Laws.{AreKinds-turn, IsHad, IsKind, all-behind, changes-come-next}
use Rattle.mot_player.proofs.Laws.{had-all, heard-left, next-ended, of_bodies-directory}
use Rattle.mot_listening.proofs.Heard.{AreOfTurn, IsOnAir, left-on}
use Rattle.mot_listening.proofs.OfTurn.{bodies-of_turn}

-- behind these bodies' segments come those that are left, but for so many that come early
abbrev pub IsRest : ℕ → Turn → ℕ → List Segment → Type 0
IsRest size turn early left = (done : List Segment)
    × (segments_of_bodies size turn.bodies ≡ done ++ drop early (of_bodies left))

rest-whole : (size : ℕ) (turn : Turn) (early : ℕ) →
    IsRest size turn early (segments_of_turn turn size)
rest-whole size turn early =
    let bodies : List Segment = segments_of_bodies size turn.bodies in (
      take early bodies,
      sym (take-append-drop early bodies)
          ∙ ap (λ (ss : List Segment). take early bodies ++ drop early ss)
          (sym (bodies-of_turn size turn)),
    )

rest-cases : (size : ℕ) (turn : Turn) (early : ℕ) (waiting whole : List Segment) →
    whole ≡ segments_of_turn turn size → IsRest size turn early waiting →
    IsRest size turn early (if is_empty waiting then whole else waiting)
rest-cases size turn early [] whole e rest =
    subst (IsRest size turn early) (sym e) (rest-whole size turn early)
rest-cases size turn early (t ∷ waiting) whole e rest = rest

rest-with : (size : ℕ) (turn : Turn) (place : Place) (u : Option UnderWay) →
    place.turn ≡ turn → place.segment_size ≡ size → IsRest size turn place.early place.waiting →
    IsRest size turn place.early (left_with place u)
rest-with size turn place None t s rest =
    rest-cases size turn place.early place.waiting
    (segments_of_turn place.turn place.segment_size)
    (ap (λ (x : Turn). segments_of_turn x place.segment_size) t
    ∙ ap (λ (n : ℕ). segments_of_turn turn n) s) rest
rest-with size turn place (Some u) t s rest = rest

-- where a turn has ended
pub rest-ended : (size : ℕ) (turn : Turn) (place : Place) → IsOnAir size turn place →
    place.under_way ≡ None → place.waiting ≡ [] →
    IsRest size turn place.early (left_of place)
rest-ended size turn place on none empty =
    let whole : List Segment = segments_of_turn place.turn place.segment_size in
    let same : left_of place ≡ segments_of_turn turn size =
    ap (left_with place) none
    ∙ ap (λ (ws : List Segment). if is_empty ws then whole else ws) empty
    ∙ ap (λ (x : Turn). segments_of_turn x place.segment_size) on.turn_is
    ∙ ap (λ (n : ℕ). segments_of_turn turn n) on.size_is in
    subst (IsRest size turn place.early) (sym same) (rest-whole size turn place.early)

-- one segment is begun
rest-body : (bodies done : List Segment) (early : ℕ) (t : Segment) (xs : List Segment) →
    bodies ≡ done ++ drop early (t ∷ xs) →
    (more : List Segment) × (bodies ≡ more ++ drop (early - 1) xs)
rest-body bodies done zero t xs e = (
  done ++ t ∷ [],
  e ∙ sym (append_assoc done (t ∷ []) xs)
      ∙ ap (λ (n : ℕ). (done ++ t ∷ []) ++ drop n xs)
      (let none : 0 ≡ 0 - 1 = omega arith in none),
)
rest-body bodies done (suc k) t xs e = (
  done,
  e ∙ ap (λ (n : ℕ). done ++ drop n xs) (let same : k ≡ suc k - 1 = omega arith in same),
)

rest-begun : (size : ℕ) (turn : Turn) (early : ℕ) (t : Segment) (xs : List Segment) → IsKind t →
    IsRest size turn early (t ∷ xs) →
    IsRest size turn (if t.kind == 6 then early else early - 1) xs
rest-begun size turn early t xs (inl six) (done, e) =
    let body : (t.kind == 4) ≡ false = ap (λ (n : ℕ). n == 4) six in
    let other : (t.kind == 6) ≡ true = eq-eqb t.kind 6 six in (
      done,
      e ∙ ap (λ (b : Bool). done ++ drop early (if b then t ∷ of_bodies xs else of_bodies xs)) body
          ∙ ap (λ (b : Bool). done ++ drop (if b then early else early - 1) (of_bodies xs))
          (sym other),
    )
rest-begun size turn early t xs (inr four) (done, e) =
    let body : (t.kind == 4) ≡ true = eq-eqb t.kind 4 four in
    let other : (t.kind == 6) ≡ false = ap (λ (n : ℕ). n == 6) four in
    let one = rest-body (segments_of_bodies size turn.bodies) done early t (of_bodies xs)
    (e ∙ ap (λ (b : Bool). done ++ drop early (if b then t ∷ of_bodies xs else of_bodies xs)) body)
    in (
      one.0,
      one.1 ∙ ap (λ (b : Bool). one.0 ++ drop (if b then early else early - 1) (of_bodies xs))
          (sym other),
    )

rest-first : (size : ℕ) (turn : Turn) (place : Place) (segments : List Segment) (s : Sent) →
    IsOnAir size turn place → AreOfTurn size turn segments →
    IsRest size turn place.early segments → first_sent place segments ≡ Some s →
    IsRest size turn s.place.early (left_of s.place)
rest-first size turn place [] s on of_turn rest e = absurd (none-some s e)
rest-first size turn place (t ∷ segments) s on of_turn rest e =
    let g : GroupFields = group_for place t in
    let begun : Place = with_begun place g segments in
    let first : Sent = packet_sent begun (bytes_of_group g) 0 in
    subst (λ (x : Sent). IsRest size turn x.place.early (left_of x.place))
    (same_Some first s e)
    (rest-with size turn first.place first.place.under_way on.turn_is on.size_is
    (rest-begun size turn place.early t segments
    (had-holds IsKind (segments_of_turn turn size) t (AreKinds-turn turn size) of_turn.0) rest))

rest-next : (size : ℕ) (turn : Turn) (place : Place) (u : Option UnderWay) (s : Sent) →
    IsOnAir size turn place → AreOfTurn size turn (left_with place u) →
    IsRest size turn place.early (left_with place u) → next_sent place u ≡ Some s →
    IsRest size turn s.place.early (left_of s.place)
rest-next size turn place None s on of_turn rest e =
    rest-first size turn place (to_send place) s on of_turn rest e
rest-next size turn place (Some u) s on of_turn rest e =
    let first : Sent = packet_sent place u.group u.sent in
    subst (λ (x : Sent). IsRest size turn x.place.early (left_of x.place))
    (same_Some first s e)
    (rest-with size turn first.place first.place.under_way on.turn_is on.size_is rest)

pub rest-sent : (size : ℕ) (turn : Turn) (place : Place) (s : Sent) → IsOnAir size turn place →
    IsRest size turn place.early (left_of place) → request place ≡ Some s →
    IsRest size turn s.place.early (left_of s.place)
unfolding request
rest-sent size turn place s on rest e =
    rest-next size turn place place.under_way s on on.left rest e

bodies-again : (xs : List Segment) → of_bodies (of_bodies xs) ≡ of_bodies xs
bodies-again [] = refl
bodies-again (x ∷ xs) = again-cases (x.kind == 4) refl (bodies-again xs)
  where
    again-cases : (b : Bool) → (x.kind == 4) ≡ b → of_bodies (of_bodies xs) ≡ of_bodies xs →
        of_bodies (if b then x ∷ of_bodies xs else of_bodies xs)
        ≡ (if b then x ∷ of_bodies xs else of_bodies xs)
    again-cases true e f = rw (e, f) refl
    again-cases false e f = f

-- a directory that is asked for leaves what is left of the bodies
pub bodies-heard : (size : ℕ) (turn : Turn) (place : Place) → 0 < size → HasDirectory turn →
    IsOnAir size turn place →
    of_bodies (left_of (hear_directory place)) ≡ of_bodies (left_of place)
unfolding hear_directory
bodies-heard size turn place some has on =
    heard-cases (heard-left place place.under_way place.waiting (is_empty place.waiting) refl
    (subst (λ (n : ℕ). 0 < n) (sym on.size_is) some)
    (subst HasDirectory (sym on.turn_is) has))
  where
    directory : List Segment
    directory = directory_segments place.turn place.segment_size

    heard-cases : (left_of (hear_directory place) ≡ left_of place)
        ⊎ (left_of (hear_directory place) ≡ directory ++ of_bodies (left_of place)) →
        of_bodies (left_of (hear_directory place)) ≡ of_bodies (left_of place)
    heard-cases (inl f) = ap of_bodies f
    heard-cases (inr f) =
        ap of_bodies f
        ∙ filter-append (λ (s : Segment). s.kind == 4) directory (of_bodies (left_of place))
        ∙ ap (λ (ss : List Segment). ss ++ of_bodies (of_bodies (left_of place)))
        (of_bodies-directory place.turn.tid 0 (pieces place.segment_size place.turn.directory))
        ∙ bodies-again (left_of place)

pub rest-heard : (size : ℕ) (turn : Turn) (place : Place) → 0 < size → HasDirectory turn →
    IsOnAir size turn place → IsRest size turn place.early (left_of place) →
    IsRest size turn (hear_directory place).early (left_of (hear_directory place))
unfolding hear_directory
rest-heard size turn place some has on (done, e) = (
  done,
  e ∙ ap (λ (ss : List Segment). done ++ drop place.early ss)
      (sym (bodies-heard size turn place some has on)),
)

-- the rest is to be sent
left-to_send : (place : Place) (u : Option UnderWay) →
    AllByRecursion (IsHad (to_send place)) (left_with place u)
left-to_send place None = had-all (to_send place)
left-to_send place (Some u) = waiting-cases place.waiting
  where
    waiting-cases : (waiting : List Segment) →
        AllByRecursion (IsHad (if is_empty waiting
        then segments_of_turn place.turn place.segment_size else waiting)) waiting
    waiting-cases [] = tt
    waiting-cases (t ∷ waiting) = had-all (t ∷ waiting)

pub rest-to_send : (place : Place) → AllByRecursion (IsHad (to_send place)) (rest_of place)
rest-to_send place =
    let bodies : List Segment = of_bodies (left_of place) in
    all-behind (IsHad (to_send place)) (take place.early bodies) (rest_of place)
    (subst (AllByRecursion (IsHad (to_send place))) (sym (take-append-drop place.early bodies))
    (all-filter (IsHad (to_send place)) (λ (s : Segment). s.kind == 4) (left_of place)
    (left-to_send place place.under_way)))

-- behind the packet that ends a turn
pub rest-behind_turn : (size : ℕ) (turn : Turn) (place : Place) (s : Sent) →
    request place ≡ Some s → s.ends_turn ≡ true → IsOnAir size turn s.place →
    IsRest size turn s.place.early (left_of s.place)
unfolding request
rest-behind_turn size turn place s e ends on =
    let ended = next-ended place place.under_way s e ends in
    rest-ended size turn s.place on ended.0 ended.1

-- what is to be sent is of the turn
pub to_send-on : (size : ℕ) (turn : Turn) (place : Place) → IsOnAir size turn place →
    AreOfTurn size turn (to_send place)
to_send-on size turn place on = under-cases place.under_way on.left
  where
    under-cases : (u : Option UnderWay) → AreOfTurn size turn (left_with place u) →
        AreOfTurn size turn (to_send place)
    under-cases None left = left
    under-cases (Some u) left = left-on size turn place None on.size_is on.turn_is left

-- ---- a change comes next

same-cases : (b : Bool) (xs : List Segment) → (if b then xs else xs) ≡ xs
same-cases true xs = refl
same-cases false xs = refl

change-cases : (b : Bool) (turn : Turn) (place : Place) → 0 < place.segment_size →
    HasDirectory turn → (others : List Segment)
    × (to_send (if b then follow turn place else change_turn turn place)
    ≡ directory_segments turn place.segment_size
    ++ (early_of (if b then follow turn place else change_turn turn place) ++ others))
unfolding change_turn
change-cases true turn place some has = (
  rest_of (follow turn place),
  (changes-come-next place turn some has).next
      ∙ append_assoc (directory_segments turn place.segment_size)
      (early_of (follow turn place)) (rest_of (follow turn place)),
)
change-cases false turn place some has =
    let whole : List Segment = segments_of_turn turn place.segment_size in
    (segments_of_bodies place.segment_size turn.bodies, same-cases (is_empty whole) whole)

-- where the turn changed, its directory comes next, and then what comes early
pub changed-comes : (turn : Turn) (place : Place) → 0 < place.segment_size → HasDirectory turn →
    (others : List Segment) × (to_send (changed turn place)
    ≡ directory_segments turn place.segment_size ++ (early_of (changed turn place) ++ others))
unfolding changed
changed-comes turn place some has = change-cases (is_some place.follows) turn place some has
