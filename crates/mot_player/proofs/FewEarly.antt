-- Of what comes early no more bodies are not begun than may be, whatever comes between the requests.
use Rattle.std.proofs.Common.{◌≡◌, ℕ, suc, zero, ◌+◌, ◌-◌, ◌<◌, ◌≤◌, Bool, true, false, List, []}
use Rattle.std.proofs.Common.{◌∷◌, ◌++◌, length, refl, sym, ◌∙◌, arith, subst, Option, Some, take}
use Rattle.std.proofs.Math.Seq.{take-append_seam}
use Rattle.std.proofs.lemmas.Bool.{eqb-true, ltb-true}
use Rattle.std.proofs.lemmas.List.{length-append}
use Rattle.std.proofs.lemmas.List.Elements.{filter-append}
use Rattle.std.proofs.lemmas.Option.{none-some, same_Some, some_pair_parts}
use Rattle.std.specs.Prelude.{◌==◌, if◌then◌else◌, is_some, nat_lt}
use Rattle.mot_groups.specs.Entity.{numbered_segments}
use Rattle.mot_groups.specs.Group.{GroupFields, Segment, bytes_of_group}
use Rattle.mot_numbers.specs.Reading.{is_empty}
use Rattle.mot_player.specs.Place.{Change, Place, Sent, Step, Request, NewTurn, Directory, Follow}
use Rattle.mot_player.specs.Place.{UnderWay, bodies_not_begun, change_between, change_turn, changed}
use Rattle.mot_player.specs.Place.{directory_segments, early_after, early_of, first_sent, follow}
use Rattle.mot_player.specs.Place.{followed_by, fresh_segments, goes_early, group_for}
use Rattle.mot_player.specs.Place.{hear_directory, most_early, next_sent, of_bodies, opened_place}
use Rattle.mot_player.specs.Place.{packet_sent, request, sent_by, that_stay, to_send, with_begun}
use Rattle.mot_player.specs.Staying.{AreFewEarly, FewGoEarly}
use Rattle.mot_player.specs.Turn.{Turn, segments_of_turn}
use Rattle.mot_player.proofs.Followed.{bodies-of_bodies, fewer-stay, followed-waiting}
use Rattle.mot_player.proofs.Followed.{of_bodies-directory, of_bodies-same, renewed}
use Rattle.mot_player.proofs.Requests.{FirstRequest, first_request}

-- so many of these bodies' segments, with at most so many bodies that are not begun
abbrev pub AreFew : ℕ → ℕ → List Segment → Type 0
AreFew n most segments =
    (n ≤ length segments) × (bodies_not_begun (take n segments) ≤ most)

few-of : (place : Place) → AreFewEarly place →
    AreFew place.early (most_early place) (of_bodies place.waiting)
few-of place few = grind arith

pub few-place : (place : Place) → AreFew place.early (most_early place) (of_bodies place.waiting) →
    AreFewEarly place
few-place place few = grind arith

few-none : (n most : ℕ) (segments : List Segment) → n ≡ 0 → AreFew n most segments
few-none n most segments e = grind arith

pub few-opened : (address room size : ℕ) (turn : Turn) (follows : Option ℕ) →
    AreFewEarly (record (opened_place address room size turn) { follows = follows })
few-opened address room size turn follows = grind arith

more-cases : (b : Bool) (x : Segment) (ys zs : List Segment) → (x.number == 0) ≡ b →
    bodies_not_begun ys ≤ bodies_not_begun zs →
    bodies_not_begun (x ∷ ys) ≤ bodies_not_begun (x ∷ zs)
more-cases b x ys zs e l = grind arith

few-front : (n : ℕ) (xs : List Segment) →
    bodies_not_begun (take n xs) ≤ bodies_not_begun (take (suc n) xs)
few-front zero [] = omega arith
few-front zero (x ∷ xs) = omega arith
few-front (suc n) [] = omega arith
few-front (suc n) (x ∷ xs) =
    more-cases (x.number == 0) x (take n xs) (take (suc n) xs) refl (few-front n xs)

few-less : (n most : ℕ) (xs : List Segment) → AreFew n most xs → AreFew (n - 1) most xs
few-less zero most xs few = few
few-less (suc n) most xs few =
    let one : suc n - 1 ≡ n = omega arith in
    subst (λ (k : ℕ). AreFew k most xs) (sym one)
    (omega (arith, few.0), omega (arith, few.1, few-front n xs))

few-behind : (n most : ℕ) (x : Segment) (xs : List Segment) → AreFew n most (x ∷ xs) →
    AreFew (n - 1) most xs
few-behind n most x xs few = grind arith

-- the first of what waits is begun
begun-cases : (n most : ℕ) (s : Segment) (others : List Segment) (six four : Bool) →
    (s.kind == 6) ≡ six → (s.kind == 4) ≡ four →
    AreFew n most (if four then s ∷ of_bodies others else of_bodies others) →
    AreFew (if six then n else n - 1) most (of_bodies others)
begun-cases n most s others true true e f few =
    absurd (let both : 6 ≡ 4 = sym (eqb-true s.kind 6 e) ∙ eqb-true s.kind 4 f in
    omega (arith, both))
begun-cases n most s others true false e f few = few
begun-cases n most s others false true e f few = few-behind n most s (of_bodies others) few
begun-cases n most s others false false e f few = few-less n most (of_bodies others) few

less-none : (b : Bool) (n : ℕ) → n ≡ 0 → (if b then n else n - 1) ≡ 0
less-none b n e = grind arith

begun-few : (n most : ℕ) (waiting whole : List Segment) (s : Segment) (others : List Segment) →
    AreFew n most (of_bodies waiting) →
    (if is_empty waiting then whole else waiting) ≡ s ∷ others →
    AreFew (if s.kind == 6 then n else n - 1) most (of_bodies others)
begun-few n most [] whole s others few e =
    few-none (if s.kind == 6 then n else n - 1) most (of_bodies others)
    (less-none (s.kind == 6) n (omega (arith, few.0)))
begun-few n most (t ∷ waiting) whole s others few e =
    begun-cases n most s others (s.kind == 6) (s.kind == 4) refl refl
    (subst (λ (ss : List Segment). AreFew n most (of_bodies ss)) e few)

-- and follows as before
abbrev pub StaysFew : Place → Place → Type 0
StaysFew old new = AreFewEarly new × (new.follows ≡ old.follows)

first-few : (place : Place) (segments : List Segment) (s : Sent) → AreFewEarly place →
    to_send place ≡ segments → first_sent place segments ≡ Some s → StaysFew place s.place
first-few place [] s few is e = absurd (none-some s e)
first-few place (t ∷ segments) s few is e =
    let g : GroupFields = group_for place t in
    let begun : Place = with_begun place g segments in
    let first : Sent = packet_sent begun (bytes_of_group g) 0 in
    subst (λ (x : Sent). StaysFew place x.place) (same_Some first s e) (
      few-place first.place
          (begun-few place.early (most_early place) place.waiting
          (segments_of_turn place.turn place.segment_size) t segments (few-of place few) is),
      refl,
    )

next-few : (place : Place) (u : Option UnderWay) (s : Sent) → AreFewEarly place →
    next_sent place u ≡ Some s → StaysFew place s.place
next-few place u s few e = grind (arith, first-few, same_Some, few-place, few-of)

-- a request
pub few-sent : (place : Place) (s : Sent) → AreFewEarly place → request place ≡ Some s →
    StaysFew place s.place
unfolding request
few-sent place s few e = next-few place place.under_way s few e

-- a directory that is asked for
heard-bodies : (turn : Turn) (size : ℕ) (waiting : List Segment) →
    of_bodies (if is_empty waiting then [] else directory_segments turn size ++ of_bodies waiting)
    ≡ of_bodies waiting
heard-bodies turn size waiting =
    grind (arith, filter-append, of_bodies-directory, of_bodies-same, bodies-of_bodies)

pub few-heard : (place : Place) → AreFewEarly place → AreFewEarly (hear_directory place)
unfolding hear_directory
few-heard place few = grind (arith, few-place, heard-bodies, few-of)

-- a turn that begins anew
pub few-anew : (turn : Turn) (place : Place) → AreFewEarly (change_turn turn place)
unfolding change_turn
few-anew turn place = grind arith

-- of the body that came at most one is not begun
pub none-later : (kind tid n : ℕ) (ps : List (List ℕ)) → 0 < n →
    bodies_not_begun (numbered_segments kind tid n ps) ≡ 0
none-later kind tid n [] some = refl
none-later kind tid n (p ∷ ps) some =
    grind (arith, none-later kind tid (n + 1) ps (omega arith))

pub one-numbered : (kind tid : ℕ) (ps : List (List ℕ)) →
    bodies_not_begun (numbered_segments kind tid 0 ps) ≤ 1
one-numbered kind tid [] = omega arith
one-numbered kind tid (p ∷ ps) =
    let later : bodies_not_begun (numbered_segments kind tid (0 + 1) ps) ≡ 0 =
    none-later kind tid (0 + 1) ps (omega arith) in
    omega (arith, later)

one-fresh : (size : ℕ) (change : Change) → bodies_not_begun (fresh_segments size change) ≤ 1
one-fresh size change = grind (arith, one-numbered)

pub both-counted : (xs ys : List Segment) →
    bodies_not_begun (xs ++ ys) ≡ bodies_not_begun xs + bodies_not_begun ys
both-counted xs ys = grind (arith, filter-append, length-append)

-- the body that came goes early only where fewer do so than may
goes-cases : (most : ℕ) (stay fresh : List Segment) (b : Bool) →
    bodies_not_begun stay ≤ most → bodies_not_begun fresh ≤ 1 →
    nat_lt (bodies_not_begun stay) most ≡ b →
    bodies_not_begun (stay ++ (if b then fresh else [])) ≤ most
goes-cases most stay fresh b l one e = grind (arith, both-counted, ltb-true)

few-after : (change : Change) (place : Place) → AreFewEarly place →
    bodies_not_begun (early_after change place) ≤ most_early place
few-after change place few =
    let early : List Segment = early_of place in
    goes-cases (most_early place) (that_stay change early)
    (fresh_segments place.segment_size change) (goes_early change place)
    (omega (arith, fewer-stay change early, few.few)) (one-fresh place.segment_size change) refl

followed-few : (change : Change) (turn : Turn) (place : Place) → AreFewEarly place →
    AreFewEarly (followed_by change turn place)
followed-few change turn place few =
    let early : List Segment = early_after change place in
    let rest : List Segment = renewed change place in
    few-place (followed_by change turn place)
    (subst (AreFew (length early) (most_early place)) (sym (followed-waiting change turn place)) (
      omega (arith, length-append early rest),
      subst (λ (ss : List Segment). bodies_not_begun ss ≤ most_early place)
          (sym (take-append_seam early rest)) (few-after change place few),
    ))

pub few-followed : (turn : Turn) (place : Place) → AreFewEarly place →
    AreFewEarly (follow turn place)
unfolding follow
few-followed turn place few =
    followed-few (change_between place.turn.bodies turn.bodies) turn place few

-- the turn changed
changed-cases : (b : Bool) (turn : Turn) (place : Place) → AreFewEarly place →
    AreFewEarly (if b then follow turn place else change_turn turn place)
changed-cases true turn place few = few-followed turn place few
changed-cases false turn place few = few-anew turn place

pub few-changed : (turn : Turn) (place : Place) → AreFewEarly place →
    AreFewEarly (changed turn place)
unfolding changed
few-changed turn place few = changed-cases (is_some place.follows) turn place few

-- none of these changes whether and how turns are followed
follows-heard : (place : Place) → (hear_directory place).follows ≡ place.follows
unfolding hear_directory
follows-heard place = refl

follows-anew : (turn : Turn) (place : Place) → (change_turn turn place).follows ≡ place.follows
unfolding change_turn
follows-anew turn place = refl

follows-followed : (turn : Turn) (place : Place) → (follow turn place).follows ≡ place.follows
unfolding follow
follows-followed turn place = refl

-- whatever comes between the requests
pub few-steps : (steps : List Step) (place new : Place) (sents : List Sent) → AreFewEarly place →
    sent_by place steps ≡ Some (sents, new) → StaysFew place new
unfolding sent_by
few-steps [] place new sents few h =
    subst (StaysFew place) (some_pair_parts [] sents place new h).1 (few, refl)
few-steps (Request ∷ steps) place new sents few h =
    let q : FirstRequest place steps sents new = first_request place steps sents new h in
    let one : StaysFew place q.first.place = few-sent place q.first few q.asked in
    let more : StaysFew q.first.place new =
    few-steps steps q.first.place new q.others one.0 q.rest in
    (more.0, more.1 ∙ one.1)
few-steps (NewTurn turn ∷ steps) place new sents few h =
    let more = few-steps steps (change_turn turn place) new sents (few-anew turn place) h in
    (more.0, more.1 ∙ follows-anew turn place)
few-steps (Directory ∷ steps) place new sents few h =
    let more = few-steps steps (hear_directory place) new sents (few-heard place few) h in
    (more.0, more.1 ∙ follows-heard place)
few-steps (Follow turn ∷ steps) place new sents few h =
    let more = few-steps steps (follow turn place) new sents (few-followed turn place few) h in
    (more.0, more.1 ∙ follows-followed turn place)

-- however many changes are followed
pub few-go-early : FewGoEarly
few-go-early address room size most turn steps sents new h =
    grind (arith, few-steps, few-opened)
