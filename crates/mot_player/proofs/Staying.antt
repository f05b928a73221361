-- Bodies that stay go on, whatever directories and changes come between the requests.
use Rattle.std.proofs.Common.{arith, ◌≡◌, ℕ, suc, zero, ◌<◌, Bool, true, false, List, [], ◌∷◌}
use Rattle.std.proofs.Common.{◌++◌, Option, Some, refl, sym, ap, ◌∙◌, subst, replicate}
use Rattle.std.proofs.lemmas.Bool.{and_parts, not-true}
use Rattle.std.proofs.lemmas.List.{append_assoc}
use Rattle.std.proofs.lemmas.List.Elements.{filter-append}
use Rattle.std.proofs.lemmas.Option.{same_Some}
use Rattle.std.specs.Prelude.{not, if◌then◌else◌}
use Rattle.mot_groups.specs.Entity.{own_segments, pieces}
use Rattle.mot_groups.specs.Group.{Segment}
use Rattle.mot_numbers.specs.Reading.{is_empty}
use Rattle.mot_player.specs.Place.{Place, Sent, Step, Request, NewTurn, Directory, Follow, UnderWay}
use Rattle.mot_player.specs.Place.{directory_segments, follow, hear_directory, left_of, left_with}
use Rattle.mot_player.specs.Place.{next_sent, of_bodies, request, sent_by, to_send}
use Rattle.mot_player.specs.Staying.{BodiesGoOn, DirectoryComes, HasDirectory, Stays, begun_by}
use Rattle.mot_player.specs.Staying.{RequestsTakeInOrder, begun_with, none_ends}
use Rattle.mot_player.specs.Turn.{Turn, segments_of_bodies}
use Rattle.mot_player.proofs.Followed.{own-followed}
use Rattle.mot_player.proofs.Left.{is_empty-append, left-some, own, own-directory, own-of_bodies}
use Rattle.mot_player.proofs.Left.{some-directory}
use Rattle.mot_player.proofs.Requests.{FirstRequest, first_request}

-- behind a directory that is asked for
own-heard-cases : (id : ℕ) (place : Place) (u : Option UnderWay) (b : Bool)
    (segments : List Segment) → 0 < place.segment_size → HasDirectory place.turn →
    is_empty segments ≡ b →
    own_segments 4 id (left_with (record place {
      waiting = if b then []
          else directory_segments place.turn place.segment_size ++ of_bodies segments;
    }) u) ≡ own_segments 4 id (left_with (record place { waiting = segments }) u)
own-heard-cases id place u true [] some has e = refl
own-heard-cases id place u true (s ∷ segments) some has e = absurd (let f : false ≡ true = e in cc)
own-heard-cases id place u false segments some has e =
    let size : ℕ = place.segment_size in
    let directory : List Segment = directory_segments place.turn size in
    let heard : Place = record place { waiting = directory ++ of_bodies segments } in
    ap (own_segments 4 id) (left-some heard u
    (is_empty-append directory (of_bodies segments) (some-directory place.turn size some has)))
    ∙ filter-append (own id) directory (of_bodies segments)
    ∙ ap (λ ss. ss ++ own_segments 4 id (of_bodies segments))
    (own-directory id place.turn.tid 0 (pieces size place.turn.directory))
    ∙ own-of_bodies id segments
    ∙ ap (own_segments 4 id) (sym (left-some (record place { waiting = segments }) u e))

pub own-heard : (id : ℕ) (place : Place) → 0 < place.segment_size → HasDirectory place.turn →
    own_segments 4 id (left_of (hear_directory place)) ≡ own_segments 4 id (left_of place)
unfolding hear_directory
own-heard id place some has =
    own-heard-cases id place place.under_way (is_empty place.waiting) place.waiting some has refl

next-takes : (place : Place) (u : Option UnderWay) (s : Sent) → next_sent place u ≡ Some s →
    s.ends_turn ≡ false → begun_with place u ++ left_of s.place ≡ left_with place u
next-takes place u s e f = grind arith

-- a request keeps the turn and the segment size
abbrev pub KeepsTurn : Place → Sent → Type 0
KeepsTurn place s = (s.place.segment_size ≡ place.segment_size) × (s.place.turn ≡ place.turn)

pub next-keeps : (place : Place) (u : Option UnderWay) (s : Sent) → next_sent place u ≡ Some s →
    KeepsTurn place s
next-keeps place u s e = grind arith

-- the first request's segment, and those that the others begin
pub record FirstBegun (place : Place) (steps : List Step) (begun : List Segment) : Type 0 where
  pub first : Sent
  pub others : List Segment
  pub asked : request place ≡ Some first
  pub rest : begun_by first.place steps ≡ Some others
  pub all : begun ≡ begun_with place place.under_way ++ others

pub first_begun : (place : Place) (steps : List Step) (begun : List Segment) →
    begun_by place (Request ∷ steps) ≡ Some begun → FirstBegun place steps begun
unfolding begun_by
first_begun place steps begun e = grind arith

pub begun_none : (place : Place) (begun : List Segment) → begun_by place [] ≡ Some begun → [] ≡ begun
unfolding begun_by
begun_none place begun e = same_Some [] begun e

no_steps-place : (place : Place) (sents : List Sent) (new : Place) →
    sent_by place [] ≡ Some (sents, new) → place ≡ new
unfolding sent_by
no_steps-place place sents new e = grind arith

-- neither step changes the segment size, nor a directory that comes between the turn
kept-size : (place : Place) → 0 < place.segment_size → 0 < (hear_directory place).segment_size
unfolding hear_directory
kept-size place some = some

kept-directory : (place : Place) → HasDirectory place.turn →
    HasDirectory (hear_directory place).turn
unfolding hear_directory
kept-directory place has = has

followed-size : (turn : Turn) (place : Place) → 0 < place.segment_size →
    0 < (follow turn place).segment_size
unfolding follow
followed-size turn place some = some

followed-turn : (turn : Turn) (place : Place) → turn ≡ (follow turn place).turn
unfolding follow
followed-turn turn place = refl

heard-turn : (place : Place) → place.turn ≡ (hear_directory place).turn
unfolding hear_directory
heard-turn place = refl

pub bodies-go_on-steps : (steps : List Step) (place new : Place) (sents : List Sent)
    (begun : List Segment) (id : ℕ) → 0 < place.segment_size → HasDirectory place.turn →
    sent_by place steps ≡ Some (sents, new) → begun_by place steps ≡ Some begun →
    none_ends sents ≡ true → Stays id place.turn steps →
    own_segments 4 id begun ++ own_segments 4 id (left_of new)
    ≡ own_segments 4 id (left_of place)
unfolding sent_by begun_by request
bodies-go_on-steps [] place new sents begun id some has h b ends stays =
    ap (λ bs. own_segments 4 id bs ++ own_segments 4 id (left_of new))
    (sym (begun_none place begun b))
    ∙ ap (λ (p : Place). own_segments 4 id (left_of p)) (sym (no_steps-place place sents new h))
bodies-go_on-steps (Request ∷ steps) place new sents begun id some has h b ends stays =
    let q : FirstRequest place steps sents new = first_request place steps sents new h in
    let r : FirstBegun place steps begun = first_begun place steps begun b in
    let same : r.first ≡ q.first = same_Some r.first q.first (sym r.asked ∙ q.asked) in
    let tests = and_parts (not q.first.ends_turn) (none_ends q.others)
    (ap none_ends (sym q.all) ∙ ends) in
    let goes_on : q.first.ends_turn ≡ false = not-true q.first.ends_turn tests.0 in
    let keeps : KeepsTurn place q.first = next-keeps place place.under_way q.first q.asked in
    let rest : begun_by q.first.place steps ≡ Some r.others =
    ap (λ (s : Sent). begun_by s.place steps) (sym same) ∙ r.rest in
    let later = bodies-go_on-steps steps q.first.place new q.others r.others id
    (subst (λ n. 0 < n) (sym keeps.0) some)
    (subst HasDirectory (sym keeps.1) has) q.rest rest tests.1
    (subst (λ (t : Turn). Stays id t steps) (sym keeps.1) stays) in
    let first : List Segment = begun_with place place.under_way in
    ap (λ bs. own_segments 4 id bs ++ own_segments 4 id (left_of new)) r.all
    ∙ ap (λ ss. ss ++ own_segments 4 id (left_of new)) (filter-append (own id) first r.others)
    ∙ append_assoc (own_segments 4 id first) (own_segments 4 id r.others)
    (own_segments 4 id (left_of new))
    ∙ ap (λ ss. own_segments 4 id first ++ ss) later
    ∙ sym (filter-append (own id) first (left_of q.first.place))
    ∙ ap (own_segments 4 id) (next-takes place place.under_way q.first q.asked goes_on)
bodies-go_on-steps (NewTurn turn ∷ steps) place new sents begun id some has h b ends stays =
    absurd stays
bodies-go_on-steps (Directory ∷ steps) place new sents begun id some has h b ends stays =
    bodies-go_on-steps steps (hear_directory place) new sents begun id (kept-size place some)
    (kept-directory place has) h b ends
    (subst (λ (t : Turn). Stays id t steps) (heard-turn place) stays)
    ∙ own-heard id place some has
bodies-go_on-steps (Follow turn ∷ steps) place new sents begun id some has h b ends stays =
    bodies-go_on-steps steps (follow turn place) new sents begun id
    (followed-size turn place some)
    (subst HasDirectory (followed-turn turn place) stays.0) h b ends
    (subst (λ (t : Turn). Stays id t steps) (followed-turn turn place) stays.2)
    ∙ own-followed id turn place some stays.0 stays.1

-- bodies that stay go on
pub bodies-go_on : BodiesGoOn
bodies-go_on place new steps sents begun id some has h b ends stays =
    bodies-go_on-steps steps place new sents begun id some has h b ends stays

-- a directory that is asked for comes next behind the group under way
heard-next : (place : Place) (b : Bool) → is_empty place.waiting ≡ b → 0 < place.segment_size →
    HasDirectory place.turn →
    (others : List Segment)
    × (to_send (record place {
      waiting = if b then []
          else directory_segments place.turn place.segment_size ++ of_bodies place.waiting;
    }) ≡ directory_segments place.turn place.segment_size ++ others)
heard-next place true e some has =
    (segments_of_bodies place.segment_size place.turn.bodies, refl)
heard-next place false e some has =
    let directory : List Segment = directory_segments place.turn place.segment_size in (
      of_bodies place.waiting,
      rw (is_empty-append directory (of_bodies place.waiting)
          (some-directory place.turn place.segment_size some has)) refl,
    )

pub directory-comes : DirectoryComes
unfolding hear_directory
directory-comes place some has = heard-next place (is_empty place.waiting) refl some has

requests-take : (n : ℕ) (place new : Place) (sents : List Sent) (begun : List Segment) →
    sent_by place (replicate n Request) ≡ Some (sents, new) →
    begun_by place (replicate n Request) ≡ Some begun → none_ends sents ≡ true →
    begun ++ left_of new ≡ left_of place
unfolding request
requests-take zero place new sents begun h b ends =
    ap (λ (bs : List Segment). bs ++ left_of new) (sym (begun_none place begun b))
    ∙ ap left_of (sym (no_steps-place place sents new h))
requests-take (suc n) place new sents begun h b ends =
    let steps : List Step = replicate n Request in
    let q : FirstRequest place steps sents new = first_request place steps sents new h in
    let r : FirstBegun place steps begun = first_begun place steps begun b in
    let same : r.first ≡ q.first = same_Some r.first q.first (sym r.asked ∙ q.asked) in
    let tests = and_parts (not q.first.ends_turn) (none_ends q.others)
    (ap none_ends (sym q.all) ∙ ends) in
    let goes_on : q.first.ends_turn ≡ false = not-true q.first.ends_turn tests.0 in
    let rest : begun_by q.first.place steps ≡ Some r.others =
    ap (λ (s : Sent). begun_by s.place steps) (sym same) ∙ r.rest in
    let later = requests-take n q.first.place new q.others r.others q.rest rest tests.1 in
    let first : List Segment = begun_with place place.under_way in
    ap (λ (bs : List Segment). bs ++ left_of new) r.all
    ∙ append_assoc first r.others (left_of new)
    ∙ ap (λ (ss : List Segment). first ++ ss) later
    ∙ next-takes place place.under_way q.first q.asked goes_on

-- requests begin what is left in its order
pub requests-take-in-order : RequestsTakeInOrder
requests-take-in-order place new n sents begun h b ends =
    requests-take n place new sents begun h b ends
