-- Nobody starves: events are steps of a player that follows.
use Rattle.std.proofs.Common.{◌≡◌, ℕ, ◌+◌, ◌<◌, ◌≤◌, Bool, true, false, List, [], ◌∷◌, ◌++◌, length}
use Rattle.std.proofs.Common.{Option, Some, refl, sym, ap, ◌∙◌, subst, arith, map, append-nil}
use Rattle.std.proofs.lemmas.Bool.{and_parts, ne_eqb}
use Rattle.std.specs.Cmp.{nat_eq_equiv}
use Rattle.std.specs.Prelude.{◌==◌, ◌&&◌, not, if◌then◌else◌, is_some, unwrap_or}
use Rattle.mot_feed.specs.Ends.{IsFollowing, NobodyStarves, ServesAll, added_among, begun_among}
use Rattle.mot_feed.specs.Ends.{carousel_with, has_object, stays_among}
use Rattle.mot_feed.specs.Feeding.{Event, Happen, RulesAreKept, sents_in, turns_in}
use Rattle.mot_feed.specs.Feeding.Event.{Accepted, Asked, Played}
use Rattle.mot_listening.specs.Ends.{AreFollowed, HasBodies, added_packets, turn_behind}
use Rattle.mot_listening.specs.Waits.{left_packets, longest_group}
use Rattle.mot_listening.proofs.Laws.{IsOnAir, bodies_come_whole, room-kept, start-on}
use Rattle.mot_listening.proofs.Laws.{turns_end_soon}
use Rattle.mot_numbers.specs.declared.geometry.TheConstants.{MAX_OBJECTS}
use Rattle.mot_objects.specs.Carousel.{Carousel, IsSound, carousel_if_accepted, change}
use Rattle.mot_objects.specs.Carousel.{AllKeepRules}
use Rattle.mot_objects.specs.Ids.{contains, is_distinct}
use Rattle.mot_objects.specs.declared.command.Command.{Command}
use Rattle.mot_player.specs.Turn.{IsFollowable, IsOneChange, put, replaced, same, withdrawn, Turn}
use Rattle.mot_player.specs.Turn.{turn_of_carousel}
use Rattle.mot_player.specs.Place.{Change, Directory, Follow, Place, Request, Sent, Step}
use Rattle.mot_player.specs.Place.{change_between, change_turn, changed, follow, hear_directory}
use Rattle.mot_player.specs.Place.{sent_by}
use Rattle.mot_player.specs.Start.{start_place}
use Rattle.mot_player.specs.Staying.{AreFewEarly, HasDirectory, Stays, begun_by, none_ends, touches}
use Rattle.mot_player.proofs.Laws.{AreOthers, StaysFew, apart-carousel, between-put}
use Rattle.mot_player.proofs.Laws.{between-replaced, between-same, between-withdrawn, few-followed}
use Rattle.mot_player.proofs.Laws.{few-heard, few-sent, few-start, few-steps, has-directory}
use Rattle.mot_player.proofs.Laws.{map-ids, others-both}
use Rattle.mot_feed.proofs.Fed.{rules_behind, rules_front}
use Rattle.mot_feed.proofs.Listening.{on-behind}
use Rattle.mot_feed.proofs.OnAir.{accepted-cases, follow-cases, some-bodies, sound-behind}

-- ---- the steps of events

abbrev steps_of_feed : (limit size : ℕ) → Carousel → List Event → List Step
steps_of_feed limit size c [] = []
steps_of_feed limit size c (Played sent ∷ events) = Request ∷ steps_of_feed limit size c events
steps_of_feed limit size c (Accepted command ∷ events) =
    Follow (turn_of_carousel (carousel_with limit c command) size)
    ∷ steps_of_feed limit size (carousel_with limit c command) events
steps_of_feed limit size c (Asked ∷ events) = Directory ∷ steps_of_feed limit size c events

-- an accepted command, and what happens behind it
record IsAccepted (limit size : ℕ) (c last : Carousel) (place new : Place) (command : Command)
    (events : List Event) : Type 0 where
  accepted : carousel_if_accepted (change c limit command) ≡ Some (carousel_with limit c command)
  behind : Happen limit size (carousel_with limit c command)
      (changed (turn_of_carousel (carousel_with limit c command) size) place) events last new

is-accepted : (limit size : ℕ) (c last : Carousel) (place new : Place) (command : Command)
    (events : List Event) → Happen limit size c place (Accepted command ∷ events) last new →
    IsAccepted limit size c last place new command events
is-accepted limit size c last place new command events is =
    let with : carousel_with limit c command ≡ is.0 =
    ap (λ (o : Option Carousel). unwrap_or o c) is.1 in
    record {
      accepted = is.1 ∙ ap (λ (k : Carousel). Some k) (sym with);
      behind = subst (λ (k : Carousel). Happen limit size k
          (changed (turn_of_carousel k size) place) events last new) (sym with) is.2;
    }

-- a place that follows changes
changed-follows : (turn : Turn) (place : Place) → is_some place.follows ≡ true →
    changed turn place ≡ follow turn place
unfolding changed
changed-follows turn place e =
    ap (λ (b : Bool). if b then follow turn place else change_turn turn place) e

still-heard : (place : Place) → is_some place.follows ≡ true →
    is_some (hear_directory place).follows ≡ true
unfolding hear_directory
still-heard place e = e

still-followed : (turn : Turn) (place : Place) → is_some place.follows ≡ true →
    is_some (follow turn place).follows ≡ true
unfolding follow
still-followed turn place e = e

still-sent : (place : Place) (sent : Sent) → StaysFew place sent.place →
    is_some place.follows ≡ true → is_some sent.place.follows ≡ true
still-sent place sent stays e = ap (λ (o : Option ℕ). is_some o) stays.1 ∙ e

module _ (limit size : ℕ) where
  abbrev turn : Carousel → Turn
  turn c = turn_of_carousel c size

  -- what they send
  sends : (events : List Event) (c last : Carousel) (place new : Place) →
      is_some place.follows ≡ true → AreFewEarly place →
      Happen limit size c place events last new →
      sent_by place (steps_of_feed limit size c events) ≡ Some (sents_in events, new)
  unfolding sent_by
  sends [] c last place new follows few is = ap (λ (p : Place). Some ([], p)) is.1
  sends (Played sent ∷ events) c last place new follows few is =
      let stays : StaysFew place sent.place = few-sent place sent few is.0 in
      let rest = sends events c last sent.place new (still-sent place sent stays follows) stays.0
      is.1 in rw (is.0, rest) refl
  sends (Accepted command ∷ events) c last place new follows few is =
      let a = is-accepted limit size c last place new command events is in
      let next : Carousel = carousel_with limit c command in
      sends events next last (follow (turn next) place) new
      (still-followed (turn next) place follows) (few-followed (turn next) place few)
      (subst (λ (p : Place). Happen limit size next p events last new)
      (changed-follows (turn next) place follows) a.behind)
  sends (Asked ∷ events) c last place new follows few is =
      sends events c last (hear_directory place) new (still-heard place follows)
      (few-heard place few) is

  -- the groups that they begin
  begins : (events : List Event) (c last : Carousel) (place new : Place) →
      is_some place.follows ≡ true → AreFewEarly place →
      Happen limit size c place events last new →
      begun_by place (steps_of_feed limit size c events)
      ≡ Some (begun_among limit size c place events)
  unfolding begun_by
  begins [] c last place new follows few is = refl
  begins (Played sent ∷ events) c last place new follows few is =
      let stays : StaysFew place sent.place = few-sent place sent few is.0 in
      let rest = begins events c last sent.place new (still-sent place sent stays follows) stays.0
      is.1 in rw (is.0, rest) refl
  begins (Accepted command ∷ events) c last place new follows few is =
      let a = is-accepted limit size c last place new command events is in
      let next : Carousel = carousel_with limit c command in
      let e = changed-follows (turn next) place follows in
      begins events next last (follow (turn next) place) new
      (still-followed (turn next) place follows) (few-followed (turn next) place few)
      (subst (λ (p : Place). Happen limit size next p events last new) e a.behind)
      ∙ ap (λ (p : Place). Some (begun_among limit size next p events)) (sym e)
  begins (Asked ∷ events) c last place new follows few is =
      begins events c last (hear_directory place) new (still-heard place follows)
      (few-heard place few) is

  -- the packets that they add
  adds : (room : ℕ) (events : List Event) (c : Carousel) →
      added_packets room size (turn c) (steps_of_feed limit size c events)
      ≡ added_among limit room size c events
  adds room [] c = refl
  adds room (Played sent ∷ events) c = adds room events c
  adds room (Accepted command ∷ events) c =
      rw (adds room events (carousel_with limit c command)) refl
  adds room (Asked ∷ events) c = rw (adds room events c) refl

  -- the turn behind them
  turn-behind : (events : List Event) (c last : Carousel) (place new : Place) →
      Happen limit size c place events last new →
      turn_behind (turn c) (steps_of_feed limit size c events) ≡ turn last
  turn-behind [] c last place new is = ap turn is.0
  turn-behind (Played sent ∷ events) c last place new is =
      turn-behind events c last sent.place new is.1
  turn-behind (Accepted command ∷ events) c last place new is =
      let a = is-accepted limit size c last place new command events is in
      let next : Carousel = carousel_with limit c command in
      turn-behind events next last (changed (turn next) place) new a.behind
  turn-behind (Asked ∷ events) c last place new is =
      turn-behind events c last (hear_directory place) new is

  -- the room stays
  room-changed : (t : Turn) (place : Place) → (changed t place).room ≡ place.room
  unfolding changed follow change_turn
  room-changed t place = room-cases (is_some place.follows)
    where
      room-cases : (b : Bool) →
          (if b then follow t place else change_turn t place).room ≡ place.room
      room-cases true = refl
      room-cases false = refl

  room-heard : (place : Place) → (hear_directory place).room ≡ place.room
  unfolding hear_directory
  room-heard place = refl

  room-behind : (events : List Event) (c last : Carousel) (place new : Place) →
      Happen limit size c place events last new → new.room ≡ place.room
  room-behind [] c last place new is = ap (λ (p : Place). p.room) (sym is.1)
  room-behind (Played sent ∷ events) c last place new is =
      room-behind events c last sent.place new is.1 ∙ room-kept place sent is.0
  room-behind (Accepted command ∷ events) c last place new is =
      room-behind events is.0 last (changed (turn is.0) place) new is.2
      ∙ room-changed (turn is.0) place
  room-behind (Asked ∷ events) c last place new is =
      room-behind events c last (hear_directory place) new is ∙ room-heard place

  -- a turn of a carousel that keeps the rules
  has-bodies : (c : Carousel) → IsSound c → AllKeepRules c → HasBodies (turn c)
  has-bodies c sound rules = record {
    directory = has-directory c size;
    some = some-bodies c.objects rules.objects;
    distinct = apart-carousel c size sound;
  }

  -- each turn among them is such a one, with one change more
  all-followed : (events : List Event) (c last : Carousel) (place new : Place) →
      limit ≤ MAX_OBJECTS → IsSound c → Happen limit size c place events last new →
      RulesAreKept limit c events → AreFollowed (turn c) (steps_of_feed limit size c events)
  all-followed [] c last place new few sound is rules = tt
  all-followed (Played sent ∷ events) c last place new few sound is rules =
      all-followed events c last sent.place new few sound is.1 rules.1
  all-followed (Accepted command ∷ events) c last place new few sound is rules =
      let a = is-accepted limit size c last place new command events is in
      let next : Carousel = carousel_with limit c command in
      let then_sound : IsSound next =
      accepted-cases limit c next command (change c limit command) refl few sound a.accepted in
      let kept = rules next a.accepted in
      let can : IsFollowable (turn c) (turn next) =
      follow-cases limit size c next command (change c limit command) refl sound a.accepted in (
        has-bodies next then_sound kept.0,
        can.change,
        all-followed events next last (changed (turn next) place) new few then_sound a.behind
            kept.1,
      )
  all-followed (Asked ∷ events) c last place new few sound is rules =
      all-followed events c last (hear_directory place) new few sound is rules

-- ---- bodies that stay

abbrev ids : List (ℕ × List ℕ) → List ℕ
ids bodies = map (λ (b : ℕ × List ℕ). b.0) bodies

-- an id that others have is of none
absent : (id : ℕ) (before after : List (ℕ × List ℕ)) → AreOthers id before →
    AreOthers id after → contains (ids (before ++ after)) id ≡ false
absent id [] [] o p = refl
absent id [] (b ∷ after) o p =
    rw (nat_eq_equiv.symm id b.0 ∙ p.0) (absent id [] after tt p.1)
absent id (b ∷ before) after o p =
    rw (nat_eq_equiv.symm id b.0 ∙ o.0) (absent id before after o.1 p)

-- and differs from one that is there
differs : (bodies : List (ℕ × List ℕ)) (id k : ℕ) → contains (ids bodies) id ≡ true →
    contains (ids bodies) k ≡ false → (id == k) ≡ false
differs bodies id k has none =
    ne_eqb id k (λ e. absurd (let f : true ≡ false =
    sym has ∙ ap (contains (ids bodies)) e ∙ none in cc))

module _ (id : ℕ) where
  abbrev is_in : List (ℕ × List ℕ) → Type 0
  is_in bodies = contains (ids bodies) id ≡ true

  -- a body whose id is there before and behind a change neither comes nor goes with it
  not-touched : (old new : List (ℕ × List ℕ)) → IsOneChange old new →
      is_distinct (ids old) ≡ true → is_distinct (ids new) ≡ true → is_in old → is_in new →
      touches (change_between old new) id ≡ false
  not-touched old new (same h) d n was now =
      ap (λ (c : Change). touches c id) (ap (change_between old) h ∙ between-same old)
  not-touched old new (put f h) d n was now =
      let apart = others-both old [] f (ap (λ (bs : List (ℕ × List ℕ)). is_distinct (ids bs)) (sym h)
      ∙ n) in
      ap (λ (c : Change). touches c id) (ap (change_between old) h ∙ between-put old f)
      ∙ differs old id f.0 was
      (ap (λ (bs : List (ℕ × List ℕ)). contains (ids bs) f.0) (sym (append-nil old))
      ∙ absent f.0 old [] apart.0 tt)
  not-touched old new (replaced before after g f h i o) d n was now =
      let gone = others-both before after g
      (ap (λ (bs : List (ℕ × List ℕ)). is_distinct (ids bs)) (sym h) ∙ d) in
      let came = others-both before after f
      (ap (λ (bs : List (ℕ × List ℕ)). is_distinct (ids bs)) (sym i) ∙ n) in
      let not_gone : (id == g.0) ≡ false =
      differs (before ++ f ∷ after) id g.0
      (ap (λ (bs : List (ℕ × List ℕ)). contains (ids bs) id) (sym i) ∙ now)
      (absent g.0 before (f ∷ after) gone.0 (nat_eq_equiv.symm f.0 g.0 ∙ o, gone.1)) in
      let not_came : (id == f.0) ≡ false =
      differs (before ++ g ∷ after) id f.0
      (ap (λ (bs : List (ℕ × List ℕ)). contains (ids bs) id) (sym h) ∙ was)
      (absent f.0 before (g ∷ after) came.0 (o, came.1)) in
      ap (λ (c : Change). touches c id)
      (ap (λ (bs : List (ℕ × List ℕ)). change_between bs new) h
      ∙ ap (change_between (before ++ g ∷ after)) i ∙ between-replaced before after g f o)
      ∙ rw (not_gone, not_came) refl
  not-touched old new (withdrawn before after g h i) d n was now =
      let gone = others-both before after g
      (ap (λ (bs : List (ℕ × List ℕ)). is_distinct (ids bs)) (sym h) ∙ d) in
      ap (λ (c : Change). touches c id)
      (ap (λ (bs : List (ℕ × List ℕ)). change_between bs new) h
      ∙ ap (change_between (before ++ g ∷ after)) i ∙ between-withdrawn before after g gone.1)
      ∙ differs (before ++ after) id g.0
      (ap (λ (bs : List (ℕ × List ℕ)). contains (ids bs) id) (sym i) ∙ now)
      (absent g.0 before after gone.0 gone.1)

  -- it is there at first
  there : (limit : ℕ) (events : List Event) (c : Carousel) →
      stays_among limit id c events ≡ true → has_object id c ≡ true
  there limit [] c stays = stays
  there limit (Played sent ∷ events) c stays = there limit events c stays
  there limit (Accepted command ∷ events) c stays =
      (and_parts (has_object id c)
      (stays_among limit id (carousel_with limit c command) events) stays).0
  there limit (Asked ∷ events) c stays = there limit events c stays

  in-turn : (c : Carousel) (size : ℕ) → has_object id c ≡ true →
      is_in (turn_of_carousel c size).bodies
  in-turn c size has = ap (λ (ns : List ℕ). contains ns id) (map-ids c.objects) ∙ has

  all-stay : (limit size : ℕ) (events : List Event) (c last : Carousel) (place new : Place) →
      limit ≤ MAX_OBJECTS → IsSound c → Happen limit size c place events last new →
      stays_among limit id c events ≡ true →
      Stays id (turn_of_carousel c size) (steps_of_feed limit size c events)
  all-stay limit size [] c last place new few sound is stays = tt
  all-stay limit size (Played sent ∷ events) c last place new few sound is stays =
      all-stay limit size events c last sent.place new few sound is.1 stays
  all-stay limit size (Accepted command ∷ events) c last place new few sound is stays =
      let a = is-accepted limit size c last place new command events is in
      let next : Carousel = carousel_with limit c command in
      let turn : Turn = turn_of_carousel next size in
      let then_sound : IsSound next =
      accepted-cases limit c next command (change c limit command) refl few sound a.accepted in
      let can : IsFollowable (turn_of_carousel c size) turn =
      follow-cases limit size c next command (change c limit command) refl sound a.accepted in
      let parts = and_parts (has_object id c) (stays_among limit id next events) stays in (
        has-directory next size,
        not-touched (turn_of_carousel c size).bodies turn.bodies can.change
            (apart-carousel c size sound) (apart-carousel next size then_sound)
            (in-turn c size parts.0)
            (in-turn next size (there limit events next parts.1)),
        all-stay limit size events next last (changed turn place) new few then_sound a.behind
            parts.1,
      )
  all-stay limit size (Asked ∷ events) c last place new few sound is stays =
      all-stay limit size events c last (hear_directory place) new few sound is stays

-- ---- nobody starves

none-ended : (events : List Event) → turns_in events ≡ 0 → none_ends (sents_in events) ≡ true
none-ended [] none = refl
none-ended (Played sent ∷ events) none =
    ended-cases sent.ends_turn (none-ended events) none
  where
    ended-cases : (b : Bool) → (turns_in events ≡ 0 → none_ends (sents_in events) ≡ true) →
        (if b then 1 else 0) + turns_in events ≡ 0 →
        (not b && none_ends (sents_in events)) ≡ true
    ended-cases true f none = absurd (omega (arith, none))
    ended-cases false f none = f (omega (arith, none))
none-ended (Accepted command ∷ events) none = none-ended events none
none-ended (Asked ∷ events) none = none-ended events none

start-follows : (address room size : ℕ) (turn : Turn) (cursor most : ℕ) (newest_first : Bool) →
    is_some (start_place address room size turn cursor (Some most) newest_first).follows ≡ true
start-follows address room size turn cursor most true = refl
start-follows address room size turn cursor most false = refl

start-room : (address room size : ℕ) (turn : Turn) (cursor most : ℕ) (newest_first : Bool) →
    (start_place address room size turn cursor (Some most) newest_first).room ≡ room
start-room address room size turn cursor most true = refl
start-room address room size turn cursor most false = refl

module _ (limit size : ℕ) (now : Carousel) (place : Place) (before during : List Event)
    (w : IsFollowing limit size now place before during) where
  abbrev opened : Place
  opened =
      start_place w.address w.room size (turn_of_carousel w.first size) w.first.cursor (Some w.most) w.newest_first

  abbrev first : Turn
  first = turn_of_carousel w.first size

  first_few : AreFewEarly opened
  first_few = few-start w.address w.room size first w.first.cursor (Some w.most) w.newest_first

  opened-follows : is_some opened.follows ≡ true
  opened-follows =
      start-follows w.address w.room size first w.first.cursor w.most w.newest_first

  came-by : sent_by opened (steps_of_feed limit size w.first before)
      ≡ Some (sents_in before, place)
  came-by = sends limit size before w.first now opened place opened-follows first_few w.came

  stays-few : StaysFew opened place
  stays-few =
      few-steps (steps_of_feed limit size w.first before) opened place (sents_in before) first_few
      came-by

  follows : is_some place.follows ≡ true
  follows = ap (λ (o : Option ℕ). is_some o) stays-few.1 ∙ opened-follows

  sound-now : IsSound now
  sound-now = sound-behind limit size w.first now opened place before w.few w.sound w.came

  rules-during : RulesAreKept limit now during
  rules-during = rules_behind limit size w.first now opened place before during w.rules w.came

  sends-during : sent_by place (steps_of_feed limit size now during)
      ≡ Some (sents_in during, w.new)
  sends-during = sends limit size during now w.last place w.new follows stays-few.0 w.happened

  serves_all : ServesAll limit size now place during
  serves_all =
      let steps : List Step = steps_of_feed limit size now during in
      let earlier : List Step = steps_of_feed limit size w.first before in
      let turn : Turn = turn_of_carousel now size in
      let behind : turn_behind first earlier ≡ turn =
      turn-behind limit size before w.first now opened place w.came in
      let on : IsOnAir size turn place =
      on-behind limit size w.first now opened place before w.few w.some_size w.sound
      (start-on w.address w.room size first w.first.cursor (Some w.most) w.newest_first w.some w.some_size
      (has-directory w.first size)) w.came in
      record {
        turns_end = λ none.
            let fewer = turns_end_soon w.address w.room size w.most w.first.cursor w.newest_first first earlier steps
            (sents_in before) (sents_in during) place w.new w.some w.some_size
            (has-bodies limit size w.first w.sound w.rules_first)
            (all-followed limit size before w.first now opened place w.few w.sound w.came
            (rules_front limit w.first before during w.rules)) came-by
            (subst (λ (t : Turn). AreFollowed t steps) (sym behind)
            (all-followed limit size during now w.last place w.new w.few sound-now w.happened
            rules-during)) sends-during (none-ended during none) in
            subst (λ (n : ℕ). length (sents_in during) < longest_group place + left_packets place
            + added_among limit n size now during)
            (sym (room-behind limit size before w.first now opened place w.came
            ∙ start-room w.address w.room size first w.first.cursor w.most w.newest_first))
            (subst (λ (n : ℕ). length (sents_in during) < longest_group place + left_packets place
            + n) (adds limit size w.room during now)
            (subst (λ (t : Turn). length (sents_in during) < longest_group place
            + left_packets place + added_packets w.room size t steps) behind fewer));
        bodies_come = λ id ends stays.
            bodies_come_whole place w.new steps (sents_in during)
            (begun_among limit size now place during) id
            (subst (λ (n : ℕ). 0 < n) (sym on.size_is) w.some_size)
            (subst HasDirectory (sym on.turn_is) (has-directory now size)) sends-during
            (begins limit size during now w.last place w.new follows stays-few.0 w.happened) ends
            (subst (λ (t : Turn). Stays id t steps) (sym on.turn_is)
            (all-stay id limit size during now w.last place w.new w.few sound-now w.happened
            stays));
      }

pub nobody_starves : NobodyStarves
nobody_starves limit size now place before during w =
    serves_all limit size now place before during w

-- ---- what happens in two parts

pub record HappenApart (limit size : ℕ) (c : Carousel) (place : Place) (events more : List Event)
    (last : Carousel) (new : Place) : Type 0 where
  pub now : Carousel
  pub mid : Place
  pub before : Happen limit size c place events now mid
  pub behind : Happen limit size now mid more last new

pub happen-apart : (limit size : ℕ) (c last : Carousel) (place new : Place)
    (events more : List Event) → Happen limit size c place (events ++ more) last new →
    HappenApart limit size c place events more last new
happen-apart limit size c last place new [] more is =
    record { now = c; mid = place; before = (refl, refl); behind = is }
happen-apart limit size c last place new (Played sent ∷ events) more is =
    let rest = happen-apart limit size c last sent.place new events more is.1 in
    record { now = rest.now; mid = rest.mid; before = (is.0, rest.before); behind = rest.behind }
happen-apart limit size c last place new (Accepted command ∷ events) more is =
    let rest = happen-apart limit size is.0 last (changed (turn_of_carousel is.0 size) place) new
    events more is.2 in record {
      now = rest.now;
      mid = rest.mid;
      before = (is.0, is.1, rest.before);
      behind = rest.behind;
    }
happen-apart limit size c last place new (Asked ∷ events) more is =
    let rest = happen-apart limit size c last (hear_directory place) new events more is in
    record { now = rest.now; mid = rest.mid; before = rest.before; behind = rest.behind }
