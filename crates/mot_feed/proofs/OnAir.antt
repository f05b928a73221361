-- Each whole turn on air reads as its carousel.
use Rattle.std.proofs.Common.{◌≡◌, ℕ, ◌≤◌, Bool, true, false, not, ◌||◌, List, [], ◌∷◌, Some}
use Rattle.std.proofs.Common.{Result, Ok, Err, refl, sym, ap, subst, ◌<◌, arith, length}
use Rattle.std.specs.List.{AllByRecursion}
use Rattle.std.proofs.lemmas.Bool.{and_parts}
use Rattle.std.proofs.lemmas.Option.{none-some}
use Rattle.std.specs.Prelude.{◌&&◌, if◌then◌else◌, is_some}
use Rattle.mot_feed.specs.Feeding.{Event, Happen, RulesAreKept, is_between_turns, sents_in}
use Rattle.mot_feed.specs.Feeding.Event.{Accepted, Asked, Played}
use Rattle.mot_feed.specs.Listening.{is_quiet}
use Rattle.mot_feed.specs.OnAir.{ChangedTurnsOnAirRead, TurnsOnAirRead, asks, begins_turn, is_turn}
use Rattle.mot_numbers.specs.Reading.{is_empty}
use Rattle.mot_numbers.specs.declared.geometry.TheConstants.{MAX_OBJECTS}
use Rattle.mot_numbers.specs.declared.refusal.Refusal.{Refusal}
use Rattle.mot_objects.specs.Carousel.{Carousel, IsSound, Object, carousel_if_accepted, change}
use Rattle.mot_objects.specs.Carousel.{AllKeepRules, KeepsRules}
use Rattle.mot_objects.specs.declared.command.Command.{Command}
use Rattle.mot_objects.specs.declared.command.Done.{Done}
use Rattle.mot_objects.proofs.Laws.{change-sound}
use Rattle.mot_player.specs.Turn.{IsFollowable, IsTurnOf, Turn, bodies_with_ids, turn_of_carousel}
use Rattle.mot_player.specs.Laws.{IsPlace}
use Rattle.mot_player.specs.Place.{Place, Step, Request, Directory, changed, hear_directory}
use Rattle.mot_player.specs.Place.{sent_by}
use Rattle.mot_player.specs.Start.{start_place}
use Rattle.mot_player.specs.Repeats.{ReadAsTurn, ReadsOnceAs, ends_at_last}
use Rattle.mot_player.specs.Staying.{AreFewEarly, HasDirectory}
use Rattle.mot_player.proofs.Laws.{IsApartTurn, IsFresh, apart-carousel, ask_directory, keep_turn}
use Rattle.mot_player.proofs.Laws.{few-changed, few-heard, few-sent, few-start, fresh-changed}
use Rattle.mot_player.proofs.Laws.{fresh-heard, fresh-place, fresh-reads, fresh-start, fresh-sent}
use Rattle.mot_player.proofs.Laws.{has-directory, StandsAt, place-begins, plays-carousel}
use Rattle.mot_player.proofs.Laws.{stands-changed, stands-heard, stands-sent, stands-start}
use Rattle.mot_player.proofs.Laws.{turns-read-with_directories}
use Rattle.mot_playout.proofs.Laws.{followable}

-- ---- what holds behind whatever events

pub accepted-cases : (limit : ℕ) (c next : Carousel) (command : Command)
    (r : Result (Carousel × Done) Refusal) → change c limit command ≡ r → limit ≤ MAX_OBJECTS →
    IsSound c → carousel_if_accepted r ≡ Some next → IsSound next
accepted-cases limit c next command (Ok (k, done)) e few sound is =
    subst IsSound (let same : k ≡ next = cc in same)
    (change-sound c k limit command done few sound e)
accepted-cases limit c next command (Err refusal) e few sound is =
    absurd (none-some next is)

-- accepted commands keep the carousel sound
pub sound-behind : (limit size : ℕ) (c last : Carousel) (place new : Place) (events : List Event)
    → limit ≤ MAX_OBJECTS → IsSound c → Happen limit size c place events last new → IsSound last
sound-behind limit size c last place new [] few sound is = subst IsSound is.0 sound
sound-behind limit size c last place new (Played sent ∷ events) few sound is =
    sound-behind limit size c last sent.place new events few sound is.1
sound-behind limit size c last place new (Accepted command ∷ events) few sound is =
    sound-behind limit size is.0 last (changed (turn_of_carousel is.0 size) place) new events few
    (accepted-cases limit c is.0 command (change c limit command) refl few sound is.1) is.2
sound-behind limit size c last place new (Asked ∷ events) few sound is =
    sound-behind limit size c last (hear_directory place) new events few sound is

-- and where a turn begins, it is at its beginning
stands-behind : (limit size : ℕ) (c last : Carousel) (place new : Place)
    (follows between whole : Bool) (events : List Event)
    → StandsAt follows between whole size (turn_of_carousel c size) place
    → Happen limit size c place events last new
    → begins_turn follows between whole events ≡ true
    → StandsAt follows true true size (turn_of_carousel last size) new
stands-behind limit size c last place new follows between whole [] st is begins =
    let parts = and_parts between whole begins in
    subst (λ (k : Carousel). StandsAt follows true true size (turn_of_carousel k size) new) is.0
    (subst (StandsAt follows true true size (turn_of_carousel c size)) is.1
    (subst (λ b. StandsAt follows b true size (turn_of_carousel c size) place) parts.0
    (subst (λ w. StandsAt follows between w size (turn_of_carousel c size) place) parts.1 st)))
stands-behind limit size c last place new follows between whole (Played sent ∷ events) st is
    begins =
    stands-behind limit size c last sent.place new follows sent.packet.last
    (if between then sent.ends_turn else whole || sent.ends_turn) events
    (stands-sent follows between whole size (turn_of_carousel c size) place sent st is.0) is.1
    begins
stands-behind limit size c last place new follows between whole (Accepted command ∷ events) st is
    begins =
    stands-behind limit size is.0 last (changed (turn_of_carousel is.0 size) place) new follows
    between (not follows) events
    (stands-changed follows between whole size (turn_of_carousel c size) place
    (turn_of_carousel is.0 size) st) is.2 begins
stands-behind limit size c last place new follows between whole (Asked ∷ events) st is begins =
    stands-behind limit size c last (hear_directory place) new follows between whole events
    (stands-heard follows between whole size (turn_of_carousel c size) place st) is begins

-- ---- a turn

-- the steps of events without commands
pub record StepsOf (place : Place) (events : List Event) (new : Place) : Type 0 where
  pub steps : List Step
  pub keep : keep_turn steps ≡ true
  pub ask : ask_directory steps ≡ asks events
  pub sent : sent_by place steps ≡ Some (sents_in events, new)

pub steps_of : (limit size : ℕ) (c last : Carousel) (place new : Place) (events : List Event)
    → is_quiet events ≡ true → Happen limit size c place events last new
    → StepsOf place events new
unfolding sent_by
steps_of limit size c last place new [] quiet is = record {
  steps = [];
  keep = refl;
  ask = refl;
  sent = ap (λ (p : Place). Some ([], p)) is.1;
}
steps_of limit size c last place new (Played sent ∷ events) quiet is =
    let rest = steps_of limit size c last sent.place new events quiet is.1 in record {
      steps = Request ∷ rest.steps;
      keep = rest.keep;
      ask = rest.ask;
      sent = rw (is.0, rest.sent) refl;
    }
steps_of limit size c last place new (Accepted command ∷ events) quiet is =
    absurd (let f : false ≡ true = quiet in cc)
steps_of limit size c last place new (Asked ∷ events) quiet is =
    let rest = steps_of limit size c last (hear_directory place) new events quiet is in record {
      steps = Directory ∷ rest.steps;
      keep = rest.keep;
      ask = refl;
      sent = rest.sent;
    }

none-quiet : (events : List Event) → is_empty events ≡ true → is_quiet events ≡ true
none-quiet [] e = refl
none-quiet (event ∷ events) e = absurd (let f : false ≡ true = e in cc)

quiet-cases : (b : Bool) (events : List Event) → (is_turn events ≡ true → is_quiet events ≡ true)
    → (if b then is_empty events else is_turn events) ≡ true → is_quiet events ≡ true
quiet-cases true events f e = none-quiet events e
quiet-cases false events f e = f e

pub turn-quiet : (events : List Event) → is_turn events ≡ true → is_quiet events ≡ true
turn-quiet [] e = refl
turn-quiet (Accepted command ∷ events) e = e
turn-quiet (Asked ∷ events) e = turn-quiet events e
turn-quiet (Played sent ∷ events) e = quiet-cases sent.ends_turn events (turn-quiet events) e

none-sent : (events : List Event) → is_empty events ≡ true → is_empty (sents_in events) ≡ true
none-sent [] e = refl
none-sent (event ∷ events) e = absurd (let f : false ≡ true = e in cc)

ends-cases : (b : Bool) (events : List Event)
    → (is_turn events ≡ true → ends_at_last (sents_in events) ≡ true)
    → (if b then is_empty events else is_turn events) ≡ true
    → (if b then is_empty (sents_in events) else ends_at_last (sents_in events)) ≡ true
ends-cases true events f e = none-sent events e
ends-cases false events f e = f e

pub turn-ends : (events : List Event) → is_turn events ≡ true → ends_at_last (sents_in events) ≡ true
turn-ends [] e = e
turn-ends (Accepted command ∷ events) e = absurd (let f : false ≡ true = e in cc)
turn-ends (Asked ∷ events) e = turn-ends events e
turn-ends (Played sent ∷ events) e = ends-cases sent.ends_turn events (turn-ends events) e

-- each whole turn on air reads as its carousel
pub turns_read : TurnsOnAirRead
turns_read limit size c now last address room follows newest_first before during place new packets few range some
    sound earlier begins rules later is are =
    let start : Place = start_place address room size (turn_of_carousel c size) c.cursor follows newest_first in
    let turn : Turn = turn_of_carousel now size in
    let stands : StandsAt (is_some follows) true true size turn place =
    stands-behind limit size c now start place (is_some follows) true (not (is_some follows && newest_first)) before
    (stands-start address room size (turn_of_carousel c size) c.cursor follows newest_first some) earlier begins in
    let now_sound : IsSound now = sound-behind limit size c now start place before few sound earlier
    in
    let plays = plays-carousel now size now_sound rules range in
    let here = place-begins (is_some follows) size turn place stands
    (let e : 0 < size = omega (arith, range.0) in e, range.1) plays.1 in
    let steps = steps_of limit size now last place new during (turn-quiet during is) later in
    let read = turns-read-with_directories place new now steps.steps (sents_in during) packets
    here.0 (subst (IsTurnOf place.turn now) (sym stands.size_is)
    (subst (λ (t : Turn). IsTurnOf t now size) (sym stands.turn_is) plays.0)) now_sound here.1
    steps.keep steps.sent (turn-ends during is) are.read in
    subst (λ b. ReadAsTurn b packets now size) steps.ask
    (subst (ReadAsTurn (ask_directory steps.steps) packets now) stands.size_is read)

-- ---- where a turn has ended

pub follow-cases : (limit size : ℕ) (c next : Carousel) (command : Command)
    (r : Result (Carousel × Done) Refusal) → change c limit command ≡ r → IsSound c →
    carousel_if_accepted r ≡ Some next →
    IsFollowable (turn_of_carousel c size) (turn_of_carousel next size)
follow-cases limit size c next command (Ok (k, done)) e sound is =
    subst (λ (n : Carousel). IsFollowable (turn_of_carousel c size) (turn_of_carousel n size))
    (let same : k ≡ next = cc in same) (followable c k limit size size command done sound e)
follow-cases limit size c next command (Err refusal) e sound is = absurd (none-some next is)

-- each of its bodies has bytes
pub some-bodies : (objects : List Object) → AllByRecursion KeepsRules objects →
    AllByRecursion (λ (b : ℕ × List ℕ). 0 < length b.1) (bodies_with_ids objects)
some-bodies [] rules = tt
some-bodies (o ∷ objects) rules =
    (omega (arith, rules.0.size.0), some-bodies objects rules.1)

-- a place of the turn of a carousel, of which no packet was sent if the turn before has ended
record StandsFresh (follows ended : Bool) (size : ℕ) (c : Carousel) (place : Place) : Type 0 where
  between : Bool
  whole : Bool
  rules : AllKeepRules c
  few : AreFewEarly place
  stands : StandsAt follows between whole size (turn_of_carousel c size) place
  fresh : ended ≡ true → IsFresh place

fresh-behind : (limit size : ℕ) (c last : Carousel) (place new : Place) (follows ended : Bool)
    (events : List Event) → limit ≤ MAX_OBJECTS → 0 < size → IsSound c →
    StandsFresh follows ended size c place → Happen limit size c place events last new →
    RulesAreKept limit c events → is_between_turns ended events ≡ true →
    StandsFresh follows true size last new
fresh-behind limit size c last place new follows ended [] few some sound st is kept ends =
    subst (λ (k : Carousel). StandsFresh follows true size k new) is.0
    (subst (StandsFresh follows true size c) is.1
    (subst (λ b. StandsFresh follows b size c place) ends st))
fresh-behind limit size c last place new follows ended (Played sent ∷ events) few some sound st is
    kept ends =
    let turn : Turn = turn_of_carousel c size in
    let stands = stands-sent follows st.between st.whole size turn place sent st.stands is.0 in
    fresh-behind limit size c last sent.place new follows sent.ends_turn events few some sound
    (record {
      between = sent.packet.last;
      whole = if st.between then sent.ends_turn else st.whole || sent.ends_turn;
      rules = st.rules;
      few = (few-sent place sent st.few is.0).0;
      stands = stands;
      fresh = λ e. fresh-sent place sent is.0 e
          (subst IsApartTurn (sym stands.turn_is) (apart-carousel c size sound));
    }) is.1 kept.1 ends
fresh-behind limit size c last place new follows ended (Accepted command ∷ events) few some sound
    st is kept ends =
    let turn : Turn = turn_of_carousel is.0 size in
    let then_sound : IsSound is.0 =
    accepted-cases limit c is.0 command (change c limit command) refl few sound is.1 in
    fresh-behind limit size is.0 last (changed turn place) new follows ended events few some
    then_sound (record {
      between = st.between;
      whole = not follows;
      rules = (kept is.0 is.1).0;
      few = few-changed turn place st.few;
      stands = stands-changed follows st.between st.whole size (turn_of_carousel c size) place turn
          st.stands;
      fresh = λ e. fresh-changed turn place (subst (λ n. 0 < n) (sym st.stands.size_is) some)
          (has-directory is.0 size)
          (subst (λ (t : Turn). IsFollowable t turn) (sym st.stands.turn_is)
          (follow-cases limit size c is.0 command (change c limit command) refl sound is.1))
          (apart-carousel is.0 size then_sound) st.few
          (subst (λ (t : Turn). AllByRecursion (λ (b : ℕ × List ℕ). 0 < length b.1) t.bodies)
          (sym st.stands.turn_is) (some-bodies c.objects st.rules.objects)) (st.fresh e);
    }) is.2 (kept is.0 is.1).1 ends
fresh-behind limit size c last place new follows ended (Asked ∷ events) few some sound st is kept
    ends =
    fresh-behind limit size c last (hear_directory place) new follows ended events few some sound
    (record {
      between = st.between;
      whole = st.whole;
      rules = st.rules;
      few = few-heard place st.few;
      stands = stands-heard follows st.between st.whole size (turn_of_carousel c size) place
          st.stands;
      fresh = λ e. fresh-heard place (subst (λ n. 0 < n) (sym st.stands.size_is) some)
          (subst HasDirectory (sym st.stands.turn_is) (has-directory c size)) (st.fresh e);
    }) is kept ends

-- each whole turn on air, behind one that ended, reads as its carousel
pub changed_turns_read : ChangedTurnsOnAirRead
changed_turns_read limit size c now last address room follows newest_first before during place new packets few
    range some sound earlier ended first_rules kept later is are =
    let start : Place = start_place address room size (turn_of_carousel c size) c.cursor follows newest_first in
    let turn : Turn = turn_of_carousel now size in
    let wide : 0 < size = omega (arith, range.0) in
    let there : StandsFresh (is_some follows) true size now place =
    fresh-behind limit size c now start place (is_some follows) true before few wide sound (record {
      between = true;
      whole = not (is_some follows && newest_first);
      rules = first_rules;
      few = few-start address room size (turn_of_carousel c size) c.cursor follows newest_first;
      stands = stands-start address room size (turn_of_carousel c size) c.cursor follows newest_first some;
      fresh = λ e. fresh-start address room size (turn_of_carousel c size) c.cursor follows newest_first wide
          (has-directory c size) (apart-carousel c size sound);
    }) earlier kept ended in
    let rules : AllKeepRules now = there.rules in
    let now_sound : IsSound now = sound-behind limit size c now start place before few sound earlier
    in
    let plays = plays-carousel now size now_sound rules range in
    let fresh : IsFresh place = there.fresh refl in
    let here : IsPlace place =
    fresh-place (is_some follows) there.between there.whole size turn place there.stands (wide, range.1)
    plays.1 fresh in
    let steps = steps_of limit size now last place new during (turn-quiet during is) later in
    let read = fresh-reads place now here
    (subst (IsTurnOf place.turn now) (sym there.stands.size_is)
    (subst (λ (t : Turn). IsTurnOf t now size) (sym there.stands.turn_is) plays.0)) now_sound fresh
    new steps.steps (sents_in during) packets steps.keep steps.sent (turn-ends during is) are.read
    in
    subst (ReadsOnceAs packets now) there.stands.size_is read
