-- Who begins to listen at any packet has exactly what is on air.
use Rattle.std.proofs.Common.{◌≡◌, ◌⊎◌, ℕ, zero, suc, ◌+◌, ◌*◌, ◌-◌, ◌<◌, ◌≤◌, Bool, true, false}
use Rattle.std.proofs.Common.{List, [], ◌∷◌, ◌++◌, length, not, Option, Some, None, inl, inr, refl}
use Rattle.std.proofs.Common.{sym, ap, ◌∙◌, subst, arith}
use Rattle.std.proofs.lemmas.Bool.{and_parts, eqb-true, leb-true, cases_lt}
use Rattle.std.proofs.lemmas.List.{length-map}
use Rattle.std.proofs.lemmas.Grind.{div_ceil_times}
use Rattle.std.specs.Int.{div_ceil}
use Rattle.std.specs.Prelude.{if◌then◌else◌, is_some, min, nat_le, ◌||◌}
use Rattle.mot_feed.specs.Feeding.{AreOf, Event, Happen, RulesAreKept, sents_in, turns_in, IsOften}
use Rattle.mot_feed.specs.Feeding.{is_due, is_often, pause}
use Rattle.mot_feed.specs.Feeding.Event.{Accepted, Asked, Played}
use Rattle.mot_feed.specs.Listening.{HearsFirstChanges, IsHeardInTime, IsWindow, ListenersHear}
use Rattle.mot_feed.specs.Listening.{asks_in, is_quiet, is_settled, pauses_within}
use Rattle.mot_feed.specs.OnAir.{is_turn}
use Rattle.mot_numbers.specs.Reading.{is_empty}
use Rattle.mot_numbers.specs.declared.geometry.TheConstants.{MAX_OBJECTS}
use Rattle.mot_objects.specs.Carousel.{Carousel, IsSound, carousel_if_accepted, change}
use Rattle.mot_objects.specs.Carousel.{AllKeepRules}
use Rattle.mot_objects.specs.declared.command.Command.{Command}
use Rattle.mot_player.specs.Laws.{AreSent}
use Rattle.mot_groups.specs.Group.{Segment}
use Rattle.mot_listening.specs.Listening.{HearsBodiesIn, HearsCarousel, HearsEntity, HearsOnly}
use Rattle.mot_listening.specs.Waits.{early_packets, early_within, left_packets, longest_group}
use Rattle.mot_listening.specs.Waits.{turn_packets, with_directories}
use Rattle.mot_packets.specs.Written.{bytes_of_packet}
use Rattle.mot_player.specs.Place.{Directory, Place, Request, Sent, Step, change_turn, changed}
use Rattle.mot_player.specs.Place.{directory_packets, directory_segments, early_of, follow}
use Rattle.mot_player.specs.Place.{hear_directory, left_of, packets_of_segments, sent_by, to_send}
use Rattle.mot_player.specs.Start.{start_place}
use Rattle.mot_player.specs.Turn.{Turn, segments_of_turn, turn_of_carousel}
use Rattle.mot_listening.proofs.Laws.{IsEarlyOn, early-changed, early-heard, early-sent}
use Rattle.mot_listening.proofs.Laws.{early-short, hears-new, start-comes, start-early, start-on}
use Rattle.mot_listening.proofs.Laws.{start-rest, IsOnAir, IsRest, asked_packets, asks_once}
use Rattle.mot_listening.proofs.Laws.{changed-comes, changed-on, group-fewer, group_left, heard-on}
use Rattle.mot_listening.proofs.Laws.{hears-change, hears-directory, hears-only, hears-settled}
use Rattle.mot_listening.proofs.Laws.{hears-two_ends, hears-within, packets-are, rest-behind_turn}
use Rattle.mot_listening.proofs.Laws.{rest-heard, rest-sent, sent-on, some-packets, packets_for}
use Rattle.mot_listening.proofs.Laws.{room-kept, until_asked}
use Rattle.mot_player.proofs.Laws.{has-directory, keep_turn, plays-carousel}
use Rattle.mot_feed.proofs.OnAir.{accepted-cases, follow-cases, sound-behind, steps_of, turn-ends}
use Rattle.mot_feed.proofs.OnAir.{turn-quiet}

-- ---- what is shown

-- Whatever is heard whole from any packet on, also from within a group, is of the carousel that
-- stands there: nothing of a body that is gone, or was replaced.
abbrev OnlyOnAir : Type 0
OnlyOnAir =
    (limit size : ℕ) (now : Carousel) (place : Place) (before during : List Event)
    (packets : List (List ℕ)) → IsWindow limit size now place before during packets →
    HearsOnly packets now size

-- And who hears two turns end has exactly the carousel, its directory and each body whole.
abbrev TunesIn : Type 0
TunesIn =
    (limit size : ℕ) (now : Carousel) (place : Place) (before during : List Event)
    (packets : List (List ℕ)) → IsWindow limit size now place before during packets →
    1 < turns_in during → HearsCarousel packets now size
    × HearsEntity packets 6 now.directory (turn_of_carousel now size).directory
    × HearsBodiesIn packets now size (early_of place)

-- Who hears more packets than the longest pause, the longest group and the directories that are
-- asked for take together has the whole directory, where it is asked for often.
abbrev TunesInSoon : Type 0
TunesInSoon =
    (limit size every most : ℕ) (now : Carousel) (place : Place) (before during : List Event)
    (packets : List (List ℕ)) → IsWindow limit size now place before during packets →
    IsOften every (before ++ during) → pauses_within every most (before ++ during) ≡ true →
    most + longest_group place + asks_in during * directory_packets place < length packets →
    HearsEntity packets 6 now.directory (turn_of_carousel now size).directory

-- Who hears what is to be sent, and a turn, has exactly the carousel: with the longest group, but
-- one packet of it, and the directories that are asked for.
abbrev TunesInWithin : Type 0
TunesInWithin =
    (limit size : ℕ) (now : Carousel) (place : Place) (before during : List Event)
    (packets : List (List ℕ)) → IsWindow limit size now place before during packets →
    longest_group place + left_packets place + turn_packets place
    + asks_in during * directory_packets place ≤ 1 + length packets →
    HearsCarousel packets now size

-- In a turn in which no command was accepted a turn is enough, behind a directory, and bodies that
-- come early.
abbrev TunesInRound : Type 0
TunesInRound =
    (limit size : ℕ) (now : Carousel) (place : Place) (before during : List Event)
    (packets : List (List ℕ)) → IsWindow limit size now place before during packets →
    is_settled true before ≡ true →
    longest_group place + early_packets place + turn_packets place
    + (1 + asks_in during) * directory_packets place ≤ 1 + length packets →
    HearsCarousel packets now size

-- Behind an accepted command the new directory is heard, and each body whose segments all come
-- early: with the longest group, but one packet of it, and the directories that are asked for.
abbrev ChangesAreHeard : Type 0
ChangesAreHeard =
    (limit size : ℕ) (now : Carousel) (place : Place) (before during : List Event)
    (command : Command) (packets : List (List ℕ)) →
    IsWindow limit size now place (before ++ Accepted command ∷ []) during packets →
    longest_group place + early_packets place
    + (1 + asks_in during) * directory_packets place ≤ 1 + length packets →
    HearsEntity packets 6 now.directory (turn_of_carousel now size).directory
    × HearsBodiesIn packets now size (early_of place)

-- ---- the turn on air

-- whatever events come, all that is left is of the turn on air
pub on-behind : (limit size : ℕ) (c last : Carousel) (place new : Place) (events : List Event) →
    limit ≤ MAX_OBJECTS → 0 < size → IsSound c → IsOnAir size (turn_of_carousel c size) place →
    Happen limit size c place events last new → IsOnAir size (turn_of_carousel last size) new
on-behind limit size c last place new [] few some sound on is =
    subst (λ (k : Carousel). IsOnAir size (turn_of_carousel k size) new) is.0
    (subst (IsOnAir size (turn_of_carousel c size)) is.1 on)
on-behind limit size c last place new (Played sent ∷ events) few some sound on is =
    on-behind limit size c last sent.place new events few some sound
    (sent-on size (turn_of_carousel c size) place sent some on is.0) is.1
on-behind limit size c last place new (Accepted command ∷ events) few some sound on is =
    on-behind limit size is.0 last (changed (turn_of_carousel is.0 size) place) new events few some
    (accepted-cases limit c is.0 command (change c limit command) refl few sound is.1)
    (changed-on size (turn_of_carousel c size) (turn_of_carousel is.0 size) place some
    (has-directory is.0 size)
    (follow-cases limit size c is.0 command (change c limit command) refl sound is.1) on) is.2
on-behind limit size c last place new (Asked ∷ events) few some sound on is =
    on-behind limit size c last (hear_directory place) new events few some sound
    (heard-on size (turn_of_carousel c size) place some (has-directory c size) on) is

-- and few bodies come early
early-behind : (limit size : ℕ) (c last : Carousel) (place new : Place) (events : List Event) →
    limit ≤ MAX_OBJECTS → 0 < size → IsSound c → IsEarlyOn size (turn_of_carousel c size) place →
    Happen limit size c place events last new → IsEarlyOn size (turn_of_carousel last size) new
early-behind limit size c last place new [] few some sound early is =
    subst (λ (k : Carousel). IsEarlyOn size (turn_of_carousel k size) new) is.0
    (subst (IsEarlyOn size (turn_of_carousel c size)) is.1 early)
early-behind limit size c last place new (Played sent ∷ events) few some sound early is =
    early-behind limit size c last sent.place new events few some sound
    (early-sent size (turn_of_carousel c size) place sent some early is.0) is.1
early-behind limit size c last place new (Accepted command ∷ events) few some sound early is =
    early-behind limit size is.0 last (changed (turn_of_carousel is.0 size) place) new events few
    some (accepted-cases limit c is.0 command (change c limit command) refl few sound is.1)
    (early-changed size (turn_of_carousel c size) (turn_of_carousel is.0 size) place some
    (has-directory is.0 size)
    (follow-cases limit size c is.0 command (change c limit command) refl sound is.1) early) is.2
early-behind limit size c last place new (Asked ∷ events) few some sound early is =
    early-behind limit size c last (hear_directory place) new events few some sound
    (early-heard size (turn_of_carousel c size) place some (has-directory c size) early) is

-- ---- a window

module _ (limit size : ℕ) (now : Carousel) (place : Place) (before during : List Event)
    (packets : List (List ℕ)) (w : IsWindow limit size now place before during packets) where
  abbrev start : Place
  start = start_place w.address w.room size (turn_of_carousel w.first size) w.first.cursor w.follows
      w.newest_first

  wide : (0 < size) × (size ≤ 8189)
  wide = (omega (arith, w.range.0), w.range.1)

  now-sound : IsSound now
  now-sound = sound-behind limit size w.first now start place before w.few w.sound w.came

  now-on : IsOnAir size (turn_of_carousel now size) place
  now-on =
      on-behind limit size w.first now start place before w.few wide.0 w.sound
      (start-on w.address w.room size (turn_of_carousel w.first size) w.first.cursor w.follows w.newest_first w.some
      wide.0 (has-directory w.first size)) w.came

  only-on_air : HearsOnly packets now size
  only-on_air =
      let plays = plays-carousel now size now-sound w.rules w.range in
      let steps = steps_of limit size now w.last place w.new during w.quiet w.happened in
      hears-only size now wide now-sound plays.0 plays.1 place w.new steps.steps (sents_in during)
      packets now-on steps.keep steps.sent w.are.read

-- of a window of which a packet is heard the carousel keeps the rules of its fields
rules_of_sent : (limit : ℕ) (c : Carousel) (during others : List Event) → is_quiet during ≡ true →
    0 < length (sents_in during) → RulesAreKept limit c (during ++ others) → AllKeepRules c
rules_of_sent limit c [] others quiet some rules = absurd (omega (arith, some))
rules_of_sent limit c (Accepted command ∷ during) others quiet some rules =
    absurd (let f : false ≡ true = quiet in cc)
rules_of_sent limit c (Asked ∷ during) others quiet some rules =
    rules_of_sent limit c during others quiet some rules
rules_of_sent limit c (Played sent ∷ during) others quiet some rules = rules.0

pub rules_of_window : (limit : ℕ) (c : Carousel) (during others : List Event)
    (packets : List (List ℕ)) → is_quiet during ≡ true → AreOf during packets →
    0 < length packets → RulesAreKept limit c (during ++ others) → AllKeepRules c
rules_of_window limit c during others packets quiet are some rules =
    rules_of_sent limit c during others quiet
    (subst (λ (n : ℕ). 0 < n) (ap length are.bytes
    ∙ length-map (sents_in during) (λ (s : Sent). bytes_of_packet s.packet)) some) rules

-- ---- turns among events

sents-append : (events more : List Event) → sents_in (events ++ more)
    ≡ sents_in events ++ sents_in more
sents-append [] more = refl
sents-append (Played sent ∷ events) more =
    ap (λ (ss : List Sent). sent ∷ ss) (sents-append events more)
sents-append (Accepted command ∷ events) more = sents-append events more
sents-append (Asked ∷ events) more = sents-append events more

-- the events up to the first end of a turn, and those behind it
record IsCut (ends : ℕ) (events : List Event) : Type 0 where
  turn : List Event
  rest : List Event
  all : events ≡ turn ++ rest
  is_turn : is_turn turn ≡ true
  ends_are : turns_in rest + 1 ≡ ends
  quiet : is_quiet rest ≡ true

cut-turn : (events : List Event) → is_quiet events ≡ true → 0 < turns_in events →
    IsCut (turns_in events) events
cut-turn [] quiet some = absurd (omega (arith, some))
cut-turn (Accepted command ∷ events) quiet some =
    absurd (let f : false ≡ true = quiet in cc)
cut-turn (Asked ∷ events) quiet some =
    let cut = cut-turn events quiet some in record {
      turn = Asked ∷ cut.turn;
      rest = cut.rest;
      all = ap (λ (es : List Event). Asked ∷ es) cut.all;
      is_turn = cut.is_turn;
      ends_are = cut.ends_are;
      quiet = cut.quiet;
    }
cut-turn (Played sent ∷ events) quiet some =
    played-cases sent.ends_turn refl (λ more. cut-turn events quiet more) some
  where
    played-cases : (b : Bool) → sent.ends_turn ≡ b →
        (0 < turns_in events → IsCut (turns_in events) events) →
        0 < (if b then 1 else 0) + turns_in events →
        IsCut ((if b then 1 else 0) + turns_in events) (Played sent ∷ events)
    played-cases true e f more = record {
      turn = Played sent ∷ [];
      rest = events;
      all = refl;
      is_turn = rw e refl;
      ends_are = omega arith;
      quiet = quiet;
    }
    played-cases false e f more =
        let cut = f (omega (arith, more)) in record {
          turn = Played sent ∷ cut.turn;
          rest = cut.rest;
          all = ap (λ (es : List Event). Played sent ∷ es) cut.all;
          is_turn = ap (λ (b : Bool). if b then is_empty cut.turn else is_turn cut.turn) e
              ∙ cut.is_turn;
          ends_are = omega (arith, cut.ends_are);
          quiet = cut.quiet;
        }

-- what happens in two parts
record HappenBoth (limit size : ℕ) (c : Carousel) (place : Place) (events more : List Event)
    (last : Carousel) (new : Place) : Type 0 where
  mid : Place
  before : Happen limit size c place events c mid
  behind : Happen limit size c mid more last new

happen-both : (limit size : ℕ) (c last : Carousel) (place new : Place)
    (events more : List Event) → is_quiet events ≡ true →
    Happen limit size c place (events ++ more) last new →
    HappenBoth limit size c place events more last new
happen-both limit size c last place new [] more quiet is =
    record { mid = place; before = (refl, refl); behind = is }
happen-both limit size c last place new (Played sent ∷ events) more quiet is =
    let both = happen-both limit size c last sent.place new events more quiet is.1 in
    record { mid = both.mid; before = (is.0, both.before); behind = both.behind }
happen-both limit size c last place new (Accepted command ∷ events) more quiet is =
    absurd (let f : false ≡ true = quiet in cc)
happen-both limit size c last place new (Asked ∷ events) more quiet is =
    let both = happen-both limit size c last (hear_directory place) new events more quiet is in
    record { mid = both.mid; before = both.before; behind = both.behind }

only_on_air : OnlyOnAir
only_on_air limit size now place before during packets w =
    only-on_air limit size now place before during packets w

-- who hears two turns end has the whole carousel
tunes_in : TunesIn
tunes_in limit size now place before during packets w two =
    let sound = now-sound limit size now place before during packets w in
    let plays = plays-carousel now size sound w.rules w.range in
    let one = cut-turn during w.quiet (omega (arith, two)) in
    let next = cut-turn one.rest one.quiet (omega (arith, two, one.ends_are)) in
    let first_quiet : is_quiet one.turn ≡ true = turn-quiet one.turn one.is_turn in
    let next_quiet : is_quiet next.turn ≡ true = turn-quiet next.turn next.is_turn in
    let all = happen-both limit size now w.last place w.new one.turn one.rest first_quiet
    (subst (λ (es : List Event). Happen limit size now place es w.last w.new) one.all w.happened) in
    let later = happen-both limit size now w.last all.mid w.new next.turn next.rest next_quiet
    (subst (λ (es : List Event). Happen limit size now all.mid es w.last w.new) next.all all.behind)
    in
    let s0 = steps_of limit size now now place all.mid one.turn first_quiet all.before in
    let s1 = steps_of limit size now now all.mid later.mid next.turn next_quiet later.before in
    let s2 = steps_of limit size now w.last later.mid w.new next.rest next.quiet later.behind in
    let row : sents_in during
    ≡ sents_in one.turn ++ (sents_in next.turn ++ sents_in next.rest) =
    ap sents_in one.all ∙ sents-append one.turn one.rest
    ∙ ap (λ (ss : List Sent). sents_in one.turn ++ ss)
    (ap sents_in next.all ∙ sents-append next.turn next.rest) in
    hears-two_ends size now (wide limit size now place before during packets w) sound plays.0
    plays.1 place all.mid later.mid w.new s0.steps s1.steps s2.steps (sents_in one.turn)
    (sents_in next.turn) (sents_in next.rest) packets
    (now-on limit size now place before during packets w) s0.keep s1.keep s2.keep s0.sent s1.sent
    s2.sent (turn-ends one.turn one.is_turn) (turn-ends next.turn next.is_turn)
    (subst (λ (ss : List Sent). AreSent ss packets) row w.are.read)

-- ---- the directory is asked for

-- the packets up to the first time that the directory is asked for
abbrev until_ask : List Event → ℕ
until_ask [] = 0
until_ask (Played sent ∷ events) = suc (until_ask events)
until_ask (Asked ∷ events) = 0
until_ask (Accepted command ∷ events) = until_ask events

-- so many more packets are sent until the directory is due, at most
abbrev more_left : ℕ → Option ℕ → ℕ
more_left most None = suc most
more_left most (Some left) = left

abbrev IsWithin : ℕ → Option ℕ → Type 0
IsWithin most None = Unit {0}
IsWithin most (Some left) = left ≤ most

abbrev IsOftenFrom : ℕ → Bool → Option ℕ → List Event → Type 0
IsOftenFrom every ended left events = is_often every ended left events ≡ true

false-left : {A : Type 0} → false ≡ true → A
false-left e = absurd (let f : false ≡ true = e in cc)

not-zero : (ended : Bool) (left : ℕ) → not (is_due ended left) ≡ true → 0 < left
not-zero true left e = false-left e
not-zero false zero e = false-left e
not-zero false (suc left) e = omega arith

-- it is asked for soon
asked-soon : (every most : ℕ) (events : List Event) (ended : Bool) (left : Option ℕ) →
    IsOftenFrom every ended left events → pauses_within every most events ≡ true →
    IsWithin most left → until_ask events ≤ more_left most left
asked-soon every most [] ended left often within is = omega arith
asked-soon every most (Accepted command ∷ events) ended left often within is =
    asked-soon every most events ended left often within is
asked-soon every most (Asked ∷ events) ended left often within is = omega arith
asked-soon every most (Played sent ∷ events) ended None often within is =
    let parts = and_parts (nat_le (pause every sent.place) most) (pauses_within every most events)
    within in
    let short : pause every sent.place ≤ most =
    leb-true (pause every sent.place) most parts.0 in
    omega (
      arith,
      short,
      asked-soon every most events sent.ends_turn
          (Some (pause every sent.place)) often parts.1 short,
    )
asked-soon every most (Played sent ∷ events) ended (Some left) often within is =
    let parts = and_parts (nat_le (pause every sent.place) most) (pauses_within every most events)
    within in
    let due = and_parts (not (is_due ended left))
    (is_often every sent.ends_turn (Some (left - 1)) events) often in
    omega (
      arith,
      not-zero ended left due.0,
      asked-soon every most events sent.ends_turn
          (Some (left - 1)) due.1 parts.1 (omega (arith, is)),
    )

-- behind events it is still so
record StillOften (every most : ℕ) (during : List Event) : Type 0 where
  ended : Bool
  left : Option ℕ
  often : IsOftenFrom every ended left during
  within : IsWithin most left
  pauses : pauses_within every most during ≡ true

still-often : (every most : ℕ) (events during : List Event) (ended : Bool) (left : Option ℕ) →
    IsOftenFrom every ended left (events ++ during) →
    pauses_within every most (events ++ during) ≡ true → IsWithin most left →
    StillOften every most during
still-often every most [] during ended left often within is =
    record { ended = ended; left = left; often = often; within = is; pauses = within }
still-often every most (Accepted command ∷ events) during ended left often within is =
    still-often every most events during ended left often within is
still-often every most (Asked ∷ events) during ended None often within is = false-left often
still-often every most (Asked ∷ events) during ended (Some left) often within is =
    still-often every most events during ended None
    (and_parts (is_due ended left) (is_often every ended None (events ++ during)) often).1 within tt
still-often every most (Played sent ∷ events) during ended None often within is =
    let parts = and_parts (nat_le (pause every sent.place) most)
    (pauses_within every most (events ++ during)) within in
    still-often every most events during sent.ends_turn (Some (pause every sent.place)) often
    parts.1 (leb-true (pause every sent.place) most parts.0)
still-often every most (Played sent ∷ events) during ended (Some left) often within is =
    let parts = and_parts (nat_le (pause every sent.place) most)
    (pauses_within every most (events ++ during)) within in
    still-often every most events during sent.ends_turn (Some (left - 1))
    (and_parts (not (is_due ended left))
    (is_often every sent.ends_turn (Some (left - 1)) (events ++ during)) often).1 parts.1
    (omega (arith, is))

-- the directory is asked for often up to any of the events, where it is up to the last
pub often-front : (every : ℕ) (ended : Bool) (left : Option ℕ) (events more : List Event) →
    is_often every ended left (events ++ more) ≡ true → is_often every ended left events ≡ true
often-front every ended left [] more e = refl
often-front every ended left (Accepted command ∷ events) more e =
    often-front every ended left events more e
often-front every ended None (Asked ∷ events) more e = e
often-front every ended None (Played sent ∷ events) more e =
    often-front every sent.ends_turn (Some (pause every sent.place)) events more e
often-front every ended (Some left) (Asked ∷ events) more e =
    let parts = and_parts (is_due ended left) (is_often every ended None (events ++ more)) e in
    rw (parts.0, often-front every ended None events more parts.1) refl
often-front every ended (Some left) (Played sent ∷ events) more e =
    let parts = and_parts (not (is_due ended left))
    (is_often every sent.ends_turn (Some (left - 1)) (events ++ more)) e in
    rw (parts.0, often-front every sent.ends_turn (Some (left - 1)) events more parts.1) refl

soon-cases : (most : ℕ) (left : Option ℕ) → IsWithin most left → more_left most left ≤ suc most
soon-cases most None is = omega arith
soon-cases most (Some left) is = omega (arith, is)

-- the steps of events without commands
abbrev steps_in : List Event → List Step
steps_in [] = []
steps_in (Played sent ∷ events) = Request ∷ steps_in events
steps_in (Asked ∷ events) = Directory ∷ steps_in events
steps_in (Accepted command ∷ events) = steps_in events

steps-keep : (events : List Event) → keep_turn (steps_in events) ≡ true
steps-keep [] = refl
steps-keep (Played sent ∷ events) = steps-keep events
steps-keep (Asked ∷ events) = steps-keep events
steps-keep (Accepted command ∷ events) = steps-keep events

steps-sent : (limit size : ℕ) (c last : Carousel) (place new : Place) (events : List Event) →
    is_quiet events ≡ true → Happen limit size c place events last new →
    sent_by place (steps_in events) ≡ Some (sents_in events, new)
unfolding sent_by
steps-sent limit size c last place new [] quiet is = ap (λ (p : Place). Some ([], p)) is.1
steps-sent limit size c last place new (Played sent ∷ events) quiet is =
    rw (is.0, steps-sent limit size c last sent.place new events quiet is.1) refl
steps-sent limit size c last place new (Accepted command ∷ events) quiet is = false-left quiet
steps-sent limit size c last place new (Asked ∷ events) quiet is =
    steps-sent limit size c last (hear_directory place) new events quiet is

steps-until : (events : List Event) → until_asked (steps_in events) ≡ until_ask events
steps-until [] = refl
steps-until (Played sent ∷ events) = ap (λ (n : ℕ). suc n) (steps-until events)
steps-until (Asked ∷ events) = refl
steps-until (Accepted command ∷ events) = steps-until events

steps-asked : (d : ℕ) (events : List Event) →
    asked_packets d (steps_in events) ≡ asks_in events * d
steps-asked d [] = omega arith
steps-asked d (Played sent ∷ events) = steps-asked d events
steps-asked d (Asked ∷ events) = omega (arith, steps-asked d events)
steps-asked d (Accepted command ∷ events) = steps-asked d events

-- where it is not asked for, all packets come before it is
steps-once : (events : List Event) → is_quiet events ≡ true →
    (asks_once (steps_in events) ≡ true) ⊎ (length (sents_in events) ≡ until_ask events)
steps-once [] quiet = inr refl
steps-once (Played sent ∷ events) quiet = once-cases (steps-once events quiet)
  where
    once-cases : (asks_once (steps_in events) ≡ true)
        ⊎ (length (sents_in events) ≡ until_ask events) →
        (asks_once (steps_in events) ≡ true)
        ⊎ (suc (length (sents_in events)) ≡ suc (until_ask events))
    once-cases (inl e) = inl e
    once-cases (inr e) = inr (ap (λ (n : ℕ). suc n) e)
steps-once (Asked ∷ events) quiet = inl refl
steps-once (Accepted command ∷ events) quiet = false-left quiet

-- who hears so many packets has the directory
tunes_in_soon : TunesInSoon
tunes_in_soon limit size every most now place before during packets w often pauses enough =
    let sound = now-sound limit size now place before during packets w in
    let plays = plays-carousel now size sound w.rules w.range in
    let on = now-on limit size now place before during packets w in
    let still = still-often every most before during true (Some 0) often pauses (omega arith) in
    let soon : until_ask during ≤ suc most =
    omega (
      arith,
      asked-soon every most during still.ended still.left still.often still.pauses
          still.within,
      soon-cases most still.left still.within,
    ) in
    let d : ℕ = packets_for place.room (directory_segments (turn_of_carousel now size) size) in
    let same : directory_packets place ≡ d =
    ap (λ (n : ℕ). packets_of_segments place.room (directory_segments place.turn n)) on.size_is
    ∙ ap (λ (t : Turn). packets_of_segments place.room (directory_segments t size)) on.turn_is
    ∙ sym (packets-are place.room (directory_segments (turn_of_carousel now size) size)) in
    let long : longest_group place ≡ div_ceil (size + 11) place.room =
    ap (λ (n : ℕ). div_ceil (n + 11) place.room) on.size_is in
    let count : length packets ≡ length (sents_in during) =
    ap length w.are.bytes
    ∙ length-map (sents_in during) (λ (s : Sent). bytes_of_packet s.packet) in
    let more : most + div_ceil (size + 11) place.room + asks_in during * d
    < length (sents_in during) =
    subst (λ (n : ℕ). most + div_ceil (size + 11) place.room + asks_in during * n
    < length (sents_in during)) same
    (subst (λ (n : ℕ). most + n + asks_in during * directory_packets place
    < length (sents_in during)) long
    (subst (λ (n : ℕ). most + longest_group place + asks_in during * directory_packets place < n)
    count enough)) in
    let some : 0 < div_ceil (size + 11) place.room = longest-some on.room in
    hears-directory size now (wide limit size now place before during packets w) sound plays.0
    plays.1 place w.new (steps_in during) (sents_in during) packets on (steps-keep during)
    (steps-sent limit size now w.last place w.new during w.quiet w.happened) w.are.read
    (once (steps-once during w.quiet) soon some (asks_in during * d) more)
    (subst (λ (n : ℕ). n + div_ceil (size + 11) place.room + asked_packets d (steps_in during)
    ≤ suc (length (sents_in during))) (sym (steps-until during))
    (subst (λ (n : ℕ). until_ask during + div_ceil (size + 11) place.room + n
    ≤ suc (length (sents_in during))) (sym (steps-asked d during)) (omega (arith, soon, more))))
  where
    longest-some : 0 < place.room → 0 < div_ceil (size + 11) place.room
    longest-some some = some-packets (size + 11) place.room some (omega arith)

    once : (asks_once (steps_in during) ≡ true)
        ⊎ (length (sents_in during) ≡ until_ask during) → until_ask during ≤ suc most →
        0 < div_ceil (size + 11) place.room →
        (d : ℕ) → most + div_ceil (size + 11) place.room + d < length (sents_in during) →
        asks_once (steps_in during) ≡ true
    once (inl e) soon some d more = e
    once (inr e) soon some d more = absurd (omega (arith, e, soon, some, more))

-- ---- how often the directory is asked for

-- so many packets of the next pause are still to come, unless a turn has ended
abbrev still_left : ℕ → Bool → ℕ → ℕ
still_left step true left = 0
still_left step false left = min left step

abbrev FewAsked : ℕ → Bool → Option ℕ → List Event → Type 0
FewAsked k ended None events =
    asks_in events * (k + 1) ≤ length (sents_in events) + (k + 1) * turns_in events
FewAsked k ended (Some left) events =
    asks_in events * (k + 1) + still_left (k + 1) ended left
    ≤ length (sents_in events) + (k + 1) * (1 + turns_in events)

-- each pause that begins behind one of these packets is at least so long
abbrev PausesFrom : (every k : ℕ) → List Event → Type 0
PausesFrom every k [] = Unit {0}
PausesFrom every k (Played sent ∷ events) =
    (k ≤ pause every sent.place) × PausesFrom every k events
PausesFrom every k (Accepted command ∷ events) = PausesFrom every k events
PausesFrom every k (Asked ∷ events) = PausesFrom every k events

due-left : (step : ℕ) (ended : Bool) (left : ℕ) → is_due ended left ≡ true →
    still_left step ended left ≡ 0
due-left step true left e = refl
due-left step false left e = omega (arith, eqb-true left 0 e)

undue : (ended : Bool) (left : ℕ) → not (is_due ended left) ≡ true → ended ≡ false
undue true left e = false-left e
undue false left e = refl

left-most : (step : ℕ) (ended : Bool) (left : ℕ) → still_left step ended left ≤ step
left-most step true left = omega arith
left-most step false left = omega arith

-- behind the packet that follows an asking
pause-cases : (k a n turns left : ℕ) (b : Bool) → k ≤ left →
    a * (k + 1) + still_left (k + 1) b left ≤ n + (k + 1) * (1 + turns) →
    a * (k + 1) ≤ suc n + (k + 1) * ((if b then 1 else 0) + turns)
pause-cases k a n turns left true l e = omega (arith, e)
pause-cases k a n turns left false l e = omega (arith, l, e)

-- and behind another
packet-cases : (k a n turns left : ℕ) (b : Bool) → 0 < left →
    a * (k + 1) + still_left (k + 1) b (left - 1) ≤ n + (k + 1) * (1 + turns) →
    a * (k + 1) + min left (k + 1)
    ≤ suc n + (k + 1) * (1 + ((if b then 1 else 0) + turns))
packet-cases k a n turns left true some e = omega (arith, e, some)
packet-cases k a n turns left false some e = omega (arith, e, some)

few-asked : (every k : ℕ) (events : List Event) (ended : Bool) (left : Option ℕ) →
    IsOftenFrom every ended left events → PausesFrom every k events →
    FewAsked k ended left events
few-asked every k [] ended None often long = omega arith
few-asked every k [] ended (Some left) often long =
    omega (arith, left-most (k + 1) ended left)
few-asked every k (Accepted command ∷ events) ended None often long =
    few-asked every k events ended None often long
few-asked every k (Accepted command ∷ events) ended (Some left) often long =
    few-asked every k events ended (Some left) often long
few-asked every k (Asked ∷ events) ended None often long = false-left often
few-asked every k (Asked ∷ events) ended (Some left) often long =
    let parts = and_parts (is_due ended left) (is_often every ended None events) often in
    omega (
      arith,
      few-asked every k events ended None parts.1 long,
      due-left (k + 1) ended left parts.0,
    )
few-asked every k (Played sent ∷ events) ended None often long =
    pause-cases k (asks_in events) (length (sents_in events)) (turns_in events)
    (pause every sent.place) sent.ends_turn long.0
    (few-asked every k events sent.ends_turn (Some (pause every sent.place)) often long.1)
few-asked every k (Played sent ∷ events) ended (Some left) often long =
    let parts = and_parts (not (is_due ended left))
    (is_often every sent.ends_turn (Some (left - 1)) events) often in
    subst (λ (b : Bool). asks_in events * (k + 1) + still_left (k + 1) b left
    ≤ suc (length (sents_in events)) + (k + 1)
    * (1 + ((if sent.ends_turn then 1 else 0) + turns_in events)))
    (sym (undue ended left parts.0))
    (packet-cases k (asks_in events) (length (sents_in events)) (turns_in events) left
    sent.ends_turn (not-zero ended left parts.0)
    (few-asked every k events sent.ends_turn (Some (left - 1)) parts.1 long.1))

-- in a window
few-cases : (k : ℕ) (ended : Bool) (left : Option ℕ) (events : List Event) →
    FewAsked k ended left events → asks_in events * (k + 1)
    ≤ length (sents_in events) + (k + 1) * (1 + turns_in events)
few-cases k ended None events e = omega (arith, e)
few-cases k ended (Some left) events e = omega (arith, e)

record OftenFrom (every : ℕ) (events : List Event) : Type 0 where
  ended : Bool
  left : Option ℕ
  often : IsOftenFrom every ended left events

often-from : (every : ℕ) (events during : List Event) (ended : Bool) (left : Option ℕ) →
    IsOftenFrom every ended left (events ++ during) → OftenFrom every during
often-from every [] during ended left often = record { ended = ended; left = left; often = often }
often-from every (Accepted command ∷ events) during ended left often =
    often-from every events during ended left often
often-from every (Asked ∷ events) during ended None often = false-left often
often-from every (Asked ∷ events) during ended (Some left) often =
    often-from every events during ended None
    (and_parts (is_due ended left) (is_often every ended None (events ++ during)) often).1
often-from every (Played sent ∷ events) during ended None often =
    often-from every events during sent.ends_turn (Some (pause every sent.place)) often
often-from every (Played sent ∷ events) during ended (Some left) often =
    often-from every events during sent.ends_turn (Some (left - 1))
    (and_parts (not (is_due ended left))
    (is_often every sent.ends_turn (Some (left - 1)) (events ++ during)) often).1

asked_seldom : (every k : ℕ) (before during : List Event) → IsOften every (before ++ during) →
    PausesFrom every k during → asks_in during * (k + 1)
    ≤ length (sents_in during) + (k + 1) * (1 + turns_in during)
asked_seldom every k before during often long =
    let from = often-from every before during true (Some 0) often in
    few-cases k from.ended from.left during
    (few-asked every k during from.ended from.left from.often long)

-- a pause has ten times the packets of the directory
directory-packets : (size room : ℕ) (turn : Turn) (place : Place) → IsOnAir size turn place →
    place.room ≡ room →
    directory_packets place ≡ packets_for room (directory_segments turn size)
directory-packets size room turn place on is =
    ap (λ (n : ℕ). packets_of_segments place.room (directory_segments place.turn n)) on.size_is
    ∙ ap (λ (t : Turn). packets_of_segments place.room (directory_segments t size)) on.turn_is
    ∙ sym (packets-are place.room (directory_segments turn size))
    ∙ ap (λ (n : ℕ). packets_for n (directory_segments turn size)) is

heard-room : (place : Place) → (hear_directory place).room ≡ place.room
unfolding hear_directory
heard-room place = refl

pauses-long : (limit size every room : ℕ) (c last : Carousel) (place new : Place)
    (events : List Event) → 0 < size → is_quiet events ≡ true →
    IsOnAir size (turn_of_carousel c size) place → place.room ≡ room →
    Happen limit size c place events last new →
    PausesFrom every
    (10 * packets_for room (directory_segments (turn_of_carousel c size) size)) events
pauses-long limit size every room c last place new [] some quiet on is happen = tt
pauses-long limit size every room c last place new (Played sent ∷ events) some quiet on is happen =
    let turn : Turn = turn_of_carousel c size in
    let next : IsOnAir size turn sent.place = sent-on size turn place sent some on happen.0 in
    let same : sent.place.room ≡ room = room-kept place sent happen.0 ∙ is in (
      omega (arith, directory-packets size room turn sent.place next same),
      pauses-long limit size every room c last sent.place new events some quiet next same
          happen.1,
    )
pauses-long limit size every room c last place new (Accepted command ∷ events) some quiet on is
    happen =
    false-left quiet
pauses-long limit size every room c last place new (Asked ∷ events) some quiet on is happen =
    pauses-long limit size every room c last (hear_directory place) new events some quiet
    (heard-on size (turn_of_carousel c size) place some (has-directory c size) on)
    (heard-room place ∙ is) happen

-- so the directories take a tenth of the packets at most, and twice the directory besides
few-directories : (a d n turns : ℕ) → a * (10 * d + 1) ≤ n + (10 * d + 1) * (1 + turns) →
    turns ≤ 1 → 10 * (a * d) ≤ n + 20 * d
few-directories zero d n turns e one = omega arith
few-directories (suc zero) d n turns e one = omega arith
few-directories (suc (suc a)) d n zero e one = omega (arith, e)
few-directories (suc (suc a)) d n (suc zero) e one = omega (arith, e)
few-directories (suc (suc a)) d n (suc (suc turns)) e one = absurd (omega (arith, one))

-- ---- a turn is enough

-- where the turn is settled, the rest of the bodies is the end of them
record IsSettled (size : ℕ) (c : Carousel) (settled : Bool) (place : Place) : Type 0 where
  on : IsOnAir size (turn_of_carousel c size) place
  rest : settled ≡ true → IsRest size (turn_of_carousel c size) place.early (left_of place)

settled-cases : {P : Type 0} (b e : Bool) → (b ≡ true → P) → (e ≡ true → P) → (b || e) ≡ true → P
settled-cases true e f g h = f refl
settled-cases false e f g h = g h

settled-behind : (limit size : ℕ) (c last : Carousel) (place new : Place) (settled : Bool)
    (events : List Event) → limit ≤ MAX_OBJECTS → 0 < size → IsSound c →
    IsSettled size c settled place → Happen limit size c place events last new →
    is_settled settled events ≡ true →
    IsRest size (turn_of_carousel last size) new.early (left_of new)
settled-behind limit size c last place new settled [] few some sound st is e =
    subst (λ (k : Carousel). IsRest size (turn_of_carousel k size) new.early (left_of new)) is.0
    (subst (λ (p : Place). IsRest size (turn_of_carousel c size) p.early (left_of p)) is.1
    (st.rest e))
settled-behind limit size c last place new settled (Played sent ∷ events) few some sound st is e =
    let turn : Turn = turn_of_carousel c size in
    let on : IsOnAir size turn sent.place = sent-on size turn place sent some st.on is.0 in
    settled-behind limit size c last sent.place new (settled || sent.ends_turn) events few some
    sound (record {
      on = on;
      rest = settled-cases settled sent.ends_turn
          (λ f. rest-sent size turn place sent st.on (st.rest f) is.0)
          (λ f. rest-behind_turn size turn place sent is.0 f on);
    }) is.1 e
settled-behind limit size c last place new settled (Accepted command ∷ events) few some sound st is
    e =
    settled-behind limit size is.0 last (changed (turn_of_carousel is.0 size) place) new false
    events few some
    (accepted-cases limit c is.0 command (change c limit command) refl few sound is.1) (record {
      on = changed-on size (turn_of_carousel c size) (turn_of_carousel is.0 size) place some
          (has-directory is.0 size)
          (follow-cases limit size c is.0 command (change c limit command) refl sound is.1) st.on;
      rest = λ f. false-left f;
    }) is.2 e
settled-behind limit size c last place new settled (Asked ∷ events) few some sound st is e =
    settled-behind limit size c last (hear_directory place) new settled events few some sound
    (record {
      on = heard-on size (turn_of_carousel c size) place some (has-directory c size) st.on;
      rest = λ f. rest-heard size (turn_of_carousel c size) place some (has-directory c size) st.on
          (st.rest f);
    }) is e

-- what a window has: its steps, and how many packets of what are left
module _ (limit size : ℕ) (now : Carousel) (place : Place) (before during : List Event)
    (packets : List (List ℕ)) (w : IsWindow limit size now place before during packets) where
  abbrev turn : Turn
  turn = turn_of_carousel now size

  on : IsOnAir size turn place
  on = now-on limit size now place before during packets w

  whole-is : segments_of_turn place.turn place.segment_size ≡ segments_of_turn turn size
  whole-is = ap (λ (n : ℕ). segments_of_turn place.turn n) on.size_is
      ∙ ap (λ (t : Turn). segments_of_turn t size) on.turn_is

  directory-is : directory_packets place ≡ packets_for place.room (directory_segments turn size)
  directory-is =
      ap (λ (n : ℕ). packets_of_segments place.room (directory_segments place.turn n)) on.size_is
      ∙ ap (λ (t : Turn). packets_of_segments place.room (directory_segments t size)) on.turn_is
      ∙ sym (packets-are place.room (directory_segments turn size))

  turn-is : turn_packets place ≡ packets_for place.room (segments_of_turn turn size)
  turn-is = ap (packets_of_segments place.room) whole-is
      ∙ sym (packets-are place.room (segments_of_turn turn size))

  count-is : length packets ≡ length (sents_in during)
  count-is = ap length w.are.bytes
      ∙ length-map (sents_in during) (λ (s : Sent). bytes_of_packet s.packet)

  asked-is : asked_packets (packets_for place.room (directory_segments turn size)) (steps_in during)
      ≡ asks_in during * directory_packets place
  asked-is = steps-asked (packets_for place.room (directory_segments turn size)) during
      ∙ ap (λ (n : ℕ). asks_in during * n) (sym directory-is)

  sent-is : sent_by place (steps_in during) ≡ Some (sents_in during, w.new)
  sent-is = steps-sent limit size now w.last place w.new during w.quiet w.happened

  left-few : group_left place.room place.under_way < longest_group place
  left-few =
      subst (λ (n : ℕ). group_left place.room place.under_way < div_ceil (n + 11) place.room)
      (sym on.size_is) (group-fewer place.room size place.under_way on.room on.inside)

tunes_in_within : TunesInWithin
tunes_in_within limit size now place before during packets w enough =
    let sound = now-sound limit size now place before during packets w in
    let plays = plays-carousel now size sound w.rules w.range in
    hears-within size now (wide limit size now place before during packets w) sound plays.0 plays.1
    place w.new (steps_in during) (sents_in during) packets
    (now-on limit size now place before during packets w) (steps-keep during)
    (sent-is limit size now place before during packets w) w.are.read
    (omega (
      arith,
      enough,
      left-few limit size now place before during packets w,
      packets-are place.room (to_send place),
      turn-is limit size now place before during packets w,
      count-is limit size now place before during packets w,
      asked-is limit size now place before during packets w,
    ))

tunes_in_round : TunesInRound
tunes_in_round limit size now place before during packets w settled enough =
    let sound = now-sound limit size now place before during packets w in
    let plays = plays-carousel now size sound w.rules w.range in
    let some : 0 < size = omega (arith, w.range.0) in
    let first : Turn = turn_of_carousel w.first size in
    let has = has-directory w.first size in
    let rest = settled-behind limit size w.first now
    (start_place w.address w.room size first w.first.cursor w.follows w.newest_first) place true before w.few some
    w.sound (record {
      on = start-on w.address w.room size first w.first.cursor w.follows w.newest_first w.some some has;
      rest = λ e. start-rest w.address w.room size first w.first.cursor w.follows w.newest_first w.some some has;
    }) w.came settled in
    hears-settled size now (wide limit size now place before during packets w) sound plays.0
    plays.1 place w.new (steps_in during) (sents_in during) packets
    (now-on limit size now place before during packets w) (steps-keep during)
    (sent-is limit size now place before during packets w) w.are.read rest
    (omega (
      arith,
      enough,
      left-few limit size now place before during packets w,
      packets-are place.room (early_of place),
      directory-is limit size now place before during packets w,
      turn-is limit size now place before during packets w,
      count-is limit size now place before during packets w,
      asked-is limit size now place before during packets w,
    ))

-- ---- a change

-- the place behind an accepted command is that of a change
record IsChange (size : ℕ) (now : Carousel) (place : Place) : Type 0 where
  old : Place
  is : place ≡ changed (turn_of_carousel now size) old

change-behind : (limit size : ℕ) (c last : Carousel) (place new : Place) (events : List Event)
    (command : Command) → Happen limit size c place (events ++ Accepted command ∷ []) last new →
    IsChange size last new
change-behind limit size c last place new [] command is = record {
  old = place;
  is = subst (λ (k : Carousel). new ≡ changed (turn_of_carousel k size) place) is.2.0
      (sym is.2.1);
}
change-behind limit size c last place new (Played sent ∷ events) command is =
    change-behind limit size c last sent.place new events command is.1
change-behind limit size c last place new (Accepted other ∷ events) command is =
    change-behind limit size is.0 last (changed (turn_of_carousel is.0 size) place) new events
    command is.2
change-behind limit size c last place new (Asked ∷ events) command is =
    change-behind limit size c last (hear_directory place) new events command is

changed-size : (turn : Turn) (place : Place) →
    (changed turn place).segment_size ≡ place.segment_size
unfolding changed follow change_turn
changed-size turn place = size-cases (is_some place.follows)
  where
    size-cases : (b : Bool) →
        (if b then follow turn place else change_turn turn place).segment_size
        ≡ place.segment_size
    size-cases true = refl
    size-cases false = refl

-- behind the directory come the bodies that are early
next_is_heard : (limit size : ℕ) (now : Carousel) (place : Place) (before during : List Event)
    (packets : List (List ℕ)) → IsWindow limit size now place before during packets →
    (rest : List Segment) → to_send place
    ≡ directory_segments (turn_of_carousel now size) size ++ (early_of place ++ rest) →
    longest_group place + early_packets place
    + (1 + asks_in during) * directory_packets place ≤ 1 + length packets →
    HearsEntity packets 6 now.directory (turn_of_carousel now size).directory
    × HearsBodiesIn packets now size (early_of place)
next_is_heard limit size now place before during packets w rest next enough =
    let sound = now-sound limit size now place before during packets w in
    let plays = plays-carousel now size sound w.rules w.range in
    hears-change size now (wide limit size now place before during packets w) sound plays.0 plays.1
    place w.new (steps_in during) (sents_in during) packets rest
    (now-on limit size now place before during packets w) (steps-keep during)
    (sent-is limit size now place before during packets w) w.are.read next
    (omega (
      arith,
      enough,
      left-few limit size now place before during packets w,
      packets-are place.room (early_of place),
      directory-is limit size now place before during packets w,
      count-is limit size now place before during packets w,
      asked-is limit size now place before during packets w,
    ))

changes_are_heard : ChangesAreHeard
changes_are_heard limit size now place before during command packets w enough =
    let earlier : List Event = before ++ Accepted command ∷ [] in
    let turn : Turn = turn_of_carousel now size in
    let on = now-on limit size now place earlier during packets w in
    let change = change-behind limit size w.first now
    (start limit size now place earlier during packets w) place before command w.came in
    let old_size : change.old.segment_size ≡ size =
    sym (changed-size turn change.old) ∙ ap (λ (p : Place). p.segment_size) (sym change.is)
    ∙ on.size_is in
    let comes = changed-comes turn change.old
    (subst (λ (n : ℕ). 0 < n) (sym old_size) (omega (arith, w.range.0)))
    (has-directory now size) in
    let next : to_send place ≡ directory_segments turn size ++ (early_of place ++ comes.0) =
    ap to_send change.is ∙ comes.1
    ∙ ap (λ (n : ℕ). directory_segments turn n
    ++ (early_of (changed turn change.old) ++ comes.0)) old_size
    ∙ ap (λ (p : Place). directory_segments turn size ++ (early_of p ++ comes.0)) (sym change.is)
    in
    next_is_heard limit size now place earlier during packets w comes.0 next enough

-- From a start on the directory is heard, and the bodies that come first.
starts_are_heard : (limit size : ℕ) (now : Carousel) (place : Place) (during : List Event)
    (packets : List (List ℕ)) → IsWindow limit size now place [] during packets →
    longest_group place + early_packets place
    + (1 + asks_in during) * directory_packets place ≤ 1 + length packets →
    HearsEntity packets 6 now.directory (turn_of_carousel now size).directory
    × HearsBodiesIn packets now size (early_of place)
starts_are_heard limit size now place during packets w enough =
    let first : Turn = turn_of_carousel w.first size in
    let begun : Place = start limit size now place [] during packets w in
    let comes = start-comes w.address w.room size first w.first.cursor w.follows w.newest_first
    (wide limit size now place [] during packets w).0 (has-directory w.first size) in
    let next : to_send place
    ≡ directory_segments (turn_of_carousel now size) size ++ (early_of place ++ comes.0) =
    ap to_send (sym w.came.1) ∙ comes.1
    ∙ ap (λ (k : Carousel). directory_segments (turn_of_carousel k size) size
    ++ (early_of begun ++ comes.0)) w.came.0
    ∙ ap (λ (p : Place). directory_segments (turn_of_carousel now size) size
    ++ (early_of p ++ comes.0)) w.came.1 in
    next_is_heard limit size now place [] during packets w comes.0 next enough

-- ---- in time

with-few : (x n : ℕ) → with_directories x ≤ n → 10 * x + 1 ≤ 9 * n
with-few x n enough =
    let all : 10 * x + 1 ≤ div_ceil (10 * x + 1) 9 * 9 =
    (div_ceil_times (10 * x + 1) 9 (omega arith)).0 in
    omega (arith, all, enough)

soon-enough : (most g d a n : ℕ) → 10 * (most + g + 2 * d) + 1 ≤ 9 * n →
    10 * (a * d) ≤ n + 20 * d → most + g + a * d < n
soon-enough most g d a n e f = omega (arith, e, f)

round-enough : (g early t d a n : ℕ) → 10 * (g + early + t + 3 * d) + 1 ≤ 9 * n →
    10 * (a * d) ≤ n + 20 * d → g + early + t + (1 + a) * d ≤ 1 + n
round-enough g early t d a n e f = omega (arith, e, f)

all-enough : (g left t d a n : ℕ) → 10 * (g + left + t + 2 * d) + 1 ≤ 9 * n →
    10 * (a * d) ≤ n + 20 * d → g + left + t + a * d ≤ 1 + n
all-enough g left t d a n e f = omega (arith, e, f)

change-enough : (g early d a n : ℕ) → 10 * (g + early + 3 * d) + 1 ≤ 9 * n →
    10 * (a * d) ≤ n + 20 * d → g + early + (1 + a) * d ≤ 1 + n
change-enough g early d a n e f = omega (arith, e, f)

module _ (limit size every : ℕ) (now : Carousel) (place : Place) (before during : List Event)
    (packets : List (List ℕ)) (w : IsWindow limit size now place before during packets)
    (often : IsOften every (before ++ during)) where
  few-asked_here : turns_in during ≤ 1 →
      10 * (asks_in during * directory_packets place)
      ≤ length packets + 20 * directory_packets place
  few-asked_here one =
      let range = wide limit size now place before during packets w in
      let on = now-on limit size now place before during packets w in
      let turn : Turn = turn_of_carousel now size in
      let d : ℕ = packets_for place.room (directory_segments turn size) in
      let long : PausesFrom every (10 * d) during =
      pauses-long limit size every place.room now w.last place w.new during range.0 w.quiet on refl
      w.happened in
      let few : 10 * (asks_in during * d) ≤ length (sents_in during) + 20 * d =
      few-directories (asks_in during) d (length (sents_in during)) (turns_in during)
      (asked_seldom every (10 * d) before during often long) one in
      subst (λ (n : ℕ). 10 * (asks_in during * directory_packets place)
      ≤ n + 20 * directory_packets place)
      (sym (count-is limit size now place before during packets w))
      (subst (λ (n : ℕ). 10 * (asks_in during * n) ≤ length (sents_in during) + 20 * n)
      (sym (directory-is limit size now place before during packets w)) few)

  -- who heard one end of a turn at most has what the directories leave room for; else all is heard
  in-time : (x : ℕ) (P : Type 0) → with_directories x ≤ length packets →
      (1 < turns_in during → P) →
      (10 * x + 1 ≤ 9 * length packets →
      10 * (asks_in during * directory_packets place)
      ≤ length packets + 20 * directory_packets place → P) → P
  in-time x P enough all few =
      elim (cases_lt 1 (turns_in during)) [
        | inl more ↦ all more
        | inr one ↦
            few (with-few x (length packets) enough) (few-asked_here (omega (arith, one)))
      ]

  short_here : early_packets place ≤ early_within place
  short_here =
      let early : IsEarlyOn size (turn_of_carousel now size) place =
      early-behind limit size w.first now (start limit size now place before during packets w) place
      before w.few (wide limit size now place before during packets w).0 w.sound
      (start-early w.address w.room size (turn_of_carousel w.first size) w.first.cursor w.follows w.newest_first
      w.some (wide limit size now place before during packets w).0 (has-directory w.first size))
      w.came in
      early-short size (turn_of_carousel now size) place early.on early.few early.comes

  heard_in_time : IsHeardInTime every size now place before during packets
  heard_in_time = record {
    soon = λ most pauses enough.
        in-time (most + longest_group place + 2 * directory_packets place)
        (HearsEntity packets 6 now.directory (turn_of_carousel now size).directory) enough
        (λ more. (tunes_in limit size now place before during packets w more).1)
        (λ e f. tunes_in_soon limit size every most now place before during packets w often pauses
        (soon-enough most (longest_group place) (directory_packets place) (asks_in during)
        (length packets) e f));
    round = λ settled enough.
        in-time (longest_group place + early_packets place + turn_packets place
        + 3 * directory_packets place) (HearsCarousel packets now size) enough
        (λ more. (tunes_in limit size now place before during packets w more).0)
        (λ e f. tunes_in_round limit size now place before during packets w settled
        (round-enough (longest_group place) (early_packets place) (turn_packets place)
        (directory_packets place) (asks_in during) (length packets) e f));
    all = λ enough.
        in-time (longest_group place + left_packets place + turn_packets place
        + 2 * directory_packets place) (HearsCarousel packets now size) enough
        (λ more. (tunes_in limit size now place before during packets w more).0)
        (λ e f. tunes_in_within limit size now place before during packets w
        (all-enough (longest_group place) (left_packets place) (turn_packets place)
        (directory_packets place) (asks_in during) (length packets) e f));
    start = λ none enough.
        in-time (longest_group place + early_within place + 3 * directory_packets place)
        (HearsEntity packets 6 now.directory (turn_of_carousel now size).directory
        × HearsBodiesIn packets now size (early_of place)) enough
        (λ more. let all = tunes_in limit size now place before during packets w more in
        (all.1, all.2))
        (λ e f. starts_are_heard limit size now place during packets
        (subst (λ (b : List Event). IsWindow limit size now place b during packets) none w)
        (omega (
          arith,
          change-enough (longest_group place) (early_within place) (directory_packets place)
              (asks_in during) (length packets) e f,
          short_here,
        )));
    bounded = λ earlier command is enough.
        in-time (longest_group place + early_within place + 3 * directory_packets place)
        (HearsEntity packets 6 now.directory (turn_of_carousel now size).directory
        × HearsBodiesIn packets now size (early_of place)) enough
        (λ more. let all = tunes_in limit size now place before during packets w more in
        (all.1, all.2))
        (λ e f. changes_are_heard limit size now place earlier during command packets
        (subst (λ (b : List Event). IsWindow limit size now place b during packets) is w)
        (omega (
          arith,
          change-enough (longest_group place) (early_within place) (directory_packets place)
              (asks_in during) (length packets) e f,
          short_here,
        )));
    change = λ earlier command is enough.
        in-time (longest_group place + early_packets place + 3 * directory_packets place)
        (HearsEntity packets 6 now.directory (turn_of_carousel now size).directory
        × HearsBodiesIn packets now size (early_of place)) enough
        (λ more. let all = tunes_in limit size now place before during packets w more in
        (all.1, all.2))
        (λ e f. changes_are_heard limit size now place earlier during command packets
        (subst (λ (b : List Event). IsWindow limit size now place b during packets) is w)
        (change-enough (longest_group place) (early_packets place) (directory_packets place)
        (asks_in during) (length packets) e f));
  }

-- ---- the body of a command

same-next : (next other : Carousel) (o : Option Carousel) → o ≡ Some next → o ≡ Some other →
    other ≡ next
same-next next other o e f = let both : Some other ≡ Some next = sym f ∙ e in cc

-- a command behind others
record IsBehind (limit size : ℕ) (old : Carousel) (was : Place) (command : Command)
    (now : Carousel) (place : Place) : Type 0 where
  accepted : carousel_if_accepted (change old limit command) ≡ Some now
  place_is : place ≡ changed (turn_of_carousel now size) was

command-behind : (limit size : ℕ) (c old now : Carousel) (place was new : Place)
    (events : List Event) (command : Command) → Happen limit size c place events old was →
    Happen limit size c place (events ++ Accepted command ∷ []) now new →
    IsBehind limit size old was command now new
command-behind limit size c old now place was new [] command earlier is =
    subst (λ (p : Place). IsBehind limit size old p command now new) earlier.1
    (subst (λ (k : Carousel). IsBehind limit size k place command now new) earlier.0
    (subst (λ (k : Carousel). IsBehind limit size c place command k new) is.2.0
    (record { accepted = is.1; place_is = sym is.2.1 })))
command-behind limit size c old now place was new (Played sent ∷ events) command earlier is =
    command-behind limit size c old now sent.place was new events command earlier.1 is.1
command-behind limit size c old now place was new (Accepted other ∷ events) command earlier is =
    command-behind limit size is.0 old now (changed (turn_of_carousel is.0 size) place) was new
    events command
    (subst (λ (k : Carousel). Happen limit size k (changed (turn_of_carousel k size) place) events
    old was)
    (same-next is.0 earlier.0 (carousel_if_accepted (change c limit other)) is.1 earlier.1)
    earlier.2) is.2
command-behind limit size c old now place was new (Asked ∷ events) command earlier is =
    command-behind limit size c old now (hear_directory place) was new events command earlier is

module _ (limit size every : ℕ) (now : Carousel) (place : Place) (before during : List Event)
    (packets : List (List ℕ)) (w : IsWindow limit size now place before during packets)
    (often : IsOften every (before ++ during)) where
  abbrev begun : Place
  begun = start limit size now place before during packets w

  hears_first_changes : HearsFirstChanges limit size w.first begun now place before packets
  hears_first_changes earlier command old was is came few enough =
      let some : 0 < size = (wide limit size now place before during packets w).0 in
      let heard =
      (heard_in_time limit size every now place before during packets w often).bounded earlier
      command is enough in
      let early : IsEarlyOn size (turn_of_carousel old size) was =
      early-behind limit size w.first old begun was earlier w.few some w.sound
      (start-early w.address w.room size (turn_of_carousel w.first size) w.first.cursor w.follows w.newest_first
      w.some some (has-directory w.first size)) came in
      let sound : IsSound old =
      sound-behind limit size w.first old begun was earlier w.few w.sound came in
      let behind : IsBehind limit size old was command now place =
      command-behind limit size w.first old now begun was place earlier command came
      (subst (λ (es : List Event). Happen limit size w.first begun es now place) is w.came) in
      let can = follow-cases limit size old now command (change old limit command) refl sound
      behind.accepted in (
        heard.0,
        hears-new size old now was packets some (has-directory now size) can early few
            (subst (λ (p : Place). HearsBodiesIn packets now size (early_of p)) behind.place_is
            heard.1),
      )

-- who listens has all of this
pub listeners_hear : ListenersHear
listeners_hear limit size every now place before during packets w often = (
  record {
    only = only_on_air limit size now place before during packets w;
    two_ends = λ more. (tunes_in limit size now place before during packets w more).0;
    within = tunes_in_within limit size now place before during packets w;
    round = tunes_in_round limit size now place before during packets w;
    soon = λ most asked pauses enough.
        tunes_in_soon limit size every most now place before during packets w (often asked) pauses
        enough;
    change = λ earlier command is enough.
        changes_are_heard limit size now place earlier during command packets
        (subst (λ (b : List Event). IsWindow limit size now place b during packets) is w) enough;
  },
  λ asked. (
    heard_in_time limit size every now place before during packets w (often asked),
    hears_first_changes limit size every now place before during packets w (often asked),
  ),
)
