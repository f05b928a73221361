-- Playing a disk, from its opening on.
use Rattle.std.proofs.Common.{◌≡◌, ◌∙◌, ◌<◌, arith, ℕ, Bool, true, false, List, None, Option, Some}
use Rattle.std.proofs.Common.{Result, Ok, Err, ap, append_assoc, inl, inr, subst, sym, ◌++◌}
use Rattle.std.specs.Prelude.{IsFalse, OnOk, IfErr, MatchResult, ◌==◌, if◌then◌else◌}
use Rattle.std.proofs.lemmas.Bool.{ne_eqb}
use Rattle.std.proofs.lemmas.Bool.Decides.{nat_tests}
use Rattle.disk_model.proofs.Laws.{keeps_on}
use Rattle.disk_model.specs.Disk.{State, IsHonestDisk, KeepsLength, OnlySyncs}
use Rattle.mot_air.specs.Playing.{HasAired, IsServed, Plays, Tale, each_packet, look_of_feed}
use Rattle.mot_air.specs.Playing.{is_endless, place_at_start, tale_of}
use Rattle.mot_feed.specs.declared.manner.Manner.{Manner}
use Rattle.mot_air.specs.Commands.{PlaysInto, Sends}
use Rattle.mot_endpoints.specs.declared.packets.Destination.{Destination}
use Rattle.mot_files.specs.Call.{Call}
use Rattle.mot_files.specs.declared.system.Handle.{Handle}
use Rattle.mot_update.proofs.Laws.{ends_off, opened_leaves, AllAre, all_hold, openable}
use Rattle.mot_endpoints.specs.declared.packets.Target.{Target}
use Rattle.mot_feed.specs.Feeding.{AreOf, AreTold, Event, Happen, HasFed, IsFeedFault, RulesAreKept}
use Rattle.mot_feed.specs.Feeding.{Stage, fault_at, Feeds, IsOften, follows_in, is_often}
use Rattle.mot_feed.specs.Feeding.{server_for}
use Rattle.mot_journal.specs.Image.{Standing}
use Rattle.mot_numbers.specs.Geometry.{IsValid, packet_room, is_valid}
use Rattle.mot_numbers.specs.declared.geometry.Geometry.{Geometry}
use Rattle.mot_numbers.specs.declared.refusal.Refusal.{Refusal}
use Rattle.mot_objects.specs.Carousel.{Carousel, IsSound, AllKeepRules}
use Rattle.mot_objects.specs.declared.command.Command.{Command}
use Rattle.mot_player.specs.Place.{Place}
use Rattle.mot_player.specs.Start.{start_place}
use Rattle.mot_player.specs.Turn.{turn_of_carousel}
use Rattle.mot_feed.proofs.Laws.{changed_turns_read, continuous, happen-apart, listeners_hear}
use Rattle.mot_feed.proofs.Laws.{nobody_starves, often-front, rules_behind, rules_front}
use Rattle.mot_feed.proofs.Laws.{rules_of_turn, rules_of_window, turns_read}
use Rattle.mot_update.specs.Opening.{IsOpenable}
use Rattle.mot_repository.proofs.Laws.{rules_kept, standings-are_sound}
use Rattle.mot_repository.specs.Opening.{IsOpened}
use Rattle.mot_repository.specs.Repository.{Agrees, Holds}
use Rattle.mot_playout.proofs.Laws.{valid_is}
use Rattle.mot_playout.specs.Attempts.{fault_of}
use Rattle.mot_playout.specs.Runs.{ServerView, place_in}
use Rattle.mot_update.specs.HasRun.{Telling}
use Rattle.mot_update.specs.Faults.{StaysCalm}
use Rattle.mot_update.specs.declared.moment.UpdatePoint.{UpdatePoint}

some_room : (g : Geometry) → is_valid g ≡ true → 0 < packet_room g
some_room g is = grind (arith, nat_tests)

-- what is told of both ways that a feed ended
both : (P : Type 0) (Q : Refusal → Type 0) (result : Result Unit Refusal) → OnOk result P
    → IfErr result Q → MatchResult result (λ _. P) Q
both P Q (Ok done) p q = p
both P Q (Err refusal) p q = q

module _ {D : Type 0} (state : D → State) (disk : D) (server new : ServerView D)
    (sound : (d : D) → (state d).IsHonest → IsHonestDisk (state d))
    (opens : OnlySyncs (state disk) (state server.disk))
    (opened : (state server.disk).IsHonest → IsOpened (state disk) (state server.disk) server.view)
    (calm : (state server.disk).failures ≡ (state disk).failures)
    (going : IsFalse server.view.halted)
    (how : Manner)
    (at_start : (s : Standing) → Agrees server.view s
    → place_in (server_for how server) s ≡ place_at_start how s)
    (valid : is_valid server.view.journal.geometry ≡ true)
    (keeps : KeepsLength (state server.disk) (state new.disk)) where
  holds_opened : (s : Standing) → (state new.disk).IsHonest → AllAre s (state disk)
      → Holds server.view s (state server.disk)
  holds_opened s honest all =
      let was = keeps.was_honest honest in
      all_hold (state disk) (state server.disk) server.view s
      (sound disk (opens.keeps.was_honest was)) all (opened was) was (sound server.disk was)
      (opens.still was)
      going

  keeps_from : KeepsLength (state disk) (state new.disk)
  keeps_from = keeps_on (state disk) (state server.disk) (state new.disk) opens.keeps keeps

  openable_from : IsOpenable (state disk) (state new.disk)
  openable_from =
      openable (state disk) (state server.disk) (state new.disk) server.view (sound disk)
      (sound server.disk) opens opened going keeps.was_honest

  room : (s : Standing) → Agrees server.view s → 0 < packet_room s.geometry
  room s agrees =
      subst (λ (g : Geometry). 0 < packet_room g) agrees.geometry
      (some_room server.view.journal.geometry valid)

  sound_carousel : (s : Standing) → (state new.disk).IsHonest → AllAre s (state disk)
      → IsSound s.carousel
  sound_carousel s honest all =
      let first = sound disk (opens.keeps.was_honest (keeps.was_honest honest)) in
      let bytes = (state disk).bytes in
      (standings-are_sound bytes s (first.images bytes first.bytes).are_bytes
      (all bytes first.bytes).stands).0

  rules_first : (s : Standing) → (state new.disk).IsHonest → AllAre s (state disk)
      → AllKeepRules s.carousel
  rules_first s honest all =
      let first = sound disk (opens.keeps.was_honest (keeps.was_honest honest)) in
      let bytes = (state disk).bytes in
      rules_kept bytes s (first.images bytes first.bytes).are_bytes (all bytes first.bytes).stands

  sizes : (s : Standing) → Agrees server.view s → IsValid s.geometry
  sizes s agrees = subst IsValid agrees.geometry (valid_is server.view.journal.geometry valid)

  -- nobody starved among any of the events, where changes are followed
  served : (s : Standing) (events : List Event) (made : Carousel) (after : Place)
      → (state new.disk).IsHonest → AllAre s (state disk) → Agrees server.view s
      → 0 < how.directory
      → Happen s.geometry.objects s.geometry.segment s.carousel (place_at_start how s) events made
      after
      → RulesAreKept s.geometry.objects s.carousel events → (before during others : List Event)
      → before ++ (during ++ others) ≡ events → IsServed s how before during
  served s events made after honest all agrees asked happened rules before during others all_of =
      let limit = s.geometry.objects in
      let size = s.geometry.segment in
      let is_valid = sizes s agrees in
      let some : (how.directory == 0) ≡ false =
      ne_eqb how.directory 0 (λ e. omega (arith, e, asked)) in
      let turn = turn_of_carousel s.carousel size in
      let room_is = packet_room s.geometry in
      let start : place_at_start how s
      ≡ start_place s.geometry.address room_is size turn s.carousel.cursor (Some how.early) (is_endless how) =
      ap (λ (b : Bool). start_place s.geometry.address room_is size turn s.carousel.cursor
      (if b then None else Some how.early) (is_endless how)) some in
      let front = happen-apart limit size s.carousel made (place_at_start how s) after before
      (during ++ others) (subst (λ (es : List Event). Happen limit size s.carousel
      (place_at_start how s) es made after) (sym all_of) happened) in
      let mid = happen-apart limit size front.now made front.mid after during others front.behind in
      record {
        now = front.now;
        last = mid.now;
        place = front.mid;
        new = mid.mid;
        came = front.before;
        happened = mid.before;
        serves = nobody_starves limit size front.now front.mid before during (record {
          first = s.carousel;
          address = s.geometry.address;
          room = packet_room s.geometry;
          most = how.early;
          newest_first = is_endless how;
          few = is_valid.1;
          some_size = omega (arith, is_valid.4);
          some = room s agrees;
          sound = sound_carousel s honest all;
          rules_first = rules_first s honest all;
          came = subst (λ (p : Place). Happen limit size s.carousel p before front.now front.mid)
              start front.before;
          last = mid.now;
          new = mid.mid;
          happened = mid.before;
          rules = rules_front limit s.carousel (before ++ during) others
              (subst (λ (es : List Event). RulesAreKept limit s.carousel es)
              (sym (append_assoc before during others ∙ all_of)) rules);
        });
      }

  module _ {U : Type 0} (tells : U → U → UpdatePoint → Telling) (first last : U) where
    -- what is told of it
    abbrev tale : Tale
    tale = tale_of tells how first last

    has_played : (s : Standing) (stage : Stage) (events : List Event) (commands : List Command)
        (marks : List Bool) (packets : List (List ℕ)) → (state new.disk).IsHonest
        → AllAre s (state disk)
        → (fed : HasFed (server_for how server) new (state server.disk) (state new.disk) s commands
        marks (fault_at stage) events)
        → AreOf events packets
        → AreTold tells (look_of_feed how) s.geometry.objects first s.carousel stage events commands
        marks last fed.leaves.last.carousel
        → (0 < how.directory → IsOften how.directory events)
        → HasAired s tale how stage events packets (state disk) (state new.disk)
    has_played s stage events commands marks packets honest all fed are told often =
        let was = keeps.was_honest honest in
        let holds = holds_opened s honest all in
        let made : Standing = fed.leaves.last in
        let happened = subst (λ (p : Place). Happen s.geometry.objects s.geometry.segment
        s.carousel p events made.carousel (place_in new made))
        (at_start s holds.agrees) fed.happened in
        record {
          last = made;
          place = place_in new made;
          happened = happened;
          commands = commands;
          marks = marks;
          told = told;
          accepted = fed.accepted;
          after = fed.leaves.after;
          stands = λ fine. (fed.leaves.going fine).each;
          leaves = opened_leaves (state disk) (state server.disk) (state new.disk) server.view
              new.view s commands marks (fault_at stage)
              (sound disk (opens.keeps.was_honest was)) all
              (opens.still was) fed.leaves;
          are = are;
          continuous = continuous s.geometry.objects s.geometry.segment s.carousel
              made.carousel s.geometry.address (packet_room s.geometry) s.carousel.cursor
              (turn_of_carousel s.carousel s.geometry.segment)
              (follows_in how) (is_endless how) events (place_in new made) packets
              (room s holds.agrees) happened are;
          turns_read = λ before during others all_of c left place after of came goes is_one
              are_of.
              let is_valid = sizes s holds.agrees in
              let limit = s.geometry.objects in
              let rules = rules_of_turn limit c during others is_one
              (rules_behind limit s.geometry.segment s.carousel c
              (place_at_start how s) place before (during ++ others)
              (subst (λ l. RulesAreKept limit s.carousel l) (sym all_of) fed.rules) came) in (
                (λ begins. turns_read s.geometry.objects s.geometry.segment s.carousel c left
                    s.geometry.address (packet_room s.geometry)
                    (follows_in how) (is_endless how) before during place after of
                    is_valid.1 (is_valid.4, is_valid.5) (room s holds.agrees)
                    (sound_carousel s honest all) came begins rules goes is_one are_of),
                (λ ended. changed_turns_read s.geometry.objects s.geometry.segment s.carousel c left
                    s.geometry.address (packet_room s.geometry)
                    (follows_in how) (is_endless how) before during place after of
                    is_valid.1 (is_valid.4, is_valid.5) (room s holds.agrees)
                    (sound_carousel s honest all) came ended (rules_first s honest all)
                    (rules_front limit s.carousel before (during ++ others)
                    (subst (λ l. RulesAreKept limit s.carousel l) (sym all_of) fed.rules))
                    goes is_one are_of),
              );
          often = often;
          listens = λ before during others all_of c left place after of came goes quiet are_of some.
              let is_valid = sizes s holds.agrees in
              let limit = s.geometry.objects in
              let rules = rules_of_window limit c during others of quiet are_of some
              (rules_behind limit s.geometry.segment s.carousel c
              (place_at_start how s) place before (during ++ others)
              (subst (λ l. RulesAreKept limit s.carousel l) (sym all_of) fed.rules) came) in
              listeners_hear limit s.geometry.segment how.directory c place before during of (record {
                first = s.carousel;
                address = s.geometry.address;
                room = packet_room s.geometry;
                follows = follows_in how;
                newest_first = is_endless how;
                few = is_valid.1;
                range = (is_valid.4, is_valid.5);
                some = room s holds.agrees;
                sound = sound_carousel s honest all;
                came = came;
                rules = rules;
                last = left;
                new = after;
                happened = goes;
                quiet = quiet;
                are = are_of;
              }) (λ asked. often-front how.directory true (Some 0) (before ++ during) others
              (ap (λ (es : List Event). is_often how.directory true (Some 0) es)
              (append_assoc before during others ∙ all_of) ∙ often asked));
          nobody_starves = λ asked. served s events made.carousel (place_in new made) honest all
              holds.agrees asked happened fed.rules;
        }

    -- what is fed of an open server plays the disk, from its opening on, up to the feed's ending
    pub plays : (before after : Option (List (List ℕ))) (result : Result Unit Refusal)
        → OnOk result (StaysCalm server new (state server.disk) (state new.disk))
        → IfErr result (λ r. IsFeedFault server (state server.disk) (state new.disk) r)
        → ((s : Standing) → Holds server.view s (state server.disk) → (state new.disk).IsHonest
        → Feeds tells (each_packet how) (fault_of result) first last server new (state server.disk)
        (state new.disk) s before after)
        → Plays tale how (fault_of result) before after (state disk) (state new.disk)
    plays before after result stays why feeds = record {
      keeps = keeps_from;
      came = inr (
        openable_from,
        ends_off server new (state disk) (state server.disk) (state new.disk) result going calm
            (both (StaysCalm server new (state server.disk) (state new.disk))
            (λ r. IsFeedFault server (state server.disk) (state new.disk) r) result stays why),
        λ s honest all. let fed = feeds s (holds_opened s honest all) honest in record {
          stage = fed.stage;
          events = fed.events;
          packets = fed.packets;
          played = has_played s fed.stage fed.events fed.commands fed.marks fed.packets honest
              all fed.fed fed.are fed.told fed.often;
          ends = fed.ends;
        },
      );
    }

-- a disk that was played into a target kept its length
pub into_keeps : (target : Target) (told : Tale) (Reads : Option Refusal → Type 0) (how : Manner)
    (ending : Option Refusal) (begun taken : List (List ℕ)) (start now : State)
    → PlaysInto target told Reads how ending begun taken start now → KeepsLength start now
into_keeps target told Reads how ending begun taken start now (inl is) = is.0.keeps
into_keeps target told Reads how ending begun taken start now (inr lost) = lost.2.keeps

-- what was sent so was sent so, too
pub sends_as : (destination : Destination) (handle : Handle) (ending : Option Refusal)
    (P Q : (begun taken : List (List ℕ)) → Type 0) (old new : List Call)
    → ((begun taken : List (List ℕ)) → P begun taken → Q begun taken)
    → Sends destination handle ending P old new → Sends destination handle ending Q old new
sends_as destination handle ending P Q old new more is = record {
  sent = is.sent;
  then_handle = is.then_handle;
  played = more _ _ is.played;
  told = is.told;
  fault = is.fault;
  cause = is.cause;
  reason = is.reason;
  ended = is.ended;
}
