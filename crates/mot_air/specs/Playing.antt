-- What playing a disk writes, and what it leaves of the disk.
use Rattle.std.specs.Prelude.{◌≡◌, ℕ, ◌<◌, min, Bool, true, false, List, [], ◌++◌, length, Option}
use Rattle.std.specs.Prelude.{is_some, not, ◌&&◌, ◌==◌, None}
use Rattle.std.specs.Option.{option_map_or}
use Rattle.disk_model.specs.Disk.{State, Throughout}
use Rattle.mot_update.specs.Ending.{EndsBy, Leaves}
use Rattle.mot_feed.specs.declared.manner.Manner.{Manner}
use Rattle.mot_feed.specs.Ends.{ServesAll}
use Rattle.mot_feed.specs.Feeding.{AreOf, AreTold, EndsFeed, Event, Happen, Stage, commands_among}
use Rattle.mot_feed.specs.Feeding.{fault_at, is_between_turns, IsOften, follows_in, look_in}
use Rattle.mot_feed.specs.Feeding.Stage.{Ready}
use Rattle.mot_feed.specs.Listening.{HearsFirstChanges, IsHeard, IsHeardInTime, is_quiet}
use Rattle.mot_feed.specs.OnAir.{asks, begins_turn, is_turn}
use Rattle.mot_journal.specs.Image.{Standing}
use Rattle.mot_numbers.specs.Geometry.{packet_room}
use Rattle.mot_numbers.specs.Refusal.{is_device_fault}
use Rattle.mot_numbers.specs.declared.refusal.Refusal.{Refusal}
use Rattle.mot_objects.specs.Carousel.{Carousel}
use Rattle.mot_objects.specs.declared.command.Command.{Command}
use Rattle.mot_packets.specs.Written.{Grows}
use Rattle.mot_player.specs.Continuity.{IsContinuous}
use Rattle.mot_player.specs.Place.{Place}
use Rattle.mot_player.specs.Repeats.{ReadAsTurn, ReadsOnceAs}
use Rattle.mot_player.specs.Start.{start_place}
use Rattle.mot_player.specs.Turn.{turn_of_carousel}
use Rattle.mot_repository.specs.Repository.{IsOf}
use Rattle.mot_playout.specs.Runs.{IsAfter, accepted_commands, StandsAfterSome, commands_in_flight}
use Rattle.mot_update.specs.HasRun.{Telling}
use Rattle.mot_update.specs.declared.moment.UpdatePoint.{UpdatePoint}
use Rattle.mot_journal.specs.Journal.{standing_from}
use Rattle.mot_numbers.specs.declared.geometry.Geometry.{Geometry}

-- it is played without end
abbrev pub is_endless : Manner → Bool
is_endless how = how.turns == 18446744073709551615

-- Where a server that was opened of a disk that stood for s begins to be played so: where the
-- directory is sent again within turns it follows changes, and without end it begins with the newest
-- bodies; and else a change begins the turn anew.
abbrev pub place_at_start : Manner → Standing → Place
place_at_start how s =
    start_place s.geometry.address (packet_room s.geometry) s.geometry.segment
    (turn_of_carousel s.carousel s.geometry.segment) s.carousel.cursor (follows_in how)
    (is_endless how)

-- a look may come in front of each packet, or only between turns
abbrev pub each_packet : Manner → Manner
each_packet how = record how { look = min how.look 1 }

abbrev pub look_of_feed : Manner → ℕ
look_of_feed how = look_in (each_packet how)

-- What is told of the events of a feed, up to a stage: with room for so many objects they lead from
-- one carousel to the other, by these commands with their marks, which come of something beside the
-- disk.
abbrev pub Tale : Type 1
Tale = (limit : ℕ) → Carousel → Stage → List Event → List Command → List Bool → Carousel → Type 0

-- what an update tells, call by call, that was the first before and is the last now
abbrev pub tale_of : {U : Type 0} → (U → U → UpdatePoint → Telling) → Manner → (first last : U) → Tale
tale_of tells how first last limit c stage events commands marks made =
    AreTold tells (look_of_feed how) limit first c stage events commands marks last made

-- Where a whole turn comes behind these events of a server just opened, its packets read as exactly
-- the carousel that stands there. If the turn before ended, they do so whatever commands came
-- since, and of each segment that is sent again the first counts.
abbrev pub TurnReads : Standing → Manner → (before during : List Event) → Type 0
TurnReads s how before during =
    (c made : Carousel) (place new : Place) (packets : List (List ℕ))
    → Happen s.geometry.objects s.geometry.segment s.carousel
    (place_at_start how s) before c place
    → Happen s.geometry.objects s.geometry.segment c place during made new
    → is_turn during ≡ true → AreOf during packets
    → (begins_turn (is_some (follows_in how)) true
    (not (is_some (follows_in how) && is_endless how)) before ≡ true
    → ReadAsTurn (asks during) packets c s.geometry.segment)
    × (is_between_turns true before ≡ true → ReadsOnceAs packets c s.geometry.segment)

-- Who begins to listen behind these events of a server just opened at any packet, and hears the
-- packets of these, among which no command is accepted, has what is on air.
abbrev pub Listens : Standing → Manner → (before during : List Event) → Type 0
Listens s how before during =
    (c made : Carousel) (place new : Place) (packets : List (List ℕ))
    → Happen s.geometry.objects s.geometry.segment s.carousel
    (place_at_start how s) before c place
    → Happen s.geometry.objects s.geometry.segment c place during made new
    → is_quiet during ≡ true → AreOf during packets → 0 < length packets
    → IsHeard how.directory s.geometry.segment c place before during packets
    × (0 < how.directory
    → IsHeardInTime how.directory s.geometry.segment c place before during packets
    × HearsFirstChanges s.geometry.objects s.geometry.segment s.carousel (place_at_start how s)
    c place before packets)

-- Behind these events of a server just opened a carousel stood there, and the server at a place; the
-- others came from there on, and nobody starved among them.
pub record IsServed (s : Standing) (how : Manner) (before during : List Event) : Type 0 where
  pub now : Carousel
  pub last : Carousel
  pub place : Place
  pub new : Place
  pub came : Happen s.geometry.objects s.geometry.segment s.carousel (place_at_start how s) before
      now place
  pub happened : Happen s.geometry.objects s.geometry.segment now place during last new
  pub serves : ServesAll s.geometry.objects s.geometry.segment now place during

-- These happened on a server that was opened of a disk that stood for s: the commands, of which
-- this is told, left this of the disk, and the packets are these, with their continuity indexes.
pub record HasAired (s : Standing) (tale : Tale) (how : Manner) (stage : Stage)
    (events : List Event) (packets : List (List ℕ)) (start now : State) : Type 0 where
  pub last : Standing
  pub place : Place
  pub happened : Happen s.geometry.objects s.geometry.segment s.carousel
      (place_at_start how s) events last.carousel place
  pub commands : List Command
  pub marks : List Bool
  pub told : tale s.geometry.objects s.carousel stage events commands marks last.carousel
  pub accepted : commands_among events ≡ accepted_commands commands marks
  -- where the disk did not fail it stands for what they make of it
  pub after : IsAfter s (accepted_commands commands marks) last
  pub stands : option_map_or is_device_fault (fault_at stage) false ≡ false
      → (image : List ℕ) → now.MayLeave image → IsOf last image
  pub leaves : Leaves s commands marks (fault_at stage) start now
  pub are : AreOf events packets
  pub continuous : IsContinuous packets
  pub turns_read : (before during others : List Event) → before ++ (during ++ others) ≡ events
      → TurnReads s how before during
  -- the directory is asked for often, and who listens from any packet on has what is on air
  pub often : 0 < how.directory → IsOften how.directory events
  pub listens : (before during others : List Event) → before ++ (during ++ others) ≡ events
      → Listens s how before during
  -- and where changes are followed nobody starves: turns end, and each body that stays is sent
  pub nobody_starves : 0 < how.directory → (before during others : List Event)
      → before ++ (during ++ others) ≡ events → IsServed s how before during

-- The packets were written up to this ending: where a write failed, the last of them is cut or
-- missing, and no command was in flight.
pub record WritesPackets (tale : Tale) (how : Manner) (ending : Option Refusal)
    (before after : Option (List (List ℕ))) (start now : State) (s : Standing) : Type 0 where
  pub stage : Stage
  pub events : List Event
  pub packets : List (List ℕ)
  pub played : HasAired s tale how stage events packets start now
  pub ends : EndsFeed how.turns events packets before after ending stage

-- the disk was played, up to this ending; where it was not opened, nothing was written or run
abbrev pub Plays : Tale → Manner → Option Refusal → (before after : Option (List (List ℕ)))
    → (start now : State) → Type 0
Plays tale how ending before after start now =
    EndsBy ending
    (Grows before after [] × ((limit : ℕ) (c : Carousel) → tale limit c Ready [] [] [] c))
    (WritesPackets tale how ending before after start now) start now

-- Lives with playing in them: a disk that was formatted is played, perhaps a crash comes, what it
-- left is played again, and so on.

-- All of these commands are done since the formatting, and nothing else is: what they make of the
-- new carousel, whose directory has this id, stands on each image that a crash now may leave.
pub record KeepsDone (g : Geometry) (first : ℕ) (done : List Command) (now : State) :
    Type 0 where
  pub standing : Standing
  pub after : IsAfter (standing_from g first standing.rest) done standing
  pub each : (image : List ℕ) → now.MayLeave image → IsOf standing image

-- A disk on which these commands were done was played, up to this ending. At each moment since then
-- a crash leaves all of them, and a beginning of those that were accepted between packets and of
-- the one in flight; and now it leaves all but the latter. That is the command, of those that are
-- told, behind the answered ones where a disk fault broke off the last call. At the end of playing
-- there is no such one, so that the next life goes on from there.
pub record AirsOn (g : Geometry) (first : ℕ) (done : List Command) (tale : Tale) (how : Manner)
    (ending : Option Refusal) (before after : Option (List (List ℕ))) (start now : State) :
    Type 0 where
  pub standing : Standing
  pub was : IsAfter (standing_from g first standing.rest) done standing
  pub writes : WritesPackets tale how ending before after start now standing
  pub in_flight : List Command
  pub is : in_flight
      ≡ commands_in_flight writes.played.commands writes.played.marks (fault_at writes.stage)
  pub any_moment : Throughout start now (StandsAfterSome (standing_from g first standing.rest) done
      (commands_among writes.events ++ in_flight))
  pub at_end : (image : List ℕ) → now.MayLeave image → StandsAfterSome
      (standing_from g first standing.rest)
      (done ++ commands_among writes.events) in_flight image
  pub goes_on : ending ≡ None
      → (in_flight ≡ []) × KeepsDone g first (done ++ commands_among writes.events) now
