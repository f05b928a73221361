-- What taking turns between updates and packets does.
use Rattle.std.specs.Prelude.{ℕ, ◌≡◌, ◌≢◌, ◌==◌, ◌⊎◌, ◌+◌, ◌-◌, ◌<◌, nat_eq, nat_lt, Bool, true}
use Rattle.std.specs.Prelude.{false, ◌&&◌, if◌then◌else◌, List, [], ◌∷◌, ◌++◌, length, map, Option}
use Rattle.std.specs.Prelude.{Some, None, take, ⊤, Result, Ok, Err, ◌*◌, max, not, ◌||◌}
use Rattle.disk_model.specs.Disk.{State}
use Rattle.mot_journal.specs.Image.{Standing}
use Rattle.mot_numbers.specs.declared.refusal.Refusal.{Refusal}
use Rattle.mot_numbers.specs.declared.refusal.Refusal.TheVariants.{WriteFault}
use Rattle.mot_objects.specs.Carousel.{Carousel, carousel_after, carousel_if_accepted, change}
use Rattle.mot_objects.specs.Carousel.{AllKeepRules}
use Rattle.mot_objects.specs.declared.command.Command.{Command}
use Rattle.mot_packets.specs.Written.{Grows}
use Rattle.mot_player.specs.Continuity.{IsContinuous}
use Rattle.mot_player.specs.Laws.{AreSent, packets_sent, IsStep}
use Rattle.mot_player.specs.Place.{Place, Sent, changed, hear_directory, request, directory_packets}
use Rattle.mot_player.specs.Start.{start_place}
use Rattle.mot_player.specs.Turn.{Turn, turn_of_carousel}
use Rattle.mot_playout.specs.RunEnds.{RunLeaves}
use Rattle.mot_playout.specs.Runs.{accepted_commands, ServerView, place_in}
use Rattle.mot_update.specs.HasRun.{Telling, may_look}
use Rattle.mot_update.specs.Faults.{IsUpdateFault}
use Rattle.mot_update.specs.declared.moment.UpdatePoint.{UpdatePoint}
use Rattle.mot_update.specs.declared.moment.UpdatePoint.TheVariants.{AtLook, BetweenTurns, Within}
use Rattle.mot_feed.specs.declared.manner.Manner.{Manner}

-- what happens while a server is fed from: a command is accepted, the directory is asked for, or a
-- packet is sent
pub data Event : Type 0 where
  Accepted : Command → Event
  Asked : Event
  Played : Sent → Event

-- the commands among these
abbrev pub commands_among : List Event → List Command
commands_among [] = []
commands_among (Accepted command ∷ events) = command ∷ commands_among events
commands_among (event ∷ events) = commands_among events

-- what was sent among these
abbrev pub sents_in : List Event → List Sent
sents_in [] = []
sents_in (Played sent ∷ events) = sent ∷ sents_in events
sents_in (event ∷ events) = sents_in events

-- These happen, with so many objects at most and segments of this size, from a carousel and a place
-- on, and lead to another: what is sent is what the player sends there, and each accepted command
-- brings the turn of the carousel that it makes, which is followed or begins.
abbrev pub Happen : ℕ → ℕ → Carousel → Place → List Event → Carousel → Place → Type 0
Happen limit size c place [] last new = (c ≡ last) × (place ≡ new)
Happen limit size c place (Played sent ∷ events) last new =
    (request place ≡ Some sent) × Happen limit size c sent.place events last new
Happen limit size c place (Accepted command ∷ events) last new =
    (next : Carousel) × (carousel_if_accepted (change c limit command) ≡ Some next)
    × Happen limit size next (changed (turn_of_carousel next size) place) events last new
Happen limit size c place (Asked ∷ events) last new =
    Happen limit size c (hear_directory place) events last new

-- at each packet, and behind each accepted command, the carousel that stands there keeps the rules of
-- its fields
abbrev pub RulesAreKept : ℕ → Carousel → List Event → Type 0
RulesAreKept limit c [] = ⊤
RulesAreKept limit c (Played sent ∷ events) = AllKeepRules c × RulesAreKept limit c events
RulesAreKept limit c (Accepted command ∷ events) =
    (next : Carousel) → carousel_if_accepted (change c limit command) ≡ Some next
    → AllKeepRules next × RulesAreKept limit next events
RulesAreKept limit c (Asked ∷ events) = RulesAreKept limit c events

-- whether a turn has ended behind these, or none was begun
abbrev pub is_between_turns : Bool → List Event → Bool
is_between_turns ended [] = ended
is_between_turns ended (Played sent ∷ events) = is_between_turns sent.ends_turn events
is_between_turns ended (event ∷ events) = is_between_turns ended events

-- where an update comes: between turns; or within one, where a look may come, if it is to and no
-- more packets of the rest go out before it
abbrev pub moment_at : (look : ℕ) → (ended : Bool) → (left : ℕ) → UpdatePoint
moment_at look true left = BetweenTurns
moment_at look false left = if nat_lt 0 look && nat_eq left 0 then AtLook else Within

-- How many packets of the rest go out before a look may come within a turn, behind this one: from
-- where one may come they are counted anew, and a packet is one of the rest if no changed body
-- waits behind it.
abbrev pub left_behind : (look : ℕ) → (ended : Bool) → (left : ℕ) → Sent → ℕ
left_behind look ended left sent =
    (if may_look (moment_at look ended left) then look else left)
    - (if sent.place.early == 0 then 1 else 0)

-- the same behind what happened
abbrev pub left_after : ℕ → Bool → ℕ → List Event → ℕ
left_after look ended left [] = left
left_after look ended left (Played sent ∷ events) =
    left_after look sent.ends_turn (left_behind look ended left sent) events
left_after look ended left (event ∷ events) = left_after look ended left events

-- where an update comes behind these
abbrev pub moment_behind : ℕ → List Event → UpdatePoint
moment_behind look events =
    moment_at look (is_between_turns true events) (left_after look true 0 events)

-- behind what feeding stands: a packet, or nothing yet; or a call of the update, which this fault
-- broke off, or none
pub data Stage : Type 0 where
  Ready : Stage
  Called : Option Refusal → Stage

-- what broke off the commands
abbrev pub fault_at : Stage → Option Refusal
fault_at Ready = None
fault_at (Called fault) = fault

-- What an update tells of these events, and of these commands with their marks. It was called once
-- in front of each packet, and nowhere else. The commands are those of its calls, one call behind
-- the other: each that a fault did not break off had all of its commands answered, and found the
-- carousel that those before it had made. The accepted ones are among the events.
pub data AreTold {U : Type 0} (tells : U → U → UpdatePoint → Telling) (look limit : ℕ) (old : U)
    (c : Carousel) : Stage → List Event → List Command → List Bool → U → Carousel → Type 0 where
  no_call : AreTold tells look limit old c Ready [] [] [] old c
  one_call : (events : List Event) (earlier commands : List Command)
      (earlier_marks marks : List Bool) (mid new : U) (found next : Carousel)
      (fault : Option Refusal)
      → AreTold tells look limit old c Ready events earlier earlier_marks mid found
      → tells mid new (moment_behind look events) found commands marks fault
      → (fault ≡ None → length marks ≡ length commands)
      → carousel_after found limit (accepted_commands commands marks) ≡ Some next
      → AreTold tells look limit old c (Called fault)
      (events ++ map Accepted (accepted_commands commands marks)) (earlier ++ commands)
      (earlier_marks ++ marks) new next
  one_asked : (events : List Event) (commands : List Command) (marks : List Bool) (mid : U)
      (found : Carousel)
      → AreTold tells look limit old c (Called None) events commands marks mid found
      → AreTold tells look limit old c (Called None) (events ++ Asked ∷ []) commands marks mid
      found
  one_played : (events : List Event) (sent : Sent) (commands : List Command) (marks : List Bool)
      (mid : U) (found : Carousel)
      → AreTold tells look limit old c (Called None) events commands marks mid found
      → AreTold tells look limit old c Ready (events ++ Played sent ∷ []) commands marks mid found

-- how many turns end in these
abbrev pub turns_in : List Event → ℕ
turns_in [] = 0
turns_in (Played sent ∷ events) = (if sent.ends_turn then 1 else 0) + turns_in events
turns_in (event ∷ events) = turns_in events

-- these packets are what was sent
pub record AreOf (events : List Event) (packets : List (List ℕ)) : Type 0 where
  pub bytes : packets ≡ packets_sent (sents_in events)
  pub read : AreSent (sents_in events) packets

-- These commands were run, and what they leave is told as of one run of them all; and packets were
-- sent between them.
pub record HasFed {D : Type 0} (old new : ServerView D) (start now : State) (s : Standing)
    (commands : List Command) (marks : List Bool) (fault : Option Refusal) (events : List Event) :
    Type 0 where
  pub leaves : RunLeaves old.view new.view start now s commands marks fault
  pub whole : fault ≡ None → length marks ≡ length commands
  pub layout : new.view.journal.layout ≡ old.view.journal.layout
  pub accepted : commands_among events ≡ accepted_commands commands marks
  pub happened : Happen s.geometry.objects s.geometry.segment s.carousel (place_in old s)
      events leaves.last.carousel (place_in new leaves.last)
  pub rules : RulesAreKept s.geometry.objects s.carousel events

-- In these, before and after are the writes of an outlet, as far as they are known.

-- How feeding ended, by this refusal or by none, and where: so many turns have ended, or so many
-- packets were sent that their number fits no word of 64 bits; or the refusal came of a call, which
-- it broke off, of a packet behind a call, or of the write of the last packet, which took less than
-- the whole. Each other packet was written in one write.
pub data EndsFeed (turns : ℕ) (events : List Event) (packets : List (List ℕ))
    (before after : Option (List (List ℕ))) : (ending : Option Refusal) → Stage → Type 0 where
  all_turns : turns_in events ≡ turns → is_between_turns true events ≡ true
      → Grows before after packets → EndsFeed turns events packets before after None Ready
  all_numbers : length packets ≡ 18446744073709551615 → Grows before after packets
      → EndsFeed turns events packets before after None Ready
  of_call : (refusal : Refusal) → refusal ≢ WriteFault → Grows before after packets
      → EndsFeed turns events packets before after (Some refusal) (Called (Some refusal))
  of_packet : (refusal : Refusal) → refusal ≢ WriteFault → Grows before after packets
      → EndsFeed turns events packets before after (Some refusal) (Called None)
  of_write : (others : List (List ℕ)) (last : List ℕ) (count : ℕ) → packets ≡ others ++ last ∷ []
      → count < length last → Grows before after (others ++ take count last ∷ [])
      → EndsFeed turns events packets before after (Some WriteFault) Ready

-- why feeding ended, on every disk: as an update does, or since a write failed
abbrev pub IsFeedFault : {D : Type 0} → ServerView D → (start now : State) → Refusal → Type 0
IsFeedFault old start now refusal = IsUpdateFault old start now refusal
    ⊎ ((refusal ≡ WriteFault) × (now.failures ≡ start.failures))

-- Of a server just opened, whether it follows or not, all packets have their continuity indexes,
-- whatever updates come between them.
abbrev pub FedPacketsAreContinuous : Type 0
FedPacketsAreContinuous =
    (limit size : ℕ) (c last : Carousel) (address room cursor : ℕ) (turn : Turn)
    (follows : Option ℕ) (newest_first : Bool) (events : List Event) (new : Place)
    (packets : List (List ℕ)) → 0 < room
    → Happen limit size c (start_place address room size turn cursor follows newest_first) events last
    new
    → AreOf events packets → IsContinuous packets

-- A packet sent, in one write.

-- one request, whose packet was written in one write, in part or not at all, or not made
pub data SendsPacket (result : Result Bool Refusal) (old new : Place)
    (before after : Option (List (List ℕ))) : Type 0 where
  whole : (packet : List ℕ) (ends : Bool) → result ≡ Ok ends → IsStep old packet ends new
      → Grows before after (packet ∷ []) → SendsPacket result old new before after
  short : (packet : List ℕ) (ends : Bool) (count : ℕ) → result ≡ Err WriteFault
      → IsStep old packet ends new → count < length packet
      → Grows before after (take count packet ∷ []) → SendsPacket result old new before after
  none : (refusal : Refusal) → refusal ≢ WriteFault → result ≡ Err refusal → new ≡ old
      → Grows before after [] → SendsPacket result old new before after

-- What feeding in a manner does: the directory is asked for often, or not.

-- how many packets go out before the directory is asked for again, at least ten times those that it
-- takes itself
abbrev pub pause : ℕ → Place → ℕ
pause every place = max every (10 * directory_packets place)

-- the directory is due if a turn has ended or none was begun, or if no more packets are to be sent
-- before it
abbrev pub is_due : Bool → ℕ → Bool
is_due ended left = ended || nat_eq left 0

-- So many more packets are sent until the directory is due; it is asked for when it is due, and at
-- no other time; after the packet that follows, a pause of packets begins, and so on. There is no
-- number if it was just asked for.
abbrev pub is_often : ℕ → (ended : Bool) → Option ℕ → List Event → Bool
is_often every ended left [] = true
is_often every ended left (Accepted command ∷ events) = is_often every ended left events
is_often every ended None (Asked ∷ events) = false
is_often every ended None (Played sent ∷ events) =
    is_often every sent.ends_turn (Some (pause every sent.place)) events
is_often every ended (Some left) (Asked ∷ events) =
    is_due ended left && is_often every ended None events
is_often every ended (Some left) (Played sent ∷ events) =
    not (is_due ended left) && is_often every sent.ends_turn (Some (left - 1)) events

-- it is asked for before the first packet, and then often, and no oftener
abbrev pub IsOften : ℕ → List Event → Type 0
IsOften every events = is_often every true (Some 0) events ≡ true

-- after how many packets of a turn a look may come: where the directory does not come within turns,
-- looks come between turns alone
abbrev pub look_in : Manner → ℕ
look_in how = if how.directory == 0 then 0 else how.look

-- The server as it is fed: where the directory comes within turns, it follows changes, with at most
-- so many bodies early; and else it is as it was, and a change begins the turn anew.
abbrev pub server_for : {D : Type 0} → Manner → ServerView D → ServerView D
server_for how server = record server {
  player = record server.player {
    follows = if how.directory == 0 then server.player.follows else Some how.early;
  };
}

-- whether changed turns are followed so, with at most so many bodies early
abbrev pub follows_in : Manner → Option ℕ
follows_in how = if how.directory == 0 then None else Some how.early

-- Turns were fed, so many if nothing ended feeding before. All commands that were run are those of
-- the calls of the update, which was the first and is the last.
pub record Feeds {D U : Type 0} (tells : U → U → UpdatePoint → Telling) (how : Manner)
    (ending : Option Refusal) (first last : U) (old new : ServerView D) (start now : State)
    (s : Standing) (before after : Option (List (List ℕ))) : Type 0 where
  pub stage : Stage
  pub events : List Event
  pub commands : List Command
  pub marks : List Bool
  pub fed : HasFed (server_for how old) new start now s commands marks (fault_at stage) events
  pub told : AreTold tells (look_in how) s.geometry.objects first s.carousel stage events commands
      marks last fed.leaves.last.carousel
  pub packets : List (List ℕ)
  pub are : AreOf events packets
  pub ends : EndsFeed how.turns events packets before after ending stage
  pub often : 0 < how.directory → IsOften how.directory events
