-- Who begins to listen to a feed at any packet.
use Rattle.std.specs.Prelude.{◌≡◌, ℕ, ◌+◌, ◌*◌, ◌≤◌, ◌<◌, nat_le, Bool, true, false, ◌&&◌, ◌||◌}
use Rattle.std.specs.Prelude.{List, [], ◌∷◌, ◌++◌, length, Option}
use Rattle.mot_feed.specs.Feeding.{Accepted, AreOf, Asked, Event, Happen, Played, turns_in, IsOften}
use Rattle.mot_feed.specs.Feeding.{pause}
use Rattle.mot_numbers.specs.declared.geometry.TheConstants.{MAX_OBJECTS}
use Rattle.mot_numbers.specs.declared.numbers.TheConstants.{MAX_SEGMENT, MIN_SEGMENT}
use Rattle.mot_objects.specs.Carousel.{Carousel, IsSound, AllKeepRules}
use Rattle.mot_objects.specs.declared.command.Command.{Command}
use Rattle.mot_listening.specs.Listening.{HearsBodiesIn, HearsCarousel, HearsEntity, HearsNewBodies}
use Rattle.mot_listening.specs.Listening.{HearsOnly}
use Rattle.mot_listening.specs.Waits.{all_packets, change_packets, change_within, early_packets}
use Rattle.mot_listening.specs.Waits.{left_packets, longest_group, round_packets, soon_packets}
use Rattle.mot_listening.specs.Waits.{turn_packets}
use Rattle.mot_player.specs.Place.{Place, bodies_not_begun, directory_packets, early_of, most_early}
use Rattle.mot_player.specs.Start.{start_place}
use Rattle.mot_player.specs.Turn.{turn_of_carousel}

-- no command is accepted among these
abbrev pub is_quiet : List Event → Bool
is_quiet [] = true
is_quiet (Accepted command ∷ events) = false
is_quiet (event ∷ events) = is_quiet events

-- how often the directory is asked for among these
abbrev pub asks_in : List Event → ℕ
asks_in [] = 0
asks_in (Asked ∷ events) = 1 + asks_in events
asks_in (event ∷ events) = asks_in events

-- no pause that begins behind one of these packets is longer than so many packets
abbrev pub pauses_within : (every most : ℕ) → List Event → Bool
pauses_within every most [] = true
pauses_within every most (Played sent ∷ events) =
    nat_le (pause every sent.place) most && pauses_within every most events
pauses_within every most (event ∷ events) = pauses_within every most events

-- no command was accepted since a turn ended, or since none was begun
abbrev pub is_settled : Bool → List Event → Bool
is_settled settled [] = settled
is_settled settled (Accepted command ∷ events) = is_settled false events
is_settled settled (Asked ∷ events) = is_settled settled events
is_settled settled (Played sent ∷ events) = is_settled (settled || sent.ends_turn) events

-- Of a server just opened, whether it follows or not, events came, and behind them others, among
-- which no command was accepted: these lead from a carousel that keeps the rules of its fields, and
-- their packets were heard.
pub record IsWindow (limit size : ℕ) (now : Carousel) (place : Place) (before during : List Event)
    (packets : List (List ℕ)) : Type 0 where
  pub first : Carousel
  pub address : ℕ
  pub room : ℕ
  pub follows : Option ℕ
  pub newest_first : Bool
  pub few : limit ≤ MAX_OBJECTS
  pub range : (MIN_SEGMENT ≤ size) × (size ≤ MAX_SEGMENT)
  pub some : 0 < room
  pub sound : IsSound first
  pub came : Happen limit size first
      (start_place address room size (turn_of_carousel first size) first.cursor follows newest_first)
      before now place
  pub rules : AllKeepRules now
  pub last : Carousel
  pub new : Place
  pub happened : Happen limit size now place during last new
  pub quiet : is_quiet during ≡ true
  pub are : AreOf during packets

-- What a receiver has that begins to listen behind some events at any packet, also within a group,
-- and that hears these packets of further events, among which no command is accepted.
pub record IsHeard (every size : ℕ) (now : Carousel) (place : Place) (before during : List Event)
    (packets : List (List ℕ)) : Type 0 where
  -- whatever it has whole is of the carousel that stands there: nothing of a body that is gone
  pub only : HearsOnly packets now size
  -- where it heard two turns end, it has exactly the carousel: its directory and each body, whole
  pub two_ends : 1 < turns_in during → HearsCarousel packets now size
  -- So it has where it heard what is to be sent, and a turn; with the longest group, but one packet
  -- of it, and the directories that are asked for.
  pub within : longest_group place + left_packets place + turn_packets place
      + asks_in during * directory_packets place ≤ 1 + length packets
      → HearsCarousel packets now size
  -- And in a turn in which no command was accepted a turn is enough, behind a directory, and bodies
  -- that come early.
  pub round : is_settled true before ≡ true
      → longest_group place + early_packets place + turn_packets place
      + (1 + asks_in during) * directory_packets place ≤ 1 + length packets
      → HearsCarousel packets now size
  -- Where the directory is asked for often, it has that whole where it heard more packets than the
  -- longest pause, the longest group and the directories that are asked for take.
  pub soon : (most : ℕ) → 0 < every → pauses_within every most (before ++ during) ≡ true
      → most + longest_group place + asks_in during * directory_packets place < length packets
      → HearsEntity packets 6 now.directory (turn_of_carousel now size).directory
  -- Behind an accepted command it has the new directory, and each body whose segments all come
  -- early: with the longest group, but one packet of it, and the directories that are asked for.
  pub change : (earlier : List Event) (command : Command)
      → before ≡ earlier ++ Accepted command ∷ []
      → longest_group place + early_packets place
      + (1 + asks_in during) * directory_packets place ≤ 1 + length packets
      → HearsEntity packets 6 now.directory (turn_of_carousel now size).directory
      × HearsBodiesIn packets now size (early_of place)

-- So it has it after so many packets where the directory is asked for often, however often that is
-- among them.
pub record IsHeardInTime (every size : ℕ) (now : Carousel) (place : Place)
    (before during : List Event) (packets : List (List ℕ)) : Type 0 where
  -- the directory
  pub soon : (most : ℕ) → pauses_within every most (before ++ during) ≡ true
      → soon_packets most place ≤ length packets
      → HearsEntity packets 6 now.directory (turn_of_carousel now size).directory
  -- exactly the carousel, in a turn in which no command was accepted
  pub round : is_settled true before ≡ true → round_packets place ≤ length packets
      → HearsCarousel packets now size
  -- and wherever one may have been
  pub all : all_packets place ≤ length packets → HearsCarousel packets now size
  -- from a start on the directory, and the bodies that come first there: the newest, where changes
  -- are followed
  pub start : before ≡ [] → change_within place ≤ length packets
      → HearsEntity packets 6 now.directory (turn_of_carousel now size).directory
      × HearsBodiesIn packets now size (early_of place)
  -- the directory of a change, and each body whose segments all come early
  pub change : (earlier : List Event) (command : Command)
      → before ≡ earlier ++ Accepted command ∷ [] → change_packets place ≤ length packets
      → HearsEntity packets 6 now.directory (turn_of_carousel now size).directory
      × HearsBodiesIn packets now size (early_of place)
  -- the same after a number by the turn alone, whatever changes came before
  pub bounded : (earlier : List Event) (command : Command)
      → before ≡ earlier ++ Accepted command ∷ [] → change_within place ≤ length packets
      → HearsEntity packets 6 now.directory (turn_of_carousel now size).directory
      × HearsBodiesIn packets now size (early_of place)

-- And behind a command of which the body goes early, as fewer bodies than may do so wait before it
-- that are not begun, it has the new directory and that body after a number by the turn alone: of a
-- server that came there from a carousel and a place.
abbrev pub HearsFirstChanges : (limit size : ℕ) → Carousel → Place → (now : Carousel) →
    (place : Place) → (before : List Event) → (packets : List (List ℕ)) → Type 0
HearsFirstChanges limit size first start now place before packets =
    (earlier : List Event) (command : Command) (old : Carousel) (was : Place)
    → before ≡ earlier ++ Accepted command ∷ [] → Happen limit size first start earlier old was
    → bodies_not_begun (early_of was) < most_early was → change_within place ≤ length packets
    → HearsEntity packets 6 now.directory (turn_of_carousel now size).directory
    × HearsNewBodies packets old now

-- So it is at any packet of a server that is fed from, whether it follows or not, and whether the
-- directory is asked for often or not.
abbrev pub ListenersHear : Type 0
ListenersHear =
    (limit size every : ℕ) (now : Carousel) (place : Place) (before during : List Event)
    (packets : List (List ℕ)) → (w : IsWindow limit size now place before during packets) →
    (0 < every → IsOften every (before ++ during)) →
    IsHeard every size now place before during packets
    × (0 < every → IsHeardInTime every size now place before during packets
    × HearsFirstChanges limit size w.first
    (start_place w.address w.room size (turn_of_carousel w.first size) w.first.cursor w.follows
    w.newest_first) now place before packets)
