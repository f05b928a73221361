-- Nobody starves: whatever commands come while a server is fed from, turns end, and each body that
-- stays is sent in them.
use Rattle.std.specs.Prelude.{◌≡◌, ℕ, ◌+◌, ◌*◌, ◌≤◌, ◌<◌, Bool, true, ◌&&◌, List, [], ◌∷◌, ◌++◌}
use Rattle.std.specs.Prelude.{Some, length, map, unwrap_or}
use Rattle.mot_feed.specs.Feeding.{Accepted, Asked, Event, Happen, Played, RulesAreKept, sents_in}
use Rattle.mot_feed.specs.Feeding.{turns_in}
use Rattle.mot_groups.specs.Entity.{own_segments}
use Rattle.mot_groups.specs.Group.{Segment}
use Rattle.mot_listening.specs.Waits.{left_packets, longest_group}
use Rattle.mot_numbers.specs.declared.geometry.TheConstants.{MAX_OBJECTS}
use Rattle.mot_objects.specs.Carousel.{Carousel, IsSound, Object, carousel_if_accepted, change}
use Rattle.mot_objects.specs.Carousel.{AllKeepRules}
use Rattle.mot_objects.specs.Ids.{contains}
use Rattle.mot_objects.specs.declared.command.Command.{Command}
use Rattle.mot_player.specs.Place.{Place, change_between, changed, directory_segments}
use Rattle.mot_player.specs.Place.{fresh_segments, hear_directory, left_of, packets_of_segments}
use Rattle.mot_player.specs.Repeats.{ends_at_last}
use Rattle.mot_player.specs.Start.{start_place}
use Rattle.mot_player.specs.Staying.{begun_with}
use Rattle.mot_player.specs.Turn.{bodies_with_ids, turn_of_carousel}

-- the carousel that a command makes of one; the same where it is refused
abbrev pub carousel_with : (limit : ℕ) → Carousel → Command → Carousel
carousel_with limit c command = unwrap_or (carousel_if_accepted (change c limit command)) c

-- the packets of a carousel's directory
abbrev pub packets_of_directory : (room size : ℕ) → Carousel → ℕ
packets_of_directory room size c =
    packets_of_segments room (directory_segments (turn_of_carousel c size) size)

-- the packets of the body that is new in a carousel; none where none is
abbrev pub packets_of_new : (room size : ℕ) → (old new : Carousel) → ℕ
packets_of_new room size old new = packets_of_segments room (fresh_segments size
    (change_between (bodies_with_ids old.objects) (bodies_with_ids new.objects)))

-- The packets that these events add to those of a turn: each directory that is asked for, and with
-- each accepted command the directory and, twice, the body that are new then.
abbrev pub added_among : (limit room size : ℕ) → Carousel → List Event → ℕ
added_among limit room size c [] = 0
added_among limit room size c (Asked ∷ events) =
    packets_of_directory room size c + added_among limit room size c events
added_among limit room size c (Accepted command ∷ events) =
    packets_of_directory room size (carousel_with limit c command)
    + 2 * packets_of_new room size c (carousel_with limit c command)
    + added_among limit room size (carousel_with limit c command) events
added_among limit room size c (Played sent ∷ events) = added_among limit room size c events

-- an object of this id is in a carousel
abbrev pub has_object : (id : ℕ) → Carousel → Bool
has_object id c = contains (map (λ (o : Object). o.tid) c.objects) id

-- and it stays there behind each command that is accepted among these
abbrev pub stays_among : (limit id : ℕ) → Carousel → List Event → Bool
stays_among limit id c [] = has_object id c
stays_among limit id c (Accepted command ∷ events) =
    has_object id c && stays_among limit id (carousel_with limit c command) events
stays_among limit id c (event ∷ events) = stays_among limit id c events

-- the segments whose groups are begun among these, in their order, from a place on
abbrev pub begun_among : (limit size : ℕ) → Carousel → Place → List Event → List Segment
begun_among limit size c place [] = []
begun_among limit size c place (Played sent ∷ events) =
    begun_with place place.under_way ++ begun_among limit size c sent.place events
begun_among limit size c place (Accepted command ∷ events) =
    begun_among limit size (carousel_with limit c command)
    (changed (turn_of_carousel (carousel_with limit c command) size) place) events
begun_among limit size c place (Asked ∷ events) =
    begun_among limit size c (hear_directory place) events

-- Of a server just opened that follows changes, events came, and behind them others, of any kind;
-- and all the way the carousels keep the rules of their fields.
pub record IsFollowing (limit size : ℕ) (now : Carousel) (place : Place)
    (before during : List Event) : Type 0 where
  pub first : Carousel
  pub address : ℕ
  pub room : ℕ
  pub most : ℕ
  pub newest_first : Bool
  pub few : limit ≤ MAX_OBJECTS
  pub some_size : 0 < size
  pub some : 0 < room
  pub sound : IsSound first
  pub rules_first : AllKeepRules first
  pub came : Happen limit size first
      (start_place address room size (turn_of_carousel first size) first.cursor (Some most)
      newest_first) before now place
  pub last : Carousel
  pub new : Place
  pub happened : Happen limit size now place during last new
  pub rules : RulesAreKept limit first (before ++ during)

-- What is sent among these events, from a carousel and a place on, whatever commands are accepted
-- among them.
pub record ServesAll (limit size : ℕ) (now : Carousel) (place : Place) (during : List Event) :
    Type 0 where
  -- as long as no turn ends, fewer packets than the longest group's, those of what was to be sent,
  -- and those that are added meanwhile
  pub turns_end : turns_in during ≡ 0
      → length (sents_in during)
      < longest_group place + left_packets place + added_among limit place.room size now during
  -- up to the packet that ends a turn, of each body that stays exactly the segments that were left,
  -- in their order: none is passed over
  pub bodies_come : (id : ℕ) → ends_at_last (sents_in during) ≡ true
      → stays_among limit id now during ≡ true
      → own_segments 4 id (begun_among limit size now place during)
      ≡ own_segments 4 id (left_of place)

-- so it is from any place on of a server that follows changes
abbrev pub NobodyStarves : Type 0
NobodyStarves =
    (limit size : ℕ) (now : Carousel) (place : Place) (before during : List Event)
    → IsFollowing limit size now place before during → ServesAll limit size now place during
