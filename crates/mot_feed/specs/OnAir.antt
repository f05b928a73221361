-- What a server that is fed from has on air, turn by turn.
use Rattle.std.specs.Prelude.{◌≡◌, ℕ, Bool, true, false, not, ◌&&◌, ◌||◌, ◌<◌, ◌≤◌, if◌then◌else◌}
use Rattle.std.specs.Prelude.{List, [], ◌∷◌, Option, is_some}
use Rattle.mot_feed.specs.Feeding.{Accepted, AreOf, Asked, Event, Happen, Played, RulesAreKept}
use Rattle.mot_feed.specs.Feeding.{is_between_turns}
use Rattle.mot_numbers.specs.Reading.{is_empty}
use Rattle.mot_numbers.specs.declared.geometry.TheConstants.{MAX_OBJECTS}
use Rattle.mot_numbers.specs.declared.numbers.TheConstants.{MAX_SEGMENT, MIN_SEGMENT}
use Rattle.mot_objects.specs.Carousel.{Carousel, IsSound, AllKeepRules}
use Rattle.mot_player.specs.Place.{Place}
use Rattle.mot_player.specs.Repeats.{ReadAsTurn, ReadsOnceAs}
use Rattle.mot_player.specs.Start.{start_place}
use Rattle.mot_player.specs.Turn.{turn_of_carousel}

-- Whether a turn begins behind these: between two groups, where a turn has ended, or none was begun
-- and the newest bodies do not come first, and no command was accepted since if changed turns are
-- followed; and if they are not, behind the group that was under way as a command was accepted.
abbrev pub begins_turn : (follows between whole : Bool) → List Event → Bool
begins_turn follows between whole [] = between && whole
begins_turn follows between whole (Accepted command ∷ events) =
    begins_turn follows between (not follows) events
begins_turn follows between whole (Asked ∷ events) = begins_turn follows between whole events
begins_turn follows between whole (Played sent ∷ events) =
    begins_turn follows sent.packet.last
    (if between then sent.ends_turn else whole || sent.ends_turn) events

-- packets up to the first that ends a turn; the directory may be asked for, and no command comes
abbrev pub is_turn : List Event → Bool
is_turn [] = false
is_turn (Accepted command ∷ events) = false
is_turn (Asked ∷ events) = is_turn events
is_turn (Played sent ∷ events) = if sent.ends_turn then is_empty events else is_turn events

-- the directory is asked for among these
abbrev pub asks : List Event → Bool
asks [] = false
asks (Asked ∷ events) = true
asks (event ∷ events) = asks events

-- Of a server just opened, whether it follows or not, each whole turn on air reads as exactly the
-- carousel that stands there, if that keeps the rules of its fields: of each segment that is sent
-- again the first counts; and if the directory is not asked for within the turn, none is.
abbrev pub TurnsOnAirRead : Type 0
TurnsOnAirRead =
    (limit size : ℕ) (c now last : Carousel) (address room : ℕ) (follows : Option ℕ)
    (newest_first : Bool)
    (before during : List Event) (place new : Place) (packets : List (List ℕ))
    → limit ≤ MAX_OBJECTS → (MIN_SEGMENT ≤ size) × (size ≤ MAX_SEGMENT) → 0 < room → IsSound c
    → Happen limit size c
    (start_place address room size (turn_of_carousel c size) c.cursor follows newest_first) before now
    place
    → begins_turn (is_some follows) true (not (is_some follows && newest_first)) before ≡ true → AllKeepRules now
    → Happen limit size now place during last new → is_turn during ≡ true
    → AreOf during packets → ReadAsTurn (asks during) packets now size

-- Where a turn has ended, or none was begun, the next whole turn on air reads as exactly the
-- carousel that stands there, whatever commands were accepted since that end, followed or not, if
-- the carousels up to there keep the rules of their fields: of each segment that is sent again the
-- first counts.
abbrev pub ChangedTurnsOnAirRead : Type 0
ChangedTurnsOnAirRead =
    (limit size : ℕ) (c now last : Carousel) (address room : ℕ) (follows : Option ℕ)
    (newest_first : Bool)
    (before during : List Event) (place new : Place) (packets : List (List ℕ))
    → limit ≤ MAX_OBJECTS → (MIN_SEGMENT ≤ size) × (size ≤ MAX_SEGMENT) → 0 < room → IsSound c
    → Happen limit size c
    (start_place address room size (turn_of_carousel c size) c.cursor follows newest_first) before now
    place
    → is_between_turns true before ≡ true → AllKeepRules c → RulesAreKept limit c before
    → Happen limit size now place during last new → is_turn during ≡ true
    → AreOf during packets → ReadsOnceAs packets now size
