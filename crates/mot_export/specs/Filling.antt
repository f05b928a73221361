-- How a multiplexer fills the frames of a sub-channel with the packets of a turn.
use Rattle.std.specs.Prelude.{◌≡◌, ℕ, ◌+◌, ◌-◌, ◌<◌, ◌≤◌, true, ◌&&◌, nat_le}
use Rattle.std.specs.Prelude.{if◌then◌else◌, List, length, map}
use Rattle.std.specs.List.{fold}
use Rattle.mot_player.specs.Laws.{IsAtTurnsBeginning}
use Rattle.mot_player.specs.Place.{Place}
use Rattle.mot_export.specs.declared.filling.Frames.{Frames}
use Rattle.mot_playout.specs.Playing.{HasPlayedTurn}
use Rattle.mot_listening.specs.Lengths.{lengths_of_turn}

-- A packet goes whole into the frame, or into the next if too few bytes are left; there it fits or
-- not. In these `size` is how many bytes a frame has.
abbrev pub with_packet : (size : ℕ) → Frames → (packet : ℕ) → Frames
with_packet size f packet =
    if nat_le packet f.left then record f { left = f.left - packet }
    else record {
      begun = f.begun + 1;
      left = size - packet;
      fits = f.fits && nat_le packet size;
    }

-- the frames that packets of these lengths fill, in order
abbrev pub frames_of : (size : ℕ) → List ℕ → Frames
frames_of size packets =
    fold (with_packet size) (record { begun = 0; left = 0; fits = true }) packets

-- The packets of a turn that is played from its beginning have these lengths.
abbrev pub TurnsHaveTheirLengths : Type 0
TurnsHaveTheirLengths =
    (place new : Place) (packets : List (List ℕ)) → 0 < place.room → place.room ≤ 91
    → IsAtTurnsBeginning place → HasPlayedTurn place packets new
    → map length packets ≡ lengths_of_turn place.room place.segment_size place.turn
