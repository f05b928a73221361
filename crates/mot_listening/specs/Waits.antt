-- After how many packets, at most, a receiver has what it listens for.
use Rattle.std.specs.Prelude.{ℕ, ◌+◌, ◌*◌, max, List, [], ◌∷◌}
use Rattle.std.specs.Int.{div_ceil}
use Rattle.mot_groups.specs.Entity.{segments_of}
use Rattle.mot_player.specs.Place.{Place, directory_packets, early_of, most_early}
use Rattle.mot_player.specs.Place.{packets_of_segments, to_send}
use Rattle.mot_player.specs.Turn.{segments_of_turn}

-- the packets of the longest group
abbrev pub longest_group : Place → ℕ
longest_group place = div_ceil (place.segment_size + 11) place.room

-- the packets of one turn
abbrev pub turn_packets : Place → ℕ
turn_packets place =
    packets_of_segments place.room (segments_of_turn place.turn place.segment_size)

-- the packets of the bodies that come early
abbrev pub early_packets : Place → ℕ
early_packets place = packets_of_segments place.room (early_of place)

-- the packets of the longest of some bodies
abbrev pub longest_of : (room size : ℕ) → List (ℕ × List ℕ) → ℕ
longest_of room size [] = 0
longest_of room size (b ∷ bodies) =
    max (packets_of_segments room (segments_of 4 b.0 size b.1)) (longest_of room size bodies)

-- and of those of the turn
abbrev pub longest_body : Place → ℕ
longest_body place = longest_of place.room place.segment_size place.turn.bodies

-- the packets of the bodies that come early at most, by the turn alone: of as many that are not
-- begun as may come so, and of one that is
abbrev pub early_within : Place → ℕ
early_within place = (most_early place + 1) * longest_body place

-- the packets of what is to be sent before the next turn
abbrev pub left_packets : Place → ℕ
left_packets place = packets_of_segments place.room (to_send place)

-- So many packets, and those of the directories that are sent again between them: of ten packets
-- one at most, since a pause has ten times those of a directory.
abbrev pub with_directories : ℕ → ℕ
with_directories packets = div_ceil (10 * packets + 1) 9

-- The directory, where no pause is longer: it may be asked for twice more, once as a turn ends.
abbrev pub soon_for : (pause group directory : ℕ) → ℕ
soon_for pause group directory = with_directories (pause + group + 2 * directory)

abbrev pub soon_packets : (pause : ℕ) → Place → ℕ
soon_packets pause place = soon_for pause (longest_group place) (directory_packets place)

-- the carousel, in a turn in which no command was accepted, behind bodies that come early
abbrev pub round_for : (group early turn directory : ℕ) → ℕ
round_for group early turn directory = with_directories (group + early + turn + 3 * directory)

abbrev pub round_packets : Place → ℕ
round_packets place = round_for (longest_group place) (early_packets place) (turn_packets place)
    (directory_packets place)

-- and wherever one may have been: what is left, and one more turn
abbrev pub all_packets : Place → ℕ
all_packets place = with_directories
    (longest_group place + left_packets place + turn_packets place + 2 * directory_packets place)

-- the directory of a change, and the bodies that come early with it
abbrev pub change_for : (group early directory : ℕ) → ℕ
change_for group early directory = with_directories (group + early + 3 * directory)

abbrev pub change_packets : Place → ℕ
change_packets place =
    change_for (longest_group place) (early_packets place) (directory_packets place)

-- the same by the turn alone, whatever changes came before it
abbrev pub change_within : Place → ℕ
change_within place =
    change_for (longest_group place) (early_within place) (directory_packets place)
