-- What is told of a disk's sizes, what is free of them, and its turn.
use Rattle.std.specs.Prelude.{◌≡◌, ◌⊎◌, ℕ, ◌+◌, ◌-◌, ◌*◌, ◌/◌, ◌&&◌, nat_le, if◌then◌else◌, List}
use Rattle.std.specs.Prelude.{[], ◌∷◌, ◌++◌, length, flat_map, Option, Some, None, IsSomeAnd, ◌<◌}
use Rattle.std.specs.Prelude.{◌≤◌, Ok, codes, map, max, min, ⊤}
use Rattle.std.specs.List.{sum_by}
use Rattle.std.specs.Io.KnownBytes.{Appends, Keeps}
use Rattle.disk_model.specs.Disk.{State, OnlySyncs}
use Rattle.json.specs.Token.{Token}
use Rattle.mot_cli.specs.declared.task.Form.{Form}
use Rattle.mot_cli.specs.declared.task.Form.TheVariants.{Json, Words}
use Rattle.mot_journal.specs.Image.{DiskRecords, Standing, records_of}
use Rattle.mot_journal.specs.Slot.{slot_count}
use Rattle.mot_journal.specs.declared.layout.Layout.{Layout}
use Rattle.mot_numbers.specs.Geometry.{packet_room}
use Rattle.mot_numbers.specs.declared.numbers.TheConstants.{MAX_SEGMENT, MIN_SEGMENT}
use Rattle.mot_numbers.specs.declared.refusal.Refusal.{Refusal}
use Rattle.mot_numbers.specs.declared.refusal.Refusal.TheVariants.{OutOfMemory, WriteFault}
use Rattle.mot_objects.specs.Carousel.{Object}
use Rattle.mot_listening.specs.Waits.{longest_group, round_for, soon_for, turn_packets}
use Rattle.mot_player.specs.Laws.{IsAtTurnsBeginning}
use Rattle.mot_player.specs.Place.{Place, directory_packets}
use Rattle.mot_player.specs.Turn.{Turn, turn_of_carousel}
use Rattle.mot_listening.specs.Lengths.{frame_packets, frame_size, lengths_of_turn, size_of_turn}
use Rattle.mot_export.specs.Filling.{frames_of}
use Rattle.mot_export.specs.Json.{count, json_line, maybe_count}
use Rattle.mot_export.specs.declared.inspection.Inspection.{Inspection}
use Rattle.mot_export.specs.declared.inspection.TurnTime.{TurnTime}
use Rattle.mot_export.specs.declared.inspection.Waits.{Waits}
use Rattle.mot_update.specs.Opening.{IsOpenable, IsUnopened, OfStanding, first_place}
use Rattle.mot_carousel.specs.Gap.{IsLongestGap}
use Rattle.mot_playout.specs.Playing.{HasPlayedTurn}
use Rattle.mot_session.specs.Served.{WritesFront}

-- a size of segments, if a disk may have it
abbrev pub segment_size : ℕ → Option ℕ
segment_size size = if nat_le MIN_SEGMENT size && nat_le size MAX_SEGMENT then Some size else None

-- the longest segment no longer than this one whose group fills its packets, and the shortest that
-- is longer: a group has 11 bytes more
abbrev pub filled_below : (size room : ℕ) → Option ℕ
filled_below size room = segment_size ((size + 11) / room * room - 11)

abbrev pub filled_above : (size room : ℕ) → Option ℕ
filled_above size room = segment_size ((size + 11) / room * room + room - 11)

-- the rates that are printed, in kbit/s
abbrev pub rates_of : Option ℕ → List ℕ
rates_of None = 8 ∷ 16 ∷ 24 ∷ 32 ∷ 40 ∷ 48 ∷ 56 ∷ 64 ∷ 80 ∷ 96 ∷ 112 ∷ 128 ∷ []
rates_of (Some rate) = rate ∷ []

-- how many milliseconds packets of these lengths take at so many kbit/s; none, if one fits in no
-- frame, so that the turn stays in front of it
abbrev pub time_in : (rate : ℕ) → List ℕ → Option ℕ
time_in rate lengths =
    let f = frames_of (frame_size rate) lengths in if f.fits then Some (24 * f.begun) else None

-- a turn at a rate, whose packets have these lengths, by the data bytes of the longest
abbrev pub time_of : (lengths : (room : ℕ) → List ℕ) → (rate : ℕ) → TurnTime
time_of lengths rate = record {
  rate = rate;
  in_24 = time_in rate (lengths 19);
  in_48 = time_in rate (lengths 43);
  in_72 = time_in rate (lengths 67);
  in_96 = time_in rate (lengths 91);
}

-- a turn at these rates, in packets of each length
abbrev pub times_of : (rates : List ℕ) → (size : ℕ) → Turn → List TurnTime
times_of rates size turn = map (time_of (λ room. lengths_of_turn room size turn)) rates

-- the bytes of all bodies
abbrev pub bytes_of_bodies : List Object → ℕ
bytes_of_bodies objects = sum_by (λ (o : Object). length o.body) objects

-- after how many packets of this length `play` sends the directory again, if it is told this rate or
-- none, and no number of packets
abbrev pub usual_pause : (rate : Option ℕ) → (packet : ℕ) → ℕ
usual_pause None packet = 340
usual_pause (Some rate) packet = 340 * frame_packets rate packet

-- After how many packets at most a receiver that begins to listen at any packet has the directory,
-- as it is sent again, or with the carousel; and the carousel, if no command is accepted.
abbrev pub waits_of : (pause group directory turn : ℕ) → Waits
waits_of pause group directory turn = record {
  group = group;
  directory = directory;
  heard_directory = min (min (soon_for (max pause (10 * directory)) group directory)
      (round_for group 0 turn directory)) 18446744073709551615;
  heard_carousel = min (round_for group 0 turn directory) 18446744073709551615;
}

-- The packets of a turn that is played from its beginning are as many as its groups take.
abbrev pub TurnsHaveTheirPackets : Type 0
TurnsHaveTheirPackets =
    (place new : Place) (packets : List (List ℕ)) → 0 < place.room → place.room ≤ 91
    → IsAtTurnsBeginning place → HasPlayedTurn place packets new
    → length packets ≡ turn_packets place

-- These are the figures of a disk that stands for s, in this layout and with so many records; its
-- directory takes so many packets, and its sub-channel has this rate, if one is given.
pub record AreFigures (rate : Option ℕ) (s : Standing) (layout : Layout) (record_count directory : ℕ)
    (told : Inspection) : Type 0 where
  pub geometry : told.geometry ≡ s.geometry
  pub objects : told.objects ≡ length s.carousel.objects
  pub bytes : told.bytes ≡ bytes_of_bodies s.carousel.objects
  pub gap : IsLongestGap s.extents s.geometry.area told.gap
  pub slots : told.slots ≡ slot_count layout s.geometry
  pub records : told.records ≡ record_count
  pub turn : told.turn ≡ size_of_turn (packet_room s.geometry) s.geometry.segment
      (turn_of_carousel s.carousel s.geometry.segment)
  pub waits : told.waits ≡ waits_of (usual_pause rate s.geometry.packet)
      (longest_group (first_place s)) directory told.turn.packets
  pub times : told.times.items ≡ times_of (rates_of rate) s.geometry.segment
      (turn_of_carousel s.carousel s.geometry.segment)

-- their names in JSON
abbrev pub disk_members : Inspection → List (List ℕ × Token)
disk_members told =
    (codes "address", count told.geometry.address) ∷ (codes "packet", count told.geometry.packet)
    ∷ (codes "segment", count told.geometry.segment)
    ∷ (codes "objects_used", count told.objects)
    ∷ (codes "objects_free", count (told.geometry.objects - told.objects))
    ∷ (codes "data_used", count told.bytes)
    ∷ (codes "data_free", count (told.geometry.area - told.bytes))
    ∷ (codes "gap", count told.gap) ∷ (codes "slots_used", count told.records)
    ∷ (codes "slots_free", count (told.slots - told.records))
    ∷ (codes "turn_packets", count told.turn.packets)
    ∷ (codes "turn_bytes", count told.turn.bytes) ∷ (codes "group", count told.waits.group)
    ∷ (codes "directory", count told.waits.directory)
    ∷ (codes "heard_directory", count told.waits.heard_directory)
    ∷ (codes "heard_carousel", count told.waits.heard_carousel) ∷ []

-- which segments fill packets with so many data bytes
abbrev pub filled_json : (size room : ℕ) → List ℕ
filled_json size room = json_line ((codes "packets", count (room + 5))
    ∷ (codes "shorter", maybe_count (filled_below size room))
    ∷ (codes "longer", maybe_count (filled_above size room)) ∷ [])

-- how long a turn is at a rate
abbrev pub time_json : TurnTime → List ℕ
time_json time = json_line ((codes "rate", count time.rate)
    ∷ (codes "milliseconds_24", maybe_count time.in_24)
    ∷ (codes "milliseconds_48", maybe_count time.in_48)
    ∷ (codes "milliseconds_72", maybe_count time.in_72)
    ∷ (codes "milliseconds_96", maybe_count time.in_96) ∷ [])

-- a line for the disk, one for each length of packets, and one for each rate
abbrev pub inspection_json : Inspection → List ℕ
inspection_json told =
    json_line (disk_members told)
    ++ flat_map (filled_json told.geometry.segment) (19 ∷ 43 ∷ 67 ∷ 91 ∷ [])
    ++ flat_map time_json told.times.items

-- The figures are shown as JSON; or in words for people, which no clause pins.
abbrev pub IsShown : Form → Inspection → List ℕ → Type 0
IsShown Json told text = text ≡ inspection_json told
IsShown Words told text = ⊤

-- In these the disk was in a state start and is in a state now, and the writer's known bytes were
-- old and are new.

-- what was printed, of which this is known, tells of a disk of these bytes, which stands for s
pub record TellsOfDisk (rate : Option ℕ) (form : Form) (s : Standing) (bytes : List ℕ)
    (is_printed : List ℕ → Type 0) : Type 0 where
  pub journal : DiskRecords
  pub read : records_of bytes ≡ Ok journal
  pub told : Inspection
  pub figures : AreFigures rate s journal.layout (length journal.records)
      (directory_packets (first_place s)) told
  pub text : List ℕ
  pub shown : IsShown form told text
  pub printed : is_printed text

-- This refusal ended the telling, or none did, and the disk has not failed. All of what is told of
-- it was printed; or some first bytes of it, since the writer failed; or nothing, since memory was
-- wanted.
abbrev pub PrintsFigures : (rate : Option ℕ) → Form → Option Refusal → (old new : Option (List ℕ))
    → (start now : State) → Type 0
PrintsFigures rate form None old new start now = (now.failures ≡ start.failures)
    × OfStanding (λ s. TellsOfDisk rate form s start.bytes (Appends old new)) start now
PrintsFigures rate form (Some WriteFault) old new start now = (now.failures ≡ start.failures)
    × OfStanding (λ s. TellsOfDisk rate form s start.bytes
    (λ text. WritesFront text old new)) start now
PrintsFigures rate form (Some OutOfMemory) old new start now =
    (now.failures ≡ start.failures) × Keeps old new
PrintsFigures rate form (Some refusal) old new start now = ⊥

-- The disk was only synced. It was not opened, and nothing was printed; or it was, and its figures
-- were.
pub record Inspects (rate : Option ℕ) (form : Form) (ending : Option Refusal) (old new : Option (List ℕ))
    (start now : State) : Type 0 where
  pub syncs : OnlySyncs start now
  pub came : (IsSomeAnd ending (λ r. IsUnopened r start now) × Keeps old new)
      ⊎ (IsOpenable start now × PrintsFigures rate form ending old new start now)
