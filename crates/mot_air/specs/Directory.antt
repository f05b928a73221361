-- How often the directory is sent, and when a look may come.
use Rattle.std.specs.Prelude.{◌≡◌, ℕ, ◌*◌, ◌-◌, ◌^◌, ◌⊎◌, min, Option, Some, None, IsSomeAnd}
use Rattle.disk_model.specs.Disk.{State}
use Rattle.mot_listening.specs.Lengths.{frame_packets}
use Rattle.mot_update.specs.Opening.{IsUnopened, OfStanding}
use Rattle.mot_numbers.specs.declared.refusal.Refusal.{Refusal}

-- So many packets a frame holds of a sub-channel of the rate that is asked for, by the packets'
-- length on the disk, if that was opened; where no rate is asked for it is taken to hold one.
abbrev pub IsFrame : (rate : Option ℕ) → (frame : ℕ) → (ending : Option Refusal)
    → (start now : State) → Type 0
IsFrame None frame ending start now = frame ≡ 1
IsFrame (Some rate) frame ending start now =
    IsSomeAnd ending (λ r. IsUnopened r start now)
    ⊎ OfStanding (λ s. frame ≡ frame_packets rate s.geometry.packet) start now

-- After how many packets the directory is sent again, or the folder looked at, within turns, with 0
-- for between turns alone. Where no number is asked for, it is 0 where there is an end, and else so
-- many for each packet that a frame holds, as far as a word of 32 bits goes.
abbrev pub often : (count : ℕ) → (turns packets : Option ℕ) → (frame : ℕ) → ℕ
often count turns (Some packets) frame = packets
often count (Some turns) None frame = 0
often count None None frame = min (frame * count) (2 ^ 32 - 1)
