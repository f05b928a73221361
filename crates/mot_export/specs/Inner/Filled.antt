-- Frames that are filled behind others.
use Rattle.std.specs.Prelude.{ℕ, ◌≡◌, ◌+◌, ◌<◌, ◌&&◌, IfSome, Option, true}
use Rattle.std.specs.List.{AllByRecursion, fold}
use Rattle.mot_export.specs.Filling.{with_packet}
use Rattle.mot_export.specs.declared.filling.Frames.{Frames}
use Rattle.mot_export.specs.declared.filling.Step.{Step}
use Rattle.mot_export.specs.declared.filling.Steps.{Steps}
use Rattle.mot_listening.specs.Entities.{group_lengths}
use Rattle.mot_numbers.specs.PacketLength.{room_of}

-- a frame with so many bytes left, and none begun behind it
abbrev pub frame_with : (left : ℕ) → Frames
frame_with left = record { begun = 0; left = left; fits = true }

-- these frames, and those that were filled from what was left of them on
abbrev pub followed_by : Frames → Frames → Frames
followed_by f g = record { begun = f.begun + g.begun; left = g.left; fits = f.fits && g.fits }

-- the steps that are kept are right
abbrev pub AreRight : Steps → Type 0
AreRight steps = AllByRecursion (λ (step : Option Step). IfSome step (λ s.
    (s.frames ≡ fold (with_packet steps.size) (frame_with s.left)
    (group_lengths (room_of steps.full_length) s.len))
    × (s.frames.begun < 1048576))) steps.kept
