-- What a call that may fail leaves.
use Rattle.std.proofs.Common.{ℕ, List, Option, inl, inr}
use Rattle.disk_model.specs.Disk.{KeepsLength, State}
use Rattle.mot_commands.specs.Report.{Formats}
use Rattle.mot_numbers.specs.declared.geometry.Geometry.{Geometry}
use Rattle.mot_numbers.specs.declared.refusal.Refusal.{Refusal}

-- a disk that was formatted, or was not, is as long as before
pub Formats-keeps : (g : Geometry) (directory : ℕ) (ending : Option Refusal)
    (old new : Option (List ℕ)) (start now : State)
    → Formats g directory ending old new start now → KeepsLength start now
Formats-keeps g directory ending old new start now (inl none) = none.2.keeps
Formats-keeps g directory ending old new start now (inr told) = told.1.0.keeps
