-- What was not begun.
use Rattle.std.specs.Prelude.{◌≡◌, Bool, Result, Err}
use Rattle.disk_store.specs.declared.file.start.Start.{Ghosts}
use Rattle.mot_numbers.specs.declared.refusal.Refusal.{Refusal}
use Rattle.mot_outcome.specs.Outcome.{IsUntouched}
use Rattle.mot_outcome.specs.declared.used.UsedDisk.{UsedDisk}

-- it was not begun, for such a refusal, and no disk was used
pub record IsUnbegun {S F : Type 0} {start : Ghosts S F} (IsEarly : Refusal → Type 0)
    (result : Result Bool Refusal) (used : UsedDisk S F start) : Type 0 where
  pub refusal : Refusal
  pub refused : result ≡ Err refusal
  pub early : IsEarly refusal
  pub untouched : IsUntouched used
