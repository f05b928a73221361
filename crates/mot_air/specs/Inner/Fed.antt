-- What became of a disk that was to be played.
use Rattle.std.specs.Prelude.{◌≡◌, Err, Ok, Option, Result, Some}
use Rattle.mot_update.specs.declared.ended.Ended.{Ended}
use Rattle.mot_numbers.specs.declared.refusal.Refusal.{Refusal}
use Rattle.mot_playout.specs.Attempts.{fault_of}
use Rattle.mot_playout.specs.Runs.{ServerView}
use Rattle.mot_repository.specs.declared.opening.Refused.{Refused}

-- it was fed, up to this result, or was not opened
abbrev pub Fed : Type 0 → Type 0
Fed D = Result (ServerView D × Result Unit Refusal) (Refused D)

-- what it came to, and the disk
abbrev pub ending_of : {D : Type 0} → Fed D → Option Refusal
ending_of (Err refused) = Some refused.refusal
ending_of (Ok (server, result)) = fault_of result

abbrev pub disk_of : {D : Type 0} → Fed D → D
disk_of (Err refused) = refused.disk
disk_of (Ok (server, result)) = server.disk

-- it is handed out so
pub record IsEndOf {D : Type 0} (fed : Fed D) (ended : Ended D Unit) : Type 0 where
  pub ending : fault_of ended.result ≡ ending_of fed
  pub disk : ended.disk ≡ disk_of fed
