-- What the commands come to is what the program comes to.
use Rattle.std.proofs.Common.{[], ◌≡◌, ◌⊎◌, ℕ, Bool, true, false, List, Option, Some, None, Result}
use Rattle.std.proofs.Common.{Ok, Err, inl, inr, refl, subst}
use Rattle.std.specs.Io.KnownBytes.{Keeps}
use Rattle.std.specs.Prelude.{IsErrAnd}
use Rattle.std.specs.Result.{result_unwrap_or}
use Rattle.clap.specs.Words.{Text}
use Rattle.disk_store.specs.declared.file.start.Start.{Ghosts}
use Rattle.mot_outcome.specs.Outcome.{Concludes, IsUntold, OpensOrReads, status_of}
use Rattle.mot_cli.specs.Given.{AskFor}
use Rattle.mot_cli.specs.Command.{motcar_app}
use Rattle.mot_cli.specs.Task.{IsTask}
use Rattle.mot_cli.specs.declared.task.Task.{Task}
use Rattle.mot_files.specs.Call.{Call}
use Rattle.mot_numbers.specs.declared.refusal.Refusal.{Refusal}
use Rattle.mot_outcome.specs.Outcome.ComesTo.{begun, unbegun}
use Rattle.mot_outcome.specs.declared.exit.Exit.{Exit}
use Rattle.mot_outcome.specs.declared.used.UsedDisk.{UsedDisk}
use Rattle.mot_playout.specs.Attempts.{fault_of}
use Rattle.mot_server.specs.Inner.{ComesOut, whole_result}
use Rattle.mot_server.specs.Program.{Ends, IsBeginningRefusal, IsWhole, RunsTo, Uses}

-- what is done whole ends by the same refusal
pub fault_whole : (result : Result Unit Refusal) → fault_of (whole_result result) ≡ fault_of result
fault_whole (Ok done) = refl
fault_whole (Err refusal) = refl

-- and so it opened the same
pub opens_whole : {S F : Type 0} {start : Ghosts S F} (result : Result Unit Refusal) (looks : Bool)
    (path : Text) (used : UsedDisk S F start) (before after : List Call)
    → OpensOrReads looks [] path (fault_of result) used before after
    → OpensOrReads looks [] path (fault_of (whole_result result)) used before after
opens_whole (Ok done) looks path used before after opens = opens
opens_whole (Err refusal) looks path used before after opens = opens

module _ {S F : Type 0} {start : Ghosts S F} (task : Task) (unread left old new : Option (List ℕ)) where
  -- a command that is done whole if no refusal ends it
  pub comes_whole : (IsEarly : Refusal → Type 0)
      (IsEnded : Option Refusal → UsedDisk S F start → Type 0)
      (result : Result Unit Refusal) (used : UsedDisk S F start)
      → ((r : Refusal) → IsEarly r → IsBeginningRefusal task r × Keeps unread left)
      → ((all : Bool) (ending : Option Refusal) → IsWhole all ending → IsEnded ending used
      → Ends task all ending used unread left old new)
      → IsErrAnd result (λ r. IsEarly r × IsUntold used old new) ⊎ IsEnded (fault_of result) used
      → ComesOut task (whole_result result) used unread left old new
  comes_whole IsEarly IsEnded (Ok done) used early ended (inl none) = absurd none
  comes_whole IsEarly IsEnded (Ok done) used early ended (inr p) =
      inr (ended true None (λ none. refl) p)
  comes_whole IsEarly IsEnded (Err r) used early ended (inl p) =
      let first = early r p.0 in inl (first.0, p.1, first.1)
  comes_whole IsEarly IsEnded (Err r) used early ended (inr p) =
      inr (ended false (Some r) (λ none. absurd (cc)) p)

  -- one whose result tells whether it is
  pub comes_so : (IsEarly : Refusal → Type 0) (IsEnded : Bool → Option Refusal → Type 0)
      (result : Result Bool Refusal) (used : UsedDisk S F start)
      → ((r : Refusal) → IsEarly r → IsBeginningRefusal task r × Keeps unread left)
      → ((all : Bool) (ending : Option Refusal) → IsEnded all ending
      → Ends task all ending used unread left old new)
      → Concludes IsEarly IsEnded result used old new
      → ComesOut task result used unread left old new
  comes_so IsEarly IsEnded (Ok all) used early ended p = inr (ended all None p)
  comes_so IsEarly IsEnded (Err r) used early ended (inl p) =
      let first = early r p.0 in inl (first.0, p.1, first.1)
  comes_so IsEarly IsEnded (Err r) used early ended (inr p) = inr (ended false (Some r) p)

  -- and so the run, whose words ask for it
  pub runs : (words : List Text) → AskFor motcar_app IsTask words task
      → (result : Result Bool Refusal) (used : UsedDisk S F start)
      → ComesOut task result used unread left old new
      → RunsTo {S = S} {start = start} words (record {
        status = status_of (result_unwrap_or result false) (fault_of result);
        refusal = fault_of result;
        disk = used;
      }) unread left old new
  runs words asks (Ok all) used (inl none) = absurd none
  runs words asks (Ok all) used (inr p) = begun task asks all refl p
  runs words asks (Err r) used (inl p) = unbegun task asks r p.0 (refl, refl, p.1, p.2)
  runs words asks (Err r) used (inr p) = begun task asks false refl p

-- a run that began with no calls
pub uses_from_nothing : {S F : Type 0} {start : Ghosts S F} (words : List Text) (exit : Exit S F start)
    (before after : List Call) → before ≡ [] → Uses words exit before after → Uses words exit [] after
uses_from_nothing words exit before after nothing uses =
    subst (λ (first : List Call). Uses words exit first after) nothing uses
