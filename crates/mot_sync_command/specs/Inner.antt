-- A look whose lines are told.
use Rattle.std.specs.Prelude.{◌≡◌, ℕ, Bool, false, not, List, Option, Some, None, Result, Ok, Err}
use Rattle.std.specs.Io.KnownBytes.{Appends}
use Rattle.std.specs.List.{flat_map}
use Rattle.disk_model.specs.Disk.{State}
use Rattle.mot_log.specs.Text.{look_line}
use Rattle.mot_folder.specs.declared.guard.Guard.{Guard}
use Rattle.mot_folder.specs.Looked.{HasLookedAtFolder}
use Rattle.mot_folder.specs.declared.known.Known.{Known}
use Rattle.mot_folder.specs.declared.report.Report.{Report}
use Rattle.mot_journal.specs.Image.{Standing}
use Rattle.mot_numbers.specs.declared.refusal.Refusal.{Refusal}
use Rattle.mot_numbers.specs.declared.refusal.Refusal.TheVariants.{WriteFault}
use Rattle.mot_playout.specs.Runs.{ServerView}
use Rattle.mot_shelf.specs.Given.{Given}
use Rattle.mot_suffixes.specs.Types.{SuffixType}

-- it came to its end, and was told whole; or it broke off, or could not be told
pub data LooksAndTells {D : Type 0} (old new : ServerView D) (start now : State) (s : Standing)
    (types : List SuffixType) (guard : Guard) (path : List ℕ) (given : Given) (known : List Known)
    (before after : Option (List ℕ)) (result : Result Bool Refusal) : Type 0 where
  told : (report : Report) (files : List Known) → result ≡ Ok (not report.any_refused) → report.any_left_out ≡ false
      → Appends before after (flat_map look_line report.events.items)
      → HasLookedAtFolder old new start now s types guard path given report None known files
      → LooksAndTells old new start now s types guard path given known before after result
  broken : (report : Report) (files : List Known) (refusal : Refusal) → result ≡ Err refusal
      → HasLookedAtFolder old new start now s types guard path given report (Some refusal) known
      files
      → LooksAndTells old new start now s types guard path given known before after result
  untold : (report : Report) (files : List Known) → result ≡ Err WriteFault
      → HasLookedAtFolder old new start now s types guard path given report None known files
      → LooksAndTells old new start now s types guard path given known before after result
