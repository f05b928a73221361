-- Calls that only read, one after the other.
use Rattle.std.proofs.Common.{ℕ, List, [], ◌∷◌, ◌++◌, ◌≡◌, refl, ap, sym, string_bytes, subst}
use Rattle.std.proofs.Common.{MatchOption, Option, None, Some, Result, Ok, Err, IsErr, IsTrue}
use Rattle.std.specs.Result.{result_unwrap_or}
use Rattle.std.specs.declared.io.Error.{Error}
use Rattle.mot_files.specs.Call.{Call}
use Rattle.mot_files.specs.declared.system.Handle.{Handle}
use Rattle.mot_files.specs.declared.system.FileStat.{FileStat}
use Rattle.mot_files.specs.declared.system.Fault.{Fault}
use Rattle.mot_line_folder.specs.LineFiles.{IsFound, IsLookedInto, Leaves, Stamps}
use Rattle.mot_line_folder.specs.LineFiles.IsFound.{kept, left, none as no_file, unopened, unseen}
use Rattle.mot_line_folder.specs.LineFiles.IsLookedInto.{cut, lines, no_lines, other, unheld, unread}
use Rattle.mot_line_folder.specs.LineFiles.Stamps.{held as stamp_held, unheld as stamp_unheld}
use Rattle.mot_line_folder.specs.Spooling.{Finds, IsOfFolder, OnlyReads}
use Rattle.mot_files.specs.Looking.{changes_nothing}
use Rattle.mot_line_folder.specs.Spooling.Finds.{nothing, one}
use Rattle.mot_line_folder.specs.Spooling.OnlyReads.{more, none}
use Rattle.mot_line_folder.specs.declared.line_file.Found.{Found}
use Rattle.mot_line_folder.specs.declared.line_file.Found.TheVariants.{Lines}
use Rattle.mot_line_folder.specs.declared.line_file.LineFile.{LineFile}
use Rattle.mot_line_folder.specs.declared.said.Stamp.{Stamp}

-- one call
pub one_call : {old new : List Call} (call : Call) → IsTrue (changes_nothing call.what)
    → new ≡ old ++ call ∷ [] → OnlyReads old new
one_call {old} call reads here = more old call (none refl) reads here

-- behind calls that only read
pub and_then : {old mid new : List Call} → OnlyReads old mid → OnlyReads mid new → OnlyReads old new
and_then {old} before (none same) = subst (λ l. OnlyReads old l) (sym same) before
and_then before (more mid call between reads here) = more mid call (and_then before between) reads here

-- what a file is stamped with
pub stamped : {handle : Handle} {stamp : Option Stamp} {old new : List Call}
    → Stamps handle stamp old new → OnlyReads old new
stamped (stamp_unheld fault is here) = one_call _ refl here
stamped (stamp_held held of is right here) = one_call _ refl here

-- looking into a file
pub looking_into : {handle : Handle} {named : FileStat} {f : Found} {old new : List Call}
    → IsLookedInto handle named f old new → OnlyReads old new
looking_into (unheld fault is here) = one_call _ refl here
looking_into (other held is not here) = one_call _ refl here
looking_into (unread held room fault is same here) =
    more _ _ (one_call _ refl refl) refl here
looking_into (cut held room count is same here few) = more _ _ (one_call _ refl refl) refl here
looking_into (lines held room count is same here whole begins) =
    more _ _ (one_call _ refl refl) refl here
looking_into (no_lines held room count is same here whole begins) =
    more _ _ (one_call _ refl refl) refl here

-- finding what stands at a path
pub finding : {path : List ℕ} {f : Found} {old new : List Call} → IsFound path f old new
    → OnlyReads old new
finding (unseen fault is here) = one_call _ refl here
finding (no_file named is kind here) = one_call _ refl here
finding (unopened named fault is kind here) = more _ _ (one_call _ refl refl) refl here
finding (kept named handle of is kind into) =
    and_then (more _ _ (one_call _ refl refl) refl refl) (looking_into into)
finding (left named handle inner not kind into here) =
    more _ _ (and_then (more _ _ (one_call _ refl refl) refl refl) (looking_into into)) refl here

-- a file that was found behind calls that only read
pub finds_behind : {folder : List ℕ} {found : Option LineFile} {old mid new : List Call}
    → OnlyReads old mid → Finds folder found mid new → Finds folder found old new
finds_behind before (nothing is reads) = nothing is (and_then before reads)
finds_behind before (one file first then is of_folder reads found rest) =
    one file first then is of_folder (and_then before reads) found rest

-- none was found
pub finds_none : {folder : List ℕ} {old new : List Call} (result : Result (Option LineFile) Error)
    → IsErr result → OnlyReads old new → Finds folder (result_unwrap_or result None) old new
finds_none (Ok found) failed reads = absurd (let h = failed in cc)
finds_none (Err error) failed reads = nothing refl reads

-- nothing was found
pub found_nothing : {folder : List ℕ} {old new : List Call} → Finds folder None old new
    → OnlyReads old new
found_nothing (nothing is reads) = reads
found_nothing (one file first then is of_folder before found rest) = absurd (let h = is in cc)

-- a file that was found, and is kept or left
pub one_kept : {folder : List ℕ} {old mid new : List Call} (file : LineFile)
    (result : Option LineFile) → IsOfFolder folder file
    → IsFound (string_bytes file.path) (Lines file.handle) old mid
    → MatchOption result ((stamp : Option Stamp) × Leaves file.handle stamp mid new)
    (λ f. (f ≡ file) × OnlyReads mid new) → Finds folder result old new
one_kept file None of_folder found (stamp, leaves) =
    nothing refl (more _ _ (and_then (finding found) (stamped leaves.seen)) refl leaves.calls)
one_kept {old = old} {mid = mid} file (Some f) of_folder found (is, reads) =
    one file old mid (ap (λ x. Some x) is) of_folder (none refl) found reads
