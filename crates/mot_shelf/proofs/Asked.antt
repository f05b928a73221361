-- Why it is not told whether a name is that of a regular file.
use Rattle.std.proofs.Common.{◌≡◌, ◌∙◌, ℕ, List, [], ◌∷◌, ◌++◌, Ok, Err, Result, ap, inr}
use Rattle.std.specs.Prelude.{IsUtf8}
use Rattle.mot_files.specs.Call.{Call, looked}
use Rattle.mot_files.specs.Listing.{file_of, path_in}
use Rattle.mot_files.specs.declared.system.Fault.{Fault}
use Rattle.mot_files.specs.declared.system.Fault.TheVariants.{Absent, Busy, System}
use Rattle.mot_files.specs.declared.system.FileStat.{FileStat}
use Rattle.mot_shelf.specs.Calls.{IsUnasked}

refused_for : (answer : Result FileStat Fault) (fault : Fault) → file_of answer ≡ Err fault
    → answer ≡ Err fault
refused_for (Ok named) fault e = cc
refused_for (Err (Absent error)) fault e = cc
refused_for (Err Busy) fault e = cc
refused_for (Err (System error)) fault e = cc

-- the system refused to look at it
pub unasked : (path name : List ℕ) (answer : Result FileStat Fault) (fault : Fault) (a b : List Call)
    → IsUtf8 name → file_of answer ≡ Err fault → b ≡ a ++ looked (path_in path name) answer ∷ []
    → IsUnasked path name a b
unasked path name answer fault a b text refused calls = record {
  text = text;
  calls = inr (
    fault,
    calls ∙ ap (λ r. a ++ looked (path_in path name) r ∷ []) (refused_for answer fault refused),
  );
}
