-- What the writes among calls took.
use Rattle.std.proofs.Common.{◌≡◌, ◌∙◌, ◌++◌, ◌∷◌, [], ℕ, Bool, List, Result, ap, eq-eqb}
use Rattle.std.proofs.Common.{if◌then◌else◌, refl}
use Rattle.mot_endpoints.specs.Packets.{mark, sent_by, writes_to}
use Rattle.mot_files.specs.Call.{Call, given, wrote}
use Rattle.mot_files.specs.declared.system.Fault.{Fault}
use Rattle.mot_files.specs.declared.system.Handle.{Handle}

-- what was written in more calls comes after what was written before
writes_to-append : (handle : Handle) (old more : List Call)
    → writes_to handle (old ++ more) ≡ writes_to handle old ++ writes_to handle more
writes_to-append handle [] more = refl
writes_to-append handle (call ∷ calls) more =
    ap (λ l. sent_by handle call.what call.bytes ∷ l) (writes_to-append handle calls more)

-- one more write to the handle took so many of its first bytes, or nothing
pub writes_to-wrote : (handle : Handle) (bytes : List ℕ) (answer : Result ℕ Fault)
    → (old : List Call) → writes_to handle (old ++ wrote handle bytes answer ∷ [])
    ≡ writes_to handle old ++ given bytes answer ∷ []
writes_to-wrote handle bytes answer old =
    writes_to-append handle old (wrote handle bytes answer ∷ [])
    ∙ ap (λ (same : Bool). writes_to handle old
    ++ (if same then given bytes answer else mark handle) ∷ []) (eq-eqb handle.slot handle.slot refl)
