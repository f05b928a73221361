-- Writing all bytes of a text.
use Rattle.std.specs.Prelude.{◌≡◌, ◌≢◌, ℕ, List, [], ◌∷◌, ◌++◌, Result, Ok, Err, drop}
use Rattle.mot_files.specs.Call.{Call, wrote}
use Rattle.mot_files.specs.declared.system.Fault.{Fault}
use Rattle.mot_files.specs.declared.system.Handle.{Handle}

-- Each write is of all that is left; the last takes the rest, or is refused, or takes nothing, which
-- is a fault, too.
pub data Writes (handle : Handle) (result : Result (Unit {0}) Fault) (new : List Call) :
    (text : List ℕ) (old : List Call) → Type 0 where
  all : {text : List ℕ} {old : List Call} → text ≡ [] → result ≡ Ok tt → new ≡ old
      → Writes handle result new text old
  refused : {text : List ℕ} {old : List Call} (fault : Fault) → result ≡ Err fault
      → new ≡ old ++ wrote handle text (Err fault) ∷ [] → Writes handle result new text old
  stuck : {text : List ℕ} {old : List Call} (fault : Fault) → result ≡ Err fault
      → new ≡ old ++ wrote handle text (Ok 0) ∷ [] → Writes handle result new text old
  part : {text : List ℕ} {old : List Call} (count : ℕ) → count ≢ 0
      → Writes handle result new (drop count text) (old ++ wrote handle text (Ok count) ∷ [])
      → Writes handle result new text old
