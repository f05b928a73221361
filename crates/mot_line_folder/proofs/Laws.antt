-- What a read of a handle gave.
use Rattle.std.proofs.Common.{ℕ, List, [], ◌∷◌, ◌++◌, ◌≡◌, ◌≤◌, ◌∙◌, Ok, ap, length, sym, take}
use lib.Seq.{length-take-le}
use Rattle.mot_files.specs.Call.{Call, call, read, read_of}
use Rattle.mot_files.specs.declared.system.Event.TheVariants.{Read}
use Rattle.mot_files.specs.declared.system.Handle.{Handle}

-- a read that gave so many bytes
pub given_is : (h : Handle) (count : ℕ) (room : List ℕ) (old new : List Call)
    → count ≤ length room → new ≡ old ++ read h room (Ok count) ∷ []
    → new ≡ old ++ read_of h (take count room) ∷ []
given_is h count room old new fits here =
    here ∙ ap (λ n. old ++ call (Read h (Ok n)) (take count room) [] ∷ [])
    (sym (length-take-le count room fits))
