-- What the reads of a file of lines give.
use Rattle.std.specs.Prelude.{◌≡◌, ◌≢◌, ◌⊎◌, ◌-◌, ℕ, Bool, true, false, not, nat_eq, List, [], ◌∷◌, ◌++◌}
use Rattle.std.specs.Prelude.{Result, Ok, Err, get_or, take}
use Rattle.mot_files.specs.Call.{Call, read}
use Rattle.mot_files.specs.declared.system.Fault.{Fault}
use Rattle.mot_files.specs.declared.system.Handle.{Handle}

-- whether the last of so many bytes is no line end
abbrev pub ends_cut : (room : List ℕ) → (count : ℕ) → Bool
ends_cut room count = not (nat_eq (get_or room (count - 1) 0) 10)

-- what a read of a file of lines gives: what the system's read gave, or the end of a last line that
-- has none
pub data ReadsLines (handle : Handle) (was_cut is_cut : Bool) (result : Result ℕ Fault)
    (room : List ℕ) (old new : List Call) : Type 0 where
  failed : (fault : Fault) → result ≡ Err fault → is_cut ≡ was_cut
      → new ≡ old ++ read handle room (Err fault) ∷ []
      → ReadsLines handle was_cut is_cut result room old new
  given : (count : ℕ) → count ≢ 0 → result ≡ Ok count → is_cut ≡ ends_cut room count
      → new ≡ old ++ read handle room (Ok count) ∷ []
      → ReadsLines handle was_cut is_cut result room old new
  ended : result ≡ Ok 0 → is_cut ≡ was_cut → (was_cut ≡ false) ⊎ (room ≡ [])
      → new ≡ old ++ read handle room (Ok 0) ∷ []
      → ReadsLines handle was_cut is_cut result room old new
  line_end : result ≡ Ok 1 → was_cut ≡ true → is_cut ≡ false → take 1 room ≡ 10 ∷ []
      → new ≡ old ++ read handle [] (Ok 0) ∷ []
      → ReadsLines handle was_cut is_cut result room old new
