-- The folder that lines come from.
use Rattle.std.specs.Prelude.{◌≡◌, ◌⊎◌, Option, Some, None}
use Rattle.mot_numbers.specs.declared.refusal.Refusal.{Refusal}
use Rattle.mot_numbers.specs.declared.refusal.Refusal.TheVariants.{OutOfMemory, ReadFault}

-- why there are no lines, where their folder is given: it is none, or there is no memory for a line
abbrev pub IsUnlined : {A : Type 0} → (lines : Option A) → Refusal → Type 0
IsUnlined None r = ⊥
IsUnlined (Some lines) r = (r ≡ ReadFault) ⊎ (r ≡ OutOfMemory)
