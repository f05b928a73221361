-- What one command came to, as a run of it alone.
use Rattle.std.specs.Prelude.{Bool, true, false, List, [], ◌∷◌, Option, Some, None, Result, Ok, Err}
use Rattle.mot_numbers.specs.declared.refusal.Refusal.{Refusal}
use Rattle.mot_objects.specs.declared.command.Done.{Done}
use Rattle.mot_playout.specs.declared.running.Attempt.{Attempt}
use Rattle.mot_playout.specs.declared.running.Attempt.TheVariants.{Accepted, Refused}

abbrev pub marks_of : Result Attempt Refusal → List Bool
marks_of (Ok (Accepted done)) = true ∷ []
marks_of (Ok (Refused refusal)) = false ∷ []
marks_of (Err refusal) = []

abbrev pub fault_of : {T : Type 0} → Result T Refusal → Option Refusal
fault_of (Ok done) = None
fault_of (Err refusal) = Some refusal

-- the command's own answer
abbrev pub answer_of : Result Attempt Refusal → Result Done Refusal
answer_of (Ok (Accepted done)) = Ok done
answer_of (Ok (Refused refusal)) = Err refusal
answer_of (Err refusal) = Err refusal
