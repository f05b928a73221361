-- Why no file was used in a run that names no task: its refusal is none of a file, or help was asked
-- for.
use Rattle.std.proofs.Common.{◌≡◌, ◌≢◌, ◌⊎◌, Bool, true, false, List, ℕ, Option, None, Some, inl}
use Rattle.std.proofs.Common.{inr, refl, subst}
use Rattle.std.specs.Prelude.{IsSomeAnd, bytes_eq, codes, ◌||◌, if◌then◌else◌}
use Rattle.std.specs.Io.KnownBytes.{Keeps}
use Rattle.clap.specs.Words.{HasKind, Row, Text, fault_of, kind_of}
use Rattle.clap.specs.declared.error.Error.{Error}
use Rattle.clap.specs.declared.error.ErrorKind.TheVariants as kind
use Rattle.disk_store.specs.declared.file.start.Start.{Ghosts}
use Rattle.mot_cli.proofs.Laws.{AskForHelp-shown}
use Rattle.mot_cli.specs.Given.{AskForHelp}
use Rattle.mot_cli.specs.Command.{motcar_app}
use Rattle.mot_cli.specs.Task.{IsWhy, bad_number}
use Rattle.mot_cli.specs.declared.task.NoTask.{NoTask}
use Rattle.mot_cli.specs.declared.task.NoTask.TheVariants.{Lacks, OutOfRange}
use Rattle.mot_endpoints.specs.Opened.{is_fault}
use Rattle.mot_numbers.specs.declared.refusal.Refusal.{Refusal}
use Rattle.mot_numbers.specs.declared.refusal.Refusal.TheVariants.{BadGeometry, BadNumber}
use Rattle.mot_numbers.specs.declared.refusal.Refusal.TheVariants.{OutOfMemory}
use Rattle.mot_outcome.specs.Outcome.{Prints, status_of}
use Rattle.mot_outcome.specs.declared.exit.Exit.{Exit}
use Rattle.mot_server.specs.Inner.{TellsWhy}

-- the refusal is one of a file
abbrev IsOfFile : Option Refusal → Type 0
IsOfFile refusal = IsSomeAnd refusal (λ r. is_fault r ≡ true)

unrefused : (refusal : Option Refusal) → refusal ≡ None → IsOfFile refusal → ⊥
unrefused refusal is of_file = subst (λ (r : Option Refusal). IsOfFile r) is of_file

other : (refusal : Option Refusal) (why : Refusal) → refusal ≡ Some why → is_fault why ≡ false
    → IsOfFile refusal → ⊥
other refusal why is fine of_file =
    let e : is_fault why ≡ true = subst (λ (r : Option Refusal). IsOfFile r) is of_file in absurd (cc)

fine_number : (is_geometry : Bool) → is_fault (if is_geometry then BadGeometry else BadNumber) ≡ false
fine_number true = refl
fine_number false = refl

module _ {S F : Type 0} {start : Ghosts S F} where
  -- words that the parser refuses
  pub explained_idle : (words : List Text) (error : Error) → HasKind (fault_of motcar_app words) error
      → (old new : Option (List ℕ)) (exit : Exit S F start)
      → ((exit.status ≡ 1) × (exit.refusal ≡ Some OutOfMemory) × Keeps old new)
      ⊎ ((exit.status ≡ 2) × (exit.refusal ≡ None) × (kind_of error ≢ kind.DisplayHelp)
      × (kind_of error ≢ kind.OutOfMemory) × Keeps old new)
      ⊎ ((exit.status ≡ status_of true exit.refusal) × (kind_of error ≡ kind.DisplayHelp)
      × (text : List ℕ) × Prints exit.refusal text old new)
      → IsOfFile exit.refusal → AskForHelp motcar_app words
  explained_idle words error kinds old new exit told of_file = elim told [
    | inl none ↦ absurd (other exit.refusal OutOfMemory none.1 refl of_file)
    | inr (inl bad) ↦ absurd (unrefused exit.refusal bad.1 of_file)
    | inr (inr help) ↦ AskForHelp-shown motcar_app words error kinds help.1
  ]

  -- words that ask for no task
  pub taskless_idle : (words : List Text) (name : Text) (rows : List Row) (why : NoTask)
      (exit : Exit S F start) → IsWhy name rows why → TellsWhy why exit → IsOfFile exit.refusal
      → AskForHelp motcar_app words
  taskless_idle words name rows (Lacks option) exit is tells of_file =
      absurd (unrefused exit.refusal tells.1 of_file)
  taskless_idle words name rows (OutOfRange r) exit is tells of_file =
      absurd (other exit.refusal r tells.1
      (subst (λ (x : Refusal). is_fault x ≡ false) (let e : bad_number name ≡ r = cc in e)
      (fine_number (bytes_eq name (codes "memory") || bytes_eq name (codes "format")
      || bytes_eq name (codes "copy")))) of_file)
