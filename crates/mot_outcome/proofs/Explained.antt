-- What a run came to that only explained its words.
use Rattle.std.proofs.Common.{◌≡◌, ◌≢◌, ◌⊎◌, ℕ, true, Bool, List, Option, Some, None, inl, inr}
use Rattle.std.proofs.Common.{subst, sym}
use Rattle.std.proofs.KnownBytes.{Keeps-refl}
use Rattle.std.specs.Io.KnownBytes.{Keeps}
use Rattle.clap.specs.Words.{HasKind, Row, Text, fault_of, kind_of}
use Rattle.clap.specs.declared.error.Error.{Error}
use Rattle.clap.specs.declared.error.ErrorKind.TheVariants as kind
use Rattle.disk_store.specs.declared.file.start.Start.{Ghosts}
use Rattle.mot_numbers.specs.declared.refusal.Refusal.{Refusal}
use Rattle.mot_numbers.specs.declared.refusal.Refusal.TheVariants.{OutOfMemory}
use Rattle.mot_outcome.specs.Outcome.{ComesTo, IsUntold, IsUntouched, Prints, status_of}
use Rattle.mot_outcome.specs.Outcome.ComesTo.{helped, no_memory, wrong}
use Rattle.mot_outcome.specs.declared.exit.Exit.{Exit}
use Rattle.mot_outcome.specs.declared.used.UsedDisk.{UsedDisk}
use Rattle.mot_outcome.specs.declared.used.UsedDisk.TheVariants.{Untouched}
use Rattle.mot_cli.proofs.Laws.{AreWrong-fault, AskForHelp-shown}
use Rattle.mot_cli.specs.Given.{AreWrong}
use Rattle.mot_cli.specs.Command.{motcar_app}

-- words with a fault are wrong, or ask for help; or there was no memory
pub explained : {S F : Type 0} {start : Ghosts S F} {T : Type 0}
    (IsTask : Text → List Row → T → Type 0) (IsWrong : List Text → Type 0) (bad : Refusal)
    (Early : T → Refusal → Type 0)
    (Ends : T → (all : Bool) → Option Refusal → UsedDisk S F start
    → (unread left old new : Option (List ℕ)) → Type 0)
    (words : List Text) (exit : Exit S F start) (unread old new : Option (List ℕ))
    → (AreWrong motcar_app words → IsWrong words)
    → (error : Error) → HasKind (fault_of motcar_app words) error
    → (value : S) → exit.disk ≡ Untouched value
    → ((exit.status ≡ 1) × (exit.refusal ≡ Some OutOfMemory) × Keeps old new)
    ⊎ ((exit.status ≡ 2) × (exit.refusal ≡ None) × (kind_of error ≢ kind.DisplayHelp)
    × (kind_of error ≢ kind.OutOfMemory) × Keeps old new)
    ⊎ ((exit.status ≡ status_of true exit.refusal) × (kind_of error ≡ kind.DisplayHelp)
    × (text : List ℕ) × Prints exit.refusal text old new)
    → ComesTo IsTask IsWrong bad Early Ends words exit unread unread old new
explained IsTask IsWrong bad Early Ends words exit unread old new are error kinds value same told =
    let untouched : IsUntouched exit.disk =
    subst (λ (d : _). IsUntouched d) (sym same) tt in
    let untold : Keeps old new → IsUntold exit.disk old new =
    λ silent. record { untouched = untouched; silent = silent } in
    elim told [
      | inl none ↦ no_memory (none.0, none.1, untold none.2, Keeps-refl _)
      | inr (inl bad) ↦ wrong (are (AreWrong-fault motcar_app words error kinds bad.2 bad.3))
          (bad.0, bad.1, untold bad.4, Keeps-refl _)
      | inr (inr help) ↦ helped (AskForHelp-shown motcar_app words error kinds help.1) help.0
          help.2 help.3 untouched (Keeps-refl _)
    ]
