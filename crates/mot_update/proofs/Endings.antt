-- What is left of a disk that was just opened, and what ends a command on it.
use Rattle.std.proofs.Common.{◌≡◌, ◌∙◌, ◌⊎◌, List, [], ◌++◌, Bool, Option, Some, Result, Ok, Err}
use Rattle.std.proofs.Common.{ap, inl, inr, refl, subst}
use Rattle.std.specs.Prelude.{IsFalse, MatchResult}
use Rattle.disk_model.specs.Disk.{IsHonestDisk, IsStill, State, Rises}
use Rattle.disk_model.proofs.Laws.{joins}
use Rattle.mot_update.specs.Ending.{IsEnd, Leaves}
use Rattle.mot_update.specs.Ending as ending
use Rattle.mot_journal.specs.Image.{Standing}
use Rattle.mot_numbers.specs.declared.refusal.Refusal.{Refusal}
use Rattle.mot_numbers.specs.declared.refusal.Refusal.TheVariants.{WriteFault}
use Rattle.mot_objects.specs.declared.command.Command.{Command}
use Rattle.mot_update.proofs.Opened.{AllAre, opened_throughout}
use Rattle.mot_repository.specs.Repository.{RepositoryView}
use Rattle.mot_playout.specs.RunEnds.{RunLeaves}
use Rattle.mot_playout.specs.Runs.{StandsAfterSome, accepted_commands, commands_in_flight}
use Rattle.mot_playout.specs.Runs.{ServerView}
use Rattle.mot_playout.specs.Attempts.{fault_of}
use Rattle.mot_playout.proofs.Laws.{after_none, none_of, not_halted}
use Rattle.mot_update.specs.Faults as update
use Rattle.mot_update.specs.Faults.{IsUpdateFault, StaysCalm}

-- what commands leave behind an opening
pub opened_leaves : (start old now : State) (first last : RepositoryView) (s : Standing)
    (commands : List Command) (marks : List Bool) (fault : Option Refusal) → IsHonestDisk start
    → AllAre s start → IsStill start old
    → RunLeaves first last old now s commands marks fault → Leaves s commands marks fault start now
opened_leaves start old now first last s commands marks fault sound all still run =
    let P = StandsAfterSome s []
    (accepted_commands commands marks ++ commands_in_flight commands marks fault) in
    record {
      any_moment = joins start old now P P
          (opened_throughout start old P sound
          (λ image left. none_of s []
          (accepted_commands commands marks ++ commands_in_flight commands marks fault) s image
          (after_none s) (all image left)) still)
          run.any_moment (λ image is. is);
      at_end = run.at_end;
    }

-- what ends an update or a write on a server just opened
breaks_off : {D : Type 0} (server : ServerView D) (start old now : State) (refusal : Refusal)
    → IsFalse server.view.halted → old.failures ≡ start.failures
    → IsUpdateFault server old now refusal
    ⊎ ((refusal ≡ WriteFault) × (now.failures ≡ old.failures)) → IsEnd (Some refusal) start now
breaks_off server start old now refusal going calm (inl (update.halted is e same)) =
    absurd (not_halted server.view.halted is going)
breaks_off server start old now refusal going calm (inl (update.no_memory e same)) =
    ending.no_memory (ap Some e) (same ∙ calm)
breaks_off server start old now refusal going calm (inl (update.device is e rises)) =
    ending.device (ap Some e) (subst (λ n. Rises n now.failures) calm rises)
breaks_off server start old now refusal going calm (inr unwritten) =
    ending.unwritten (ap Some unwritten.0) (unwritten.1 ∙ calm)

-- how they ended whose result this is
pub ends_off : {A D : Type 0} (server new : ServerView D) (start old now : State)
    (result : Result A Refusal) → IsFalse server.view.halted → old.failures ≡ start.failures
    → MatchResult result (λ _. StaysCalm server new old now)
    (λ r. IsUpdateFault server old now r ⊎ ((r ≡ WriteFault) × (now.failures ≡ old.failures)))
    → IsEnd (fault_of result) start now
ends_off server new start old now (Ok value) going calm why =
    ending.whole refl (why.failures ∙ calm)
ends_off server new start old now (Err refusal) going calm why =
    breaks_off server start old now refusal going calm why
