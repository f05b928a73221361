use Rattle.std.proofs.Common.{◌≡◌, ◌++◌, ℕ, List, length, None}
use Rattle.std.specs.Prelude.{⊤}
use Rattle.disk_model.specs.Disk.{KeepsLength}
use Rattle.mot_feed_lines.specs.Inner.{AnswersMore}
use Rattle.mot_update.specs.HasRun.{IsUpdating}
use Rattle.mot_journal.specs.Image.{Standing}
use Rattle.mot_lines.specs.Lines.{bytes_in_hand, rest_of}
use Rattle.mot_repository.specs.Repository.{Holds}
use Rattle.mot_update.specs.Faults.{StaysCalm}
use Rattle.mot_feed_lines.proofs.answering.answer_chunk.Given as goal

abbrev pub invariant-loop-line : goal.invariant-loop-line
invariant-loop-line g l =
    let state = g.D.Disk.state in
    record {
      keeps : KeepsLength (state l.initial.server.disk) (state l.server.disk);
      calm : StaysCalm l.initial.server l.server (state l.initial.server.disk)
          (state l.server.disk);
      run : (s : Standing) → Holds l.initial.server.view s (state l.initial.server.disk)
          → (state l.server.disk).IsHonest
          → IsUpdating (λ _ _ _ _. ⊤) l.initial.server l.server (state l.initial.server.disk)
          (state l.server.disk) s None;
      taken : (front : List ℕ) × (front ++ l.rest ≡ l.chunk)
          × ((input : List ℕ) → l.initial.intake.hand ≡ bytes_in_hand (rest_of input)
          → (l.intake.hand ≡ bytes_in_hand (rest_of (input ++ front)))
          × AnswersMore state l.initial.server l.server input (input ++ front) None);
    }

abbrev pub decreases-loop-line : goal.decreases-loop-line
decreases-loop-line g l = length l.rest
