use Rattle.std.specs.Prelude.{◌≡◌, List, Option, None, codes}
use Rattle.clap.specs.Words.{Row, found_of, rows_of}
use Rattle.mot_cli.specs.Inner.{Finds}
use Rattle.mot_cli.specs.Task.{IsTask}
use Rattle.mot_cli.specs.declared.playing.PlayTask.{PlayTask}
use Rattle.mot_cli.specs.declared.task.Task.{Task}
use Rattle.mot_cli.specs.declared.task.Task.TheVariants.{Play}
use Rattle.mot_cli.proofs.Unasked.{none_found, play_needs}
use Rattle.mot_cli.proofs.playing.play_of.Goals as goal

unplayed : (rows : List Row) (found : Option Task) → found ≡ None
    → ((p : PlayTask) → IsTask (codes "play") rows (Play p) → ⊥)
    → Finds (IsTask (codes "play") rows) found
unplayed rows found is none = none_found (IsTask (codes "play") rows) found is (play_needs rows none)

pub returns-in_err-number_of : goal.returns-in_err-number_of
returns-in_err-number_of c = unplayed (rows_of (found_of c.args.words.now))
    c.from_residual-in_err-number_of.result c.from_residual-in_err-number_of.ensures
    (λ p t. c.in_err-number_of.ensures p.every t.7)

pub returns-in_err-number_of-2 : goal.returns-in_err-number_of-2
returns-in_err-number_of-2 c = unplayed (rows_of (found_of c.args.words.now))
    c.from_residual-in_err-number_of-2.result c.from_residual-in_err-number_of-2.ensures
    (λ p t. c.in_err-number_of-2.ensures p.turns t.8)

pub returns-in_err-number_of-3 : goal.returns-in_err-number_of-3
returns-in_err-number_of-3 c = unplayed (rows_of (found_of c.args.words.now))
    c.from_residual-in_err-number_of-3.result c.from_residual-in_err-number_of-3.ensures
    (λ p t. c.in_err-number_of-3.ensures p.directory t.9)

pub returns-in_err-number_of-4 : goal.returns-in_err-number_of-4
returns-in_err-number_of-4 c = unplayed (rows_of (found_of c.args.words.now))
    c.from_residual-in_err-number_of-4.result c.from_residual-in_err-number_of-4.ensures
    (λ p t. c.in_err-number_of-4.ensures p.look t.10)

pub returns-in_err-number_of-5 : goal.returns-in_err-number_of-5
returns-in_err-number_of-5 c = unplayed (rows_of (found_of c.args.words.now))
    c.from_residual-in_err-number_of-5.result c.from_residual-in_err-number_of-5.ensures
    (λ p t. c.in_err-number_of-5.ensures p.early t.11)
