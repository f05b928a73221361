use Rattle.std.proofs.Common.{◌∙◌, ◌||◌, ap, ap₂}
use Rattle.clap.specs.Words.{app_of, with_subcommand}
use Rattle.mot_cli.specs.Inner.{empty_app, line_app, with_verb}
use Rattle.mot_cli.proofs.InTurn.{one_more}
use Rattle.std.proofs.lemmas.List.{take_all}
use Rattle.mot_cli.proofs.parts.command_line.Goals as goal

pub loop-verb-preserved : goal.loop-verb-preserved
loop-verb-preserved c =
    let at = c.loop-verb in
    let below = c.in_ok-below.ensures in
    let added = c.in_ok-command.ensures in record {
      made = one_more with_verb empty_app c.args.verbs.now at.verb-index _
          c.loop-verb-test.true _ _ at.invariant.made
          (added.shape below.1 ∙ ap (λ app. with_subcommand (app_of at.command) app.top) below.0);
      local = added.globals ∙ ap₂ ◌||◌ at.invariant.local below.1;
    }

pub returns : goal.returns
returns c =
    let at = c.loop-verb in (
      at.invariant.made
          ∙ ap line_app (take_all at.verb-index c.args.verbs.now c.loop-verb-test.false),
      at.invariant.local,
    )
