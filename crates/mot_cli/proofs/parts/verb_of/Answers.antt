use Rattle.std.proofs.Common.{◌∙◌, ◌||◌, ap, ap₂}
use Rattle.clap.specs.Words.{new_app, with_rule}
use Rattle.std.proofs.lemmas.List.{take_all}
use Rattle.mot_cli.specs.Inner.{with_all, with_argument}
use Rattle.mot_cli.proofs.InTurn.{one_more}
use Rattle.mot_cli.proofs.parts.verb_of.Goals as goal

pub loop-argument-preserved : goal.loop-argument-preserved
loop-argument-preserved c =
    let at = c.loop-argument in
    let verb = c.args.verb.now in
    let argument = c.arg_of.ensures in
    let added = c.in_ok-command.ensures in record {
      made = one_more with_argument (new_app verb.name.now) verb.arguments.now at.argument-index _
          c.loop-argument-test.true _ _ at.invariant.made
          (added.shape argument.local ∙ ap (with_rule _) argument.rule);
      local = added.globals ∙ ap₂ ◌||◌ at.invariant.local argument.local;
    }

pub returns : goal.returns
returns c =
    let at = c.loop-argument in
    let verb = c.args.verb.now in (
      at.invariant.made ∙ ap (with_all with_argument (new_app verb.name.now))
          (take_all at.argument-index verb.arguments.now c.loop-argument-test.false),
      at.invariant.local,
    )
