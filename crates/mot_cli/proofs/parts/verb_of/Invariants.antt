use Rattle.std.proofs.Common.{◌≡◌, false, take}
use Rattle.clap.specs.Words.{app_of, new_app}
use Rattle.clap.specs.declared.builder.Command.TheViews.{out-Command}
use Rattle.mot_cli.specs.Inner.{with_all, with_argument}
use Rattle.mot_cli.proofs.parts.verb_of.Given as goal

abbrev pub invariant-loop-argument : goal.invariant-loop-argument
invariant-loop-argument l = record {
  made : app_of l.command
      ≡ with_all with_argument (new_app l.verb.name.now)
      (take l.argument-index l.verb.arguments.now);
  local : (out-Command l.command).has_globals ≡ false;
}
