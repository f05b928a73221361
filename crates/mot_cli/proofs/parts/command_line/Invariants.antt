use Rattle.std.proofs.Common.{◌≡◌, false, take}
use Rattle.clap.specs.Words.{app_of}
use Rattle.clap.specs.declared.builder.Command.TheViews.{out-Command}
use Rattle.mot_cli.specs.Inner.{line_app}
use Rattle.mot_cli.proofs.parts.command_line.Given as goal

abbrev pub invariant-loop-verb : goal.invariant-loop-verb
invariant-loop-verb l = record {
  made : app_of l.command ≡ line_app (take l.verb-index l.verbs);
  local : (out-Command l.command).has_globals ≡ false;
}
