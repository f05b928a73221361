-- The command line is of the kind that the parser's clauses speak of.
use Rattle.std.proofs.Common.{◌≡◌, true, refl}
use Rattle.clap.specs.Words.{is_simple, is_simple_and_free}
use Rattle.clap.proofs.OnLiterals.{clap_on_literals}
use Rattle.mot_cli.specs.Command.{motcar_app}

pub motcar_simple : is_simple motcar_app ≡ true
unfolding clap_on_literals
motcar_simple = refl

pub motcar_free : is_simple_and_free motcar_app ≡ true
unfolding clap_on_literals
motcar_free = refl
