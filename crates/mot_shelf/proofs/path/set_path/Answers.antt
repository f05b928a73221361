use Rattle.std.specs.Str.{is_utf8}
use Rattle.std.proofs.Common.{refl}
use Rattle.mot_shelf.proofs.Asking.{no_text}
use Rattle.mot_shelf.proofs.path.set_path.Goals as goal

pub returns-in_default : goal.returns-in_default
returns-in_default c =
    no_text c.args.name.now (is_utf8 c.args.name.now) refl c.in_default.ensures.cases.0
