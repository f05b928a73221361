use Rattle.std.proofs.Common.{◌∙◌, ◌++◌, ap}
use Rattle.mot_suffixes.proofs.types.FileTypes.new.Goals as goal
use Rattle.mot_suffixes.specs.Types.{types_in}
use Rattle.mot_suffixes.proofs.Known.{known}

pub returns : goal.returns
returns c = record {
  known = c.in-Ok.ensures.added ∙ ap (λ l. l ++ types_in c.as_bytes.result.now) c.new.ensures.items
      ∙ ap types_in c.as_bytes.ensures.value ∙ known;
}
