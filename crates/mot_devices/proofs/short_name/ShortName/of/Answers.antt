use Rattle.std.proofs.Common.{◌∙◌, ap, take}
use Rattle.std.proofs.lemmas.List.{take_min}
use Rattle.mot_devices.specs.declared.short_name.TheConstants.{LONGEST}
use Rattle.mot_devices.proofs.short_name.ShortName.of.Goals as goal

pub returns : goal.returns
returns c =
    c.copy-len.ensures.bytes ∙ ap (λ n. take n c.args.name.now) c.copy-len.ensures.len
    ∙ take_min LONGEST c.args.name.now
