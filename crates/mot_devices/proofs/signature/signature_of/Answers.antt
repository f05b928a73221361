use Rattle.std.proofs.Common.{◌∙◌, ap}
use Rattle.mot_devices.specs.Signatures.{signature_in, signature_unless}
use Rattle.mot_devices.proofs.signature.signature_of.Goals as goal

pub returns-then-has_at : goal.returns-then-has_at
unfolding signature_in
returns-then-has_at c = ap (λ ours. signature_unless ours c.args.head.now) c.if-has_at.ensures

pub returns : goal.returns
unfolding signature_in
returns c =
    c.find_among.ensures ∙ ap (λ ours. signature_unless ours c.args.head.now) c.if-has_at.ensures
