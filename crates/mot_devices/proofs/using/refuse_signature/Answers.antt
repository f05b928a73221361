use Rattle.std.proofs.Common.{◌∙◌, ap, refl, sym}
use Rattle.mot_devices.specs.Uses.IsSigned.{signed}
use Rattle.mot_devices.specs.Signatures.{signature_in}
use Rattle.mot_devices.proofs.Uses.{headless}
use Rattle.mot_devices.proofs.using.refuse_signature.Goals as goal

pub returns-in-Err-clause-used : goal.returns-in-Err-clause-used
returns-in-Err-clause-used g c =
    headless c.args.path.now c.in-Err.why c.error.result (g.S.System.calls c.args.system.now)
    (g.S.System.calls c.read_first.new.system) c.error.ensures c.in-Err.ensures.unread

pub returns-in-Some-clause-used : goal.returns-in-Some-clause-used
returns-in-Some-clause-used g c = signed c.in-Some.signature refl (record {
  head = c.in-Ok.head.bytes.items;
  whole = c.in-Ok.head.is_whole;
  read = c.in-Ok.ensures.read;
  has = ap signature_in (sym c.deref.ensures.value) ∙ sym c.signature_of.ensures ∙ c.in-Some.is;
})
