use Rattle.std.proofs.Common.{◌≡◌, length}
use Rattle.mot_devices.specs.Signatures.{signature_among}
use Rattle.mot_devices.proofs.signature.find_among.Given as goal

abbrev pub invariant-loop-signature : goal.invariant-loop-signature
invariant-loop-signature l = signature_among l.head l.signatures ≡ signature_among l.head l.rest

abbrev pub decreases-loop-signature : goal.decreases-loop-signature
decreases-loop-signature l = length l.rest
