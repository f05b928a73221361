-- What the manual says of constants.
use Rattle.std.proofs.Common.{◌≡◌, refl}
use Rattle.mot_endpoints.specs.declared.lines.TheConstants.{EVERY}

every : EVERY ≡ 8
every = refl
