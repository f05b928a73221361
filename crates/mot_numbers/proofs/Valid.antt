-- The two forms of a geometry's rule.
use Rattle.std.proofs.Common.{◌≡◌, true, arith}
use Rattle.std.proofs.lemmas.Bool.Decides.{nat_tests}
use Rattle.mot_numbers.specs.declared.geometry.Geometry.{Geometry}
use Rattle.mot_numbers.specs.Geometry.{IsValid, is_valid}

-- a geometry that passes the test keeps the rule
pub valid_is : (g : Geometry) → is_valid g ≡ true → IsValid g
valid_is g is = grind (arith, nat_tests)

-- a geometry that keeps the rule passes the test
pub is_valid_of : (g : Geometry) → IsValid g → is_valid g ≡ true
is_valid_of g valid = grind (arith, nat_tests)
