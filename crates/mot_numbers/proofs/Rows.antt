-- The limits, as numbers.
use Rattle.std.proofs.Common.{◌≡◌, refl}
use Rattle.mot_numbers.specs.declared.geometry.TheConstants.{MAX_OBJECTS, MAX_DATA_AREA}
use Rattle.mot_numbers.specs.declared.numbers.TheConstants.{MAX_ADDRESS, MIN_SEGMENT, MAX_SEGMENT}

max_objects : MAX_OBJECTS ≡ 250
max_objects = refl

max_data_area : MAX_DATA_AREA ≡ 268435456
max_data_area = refl

max_address : MAX_ADDRESS ≡ 1023
max_address = refl

min_segment : MIN_SEGMENT ≡ 64
min_segment = refl

max_segment : MAX_SEGMENT ≡ 8189
max_segment = refl
