-- The lengths of packets, as they were measured behind a multiplexer.
use Rattle.std.proofs.Common.{◌≡◌, [], ◌∷◌, refl}
use Rattle.mot_listening.specs.Lengths.{lengths_of_group}

-- a group's last packet is the shortest that holds the rest
cut-96 : lengths_of_group 91 101 ≡ 96 ∷ 24 ∷ []
cut-96 = refl

cut-72 : lengths_of_group 67 101 ≡ 72 ∷ 48 ∷ []
cut-72 = refl
