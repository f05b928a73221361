-- Worked rows of what a receiver has that begins to listen at any packet.
use Rattle.std.proofs.Common.{◌≡◌, ℕ, List, [], ◌∷◌, Bool, true, false, refl, map}
use Rattle.std.specs.Prelude.{Some, None}
use Rattle.mot_groups.specs.Entity.{entity_of}
use Rattle.mot_groups.specs.Group.{Segment}
use Rattle.mot_packets.specs.Packet.{PacketFields}
use Rattle.mot_listening.specs.Listening.{collected, from_first}

abbrev packet : Bool → Bool → ℕ → PacketFields
packet first last byte = record {
  room = 19;
  address = 1;
  index = 0;
  first = first;
  last = last;
  useful = byte ∷ [];
}

abbrev bytes_in : List PacketFields → List (List ℕ)
bytes_in packets = map (λ (p : PacketFields). p.useful) packets

-- the rest of a group is dropped, and a group that begins is not
dropped : bytes_in (from_first (packet false false 1 ∷ packet false true 2 ∷ packet true false 3
    ∷ packet false true 4 ∷ [])) ≡ (3 ∷ []) ∷ (4 ∷ []) ∷ []
dropped = refl

begun : bytes_in (from_first (packet true true 1 ∷ packet true false 2 ∷ []))
    ≡ (1 ∷ []) ∷ (2 ∷ []) ∷ []
begun = refl

none-begun : bytes_in (from_first (packet false false 1 ∷ packet false true 2 ∷ [])) ≡ []
none-begun = refl

-- a body of three segments, of another body one, and a segment that differs
abbrev segment : ℕ → ℕ → Bool → List ℕ → Segment
segment tid number last bytes =
    record { kind = 4; tid = tid; number = number; last = last; bytes = bytes }

abbrev zeroth : Segment
zeroth = segment 2 0 false (1 ∷ 2 ∷ [])

abbrev first : Segment
first = segment 2 1 false (3 ∷ 4 ∷ [])

abbrev second : Segment
second = segment 2 2 true (5 ∷ [])

abbrev other : Segment
other = segment 4 0 true (7 ∷ [])

abbrev differs : Segment
differs = segment 2 1 false (3 ∷ 9 ∷ [])

-- who tunes in within the body has it when its front came again, with some segments twice
within-body : entity_of (collected (first ∷ second ∷ other ∷ zeroth ∷ first ∷ second ∷ [])) 4 2
    ≡ Some (1 ∷ 2 ∷ 3 ∷ 4 ∷ 5 ∷ [])
unfolding entity_of
within-body = refl

other-body : entity_of (collected (first ∷ second ∷ other ∷ zeroth ∷ first ∷ second ∷ [])) 4 4
    ≡ Some (7 ∷ [])
unfolding entity_of
other-body = refl

-- and not before
not-yet : entity_of (collected (first ∷ second ∷ other ∷ [])) 4 2 ≡ None
unfolding entity_of
not-yet = refl

no-last : entity_of (collected (zeroth ∷ first ∷ other ∷ [])) 4 2 ≡ None
unfolding entity_of
no-last = refl

-- a segment that came with other bytes spoils it
not-equal : entity_of (collected (first ∷ second ∷ zeroth ∷ differs ∷ [])) 4 2 ≡ None
unfolding entity_of
not-equal = refl
