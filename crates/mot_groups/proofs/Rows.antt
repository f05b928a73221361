-- The definitions, computed on a worked row, and on what must not read.
use Rattle.std.proofs.Common.{◌≡◌, ℕ, List, [], ◌∷◌, Bool, true, false, Some, None, refl}
use Rattle.std.specs.Prelude.{codes}
use Rattle.mot_base.specs.Checksum.{crc_of, bits_of, bits_of_bytes, number_of_bits, added_to_front}
use Rattle.mot_base.specs.Checksum.{remainder}
use Rattle.mot_groups.specs.Entity.{entity_of}
use Rattle.mot_groups.specs.Group.{Segment, bytes_of_group, group_of, read_group}

abbrev group : List ℕ
group = 0x74 ∷ 0 ∷ 0x80 ∷ 0 ∷ 0x12 ∷ 0 ∷ 2 ∷ 0 ∷ 5 ∷ 0x68 ∷ 0x65 ∷ 0x6c ∷ 0x6c ∷ 0x6f ∷ 0x34 ∷ 0xcf
    ∷ []

group_reads : read_group group ≡ Some (group_of 0 4 2 0 true (codes "hello"))
unfolding read_group crc_of bits_of bits_of_bytes number_of_bits added_to_front remainder
group_reads = refl

group_is_written : bytes_of_group (group_of 0 4 2 0 true (codes "hello")) ≡ group
unfolding bytes_of_group crc_of bits_of bits_of_bytes number_of_bits added_to_front remainder
group_is_written = refl

-- another checksum word
wrong_checksum : read_group
    (0x74 ∷ 0x0 ∷ 0x80 ∷ 0x0 ∷ 0x12 ∷ 0x0 ∷ 0x2 ∷ 0x0 ∷ 0x5 ∷ 0x68 ∷ 0x65 ∷ 0x6c ∷ 0x6c ∷ 0x6f
    ∷ 0x34 ∷ 0xce ∷ []) ≡ None
unfolding read_group crc_of bits_of bits_of_bytes number_of_bits added_to_front remainder
wrong_checksum = refl

-- an extension field
extension_field : read_group
    (0xf4 ∷ 0x0 ∷ 0x80 ∷ 0x0 ∷ 0x12 ∷ 0x0 ∷ 0x2 ∷ 0x0 ∷ 0x5 ∷ 0x68 ∷ 0x65 ∷ 0x6c ∷ 0x6c ∷ 0x6f
    ∷ 0x63 ∷ 0xb1 ∷ []) ≡ None
unfolding read_group crc_of bits_of bits_of_bytes number_of_bits added_to_front remainder
extension_field = refl

-- a repetition index
repeated_group : read_group
    (0x74 ∷ 0x1 ∷ 0x80 ∷ 0x0 ∷ 0x12 ∷ 0x0 ∷ 0x2 ∷ 0x0 ∷ 0x5 ∷ 0x68 ∷ 0x65 ∷ 0x6c ∷ 0x6c ∷ 0x6f
    ∷ 0x71 ∷ 0xac ∷ []) ≡ None
unfolding read_group crc_of bits_of bits_of_bytes number_of_bits added_to_front remainder
repeated_group = refl

-- transport id 0
id_zero : read_group (0x74 ∷ 0x0 ∷ 0x80 ∷ 0x0 ∷ 0x12 ∷ 0x0 ∷ 0x0 ∷ 0x0 ∷ 0x5 ∷ 0x68 ∷ 0x65 ∷ 0x6c
    ∷ 0x6c ∷ 0x6f ∷ 0xbb ∷ 0x69 ∷ []) ≡ None
unfolding read_group crc_of bits_of bits_of_bytes number_of_bits added_to_front remainder
id_zero = refl

-- an end user address
end_user_address : read_group
    (0x74 ∷ 0x0 ∷ 0x80 ∷ 0x0 ∷ 0x14 ∷ 0x0 ∷ 0x2 ∷ 0x0 ∷ 0x5 ∷ 0x68 ∷ 0x65 ∷ 0x6c ∷ 0x6c ∷ 0x6f
    ∷ 0x47 ∷ 0x70 ∷ []) ≡ None
unfolding read_group crc_of bits_of bits_of_bytes number_of_bits added_to_front remainder
end_user_address = refl

-- a repetition count
repeated_segment : read_group
    (0x74 ∷ 0x0 ∷ 0x80 ∷ 0x0 ∷ 0x12 ∷ 0x0 ∷ 0x2 ∷ 0x20 ∷ 0x5 ∷ 0x68 ∷ 0x65 ∷ 0x6c ∷ 0x6c ∷ 0x6f
    ∷ 0x5a ∷ 0x39 ∷ []) ≡ None
unfolding read_group crc_of bits_of bits_of_bytes number_of_bits added_to_front remainder
repeated_segment = refl

-- a segment of no bytes
no_bytes : read_group (0x74 ∷ 0x0 ∷ 0x80 ∷ 0x0 ∷ 0x12 ∷ 0x0 ∷ 0x2 ∷ 0x0 ∷ 0x0 ∷ 0x55 ∷ 0xf9 ∷ [])
    ≡ None
unfolding read_group crc_of bits_of bits_of_bytes number_of_bits added_to_front remainder
no_bytes = refl

-- a segment size that does not count the bytes
another_size : read_group
    (0x74 ∷ 0x0 ∷ 0x80 ∷ 0x0 ∷ 0x12 ∷ 0x0 ∷ 0x2 ∷ 0x0 ∷ 0x4 ∷ 0x68 ∷ 0x65 ∷ 0x6c ∷ 0x6c ∷ 0x6f
    ∷ 0x71 ∷ 0x6f ∷ []) ≡ None
unfolding read_group crc_of bits_of bits_of_bytes number_of_bits added_to_front remainder
another_size = refl

abbrev segment : ℕ → Bool → List ℕ → Segment
segment number last bytes =
    record { kind = 4; tid = 2; number = number; last = last; bytes = bytes }

-- two segments of one size and a shorter last one
entity_reads : entity_of
    (segment 0 false (0x1 ∷ 0x2 ∷ []) ∷ segment 1 false (0x3 ∷ 0x4 ∷ []) ∷ segment 2 true (0x5 ∷ [])
    ∷ []) 4 2 ≡ Some (0x1 ∷ 0x2 ∷ 0x3 ∷ 0x4 ∷ 0x5 ∷ [])
unfolding entity_of
entity_reads = refl

-- no segment
no_segments : entity_of ([]) 4 2 ≡ None
unfolding entity_of
no_segments = refl

-- a last segment that is longer
last_longer : entity_of (segment 0 false (0x1 ∷ 0x2 ∷ []) ∷ segment 1 true (0x3 ∷ 0x4 ∷ 0x5 ∷ [])
    ∷ []) 4 2 ≡ None
unfolding entity_of
last_longer = refl

-- a last flag inside
last_inside : entity_of (segment 0 true (0x1 ∷ 0x2 ∷ []) ∷ segment 1 true (0x3 ∷ 0x4 ∷ []) ∷ []) 4 2
    ≡ None
unfolding entity_of
last_inside = refl

-- no last flag
no_last : entity_of (segment 0 false (0x1 ∷ 0x2 ∷ []) ∷ segment 1 false (0x3 ∷ 0x4 ∷ []) ∷ []) 4 2
    ≡ None
unfolding entity_of
no_last = refl

-- a number left out
a_gap : entity_of (segment 0 false (0x1 ∷ 0x2 ∷ []) ∷ segment 2 true (0x3 ∷ 0x4 ∷ []) ∷ []) 4 2
    ≡ None
unfolding entity_of
a_gap = refl

-- an entity twice
body_twice : entity_of (segment 0 false (0x1 ∷ 0x2 ∷ []) ∷ segment 1 true (0x3 ∷ 0x4 ∷ [])
    ∷ segment 0 false (0x1 ∷ 0x2 ∷ []) ∷ segment 1 true (0x3 ∷ 0x4 ∷ []) ∷ []) 4 2 ≡ None
unfolding entity_of
body_twice = refl

-- two sizes before the last
sizes_differ : entity_of
    (segment 0 false (0x1 ∷ 0x2 ∷ []) ∷ segment 1 false (0x3 ∷ []) ∷ segment 2 true (0x5 ∷ []) ∷ [])
    4 2 ≡ None
unfolding entity_of
sizes_differ = refl
