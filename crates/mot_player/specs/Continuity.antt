-- The continuity indexes of packets (EN 300 401, clause 5.3.2) and of groups (own rule).
use Rattle.std.specs.Prelude.{◌≡◌, ℕ, ◌+◌, ◌/◌, ◌%◌, ◌==◌, if◌then◌else◌, List, [], ◌∷◌, ◌++◌, map}
use Rattle.std.specs.Prelude.{filter, slice_index, Option, Some, bytes_eq}
use Rattle.mot_groups.specs.Group.{content_of}
use Rattle.mot_numbers.specs.Reading.{◌>>=◌, read_each}
use Rattle.mot_packets.specs.Gather.{gather_front}
use Rattle.mot_packets.specs.Packet.{read_packet}

-- the index in a packet's header
abbrev pub packet_index : List ℕ → Option ℕ
packet_index packet = read_packet packet >>= λ fields. Some fields.index

-- the indexes that packets have, from packet number n on: packet n has n modulo 4
abbrev pub packet_indexes_from : ℕ → List (List ℕ) → List ℕ
packet_indexes_from n [] = []
packet_indexes_from n (packet ∷ packets) = n % 4 ∷ packet_indexes_from (n + 1) packets

-- the type and the index in a group's header
abbrev pub kind_of : List ℕ → ℕ
kind_of group = slice_index group 0 % 16

abbrev pub group_index : List ℕ → ℕ
group_index group = slice_index group 1 / 16

-- the contents of the groups of a type
abbrev pub contents : ℕ → List (List ℕ) → List (List ℕ)
contents kind groups = map content_of (filter (λ (g : List ℕ). kind_of g == kind) groups)

-- how often a content differs from the one before it
abbrev pub changes : List (List ℕ) → ℕ
changes [] = 0
changes (c ∷ []) = 0
changes (c ∷ d ∷ others) = (if bytes_eq c d then 0 else 1) + changes (d ∷ others)

-- the index of a group behind others: how often, modulo 16, the content of its type has changed
abbrev pub index_after : List (List ℕ) → List ℕ → ℕ
index_after before group = changes (contents (kind_of group) (before ++ group ∷ [])) % 16

-- the indexes of groups behind others
abbrev pub indexes_after : List (List ℕ) → List (List ℕ) → List ℕ
indexes_after before [] = []
indexes_after before (group ∷ groups) =
    index_after before group ∷ indexes_after (before ++ group ∷ []) groups

-- The packets, from the first since opening on, carry groups, and perhaps the beginning of one
-- more; and packets and groups have their indexes.
pub record IsContinuous (packets : List (List ℕ)) : Type 0 where
  pub groups : List (List ℕ)
  pub begun : List ℕ
  pub gathered : gather_front packets ≡ Some (groups, begun)
  pub packet_indexes : read_each packet_index packets ≡ Some (packet_indexes_from 0 packets)
  pub group_indexes : map group_index groups ≡ indexes_after [] groups
