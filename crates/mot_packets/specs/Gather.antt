-- The data groups that packets carry, as a receiver gathers them (EN 300 401, clauses 5.3.2 and
-- 5.3.3).
use Rattle.std.specs.Prelude.{ℕ, Bool, true, not, ◌&&◌, ◌||◌, ◌==◌, if◌then◌else◌, List, [], ◌∷◌}
use Rattle.std.specs.Prelude.{◌++◌, length, Option, Some, None}
use Rattle.std.specs.List.{list_all}
use Rattle.mot_numbers.specs.Reading.{◌>>=◌, is_empty, read_each}
use Rattle.mot_packets.specs.Packet.{PacketFields, read_packet}

-- A packet is a group's first exactly where no group is begun. None is empty, and each but a
-- group's last is full (own profile).
abbrev pub may_follow : List ℕ → PacketFields → Bool
may_follow begun p =
    (if p.first then is_empty begun else not (is_empty begun)) && not (is_empty p.useful)
    && (p.last || length p.useful == p.room)

-- the groups of packets, and what has come of one whose last packet is still to come ([] for none);
-- begun is what had come of one before them
unfoldable pub groups_after : List ℕ → List PacketFields → Option (List (List ℕ) × List ℕ)
groups_after begun [] = Some ([], begun)
groups_after begun (p ∷ packets) =
    let so_far = begun ++ p.useful in
    groups_after (if p.last then [] else so_far) packets >>= λ rest.
    if may_follow begun p then Some (if p.last then so_far ∷ rest.0 else rest.0, rest.1) else None

abbrev pub have_address : ℕ → List PacketFields → Bool
have_address address packets = list_all (λ (p : PacketFields). p.address == address) packets

abbrev pub have_one_address : List PacketFields → Bool
have_one_address [] = true
have_one_address (p ∷ packets) = have_address p.address packets

-- the groups of the packets, and what has come of the next
unfoldable pub gather_front : List (List ℕ) → Option (List (List ℕ) × List ℕ)
gather_front packets =
    read_each read_packet packets >>= λ parts.
    if have_one_address parts then groups_after [] parts else None

-- the groups of the packets, without rest
unfoldable pub gather : List (List ℕ) → Option (List (List ℕ))
gather packets = gather_front packets >>= λ front. if is_empty front.1 then Some front.0 else None
