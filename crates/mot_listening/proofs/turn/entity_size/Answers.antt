use Rattle.std.proofs.Common.{◌≡◌, ◌∙◌, ◌+◌, ◌*◌, ◌-◌, ◌<◌, ◌≤◌, ◌++◌, ℕ, List, suc, ap, arith, length, length-append, sym}
use Rattle.std.proofs.Math.Nat.{mul-le-mul, mul-le-mul_left}
use Rattle.std.proofs.lemmas.Grind.{div_ceil_times}
use Rattle.std.specs.Int.{div_ceil}
use Rattle.std.specs.List.{sum}
use Rattle.mot_numbers.specs.PacketLength.{room_of}
use Rattle.mot_listening.specs.Entities.{entity_lengths, group_lengths, segment_lengths}
use Rattle.mot_listening.proofs.Counted.{entity-sum, sum-append}
use Rattle.mot_listening.proofs.turn.entity_size.Goals as goal

-- the sums of one entity, by those of its groups
of-groups : (f : List ℕ → ℕ) → ((xs ys : List ℕ) → f (xs ++ ys) ≡ f xs + f ys)
    → (count others room size full rest entity a b : ℕ)
    → count ≡ div_ceil entity size → count ≡ others + 1 → full ≡ size → 0 < size
    → rest ≡ entity - others * full → a ≡ f (group_lengths room (full + 11))
    → b ≡ f (group_lengths room (rest + 11))
    → others * a + b ≡ f (entity_lengths room size entity)
of-groups f more count others room size full rest entity a b counted one full_is some rest_is first last =
    let all : rest ≡ entity - others * size = rest_is ∙ ap (λ n. entity - others * n) full_is in
    ap (λ n. others * n + b) (first ∙ ap (λ n. f (group_lengths room (n + 11))) full_is)
    ∙ ap (λ n. others * f (group_lengths room (size + 11)) + n)
    (last ∙ ap (λ n. f (group_lengths room (n + 11))) all)
    ∙ sym (entity-sum f more others room size entity some (omega (arith, counted, one)))

pub returns-clause-packets : goal.returns-clause-packets
returns-clause-packets c =
    of-groups (λ l. length l) length-append c.segment_count-count.result (c.segment_count-count.result - 1)
    (room_of c.args.full_length) c.args.segment_size c.from-full.result
    c.saturating_sub-last.result c.args.len c.group_size-full_packets.result.0 c.group_size-last_packets.result.0
    c.segment_count-count.ensures.count (let some = c.if-count-eq0.false in omega (arith, some))
    (c.from-full.ensures ∙ c.get.ensures.value) (omega arith) c.saturating_sub-last.ensures
    c.group_size-full_packets.ensures.packets c.group_size-last_packets.ensures.packets

pub returns-clause-bytes : goal.returns-clause-bytes
returns-clause-bytes c =
    of-groups sum sum-append c.segment_count-count.result (c.segment_count-count.result - 1)
    (room_of c.args.full_length) c.args.segment_size c.from-full.result
    c.saturating_sub-last.result c.args.len c.group_size-full_packets.result.1 c.group_size-last_packets.result.1
    c.segment_count-count.ensures.count (let some = c.if-count-eq0.false in omega (arith, some))
    (c.from-full.ensures ∙ c.get.ensures.value) (omega arith) c.saturating_sub-last.ensures
    c.group_size-full_packets.ensures.bytes c.group_size-last_packets.ensures.bytes

pub returns-clause-few : goal.returns-clause-few
returns-clause-few c =
    let n : ℕ = c.segment_count-count.result - 1 in
    let size : ℕ = c.args.segment_size in
    let one = c.group_size-full_packets.ensures.few in
    let last = c.group_size-last_packets.ensures.few in
    let bound = (div_ceil_times c.args.len size (omega (arith, c.get.ensures.range))).1 in
    let within : n * size < c.args.len =
    let count = c.segment_count-count.ensures.count in
    let some = c.if-count-eq0.false in
    let all : suc n ≡ div_ceil c.args.len size = omega (arith, count, some) in
    grind (arith, all, bound) in
    let few : n ≤ 262144 =
    let some : 1 ≤ size = omega (arith, c.get.ensures.range) in
    let each : n * 1 ≤ n * size = mul-le-mul_left n some in
    let short = c.requires in omega (arith, within, each, short) in
    let packets = mul-le-mul few one.0 in
    let bytes = mul-le-mul few one.1 in (
      let more = last.0 in omega (arith, packets, more),
      let more = last.1 in omega (arith, bytes, more),
    )
