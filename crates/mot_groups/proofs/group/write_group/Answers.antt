use Rattle.std.proofs.Common.{◌≡◌, ◌+◌, ◌*◌, ℕ, List, ◌∷◌, ◌++◌, length, refl, append_assoc, arith}
use Rattle.std.specs.Int.{to_be_bytes, w16}
use Rattle.mot_base.specs.Checksum.{crc_of}
use Rattle.mot_numbers.proofs.Laws.{kind_number-fits}
use Rattle.mot_groups.specs.Group.{bytes_of_group, content_head, group_of, segment_content}
use Rattle.mot_groups.proofs.Appended.{header-appended, rest_of-append}
use Rattle.mot_groups.proofs.ReadBack.{read_group-bytes_of_group}
use Rattle.mot_groups.proofs.Only.{read_group-only}
use Rattle.mot_groups.proofs.group.write_group.Goals as goal
use Rattle.mot_numbers.specs.PacketLength.{kind_number}

pub returns-clause-written : goal.returns-clause-written
unfolding bytes_of_group
returns-clause-written c =
    let kind : ℕ = kind_number c.args.kind in
    let segment : List ℕ = c.args.segment.now in
    let covered : List ℕ =
    (112 + kind) ∷ (16 * c.args.index) ∷ segment_content
    (group_of c.args.index kind c.args.tid c.args.number c.args.last segment).segment in
    let before : c.append-3.new.out.items ≡ c.args.out.now.items ++ covered =
    rw (
      c.append-3.ensures.items,
      c.append-2.ensures.items,
      c.append.ensures.items,
      c.content_front.ensures,
      c.number.ensures,
    )
    (header-appended c.args.out.now.items
    (content_head c.args.number c.args.last c.args.tid (length segment)) segment kind c.args.index
    (kind_number-fits c.args.kind) (omega arith)) in
    let checksum : c.crc16-checksum.result ≡ crc_of covered =
    rw (
      c.crc16-checksum.ensures,
      c.as_slice.ensures.value,
      before,
      rest_of-append c.args.out.now.items covered c.len-start.result (omega arith),
    ) refl in
    rw (c.append_number.ensures.items, checksum, before)
    (append_assoc c.args.out.now.items covered (to_be_bytes w16 (crc_of covered)))

pub returns-clause-reads : goal.returns-clause-reads
returns-clause-reads c =
    read_group-bytes_of_group
    (group_of c.args.index (kind_number c.args.kind) c.args.tid c.args.number c.args.last
    c.args.segment.now)
    (record {
      kind = kind_number-fits c.args.kind;
      index = omega arith;
      tid = (omega arith, omega arith);
      number = omega arith;
      some = omega arith;
      fits = omega arith;
    })

pub returns-clause-only : goal.returns-clause-only
returns-clause-only c = read_group-only
