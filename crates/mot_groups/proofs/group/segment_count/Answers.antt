use Rattle.std.proofs.Common.{length, ap, ◌∙◌, sym, arith}
use Rattle.std.specs.Int.{div_ceil}
use Rattle.mot_groups.proofs.Cut.{IsCut-pieces, length-first_pieces, entity_of-own}
use Rattle.mot_groups.proofs.ReadBack.{read_group-bytes_of_group, content_of-bytes_of_group}
use Rattle.mot_groups.proofs.group.segment_count.Goals as goal

pub returns-clause-number : goal.returns-clause-number
returns-clause-number c = λ bytes len.
    let size = c.args.size in
    length-first_pieces (div_ceil (length bytes) size) size bytes ∙ ap (λ n. div_ceil n size) len
    ∙ sym (c.div_ceil.ensures ∙ ap (div_ceil c.args.len) (c.from.ensures ∙ c.get.ensures.value))

pub returns-clause-cut : goal.returns-clause-cut
returns-clause-cut c = λ bytes. IsCut-pieces c.args.size bytes (omega arith)

pub returns-clause-entities : goal.returns-clause-entities
returns-clause-entities c =
    λ kind tid bytes segments some own.
    entity_of-own kind tid c.args.size bytes segments (omega arith) some own

pub returns-clause-groups : goal.returns-clause-groups
returns-clause-groups c = read_group-bytes_of_group

pub returns-clause-contents : goal.returns-clause-contents
returns-clause-contents c = content_of-bytes_of_group
