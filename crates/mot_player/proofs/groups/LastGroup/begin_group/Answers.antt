use Rattle.std.proofs.Common.{◌≡◌, ℕ, List, Some, ◌++◌, ap, ◌∙◌}
use Rattle.mot_groups.specs.Group.{bytes_of_group, group_of, segment_content}
use Rattle.mot_numbers.specs.PacketLength.{kind_number}
use Rattle.mot_player.specs.PlayerView.{kept_last}
use Rattle.mot_player.specs.Place.{next_index}
use Rattle.mot_player.proofs.groups.LastGroup.begin_group.Goals as goal

content_is : (c : goal.After-keep) → c.content_front-front.result ++ c.args.segment.now
    ≡ segment_content (group_of 0 (kind_number c.args.kind) c.args.tid c.args.number c.args.is_last
    c.args.segment.now).segment
content_is c = ap (λ (front : List ℕ). front ++ c.args.segment.now) c.content_front-front.ensures

index_is : (c : goal.After-keep) → c.next_index-index.result
    ≡ next_index (kept_last c.args.self.now) (segment_content
    (group_of 0 (kind_number c.args.kind) c.args.tid c.args.number c.args.is_last
    c.args.segment.now).segment)
index_is c = c.next_index-index.ensures.value
    ∙ ap (next_index (kept_last c.args.self.now)) (content_is c)

pub returns-clause-written : goal.returns-clause-written
returns-clause-written c =
    let group_at : ℕ → List ℕ = λ i.
    bytes_of_group (group_of i (kind_number c.args.kind) c.args.tid c.args.number
    c.args.is_last c.args.segment.now) in
    c.write_group.ensures.written
    ∙ ap (λ (xs : List ℕ). xs ++ group_at c.next_index-index.result) c.clear.ensures.items
    ∙ ap group_at (index_is c)

pub returns-clause-last : goal.returns-clause-last
returns-clause-last c =
    c.keep.ensures.last
    ∙ ap (λ (content : List ℕ).
    Some (record { index = c.next_index-index.result; content = content })) (content_is c)
    ∙ ap (λ (i : ℕ). Some (record {
      index = i;
      content = segment_content
          (group_of 0 (kind_number c.args.kind) c.args.tid c.args.number c.args.is_last
          c.args.segment.now).segment;
    })) (index_is c)
