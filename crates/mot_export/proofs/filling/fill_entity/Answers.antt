use Rattle.std.proofs.Common.{◌≡◌, ◌∙◌, ◌+◌, ◌-◌, ℕ, min, ap, arith, sym}
use Rattle.std.specs.List.{fold}
use Rattle.mot_numbers.specs.PacketLength.{room_of}
use Rattle.mot_export.specs.Filling.{with_packet}
use Rattle.mot_export.specs.Inner.Filled.{followed_by, frame_with}
use Rattle.mot_export.specs.declared.filling.Frames.{Frames}
use Rattle.mot_export.proofs.FilledBehind.{filled-behind}
use Rattle.mot_listening.specs.Entities.{group_lengths, segment_lengths}
use Rattle.mot_listening.proofs.Laws.{segment-more}
use Rattle.mot_export.proofs.filling.fill_entity.Goals as goal

pub loop-preserved : goal.loop-preserved
loop-preserved c =
    let size = c.args.steps.now.size in
    let room = room_of c.args.steps.now.full_length in
    let full = c.args.segment_size in
    let mid = c.loop.frames in
    let is = c.loop.invariant in
    let group : ℕ = c.min-group.result + 11 in
    let filled : c.add.new.self ≡ fold (with_packet size) mid (group_lengths room group) =
    c.add.ensures ∙ ap (followed_by mid) c.behind.ensures.filled
    ∙ ap (λ n. followed_by mid (fold (with_packet n) (frame_with mid.left)
    (group_lengths (room_of c.loop.steps.full_length) group))) is.same.0
    ∙ ap (λ l. followed_by mid (fold (with_packet size) (frame_with mid.left)
    (group_lengths (room_of l) group))) is.same.1
    ∙ sym (filled-behind size mid (group_lengths room group)) in
    let count = c.segment_count-count.result in
    let end = fold (with_packet size) c.args.frames.now
    (segment_lengths count room full c.args.len) in
    let full_is : c.from-full.result ≡ full = c.from-full.ensures ∙ c.get.ensures.value in
    record {
      right = c.behind.ensures.right;
      same = (c.behind.ensures.same.0 ∙ is.same.0, c.behind.ensures.same.1 ∙ is.same.1);
      filled =
          ap (λ n. fold (with_packet size) c.add.new.self
          (segment_lengths (count - (c.loop.counter + 1)) room full n))
          (c.saturating_sub-rest.ensures ∙ ap (λ f. c.loop.rest - f) full_is)
          ∙ segment-more (with_packet size) room end full count c.loop.counter c.loop.rest (c.min-group.result + 11)
          c.loop.frames c.add.new.self c.loop-test.true is.filled
          (ap (λ n. n + 11) (c.min-group.ensures ∙ ap (λ f. min f c.loop.rest) full_is))
          filled;
      few =
          let so_far = is.few in
          let one = c.behind.ensures.few in
          let all = ap (λ (f : Frames). f.begun) c.add.ensures in
          omega (arith, so_far, one, all);
    }
