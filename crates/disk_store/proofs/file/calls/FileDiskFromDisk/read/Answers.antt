use Rattle.std.specs.List.{All}
use Rattle.std.proofs.Common.{◌≡◌, ◌+◌, ◌<◌, length, slice_range, rules, refl, sym, ◌∙◌, ap, subst}
use Rattle.std.proofs.Common.{arith}
use Rattle.disk_store.specs.Calls.{Gave, FailedRead, after_call, no_content}
use Rattle.disk_store.specs.File.{file_content, calls_on}
use Rattle.disk_store.proofs.FileCalls.{content_now, goes_on_right, were_right, was_right}
use Rattle.disk_store.proofs.Recorded.{unchanged}
use Rattle.disk_store.proofs.file.calls.FileDiskFromDisk.read.Goals as goal

pub invariant_of-self-in-Ok : goal.invariant_of-self-in-Ok
invariant_of-self-in-Ok g c =
    let s = c.args.self.now in
    let now = content_now g.S.Start.bytes _ _ (Gave c.args.at c.read.new.out) c.in-Ok.ensures.ok in
    record {
      len_is = ap (λ u. length u.bytes) now ∙ s.len_is;
      loose_len = ap (λ u. length u.loose) now ∙ s.loose_len ∙ sym (ap (λ u. length u.bytes) now);
      are_bytes = subst (λ u. All (λ b. b < 256) u.bytes) (sym now) s.are_bytes;
    }

pub returns-clause-keeps : goal.returns-clause-keeps
returns-clause-keeps g c =
    let call = Gave c.args.at c.read.new.out in
    record {
      len = ap (λ u. length u.bytes) (content_now g.S.Start.bytes _ _ call c.in-Ok.ensures.ok);
      later = omega arith;
      was_honest = were_right g.S.Start.bytes _ _ call c.in-Ok.ensures.ok;
    }

pub returns-clause-unchanged : goal.returns-clause-unchanged
returns-clause-unchanged g c = λ honest.
    let call = Gave c.args.at c.read.new.out in
    unchanged (after_call g.S.Start.bytes) no_content (calls_on c.args.self.now) _
    (file_content c.args.self.now) _ _ _ _ _ _ _ refl call
    refl c.in-Ok.ensures.ok (content_now g.S.Start.bytes _ _ call c.in-Ok.ensures.ok)

pub returns-clause-bytes : goal.returns-clause-bytes
returns-clause-bytes g c = λ honest.
    let bytes = c.read.new.out in
    let same : length bytes ≡ length c.args.out.now = search rules in
    let right = was_right g.S.Start.bytes _ _ (Gave c.args.at bytes) c.in-Ok.ensures.ok honest in
    subst (λ n. bytes ≡ slice_range (file_content c.args.self.now).bytes c.args.at (c.args.at + n))
    same right

pub returns-clause-honest : goal.returns-clause-honest
returns-clause-honest g c = λ honest right.
    let bytes = c.read.new.out in
    let same : length bytes ≡ length c.args.out.now = search rules in
    goes_on_right g.S.Start.bytes _ _ (Gave c.args.at bytes) c.in-Ok.ensures.ok honest
    (subst (λ n. bytes ≡ slice_range (file_content c.args.self.now).bytes c.args.at (c.args.at + n))
    (sym same) right)

pub invariant_of-self-in_default : goal.invariant_of-self-in_default
invariant_of-self-in_default g c =
    let s = c.args.self.now in
    let now = content_now g.S.Start.bytes _ _ (FailedRead c.args.at) c.in_default.ensures.err in
    record {
      len_is = ap (λ u. length u.bytes) now ∙ s.len_is;
      loose_len = ap (λ u. length u.loose) now ∙ s.loose_len ∙ sym (ap (λ u. length u.bytes) now);
      are_bytes = subst (λ u. All (λ b. b < 256) u.bytes) (sym now) s.are_bytes;
    }

pub returns-in_default-clause-keeps : goal.returns-in_default-clause-keeps
returns-in_default-clause-keeps g c =
    let call = FailedRead c.args.at in
    record {
      len = ap (λ u. length u.bytes)
          (content_now g.S.Start.bytes _ _ call c.in_default.ensures.err);
      later = omega arith;
      was_honest = were_right g.S.Start.bytes _ _ call c.in_default.ensures.err;
    }

pub returns-in_default-clause-unchanged : goal.returns-in_default-clause-unchanged
returns-in_default-clause-unchanged g c = λ honest.
    let call = FailedRead c.args.at in
    unchanged (after_call g.S.Start.bytes) no_content (calls_on c.args.self.now) _
    (file_content c.args.self.now) _ _ _ _ _ _ _ refl call
    refl c.in_default.ensures.err (content_now g.S.Start.bytes _ _ call c.in_default.ensures.err)

pub returns-in_default-clause-honest : goal.returns-in_default-clause-honest
returns-in_default-clause-honest g c = λ honest right.
    goes_on_right g.S.Start.bytes _ _ (FailedRead c.args.at) c.in_default.ensures.err honest tt
