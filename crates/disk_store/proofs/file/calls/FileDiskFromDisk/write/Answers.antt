use Rattle.std.proofs.lemmas.List.Elements.{All-from_get_or}
use Rattle.std.proofs.Common.{◌+◌, ◌<◌, ◌≤◌, length, slice_range, refl, sym, ◌∙◌, ap, subst, inl}
use Rattle.std.proofs.Common.{arith}
use Rattle.disk_store.specs.Content.{IsLooseIn}
use Rattle.disk_store.specs.Calls.{Wrote, FailedWrite, after_call, no_content}
use Rattle.disk_store.specs.File.{file_content, calls_on}
use Rattle.disk_store.proofs.FileCalls.{IsWhole, whole_write, whole_touch, slice_after_overwrite}
use Rattle.disk_store.proofs.FileCalls.{content_now, goes_on_right, were_right}
use Rattle.disk_store.proofs.Loose.{loose_within}
use Rattle.disk_store.proofs.Overwrite.{length-after_overwrite}
use Rattle.disk_store.proofs.Recorded.{wrote as wrote_disk, touched as touched_disk}
use Rattle.disk_store.proofs.file.calls.FileDiskFromDisk.write.Goals as goal

pub invariant_of-self-in_default : goal.invariant_of-self-in_default
invariant_of-self-in_default g c =
    let s = c.args.self.now in
    let bytes = c.args.bytes.now in
    let whole : IsWhole s.len (file_content s) =
    record { len_is = s.len_is; loose_len = s.loose_len; are_bytes = s.are_bytes } in
    let fits : c.args.at + length bytes ≤ s.len = omega (arith, c.requires, s.len_is) in
    let now = content_now g.S.Start.bytes _ _ (FailedWrite c.args.at bytes)
    c.in_default.ensures.err in
    let then = subst (IsWhole s.len) (sym now)
    (whole_touch s.len (file_content s) whole c.args.at (length bytes) fits) in
    record { len_is = then.len_is; loose_len = then.loose_len; are_bytes = then.are_bytes }

pub returns-in_default-clause-keeps : goal.returns-in_default-clause-keeps
returns-in_default-clause-keeps g c =
    let call = FailedWrite c.args.at c.args.bytes.now in
    record {
      frame = record {
        len = ap (λ u. length u.bytes)
            (content_now g.S.Start.bytes _ _ call c.in_default.ensures.err);
        later = omega arith;
        was_honest = were_right g.S.Start.bytes _ _ call c.in_default.ensures.err;
      };
      honest = λ honest. goes_on_right g.S.Start.bytes _ _ call c.in_default.ensures.err honest tt;
    }

pub returns-in_default-clause-range : goal.returns-in_default-clause-range
returns-in_default-clause-range g c = λ honest.
    let s = c.args.self.now in
    let call = FailedWrite c.args.at c.args.bytes.now in
    touched_disk (after_call g.S.Start.bytes) no_content (calls_on s) _ (file_content s) _ _ _ _ _ _
    _ refl call s.loose_len
    c.args.at (length c.args.bytes.now) refl c.requires s.are_bytes c.in_default.ensures.err
    (content_now g.S.Start.bytes _ _ call c.in_default.ensures.err)

pub returns-in_default-clause-failed : goal.returns-in_default-clause-failed
returns-in_default-clause-failed g c = λ honest.
    let s = c.args.self.now in
    let now = content_now g.S.Start.bytes _ _ (FailedWrite c.args.at c.args.bytes.now)
    c.in_default.ensures.err in
    inl (λ k within. subst (λ u. IsLooseIn u k) (sym now)
    (loose_within (file_content s) c.args.at (length c.args.bytes.now) c.requires s.loose_len k
    within))

pub invariant_of-self-in-Ok : goal.invariant_of-self-in-Ok
invariant_of-self-in-Ok g c =
    let s = c.args.self.now in
    let bytes = c.args.bytes.now in
    let whole : IsWhole s.len (file_content s) =
    record { len_is = s.len_is; loose_len = s.loose_len; are_bytes = s.are_bytes } in
    let fits : c.args.at + length bytes ≤ s.len = omega (arith, c.requires, s.len_is) in
    let are_bytes = All-from_get_or (λ b. b < 256) bytes 0
    (λ i within. omega (arith, c.type_inv.bytes i)) in
    let now = content_now g.S.Start.bytes _ _ (Wrote c.args.at bytes) c.in-Ok.ensures.ok in
    let then = subst (IsWhole s.len) (sym now)
    (whole_write s.len (file_content s) whole c.args.at bytes fits are_bytes) in
    record { len_is = then.len_is; loose_len = then.loose_len; are_bytes = then.are_bytes }

pub returns-clause-keeps : goal.returns-clause-keeps
returns-clause-keeps g c =
    let call = Wrote c.args.at c.args.bytes.now in
    record {
      frame = record {
        len = ap (λ u. length u.bytes) (content_now g.S.Start.bytes _ _ call c.in-Ok.ensures.ok)
            ∙ length-after_overwrite c.args.at c.args.bytes.now (file_content c.args.self.now).bytes
            c.requires;
        later = omega arith;
        was_honest = were_right g.S.Start.bytes _ _ call c.in-Ok.ensures.ok;
      };
      honest = λ honest. goes_on_right g.S.Start.bytes _ _ call c.in-Ok.ensures.ok honest tt;
    }

pub returns-clause-range : goal.returns-clause-range
returns-clause-range g c = λ honest.
    let s = c.args.self.now in
    let call = Wrote c.args.at c.args.bytes.now in
    wrote_disk (after_call g.S.Start.bytes) no_content (calls_on s) _ (file_content s) _ _ _ _ _ _ _
    refl call s.loose_len
    c.args.at c.args.bytes.now refl c.requires s.are_bytes c.in-Ok.ensures.ok
    (content_now g.S.Start.bytes _ _ call c.in-Ok.ensures.ok)

pub returns-clause-bytes : goal.returns-clause-bytes
returns-clause-bytes g c = λ honest.
    let s = c.args.self.now in
    let bytes = c.args.bytes.now in
    let now = content_now g.S.Start.bytes _ _ (Wrote c.args.at bytes) c.in-Ok.ensures.ok in
    ap (λ u. slice_range u.bytes c.args.at (c.args.at + length bytes)) now
    ∙ slice_after_overwrite c.args.at bytes (file_content s).bytes c.requires

pub returns-clause-marked : goal.returns-clause-marked
returns-clause-marked g c = λ honest k within.
    let s = c.args.self.now in
    let now = content_now g.S.Start.bytes _ _ (Wrote c.args.at c.args.bytes.now)
    c.in-Ok.ensures.ok in
    subst (λ u. IsLooseIn u k) (sym now)
    (loose_within (file_content s) c.args.at (length c.args.bytes.now) c.requires s.loose_len k
    within)
