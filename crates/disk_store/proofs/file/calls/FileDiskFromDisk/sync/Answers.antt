use Rattle.std.proofs.Common.{◌<◌, length, refl, sym, ◌∙◌, ap, subst, arith}
use Rattle.disk_store.specs.Content.{IsLooseIn}
use Rattle.std.specs.List.{All}
use Rattle.disk_store.specs.Calls.{Synced, FailedSync, after_call, no_content}
use Rattle.disk_store.specs.File.{file_content, calls_on}
use Rattle.disk_store.proofs.FileCalls.{IsWhole, whole_sync, content_now, goes_on_right, were_right}
use Rattle.disk_store.proofs.Recorded.{synced as synced_disk, after_sync_firm, unchanged}
use Rattle.disk_store.proofs.file.calls.FileDiskFromDisk.sync.Goals as goal

pub invariant_of-self-in-Ok : goal.invariant_of-self-in-Ok
invariant_of-self-in-Ok g c =
    let s = c.args.self.now in
    let whole : IsWhole s.len (file_content s) =
    record { len_is = s.len_is; loose_len = s.loose_len; are_bytes = s.are_bytes } in
    let now = content_now g.S.Start.bytes _ _ Synced c.in-Ok.ensures.ok in
    let then = subst (IsWhole s.len) (sym now) (whole_sync s.len (file_content s) whole) in
    record { len_is = then.len_is; loose_len = then.loose_len; are_bytes = then.are_bytes }

pub returns-clause-keeps : goal.returns-clause-keeps
returns-clause-keeps g c = record {
  frame = record {
    len = ap (λ u. length u.bytes) (content_now g.S.Start.bytes _ _ Synced c.in-Ok.ensures.ok);
    later = omega arith;
    was_honest = were_right g.S.Start.bytes _ _ Synced c.in-Ok.ensures.ok;
  };
  honest = λ honest. goes_on_right g.S.Start.bytes _ _ Synced c.in-Ok.ensures.ok honest tt;
}

pub returns-clause-still : goal.returns-clause-still
returns-clause-still g c = λ honest.
    synced_disk (after_call g.S.Start.bytes) no_content (calls_on c.args.self.now) _
    (file_content c.args.self.now) _ _ _ _ _ _ _ refl Synced
    refl c.in-Ok.ensures.ok (content_now g.S.Start.bytes _ _ Synced c.in-Ok.ensures.ok)

pub returns-clause-firm : goal.returns-clause-firm
returns-clause-firm g c = λ honest k loose.
    after_sync_firm (file_content c.args.self.now) k
    (subst (λ u. IsLooseIn u k) (content_now g.S.Start.bytes _ _ Synced c.in-Ok.ensures.ok) loose)

pub invariant_of-self-in_default : goal.invariant_of-self-in_default
invariant_of-self-in_default g c =
    let s = c.args.self.now in
    let now = content_now g.S.Start.bytes _ _ FailedSync c.in_default.ensures.err in
    record {
      len_is = ap (λ u. length u.bytes) now ∙ s.len_is;
      loose_len = ap (λ u. length u.loose) now ∙ s.loose_len ∙ sym (ap (λ u. length u.bytes) now);
      are_bytes = subst (λ u. All (λ b. b < 256) u.bytes) (sym now) s.are_bytes;
    }

pub returns-in_default-clause-keeps : goal.returns-in_default-clause-keeps
returns-in_default-clause-keeps g c = record {
  frame = record {
    len = ap (λ u. length u.bytes)
        (content_now g.S.Start.bytes _ _ FailedSync c.in_default.ensures.err);
    later = omega arith;
    was_honest = were_right g.S.Start.bytes _ _ FailedSync c.in_default.ensures.err;
  };
  honest = λ honest. goes_on_right g.S.Start.bytes _ _ FailedSync c.in_default.ensures.err honest
      tt;
}

pub returns-in_default-clause-failed : goal.returns-in_default-clause-failed
returns-in_default-clause-failed g c = λ honest.
    unchanged (after_call g.S.Start.bytes) no_content (calls_on c.args.self.now) _
    (file_content c.args.self.now) _ _ _ _ _ _ _ refl FailedSync
    refl c.in_default.ensures.err
    (content_now g.S.Start.bytes _ _ FailedSync c.in_default.ensures.err)

pub returns-in_default-clause-still : goal.returns-in_default-clause-still
returns-in_default-clause-still g c = λ honest.
    let same = unchanged (after_call g.S.Start.bytes) no_content (calls_on c.args.self.now) _
    (file_content c.args.self.now) _ _ _ _ _ _ _ refl FailedSync
    refl c.in_default.ensures.err
    (content_now g.S.Start.bytes _ _ FailedSync c.in_default.ensures.err) in
    record {
      bytes = same.bytes;
      time = same.time;
      images = λ i. (same.images i).0;
      loose = λ k.
          (same.loose k).0;
    }
