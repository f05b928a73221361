use Rattle.std.proofs.Common.{[], ◌∙◌, false, length, refl, ap, subst}
use Rattle.std.proofs.lemmas.List.{length-replicate}
use Rattle.disk_store.specs.Calls.{Synced, after_call, no_content}
use Rattle.disk_store.specs.Content.{Content, IsLooseIn}
use Rattle.disk_store.specs.File.{calls_in, ram_content}
use Rattle.disk_store.proofs.FileCalls.{content_now}
use Rattle.disk_store.proofs.RamCalls.{was_noted}
use Rattle.disk_store.proofs.Recorded.{after_sync_firm, synced as synced_disk}
use Rattle.disk_store.proofs.memory.ram.RamDiskDisk.sync.Goals as goal

pub invariant_of-self : goal.invariant_of-self
invariant_of-self c =
    let s = c.args.self.now in
    let noted = was_noted c.synced.result _ c.synced.ensures.same c.synced.ensures.ok in
    let now = content_now [] _ _ Synced noted in
    record {
      is_noted = ap (λ (u : Content). u.bytes) now ∙ s.is_noted;
      loose_len = ap (λ (u : Content). length u.loose) now
          ∙ length-replicate (length (ram_content s).loose) false
          ∙ s.loose_len;
      are_bytes = s.are_bytes;
    }

pub returns-clause-still : goal.returns-clause-still
returns-clause-still c =
    let s = c.args.self.now in
    let noted = was_noted c.synced.result _ c.synced.ensures.same c.synced.ensures.ok in
    synced_disk (after_call []) no_content (calls_in s) _ (ram_content s) _ _ _ _ _ _ _ refl Synced
    refl noted (content_now [] _ _ Synced noted)

pub returns-clause-firm : goal.returns-clause-firm
returns-clause-firm c = λ k loose.
    let noted = was_noted c.synced.result _ c.synced.ensures.same c.synced.ensures.ok in
    after_sync_firm (ram_content c.args.self.now) k
    (subst (λ u. IsLooseIn u k) (content_now [] _ _ Synced noted) loose)
