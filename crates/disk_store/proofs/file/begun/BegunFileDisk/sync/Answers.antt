use Rattle.disk_store.specs.File.{calls_on}
use Rattle.disk_store.proofs.Laws.{begins_after, one_or_failed}
use Rattle.disk_store.proofs.file.begun.BegunFileDisk.sync.Goals as goal

pub invariant_of-self : goal.invariant_of-self
invariant_of-self g c =
    let old = c.args.self.now.disk in
    let new = c.sync.new.self in
    let calls = c.sync.ensures in
    record {
      begins = begins_after g.K.Beginning.is_new old new c.args.self.now.begins
          calls.keeps.frame.len
          (one_or_failed _ c.sync.result (calls_on old) (calls_on new) _ _ calls.noted
          calls.noted_failure);
    }
