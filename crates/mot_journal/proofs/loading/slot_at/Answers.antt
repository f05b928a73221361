use Rattle.std.proofs.Common.{◌*◌, ap, drop, take}
use Rattle.mot_journal.proofs.Loads.{sub-same}
use Rattle.mot_journal.proofs.loading.slot_at.Goals as goal

pub returns-in-One-clause-value : goal.returns-in-One-clause-value
returns-in-One-clause-value c = rw c.in-One.is (
    ap (λ k. take k (drop (c.args.place * 256) c.args.half.now)) (sub-same (c.args.place * 256) 256))

pub returns-in-Two-clause-value : goal.returns-in-Two-clause-value
returns-in-Two-clause-value c = rw c.in-Two.is (
    ap (λ k. take k (drop (c.args.place * 512) c.args.half.now)) (sub-same (c.args.place * 512) 512))
