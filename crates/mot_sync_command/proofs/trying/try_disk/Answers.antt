use Rattle.std.proofs.Common.{Bool, Result, inl, inr, subst, sym}
use Rattle.std.proofs.KnownBytes.{Keeps-refl}
use Rattle.std.specs.Prelude.{IsSomeAnd}
use Rattle.mot_numbers.specs.declared.refusal.Refusal.{Refusal}
use Rattle.mot_playout.specs.Attempts.{fault_of}
use Rattle.mot_sync_command.specs.Syncing.{IsUncopied}
use Rattle.mot_sync_command.proofs.trying.try_disk.Goals as goal

pub returns : goal.returns
returns g c = (
  c.in-Ok.ensures.only_syncs,
  inr (record {
    first = c.in-Ok.both.1;
    last = c.sync_disk-tried.result.disk;
    copy = c.in-Ok.ensures.copied;
    synced = c.sync_disk-tried.ensures;
  }),
)

pub returns-in-Err : goal.returns-in-Err
returns-in-Err g c =
    let why = c.in-Err.ensures.why in
    let start = g.D.Disk.state c.args.disk in
    let now = g.D.Disk.state c.in-Err.ended.disk in (
      c.in-Err.ensures.only_syncs,
      inl (
        subst (λ (r : Result Bool Refusal). IsSomeAnd (fault_of r) (λ f. IsUncopied f start now))
            (sym why.1) why.2,
        Keeps-refl _,
      ),
    )
