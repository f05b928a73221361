use Rattle.std.proofs.Common.{◌≡◌, Err, inl, refl, subst, sym}
use Rattle.mot_sync_command.specs.Syncing.{IsUncopied}
use Rattle.mot_sync_command.proofs.copying.copy_disk.Goals as goal
use Rattle.mot_update.proofs.Laws.{unopened_is}
use Rattle.mot_numbers.specs.declared.refusal.Refusal.{Refusal}

pub returns-in-Err-clause-why : goal.returns-in-Err-clause-why
returns-in-Err-clause-why g c =
    let state = g.D.Disk.state in
    let opens = c.in-Err.ensures in
    subst (λ (e : _). (refusal : Refusal) × (e.result ≡ Err refusal)
    × IsUncopied refusal (state c.args.disk) (state e.disk)) (sym c.unopened.ensures) (
      c.in-Err.refused.refusal,
      refl,
      inl (unopened_is _ (state c.args.disk) _ opens.refused opens.calm opens.only_syncs.still),
    )
