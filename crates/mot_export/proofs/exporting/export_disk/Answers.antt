use Rattle.std.proofs.Common.{inl, subst, sym}
use Rattle.std.proofs.KnownBytes.{Keeps-refl}
use Rattle.mot_export.specs.Exporting.{Exports}
use Rattle.mot_update.proofs.Laws.{unopened_is}
use Rattle.mot_export.proofs.Exported.{exports, rebuilds_standing}
use Rattle.mot_export.proofs.exporting.export_disk.Goals as goal
use Rattle.mot_playout.specs.Attempts.{fault_of}

pub returns-in-Err : goal.returns-in-Err
returns-in-Err g c =
    let state = g.D.Disk.state in
    let start = state c.args.disk in
    let opens = c.in-Err.ensures in
    let old = g.W.Write.contents c.args.writer.now in
    subst (λ (e : _). Exports (fault_of e.result) old old start (state e.disk))
    (sym c.unopened.ensures)
    (record {
      syncs = opens.only_syncs;
      came = inl (
        unopened_is _ start _ opens.refused opens.calm opens.only_syncs.still,
        Keeps-refl old,
      );
      rebuilds = rebuilds_standing start _ (g.met.D.Disk.sound c.args.disk) opens.only_syncs.keeps;
    })

pub returns : goal.returns
returns g c =
    let state = g.D.Disk.state in
    let opens = c.in-Ok.ensures in
    let calls = c.write_export-result.ensures in
    let result = c.write_export-result.result in
    let old = g.W.Write.contents c.args.writer.now in
    let new = g.W.Write.contents c.write_export-result.new.writer in
    subst (λ d. Exports (fault_of result) old new (state c.args.disk) (state d))
    (sym c.into_disk.ensures)
    (exports state c.args.disk c.in-Ok.repository c.write_export-result.new.repository
    g.met.D.Disk.sound opens.only_syncs opens.opened opens.calm opens.going calls.only_reads old new
    result calls.written calls.calm calls.fault)
