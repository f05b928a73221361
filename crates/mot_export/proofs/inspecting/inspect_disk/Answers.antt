use Rattle.std.proofs.Common.{inl, subst, sym}
use Rattle.std.proofs.KnownBytes.{Keeps-refl}
use Rattle.mot_export.specs.Inspecting.{Inspects}
use Rattle.mot_update.proofs.Laws.{unopened_is}
use Rattle.mot_export.proofs.Inspected.{inspects}
use Rattle.mot_export.proofs.Played.{turns-have-their-lengths, turns-have-their-packets}
use Rattle.mot_export.proofs.inspecting.inspect_disk.Goals as goal
use Rattle.mot_playout.specs.Attempts.{fault_of}

pub returns-in-Err-clause-ended : goal.returns-in-Err-clause-ended
returns-in-Err-clause-ended g c =
    let state = g.D.Disk.state in
    let start = state c.args.disk in
    let opens = c.in-Err.ensures in
    let old = g.W.Write.contents c.args.writer.now in
    subst (λ (e : _). Inspects c.args.rate c.args.form (fault_of e.result) old old start (state e.disk))
    (sym c.unopened.ensures)
    (record {
      syncs = opens.only_syncs;
      came = inl (
        unopened_is _ start _ opens.refused opens.calm opens.only_syncs.still,
        Keeps-refl old,
      );
    })

pub returns-clause-ended : goal.returns-clause-ended
returns-clause-ended g c =
    let state = g.D.Disk.state in
    let start = c.args.disk in
    let opens = c.in-Ok.ensures in
    let server = c.in-Ok.server in
    let ending = fault_of c.print_text-result.result in
    let rate = c.args.rate in
    let old = g.W.Write.contents c.args.writer.now in
    let new = g.W.Write.contents c.print_text-result.new.writer in
    subst (λ d. Inspects rate c.args.form ending old new (state start) (state d))
    (sym c.into_disk.ensures)
    (inspects state start server g.met.D.Disk.sound opens.only_syncs opens.opened opens.calm
    opens.going opens.at_start rate c.args.form old new c.text_about.result ending c.text_about.ensures
    c.print_text-result.ensures)

pub returns-clause-lengths : goal.returns-clause-lengths
returns-clause-lengths g c = turns-have-their-lengths

pub returns-in-Err-clause-lengths : goal.returns-in-Err-clause-lengths
returns-in-Err-clause-lengths g c = turns-have-their-lengths

pub returns-clause-packets : goal.returns-clause-packets
returns-clause-packets g c = turns-have-their-packets

pub returns-in-Err-clause-packets : goal.returns-in-Err-clause-packets
returns-in-Err-clause-packets g c = turns-have-their-packets
