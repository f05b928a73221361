use Rattle.std.proofs.Common.{List, false, inl, sym, subst}
use Rattle.std.proofs.KnownBytes.{Keeps-refl}
use Rattle.std.specs.Result.{result_unwrap_or}
use Rattle.mot_sync_command.specs.Inner.{LooksAndTells}
use Rattle.mot_sync_command.specs.Syncing.{Syncs}
use Rattle.mot_folder.specs.declared.known.Known.{Known}
use Rattle.mot_sync_command.proofs.Synced.{syncs}
use Rattle.mot_sync_command.proofs.syncing.sync_disk.Goals as goal
use Rattle.mot_update.proofs.Laws.{unopened_is}
use Rattle.mot_playout.specs.Attempts.{fault_of}
use Rattle.mot_shelf.specs.Gives.{GaveSo}
use Rattle.mot_shelf.specs.Reader.{view}

pub returns-in-Err : goal.returns-in-Err
returns-in-Err g c =
    let state = g.D.Disk.state in
    let opens = c.in-Err.ensures in
    let folder = c.args.folder.now in
    let log = g.L.Write.contents c.args.log.now in
    let at = view g.S.System.calls folder.shelf in
    subst (λ (e : _). Syncs folder.types.now folder.guard at at (state c.args.disk)
    (state e.disk)
    (result_unwrap_or e.result false) (fault_of e.result) log log)
    (sym c.unopened.ensures)
    (record {
      keeps = opens.only_syncs.keeps;
      came = inl (
        unopened_is _ (state c.args.disk) _ opens.refused opens.calm opens.only_syncs.still,
        Keeps-refl log,
      );
    })

pub returns : goal.returns
returns g c =
    let state = g.D.Disk.state in
    let opens = c.in-Ok.ensures in
    let looks = c.look_and_tell-result.ensures in
    let result = c.look_and_tell-result.result in
    let folder = c.args.folder.now in
    let types = folder.types.now in
    let guard = folder.guard in
    let before = view g.S.System.calls folder.shelf in
    let after = view g.S.System.calls c.look_and_tell-result.new.folder.shelf in
    let old = g.L.Write.contents c.args.log.now in
    let new = g.L.Write.contents c.look_and_tell-result.new.log in
    subst (λ d. Syncs types guard before after (state c.args.disk) (state d)
    (result_unwrap_or result false) (fault_of result) old new)
    (sym c.into_disk.ensures)
    (syncs state c.args.disk c.in-Ok.server c.look_and_tell-result.new.server g.met.D.Disk.sound
    opens.only_syncs opens.opened opens.calm opens.going c.geometry.ensures.valid looks.keeps
    types guard before after old new result looks.faults (λ s holds honest.
    subst (λ (l : List Known). GaveSo before after (λ given. LooksAndTells c.in-Ok.server
    c.look_and_tell-result.new.server (state c.in-Ok.server.disk)
    (state c.look_and_tell-result.new.server.disk) s types guard before.path given l old new result))
    c.new.ensures.none (looks.looked s holds honest)))
