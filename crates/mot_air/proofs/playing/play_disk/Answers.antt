use Rattle.std.proofs.Common.{◌∙◌, [], ap, false, inl, sym}
use Rattle.mot_air.specs.Telling.{lines_at, watch_in}
use Rattle.mot_air.proofs.Retold.{handed_out, looks_retold, none_retold, plays_as}
use Rattle.mot_air.proofs.playing.play_disk.Goals as goal
use Rattle.mot_folder.specs.Looked.{so_far, watch}
use Rattle.mot_playout.specs.Attempts.{fault_of}
use Rattle.mot_shelf.specs.Reader.{reader_path, view}
use Rattle.mot_shelf.specs.View.{folder_at}

pub returns-in-Some : goal.returns-in-Some
returns-in-Some g c =
    let how = c.args.how in
    let ended = c.play_telling-ended.result.0 in
    let looks = c.play_telling-ended.result.1 in
    let before = g.O.Outlet.writes c.args.outlet.now in
    let after = g.O.Outlet.writes c.play_telling-ended.new.outlet in
    let start = g.D.Disk.state c.args.disk in
    let out = c.looking.result in
    rw (c.in-Some.is) (
      view g.S.System.calls looks.folder.shelf,
      c.looking.ensures.folder,
      (
        lines_at [] [],
        (
          inl (ap (λ (l : _). l.all) c.looking.ensures.lines ∙ c.new.ensures),
          handed_out g.D.Disk.state _ how before after start ended out.ended c.looking.ensures.ended
              (plays_as _ _ (looks_retold how c.looks_at-update.result
              (view g.S.System.calls c.in-Some.followed.shelf) (lines_at [] [])
              (λ (u : _). watch (reader_path u.folder.shelf) u.folder.types.now u.folder.guard
              u.every u.within)
              (λ (u : _). so_far u.left (view g.S.System.calls u.folder.shelf) u.any_refused
              u.folder.files.known.items)
              (watch_in how (reader_path c.in-Some.followed.shelf) c.in-Some.followed.types.now
              c.in-Some.followed.guard)
              out.any_refused c.looks_at-update.ensures.watch c.looks_at-update.ensures.none
              looks (sym c.looking.ensures.refused))
              how (fault_of ended.result) before after start (g.D.Disk.state ended.disk)
              c.play_telling-ended.ensures),
        ),
      ),
    )

pub returns-in-None : goal.returns-in-None
returns-in-None g c =
    let how = c.args.how in
    let ended = c.play_telling-ended-in-None.result.0 in
    let before = g.O.Outlet.writes c.args.outlet.now in
    let after = g.O.Outlet.writes c.play_telling-ended-in-None.new.outlet in
    let start = g.D.Disk.state c.args.disk in
    let out = c.unwatched.result in
    rw (c.in-None.is) (
      folder_at [] false [],
      sym (ap (λ (l : _). l.all) c.unwatched.ensures.folder ∙ c.new-in-None.ensures),
      (
        lines_at [] [],
        (
          inl (ap (λ (l : _). l.all) c.unwatched.ensures.lines ∙ c.new-in-None-2.ensures),
          handed_out g.D.Disk.state _ how before after start ended out.ended c.unwatched.ensures.ended
              (plays_as _ _ (none_retold how _ (folder_at [] false []) (lines_at [] [])
              (sym c.unwatched.ensures.refused) _)
              how (fault_of ended.result) before after start (g.D.Disk.state ended.disk)
              c.play_telling-ended-in-None.ensures),
        ),
      ),
    )
