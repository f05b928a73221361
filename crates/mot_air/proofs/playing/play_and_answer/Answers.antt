use Rattle.std.proofs.Common.{◌≡◌, ◌∙◌, ◌-◌, Option, [], ap, false, subst, sym}
use Rattle.mot_air.specs.Telling.{EndsReading, lines_at, watch_in}
use Rattle.mot_air.proofs.Retold.{handed_out, lines_alone, lines_retold, plays_as}
use Rattle.mot_air.proofs.playing.play_and_answer.Goals as goal
use Rattle.mot_files.specs.declared.call_log.CallLog.{CallLog}
use Rattle.mot_folder.specs.Looked.{so_far, watch}
use Rattle.mot_line_folder.specs.Spool.{SpoolView}
use Rattle.mot_playout.specs.Attempts.{fault_of}
use Rattle.mot_shelf.specs.Reader.{reader_path, view}
use Rattle.mot_shelf.specs.View.{folder_at}

-- the calls that are handed out
read_out : (ending other : Option _) (lines : SpoolView) (log out : CallLog) → ending ≡ other
    → log ≡ out → EndsReading ending lines log.all → EndsReading other lines out.all
read_out ending other lines log out same is ends =
    subst (λ e. EndsReading e lines out.all) same
    (subst (λ (l : CallLog). EndsReading ending lines l.all) is ends)

pub returns-in-Some : goal.returns-in-Some
returns-in-Some g c =
    let how = c.args.how in
    let told = c.play_answering-ended.ensures in
    let ended = c.play_answering-ended.result.0 in
    let before = g.O.Outlet.writes c.args.outlet.now in
    let after = g.O.Outlet.writes c.play_answering-ended.new.outlet in
    let start = g.D.Disk.state c.args.disk in
    let out = c.looking.result in
    let place = c.args.lines.place in
    rw (c.in-Some.is) (
      view g.S.System.calls told.0.update.folder.shelf,
      ap (λ (u : _). g.S.System.calls u.folder.shelf.system) told.1 ∙ c.looking.ensures.folder,
      (
        told.0.lines,
        (
          read_out (fault_of ended.result) (fault_of out.ended.result) told.0.lines
              c.play_answering-ended.result.2 out.beside.lines
              (ap (λ (e : _). fault_of e.result) (sym c.looking.ensures.ended))
              (sym c.looking.ensures.lines) told.2,
          handed_out g.D.Disk.state _ how before after start ended out.ended c.looking.ensures.ended
              (plays_as _ _ (lines_retold how c.looks_at-update.result
              (view g.S.System.calls c.in-Some.followed.shelf)
              (lines_at place.path.now (g.F.System.calls place.system))
              (λ (u : _). watch (reader_path u.folder.shelf) u.folder.types.now u.folder.guard
              u.every u.within)
              (λ (u : _). so_far u.left (view g.S.System.calls u.folder.shelf) u.any_refused
              u.folder.files.known.items)
              (watch_in how (reader_path c.in-Some.followed.shelf) c.in-Some.followed.types.now
              c.in-Some.followed.guard)
              out.any_refused c.looks_at-update.ensures.watch c.looks_at-update.ensures.none
              (c.args.lines.every - 1) c.args.lines.hand told.0
              (ap (λ (u : _). u.any_refused) told.1 ∙ sym c.looking.ensures.refused))
              how (fault_of ended.result) before after start (g.D.Disk.state ended.disk) told.3),
        ),
      ),
    )

pub returns-in-None : goal.returns-in-None
returns-in-None g c =
    let how = c.args.how in
    let told = c.play_answering-ended-in-None.ensures in
    let ended = c.play_answering-ended-in-None.result.0 in
    let before = g.O.Outlet.writes c.args.outlet.now in
    let after = g.O.Outlet.writes c.play_answering-ended-in-None.new.outlet in
    let start = g.D.Disk.state c.args.disk in
    let out = c.unwatched.result in
    let place = c.args.lines.place in
    rw (c.in-None.is) (
      folder_at [] false [],
      sym (ap (λ (l : CallLog). l.all) c.unwatched.ensures.folder ∙ c.new.ensures),
      (
        told.0.lines,
        (
          read_out (fault_of ended.result) (fault_of out.ended.result) told.0.lines
              c.play_answering-ended-in-None.result.2 out.beside.lines
              (ap (λ (e : _). fault_of e.result) (sym c.unwatched.ensures.ended))
              (sym c.unwatched.ensures.lines) told.2,
          handed_out g.D.Disk.state _ how before after start ended out.ended c.unwatched.ensures.ended
              (plays_as _ _ (lines_alone how _ (folder_at [] false [])
              (lines_at place.path.now (g.F.System.calls place.system))
              (sym c.unwatched.ensures.refused) (c.args.lines.every - 1) c.args.lines.hand told.0)
              how (fault_of ended.result) before after start (g.D.Disk.state ended.disk) told.3),
        ),
      ),
    )
