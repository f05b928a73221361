use Rattle.std.proofs.Common.{◌-◌, ℕ, Bool, List, Option, subst, sym}
use Rattle.std.specs.Prelude.{option_map}
use Rattle.disk_model.specs.Disk.{State}
use Rattle.mot_air.specs.Inner.Beside.{lines_in}
use Rattle.mot_air.specs.Playing.{Plays}
use Rattle.mot_feed.specs.declared.manner.Manner.{Manner}
use Rattle.mot_air.specs.Telling.{HandsOut, folder_in, tale_with, watch_in, watched}
use Rattle.mot_air.proofs.on_air.air_so.Goals as goal
use Rattle.mot_folder.specs.Looked.{Watch}
use Rattle.mot_files.specs.Call.{Call}
use Rattle.mot_line_folder.specs.declared.folder.LineFolder.{LineFolder}
use Rattle.mot_numbers.specs.declared.refusal.Refusal.{Refusal}
use Rattle.mot_playout.specs.Attempts.{fault_of}
use Rattle.mot_outcome.specs.declared.used.TaskCalls.{TaskCalls}
use Rattle.mot_shelf.specs.Reader.{reader_path}
use Rattle.mot_shelf.specs.View.{FolderView}

-- what is told of a folder of lines, or of none
module _ {S : Type 0} (calls : S → List Call) (w : Option Watch) (how : Manner)
    (refused : Bool) (folder : FolderView) (beside : TaskCalls) (ending : Option Refusal)
    (before after : Option (List (List ℕ))) (start now : State) where
  abbrev AirsSo : Option (LineFolder S) → Type 0
  AirsSo lines = HandsOut ending beside (λ then_folder then_lines. Plays (tale_with w
      (option_map (λ (l : LineFolder S). (l.hand, l.every - 1)) lines) how refused folder then_folder
      (lines_in calls lines) then_lines) how ending before after start now)

pub returns-in-Some : goal.returns-in-Some
returns-in-Some g c =
    let out = c.play_and_answer.result in
    subst (AirsSo g.Y.System.calls (watched c.args.airing.folder (λ followed. watch_in c.args.how
    (reader_path followed.shelf) followed.types.now followed.guard)) c.args.how
    out.any_refused (folder_in g.F.System.calls c.args.airing.folder) out.beside
    (fault_of out.ended.result) (g.O.Outlet.writes c.args.outlet.now)
    (g.O.Outlet.writes c.play_and_answer.new.outlet) (g.D.Disk.state c.args.disk)
    (g.D.Disk.state out.ended.disk)) (sym c.in-Some.is) c.play_and_answer.ensures

pub returns-in-None : goal.returns-in-None
returns-in-None g c =
    let out = c.play_disk.result in
    subst (AirsSo g.Y.System.calls (watched c.args.airing.folder (λ followed. watch_in c.args.how
    (reader_path followed.shelf) followed.types.now followed.guard)) c.args.how
    out.any_refused (folder_in g.F.System.calls c.args.airing.folder) out.beside
    (fault_of out.ended.result) (g.O.Outlet.writes c.args.outlet.now)
    (g.O.Outlet.writes c.play_disk.new.outlet) (g.D.Disk.state c.args.disk)
    (g.D.Disk.state out.ended.disk)) (sym c.in-None.is) c.play_disk.ensures
