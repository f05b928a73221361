-- What stands beside a disk while it is played with any update.
use Rattle.std.specs.Prelude.{◌-◌, ℕ, Bool, List, [], Option, Some, None, option_map}
use Rattle.mot_air.specs.Playing.{Tale}
use Rattle.mot_air.specs.Telling.{folder_in, lines_at, tale_with, watch_in, watched}
use Rattle.mot_feed.specs.declared.manner.Manner.{Manner}
use Rattle.mot_air.specs.declared.on_air.Airing.{Airing}
use Rattle.mot_feed_lines.specs.Answering.{TellsInTurn, TellsOnTime}
use Rattle.mot_feed_lines.specs.declared.lines.Lines.{Lines}
use Rattle.mot_feed_lines.specs.declared.reported.WatchedUpdate.{WatchedUpdate}
use Rattle.mot_files.specs.Call.{Call}
use Rattle.mot_line_folder.specs.Spool.{SpoolView}
use Rattle.mot_line_folder.specs.declared.folder.LineFolder.{LineFolder}
use Rattle.mot_shelf.specs.Reader.{reader_path}
use Rattle.mot_shelf.specs.View.{FolderView}
use Rattle.mot_update.specs.HasRun.{Telling}
use Rattle.mot_update.specs.declared.moment.UpdatePoint.{UpdatePoint}

-- the folder of lines before it is read, and where there is none
abbrev pub lines_in : {S : Type 0} → (S → List Call) → Option (LineFolder S) → SpoolView
lines_in calls None = lines_at [] []
lines_in calls (Some lines) = lines_at lines.place.path.now (calls lines.place.system)

-- what is told of a disk that is played so, in this manner, with this beside it in the end
abbrev pub tale_aired : {S T : Type 0} → (S → List Call) → (T → List Call) → Airing S T → Manner
    → (refused : Bool) → FolderView → SpoolView → Tale
tale_aired calls line_calls airing how refused folder lines = tale_with
    (watched airing.folder (λ followed. watch_in how (reader_path followed.shelf) followed.types.now
    followed.guard))
    (option_map (λ (l : LineFolder _). (l.hand, l.every - 1)) airing.lines) how refused
    (folder_in calls airing.folder) folder (lines_in line_calls airing.lines) lines

-- the update; how many packets are to come before the next read of lines, what is seen of what gives
-- them, and what has come of the next line
pub record SourcesOf (U V : Type 0) : Type 0 where
  pub update : U
  pub late : ℕ
  pub lines : V
  pub hand : List ℕ

-- nothing was read
abbrev pub beside : {U V : Type 0} → U → V → (hand : List ℕ) → SourcesOf U V
beside update lines hand = record { update = update; late = 0; lines = lines; hand = hand }

-- what the update tells, or lines, of which so many packets come between two reads
abbrev pub tells_lines_of : {U V : Type 0} → (Gives : V → V → List ℕ → Type 0) → (between : ℕ)
    → (tells : U → U → UpdatePoint → Telling) → (old new : SourcesOf U V) → UpdatePoint → Telling
tells_lines_of Gives between tells old new moment = TellsInTurn Gives between old.late new.late
    old.hand new.hand old.lines new.lines (tells old.update new.update moment)

-- what an update tells that is watched
abbrev pub tells_reported : {U W : Type 0} → (tells : U → U → UpdatePoint → Telling)
    → (old new : WatchedUpdate U W) → UpdatePoint → Telling
tells_reported tells old new moment = tells old.update new.update moment

-- and lines behind it
abbrev pub tells_answered : {R U V W : Type 0} → (Gives : V → V → List ℕ → Type 0) → (seen : R → V)
    → (tells : U → U → UpdatePoint → Telling) → (old new : Lines R U W) → UpdatePoint → Telling
tells_answered Gives seen tells old new moment = TellsOnTime Gives old.between new.between old.left
    new.left old.intake.hand new.intake.hand (seen old.reader) (seen new.reader)
    (tells old.reported.update new.reported.update moment)
