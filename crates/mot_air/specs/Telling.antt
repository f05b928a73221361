-- What the commands come of that run while a disk is played, looks at a folder and lines.
use Rattle.std.specs.Prelude.{◌≡◌, ◌⊎◌, ℕ, ◌&&◌, nat_lt, Bool, false, if◌then◌else◌, List, []}
use Rattle.std.specs.Prelude.{Option, Some, None}
use Rattle.mot_air.specs.Playing.{Tale, look_of_feed}
use Rattle.mot_feed.specs.declared.manner.Manner.{Manner}
use Rattle.mot_feed_lines.specs.Answering.{TellsInTurn}
use Rattle.mot_feed.specs.Feeding.{AreTold}
use Rattle.mot_folder.specs.declared.guard.Guard.{Guard}
use Rattle.mot_folder.specs.Looked.{LooksSoFar, TellsLooks, Watch, so_far, watch}
use Rattle.mot_numbers.specs.declared.refusal.Refusal.{Refusal}
use Rattle.mot_line_folder.specs.Spool.{SpoolView}
use Rattle.mot_line_folder.specs.Spooling.{Finishes, GaveLines}
use Rattle.mot_shelf.specs.Reader.{view}
use Rattle.mot_shelf.specs.View.{FolderView, folder_at}
use Rattle.mot_air.specs.declared.playing.FollowedFolder.{FollowedFolder}
use Rattle.mot_files.specs.Call.{Call}
use Rattle.mot_outcome.specs.declared.used.TaskCalls.{TaskCalls}
use Rattle.mot_suffixes.specs.Types.{SuffixType}
use Rattle.mot_update.specs.HasRun.{Telling}
use Rattle.mot_update.specs.declared.moment.UpdatePoint.{UpdatePoint}

abbrev pub looks_within : Manner → Bool
looks_within how = nat_lt 0 how.directory && nat_lt 0 how.look

-- The folder of this path is looked at while a disk is played so: where looks come only between
-- turns, at most once in 1,000 packets.
abbrev pub watch_in : Manner → List ℕ → List SuffixType → (guard : Guard) → Watch
watch_in how path types guard =
    watch path types guard (if looks_within how then how.look else 1000) (looks_within how)

-- the same of a folder, if there is one
abbrev pub watched : {F : Type 0} → Option F → (F → Watch) → Option Watch
watched None of = None
watched (Some folder) of = Some (of folder)

-- In these the folder of objects and that of lines are seen at one moment, each with the calls that
-- were made of it.

-- the folder of objects before it is looked at, and where there is none
abbrev pub folder_in : {S : Type 0} → (S → List Call) → Option (FollowedFolder S) → FolderView
folder_in calls None = folder_at [] false []
folder_in calls (Some followed) = view calls followed.shelf

-- the folder of lines of this path before it is read
abbrev pub lines_at : (path : List ℕ) → List Call → SpoolView
lines_at path calls =
    record { folder = path; torn = false; stopped = false; file = None; calls = calls }

-- what commands come of: the looks so far, how many packets are to come before the next read of
-- lines, the folder of lines, and what has come of the next line
pub record Sources : Type 0 where
  pub looks : LooksSoFar
  pub late : ℕ
  pub lines : SpoolView
  pub hand : List ℕ

-- no look has come of this folder, and no file is known
abbrev pub no_looks : FolderView → LooksSoFar
no_looks folder = so_far 0 folder false []

abbrev pub first_sources : List ℕ → FolderView → SpoolView → Sources
first_sources hand folder lines =
    record { looks = no_looks folder; late = 0; lines = lines; hand = hand }

-- commands come of looks alone; without a folder there are none
abbrev pub tells_looks : Option Watch → (old new : Sources) → UpdatePoint → Telling
tells_looks None old new moment c commands marks fault =
    (new.looks ≡ old.looks) × (commands ≡ [])
tells_looks (Some w) old new moment c commands marks fault =
    TellsLooks w moment old.looks new.looks c commands marks fault

-- and no line is read
abbrev pub tells_alone : Option Watch → (old new : Sources) → UpdatePoint → Telling
tells_alone w old new moment c commands marks fault =
    (new.lines ≡ old.lines) × tells_looks w old new moment c commands marks fault

-- or commands come of looks, and of the lines that end in what was read, where so many packets come
-- between two reads
abbrev pub tells_lines : (between : ℕ) → Option Watch → (old new : Sources) → UpdatePoint → Telling
tells_lines between w old new moment = TellsInTurn GaveLines between old.late new.late old.hand
    new.hand old.lines new.lines (tells_looks w old new moment)

-- these sources are seen so, and something was refused in a look, or not
pub record HasSeen (end : Sources) (refused : Bool) (folder : FolderView) (lines : SpoolView) :
    Type 0 where
  pub looked : end.looks.folder ≡ folder
  pub any : end.looks.refused ≡ refused
  pub read : end.lines ≡ lines

-- The commands are those of looks, in order, and something was refused in them, or not; or, with this
-- in hand and so many packets between two reads, those of looks and of lines. By what was given the
-- calls tell.
abbrev pub tale_with : Option Watch → (reads : Option (List ℕ × ℕ)) → Manner → (refused : Bool)
    → (folder then_folder : FolderView) → (lines then_lines : SpoolView) → Tale
tale_with w None how refused folder then_folder lines then_lines limit c stage events commands marks
    made =
    (end : Sources) × HasSeen end refused then_folder then_lines
    × AreTold (tells_alone w) (look_of_feed how) limit (first_sources [] folder lines) c stage events
    commands marks end made
tale_with w (Some (hand, between)) how refused folder then_folder lines then_lines limit c stage
    events commands marks made =
    (end : Sources) × HasSeen end refused then_folder then_lines
    × AreTold (tells_lines between w) (look_of_feed how) limit (first_sources hand folder lines) c
    stage events commands marks end made

-- The calls of the folder of lines up to the end of playing: those of its reads; and, only where
-- playing came to its end, those by which the file that was read to its end is taken away.
abbrev pub EndsReading : (ending : Option Refusal) → SpoolView → List Call → Type 0
EndsReading ending lines calls =
    (calls ≡ lines.calls) ⊎ ((ending ≡ None) × Finishes lines.file lines.calls calls)

-- the calls of the folder of objects are handed out, and those of the folder of lines
abbrev pub Hands : TaskCalls → (FolderView → SpoolView → Type 0) → Type 0
Hands beside IsSo = (folder : FolderView) × (folder.calls ≡ beside.folder.all)
    × ((lines : SpoolView) × IsSo folder lines)

-- up to this ending, and there is P
abbrev pub HandsOut : (ending : Option Refusal) → TaskCalls → (FolderView → SpoolView → Type 0) → Type 0
HandsOut ending beside P = Hands beside
    (λ folder lines. EndsReading ending lines beside.lines.all × P folder lines)
