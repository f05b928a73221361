-- What the commands on air do.
use Rattle.std.specs.Prelude.{ℕ, ◌≡◌, ◌≢◌, ◌⊎◌, ◌++◌, ◌-◌, Bool, true, false, not, List, [], ◌∷◌}
use Rattle.std.specs.Prelude.{Option, Some, None, Ok, Err, option_map, unwrap_or}
use Rattle.std.specs.Io.KnownBytes.{Keeps}
use Rattle.disk_model.specs.Disk.{State}
use Rattle.disk_store.specs.Beginning.{SinceOpened}
use Rattle.disk_store.specs.declared.file.start.Start.{Ghosts}
use Rattle.mot_air.specs.Directory.{IsFrame, often}
use Rattle.mot_air.specs.Playing.{Plays, Tale}
use Rattle.mot_feed.specs.declared.manner.Manner.{Manner}
use Rattle.mot_air.specs.Telling.{EndsReading, Hands, lines_at, tale_with, watch_in, watched}
use Rattle.mot_endpoints.specs.declared.packets.Target.{Target}
use Rattle.mot_endpoints.specs.declared.packets.Target.TheVariants.{File, Output}
use Rattle.mot_endpoints.specs.Lines.{IsUnlined}
use Rattle.mot_endpoints.specs.Opened.{Need, if_given}
use Rattle.std.specs.Borrow.{Bor}
use Rattle.mot_endpoints.specs.Packets.{IsReason, IsTakenAway, IsTarget, OpensInto, TakesItsPlace}
use Rattle.mot_endpoints.specs.Packets.{target_in, writes_to}
use Rattle.mot_endpoints.specs.declared.fault.Cause.{Cause}
use Rattle.mot_endpoints.specs.declared.fault.PacketsFault.{PacketsFault}
use Rattle.mot_endpoints.specs.declared.packets.Destination.{Destination}
use Rattle.mot_endpoints.specs.LinePlaces.{ChecksLines}
use Rattle.mot_endpoints.specs.declared.lines.OtherFiles.{OtherFiles}
use Rattle.mot_files.specs.Call.{Call}
use Rattle.mot_files.specs.declared.system.Handle.{Handle}
use Rattle.mot_line_folder.specs.Spool.{SpoolView}
use Rattle.mot_shelf.specs.View.{FolderView, folder_at}
use Rattle.mot_endpoints.specs.Texts.{IsTyped, IsUntyped}
use Rattle.mot_numbers.specs.declared.refusal.Refusal.{Refusal}
use Rattle.mot_numbers.specs.declared.refusal.Refusal.TheVariants.{DeviceFault, WriteFault}
use Rattle.mot_outcome.specs.Outcome.{OnFile}
use Rattle.mot_outcome.specs.declared.used.UsedDisk.{UsedDisk}
use Rattle.mot_folder.specs.Guard.{guard_of}
use Rattle.mot_folder.specs.Looked.{Watch}
use Rattle.mot_suffixes.specs.Types.{SuffixType}
use Rattle.mot_cli.specs.declared.playing.PlayTask.{PlayTask}

-- In these a frame holds so many packets.

-- a folder of objects at this path, if one is given
abbrev pub objects_at : Option (Bor (List ℕ)) → (at_once : Bool) → FolderView
objects_at None at_once = folder_at [] false []
objects_at (Some path) at_once = folder_at path.now at_once []

-- the folder of lines at this path, if one is given, once it was found to keep apart from the others
abbrev pub LinesOf : Option (Bor (List ℕ)) → OtherFiles → SpoolView → Type 0
LinesOf None others lines = lines ≡ lines_at [] []
LinesOf (Some path) others lines = (calls : List Call) × ChecksLines path.now others (Ok tt) [] calls
    × (lines ≡ lines_at path.now calls)

-- How it is played with the numbers that are asked for: as good as without end, where no number of
-- turns is. So many changed bodies that are not begun come before the turn goes on, at most: 3, where
-- no number is asked for.
abbrev pub played_as : PlayTask → (frame : ℕ) → Manner
played_as p frame = record {
  directory = often 340 p.turns p.directory frame;
  look = often 100 p.turns p.look frame;
  early = unwrap_or p.early 3;
  turns = unwrap_or p.turns 18446744073709551615;
}

-- the folder that is asked for, by this table of suffixes
abbrev pub watch_asked : List SuffixType → PlayTask → (frame : ℕ) → Option Watch
watch_asked table p frame = watched p.folder
    (λ path. watch_in (played_as p frame) path.now table
    (guard_of p.rules.allow_empty p.rules.keep_most))

-- the folder of objects that is asked for, before it is looked at
abbrev pub folder_asked : PlayTask → FolderView
folder_asked p = objects_at p.folder p.rules.at_once

-- which other files the task names
abbrev pub others_of : PlayTask → OtherFiles
others_of p = record { objects = p.folder; disk = p.disk; packets = p.packets; types = p.types }

-- the folder of lines that is asked for, by these calls no other file of the command stands in it
abbrev pub LinesAsked : PlayTask → SpoolView → Type 0
LinesAsked p lines = LinesOf p.lines (others_of p) lines

-- what is told of playing it: no line has begun, and lines are read at every eighth packet, where
-- no other number is asked for
abbrev pub tale_asked : List SuffixType → PlayTask → (lines : SpoolView) → (frame : ℕ)
    → (refused : Bool) → (then_folder : FolderView) → (then_lines : SpoolView) → Tale
tale_asked table p lines frame refused then_folder then_lines = tale_with (watch_asked table p frame)
    (option_map (λ path. ([], unwrap_or p.every 8 - 1)) p.lines) (played_as p frame) refused
    (folder_asked p) then_folder lines then_lines

-- The disk was played into this target, up to this ending; or all was played, and the file did not
-- take its place. By the ending of playing the reads of lines ended.
abbrev pub PlaysInto : Target → Tale → (Reads : Option Refusal → Type 0) → Manner → Option Refusal
    → (begun taken : List (List ℕ)) → (start now : State) → Type 0
PlaysInto target tale Reads how ending begun taken start now =
    (Plays tale how ending (Some begun) (Some taken) start now × Reads ending)
    ⊎ ((target ≡ File) × (ending ≡ Some WriteFault)
    × Plays tale how None (Some begun) (Some taken) start now × Reads None)

-- the same, as the task asks: by as many packets as a frame holds of the rate that is asked for
abbrev pub PlaysAsked : Target → ((frame : ℕ) → Tale) → (Reads : Option Refusal → Type 0) → PlayTask
    → Option Refusal → (begun taken : List (List ℕ)) → (start now : State) → Type 0
PlaysAsked target tale Reads p ending begun taken start now =
    (frame : ℕ) × IsFrame p.rate frame ending start now
    × PlaysInto target (tale frame) Reads (played_as p frame) ending begun taken start now

-- What became of the place of packets once playing had ended: a new file took its place, or could not,
-- or was taken away.
pub data EndsSending (destination : Destination) (handle : Handle) (ending : Option Refusal)
    (old new : List Call) : Type 0 where
  placed : ending ≡ None → TakesItsPlace destination handle (Ok tt) old new
      → EndsSending destination handle ending old new
  unplaced : (fault : PacketsFault) → ending ≡ Some WriteFault
      → TakesItsPlace destination handle (Err fault) old new
      → EndsSending destination handle ending old new
  taken_away : ending ≢ None → IsTakenAway destination handle old new
      → EndsSending destination handle ending old new

-- Behind the first of these calls packets were sent to a handle, and what it took was so played. Then
-- it was asked why a packet was not taken, if one was not, and the place was given up.
pub record Sends (destination : Destination) (handle : Handle) (ending : Option Refusal)
    (Played : (begun taken : List (List ℕ)) → Type 0) (old new : List Call) : Type 0 where
  pub sent : List Call
  -- what was sent tells the number of a handle: where it goes on, the handle is the same
  pub then_handle : Handle
  pub played : Played (writes_to handle old) (writes_to then_handle sent)
  -- why a packet was not taken
  pub told : List Call
  pub fault : Option PacketsFault
  pub cause : Option Cause
  pub reason : IsReason destination then_handle fault cause sent told
  pub ended : EndsSending destination then_handle ending told new

-- Whether all is done that playing into this target is to do. A file is to show the folder: it does
-- not where something was refused in a look.
abbrev pub is_all_done : Target → (refused : Bool) → Bool
is_all_done File refused = not refused
is_all_done target refused = true

-- What was opened for packets, by which calls, and that they were sent to it.
pub record SendsAsked (p : PlayTask) (target : Target) (ending : Option Refusal)
    (Played : (begun taken : List (List ℕ)) → Type 0) (calls : List Call) : Type 0 where
  pub handle : Handle
  pub destination : Destination
  pub target_is : target_in destination ≡ target
  pub opened : List Call
  pub opens : OpensInto p.packets.now p.disk.now handle [] opened destination
  pub sends : Sends destination handle ending Played opened calls

module _ {S F : Type 0} {start : Ghosts S F} where
  -- The disk of a file was played into what takes packets, up to this ending; where it came to its
  -- end, true if all is done. What was given and sent the calls tell that are handed out. Beside
  -- packets on standard output nothing is printed to it.
  abbrev pub PlaysTo : PlayTask → (ℕ → Bool → FolderView → SpoolView → Tale) → (all : Bool)
      → Option Refusal → (old new : Option (List ℕ)) → UsedDisk S F start → Type 0
  PlaysTo p tale all ending old new used =
      (target : Target) × IsTarget p.packets.now target × (target ≡ Output → Keeps old new)
      × ((refused : Bool) × (ending ≡ None → all ≡ is_all_done target refused)
      × OnFile (λ disk beside. Hands beside (λ folder lines. SendsAsked p target ending
      (λ begun taken. SinceOpened (PlaysAsked target (λ frame. tale frame refused folder lines)
      (λ ended. EndsReading ended lines beside.lines.all) p ending begun taken) disk)
      beside.packets.all)) used)

  -- In these the writer's known bytes were old and are new. Standard input is not read. Of what a
  -- pipe, a device or a file takes no contract tells.

  -- A disk was played, and ended so: by this refusal, or by none. Then all is done that is asked, or,
  -- with false, all but what files ask that were refused.
  abbrev pub PlaysTask : PlayTask → (all : Bool) → Option Refusal → UsedDisk S F start
      → (old new : Option (List ℕ)) → Type 0
  PlaysTask p all ending used old new = (table : List SuffixType) × IsTyped p.types table
      × ((lines : SpoolView) × LinesAsked p lines
      × PlaysTo p (tale_asked table p lines) all ending old new used)

-- what takes the packets is opened last before the disk
abbrev pub packets_of : PlayTask → List Need
packets_of p = Need.packets p.packets.now p.disk.now p.turns ∷ []

-- what it needs before the disk that is played, in order
abbrev pub needs_of : PlayTask → List Need
needs_of p =
    if_given Need.types p.types ++ (if_given (λ path. Need.lines path (others_of p)) p.lines
    ++ (if_given Need.folder p.folder ++ (if_given Need.status p.status ++ packets_of p)))

-- why nothing is played: there is no table of suffixes, or no folder of lines, or the disk, or what
-- is to take the packets, can't be opened
abbrev pub IsUnplayed : PlayTask → Refusal → Type 0
IsUnplayed p r =
    IsUntyped p.types r ⊎ IsUnlined p.lines r ⊎ (r ≡ DeviceFault) ⊎ (r ≡ WriteFault)
