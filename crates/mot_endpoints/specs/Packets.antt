-- What packets go to, and how it is opened. Each relation goes from the calls that were made before
-- to those that were made then.
use Rattle.std.specs.Prelude.{ℕ, ◌≡◌, ◌≢◌, ◌↔◌, List, [], ◌∷◌, ◌++◌, codes, Option, Some, None}
use Rattle.std.specs.Prelude.{Bool, true, false, Result, Ok, Err, nat_eq, nat_lt, ◌==◌}
use Rattle.std.specs.Prelude.{if◌then◌else◌, string_bytes}
use Rattle.mot_endpoints.specs.Names.{IsOfDisk, folder_of}
use Rattle.mot_endpoints.specs.Placing.{Begins, IsOfMemory, LeadsTo, Steps, TakesAway, Then}
use Rattle.mot_endpoints.specs.Placing.{told_as, told_of, unless_absent}
use Rattle.mot_endpoints.specs.declared.fault.Cause.{Cause}
use Rattle.mot_endpoints.specs.declared.fault.PacketsFault.{PacketsFault}
use Rattle.mot_endpoints.specs.declared.new_file.NewPlace.{NewPlace}
use Rattle.mot_endpoints.specs.declared.packets.Destination.{Destination}
use Rattle.mot_endpoints.specs.declared.packets.OpenPackets.{OpenPackets}
use Rattle.mot_endpoints.specs.declared.packets.PacketWriter.{PacketWriter}
use Rattle.mot_endpoints.specs.declared.packets.Place.{Place}
use Rattle.mot_endpoints.specs.declared.packets.Target.{Target}
use Rattle.mot_endpoints.specs.declared.packets.Target.TheVariants.{File, Output, Stream}
use Rattle.mot_files.specs.Call.{Call, followed, given, locked, looked_at, opened, told_terminal}
use Rattle.mot_files.specs.Call.{wrote}
use Rattle.mot_files.specs.Placing.{Places}
use Rattle.mot_files.specs.declared.system.Event.{Event}
use Rattle.mot_files.specs.declared.system.Event.TheVariants.{Wrote}
use Rattle.mot_files.specs.declared.system.Fault.{Fault}
use Rattle.mot_files.specs.declared.system.Handle.{Handle}
use Rattle.mot_files.specs.declared.system.How.TheVariants as How
use Rattle.mot_files.specs.declared.system.How.{How as Way}
use Rattle.mot_files.specs.declared.system.Kind.{Kind}
use Rattle.mot_files.specs.declared.system.Kind.TheVariants.{Pipe}
use Rattle.mot_files.specs.declared.system.FileStat.{FileStat}

-- what a path names, as far as it tells by itself: `-`, and nothing else, is standard output
abbrev pub IsTarget : List ℕ → Target → Type 0
IsTarget path target = (path ≡ codes "-") ↔ (target ≡ Output)

-- what takes packets that go there
abbrev pub target_in : Destination → Target
target_in Destination.Output = Output
target_in Destination.Stream = Stream
target_in (Destination.File place) = File

-- what was opened to take packets
abbrev pub target_of : {S : Type 0} → OpenPackets S → Target
target_of opened = target_in opened.destination

-- where they go
abbrev pub destination_of : {S : Type 0} → OpenPackets S → Destination
destination_of opened = opened.destination

-- what a writer of packets writes to
abbrev pub writer_handle : {S : Type 0} → PacketWriter S → Handle
writer_handle writer = writer.handle

-- and the system of files that this is open in
abbrev pub writer_system : {S : Type 0} → PacketWriter S → S
writer_system writer = writer.system

-- what stands for a call that is no write to the handle: a mark that is no byte, and its number
abbrev pub mark : Handle → List ℕ
mark handle = 256 ∷ handle.slot ∷ []

-- what a write to the handle took: the first of its bytes, or nothing if it failed
abbrev pub sent_by : Handle → Event → (bytes : List ℕ) → List ℕ
sent_by handle (Wrote other answer) bytes =
    if nat_eq other.slot handle.slot then given bytes answer else mark handle
sent_by handle event bytes = mark handle

-- What each of these calls sent to the handle, in order. So where it goes on by packets, nothing else
-- was asked of the system meanwhile.
abbrev pub writes_to : Handle → List Call → List (List ℕ)
writes_to handle [] = []
writes_to handle (call ∷ calls) = sent_by handle call.what call.bytes ∷ writes_to handle calls

-- why a packet was not taken whole, or what was known before
abbrev pub fault_after : Option PacketsFault → (len : ℕ) → Result ℕ Fault → Option PacketsFault
fault_after before len (Ok count) = if nat_lt count len then Some PacketsFault.Cut else before
fault_after before len (Err fault) = Some (told_as fault)

-- an outlet answers what the system says
abbrev pub IsAnswer : {A E : Type 0} → Result A Fault → Result A E → Type 0
IsAnswer (Ok count) result = result ≡ Ok count
IsAnswer {E = E} (Err fault) result = (error : E) × (result ≡ Err error)

-- the handle whose lock was taken
abbrev pub held_by : Handle → Result (Unit {0}) Fault → Result Handle PacketsFault
held_by handle (Ok done) = Ok handle
held_by handle (Err fault) = Err (told_as fault)

-- What the path names is opened so, if it is no terminal.
pub data OpensPath (path : List ℕ) (how : Way) (result : Result Handle PacketsFault)
    (old new : List Call) : Type 0 where
  unopened : (fault : Fault) → result ≡ Err (told_as fault)
      → new ≡ old ++ opened path how (Err fault) ∷ [] → OpensPath path how result old new
  asked : (handle : Handle) (is_terminal : Bool)
      → result ≡ (if is_terminal then Err PacketsFault.Terminal else Ok handle)
      → new ≡ old ++ opened path how (Ok handle) ∷ [] ++ told_terminal handle is_terminal ∷ []
      → OpensPath path how result old new

-- Of a block device nothing is taken, and nothing is written to it. The lock of a pipe is taken.
pub data IsStream (handle : Handle) (result : Result Handle PacketsFault) (old new : List Call) :
    Type 0 where
  unseen : (fault : Fault) → result ≡ Err (told_as fault)
      → new ≡ old ++ looked_at handle (Err fault) ∷ [] → IsStream handle result old new
  block : (found : FileStat) → found.block ≢ None → result ≡ Err PacketsFault.BlockDevice
      → new ≡ old ++ looked_at handle (Ok found) ∷ [] → IsStream handle result old new
  device : (found : FileStat) → found.block ≡ None → found.kind ≢ Pipe → result ≡ Ok handle
      → new ≡ old ++ looked_at handle (Ok found) ∷ [] → IsStream handle result old new
  pipe : (found : FileStat) (answer : Result (Unit {0}) Fault) → found.block ≡ None
      → found.kind ≡ Pipe → result ≡ held_by handle answer
      → new ≡ old ++ looked_at handle (Ok found) ∷ [] ++ locked handle answer ∷ []
      → IsStream handle result old new

-- a pipe or a device is opened for reading and writing
abbrev pub OpensStream : (path : List ℕ) → Steps Handle PacketsFault
OpensStream path = Then (OpensPath path How.Stream) IsStream

-- what stands at a path, by the number of its block device and its kind: no block device takes
-- packets
abbrev pub place_for : Option ℕ → Kind → Result Place PacketsFault
place_for (Some number) kind = Err PacketsFault.BlockDevice
place_for None Kind.File = Ok Place.File
place_for None kind = Ok Place.Stream

abbrev pub place_of : FileStat → Result Place PacketsFault
place_of found = place_for found.block found.kind

-- nothing stands at a path that has a name; any other fault is handed on
abbrev pub place_without : (path : List ℕ) → Fault → Result Place PacketsFault
place_without [] fault = Err (told_as fault)
place_without (first ∷ rest) fault = unless_absent Place.Nothing fault

-- What stands at the path, or where a link there leads. The disk and its files are refused, and so
-- is a block device: it is not opened.
pub data IsPlace (path disk : List ℕ) (result : Result Place PacketsFault) (old new : List Call) :
    Type 0 where
  of_disk : result ≡ Err PacketsFault.IsOfDisk → IsOfDisk path disk true old new
      → IsPlace path disk result old new
  unseen : (fault : Fault) (inner : List Call) → result ≡ place_without path fault
      → IsOfDisk path disk false old inner → new ≡ inner ++ followed path (Err fault) ∷ []
      → IsPlace path disk result old new
  seen : (found : FileStat) (is : Bool) (inner : List Call) → IsOfDisk path disk false old inner
      → LeadsTo disk found is (inner ++ followed path (Ok found) ∷ []) new
      → result ≡ (if is then Err PacketsFault.IsDisk else place_of found)
      → IsPlace path disk result old new

-- A new file is begun beside the path.
pub record BeginsBeside (path disk : List ℕ) (handle : Handle) (place : NewPlace)
    (old new : List Call) : Type 0 where
  pub its_path : place.path.now ≡ path
  pub its_beside : string_bytes place.beside ≡ path ++ codes ".new"
  pub begun : Begins (string_bytes place.beside) disk (Ok handle) old new

-- or none is: there is no memory for its name, or it can't be begun there
pub data BeginsNone (path disk : List ℕ) (fault : PacketsFault) (old new : List Call) : Type 0 where
  no_memory : IsOfMemory fault → new ≡ old → BeginsNone path disk fault old new
  unbegun : Begins (path ++ codes ".new") disk (Err fault) old new
      → BeginsNone path disk fault old new

-- why no file is written at a place: turns without an end are asked for, or none
abbrev pub fault_of_turns : Place → (turns : Option ℕ) → Option PacketsFault
fault_of_turns Place.Nothing None = Some PacketsFault.NoPipe
fault_of_turns place None = Some PacketsFault.EndlessFile
fault_of_turns place (Some count) = if count == 0 then Some PacketsFault.NoTurns else None

-- What was opened to take packets. What is neither a pipe nor a character device is not opened
-- itself.
pub data OpensInto (path disk : List ℕ) (handle : Handle) (old new : List Call) :
    (destination : Destination) → Type 0 where
  output : OpensPath path How.Output (Ok handle) old new
      → OpensInto path disk handle old new Destination.Output
  stream : (inner : List Call) → IsPlace path disk (Ok Place.Stream) old inner
      → OpensStream path (Ok handle) inner new
      → OpensInto path disk handle old new Destination.Stream
  file : (inner : List Call) (found : Place) (place : NewPlace) → found ≢ Place.Stream
      → IsPlace path disk (Ok found) old inner → BeginsBeside path disk handle place inner new
      → OpensInto path disk handle old new (Destination.File place)

-- What a path names is opened to take packets of so many turns; or it is refused: by what the
-- system said, or by what stands there, or because no turns are asked for that end.
pub data OpensPackets (path disk : List ℕ) (turns : Option ℕ)
    (result : Result (Handle × Destination) Cause) (old new : List Call) : Type 0 where
  ready : (handle : Handle) (destination : Destination) → result ≡ Ok (handle, destination)
      → IsTarget path (target_in destination)
      → (target_in destination ≡ File → (turns ≢ None) × (turns ≢ Some 0))
      → OpensInto path disk handle old new destination
      → OpensPackets path disk turns result old new
  no_output : (fault : PacketsFault) → result ≡ Err (Cause.Packets fault) → path ≡ codes "-"
      → OpensPath path How.Output (Err fault) old new → OpensPackets path disk turns result old new
  no_place : (fault : PacketsFault) → result ≡ Err (Cause.Packets fault) → path ≢ codes "-"
      → IsPlace path disk (Err fault) old new → OpensPackets path disk turns result old new
  no_stream : (fault : PacketsFault) (inner : List Call) → result ≡ Err (Cause.Packets fault)
      → path ≢ codes "-" → IsPlace path disk (Ok Place.Stream) old inner
      → OpensStream path (Err fault) inner new → OpensPackets path disk turns result old new
  no_turns : (fault : PacketsFault) (found : Place) → result ≡ Err (Cause.Packets fault)
      → path ≢ codes "-" → found ≢ Place.Stream → IsPlace path disk (Ok found) old new
      → fault_of_turns found turns ≡ Some fault → OpensPackets path disk turns result old new
  no_file : (fault : PacketsFault) (found : Place) (inner : List Call)
      → result ≡ Err (Cause.NewFile fault) → path ≢ codes "-" → found ≢ Place.Stream
      → IsPlace path disk (Ok found) old inner → BeginsNone path disk fault inner new
      → OpensPackets path disk turns result old new

-- a new file is synced and renamed, and then the folder in which it stands is synced
abbrev pub PlacesNew : Handle → NewPlace → Result (Unit {0}) Fault → (old new : List Call) → Type 0
PlacesNew handle place result old new =
    Places handle (string_bytes place.beside) place.path.now (folder_of place.path.now) result old new

-- A new file takes its place. If that fails, it is taken away.
pub data TakesPlace (handle : Handle) (place : NewPlace) (result : Result (Unit {0}) Fault)
    (old new : List Call) : Type 0 where
  taken : result ≡ Ok tt → PlacesNew handle place (Ok tt) old new
      → TakesPlace handle place result old new
  failed : (fault : Fault) (inner : List Call) → result ≡ Err fault
      → PlacesNew handle place (Err fault) old inner
      → TakesAway handle (string_bytes place.beside) inner new
      → TakesPlace handle place result old new

-- only a new file takes a place
abbrev pub TakesItsPlace : Destination → Handle → Result (Unit {0}) PacketsFault
    → (old new : List Call) → Type 0
TakesItsPlace Destination.Output handle result old new = (result ≡ Ok tt) × (new ≡ old)
TakesItsPlace Destination.Stream handle result old new = (result ≡ Ok tt) × (new ≡ old)
TakesItsPlace (Destination.File place) handle result old new =
    (answer : Result (Unit {0}) Fault) × (result ≡ told_of answer)
    × TakesPlace handle place answer old new

-- and only a new file is taken away
abbrev pub IsTakenAway : Destination → Handle → (old new : List Call) → Type 0
IsTakenAway Destination.Output handle old new = new ≡ old
IsTakenAway Destination.Stream handle old new = new ≡ old
IsTakenAway (Destination.File place) handle old new =
    TakesAway handle (string_bytes place.beside) old new

-- If a packet was cut, what the system says of a further write of one byte tells why. Nothing else
-- is written.
pub data TellsWhy (handle : Handle) (fault result : PacketsFault) (old new : List Call) :
    Type 0 where
  known : fault ≢ PacketsFault.Cut → result ≡ fault → new ≡ old
      → TellsWhy handle fault result old new
  refused : (why : Fault) → fault ≡ PacketsFault.Cut → result ≡ told_as why
      → new ≡ old ++ wrote handle (0 ∷ []) (Err why) ∷ [] → TellsWhy handle fault result old new
  taken : (count : ℕ) → fault ≡ PacketsFault.Cut → result ≡ PacketsFault.Cut
      → new ≡ old ++ wrote handle (0 ∷ []) (Ok count) ∷ [] → TellsWhy handle fault result old new

-- the reason by the path that was written, which for a new file is the one beside
abbrev pub TellsReason : Destination → Handle → PacketsFault → Option Cause → (old new : List Call)
    → Type 0
TellsReason (Destination.File place) handle fault result old new =
    (why : PacketsFault) × (result ≡ Some (Cause.NewFile why)) × TellsWhy handle fault why old new
TellsReason destination handle fault result old new =
    (result ≡ Some (Cause.Packets fault)) × (new ≡ old)

-- only of a packet that was not taken is a reason told
abbrev pub IsReason : Destination → Handle → Option PacketsFault → Option Cause
    → (old new : List Call) → Type 0
IsReason destination handle None result old new = (result ≡ None) × (new ≡ old)
IsReason destination handle (Some fault) result old new =
    TellsReason destination handle fault result old new
