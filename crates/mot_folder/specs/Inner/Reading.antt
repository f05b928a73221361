-- A folder while its files are read, and what a source of them was told.
use Rattle.std.specs.Prelude.{◌≡◌, ◌⊎◌, ◌+◌, ◌<◌, ◌-◌, ℕ, List, length, take}
use Rattle.std.specs.Prelude.{Option, Some, Bool, true, false, slice_get}
use Rattle.mot_events.specs.Events.{event_of}
use Rattle.mot_events.specs.declared.event.LookStep.TheVariants.{Read}
use Rattle.mot_events.specs.declared.event.LookEvent.{LookEvent}
use Rattle.mot_events.specs.declared.event.LookResult.{LookResult}
use Rattle.mot_events.specs.declared.event.LookResult.TheVariants as outcome
use Rattle.mot_events.specs.declared.event.Why.{Why}
use Rattle.mot_events.specs.declared.event.Why.TheVariants as why
use Rattle.mot_folder.specs.Inner.Listing.{IsCallRefusal}
use Rattle.mot_folder.specs.Listed.{IsListing}
use Rattle.mot_folder.specs.Log.{TellsOf, TellsOne, is_of_file}
use Rattle.mot_folder.specs.Taken.{IsUntakable, wanted_file}
use Rattle.mot_files.specs.declared.system.Stamp.{Stamp}
use Rattle.mot_folder.specs.declared.folder.Untaken.{Untaken}
use Rattle.mot_folder.specs.declared.folder.Untaken.TheVariants.{Refused as NotTaken, ReadFailure as NotRead}
use Rattle.mot_folder.specs.Inner.Knowing.{KnowsFiles}
use Rattle.mot_folder.specs.Inner.Names.{name_or_none}
use Rattle.mot_folder.specs.declared.known.Known.{Known}
use Rattle.mot_folder.specs.declared.known.KnownFiles.{KnownFiles}
use Rattle.mot_folder.specs.declared.report.Report.{Report}
use Rattle.mot_files.specs.declared.reading.ReadFailure.TheVariants.{Changed, NoMemory as OutOfRoom, System, TooLong, Young}
use Rattle.mot_numbers.specs.declared.refusal.Refusal.{Refusal}
use Rattle.mot_numbers.specs.declared.refusal.Refusal.TheVariants.{BodyTooLong, OutOfMemory}
use Rattle.mot_shelf.specs.Given.{Given, and_missed, and_read}
use Rattle.mot_shelf.specs.Gives.{GaveSo}
use Rattle.mot_shelf.specs.View.{FolderView}
use Rattle.mot_suffixes.specs.Types.{SuffixType, type_of_name}
use Rattle.mot_update.specs.Told.{Answer}
use Rattle.mot_update.specs.Updating.{is_known}
use Rattle.mot_objects.specs.declared.command.Item.{Item}

-- the file of this name was read, and this is wanted of it
pub record Takes (types : List SuffixType) (name : List ℕ) (old new : Given) (wanted : Item) :
    Type 0 where
  pub bytes : List ℕ
  pub type : SuffixType
  pub stamp : Option Stamp
  pub typed : type_of_name types name ≡ Some type
  pub read : new ≡ and_read old name bytes stamp
  pub made : wanted ≡ wanted_file type name bytes

-- it was not; or it was, and makes no object, or memory was wanted; or it was, and could not be
-- made to last
pub data Misses (types : List SuffixType) (name : List ℕ) (old new : Given) (NoMemory : Type 0) :
    Type 0 where
  was_unread : new ≡ and_missed old name → Misses types name old new NoMemory
  was_refused : (bytes : List ℕ) (stamp : Option Stamp) → new ≡ and_read old name bytes stamp
      → IsUntakable types name bytes ⊎ NoMemory → Misses types name old new NoMemory
  was_unkept : (bytes : List ℕ) (stamp : Option Stamp)
      → new ≡ and_missed (and_read old name bytes stamp) name
      → Misses types name old new NoMemory

-- a file of this name is told as one that was not taken
abbrev pub TellsFile : Report → Report → List ℕ → Type 0
TellsFile old new name =
    (outcome : LookResult) × (is_of_file outcome ≡ true) × TellsOne old new (event_of name outcome)

-- What a look began with: its types, what was known of files, and the folder.
pub record LookStart : Type 0 where
  pub types : List SuffixType
  pub known : List Known
  pub folder : FolderView

-- What was told, and given, in a look that began so, at the folder of this path, up to this place in
-- the names. It still has its types, and knows of files what it knew.
pub record TellsLook (began : LookStart) (types : List SuffixType) (known : List Known)
    (path : List ℕ) (given : Given) (names : List (List ℕ)) (place : ℕ) (report : Report)
    (waiting : ℕ) (told : List Answer) (gave : List Item) : Type 0 where
  pub same_types : types ≡ began.types
  pub same_known : known ≡ began.known
  pub listing : IsListing types path given names
  pub tells : TellsOf types given report waiting (take place names) told gave

-- the same, once the file of the name before this place was read, of which this is wanted
pub record TellsOffered (began : LookStart) (types : List SuffixType) (known : List Known)
    (path : List ℕ) (given : Given) (names : List (List ℕ)) (place : ℕ) (report : Report)
    (waiting : ℕ) (offered : Item) (told : List Answer) (gave : List Item) : Type 0 where
  pub before : Given
  pub index : ℕ
  pub next : place ≡ index + 1
  pub within : index < length names
  pub named : slice_get names index ≡ Some offered.name
  pub takes : Takes types offered.name before given offered
  pub was : TellsLook began types known path before names index report waiting told gave

-- the look, by the calls since it began
abbrev pub LookedSince : (began : LookStart) (now : FolderView) (types : List SuffixType)
    (files : KnownFiles) (names : List (List ℕ)) (place : ℕ) (report : Report) (waiting : ℕ)
    (is_kept : Bool) → List Answer → List Item → Type 0
LookedSince began now types files names place report waiting is_kept told gave =
    GaveSo began.folder now (λ given. TellsLook began types files.known.items now.path given names
    place report waiting told gave × KnowsFiles given files told
    × (is_kept ≡ true → is_known given.kept (name_or_none (slice_get names (place - 1))) ≡ true))

abbrev pub OfferedSince : (began : LookStart) (now : FolderView) (types : List SuffixType)
    (files : KnownFiles) (names : List (List ℕ)) (place : ℕ) (report : Report) (waiting : ℕ)
    (is_kept : Bool) → Item → List Answer → List Item → Type 0
OfferedSince began now types files names place report waiting is_kept offered told gave =
    GaveSo began.folder now (λ given. TellsOffered began types files.known.items now.path given names
    place report waiting offered told gave × KnowsFiles given files told × (is_kept ≡ false))

-- whether the next look may take what was not taken: a file that is too young, or was changed
abbrev pub is_for_next : Untaken → Bool
is_for_next (NotRead Young) = true
is_for_next (NotRead Changed) = true
is_for_next (NotRead (TooLong count)) = false
is_for_next (NotRead (System fault)) = false
is_for_next (NotRead OutOfRoom) = false
is_for_next (NotTaken refusal) = false

-- the file of this name was not read, or not taken, for this reason
abbrev pub unread_for : List ℕ → Refusal → Why → LookEvent
unread_for name refusal why = event_of name (outcome.Refused Read refusal why)

-- the system refused to read it
abbrev pub TellsFault : Report → Report → List ℕ → Type 0
TellsFault old new name = (refusal : Refusal) × (words : Why) × IsCallRefusal refusal
    × TellsOne old new (unread_for name refusal words)

-- why a file of this name was not taken, as it is told: so many bytes are too many, or what was read
-- of it was refused
abbrev pub TellsUntaken : Untaken → Report → Report → List ℕ → Type 0
TellsUntaken (NotRead Young) old new name = TellsOne old new (event_of name outcome.Young)
TellsUntaken (NotRead Changed) old new name = TellsOne old new (event_of name outcome.Changed)
TellsUntaken (NotRead (TooLong count)) old new name =
    TellsOne old new (unread_for name BodyTooLong (why.TooLong count))
TellsUntaken (NotRead (System fault)) old new name = TellsFault old new name
TellsUntaken (NotRead OutOfRoom) old new name =
    TellsOne old new (unread_for name OutOfMemory why.Unsaid)
TellsUntaken (NotTaken refusal) old new name =
    TellsOne old new (unread_for name refusal why.Unsaid)
