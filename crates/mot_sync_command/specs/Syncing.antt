-- What making a disk's carousel equal to a folder does.
use Rattle.std.specs.Prelude.{◌≡◌, ◌⊎◌, ℕ, Bool, true, List, [], Option, Some, None, IsSomeAnd, min}
use Rattle.std.specs.Prelude.{take, ◌++◌, IsTrue, false, ◌∷◌}
use Rattle.std.specs.Io.KnownBytes.{Appends, Keeps}
use Rattle.std.specs.List.{flat_map}
use Rattle.disk_model.specs.Disk.{State, IsFirm, OnlySyncs, Rises}
use Rattle.mot_update.specs.Ending.{EndsBy, Leaves}
use Rattle.mot_log.specs.Text.{look_line}
use Rattle.mot_events.specs.declared.event.LookEvent.{LookEvent}
use Rattle.mot_folder.specs.declared.guard.Guard.{Guard}
use Rattle.mot_folder.specs.Looked.{IsLook, TellsRightly}
use Rattle.mot_folder.specs.declared.known.Known.{Known}
use Rattle.mot_journal.specs.Image.{Standing, half_of}
use Rattle.mot_journal.specs.Slot.{layout_of}
use Rattle.mot_numbers.specs.declared.refusal.Refusal.{Refusal}
use Rattle.mot_numbers.specs.declared.refusal.Refusal.TheVariants.{WriteFault, DeviceFault}
use Rattle.mot_numbers.specs.declared.refusal.Refusal.TheVariants.{OutOfMemory}
use Rattle.mot_objects.specs.declared.command.Command.{Command}
use Rattle.mot_repository.specs.Repository.{IsOf}
use Rattle.mot_shelf.specs.Gives.{GaveSo}
use Rattle.mot_shelf.specs.View.{FolderView, folder_at}
use Rattle.mot_suffixes.specs.Types.{SuffixType}
use Rattle.mot_update.specs.Laws.{IsUpdated, names_of}
use Rattle.mot_objects.specs.declared.command.Item.{Item}
use Rattle.disk_store.specs.File.{ram_state}
use Rattle.disk_store.specs.declared.memory.ram.RamDisk.{RamDisk}
use Rattle.mot_update.specs.Opening.{IsUnopened, OfStanding}
use Rattle.mot_numbers.specs.Geometry.{length_of}
use Rattle.std.specs.Borrow.{Bor}
use Rattle.clap.specs.Words.{Text}
use Rattle.disk_store.specs.Beginning.{SinceOpened}
use Rattle.disk_store.specs.declared.file.start.Start.{Ghosts}
use Rattle.mot_cli.specs.declared.playing.SyncTask.{SyncTask}
use Rattle.mot_endpoints.specs.Opened.{Need, if_given}
use Rattle.mot_endpoints.specs.Texts.{IsTyped, IsUntyped}
use Rattle.mot_folder.specs.Guard.{guard_of}
use Rattle.mot_outcome.specs.Outcome.{OnFile}
use Rattle.mot_outcome.specs.declared.used.UsedDisk.{UsedDisk}
use Rattle.mot_outcome.specs.declared.used.UsedDisk.TheVariants.{InMemory}

-- Nothing was refused: an object of each name was read, and now the disk stands for exactly these
-- objects, of which those that were right before are untouched.
pub record IsEqual (s : Standing) (names : List (List ℕ)) (wanted : List Item)
    (now : State) : Type 0 where
  pub every : names_of wanted ≡ names
  pub last : Standing
  pub geometry : last.geometry ≡ s.geometry
  pub updated : IsUpdated s.carousel names wanted last.carousel
  pub stands : (image : List ℕ) → now.MayLeave image → IsOf last image

-- In these a folder was looked at, by these types, where it was allowed or not that the carousel
-- gets empty. What it gave the calls tell that were made of it.
module _ (types : List SuffixType) (guard : Guard) (folder then_folder : FolderView)
    (start now : State) where
  -- What a look made of a disk that stood for s: whether all of it is right, what broke it off, and
  -- what was told of it.
  pub record HasSynced (all : Bool) (fault : Option Refusal) (entries : List LookEvent)
      (s : Standing) : Type 0 where
    pub commands : List Command
    pub marks : List Bool
    pub leaves : Leaves s commands marks fault start now
    pub names : List (List ℕ)
    pub wanted : List Item
    -- no file was known before it: so none was passed over
    pub known : List Known
    pub look : GaveSo folder then_folder (λ given. IsLook types guard folder.path given s.carousel
        commands marks fault names wanted all entries [] known)
    -- what is told of a command is what comes of it, in the layout of the records of the disk
    pub right : TellsRightly (layout_of (half_of s.geometry start.bytes)) s commands entries
    pub equal : all ≡ true → fault ≡ None → IsEqual s names wanted now

  -- A look came to its end, and a line for each thing that is told of it was written to the log. Or
  -- it broke off, also where a line had no memory; or what is told of it could not be written.
  pub record SyncsAndTells (all : Bool) (ending : Option Refusal) (old new : Option (List ℕ))
      (s : Standing) : Type 0 where
    pub fine : Bool
    pub fault : Option Refusal
    pub entries : List LookEvent
    pub synced : HasSynced fine fault entries s
    pub why : (fault ≡ ending) ⊎ ((fault ≡ None) × (ending ≡ Some WriteFault))
    pub told : ending ≡ None → (fine ≡ all) × Appends old new (flat_map look_line entries)

  -- The disk's carousel was made equal to the folder, up to this ending; where it came to its end,
  -- true if nothing was refused. The log's known bytes were old and are new.
  abbrev pub Syncs : (all : Bool) → Option Refusal → (old new : Option (List ℕ)) → Type 0
  Syncs all ending old new =
      EndsBy ending (Keeps old new) (SyncsAndTells all ending old new) start now

-- What trying a folder on a copy of a disk does.

-- In these a disk was in a state start and is in a state now.

-- The disk in memory has the first bytes of that one, as many as what that stands for takes, and a
-- crash would leave just them.
pub record IsCopy (copy : RamDisk) (start now : State) : Type 0 where
  pub bytes : now.IsHonest → (ram_state copy).bytes ≡ take (ram_state copy).len start.bytes
  pub enough : OfStanding (λ s. (ram_state copy).len ≡ min (length_of s.geometry) start.len)
      start now
  pub firm : IsFirm (ram_state copy)

-- there is none: the disk was not opened, there was no memory, or the disk failed
abbrev pub IsUncopied : Refusal → State → State → Type 0
IsUncopied refusal start now = IsUnopened refusal start now
    ⊎ ((refusal ≡ OutOfMemory) × (now.failures ≡ start.failures))
    ⊎ ((refusal ≡ DeviceFault) × Rises start.failures now.failures)

-- In these a folder was looked at, by these types, where it was allowed or not that the carousel
-- gets empty.
module _ (types : List SuffixType) (guard : Guard) (folder then_folder : FolderView)
    (start now : State) where
  -- the carousel of a copy was made equal to the folder
  pub record SyncsCopy (all : Bool) (ending : Option Refusal) (old new : Option (List ℕ)) :
      Type 0 where
    pub first : RamDisk
    pub last : RamDisk
    pub copy : IsCopy first start now
    pub synced : Syncs types guard folder then_folder (ram_state first) (ram_state last) all ending old
        new

  -- The disk itself was only synced and read. There was no copy of it, and nothing was printed; or
  -- its copy was made equal to the folder, up to this ending, and just that was printed.
  abbrev pub Tries : (all : Bool) → Option Refusal → (old new : Option (List ℕ)) → Type 0
  Tries all ending old new = OnlySyncs start now
      × ((IsSomeAnd ending (λ r. IsUncopied r start now) × Keeps old new)
      ⊎ SyncsCopy all ending old new)

-- What `sync` does.

-- a dry run tries it on a copy
abbrev pub SyncsBy : (dry_run : Bool) → List SuffixType → (guard : Guard)
    → (folder then_folder : FolderView) → (start now : State) → (all : Bool) → Option Refusal
    → (old new : Option (List ℕ)) → Type 0
SyncsBy false = Syncs
SyncsBy true = Tries

module _ {S F : Type 0} {start : Ghosts S F} where
  -- the carousel of the disk of a file was made equal to the folder of this task, up to this ending,
  -- by this table of suffixes; or a dry run did that with a copy
  abbrev pub SyncsTo : List SuffixType → SyncTask → (all : Bool) → Option Refusal
      → (old new : Option (List ℕ)) → UsedDisk S F start → Type 0
  SyncsTo table task all ending old new (InMemory copy value) = IsTrue task.dry_run
      × ((then_folder : FolderView) × (first : RamDisk)
      × Tries table (guard_of task.rules.allow_empty task.rules.keep_most)
      (folder_at task.folder.now task.rules.at_once []) then_folder (ram_state first) (ram_state copy) all
      ending old new)
  SyncsTo table task all ending old new used = OnFile (λ disk beside. (then_folder : FolderView)
      × (then_folder.calls ≡ beside.folder.all) × SinceOpened (λ opened now.
      SyncsBy task.dry_run table (guard_of task.rules.allow_empty task.rules.keep_most)
      (folder_at task.folder.now task.rules.at_once []) then_folder opened now all ending old new) disk)
      used

  -- the same by its file of suffixes
  abbrev pub SyncsTask : SyncTask → (all : Bool) → Option Refusal → UsedDisk S F start
      → (old new : Option (List ℕ)) → Type 0
  SyncsTask task all ending used old new = (table : List SuffixType)
      × IsTyped task.types table × SyncsTo table task all ending old new used

-- what is needed before the disk, in order
abbrev pub synced_with : SyncTask → List Need
synced_with task = if_given Need.types task.types ++ Need.folder task.folder.now ∷ []

-- why no disk is made equal to a folder
abbrev pub IsUnsynced : (types : Option (Bor Text)) → Refusal → Type 0
IsUnsynced types r = IsUntyped types r ⊎ (r ≡ DeviceFault)
