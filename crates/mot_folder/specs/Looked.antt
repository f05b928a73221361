-- What a look at a folder does, and its log.
use Rattle.std.specs.Prelude.{ℕ, ◌≡◌, ◌≢◌, ◌<◌, ◌≤◌, ◌⊎◌, ◌&&◌, ◌||◌, ◌-◌, nat_le, Bool, true}
use Rattle.std.specs.Prelude.{false, ◌↔◌, not, if◌then◌else◌, List, [], ◌∷◌, ◌++◌, length, map}
use Rattle.std.specs.Prelude.{Option, None, Some}
use Rattle.std.specs.List.{AllByRecursion, flat_map}
use Rattle.disk_model.specs.Disk.{State}
use Rattle.mot_events.specs.Events.{event_of}
use Rattle.mot_events.specs.declared.event.LookEvent.{LookEvent}
use Rattle.mot_events.specs.declared.event.Why.TheVariants.{Unsaid}
use Rattle.mot_folder.specs.Guard.{going, is_kept, kept_so}
use Rattle.mot_folder.specs.Known.{ComesFrom, IsPassedOver}
use Rattle.mot_folder.specs.Listed.{IsListing, nameless, names_in, with_type}
use Rattle.mot_folder.specs.Log.{AreKept, ReportTells, all_image_notes, event_of_answer}
use Rattle.mot_folder.specs.Log.{images_noted, names_read, of_look, told_of, unlisted_for}
use Rattle.mot_folder.specs.Taken.{AreTaken}
use Rattle.mot_folder.specs.declared.guard.Guard.{Guard}
use Rattle.mot_folder.specs.declared.known.Known.{Known}
use Rattle.mot_folder.specs.declared.listing.TheConstants.{MAX_NAMES}
use Rattle.mot_folder.specs.declared.looking.TheConstants.{SOON}
use Rattle.mot_folder.specs.declared.report.Report.{Report}
use Rattle.mot_journal.specs.Image.{Standing}
use Rattle.mot_journal.specs.declared.layout.Layout.{Layout}
use Rattle.mot_numbers.specs.declared.refusal.Refusal.{Refusal}
use Rattle.mot_numbers.specs.declared.refusal.Refusal.TheVariants.{OutOfMemory, ReadFault}
use Rattle.mot_numbers.specs.declared.refusal.Refusal.TheVariants.{TooManyObjects}
use Rattle.mot_objects.specs.Carousel.{Carousel, carousel_after}
use Rattle.mot_objects.specs.declared.command.Command.{Command}
use Rattle.mot_playout.specs.Runs.{accepted_commands, ServerView}
use Rattle.mot_shelf.specs.Given.{Given, nothing}
use Rattle.mot_shelf.specs.Gives.{Gives}
use Rattle.mot_shelf.specs.View.{FolderView, afresh}
use Rattle.mot_suffixes.specs.Types.{AreShown, SuffixType}
use Rattle.mot_update.specs.HasRun.{may_look, HasRun}
use Rattle.mot_update.specs.Laws.{IsUpdate}
use Rattle.mot_update.specs.Looking.{AreAccepted}
use Rattle.mot_update.specs.Told.{Answer, AreAnswers, AreAttemptsOf}
use Rattle.mot_update.specs.Updating.{updating}
use Rattle.mot_update.specs.declared.moment.UpdatePoint.{UpdatePoint}
use Rattle.mot_objects.specs.declared.command.Item.{Item}

-- Why the folder of this path is not listed, which gave this: a call of it failed, or it gave names
-- without an end; too many of its names have one of the suffixes; or memory was wanted.
pub data IsUnlisted (types : List SuffixType) (path : List ℕ) (given : Given)
    (refusal : Refusal) : Type 0 where
  failed : refusal ≡ ReadFault → given.failed ≢ [] → IsUnlisted types path given refusal
  endless : refusal ≡ ReadFault → 18446744073709551615 ≤ length given.listed
      → IsUnlisted types path given refusal
  many : refusal ≡ TooManyObjects → (pieces : List (List ℕ)) → given.listed ≡ path ∷ pieces
      → MAX_NAMES < length (with_type types (flat_map names_in pieces))
      → IsUnlisted types path given refusal
  no_memory : refusal ≡ OutOfMemory → IsUnlisted types path given refusal

-- Each of these names is that of an object that was read of the folder, with the bytes that it
-- gave, or of a file that was passed over, or of one that is told as one that could not be taken;
-- before that the regular files are told that have no name of an object. A file for which memory was wanted is told so only in a look
-- that a fault ended. Of the objects, exactly those are noted whose suffix says an image type that
-- their bytes do not begin as.
pub record EachIsTold (types : List SuffixType) (given : Given) (names : List (List ℕ))
    (wanted : List Item) (fault : Option Refusal) (entries : List LookEvent) : Type 0 where
  pub missed : List (List ℕ)
  pub read : names_read entries ≡ nameless given.files ++ missed
  pub taken : AreTaken types (fault ≢ None) names given.read given.unchanged given.missed wanted
      missed
  pub images : images_noted entries ≡ all_image_notes wanted

-- A look at the folder of this path, by this table of suffixes, which gave this: it saw these names
-- of objects and took these objects, and of the carousel that it found it ran these commands, up to
-- a fault. This is told of it; it is fine exactly where nothing was refused. These files were known
-- before it, and those are behind it.
pub data IsLook (types : List SuffixType) (guard : Guard) (path : List ℕ) (given : Given)
    (c : Carousel) (commands : List Command) (marks : List Bool) (fault : Option Refusal)
    (names : List (List ℕ)) (wanted : List Item) (fine : Bool) (entries : List LookEvent)
    (known after : List Known) : Type 0 where
  -- the folder was not listed, which is told, and no command was run
  unlisted : (refusal : Refusal) → IsUnlisted types path given refusal → fine ≡ false
      → ((fault ≡ None) × (refusal ≢ OutOfMemory)) ⊎ (fault ≡ Some OutOfMemory) → commands ≡ []
      → of_look entries ≡ unlisted_for path refusal Unsaid ∷ [] → images_noted entries ≡ []
      → after ≡ known
      → IsLook types guard path given c commands marks fault names wanted fine entries known after
  -- it was listed, and too many objects would go, which is told, and no command was run
  kept : IsListing types path given names
      → is_kept guard names (going names c) (length c.objects) ≡ true
      → fine ≡ false → (fault ≡ None) ⊎ (fault ≡ Some OutOfMemory) → commands ≡ []
      → of_look entries ≡ event_of path (kept_so names (going names c) (length c.objects)) ∷ []
      → images_noted entries ≡ [] → after ≡ known
      → IsLook types guard path given c commands marks fault names wanted fine entries known after
  -- It was listed once; none of the names begins with a dot. The commands are those of the update
  -- to the objects that were taken, all of them where no fault came, and what came of each is told.
  -- Each name that was gone over is that of such an object, or of a file that is told: all of them
  -- where no fault came. It is fine exactly where no file is told and each command was accepted. A
  -- file whose object was put or replaced was made to last, with the folder. Only a file was passed
  -- over that is known, and has the stamp with which it is, if the carousel has its object; and it is
  -- said where what is known then comes from.
  listed : AreShown names → IsListing types path given names
      → is_kept guard names (going names c) (length c.objects) ≡ false → IsUpdate names wanted
      → (others : List Command) → updating c names wanted ≡ commands ++ others
      → (fault ≡ None → others ≡ [])
      → (fine ≡ true ↔ (names_read entries ≡ []) × AreAccepted marks)
      → (answers : List Answer) → AreAnswers answers commands marks
      → of_look entries ≡ map event_of_answer (told_of answers) → AreKept given.kept answers
      → (seen : List (List ℕ)) → (fault ≡ None → seen ≡ names)
      → EachIsTold types given seen wanted fault entries
      → AllByRecursion (IsPassedOver known c) given.unchanged
      → (limit : ℕ) (last : Carousel)
      → carousel_after c limit (accepted_commands commands marks) ≡ Some last
      → AllByRecursion (ComesFrom known given answers last) after
      → IsLook types guard path given c commands marks fault names wanted fine entries known after

-- Where commands were run, what is told of each of them is what came of it: the ids that it took,
-- or why it was refused.
abbrev pub TellsRightly : Layout → Standing → List Command → List LookEvent → Type 0
TellsRightly layout s commands entries = (commands ≡ [])
    ⊎ ((answers : List Answer) × (of_look entries ≡ map event_of_answer (told_of answers))
    × AreAttemptsOf layout s commands answers)

-- a look ran its commands, and what is told of it stands in the report
pub record HasLookedAtFolder {D : Type 0} (old new : ServerView D) (start now : State)
    (s : Standing) (types : List SuffixType) (guard : Guard) (path : List ℕ) (given : Given)
    (report : Report) (fault : Option Refusal) (known after : List Known) : Type 0 where
  pub commands : List Command
  pub marks : List Bool
  pub run : HasRun old new start now s commands marks fault
  pub names : List (List ℕ)
  pub wanted : List Item
  pub entries : List LookEvent
  pub look : IsLook types guard path given s.carousel commands marks fault names wanted
      (not report.any_refused) entries known after
  pub right : TellsRightly old.view.journal.layout s commands entries
  pub told : ReportTells report entries

-- whether a look is due: where one may come, and this packet was the last that was to come before
-- it
abbrev pub is_look_due : ℕ → Bool → Bool
is_look_due left may_look = may_look && nat_le left 1

-- how many packets come before the next look, behind one that left a file for it, or none
abbrev pub packets_left : (any_left : Bool) → (every : ℕ) → ℕ
packets_left any_left every = if any_left && nat_le SOON every then SOON else every

-- how many packets are to come before the next look, behind one that may be such a packet: each
-- counts; or, where looks come within turns, each in front of which one may come
abbrev pub packets_left_behind : (within may_look : Bool) → ℕ → ℕ
packets_left_behind within may_look left = if may_look || not within then left - 1 else left

-- What looks are of: the folder of this path, by this table of suffixes; which of them change
-- nothing; how many packets come between two looks; and whether looks come within turns.
pub record Watch : Type 0 where
  pub path : List ℕ
  pub types : List SuffixType
  pub guard : Guard
  pub every : ℕ
  pub within : Bool

abbrev pub watch : List ℕ → List SuffixType → (guard : Guard) → (every : ℕ) → (within : Bool)
    → Watch
watch path types guard every within =
    record { path = path; types = types; guard = guard; every = every; within = within }

-- Looks so far: how many packets are to come before the next one, the folder with the calls that
-- were made for it, whether anything was refused in one, and what is known of files.
pub record LooksSoFar : Type 0 where
  pub left : ℕ
  pub folder : FolderView
  pub refused : Bool
  pub files : List Known

abbrev pub so_far : ℕ → FolderView → Bool → List Known → LooksSoFar
so_far left folder refused files =
    record { left = left; folder = folder; refused = refused; files = files }

-- What is told of a call behind these looks, which are those then: no look was due there, and
-- nothing was done; or there was a further one.
pub data TellsLooks (w : Watch) (moment : UpdatePoint) (old new : LooksSoFar) (c : Carousel)
    (commands : List Command) (marks : List Bool) (fault : Option Refusal) : Type 0 where
  no_look : is_look_due old.left (may_look moment) ≡ false
      → new ≡ record old { left = packets_left_behind w.within (may_look moment) old.left }
      → commands ≡ [] → TellsLooks w moment old new c commands marks fault
  one_look : is_look_due old.left (may_look moment) ≡ true
      → (any_left : Bool) (given : Given) (names : List (List ℕ)) (wanted : List Item)
      (fine : Bool) (entries : List LookEvent) (files : List Known)
      → Gives (afresh old.folder) nothing new.folder given
      → new ≡ so_far (packets_left any_left w.every) new.folder
      (old.refused || not fine) files
      → IsLook w.types w.guard w.path given c commands marks fault names wanted fine entries
      old.files files
      → TellsLooks w moment old new c commands marks fault

-- looks that go on, of the same folder
abbrev pub TellsWatch : (old new : Watch) → UpdatePoint → (before after : LooksSoFar)
    → Carousel → List Command → List Bool → Option Refusal → Type 0
TellsWatch old new moment before after c commands marks fault =
    (new ≡ old) × TellsLooks old moment before after c commands marks fault
