-- What `format`, `check` and `migrate` print, and what they leave of a disk.
use Rattle.std.specs.Prelude.{◌≡◌, ◌≢◌, ◌⊎◌, ◌↔◌, ℕ, Bool, List, ◌++◌, Option, Some, Ok, Err}
use Rattle.std.specs.Prelude.{IsFalse, IsTrue, if◌then◌else◌, codes, None}
use Rattle.std.specs.Io.KnownBytes.{Keeps}
use Rattle.disk_model.specs.Disk.{State, IsStill, KeepsLength, OnlySyncs, Throughout, Rises}
use Rattle.mot_cli.specs.declared.task.Form.{Form}
use Rattle.mot_cli.specs.declared.task.Form.TheVariants.{Json, Words}
use Rattle.mot_commands.specs.Json.{carousel_json, report_line}
use Rattle.mot_update.specs.Opening.{IsUnopened, OfClean, OfStanding}
use Rattle.mot_journal.specs.Image.{DiskRecords, Standing, records_of, stands_for, IsClean}
use Rattle.mot_journal.specs.Image.{IsInLayoutTwo}
use Rattle.mot_journal.specs.Making.{MakesDisk}
use Rattle.mot_journal.specs.declared.layout.Layout.{Layout}
use Rattle.mot_journal.specs.declared.layout.Layout.TheVariants.{One, Two}
use Rattle.mot_lines.specs.Listing.{listing_text}
use Rattle.mot_numbers.specs.Geometry.{length_of}
use Rattle.mot_numbers.specs.Refusal.{IsCalm}
use Rattle.mot_numbers.specs.declared.geometry.Geometry.{Geometry}
use Rattle.mot_numbers.specs.declared.refusal.Refusal.{Refusal}
use Rattle.mot_numbers.specs.declared.refusal.Refusal.TheVariants.{DeviceFault, BadName, NoSuchName}
use Rattle.mot_numbers.specs.declared.refusal.Refusal.TheVariants.{OutOfMemory}
use Rattle.mot_objects.specs.Carousel.{Carousel, Object}
use Rattle.mot_outcome.specs.Outcome.{Prints, number_line}
use Rattle.mot_repository.specs.Opening.{IsOpeningRefusal}
use Rattle.mot_repository.specs.Repository.{IsOf}
use Rattle.mot_objects.specs.Name.{IsName}
use Rattle.mot_update.specs.Updating.{found}

-- In all of these the disk was in a state start and is in a state now, the task ended with this
-- refusal or with none, and the writer's known bytes were old and are new.

-- The work was refused, and nothing printed; or it was done, and this text printed, or some first
-- bytes of it.
abbrev pub Reports : (Refused : Refusal → Type 0) → (Done : List ℕ → Type 0) → Option Refusal
    → (old new : Option (List ℕ)) → Type 0
Reports Refused Done ending old new =
    ((refusal : Refusal) × (ending ≡ Some refusal) × Refused refusal × Keeps old new)
    ⊎ ((text : List ℕ) × Done text × Prints ending text old new)

-- ---- `format`

abbrev pub formatted_line : Geometry → List ℕ
formatted_line g = number_line (codes "formatted ") (length_of g)

-- the disk was made, and its length printed; or it could not be made
abbrev pub Formats : Geometry → (directory : ℕ) → Option Refusal → (old new : Option (List ℕ))
    → (start now : State) → Type 0
Formats g directory ending old new start now =
    Reports (λ refusal. MakesDisk g directory start now (Err refusal))
    (λ text. MakesDisk g directory start now (Ok tt) × (text ≡ formatted_line g)) ending old new

-- ---- `check`

abbrev pub clean_line : Bool → List ℕ
clean_line clean = if clean then codes "clean\n" else codes "not clean\n"

abbrev pub layout_line : Layout → List ℕ
layout_line One = codes "layout 1\n"
layout_line Two = codes "layout 2\n"

-- what is told of a carousel, of whether its disk is clean, and of the disk's layout
abbrev pub report_in : Form → Carousel → Bool → Layout → List ℕ
report_in Words c clean layout = listing_text c ++ clean_line clean ++ layout_line layout
report_in Json c clean layout = carousel_json c ++ report_line clean layout

-- that of a disk of these bytes
pub record IsReport (form : Form) (bytes text : List ℕ) : Type 0 where
  pub standing : Standing
  pub stands : stands_for bytes ≡ Ok standing
  pub clean : Bool
  pub exact : IsTrue clean ↔ IsClean bytes
  pub journal : DiskRecords
  pub read : records_of bytes ≡ Ok journal
  pub shown : text ≡ report_in form standing.carousel clean journal.layout

-- the disk was only synced, and what it stands for was printed; or it could not be read
abbrev pub Checks : Form → Option Refusal → (old new : Option (List ℕ)) → (start now : State)
    → Type 0
Checks form ending old new start now =
    OnlySyncs start now × Reports (λ refusal. IsUnopened refusal start now)
    (λ text. now.IsHonest → IsReport form start.bytes text) ending old new

-- ---- `migrate`

abbrev pub migrated_line : Bool → List ℕ
migrated_line done = if done then codes "migrated\n" else codes "already layout 2\n"

-- it stands for what it stood for, in layout 2, and the text tells whether it was of layout 1
pub record IsMigrated (text : List ℕ) (start now : State) : Type 0 where
  pub done : Bool
  pub line : text ≡ migrated_line done
  pub rewritten : now.IsHonest → (journal : DiskRecords) × (records_of start.bytes ≡ Ok journal)
      × (IsTrue done ↔ (journal.layout ≡ One))
  -- of layout 2 already it was only synced, clean or not
  pub already : IsFalse done → now.IsHonest → IsStill start now
  pub is_two : OfClean
      (λ s. (image : List ℕ) → now.MayLeave image → IsOf s image × IsInLayoutTwo image) start now

-- A crash at any moment leaves what the disk stood for, clean. It was brought to layout 2; or it
-- could not be, and was only synced if it did not fail.
pub record Migrates (ending : Option Refusal) (old new : Option (List ℕ)) (start now : State) :
    Type 0 where
  pub keeps : KeepsLength start now
  pub under : OfClean (λ s. Throughout start now (IsOf s)) start now
  pub told : Reports (λ refusal. IsOpeningRefusal start now refusal
      × IsCalm refusal start.failures now.failures
      × (refusal ≢ DeviceFault → now.IsHonest → IsStill start now))
      (λ text. IsMigrated text start now) ending old new

-- What `list` and `get` print of a disk.

-- In these the disk was in a state start and is in a state now, the task ended with this refusal or
-- with none, and the writer's known bytes were old and are new.

-- what is shown of a carousel: what the line `list` is answered, or the same as JSON
abbrev pub shown_in : Form → Carousel → List ℕ
shown_in Words c = listing_text c
shown_in Json c = carousel_json c

-- that of a disk of these bytes
pub record IsList (form : Form) (bytes text : List ℕ) : Type 0 where
  pub standing : Standing
  pub stands : stands_for bytes ≡ Ok standing
  pub shown : text ≡ shown_in form standing.carousel

-- the disk was only synced, and that was printed; or it could not be read
abbrev pub Lists : Form → Option Refusal → (old new : Option (List ℕ)) → (start now : State)
    → Type 0
Lists form ending old new start now =
    OnlySyncs start now × Reports (λ refusal. IsUnopened refusal start now)
    (λ text. now.IsHonest → IsList form start.bytes text) ending old new

-- the body of the object of this name on a disk of these bytes
pub record IsBodyOf (name bytes body : List ℕ) : Type 0 where
  pub standing : Standing
  pub stands : stands_for bytes ≡ Ok standing
  pub object : Object
  pub named : found name standing.carousel.objects ≡ Some object
  pub whole : body ≡ object.body

-- Why there is none: the disk was not opened, no object can have this name or none has it, there was
-- no memory, or the disk failed.
abbrev pub IsUngot : (name : List ℕ) → Refusal → (start now : State) → Type 0
IsUngot name refusal start now = IsUnopened refusal start now
    ⊎ ((refusal ≡ BadName) × ¬ (IsName name))
    ⊎ ((refusal ≡ NoSuchName)
    × OfStanding (λ s. found name s.carousel.objects ≡ None) start now)
    ⊎ (refusal ≡ OutOfMemory)
    ⊎ ((refusal ≡ DeviceFault) × Rises start.failures now.failures)

-- the disk was only synced and read, and the body was printed and nothing else; or there is none
abbrev pub Gets : (name : List ℕ) → Option Refusal → (old new : Option (List ℕ))
    → (start now : State) → Type 0
Gets name ending old new start now =
    OnlySyncs start now × Reports (λ refusal. IsUngot name refusal start now)
    (λ body. now.IsHonest → IsBodyOf name start.bytes body) ending old new
