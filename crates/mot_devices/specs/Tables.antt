-- What the tables of a system tell of a block device: its partitions, whether it is a swap, and
-- what stands on it. Each relation goes from the calls that were made before to those that were made
-- once it was done.
use Rattle.std.specs.Prelude.{◌≡◌, ◌⊎◌, ◌==◌, ℕ, Bool, true, false, List, [], ◌∷◌, ◌++◌, Ok, Err}
use Rattle.std.specs.Prelude.{IsUtf8, None, Option, Result, Some, codes, if◌then◌else◌, take, ◌+◌}
use Rattle.std.specs.Prelude.{◌*◌, ◌/◌, ◌%◌}
use Rattle.std.specs.Option.{option_map_or}
use Rattle.mot_files.specs.Call.{Call, followed, looked}
use Rattle.mot_files.specs.Listing.{path_in}
use Rattle.mot_files.specs.declared.system.Fault.{Fault}
use Rattle.mot_files.specs.declared.system.How.TheVariants as how
use Rattle.mot_files.specs.declared.system.FileStat.{FileStat}
use Rattle.mot_devices.specs.Looking.{IsTold}
use Rattle.mot_devices.specs.Mounts.{is_one_of, parts_of}
use Rattle.mot_devices.specs.declared.short_name.ShortName.{ShortName}
use Rattle.std.specs.Fmt.{decimal}

-- The number of a device, as Linux keeps and writes it.

-- its first part: bits 8 to 19, and above them bits 44 to 63
abbrev pub major_of : ℕ → ℕ
major_of number = number / 256 % 4096 + number / 17592186044416 * 4096

-- its second part: bits 0 to 7, and above them bits 20 to 43
abbrev pub minor_of : ℕ → ℕ
minor_of number = number % 256 + number / 1048576 % 16777216 * 256

-- both, with a colon between them
abbrev pub number_text : ℕ → List ℕ
number_text number = decimal (major_of number) ++ 58 ∷ decimal (minor_of number)

-- where the system tells of the device of this number
abbrev pub device_folder : ℕ → List ℕ
device_folder number = path_in (codes "/sys/dev/block") (number_text number)

-- the mark of a partition in the folder of a device, and where its number stands
abbrev pub mark_of : (folder name : List ℕ) → List ℕ
mark_of folder name = path_in (path_in folder name) (codes "partition")

abbrev pub number_of : (folder name : List ℕ) → List ℕ
number_of folder name = path_in (path_in folder name) (codes "dev")

-- A name in the folder of a device adds the number of a partition, if it is a text and has the mark
-- of one.
pub data AddsPartition (folder name before after : List ℕ) (old new : List Call) : Type 0 where
  no_text : ¬ (IsUtf8 name) → after ≡ before → new ≡ old
      → AddsPartition folder name before after old new
  unmarked : (fault : Fault) → after ≡ before
      → new ≡ old ++ looked (mark_of folder name) (Err fault) ∷ []
      → AddsPartition folder name before after old new
  marked : (seen : FileStat) (number : List ℕ) → after ≡ before ++ number
      → IsTold (number_of folder name) how.Read number
      (old ++ looked (mark_of folder name) (Ok seen) ∷ []) new
      → AddsPartition folder name before after old new

-- each name in turn does
abbrev pub AddPartitions : (folder : List ℕ) → (names : List (List ℕ)) → (before after : List ℕ)
    → (old new : List Call) → Type 0
AddPartitions folder [] before after old new = (after ≡ before) × (new ≡ old)
AddPartitions folder (name ∷ names) before after old new = (between : List ℕ) × (mid : List Call)
    × AddsPartition folder name before between old mid
    × AddPartitions folder names between after mid new

-- the numbers of the partitions of the device of this number
abbrev pub HasPartitions : ℕ → (others : List ℕ) → (old new : List Call) → Type 0
HasPartitions number others old new = (names : List ℕ) × (mid : List Call)
    × IsTold (path_in (device_folder number) (codes ".")) how.Folder names old mid
    × AddPartitions (path_in (device_folder number) (codes ".")) (parts_of 0 names) [] others mid
    new

-- by what the system says of a path, that names one of these devices
abbrev pub is_device : (own others : List ℕ) → Result FileStat Fault → Bool
is_device own others (Ok seen) =
    option_map_or (λ (number : ℕ). is_one_of own others (number_text number)) seen.block false
is_device own others (Err fault) = false

-- whether a line of the table of swaps has one of these devices: its first field, which a space
-- ends, is the path of a swap
pub data IsSwapLine (own others line : List ℕ) (is : Bool) (old new : List Call) : Type 0 where
  no_field : parts_of 32 line ≡ [] → is ≡ false → new ≡ old → IsSwapLine own others line is old new
  no_text : (path : List ℕ) (rest : List (List ℕ)) → parts_of 32 line ≡ path ∷ rest
      → ¬ (IsUtf8 path) → is ≡ false → new ≡ old → IsSwapLine own others line is old new
  path : (path : List ℕ) (rest : List (List ℕ)) (answer : Result FileStat Fault)
      → parts_of 32 line ≡ path ∷ rest → is ≡ is_device own others answer
      → new ≡ old ++ followed path answer ∷ [] → IsSwapLine own others line is old new

-- whether one of the lines has, of which each is looked at up to the first that has
abbrev pub AreSwapLines : (own others : List ℕ) → (lines : List (List ℕ)) → (is : Bool)
    → (old new : List Call) → Type 0
AreSwapLines own others [] is old new = (is ≡ false) × (new ≡ old)
AreSwapLines own others (line ∷ lines) is old new =
    (IsSwapLine own others line true old new × (is ≡ true))
    ⊎ ((mid : List Call) × IsSwapLine own others line false old mid
    × AreSwapLines own others lines is mid new)

-- whether one of these devices is a swap
abbrev pub IsSwap : (own others : List ℕ) → (is : Bool) → (old new : List Call) → Type 0
IsSwap own others is old new = (table : List ℕ) × (mid : List Call)
    × IsTold (codes "/proc/swaps") how.Read table old mid
    × AreSwapLines own others (parts_of 10 table) is mid new

-- a name as far as it is told: its first bytes
abbrev pub short_bytes : ShortName → List ℕ
short_bytes name = take name.len name.bytes

-- the first of these names that does not begin with a dot
abbrev pub first_shown : List (List ℕ) → Option (List ℕ)
first_shown [] = None
first_shown ([] ∷ names) = Some []
first_shown ((byte ∷ name) ∷ names) =
    if byte == 46 then first_shown names else Some (byte ∷ name)

-- which device stands on the device of this number, if one does
abbrev pub HolderIs : ℕ → (holder : Option (List ℕ)) → (old new : List Call) → Type 0
HolderIs number holder old new = (names : List ℕ)
    × IsTold (path_in (device_folder number) (codes "holders")) how.Folder names old new
    × (holder ≡ first_shown (parts_of 0 names))
