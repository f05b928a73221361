-- The tasks of the commands.
use Rattle.std.specs.Prelude.{ℕ, ◌≡◌, ◌⊎◌, ◌%◌, ◌&&◌, ◌||◌, ◌==◌, nat_le, Bool, true, false, List}
use Rattle.std.specs.Prelude.{Option, Some, None, bytes_eq, codes, if◌then◌else◌, option_map}
use Rattle.std.specs.Borrow.{Bor}
use Rattle.clap.specs.Words.{Row, Text, first_of, subcommand_of}
use Rattle.mot_cli.specs.Given.{AreWrong, IsGiven, NameWord, NameWords, is_set, is_whole}
use Rattle.mot_cli.specs.Command.{motcar_app}
use Rattle.mot_cli.specs.Options.{AreGiven, GiveDirectory, GiveGeometry, GiveLastId}
use Rattle.mot_cli.specs.declared.playing.LookRules.{LookRules}
use Rattle.mot_cli.specs.declared.task.DiskTask.{DiskTask}
use Rattle.mot_cli.specs.declared.task.DiskTask.TheVariants.{Serve, Check, Migrate, ListObjects}
use Rattle.mot_cli.specs.declared.task.DiskTask.TheVariants.{GetBody, Export, Inspect}
use Rattle.mot_cli.specs.declared.task.Form.{Form}
use Rattle.mot_cli.specs.declared.task.Form.TheVariants.{Json, Words}
use Rattle.mot_cli.specs.declared.task.NoTask.{NoTask}
use Rattle.mot_cli.specs.declared.task.NoTask.TheVariants.{Lacks, OutOfRange}
use Rattle.mot_cli.specs.declared.task.Task.{Task}
use Rattle.mot_cli.specs.declared.task.Task.TheVariants.{Memory, Format, Copy, Play, Sync, Health}
use Rattle.mot_cli.specs.declared.task.Task.TheVariants.{PutFiles, WithdrawNames, OnDisk}
use Rattle.mot_numbers.specs.declared.refusal.Refusal.{Refusal}
use Rattle.mot_numbers.specs.declared.refusal.Refusal.TheVariants.{BadGeometry, BadNumber}

-- this word was given for an option, or none was
abbrev pub NameOption : List Row → Text → Option (Bor Text) → Type 0
NameOption rows name word =
    option_map (λ (word : Bor Text). word.now) word ≡ first_of name rows

-- how a folder is looked at is said by three flags
abbrev pub AreRules : List Row → LookRules → Type 0
AreRules rows rules =
    (rules.allow_empty ≡ is_set rows (codes "allow-empty"))
    × (rules.keep_most ≡ is_set rows (codes "keep-most"))
    × (rules.at_once ≡ is_set rows (codes "at-once"))

-- a sub-channel has this rate in kbit/s, if one is given (EN 300 401, clause 6.2.1: 864 capacity
-- units, and at best 15 of them for each 32 kbit/s)
abbrev pub is_rate : Option ℕ → Bool
is_rate None = true
is_rate (Some rate) = nat_le 8 rate && nat_le rate 1824 && rate % 8 == 0

-- the words give this rate, or none
abbrev pub GiveRate : List Row → Option ℕ → Type 0
GiveRate rows rate = IsGiven (first_of (codes "rate") rows) rate × (is_rate rate ≡ true)

-- a status may be so many seconds old, if a number is given: a day at most
abbrev pub is_age : Option ℕ → Bool
is_age None = true
is_age (Some age) = nat_le 1 age && nat_le age 86400

-- the words give this age, or none
abbrev pub GiveAge : List Row → Option ℕ → Type 0
GiveAge rows age = IsGiven (first_of (codes "max-age") rows) age × (is_age age ≡ true)

-- how a command prints what it is asked for
abbrev pub form_in : List Row → Form
form_in rows = if is_set rows (codes "json") then Json else Words

-- a command of this name, with these words behind it, asks for this to be done with a disk
abbrev pub IsWork : Text → List Row → DiskTask → Type 0
IsWork name rows Serve = name ≡ codes "serve"
IsWork name rows (Check form) = (name ≡ codes "check") × (form ≡ form_in rows)
IsWork name rows Migrate = name ≡ codes "migrate"
IsWork name rows (ListObjects form) = (name ≡ codes "list") × (form ≡ form_in rows)
IsWork name rows (GetBody object) = (name ≡ codes "get") × NameWord rows (codes "NAME") object.now
IsWork name rows Export = name ≡ codes "export"
IsWork name rows (Inspect rate form) =
    (name ≡ codes "inspect") × GiveRate rows rate × (form ≡ form_in rows)

-- a command of this name, with these words behind it, is this task
abbrev pub IsTask : Text → List Row → Task → Type 0
IsTask name rows (Memory geometry) = (name ≡ codes "memory") × GiveGeometry rows geometry
IsTask name rows (Format path geometry directory) =
    (name ≡ codes "format") × NameWord rows (codes "DISK") path.now × GiveGeometry rows geometry
    × GiveDirectory rows directory
IsTask name rows (Copy copy) =
    (name ≡ codes "copy") × NameWord rows (codes "DISK") copy.disk.now
    × NameWord rows (codes "NEW") copy.new.now × AreGiven rows copy.sizes
    × GiveLastId rows copy.after
IsTask name rows (Play p) =
    (name ≡ codes "play") × NameWord rows (codes "DISK") p.disk.now
    × NameWord rows (codes "PACKETS") p.packets.now
    × NameOption rows (codes "folder") p.folder × NameOption rows (codes "types") p.types
    × AreRules rows p.rules × NameOption rows (codes "lines") p.lines
    × IsGiven (first_of (codes "every") rows) p.every
    × IsGiven (first_of (codes "turns") rows) p.turns
    × IsGiven (first_of (codes "directory") rows) p.directory
    × IsGiven (first_of (codes "look") rows) p.look
    × IsGiven (first_of (codes "early") rows) p.early × GiveRate rows p.rate
    × NameOption rows (codes "status") p.status × (p.levels ≡ is_set rows (codes "levels"))
    × (is_whole rows ≡ true)
IsTask name rows (Sync sync) =
    (name ≡ codes "sync") × NameWord rows (codes "DISK") sync.disk.now
    × NameWord rows (codes "DIR") sync.folder.now × NameOption rows (codes "types") sync.types
    × AreRules rows sync.rules × (sync.dry_run ≡ is_set rows (codes "dry-run"))
IsTask name rows (Health h) =
    (name ≡ codes "health") × NameWord rows (codes "STATUS") h.status.now × GiveAge rows h.max_age
    × (h.form ≡ form_in rows)
IsTask name rows (PutFiles disk files types) =
    (name ≡ codes "put") × NameWord rows (codes "DISK") disk.now
    × NameWords rows (codes "FILE") files.now × NameOption rows (codes "types") types
IsTask name rows (WithdrawNames disk names) =
    (name ≡ codes "withdraw") × NameWord rows (codes "DISK") disk.now
    × NameWords rows (codes "NAME") names.now
IsTask name rows (OnDisk disk work) =
    IsWork name rows work × NameWord rows (codes "DISK") disk.now

-- the refusal of a number that no task of a command of this name takes: of the sizes of a disk, or
-- of another one
abbrev pub bad_number : Text → Refusal
bad_number name =
    if bytes_eq name (codes "memory") || bytes_eq name (codes "format")
    || bytes_eq name (codes "copy") then BadGeometry
    else BadNumber

-- why a command of this name, with these words behind it, is no task
abbrev pub IsWhy : Text → List Row → NoTask → Type 0
IsWhy name rows (Lacks option) = (name ≡ codes "play") × (is_whole rows ≡ false)
IsWhy name rows (OutOfRange r) =
    (r ≡ bad_number name) × (name ≡ codes "play" → is_whole rows ≡ true)

-- the words name `play`, and give an option without the other of which it says more
abbrev pub LackOption : List Text → Type 0
LackOption words = (rows : List Row) × (subcommand_of motcar_app words ≡ Some (codes "play", rows))
    × (is_whole rows ≡ false)

-- a word is wrong, or none names a command; or the words lack an option
abbrev pub AskForNothing : List Text → Type 0
AskForNothing words = AreWrong motcar_app words ⊎ LackOption words
