-- Words that give no geometry, and ask for no task.
use Rattle.std.proofs.Common.{◌≡◌, ◌∙◌, ℕ, List, Option, Some, None, ap, refl, sym}
use Rattle.std.specs.Prelude.{Bool, true, false, ◌||◌, bytes_eq, codes}
use Rattle.clap.specs.Words.{Row, Text}
use Rattle.mot_numbers.specs.declared.geometry.Geometry.{Geometry}
use Rattle.mot_cli.specs.Given.{IsGiven}
use Rattle.mot_cli.specs.Inner.{Finds}
use Rattle.mot_cli.specs.Options.{AreGiven, GiveDirectory, GiveGeometry, GiveLastId, geometry_asked}
use Rattle.mot_cli.specs.Options.{geometry_over}
use Rattle.mot_cli.specs.Task.{IsTask, IsWork}
use Rattle.mot_cli.specs.declared.options.Options.{Options}
use Rattle.mot_cli.specs.declared.playing.PlayTask.{PlayTask}
use Rattle.mot_cli.specs.declared.task.Task.{Task}
use Rattle.mot_cli.specs.declared.task.DiskTask.{DiskTask}
use Rattle.mot_cli.specs.declared.task.DiskTask.TheVariants.{Serve, Check, Migrate, ListObjects}
use Rattle.mot_cli.specs.declared.task.DiskTask.TheVariants.{GetBody, Export, Inspect}
use Rattle.mot_cli.specs.declared.task.Task.TheVariants.{Memory, Format, Copy, Play, Sync, Health}
use Rattle.mot_cli.specs.declared.task.Task.TheVariants.{PutFiles, WithdrawNames, OnDisk}

-- nothing was found where nothing has P
pub none_found : {T : Type 0} (P : T → Type 0) (found : Option T) → found ≡ None
    → ((x : T) → P x → ⊥) → Finds P found
none_found P found is none = rw is none

-- the names of what is done with a disk alone
abbrev names_work : Text → Bool
names_work name = bytes_eq name (codes "serve") || bytes_eq name (codes "check")
    || bytes_eq name (codes "migrate") || bytes_eq name (codes "list") || bytes_eq name (codes "get")
    || bytes_eq name (codes "export") || bytes_eq name (codes "inspect")

work_named : (name : Text) (rows : List Row) (work : DiskTask) → IsWork name rows work
    → names_work name ≡ true
work_named name rows Serve is = ap names_work is
work_named name rows (Check form) is = ap names_work is.0
work_named name rows Migrate is = ap names_work is
work_named name rows (ListObjects form) is = ap names_work is.0
work_named name rows (GetBody object) is = ap names_work is.0
work_named name rows Export is = ap names_work is
work_named name rows (Inspect rate form) is = ap names_work is.0

-- whether a command of this name may ask for this task
abbrev may_ask : Text → Task → Bool
may_ask name (Memory g) = bytes_eq name (codes "memory")
may_ask name (Format path g directory) = bytes_eq name (codes "format")
may_ask name (Copy copy) = bytes_eq name (codes "copy")
may_ask name (Play p) = bytes_eq name (codes "play")
may_ask name (Sync sync) = bytes_eq name (codes "sync")
may_ask name (Health h) = bytes_eq name (codes "health")
may_ask name (PutFiles disk files types) = bytes_eq name (codes "put")
may_ask name (WithdrawNames disk names) = bytes_eq name (codes "withdraw")
may_ask name (OnDisk disk work) = names_work name

asked : (name : Text) (rows : List Row) (task : Task) → IsTask name rows task
    → may_ask name task ≡ true
asked name rows (Memory g) t = ap (λ n. bytes_eq n (codes "memory")) t.0
asked name rows (Format path g directory) t = ap (λ n. bytes_eq n (codes "format")) t.0
asked name rows (Copy copy) t = ap (λ n. bytes_eq n (codes "copy")) t.0
asked name rows (Play p) t = ap (λ n. bytes_eq n (codes "play")) t.0
asked name rows (Sync sync) t = ap (λ n. bytes_eq n (codes "sync")) t.0
asked name rows (Health h) t = ap (λ n. bytes_eq n (codes "health")) t.0
asked name rows (PutFiles disk files types) t = ap (λ n. bytes_eq n (codes "put")) t.0
asked name rows (WithdrawNames disk names) t = ap (λ n. bytes_eq n (codes "withdraw")) t.0
asked name rows (OnDisk disk work) t = work_named name rows work t.0

-- a command asks for no task of another one
other : (name : Text) (rows : List Row) (task : Task) → may_ask name task ≡ false
    → IsTask name rows task → ⊥
other name rows task none is = let yes = asked name rows task is in absurd (cc)

given_same : (text : Option (List ℕ)) (m n : Option ℕ) → IsGiven text m → IsGiven text n → m ≡ n
given_same None m n a b = a ∙ sym b
given_same (Some text) m n a b = a.1 ∙ sym b.1

geometry_same : (rows : List Row) (o p : Options) → AreGiven rows o → AreGiven rows p
    → geometry_asked o ≡ geometry_asked p
unfolding geometry_over
geometry_same rows o p a b =
    let objects = given_same _ o.objects p.objects a.objects b.objects in
    let data_area = given_same _ o.data_area p.data_area a.data_area b.data_area in
    let segment = given_same _ o.segment p.segment a.segment b.segment in
    let address = given_same _ o.address p.address a.address b.address in
    let packet = given_same _ o.packet p.packet a.packet b.packet in
    rw (objects, data_area, segment, address, packet) refl

-- options that make no geometry are words that give none
pub no_geometry : (rows : List Row) (o : Options) → AreGiven rows o → (made : Option Geometry)
    → made ≡ geometry_asked o → Finds (GiveGeometry rows) made
no_geometry rows o a (Some g) is = (o, a, sym is)
no_geometry rows o a None is = λ g gives. let same = geometry_same rows o gives.0 a gives.1 in
    let none : None ≡ Some g = is ∙ same ∙ gives.2 in absurd (cc)

module _ (rows : List Row) (none : (g : Geometry) → GiveGeometry rows g → ⊥) where
  -- words without a geometry ask for no disk in memory
  pub memory_needs : (task : Task) → IsTask (codes "memory") rows task → ⊥
  memory_needs (Memory g) t = none g t.1
  memory_needs (Format path g directory) t = other (codes "memory") rows (Format path g directory) refl t
  memory_needs (Copy copy) t = other (codes "memory") rows (Copy copy) refl t
  memory_needs (Play p) t = other (codes "memory") rows (Play p) refl t
  memory_needs (Sync sync) t = other (codes "memory") rows (Sync sync) refl t
  memory_needs (Health h) t = other (codes "memory") rows (Health h) refl t
  memory_needs (PutFiles disk files types) t = other (codes "memory") rows (PutFiles disk files types) refl t
  memory_needs (WithdrawNames disk names) t = other (codes "memory") rows (WithdrawNames disk names) refl t
  memory_needs (OnDisk disk work) t = other (codes "memory") rows (OnDisk disk work) refl t

module _ (rows : List Row)
    (none : (g : Geometry) (d : ℕ) → GiveGeometry rows g → GiveDirectory rows d → ⊥) where
  -- words without a geometry, or a directory's id, ask for no formatting
  pub format_needs : (task : Task) → IsTask (codes "format") rows task → ⊥
  format_needs (Format path g directory) t = none g directory t.2 t.3
  format_needs (Memory g) t = other (codes "format") rows (Memory g) refl t
  format_needs (Copy copy) t = other (codes "format") rows (Copy copy) refl t
  format_needs (Play p) t = other (codes "format") rows (Play p) refl t
  format_needs (Sync sync) t = other (codes "format") rows (Sync sync) refl t
  format_needs (Health h) t = other (codes "format") rows (Health h) refl t
  format_needs (PutFiles disk files types) t = other (codes "format") rows (PutFiles disk files types) refl t
  format_needs (WithdrawNames disk names) t = other (codes "format") rows (WithdrawNames disk names) refl t
  format_needs (OnDisk disk work) t = other (codes "format") rows (OnDisk disk work) refl t

module _ (rows : List Row) (none : (after : Option ℕ) → GiveLastId rows after → ⊥) where
  -- words without an id to go on after ask for no copy
  pub copy_needs : (task : Task) → IsTask (codes "copy") rows task → ⊥
  copy_needs (Copy copy) t = none copy.after t.4
  copy_needs (Memory g) t = other (codes "copy") rows (Memory g) refl t
  copy_needs (Format path g directory) t = other (codes "copy") rows (Format path g directory) refl t
  copy_needs (Play p) t = other (codes "copy") rows (Play p) refl t
  copy_needs (Sync sync) t = other (codes "copy") rows (Sync sync) refl t
  copy_needs (Health h) t = other (codes "copy") rows (Health h) refl t
  copy_needs (PutFiles disk files types) t = other (codes "copy") rows (PutFiles disk files types) refl t
  copy_needs (WithdrawNames disk names) t = other (codes "copy") rows (WithdrawNames disk names) refl t
  copy_needs (OnDisk disk work) t = other (codes "copy") rows (OnDisk disk work) refl t

module _ (rows : List Row) (none : (p : PlayTask) → IsTask (codes "play") rows (Play p) → ⊥) where
  -- words that nothing is played for ask for no playing
  pub play_needs : (task : Task) → IsTask (codes "play") rows task → ⊥
  play_needs (Play p) t = none p t
  play_needs (Memory g) t = other (codes "play") rows (Memory g) refl t
  play_needs (Format path g directory) t = other (codes "play") rows (Format path g directory) refl t
  play_needs (Copy copy) t = other (codes "play") rows (Copy copy) refl t
  play_needs (Sync sync) t = other (codes "play") rows (Sync sync) refl t
  play_needs (Health h) t = other (codes "play") rows (Health h) refl t
  play_needs (PutFiles disk files types) t = other (codes "play") rows (PutFiles disk files types) refl t
  play_needs (WithdrawNames disk names) t = other (codes "play") rows (WithdrawNames disk names) refl t
  play_needs (OnDisk disk work) t = other (codes "play") rows (OnDisk disk work) refl t
