use Rattle.std.proofs.Common.{◌≡◌, ◌<◌, ◌≤◌, List, length, Result, Err, refl, sym, ap, subst, arith}
use Rattle.std.proofs.Common.{rules}
use Rattle.std.proofs.lemmas.Result.{on_ok_weaker}
use Rattle.disk_model.proofs.Laws.{unchanged_none}
use Rattle.mot_copy_command.specs.Copied.{no_copy, small}
use Rattle.mot_copy_command.proofs.Moments.{asked_makes, asks_nothing, copies, copy_is, folds}
use Rattle.mot_numbers.specs.declared.refusal.Refusal.TheVariants.{BadGeometry, DiskTooSmall}
use Rattle.mot_copy_command.proofs.copying.copy.Given as given
use Rattle.mot_copy_command.proofs.copying.copy.Goals as goal
use Rattle.mot_copy_command.proofs.copying.copy.Goals.{After-copy_over}
use Rattle.mot_journal.specs.declared.record.Record.{Record}
use Rattle.mot_copy_command.specs.declared.copying.NotCopied.{NotCopied}
use Rattle.mot_copy_command.specs.declared.copying.NotCopied.TheVariants.{Refused}
use Rattle.mot_numbers.specs.declared.geometry.Geometry.{Geometry}
use Rattle.mot_numbers.specs.declared.refusal.Refusal.{Refusal}
use Rattle.mot_numbers.specs.declared.refusal.Refusal.TheVariants.{NoRoom, TooManyObjects}
use Rattle.mot_repository.specs.Copy.{AreOfCopy, IsNoCopy, bytes_of_extents}
use Rattle.mot_repository.specs.Copy.{many, no_room, no_memory}
use Rattle.mot_repository.specs.Repository.{RepositoryView}

-- the records are of the copy
are-of : (g : given.Over) (c : After-copy_over g)
    → AreOfCopy c.args.from.now.view c.args.geometry.now c.args.after c.deref.result.now
are-of g c =
    let Are : List Record → Type 0 =
    AreOfCopy c.args.from.now.view c.args.geometry.now c.args.after in
    subst Are (sym c.deref.ensures.value) c.in-Ok.ensures.records

pub returns-in-Ok-clause-any_moment : goal.returns-in-Ok-clause-any_moment
returns-in-Ok-clause-any_moment g c = λ s has read_honest honest none.
    let before = (goal.at.returns-in-Ok-clause-any_moment g c).After-copy_over in
    let from = c.args.from.now in
    let sound = g.met.D.Disk.sound from.disk
    (c.copy_over.ensures.only_reads.keeps.was_honest read_honest) in
    let state = g.D.Disk.state from.disk in
    let of = are-of g before in
    copies from.view s state sound has c.args.geometry.now c.args.after c.deref.result.now of
    (g.E.Disk.state c.args.to.now) (g.E.Disk.state c.copy_over.new.to)
    (c.copy_over.ensures.any_moment read_honest honest
    (folds from.view s state sound has c.args.geometry.now c.args.after c.deref.result.now of)
    none)

pub returns-in-Ok-clause-ok : goal.returns-in-Ok-clause-ok
returns-in-Ok-clause-ok g c = λ s has read_honest honest.
    let before = (goal.at.returns-in-Ok-clause-ok g c).After-copy_over in
    let from = c.args.from.now in
    let sound = g.met.D.Disk.sound from.disk
    (c.copy_over.ensures.only_reads.keeps.was_honest read_honest) in
    let state = g.D.Disk.state from.disk in
    let of = are-of g before in
    on_ok_weaker c.copy_over.result
    (λ each image left. copy_is from.view s state sound has c.args.geometry.now c.args.after
    c.deref.result.now of image (each image left))
    (c.copy_over.ensures.ok read_honest honest
    (folds from.view s state sound has c.args.geometry.now c.args.after c.deref.result.now of))

pub returns-in-Err-clause-makes : goal.returns-in-Err-clause-makes
returns-in-Err-clause-makes g c =
    let state = g.E.Disk.state c.args.to.now in
    asked_makes c.args.from.now.view c.args.geometry.now _ _ state state (Refused c.in-Err.refusal)
    (asks_nothing state) (g.met.E.Disk.sound c.args.to.now)
    (no_copy c.in-Err.refusal refl c.in-Err.ensures.refused (unchanged_none state))

pub returns-then-not-is_valid-clause-makes : goal.returns-then-not-is_valid-clause-makes
returns-then-not-is_valid-clause-makes g c =
    let state = g.E.Disk.state c.args.to.now in
    asked_makes c.args.from.now.view c.args.geometry.now _ _ state state (Refused BadGeometry)
    (asks_nothing state) (g.met.E.Disk.sound c.args.to.now) (search rules)

pub returns-then-len-length-clause-makes : goal.returns-then-len-length-clause-makes
returns-then-len-length-clause-makes g c =
    let state = g.E.Disk.state c.args.to.now in
    let is = c.if-len-length.true in
    let len = c.len.ensures in
    let most = c.length.ensures in
    asked_makes c.args.from.now.view c.args.geometry.now _ _ state state (Refused DiskTooSmall)
    (asks_nothing state) (g.met.E.Disk.sound c.args.to.now)
    (small refl (omega (arith, is, len, most)) (unchanged_none state))

-- records that were not made have their reason
sizes-refused : (view : RepositoryView) (g : Geometry) (refusal : Refusal)
    → IsNoCopy view g refusal
    → (g.objects < length view.carousel.objects.items → refusal ≡ TooManyObjects)
    × (length view.carousel.objects.items ≤ g.objects → g.area < bytes_of_extents view.extents
    → refusal ≡ NoRoom)
sizes-refused view g refusal (many is more) = (
  λ lt. is,
  λ le lt. absurd (omega (arith, le, more)),
)
sizes-refused view g refusal (no_room is few more) = (
  λ lt. absurd (omega (arith, lt, few)),
  λ le lt. is,
)
sizes-refused view g refusal (no_memory is few fits) = (
  λ lt. absurd (omega (arith, lt, few)),
  λ le lt. absurd (omega (arith, lt, fits)),
)

abbrev Told : Type 0
Told = Result (Unit {0}) NotCopied

refused-as : (x y : Refusal) → x ≡ y → (let r : Told = Err (Refused x) in r) ≡ Err (Refused y)
refused-as x y e = ap (λ z. let r : Told = Err (Refused z) in r) e

pub returns-in-Err-clause-sizes : goal.returns-in-Err-clause-sizes
returns-in-Err-clause-sizes g c =
    let view = c.args.from.now.view in
    let reason = sizes-refused view c.args.geometry.now c.in-Err.refusal c.in-Err.ensures.refused in
    let long = c.if-len-length.false in
    let len = c.len.ensures in
    let most = c.length.ensures in
    record {
      bad = λ not. absurd (not (c.if-not-is_valid.ensures.0 refl));
      small = λ valid lt. absurd (omega (arith, lt, long, len, most));
      many = λ valid fits lt. refused-as _ _ (reason.0 lt);
      no_room = λ valid fits few lt. refused-as _ _ (reason.1 few lt);
    }

pub returns-in-Ok-clause-sizes : goal.returns-in-Ok-clause-sizes
returns-in-Ok-clause-sizes g c =
    let of = are-of g (goal.at.returns-in-Ok-clause-sizes g c).After-copy_over in
    let long = c.if-len-length.false in
    let len = c.len.ensures in
    let most = c.length.ensures in
    let few = of.objects in
    let room = of.room in
    record {
      bad = λ not. absurd (not (c.if-not-is_valid.ensures.0 refl));
      small = λ valid lt. absurd (omega (arith, lt, long, len, most));
      many = λ valid fits lt. absurd (omega (arith, lt, few));
      no_room = λ valid fits le lt. absurd (omega (arith, lt, room));
    }
