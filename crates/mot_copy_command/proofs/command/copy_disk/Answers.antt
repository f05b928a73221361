use Rattle.mot_playout.specs.Attempts.{fault_of}
use Rattle.std.proofs.Common.{◌≡◌, Some, ap, refl, subst, sym}
use Rattle.std.specs.Io.KnownBytes.{Keeps}
use Rattle.std.proofs.KnownBytes.{Keeps-refl}
use Rattle.disk_model.proofs.Laws.{reads_none}
use Rattle.disk_model.specs.Disk.{OnlySyncs}
use Rattle.disk_store.specs.File.{file_state}
use Rattle.mot_cli.specs.Options.{geometry_over}
use Rattle.mot_copy_command.specs.Command.{ComesToCopy, CopiesTo, IsUncopied}
use Rattle.mot_copy_command.specs.Command.ComesToCopy.{free, in_use, unasked}
use Rattle.mot_copy_command.specs.Command.IsUncopied.{bad_sizes, no_file, unopened}
use Rattle.mot_copy_command.proofs.Lifts.{copies_to, of_sizes}
use Rattle.mot_numbers.specs.Geometry.{IsValid}
use Rattle.mot_numbers.specs.declared.geometry.Geometry.{Geometry}
use Rattle.mot_numbers.specs.declared.refusal.Refusal.{Refusal}
use Rattle.mot_numbers.specs.declared.refusal.Refusal.TheVariants.{BadGeometry, DeviceFault}
use Rattle.mot_copy_command.proofs.command.copy_disk.Goals as goal

pub returns-in-Err-clause-ended : goal.returns-in-Err-clause-ended
returns-in-Err-clause-ended g c =
    let opens = c.in-Err.ensures in
    let old = g.W.Write.contents c.args.writer.now in
    subst (λ (e : _). CopiesTo c.args.task.now.sizes c.args.task.now.after (fault_of e.0.result) e.1
    old old (file_state c.args.disk.disk) (file_state e.0.disk.disk)) (sym c.uncopied.ensures) (
      opens.only_syncs,
      Keeps-refl _,
      (
        c.in-Err.refused.refusal,
        refl,
        unopened (record { why = opens.refused; calm = opens.calm; still = opens.only_syncs.still }),
      ),
    )

pub returns-clause-ended : goal.returns-clause-ended
returns-clause-ended g c =
    let opens = c.in-Ok.ensures in
    let view = c.in-Ok.repository.view in
    let start = file_state c.args.disk.disk in
    let mid = file_state c.in-Ok.repository.disk.disk in
    let end = c.copy_open.result in
    let done = c.copy_open.ensures in
    copies_to start mid (file_state end.0.disk.disk) view opens.only_syncs opens.opened opens.calm
    done.reads c.in-Some.geometry c.args.task.now.after (fault_of end.0.result)
    (g.W.Write.contents c.args.writer.now) (g.W.Write.contents c.copy_open.new.writer)
    c.args.task.now.sizes end.1 c.in-Some.ensures.some.1
    (subst (λ (h : Geometry). geometry_over h c.args.task.now.sizes ≡ Some c.in-Some.geometry)
    c.geometry.ensures.value c.in-Some.ensures.some.0) done.ended

pub returns-in_default-clause-ended : goal.returns-in_default-clause-ended
returns-in_default-clause-ended g c =
    let opens = c.in-Ok.ensures in
    let view = c.in-Ok.repository.view in
    let sizes = c.args.task.now.sizes in
    let ids = c.args.task.now.after in
    let start = file_state c.args.disk.disk in
    let mid = file_state c.in-Ok.repository.disk.disk in
    let old = g.W.Write.contents c.args.writer.now in
    let none : (geometry : Geometry) → geometry_over view.journal.geometry sizes ≡ Some geometry
    → IsValid geometry → ⊥ =
    subst (λ (h : Geometry). (geometry : Geometry) → geometry_over h sizes ≡ Some geometry
    → IsValid geometry → ⊥) c.geometry.ensures.value
    c.in_default.ensures.none in
    subst (λ (e : _). CopiesTo sizes ids (fault_of e.0.result) e.1 old old start (file_state e.0.disk.disk))
    (sym c.uncopied-in_default.ensures)
    (subst (λ (d : _). OnlySyncs start (file_state d.disk) × Keeps old old
    × ((refusal : Refusal) × (Some BadGeometry ≡ Some refusal)
    × IsUncopied sizes refusal start (file_state d.disk))) (sym c.into_disk.ensures) (
      opens.only_syncs,
      Keeps-refl _,
      (
        BadGeometry,
        refl,
        bad_sizes refl (of_sizes start mid mid view opens.only_syncs opens.opened opens.calm
            (reads_none mid) (λ h. (geometry : Geometry) → geometry_over h sizes ≡ Some geometry
            → IsValid geometry → ⊥) none),
      ),
    ))

pub returns-in-Some-use_of-clause-ended : goal.returns-in-Some-use_of-clause-ended
returns-in-Some-use_of-clause-ended g c =
    let opens = c.in-Ok.ensures in
    let sizes = c.args.task.now.sizes in
    let ids = c.args.task.now.after in
    let start = file_state c.args.disk.disk in
    let old = g.W.Write.contents c.args.writer.now in
    subst (λ (e : _). CopiesTo sizes ids (fault_of e.0.result) e.1 old old start (file_state e.0.disk.disk))
    (sym c.uncopied-in-Some-use_of.ensures)
    (subst (λ (d : _). OnlySyncs start (file_state d.disk) × Keeps old old
    × ((refusal : Refusal) × (Some DeviceFault ≡ Some refusal)
    × IsUncopied sizes refusal start (file_state d.disk))) (sym c.into_disk-in-Some-use_of.ensures)
    (opens.only_syncs, Keeps-refl _, (DeviceFault, refl, no_file refl)))

pub returns-in-Err-clause-files : goal.returns-in-Err-clause-files
returns-in-Err-clause-files g c =
    subst (λ (e : _). ComesToCopy (fault_of e.0.result) c.args.task.now.new.now e.1
    (g.M.System.System.calls c.args.host.now.system) (g.M.System.System.calls c.clear_unfit.new.host.system))
    (sym c.uncopied.ensures) (unasked refl (ap g.M.System.System.calls c.clear_unfit.ensures))

pub returns-in_default-clause-files : goal.returns-in_default-clause-files
returns-in_default-clause-files g c =
    let calls = g.M.System.System.calls c.args.host.now.system in
    subst (λ (e : _). ComesToCopy (fault_of e.0.result) c.args.task.now.new.now e.1 calls calls)
    (sym c.uncopied-in_default.ensures) (unasked refl refl)

pub returns-in-Some-use_of-clause-files : goal.returns-in-Some-use_of-clause-files
returns-in-Some-use_of-clause-files g c =
    subst (λ (e : _). ComesToCopy (fault_of e.0.result) c.args.task.now.new.now e.1
    (g.M.System.System.calls c.args.host.now.system) (g.M.System.System.calls c.use_of.new.system))
    (sym c.uncopied-in-Some-use_of.ensures)
    (in_use c.in-Some-use_of.found refl refl c.in-Some-use_of.ensures.used c.use_of.ensures.looks)

pub returns-clause-files : goal.returns-clause-files
returns-clause-files g c =
    free (g.M.System.System.calls c.use_of.new.system) c.use_of.ensures.looks
    c.in_default-use_of.ensures.free c.copy_open.ensures.files
