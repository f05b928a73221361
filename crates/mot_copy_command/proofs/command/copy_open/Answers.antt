use Rattle.mot_playout.specs.Attempts.{fault_of}
use Rattle.std.proofs.Common.{◌≡◌, ◌∙◌, ◌++◌, ◌∷◌, [], ap, refl, subst, sym, true}
use Rattle.disk_model.specs.Disk.{OnlyReads}
use Rattle.disk_store.proofs.Laws.{since_opened}
use Rattle.disk_store.specs.File.{file_state}
use Rattle.mot_copy_command.specs.Command.{MakesCopy, OpensOrMakesCopy}
use Rattle.mot_copy_command.specs.Command.OpensOrMakesCopy.{unopened}
use Rattle.mot_copy_command.specs.Inner.Views.{CopiesView}
use Rattle.mot_copy_command.proofs.Lifts.{Known, comes_kept, opened_view}
use Rattle.mot_copy_command.proofs.command.copy_open.Goals as goal
use Rattle.mot_copy_command.proofs.command.copy_open.Goals.{then-is_refused, else-is_refused}
use Rattle.mot_files.specs.Call.{opened_disk}

pub returns-after-is_refused-clause-reads : goal.returns-after-is_refused-clause-reads
returns-after-is_refused-clause-reads g c =
    subst (λ (d : _). OnlyReads (file_state c.args.repository.disk.disk) (file_state d.disk))
    (sym c.end_of.ensures.from) c.tell_copy-made.ensures.reads

pub returns-after-is_refused-clause-ended : goal.returns-after-is_refused-clause-ended
returns-after-is_refused-clause-ended g c =
    let view = c.args.repository.view in
    let geometry = c.args.geometry.now in
    let ids = c.args.task.now.after in
    let old = g.W.Write.contents c.args.writer.now in
    let new = g.W.Write.contents c.tell_copy-made.new.writer in
    let mid = file_state c.args.repository.disk.disk in
    let now = file_state c.tell_copy-made.new.repository.disk.disk in
    let last = c.tell_copy-made.new.to in
    let ending = fault_of c.tell_copy-made.result in
    let copies = c.tell_copy-made.ensures.copies in
    let since = since_opened c.in-Ok.to.disk last.disk
    (Known view geometry ids ending old new mid now) c.in-Ok.ensures.first last.begins copies.keeps
    copies in
    let end = c.end_of.result in
    subst (λ (d : _). CopiesView view geometry ids (fault_of end.0.result) end.1 old new mid
    (file_state d.disk)) (sym c.end_of.ensures.from)
    (subst (λ (r : _). CopiesView view geometry ids (fault_of r) end.1 old new mid now)
    (sym c.end_of.ensures.made)
    (opened_view view geometry ids ending old new mid now last.disk refl end.1
    c.end_of.ensures.some c.end_of.ensures.to since))

pub returns-after-is_refused-clause-files : goal.returns-after-is_refused-clause-files
returns-after-is_refused-clause-files g c =
    let view = c.args.repository.view in
    let geometry = c.args.geometry.now in
    let ids = c.args.task.now.after in
    let old = g.W.Write.contents c.args.writer.now in
    let new = g.W.Write.contents c.tell_copy-made.new.writer in
    let mid = file_state c.args.repository.disk.disk in
    let now = file_state c.tell_copy-made.new.repository.disk.disk in
    let last = c.tell_copy-made.new.to in
    let ending = fault_of c.tell_copy-made.result in
    let copies = c.tell_copy-made.ensures.copies in
    let since = since_opened c.in-Ok.to.disk last.disk
    (Known view geometry ids ending old new mid now) c.in-Ok.ensures.first last.begins copies.keeps
    copies in
    let end = c.end_of.result in
    let path = c.args.task.now.new.now in
    let calls = g.M.System.System.calls in
    let before = calls c.args.host.now.system in
    let come : calls c.if-is_refused.host.system ≡ before ++ opened_disk path true ∷ [] =
    elim c.if-is_refused.branch [
      | then-is_refused w ↦ ap (λ h. calls h.system) w.host-is ∙ ap calls w.clear_side.ensures
          ∙ c.in-Ok.ensures.calls
      | else-is_refused w ↦ ap (λ h. calls h.system) w.host-is ∙ c.in-Ok.ensures.calls
    ] in
    subst (λ (r : _). OpensOrMakesCopy (fault_of r) path end.1 before
    (calls c.if-is_refused.host.system)) (sym c.end_of.ensures.made)
    (comes_kept view geometry ids ending old new mid now last.disk refl path end.1
    c.end_of.ensures.some c.end_of.ensures.to since.begun before _ come)

pub returns-in-Err-clause-files : goal.returns-in-Err-clause-files
returns-in-Err-clause-files g c =
    let done = c.copy_to_new.result in
    unopened (subst (λ before. MakesCopy (fault_of done.0.result) c.args.task.now.new.now done.1
    before (g.M.System.System.calls c.copy_to_new.new.host.system)) c.in-Err.ensures.calls
    c.copy_to_new.ensures.files)
