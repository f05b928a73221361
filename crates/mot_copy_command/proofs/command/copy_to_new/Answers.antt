use Rattle.mot_playout.specs.Attempts.{fault_of}
use Rattle.std.proofs.Common.{◌∙◌, ◌++◌, ◌∷◌, [], List, ap, append_assoc, refl, subst, sym}
use Rattle.disk_model.specs.Disk.{OnlyReads}
use Rattle.disk_store.proofs.Laws.{since_made}
use Rattle.disk_store.specs.File.{file_state}
use Rattle.mot_copy_command.specs.Command.{MakesCopy}
use Rattle.mot_copy_command.specs.Command.MakesCopy.{unmade}
use Rattle.mot_copy_command.specs.Inner.Views.{CopiesView}
use Rattle.mot_copy_command.proofs.Lifts.{Known, comes_copied, comes_removed, made_view}
use Rattle.mot_copy_command.proofs.command.copy_to_new.Goals as goal
use Rattle.mot_copy_command.proofs.command.copy_to_new.Goals.{then-is_refused, else-is_refused}
use Rattle.mot_files.specs.Call.{Call, removed}
use Rattle.mot_numbers.specs.Geometry.{length_of}

pub returns-clause-reads : goal.returns-clause-reads
returns-clause-reads g c =
    subst (λ (d : _). OnlyReads (file_state c.args.repository.disk.disk) (file_state d.disk))
    (sym c.end_of.ensures.from) c.tell_copy-made.ensures.reads

pub returns-clause-ended : goal.returns-clause-ended
returns-clause-ended g c =
    let view = c.args.repository.view in
    let geometry = c.args.geometry.now in
    let ids = c.args.task.now.after in
    let old = g.W.Write.contents c.args.writer.now in
    let new = g.W.Write.contents c.tell_copy-made.new.writer in
    let mid = file_state c.args.repository.disk.disk in
    let now = file_state c.tell_copy-made.new.repository.disk.disk in
    let last = c.tell_copy-made.new.to in
    let ending = fault_of c.tell_copy-made.result in
    let copies = c.tell_copy-made.ensures.copies in
    let since = since_made c.in-Ok.to.disk last.disk
    (Known view geometry ids ending old new mid now) (length_of geometry)
    c.in-Ok.ensures.first (c.in-Ok.ensures.len ∙ c.length.ensures) last.begins copies.keeps copies in
    let end = c.end_of.result in
    subst (λ (d : _). CopiesView view geometry ids (fault_of end.0.result) end.1 old new mid
    (file_state d.disk)) (sym c.end_of.ensures.from)
    (subst (λ (r : _). CopiesView view geometry ids (fault_of r) end.1 old new mid now)
    (sym c.end_of.ensures.made)
    (made_view view geometry ids ending old new mid now last.disk refl end.1 c.end_of.ensures.some
    c.end_of.ensures.to since))

pub returns-clause-files : goal.returns-clause-files
returns-clause-files g c =
    let view = c.args.repository.view in
    let geometry = c.args.geometry.now in
    let ids = c.args.task.now.after in
    let old = g.W.Write.contents c.args.writer.now in
    let new = g.W.Write.contents c.tell_copy-made.new.writer in
    let mid = file_state c.args.repository.disk.disk in
    let now = file_state c.tell_copy-made.new.repository.disk.disk in
    let last = c.tell_copy-made.new.to in
    let ending = fault_of c.tell_copy-made.result in
    let copies = c.tell_copy-made.ensures.copies in
    let since = since_made c.in-Ok.to.disk last.disk
    (Known view geometry ids ending old new mid now) (length_of geometry)
    c.in-Ok.ensures.first (c.in-Ok.ensures.len ∙ c.length.ensures) last.begins copies.keeps copies in
    let end = c.end_of.result in
    let path = c.args.task.now.new.now in
    let calls = g.M.System.System.calls in
    let before = calls c.args.host.now.system in
    subst (λ (r : _). MakesCopy (fault_of r) path end.1 before (calls c.if-is_refused.host.system))
    (sym c.end_of.ensures.made) (elim c.if-is_refused.branch [
      | then-is_refused w ↦
          let gone : List Call = removed path w.take_away.ensures.0 ∷ [] in
          comes_removed view geometry ids ending old new mid now last.disk refl path
          w.take_away.ensures.0 end.1 c.end_of.ensures.some c.end_of.ensures.to
          (c.is_refused.ensures.refused w.if-is_refused.true) since.begun before _
          (ap (λ h. calls h.system) w.host-is ∙ w.take_away.ensures.1
          ∙ ap (λ l. l ++ gone) c.in-Ok.ensures.calls ∙ append_assoc before _ gone)
      | else-is_refused w ↦
          comes_copied view geometry ids ending old new mid now last.disk refl path end.1
          c.end_of.ensures.some c.end_of.ensures.to
          (c.is_refused.ensures.copied w.if-is_refused.false) since.begun before _
          (ap (λ h. calls h.system) w.host-is ∙ c.in-Ok.ensures.calls)
    ])

pub returns-in-Err-clause-files : goal.returns-in-Err-clause-files
returns-in-Err-clause-files g c =
    subst (λ (e : _). MakesCopy (fault_of e.0.result) c.args.task.now.new.now e.1
    (g.M.System.System.calls c.args.host.now.system) (g.M.System.System.calls c.make_disk.new.self.system))
    (sym c.uncopied.ensures) (unmade refl refl c.in-Err.ensures.calls)
