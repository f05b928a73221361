use Rattle.mot_playout.specs.Attempts.{fault_of}
use Rattle.std.proofs.Common.{List, [], ◌∷◌, ◌++◌, ◌∙◌, ap, append_assoc, inl, inr, refl, subst, sym}
use Rattle.std.proofs.KnownBytes.{Keeps-refl}
use Rattle.mot_commands.specs.Commands.{FormatsFile, IsUnformatted, MakesFile}
use Rattle.mot_commands.specs.Commands.MakesFile.{made, taken_away, unmade}
use Rattle.mot_files.specs.Call.{Call, removed}
use Rattle.mot_outcome.specs.Outcome.{Finishes}
use Rattle.mot_commands.specs.Report.{Formats}
use Rattle.mot_numbers.specs.Geometry.{length_of}
use Rattle.disk_store.proofs.Laws.{since_made}
use Rattle.mot_commands.proofs.Ends.{Formats-keeps}
use Rattle.mot_commands.proofs.formatting.format_new_file.Goals as goal
use Rattle.mot_commands.proofs.formatting.format_new_file.Goals.{then-is_unformatted, else-is_unformatted}

pub returns-clause-ended : goal.returns-clause-ended
returns-clause-ended g c =
    let geometry = c.args.geometry in
    let directory = c.args.directory in
    let last = c.format_disk-result.new.disk in
    let old = g.W.Write.contents c.args.writer.now in
    let new = g.W.Write.contents c.format_disk-result.new.writer in
    let ending = fault_of c.format_disk-result.result in
    let formats = c.format_disk-result.ensures in
    subst (λ (f : _). Finishes (IsUnformatted c.args.geometry) (λ ending used. FormatsFile c.args.geometry c.args.directory ending used old new)
    f old new)
    (sym c.of_file.ensures) (rw c.ended_with.ensures (inr (
      c.requires,
      inr (since_made c.in-Ok.disk.disk last.disk (Formats geometry directory ending old new)
          (length_of geometry) c.in-Ok.ensures.first (c.in-Ok.ensures.len ∙ c.length.ensures)
          last.begins (Formats-keeps geometry directory ending old new _ _ formats) formats),
    )))

pub returns-in-Err-clause-ended : goal.returns-in-Err-clause-ended
returns-in-Err-clause-ended g c =
    let old = g.W.Write.contents c.args.writer.now in
    subst (λ (f : _). Finishes (IsUnformatted c.args.geometry) (λ ending used. FormatsFile c.args.geometry c.args.directory ending used old old)
    f old old) (sym c.unopened.ensures)
    (inl (inl refl, record { untouched = tt; silent = Keeps-refl _ }))

pub returns-clause-files : goal.returns-clause-files
returns-clause-files g c =
    let geometry = c.args.geometry in
    let directory = c.args.directory in
    let last = c.format_disk-result.new.disk in
    let old = g.W.Write.contents c.args.writer.now in
    let new = g.W.Write.contents c.format_disk-result.new.writer in
    let ending = fault_of c.format_disk-result.result in
    let formats = c.format_disk-result.ensures in
    let since = since_made c.in-Ok.disk.disk last.disk (Formats geometry directory ending old new)
    (length_of geometry) c.in-Ok.ensures.first (c.in-Ok.ensures.len ∙ c.length.ensures)
    last.begins (Formats-keeps geometry directory ending old new _ _ formats) formats in
    let calls = g.M.System.System.calls in
    subst (λ (f : _). MakesFile (fault_of f.result) c.args.path.now f.disk
    (calls c.args.host.now.system) (calls c.if-is_unformatted.host.system)) (sym c.of_file.ensures)
    (rw c.ended_with.ensures (elim c.if-is_unformatted.branch [
      | then-is_unformatted w ↦
          let gone : List Call = removed c.args.path.now w.take_away.ensures.0 ∷ [] in
          taken_away w.take_away.ensures.0 since.begun
          (c.is_unformatted.ensures.failed w.if-is_unformatted.true)
          (ap (λ h. calls h.system) w.host-is ∙ w.take_away.ensures.1
          ∙ ap (λ l. l ++ gone) c.in-Ok.ensures.calls
          ∙ append_assoc (calls c.args.host.now.system) _ gone)
      | else-is_unformatted w ↦
          made since.begun (c.is_unformatted.ensures.done w.if-is_unformatted.false)
          (ap (λ h. calls h.system) w.host-is ∙ c.in-Ok.ensures.calls)
    ]))

pub returns-in-Err-clause-files : goal.returns-in-Err-clause-files
returns-in-Err-clause-files g c =
    subst (λ (f : _). MakesFile (fault_of f.result) c.args.path.now f.disk
    (g.M.System.System.calls c.args.host.now.system) (g.M.System.System.calls c.make_disk.new.self.system))
    (sym c.unopened.ensures) (unmade tt refl c.in-Err.ensures.calls)
