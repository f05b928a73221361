use Rattle.std.proofs.Common.{◌∙◌, ap, inl, inr, refl, subst, sym}
use Rattle.std.proofs.KnownBytes.{Keeps-refl}
use Rattle.disk_store.proofs.Laws.{since_opened}
use Rattle.mot_commands.proofs.Ends.{Formats-keeps}
use Rattle.mot_commands.proofs.formatting.format_file.Goals as goal
use Rattle.mot_commands.specs.Commands.{FormatsFile, FormatsFree, IsUnformatted, MakesFile}
use Rattle.mot_commands.specs.Commands.FormatsFree.{free, in_use, unasked}
use Rattle.mot_commands.specs.Commands.OpensOrMakes.{opened, unopened}
use Rattle.mot_commands.specs.Report.{Formats}
use Rattle.mot_outcome.specs.Outcome.{Finishes}
use Rattle.mot_playout.specs.Attempts.{fault_of}

pub returns-then-not-is_valid-clause-ended : goal.returns-then-not-is_valid-clause-ended
returns-then-not-is_valid-clause-ended g c =
    let old = g.W.Write.contents c.args.writer.now in
    subst (λ (f : _). Finishes (IsUnformatted c.args.geometry) (λ ending used. FormatsFile c.args.geometry c.args.directory ending used old old)
    f old old) (sym c.unbegun.ensures) (inl (
      inr (refl, λ v. let e = c.if-not-is_valid.ensures.1 v in absurd (cc (e))),
      record { untouched = tt; silent = Keeps-refl _ },
    ))

pub returns-in-Some-clause-ended : goal.returns-in-Some-clause-ended
returns-in-Some-clause-ended g c =
    let old = g.W.Write.contents c.args.writer.now in
    subst (λ (f : _). Finishes (IsUnformatted c.args.geometry) (λ ending used. FormatsFile c.args.geometry c.args.directory ending used old old)
    f old old) (sym c.unbegun-in-Some.ensures)
    (inl (inl refl, record { untouched = tt; silent = Keeps-refl _ }))

pub returns-in-Ok-clause-ended : goal.returns-in-Ok-clause-ended
returns-in-Ok-clause-ended g c =
    let geometry = c.args.geometry in
    let directory = c.args.directory in
    let last = c.format_disk-result.new.disk in
    let old = g.W.Write.contents c.args.writer.now in
    let new = g.W.Write.contents c.format_disk-result.new.writer in
    let ending = fault_of c.format_disk-result.result in
    let formats = c.format_disk-result.ensures in
    subst (λ (f : _). Finishes (IsUnformatted geometry) (λ ending used. FormatsFile geometry directory ending used old new)
    f old new)
    (sym c.finish.ensures.ended.1) (inr (
      c.if-not-is_valid.ensures.0 refl,
      inl (since_opened c.in-Ok.disk.disk last.disk (Formats geometry directory ending old new)
          c.in-Ok.ensures.first last.begins
          (Formats-keeps geometry directory ending old new _ _ formats) formats),
    ))

pub returns-in-Err-clause-ended : goal.returns-in-Err-clause-ended
returns-in-Err-clause-ended g c = c.format_new_file.ensures.ended

pub returns-then-not-is_valid-clause-files : goal.returns-then-not-is_valid-clause-files
returns-then-not-is_valid-clause-files g c =
    let calls = g.M.System.System.calls c.args.host.now.system in
    subst (λ (f : _). FormatsFree (fault_of f.result) c.args.path.now f.disk calls calls)
    (sym c.unbegun.ensures) (unasked tt refl refl)

pub returns-in-Some-clause-files : goal.returns-in-Some-clause-files
returns-in-Some-clause-files g c =
    subst (λ (f : _). FormatsFree (fault_of f.result) c.args.path.now f.disk
    (g.M.System.System.calls c.args.host.now.system) (g.M.System.System.calls c.use_of.new.system))
    (sym c.unbegun-in-Some.ensures)
    (in_use c.in-Some.found tt refl c.in-Some.ensures.used c.use_of.ensures.looks)

pub returns-in-Ok-clause-files : goal.returns-in-Ok-clause-files
returns-in-Ok-clause-files g c =
    let calls = g.M.System.System.calls in
    let geometry = c.args.geometry in
    let directory = c.args.directory in
    let last = c.format_disk-result.new.disk in
    let old = g.W.Write.contents c.args.writer.now in
    let new = g.W.Write.contents c.format_disk-result.new.writer in
    let ending = fault_of c.format_disk-result.result in
    let formats = c.format_disk-result.ensures in
    let since = since_opened c.in-Ok.disk.disk last.disk (Formats geometry directory ending old new)
    c.in-Ok.ensures.first last.begins (Formats-keeps geometry directory ending old new _ _ formats)
    formats in
    subst (λ (f : _). FormatsFree (fault_of f.result) c.args.path.now f.disk
    (calls c.args.host.now.system) (calls c.finish.new.host.system))
    (sym c.finish.ensures.ended.1)
    (free (calls c.use_of.new.system) c.use_of.ensures.looks c.in_default.ensures.free
    (opened since.begun (ap calls c.finish.ensures.calls ∙ c.in-Ok.ensures.calls)))

pub returns-in-Err-clause-files : goal.returns-in-Err-clause-files
returns-in-Err-clause-files g c =
    let calls = g.M.System.System.calls in
    let done = c.format_new_file.result in
    free (calls c.use_of.new.system) c.use_of.ensures.looks c.in_default.ensures.free
    (unopened (subst (λ before. MakesFile (fault_of done.result) c.args.path.now done.disk before
    (calls c.format_new_file.new.host.system)) c.in-Err.ensures.calls
    c.format_new_file.ensures.files))
