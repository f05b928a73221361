use Rattle.std.proofs.Common.{[], ap, Bool, List, inl, inr, refl, subst, sym, ◌∙◌, ◌≡◌, ℕ}
use Rattle.std.proofs.KnownBytes.{Keeps-refl}
use Rattle.std.specs.Io.KnownBytes.{Keeps}
use Rattle.disk_store.proofs.Laws.{since_opened}
use Rattle.disk_store.specs.File.{file_state, ram_state}
use Rattle.mot_commands.proofs.Copied.{looks_still}
use Rattle.mot_commands.proofs.Served.{does-on}
use Rattle.mot_commands.proofs.working.work_on_file.Goals as goal
use Rattle.mot_commands.specs.Commands.{Does, DoesOnFile, only_looks}
use Rattle.mot_endpoints.specs.Opened.{IsReadAlike, TriesReads}
use Rattle.mot_files.specs.Call.{Call}
use Rattle.mot_numbers.specs.declared.refusal.Refusal.TheVariants.{DeviceFault}
use Rattle.mot_outcome.specs.Outcome.{Finishes, OpensOrReads}
use Rattle.mot_playout.specs.Attempts.{fault_of}

pub returns-in-Ok-clause-ended : goal.returns-in-Ok-clause-ended
returns-in-Ok-clause-ended g c =
    let unread = g.R.Read.remaining c.args.reader.now in
    let left = g.R.Read.remaining c.work_on-ended.new.reader in
    let old = g.W.Write.contents c.args.writer.now in
    let new = g.W.Write.contents c.work_on-ended.new.writer in
    let ended = c.work_on-ended.result in
    let ending = fault_of ended.result in
    let work = c.args.work.now in
    subst (λ (f : _). Finishes (λ r. (r ≡ DeviceFault) × Keeps unread left)
    (λ ending used. DoesOnFile work ending used unread left old new) f old new) (sym c.finish.ensures.ended.1)
    (inr (since_opened c.in-Ok.disk.disk ended.disk.disk
    (λ first now. Does file_state ended.disk.disk work ending unread left old new first)
    c.in-Ok.ensures.first ended.disk.begins c.work_on-ended.ensures.keeps
    (does-on (λ d. d.disk) file_state ended.disk (file_state c.in-Ok.disk.disk)
    unread left old new ending work c.work_on-ended.ensures.does)))

pub returns-in-Some-clause-ended : goal.returns-in-Some-clause-ended
returns-in-Some-clause-ended g c =
    let unread = g.R.Read.remaining c.args.reader.now in
    let left = g.R.Read.remaining c.work_on-ended-in-Some.new.reader in
    let old = g.W.Write.contents c.args.writer.now in
    let new = g.W.Write.contents c.work_on-ended-in-Some.new.writer in
    let work = c.args.work.now in
    subst (λ (f : _). Finishes (λ r. (r ≡ DeviceFault) × Keeps unread left)
    (λ ending used. DoesOnFile work ending used unread left old new) f old new) (sym c.in_memory.ensures)
    (inr (
      sym c.only_looks-looks.ensures ∙ c.in-Some.ensures.looks,
      (c.in-Some.copy, c.work_on-ended-in-Some.ensures.does),
    ))

pub returns-in-None-clause-ended : goal.returns-in-None-clause-ended
returns-in-None-clause-ended g c =
    let unread = g.R.Read.remaining c.args.reader.now in
    let old = g.W.Write.contents c.args.writer.now in
    subst (λ (f : _). Finishes (λ r. (r ≡ DeviceFault) × Keeps unread unread)
    (λ ending used. DoesOnFile c.args.work.now ending used unread unread old old) f old old)
    (sym c.unopened.ensures)
    (inl ((refl, Keeps-refl _), record { untouched = tt; silent = Keeps-refl _ }))

pub returns-in-Ok-clause-files : goal.returns-in-Ok-clause-files
returns-in-Ok-clause-files g c =
    subst (λ (f : _). OpensOrReads (only_looks c.args.work.now) [] c.args.path.now (fault_of f.result) f.disk (g.M.System.System.calls c.args.host.now.system)
    (g.M.System.System.calls c.finish.new.host.system)) (sym c.finish.ensures.ended.1)
    (g.M.System.System.calls c.args.host.now.system, refl, ap g.M.System.System.calls c.finish.ensures.calls ∙ c.in-Ok.ensures.calls)

pub returns-in-Some-clause-files : goal.returns-in-Some-clause-files
returns-in-Some-clause-files g c =
    let calls = g.M.System.System.calls in
    let path = c.args.path.now in
    let work = c.args.work.now in
    let old = calls c.args.host.now.system in
    let new = calls c.copy_unopened.new.system in
    let ended = c.work_on-ended-in-Some.result in
    let looks = sym c.only_looks-looks.ensures ∙ c.in-Some.ensures.looks in
    let still = looks_still ram_state ended.disk work (fault_of ended.result) _ _ _ _ (ram_state c.in-Some.copy)
    looks c.work_on-ended-in-Some.ensures.does in
    subst (λ (f : _). OpensOrReads (only_looks work) [] path (fault_of f.result) f.disk old new)
    (sym c.in_memory.ensures) (
      looks,
      (
        old,
        refl,
        subst (λ (l : List Call). IsReadAlike path (ram_state ended.disk).bytes l new) c.in-Err.ensures.calls
            (subst (λ (bytes : List ℕ). IsReadAlike path bytes (calls c.disk.new.self.system) new)
            (sym (still.still tt).bytes) c.in-Some.ensures.alike),
      ),
    )

pub returns-in-None-clause-files : goal.returns-in-None-clause-files
returns-in-None-clause-files g c =
    let calls = g.M.System.System.calls in
    let path = c.args.path.now in
    let work = c.args.work.now in
    let old = calls c.args.host.now.system in
    let new = calls c.copy_unopened.new.system in
    subst (λ (f : _). OpensOrReads (only_looks work) [] path (fault_of f.result) f.disk old new)
    (sym c.unopened.ensures)
    (inr (
      refl,
      (
        old,
        refl,
        subst (λ (l : List Call). TriesReads (only_looks work) path l new) c.in-Err.ensures.calls
            (subst (λ (b : Bool). TriesReads b path (calls c.disk.new.self.system) new) c.only_looks-looks.ensures
            c.copy_unopened.ensures.tried),
      ),
    ))
