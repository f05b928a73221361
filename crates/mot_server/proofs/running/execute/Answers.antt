use Rattle.std.proofs.Common.{List, [], ◌≡◌, ◌⊎◌, Option, refl, subst, sym}
use Rattle.std.proofs.KnownBytes.{Keeps-refl}
use Rattle.std.specs.Io.KnownBytes.{Keeps}
use Rattle.mot_air.specs.Commands.{IsUnplayed, PlaysTask}
use Rattle.mot_sync_command.specs.Syncing.{IsUnsynced, SyncsTask}
use Rattle.mot_cli.specs.declared.task.Task.{Task}
use Rattle.mot_cli.specs.declared.task.Task.TheVariants.{Memory, Format, Copy, Play, Sync, Health}
use Rattle.mot_cli.specs.declared.task.Task.TheVariants.{PutFiles, WithdrawNames, OnDisk}
use Rattle.mot_commands.specs.Commands.{DoesOnFile, FormatsFile, FormatsFree, IsUnformatted}
use Rattle.mot_commands.specs.Commands.{IsUnmade, ServesMemory, only_looks}
use Rattle.mot_commands.specs.Changing.{PutsFiles, WithdrawsFile, texts}
use Rattle.mot_commands.specs.Health.{TellsHealth}
use Rattle.mot_copy_command.specs.Command.{CopiesFile, OpensTwo}
use Rattle.mot_endpoints.specs.Texts.{IsUntyped}
use Rattle.mot_files.specs.Call.{Call}
use Rattle.mot_numbers.specs.declared.refusal.Refusal.{Refusal}
use Rattle.mot_numbers.specs.declared.refusal.Refusal.TheVariants.{DeviceFault, OutOfMemory}
use Rattle.mot_outcome.specs.Outcome.{OpensOrReads, status_in}
use Rattle.mot_playout.specs.Attempts.{fault_of}
use Rattle.mot_server.specs.Inner.{ComesOut}
use Rattle.mot_server.specs.Program.{UsesFor}
use Rattle.mot_server.proofs.Coming.{comes_so, comes_whole, fault_whole, opens_whole}
use Rattle.mot_server.proofs.running.execute.Goals as goal

pub returns-in-Memory-clause-ended : goal.returns-in-Memory-clause-ended
returns-in-Memory-clause-ended g c =
    let unread = g.R.Read.remaining c.args.reader.now in
    let left = g.R.Read.remaining c.serve_memory.new.reader in
    let old = g.W.Write.contents c.args.writer.now in
    let new = g.W.Write.contents c.serve_memory.new.writer in
    let task : Task = Memory c.in-Memory.geometry in
    let result = c.serve_memory.result.result in
    let used = c.serve_memory.result.disk in
    subst (λ (t : Task). ComesOut t c.whole.result.result c.whole.result.disk unread left old new)
    (sym c.in-Memory.is)
    (subst (λ (w : _). ComesOut task w.result w.disk unread left old new) (sym c.whole.ensures)
    (comes_whole task unread left old new (λ r. IsUnmade c.in-Memory.geometry r × Keeps unread left)
    (λ ending used. ServesMemory c.in-Memory.geometry ending used unread left old new) result used (λ r early. early)
    (λ all ending whole is. (whole, is)) c.serve_memory.ensures))

pub returns-in-Format-clause-ended : goal.returns-in-Format-clause-ended
returns-in-Format-clause-ended g c =
    let unread = g.R.Read.remaining c.args.reader.now in
    let old = g.W.Write.contents c.args.writer.now in
    let new = g.W.Write.contents c.format_file.new.writer in
    let task : Task = Format c.in-Format.path c.in-Format.geometry c.in-Format.directory in
    let result = c.format_file.result.result in
    let used = c.format_file.result.disk in
    subst (λ (t : Task). ComesOut t c.whole-in-Format.result.result c.whole-in-Format.result.disk unread unread old new)
    (sym c.in-Format.is)
    (subst (λ (w : _). ComesOut task w.result w.disk unread unread old new) (sym c.whole-in-Format.ensures)
    (comes_whole task unread unread old new (IsUnformatted c.in-Format.geometry)
    (λ ending used. FormatsFile c.in-Format.geometry c.in-Format.directory ending used old new) result used (λ r early. (early, Keeps-refl _))
    (λ all ending whole is. (whole, Keeps-refl _, is)) c.format_file.ensures.ended))

pub returns-in-OnDisk-clause-ended : goal.returns-in-OnDisk-clause-ended
returns-in-OnDisk-clause-ended g c =
    let unread = g.R.Read.remaining c.args.reader.now in
    let left = g.R.Read.remaining c.work_on_file.new.reader in
    let old = g.W.Write.contents c.args.writer.now in
    let new = g.W.Write.contents c.work_on_file.new.writer in
    let task : Task = OnDisk c.in-OnDisk.disk c.in-OnDisk.work in
    let result = c.work_on_file.result.result in
    let used = c.work_on_file.result.disk in
    subst (λ (t : Task). ComesOut t c.whole-in-OnDisk.result.result c.whole-in-OnDisk.result.disk unread left old new)
    (sym c.in-OnDisk.is)
    (subst (λ (w : _). ComesOut task w.result w.disk unread left old new) (sym c.whole-in-OnDisk.ensures)
    (comes_whole task unread left old new (λ r. (r ≡ DeviceFault) × Keeps unread left)
    (λ ending used. DoesOnFile c.in-OnDisk.work ending used unread left old new) result used (λ r early. early)
    (λ all ending whole is. (whole, is)) c.work_on_file.ensures.ended))

pub returns-in-Play-clause-ended : goal.returns-in-Play-clause-ended
returns-in-Play-clause-ended g c =
    let unread = g.R.Read.remaining c.args.reader.now in
    let old = g.W.Write.contents c.args.writer.now in
    let new = g.W.Write.contents c.play.new.writer in
    let task : Task = Play c.in-Play.played in
    let result = c.play.result.result in
    let used = c.play.result.disk in
    subst (λ (t : Task). ComesOut t result used unread unread old new) (sym c.in-Play.is)
    (comes_so task unread unread old new (IsUnplayed c.in-Play.played)
    (λ all ending. PlaysTask c.in-Play.played all ending used old new) result used (λ r early. (early, Keeps-refl _))
    (λ all ending is. (Keeps-refl _, is)) c.play.ensures.ended)

pub returns-in-Sync-clause-ended : goal.returns-in-Sync-clause-ended
returns-in-Sync-clause-ended g c =
    let unread = g.R.Read.remaining c.args.reader.now in
    let old = g.W.Write.contents c.args.writer.now in
    let new = g.W.Write.contents c.sync.new.log in
    let task : Task = Sync c.in-Sync.synced in
    let result = c.sync.result.result in
    let used = c.sync.result.disk in
    subst (λ (t : Task). ComesOut t result used unread unread old new) (sym c.in-Sync.is)
    (comes_so task unread unread old new (IsUnsynced c.in-Sync.synced.types)
    (λ all ending. SyncsTask c.in-Sync.synced all ending used old new) result used (λ r early. (early, Keeps-refl _))
    (λ all ending is. (Keeps-refl _, is)) c.sync.ensures.ended)

pub returns-in-OnDisk-clause-files : goal.returns-in-OnDisk-clause-files
returns-in-OnDisk-clause-files g c =
    let old = g.M.System.System.calls c.args.host.now.system in
    let new = g.M.System.System.calls c.work_on_file.new.host.system in
    let done = c.whole-in-OnDisk.result in
    subst (λ (t : Task). UsesFor (status_in done.result) (fault_of done.result) t done.disk old new) (sym c.in-OnDisk.is)
    (subst (λ (w : _). OpensOrReads (only_looks c.in-OnDisk.work) [] c.in-OnDisk.disk.now (fault_of w.result) w.disk
    old new) (sym c.whole-in-OnDisk.ensures)
    (opens_whole c.work_on_file.result.result (only_looks c.in-OnDisk.work) c.in-OnDisk.disk.now
    c.work_on_file.result.disk old new c.work_on_file.ensures.files))

pub returns-in-Memory-clause-files : goal.returns-in-Memory-clause-files
returns-in-Memory-clause-files g c =
    let old = g.M.System.System.calls c.args.host.now.system in
    subst (λ (t : Task). UsesFor (status_in c.whole.result.result) (fault_of c.whole.result.result) t c.whole.result.disk old old)
    (sym c.in-Memory.is) refl

pub returns-in-Format-clause-files : goal.returns-in-Format-clause-files
returns-in-Format-clause-files g c =
    let old = g.M.System.System.calls c.args.host.now.system in
    let new = g.M.System.System.calls c.format_file.new.host.system in
    let done = c.whole-in-Format.result in
    subst (λ (t : Task). UsesFor (status_in done.result) (fault_of done.result) t done.disk old new) (sym c.in-Format.is)
    (subst (λ (w : _). FormatsFree (fault_of w.result) c.in-Format.path.now w.disk old new)
    (sym c.whole-in-Format.ensures)
    (subst (λ (e : Option Refusal). FormatsFree e c.in-Format.path.now c.format_file.result.disk old
    new) (sym (fault_whole c.format_file.result.result)) c.format_file.ensures.files))

pub returns-in-Play-clause-files : goal.returns-in-Play-clause-files
returns-in-Play-clause-files g c =
    subst (λ (t : Task). UsesFor (status_in c.play.result.result) (fault_of c.play.result.result) t c.play.result.disk
    (g.M.System.System.calls c.args.host.now.system) (g.M.System.System.calls c.play.new.host.system)) (sym c.in-Play.is) c.play.ensures.opens

pub returns-in-Sync-clause-files : goal.returns-in-Sync-clause-files
returns-in-Sync-clause-files g c =
    subst (λ (t : Task). UsesFor (status_in c.sync.result.result) (fault_of c.sync.result.result) t c.sync.result.disk
    (g.M.System.System.calls c.args.host.now.system) (g.M.System.System.calls c.sync.new.host.system)) (sym c.in-Sync.is) c.sync.ensures.opens

pub returns-in-WithdrawNames-clause-ended : goal.returns-in-WithdrawNames-clause-ended
returns-in-WithdrawNames-clause-ended g c =
    let unread = g.R.Read.remaining c.args.reader.now in
    let old = g.W.Write.contents c.args.writer.now in
    let new = g.W.Write.contents c.withdraw_file.new.writer in
    let names = c.in-WithdrawNames.names in
    let task : Task = WithdrawNames c.in-WithdrawNames.disk names in
    let result = c.withdraw_file.result.result in
    let used = c.withdraw_file.result.disk in
    subst (λ (t : Task). ComesOut t result used unread unread old new) (sym c.in-WithdrawNames.is)
    (comes_so task unread unread old new (λ r. r ≡ DeviceFault)
    (λ all ending. WithdrawsFile (texts names.now) all ending used old new) result used
    (λ r early. (early, Keeps-refl _)) (λ all ending is. (Keeps-refl _, is))
    c.withdraw_file.ensures.ended)

pub returns-in-PutFiles-clause-ended : goal.returns-in-PutFiles-clause-ended
returns-in-PutFiles-clause-ended g c =
    let unread = g.R.Read.remaining c.args.reader.now in
    let old = g.W.Write.contents c.args.writer.now in
    let new = g.W.Write.contents c.put.new.writer in
    let files = c.in-PutFiles.files in
    let types = c.in-PutFiles.types in
    let task : Task = PutFiles c.in-PutFiles.disk files types in
    let result = c.put.result.result in
    let used = c.put.result.disk in
    subst (λ (t : Task). ComesOut t result used unread unread old new) (sym c.in-PutFiles.is)
    (comes_so task unread unread old new (λ r. IsUntyped types r ⊎ (r ≡ DeviceFault))
    (λ all ending. (before after : List Call)
    × PutsFiles types (texts files.now) all ending used old new before after)
    result used (λ r early. (early, Keeps-refl _))
    (λ all ending is. (Keeps-refl _, is)) c.put.ensures.ended)

pub returns-in-PutFiles-clause-files : goal.returns-in-PutFiles-clause-files
returns-in-PutFiles-clause-files g c =
    subst (λ (t : Task). UsesFor (status_in c.put.result.result) (fault_of c.put.result.result) t c.put.result.disk
    (g.M.System.System.calls c.args.host.now.system) (g.M.System.System.calls c.put.new.host.system)) (sym c.in-PutFiles.is) c.put.ensures.files

pub returns-in-WithdrawNames-clause-files : goal.returns-in-WithdrawNames-clause-files
returns-in-WithdrawNames-clause-files g c =
    subst (λ (t : Task). UsesFor (status_in c.withdraw_file.result.result) (fault_of c.withdraw_file.result.result) t
    c.withdraw_file.result.disk (g.M.System.System.calls c.args.host.now.system) (g.M.System.System.calls c.withdraw_file.new.host.system))
    (sym c.in-WithdrawNames.is) c.withdraw_file.ensures.files

pub returns-in-Copy-clause-ended : goal.returns-in-Copy-clause-ended
returns-in-Copy-clause-ended g c =
    let unread = g.R.Read.remaining c.args.reader.now in
    let old = g.W.Write.contents c.args.writer.now in
    let new = g.W.Write.contents c.copy_file.new.writer in
    let copied = c.in-Copy.copied in
    let task : Task = Copy copied in
    let result = c.copy_file.result.result in
    let used = c.copy_file.result.disk in
    subst (λ (t : Task). ComesOut t c.whole-in-Copy.result.result c.whole-in-Copy.result.disk unread unread old new)
    (sym c.in-Copy.is)
    (subst (λ (w : _). ComesOut task w.result w.disk unread unread old new) (sym c.whole-in-Copy.ensures)
    (comes_whole task unread unread old new (λ r. r ≡ DeviceFault)
    (λ ending used. CopiesFile copied.sizes copied.after ending used old new) result used (λ r early. (early, Keeps-refl _))
    (λ all ending whole is. (whole, Keeps-refl _, is)) c.copy_file.ensures.ended))

pub returns-in-Copy-clause-files : goal.returns-in-Copy-clause-files
returns-in-Copy-clause-files g c =
    let old = g.M.System.System.calls c.args.host.now.system in
    let new = g.M.System.System.calls c.copy_file.new.host.system in
    let done = c.whole-in-Copy.result in
    let copied = c.in-Copy.copied in
    subst (λ (t : Task). UsesFor (status_in done.result) (fault_of done.result) t done.disk old new) (sym c.in-Copy.is)
    (subst (λ (w : _). OpensTwo (fault_of w.result) copied.disk.now copied.new.now w.disk old new)
    (sym c.whole-in-Copy.ensures)
    (subst (λ (e : Option Refusal). OpensTwo e copied.disk.now copied.new.now c.copy_file.result.disk
    old new) (sym (fault_whole c.copy_file.result.result)) c.copy_file.ensures.files))

pub returns-in-Health-clause-ended : goal.returns-in-Health-clause-ended
returns-in-Health-clause-ended g c =
    let unread = g.R.Read.remaining c.args.reader.now in
    let old = g.W.Write.contents c.args.writer.now in
    let new = g.W.Write.contents c.tell_health.new.writer in
    let task : Task = Health c.in-Health.asked in
    let result = c.tell_health.result.result in
    let used = c.tell_health.result.disk in
    subst (λ (t : Task). ComesOut t result used unread unread old new) (sym c.in-Health.is)
    (comes_so task unread unread old new (λ r. r ≡ OutOfMemory)
    (λ all ending. TellsHealth ending used old new) result used (λ r early. (early, Keeps-refl _))
    (λ all ending is. (Keeps-refl _, is)) c.tell_health.ensures.ended)

pub returns-in-Health-clause-files : goal.returns-in-Health-clause-files
returns-in-Health-clause-files g c =
    let result = c.tell_health.result.result in
    subst (λ (t : Task). UsesFor (status_in result) (fault_of result) t c.tell_health.result.disk
    (g.M.System.System.calls c.args.host.now.system) (g.M.System.System.calls c.tell_health.new.host.system))
    (sym c.in-Health.is) c.tell_health.ensures.asked
