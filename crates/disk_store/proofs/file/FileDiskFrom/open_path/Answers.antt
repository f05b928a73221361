use Rattle.std.proofs.Common.{◌≡◌, ◌∙◌}
use Rattle.disk_store.specs.Calls.{opening_calls}
use Rattle.disk_store.specs.File.{calls_on}
use Rattle.disk_store.proofs.FileCalls.{begun_opened, opened_order, opened_first}
use Rattle.disk_store.proofs.file.FileDiskFrom.open_path.Goals as goal

pub begin-requires : goal.begin-requires
begin-requires g c =
    let is : c.take_length.new.self.history.calls ≡ opening_calls c.in_ok-len.len =
    rw (rw (rw c.in_ok-file.ensures at c.in_ok-sync_all.ensures) at c.in_default.ensures)
    at c.in_ok-len.ensures in
    begun_opened c.in_ok-len.len g.S.Start.bytes _ g.S.Start.are_bytes is

pub returns-clause-first_bytes : goal.returns-clause-first_bytes
returns-clause-first_bytes g c =
    let is : calls_on c.begin.result ≡ opening_calls c.in_ok-len.len =
    c.begin.ensures.history ∙ rw (rw (rw c.in_ok-file.ensures at c.in_ok-sync_all.ensures) at c.in_default.ensures)
    at c.in_ok-len.ensures in
    opened_first c.in_ok-len.len g.S.Start.bytes _ is

pub returns-clause-order : goal.returns-clause-order
returns-clause-order g c =
    let is : calls_on c.begin.result ≡ opening_calls c.in_ok-len.len =
    c.begin.ensures.history ∙ rw (rw (rw c.in_ok-file.ensures at c.in_ok-sync_all.ensures) at c.in_default.ensures)
    at c.in_ok-len.ensures in
    opened_order c.in_ok-len.len g.S.Start.bytes _ is
