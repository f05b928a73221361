use Rattle.std.proofs.Common.{Err, Ok, refl}
use Rattle.mot_devices.proofs.Looks.{looks_on, looks_one}
use Rattle.mot_devices.proofs.ReadsOn.{closes_ok, unread_err}
use Rattle.mot_devices.specs.Looking.IsUnread.{unopened}
use Rattle.mot_files.specs.Call.{opened}
use Rattle.mot_devices.proofs.reading.read_first.Goals as goal

pub returns-clause-read : goal.returns-clause-read
returns-clause-read g c =
    closes_ok (λ first. first.is_whole) (λ first. first.bytes.items) c.args.path.now c.args.how
    c.in-Ok.handle c.args.most (g.S.System.calls c.args.system.now) (g.S.System.calls c.open.new.self)
    (g.S.System.calls c.read_open-first.new.system) (g.S.System.calls c.close.new.self)
    c.in-Ok.ensures c.close.ensures c.read_open-first.result c.read_open-first.ensures.read

pub returns-in-Err-clause-unread : goal.returns-in-Err-clause-unread
returns-in-Err-clause-unread g c = unopened c.in-Err.fault c.in-Err.ensures

pub returns-clause-unread : goal.returns-clause-unread
returns-clause-unread g c =
    unread_err c.args.path.now c.args.how c.in-Ok.handle (g.S.System.calls c.args.system.now)
    (g.S.System.calls c.open.new.self) (g.S.System.calls c.read_open-first.new.system)
    (g.S.System.calls c.close.new.self) c.in-Ok.ensures c.close.ensures c.read_open-first.result
    c.read_open-first.ensures.failed

pub returns-in-Err-clause-looks : goal.returns-in-Err-clause-looks
returns-in-Err-clause-looks g c =
    looks_one (g.S.System.calls c.args.system.now) (g.S.System.calls c.open.new.self)
    (opened c.args.path.now c.args.how (Err c.in-Err.fault)) c.in-Err.ensures c.requires

pub returns-clause-looks : goal.returns-clause-looks
returns-clause-looks g c =
    looks_on (g.S.System.calls c.args.system.now) (g.S.System.calls c.open.new.self)
    (g.S.System.calls c.close.new.self)
    (looks_one (g.S.System.calls c.args.system.now) (g.S.System.calls c.open.new.self)
    (opened c.args.path.now c.args.how (Ok c.in-Ok.handle)) c.in-Ok.ensures c.requires)
    (looks_on (g.S.System.calls c.open.new.self) (g.S.System.calls c.read_open-first.new.system)
    (g.S.System.calls c.close.new.self) c.read_open-first.ensures.looks
    (looks_one _ _ _ c.close.ensures refl))
