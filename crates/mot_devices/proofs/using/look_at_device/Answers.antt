use Rattle.std.proofs.Common.{subst, sym}
use Rattle.mot_devices.proofs.Looks.{err_and, if_err, looks_on}
use Rattle.mot_devices.proofs.Uses.{free_ok, used_busy, used_mounted, used_signed}
use Rattle.mot_devices.specs.Uses.{IsUsedDevice}
use Rattle.mot_devices.specs.Uses.IsUsedDevice.{no_memory}
use Rattle.mot_devices.specs.declared.device_use.DeviceUse.{DeviceUse}
use Rattle.mot_devices.proofs.using.look_at_device.Goals as goal

pub returns-in_default-clause-used : goal.returns-in_default-clause-used
returns-in_default-clause-used g c = no_memory c.no_memory.ensures.0 c.no_memory.ensures.1 c.no_memory.ensures.2

pub returns-in_err-refuse_mounted-clause-looks : goal.returns-in_err-refuse_mounted-clause-looks
returns-in_err-refuse_mounted-clause-looks g c =
    looks_on (g.S.System.calls c.args.system.now) (g.S.System.calls c.numbers_of.new.system)
    (g.S.System.calls c.refuse_mounted.new.system) c.numbers_of.ensures.looks
    c.refuse_mounted.ensures.looks

pub returns-in_err-refuse_mounted-clause-used : goal.returns-in_err-refuse_mounted-clause-used
returns-in_err-refuse_mounted-clause-used g c =
    let used = used_mounted c.args.path.now c.args.number c.in-Ok.numbers.own.items
    c.in-Ok.numbers.others.items (g.S.System.calls c.args.system.now)
    (g.S.System.calls c.numbers_of.new.system) c.in-Ok.ensures.own c.numbers_of.ensures.looks
    c.in-Ok.ensures.others (g.S.System.calls c.refuse_mounted.new.system)
    c.in_err-refuse_mounted.field-0.0 c.refuse_mounted.ensures.looks
    c.in_err-refuse_mounted.ensures.used in
    err_and (λ (found : DeviceUse) is. subst (λ (f : DeviceUse). IsUsedDevice c.args.path.now
    c.args.number f (g.S.System.calls c.args.system.now)
    (g.S.System.calls c.refuse_mounted.new.system)) (sym is) used) c.from_residual.result
    c.from_residual.ensures.1

pub returns-in_err-refuse_held-clause-looks : goal.returns-in_err-refuse_held-clause-looks
returns-in_err-refuse_held-clause-looks g c =
    looks_on (g.S.System.calls c.args.system.now) (g.S.System.calls c.refuse_mounted.new.system)
    (g.S.System.calls c.refuse_held.new.system)
    (looks_on (g.S.System.calls c.args.system.now) (g.S.System.calls c.numbers_of.new.system)
    (g.S.System.calls c.refuse_mounted.new.system) c.numbers_of.ensures.looks
    c.refuse_mounted.ensures.looks) c.refuse_held.ensures.looks

pub returns-in_err-refuse_held-clause-used : goal.returns-in_err-refuse_held-clause-used
returns-in_err-refuse_held-clause-used g c =
    let used = used_busy c.args.path.now c.args.number c.in-Ok.numbers.own.items c.in-Ok.numbers.others.items
    (g.S.System.calls c.args.system.now) (g.S.System.calls c.numbers_of.new.system)
    c.in-Ok.ensures.own c.numbers_of.ensures.looks c.in-Ok.ensures.others
    (g.S.System.calls c.refuse_mounted.new.system) (g.S.System.calls c.refuse_held.new.system)
    c.refuse_mounted.ensures.looks c.refuse_held.ensures.looks c.in_err-refuse_held.field-0.0
    c.in_err-refuse_held.ensures.used in
    err_and (λ (found : DeviceUse) is. subst (λ (f : DeviceUse). IsUsedDevice c.args.path.now
    c.args.number f (g.S.System.calls c.args.system.now)
    (g.S.System.calls c.refuse_held.new.system)) (sym is) used) c.from_residual-in_err-refuse_held.result
    c.from_residual-in_err-refuse_held.ensures.1

pub returns-clause-looks : goal.returns-clause-looks
returns-clause-looks g c =
    looks_on (g.S.System.calls c.args.system.now) (g.S.System.calls c.refuse_held.new.system)
    (g.S.System.calls c.refuse_signature.new.system)
    (looks_on (g.S.System.calls c.args.system.now) (g.S.System.calls c.refuse_mounted.new.system)
    (g.S.System.calls c.refuse_held.new.system)
    (looks_on (g.S.System.calls c.args.system.now) (g.S.System.calls c.numbers_of.new.system)
    (g.S.System.calls c.refuse_mounted.new.system) c.numbers_of.ensures.looks
    c.refuse_mounted.ensures.looks) c.refuse_held.ensures.looks) c.refuse_signature.ensures.looks

pub returns-clause-free : goal.returns-clause-free
returns-clause-free g c =
    free_ok c.args.path.now c.args.number c.in-Ok.numbers.own.items c.in-Ok.numbers.others.items
    (g.S.System.calls c.args.system.now) (g.S.System.calls c.numbers_of.new.system)
    c.in-Ok.ensures.own c.numbers_of.ensures.looks c.in-Ok.ensures.others
    (g.S.System.calls c.refuse_mounted.new.system) (g.S.System.calls c.refuse_held.new.system)
    c.refuse_mounted.ensures.looks c.refuse_held.ensures.looks
    (g.S.System.calls c.refuse_signature.new.system) c.refuse_signature.ensures.looks
    c.in_ok-refuse_mounted.ensures.free c.in_ok-refuse_held.ensures.free c.refuse_signature.result
    c.refuse_signature.ensures.free

pub returns-clause-used : goal.returns-clause-used
returns-clause-used g c =
    if_err (used_signed c.args.path.now c.args.number c.in-Ok.numbers.own.items
    c.in-Ok.numbers.others.items (g.S.System.calls c.args.system.now)
    (g.S.System.calls c.numbers_of.new.system) c.in-Ok.ensures.own c.numbers_of.ensures.looks
    c.in-Ok.ensures.others (g.S.System.calls c.refuse_mounted.new.system)
    (g.S.System.calls c.refuse_held.new.system) c.refuse_mounted.ensures.looks
    c.refuse_held.ensures.looks (g.S.System.calls c.refuse_signature.new.system)
    c.refuse_signature.ensures.looks) c.refuse_signature.result c.refuse_signature.ensures.used
