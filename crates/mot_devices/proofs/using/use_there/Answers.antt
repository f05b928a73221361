use Rattle.std.proofs.Common.{Err, Ok, refl, subst}
use Rattle.mot_devices.proofs.Looks.{looks_on, looks_one}
use Rattle.mot_devices.specs.Uses.{IsFreeDevice, IsUsedDevice, IsUsedThere}
use Rattle.mot_devices.specs.Uses.IsFreeThere.{device, no_device}
use Rattle.mot_files.specs.declared.system.Fault.TheVariants.{Absent, Busy, System}
use Rattle.mot_devices.proofs.using.use_there.Goals as goal

pub returns-in-Err-Absent-clause-free : goal.returns-in-Err-Absent-clause-free
returns-in-Err-Absent-clause-free g c =
    no_device (Err (Absent c.in-Err-Absent.field-0-0)) tt
    (rw c.in-Err-Absent.field-0-is at c.in-Err-Absent.ensures)

pub returns-in_default-clause-free : goal.returns-in_default-clause-free
returns-in_default-clause-free g c = no_device (Ok c.in-Ok.seen) c.in_default.is c.in-Ok.ensures

pub returns-in-Ok-look_at_device-clause-looks : goal.returns-in-Ok-look_at_device-clause-looks
returns-in-Ok-look_at_device-clause-looks g c =
    looks_on (g.S.System.calls c.args.system.now) (g.S.System.calls c.follow.new.self)
    (g.S.System.calls c.look_at_device.new.system) (looks_one _ _ _ c.in-Ok.ensures refl)
    c.look_at_device.ensures.looks

pub returns-in-Ok-look_at_device-clause-free : goal.returns-in-Ok-look_at_device-clause-free
returns-in-Ok-look_at_device-clause-free g c =
    device c.in-Ok.seen c.in-Some.number c.in-Some.is
    (subst (λ (l : _). IsFreeDevice c.args.path.now c.in-Some.number l
    (g.S.System.calls c.look_at_device.new.system)) c.in-Ok.ensures
    c.in-Ok-look_at_device.ensures.free)

pub returns-in-Err-Absent-clause-looks : goal.returns-in-Err-Absent-clause-looks
returns-in-Err-Absent-clause-looks g c =
    looks_one (g.S.System.calls c.args.system.now) (g.S.System.calls c.follow.new.self) _
    c.in-Err-Absent.ensures refl

pub returns-in_default-clause-looks : goal.returns-in_default-clause-looks
returns-in_default-clause-looks g c =
    looks_one (g.S.System.calls c.args.system.now) (g.S.System.calls c.follow.new.self) _
    c.in-Ok.ensures refl

pub returns-in-Err-clause-looks : goal.returns-in-Err-clause-looks
returns-in-Err-clause-looks g c =
    looks_on (g.S.System.calls c.args.system.now) (g.S.System.calls c.follow.new.self)
    (g.S.System.calls c.look_at_device.new.system) (looks_one _ _ _ c.in-Ok.ensures refl)
    c.look_at_device.ensures.looks

pub returns-in-Err-Busy-clause-used : goal.returns-in-Err-Busy-clause-used
returns-in-Err-Busy-clause-used g c =
    IsUsedThere.unseen Busy c.error.result refl (λ none. none)
    (rw c.in-Err-Busy.field-0-is at c.in-Err-Busy.ensures)

pub returns-in-Err-System-clause-used : goal.returns-in-Err-System-clause-used
returns-in-Err-System-clause-used g c =
    IsUsedThere.unseen (System c.in-Err-System.error) _ refl (λ none. none)
    (rw c.in-Err-System.field-0-is at c.in-Err-System.ensures)

pub returns-in-Err-clause-used : goal.returns-in-Err-clause-used
returns-in-Err-clause-used g c =
    IsUsedThere.device c.in-Ok.seen c.in-Some.number c.in-Some.is
    (subst (λ (l : _). IsUsedDevice c.args.path.now c.in-Some.number c.in-Err.found l
    (g.S.System.calls c.look_at_device.new.system)) c.in-Ok.ensures
    c.in-Err.ensures.used)
