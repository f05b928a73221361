use Rattle.std.proofs.Common.{◌∙◌, ap, refl, subst, sym}
use Rattle.std.specs.Prelude.{codes}
use Rattle.mot_devices.proofs.Uses.{unlisted}
use Rattle.mot_devices.specs.Uses.IsMounted.{long, mounted}
use Rattle.mot_devices.specs.Looking.{WasRead}
use Rattle.mot_devices.specs.Mounts.{mount_in}
use Rattle.mot_devices.specs.declared.using.TheConstants.{MOST}
use Rattle.mot_files.specs.declared.system.How.TheVariants as how
use Rattle.mot_devices.proofs.using.refuse_mounted.Goals as goal

pub returns-in-Err-clause-used : goal.returns-in-Err-clause-used
returns-in-Err-clause-used g c =
    unlisted c.args.numbers.now.own.items c.args.numbers.now.others.items c.in-Err.why c.error.result
    (g.S.System.calls c.args.system.now) (g.S.System.calls c.read_first.new.system) c.error.ensures
    c.in-Err.ensures.unread

pub returns-then-not-mounts-clause-used : goal.returns-then-not-mounts-clause-used
returns-then-not-mounts-clause-used g c =
    long c.from.result c.in-Ok.mounts.bytes.items refl
    (subst (λ (whole : _). WasRead (codes "/proc/self/mountinfo") how.Read MOST whole
    c.in-Ok.mounts.bytes.items (g.S.System.calls c.args.system.now)
    (g.S.System.calls c.read_first.new.system)) c.if-not-mounts.true c.in-Ok.ensures.read)

pub returns-in-Some-clause-used : goal.returns-in-Some-clause-used
returns-in-Some-clause-used g c =
    let own = c.args.numbers.now.own.items in
    let others = c.args.numbers.now.others.items in
    mounted c.in-Some.place.now c.of.result refl c.of.ensures (record {
      mounts = c.in-Ok.mounts.bytes.items;
      read = subst (λ (whole : _). WasRead (codes "/proc/self/mountinfo") how.Read MOST whole
          c.in-Ok.mounts.bytes.items (g.S.System.calls c.args.system.now)
          (g.S.System.calls c.read_first.new.system)) c.if-not-mounts.false c.in-Ok.ensures.read;
      at = ap (mount_in own others) (sym c.deref.ensures.value) ∙ c.in-Some.ensures.found;
    })

pub returns-clause-free : goal.returns-clause-free
returns-clause-free g c =
    let own = c.args.numbers.now.own.items in
    let others = c.args.numbers.now.others.items in record {
      mounts = c.in-Ok.mounts.bytes.items;
      read = subst (λ (whole : _). WasRead (codes "/proc/self/mountinfo") how.Read MOST whole
          c.in-Ok.mounts.bytes.items (g.S.System.calls c.args.system.now)
          (g.S.System.calls c.read_first.new.system)) c.if-not-mounts.false c.in-Ok.ensures.read;
      at = ap (mount_in own others) (sym c.deref.ensures.value) ∙ c.in-None.ensures.none;
    }
