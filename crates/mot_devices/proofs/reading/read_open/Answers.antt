use Rattle.std.proofs.Common.{◌≡◌, ◌∙◌, ◌+◌, ap, arith, length, length-append, subst, sym}
use Rattle.mot_devices.specs.Inner.{IsFailed}
use Rattle.mot_devices.specs.declared.reading.NotRead.{NotRead}
use Rattle.mot_devices.proofs.Looks.{err_and, looks_on}
use Rattle.mot_devices.proofs.ReadsOn.{ends, fails, goes_on}
use Rattle.mot_devices.proofs.reading.read_open.Goals as goal

pub returns-in_err-count-clause-looks : goal.returns-in_err-count-clause-looks
returns-in_err-count-clause-looks g c =
    looks_on (g.S.System.calls c.args.system.now) (g.S.System.calls c.loop-handle.system)
    (g.S.System.calls c.read_more.new.system) c.loop-handle.invariant.looks c.in_err-count.ensures.looks

pub returns-in_err-count-clause-failed : goal.returns-in_err-count-clause-failed
returns-in_err-count-clause-failed g c =
    let kept = c.loop-handle.invariant.read in
    let old = g.S.System.calls c.args.system.now in
    let new = g.S.System.calls c.read_more.new.system in
    let failed = fails c.args.handle kept.0 c.in_err-count.field-0.0 old
    (g.S.System.calls c.loop-handle.system) new kept.2 c.in_err-count.ensures.failed in
    err_and (λ (why : NotRead) is. subst (λ (w : NotRead). IsFailed c.args.handle w old new) (sym is) failed)
    c.from_residual.result c.from_residual.ensures.1

pub returns-then-count-eq0-clause-looks : goal.returns-then-count-eq0-clause-looks
returns-then-count-eq0-clause-looks g c =
    looks_on (g.S.System.calls c.args.system.now) (g.S.System.calls c.loop-handle.system)
    (g.S.System.calls c.read_more.new.system) c.loop-handle.invariant.looks c.in_ok-count.ensures.looks

pub returns-then-count-eq0-clause-read : goal.returns-then-count-eq0-clause-read
returns-then-count-eq0-clause-read g c =
    let kept = c.loop-handle.invariant.read in
    ends c.args.handle kept.0 c.in_ok-count.count c.loop-handle.bytes.items c.read_more.new.bytes.items
    (g.S.System.calls c.args.system.now) (g.S.System.calls c.loop-handle.system)
    (g.S.System.calls c.read_more.new.system) kept.1 kept.2 c.in_ok-count.ensures.more c.args.most
    c.if-count-eq0.true

pub loop-handle-smaller : goal.loop-handle-smaller
loop-handle-smaller g c =
    let more = c.in_ok-count.ensures.more in
    let all : length c.read_more.new.bytes.items
    ≡ length c.loop-handle.bytes.items + length more.chunk =
    ap length more.added ∙ length-append c.loop-handle.bytes.items more.chunk in
    let size : length more.chunk ≡ c.in_ok-count.count = more.size in omega arith

pub loop-handle-preserved : goal.loop-handle-preserved
loop-handle-preserved g c =
    let kept = c.loop-handle.invariant.read in record {
      looks = looks_on (g.S.System.calls c.args.system.now) (g.S.System.calls c.loop-handle.system)
          (g.S.System.calls c.read_more.new.system) c.loop-handle.invariant.looks
          c.in_ok-count.ensures.looks;
      read = goes_on c.args.handle kept.0 c.in_ok-count.count c.loop-handle.bytes.items
          c.read_more.new.bytes.items (g.S.System.calls c.args.system.now)
          (g.S.System.calls c.loop-handle.system) (g.S.System.calls c.read_more.new.system) kept.1
          kept.2 c.in_ok-count.ensures.more;
    }
