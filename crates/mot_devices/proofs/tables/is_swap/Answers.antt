use Rattle.std.proofs.Common.{Bool, List, subst, ℕ}
use Rattle.mot_devices.specs.Mounts.{parts_of}
use Rattle.mot_devices.specs.Tables.{AreSwapLines}
use Rattle.mot_devices.proofs.Looks.{if_ok}
use Rattle.mot_devices.proofs.tables.is_swap.Goals as goal

pub returns-clause-swap : goal.returns-clause-swap
returns-clause-swap g c =
    let own = c.args.numbers.now.own.items in
    let others = c.args.numbers.now.others.items in
    let mid = g.S.System.calls c.read_table.new.system in
    let new = g.S.System.calls c.has_swap.new.system in
    if_ok {P = λ (is : Bool). AreSwapLines own others (parts_of 10 c.deref.result.now) is mid new}
    (λ is lines. (
      c.in_ok-table.table.items,
      mid,
      c.in_ok-table.ensures.told,
      subst (λ (l : List ℕ). AreSwapLines own others (parts_of 10 l) is mid new) c.deref.ensures.value
          lines,
    )) c.has_swap.result c.has_swap.ensures.swap
