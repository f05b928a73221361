use Rattle.std.proofs.Common.{Bool, None, Option, Some, false, refl, subst, true}
use Rattle.mot_devices.specs.Inner.{TellsHolder}
use Rattle.mot_devices.specs.Uses.IsBusy.{held, no_memory, swap}
use Rattle.mot_devices.specs.Tables.{HolderIs, IsSwap}
use Rattle.mot_devices.specs.declared.short_name.ShortName.{ShortName}
use Rattle.mot_devices.proofs.Looks.{looks_on, within, within_before, within_behind}
use Rattle.mot_devices.proofs.using.refuse_held.Goals as goal

pub returns-in-Ok-true-clause-used : goal.returns-in-Ok-true-clause-used
returns-in-Ok-true-clause-used g c =
    let own = c.args.numbers.now.own.items in
    let others = c.args.numbers.now.others.items in
    let old = g.S.System.calls c.args.system.now in
    let new = g.S.System.calls c.is_swap.new.system in
    swap refl (within (IsSwap own others true) old new
    (subst (λ (is : Bool). IsSwap own others is old new) c.in-Ok-true.field-0-test
    c.in-Ok-true.ensures.swap))

pub returns-in-Err-clause-used : goal.returns-in-Err-clause-used
returns-in-Err-clause-used g c = no_memory c.no_memory.ensures.0 c.no_memory.ensures.1 c.no_memory.ensures.2

pub returns-in-Ok-None-clause-free : goal.returns-in-Ok-None-clause-free
returns-in-Ok-None-clause-free g c =
    let own = c.args.numbers.now.own.items in
    let others = c.args.numbers.now.others.items in
    let old = g.S.System.calls c.args.system.now in
    let mid = g.S.System.calls c.is_swap.new.system in
    let new = g.S.System.calls c.holder_of.new.system in record {
      no_swap = within_before (IsSwap own others false) old mid new
          (within (IsSwap own others false) old mid
          (subst (λ (is : Bool). IsSwap own others is old mid) c.in-Ok-false.field-0-test
          c.in-Ok-false.ensures.swap)) c.holder_of.ensures.looks;
      unheld = within_behind (HolderIs c.args.number None) old mid new c.is_swap.ensures.looks
          (within (HolderIs c.args.number None) mid new
          (subst (λ (name : Option ShortName). TellsHolder c.args.number name mid new)
          c.in-Ok-None.field-0-is c.in-Ok-None.ensures.held));
    }

pub returns-in-Ok-None-clause-looks : goal.returns-in-Ok-None-clause-looks
returns-in-Ok-None-clause-looks g c =
    looks_on (g.S.System.calls c.args.system.now) (g.S.System.calls c.is_swap.new.system)
    (g.S.System.calls c.holder_of.new.system) c.is_swap.ensures.looks c.holder_of.ensures.looks

pub returns-in-Ok-Some-clause-used : goal.returns-in-Ok-Some-clause-used
returns-in-Ok-Some-clause-used g c =
    let old = g.S.System.calls c.args.system.now in
    let mid = g.S.System.calls c.is_swap.new.system in
    let new = g.S.System.calls c.holder_of.new.system in
    let by = subst (λ (name : Option ShortName). TellsHolder c.args.number name mid new)
    c.in-Ok-Some.field-0-is c.in-Ok-Some.ensures.held in
    held by.0 c.in-Ok-Some.device refl by.2
    (within_behind (HolderIs c.args.number (Some by.0)) old mid new c.is_swap.ensures.looks
    (within (HolderIs c.args.number (Some by.0)) mid new by.1))

pub returns-in-Ok-Some-clause-looks : goal.returns-in-Ok-Some-clause-looks
returns-in-Ok-Some-clause-looks g c =
    looks_on (g.S.System.calls c.args.system.now) (g.S.System.calls c.is_swap.new.system)
    (g.S.System.calls c.holder_of.new.system) c.is_swap.ensures.looks c.holder_of.ensures.looks

pub returns-in-Err-holder_of-clause-used : goal.returns-in-Err-holder_of-clause-used
returns-in-Err-holder_of-clause-used g c =
    let why = c.no_memory-in-Err-holder_of.ensures in no_memory why.0 why.1 why.2

pub returns-in-Err-holder_of-clause-looks : goal.returns-in-Err-holder_of-clause-looks
returns-in-Err-holder_of-clause-looks g c =
    looks_on (g.S.System.calls c.args.system.now) (g.S.System.calls c.is_swap.new.system)
    (g.S.System.calls c.holder_of.new.system) c.is_swap.ensures.looks c.holder_of.ensures.looks
