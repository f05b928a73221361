use Rattle.std.proofs.Common.{List, [], rules, subst, ℕ}
use Rattle.mot_devices.specs.Looking.{IsTold}
use Rattle.mot_devices.specs.Mounts.{parts_of}
use Rattle.mot_devices.specs.Tables.{AddPartitions}
use Rattle.mot_files.specs.declared.system.How.TheVariants as how
use Rattle.mot_devices.proofs.tables.numbers_of.Goals as goal

pub returns-clause-others : goal.returns-clause-others
returns-clause-others g c =
    let names = c.in_ok-names.names.items in
    let others = c.add_partitions.new.others.items in
    let mid = g.S.System.calls c.read_table.new.system in
    let new = g.S.System.calls c.add_partitions.new.system in (
      names,
      mid,
      subst (λ (path : List ℕ). IsTold path how.Folder names (g.S.System.calls c.args.system.now) mid)
          (search rules) c.in_ok-names.ensures.told,
      subst (λ (path : List ℕ). AddPartitions path (parts_of 0 names) [] others mid new) (search rules)
          (subst (λ (l : List ℕ). AddPartitions c.as_str-4.result.now (parts_of 0 l) [] others mid new)
          c.deref.ensures.value
          (subst (λ (l : List ℕ). AddPartitions c.as_str-4.result.now (parts_of 0 c.deref.result.now) l
          others mid new) c.new-others.ensures.items c.in_ok-add_partitions.ensures.added)),
    )
