use Rattle.std.proofs.Common.{◌∙◌, List, ap, option_map, refl, rules, subst, take, ℕ}
use Rattle.mot_devices.specs.Looking.{IsTold}
use Rattle.mot_devices.specs.Mounts.{parts_of}
use Rattle.mot_devices.specs.Tables.{first_shown}
use Rattle.mot_devices.specs.declared.short_name.TheConstants.{LONGEST}
use Rattle.mot_files.specs.declared.system.How.TheVariants as how
use Rattle.mot_devices.proofs.Holders.{held_by}
use Rattle.mot_devices.proofs.tables.holder_of.Goals as goal

pub returns-clause-held : goal.returns-clause-held
returns-clause-held g c =
    let names = c.in_ok-names.names.items in
    let old = g.S.System.calls c.args.system.now in
    let new = g.S.System.calls c.read_table.new.system in
    held_by c.args.number c.first_name.result (first_shown (parts_of 0 names)) old new (
      names,
      subst (λ (path : List ℕ). IsTold path how.Folder names old new) (search rules)
          c.in_ok-names.ensures.told,
      refl,
    ) (c.first_name.ensures
    ∙ ap (λ (l : List ℕ). option_map (take LONGEST) (first_shown (parts_of 0 l)))
    c.deref.ensures.value)
