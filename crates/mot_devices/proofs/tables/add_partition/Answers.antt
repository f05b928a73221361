use Rattle.std.proofs.Common.{◌∙◌, ◌++◌, ◌∷◌, Err, List, Ok, [], ap, codes, refl, subst, ℕ}
use Rattle.mot_devices.specs.Looking.{IsTold}
use Rattle.mot_devices.specs.Tables.{number_of}
use Rattle.mot_devices.specs.Tables.AddsPartition.{marked, unmarked}
use Rattle.mot_devices.proofs.Looks.{looks_on, looks_one, on_ok}
use Rattle.mot_files.specs.Call.{Call, looked}
use Rattle.mot_files.specs.Listing.{path_in}
use Rattle.mot_files.specs.declared.system.How.TheVariants as how
use Rattle.mot_devices.proofs.tables.add_partition.Goals as goal

pub returns-in_default-look-clause-added : goal.returns-in_default-look-clause-added
returns-in_default-look-clause-added g c =
    let old = g.S.System.calls c.args.system.now in
    let inner = c.as_str.ensures.value ∙ c.in_ok-inner.ensures
    ∙ ap (path_in c.args.folder.now) c.in-Ok.ensures.cases.0 in
    let mark = c.as_str-2.ensures.value ∙ c.in_ok-mark.ensures
    ∙ ap (λ (p : List ℕ). path_in p (codes "partition")) inner in
    unmarked c.in_default-look.field-0 refl (c.in_default-look.ensures
    ∙ ap (λ (p : List ℕ). old ++ looked p (Err c.in_default-look.field-0) ∷ []) mark)

pub returns-clause-added : goal.returns-clause-added
returns-clause-added g c =
    let old = g.S.System.calls c.args.system.now in
    let new = g.S.System.calls c.read_table.new.system in
    let seen = c.in-Ok-look.field-0 in
    let first = c.as_str.ensures.value ∙ c.in_ok-inner.ensures
    ∙ ap (path_in c.args.folder.now) c.in-Ok.ensures.cases.0 in
    let second = c.as_str-3.ensures.value ∙ c.in_ok-inner.ensures
    ∙ ap (path_in c.args.folder.now) c.in-Ok.ensures.cases.0 in
    let mark = c.as_str-2.ensures.value ∙ c.in_ok-mark.ensures
    ∙ ap (λ (p : List ℕ). path_in p (codes "partition")) first in
    let place = c.as_str-4.ensures.value ∙ c.in_ok-place.ensures
    ∙ ap (λ (p : List ℕ). path_in p (codes "dev")) second in
    let calls = c.in-Ok-look.ensures ∙ ap (λ (p : List ℕ). old ++ looked p (Ok seen) ∷ []) mark in
    let told = subst (λ (p : List ℕ). IsTold p how.Read c.in_ok-number.number.items
    (g.S.System.calls c.look.new.self) new) place c.in_ok-number.ensures.told in
    on_ok _ _ _ (λ items. marked seen c.in_ok-number.number.items
    (items ∙ ap (λ (l : List ℕ). c.args.others.now.items ++ l) c.deref.ensures.value)
    (subst (λ (l : List Call). IsTold (number_of c.args.folder.now c.args.name.now) how.Read
    c.in_ok-number.number.items l new) calls told)) c.extend_from_slice.result
    c.extend_from_slice.ensures.items

pub returns-clause-looks : goal.returns-clause-looks
returns-clause-looks g c =
    looks_on (g.S.System.calls c.args.system.now) (g.S.System.calls c.look.new.self)
    (g.S.System.calls c.read_table.new.system) (looks_one _ _ _ c.look.ensures refl)
    c.read_table.ensures.looks

pub returns-in_err-number-clause-looks : goal.returns-in_err-number-clause-looks
returns-in_err-number-clause-looks g c =
    looks_on (g.S.System.calls c.args.system.now) (g.S.System.calls c.look.new.self)
    (g.S.System.calls c.read_table.new.system) (looks_one _ _ _ c.look.ensures refl)
    c.read_table.ensures.looks
