use Rattle.std.proofs.Common.{◌≡◌, ◌∙◌, arith, false, refl, subst, sym, true}
use Rattle.std.proofs.lemmas.Bool.{false_from_ne_true}
use Rattle.mot_objects.proofs.Laws.{name_is, name_true}
use Rattle.mot_objects.specs.declared.name.TheConstants.{MAX_NAME}
use Rattle.mot_objects.specs.Name.{IsName, is_name}
use Rattle.mot_folder.proofs.Log.{tells_same, tells_unread}
use Rattle.mot_folder.proofs.Nameless.{nameless_named, nameless_told}
use Rattle.mot_folder.proofs.FileStat.{object_added, object_left_out}
use Rattle.mot_folder.proofs.listing.add_file.Goals as goal

pub returns-in_ok-add-in-Ok-clause-added : goal.returns-in_ok-add-in-Ok-clause-added
returns-in_ok-add-in-Ok-clause-added c =
    object_added c.args.names.now.names.items c.add.new.self.names.items c.args.name.now
    c.in-Ok.name (c.in-Ok.ensures.value ∙ c.in_ok-from_slice.ensures.items)
    (subst IsName c.in_ok-from_slice.ensures.items (c.in-Ok.ensures.valid.0 refl))
    c.in_ok-add-in-Ok.ensures.added

pub returns-in-Err-clause-added : goal.returns-in-Err-clause-added
returns-in-Err-clause-added c =
    object_left_out c.args.names.now.names.items c.args.name.now
    (λ named. absurd (cc (c.in-Err.ensures.valid.1
    (subst IsName (sym c.in_ok-from_slice.ensures.items) named))))

pub returns-in-Err-clause-told : goal.returns-in-Err-clause-told
returns-in-Err-clause-told c =
    tells_unread c.args.name.now _ c.args.report.now c.missed.new.self refl c.missed.ensures.told

pub returns-in_err-from_slice-clause-told : goal.returns-in_err-from_slice-clause-told
returns-in_err-from_slice-clause-told c = tells_same c.args.report.now

pub returns-in_err-add-in-Ok-clause-told : goal.returns-in_err-add-in-Ok-clause-told
returns-in_err-add-in-Ok-clause-told c = tells_same c.args.report.now

pub returns-in_ok-add-in-Ok-clause-told : goal.returns-in_ok-add-in-Ok-clause-told
returns-in_ok-add-in-Ok-clause-told c = tells_same c.args.report.now

pub returns-in_ok-add-in-Ok-clause-nameless : goal.returns-in_ok-add-in-Ok-clause-nameless
returns-in_ok-add-in-Ok-clause-nameless c = λ bad.
    let named : IsName c.args.name.now = subst IsName c.in_ok-from_slice.ensures.items
    (c.in-Ok.ensures.valid.0 refl) in
    absurd (let no : false ≡ true = sym bad ∙ name_true MAX_NAME c.args.name.now named named.short
    in cc)

pub returns-in_ok-add-in-Ok-clause-further : goal.returns-in_ok-add-in-Ok-clause-further
returns-in_ok-add-in-Ok-clause-further c = λ files was.
    let named : IsName c.args.name.now = subst IsName c.in_ok-from_slice.ensures.items
    (c.in-Ok.ensures.valid.0 refl) in
    nameless_named files c.args.report.now c.args.name.now
    (name_true MAX_NAME c.args.name.now named named.short) was

pub returns-in-Err-clause-further : goal.returns-in-Err-clause-further
returns-in-Err-clause-further c = λ files was.
    nameless_told files c.args.report.now c.missed.new.self c.args.name.now _ refl
    (false_from_ne_true (is_name MAX_NAME c.args.name.now) (λ is.
    absurd (cc (c.in-Err.ensures.valid.1 (subst IsName (sym c.in_ok-from_slice.ensures.items)
    (name_is MAX_NAME c.args.name.now (omega arith) is))))))
    c.missed.ensures.any c.missed.ensures.told was
