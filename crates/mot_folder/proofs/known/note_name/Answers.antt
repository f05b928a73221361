use Rattle.std.proofs.Common.{◌≡◌, ◌∙◌, ◌||◌, Err, Ok, OnOk, Result, ap, is_ok, length, refl, sym, true}
use Rattle.std.proofs.lemmas.Option.{slice_get_read}
use Rattle.std.specs.Prelude.{bytes_eq, slice_get}
use Rattle.mot_folder.specs.Inner.Names.{name_or_none}
use Rattle.mot_folder.proofs.Order.{known_where}
use Rattle.mot_folder.proofs.known.note_name.Goals as goal
use Rattle.mot_update.specs.Updating.{is_known}

when_ok : {T E : Type 0} (r : Result T E) (P : Type 0) → OnOk r P → is_ok r ≡ true → P
when_ok (Ok value) P is ok = is
when_ok (Err error) P is ok = absurd (cc (ok))

pub returns : goal.returns
returns c = λ ok n.
    let names = c.args.noted.now.names.items in
    let name = c.in-Ok.name in
    let same : name ≡ name_or_none (slice_get c.args.names.now.names.items c.args.place) =
    c.in-Ok.ensures.cases ∙ ap name_or_none
    (sym (slice_get_read c.deref.result.now (length c.deref.result.now) c.args.place
    c.in-Some.name.now refl c.in-Some.ensures.lookup.3.0 c.in-Some.ensures.lookup.1)
    ∙ ap (λ l. slice_get l c.args.place) c.deref.ensures.value) in
    ap (λ l. is_known l n)
    (when_ok c.add.result _ c.add.ensures.added (sym c.is_ok.ensures.value ∙ ok))
    ∙ known_where (is_known names name) names name n refl
    ∙ ap (λ m. bytes_eq n m || is_known names n) same
