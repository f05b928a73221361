use Rattle.std.proofs.Common.{[], ◌∷◌, ◌∙◌, refl, sym, subst, arith}
use Rattle.mot_line_folder.specs.Inner.{Remembers}
use Rattle.mot_line_folder.specs.Inner.IsDue.{known, new}
use Rattle.mot_line_folder.specs.Inner.Remembers.{by}
use Rattle.mot_line_folder.proofs.Told.{not_iff, or_first, set_contains}
use Rattle.std.proofs.lemmas.List.Elements.{Contains-append_right}
use Rattle.mot_line_folder.proofs.said.Said.keep.Goals as goal

pub returns-in-Some : goal.returns-in-Some
returns-in-Some c =
    let named = rw (← c.index_mut-told.ensures.value) at
    (c.in-Some.ensures.names c.index_mut-told.result.now) in
    record {
      due = (
        known c.index_mut-told.result.now
            (c.in-Some.at, c.in-Some.ensures.fits, sym c.index_mut-told.ensures.value) named
            (not_iff c.is_one-is_new.result c.is_one-is_new.ensures),
        λ some. by _ (set_contains _ c.in-Some.at _ c.in-Some.ensures.fits) named refl
            (c.or-told.ensures ∙ or_first c.args.unread _ some),
      );
    }

pub returns : goal.returns
returns c = record {
  due = (
    new c.in_default.ensures.none (omega (arith, c.if-len-ge-MOST.false, c.len.ensures)) refl,
    λ some. subst (λ (l : _). Remembers l c.args.name.now c.args.unread)
        (sym c.in_ok-push.ensures.items)
        (by _ (Contains-append_right c.args.self.now.names.items (_ ∷ []) _ (0, omega arith, refl))
        c.in_ok-from_slice.ensures.items refl refl),
  );
}
