use Rattle.std.proofs.Common.{refl, sym}
use Rattle.mot_line_folder.specs.Inner.IsUnread.{told}
use Rattle.mot_line_folder.specs.Inner.Remembers.{by}
use Rattle.mot_line_folder.proofs.Told.{set_contains}
use Rattle.mot_line_folder.proofs.said.Said.is_unread.Goals as goal

pub returns-clause-met : goal.returns-clause-met
returns-clause-met c =
    let named = rw (← c.index_mut-told.ensures.value) at
    (c.in-Some.ensures.names c.index_mut-told.result.now) in
    λ _. by _ (set_contains _ c.in-Some.at _ c.in-Some.ensures.fits) named refl
    (c.if-not-is_one.ensures.0 refl)

pub returns-clause-known : goal.returns-clause-known
returns-clause-known c =
    let named = rw (← c.index_mut-told.ensures.value) at
    (c.in-Some.ensures.names c.index_mut-told.result.now) in
    told c.index_mut-told.result.now
    (c.in-Some.at, c.in-Some.ensures.fits, sym c.index_mut-told.ensures.value) named
    ((λ _. c.if-not-is_one.ensures.0 refl), (λ _. refl))

pub returns-then-not-is_one-clause-known : goal.returns-then-not-is_one-clause-known
returns-then-not-is_one-clause-known c =
    let named = rw (← c.index_mut-told.ensures.value) at
    (c.in-Some.ensures.names c.index_mut-told.result.now) in
    told c.index_mut-told.result.now
    (c.in-Some.at, c.in-Some.ensures.fits, sym c.index_mut-told.ensures.value) named
    ((λ wrong. let h = wrong in cc), c.if-not-is_one.ensures.1)
