use Rattle.std.proofs.Common.{◌≡◌, ◌∙◌, refl, sym, ap, subst, arith, true, false, ℕ, ◌≤◌}
use Rattle.disk_model.proofs.Laws.{at_end}
use Rattle.mot_journal.specs.declared.layout.Layout.{Layout}
use Rattle.mot_journal.specs.declared.layout.Layout.TheVariants.{One, Two}
use Rattle.mot_journal.specs.Journal.{JournalView}
use Rattle.mot_repository.specs.Answers.{failed}
use Rattle.mot_repository.specs.Inner.Extents.{catalogue_with}
use Rattle.mot_repository.specs.Inner.Fold.{IsInOrder, view_with}
use Rattle.mot_repository.specs.Inner.Whole.{IsWhole}
use Rattle.mot_repository.specs.Repository.{RepositoryView, IsOf}
use Rattle.mot_repository.proofs.Layouts.{migrates, whole_in_two}
use Rattle.mot_repository.proofs.Moved.{here, folds, moments, held, rewrites}
use Rattle.mot_repository.proofs.repository.Repository.migrate.Goals as goal

-- a journal of another layout than the first is of the second
no_third : (layout : Layout) → (layout ≡ One → ⊥) → layout ≡ Two
no_third One not = absurd (not refl)
no_third Two not = refl

-- a repository that is halted does not go on
halted_goes : true ≡ false → ⊥
halted_goes e = cc

-- a disk that kept its length is long enough
no_shorter : (n len len' : ℕ) → n ≤ len → len' ≡ len → n ≤ len'
no_shorter n len len' le same = omega arith

pub migrate-requires-clause-few : goal.migrate-requires-clause-few
migrate-requires-clause-few g c =
    let r = c.self.inside in
    let kept = catalogue_with r.inventory.carousel r.inventory.extents.items in
    let one : r.journal.layout ≡ One = sym c.layout.ensures ∙ c.in-One.is in
    let whole = subst (λ (layout : Layout). IsWhole r.journal.geometry layout kept) one
    c.self.invariant.whole in
    (migrates r.journal.geometry kept c.deref.result.now whole
    (c.deref.ensures.value ∙ c.in_ok-given.ensures)).0

pub migrate-requires-clause-sound : goal.migrate-requires-clause-sound
migrate-requires-clause-sound g c =
    let r = c.self.inside in
    let kept = catalogue_with r.inventory.carousel r.inventory.extents.items in
    let one : r.journal.layout ≡ One = sym c.layout.ensures ∙ c.in-One.is in
    let whole = subst (λ (layout : Layout). IsWhole r.journal.geometry layout kept) one
    c.self.invariant.whole in
    (migrates r.journal.geometry kept c.deref.result.now whole
    (c.deref.ensures.value ∙ c.in_ok-given.ensures)).1

pub invariant_of-self-in_default-migrate : goal.invariant_of-self-in_default-migrate
invariant_of-self-in_default-migrate g c =
    let r = c.self.inside in
    let is = c.self.invariant in
    let kept = catalogue_with r.inventory.carousel r.inventory.extents.items in
    let one : r.journal.layout ≡ One = sym c.layout.ensures ∙ c.in-One.is in
    let whole = subst (λ (layout : Layout). IsWhole r.journal.geometry layout kept) one is.whole in
    subst (λ (j : JournalView).
    IsInOrder (view_with j r.inventory.carousel r.inventory.extents.items r.halted)
    (g.D.Disk.state c.migrate.new.disk).len)
    (sym c.in_default-migrate.ensures.rewrites.moves)
    (record {
      valid = is.valid;
      long_enough = no_shorter _ (g.D.Disk.state r.disk).len (g.D.Disk.state c.migrate.new.disk).len
          is.long_enough c.migrate.ensures.keeps.frame.len;
      whole = whole_in_two r.journal.geometry kept whole;
      paired = is.paired;
      going = is.going;
    })

pub returns-in-Err-clause-any_moment :
    goal.returns-in-Err-clause-any_moment
returns-in-Err-clause-any_moment g c = rw (← c.self.view_is) (λ s holds.
    let r = c.self.inside in
    let state = g.D.Disk.state in
    let old = state r.disk in
    let new = state c.migrate.new.disk in
    let given = c.deref.result.now in
    let view : RepositoryView =
    view_with r.journal r.inventory.carousel r.inventory.extents.items r.halted in
    let sound = g.met.D.Disk.sound r.disk holds.journal.honest in
    let k = rewrites view s old sound holds given (c.deref.ensures.value ∙ c.in_ok-given.ensures) in
    moments view s Two given k.0 r.journal old new refl holds k.1 k.2
    (c.migrate.ensures.rewrites.any_moment holds.records
    (here view s Two given k.0 r.journal old new refl holds k.1 k.2)
    (folds view s Two given k.0 r.journal old new refl holds k.1 k.2)))

pub returns-clause-any_moment : goal.returns-clause-any_moment
returns-clause-any_moment g c = rw (← c.self.view_is) (λ s holds.
    let r = c.self.inside in
    let state = g.D.Disk.state in
    let old = state r.disk in
    let new = state c.migrate.new.disk in
    let given = c.deref.result.now in
    let view : RepositoryView =
    view_with r.journal r.inventory.carousel r.inventory.extents.items r.halted in
    let sound = g.met.D.Disk.sound r.disk holds.journal.honest in
    let k = rewrites view s old sound holds given (c.deref.ensures.value ∙ c.in_ok-given.ensures) in
    moments view s Two given k.0 r.journal old new refl holds k.1 k.2
    (c.migrate.ensures.rewrites.any_moment holds.records
    (here view s Two given k.0 r.journal old new refl holds k.1 k.2)
    (folds view s Two given k.0 r.journal old new refl holds k.1 k.2)))

pub returns-clause-ok : goal.returns-clause-ok
returns-clause-ok g c = rw (← c.self.view_is) (λ s holds.
    let r = c.self.inside in
    let state = g.D.Disk.state in
    let old = state r.disk in
    let new = state c.migrate.new.disk in
    let given = c.deref.result.now in
    let view : RepositoryView =
    view_with r.journal r.inventory.carousel r.inventory.extents.items r.halted in
    let after : RepositoryView =
    view_with c.migrate.new.self r.inventory.carousel r.inventory.extents.items r.halted in
    let sound = g.met.D.Disk.sound r.disk holds.journal.honest in
    let k = rewrites view s old sound holds given (c.deref.ensures.value ∙ c.in_ok-given.ensures) in
    let was = here view s Two given k.0 r.journal old new refl holds k.1 k.2 in
    let fits = folds view s Two given k.0 r.journal old new refl holds k.1 k.2 in
    let same = ap (λ (j : JournalView). j.geometry) c.in_default-migrate.ensures.rewrites.moves in
    (held view s Two given k.0 r.journal old new refl holds k.1 k.2 sound c.migrate.new.self same
    (c.in_default-migrate.ensures.rewrites.ok holds.records was fits)
    (c.in_default-migrate.ensures.rewrites.area holds.records was fits) after refl holds.going
    (record {
      geometry = same ∙ holds.agrees.geometry;
      extents = holds.agrees.extents;
      bodies = holds.agrees.bodies;
      are_bodies = holds.agrees.are_bodies;
      carousel = holds.agrees.carousel;
    })).0)

pub returns-in-Err-clause-now : goal.returns-in-Err-clause-now
returns-in-Err-clause-now g c =
    let state = g.D.Disk.state in
    let new = c.migrate.new.disk in
    let run = rw (← c.self.view_is) at (returns-in-Err-clause-any_moment g c) in
    rw (← c.self.view_is) (λ s holds.
    let honest = c.migrate.ensures.keeps.honest holds.journal.honest in
    at_end (state c.self.inside.disk) (state new) (IsOf s) (g.met.D.Disk.sound new honest)
    (run s holds))

pub returns-clause-now : goal.returns-clause-now
returns-clause-now g c =
    let state = g.D.Disk.state in
    let new = c.migrate.new.disk in
    let run = rw (← c.self.view_is) at (returns-clause-any_moment g c) in
    rw (← c.self.view_is) (λ s holds.
    let honest = c.migrate.ensures.keeps.honest holds.journal.honest in
    at_end (state c.self.inside.disk) (state new) (IsOf s) (g.met.D.Disk.sound new honest)
    (run s holds))

pub returns-clause-layouts : goal.returns-clause-layouts
returns-clause-layouts g c = λ s holds image left.
    let now = returns-clause-ok g c s holds in
    let layout = ap (λ (j : JournalView). j.layout) c.in_default-migrate.ensures.rewrites.moves in
    (_, (now.journal.each image left).read, layout)

pub returns-in_default-clause-rewritten : goal.returns-in_default-clause-rewritten
returns-in_default-clause-rewritten g c = rw (← c.self.view_is) (
  λ is. absurd (halted_goes (sym is)),
  λ one. absurd
      (c.in_default.not-One (c.layout.ensures ∙ one)),
)

pub invariant_of-self : goal.invariant_of-self
invariant_of-self g c =
    let r = c.self.inside in
    let is = c.self.invariant in
    let spent : JournalView = record r.journal { spent = true } in
    subst (λ (j : JournalView).
    IsInOrder (view_with j r.inventory.carousel r.inventory.extents.items true)
    (g.D.Disk.state c.migrate.new.disk).len) {x = spent}
    (sym {b = spent} c.in-Err.ensures.spent)
    (record {
      valid = is.valid;
      long_enough = no_shorter _ (g.D.Disk.state r.disk).len (g.D.Disk.state c.migrate.new.disk).len
          is.long_enough c.migrate.ensures.keeps.frame.len;
      whole = is.whole;
      paired = is.paired;
      going = λ going. absurd (halted_goes going);
    })

pub returns-in-Err-clause-refused : goal.returns-in-Err-clause-refused
returns-in-Err-clause-refused g c = rw (← c.self.view_is)
    (failed c.if-self.false c.in-Err.ensures.fault (c.in-Err.ensures.cause.cause refl) (record {
      geometry = ap (λ (j : JournalView). j.geometry) c.in-Err.ensures.spent;
      layout = ap (λ (j : JournalView). j.layout) c.in-Err.ensures.spent;
      carousel = refl;
      extents = refl;
      halted = refl;
    }))

pub returns-clause-cost : goal.returns-clause-cost
returns-clause-cost g c = rw (← c.self.view_is) (λ one. record {
  at_most = c.in_default-migrate.ensures.cost.at_most;
  exact = c.in_default-migrate.ensures.cost.exact;
})

pub returns-in_default-clause-layout : goal.returns-in_default-clause-layout
returns-in_default-clause-layout g c = rw (← c.self.view_is)
    (no_third c.self.inside.journal.layout (λ one. c.in_default.not-One (c.layout.ensures ∙ one)))
