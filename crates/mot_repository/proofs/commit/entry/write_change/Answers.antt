use Rattle.std.proofs.Common.{◌≡◌, ℕ, ◌+◌, List, ◌++◌, [], ◌∷◌, ◌∙◌, Ok, inl, sym, ap, subst}
use Rattle.std.proofs.Common.{length, ◌≤◌, arith}
use Rattle.std.proofs.lemmas.Result.{err_from_is_err_and, on_ok_weaker}
use Rattle.disk_model.specs.Disk.{WritesWithin}
use Rattle.disk_model.proofs.Laws.{weakens, keeps_all_on}
use Rattle.mot_journal.specs.declared.record.Record.{Record}
use Rattle.mot_journal.specs.Image.{catalogue_of}
use Rattle.mot_journal.specs.Catalogue.{Catalogue}
use Rattle.mot_journal.specs.Gaps.{AreBeside, standing_of}
use Rattle.mot_journal.specs.Image.{Standing}
use Rattle.mot_journal.specs.Journal.{JournalView, HoldsRecords, OnlyReadArea}
use Rattle.mot_numbers.specs.Geometry.{area_start}
use Rattle.mot_repository.specs.Repository.{RepositoryView, IsOf, IsBeforeOrAfter, Holds}
use Rattle.mot_repository.proofs.Answering.{of_three}
use Rattle.mot_repository.proofs.Committing.{WroteBody, is_read, wrote_body, is_ready, any_moment}
use Rattle.mot_repository.proofs.Committing.{holds_after}
use Rattle.mot_repository.proofs.commit.entry.write_change.Given as given
use Rattle.mot_repository.proofs.commit.entry.write_change.Goals as goal
use Rattle.mot_repository.proofs.commit.entry.write_change.Goals.{After-write_body}

at_most_four_more : (a b n : ℕ) → n ≤ a + b → n ≤ a + (b + 4)
at_most_four_more a b n le = omega arith

at_most_four_behind : (a b mid n : ℕ) → mid ≤ a + b → n ≤ mid + 4 → n ≤ a + (b + 4)
at_most_four_behind a b mid n first then = omega arith

four_behind : (a b mid n : ℕ) → mid ≡ a + b → n ≡ mid + 4 → n ≡ a + (b + 4)
four_behind a b mid n first then = omega arith

-- what the write of the body left
body_left : (g : given.Over) (c : After-write_body g) (view : RepositoryView) (s : Standing)
    (records : List Record) (before : Catalogue) (from : ℕ)
    → c.args.at ≡ area_start view.journal.geometry + from
    → catalogue_of view.journal.geometry.objects records ≡ Ok before
    → AreBeside view.journal.geometry from (length c.args.body.now) before.objects
    × (from + length c.args.body.now ≤ view.journal.geometry.area)
    → (holds : Holds view s (g.D.Disk.state c.args.disk.now)) → holds.records ≡ records
    → WroteBody view s records (g.D.Disk.state c.args.disk.now)
    (g.D.Disk.state c.write_body.new.disk)
body_left g c view s records before from at fold beside holds same =
    let old = c.args.disk.now in
    let mid = c.write_body.new.disk in
    let n = length c.args.body.now in
    let honest = holds.journal.honest in
    wrote_body view s records before from n fold beside.0 beside.1 (g.D.Disk.state old)
    (g.D.Disk.state mid)
    (g.met.D.Disk.sound old honest)
    (g.met.D.Disk.sound mid (c.write_body.ensures.keeps.honest honest)) holds same
    c.write_body.ensures.keeps
    (subst (λ k. WritesWithin k n (g.D.Disk.state old) (g.D.Disk.state mid)) at
    (c.write_body.ensures.range honest))

pub returns-in_err-write_body-clause-any_moment : goal.returns-in_err-write_body-clause-any_moment
returns-in_err-write_body-clause-any_moment g c =
    λ view s records before next from layout command done is at fold fold' beside holds same step.
    let here = (goal.at.returns-in_err-write_body-clause-any_moment g c).After-write_body in
    weakens (g.D.Disk.state c.args.disk.now) (g.D.Disk.state c.write_body.new.disk) (IsOf s)
    (IsBeforeOrAfter layout s command)
    (body_left g here view s records before from at fold beside holds same).run
    (λ image is. inl is)

pub returns-clause-any_moment : goal.returns-clause-any_moment
returns-clause-any_moment g c =
    λ view s records before next from layout command done is at fold fold' beside holds same step.
    let here = (goal.at.returns-clause-any_moment g c).After-write_body in
    let r = c.args.entry.now in
    let wrote = body_left g here view s records before from at fold beside holds same in
    let ready = is_ready view s records r before next fold fold' c.args.journal.now is wrote in
    any_moment view s records r before next fold fold' layout command done c.args.journal.now is
    wrote
    (step _ (is_read wrote).0 (is_read wrote).1
    (c.in_ok-write_body.ensures.bytes holds.journal.honest))
    (c.append.ensures.any_moment records ready.0 ready.1)

pub returns-in_err-write_body-clause-cause : goal.returns-in_err-write_body-clause-cause
returns-in_err-write_body-clause-cause g c =
    let p = err_from_is_err_and c.from_residual.result c.from_residual.ensures.1 in
    let is = c.in_err-write_body.ensures.cause in
    rw p.1 (record { later = is.later; fits = is.fits; cause = is.cause; shown = is.shown })

pub returns-in_err-write_body-clause-cost : goal.returns-in_err-write_body-clause-cost
returns-in_err-write_body-clause-cost g c =
    let p = err_from_is_err_and c.from_residual.result c.from_residual.ensures.1 in
    rw p.1 (record {
      at_most = at_most_four_more _ _ _ c.in_err-write_body.ensures.cost.at_most;
      exact = tt;
    })

pub returns-in_err-write_body-clause-ok : goal.returns-in_err-write_body-clause-ok
returns-in_err-write_body-clause-ok g c =
    let p = err_from_is_err_and c.from_residual.result c.from_residual.ensures.1 in
    rw p.1 (λ view s records before next from layout command done is at fold fold' beside holds
    same step. tt)

pub returns-clause-keeps : goal.returns-clause-keeps
returns-clause-keeps g c =
    let state = g.D.Disk.state in
    keeps_all_on (state c.args.disk.now) (state c.write_body.new.disk) (state c.append.new.disk)
    c.write_body.ensures.keeps c.append.ensures.keeps

pub returns-clause-cost : goal.returns-clause-cost
returns-clause-cost g c = record {
  at_most = at_most_four_behind _ _ _ _ c.in_ok-write_body.ensures.cost.at_most
      c.append.ensures.cost.at_most;
  exact = on_ok_weaker c.append.result
      (λ exact. four_behind _ _ _ _ c.in_ok-write_body.ensures.cost.exact exact)
      c.append.ensures.cost.exact;
}

pub returns-clause-ok : goal.returns-clause-ok
returns-clause-ok g c = λ view s records before next from layout command done is at fold fold'
    beside holds same step.
    let here = (goal.at.returns-clause-ok g c).After-write_body in
    let mid = g.D.Disk.state c.write_body.new.disk in
    let last = g.D.Disk.state c.append.new.disk in
    let r = c.args.entry.now in
    let wrote = body_left g here view s records before from at fold beside holds same in
    let ready = is_ready view s records r before next fold fold' c.args.journal.now is wrote in
    of_three c.append.result c.append.ensures.added (c.append.ensures.ok records ready.0 ready.1)
    (c.append.ensures.area records ready.0 ready.1)
    (λ added found area. (
      standing_of view.journal.geometry next mid.bytes,
      step _ (is_read wrote).0 (is_read wrote).1
          (c.in_ok-write_body.ensures.bytes holds.journal.honest),
      λ view' is' going agrees.
          let same_geometry : view'.journal.geometry ≡ view.journal.geometry =
          ap (λ (j : JournalView). j.geometry) (is' ∙ added)
          ∙ sym (ap (λ (j : JournalView). j.geometry) is) in
          holds_after view s records r before next fold fold' view' mid last going same_geometry
          agrees (subst (λ j. HoldsRecords j (records ++ r ∷ []) last) (sym is') found)
          (subst (λ j. OnlyReadArea j mid last) (sym is) area),
    ))
