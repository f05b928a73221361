use Rattle.std.proofs.Common.{◌≡◌, ℕ, Bool, Result, Ok, Err, true, false, refl, sym, subst}
use Rattle.std.specs.Prelude.{IfOk, OnOk, OnErr, if◌then◌else◌, is_err, is_ok}
use Rattle.std.specs.Result.{result_and}
use Rattle.disk_model.proofs.Laws.{at_end}
use Rattle.disk_model.specs.Disk.{State, Costs}
use Rattle.mot_journal.specs.Image.{Standing}
use Rattle.mot_objects.specs.declared.command.Done.{Done}
use Rattle.mot_repository.specs.Answers.{IsChanged, IsHalted}
use Rattle.mot_repository.specs.Inner.Fold.{view_with}
use Rattle.mot_repository.specs.Inner.Prepared.{IsPreparedFor}
use Rattle.mot_repository.specs.Outcome.{after_command}
use Rattle.mot_repository.specs.Repository.{RepositoryView, Holds, IsBeforeOrAfter}
use Rattle.mot_repository.specs.declared.inventory.Inventory.{Inventory}
use Rattle.mot_repository.proofs.Outcomes.{prepared_is_accepted}
use Rattle.mot_repository.proofs.repository.Repository.commit.Goals as goal

-- what is so once it is written is so of what is kept then
where_written : {T E A B X : Type 0} (w : Result T E) (r : Result A E) (d : A) (old next k : B)
    (b : Bool) (P : A → B → Bool → Type 0)
    → r ≡ result_and w (Ok d) → k ≡ (if is_ok w then next else old) → b ≡ is_err w
    → OnOk w X → (X → P d next false) → IfOk r (λ x. P x k b)
where_written (Ok v) r d old next k b P answer kept halted on follows =
    rw answer (rw kept (rw halted (follows on)))
where_written (Err e) r d old next k b P answer kept halted on follows = rw answer tt

pub returns-clause-any_moment : goal.returns-clause-any_moment
returns-clause-any_moment g c = rw (← c.self.view_is) (λ command is s holds.
    let r = c.self.inside in
    let p = c.args.prepared in
    let view : RepositoryView =
    view_with r.journal r.inventory.carousel r.inventory.extents.items r.halted in
    c.commit_change-written.ensures.any_moment view s command p.done p.inventory.carousel
    is.from refl is.at_is
    is.body_is
    (subst (λ l. IsPreparedFor view command p.done p.inventory.carousel is.from p.record l)
    (sym c.deref.ensures.value) is.prepared) holds)

pub returns-clause-now : goal.returns-clause-now
returns-clause-now g c =
    let state = g.D.Disk.state in
    let new = c.commit_change-written.new.disk in
    let run = rw (← c.self.view_is) at (returns-clause-any_moment g c) in
    rw (← c.self.view_is) (λ command is s holds.
    let honest = c.commit_change-written.ensures.keeps.honest holds.journal.honest in
    at_end (state c.self.inside.disk) (state new)
    (IsBeforeOrAfter c.self.inside.journal.layout s command) (g.met.D.Disk.sound new honest)
    (run command is s holds))

pub returns-clause-changed : goal.returns-clause-changed
returns-clause-changed g c =
    let going = rw (← c.self.view_is) at c.requires.going in
    rw (← c.self.view_is) (λ command is.
    let r = c.self.inside in
    let p = c.args.prepared in
    let w = c.commit_change-written in
    let view : RepositoryView =
    view_with r.journal r.inventory.carousel r.inventory.extents.items r.halted in
    let new : RepositoryView =
    view_with w.new.journal p.inventory.carousel p.inventory.extents.items false in
    where_written w.result c.take_up.result p.done r.inventory p.inventory c.take_up.new.kept
    c.is_err-self-inside.result
    (λ done (k : Inventory) (b : Bool). IsChanged view command done
    (view_with w.new.journal k.carousel k.extents.items b))
    c.take_up.ensures.answer c.take_up.ensures.kept c.is_err-self-inside.ensures.value
    w.ensures.going
    (λ on. record {
      geometry = w.ensures.geometry;
      layout = w.ensures.layout;
      halted = sym going;
      becomes = prepared_is_accepted view new command p.done p.inventory.carousel
          is.from p.record
          p.given.items is.prepared
          w.ensures.geometry refl is.extents_are;
    }))

pub returns-clause-ok : goal.returns-clause-ok
returns-clause-ok g c = rw (← c.self.view_is) (λ command is s holds.
    let r = c.self.inside in
    let p = c.args.prepared in
    let w = c.commit_change-written in
    let view : RepositoryView =
    view_with r.journal r.inventory.carousel r.inventory.extents.items r.halted in
    let new : RepositoryView =
    view_with w.new.journal p.inventory.carousel p.inventory.extents.items false in
    where_written w.result c.take_up.result p.done r.inventory p.inventory c.take_up.new.kept
    c.is_err-self-inside.result
    (λ (done : Done) (k : Inventory) (b : Bool). (next : Standing)
    × (after_command view.journal.layout s command ≡ Ok (next, done))
    × Holds (view_with w.new.journal k.carousel k.extents.items b) next
    (g.D.Disk.state w.new.disk))
    c.take_up.ensures.answer c.take_up.ensures.kept c.is_err-self-inside.ensures.value
    (w.ensures.ok view s command p.done p.inventory.carousel is.from
    refl is.at_is
    is.body_is
    (subst (λ l. IsPreparedFor view command p.done p.inventory.carousel is.from p.record l)
    (sym c.deref.ensures.value) is.prepared) holds)
    (λ found. (found.0, found.1, found.2 new refl refl refl is.extents_are)))

-- and the cost is the same
same_cost : {T E A : Type 0} {n : ℕ} {old new : State} (w : Result T E) (d : A)
    → Costs n old new w → Costs n old new (result_and w (Ok d))
same_cost (Ok v) d is = record { at_most = is.at_most; exact = is.exact }
same_cost (Err e) d is = record { at_most = is.at_most; exact = tt }

pub returns-clause-cost : goal.returns-clause-cost
returns-clause-cost g c = rw (← c.self.view_is) (λ command is. rw c.take_up.ensures.answer
    (same_cost c.commit_change-written.result c.args.prepared.done
    (rw (← is.body_is) c.commit_change-written.ensures.cost)))

-- a fault leaves what was kept, and halts
where_refused : {T E A B : Type 0} (w : Result T E) (d : A) (old next : B) (P : B → Bool → Type 0)
    → P old true → OnErr (result_and w (Ok d)) (P (if is_ok w then next else old) (is_err w))
where_refused (Ok v) d old next P is = tt
where_refused (Err e) d old next P is = is

pub returns-clause-halted : goal.returns-clause-halted
returns-clause-halted g c =
    let r = c.self.inside in
    let w = c.commit_change-written in
    rw (
      ← c.self.view_is,
      c.take_up.ensures.answer,
      c.take_up.ensures.kept,
      c.is_err-self-inside.ensures.value,
    )
    (where_refused w.result c.args.prepared.done r.inventory c.args.prepared.inventory
    (λ (k : Inventory) (b : Bool). IsHalted
    (view_with r.journal r.inventory.carousel r.inventory.extents.items r.halted)
    (view_with w.new.journal k.carousel k.extents.items b))
    (record {
      geometry = w.ensures.geometry;
      layout = w.ensures.layout;
      carousel = refl;
      extents = refl;
      halted = refl;
    }))
