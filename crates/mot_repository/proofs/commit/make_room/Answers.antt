use Rattle.std.proofs.Common.{◌≡◌, ◌∙◌, ◌+◌, ◌≤◌, ◌<◌, ℕ, false, true, inl, inr, refl, sym, ap}
use Rattle.std.proofs.Common.{subst, arith}
use Rattle.std.proofs.lemmas.Bool.{le-leb, false_from_ne_true, leb-true}
use Rattle.std.specs.Prelude.{if◌then◌else◌, nat_le}
use Rattle.std.proofs.lemmas.Result.{on_ok_weaker}
use Rattle.disk_model.proofs.Laws.{begins}
use Rattle.disk_model.specs.Disk.{Costs}
use Rattle.mot_journal.specs.Slot.{slot_count}
use Rattle.mot_journal.specs.Journal.{JournalView, HoldsRecords}
use Rattle.mot_repository.specs.Outcome.{calls_for_room}
use Rattle.mot_repository.proofs.Answering.{no_less, of_three}
use Rattle.mot_repository.specs.Repository.{IsOf}
use Rattle.mot_repository.proofs.Moved.{here, folds, moments, held}
use Rattle.mot_repository.proofs.commit.make_room.Goals as goal

not_both : false ≡ true → ⊥
not_both e = cc

none_more : (a n : ℕ) → n ≡ 0 → a ≡ a + n
none_more a n none = omega arith

-- the calls that make room: none while a slot is free, and otherwise those of a rewrite
room_free : (j : JournalView) → (slot_count j.layout j.geometry ≤ j.count → ⊥)
    → calls_for_room j ≡ 0
room_free j free =
    let slots = slot_count j.layout j.geometry in
    ap (λ b. if b then slots + 3 else 0)
    (false_from_ne_true (nat_le slots j.count) (λ e. free (leb-true slots j.count e)))

room_full : (j : JournalView) → slot_count j.layout j.geometry ≤ j.count
    → slot_count j.layout j.geometry + 3 ≡ calls_for_room j
room_full j full =
    let slots = slot_count j.layout j.geometry in
    sym (ap (λ b. if b then slots + 3 else 0) (le-leb slots j.count full))

pub returns-then-not-is_full-clause-cost : goal.returns-then-not-is_full-clause-cost
returns-then-not-is_full-clause-cost g c = record {
  at_most = no_less _ _;
  exact = none_more _ _
      (room_free c.args.journal.now (λ full. not_both (c.if-not-is_full.ensures.1 full)));
}

pub returns-then-not-is_full-clause-any_moment : goal.returns-then-not-is_full-clause-any_moment
returns-then-not-is_full-clause-any_moment g c = λ view s k is holds fold fold'.
    let state = g.D.Disk.state in
    let old = c.args.disk.now in
    begins (state old) (IsOf s) (g.met.D.Disk.sound old holds.journal.honest) holds.each

pub returns-then-not-is_full-clause-room : goal.returns-then-not-is_full-clause-room
returns-then-not-is_full-clause-room g c = λ view s k is holds fold fold'.
    let state = g.D.Disk.state in
    let old = c.args.disk.now in
    record {
      list = holds.records;
      one = inl refl;
      holds = λ view' is' going agrees. (
        record {
          going = going;
          agrees = agrees;
          records = holds.records;
          journal = subst (λ j. HoldsRecords j holds.records (state old)) (is ∙ sym is')
              holds.journal;
          each = holds.each;
        },
        refl,
      );
    }

pub returns-clause-cost : goal.returns-clause-cost
returns-clause-cost g c =
    let state = g.D.Disk.state in
    subst (λ n. Costs n (state c.args.disk.now) (state c.rewrite.new.disk) c.rewrite.result)
    (room_full c.args.journal.now (c.if-not-is_full.ensures.0 refl)) c.rewrite.ensures.cost

pub returns-clause-going : goal.returns-clause-going
returns-clause-going g c =
    on_ok_weaker c.rewrite.result
    (λ moved. ap (λ (i : JournalView). i.spent) moved ∙ c.requires.going)
    c.rewrite.ensures.rewrites.moves

pub returns-clause-not_full : goal.returns-clause-not_full
returns-clause-not_full g c =
    on_ok_weaker c.rewrite.result
    (λ moved. subst (λ (i : JournalView). i.count < slot_count i.layout i.geometry) (sym moved)
    (c.requires.given (c.if-not-is_full.ensures.0 refl)).few)
    c.rewrite.ensures.rewrites.moves

pub returns-clause-any_moment : goal.returns-clause-any_moment
returns-clause-any_moment g c = λ view s k is holds fold fold'.
    let state = g.D.Disk.state in
    let old = state c.args.disk.now in
    let new = state c.rewrite.new.disk in
    let j = c.args.journal.now in
    let given = c.args.given.now in
    moments view s j.layout given k j old new is holds fold
    (fold' (c.if-not-is_full.ensures.0 refl))
    (c.rewrite.ensures.rewrites.any_moment holds.records
    (here view s j.layout given k j old new is holds fold
    (fold' (c.if-not-is_full.ensures.0 refl)))
    (folds view s j.layout given k j old new is holds fold
    (fold' (c.if-not-is_full.ensures.0 refl))))

pub returns-clause-room : goal.returns-clause-room
returns-clause-room g c = λ view s k is holds fold fold'.
    let state = g.D.Disk.state in
    let old = state c.args.disk.now in
    let new = state c.rewrite.new.disk in
    let j = c.args.journal.now in
    let given = c.args.given.now in
    let sound = g.met.D.Disk.sound c.args.disk.now holds.journal.honest in
    let was = here view s j.layout given k j old new is holds fold
    (fold' (c.if-not-is_full.ensures.0 refl)) in
    let fits = folds view s j.layout given k j old new is holds fold
    (fold' (c.if-not-is_full.ensures.0 refl)) in
    of_three c.rewrite.result c.rewrite.ensures.rewrites.moves
    (c.rewrite.ensures.rewrites.ok holds.records was fits)
    (c.rewrite.ensures.rewrites.area holds.records was fits)
    (λ moved ok area. record {
      list = given;
      one = inr (refl, c.if-not-is_full.ensures.0 refl);
      holds = held view s j.layout given k j old new is holds fold
          (fold' (c.if-not-is_full.ensures.0 refl)) sound c.rewrite.new.self
          (ap (λ (i : JournalView). i.geometry) moved) ok area;
    })
