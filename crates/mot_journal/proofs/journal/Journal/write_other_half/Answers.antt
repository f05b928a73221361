use Rattle.std.proofs.Common.{◌≡◌, ℕ, ◌+◌, ◌≤◌, List, length, refl, sym, ap, subst, arith, rules}
use Rattle.disk_model.proofs.Laws.{keeps_all_on}
use Rattle.disk_model.specs.Disk.{Throughout}
use Rattle.mot_journal.proofs.Calls.{calm_of, fails, fails_run, succeeds}
use Rattle.mot_journal.specs.declared.record.Record.{Record}
use Rattle.mot_journal.specs.Slot.{slot_count, AreSound}
use Rattle.mot_journal.specs.Journal.{JournalView, HoldsRecords, FoldOf, OldOrGiven, HasReadArea}
use Rattle.mot_journal.proofs.Turning.{Found, filling, selecting, given_alone}
use Rattle.mot_journal.proofs.journal.Journal.write_other_half.Given as given
use Rattle.mot_journal.proofs.journal.Journal.write_other_half.Goals as goal
use Rattle.mot_journal.proofs.journal.Journal.write_other_half.Goals.{After-fill_half}
use Rattle.mot_numbers.specs.Geometry.{length_of}

-- the calls of the half, and the three of the selector
part_of : (old mid n m : ℕ) → n ≡ m → mid ≤ old + n → mid ≤ old + (m + 3)
part_of old mid n m same most = omega arith

at_most : (old mid new n m : ℕ) → n ≡ m → mid ≡ old + n → new ≤ mid + 3 → new ≤ old + (m + 3)
at_most old mid new n m same first then = omega arith

exactly : (old mid new n m : ℕ) → n ≡ m → mid ≡ old + n → new ≡ mid + 3 → new ≡ old + (m + 3)
exactly old mid new n m same first then = omega arith

-- the journal as the call met it
abbrev journal : (g : given.Over) → After-fill_half g → JournalView
journal g c =
    let inside = c.self.inside in
    record {
      geometry = inside.geometry;
      half = inside.half;
      layout = inside.layout;
      count = inside.count;
      spent = inside.spent;
    }

-- what was found of it and of the other half
found : (g : given.Over) (c : After-fill_half g) (records : List Record)
    → HoldsRecords c.args.self.now records (g.D.Disk.state c.args.disk.now)
    → FoldOf c.args.self.now c.args.given.now
    → Found (journal g c) c.args.layout records c.args.given.now (g.D.Disk.state c.args.disk.now)
    (g.D.Disk.state c.fill_half.new.disk)
found g c records holds folds =
    let start = g.D.Disk.state c.args.disk.now in
    let same = sym c.self.view_is in
    let filled_honest = c.fill_half.ensures.keeps.honest holds.honest in
    record {
      two_halves = c.self.inside.two_halves;
      some = c.requires.some;
      few = subst (λ (x : JournalView).
          length c.args.given.now ≤ slot_count c.args.layout x.geometry) same c.requires.few;
      sound = g.met.D.Disk.sound c.args.disk.now holds.honest;
      holds = subst (λ (x : JournalView). HoldsRecords x records start) same holds;
      fold = subst (λ (x : JournalView). FoldOf x c.args.given.now) same folds;
      changes = c.fill_half.ensures.range holds.honest;
      filled_sound = g.met.D.Disk.sound c.fill_half.new.disk filled_honest;
      still_honest = filled_honest;
    }

pub returns-in_default-clause-rewrites : goal.returns-in_default-clause-rewrites
returns-in_default-clause-rewrites g c = record {
  moves = tt;
  any_moment = λ records holds folds.
      let from = (goal.at.returns-in_default-clause-rewrites g c).After-fill_half in
      let state = g.D.Disk.state in
      subst (λ (x : JournalView). Throughout (state c.args.disk.now) (state c.fill_half.new.disk)
      (OldOrGiven x c.args.layout records c.args.given.now (state c.args.disk.now)))
      c.self.view_is (filling (found g from records holds folds));
  ok = λ records holds folds.
      tt;
  area = λ records holds folds.
      tt;
}

pub returns-in_default-publish-clause-rewrites : goal.returns-in_default-publish-clause-rewrites
returns-in_default-publish-clause-rewrites g c = record {
  moves = tt;
  any_moment = λ records holds folds.
      let from = (goal.at.returns-in_default-publish-clause-rewrites g c).After-fill_half in
      let before = found g from records holds folds in
      let state = g.D.Disk.state in
      subst (λ (x : JournalView). Throughout (state c.args.disk.now) (state c.publish.new.disk)
      (OldOrGiven x c.args.layout records c.args.given.now (state c.args.disk.now)))
      c.self.view_is
      (selecting before (c.in-Ok.ensures.slots holds.honest)
      (c.publish.ensures.any_moment before.still_honest));
  ok = λ records holds folds.
      tt;
  area = λ records holds folds.
      tt;
}

pub returns-clause-rewrites : goal.returns-clause-rewrites
returns-clause-rewrites g c =
    let from = (goal.at.returns-clause-rewrites g c).After-fill_half in
    let state = g.D.Disk.state in
    record {
      moves = search rules;
      any_moment = λ records holds folds.
          let before = found g from records holds folds in
          subst (λ (x : JournalView). Throughout (state c.args.disk.now) (state c.publish.new.disk)
          (OldOrGiven x c.args.layout records c.args.given.now (state c.args.disk.now)))
          c.self.view_is
          (selecting before (c.in-Ok.ensures.slots holds.honest)
          (c.publish.ensures.any_moment before.still_honest));
      ok = λ records holds folds.
          let before = found g from records holds folds in
          let alone = given_alone before (c.in-Ok.ensures.slots holds.honest)
          (state c.publish.new.disk) (c.in-Ok-publish.ensures.ok before.still_honest) in
          record {
            going = refl;
            count = refl;
            honest = c.publish.ensures.keeps.honest before.still_honest;
            each = λ image left.
                let has = (alone image left).0 in
                record { read = has.read; clean = has.clean };
          };
      area = λ records holds folds image left.
          let before = found g from records holds folds in
          let alone = given_alone before (c.in-Ok.ensures.slots holds.honest)
          (state c.publish.new.disk) (c.in-Ok-publish.ensures.ok before.still_honest) in
          subst (λ (x : JournalView). HasReadArea x (state c.args.disk.now) image) c.self.view_is
          (alone image left).1;
    }

pub fill_half-requires-clause-long_enough : goal.fill_half-requires-clause-long_enough
fill_half-requires-clause-long_enough g c =
    subst (λ (x : JournalView). length_of x.geometry ≤ (g.D.Disk.state c.args.disk.now).len)
    (sym c.self.view_is) c.requires.long_enough

pub fill_half-requires-clause-sound : goal.fill_half-requires-clause-sound
fill_half-requires-clause-sound g c =
    subst (λ (x : JournalView). AreSound x.geometry c.args.layout c.args.given.now)
    (sym c.self.view_is) c.requires.sound

pub returns-in_default-clause-keeps : goal.returns-in_default-clause-keeps
returns-in_default-clause-keeps g c = c.fill_half.ensures.keeps

pub returns-in_default-clause-cause : goal.returns-in_default-clause-cause
returns-in_default-clause-cause g c =
    fails_run _ refl c.in_default.ensures.cause

pub returns-in_default-clause-cost : goal.returns-in_default-clause-cost
returns-in_default-clause-cost g c = record {
  at_most = part_of _ _ _ _
      (ap (λ (x : JournalView). slot_count c.args.layout x.geometry) c.self.view_is)
      c.fill_half.ensures.cost.at_most;
  exact = tt;
}

pub returns-in_default-clause-spent : goal.returns-in_default-clause-spent
returns-in_default-clause-spent g c =
    rw (← c.self.view_is) refl

pub returns-in_default-publish-clause-keeps : goal.returns-in_default-publish-clause-keeps
returns-in_default-publish-clause-keeps g c =
    let state = g.D.Disk.state in
    keeps_all_on (state c.args.disk.now) (state c.fill_half.new.disk) (state c.publish.new.disk)
    c.fill_half.ensures.keeps c.publish.ensures.keeps

pub returns-in_default-publish-clause-cause : goal.returns-in_default-publish-clause-cause
returns-in_default-publish-clause-cause g c =
    fails _ refl
    (calm_of c.in-Ok.ensures.cause) c.in_default-publish.ensures.cause

pub returns-in_default-publish-clause-cost : goal.returns-in_default-publish-clause-cost
returns-in_default-publish-clause-cost g c = record {
  at_most = at_most _ _ _ _ _
      (ap (λ (x : JournalView). slot_count c.args.layout x.geometry) c.self.view_is)
      c.in-Ok.ensures.cost.exact c.publish.ensures.cost.at_most;
  exact = tt;
}

pub returns-in_default-publish-clause-spent : goal.returns-in_default-publish-clause-spent
returns-in_default-publish-clause-spent g c =
    rw (← c.self.view_is) refl

pub returns-clause-keeps : goal.returns-clause-keeps
returns-clause-keeps g c =
    let state = g.D.Disk.state in
    keeps_all_on (state c.args.disk.now) (state c.fill_half.new.disk) (state c.publish.new.disk)
    c.fill_half.ensures.keeps c.publish.ensures.keeps

pub returns-clause-cause : goal.returns-clause-cause
returns-clause-cause g c =
    succeeds (calm_of c.in-Ok.ensures.cause) c.in-Ok-publish.ensures.cause

pub returns-clause-cost : goal.returns-clause-cost
returns-clause-cost g c =
    let same = ap (λ (x : JournalView). slot_count c.args.layout x.geometry) c.self.view_is in
    record {
      at_most = at_most _ _ _ _ _ same c.in-Ok.ensures.cost.exact
          c.publish.ensures.cost.at_most;
      exact = exactly _ _ _ _ _ same c.in-Ok.ensures.cost.exact
          c.in-Ok-publish.ensures.cost.exact;
    }

pub returns-in_default-clause-fault : goal.returns-in_default-clause-fault
returns-in_default-clause-fault g c = refl

pub returns-in_default-publish-clause-fault : goal.returns-in_default-publish-clause-fault
returns-in_default-publish-clause-fault g c = refl

pub returns-clause-fault : goal.returns-clause-fault
returns-clause-fault g c = tt

pub overflow_sub-other : goal.overflow_sub-other
overflow_sub-other g c = omega arith

pub slice_bounds-publish-end : goal.slice_bounds-publish-end
slice_bounds-publish-end g c = omega arith
