use Rattle.std.proofs.Common.{◌≡◌, ◌∙◌, ◌+◌, ◌*◌, ◌≤◌, ℕ, refl, sym, subst, arith}
use Rattle.std.proofs.lemmas.Result.{IfOk-from_err, on_ok_weaker}
use Rattle.disk_model.proofs.Laws.{keeps_all_on}
use Rattle.mot_journal.proofs.Calls.{as_run, calm, calm_of, fails_of, caused_of}
use Rattle.mot_journal.proofs.Making.{Found, head_filled, first_filled}
use Rattle.mot_journal.proofs.Making.{all_filled, is_made}
use Rattle.mot_journal.proofs.formatting.fill.Given as given
use Rattle.mot_journal.proofs.formatting.fill.Goals as goal
use Rattle.mot_journal.proofs.formatting.fill.Goals.{After-fill_half}
use Rattle.mot_numbers.specs.Geometry.{length_of}

-- the calls of the write of the head, and of the halves of n + 2 slots
one : (old w n : ℕ) → w ≡ old + 1 → w ≤ old + (2 * (n + 2) + 1)
one old w n e = omega arith

two : (old w h n : ℕ) → w ≡ old + 1 → h ≤ w + (n + 2) → h ≤ old + (2 * (n + 2) + 1)
two old w h n e f = omega arith

three : (old w h l n : ℕ) → w ≡ old + 1 → h ≡ w + (n + 2) → l ≤ h + (n + 2)
    → l ≤ old + (2 * (n + 2) + 1)
three old w h l n e f f2 = omega arith

all : (old w h l n : ℕ) → w ≡ old + 1 → h ≡ w + (n + 2) → l ≡ h + (n + 2)
    → l ≡ old + (2 * (n + 2) + 1)
all old w h l n e f f2 = omega arith

-- what the calls up to the first half found
found : (g : given.Over) (c : After-fill_half g) → (g.D.Disk.state c.args.disk.now).IsHonest
    → Found c.args.geometry.now (g.D.Disk.state c.args.disk.now)
    (g.D.Disk.state c.write.new.self) (g.D.Disk.state c.fill_half.new.disk)
found g c honest =
    let honest1 = c.write.ensures.keeps.honest honest in
    let honest2 = c.fill_half.ensures.keeps.honest honest1 in
    record {
      sound = g.met.D.Disk.sound c.args.disk.now honest;
      writes = rw (c.deref.ensures.0, c.head_behind_magic.ensures.len) at
          (c.write.ensures.range honest);
      wrote_sound = g.met.D.Disk.sound c.write.new.self honest1;
      first = c.fill_half.ensures.range honest1;
      mid_sound = g.met.D.Disk.sound c.fill_half.new.disk honest2;
      still_honest = honest2;
    }

pub returns-in_err-fill_half-clause-range : goal.returns-in_err-fill_half-clause-range
returns-in_err-fill_half-clause-range g c = λ honest.
    let from = goal.at.returns-in_err-fill_half-clause-range g c in
    first_filled (found g from.After-fill_half honest)

pub returns-clause-range : goal.returns-clause-range
returns-clause-range g c = λ honest.
    let before = found g (goal.at.returns-clause-range g c).After-fill_half honest in
    all_filled before (c.fill_half-2.ensures.range before.still_honest)

pub returns-clause-made : goal.returns-clause-made
returns-clause-made g c = λ honest.
    let before = found g (goal.at.returns-clause-made g c).After-fill_half honest in
    let head = rw (c.deref.ensures.0, c.head_behind_magic.ensures.len) at
    (c.in_ok-write.ensures.bytes honest) in
    on_ok_weaker c.fill_half-2.result (λ other.
    is_made before (c.fill_half-2.ensures.range before.still_honest) c.args.given.now
    (head ∙ c.head_behind_magic.ensures.value)
    (c.in_ok-fill_half.ensures.slots (c.write.ensures.keeps.honest honest)) other)
    (c.fill_half-2.ensures.slots before.still_honest)

pub returns-in_err-write-clause-keeps : goal.returns-in_err-write-clause-keeps
returns-in_err-write-clause-keeps g c =
    c.write.ensures.keeps

pub returns-in_err-write-clause-cause : goal.returns-in_err-write-clause-cause
returns-in_err-write-clause-cause g c =
    fails_of {mid = g.D.Disk.state c.args.disk.now} c.from_residual.result
    c.from_residual.ensures.0 refl (as_run c.in_err-write.ensures.cause)

pub returns-in_err-write-clause-cost : goal.returns-in_err-write-clause-cost
returns-in_err-write-clause-cost g c =
    record {
      at_most = one _ _ _ c.write.ensures.called;
      exact = IfOk-from_err c.from_residual.result _ c.from_residual.ensures.0;
    }

pub returns-in_err-write-clause-made : goal.returns-in_err-write-clause-made
returns-in_err-write-clause-made g c = λ honest.
    IfOk-from_err c.from_residual.result _ c.from_residual.ensures.0

pub returns-in_err-fill_half-clause-keeps : goal.returns-in_err-fill_half-clause-keeps
returns-in_err-fill_half-clause-keeps g c =
    let state = g.D.Disk.state in
    keeps_all_on (state c.args.disk.now) (state c.write.new.self) (state c.fill_half.new.disk)
    c.write.ensures.keeps c.fill_half.ensures.keeps

pub returns-in_err-fill_half-clause-cause : goal.returns-in_err-fill_half-clause-cause
returns-in_err-fill_half-clause-cause g c =
    fails_of c.from_residual-in_err-fill_half.result c.from_residual-in_err-fill_half.ensures.0
    (calm c.in_ok-write.ensures.cause)
    c.in_err-fill_half.ensures.cause

pub returns-in_err-fill_half-clause-cost : goal.returns-in_err-fill_half-clause-cost
returns-in_err-fill_half-clause-cost g c =
    record {
      at_most = two _ _ _ _ c.write.ensures.called c.fill_half.ensures.cost.at_most;
      exact = IfOk-from_err c.from_residual-in_err-fill_half.result _
          c.from_residual-in_err-fill_half.ensures.0;
    }

pub returns-in_err-fill_half-clause-made : goal.returns-in_err-fill_half-clause-made
returns-in_err-fill_half-clause-made g c = λ honest.
    IfOk-from_err c.from_residual-in_err-fill_half.result _
    c.from_residual-in_err-fill_half.ensures.0

pub returns-clause-keeps : goal.returns-clause-keeps
returns-clause-keeps g c =
    let state = g.D.Disk.state in
    keeps_all_on (state c.args.disk.now) (state c.fill_half.new.disk)
    (state c.fill_half-2.new.disk)
    (keeps_all_on (state c.args.disk.now) (state c.write.new.self) (state c.fill_half.new.disk)
    c.write.ensures.keeps c.fill_half.ensures.keeps)
    c.fill_half-2.ensures.keeps

pub returns-clause-cause : goal.returns-clause-cause
returns-clause-cause g c =
    caused_of (calm_of c.in_ok-fill_half.ensures.cause ∙ calm c.in_ok-write.ensures.cause)
    c.fill_half-2.ensures.cause

pub returns-clause-cost : goal.returns-clause-cost
returns-clause-cost g c =
    record {
      at_most = three _ _ _ _ _ c.write.ensures.called c.in_ok-fill_half.ensures.cost.exact
          c.fill_half-2.ensures.cost.at_most;
      exact = on_ok_weaker c.fill_half-2.result (λ exact.
          all _ _ _ _ _ c.write.ensures.called c.in_ok-fill_half.ensures.cost.exact exact)
          c.fill_half-2.ensures.cost.exact;
    }

pub returns-in_err-write-clause-range : goal.returns-in_err-write-clause-range
returns-in_err-write-clause-range g c = λ honest.
    let state = g.D.Disk.state in
    head_filled c.args.geometry.now (state c.args.disk.now) (state c.write.new.self)
    (g.met.D.Disk.sound c.args.disk.now honest)
    (rw (c.deref.ensures.0, c.head_behind_magic.ensures.len) at (c.write.ensures.range honest))

pub fill_half-requires-clause-long_enough : goal.fill_half-requires-clause-long_enough
fill_half-requires-clause-long_enough g c =
    subst (λ n. length_of c.args.geometry.now ≤ n) (sym c.write.ensures.keeps.frame.len)
    c.requires.long_enough

pub fill_half-requires-clause-sound : goal.fill_half-requires-clause-sound
fill_half-requires-clause-sound g c = c.requires.sound

pub fill_half-requires-2-clause-long_enough : goal.fill_half-requires-2-clause-long_enough
fill_half-requires-2-clause-long_enough g c =
    subst (λ n. length_of c.args.geometry.now ≤ n)
    (sym (c.fill_half.ensures.keeps.frame.len ∙ c.write.ensures.keeps.frame.len))
    c.requires.long_enough

pub fill_half-requires-2-clause-sound : goal.fill_half-requires-2-clause-sound
fill_half-requires-2-clause-sound g c = λ k other lt. absurd (omega (arith, lt))
