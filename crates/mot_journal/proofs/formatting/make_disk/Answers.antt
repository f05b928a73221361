use Rattle.std.proofs.Common.{◌≡◌, ℕ, ◌+◌, ◌*◌, ◌≤◌, arith}
use Rattle.std.proofs.lemmas.Result.{IfOk-from_err, on_ok_weaker}
use Rattle.disk_model.proofs.Laws.{keeps_all_on}
use Rattle.mot_journal.specs.declared.layout.Layout.TheVariants.{Two}
use Rattle.mot_journal.specs.Slot.{slot_count}
use Rattle.mot_journal.proofs.Calls.{calm_of, fails_run, caused, costs_on}
use Rattle.mot_journal.proofs.Making.{area_filling, area_publishing, filling, publishing, published}
use Rattle.mot_journal.proofs.formatting.make_disk.Goals as goal
use Rattle.mot_numbers.specs.Geometry.{length_of}

-- the calls of the first run, and of both
part_of : (old mid n : ℕ) → mid ≤ old + (2 * n + 1) → mid ≤ old + (2 * n + 4)
part_of old mid n most = omega arith

both : (n : ℕ) → 2 * n + 4 ≡ 2 * n + 1 + 3
both n = omega arith

pub returns-in_err-fill-clause-makes : goal.returns-in_err-fill-clause-makes
returns-in_err-fill-clause-makes g c = λ honest.
    let old = g.D.Disk.state c.args.disk.now in
    let filled = g.D.Disk.state c.fill.new.disk in
    let range = c.fill.ensures.range honest in
    record {
      any_moment = λ fold no_magic.
          filling c.args.geometry.now c.args.given.now old filled no_magic range;
      ok = λ fold. IfOk-from_err c.from_residual.result _ c.from_residual.ensures.0;
      area = area_filling c.args.geometry.now old filled range;
    }

pub returns-clause-makes : goal.returns-clause-makes
returns-clause-makes g c = λ honest.
    let state = g.D.Disk.state in
    let old = state c.args.disk.now in
    let filled = state c.fill.new.disk in
    let last = state c.publish.new.disk in
    let geometry = c.args.geometry.now in
    let given = c.args.given.now in
    let honest1 = c.fill.ensures.keeps.honest honest in
    let sound1 = g.met.D.Disk.sound c.fill.new.disk honest1 in
    let range = c.fill.ensures.range honest in
    let made = c.in_ok-fill.ensures.made honest in
    let long : length_of geometry ≤ filled.len =
    omega (arith, c.requires.long_enough, c.fill.ensures.keeps.frame.len) in
    record {
      any_moment = λ fold no_magic.
          publishing geometry given old filled no_magic range
          (record { some = c.requires.some; few = c.requires.few; fold = fold })
          c.requires.valid sound1 long made last (c.publish.ensures.any_moment honest1);
      ok = λ fold. on_ok_weaker c.publish.result (λ leaves.
          published geometry given
          (record { some = c.requires.some; few = c.requires.few; fold = fold })
          old filled range c.requires.valid sound1 long made last leaves)
          (c.publish.ensures.ok honest1);
      area = area_publishing geometry old filled range sound1 last
          (c.publish.ensures.any_moment honest1);
    }

pub returns-in_err-fill-clause-keeps : goal.returns-in_err-fill-clause-keeps
returns-in_err-fill-clause-keeps g c = c.fill.ensures.keeps

pub returns-in_err-fill-clause-cause : goal.returns-in_err-fill-clause-cause
returns-in_err-fill-clause-cause g c =
    fails_run c.from_residual.result c.from_residual.ensures.0 c.in_err-fill.ensures.cause

pub returns-in_err-fill-clause-cost : goal.returns-in_err-fill-clause-cost
returns-in_err-fill-clause-cost g c = record {
  at_most = part_of _ _ _ c.fill.ensures.cost.at_most;
  exact = IfOk-from_err c.from_residual.result _ c.from_residual.ensures.0;
}

pub returns-clause-keeps : goal.returns-clause-keeps
returns-clause-keeps g c =
    let state = g.D.Disk.state in
    keeps_all_on (state c.args.disk.now) (state c.fill.new.disk) (state c.publish.new.disk)
    c.fill.ensures.keeps c.publish.ensures.keeps

pub returns-clause-cause : goal.returns-clause-cause
returns-clause-cause g c = caused (calm_of c.in_ok-fill.ensures.cause) c.publish.ensures.cause

pub returns-clause-cost : goal.returns-clause-cost
returns-clause-cost g c =
    let state = g.D.Disk.state in
    let n : ℕ = slot_count Two c.args.geometry.now in
    costs_on (2 * n + 1) 3 (2 * n + 4) (state c.args.disk.now) (state c.fill.new.disk)
    (state c.publish.new.disk) c.publish.result (both n) c.in_ok-fill.ensures.cost.exact
    c.publish.ensures.cost
