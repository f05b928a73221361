use Rattle.std.proofs.Common.{◌≡◌, ℕ, ◌+◌, ◌-◌, Bool, Some, None, refl, ap, ◌∙◌, arith, inl, inr}
use Rattle.std.proofs.Common.{subst, sym}
use Rattle.std.specs.Prelude.{◌==◌, if◌then◌else◌}
use Rattle.disk_model.specs.Disk.{IsUnchanged, KeepsLength}
use Rattle.disk_model.proofs.Laws.{keeps_none, keeps_on, unchanged_none}
use Rattle.mot_feed.proofs.Fed.{SoFar, asked_on, fed_all, fed_none, rest_else, rest_then}
use Rattle.mot_feed.proofs.Fed.{send_fault, sent_on, update_fault, updated}
use Rattle.mot_feed.proofs.Hearing.{left_for}
use Rattle.mot_feed.specs.Feeding.{left_behind, moment_at}
use Rattle.mot_feed.specs.Feeding.Stage.{Called}
use Rattle.mot_feed.proofs.Sent.{feed_fault_on, not_of_writing, sent_calm}
use Rattle.mot_feed.proofs.feeding.feed.Given as given
use Rattle.mot_feed.proofs.feeding.feed.Goals as goal
use Rattle.mot_feed.proofs.feeding.feed.Goals.{After-send_one, else-between_turns}
use Rattle.mot_feed.proofs.feeding.feed.Goals.{then-between_turns}
use Rattle.mot_journal.specs.Image.{Standing}
use Rattle.mot_numbers.proofs.Laws.{same_error}
use Rattle.mot_player.specs.Place.{Place, Sent}
use Rattle.mot_repository.specs.Repository.{Agrees, Holds, RepositoryView}
use Rattle.mot_playout.specs.Runs.{place_in}
use Rattle.mot_update.specs.HasRun.{IsUpdating, may_look}
use Rattle.mot_update.proofs.Laws.{calm_on, fault_on}

pub loop-sent-init : goal.loop-sent-init
loop-sent-init g c =
    let state = g.D.Disk.state in
    let old = c.args.server.now in
    let mid = c.follow.new.server in
    let is = c.follow.ensures in
    record {
      keeps = subst (λ d. KeepsLength (state old.disk) (state d)) (sym is.disk)
          (keeps_none (state old.disk));
      calm = sent_calm old mid (state old.disk) (state mid.disk)
          (ap (λ d. (state d).failures) is.disk) is.view;
      fed = λ s holds honest.
          let was = subst (λ d. (state d).IsHonest) is.disk honest in
          fed_none g.U.Update.tells c.args.how c.args.update.now old mid (state old.disk)
          (state mid.disk) s (g.O.Outlet.writes c.args.outlet.now) is.view (is.place s)
          (g.met.D.Disk.sound old.disk was) honest
          (subst (λ d. IsUnchanged (state old.disk) (state d)) (sym is.disk)
          (unchanged_none (state old.disk))) holds;
    }

pub returns-then-left-eq0-clause-fed : goal.returns-then-left-eq0-clause-fed
returns-then-left-eq0-clause-fed g c = λ s holds honest.
    fed_all (c.loop-sent.invariant.fed s holds honest) refl (inl c.if-left-eq0.true)

pub returns-clause-fed : goal.returns-clause-fed
returns-clause-fed g c = λ s holds honest.
    fed_all (c.loop-sent.invariant.fed s holds honest) refl
    (inr (let last = c.loop-sent-test.false in let bound = c.loop-sent.auto.sent-end in
    omega (arith, last, bound)))

pub returns-in_err-update-clause-fed : goal.returns-in_err-update-clause-fed
returns-in_err-update-clause-fed g c = λ s holds honest.
    let state = g.D.Disk.state in
    let mid = c.loop-sent.server in
    let one = c.in_err-update.ensures in
    let so_far = c.loop-sent.invariant.fed s holds (one.keeps.was_honest honest) in
    let refusal = c.in_err-update.field-0.0 in
    rw (same_error c.from_residual.result refusal c.from_residual.ensures.1)
    (update_fault so_far refl
    (subst (λ m. IsUpdating (g.U.Update.tells c.loop-sent.update c.update.new.self m) mid
    c.update.new.server (state mid.disk) (state c.update.new.server.disk)
    so_far.fed.leaves.last (Some refusal)) c.moment_at-moment.ensures
    (one.run so_far.fed.leaves.last (so_far.fed.leaves.going refl) honest))
    (not_of_writing mid (state mid.disk) (state c.update.new.server.disk) refusal one.faults))

pub returns-in_err-update-clause-fault : goal.returns-in_err-update-clause-fault
returns-in_err-update-clause-fault g c =
    let state = g.D.Disk.state in
    let old = c.args.server.now in
    let mid = c.loop-sent.server in
    let new = c.update.new.server in
    let refusal = c.in_err-update.field-0.0 in
    rw (same_error c.from_residual.result refusal c.from_residual.ensures.1)
    (inl (fault_on old mid (state old.disk) (state mid.disk) (state new.disk) refusal
    c.loop-sent.invariant.calm c.in_err-update.ensures.faults))

pub returns-in_err-between_turns-clause-fault : goal.returns-in_err-between_turns-clause-fault
returns-in_err-between_turns-clause-fault g c =
    let state = g.D.Disk.state in
    let old = c.args.server.now in
    let mid = c.loop-sent.server in
    let up = c.update.new.server in
    let heard = c.ask.new.server in
    let new = c.send_one.new.server in
    let refusal = c.in_err-between_turns.field-0.0 in
    let calm = calm_on old up heard (state old.disk) (state up.disk) (state heard.disk)
    (calm_on old mid up (state old.disk) (state mid.disk) (state up.disk)
    c.loop-sent.invariant.calm c.in_ok-update.ensures.faults)
    (sent_calm up heard (state up.disk) (state heard.disk)
    (ap (λ d. (state d).failures) c.ask.ensures.disk) c.ask.ensures.view) in
    rw (same_error c.from_residual-in_err-between_turns.result refusal
    c.from_residual-in_err-between_turns.ensures.1)
    (feed_fault_on old heard (state old.disk) (state heard.disk) (state new.disk) refusal calm
    c.in_err-between_turns.ensures.fault)

-- what was fed up to the packet that is sent
found : (g : given.Over) (c : After-send_one g) (s : Standing)
    → Holds c.args.server.now.view s (g.D.Disk.state c.args.server.now.disk)
    → (g.D.Disk.state c.ask.new.server.disk).IsHonest
    → SoFar g.U.Update.tells c.args.how (Called None) c.args.update.now c.update.new.self
    c.args.server.now c.ask.new.server (g.D.Disk.state c.args.server.now.disk)
    (g.D.Disk.state c.ask.new.server.disk) s c.loop-sent.left c.loop-sent.between_turns
    (left_for c.is_due-due.result c.loop-sent.until) c.loop-sent.rest c.loop-sent.sent
    (g.O.Outlet.writes c.args.outlet.now) (g.O.Outlet.writes c.loop-sent.outlet)
found g c s holds honest =
    let state = g.D.Disk.state in
    let up = c.update.new.server in
    let heard = c.ask.new.server in
    let one = c.in_ok-update.ensures in
    let then_honest : (state up.disk).IsHonest =
    subst (λ d. (state d).IsHonest) c.ask.ensures.disk honest in
    let so_far = c.loop-sent.invariant.fed s holds (one.keeps.was_honest then_honest) in
    let mid = c.loop-sent.server in
    let behind = updated so_far refl
    (subst (λ m. IsUpdating (g.U.Update.tells c.loop-sent.update c.update.new.self m) mid up
    (state mid.disk) (state up.disk) so_far.fed.leaves.last None) c.moment_at-moment.ensures
    (one.run so_far.fed.leaves.last (so_far.fed.leaves.going refl) then_honest)) in
    asked_on behind heard (g.met.D.Disk.sound up.disk then_honest) c.ask.ensures.view honest
    (subst (λ d. IsUnchanged (state up.disk) (state d)) (sym c.ask.ensures.disk)
    (unchanged_none (state up.disk))) c.is_due-due.result
    (c.ask.ensures.asked behind.fed.leaves.last (behind.fed.leaves.going refl).agrees)
    c.loop-sent.until refl c.is_due-due.ensures refl

pub returns-in_err-between_turns-clause-fed : goal.returns-in_err-between_turns-clause-fed
returns-in_err-between_turns-clause-fed g c = λ s holds honest.
    let from = (goal.at.returns-in_err-between_turns-clause-fed g c).After-send_one in
    let two = c.in_err-between_turns.ensures in
    let then_honest = two.only_reads.keeps.was_honest honest in
    rw (same_error c.from_residual-in_err-between_turns.result c.in_err-between_turns.field-0.0
    c.from_residual-in_err-between_turns.ensures.1)
    (send_fault (found g from s holds then_honest) c.send_one.new.server
    (g.met.D.Disk.sound c.ask.new.server.disk then_honest) two.view honest
    (two.only_reads.unchanged honest) c.loop-sent.until c.is_due-due.result refl c.is_due-due.ensures
    c.in_err-between_turns.field-0.0 refl (λ d held. two.sent d held honest))

-- how many packets more come before a look within a turn
rest_is : (look : ℕ) (ended : Bool) (rest : ℕ) (may : Bool) (then_rest : ℕ) (place : Place)
    (sent : Sent) → place ≡ sent.place → may ≡ may_look (moment_at look ended rest)
    → then_rest ≡ (if may then look else rest) - (if place.early == 0 then 1 else 0)
    → left_behind look ended rest sent ≡ then_rest
rest_is look ended rest may then_rest place sent same is less =
    ap (λ (p : Place). (if may_look (moment_at look ended rest) then look else rest)
    - (if p.early == 0 then 1 else 0)) (sym same)
    ∙ ap (λ b. (if b then look else rest) - (if place.early == 0 then 1 else 0)) (sym is) ∙ sym less

pub loop-sent-preserved : goal.loop-sent-preserved
loop-sent-preserved g c =
    let state = g.D.Disk.state in
    let from = (goal.at.loop-sent-preserved g c).After-send_one in
    let old = c.args.server.now in
    let mid = c.loop-sent.server in
    let up = c.update.new.server in
    let heard = c.ask.new.server in
    let new = c.send_one.new.server in
    let is = c.loop-sent.invariant in
    let one = c.in_ok-update.ensures in
    let two = c.in_ok-between_turns.ensures in
    let left = c.loop-sent.left in
    let fewer = c.if-between_turns.left in
    let ends = c.in_ok-between_turns.between_turns in
    let is_fewer : fewer + (if ends then 1 else 0) ≡ left = elim c.if-between_turns.branch [
      | then-between_turns w ↦
          rest_then ends fewer left w.if-between_turns.true w.left-is c.if-left-eq0.false
      | else-between_turns w ↦ rest_else ends fewer left w.if-between_turns.false w.left-is
    ] in
    record {
      keeps = keeps_on (state old.disk) (state heard.disk) (state new.disk)
          (subst (λ d. KeepsLength (state old.disk) (state d)) (sym c.ask.ensures.disk)
          (keeps_on (state old.disk) (state mid.disk) (state up.disk) is.keeps one.keeps))
          two.only_reads.keeps;
      calm = calm_on old heard new (state old.disk) (state heard.disk) (state new.disk)
          (calm_on old up heard (state old.disk) (state up.disk) (state heard.disk)
          (calm_on old mid up (state old.disk) (state mid.disk) (state up.disk) is.calm one.faults)
          (sent_calm up heard (state up.disk) (state heard.disk)
          (ap (λ d. (state d).failures) c.ask.ensures.disk) c.ask.ensures.view))
          (sent_calm heard new (state heard.disk) (state new.disk) two.calm two.view);
      fed = λ s holds honest.
          let then_honest = two.only_reads.keeps.was_honest honest in
          let so_far = found g from s holds then_honest in
          let last : Standing = so_far.fed.leaves.last in
          let agrees = subst (λ (v : RepositoryView). Agrees v last) (sym two.view)
          (so_far.fed.leaves.going refl).agrees in
          sent_on so_far new (g.met.D.Disk.sound heard.disk then_honest) two.view honest
          (two.only_reads.unchanged honest) c.loop-sent.until c.is_due-due.result refl
          c.is_due-due.ensures refl c.if-left-eq0.false ends fewer is_fewer c.rest_after-rest.result
          (λ sent same. rest_is _ c.loop-sent.between_turns c.loop-sent.rest c.may_look.result
          c.rest_after-rest.result (place_in new last) sent same
          (c.may_look.ensures ∙ ap may_look c.moment_at-moment.ensures)
          (c.rest_after-rest.ensures last agrees)) c.until_after-until.result
          c.until_after-until.ensures (λ d held. two.sent d held honest);
    }
