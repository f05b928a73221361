use Rattle.std.proofs.Common.{◌≡◌, ℕ, ◌+◌, ◌≤◌, ◌<◌, length, Err, inl, inr, refl, sym, ap, ◌∙◌}
use Rattle.std.proofs.Common.{arith, subst, Option, Result, Ok}
use Rattle.std.proofs.Common.{List, None, Some}
use Rattle.std.specs.Prelude.{IfSome, IsFalse, is_some}
use Rattle.disk_model.specs.Disk.{Costs, Keeps, Throughout}
use Rattle.mot_journal.specs.Image.{Standing}
use Rattle.mot_numbers.specs.declared.refusal.Refusal.{Refusal}
use Rattle.mot_objects.specs.declared.command.Done.{Done}
use Rattle.mot_repository.specs.Outcome.{calls_of_command, after_command}
use Rattle.std.proofs.lemmas.Result.{IfOk-from_err, MatchResult-from_err}
use Rattle.disk_model.proofs.Laws.{begins, keeps_none, unchanged_none}
use Rattle.mot_numbers.specs.declared.geometry.Geometry.{Geometry}
use Rattle.mot_numbers.proofs.Laws.{same_error}
use Rattle.mot_player.specs.Place.{change_turn, changed}
use Rattle.mot_player.specs.PlayerView.{PlayerView, TurnPlan, place_of, turn_with}
use Rattle.mot_player.specs.Turn.{turn_of_carousel}
use Rattle.mot_directory.specs.Entries.{HasAnother}
use Rattle.mot_objects.specs.Stands.{AreBodiesOf, IsPlan, carousel_of}
use Rattle.mot_repository.proofs.Laws.{accepted_parts}
use Rattle.mot_repository.specs.Repository.{Agrees, Holds, IsBeforeOrAfter, RepositoryView}
use Rattle.mot_playout.specs.Runs.{ServerView, bodies_of}
use Rattle.mot_repository.specs.Answers.{IsAnswered, IsChanged, IsRefusal, accepted, refused}
use Rattle.mot_repository.specs.Answers.{failed}
use Rattle.mot_playout.proofs.Going.{OnErr-always}
use Rattle.mot_playout.specs.Inner.{replaced_in}
use Rattle.mot_playout.proofs.OneChange.{followable}
use Rattle.mot_playout.proofs.Replacing.{has-another}
use Rattle.mot_playout.proofs.Turns.{begins_after, comes_after, plays_same}
use Rattle.mot_playout.proofs.Whole.{sound_carousel}
use Rattle.mot_playout.proofs.server.Server.execute.Goals as goal

-- what holds of the server inside holds of the server
on : {D : Type 0} (P : ServerView D → Type 0) (inside old : ServerView D) → inside ≡ old → P inside
    → P old
on P inside old is p = subst P is p

player-of : {D : Type 0} (inside old : ServerView D) → inside ≡ old → inside.player ≡ old.player
player-of {D} inside old is = ap (λ (s : ServerView D). s.player) is

view-of : {D : Type 0} (inside old : ServerView D) → inside ≡ old → inside.view ≡ old.view
view-of {D} inside old is = ap (λ (s : ServerView D). s.view) is

no_less : (a n : ℕ) → a ≤ a + n
no_less a n = omega arith

pub returns-in_err-prepared-clause-answered : goal.returns-in_err-prepared-clause-answered
returns-in_err-prepared-clause-answered g c =
    let refusal = c.in_err-prepared.field-0.0 in
    refused refusal (same_error c.from_residual.result refusal c.from_residual.ensures.1)
    (on (λ v. IsRefusal v.view c.args.command.now refusal) _ _ c.self.view_is
    c.in_err-prepared.ensures.refused) refl
    (unchanged_none (g.D.Disk.state c.args.self.now.disk))

pub returns-in_err-turn-clause-answered : goal.returns-in_err-turn-clause-answered
returns-in_err-turn-clause-answered g c =
    let refusal = c.in_err-turn.field-0.0 in
    refused refusal (same_error c.from_residual-in_err-turn.result refusal
    c.from_residual-in_err-turn.ensures.1)
    (on (λ v. IsRefusal v.view c.args.command.now refusal) _ _ c.self.view_is
    (IsRefusal.no_memory c.in_ok-prepared.ensures.going
    c.in_ok-prepared.ensures.short c.in_err-turn.ensures.refused))
    refl (unchanged_none (g.D.Disk.state c.args.self.now.disk))

pub returns-in_err-done-clause-any_moment : goal.returns-in_err-done-clause-any_moment
returns-in_err-done-clause-any_moment g c =
    let state = g.D.Disk.state in
    let new = c.commit.new.self in
    on (λ v. (s : Standing) → Holds v.view s (state v.disk) → Throughout (state v.disk)
    (state new.disk) (IsBeforeOrAfter v.view.journal.layout s c.args.command.now)) _ _
    c.self.view_is
    (c.commit.ensures.any_moment c.args.command.now c.in_ok-prepared.ensures.prepared)

-- what holds of each place holds of one that may be there
of-place : (r s : Option ℕ) (P : ℕ → Type 0) → r ≡ s → ((at : ℕ) → s ≡ Some at → P at) → IfSome r P
of-place None s P e each = tt
of-place (Some at) s P e each = each at (sym e)

pub turn_to_follow-requires-clause-another : goal.turn_to_follow-requires-clause-another
turn_to_follow-requires-clause-another g c =
    let view : RepositoryView = c.self.inside.bodies.repository.view in
    let next = c.next-next.result.now in
    let player : PlayerView = c.self.inside.player in
    let changes = c.in_ok-prepared.ensures.prepared.prepared.changes in
    of-place c.replaced_place-replaced.result (replaced_in c.args.command.now next)
    (λ at. (bodies : List (List ℕ)) × AreBodiesOf next bodies
    × HasAnother player.turn.directory (carousel_of next bodies) at)
    c.replaced_place-replaced.ensures.place
    (λ at is. has-another view.carousel next view.journal.geometry.objects
    view.journal.geometry.segment c.args.command.now c.in_ok-prepared.prepared.done player at
    (subst (λ k. IsPlan view.carousel view.journal.geometry.objects c.args.command.now
    (Ok (record { next = k; done = c.in_ok-prepared.prepared.done }))) (sym c.next-next.ensures)
    changes)
    c.self.invariant is)

pub invariant_of-self : goal.invariant_of-self
invariant_of-self g c =
    let halted = c.in_err-done.ensures.halted in
    let old : RepositoryView = c.self.inside.bodies.repository.view in
    let new : RepositoryView = c.commit.new.self.view in
    plays_same old.carousel new.carousel old.journal.geometry.segment new.journal.geometry.segment
    c.self.inside.player (sym halted.carousel)
    (ap (λ (h : Geometry). h.segment) (sym halted.geometry)) c.self.invariant

pub invariant_of-self-2 : goal.invariant_of-self-2
invariant_of-self-2 g c =
    let changed = c.in_ok-done.ensures.changed c.args.command.now
    c.in_ok-prepared.ensures.prepared in
    plays_same c.next-next.result.now c.commit.new.self.view.carousel c.self.inside.player.segment_size
    c.commit.new.self.view.journal.geometry.segment
    c.follow.new.self (c.next-next.ensures ∙ sym c.in_ok-done.ensures.kept)
    (c.self.invariant.size_is ∙ ap (λ (h : Geometry). h.segment) (sym changed.geometry))
    (c.in_ok-turn.ensures.plays c.follow.new.self c.follow.ensures.turn c.follow.ensures.size)

pub returns-clause-answered : goal.returns-clause-answered
returns-clause-answered g c =
    let done = c.in_ok-done.done in
    accepted done refl
    (on (λ v. IsChanged v.view c.args.command.now done c.commit.new.self.view) _ _ c.self.view_is
    (c.in_ok-done.ensures.changed c.args.command.now c.in_ok-prepared.ensures.prepared))

pub returns-clause-any_moment : goal.returns-clause-any_moment
returns-clause-any_moment g c =
    let state = g.D.Disk.state in
    let new = c.commit.new.self in
    on (λ v. (s : Standing) → Holds v.view s (state v.disk) → Throughout (state v.disk)
    (state new.disk) (IsBeforeOrAfter v.view.journal.layout s c.args.command.now)) _ _
    c.self.view_is
    (c.commit.ensures.any_moment c.args.command.now c.in_ok-prepared.ensures.prepared)

pub returns-clause-anew : goal.returns-clause-anew
returns-clause-anew g c = λ s next not was agrees.
    let new : PlayerView = c.follow.new.self in
    let plan : TurnPlan = c.in_ok-turn.turn in
    let old : PlayerView = c.args.self.now.player in
    let same : c.self.inside.player ≡ old = player-of _ _ c.self.view_is in
    begins_after c.commit.new.self.view s next old new plan agrees c.follow.ensures.turn
    (invariant_of-self-2 g c)
    (λ bodies came. c.follow.ensures.begun bodies came
    (ap (λ (p : PlayerView). is_some p.follows) same
    ∙ ap (λ (o : Option ℕ). is_some o) not)
    ∙ ap (λ (p : PlayerView). change_turn (turn_with plan came) (place_of p bodies)) same)

pub returns-clause-place : goal.returns-clause-place
returns-clause-place g c = λ s next was agrees done.
    let state = g.D.Disk.state c.args.self.now.disk in
    let old : PlayerView = c.self.inside.player in
    let view : RepositoryView = c.self.inside.bodies.repository.view in
    let command = c.args.command.now in
    let same : old ≡ c.args.self.now.player = player-of _ _ c.self.view_is in
    let kept : view ≡ c.args.self.now.view = view-of _ _ c.self.view_is in
    let parts = accepted_parts c.args.self.now.view.journal.layout s command c.in_ok-done.done next
    done in
    let sound = sound_carousel c.args.self.now.view s state
    (g.met.D.Disk.sound c.args.self.now.disk was.journal.honest) was in
    comes_after view c.commit.new.self.view s next old c.follow.new.self c.in_ok-turn.turn
    (length old.course.queue < c.in_ok-turn.spare)
    (subst (λ (v : RepositoryView). Agrees v s) (sym kept) was.agrees) c.self.invariant agrees
    c.follow.ensures.turn (invariant_of-self-2 g c)
    (followable s.carousel next.carousel s.geometry.objects s.geometry.segment
    next.geometry.segment command c.in_ok-done.done sound parts.rules)
    c.in_ok-turn.ensures.room c.follow.ensures.place
    ∙ ap (λ (p : PlayerView).
    changed (turn_of_carousel next.carousel next.geometry.segment)
    (place_of p (bodies_of s.carousel))) same

pub returns-clause-ok : goal.returns-clause-ok
returns-clause-ok g c =
    let state = g.D.Disk.state in
    let new = c.commit.new.self in
    on (λ v. (s : Standing) → Holds v.view s (state v.disk) → (next : Standing)
    × (after_command v.view.journal.layout s c.args.command.now ≡ Ok (next, c.in_ok-done.done))
    × Holds new.view next (state new.disk)) _ _ c.self.view_is
    (c.in_ok-done.ensures.ok c.args.command.now c.in_ok-prepared.ensures.prepared)

pub returns-in_err-prepared-clause-keeps : goal.returns-in_err-prepared-clause-keeps
returns-in_err-prepared-clause-keeps g c =
    record { frame = keeps_none (g.D.Disk.state c.args.self.now.disk); honest = λ is. is }

pub returns-in_err-prepared-clause-going : goal.returns-in_err-prepared-clause-going
returns-in_err-prepared-clause-going g c =
    IfOk-from_err c.from_residual.result _ c.from_residual.ensures.0

pub returns-in_err-prepared-clause-calm : goal.returns-in_err-prepared-clause-calm
returns-in_err-prepared-clause-calm g c =
    IfOk-from_err c.from_residual.result _ c.from_residual.ensures.0

pub returns-in_err-prepared-clause-cost : goal.returns-in_err-prepared-clause-cost
returns-in_err-prepared-clause-cost g c =
    record {
      at_most = no_less _ _;
      exact = IfOk-from_err c.from_residual.result _ c.from_residual.ensures.0;
    }

pub returns-in_err-prepared-clause-untouched : goal.returns-in_err-prepared-clause-untouched
returns-in_err-prepared-clause-untouched g c =
    MatchResult-from_err c.from_residual.result _ _ c.from_residual.ensures.0 (λ refusal. inr refl)

pub returns-in_err-prepared-clause-any_moment : goal.returns-in_err-prepared-clause-any_moment
returns-in_err-prepared-clause-any_moment g c =
    λ s holds.
    let old = c.args.self.now in
    begins (g.D.Disk.state old.disk)
    (IsBeforeOrAfter old.view.journal.layout s c.args.command.now)
    (g.met.D.Disk.sound old.disk holds.journal.honest) (λ image left. inl (holds.each image left))

pub returns-in_err-prepared-clause-ok : goal.returns-in_err-prepared-clause-ok
returns-in_err-prepared-clause-ok g c =
    λ s holds. IfOk-from_err c.from_residual.result _ c.from_residual.ensures.0

pub returns-in_err-prepared-clause-place : goal.returns-in_err-prepared-clause-place
returns-in_err-prepared-clause-place g c =
    λ s next was agrees. IfOk-from_err c.from_residual.result _ c.from_residual.ensures.0

pub returns-in_err-prepared-clause-anew : goal.returns-in_err-prepared-clause-anew
returns-in_err-prepared-clause-anew g c =
    λ s next not was agrees. IfOk-from_err c.from_residual.result _ c.from_residual.ensures.0

pub returns-in_err-prepared-clause-stays : goal.returns-in_err-prepared-clause-stays
returns-in_err-prepared-clause-stays g c =
    OnErr-always c.from_residual.result _ refl

pub returns-in_err-turn-clause-keeps : goal.returns-in_err-turn-clause-keeps
returns-in_err-turn-clause-keeps g c =
    record { frame = keeps_none (g.D.Disk.state c.args.self.now.disk); honest = λ is. is }

pub returns-in_err-turn-clause-going : goal.returns-in_err-turn-clause-going
returns-in_err-turn-clause-going g c =
    IfOk-from_err c.from_residual-in_err-turn.result _ c.from_residual-in_err-turn.ensures.0

pub returns-in_err-turn-clause-calm : goal.returns-in_err-turn-clause-calm
returns-in_err-turn-clause-calm g c =
    IfOk-from_err c.from_residual-in_err-turn.result _ c.from_residual-in_err-turn.ensures.0

pub returns-in_err-turn-clause-cost : goal.returns-in_err-turn-clause-cost
returns-in_err-turn-clause-cost g c =
    record {
      at_most = no_less _ _;
      exact = IfOk-from_err c.from_residual-in_err-turn.result _ c.from_residual-in_err-turn.ensures.0;
    }

pub returns-in_err-turn-clause-untouched : goal.returns-in_err-turn-clause-untouched
returns-in_err-turn-clause-untouched g c =
    MatchResult-from_err c.from_residual-in_err-turn.result _ _
    c.from_residual-in_err-turn.ensures.0 (λ refusal. inr refl)

pub returns-in_err-turn-clause-any_moment : goal.returns-in_err-turn-clause-any_moment
returns-in_err-turn-clause-any_moment g c =
    λ s holds.
    let old = c.args.self.now in
    begins (g.D.Disk.state old.disk)
    (IsBeforeOrAfter old.view.journal.layout s c.args.command.now)
    (g.met.D.Disk.sound old.disk holds.journal.honest) (λ image left. inl (holds.each image left))

pub returns-in_err-turn-clause-ok : goal.returns-in_err-turn-clause-ok
returns-in_err-turn-clause-ok g c =
    λ s holds. IfOk-from_err c.from_residual-in_err-turn.result _
    c.from_residual-in_err-turn.ensures.0

pub returns-in_err-turn-clause-place : goal.returns-in_err-turn-clause-place
returns-in_err-turn-clause-place g c =
    λ s next was agrees. IfOk-from_err c.from_residual-in_err-turn.result _
    c.from_residual-in_err-turn.ensures.0

pub returns-in_err-turn-clause-anew : goal.returns-in_err-turn-clause-anew
returns-in_err-turn-clause-anew g c =
    λ s next not was agrees. IfOk-from_err c.from_residual-in_err-turn.result _
    c.from_residual-in_err-turn.ensures.0

pub returns-in_err-turn-clause-stays : goal.returns-in_err-turn-clause-stays
returns-in_err-turn-clause-stays g c =
    OnErr-always c.from_residual-in_err-turn.result _ refl

pub returns-in_err-done-clause-keeps : goal.returns-in_err-done-clause-keeps
returns-in_err-done-clause-keeps g c =
    let state = g.D.Disk.state in
    on (λ v. Keeps (state v.disk) (state c.commit.new.self.disk)) _ _ c.self.view_is
    c.commit.ensures.keeps

pub returns-in_err-done-clause-going : goal.returns-in_err-done-clause-going
returns-in_err-done-clause-going g c =
    IfOk-from_err c.from_residual-in_err-done.result _ c.from_residual-in_err-done.ensures.0

pub returns-in_err-done-clause-calm : goal.returns-in_err-done-clause-calm
returns-in_err-done-clause-calm g c =
    IfOk-from_err c.from_residual-in_err-done.result _ c.from_residual-in_err-done.ensures.0

pub returns-in_err-done-clause-cost : goal.returns-in_err-done-clause-cost
returns-in_err-done-clause-cost g c =
    let all = c.commit.ensures.cost c.args.command.now c.in_ok-prepared.ensures.prepared in
    let state = g.D.Disk.state in
    on (λ v. Costs (calls_of_command v.view.journal c.args.command.now) (state v.disk)
    (state c.commit.new.self.disk) c.from_residual-in_err-done.result) _ _ c.self.view_is (record {
      at_most = all.at_most;
      exact = IfOk-from_err c.from_residual-in_err-done.result _
          c.from_residual-in_err-done.ensures.0;
    })

pub returns-in_err-done-clause-untouched : goal.returns-in_err-done-clause-untouched
returns-in_err-done-clause-untouched g c =
    rw (same_error c.from_residual-in_err-done.result c.in_err-done.field-0.0
    c.from_residual-in_err-done.ensures.1)
    (inl c.in_err-done.ensures.fault)

pub returns-in_err-done-clause-answered : goal.returns-in_err-done-clause-answered
returns-in_err-done-clause-answered g c =
    let state = g.D.Disk.state in
    let new = c.commit.new.self in
    on (λ v. IsAnswered v.view new.view (state v.disk) (state new.disk) c.args.command.now
    c.from_residual-in_err-done.result) _ _ c.self.view_is (
    failed (same_error c.from_residual-in_err-done.result c.in_err-done.field-0.0
    c.from_residual-in_err-done.ensures.1
    ∙ ap Err c.in_err-done.ensures.fault) c.in_ok-prepared.ensures.going
    (c.in_err-done.ensures.cause.cause refl) c.in_err-done.ensures.halted)

pub returns-in_err-done-clause-ok : goal.returns-in_err-done-clause-ok
returns-in_err-done-clause-ok g c =
    λ s holds. IfOk-from_err c.from_residual-in_err-done.result _
    c.from_residual-in_err-done.ensures.0

pub returns-in_err-done-clause-place : goal.returns-in_err-done-clause-place
returns-in_err-done-clause-place g c =
    λ s next was agrees. IfOk-from_err c.from_residual-in_err-done.result _
    c.from_residual-in_err-done.ensures.0

pub returns-in_err-done-clause-anew : goal.returns-in_err-done-clause-anew
returns-in_err-done-clause-anew g c =
    λ s next not was agrees. IfOk-from_err c.from_residual-in_err-done.result _
    c.from_residual-in_err-done.ensures.0

pub returns-in_err-done-clause-stays : goal.returns-in_err-done-clause-stays
returns-in_err-done-clause-stays g c =
    OnErr-always c.from_residual-in_err-done.result _ (player-of _ _ c.self.view_is)

pub returns-clause-keeps : goal.returns-clause-keeps
returns-clause-keeps g c =
    let state = g.D.Disk.state in
    on (λ v. Keeps (state v.disk) (state c.commit.new.self.disk)) _ _ c.self.view_is
    c.commit.ensures.keeps

pub returns-clause-going : goal.returns-clause-going
returns-clause-going g c =
    on (λ v. IsFalse v.view.halted) _ _ c.self.view_is c.in_ok-prepared.ensures.going

pub returns-clause-cost : goal.returns-clause-cost
returns-clause-cost g c =
    let state = g.D.Disk.state in
    let ended : Result Done Refusal = Ok c.in_ok-done.done in
    on (λ v. Costs (calls_of_command v.view.journal c.args.command.now) (state v.disk)
    (state c.commit.new.self.disk) ended) _ _ c.self.view_is
    (c.in_ok-done.ensures.cost c.args.command.now c.in_ok-prepared.ensures.prepared)

pub returns-clause-untouched : goal.returns-clause-untouched
returns-clause-untouched g c =
    tt

pub returns-clause-stays : goal.returns-clause-stays
returns-clause-stays g c =
    tt

pub commit-requires-clause-going : goal.commit-requires-clause-going
commit-requires-clause-going g c = c.in_ok-prepared.ensures.going

pub commit-requires-clause-prepared : goal.commit-requires-clause-prepared
commit-requires-clause-prepared g c =
    (c.args.command.now, c.in_ok-prepared.ensures.prepared)
