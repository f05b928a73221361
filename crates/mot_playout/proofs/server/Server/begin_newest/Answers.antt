use Rattle.std.proofs.Common.{◌≡◌, ℕ, List, Result, Ok, Err, ap, ◌∙◌, refl, subst, sym}
use Rattle.std.specs.Prelude.{OnOk}
use Rattle.mot_numbers.specs.declared.refusal.Refusal.{Refusal}
use Rattle.mot_objects.specs.Carousel as whole
use Rattle.mot_objects.specs.declared.carousel.Carousel.{Carousel}
use Rattle.mot_player.specs.PlayerView.{PlayerView, place_of, turn_with}
use Rattle.mot_player.specs.Start.{begin_with, newest}
use Rattle.mot_repository.specs.Repository.{Agrees, RepositoryView}
use Rattle.mot_playout.specs.Runs.{bodies_of}
use Rattle.mot_playout.proofs.Turns.{bodies_kept, plays_of}
use Rattle.mot_playout.proofs.server.Server.begin_newest.Goals as goal

pub invariant_of-self : goal.invariant_of-self
invariant_of-self g c =
    plays_of c.self.inside.bodies.repository.view.carousel
    c.self.inside.bodies.repository.view.journal.geometry.segment
    c.self.inside.player.turn c.begin_newest.new.self c.begin_newest.ensures.turn
    (c.begin_newest.ensures.size ∙ c.self.invariant.size_is)
    c.self.invariant.sized c.self.invariant.turn_is c.self.invariant.is_turn

-- what holds of a result that is right
so : (P Q : Type 0) (result : Result (Unit {0}) Refusal) → (P → Q) → OnOk result P → OnOk result Q
so P Q (Ok done) f p = f p
so P Q (Err refusal) f p = tt

pub returns-clause-place : goal.returns-clause-place
returns-clause-place g c =
    so _ _ c.begin_newest.result (λ place. λ s agrees.
    let same : c.self.inside.player ≡ c.args.self.now.player = rw (← c.self.view_is) refl in
    let kept : c.self.inside.bodies.repository.view ≡ c.args.self.now.view =
    rw (← c.self.view_is) refl in
    let both = bodies_kept c.self.inside.bodies.repository.view s
    (subst (λ (v : RepositoryView). Agrees v s) (sym kept) agrees) in
    place (bodies_of s.carousel) (c.self.invariant.sized (bodies_of s.carousel) both.0)
    ∙ ap (λ (p : PlayerView). begin_with (newest c.args.most c.carousel.result.now.cursor
    (turn_with p.turn (bodies_of s.carousel)).bodies) (place_of p (bodies_of s.carousel))) same
    ∙ ap (λ (k : ℕ). begin_with (newest c.args.most k
    (turn_with c.args.self.now.player.turn (bodies_of s.carousel)).bodies)
    (place_of c.args.self.now.player (bodies_of s.carousel)))
    (ap (λ (k : Carousel). k.cursor) c.carousel.ensures.value
    ∙ ap (λ (k : whole.Carousel). k.cursor) (sym both.1))) c.begin_newest.ensures.place
