use Rattle.std.proofs.Common.{◌≡◌, ap, ◌∙◌, refl}
use Rattle.mot_player.specs.Place.{following}
use Rattle.mot_player.specs.PlayerView.{PlayerView, place_of}
use Rattle.mot_playout.specs.Runs.{bodies_of}
use Rattle.mot_playout.proofs.Turns.{plays_of}
use Rattle.mot_playout.proofs.server.Server.follow_changes.Goals as goal

pub invariant_of-self : goal.invariant_of-self
invariant_of-self g c =
    plays_of c.self.inside.bodies.repository.view.carousel
    c.self.inside.bodies.repository.view.journal.geometry.segment
    c.self.inside.player.turn c.follow_changes.new.self c.follow_changes.ensures.turn
    (c.follow_changes.ensures.size ∙ c.self.invariant.size_is)
    c.self.invariant.sized c.self.invariant.turn_is c.self.invariant.is_turn

pub returns-clause-place : goal.returns-clause-place
returns-clause-place g c = λ s.
    let same : c.self.inside.player ≡ c.args.self.now.player = rw (← c.self.view_is) refl in
    c.follow_changes.ensures.place (bodies_of s.carousel)
    ∙ ap (λ (p : PlayerView). following c.args.early
    (place_of p (bodies_of s.carousel))) same
