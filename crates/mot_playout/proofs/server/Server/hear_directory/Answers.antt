use Rattle.std.proofs.Common.{◌≡◌, ap, ◌∙◌, refl, subst, sym}
use Rattle.mot_player.specs.Place.{hear_directory}
use Rattle.mot_player.specs.PlayerView.{PlayerView, place_of}
use Rattle.mot_repository.specs.Repository.{Agrees, RepositoryView}
use Rattle.mot_playout.specs.Runs.{bodies_of}
use Rattle.mot_playout.proofs.Turns.{bodies_kept, plays_of}
use Rattle.mot_playout.proofs.server.Server.hear_directory.Goals as goal

pub invariant_of-self : goal.invariant_of-self
invariant_of-self g c =
    plays_of c.self.inside.bodies.repository.view.carousel
    c.self.inside.bodies.repository.view.journal.geometry.segment
    c.self.inside.player.turn c.hear_directory.new.self c.hear_directory.ensures.turn
    (c.hear_directory.ensures.size ∙ c.self.invariant.size_is)
    c.self.invariant.sized c.self.invariant.turn_is c.self.invariant.is_turn

pub returns-clause-place : goal.returns-clause-place
returns-clause-place g c = λ s agrees.
    let same : c.self.inside.player ≡ c.args.self.now.player = rw (← c.self.view_is) refl in
    let kept : c.self.inside.bodies.repository.view ≡ c.args.self.now.view =
    rw (← c.self.view_is) refl in
    c.hear_directory.ensures.place (bodies_of s.carousel)
    (c.self.invariant.sized (bodies_of s.carousel)
    (bodies_kept c.self.inside.bodies.repository.view s
    (subst (λ (v : RepositoryView). Agrees v s) (sym kept) agrees)).0)
    ∙ ap (λ (p : PlayerView). hear_directory (place_of p (bodies_of s.carousel))) same
