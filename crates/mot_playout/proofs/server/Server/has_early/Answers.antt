use Rattle.std.proofs.Common.{◌≡◌, ◌∙◌, ap, not, refl, subst, sym}
use Rattle.std.specs.Prelude.{◌==◌}
use Rattle.mot_player.specs.PlayerView.{PlayerView, place_of}
use Rattle.mot_repository.specs.Repository.{Agrees, RepositoryView}
use Rattle.mot_playout.specs.Runs.{bodies_of}
use Rattle.mot_playout.proofs.Turns.{bodies_kept}
use Rattle.mot_playout.proofs.server.Server.has_early.Goals as goal

pub returns : goal.returns
returns g c = λ s agrees.
    let view : RepositoryView = c.self.inside.bodies.repository.view in
    let same : c.self.inside.player ≡ c.args.self.now.player = rw (← c.self.view_is) refl in
    let kept : view ≡ c.args.self.now.view = rw (← c.self.view_is) refl in
    c.has_early.ensures (bodies_of s.carousel)
    (c.self.invariant.sized (bodies_of s.carousel)
    (bodies_kept view s (subst (λ (v : RepositoryView). Agrees v s) (sym kept) agrees)).0)
    ∙ ap (λ (p : PlayerView). not ((place_of p (bodies_of s.carousel)).early == 0)) same
