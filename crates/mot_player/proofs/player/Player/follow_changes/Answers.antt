use Rattle.std.proofs.Common.{ap}
use Rattle.mot_player.specs.Place.{following}
use Rattle.mot_player.specs.PlayerView.{PlayerView, place_of}
use Rattle.mot_player.proofs.player.Player.follow_changes.Goals as goal

pub returns-clause-place : goal.returns-clause-place
unfolding following
returns-clause-place c = λ bodies.
    ap (λ (s : PlayerView). following c.args.most (place_of s bodies)) c.self.view_is
