use Rattle.mot_player.proofs.Answered.{place_is}
use Rattle.mot_player.proofs.player.Player.segment_size.Goals as goal

pub returns-clause-place : goal.returns-clause-place
returns-clause-place c =
    place_is c.args.self.now c.self.inside.state c.self.view_is c.self.invariant
