use Rattle.std.proofs.Common.{◌∙◌, refl, sym}
use Rattle.mot_playout.proofs.Turns.{plays_of, plays_same}
use Rattle.mot_playout.proofs.playing.turn_to_follow.Goals as goal
use Rattle.mot_playout.proofs.playing.turn_to_follow.Goals.{in-None+in_ok-turn-in-None}
use Rattle.mot_playout.proofs.playing.turn_to_follow.Goals.{in-Some+in_ok-turn-in-Some}

pub returns-clause-plays : goal.returns-clause-plays
returns-clause-plays c = λ view same sized.
    let kept = c.args.player.now.segment_size in
    elim c.match-replaced.branch [
      | in-Some+in_ok-turn-in-Some w ↦
          let is = w.in_ok-turn-in-Some.ensures in
          plays_of c.args.next.now kept w.in_ok-turn-in-Some.turn view (same ∙ w.turn-is) sized
          is.bodies is.exact is.turn
      | in-None+in_ok-turn-in-None w ↦
          let is = w.in_ok-turn-in-None.ensures in
          let size = w.segment_size.ensures.value in
          plays_same c.args.next.now c.args.next.now w.segment_size.result kept view refl size
          (plays_of c.args.next.now w.segment_size.result w.in_ok-turn-in-None.turn view
          (same ∙ w.turn-is) (sized ∙ sym size) is.bodies is.exact is.turn)
    ]

pub returns-clause-room : goal.returns-clause-room
returns-clause-room c = c.in_ok-spare.ensures.room
