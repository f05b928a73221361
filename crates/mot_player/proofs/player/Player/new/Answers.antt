use Rattle.std.proofs.Common.{ℕ, ◌+◌, List, length, ap, refl, ◌∙◌}
use Rattle.mot_groups.specs.Group.{Segment}
use Rattle.mot_numbers.specs.PacketLength.{room_of}
use Rattle.mot_player.specs.PlayerView.{PlayerView, place_of, turn_with}
use Rattle.mot_player.specs.Place.{opened_place}
use Rattle.mot_player.specs.Turn.{Turn}
use Rattle.mot_player.proofs.Continuous.{steps-are-continuous}
use Rattle.mot_player.proofs.GoesOn.{steps-go_on}
use Rattle.mot_player.proofs.TurnOnce.{turns-read}
use Rattle.mot_player.proofs.Segments.{segments_from-end}
use Rattle.mot_player.proofs.Rounds.{rounds_are_continuous}
use Rattle.mot_player.proofs.FewEarly.{few-go-early}
use Rattle.mot_player.proofs.Followed.{changes-come-next, changes-go-early}
use Rattle.mot_player.proofs.Followed.{replaced-keeps-its_place}
use Rattle.mot_player.proofs.Staying.{bodies-go_on, directory-comes, requests-take-in-order}
use Rattle.mot_player.proofs.player.Player.new.Goals as goal

pub returns-clause-opened : goal.returns-clause-opened
returns-clause-opened c = λ bodies e.
    let turn : Turn = turn_with c.args.turn bodies in
    let size : ℕ = c.args.segment_size in
    ap (λ (s : PlayerView). place_of s bodies) c.in_ok-state.ensures.view
    ∙ ap (λ (w : List Segment).
    record (opened_place c.args.address (room_of c.args.full_length) size turn) { waiting = w })
    (segments_from-end c.args.turn bodies size (length c.args.turn.bodies + 1) e refl)

pub returns-clause-continuous : goal.returns-clause-continuous
returns-clause-continuous c = steps-are-continuous

pub returns-clause-steps : goal.returns-clause-steps
returns-clause-steps c = steps-go_on

pub returns-clause-turns_with_directories : goal.returns-clause-turns_with_directories
returns-clause-turns_with_directories c = turns-read

pub returns-clause-rounds : goal.returns-clause-rounds
returns-clause-rounds c = rounds_are_continuous

pub returns-clause-directory_comes : goal.returns-clause-directory_comes
returns-clause-directory_comes c = directory-comes

pub returns-clause-changes_next : goal.returns-clause-changes_next
returns-clause-changes_next c = changes-come-next

pub returns-clause-changes_early : goal.returns-clause-changes_early
returns-clause-changes_early c = changes-go-early

pub returns-clause-few_early : goal.returns-clause-few_early
returns-clause-few_early c = few-go-early

pub returns-clause-bodies_go_on : goal.returns-clause-bodies_go_on
returns-clause-bodies_go_on c = bodies-go_on

pub returns-clause-replaced_in_place : goal.returns-clause-replaced_in_place
returns-clause-replaced_in_place c = replaced-keeps-its_place

pub returns-clause-in_order : goal.returns-clause-in_order
returns-clause-in_order c = requests-take-in-order
