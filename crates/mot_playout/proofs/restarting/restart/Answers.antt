use Rattle.std.proofs.Common.{◌∙◌, ⊎_elim, inl, inr, ap, subst, sym}
use Rattle.std.proofs.lemmas.Result.{err_from_is_err_and}
use Rattle.disk_model.specs.Disk.{OnlySyncs}
use Rattle.mot_numbers.specs.Geometry.{packet_room}
use Rattle.mot_player.specs.Place.{Place}
use Rattle.mot_player.proofs.Laws.{steps-are-continuous}
use Rattle.mot_player.specs.Turn.{turn_of_carousel}
use Rattle.mot_repository.specs.Opening.{IsOpeningRefusal}
use Rattle.mot_playout.specs.Playing.{HasPlayedTurn, bytes_of_packets}
use Rattle.mot_playout.specs.Runs.{place_in}
use Rattle.mot_playout.proofs.Openings.{opened_agrees, opened_holds, turn_refused, opened_room}
use Rattle.mot_playout.proofs.Openings.{opened_still, opened_beginning, opened_continuous}
use Rattle.mot_playout.proofs.Openings.{opened_length, syncs_read}
use Rattle.mot_playout.proofs.Numbered.{turn_numbered}
use Rattle.mot_playout.proofs.Read.{holds_still}
use Rattle.mot_playout.proofs.restarting.restart.Goals as goal

pub returns-in-Ok-clause-only_syncs : goal.returns-in-Ok-clause-only_syncs
returns-in-Ok-clause-only_syncs g c =
    let state = g.D.Disk.state in
    syncs_read (state c.args.disk) (state c.in_ok-server.server.disk)
    (state c.play_turn.new.self.disk) c.in_ok-server.ensures.only_syncs
    c.play_turn.ensures.only_reads

pub returns-in-Err-clause-only_syncs : goal.returns-in-Err-clause-only_syncs
returns-in-Err-clause-only_syncs g c =
    let state = g.D.Disk.state in
    subst (λ d. OnlySyncs (state c.args.disk) (state d)) (sym c.into_disk.ensures)
    (syncs_read (state c.args.disk) (state c.in_ok-server.server.disk)
    (state c.play_turn.new.self.disk) c.in_ok-server.ensures.only_syncs
    c.play_turn.ensures.only_reads)

pub returns-in-Ok-clause-holds : goal.returns-in-Ok-clause-holds
returns-in-Ok-clause-holds g c = λ s image honest.
    let state = g.D.Disk.state in
    let old = c.in_ok-server.server in
    let new = c.play_turn.new.self in
    let opens = c.in_ok-server.ensures in
    let play = c.play_turn.ensures in
    let was = play.only_reads.keeps.was_honest honest in
    let first = opened_holds (state c.args.disk) (state old.disk) old.view s image
    (opens.opened was) was (g.met.D.Disk.sound old.disk was) (opens.only_syncs.still was)
    opens.going in
    holds_still old.view new.view s (state old.disk) (state new.disk) first honest
    (play.only_reads.unchanged honest) play.view

pub returns-in-Ok-clause-reads : goal.returns-in-Ok-clause-reads
returns-in-Ok-clause-reads g c = λ s image honest.
    let state = g.D.Disk.state in
    let old = c.in_ok-server.server in
    let opens = c.in_ok-server.ensures in
    let was = c.play_turn.ensures.only_reads.keeps.was_honest honest in
    let first = opened_holds (state c.args.disk) (state old.disk) old.view s image
    (opens.opened was) was (g.met.D.Disk.sound old.disk was) (opens.only_syncs.still was)
    opens.going in
    c.in-Ok.ensures.reads s first honest
    (opened_beginning _ _ _ _ (place_in old s) (opens.at_start s first.agrees))

pub returns-in-Ok-clause-turn : goal.returns-in-Ok-clause-turn
returns-in-Ok-clause-turn g c = λ s image honest.
    let state = g.D.Disk.state in
    let old = c.in_ok-server.server in
    let opens = c.in_ok-server.ensures in
    let was = c.play_turn.ensures.only_reads.keeps.was_honest honest in
    let first = opened_holds (state c.args.disk) (state old.disk) old.view s image
    (opens.opened was) was (g.met.D.Disk.sound old.disk was) (opens.only_syncs.still was)
    opens.going in
    subst (λ (p : Place). HasPlayedTurn p (bytes_of_packets c.in-Ok.packets.items)
    (place_in c.play_turn.new.self s)) (opens.at_start s first.agrees)
    (c.in-Ok.ensures.turn s first honest)

pub returns-in-Ok-clause-continuous : goal.returns-in-Ok-clause-continuous
returns-in-Ok-clause-continuous g c = λ s image honest.
    let state = g.D.Disk.state in
    let old = c.in_ok-server.server in
    let opens = c.in_ok-server.ensures in
    let was = c.play_turn.ensures.only_reads.keeps.was_honest honest in
    let opened = opens.opened was in
    let agrees = opened_agrees (state c.args.disk) (state old.disk) old.view s image opened in
    opened_continuous s.geometry.address (packet_room s.geometry) s.geometry.segment
    (turn_of_carousel s.carousel s.geometry.segment)
    (bytes_of_packets c.in-Ok.packets.items) (place_in c.play_turn.new.self s) steps-are-continuous
    (opened_room (state c.args.disk) (state old.disk) old.view s agrees opened)
    (returns-in-Ok-clause-turn g c s image honest)

pub returns-in-Err-clause-refused : goal.returns-in-Err-clause-refused
returns-in-Err-clause-refused g c =
    let state = g.D.Disk.state in
    let old = c.in_ok-server.server in
    let new = c.play_turn.new.self in
    let opens = c.in_ok-server.ensures in
    subst (λ d. IsOpeningRefusal (state c.args.disk) (state d) c.in-Err.refusal)
    (sym c.into_disk.ensures)
    (turn_refused old new (state c.args.disk) (state old.disk) (state new.disk) c.in-Err.refusal
    opens.going opens.only_syncs.keeps.later c.play_turn.ensures.only_reads.keeps.later
    c.in-Err.ensures.refused)

pub returns-in_err-server-clause-only_syncs : goal.returns-in_err-server-clause-only_syncs
returns-in_err-server-clause-only_syncs g c =
    let p = err_from_is_err_and c.from_residual.result c.from_residual.ensures.1 in
    rw (p.1, p.2) c.in_err-server.ensures.only_syncs

pub returns-in_err-server-clause-refused : goal.returns-in_err-server-clause-refused
returns-in_err-server-clause-refused g c =
    let p = err_from_is_err_and c.from_residual.result c.from_residual.ensures.1 in
    rw (p.1, p.2) c.in_err-server.ensures.refused

pub returns-in_err-server-clause-calm : goal.returns-in_err-server-clause-calm
returns-in_err-server-clause-calm g c =
    let p = err_from_is_err_and c.from_residual.result c.from_residual.ensures.1 in
    rw (p.1, p.2) c.in_err-server.ensures.calm

pub returns-in_err-server-clause-opened : goal.returns-in_err-server-clause-opened
returns-in_err-server-clause-opened g c =
    let p = err_from_is_err_and c.from_residual.result c.from_residual.ensures.1 in
    rw p.1 tt

pub returns-in_err-server-clause-holds : goal.returns-in_err-server-clause-holds
returns-in_err-server-clause-holds g c =
    let p = err_from_is_err_and c.from_residual.result c.from_residual.ensures.1 in
    rw p.1 (λ s image. tt)

pub returns-in_err-server-clause-reads : goal.returns-in_err-server-clause-reads
returns-in_err-server-clause-reads g c =
    let p = err_from_is_err_and c.from_residual.result c.from_residual.ensures.1 in
    rw p.1 (λ s image. tt)

pub returns-in_err-server-clause-continuous : goal.returns-in_err-server-clause-continuous
returns-in_err-server-clause-continuous g c =
    let p = err_from_is_err_and c.from_residual.result c.from_residual.ensures.1 in
    rw p.1 (λ s image. tt)

pub returns-in_err-server-clause-turn : goal.returns-in_err-server-clause-turn
returns-in_err-server-clause-turn g c =
    let p = err_from_is_err_and c.from_residual.result c.from_residual.ensures.1 in
    rw p.1 (λ s image. tt)

pub returns-in-Ok-clause-opened : goal.returns-in-Ok-clause-opened
returns-in-Ok-clause-opened g c =
    λ honest.
    let state = g.D.Disk.state in
    let play = c.play_turn.ensures in
    opened_still (state c.args.disk) (state c.in_ok-server.server.disk)
    (state c.play_turn.new.self.disk) c.in_ok-server.server.view c.play_turn.new.self.view
    (c.in_ok-server.ensures.opened (play.only_reads.keeps.was_honest honest))
    (play.only_reads.unchanged honest) play.view

pub returns-in-Ok-clause-refused : goal.returns-in-Ok-clause-refused
returns-in-Ok-clause-refused g c = tt

pub returns-in-Ok-clause-calm : goal.returns-in-Ok-clause-calm
returns-in-Ok-clause-calm g c = c.in-Ok.ensures.calm ∙ c.in_ok-server.ensures.calm

pub returns-in-Err-clause-opened : goal.returns-in-Err-clause-opened
returns-in-Err-clause-opened g c = tt

pub returns-in-Err-clause-holds : goal.returns-in-Err-clause-holds
returns-in-Err-clause-holds g c = λ s image. tt

pub returns-in-Err-clause-reads : goal.returns-in-Err-clause-reads
returns-in-Err-clause-reads g c = λ s image. tt

pub returns-in-Err-clause-continuous : goal.returns-in-Err-clause-continuous
returns-in-Err-clause-continuous g c = λ s image. tt

pub returns-in-Err-clause-turn : goal.returns-in-Err-clause-turn
returns-in-Err-clause-turn g c = λ s image. tt

pub returns-in-Err-clause-calm : goal.returns-in-Err-clause-calm
returns-in-Err-clause-calm g c =
    ⊎_elim (λ is. inl is)
    (λ same. inr (ap (λ d. (g.D.Disk.state d).failures) c.into_disk.ensures ∙ same
    ∙ c.in_ok-server.ensures.calm)) c.in-Err.ensures.calm

pub returns-in-Ok-clause-numbered : goal.returns-in-Ok-clause-numbered
returns-in-Ok-clause-numbered g c = λ s image honest.
    let state = g.D.Disk.state in
    let old = c.in_ok-server.server in
    let opens = c.in_ok-server.ensures in
    let was = c.play_turn.ensures.only_reads.keeps.was_honest honest in
    let opened = opens.opened was in
    let agrees = opened_agrees (state c.args.disk) (state old.disk) old.view s image opened in
    turn_numbered s.geometry s.geometry.segment
    (turn_of_carousel s.carousel s.geometry.segment)
    (bytes_of_packets c.in-Ok.packets.items) (place_in c.play_turn.new.self s)
    (opened_length (state c.args.disk) (state old.disk) old.view s agrees opened)
    (returns-in-Ok-clause-turn g c s image honest)
