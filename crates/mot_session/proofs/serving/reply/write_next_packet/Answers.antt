use Rattle.std.proofs.Common.{◌∙◌, refl, Ok, Err, Some}
use Rattle.std.proofs.lemmas.Result.{err_from_is_err_and}
use Rattle.mot_repository.proofs.Laws.{read_standing}
use Rattle.mot_session.proofs.Requests.{AnswersOne-sent}
use Rattle.mot_session.specs.Inner.Anyhow.{shows}
use Rattle.mot_session.proofs.serving.reply.write_next_packet.Goals as goal

pub returns-in_err-write_whole-in-Ok-clause-answers :
    goal.returns-in_err-write_whole-in-Ok-clause-answers
returns-in_err-write_whole-in-Ok-clause-answers g c = λ s holds honest.
    let state = g.D.Disk.state in
    let server = c.args.server.now in
    let has = read_standing server.view s (state server.disk)
    (g.met.D.Disk.sound server.disk holds.journal.honest) holds in
    let p = err_from_is_err_and c.from_residual.result c.from_residual.ensures.1 in
    let run = c.in-Ok.ensures in
    rw p.1 (AnswersOne-sent c.args.server.now c.next_into.new.self (state c.args.server.now.disk)
    (state c.next_into.new.self.disk)
    (record { view = run.view; disk = run.only_reads })
    honest s
    c.next_into.new.packet.items c.in-Ok.ends_turn (run.sent s has honest) (Err _) tt
    c.as_slice.result.now (c.as_slice.ensures.value ∙ c.set_packet_text.ensures) _ _
    c.in_err-write_whole-in-Ok.ensures)

pub returns-in_ok-write_whole-in-Ok-clause-answers :
    goal.returns-in_ok-write_whole-in-Ok-clause-answers
returns-in_ok-write_whole-in-Ok-clause-answers g c = λ s holds honest.
    let state = g.D.Disk.state in
    let server = c.args.server.now in
    let has = read_standing server.view s (state server.disk)
    (g.met.D.Disk.sound server.disk holds.journal.honest) holds in
    let run = c.in-Ok.ensures in
    AnswersOne-sent c.args.server.now c.next_into.new.self (state c.args.server.now.disk)
    (state c.next_into.new.self.disk)
    (record { view = run.view; disk = run.only_reads })
    honest s
    c.next_into.new.packet.items c.in-Ok.ends_turn (run.sent s has honest)
    (Ok (Some c.in-Ok.ends_turn)) refl
    c.as_slice.result.now (c.as_slice.ensures.value ∙ c.set_packet_text.ensures) _ _
    c.in_ok-write_whole-in-Ok.ensures

pub returns-in_err-write_whole-in-Ok-clause-anyhow :
    goal.returns-in_err-write_whole-in-Ok-clause-anyhow
returns-in_err-write_whole-in-Ok-clause-anyhow g c = λ going.
    let p = err_from_is_err_and c.from_residual.result c.from_residual.ensures.1 in
    rw p.1 (shows c.next_into.new.packet.items c.in-Ok.ends_turn c.in-Ok.ensures.no_fault
    tt (rw (c.as_slice.ensures.value, c.set_packet_text.ensures) at
    c.in_err-write_whole-in-Ok.ensures))

pub returns-in_ok-write_whole-in-Ok-clause-anyhow :
    goal.returns-in_ok-write_whole-in-Ok-clause-anyhow
returns-in_ok-write_whole-in-Ok-clause-anyhow g c = λ going.
    shows c.next_into.new.packet.items c.in-Ok.ends_turn c.in-Ok.ensures.no_fault
    refl (rw (c.as_slice.ensures.value, c.set_packet_text.ensures) at
    c.in_ok-write_whole-in-Ok.ensures)

pub returns-in_err-write_whole-in-Ok-clause-reads :
    goal.returns-in_err-write_whole-in-Ok-clause-reads
returns-in_err-write_whole-in-Ok-clause-reads g c =
    let run = c.in-Ok.ensures in record { view = run.view; disk = run.only_reads }

pub returns-in_ok-write_whole-in-Ok-clause-reads :
    goal.returns-in_ok-write_whole-in-Ok-clause-reads
returns-in_ok-write_whole-in-Ok-clause-reads g c =
    let run = c.in-Ok.ensures in record { view = run.view; disk = run.only_reads }
