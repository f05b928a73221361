use Rattle.std.proofs.Common.{◌∙◌, ◌<◌, [], ◌∷◌, take, length, refl, subst}
use Rattle.std.proofs.lemmas.List.{take_all}
use Rattle.mot_feed.specs.Feeding.{whole, short, none}
use Rattle.mot_feed.proofs.Grown.{grows_nil}
use Rattle.mot_feed.proofs.Sent.{not_written, same_place, some_bytes, unread}
use Rattle.mot_feed.proofs.sending.send_one.Goals as goal
use Rattle.mot_numbers.proofs.Laws.{same_error}
use Rattle.mot_packets.specs.Written.{Grows}
use Rattle.mot_repository.proofs.Laws.{read_standing}

pub returns-in_err-ends_turn-clause-sent : goal.returns-in_err-ends_turn-clause-sent
returns-in_err-ends_turn-clause-sent g c = λ s holds honest.
    none c.in_err-ends_turn.field-0.0
    (not_written c.args.server.now c.next_into.new.self _ _ c.in_err-ends_turn.field-0.0
    c.in_err-ends_turn.ensures.refused)
    (same_error c.from_residual.result c.in_err-ends_turn.field-0.0 c.from_residual.ensures.1)
    (same_place c.args.server.now c.next_into.new.self s c.in_err-ends_turn.ensures.stays)
    (grows_nil (g.O.Outlet.writes c.args.outlet.now))

pub returns-then-count-bytes-clause-sent : goal.returns-then-count-bytes-clause-sent
returns-then-count-bytes-clause-sent g c = λ s holds honest.
    let server = c.args.server.now in
    let read = read_standing server.view s (g.D.Disk.state server.disk)
    (g.met.D.Disk.sound server.disk holds.journal.honest) holds in
    let items = c.next_into.new.packet.items in
    let ends_turn = c.in_ok-ends_turn.ends_turn in
    let same = c.as_slice-bytes.ensures.value in
    short items ends_turn c.in-Ok.count refl (c.in_ok-ends_turn.ensures.sent s read honest)
    (subst (λ l. c.in-Ok.count < length l) same c.if-count-bytes.true)
    (subst (λ l. Grows (g.O.Outlet.writes c.args.outlet.now)
    (g.O.Outlet.writes c.write_once.new.self) (take c.in-Ok.count l ∷ [])) same
    c.in-Ok.ensures.one)

pub returns-else-count-bytes-clause-sent : goal.returns-else-count-bytes-clause-sent
returns-else-count-bytes-clause-sent g c = λ s holds honest.
    let server = c.args.server.now in
    let read = read_standing server.view s (g.D.Disk.state server.disk)
    (g.met.D.Disk.sound server.disk holds.journal.honest) holds in
    let items = c.next_into.new.packet.items in
    let ends_turn = c.in_ok-ends_turn.ends_turn in
    let same = take_all c.in-Ok.count c.as_slice-bytes.result.now c.if-count-bytes.false
    ∙ c.as_slice-bytes.ensures.value in
    whole items ends_turn refl (c.in_ok-ends_turn.ensures.sent s read honest)
    (subst (λ l. Grows (g.O.Outlet.writes c.args.outlet.now)
    (g.O.Outlet.writes c.write_once.new.self) (l ∷ [])) same c.in-Ok.ensures.one)

pub returns-in-Err-clause-sent : goal.returns-in-Err-clause-sent
returns-in-Err-clause-sent g c = λ s holds honest.
    let server = c.args.server.now in
    let read = read_standing server.view s (g.D.Disk.state server.disk)
    (g.met.D.Disk.sound server.disk holds.journal.honest) holds in
    let items = c.next_into.new.packet.items in
    let ends_turn = c.in_ok-ends_turn.ends_turn in
    let step = c.in_ok-ends_turn.ensures.sent s read honest in
    short items ends_turn 0 refl step
    (some_bytes items step.sent.packet step.reads) c.in-Err.ensures.one

pub returns-in_err-ends_turn-clause-fault : goal.returns-in_err-ends_turn-clause-fault
returns-in_err-ends_turn-clause-fault g c =
    let old = c.args.server.now in
    let new = c.next_into.new.self in
    let refusal = c.in_err-ends_turn.field-0.0 in
    rw (same_error c.from_residual.result refusal c.from_residual.ensures.1)
    (unread g.D.Disk.state old new refusal c.in_err-ends_turn.ensures.refused)
