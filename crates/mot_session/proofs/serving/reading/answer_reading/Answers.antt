use Rattle.std.proofs.lemmas.Result.{err_from_is_err_and}
use Rattle.mot_session.proofs.Fronts.{Writes-kept, told}
use Rattle.mot_session.proofs.serving.reading.answer_reading.Goals as goal

pub returns-in_err-write_reading : goal.returns-in_err-write_reading
returns-in_err-write_reading g c =
    let reply = c.in_err-write_reading.ensures in
    let p = err_from_is_err_and c.from_residual.result c.from_residual.ensures.1 in
    rw p.1 (record { answered = (reply.0, reply.1, reply.2, tt) })

pub returns : goal.returns
returns g c =
    let reply = c.in_ok-write_reading.ensures in
    let w = Writes-kept c.map_err.result reply.0 _ _ _ reply.2 c.flush.ensures.bytes in
    let t = told c.map_err.result reply.0 _ _ w in
    record { answered = (reply.0, reply.1, t.0, t.1) }
