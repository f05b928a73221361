use Rattle.std.proofs.Common.{◌<◌, subst}
use Rattle.std.proofs.lemmas.Result.{err_from_is_err_and}
use Rattle.mot_objects.specs.Stands.{object_of}
use Rattle.mot_export.proofs.Printed.{ends-line, kept_at, object_is, prints-faults, prints-writes, stops-in_body, stops-in_words}
use Rattle.mot_export.proofs.exporting.write_object.Goals as goal
use Rattle.mot_repository.specs.Repository.{object_body}

pub returns-in_err-write_bytes-clause-written : goal.returns-in_err-write_bytes-clause-written
returns-in_err-write_bytes-clause-written g c = λ s o holds honest at.
    let p = err_from_is_err_and c.from_residual.result c.from_residual.ensures.1 in
    let known = g.W.Write.contents in
    let view = c.args.repository.now.view in
    let x = c.index.result.now in
    let is = kept_at c.carousel.result.now view.carousel c.args.place x c.index.ensures
    c.carousel.ensures.value in
    let within = subst (λ n. c.args.place < n) view.carousel.objects.ok.0 c.requires.place in
    let same = object_is view s holds.agrees c.args.place x o within is at in
    rw p.1 (stops-in_words (object_of x (object_body s.carousel.objects c.args.place)) o same
    (known c.args.writer.now) (known c.write_bytes.new.writer) c.as_slice.result.now
    c.put_text-words.result.items c.as_slice.ensures.value c.put_text-words.ensures
    c.in_err-write_bytes.ensures.1)

pub returns-in_err-write_body-clause-written : goal.returns-in_err-write_body-clause-written
returns-in_err-write_body-clause-written g c = λ s o holds honest at.
    let p = err_from_is_err_and c.from_residual-in_err-write_body.result
    c.from_residual-in_err-write_body.ensures.1 in
    let known = g.W.Write.contents in
    let view = c.args.repository.now.view in
    let x = c.index.result.now in
    let is = kept_at c.carousel.result.now view.carousel c.args.place x c.index.ensures
    c.carousel.ensures.value in
    let within = subst (λ n. c.args.place < n) view.carousel.objects.ok.0 c.requires.place in
    let same = object_is view s holds.agrees c.args.place x o within is at in
    rw p.1 (stops-in_body (object_of x (object_body s.carousel.objects c.args.place)) o same
    (known c.args.writer.now) (known c.write_bytes.new.writer) (known c.write_body.new.writer)
    c.as_slice.result.now c.put_text-words.result.items c.as_slice.ensures.value c.put_text-words.ensures
    c.in_ok-write_bytes.ensures
    (c.in_err-write_body.ensures.written s holds honest))

pub returns-clause-written : goal.returns-clause-written
returns-clause-written g c = λ s o holds honest at.
    let known = g.W.Write.contents in
    let view = c.args.repository.now.view in
    let x = c.index.result.now in
    let is = kept_at c.carousel.result.now view.carousel c.args.place x c.index.ensures
    c.carousel.ensures.value in
    let within = subst (λ n. c.args.place < n) view.carousel.objects.ok.0 c.requires.place in
    let same = object_is view s holds.agrees c.args.place x o within is at in
    ends-line (object_of x (object_body s.carousel.objects c.args.place)) o same
    c.write_bytes-2.result (known c.args.writer.now) (known c.write_bytes.new.writer)
    (known c.write_body.new.writer) (known c.write_bytes-2.new.writer) c.as_slice.result.now
    c.put_text-words.result.items c.as_slice.ensures.value c.put_text-words.ensures
    c.in_ok-write_bytes.ensures (c.in_ok-write_body.ensures.written s holds honest)
    (prints-writes c.write_bytes-2.result _ _ _ c.write_bytes-2.ensures)

pub returns-clause-fault : goal.returns-clause-fault
returns-clause-fault g c = prints-faults c.write_bytes-2.result _ _ _ _ _ c.in_ok-write_body.ensures.calm c.write_bytes-2.ensures
