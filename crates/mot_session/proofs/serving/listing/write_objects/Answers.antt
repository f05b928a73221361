use Rattle.std.proofs.Common.{◌≡◌, ◌++◌, ◌+◌, take, drop, sym, ap, ◌∙◌, subst}
use Rattle.std.specs.List.{flat_map}
use Rattle.std.specs.Io.KnownBytes.{Appends}
use Rattle.std.proofs.KnownBytes.{Appends-trans}
use Rattle.std.proofs.lemmas.Result.{err_from_is_err_and}
use Rattle.mot_lines.specs.Listing.{object_line_beside}
use Rattle.mot_session.specs.Served.{WritesFront}
use Rattle.mot_session.proofs.Fronts.{WritesFront-after, WritesFront-before}
use Rattle.mot_session.proofs.Joined.{lines-more, lines-parts}
use Rattle.mot_session.proofs.serving.listing.write_objects.Goals as goal

pub loop-object-preserved : goal.loop-object-preserved
loop-object-preserved g c =
    let i = c.loop-object.object-index in
    let text : c.as_slice.result.now ≡ object_line_beside c.object-item.result =
    c.as_slice.ensures.value ∙ c.object_text.ensures in
    let more = lines-more object_line_beside c.args.objects.now i c.object-item.result
    c.loop-object-test.true c.object-item.is in
    subst (Appends (g.W.Write.contents c.args.writer.now)
    (g.W.Write.contents c.write_whole.new.writer))
    (ap (λ l. flat_map object_line_beside (take i c.args.objects.now) ++ l) text ∙ sym more)
    (Appends-trans _ _ _ _ _ c.loop-object.invariant c.in_ok-write_whole.ensures)

pub returns-in_err-write_whole : goal.returns-in_err-write_whole
returns-in_err-write_whole g c =
    let p = err_from_is_err_and c.from_residual.result c.from_residual.ensures.1 in
    let i = c.loop-object.object-index in
    let text : c.as_slice.result.now ≡ object_line_beside c.object-item.result =
    c.as_slice.ensures.value ∙ c.object_text.ensures in
    let more = lines-more object_line_beside c.args.objects.now i c.object-item.result
    c.loop-object-test.true c.object-item.is in
    let front = WritesFront-after (flat_map object_line_beside (take i c.args.objects.now))
    c.as_slice.result.now _ _ _ c.loop-object.invariant c.in_err-write_whole.ensures in
    let all = WritesFront-before
    (flat_map object_line_beside (take i c.args.objects.now) ++ c.as_slice.result.now)
    (flat_map object_line_beside (drop (i + 1) c.args.objects.now)) _ _ front in
    rw p.1 (subst (λ l. WritesFront l (g.W.Write.contents c.args.writer.now)
    (g.W.Write.contents c.write_whole.new.writer))
    (ap (λ l. (flat_map object_line_beside (take i c.args.objects.now) ++ l)
    ++ flat_map object_line_beside (drop (i + 1) c.args.objects.now)) text
    ∙ ap (λ l. l ++ flat_map object_line_beside (drop (i + 1) c.args.objects.now)) (sym more)
    ∙ lines-parts object_line_beside c.args.objects.now (i + 1)) all)
