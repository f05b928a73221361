use Rattle.std.proofs.Common.{length}
use Rattle.std.specs.List.{flat_map}
use Rattle.std.proofs.lemmas.Result.{err_from_is_err_and}
use Rattle.mot_lines.specs.Listing.{object_line_beside}
use Rattle.mot_lines.specs.Listing.{numbers_line}
use Rattle.mot_session.proofs.Fronts.{WritesFront-before, Writes-after}
use Rattle.mot_session.proofs.serving.listing.write_listing.Goals as goal

pub returns-in_err-write_whole : goal.returns-in_err-write_whole
returns-in_err-write_whole g c =
    let p = err_from_is_err_and c.from_residual.result c.from_residual.ensures.1 in
    let shown = c.args.carousel.now in
    rw p.1 (WritesFront-before
    (numbers_line shown.period shown.directory shown.cursor (length shown.objects.items))
    (flat_map object_line_beside shown.objects.items) _ _
    (rw (c.as_slice.ensures.value, c.carousel_text.ensures) at c.in_err-write_whole.ensures))

pub returns : goal.returns
returns g c =
    let shown = c.args.carousel.now in
    Writes-after c.write_objects.result
    (numbers_line shown.period shown.directory shown.cursor (length shown.objects.items))
    (flat_map object_line_beside shown.objects.items) _ _ _
    (rw (c.as_slice.ensures.value, c.carousel_text.ensures) at c.in_ok-write_whole.ensures)
    (rw c.deref.ensures.value at c.write_objects.ensures)
