use Rattle.std.proofs.Common.{◌≡◌, None, true, false, sym, ap, ◌∙◌, rules, Vec, Global}
use Rattle.std.proofs.lemmas.Result.{err_from_is_err_and}
use Rattle.mot_repository.specs.Outcome.{has_long_name, start_of}
use Rattle.mot_repository.specs.Inner.Fold.{view_with}
use Rattle.mot_repository.specs.Repository.{RepositoryView}
use Rattle.mot_repository.proofs.ByStart.{start-reordered}
use Rattle.mot_repository.proofs.Planned.{name_refused, plan_refused, room_refused, IsWorkedOut}
use Rattle.mot_repository.proofs.Planned.{prepared_is, kept_after}
use Rattle.mot_journal.specs.declared.record.Record.{Record}
use Rattle.mot_repository.proofs.prepared.prepare_change.Goals as goal
use Rattle.mot_repository.proofs.prepared.prepare_change.Goals.{then-is_full+in_ok-given}
use Rattle.mot_repository.proofs.prepared.prepare_change.Goals.{else-is_full}

pub returns-then-is_name_too_long-clause-refused : goal.returns-then-is_name_too_long-clause-refused
returns-then-is_name_too_long-clause-refused c = λ view k going.
    name_refused view c.args.command.now going c.is_name_too_long.ensures.fits
    (ap (λ l. has_long_name l c.args.command.now) k.layout_is ∙ sym c.is_name_too_long.ensures.value
    ∙ c.if-is_name_too_long.true)

pub returns-in_err-change-clause-refused : goal.returns-in_err-change-clause-refused
returns-in_err-change-clause-refused c = λ view k going.
    let geometry : view.journal.geometry ≡ c.args.geometry.now = k.geometry_is in
    let carousel : view.carousel ≡ c.args.inventory.now.carousel = k.carousel_is in
    let short : has_long_name view.journal.layout c.args.command.now ≡ false =
    ap (λ l. has_long_name l c.args.command.now) k.layout_is ∙ sym c.is_name_too_long.ensures.value
    ∙ c.if-is_name_too_long.false in
    let p = err_from_is_err_and c.from_residual.result c.from_residual.ensures.1 in
    rw (p.1, p.2) (plan_refused view c.args.command.now going c.is_name_too_long.ensures.fits
    c.in_err-change.field-0.0 short
    (rw (geometry, carousel) c.in_err-change.ensures.planned))

pub returns-in_default-clause-refused : goal.returns-in_default-clause-refused
returns-in_default-clause-refused c = λ view k going.
    let geometry : view.journal.geometry ≡ c.args.geometry.now = k.geometry_is in
    let carousel : view.carousel ≡ c.args.inventory.now.carousel = k.carousel_is in
    let extents : view.extents ≡ c.args.inventory.now.extents.items = k.extents_are in
    let short : has_long_name view.journal.layout c.args.command.now ≡ false =
    ap (λ l. has_long_name l c.args.command.now) k.layout_is ∙ sym c.is_name_too_long.ensures.value
    ∙ c.if-is_name_too_long.false in
    let nowhere : start_of view.extents view.journal.geometry.area c.args.command.now ≡ None =
    rw (geometry, extents)
    (start-reordered c.args.inventory.now.extents.items c.args.inventory.now.by_start.items
    c.deref.result.now c.args.geometry.now.area c.args.command.now c.body_bytes-body.result.now
    c.args.inventory.now.reordered c.deref.ensures.value c.body_bytes-body.ensures.value
    ∙ sym c.first_fit-start.ensures ∙ c.in_default.is) in
    room_refused view c.args.command.now going c.is_name_too_long.ensures.fits
    c.in_ok-change.change.next c.in_ok-change.change.done
    short
    (rw (geometry, carousel) c.in_ok-change.ensures.planned) nowhere

pub invariant_of-result : goal.invariant_of-result
invariant_of-result c =
    let old = c.args.inventory.now in
    let view : RepositoryView =
    view_with (record {
      geometry = c.args.geometry.now;
      half = 0;
      layout = c.args.layout;
      count = 0;
      spent = false;
    }) old.carousel old.extents.items false in
    let is : IsWorkedOut view c.args.command.now c.in_ok-change.change.next
    c.in_ok-change.change.done c.in-Some.start c.in_ok-record.record = record {
      valid = c.requires.valid;
      whole = c.requires.whole;
      paired = old.paired;
      short = sym c.is_name_too_long.ensures.value ∙ c.if-is_name_too_long.false;
      changes = c.in_ok-change.ensures.planned;
      lies = start-reordered old.extents.items old.by_start.items c.deref.result.now
          c.args.geometry.now.area c.args.command.now c.body_bytes-body.result.now
          old.reordered c.deref.ensures.value c.body_bytes-body.ensures.value
          ∙ sym c.first_fit-start.ensures ∙ c.in-Some.is;
      record_is = c.in_ok-record.ensures.made;
      typed = c.in_ok-record.ensures.typed;
    } in
    record {
      paired = rw c.in_ok-extents.ensures.extents
          (kept_after view c.args.command.now c.in_ok-change.change.next c.in_ok-change.change.done
          c.in-Some.start c.in_ok-record.record is).paired;
      reordered = c.in_ok-extents.ensures.reordered;
    }

pub returns-clause-prepared : goal.returns-clause-prepared
returns-clause-prepared c = λ view k told.
    let geometry : view.journal.geometry ≡ c.args.geometry.now = k.geometry_is in
    let layout : view.journal.layout ≡ c.args.layout = k.layout_is in
    let carousel : view.carousel ≡ c.args.inventory.now.carousel = k.carousel_is in
    let extents : view.extents ≡ c.args.inventory.now.extents.items = k.extents_are in
    let is : IsWorkedOut view c.args.command.now c.in_ok-change.change.next
    c.in_ok-change.change.done c.in-Some.start c.in_ok-record.record = record {
      valid = rw geometry c.requires.valid;
      whole = rw (geometry, layout, carousel, extents) c.requires.whole;
      paired = rw (carousel, extents) c.args.inventory.now.paired;
      short = ap (λ l. has_long_name l c.args.command.now) layout
          ∙ sym c.is_name_too_long.ensures.value
          ∙ c.if-is_name_too_long.false;
      changes = rw (geometry, carousel) c.in_ok-change.ensures.planned;
      lies = rw (geometry, extents)
          (start-reordered c.args.inventory.now.extents.items c.args.inventory.now.by_start.items
          c.deref.result.now c.args.geometry.now.area c.args.command.now
          c.body_bytes-body.result.now c.args.inventory.now.reordered c.deref.ensures.value
          c.body_bytes-body.ensures.value ∙ sym c.first_fit-start.ensures ∙ c.in-Some.is);
      record_is = rw carousel c.in_ok-record.ensures.made;
      typed = c.in_ok-record.ensures.typed;
    } in
    prepared_is view c.args.command.now _ c.in-Some.start is
    (λ full. rw (carousel, extents) (elim c.if-is_full.branch [
      | then-is_full+in_ok-given w ↦
          ap (λ (v : Vec Record Global). v.items) w.given-is ∙ w.in_ok-given.ensures
      | else-is_full w ↦
          let full : c.args.is_full ≡ true = told full in
          let room : c.args.is_full ≡ false = w.if-is_full.false in
          cc
    ]))
    (rw geometry (search rules))
    c.body_bytes-body.ensures.value (rw (carousel, extents) c.in_ok-extents.ensures.extents)
