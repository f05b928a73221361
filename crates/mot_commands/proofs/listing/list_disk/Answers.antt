use Rattle.mot_playout.specs.Attempts.{fault_of}
use Rattle.std.proofs.Common.{◌≡◌, ◌∙◌, ap, inl, refl, subst, sym}
use Rattle.std.specs.Prelude.{IfOk}
use Rattle.std.proofs.KnownBytes.{Keeps-refl}
use Rattle.mot_commands.specs.Inner.Shown.{shown_beside}
use Rattle.mot_commands.specs.Report.{Lists, shown_in}
use Rattle.mot_commands.proofs.Listed.{shown-beside, told}
use Rattle.mot_commands.proofs.listing.list_disk.Goals as goal
use Rattle.mot_objects.specs.declared.carousel.Carousel.{Carousel}

pub returns-in-Err : goal.returns-in-Err
returns-in-Err g c =
    let state = g.D.Disk.state in
    let opens = c.in-Err.ensures in
    let old = g.W.Write.contents c.args.writer.now in
    subst (λ (e : _). Lists c.args.form (fault_of e.result) old old (state c.args.disk) (state e.disk))
    (sym c.unopened.ensures) (
      opens.only_syncs,
      inl (
        c.in-Err.refused.refusal,
        refl,
        record { why = opens.refused; calm = opens.calm; still = opens.only_syncs.still },
        Keeps-refl _,
      ),
    )

pub returns : goal.returns
returns g c =
    let state = g.D.Disk.state in
    let opens = c.in-Ok.ensures in
    let view = c.in-Ok.repository.view in
    let form = c.args.form in
    let old = g.W.Write.contents c.args.writer.now in
    let new = g.W.Write.contents c.print_text-result.new.writer in
    let ending = fault_of c.print_text-result.result in
    rw c.ended_with.ensures (subst (λ d. Lists form ending old new (state c.args.disk) (state d)) (sym c.into_disk.ensures) (
      opens.only_syncs,
      told (state c.args.disk) (state c.in-Ok.repository.disk) _ ending (shown_beside form view.carousel)
          c.text_in.result old new opens.only_syncs opens.calm
          (λ honest. let opened = opens.opened honest in record {
            standing = opened.standing;
            stands = opened.stands;
            shown = shown-beside form view.carousel opened.agrees.bodies opened.agrees.are_bodies
                ∙ ap (shown_in form) (sym opened.agrees.carousel);
          })
          (subst (λ (k : Carousel). IfOk c.text_in.result (λ text. text.items ≡ shown_beside form k))
          c.carousel.ensures.value c.text_in.ensures)
          c.print_text-result.ensures,
    ))
