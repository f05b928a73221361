use Rattle.std.proofs.Common.{◌≡◌, ◌∙◌, ◌++◌, ap, subst, sym}
use Rattle.std.specs.Prelude.{IfOk}
use Rattle.mot_cli.specs.declared.task.Form.{Form}
use Rattle.mot_commands.specs.Inner.Shown.{report_beside, shown_beside}
use Rattle.mot_commands.specs.Report.{clean_line, layout_line}
use Rattle.mot_lines.specs.Listing.{listing_text_beside}
use Rattle.mot_commands.proofs.checking.report_in.Goals as goal

pub returns-in_ok-extend_from_slice-in-Words-2 : goal.returns-in_ok-extend_from_slice-in-Words-2
returns-in_ok-extend_from_slice-in-Words-2 c = λ k is.
    let clean = clean_line c.args.is_clean in
    let shown : c.in_ok-text.text.items ≡ listing_text_beside k =
    subst (λ r. IfOk r (λ text. text.items ≡ listing_text_beside k)) c.in_ok-text.was
    (subst (λ (f : Form). IfOk c.args.text (λ text. text.items ≡ shown_beside f k)) c.in-Words.is is) in
    subst (λ (f : Form). (c.extend_from_slice-in-Words).new.self.items
    ≡ report_beside f k c.args.is_clean c.args.layout) (sym c.in-Words.is)
    ((c.in_ok-extend_from_slice-in-Words-2).ensures.items
    ∙ ap (λ l. c.extend_from_slice.new.self.items ++ l) c.layout_text.ensures
    ∙ ap (λ l. l ++ layout_line c.args.layout)
    ((c.in_ok-extend_from_slice-in-Words).ensures.items
    ∙ ap (λ l. c.in_ok-text.text.items ++ l) c.clean_text.ensures
    ∙ ap (λ l. l ++ clean) shown))
