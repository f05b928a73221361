use Rattle.mot_export.proofs.shown.add_filled.Goals as goal

pub returns : goal.returns
returns c =
    rw (c.segment_size.ensures, c.saturating_sub.ensures, c.segment_size-2.ensures, c.saturating_sub-2.ensures) at
    c.add_json_line.ensures
