use Rattle.mot_export.proofs.shown.add_time.Goals as goal

pub returns : goal.returns
returns c =
    rw (c.from.ensures, c.maybe.ensures, c.maybe-2.ensures, c.maybe-3.ensures, c.maybe-4.ensures) at
    c.add_json_line.ensures
