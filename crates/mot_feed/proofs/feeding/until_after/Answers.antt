use Rattle.mot_feed.proofs.feeding.until_after.Goals as goal

pub returns : goal.returns
returns g c = λ s. rw (c.if-not-due.false, ← c.from.ensures) (c.pause.ensures s)
