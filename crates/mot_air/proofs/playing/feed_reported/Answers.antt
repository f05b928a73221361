use Rattle.mot_air.proofs.playing.feed_reported.Goals as goal

pub returns : goal.returns
returns g c = c.feed_disk.ensures.ended
