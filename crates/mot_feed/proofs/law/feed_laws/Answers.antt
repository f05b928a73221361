use Rattle.mot_feed.proofs.Ends.{nobody_starves}
use Rattle.mot_feed.proofs.Fed.{continuous}
use Rattle.mot_feed.proofs.Listening.{listeners_hear}
use Rattle.mot_feed.proofs.OnAir.{changed_turns_read, turns_read}
use Rattle.mot_feed.proofs.law.feed_laws.Goals as goal

pub returns : goal.returns
returns c = record {
  continuous = continuous;
  turns_read = turns_read;
  changed_turns_read = changed_turns_read;
  listeners = listeners_hear;
  nobody_starves = nobody_starves;
}
