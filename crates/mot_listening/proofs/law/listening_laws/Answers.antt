use Rattle.mot_listening.proofs.Early.{early_is_short}
use Rattle.mot_listening.proofs.Ends.{turns_end_soon}
use Rattle.mot_listening.proofs.Whole.{bodies_come_whole}
use Rattle.mot_listening.proofs.law.listening_laws.Goals as goal

pub returns : goal.returns
returns c =
    record {
      turns_end = turns_end_soon;
      bodies_come = bodies_come_whole;
      early_short = early_is_short;
    }
