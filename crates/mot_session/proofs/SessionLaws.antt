-- What holds of every session.
use Rattle.mot_session.specs.Laws.{SessionLaws}
use Rattle.mot_session.proofs.Continued.{sessions-are-continuous}
use Rattle.mot_session.proofs.Faults.{faults-are_the_disks}
use Rattle.mot_session.proofs.Laws.{raw_packets-read}

-- what holds of every session
pub session-laws : SessionLaws
session-laws = record {
  raw = raw_packets-read;
  continuous = sessions-are-continuous;
  device_faults = faults-are_the_disks;
}
