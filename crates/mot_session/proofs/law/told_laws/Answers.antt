use Rattle.mot_session.proofs.Unique.{replies-are_cut_once}
use Rattle.mot_session.proofs.law.told_laws.Goals as goal

pub returns : goal.returns
returns c = record { once = replies-are_cut_once }
