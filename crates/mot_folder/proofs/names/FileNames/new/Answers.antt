use Rattle.mot_folder.proofs.Order.{none_ordered}
use Rattle.mot_folder.proofs.names.FileNames.new.Goals as goal

pub invariant_of-result : goal.invariant_of-result
invariant_of-result c = record { ordered = none_ordered c.new.result.items c.new.ensures.items }
