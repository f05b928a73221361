use Rattle.std.proofs.Common.{append_assoc}
use Rattle.mot_directory.proofs.directory.append_entry.Goals as goal

pub returns-clause-items : goal.returns-clause-items
returns-clause-items c = simp (
  c.append_header.ensures.items,
  c.append_number.ensures.items,
  c.get.ensures.value,
  append_assoc,
)
