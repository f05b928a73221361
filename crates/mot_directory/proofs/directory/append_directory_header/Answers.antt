use Rattle.std.proofs.Common.{append_assoc}
use Rattle.mot_directory.proofs.directory.append_directory_header.Goals as goal

pub returns-clause-items : goal.returns-clause-items
returns-clause-items c = simp (
  c.append_number-3.ensures.items,
  c.append_number-2.ensures.items,
  c.append-2.ensures.items,
  c.append_number.ensures.items,
  c.append.ensures.items,
  c.bytes_of_period.ensures,
  c.bytes_of_size.ensures,
  c.len.ensures,
  c.get.ensures.value,
  c.get-2.ensures.value,
  append_assoc,
)
