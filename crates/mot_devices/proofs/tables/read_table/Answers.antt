use Rattle.mot_devices.specs.Looking.IsTold.{told, untold}
use Rattle.mot_devices.proofs.tables.read_table.Goals as goal

pub returns-in-Ok-clause-told : goal.returns-in-Ok-clause-told
returns-in-Ok-clause-told g c = told c.in-Ok.first.is_whole c.in-Ok.ensures.read

pub returns-in-Err-Refused-clause-told : goal.returns-in-Err-Refused-clause-told
returns-in-Err-Refused-clause-told g c =
    untold c.new.ensures.items
    (rw c.in-Err-Refused.field-0-is at c.in-Err-Refused.ensures.unread)
