use Rattle.mot_folder.proofs.Nameless.{nameless_note}
use Rattle.mot_folder.proofs.Taken.{of_note}
use Rattle.mot_folder.proofs.looking.note_if.Goals as goal

pub returns-then-is_so-clause-further : goal.returns-then-is_so-clause-further
returns-then-is_so-clause-further c = λ is files was.
    nameless_note files c.args.report.now c.note.new.self c.as_bytes.result.now _ is
    c.note.ensures.same c.note.ensures.told was

pub returns-then-is_so-clause-told : goal.returns-then-is_so-clause-told
returns-then-is_so-clause-told c = λ is types given waiting names answers wanted was.
    of_note types given c.args.report.now c.note.new.self waiting names c.as_bytes.result.now _ answers
    wanted is c.note.ensures.same c.note.ensures.memory c.note.ensures.told was
