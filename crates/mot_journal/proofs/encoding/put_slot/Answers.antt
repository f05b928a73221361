use Rattle.std.proofs.Common.{◌∙◌, ap, length, arith}
use Rattle.std.specs.Int.{w16, to_be_bytes, bytes_high_first}
use Rattle.mot_journal.specs.Slot.{read_slot}
use Rattle.mot_journal.proofs.Encoded.{slot_pieces}
use Rattle.mot_journal.proofs.Written.{slot_reads_back, written_length}
use Rattle.mot_journal.proofs.encoding.put_slot.Goals as goal

pub returns-clause-written : goal.returns-clause-written
returns-clause-written c =
    slot_pieces c.args.layout c.args.entry.now _ _ _ _ _ _ _ _ _ _ _ _ _ _
    c.kind_base.ensures c.kind.ensures.value c.slot_size.ensures
    (ap (bytes_high_first 3) c.get.ensures.value)
    (ap (λ n. to_be_bytes w16 n) c.get-2.ensures.value)
    (ap (λ n. to_be_bytes w16 n) c.get-3.ensures.value)
    c.new.ensures c.push.ensures.items c.push-2.ensures.items c.put_number.ensures.written
    c.array_append_number.ensures.items
    c.array_append_number-2.ensures.items
    c.put_action.ensures.written c.fill.ensures

pub returns-clause-reads : goal.returns-clause-reads
returns-clause-reads c = λ g sound.
    ap (read_slot g c.args.layout) (returns-clause-written c)
    ∙ slot_reads_back g c.args.layout c.args.entry.now (record {
      period = omega arith;
      directory = omega arith;
      cursor = omega arith;
      action = c.put_action.ensures.fits;
    }) sound

pub returns-clause-size : goal.returns-clause-size
returns-clause-size c = λ g sound.
    ap length (returns-clause-written c) ∙ written_length g c.args.layout c.args.entry.now sound
