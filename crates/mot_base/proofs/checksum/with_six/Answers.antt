use Rattle.std.proofs.Common.{get_or, arith, ap, ◌∙◌}
use Rattle.std.specs.Int.RustNames.{bit_xor}
use Rattle.mot_base.specs.declared.tables.TheConstants.{AFTER_40}
use Rattle.std.proofs.lemmas.Nat.{and_mask}
use Rattle.mot_base.proofs.Table.{six_out}
use Rattle.mot_base.proofs.checksum.with_six.Goals as goal

pub returns : goal.returns
returns c = six_out c.args.register c.args.a c.args.b c.args.c c.args.d c.args.e c.args.f
    c.after_48.result c.after_40.result c.after_32.result c.after_24.result
    c.after_16.result c.after_8.result
    (omega arith) (omega arith) (omega arith) (omega arith) (omega arith) (omega arith) (omega arith)
    c.after_48.ensures
    (c.after_40.ensures ∙ ap (λ low. get_or AFTER_40 (bit_xor low c.args.b) 0)
    (and_mask c.args.register 8))
    c.after_32.ensures c.after_24.ensures c.after_16.ensures c.after_8.ensures
