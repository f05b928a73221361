use Rattle.std.proofs.Common.{arith}
use Rattle.mot_base.proofs.Folding.{word_folded}
use Rattle.mot_base.proofs.checksum.Front.folded.Goals as goal

pub returns : goal.returns
returns c = λ n rest. word_folded c.args.self.first c.args.self.second c.args.self.third
    c.args.self.fourth c.args.next
    n rest (omega arith)
