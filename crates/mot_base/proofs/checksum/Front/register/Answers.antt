use Rattle.mot_base.proofs.Words.{four_words_out}
use Rattle.mot_base.proofs.checksum.Front.register.Goals as goal

pub returns : goal.returns
returns c = λ n rest. four_words_out c.args.self.first c.args.self.second c.args.self.third
    c.args.self.fourth c.over_two-second.result.0 c.over_two-second.result.1
    c.over_two-third.result.0 c.over_two-third.result.1
    c.with_word.result c.with_word-2.result n rest
    c.over_two-second.ensures c.over_two-third.ensures c.with_word.ensures c.with_word-2.ensures
