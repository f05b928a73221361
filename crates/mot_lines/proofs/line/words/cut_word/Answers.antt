use Rattle.std.proofs.Common.{◌∷◌, ◌+◌, take, drop, nat_eq, refl, sym, ap, ◌∙◌}
use Rattle.std.proofs.lemmas.List.Splits.{slice_split_at}
use Rattle.mot_lines.specs.Fields.{words_of}
use Rattle.mot_lines.proofs.Pieces.{none_before, parts_at, split_none, slice_from}
use Rattle.mot_lines.proofs.line.words.cut_word.Goals as goal

pub returns-in-Some : goal.returns-in-Some
returns-in-Some c =
    let first = c.in-Some.ensures.0 in
    ap words_of (sym (parts_at 32 c.args.bytes.now c.in-Some.at first.high c.in-Some.ensures.1))
    ∙ slice_split_at (λ b. nat_eq b 32) (take c.in-Some.at c.args.bytes.now) 32
    (drop (c.in-Some.at + 1) c.args.bytes.now) (none_before 32 c.args.bytes.now c.in-Some.at first)
    refl
    ∙ ap (λ l. take c.in-Some.at c.args.bytes.now ∷ words_of l)
    (sym (slice_from c.args.bytes.now (c.in-Some.at + 1)))

pub returns-in-None : goal.returns-in-None
returns-in-None c = split_none 32 c.args.bytes.now c.in-None.ensures
