use Rattle.std.proofs.Common.{◌∙◌, map}
use Rattle.mot_cli.proofs.Alone.{all_alike, named_alike}
use Rattle.mot_cli.proofs.command.verbs_for.Goals as goal

pub returns-in-None : goal.returns-in-None
returns-in-None g c =
    all_alike _ (map g.S.AsStr.text c.args.words.now) c.requires.all

pub returns-in-Some-verb_named : goal.returns-in-Some-verb_named
returns-in-Some-verb_named g c =
    let named = c.in-Some-verb_named.ensures in
    named_alike g.S.AsStr.text c.args.verbs.now c.from_ref.result.now c.in-Some-verb_named.verb.now
    c.args.words.now c.in-Some.word.now named.0 (named.1 ∙ c.as_str.ensures)
    c.from_ref.ensures.value c.in-Some.ensures.value c.requires.each
