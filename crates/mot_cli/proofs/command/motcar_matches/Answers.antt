use Rattle.std.proofs.Common.{◌≡◌, ◌∙◌, ap, map, rules, subst}
use Rattle.std.proofs.lemmas.Result.{IfOk-weaker}
use Rattle.clap.specs.Words.{App, FailsBy, HasMatchesOf, app_of, fault_of}
use Rattle.clap.specs.Words.{is_simple_and_free}
use Rattle.mot_cli.proofs.Alone.{matches_alike}
use Rattle.mot_cli.proofs.Asked.{fault_kind}
use Rattle.mot_cli.proofs.command.motcar_matches.Goals as goal

pub returns-clause-matches : goal.returns-clause-matches
returns-clause-matches g c =
    let words = map g.S.AsStr.text c.args.words.now in
    let noted : app_of c.after_help.result ≡ app_of c.in_ok-command.command = search rules in
    IfOk-weaker c.try_get_matches_from.result _ _
    (λ m h. matches_alike _ words m c.verbs_for.ensures
    (subst (λ (a : App). HasMatchesOf a words m) (noted ∙ c.in_ok-command.ensures.0) h))
    c.try_get_matches_from.ensures.matches

pub returns-clause-kinds : goal.returns-clause-kinds
returns-clause-kinds g c =
    let words = map g.S.AsStr.text c.args.words.now in
    let noted : app_of c.after_help.result ≡ app_of c.in_ok-command.command = search rules in
    let app = noted ∙ c.in_ok-command.ensures.0 in
    let alike = c.verbs_for.ensures in
    fault_kind _ c.try_get_matches_from.result
    (subst (λ kinds. FailsBy kinds c.try_get_matches_from.result)
    (ap (λ (a : App). fault_of a words) app ∙ alike.faults)
    (c.try_get_matches_from.ensures.kinds (ap is_simple_and_free app ∙ alike.is_simple)))
