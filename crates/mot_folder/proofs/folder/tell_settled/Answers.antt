use Rattle.std.proofs.Common.{ℕ, List, [], subst, sym}
use Rattle.mot_folder.specs.Inner.Reasons.{and_settled}
use Rattle.mot_folder.specs.Log.{AreKept, TellsOf}
use Rattle.mot_folder.specs.declared.report.Report.{Report}
use Rattle.mot_folder.proofs.Taken.{of_answer}
use Rattle.mot_folder.proofs.folder.tell_settled.Goals as goal
use Rattle.mot_shelf.specs.Given.{Given}
use Rattle.mot_suffixes.specs.Types.{SuffixType}
use Rattle.mot_update.specs.Told.{Put, Replaced, TellsBoth, answers_of}
use Rattle.mot_update.specs.declared.settling.SettleOutcome.{SettleOutcome}

-- what is told of the object of this name, which was settled so
abbrev Tells : (old new : Report) → (waiting : ℕ) → (name : List ℕ) → SettleOutcome → Type 0
Tells old new waiting name settled =
    (types : List SuffixType) (given : Given) (names : List (List ℕ))
    → AreKept given.kept (answers_of name settled)
    → TellsBoth (TellsOf types given old waiting names)
    (TellsOf types given new (and_settled waiting settled) names) (answers_of name settled) []

pub returns-in-Put-clause-told : goal.returns-in-Put-clause-told
returns-in-Put-clause-told c =
    let old = c.args.report.now in
    let name = c.args.name.now in
    let waiting = c.args.sizes.waiting in
    let is = c.stored.ensures in
    subst (Tells old c.stored.new.self waiting name) (sym c.in-Put.is)
    (λ types given before kept. of_answer types given old c.stored.new.self waiting before
    (Put name c.in-Put.attempt) _ is.any is.stays kept.0 is.told)

pub returns-in-Replaced-clause-told : goal.returns-in-Replaced-clause-told
returns-in-Replaced-clause-told c =
    let old = c.args.report.now in
    let name = c.args.name.now in
    let waiting = c.args.sizes.waiting in
    let is = c.stored-in-Replaced.ensures in
    subst (Tells old c.stored-in-Replaced.new.self waiting name) (sym c.in-Replaced.is)
    (λ types given before kept. of_answer types given old c.stored-in-Replaced.new.self waiting before
    (Replaced name c.in-Replaced.attempt) _ is.any is.stays kept.0 is.told)
