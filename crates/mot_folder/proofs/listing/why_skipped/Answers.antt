use Rattle.mot_folder.proofs.listing.why_skipped.Goals as goal
use Rattle.mot_shelf.proofs.Laws.{gives_one}
use Rattle.mot_shelf.specs.Gives.Gives.{none}

pub returns-then-not-is_text-clause-gave : goal.returns-then-not-is_text-clause-gave
returns-then-not-is_text-clause-gave g c = λ given. none

pub returns-in_err-kind-clause-gave : goal.returns-in_err-kind-clause-gave
returns-in_err-kind-clause-gave g c = λ given. gives_one _ _ given given (c.kind.ensures.asks given)

pub returns-in-Folder-clause-gave : goal.returns-in-Folder-clause-gave
returns-in-Folder-clause-gave g c = λ given. gives_one _ _ given given (c.kind.ensures.asks given)

pub returns-in-Link-clause-gave : goal.returns-in-Link-clause-gave
returns-in-Link-clause-gave g c = λ given. gives_one _ _ given given (c.kind.ensures.asks given)

pub returns-in-Pipe-clause-gave : goal.returns-in-Pipe-clause-gave
returns-in-Pipe-clause-gave g c = λ given. gives_one _ _ given given (c.kind.ensures.asks given)

pub returns-in-File-clause-gave : goal.returns-in-File-clause-gave
returns-in-File-clause-gave g c = λ given. gives_one _ _ given given (c.kind.ensures.asks given)

pub returns-in-File-2-clause-gave : goal.returns-in-File-2-clause-gave
returns-in-File-2-clause-gave g c = λ given. gives_one _ _ given given (c.kind.ensures.asks given)
