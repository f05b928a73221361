use Rattle.std.proofs.Common.{ℕ, ◌++◌, ◌∷◌, [], ◌∙◌, ap, refl, Ok}
use Rattle.mot_files.specs.Call.{read}
use Rattle.mot_files.proofs.Laws.{step}
use Rattle.mot_shelf.specs.Calls.NamesAreRead.{none, some}
use Rattle.mot_shelf.specs.Calls.NamesAreUnread.{failed, none as unopened}
use Rattle.mot_shelf.proofs.reader.next_names.Goals as goal

pub returns-in-Ok-eq0-clause-calls : goal.returns-in-Ok-eq0-clause-calls
returns-in-Ok-eq0-clause-calls g c =
    none c.in-Some.handle c.in-Some.is refl refl
    (step _ c.close.ensures (c.in-Ok-eq0.ensures.noted ∙ ap (λ (n : ℕ).
    g.S.System.calls c.args.system.now ++ read c.in-Some.handle c.read.new.room (Ok n) ∷ [])
    c.in-Ok-eq0.field-0-test))

pub returns-in-Ok-clause-calls : goal.returns-in-Ok-clause-calls
returns-in-Ok-clause-calls g c =
    some c.in-Some.handle c.in-Some.is refl c.in-Ok.count-test.1 c.in-Ok.ensures.noted

pub returns-in_default-clause-refused : goal.returns-in_default-clause-refused
returns-in_default-clause-refused g c = unopened c.in_default.is refl refl

pub returns-in-Err-clause-refused : goal.returns-in-Err-clause-refused
returns-in-Err-clause-refused g c =
    failed c.in-Some.handle c.in-Err.fault c.in-Some.is refl c.in-Err.ensures.noted
