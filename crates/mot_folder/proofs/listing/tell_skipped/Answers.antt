use Rattle.std.proofs.Common.{refl}
use Rattle.mot_folder.specs.Inner.Listing.Skips.{told_so}
use Rattle.mot_folder.proofs.Log.{tells_note}
use Rattle.mot_folder.proofs.Nameless.{nameless_note}
use Rattle.mot_folder.proofs.listing.tell_skipped.Goals as goal
use Rattle.mot_shelf.specs.Gives.Gives.{none}

pub returns-in-Some-clause-told : goal.returns-in-Some-clause-told
returns-in-Some-clause-told g c =
    tells_note c.args.report.now c.skipped.new.self c.args.name.now _ refl c.skipped.ensures.told

pub returns-in-Some-clause-further : goal.returns-in-Some-clause-further
returns-in-Some-clause-further g c = λ files was.
    nameless_note files c.args.report.now c.skipped.new.self c.args.name.now _ refl
    c.skipped.ensures.same c.skipped.ensures.told was

pub returns-in-Some-clause-skips : goal.returns-in-Some-clause-skips
returns-in-Some-clause-skips g c =
    told_so c.in-Some.skip c.in-Some.ensures.why c.skipped.ensures.told

pub returns-then-is_hidden-clause-gave : goal.returns-then-is_hidden-clause-gave
returns-then-is_hidden-clause-gave g c = λ given. none
