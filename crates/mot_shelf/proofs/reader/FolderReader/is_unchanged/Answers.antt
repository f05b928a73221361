use Rattle.std.proofs.Common.{refl, subst, sym}
use Rattle.mot_shelf.specs.Calls.{FileIsUnchanged}
use Rattle.mot_shelf.specs.Gives.Asks.{unchanged}
use Rattle.mot_shelf.specs.Reader.{seen_in}
use Rattle.mot_shelf.proofs.reader.FolderReader.is_unchanged.Goals as goal

pub returns-in-Some : goal.returns-in-Some
returns-in-Some g c = λ is given.
    let name = c.args.name.now in
    let stamp = c.args.stamp.now in
    unchanged name stamp
    (subst (λ seen. FileIsUnchanged (seen_in seen) name stamp) (sym c.in-Some.is) (c.has.ensures is))
    refl refl
