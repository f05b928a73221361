use Rattle.std.proofs.Common.{subst}
use Rattle.mot_folder.proofs.folder.is_unchanged.Goals as goal
use Rattle.mot_shelf.proofs.Laws.{gives_one}
use Rattle.mot_shelf.specs.Given.{and_unchanged}
use Rattle.mot_shelf.specs.Gives.{Gives}
use Rattle.mot_shelf.specs.Reader.{view}

pub returns-in-Some : goal.returns-in-Some
returns-in-Some g c = λ is given.
    let now = view g.S.System.calls c.args.shelf.now in
    let stamp = c.in-Some.stamp in (
      stamp,
      c.in-Some.ensures,
      subst (λ n. Gives now given now (and_unchanged given n stamp)) c.as_bytes.ensures.value
          (gives_one now now given _ (c.is_unchanged.ensures is given)),
    )
