use Rattle.std.proofs.Common.{◌∙◌, Err, Ok, inl, inr, refl, subst}
use Rattle.mot_files.specs.Lasting.{MakesLast}
use Rattle.mot_shelf.proofs.Asking.{no_path}
use Rattle.mot_shelf.specs.Gives.Asks.{kept, unkept}
use Rattle.mot_shelf.proofs.reader.FolderReader.keep.Goals as goal

pub returns-in-Ok-make_last-clause-asks : goal.returns-in-Ok-make_last-clause-asks
returns-in-Ok-make_last-clause-asks g c = λ given.
    kept c.args.name.now
    (subst (λ place. MakesLast place c.args.self.now.path.now (Ok tt)
    (g.S.System.calls c.args.self.now.system) (g.S.System.calls c.make_last.new.system))
    (c.as_str.ensures.value ∙ c.in-Ok.ensures.1) c.in-Ok-make_last.ensures) refl refl

pub returns-in-Err-make_last-clause-asks : goal.returns-in-Err-make_last-clause-asks
returns-in-Err-make_last-clause-asks g c = λ given.
    unkept c.args.name.now c.in-Err-make_last.unread
    (inr (subst (λ place. MakesLast place c.args.self.now.path.now (Err c.in-Err-make_last.unread)
    (g.S.System.calls c.args.self.now.system) (g.S.System.calls c.make_last.new.system))
    (c.as_str.ensures.value ∙ c.in-Ok.ensures.1) c.in-Err-make_last.ensures)) refl refl

pub returns-in-Err-clause-asks : goal.returns-in-Err-clause-asks
returns-in-Err-clause-asks g c = λ given.
    unkept c.args.name.now c.unread.result
    (inl (refl, no_path c.args.self.now.path.now c.args.name.now c.in-Err.none c.in-Err.ensures))
    refl refl
