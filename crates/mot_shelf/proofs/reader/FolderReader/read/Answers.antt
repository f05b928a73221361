use Rattle.std.proofs.Common.{◌∙◌, inl, inr, refl, subst}
use Rattle.mot_shelf.proofs.Asking.{by_result, no_path}
use Rattle.mot_files.specs.Stamping.{IsReadStamped, IsUnreadStamped}
use Rattle.mot_shelf.specs.Gives.Asks.{read, unread}
use Rattle.mot_shelf.proofs.reader.FolderReader.read.Goals as goal

pub returns-in-Ok-clause-asks : goal.returns-in-Ok-clause-asks
returns-in-Ok-clause-asks g c =
    let name = c.args.name.now in
    let at_once = c.args.self.now.at_once in
    let old = g.S.System.calls c.args.self.now.system in
    let new = g.S.System.calls c.read_stamped.new.system in
    let place = c.as_str.ensures.value ∙ c.in-Ok.ensures.1 in
    λ given. by_result c.read_stamped.result c.read_stamped.ensures.calls
    (λ file is. read name file.bytes.items c.args.most file.stamp
    (subst (λ p. IsReadStamped p c.args.most at_once file.bytes.items file.stamp old new) place is)
    refl refl)
    (λ why is. unread name c.args.most why
    (inr (subst (λ p. IsUnreadStamped p c.args.most at_once why old new) place is)) refl refl)

pub returns-in-Err-clause-asks : goal.returns-in-Err-clause-asks
returns-in-Err-clause-asks g c = λ given.
    unread c.args.name.now c.args.most c.unread.result
    (inl (refl, no_path c.args.self.now.path.now c.args.name.now c.in-Err.none c.in-Err.ensures))
    refl refl
