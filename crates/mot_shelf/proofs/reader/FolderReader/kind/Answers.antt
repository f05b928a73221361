use Rattle.std.proofs.Common.{◌∙◌, inl, inr, refl}
use Rattle.mot_files.specs.Listing.{path_in}
use Rattle.mot_shelf.proofs.Asking.{looked_by, no_path}
use Rattle.mot_shelf.specs.Gives.Asks.{looked_at}
use Rattle.mot_shelf.proofs.reader.FolderReader.kind.Goals as goal

pub returns-in-Ok-clause-asks : goal.returns-in-Ok-clause-asks
returns-in-Ok-clause-asks g c =
    let name = c.args.name.now in
    let of = c.kind_at.ensures in
    let path = path_in c.args.self.now.path.now name in
    λ given. looked_at name (inr (
      of.0,
      looked_by c.as_str.result.now path of.0
          (g.S.System.calls c.args.self.now.system) (g.S.System.calls c.kind_at.new.system)
          (c.as_str.ensures.value ∙ c.in-Ok.ensures.1) of.1,
    )) refl refl

pub returns-in-Err-clause-asks : goal.returns-in-Err-clause-asks
returns-in-Err-clause-asks g c =
    let name = c.args.name.now in
    λ given. looked_at name
    (inl (refl, no_path c.args.self.now.path.now name c.in-Err.field-0 c.in-Err.ensures)) refl refl
