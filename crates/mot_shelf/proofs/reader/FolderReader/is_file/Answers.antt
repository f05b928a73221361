use Rattle.std.proofs.Common.{◌∙◌, None, ap, inl, inr, refl, sym}
use Rattle.mot_files.specs.Listing.{path_in}
use Rattle.mot_shelf.proofs.Asked.{unasked as refused}
use Rattle.mot_shelf.proofs.Asking.{looked_by}
use Rattle.mot_shelf.specs.Given.{and_asked}
use Rattle.mot_shelf.specs.Gives.Asks.{asked, unasked}
use Rattle.mot_shelf.proofs.reader.FolderReader.is_file.Goals as goal

pub returns-in-Ok-file_stamp-clause-asks : goal.returns-in-Ok-file_stamp-clause-asks
returns-in-Ok-file_stamp-clause-asks g c =
    let name = c.args.name.now in
    let of = c.in-Ok-file_stamp.ensures in
    let old = g.S.System.calls c.args.self.now.system in
    let new = g.S.System.calls c.file_stamp.new.system in
    let path = path_in c.args.self.now.path.now name in
    λ given. asked name c.in-Ok-file_stamp.stamp
    (inr (
      of.0,
      sym of.2,
      looked_by c.as_str.result.now path of.0 old new
          (c.as_str.ensures.value ∙ c.in-Ok.ensures.1) of.1,
    )) c.keep_stamp.ensures refl (ap (λ b. and_asked given name b) c.is_some.ensures)

pub returns-in-Err-clause-asks : goal.returns-in-Err-clause-asks
returns-in-Err-clause-asks g c =
    let name = c.args.name.now in
    let of = c.in-Err.ensures in
    let old = g.S.System.calls c.args.self.now.system in
    let new = g.S.System.calls c.file_stamp.new.system in
    let folder = c.args.self.now.path.now in
    λ given. unasked name
    (refused folder name of.0 c.in-Err.fault old new c.in-Ok.ensures.0 (sym of.2)
    (looked_by c.as_str.result.now (path_in folder name) of.0 old new
    (c.as_str.ensures.value ∙ c.in-Ok.ensures.1) of.1)) refl refl

pub returns-in-Err-NoText-clause-asks : goal.returns-in-Err-NoText-clause-asks
returns-in-Err-NoText-clause-asks g c =
    let none = rw c.in-Err-NoText.field-0-is at c.in-Err-NoText.ensures in
    λ given. asked c.args.name.now None (inl (refl, none, refl)) refl refl refl

pub returns-in-Err-TooLong-clause-asks : goal.returns-in-Err-TooLong-clause-asks
returns-in-Err-TooLong-clause-asks g c =
    let none = rw c.in-Err-TooLong.field-0-is at c.in-Err-TooLong.ensures in
    λ given. unasked c.args.name.now
    (record { text = none.0; calls = inl (refl, none.1) }) refl refl
