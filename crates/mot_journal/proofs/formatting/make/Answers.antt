use Rattle.std.proofs.Common.{[], ◌∷◌, arith, ⊎_elim, inl, inr}
use Rattle.std.proofs.lemmas.Result.{on_ok_weaker}
use Rattle.disk_model.proofs.Laws.{weakens}
use Rattle.mot_journal.specs.Image.{area_of}
use Rattle.mot_journal.specs.Inner.Format.{first_record}
use Rattle.mot_journal.specs.Journal.{NoneOrFrom}
use Rattle.mot_journal.specs.Making.{NoneOrMade}
use Rattle.mot_journal.proofs.Making.{first_sound}
use Rattle.mot_journal.proofs.NewDisk.{first_folds, new_is}
use Rattle.mot_journal.proofs.formatting.make.Goals as goal

pub make_disk-requires-clause-sound : goal.make_disk-requires-clause-sound
make_disk-requires-clause-sound g c =
    first_sound c.args.geometry.now c.args.directory (omega arith)

pub returns-clause-any_moment : goal.returns-clause-any_moment
returns-clause-any_moment g c = λ honest no_magic.
    let old = g.D.Disk.state c.args.disk.now in
    let geometry = c.args.geometry.now in
    let directory = c.args.directory in
    let tail = area_of geometry old.bytes in
    weakens old (g.D.Disk.state c.make_disk.new.disk)
    (NoneOrMade geometry (first_record directory ∷ []) tail) (NoneOrFrom geometry directory)
    ((c.make_disk.ensures.makes honest).any_moment (first_folds geometry.objects directory)
    no_magic)
    (λ image is. ⊎_elim (λ none. inl none)
    (λ made. inr (new_is geometry directory tail image made)) is)

pub returns-clause-ok : goal.returns-clause-ok
returns-clause-ok g c = λ honest.
    let geometry = c.args.geometry.now in
    let directory = c.args.directory in
    let tail = area_of geometry (g.D.Disk.state c.args.disk.now).bytes in
    on_ok_weaker c.make_disk.result
    (λ each image left. new_is geometry directory tail image (each image left))
    ((c.make_disk.ensures.makes honest).ok (first_folds geometry.objects directory))

pub returns-clause-area : goal.returns-clause-area
returns-clause-area g c = λ honest. (c.make_disk.ensures.makes honest).area
