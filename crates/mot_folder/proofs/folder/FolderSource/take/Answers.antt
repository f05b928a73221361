use Rattle.std.proofs.Common.{◌≡◌, ◌∙◌, ◌-◌, ◌++◌, ◌∷◌, [], ap, false, refl, subst, sym, true}
use Rattle.std.specs.Prelude.{slice_get}
use Rattle.mot_folder.proofs.Knowing.{keeps_on, knows_noted, knows_on, knows_plain, misses_on}
use Rattle.mot_folder.proofs.Taken.{known_last, then_kept, then_left, then_taken}
use Rattle.mot_folder.specs.Inner.Names.{name_or_none}
use Rattle.mot_folder.specs.Inner.Reading.{TellsFile, TellsLook}
use Rattle.mot_folder.proofs.folder.FolderSource.take.Goals as goal
use Rattle.mot_shelf.specs.Given.{and_kept, and_missed}
use Rattle.mot_shelf.specs.Gives.Gives.{more}
use Rattle.mot_shelf.specs.Reader.{reader_path}
use Rattle.mot_update.specs.Updating.{is_known}

pub returns-then-not-is_new-clause-told : goal.returns-then-not-is_new-clause-told
returns-then-not-is_new-clause-told g c = λ since given told was.
    let self = c.args.self.now in
    let wanted = c.args.wanted.now in (
      was.0,
      was.1,
      (
        then_taken since self.types.now self.files.known.items (reader_path self.shelf)
            self.names.names.items was.0 self.place self.report c.note_image.new.report
            self.sizes.waiting wanted c.note_image.ensures.notes given told was.2.0,
        knows_plain was.0 self.files told was.2.1,
        λ kept. absurd (let no : false ≡ true = sym was.2.2 ∙ kept in cc),
      ),
    )

pub returns-clause-told : goal.returns-clause-told
returns-clause-told g c = λ since given told was.
    let self = c.args.self.now in
    let types = self.types.now in
    let known = self.files.known.items in
    let names = self.names.names.items in
    let wanted = c.args.wanted.now in
    let report = c.note_image-2.new.report in
    let after = c.keep.new.self in
    let name = c.as_bytes-name.result.now in
    let new = and_kept was.0 name in
    let last = name_or_none (slice_get names (self.place - 1)) in
    let is : name ≡ last = c.as_bytes-name.ensures.value ∙ sym c.requires in (
      new,
      more _ was.0 was.1 (c.in_default.ensures.asks was.0),
      (
        subst (λ p. TellsLook since types known p new names self.place report self.sizes.waiting
            (told ++ []) (given ++ wanted ∷ [])) (sym c.in_default.ensures.same)
            (then_kept since types known (reader_path self.shelf) names was.0 new self.place self.report
            report self.sizes.waiting wanted name refl c.note_image-2.ensures.notes given told
            was.2.0),
        knows_plain new self.files told
            (knows_on was.0 new self.files told (keeps_on was.0 new name refl) was.2.1),
        λ kept. subst (λ n. is_known (was.0.kept ++ name ∷ []) n ≡ true) is
            (known_last was.0.kept name),
      ),
    )

pub returns-in-Err-clause-told : goal.returns-in-Err-clause-told
returns-in-Err-clause-told g c = λ since given told was.
    let self = c.args.self.now in
    let types = self.types.now in
    let known = self.files.known.items in
    let names = self.names.names.items in
    let wanted = c.args.wanted.now in
    let report = c.tell_untaken.new.report in
    let is = c.as_bytes-name.ensures.value in
    let name = c.as_bytes-name.result.now in
    let new = and_missed was.0 name in (
      new,
      more _ was.0 was.1 (c.in-Err.ensures.asks was.0),
      (
        subst (λ v. TellsLook since types v.items (reader_path c.keep.new.self) new names self.place
            report self.sizes.waiting (told ++ []) (given ++ [])) (sym c.settle.ensures.known)
            (subst (λ p. TellsLook since types known p new names self.place report
            self.sizes.waiting (told ++ []) (given ++ [])) (sym c.in-Err.ensures.same)
            (then_left since types known (reader_path self.shelf) names was.0 new self.place self.report
            report self.sizes.waiting wanted (ap (and_missed was.0) is)
            c.tell_untaken.ensures.any c.tell_untaken.ensures.stays
            (subst (λ n. TellsFile self.report report n) is c.tell_untaken.ensures.told) given told
            was.2.0)),
        knows_plain new c.settle.new.self told
            (knows_noted new self.files c.settle.new.self told _ c.settle.ensures.noted
            c.settle.ensures.known c.settle.ensures.read
            (knows_on was.0 new self.files told (misses_on was.0 new name refl) was.2.1)),
        λ kept. absurd (let no : false ≡ true = sym was.2.2 ∙ kept in cc),
      ),
    )
