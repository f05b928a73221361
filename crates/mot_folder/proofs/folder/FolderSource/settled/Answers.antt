use Rattle.std.proofs.Common.{◌≡◌, ◌∙◌, ◌-◌, ◌++◌, [], ap, not, subst, sym, take}
use Rattle.std.specs.Prelude.{slice_get}
use Rattle.mot_folder.proofs.Knowing.{knows_settled}
use Rattle.mot_folder.specs.Inner.Knowing.{NotesName}
use Rattle.mot_folder.specs.Inner.Reading.{TellsLook}
use Rattle.mot_update.specs.Looking.{was_settled}
use Rattle.mot_folder.proofs.Taken.{answers_kept, look_on}
use Rattle.mot_folder.specs.Inner.Names.{name_or_none}
use Rattle.mot_folder.specs.Log.{AreKept, TellsOf}
use Rattle.mot_folder.specs.Inner.Reasons.{and_settled}
use Rattle.mot_folder.proofs.folder.FolderSource.settled.Goals as goal
use Rattle.mot_shelf.specs.Reader.{reader_path}
use Rattle.mot_update.specs.Told.{TellsBoth, answers_of}

pub returns-clause-told : goal.returns-clause-told
returns-clause-told g c = λ since gave told was.
    let self = c.args.self.now in
    let types = self.types.now in
    let given = was.0 in
    let names = self.names.names.items in
    let report = c.tell_settled.new.report in
    let seen = take self.place names in
    let answers = answers_of (name_or_none (slice_get names (self.place - 1))) c.args.settled in
    let known = self.files.known.items in
    let path = reader_path self.shelf in
    let files = c.settle.new.self in
    let name = name_or_none (slice_get names (self.place - 1)) in
    let is : c.name_at-name.result.now ≡ name = c.name_at-name.ensures
    ∙ ap (λ n. name_or_none (slice_get names n)) c.saturating_sub-place.ensures in
    let notes : NotesName self.files files name (not (was_settled c.args.settled)) =
    subst (λ b. NotesName self.files files name b) c.is_refused.ensures
    (subst (λ n. NotesName self.files files (name_or_none (slice_get names n)) c.is_refused.result)
    c.saturating_sub-place.ensures c.settle.ensures.noted) in (
      given,
      was.1,
      (
        subst (λ v. TellsLook since types v.items path given names self.place report
            c.and_settled-waiting.result (told ++ answers) (gave ++ []))
            (sym c.settle.ensures.known)
            (look_on since types known path names given given self.place self.place self.report
            report self.sizes.waiting c.and_settled-waiting.result answers [] (λ is. is)
            (subst (λ n. TellsBoth (TellsOf types given self.report self.sizes.waiting seen)
            (TellsOf types given report n seen) answers []) (sym c.and_settled-waiting.ensures)
            (subst (λ n. AreKept given.kept (answers_of n c.args.settled)
            → TellsBoth (TellsOf types given self.report self.sizes.waiting seen)
            (TellsOf types given report (and_settled self.sizes.waiting c.args.settled) seen)
            (answers_of n c.args.settled) []) is (c.tell_settled.ensures.told types given seen)
            (answers_kept given.kept name c.args.settled (λ some. was.2.2 (c.requires some)))))
            gave told was.2.0),
        knows_settled given self.files files told name c.args.settled notes
            c.settle.ensures.known c.settle.ensures.read was.2.1,
        was.2.2,
      ),
    )
