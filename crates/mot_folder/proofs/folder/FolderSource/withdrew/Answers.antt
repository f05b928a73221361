use Rattle.std.proofs.Common.{[], subst, take}
use Rattle.mot_events.specs.declared.event.LookStep.TheVariants as step
use Rattle.mot_events.specs.declared.event.Why.TheVariants.{Unsaid}
use Rattle.mot_folder.specs.Log.{TellsOne, answered}
use Rattle.mot_folder.proofs.Knowing.{knows_withdrew}
use Rattle.mot_folder.proofs.Taken.{look_on, of_answer}
use Rattle.mot_folder.proofs.folder.FolderSource.withdrew.Goals as goal
use Rattle.mot_shelf.specs.Reader.{reader_path}
use Rattle.mot_update.specs.Told.{Withdrew}

pub returns-clause-told : goal.returns-clause-told
returns-clause-told g c = λ since gave told was.
    let self = c.args.self.now in
    let types = self.types.now in
    let names = self.names.names.items in
    let given = was.0 in (
      given,
      was.1,
      (
        look_on since types self.files.known.items (reader_path self.shelf) names given given self.place
            self.place self.report c.answered.new.self self.sizes.waiting self.sizes.waiting _ []
            (λ is. is)
            (of_answer types given self.report c.answered.new.self self.sizes.waiting
            (take self.place names) (Withdrew c.args.name.now c.args.attempt) Unsaid
            c.answered.ensures.any c.answered.ensures.stays tt
            (subst (λ n. TellsOne self.report c.answered.new.self
            (answered step.Withdraw n c.args.attempt)) c.as_bytes-name.ensures.value
            c.answered.ensures.told)) gave told was.2.0,
        knows_withdrew given self.files told c.args.name.now c.args.attempt was.2.1,
        was.2.2,
      ),
    )
