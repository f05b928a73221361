use Rattle.std.proofs.Common.{[], ◌≡◌, ℕ, Bool, List, Option}
use Rattle.mot_commands.specs.Changing.{ChangesFile, texts}
use Rattle.mot_commands.specs.declared.asking.Words.TheVariants.{Objects}
use Rattle.mot_commands.proofs.Taken.{names-stay}
use Rattle.mot_commands.proofs.changing.withdraw_file.Goals as goal
use Rattle.mot_numbers.specs.declared.refusal.Refusal.{Refusal}
use Rattle.mot_outcome.proofs.Laws.{opens_more}
use Rattle.mot_playout.specs.Attempts.{fault_of}

pub returns-clause-files : goal.returns-clause-files
returns-clause-files g c =
    let names = texts c.args.names.now in
    let used = c.change_file.result.disk in
    opens_more [] c.args.path.now (λ before after. (all : Bool)
    × (ending : Option Refusal) × (old : Option (List ℕ)) × (new : Option (List ℕ))
    × ChangesFile Objects names all ending old new before after used) (λ opened now. now ≡ opened)
    (fault_of c.change_file.result.result) used
    (g.M.System.System.calls c.args.host.now.system)
    (g.M.System.System.calls c.change_file.new.host.system)
    (λ before after changes. names-stay names _ _ _ _ before after used changes.4) c.change_file.ensures.files
