use Rattle.std.proofs.Common.{ℕ, Bool, List, [], Option, ◌≡◌, ◌⊎◌, inl, inr, subst, sym}
use Rattle.std.proofs.KnownBytes.{Keeps-refl}
use Rattle.mot_commands.specs.Changing.{ChangesFile, PutReads, PutsFiles, texts}
use Rattle.mot_commands.specs.declared.asking.Words.TheVariants.{Files}
use Rattle.mot_commands.proofs.Taken.{opened_behind}
use Rattle.mot_commands.proofs.changing.put.Goals as goal
use Rattle.mot_endpoints.specs.Opened.{Need, if_given}
use Rattle.mot_endpoints.specs.Texts.{IsUntyped}
use Rattle.mot_numbers.specs.declared.refusal.Refusal.{Refusal}
use Rattle.mot_numbers.specs.declared.refusal.Refusal.TheVariants.{DeviceFault}
use Rattle.mot_files.specs.Call.{Call}
use Rattle.mot_outcome.proofs.Laws.{concludes_more, opens_more}
use Rattle.mot_outcome.specs.Outcome.{Concludes, OpensAnd}
use Rattle.mot_playout.specs.Attempts.{fault_of}

pub returns-in-Ok-clause-ended : goal.returns-in-Ok-clause-ended
returns-in-Ok-clause-ended g c =
    let files = texts c.args.files.now in
    let types = c.args.types in
    let table = c.in-Ok.types in
    let used = c.change_file.result.disk in
    let old = g.W.Write.contents c.args.writer.now in
    let new = g.W.Write.contents c.change_file.new.writer in
    concludes_more (λ r. r ≡ DeviceFault) (λ r. IsUntyped types r ⊎ (r ≡ DeviceFault))
    (λ all ending. (before after : List Call)
    × ChangesFile (Files table) files all ending old new before after used)
    (λ all ending. (before after : List Call)
    × PutsFiles types files all ending used old new before after)
    used old new c.change_file.result.result (λ r early. inr early)
    (λ all ending puts. (puts.0, puts.1, (table, c.in-Ok.ensures.typed, puts.2)))
    c.change_file.ensures.ended

pub returns-in-Err-clause-ended : goal.returns-in-Err-clause-ended
returns-in-Err-clause-ended g c =
    let types = c.args.types in
    let old = g.W.Write.contents c.args.writer.now in
    subst (λ (f : _). Concludes (λ r. IsUntyped types r ⊎ (r ≡ DeviceFault))
    (λ all ending. (before after : List Call)
    × PutsFiles types (texts c.args.files.now) all ending f.disk old old before after)
    f.result f.disk old old)
    (sym c.unbegun.ensures)
    (inl (inl c.in-Err.ensures.refused, record { untouched = tt; silent = Keeps-refl _ }))

pub returns-in-Ok-clause-files : goal.returns-in-Ok-clause-files
returns-in-Ok-clause-files g c =
    let files = texts c.args.files.now in
    let types = c.args.types in
    let table = c.in-Ok.types in
    let used = c.change_file.result.disk in
    let ending = fault_of c.change_file.result.result in
    let old = g.M.System.System.calls c.args.host.now.system in
    let mid = g.M.System.System.calls c.file_types.new.host.system in
    let new = g.M.System.System.calls c.change_file.new.host.system in
    opened_behind (if_given Need.types types) c.args.path.now (PutReads types files used) ending
    used old mid new c.in-Ok.ensures.opens
    (opens_more [] c.args.path.now (λ before after. (all : Bool) × (ending : Option Refusal)
    × (old : Option (List ℕ)) × (new : Option (List ℕ))
    × ChangesFile (Files table) files all ending old new before after used) (PutReads types files used)
    ending used mid new (λ opened now puts. (
      puts.0,
      puts.1,
      puts.2,
      puts.3,
      (table, c.in-Ok.ensures.typed, puts.4),
    ))
    c.change_file.ensures.files)

pub returns-in-Err-clause-files : goal.returns-in-Err-clause-files
returns-in-Err-clause-files g c =
    let files = texts c.args.files.now in
    subst (λ (f : _). OpensAnd (if_given Need.types c.args.types) c.args.path.now
    (PutReads c.args.types files f.disk) (fault_of f.result) f.disk
    (g.M.System.System.calls c.args.host.now.system) (g.M.System.System.calls c.file_types.new.host.system))
    (sym c.unbegun.ensures) (inl c.in-Err.ensures.opens)
