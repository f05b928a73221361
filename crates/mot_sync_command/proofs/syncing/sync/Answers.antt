use Rattle.std.proofs.Common.{ℕ, Bool, List, Option, ◌∙◌, ◌≡◌, [], ◌∷◌, ap, false, inl, refl, subst}
use Rattle.std.proofs.Common.{sym, true}
use Rattle.std.proofs.KnownBytes.{Keeps-refl}
use Rattle.std.specs.Result.{result_unwrap_or}
use Rattle.disk_model.specs.Disk.{KeepsLength, OnlySyncs, State}
use Rattle.disk_store.proofs.Laws.{since_opened}
use Rattle.disk_store.specs.Begun.{begun_state}
use Rattle.disk_store.specs.File.{ram_state}
use Rattle.mot_endpoints.specs.Opened.{IsReadAlike, Need, if_given}
use Rattle.mot_folder.specs.Guard.{guard_of}
use Rattle.mot_folder.specs.declared.guard.Guard.{Guard}
use Rattle.mot_files.specs.Call.{Call}
use Rattle.mot_numbers.specs.declared.refusal.Refusal.{Refusal}
use Rattle.mot_outcome.proofs.Laws.{begun_first, both_met, concludes_so}
use Rattle.mot_outcome.specs.Outcome.{Concludes, OpensOrReads}
use Rattle.mot_outcome.specs.declared.used.UsedDisk.TheVariants.{InMemory, OfFile}
use Rattle.mot_playout.specs.Attempts.{fault_of}
use Rattle.mot_shelf.specs.View.{FolderView, folder_at}
use Rattle.mot_suffixes.specs.Types.{SuffixType}
use Rattle.mot_sync_command.proofs.syncing.sync.Goals as goal
use Rattle.mot_sync_command.specs.Syncing.{IsUnsynced, SyncsBy, SyncsTask, synced_with}

-- whichever it was, the disk is as long as before
keeps_by : (dry_run : Bool) (table : List SuffixType) (guard : Guard)
    (folder then_folder : FolderView) (start now : State) (all : Bool) (ending : Option Refusal)
    (old new : Option (List ℕ))
    → SyncsBy dry_run table guard folder then_folder start now all ending old new
    → KeepsLength start now
keeps_by false table guard folder then_folder start now all ending old new is = is.keeps
keeps_by true table guard folder then_folder start now all ending old new is = is.0.keeps

-- and where it was a copy, only synced
only_syncs : (dry_run : Bool) (table : List SuffixType) (guard : Guard)
    (folder then_folder : FolderView) (start now : State) (all : Bool) (ending : Option Refusal)
    (old new : Option (List ℕ)) → dry_run ≡ true
    → SyncsBy dry_run table guard folder then_folder start now all ending old new
    → OnlySyncs start now
only_syncs false table guard folder then_folder start now all ending old new dry is = absurd (cc (dry))
only_syncs true table guard folder then_folder start now all ending old new dry is = is.0

pub returns-in-Err-clause-opens : goal.returns-in-Err-clause-opens
returns-in-Err-clause-opens g c =
    let types = if_given Need.types c.args.task.now.types in
    let others = Need.folder c.args.task.now.folder.now ∷ [] in
    let old = g.M.System.System.calls c.args.host.now.system in
    let new = g.M.System.System.calls c.file_types.new.host.system in
    subst (λ (f : _). OpensOrReads c.args.task.now.dry_run (synced_with c.args.task.now) c.args.task.now.disk.now
    (fault_of f.result) f.disk old new)
    (sym c.unbegun.ensures)
    (inl (begun_first types others old new c.in-Err.unbegun.refusal c.in-Err.ensures.opens))

pub returns-in-Err-clause-ended : goal.returns-in-Err-clause-ended
returns-in-Err-clause-ended g c =
    let task = c.args.task.now in
    let old = g.W.Write.contents c.args.log.now in
    subst (λ (f : _). Concludes (IsUnsynced task.types) (λ all ending.
    SyncsTask task all ending f.disk old old) f.result f.disk old old)
    (sym c.unbegun.ensures)
    (inl (inl c.in-Err.ensures.refused, record { untouched = tt; silent = Keeps-refl _ }))

pub returns-in-Ok-disk-clause-ended : goal.returns-in-Ok-disk-clause-ended
returns-in-Ok-disk-clause-ended g c =
    let opens = c.in-Ok-disk.ensures in
    let ended = c.sync_shelf-ended.result.0 in
    let types = c.in-Ok.types in
    let task = c.args.task.now in
    let guard = guard_of task.rules.allow_empty task.rules.keep_most in
    let at = folder_at task.folder.now task.rules.at_once [] in
    let old = g.W.Write.contents c.args.log.now in
    let new = g.W.Write.contents c.sync_shelf-ended.new.log in
    let all = result_unwrap_or ended.result false in
    let ending = fault_of ended.result in
    let after = c.sync_shelf-ended.ensures.0 in
    let calls = c.sync_shelf-ended.ensures.1 in
    let is = c.sync_shelf-ended.ensures.2 in
    let used = OfFile ended.disk.disk c.folder.result in
    subst (λ (f : _). Concludes (IsUnsynced task.types) (λ all ending.
    SyncsTask task all ending f.disk old new) f.result f.disk old new)
    (sym c.of_file.ensures)
    (concludes_so _ (λ all ending. SyncsTask task all ending used old new) used old new
    ended.result (
      types,
      c.in-Ok.ensures.typed,
      (
        after,
        calls ∙ ap (λ (b : _). b.all) (sym c.folder.ensures),
        since_opened c.in-Ok-disk.disk.disk ended.disk.disk
            (λ start now. SyncsBy task.dry_run types guard at after start now all ending old new)
            opens.first ended.disk.begins
            (keeps_by task.dry_run types guard _ after _ _ all ending old new is)
            (subst (λ (f : FolderView). SyncsBy task.dry_run types guard f after
            (begun_state c.in-Ok-disk.disk) (begun_state ended.disk) all ending old new)
            c.folder-shelf.ensures.view is),
      ),
    ))

pub returns-in-Ok-disk-clause-opens : goal.returns-in-Ok-disk-clause-opens
returns-in-Ok-disk-clause-opens g c =
    let calls = g.M.System.System.calls in
    let task = c.args.task.now in
    let then = calls c.folder-shelf.new.self.system in
    subst (λ (f : _). OpensOrReads task.dry_run (synced_with task) task.disk.now (fault_of f.result) f.disk
    (calls c.args.host.now.system) (calls c.clear_after.new.host.system))
    (sym c.of_file.ensures) (
      then,
      both_met (if_given Need.types task.types) (Need.folder task.folder.now ∷ [])
          (calls c.args.host.now.system) (calls c.file_types.new.host.system) then
          c.in-Ok.ensures.opens (then, c.folder-shelf.ensures.calls, refl),
      ap calls c.clear_after.ensures ∙ c.in-Ok-disk.ensures.calls,
    )

pub returns-clause-ended : goal.returns-clause-ended
returns-clause-ended g c =
    let ended = c.sync_shelf-ended-in-Err-disk.result.0 in
    let types = c.in-Ok.types in
    let task = c.args.task.now in
    let guard = guard_of task.rules.allow_empty task.rules.keep_most in
    let old = g.W.Write.contents c.args.log.now in
    let new = g.W.Write.contents c.sync_shelf-ended-in-Err-disk.new.log in
    let all = result_unwrap_or ended.result false in
    let ending = fault_of ended.result in
    let after = c.sync_shelf-ended-in-Err-disk.ensures.0 in
    let is = c.sync_shelf-ended-in-Err-disk.ensures.2 in
    let looks = c.in-Some.ensures.looks in
    let used = InMemory ended.disk c.in-Err-disk.unopened.start in
    subst (λ (f : _). Concludes (IsUnsynced task.types) (λ all ending.
    SyncsTask task all ending f.disk old new) f.result f.disk old new)
    (sym c.in_memory.ensures)
    (concludes_so _ (λ all ending. SyncsTask task all ending used old new) used old new
    ended.result (
      types,
      c.in-Ok.ensures.typed,
      (
        looks,
        (
          after,
          c.in-Some.copy,
          subst (λ (b : Bool). SyncsBy b types guard (folder_at task.folder.now task.rules.at_once []) after
              (ram_state c.in-Some.copy) (ram_state ended.disk) all ending old new) looks
              (subst (λ (f : FolderView). SyncsBy task.dry_run types guard f after
              (ram_state c.in-Some.copy) (ram_state ended.disk) all ending old new)
              c.folder-shelf.ensures.view is),
        ),
      ),
    ))

pub returns-clause-opens : goal.returns-clause-opens
returns-clause-opens g c =
    let calls = g.M.System.System.calls in
    let task = c.args.task.now in
    let ended = c.sync_shelf-ended-in-Err-disk.result.0 in
    let then = calls c.folder-shelf.new.self.system in
    let path = task.disk.now in
    let new = calls c.copy_unopened-copy.new.system in
    let looks = c.in-Some.ensures.looks in
    let still = only_syncs task.dry_run _ _ _ _ _ _ _ _ _ _ looks c.sync_shelf-ended-in-Err-disk.ensures.2 in
    subst (λ (f : _). OpensOrReads task.dry_run (synced_with task) path (fault_of f.result) f.disk
    (calls c.args.host.now.system) new)
    (sym c.in_memory.ensures) (
      looks,
      (
        then,
        both_met (if_given Need.types task.types) (Need.folder task.folder.now ∷ [])
            (calls c.args.host.now.system) (calls c.file_types.new.host.system) then
            c.in-Ok.ensures.opens (then, c.folder-shelf.ensures.calls, refl),
        subst (λ (l : List Call). IsReadAlike path (ram_state ended.disk).bytes l new) c.in-Err-disk.ensures.calls
            (subst (λ (bytes : List ℕ). IsReadAlike path bytes (calls c.disk.new.self.system) new)
            (sym (still.still tt).bytes) c.in-Some.ensures.alike),
      ),
    )
