use Rattle.std.proofs.Common.{◌≡◌, ◌∙◌, List, ap, false, subst, sym}
use Rattle.mot_folder.specs.declared.guard.Guard.{Guard}
use Rattle.std.specs.Result.{result_unwrap_or}
use Rattle.mot_sync_command.specs.Syncing.{SyncsBy}
use Rattle.mot_sync_command.proofs.syncing.sync_shelf.Goals as goal
use Rattle.mot_playout.specs.Attempts.{fault_of}
use Rattle.mot_shelf.specs.Reader.{view}
use Rattle.mot_shelf.specs.View.{FolderView}
use Rattle.mot_suffixes.specs.Types.{SuffixType}

-- the types, the guard and the folder are those that are told
told : (P : List SuffixType → Guard → FolderView → Type 0) (t u : List SuffixType) (a b : Guard)
    (f h : FolderView) → t ≡ u → a ≡ b → f ≡ h → P t a f → P u b h
told P t u a b f h types guard folder is =
    subst (λ (x : List SuffixType). P x b h) types
    (subst (λ (x : Guard). P t x h) guard
    (subst (λ (x : FolderView). P t a x) folder is))

pub returns : goal.returns
returns g c =
    let ended = c.sync_or_try-ended.result in
    let folder = c.new-folder.result in
    let after = view g.Y.System.calls c.sync_or_try-ended.new.folder.shelf in (
      after,
      sym (c.into_calls.ensures ∙ ap g.Y.System.calls c.into_system.ensures),
      told (λ ts al at. SyncsBy c.args.task.now.dry_run ts al at after (g.D.Disk.state c.args.disk)
          (g.D.Disk.state ended.disk) (result_unwrap_or ended.result false)
          (fault_of ended.result) (g.W.Write.contents c.args.log.now)
          (g.W.Write.contents c.sync_or_try-ended.new.log))
          folder.types.now c.args.types.now folder.guard _
          (view g.Y.System.calls folder.shelf) (view g.Y.System.calls c.args.shelf)
          c.new-folder.ensures.types (c.new-folder.ensures.guard ∙ c.of-guard.ensures)
          (ap (view g.Y.System.calls) c.new-folder.ensures.shelf)
          c.sync_or_try-ended.ensures,
    )
