-- How the beginning of playing is told.
use Rattle.std.proofs.Common.{◌≡◌, ◌∙◌, ℕ, Bool, false, List, [], ap}
use Rattle.mot_air.specs.Telling.{no_looks}
use Rattle.mot_folder.specs.Looked.{so_far}
use Rattle.mot_folder.specs.declared.known.Known.{Known}
use Rattle.mot_shelf.specs.View.{FolderView}

-- no look has come
pub none_yet : (left : ℕ) (folder at : FolderView) (refused : Bool) (files : List Known) → left ≡ 0
    → folder ≡ at → refused ≡ false → files ≡ [] → so_far left folder refused files ≡ no_looks at
none_yet left folder at refused files due same fine no_file =
    ap (λ n. so_far n folder refused files) due
    ∙ ap (λ f. so_far 0 f refused files) same
    ∙ ap (λ r. so_far 0 at r files) fine
    ∙ ap (so_far 0 at false) no_file
