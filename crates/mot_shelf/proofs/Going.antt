-- What a folder gave goes on from moment to moment.
use Rattle.std.proofs.Common.{◌≡◌, ◌∙◌, ap, refl}
use Rattle.mot_shelf.specs.Given.{Given}
use Rattle.mot_shelf.specs.Gives.{Asks, Gives}
use Rattle.mot_shelf.specs.Gives.{Asks as ask}
use Rattle.mot_shelf.specs.Gives.Gives.{more, none}
use Rattle.mot_shelf.specs.View.{FolderView}

-- by one call
pub gives_one : (old new : FolderView) (given after : Given) → Asks old new given after
    → Gives old given new after
gives_one old new given after asks = more old given none asks

-- and then on
pub gives_on : (old mid : FolderView) (given then_given : Given) (new : FolderView) (after : Given)
    → Gives old given mid then_given → Gives mid then_given new after → Gives old given new after
gives_on old mid given then_given new after first none = first
gives_on old mid given then_given new after first (more at from second asks) =
    more at from (gives_on old mid given then_given at from first second) asks

-- it is the same folder
asks_path : (old new : FolderView) (given after : Given) → Asks old new given after
    → new.path ≡ old.path
asks_path old new given after (ask.closed is to so) = ap (λ (f : FolderView). f.path) to
asks_path old new given after (ask.opened handle is to so) = ap (λ (f : FolderView). f.path) to
asks_path old new given after (ask.unopened error is to so) = ap (λ (f : FolderView). f.path) to
asks_path old new given after (ask.named room count is to so) = ap (λ (f : FolderView). f.path) to
asks_path old new given after (ask.unnamed is to so) = ap (λ (f : FolderView). f.path) to
asks_path old new given after (ask.asked name stamp is kept to so) = ap (λ (f : FolderView). f.path) to
asks_path old new given after (ask.unasked name is to so) = ap (λ (f : FolderView). f.path) to
asks_path old new given after (ask.looked_at name is to so) = ap (λ (f : FolderView). f.path) to
asks_path old new given after (ask.unchanged name stamp is to so) =
    ap (λ (f : FolderView). f.path) to
asks_path old new given after (ask.read name bytes most stamp is to so) =
    ap (λ (f : FolderView). f.path) to
asks_path old new given after (ask.unread name most why is to so) =
    ap (λ (f : FolderView). f.path) to
asks_path old new given after (ask.kept name is to so) = ap (λ (f : FolderView). f.path) to
asks_path old new given after (ask.unkept name why is to so) = ap (λ (f : FolderView). f.path) to
asks_path old new given after (ask.names_kept is to so) = ap (λ (f : FolderView). f.path) to
asks_path old new given after (ask.names_unkept is to so) = ap (λ (f : FolderView). f.path) to

pub gives_path : (old : FolderView) (given : Given) (new : FolderView) (after : Given) → Gives old given new after
    → new.path ≡ old.path
gives_path old given new after none = refl
gives_path old given new after (more mid from first asks) =
    asks_path mid new from after asks ∙ gives_path old given mid from first
