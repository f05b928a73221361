use Rattle.std.proofs.Common.{ℕ, ◌≤◌, Bool, List, MatchOption, None, Option, Some, false, length}
use Rattle.std.proofs.Common.{refl}
use Rattle.std.specs.Option.{unwrap_or}
use Rattle.mot_line_folder.specs.Inner.{IsDue, IsNew, IsUntold}
use Rattle.mot_line_folder.specs.Inner.IsNew.{due, full}
use Rattle.mot_line_folder.specs.declared.said.Stamp.{Stamp}
use Rattle.mot_line_folder.specs.declared.said.Told.{Told}
use Rattle.mot_line_folder.proofs.said.Said.is_new.Goals as goal

new_so : {tolds : List Told} {name : List ℕ} {stamp : Option Stamp}
    (P : Bool → Type 0) (kept : Option Bool) → MatchOption kept (IsUntold tolds name × (100 ≤ length tolds))
    (λ is. IsDue tolds name stamp is × P is) → IsNew tolds name stamp (unwrap_or kept false)
new_so P None is = full is.0 is.1 refl
new_so P (Some new) is = due is.0

pub returns : goal.returns
returns c = record { due = rw c.unwrap_or.ensures (new_so _ c.in_ok-keep.field-0 c.in_ok-keep.ensures.due) }
