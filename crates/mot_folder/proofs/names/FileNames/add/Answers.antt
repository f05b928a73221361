use Rattle.std.proofs.Common.{◌≡◌, ◌∙◌, ap, ℕ, List, Bool, true, false, cond, sym, subst}
use Rattle.std.specs.Cmp.Lexicographic.{slice_cmp}
use Rattle.std.specs.List.Sorted.{IsStrictlySortedBy}
use Rattle.std.specs.Ordering.{nat_cmp}
use Rattle.std.specs.Prelude.{is_ok}
use Rattle.mot_folder.specs.Listed.{and_in_order}
use Rattle.mot_update.specs.Updating.{is_known}
use Rattle.mot_folder.proofs.Order.{still_ordered}
use Rattle.mot_folder.proofs.names.FileNames.add.Goals as goal

perhaps_one : (names new : List (List ℕ)) (n : List ℕ) (pushed : Bool)
    → IsStrictlySortedBy (slice_cmp nat_cmp) names → is_known names n ≡ false
    → new ≡ cond pushed (and_in_order names n) names → IsStrictlySortedBy (slice_cmp nat_cmp) new
perhaps_one names new n true ordered unknown is =
    subst (IsStrictlySortedBy (slice_cmp nat_cmp)) (sym is) (still_ordered names n ordered unknown)
perhaps_one names new n false ordered unknown is =
    subst (IsStrictlySortedBy (slice_cmp nat_cmp)) (sym is) ordered

pub invariant_of-self : goal.invariant_of-self
invariant_of-self c =
    let names = c.args.self.now.names.items in
    record {
      ordered = perhaps_one names c.insert.new.self.items c.args.name (is_ok c.insert.result)
          c.args.self.now.ordered (sym c.in-Err.ensures.known)
          (c.insert.ensures.items
          ∙ ap (λ l. cond (is_ok c.insert.result) l names) c.in-Err.ensures.ordered);
    }
