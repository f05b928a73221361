use Rattle.std.proofs.Common.{◌≡◌, rules, subst, sym, IfErr, is_ok}
use Rattle.std.proofs.lemmas.Fn.{always_returns_same}
use Rattle.std.specs.Cmp.Lexicographic.{slice_cmp}
use Rattle.std.specs.List.{insert}
use Rattle.std.specs.List.Sorted.{IsStrictlySortedBy}
use Rattle.std.specs.Ordering.{nat_cmp}
use Rattle.mot_folder.specs.Listed.{and_in_order}
use Rattle.mot_update.specs.Updating.{is_known}
use Rattle.mot_folder.proofs.Order.{searched}
use Rattle.mot_folder.proofs.names.FileNames.search.Goals as goal

-- what the search of the names found
answer : (c : goal.After-binary_search_by)
    → (is_ok c.binary_search_by.result ≡ is_known c.args.self.now.names.items c.args.name.now)
    × IfErr c.binary_search_by.result (λ place. insert c.args.self.now.names.items place
    c.args.name.now ≡ and_in_order c.args.self.now.names.items c.args.name.now)
answer c =
    let name = c.args.name.now in
    let here = searched c.deref.result.now name
    (subst (IsStrictlySortedBy (slice_cmp nat_cmp)) (sym c.deref.ensures.value)
    c.args.self.now.ordered) c.binary_search_by.result c.binary_search_by.ensures.bound
    (c.binary_search_by.ensures.position (λ other. slice_cmp nat_cmp other name)
    (always_returns_same _ _ _ (λ a r g called. search rules))) in
    subst (λ l. (is_ok c.binary_search_by.result ≡ is_known l name)
    × IfErr c.binary_search_by.result (λ place. insert l place name ≡ and_in_order l name))
    c.deref.ensures.value here

pub returns-clause-known : goal.returns-clause-known
returns-clause-known c = (answer c).0

pub returns-clause-ordered : goal.returns-clause-ordered
returns-clause-ordered c = (answer c).1
