use Rattle.std.proofs.Common.{◌≡◌, ◌∙◌, None, Option, Some, ap, false, sym, true}
use Rattle.std.specs.Prelude.{IfNone, IfSome, is_some}
use Rattle.std.specs.Option.{option_map_or}
use Rattle.mot_folder.proofs.listing.is_object.Goals as goal
use Rattle.mot_suffixes.specs.Types.{SuffixType}

has : {A : Type 0} (now : A → SuffixType) (found : Option A) (type : Option SuffixType)
    → IfSome found (λ it. type ≡ Some (now it)) → IfNone found (type ≡ None)
    → is_some found ≡ option_map_or (λ (t : SuffixType). true) type false
has now None type some none =
    ap (λ (o : Option SuffixType). option_map_or (λ (t : SuffixType). true) o false) (sym none)
has now (Some it) type some none =
    ap (λ (o : Option SuffixType). option_map_or (λ (t : SuffixType). true) o false) (sym some)

pub returns-clause-typed : goal.returns-clause-typed
returns-clause-typed c =
    c.is_some.ensures ∙ has (λ it. it.now) c.of_name.result _ c.of_name.ensures.found
    c.of_name.ensures.none
