-- Faults of the list, from what the code that folds records says of its lists.
use Rattle.std.proofs.Common.{◌≡◌, ℕ, List, Option, Some, Result, Ok, Err, refl, sym, ap, ◌∙◌}
use Rattle.std.proofs.Common.{subst}
use Rattle.std.specs.Prelude.{IfErr, is_ok}
use Rattle.mot_journal.specs.Catalogue.{Placed, objects_after, placed_without}
use Rattle.mot_journal.specs.Faults.{HasActionFault}
use Rattle.mot_journal.specs.declared.record.Action.{Action}
use Rattle.mot_journal.specs.declared.record.Action.TheVariants.{Set, Remove}
use Rattle.mot_journal.specs.declared.reason.ListFault.{ListFault}
use Rattle.mot_journal.specs.declared.reason.ListFault.TheVariants.{Missing, TooMany, SameId}
use Rattle.mot_journal.specs.declared.reason.ListFault.TheVariants.{DirectoryId, Meets}
use Rattle.mot_objects.specs.Name.{ContentNumbers}
use Rattle.mot_objects.specs.Ids.{is_distinct}
use Rattle.mot_objects.specs.declared.object.Object.{Object}
use Rattle.mot_repository.specs.Inner.Extents.{objects_in}
use Rattle.mot_repository.specs.Inner.Faults.{HasSettingFault, IsClash}
use Rattle.mot_repository.specs.Inner.Fold.{HaveLengths, if_done, objects_set}
use Rattle.mot_repository.proofs.Listing.{apart_in, ids_in}

-- an object that clashes with another, where it was set, is a fault of the setting
pub clash_is_fault : (limit : ℕ) (p : Placed) (before : List Placed) (os : List Object)
    (es : List (ℕ × ℕ)) → HaveLengths os es → (id : ℕ) (f : ListFault) → id ≡ p.object.tid
    → objects_set limit p before ≡ Some (objects_in os es) → IsClash id os es f
    → HasSettingFault limit p before f
clash_is_fault limit p before os es l id (SameId n) of set is =
    (is.0 ∙ of, (objects_in os es, set, ap is_distinct (ids_in os es l) ∙ is.1))
clash_is_fault limit p before os es l id (Meets n) of set is =
    (is.0 ∙ of, (objects_in os es, set, apart_in os es l ∙ is.1))
clash_is_fault limit p before os es l id (Missing n) of set is = absurd is
clash_is_fault limit p before os es l id (TooMany n) of set is = absurd is
clash_is_fault limit p before os es l id (DirectoryId n) of set is = absurd is

-- a fault of a setting is one of the action that sets
pub setting_is_action : (limit : ℕ) (before : List Placed) (action : Action) (f : ListFault)
    (tid version : ℕ) (content : ContentNumbers) (start size : ℕ) (name : List ℕ)
    (mime : Option (List ℕ)) → action ≡ Set tid version content start size name mime
    → (let o : Object = record {
      name = name;
      content = content;
      mime = mime;
      version = version;
      tid = tid;
      length = size;
    } in HasSettingFault limit (record { object = o; start = start }) before f)
    → HasActionFault limit before action f
setting_is_action limit before action f tid version content start size name mime e is =
    subst (λ a. HasActionFault limit before a f) (sym e) (of f is)
  where
    of : (f : ListFault) → (let o : Object = record {
      name = name;
      content = content;
      mime = mime;
      version = version;
      tid = tid;
      length = size;
    } in HasSettingFault limit (record { object = o; start = start }) before f)
        → HasActionFault limit before (Set tid version content start size name mime) f
    of (TooMany most) is = (is.0, (tid, refl), is.1)
    of (SameId id) is = (sym is.0, is.1)
    of (Meets id) is = (sym is.0, is.1)
    of (Missing id) is = absurd is
    of (DirectoryId id) is = absurd is

-- a removal of an id that no object has is a fault of the action
pub missing_is_action : {A : Type 0} (limit : ℕ) (before now : List Placed) (action : Action)
    (tid : ℕ) (r : Result A ListFault) → action ≡ Remove tid
    → IfErr r (λ f. f ≡ Missing tid) → if_done (is_ok r) now ≡ placed_without tid before
    → IfErr r (HasActionFault limit before action)
missing_is_action limit before now action tid (Ok x) e is done = tt
missing_is_action limit before now action tid (Err f) e is done =
    subst (HasActionFault limit before action) (sym is)
    (e, ap (objects_after limit before) e ∙ sym done)
