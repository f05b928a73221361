-- The records that a full half is rewritten to fold to the catalogue that they are of.
use Rattle.std.proofs.Common.{◌≡◌, ℕ, ◌+◌, Bool, true, false, cond, not, List, [], ◌∷◌, ◌++◌}
use Rattle.std.proofs.Common.{length, Some, None, Result, Ok, refl, sym, ap, ◌∙◌, arith}
use Rattle.std.proofs.Common.{length-append, append-nil}
use Rattle.std.proofs.lemmas.Bool.{and_parts, and_from, or_parts, or_from, not-true, not_from_false}
use Rattle.std.proofs.lemmas.Bool.{lt-ltb}
use Rattle.std.specs.Prelude.{nat_eq, bytes_eq, option_map}
use Rattle.std.specs.List.{list_any, list_all}
use Rattle.mot_journal.specs.declared.record.Record.{Record}
use Rattle.mot_journal.specs.declared.record.Action.TheVariants.{Nothing, Set}
use Rattle.mot_journal.specs.Image.{or_damaged, fold_from, catalogue_of}
use Rattle.mot_numbers.specs.Refusal.{◌>>=◌}
use Rattle.mot_journal.specs.Catalogue.{Placed, Catalogue, new_catalogue, put_in_place}
use Rattle.mot_journal.specs.Catalogue.{in_place_or_appended, objects_after, are_apart}
use Rattle.mot_journal.specs.Catalogue.{are_all_apart, is_consistent, catalogue_after}
use Rattle.mot_numbers.specs.declared.refusal.Refusal.{Refusal}
use Rattle.mot_objects.specs.Carousel.{are_names_distinct}
use Rattle.mot_objects.specs.Ids.{contains, is_distinct}
use Rattle.mot_repository.specs.Records.{records_of_objects, records_of_catalogue}
use Rattle.mot_repository.specs.Inner.Following.{RewritingKeepsTheCatalogue}
use Rattle.mot_repository.specs.Inner.Whole.{placed_names, IsGood}
use Rattle.mot_repository.proofs.Folding.{step_from, good_fold}
use Rattle.mot_repository.specs.Inner.Whole.{placed_tids}

-- ---- what holds of a list holds of its beginning

any-first : {A : Type 0} (f : A → Bool) (xs ys : List A) → list_any f (xs ++ ys) ≡ false
    → list_any f xs ≡ false
any-first f [] ys e = refl
any-first f (x ∷ xs) ys e = let h = or_parts (f x) (list_any f (xs ++ ys)) e in
    or_from _ _ h.0 (any-first f xs ys h.1)

all-first : {A : Type 0} (f : A → Bool) (xs ys : List A) → list_all f (xs ++ ys) ≡ true
    → list_all f xs ≡ true
all-first f [] ys e = refl
all-first f (x ∷ xs) ys e = let h = and_parts (f x) (list_all f (xs ++ ys)) e in
    and_from _ _ h.0 (all-first f xs ys h.1)

distinct-first : (xs ys : List ℕ) → is_distinct (xs ++ ys) ≡ true → is_distinct xs ≡ true
distinct-first [] ys e = refl
distinct-first (x ∷ xs) ys e =
    let h = and_parts (not (contains (xs ++ ys) x)) (is_distinct (xs ++ ys)) e in
    and_from _ _ (not_from_false _ (any-first (nat_eq x) xs ys (not-true _ h.0)))
    (distinct-first xs ys h.1)

apart-first : (xs ys : List Placed) → are_all_apart (xs ++ ys) ≡ true → are_all_apart xs ≡ true
apart-first [] ys e = refl
apart-first (x ∷ xs) ys e =
    let h = and_parts (list_all (are_apart x) (xs ++ ys)) (are_all_apart (xs ++ ys)) e in
    and_from _ _ (all-first (are_apart x) xs ys h.0) (apart-first xs ys h.1)

tids-append : (xs ys : List Placed) → placed_tids (xs ++ ys) ≡ placed_tids xs ++ placed_tids ys
tids-append [] ys = refl
tids-append (x ∷ xs) ys = ap (λ l. x.object.tid ∷ l) (tids-append xs ys)

-- an object whose name none before it has is not put in a place
has-other-name : (q p : Placed) (before rest : List Placed)
    → list_any (bytes_eq q.object.name) (placed_names (before ++ p ∷ rest)) ≡ false
    → bytes_eq q.object.name p.object.name ≡ false
has-other-name q p [] rest e =
    (or_parts (bytes_eq q.object.name p.object.name)
    (list_any (bytes_eq q.object.name) (placed_names rest)) e).0
has-other-name q p (x ∷ before) rest e =
    has-other-name q p before rest
    (or_parts (bytes_eq q.object.name x.object.name)
    (list_any (bytes_eq q.object.name) (placed_names (before ++ p ∷ rest))) e).1

no-place : (p : Placed) (before rest : List Placed)
    → are_names_distinct (placed_names (before ++ p ∷ rest)) ≡ true → put_in_place p before ≡ None
no-place p [] rest e = refl
no-place p (q ∷ before) rest e =
    let h = and_parts (not (list_any (bytes_eq q.object.name) (placed_names (before ++ p ∷ rest))))
    (are_names_distinct (placed_names (before ++ p ∷ rest))) e in
    let other = has-other-name q p before rest (not-true _ h.0) in
    ap (λ t. cond t (Some (p ∷ before)) (option_map (λ l. q ∷ l) (put_in_place p before))) other
    ∙ ap (option_map (λ l. q ∷ l)) (no-place p before rest h.1)

-- ---- the fold

abbrev pub record_for : Catalogue → Placed → Record
record_for c p = record {
  period = c.period;
  directory = c.directory;
  cursor = c.cursor;
  action = Set p.object.tid p.object.version p.object.content p.start p.object.length p.object.name
      p.object.mime;
}

abbrev of_first : Catalogue → List Placed → Catalogue
of_first c objects = record
    { period = c.period; directory = c.directory; cursor = c.cursor; objects = objects }

first-consistent : (c : Catalogue) (before rest : List Placed) → before ++ rest ≡ c.objects
    → is_consistent c ≡ true → is_consistent (of_first c before) ≡ true
first-consistent c before rest e consistent =
    let h = and_parts (is_distinct (c.directory ∷ placed_tids c.objects)) (are_all_apart c.objects)
    consistent in
    let cut : c.directory ∷ placed_tids c.objects ≡ (c.directory ∷ placed_tids before) ++ placed_tids rest =
    ap (λ l. c.directory ∷ placed_tids l) (sym e) ∙ ap (λ l. c.directory ∷ l) (tids-append before rest) in
    and_from _ _
    (distinct-first (c.directory ∷ placed_tids before) (placed_tids rest) (ap is_distinct (sym cut) ∙ h.0))
    (apart-first before rest (ap are_all_apart e ∙ h.1))

step-objects : (limit : ℕ) (c : Catalogue) (p : Placed) (before rest : List Placed)
    → before ++ (p ∷ rest) ≡ c.objects → IsGood limit c
    → objects_after limit before (record_for c p).action ≡ Some (before ++ p ∷ [])
step-objects limit c p before rest e good =
    let few = good.few in
    let size : length before + length (p ∷ rest) ≡ length c.objects =
    sym (length-append before (p ∷ rest)) ∙ ap length e in
    ap (in_place_or_appended limit p before)
    (no-place p before rest (ap (λ l. are_names_distinct (placed_names l)) e ∙ good.names))
    ∙ ap (λ t. cond t (Some (before ++ p ∷ [])) None)
    (lt-ltb (length before) limit (omega (arith, few, size)))

grouped : (p : Placed) (before rest : List Placed)
    → (before ++ p ∷ []) ++ rest ≡ before ++ (p ∷ rest)
grouped p [] rest = refl
grouped p (q ∷ before) rest = ap (λ l. q ∷ l) (grouped p before rest)

-- one object more
one-more : (limit : ℕ) (c d : Catalogue) (p : Placed) (rest : List Placed)
    → d.objects ++ (p ∷ rest) ≡ c.objects → IsGood limit c
    → catalogue_after limit d (record_for c p) ≡ Some (of_first c (d.objects ++ p ∷ []))
one-more limit c d p rest e good =
    step_from limit d (record_for c p) (d.objects ++ p ∷ [])
    (step-objects limit c p d.objects rest e good)
    (first-consistent c (d.objects ++ p ∷ []) rest (grouped p d.objects rest ∙ e) good.consistent)

fold-rest : (limit number : ℕ) (c : Catalogue) (before rest : List Placed)
    → before ++ rest ≡ c.objects → IsGood limit c
    → fold_from limit number (of_first c before) (records_of_objects c rest) ≡ Ok c
unfolding fold_from
fold-rest limit number c before [] e good =
    let same : before ≡ c.objects = sym (append-nil before) ∙ e in
    ap (λ (l : List Placed). let r : Result Catalogue Refusal = Ok (of_first c l) in r) same
fold-rest limit number c before (p ∷ rest) e good =
    ap (λ o. ◌>>=◌ (or_damaged number o)
    (λ next. fold_from limit (number + 1) next (records_of_objects c rest)))
    (one-more limit c (of_first c before) p rest e good)
    ∙ fold-rest limit (number + 1) c (before ++ p ∷ []) rest (grouped p before rest ∙ e) good

-- the records of a good catalogue fold to it
pub fold-all : (limit period directory cursor : ℕ) (objects : List Placed)
    → let c : Catalogue = record
    { period = period; directory = directory; cursor = cursor; objects = objects } in
    IsGood limit c → catalogue_of limit (records_of_catalogue c) ≡ Ok c
unfolding fold_from
fold-all limit period directory cursor [] good =
    let c : Catalogue = record
    { period = period; directory = directory; cursor = cursor; objects = [] } in
    let r : Record = record {
      period = period;
      directory = directory;
      cursor = cursor;
      action =
          Nothing;
    } in
    ap (λ o. ◌>>=◌ (or_damaged 0 o) (λ next. fold_from limit 1 next []))
    (step_from limit new_catalogue r [] refl good.consistent)
fold-all limit period directory cursor (p ∷ objects) good =
    let c : Catalogue = record
    { period = period; directory = directory; cursor = cursor; objects = p ∷ objects } in
    ap (λ o. ◌>>=◌ (or_damaged 0 o)
    (λ next. fold_from limit 1 next (records_of_objects c objects)))
    (one-more limit c new_catalogue p objects refl good)
    ∙ fold-rest limit 1 c (p ∷ []) objects refl good

-- the records that a half is rewritten to fold to the catalogue that they are of
pub keeps : RewritingKeepsTheCatalogue
keeps limit records c e =
    fold-all limit c.period c.directory c.cursor c.objects (good_fold limit records c e)
