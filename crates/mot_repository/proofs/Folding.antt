-- What a record does to the objects of a catalogue, and what every fold of records keeps.
use Rattle.std.proofs.Common.{◌≡◌, ⊎_elim, ℕ, suc, ◌+◌, ◌≤◌, Bool, true, false, cond, not, ◌||◌}
use Rattle.std.proofs.Common.{List, [], ◌∷◌, ◌++◌, length, Option, Some, None, Ok, refl, sym, ap}
use Rattle.std.proofs.Common.{◌∙◌, subst, arith, length-append}
use Rattle.std.proofs.lemmas.Bool.{and_parts, and_from, or_cases, or_left, or_right, or_parts}
use Rattle.std.proofs.lemmas.Bool.{or_from, not-true, not_from_false, ltb-true}
use Rattle.std.proofs.lemmas.Slice.Eq.{bytes_eq-Decides}
use Rattle.std.specs.Prelude.{nat_le, nat_lt, bytes_eq, option_map}
use Rattle.std.specs.List.{list_any, list_all, AllByRecursion}
use Rattle.mot_journal.specs.declared.record.Record.{Record}
use Rattle.mot_journal.specs.declared.record.Action.{Action}
use Rattle.mot_journal.specs.declared.record.Action.TheVariants.{Nothing, Set, Remove}
use Rattle.mot_journal.specs.Image.{or_damaged, fold_from, catalogue_of}
use Rattle.mot_numbers.specs.Refusal.{◌>>=◌ as result_then}
use Rattle.mot_journal.specs.Catalogue.{Placed, Catalogue, new_catalogue, put_in_place}
use Rattle.mot_journal.specs.Catalogue.{placed_without, in_place_or_appended, objects_after}
use Rattle.mot_journal.specs.Catalogue.{are_apart, are_all_apart, is_consistent, catalogue_after}
use Rattle.mot_numbers.specs.Reading.{◌>>=◌}
use Rattle.mot_objects.specs.Carousel.{are_names_distinct}
use Rattle.mot_repository.specs.Inner.Whole.{placed_names, IsGood}
use Rattle.mot_objects.proofs.Laws.{names-push}

-- ---- one object in the place of another of its name

pub data IsPut (p : Placed) : List Placed → List Placed → Type 0 where
  here : (q : Placed) (objects : List Placed) → bytes_eq q.object.name p.object.name ≡ true
      → IsPut p (q ∷ objects) (p ∷ objects)
  there : (q : Placed) (objects next : List Placed) → IsPut p objects next
      → IsPut p (q ∷ objects) (q ∷ next)

put-cases : (p q : Placed) (objects next : List Placed) (t : Bool) (r : Option (List Placed))
    → bytes_eq q.object.name p.object.name ≡ t
    → ((rest : List Placed) → r ≡ Some rest → IsPut p objects rest)
    → cond t (Some (p ∷ objects)) (option_map (λ l. q ∷ l) r) ≡ Some next
    → IsPut p (q ∷ objects) next
put-cases p q objects next true r is h e = let g : p ∷ objects ≡ next = cc in
    subst (IsPut p (q ∷ objects)) g (here q objects is)
put-cases p q objects next false None is h e = cc
put-cases p q objects next false (Some rest) is h e = let g : q ∷ rest ≡ next = cc in
    subst (IsPut p (q ∷ objects)) g (there q objects rest (h rest refl))

-- an object put in place stands where the one of its name stood
pub is_put : (p : Placed) (objects next : List Placed) → put_in_place p objects ≡ Some next
    → IsPut p objects next
is_put p [] next e = cc
is_put p (q ∷ objects) next e =
    put-cases p q objects next (bytes_eq q.object.name p.object.name) (put_in_place p objects) refl
    (λ rest h. is_put p objects rest h) e

not-put-cases : (p q : Placed) (objects : List Placed) (t : Bool) (r : Option (List Placed))
    → cond t (Some (p ∷ objects)) (option_map (λ l. q ∷ l) r) ≡ None → (t ≡ false) × (r ≡ None)
not-put-cases p q objects true r e = cc
not-put-cases p q objects false None e = (refl, refl)
not-put-cases p q objects false (Some rest) e = cc

not_put : (p : Placed) (objects : List Placed) → put_in_place p objects ≡ None
    → list_any (λ m. bytes_eq m p.object.name) (placed_names objects) ≡ false
not_put p [] e = refl
not_put p (q ∷ objects) e =
    let h = not-put-cases p q objects (bytes_eq q.object.name p.object.name)
    (put_in_place p objects) e in
    or_from _ _ h.0 (not_put p objects h.1)

put-names : {p : Placed} {objects next : List Placed} → IsPut p objects next
    → placed_names next ≡ placed_names objects
put-names {p} (here q objects is) =
    ap (λ n. n ∷ placed_names objects) (sym ((bytes_eq-Decides q.object.name p.object.name).0 is))
put-names (there q objects next is) = ap (λ l. q.object.name ∷ l) (put-names is)

put-length : {p : Placed} {objects next : List Placed} → IsPut p objects next
    → length next ≡ length objects
put-length (here q objects is) = refl
put-length (there q objects next is) = ap suc (put-length is)

-- either of two tests, in the other order
pub or-comm : (x y : Bool) → (x || y) ≡ true → (y || x) ≡ true
or-comm x y e = ⊎_elim (λ h. or_right y x h) (λ h. or_left y x h) (or_cases x y e)

-- all these objects lie beside this one
abbrev pub are_beside : Placed → List Placed → Bool
are_beside p objects = list_all (λ q. are_apart q p) objects

apart-from : (p : Placed) (objects : List Placed) → are_beside p objects ≡ true
    → list_all (are_apart p) objects ≡ true
apart-from p [] e = refl
apart-from p (q ∷ objects) e =
    let h = and_parts (are_apart q p) (are_beside p objects) e in
    and_from _ _ (or-comm (nat_le (q.start + q.object.length) p.start)
    (nat_le (p.start + p.object.length) q.start) h.0) (apart-from p objects h.1)

put-one : {p : Placed} {objects next : List Placed} (f : Placed → Bool) → IsPut p objects next
    → list_all f objects ≡ true → f p ≡ true → list_all f next ≡ true
put-one f (here q objects is) e h = and_from _ _ h (and_parts (f q) (list_all f objects) e).1
put-one f (there q objects next is) e h =
    let k = and_parts (f q) (list_all f objects) e in and_from _ _ k.0 (put-one f is k.1 h)

-- objects that lie apart, and beside one, lie apart with it put in place
pub put_apart : {p : Placed} {objects next : List Placed} → IsPut p objects next
    → are_beside p objects ≡ true → are_all_apart objects ≡ true → are_all_apart next ≡ true
put_apart {p} (here q objects is) beside apart =
    let b = and_parts (are_apart q p) (are_beside p objects) beside in
    let a = and_parts (list_all (are_apart q) objects) (are_all_apart objects) apart in
    and_from _ _ (apart-from p objects b.1) a.1
put_apart {p} (there q objects next is) beside apart =
    let b = and_parts (are_apart q p) (are_beside p objects) beside in
    let a = and_parts (list_all (are_apart q) objects) (are_all_apart objects) apart in
    and_from _ _ (put-one (are_apart q) is a.0 b.0) (put_apart is b.1 a.1)

all-push : {A : Type 0} (f : A → Bool) (xs : List A) (y : A) → list_all f xs ≡ true → f y ≡ true
    → list_all f (xs ++ y ∷ []) ≡ true
all-push f [] y e h = and_from _ _ h refl
all-push f (x ∷ xs) y e h = let k = and_parts (f x) (list_all f xs) e in
    and_from _ _ k.0 (all-push f xs y k.1 h)

-- objects that lie apart, and beside one, lie apart with it behind them
pub push_apart : (p : Placed) (objects : List Placed) → are_beside p objects ≡ true
    → are_all_apart objects ≡ true → are_all_apart (objects ++ p ∷ []) ≡ true
push_apart p [] beside apart = refl
push_apart p (q ∷ objects) beside apart =
    let b = and_parts (are_apart q p) (are_beside p objects) beside in
    let a = and_parts (list_all (are_apart q) objects) (are_all_apart objects) apart in
    and_from _ _ (all-push (are_apart q) objects p a.0 b.0) (push_apart p objects b.1 a.1)

-- ---- one object less

-- the second list is the first without one object
pub data IsWithoutOne : List Placed → List Placed → Type 0 where
  gone : (q : Placed) (objects : List Placed) → IsWithoutOne (q ∷ objects) objects
  later : (q : Placed) (objects next : List Placed) → IsWithoutOne objects next
      → IsWithoutOne (q ∷ objects) (q ∷ next)

gone-cases : (q : Placed) (objects next : List Placed) (t : Bool) (r : Option (List Placed))
    → ((rest : List Placed) → r ≡ Some rest → IsWithoutOne objects rest)
    → cond t (Some objects) (option_map (λ l. q ∷ l) r) ≡ Some next
    → IsWithoutOne (q ∷ objects) next
gone-cases q objects next true r h e = let g : objects ≡ next = cc in
    subst (IsWithoutOne (q ∷ objects)) g (gone q objects)
gone-cases q objects next false None h e = cc
gone-cases q objects next false (Some rest) h e = let g : q ∷ rest ≡ next = cc in
    subst (IsWithoutOne (q ∷ objects)) g (later q objects rest (h rest refl))

-- the objects without the one of an id are the objects without one
pub is_gone : (tid : ℕ) (objects next : List Placed) → placed_without tid objects ≡ Some next
    → IsWithoutOne objects next
is_gone tid [] next e = cc
is_gone tid (q ∷ objects) next e =
    gone-cases q objects next _ (placed_without tid objects) (λ rest h. is_gone tid objects rest h)
    e

gone-all : {objects next : List Placed} (f : Placed → Bool) → IsWithoutOne objects next
    → list_all f objects ≡ true → list_all f next ≡ true
gone-all f (gone q objects) e = (and_parts (f q) (list_all f objects) e).1
gone-all f (later q objects next is) e = let k = and_parts (f q) (list_all f objects) e in
    and_from _ _ k.0 (gone-all f is k.1)

-- objects that lie apart do so without one of them
pub apart_without_one : {objects next : List Placed} → IsWithoutOne objects next
    → are_all_apart objects ≡ true
    → are_all_apart next ≡ true
apart_without_one (gone q objects) e =
    (and_parts (list_all (are_apart q) objects) (are_all_apart objects) e).1
apart_without_one (later q objects next is) e =
    let k = and_parts (list_all (are_apart q) objects) (are_all_apart objects) e in
    and_from _ _ (gone-all (are_apart q) is k.0) (apart_without_one is k.1)

gone-unnamed : {objects next : List Placed} (n : List ℕ) → IsWithoutOne objects next
    → list_any (bytes_eq n) (placed_names objects) ≡ false
    → list_any (bytes_eq n) (placed_names next) ≡ false
gone-unnamed n (gone q objects) e =
    (or_parts (bytes_eq n q.object.name) (list_any (bytes_eq n) (placed_names objects)) e).1
gone-unnamed n (later q objects next is) e = let h =
    or_parts (bytes_eq n q.object.name) (list_any (bytes_eq n) (placed_names objects)) e in
    or_from _ _ h.0 (gone-unnamed n is h.1)

gone-names : {objects next : List Placed} → IsWithoutOne objects next
    → are_names_distinct (placed_names objects) ≡ true
    → are_names_distinct (placed_names next) ≡ true
gone-names (gone q objects) d =
    (and_parts (not (list_any (bytes_eq q.object.name) (placed_names objects)))
    (are_names_distinct (placed_names objects)) d).1
gone-names (later q objects next is) d =
    let p = and_parts (not (list_any (bytes_eq q.object.name) (placed_names objects)))
    (are_names_distinct (placed_names objects)) d in
    and_from _ _ (not_from_false _ (gone-unnamed q.object.name is (not-true _ p.0)))
    (gone-names is p.1)

gone-length : {objects next : List Placed} → IsWithoutOne objects next
    → length next ≤ length objects
gone-length (gone q objects) = omega arith
gone-length (later q objects next is) = let h = gone-length is in omega arith

-- ---- a record more

-- a catalogue with a record's numbers and these objects
abbrev pub numbered : Record → List Placed → Catalogue
numbered r objects = record
    { period = r.period; directory = r.directory; cursor = r.cursor; objects = objects }

-- what makes a record's catalogue
pub record IsStep (limit : ℕ) (c : Catalogue) (r : Record) (next : Catalogue) : Type 0 where
  -- the objects after the record's action
  pub objects : List Placed
  -- they are what the action makes
  pub after : objects_after limit c.objects r.action ≡ Some objects
  -- with the record's numbers, they are the next catalogue
  pub is : numbered r objects ≡ next
  -- the next catalogue has ids that differ and extents that lie apart
  pub consistent : is_consistent next ≡ true

step-test : (limit : ℕ) (c : Catalogue) (r : Record) (next : Catalogue) (objects : List Placed)
    (t : Bool) → is_consistent (numbered r objects) ≡ t
    → objects_after limit c.objects r.action ≡ Some objects
    → cond t (Some (numbered r objects)) None ≡ Some next → IsStep limit c r next
step-test limit c r next objects true is after e = let g : numbered r objects ≡ next = cc in
    record { objects = objects; after = after; is = g; consistent = ap is_consistent (sym g) ∙ is }
step-test limit c r next objects false is after e = cc

step-cases : (limit : ℕ) (c : Catalogue) (r : Record) (next : Catalogue) (o : Option (List Placed))
    → objects_after limit c.objects r.action ≡ o
    → (o >>= λ objects. cond (is_consistent (numbered r objects)) (Some (numbered r objects)) None)
    ≡ Some next → IsStep limit c r next
step-cases limit c r next None after e = cc
step-cases limit c r next (Some objects) after e =
    step-test limit c r next objects (is_consistent (numbered r objects)) refl after e

-- a record that makes no fault of the list has made a step
pub is_step : (limit : ℕ) (c : Catalogue) (r : Record) (next : Catalogue)
    → catalogue_after limit c r ≡ Some next → IsStep limit c r next
is_step limit c r next e = step-cases limit c r next (objects_after limit c.objects r.action) refl e

-- the catalogue of these objects, where they are consistent
pub step_from : (limit : ℕ) (c : Catalogue) (r : Record) (objects : List Placed)
    → objects_after limit c.objects r.action ≡ Some objects
    → is_consistent (numbered r objects) ≡ true
    → catalogue_after limit c r ≡ Some (numbered r objects)
step_from limit c r objects after consistent =
    ap (λ o. o >>= λ l. cond (is_consistent (numbered r l)) (Some (numbered r l)) None) after
    ∙ ap (λ t. cond t (Some (numbered r objects)) None) consistent

-- ---- what every fold keeps

names-append : (objects : List Placed) (p : Placed)
    → placed_names (objects ++ p ∷ []) ≡ placed_names objects ++ p.object.name ∷ []
names-append [] p = refl
names-append (q ∷ objects) p = ap (λ l. q.object.name ∷ l) (names-append objects p)

abbrev AreFit : ℕ → List Placed → Type 0
AreFit limit objects = (are_names_distinct (placed_names objects) ≡ true) × (length objects ≤ limit)

appended-fit : (limit : ℕ) (p : Placed) (objects next : List Placed) (t : Bool)
    → nat_lt (length objects) limit ≡ t → put_in_place p objects ≡ None
    → cond t (Some (objects ++ p ∷ [])) None ≡ Some next → AreFit limit objects → AreFit limit next
appended-fit limit p objects next true lt none e fit =
    let g : objects ++ p ∷ [] ≡ next = cc in
    let below = ltb-true (length objects) limit lt in
    subst (AreFit limit) g (
      ap are_names_distinct (names-append objects p)
          ∙ names-push (placed_names objects) p.object.name fit.0 (not_put p objects none),
      omega (arith, below, length-append objects (p ∷ [])),
    )
appended-fit limit p objects next false lt none e fit = cc

set-fit : (limit : ℕ) (p : Placed) (objects next : List Placed) (o : Option (List Placed))
    → put_in_place p objects ≡ o
    → in_place_or_appended limit p objects o ≡ Some next → AreFit limit objects → AreFit limit next
set-fit limit p objects next (Some changed) put e fit =
    let g : changed ≡ next = cc in
    let is = is_put p objects changed put in
    subst (AreFit limit) g (
      ap are_names_distinct (put-names is) ∙ fit.0,
      omega (arith, put-length is, fit.1),
    )
set-fit limit p objects next None put e fit =
    appended-fit limit p objects next (nat_lt (length objects) limit) refl put e fit

after-fit : (limit : ℕ) (objects next : List Placed) (action : Action)
    → objects_after limit objects action ≡ Some next → AreFit limit objects → AreFit limit next
after-fit limit objects next Nothing e fit = let g : objects ≡ next = cc in
    subst (AreFit limit) g fit
after-fit limit objects next (Remove tid) e fit =
    let is = is_gone tid objects next e in
    (gone-names is fit.0, omega (arith, gone-length is, fit.1))
after-fit limit objects next (Set tid version content start size name mime) e fit =
    let p : Placed = record {
      object =
          record {
            name = name;
            content = content;
            mime = mime;
            version = version;
            tid = tid;
            length =
                size;
          };
      start = start;
    } in
    set-fit limit p objects next (put_in_place p objects) refl e fit

-- a record without a fault of the list leaves a good catalogue good
pub good_step : (limit : ℕ) (c : Catalogue) (r : Record) (next : Catalogue)
    → catalogue_after limit c r ≡ Some next → IsGood limit c → IsGood limit next
good_step limit c r next e good =
    let step = is_step limit c r next e in
    let fit = after-fit limit c.objects step.objects r.action step.after (good.names, good.few) in
    let same : step.objects ≡ next.objects = ap (λ (d : Catalogue). d.objects) step.is in
    let fit' = subst (AreFit limit) same fit in
    record { consistent = step.consistent; names = fit'.0; few = fit'.1 }

-- whatever each record keeps, a fold keeps
module _ (limit : ℕ) (P : Catalogue → Type 0) (Q : Record → Type 0)
    (keep : (c next : Catalogue) (r : Record) → Q r → catalogue_after limit c r ≡ Some next → P c
    → P next) where
  fold-cases : (number : ℕ) (c d : Catalogue) (r : Record) (records : List Record)
      (o : Option Catalogue) → catalogue_after limit c r ≡ o
      → ((next : Catalogue) → fold_from limit (number + 1) next records ≡ Ok d → P next → P d) → Q r
      → P c
      → result_then (or_damaged number o) (λ next. fold_from limit (number + 1) next records) ≡ Ok d
      → P d
  fold-cases number c d r records None after rest q is e = cc
  fold-cases number c d r records (Some next) after rest q is e =
      rest next e (keep c next r q after is)

  -- what each step keeps, a fold keeps
  pub fold_keeps : (number : ℕ) (c d : Catalogue) (records : List Record) → AllByRecursion Q records
      → fold_from limit number c records ≡ Ok d → P c → P d
  unfolding fold_from
  fold_keeps number c d [] each e is = let g : c ≡ d = cc in subst P g is
  fold_keeps number c d (r ∷ records) each e is =
      fold-cases number c d r records (catalogue_after limit c r) refl
      (λ next f p. fold_keeps (number + 1) next d records each.1 f p) each.0 is e

any-each : (records : List Record) → AllByRecursion (λ (r : Record). Unit {0}) records
any-each [] = tt
any-each (r ∷ records) = (tt, any-each records)

-- the new catalogue is good: its ids and names differ, and it is within the limit
pub good_new : (limit : ℕ) → IsGood limit new_catalogue
good_new limit = record { consistent = refl; names = refl; few = omega arith }

-- records without a fault of the list make a good catalogue
pub good_fold : (limit : ℕ) (records : List Record) (c : Catalogue)
    → catalogue_of limit records ≡ Ok c → IsGood limit c
good_fold limit records c e =
    fold_keeps limit (IsGood limit) (λ r. Unit {0})
    (λ d next r q f good. good_step limit d r next f good)
    0 new_catalogue c records (any-each records) e (good_new limit)

-- ---- what each object keeps

gone-each : (P : Placed → Type 0) {objects next : List Placed} → IsWithoutOne objects next
    → AllByRecursion P objects → AllByRecursion P next
gone-each P (gone q objects) a = a.1
gone-each P (later q objects next is) a = (a.0, gone-each P is a.1)

put-each : (P : Placed → Type 0) {p : Placed} {objects next : List Placed} → IsPut p objects next
    → P p → AllByRecursion P objects → AllByRecursion P next
put-each P (here q objects is) h a = (h, a.1)
put-each P (there q objects next is) h a = (a.0, put-each P is h a.1)

push-each : (P : Placed → Type 0) (p : Placed) (objects : List Placed) → P p
    → AllByRecursion P objects → AllByRecursion P (objects ++ p ∷ [])
push-each P p [] h a = (h, tt)
push-each P p (q ∷ objects) h a = (a.0, push-each P p objects h a.1)

appended-each : (P : Placed → Type 0) (p : Placed) (objects next : List Placed) (t : Bool)
    → cond t (Some (objects ++ p ∷ [])) None ≡ Some next
    → P p → AllByRecursion P objects → AllByRecursion P next
appended-each P p objects next true e h a = let g : objects ++ p ∷ [] ≡ next = cc in
    subst (AllByRecursion P) g (push-each P p objects h a)
appended-each P p objects next false e h a = cc

set-each : (P : Placed → Type 0) (limit : ℕ) (p : Placed) (objects next : List Placed)
    (o : Option (List Placed)) → put_in_place p objects ≡ o
    → in_place_or_appended limit p objects o ≡ Some next → P p → AllByRecursion P objects
    → AllByRecursion P next
set-each P limit p objects next (Some changed) put e h a =
    let g : changed ≡ next = cc in
    subst (AllByRecursion P) g (put-each P (is_put p objects changed put) h a)
set-each P limit p objects next None put e h a =
    appended-each P p objects next (nat_lt (length objects) limit) e h a

-- what the action sets has P
abbrev pub SetHas : (Placed → Type 0) → Action → Type 0
SetHas P Nothing = Unit {0}
SetHas P (Remove tid) = Unit {0}
SetHas P (Set tid version content start size name mime) =
    P (record {
      object = record {
        name = name;
        content = content;
        mime = mime;
        version = version;
        tid = tid;
        length =
            size;
      };
      start = start;
    })

-- what holds of each object, and of the one that is set, holds of each one afterwards
pub after_each : (P : Placed → Type 0) (limit : ℕ) (objects next : List Placed) (action : Action)
    → objects_after limit objects action ≡ Some next
    → SetHas P action → AllByRecursion P objects → AllByRecursion P next
after_each P limit objects next Nothing e h a = let g : objects ≡ next = cc in
    subst (AllByRecursion P) g a
after_each P limit objects next (Remove tid) e h a = gone-each P (is_gone tid objects next e) a
after_each P limit objects next (Set tid version content start size name mime) e h a =
    let p : Placed = record {
      object =
          record {
            name = name;
            content = content;
            mime = mime;
            version = version;
            tid = tid;
            length =
                size;
          };
      start = start;
    } in
    set-each P limit p objects next (put_in_place p objects) refl e h a
