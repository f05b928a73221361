-- An accepted command leaves a sound carousel sound.
use Rattle.std.proofs.Common.{◌≡◌, ℕ, suc, ◌<◌, ◌≤◌, Bool, true, false, cond, not, List, [], ◌∷◌}
use Rattle.std.proofs.Common.{◌++◌, length, map, Option, Some, None, Result, Ok, Err, refl, sym, ap}
use Rattle.std.proofs.Common.{◌∙◌, subst, arith, length-append, append-nil}
use Rattle.std.proofs.lemmas.Bool.{and_parts, and_from, or_parts, or_from, not-true, not_from_false}
use Rattle.std.proofs.lemmas.Bool.{ne_eqb, eqb-false, leb-false}
use Rattle.std.proofs.lemmas.List.{map-append}
use Rattle.std.proofs.lemmas.List.Folds.{list_any-append}
use Rattle.std.specs.Prelude.{nat_eq, nat_le, bytes_eq, option_map, option_to_list, unwrap_or}
use Rattle.std.specs.Prelude.{IfSome}
use Rattle.std.specs.List.{list_any, AllByRecursion}
use Rattle.mot_numbers.specs.declared.refusal.Refusal.{Refusal}
use Rattle.mot_numbers.specs.declared.refusal.Refusal.TheVariants.{NameTaken, TooManyObjects}
use Rattle.mot_numbers.specs.Reading.{◌>>=◌}
use Rattle.mot_objects.specs.declared.command.Command.{Command}
use Rattle.mot_objects.specs.declared.command.Command.TheVariants.{Put, Replace, Withdraw, Period}
use Rattle.mot_objects.specs.declared.command.Done.{Done}
use Rattle.mot_objects.specs.Name.{ContentNumbers}
use Rattle.mot_objects.specs.Carousel.{Object, Carousel, has_name, objects_with, objects_without}
use Rattle.mot_objects.specs.Carousel.{renewed_object, used_ids, free_object_id, free_directory_id}
use Rattle.mot_objects.specs.Carousel.{change_to, change_if_named, change, are_names_distinct}
use Rattle.mot_objects.specs.Carousel.{IsSound, new_carousel, carousel_after, carousel_if_accepted}
use Rattle.mot_objects.specs.Ids.{contains, is_distinct, IsNearestFree}
use Rattle.mot_objects.specs.Laws.{ChangesKeepSoundness, CommandsMakeSoundCarousels}
use Rattle.mot_objects.proofs.NextFree.{next_free_id-nearest}

abbrev tids : List Object → List ℕ
tids objects = map (λ (o : Object). o.tid) objects

abbrev names : List Object → List (List ℕ)
names objects = map (λ (o : Object). o.name) objects

abbrev InRange : ℕ → Type 0
InRange id = (1 ≤ id) × (id ≤ 65535)

-- ---- ids

contains-parts : (xs ys : List ℕ) (x : ℕ) → contains (xs ++ ys) x ≡ false
    → (contains xs x ≡ false) × (contains ys x ≡ false)
contains-parts [] ys x e = (refl, e)
contains-parts (z ∷ xs) ys x e =
    let h = or_parts (nat_eq x z) (contains (xs ++ ys) x) e in
    let r = contains-parts xs ys x h.1 in
    (or_from (nat_eq x z) (contains xs x) h.0 r.0, r.1)

nat_eq-comm : (x y : ℕ) → nat_eq x y ≡ false → nat_eq y x ≡ false
nat_eq-comm x y e = ne_eqb y x (λ f. eqb-false x y e (sym f))

distinct-push : (xs : List ℕ) (id : ℕ) → is_distinct xs ≡ true → contains xs id ≡ false
    → is_distinct (xs ++ id ∷ []) ≡ true
distinct-push [] id d e = refl
distinct-push (x ∷ xs) id d e =
    let p = and_parts (not (contains xs x)) (is_distinct xs) d in
    let q = or_parts (nat_eq id x) (contains xs id) e in
    and_from _ _ (not_from_false _ (contains-push xs id x (not-true _ p.0) (nat_eq-comm id x q.0)))
    (distinct-push xs id p.1 q.1)
  where
    contains-push : (ys : List ℕ) (id y : ℕ) → contains ys y ≡ false → nat_eq y id ≡ false
        → contains (ys ++ id ∷ []) y ≡ false
    contains-push [] id y e f = or_from (nat_eq y id) false f refl
    contains-push (z ∷ ys) id y e f = let h = or_parts (nat_eq y z) (contains ys y) e in
        or_from (nat_eq y z) (contains (ys ++ id ∷ []) y) h.0 (contains-push ys id y h.1 f)

range-push : (xs : List ℕ) (id : ℕ) → AllByRecursion InRange xs → InRange id
    → AllByRecursion InRange (xs ++ id ∷ [])
range-push [] id a r = (r, tt)
range-push (x ∷ xs) id a r = (a.0, range-push xs id a.1 r)

-- ---- names

-- one more name that is not among them
pub names-push : (ns : List (List ℕ)) (n : List ℕ) → are_names_distinct ns ≡ true
    → list_any (λ m. bytes_eq m n) ns ≡ false → are_names_distinct (ns ++ n ∷ []) ≡ true
names-push [] n d e = refl
names-push (m ∷ ns) n d e =
    let p = and_parts (not (list_any (bytes_eq m) ns)) (are_names_distinct ns) d in
    let q = or_parts (bytes_eq m n) (list_any (λ m. bytes_eq m n) ns) e in
    and_from _ _ (not_from_false _
    (list_any-append (bytes_eq m) ns (n ∷ [])
    ∙ or_from _ _ (not-true _ p.0) (or_from _ _ q.0 refl))) (names-push ns n p.1 q.1)

unnamed : (n : List ℕ) (os : List Object) → list_any (has_name n) os ≡ false
    → list_any (λ m. bytes_eq m n) (names os) ≡ false
unnamed n [] e = refl
unnamed n (o ∷ os) e = let h = or_parts (bytes_eq o.name n) (list_any (has_name n) os) e in
    or_from _ _ h.0 (unnamed n os h.1)

-- ---- one object replaced

data IsReplaced (f : Object → Object) : List Object → List Object → Type 0 where
  here : (o : Object) (os : List Object) → IsReplaced f (o ∷ os) (f o ∷ os)
  there : (o : Object) (os next : List Object) → IsReplaced f os next
      → IsReplaced f (o ∷ os) (o ∷ next)

objects_with-cases : (f : Object → Object) (o : Object) (os next : List Object) (t : Bool)
    (r : Option (List Object)) →
    ((rest : List Object) → r ≡ Some rest → IsReplaced f os rest)
    → cond t (Some (f o ∷ os)) (option_map (λ rest. o ∷ rest) r) ≡ Some next
    → IsReplaced f (o ∷ os) next
objects_with-cases f o os next true r h e = let g : f o ∷ os ≡ next = cc in
    subst (IsReplaced f (o ∷ os)) g (here o os)
objects_with-cases f o os next false None h e = cc
objects_with-cases f o os next false (Some rest) h e = let g : o ∷ rest ≡ next = cc in
    subst (IsReplaced f (o ∷ os)) g (there o os rest (h rest refl))

is_replaced : (name : List ℕ) (f : Object → Object) (os next : List Object)
    → objects_with name f os ≡ Some next → IsReplaced f os next
is_replaced name f [] next e = cc
is_replaced name f (o ∷ os) next e =
    objects_with-cases f o os next (has_name name o) (objects_with name f os)
    (λ rest h. is_replaced name f os rest h) e

module _ (f : Object → Object) (id : ℕ) (new_id : (o : Object) → (f o).tid ≡ id)
    (same_name : (o : Object) → (f o).name ≡ o.name) where
  objects_with-contains : {os next : List Object} (x : ℕ) → IsReplaced f os next
      → contains (tids os) x ≡ false → nat_eq x id ≡ false → contains (tids next) x ≡ false
  objects_with-contains x (here o os) e g =
      or_from _ _ (ap (nat_eq x) (new_id o) ∙ g)
      (or_parts (nat_eq x o.tid) (contains (tids os) x) e).1
  objects_with-contains x (there o os next r) e g = let h =
      or_parts (nat_eq x o.tid) (contains (tids os) x) e in
      or_from _ _ h.0 (objects_with-contains x r h.1 g)

  objects_with-distinct : {os next : List Object} → IsReplaced f os next
      → is_distinct (tids os) ≡ true → contains (tids os) id ≡ false
      → is_distinct (tids next) ≡ true
  objects_with-distinct (here o os) d e =
      let p = and_parts (not (contains (tids os) o.tid)) (is_distinct (tids os)) d in
      let q = or_parts (nat_eq id o.tid) (contains (tids os) id) e in
      and_from _ _ (not_from_false _ (ap (contains (tids os)) (new_id o) ∙ q.1)) p.1
  objects_with-distinct (there o os next r) d e =
      let p = and_parts (not (contains (tids os) o.tid)) (is_distinct (tids os)) d in
      let q = or_parts (nat_eq id o.tid) (contains (tids os) id) e in
      and_from _ _ (not_from_false _
      (objects_with-contains o.tid r (not-true _ p.0) (nat_eq-comm id o.tid q.0)))
      (objects_with-distinct r p.1 q.1)

  objects_with-range : {os next : List Object} → IsReplaced f os next
      → AllByRecursion InRange (tids os) → InRange id → AllByRecursion InRange (tids next)
  objects_with-range (here o os) a g = (subst InRange (sym (new_id o)) g, a.1)
  objects_with-range (there o os next r) a g = (a.0, objects_with-range r a.1 g)

  objects_with-names : {os next : List Object} → IsReplaced f os next → names next ≡ names os
  objects_with-names (here o os) = ap (λ n. n ∷ names os) (same_name o)
  objects_with-names (there o os next r) = ap (λ l. o.name ∷ l) (objects_with-names r)

  objects_with-length : {os next : List Object} → IsReplaced f os next → length next ≡ length os
  objects_with-length (here o os) = refl
  objects_with-length (there o os next r) = ap suc (objects_with-length r)

-- ---- one object withdrawn

data IsWithdrawn : List Object → List Object → Type 0 where
  gone : (o : Object) (os : List Object) → IsWithdrawn (o ∷ os) os
  after : (o : Object) (os next : List Object) → IsWithdrawn os next
      → IsWithdrawn (o ∷ os) (o ∷ next)

objects_without-cases : (o : Object) (os next : List Object) (t : Bool) (r : Option (List Object)) →
    ((rest : List Object) → r ≡ Some rest → IsWithdrawn os rest)
    → cond t (Some os) (option_map (λ rest. o ∷ rest) r) ≡ Some next → IsWithdrawn (o ∷ os) next
objects_without-cases o os next true r h e = let g : os ≡ next = cc in
    subst (IsWithdrawn (o ∷ os)) g (gone o os)
objects_without-cases o os next false None h e = cc
objects_without-cases o os next false (Some rest) h e = let g : o ∷ rest ≡ next = cc in
    subst (IsWithdrawn (o ∷ os)) g (after o os rest (h rest refl))

is_withdrawn : (name : List ℕ) (os next : List Object) → objects_without name os ≡ Some next
    → IsWithdrawn os next
is_withdrawn name [] next e = cc
is_withdrawn name (o ∷ os) next e =
    objects_without-cases o os next (has_name name o) (objects_without name os)
    (λ rest h. is_withdrawn name os rest h) e

objects_without-contains : {os next : List Object} (x : ℕ) → IsWithdrawn os next
    → contains (tids os) x ≡ false → contains (tids next) x ≡ false
objects_without-contains x (gone o os) e = (or_parts (nat_eq x o.tid) (contains (tids os) x) e).1
objects_without-contains x (after o os next w) e = let h =
    or_parts (nat_eq x o.tid) (contains (tids os) x) e in
    or_from _ _ h.0 (objects_without-contains x w h.1)

objects_without-distinct : {os next : List Object} → IsWithdrawn os next
    → is_distinct (tids os) ≡ true → is_distinct (tids next) ≡ true
objects_without-distinct (gone o os) d =
    (and_parts (not (contains (tids os) o.tid)) (is_distinct (tids os)) d).1
objects_without-distinct (after o os next w) d =
    let p = and_parts (not (contains (tids os) o.tid)) (is_distinct (tids os)) d in
    and_from _ _ (not_from_false _ (objects_without-contains o.tid w (not-true _ p.0)))
    (objects_without-distinct w p.1)

objects_without-range : {os next : List Object} → IsWithdrawn os next
    → AllByRecursion InRange (tids os) → AllByRecursion InRange (tids next)
objects_without-range (gone o os) a = a.1
objects_without-range (after o os next w) a = (a.0, objects_without-range w a.1)

objects_without-unnamed : {os next : List Object} (n : List ℕ) → IsWithdrawn os next
    → list_any (bytes_eq n) (names os) ≡ false → list_any (bytes_eq n) (names next) ≡ false
objects_without-unnamed n (gone o os) e =
    (or_parts (bytes_eq n o.name) (list_any (bytes_eq n) (names os)) e).1
objects_without-unnamed n (after o os next w) e = let h =
    or_parts (bytes_eq n o.name) (list_any (bytes_eq n) (names os)) e in
    or_from _ _ h.0 (objects_without-unnamed n w h.1)

objects_without-names : {os next : List Object} → IsWithdrawn os next
    → are_names_distinct (names os) ≡ true → are_names_distinct (names next) ≡ true
objects_without-names (gone o os) d =
    (and_parts (not (list_any (bytes_eq o.name) (names os))) (are_names_distinct (names os)) d).1
objects_without-names (after o os next w) d =
    let p = and_parts (not (list_any (bytes_eq o.name) (names os))) (are_names_distinct (names os))
    d in
    and_from _ _ (not_from_false _ (objects_without-unnamed o.name w (not-true _ p.0)))
    (objects_without-names w p.1)

objects_without-length : {os next : List Object} → IsWithdrawn os next → length next ≤ length os
objects_without-length (gone o os) = omega arith
objects_without-length (after o os next w) = let h = objects_without-length w in omega arith

-- ---- the carousel after a command

-- objects that a sound carousel may go on with, where an id was taken for one of them or none was
record MayFollow (c : Carousel) (taken : Option ℕ) (os : List Object) : Type 0 where
  names_distinct : are_names_distinct (names os) ≡ true
  ids_distinct : is_distinct (tids os) ≡ true
  ids_used : (x : ℕ) → contains (used_ids c ++ option_to_list taken) x ≡ false
      → contains (tids os) x ≡ false
  range : AllByRecursion InRange (tids os)
  few : length os ≤ 250

length-taken : (taken : Option ℕ) → length (option_to_list taken) ≤ 1
length-taken None = omega arith
length-taken (Some id) = omega arith

length-tids : (os : List Object) → length (tids os) ≡ length os
length-tids [] = refl
length-tids (o ∷ os) = ap suc (length-tids os)

directory-nearest : (c : Carousel) (taken : Option ℕ) → IsSound c
    → InRange (unwrap_or taken c.cursor)
    → IsNearestFree (unwrap_or taken c.cursor) (used_ids c ++ option_to_list taken)
    (free_directory_id c taken)
directory-nearest c taken s r =
    let few = s.few in
    next_free_id-nearest (unwrap_or taken c.cursor) (used_ids c ++ option_to_list taken) r.0 r.1
    (omega (
      arith,
      length-append (used_ids c) (option_to_list taken),
      length-taken taken,
      length-tids c.objects,
    ))

change_to-sound : (c : Carousel) (period : ℕ) (os : List Object) (taken : Option ℕ) → IsSound c
    → InRange (unwrap_or taken c.cursor) → MayFollow c taken os
    → IsSound (change_to c period os taken).0
change_to-sound c period os taken s r m =
    let d = directory-nearest c taken s r in
    record {
      names = m.names_distinct;
      ids = and_from _ _ (not_from_false _ (m.ids_used (free_directory_id c taken) d.free))
          m.ids_distinct;
      range = (d.in_range, m.range);
      cursor = d.in_range;
      few = m.few;
    }

object-nearest : (c : Carousel) → IsSound c → IsNearestFree c.cursor (used_ids c) (free_object_id c)
object-nearest c s = let few = s.few in
    next_free_id-nearest c.cursor (used_ids c) s.cursor.0 s.cursor.1
    (omega (arith, length-tids c.objects))

-- what the ids of a sound carousel are
ids-parts : (c : Carousel) (x : ℕ) → contains (used_ids c) x ≡ false
    → contains (tids c.objects) x ≡ false
ids-parts c x e = (or_parts (nat_eq x c.directory) (contains (tids c.objects) x) e).1

put-follows : (c : Carousel) (o : Object) → IsSound c → o.tid ≡ free_object_id c
    → list_any (has_name o.name) c.objects ≡ false → length c.objects < 250
    → MayFollow c (Some (free_object_id c)) (c.objects ++ o ∷ [])
put-follows c o s id unused few =
    let near = object-nearest c s in
    let cut : tids (c.objects ++ o ∷ []) ≡ tids c.objects ++ free_object_id c ∷ [] =
    map-append (λ (p : Object). p.tid) c.objects (o ∷ [])
    ∙ ap (λ n. tids c.objects ++ n ∷ []) id in
    let called : names (c.objects ++ o ∷ []) ≡ names c.objects ++ o.name ∷ [] =
    map-append (λ (p : Object). p.name) c.objects (o ∷ []) in
    record {
      names_distinct = ap are_names_distinct called
          ∙ names-push (names c.objects) o.name s.names (unnamed o.name c.objects unused);
      ids_distinct = ap is_distinct cut
          ∙ distinct-push (tids c.objects) (free_object_id c) (and_parts _ _ s.ids).1
          (ids-parts c (free_object_id c) near.free);
      ids_used = λ x e. ap (λ l. contains l x) cut
          ∙ (or_parts (nat_eq x c.directory) (contains (tids c.objects ++ free_object_id c ∷ []) x)
          e).1;
      range = subst (AllByRecursion InRange) (sym cut)
          (range-push (tids c.objects) (free_object_id c) s.range.1 near.in_range);
      few = omega (arith, length-append c.objects (o ∷ []));
    }

replace-follows : (c : Carousel) (content : ContentNumbers) (mime : Option (List ℕ)) (body : List ℕ)
    (next : List Object) → IsSound c →
    IsReplaced (renewed_object content mime body (free_object_id c)) c.objects next
    → MayFollow c (Some (free_object_id c)) next
replace-follows c content mime body next s r =
    let near = object-nearest c s in
    let f = renewed_object content mime body (free_object_id c) in
    let few = s.few in
    record {
      names_distinct = ap are_names_distinct
          (objects_with-names f (free_object_id c) (λ o. refl) (λ o. refl) r) ∙ s.names;
      ids_distinct = objects_with-distinct f (free_object_id c) (λ o. refl) (λ o. refl) r
          (and_parts _ _ s.ids).1 (ids-parts c (free_object_id c) near.free);
      ids_used = λ x e.
          let h = contains-parts (used_ids c) (free_object_id c ∷ []) x e in
          objects_with-contains f (free_object_id c) (λ o. refl) (λ o. refl) x r (ids-parts c x h.0)
          (or_parts (nat_eq x (free_object_id c)) false h.1).0;
      range = objects_with-range f (free_object_id c) (λ o. refl) (λ o. refl) r s.range.1
          near.in_range;
      few = omega (arith, objects_with-length f (free_object_id c) (λ o. refl) (λ o. refl) r);
    }

stays : (c : Carousel) (x : ℕ) → contains (used_ids c ++ []) x ≡ false
    → contains (tids c.objects) x ≡ false
stays c x e = ids-parts c x (ap (λ l. contains l x) (sym (append-nil (used_ids c))) ∙ e)

withdraw-follows : (c : Carousel) (next : List Object) → IsSound c → IsWithdrawn c.objects next
    → MayFollow c None next
withdraw-follows c next s w =
    let few = s.few in
    record {
      names_distinct = objects_without-names w s.names;
      ids_distinct = objects_without-distinct w (and_parts _ _ s.ids).1;
      ids_used = λ x e. objects_without-contains x w (stays c x e);
      range = objects_without-range w s.range.1;
      few = omega (arith, objects_without-length w);
    }

period-follows : (c : Carousel) → IsSound c → MayFollow c None c.objects
period-follows c s = record {
  names_distinct = s.names;
  ids_distinct = (and_parts _ _ s.ids).1;
  ids_used = λ x e. stays c x e;
  range = s.range.1;
  few = s.few;
}

-- ---- the law

-- a put that is accepted: no such name, and room
pub put-cases : (t u : Bool) (r s : Carousel × Done)
    → cond t (Err NameTaken) (cond u (Err TooManyObjects) (Ok r)) ≡ Ok s
    → (t ≡ false) × (u ≡ false) × (r ≡ s)
put-cases true u r s e = cc
put-cases false true r s e = cc
put-cases false false r s e = (refl, refl, cc)

-- an accepted change of an object of a name: there is one
pub named-cases : (c : Carousel) (taken : Option ℕ) (o : Option (List Object)) (s : Carousel × Done)
    → change_if_named c taken o ≡ Ok s
    → (os : List Object) × (o ≡ Some os) × (change_to c c.period os taken ≡ s)
named-cases c taken None s e = cc
named-cases c taken (Some os) s e = (os, refl, cc)

first : (r s : Carousel × Done) → r ≡ s → IsSound r.0 → IsSound s.0
first r s e h = subst (λ (p : Carousel × Done). IsSound p.0) e h

-- an accepted command leaves a sound carousel sound
pub change-sound : ChangesKeepSoundness
unfolding change
change-sound c next limit (Put name content mime body) done l s e =
    let o : Object = record {
      name = name;
      content = content;
      mime = mime;
      version = 0;
      tid =
          free_object_id c;
      body = body;
    } in
    let taken = Some (free_object_id c) in
    let h = put-cases (list_any (has_name name) c.objects) (nat_le limit (length c.objects))
    (change_to c c.period (c.objects ++ o ∷ []) taken) (next, done) e in
    let few : length c.objects < 250 = omega (arith, leb-false limit (length c.objects) h.1) in
    first _ (next, done) h.2
    (change_to-sound c c.period (c.objects ++ o ∷ []) taken s (object-nearest c s).in_range
    (put-follows c o s refl h.0 few))
change-sound c next limit (Replace name content mime body) done l s e =
    let taken = Some (free_object_id c) in
    let f = renewed_object content mime body (free_object_id c) in
    let h = named-cases c taken (objects_with name f c.objects) (next, done) e in
    first _ (next, done) h.2
    (change_to-sound c c.period h.0 taken s (object-nearest c s).in_range
    (replace-follows c content mime body h.0 s (is_replaced name f c.objects h.0 h.1)))
change-sound c next limit (Withdraw name) done l s e =
    let h = named-cases c None (objects_without name c.objects) (next, done) e in
    first _ (next, done) h.2
    (change_to-sound c c.period h.0 None s s.cursor
    (withdraw-follows c h.0 s (is_withdrawn name c.objects h.0 h.1)))
change-sound c next limit (Period period) done l s e =
    let h : change_to c period c.objects None ≡ (next, done) = cc in
    first _ (next, done) h (change_to-sound c period c.objects None s s.cursor (period-follows c s))

-- ---- whole runs

new-sound : IsSound new_carousel
new-sound = record {
  names = refl;
  ids = refl;
  range = ((omega arith, omega arith), tt);
  cursor =
      (omega arith, omega arith);
  few = omega arith;
}

accepted-cases : (r : Result (Carousel × Done) Refusal) (P : Option Carousel → Type 0)
    → ((s : Carousel × Done) → r ≡ Ok s → P (Some s.0)) → P None → P (carousel_if_accepted r)
accepted-cases (Ok (c, done)) P f n = f (c, done) refl
accepted-cases (Err refusal) P f n = n

runs-sound : (limit : ℕ) (commands : List Command) (c : Carousel) → limit ≤ 250 → IsSound c
    → IfSome (carousel_after c limit commands) IsSound
unfolding carousel_after
runs-sound limit [] c l s = s
runs-sound limit (command ∷ commands) c l s =
    accepted-cases (change c limit command)
    (λ o. IfSome (o >>= λ next. carousel_after next limit commands) IsSound)
    (λ r e. runs-sound limit commands r.0 l (change-sound c r.0 limit command r.1 l s e)) tt

-- whatever commands make of the new carousel is sound
pub commands-sound : CommandsMakeSoundCarousels
commands-sound limit commands l = runs-sound limit commands new_carousel l new-sound
