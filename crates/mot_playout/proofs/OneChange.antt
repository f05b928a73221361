-- What a command makes of the bodies of a carousel: one change at most.
use Rattle.std.proofs.Common.{◌≡◌, ℕ, Bool, true, false, cond, not, List, [], ◌∷◌, ◌++◌, length}
use Rattle.std.proofs.Common.{map, Option, Some, None, Ok, Err, refl, sym, ap, ◌∙◌, subst, arith}
use Rattle.std.proofs.lemmas.Bool.{and_parts, eqb-false, ne_eqb, or_parts}
use Rattle.std.proofs.lemmas.List.{map-append}
use Rattle.std.specs.Prelude.{◌==◌, nat_eq, nat_le, option_map}
use Rattle.std.specs.List.{list_any}
use Rattle.mot_numbers.specs.declared.refusal.Refusal.TheVariants.{NameTaken, TooManyObjects}
use Rattle.mot_objects.specs.declared.command.Command.{Command}
use Rattle.mot_objects.specs.declared.command.Command.TheVariants.{Put, Replace, Withdraw, Period}
use Rattle.mot_objects.specs.declared.command.Done.{Done}
use Rattle.mot_objects.specs.Carousel.{Carousel, IsSound, Object, change, change_if_named}
use Rattle.mot_objects.specs.Carousel.{change_to, free_object_id, has_name, new_object}
use Rattle.mot_objects.specs.Carousel.{objects_with, objects_without, renewed_object, used_ids}
use Rattle.mot_objects.specs.Ids.{contains, is_distinct}
use Rattle.mot_objects.proofs.Laws.{next_free_id-nearest}
use Rattle.mot_player.specs.Turn.{IsFollowable, IsOneChange, put, replaced, same, withdrawn}
use Rattle.mot_player.specs.Turn.{bodies_with_ids, turn_of_carousel}

-- bodies, each behind its id
abbrev Bodies : Type 0
Bodies = List (ℕ × List ℕ)

abbrev ids : Bodies → List ℕ
ids bodies = map (λ (b : ℕ × List ℕ). b.0) bodies

-- ---- ids

length-tids : (objects : List Object) → length (map (λ (o : Object). o.tid) objects)
    ≡ length objects
length-tids [] = refl
length-tids (o ∷ objects) = omega (arith, length-tids objects)

ids-are : (objects : List Object)
    → ids (bodies_with_ids objects) ≡ map (λ (o : Object). o.tid) objects
ids-are [] = refl
ids-are (o ∷ objects) = ap (λ l. o.tid ∷ l) (ids-are objects)

-- the id that a body takes is none of a body
fresh : (c : Carousel) → IsSound c
    → contains (ids (bodies_with_ids c.objects)) (free_object_id c) ≡ false
fresh c sound =
    let few = sound.few in
    let near = next_free_id-nearest c.cursor (used_ids c) sound.cursor.0 sound.cursor.1
    (omega (arith, length-tids c.objects)) in
    ap (λ l. contains l (free_object_id c)) (ids-are c.objects)
    ∙ (or_parts (nat_eq (free_object_id c) c.directory)
    (contains (map (λ (o : Object). o.tid) c.objects) (free_object_id c)) near.free).1

-- no two bodies have one id
distinct_bodies : (c : Carousel) → IsSound c
    → is_distinct (ids (bodies_with_ids c.objects)) ≡ true
distinct_bodies c sound =
    ap is_distinct (ids-are c.objects)
    ∙ (and_parts (not (contains (map (λ (o : Object). o.tid) c.objects) c.directory))
    (is_distinct (map (λ (o : Object). o.tid) c.objects)) sound.ids).1

-- an id of none is not that of one of them
other-id : (front back : Bodies) (b : ℕ × List ℕ) (id : ℕ)
    → contains (ids (front ++ b ∷ back)) id ≡ false → (b.0 == id) ≡ false
other-id [] back b id none =
    ne_eqb b.0 id (λ e. eqb-false id b.0 (or_parts (nat_eq id b.0) (contains (ids back) id) none).0
    (sym e))
other-id (c ∷ front) back b id none =
    other-id front back b id
    (or_parts (nat_eq id c.0) (contains (ids (front ++ b ∷ back)) id) none).1

-- ---- one object among others

record IsWith (f : Object → Object) (objects next : List Object) : Type 0 where
  front : List Object
  back : List Object
  gone : Object
  was : objects ≡ front ++ gone ∷ back
  is : next ≡ front ++ f gone ∷ back

with-cases : (f : Object → Object) (o : Object) (objects next : List Object) (b : Bool)
    (r : Option (List Object)) → ((rest : List Object) → r ≡ Some rest → IsWith f objects rest)
    → cond b (Some (f o ∷ objects)) (option_map (λ rest. o ∷ rest) r) ≡ Some next
    → IsWith f (o ∷ objects) next
with-cases f o objects next true r rest e =
    let same : f o ∷ objects ≡ next = cc in
    record { front = []; back = objects; gone = o; was = refl; is = sym same }
with-cases f o objects next false None rest e = cc
with-cases f o objects next false (Some others) rest e =
    let same : o ∷ others ≡ next = cc in
    let it = rest others refl in
    record {
      front = o ∷ it.front;
      back = it.back;
      gone = it.gone;
      was = ap (λ l. o ∷ l) it.was;
      is = sym same ∙ ap (λ l. o ∷ l) it.is;
    }

is-with : (name : List ℕ) (f : Object → Object) (objects next : List Object)
    → objects_with name f objects ≡ Some next → IsWith f objects next
is-with name f [] next e = cc
is-with name f (o ∷ objects) next e =
    with-cases f o objects next (has_name name o) (objects_with name f objects)
    (λ rest is. is-with name f objects rest is) e

record IsWithout (objects next : List Object) : Type 0 where
  front : List Object
  back : List Object
  gone : Object
  was : objects ≡ front ++ gone ∷ back
  is : next ≡ front ++ back

without-cases : (o : Object) (objects next : List Object) (b : Bool)
    (r : Option (List Object)) → ((rest : List Object) → r ≡ Some rest → IsWithout objects rest)
    → cond b (Some objects) (option_map (λ rest. o ∷ rest) r) ≡ Some next
    → IsWithout (o ∷ objects) next
without-cases o objects next true r rest e =
    let same : objects ≡ next = cc in
    record { front = []; back = objects; gone = o; was = refl; is = sym same }
without-cases o objects next false None rest e = cc
without-cases o objects next false (Some others) rest e =
    let same : o ∷ others ≡ next = cc in
    let it = rest others refl in
    record {
      front = o ∷ it.front;
      back = it.back;
      gone = it.gone;
      was = ap (λ l. o ∷ l) it.was;
      is = sym same ∙ ap (λ l. o ∷ l) it.is;
    }

is-without : (name : List ℕ) (objects next : List Object)
    → objects_without name objects ≡ Some next → IsWithout objects next
is-without name [] next e = cc
is-without name (o ∷ objects) next e =
    without-cases o objects next (has_name name o) (objects_without name objects)
    (λ rest is. is-without name objects rest is) e

-- ---- their bodies

abbrev body : Object → ℕ × List ℕ
body o = (o.tid, o.body)

bodies-around : (front back : List Object) (o : Object)
    → bodies_with_ids (front ++ o ∷ back)
    ≡ bodies_with_ids front ++ body o ∷ bodies_with_ids back
bodies-around front back o = map-append body front (o ∷ back)

bodies-put : (c : Carousel) (o : Object)
    → IsOneChange (bodies_with_ids c.objects) (bodies_with_ids (c.objects ++ o ∷ []))
bodies-put c o = put (body o) (bodies-around c.objects [] o)

bodies-with : (c : Carousel) (f : Object → Object) (next : List Object) → IsSound c
    → ((o : Object) → (f o).tid ≡ free_object_id c) → IsWith f c.objects next
    → IsOneChange (bodies_with_ids c.objects) (bodies_with_ids next)
bodies-with c f next sound id it =
    let was = ap bodies_with_ids it.was ∙ bodies-around it.front it.back it.gone in
    replaced (bodies_with_ids it.front) (bodies_with_ids it.back) (body it.gone) (body (f it.gone))
    was
    (ap bodies_with_ids it.is ∙ bodies-around it.front it.back (f it.gone))
    (other-id (bodies_with_ids it.front) (bodies_with_ids it.back) (body it.gone) (f it.gone).tid
    (ap (λ l. contains (ids l) (f it.gone).tid) (sym was)
    ∙ ap (contains (ids (bodies_with_ids c.objects))) (id it.gone) ∙ fresh c sound))

bodies-without : (objects next : List Object) → IsWithout objects next
    → IsOneChange (bodies_with_ids objects) (bodies_with_ids next)
bodies-without objects next it =
    withdrawn (bodies_with_ids it.front) (bodies_with_ids it.back) (body it.gone)
    (ap bodies_with_ids it.was ∙ bodies-around it.front it.back it.gone)
    (ap bodies_with_ids it.is ∙ map-append body it.front it.back)

-- ---- the law

put-cases : (t u : Bool) (r s : Carousel × Done)
    → cond t (Err NameTaken) (cond u (Err TooManyObjects) (Ok r)) ≡ Ok s → r ≡ s
put-cases true u r s e = cc
put-cases false true r s e = cc
put-cases false false r s e = cc

pub named-cases : (c : Carousel) (taken : Option ℕ) (o : Option (List Object)) (s : Carousel × Done)
    → change_if_named c taken o ≡ Ok s
    → (objects : List Object) × (o ≡ Some objects) × (change_to c c.period objects taken ≡ s)
named-cases c taken None s e = cc
named-cases c taken (Some objects) s e = (objects, refl, cc)

for-next : (objects : List Object) (made : Carousel × Done) (next : Carousel) (done : Done)
    (old : Bodies) → made ≡ (next, done) → made.0.objects ≡ objects
    → IsOneChange old (bodies_with_ids objects) → IsOneChange old (bodies_with_ids next.objects)
for-next objects made next done old e is change =
    subst (λ l. IsOneChange old (bodies_with_ids l))
    (sym is ∙ ap (λ (p : Carousel × Done). p.0.objects) e) change

-- a command that is accepted makes one change at most of the bodies of a sound carousel
one_change : (c next : Carousel) (limit : ℕ) (command : Command) (done : Done) → IsSound c
    → change c limit command ≡ Ok (next, done)
    → IsOneChange (bodies_with_ids c.objects) (bodies_with_ids next.objects)
unfolding change
one_change c next limit (Put name content mime body) done sound e =
    let o : Object = new_object name content mime body (free_object_id c) in
    for-next (c.objects ++ o ∷ [])
    (change_to c c.period (c.objects ++ o ∷ []) (Some (free_object_id c))) next done _
    (put-cases (list_any (has_name name) c.objects) (nat_le limit (length c.objects)) _ (next, done)
    e) refl (bodies-put c o)
one_change c next limit (Replace name content mime body) done sound e =
    let id = free_object_id c in
    let f : Object → Object = renewed_object content mime body id in
    let named = named-cases c (Some id) (objects_with name f c.objects) (next, done) e in
    for-next named.0 (change_to c c.period named.0 (Some id)) next done _ named.2 refl
    (bodies-with c f named.0 sound (λ o. refl) (is-with name f c.objects named.0 named.1))
one_change c next limit (Withdraw name) done sound e =
    let named = named-cases c None (objects_without name c.objects) (next, done) e in
    for-next named.0 (change_to c c.period named.0 None) next done _ named.2 refl
    (bodies-without c.objects named.0 (is-without name c.objects named.0 named.1))
one_change c next limit (Period period) done sound e =
    let made : change_to c period c.objects None ≡ (next, done) = cc in
    for-next c.objects (change_to c period c.objects None) next done _ made refl (same refl)

-- the turn of a sound carousel can be followed by that after a command
pub followable : (c next : Carousel) (limit size then_size : ℕ) (command : Command) (done : Done)
    → IsSound c → change c limit command ≡ Ok (next, done)
    → IsFollowable (turn_of_carousel c size) (turn_of_carousel next then_size)
followable c next limit size then_size command done sound e = record {
  change = one_change c next limit command done sound e;
  distinct = distinct_bodies c sound;
}
