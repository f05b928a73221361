-- The record of an accepted command makes of the catalogue what the command makes of the carousel.
use Rattle.std.proofs.Common.{◌≡◌, ℕ, ◌+◌, Bool, true, false, cond, not, List, [], ◌∷◌, ◌++◌}
use Rattle.std.proofs.Common.{length, map, slice_range, Option, Some, None, Ok, refl, sym, ap, ◌∙◌}
use Rattle.std.proofs.Common.{subst, arith}
use Rattle.std.proofs.lemmas.Bool.{and_parts, and_from, or_left, or_right, or_parts, not-true}
use Rattle.std.proofs.lemmas.Bool.{false≢true, eq-eqb, ne_eqb, leb-false, lt-ltb}
use Rattle.std.proofs.lemmas.List.{map-append, length-map}
use Rattle.std.proofs.lemmas.Slice.Eq.{bytes_eq-Decides}
use Rattle.std.specs.Prelude.{nat_eq, nat_le, bytes_eq, option_map}
use Rattle.std.specs.List.{list_any, list_all}
use Rattle.mot_journal.specs.declared.record.Record.{Record}
use Rattle.mot_journal.specs.declared.record.Action.{Action}
use Rattle.mot_journal.specs.declared.record.Action.TheVariants.{Nothing}
use Rattle.mot_journal.specs.Catalogue.{Placed, Catalogue, put_in_place, placed_without}
use Rattle.mot_journal.specs.Catalogue.{in_place_or_appended, objects_after, are_all_apart}
use Rattle.mot_journal.specs.Catalogue.{is_consistent, catalogue_after, body_in_area, carousel_in}
use Rattle.mot_journal.specs.Catalogue.{extents_of}
use Rattle.mot_objects.specs.declared.command.Command.{Command}
use Rattle.mot_objects.specs.declared.command.Command.TheVariants.{Put, Replace, Withdraw, Period}
use Rattle.mot_objects.specs.declared.command.Done.{Done}
use Rattle.mot_objects.specs.Name.{ContentNumbers}
use Rattle.mot_objects.specs.Carousel.{Object, Carousel, change, change_to, has_name}
use Rattle.mot_objects.specs.Carousel.{objects_with as whole_objects_with}
use Rattle.mot_objects.specs.Carousel.{objects_without as whole_objects_without, renewed_object}
use Rattle.mot_objects.specs.Carousel.{used_ids, free_object_id, IsSound}
use Rattle.mot_objects.specs.Ids.{contains, is_distinct}
use Rattle.mot_objects.specs.Stands.{object_of}
use Rattle.mot_objects.proofs.Laws as sound
use Rattle.mot_carousel.specs.Gap.{is_beside}
use Rattle.mot_repository.specs.Inner.Following.{extent_of, extents_with, extents_without}
use Rattle.mot_repository.specs.Inner.Following.{placed_extents_after, object_named, set_action}
use Rattle.mot_repository.specs.Inner.Following.{remove_action, record_of, IsPlaced}
use Rattle.mot_repository.specs.Inner.Following.{RecordsFollowCommands}
use Rattle.mot_repository.proofs.Folding.{numbered, step_from, is_put, put_apart, push_apart}
use Rattle.mot_repository.proofs.Folding.{or-comm, are_beside, is_gone, apart_without_one}
use Rattle.mot_repository.specs.Inner.Whole.{placed_tids}

abbrev whole : List ℕ → Placed → Object
whole area p = object_of p.object (body_in_area area p)

abbrev wholes : List ℕ → List Placed → List Object
wholes area objects = map (λ (p : Placed). object_of p.object (body_in_area area p)) objects

tids-wholes : (area : List ℕ) (objects : List Placed)
    → map (λ (o : Object). o.tid) (wholes area objects) ≡ placed_tids objects
tids-wholes area [] = refl
tids-wholes area (p ∷ objects) = ap (λ l. p.object.tid ∷ l) (tids-wholes area objects)

-- the object of the carousel, with its body at this start
abbrev placed_at : ℕ → ℕ → Object → Placed
placed_at start size o = record {
  object = record {
    name = o.name;
    content = o.content;
    mime = o.mime;
    version = o.version;
    tid =
        o.tid;
    length = size;
  };
  start = start;
}

abbrev record_with : Carousel → Action → Record
record_with next action =
    record {
      period = next.period;
      directory = next.directory;
      cursor = next.cursor;
      action =
          action;
    }

-- a record of this action makes of the catalogue what the carousel became
abbrev Follows : ℕ → List ℕ → Catalogue → Carousel → List (ℕ × ℕ) → Action → Type 0
Follows limit area c next extents action =
    (after : Catalogue) × (catalogue_after limit c (record_with next action) ≡ Some after)
    × (carousel_in area after ≡ next)
    × (extents_of after ≡ extents)

follows : (limit : ℕ) (area : List ℕ) (c : Catalogue) (next : Carousel) (action : Action)
    (objects : List Placed) → IsSound next
    → objects_after limit c.objects action ≡ Some objects → wholes area objects ≡ next.objects
    → are_all_apart objects ≡ true
    → (extents : List (ℕ × ℕ)) → map extent_of objects ≡ extents
    → Follows limit area c next extents action
follows limit area c next action objects is after same apart extents lie =
    let ids : next.directory ∷ placed_tids objects ≡ used_ids next =
    ap (λ l. next.directory ∷ l)
    (sym (tids-wholes area objects) ∙ ap (map (λ (o : Object). o.tid)) same) in (
      numbered (record_with next action) objects,
      step_from limit c (record_with next action) objects after
          (and_from _ _ (ap is_distinct ids ∙ is.ids) apart),
      ap (λ (l : List Object). let d : Carousel =
          record {
            period = next.period;
            directory = next.directory;
            cursor = next.cursor;
            objects =
                l;
          } in d) same,
      lie,
    )

same-bytes : (xs : List ℕ) → bytes_eq xs xs ≡ true
same-bytes xs = (bytes_eq-Decides xs xs).1 refl

-- a free range meets no body
beside : (p : Placed) (objects : List Placed)
    → list_all (is_beside p.start p.object.length)
    (map (λ (q : Placed). (q.start, q.object.length)) objects) ≡ true
    → are_beside p objects ≡ true
beside p [] e = refl
beside p (q ∷ objects) e =
    let rest = list_all (is_beside p.start p.object.length)
    (map (λ (x : Placed). (x.start, x.object.length)) objects) in
    let h = and_parts (is_beside p.start p.object.length (q.start, q.object.length)) rest e in
    and_from _ _ (or-comm (nat_le (p.start + p.object.length) q.start)
    (nat_le (q.start + q.object.length) p.start) h.0) (beside p objects h.1)

-- ---- an object at the end

named-push : (name : List ℕ) (o : Object) (objects : List Object)
    → list_any (has_name name) objects ≡ false → has_name name o ≡ true
    → object_named name (objects ++ o ∷ []) ≡ Some o
named-push name o [] e is = ap (λ t. cond t (Some o) None) is
named-push name o (q ∷ objects) e is =
    let h = or_parts (has_name name q) (list_any (has_name name) objects) e in
    ap (λ t. cond t (Some q) (object_named name (objects ++ o ∷ []))) h.0
    ∙ named-push name o objects h.1 is

not-in-place : (area : List ℕ) (p : Placed) (objects : List Placed)
    → list_any (has_name p.object.name) (wholes area objects) ≡ false
    → put_in_place p objects ≡ None
not-in-place area p [] e = refl
not-in-place area p (q ∷ objects) e =
    let h = or_parts (bytes_eq q.object.name p.object.name)
    (list_any (has_name p.object.name) (wholes area objects)) e in
    ap (λ t. cond t (Some (p ∷ objects)) (option_map (λ l. q ∷ l) (put_in_place p objects))) h.0
    ∙ ap (option_map (λ l. q ∷ l)) (not-in-place area p objects h.1)

-- ---- an object in its place

record IsRenewed (area : List ℕ) (name : List ℕ) (body : List ℕ) (start : ℕ) (objects : List Placed)
    (os : List Object) : Type 0 where
  found : Object
  named_is : object_named name os ≡ Some found
  name_is : found.name ≡ name
  after : List Placed
  put : put_in_place (placed_at start (length body) found) objects ≡ Some after
  same : wholes area after ≡ os
  extents : map extent_of after ≡ extents_with name (start, length body) objects

module _ (area name : List ℕ) (content : ContentNumbers) (mime : Option (List ℕ)) (body : List ℕ)
    (id start : ℕ)
    (lies : slice_range area start (start + length body) ≡ body) where
  renewed-here : (q : Placed) (objects : List Placed) → has_name name (whole area q) ≡ true
      → IsRenewed area name body start (q ∷ objects)
      (renewed_object content mime body id (whole area q) ∷ wholes area objects)
  renewed-here q objects is =
      let o : Object = renewed_object content mime body id (whole area q) in
      let p : Placed = placed_at start (length body) o in
      record {
        found = o;
        named_is = ap (λ t. cond t (Some o) (object_named name (wholes area objects))) is;
        name_is = (bytes_eq-Decides q.object.name name).0 is;
        after = p ∷ objects;
        put = ap (λ t. cond t (Some (p ∷ objects))
            (option_map (λ l. q ∷ l) (put_in_place p objects))) (same-bytes q.object.name);
        same = ap (λ b. object_of p.object b ∷ wholes area objects) lies;
        extents = sym (ap (λ t. cond t ((start, length body) ∷ map extent_of objects)
            (extent_of q ∷ extents_with name (start, length body) objects)) is);
      }

  renewed-there : (q : Placed) (objects : List Placed) (os : List Object)
      → has_name name (whole area q) ≡ false
      → IsRenewed area name body start objects os
      → IsRenewed area name body start (q ∷ objects) (whole area q ∷ os)
  renewed-there q objects os other r =
      let p : Placed = placed_at start (length body) r.found in
      record {
        found = r.found;
        named_is = ap (λ t. cond t (Some (whole area q)) (object_named name os)) other ∙ r.named_is;
        name_is = r.name_is;
        after = q ∷ r.after;
        put = ap (λ t. cond t (Some (p ∷ objects))
            (option_map (λ l. q ∷ l) (put_in_place p objects)))
            (ap (bytes_eq q.object.name) r.name_is ∙ other)
            ∙ ap (option_map (λ l. q ∷ l)) r.put;
        same = ap (λ l. whole area q ∷ l) r.same;
        extents = ap (λ l. extent_of q ∷ l) r.extents
            ∙ sym (ap (λ t. cond t ((start, length body) ∷ map extent_of objects)
            (extent_of q ∷ extents_with name (start, length body) objects)) other);
      }

  renewed-cases : (q : Placed) (objects : List Placed) (os : List Object) (t : Bool)
      (r : Option (List Object)) → has_name name (whole area q) ≡ t
      → ((rest : List Object) → r ≡ Some rest → IsRenewed area name body start objects rest)
      → cond t (Some (renewed_object content mime body id (whole area q) ∷ wholes area objects))
      (option_map (λ rest. whole area q ∷ rest) r) ≡ Some os
      → IsRenewed area name body start (q ∷ objects) os
  renewed-cases q objects os true r is h e =
      let g : renewed_object content mime body id (whole area q) ∷ wholes area objects ≡ os = cc in
      subst (IsRenewed area name body start (q ∷ objects)) g (renewed-here q objects is)
  renewed-cases q objects os false None is h e = cc
  renewed-cases q objects os false (Some rest) is h e =
      let g : whole area q ∷ rest ≡ os = cc in
      subst (IsRenewed area name body start (q ∷ objects)) g
      (renewed-there q objects rest is (h rest refl))

  is_renewed : (objects : List Placed) (os : List Object)
      → whole_objects_with name (renewed_object content mime body id) (wholes area objects)
      ≡ Some os
      → IsRenewed area name body start objects os
  is_renewed [] os e = cc
  is_renewed (q ∷ objects) os e =
      renewed-cases q objects os (has_name name (whole area q))
      (whole_objects_with name (renewed_object content mime body id) (wholes area objects)) refl
      (λ rest h. is_renewed objects rest h) e

-- ---- the list without an object

record IsWithout (area name : List ℕ) (objects : List Placed) (os : List Object) : Type 0 where
  found : Object
  named_is : object_named name (wholes area objects) ≡ Some found
  has : contains (placed_tids objects) found.tid ≡ true
  after : List Placed
  gone : placed_without found.tid objects ≡ Some after
  same : wholes area after ≡ os
  extents : map extent_of after ≡ extents_without name objects

module _ (area name : List ℕ) where
  without-here : (q : Placed) (objects : List Placed) → has_name name (whole area q) ≡ true
      → IsWithout area name (q ∷ objects) (wholes area objects)
  without-here q objects is = record {
    found = whole area q;
    named_is = ap (λ t. cond t (Some (whole area q)) (object_named name (wholes area objects))) is;
    has = or_left _ _ (eq-eqb q.object.tid q.object.tid refl);
    after = objects;
    gone = ap (λ t. cond t (Some objects)
        (option_map (λ l. q ∷ l) (placed_without q.object.tid objects)))
        (eq-eqb q.object.tid q.object.tid refl);
    same = refl;
    extents = sym (ap (λ t. cond t (map extent_of objects)
        (extent_of q ∷ extents_without name objects)) is);
  }

  without-there : (q : Placed) (objects : List Placed) (os : List Object)
      → has_name name (whole area q) ≡ false
      → contains (placed_tids objects) q.object.tid ≡ false → IsWithout area name objects os
      → IsWithout area name (q ∷ objects) (whole area q ∷ os)
  without-there q objects os other apart r =
      let differ : nat_eq q.object.tid r.found.tid ≡ false =
      ne_eqb q.object.tid r.found.tid
      (λ same. false≢true (sym apart ∙ ap (contains (placed_tids objects)) same ∙ r.has)) in
      record {
        found = r.found;
        named_is = ap (λ t. cond t (Some (whole area q)) (object_named name (wholes area objects)))
            other ∙ r.named_is;
        has = or_right _ _ r.has;
        after = q ∷ r.after;
        gone = ap (λ t. cond t (Some objects)
            (option_map (λ l. q ∷ l) (placed_without r.found.tid objects))) differ
            ∙ ap (option_map (λ l. q ∷ l)) r.gone;
        same = ap (λ l. whole area q ∷ l) r.same;
        extents = ap (λ l. extent_of q ∷ l) r.extents
            ∙ sym (ap (λ t. cond t (map extent_of objects)
            (extent_of q ∷ extents_without name objects)) other);
      }

  without-cases : (q : Placed) (objects : List Placed) (os : List Object) (t : Bool)
      (r : Option (List Object)) → has_name name (whole area q) ≡ t
      → contains (placed_tids objects) q.object.tid ≡ false
      → ((rest : List Object) → r ≡ Some rest → IsWithout area name objects rest)
      → cond t (Some (wholes area objects)) (option_map (λ rest. whole area q ∷ rest) r) ≡ Some os
      → IsWithout area name (q ∷ objects) os
  without-cases q objects os true r is apart h e =
      let g : wholes area objects ≡ os = cc in
      subst (IsWithout area name (q ∷ objects)) g (without-here q objects is)
  without-cases q objects os false None is apart h e = cc
  without-cases q objects os false (Some rest) is apart h e =
      let g : whole area q ∷ rest ≡ os = cc in
      subst (IsWithout area name (q ∷ objects)) g
      (without-there q objects rest is apart (h rest refl))

  is_without : (objects : List Placed) (os : List Object) → is_distinct (placed_tids objects) ≡ true
      → whole_objects_without name (wholes area objects) ≡ Some os
      → IsWithout area name objects os
  is_without [] os d e = cc
  is_without (q ∷ objects) os d e =
      let h = and_parts (not (contains (placed_tids objects) q.object.tid)) (is_distinct (placed_tids objects))
      d in
      without-cases q objects os (has_name name (whole area q))
      (whole_objects_without name (wholes area objects)) refl (not-true _ h.0)
      (λ rest f. is_without objects rest h.1 f) e

-- ---- the law

-- what is to be shown of a command and what it made
abbrev Law : ℕ → ℕ → List ℕ → Catalogue → Command → Carousel × Done → Type 0
Law limit start area c command made =
    (after : Catalogue) × (catalogue_after limit c
    (record_of (carousel_in area c) made.0 command start) ≡ Some after)
    × (carousel_in area after ≡ made.0)
    × (extents_of after ≡ placed_extents_after c.objects command start)

parts-apart : (c : Catalogue) → is_consistent c ≡ true → are_all_apart c.objects ≡ true
parts-apart c e = (and_parts (is_distinct (c.directory ∷ placed_tids c.objects)) (are_all_apart c.objects)
    e).1

parts-ids : (c : Catalogue) → is_consistent c ≡ true → is_distinct (placed_tids c.objects) ≡ true
parts-ids c e =
    let h = (and_parts (is_distinct (c.directory ∷ placed_tids c.objects)) (are_all_apart c.objects)
    e).0 in
    (and_parts (not (contains (placed_tids c.objects) c.directory)) (is_distinct (placed_tids c.objects)) h).1

put-law : (limit start : ℕ) (area : List ℕ) (c : Catalogue) (name : List ℕ)
    (content : ContentNumbers) (mime : Option (List ℕ)) (body : List ℕ)
    → let old = carousel_in area c in
    let o : Object = record {
      name = name;
      content = content;
      mime = mime;
      version = 0;
      tid =
          free_object_id old;
      body = body;
    } in
    let made = change_to old old.period (old.objects ++ o ∷ []) (Some (free_object_id old)) in
    is_consistent c ≡ true → IsSound made.0 → list_any (has_name name) old.objects ≡ false
    → nat_le limit (length old.objects) ≡ false
    → IsPlaced area (extents_of c) (Put name content mime body) start
    → Law limit start area c (Put name content mime body) made
put-law limit start area c name content mime body consistent is unnamed few lies =
    let old = carousel_in area c in
    let o : Object = record {
      name = name;
      content = content;
      mime = mime;
      version = 0;
      tid =
          free_object_id old;
      body = body;
    } in
    let made = change_to old old.period (old.objects ++ o ∷ []) (Some (free_object_id old)) in
    let p : Placed = placed_at start (length body) o in
    let below = leb-false limit (length old.objects) few in
    let after : objects_after limit c.objects (set_action start (length body) (Some o))
    ≡ Some (c.objects ++ p ∷ []) =
    ap (in_place_or_appended limit p c.objects) (not-in-place area p c.objects unnamed)
    ∙ ap (λ t. cond t (Some (c.objects ++ p ∷ [])) None)
    (lt-ltb (length c.objects) limit
    (omega (
      arith,
      below,
      length-map c.objects
          (λ (q : Placed). object_of q.object (body_in_area area q)),
    ))) in
    let same : wholes area (c.objects ++ p ∷ []) ≡ made.0.objects =
    map-append (λ (q : Placed). object_of q.object (body_in_area area q)) c.objects (p ∷ [])
    ∙ ap (λ b. wholes area c.objects ++ object_of p.object b ∷ []) lies.0 in
    subst (λ x. Follows limit area c made.0 (map extent_of c.objects ++ (start, length body) ∷ [])
    (set_action start (length body) x))
    (sym (named-push name o old.objects unnamed (same-bytes name)))
    (follows limit area c made.0 (set_action start (length body) (Some o)) (c.objects ++ p ∷ []) is
    after same
    (push_apart p c.objects (beside p c.objects lies.1) (parts-apart c consistent))
    (map extent_of c.objects ++ (start, length body) ∷ [])
    (map-append extent_of c.objects (p ∷ [])))

replace-law : (limit start : ℕ) (area : List ℕ) (c : Catalogue) (name : List ℕ)
    (content : ContentNumbers) (mime : Option (List ℕ)) (body : List ℕ) (os : List Object)
    → let old = carousel_in area c in
    let made = change_to old old.period os (Some (free_object_id old)) in
    is_consistent c ≡ true → IsSound made.0
    → whole_objects_with name (renewed_object content mime body (free_object_id old))
    old.objects ≡ Some os
    → IsPlaced area (extents_of c) (Replace name content mime body) start
    → Law limit start area c (Replace name content mime body) made
replace-law limit start area c name content mime body os consistent is e lies =
    let old = carousel_in area c in
    let made = change_to old old.period os (Some (free_object_id old)) in
    let r = is_renewed area name content mime body (free_object_id old) start lies.0 c.objects os
    e in
    let p : Placed = placed_at start (length body) r.found in
    subst (λ x. Follows limit area c made.0 (extents_with name (start, length body) c.objects)
    (set_action start (length body) x)) (sym r.named_is)
    (follows limit area c made.0 (set_action start (length body) (Some r.found)) r.after is
    (ap (in_place_or_appended limit p c.objects) r.put) r.same
    (put_apart (is_put p c.objects r.after r.put) (beside p c.objects lies.1)
    (parts-apart c consistent)) (extents_with name (start, length body) c.objects) r.extents)

withdraw-law : (limit start : ℕ) (area : List ℕ) (c : Catalogue) (name : List ℕ) (os : List Object)
    → let old = carousel_in area c in
    let made = change_to old old.period os None in
    is_consistent c ≡ true → IsSound made.0 → whole_objects_without name old.objects ≡ Some os
    → Law limit start area c (Withdraw name) made
withdraw-law limit start area c name os consistent is e =
    let old = carousel_in area c in
    let made = change_to old old.period os None in
    let r = is_without area name c.objects os (parts-ids c consistent) e in
    subst (λ x. Follows limit area c made.0 (extents_without name c.objects) (remove_action x))
    (sym r.named_is)
    (follows limit area c made.0 (remove_action (Some r.found)) r.after is r.gone r.same
    (apart_without_one (is_gone r.found.tid c.objects r.after r.gone)
    (parts-apart c consistent))
    (extents_without name c.objects) r.extents)

-- an accepted command's record makes of the catalogue what it makes of the carousel
pub keeps : RecordsFollowCommands
unfolding change
keeps limit start area c next (Put name content mime body) done le consistent is e lies =
    let old = carousel_in area c in
    let o : Object = record {
      name = name;
      content = content;
      mime = mime;
      version = 0;
      tid =
          free_object_id old;
      body = body;
    } in
    let made = change_to old old.period (old.objects ++ o ∷ []) (Some (free_object_id old)) in
    let h = sound.put-cases (list_any (has_name name) old.objects) (nat_le limit (length old.objects))
    made (next, done) e in
    let sound = sound.change-sound old made.0 limit (Put name content mime body) made.1 le is
    (e ∙ ap Ok (sym h.2)) in
    subst (Law limit start area c (Put name content mime body)) h.2
    (put-law limit start area c name content mime body consistent sound h.0 h.1 lies)
keeps limit start area c next (Replace name content mime body) done le consistent is e lies =
    let old = carousel_in area c in
    let h = sound.named-cases old (Some (free_object_id old))
    (whole_objects_with name (renewed_object content mime body (free_object_id old))
    old.objects) (next, done) e in
    let made = change_to old old.period h.0 (Some (free_object_id old)) in
    let sound = sound.change-sound old made.0 limit (Replace name content mime body) made.1 le is
    (e ∙ ap Ok (sym h.2)) in
    subst (Law limit start area c (Replace name content mime body)) h.2
    (replace-law limit start area c name content mime body h.0 consistent sound h.1 lies)
keeps limit start area c next (Withdraw name) done le consistent is e lies =
    let old = carousel_in area c in
    let h = sound.named-cases old None (whole_objects_without name old.objects) (next, done) e in
    let made = change_to old old.period h.0 None in
    let sound = sound.change-sound old made.0 limit (Withdraw name) made.1 le is
    (e ∙ ap Ok (sym h.2)) in
    subst (Law limit start area c (Withdraw name)) h.2
    (withdraw-law limit start area c name h.0 consistent sound h.1)
keeps limit start area c next (Period period) done le consistent is e lies =
    let old = carousel_in area c in
    let made = change_to old period old.objects None in
    let g : made ≡ (next, done) = cc in
    let sound = sound.change-sound old made.0 limit (Period period) made.1 le is
    (e ∙ ap Ok (sym g)) in
    subst (Law limit start area c (Period period)) g
    (follows limit area c made.0 Nothing c.objects sound refl refl (parts-apart c consistent)
    (map extent_of c.objects) refl)
