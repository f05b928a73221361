-- What is prepared for a command in memory is that of the command, can be written, and leaves an
-- inventory without faults.
use Rattle.std.proofs.Common.{◌≡◌, ◌⊎◌, inl, inr, ⊎_elim, ℕ, ◌+◌, ◌<◌, ◌≤◌, true, false, List, []}
use Rattle.std.proofs.Common.{◌∷◌, length, map, Option, Some, None, Err, refl, sym, ap, ◌∙◌, subst}
use Rattle.std.proofs.Common.{arith}
use Rattle.std.proofs.lemmas.Bool.{and_from, le-leb, lt-ltb, ltb-false}
use Rattle.std.proofs.lemmas.List.Elements.{All-nil, All-cons}
use Rattle.std.specs.Prelude.{All, IsFalse, MatchOption}
use Rattle.std.specs.List.{AllByRecursion}
use Rattle.std.specs.Option.{option_map_or}
use Rattle.mot_journal.specs.Catalogue.{Placed, Catalogue, body_in_area, carousel_in}
use Rattle.mot_journal.specs.Slot.{is_sound, is_sound_action, longest_name, slot_count}
use Rattle.mot_journal.specs.declared.layout.Layout.{Layout}
use Rattle.mot_journal.specs.declared.layout.Layout.TheVariants.{One, Two}
use Rattle.mot_journal.specs.declared.record.Action.{Action}
use Rattle.mot_journal.specs.declared.record.Action.TheVariants.{Nothing, Set, Remove}
use Rattle.mot_journal.specs.declared.record.Record.{Record}
use Rattle.mot_numbers.specs.Geometry.{area_start, is_valid}
use Rattle.mot_numbers.specs.declared.geometry.Geometry.{Geometry}
use Rattle.mot_numbers.specs.declared.refusal.Refusal.{Refusal}
use Rattle.mot_numbers.specs.declared.refusal.Refusal.TheVariants.{BadName, NoRoom, OutOfMemory}
use Rattle.mot_objects.specs.Carousel.{change}
use Rattle.mot_objects.specs.Carousel as whole
use Rattle.mot_objects.specs.Name.{IsMime, is_mime}
use Rattle.mot_objects.proofs.Laws.{name_true, mime_true}
use Rattle.mot_objects.specs.Stands.{object_of, objects_of, carousel_of, bodies_after, IsPlan}
use Rattle.mot_objects.specs.declared.carousel.Carousel.{Carousel}
use Rattle.mot_objects.specs.declared.command.Command.{Command}
use Rattle.mot_objects.specs.declared.command.Command.TheVariants.{Put, Replace, Withdraw, Period}
use Rattle.mot_objects.specs.declared.command.Done.{Done}
use Rattle.mot_objects.specs.declared.object.Object.{Object}
use Rattle.mot_repository.specs.Answers.{IsRefusal}
use Rattle.mot_repository.specs.Inner.Extents.{objects_in, catalogue_in, catalogue_with, names_kept}
use Rattle.mot_repository.specs.Inner.Extents.{with_extent}
use Rattle.mot_repository.specs.OnDisk.{ArePaired}
use Rattle.mot_repository.specs.Outcome.{body_of, has_long_name, start_of, extents_after}
use Rattle.mot_repository.specs.Inner.Prepared.{HasFields, IsTyped, ChangesTo, CanBeGiven, IsFull}
use Rattle.mot_repository.specs.Inner.Prepared.{IsPreparedFor, kept_object_named, kept_set}
use Rattle.mot_repository.specs.Inner.Prepared.{kept_remove, kept_action, kept_record}
use Rattle.mot_repository.specs.Inner.Whole.{IsWhole}
use Rattle.mot_repository.specs.Records.{records_of_catalogue}
use Rattle.mot_repository.specs.Inner.Ready.{IsPrepared}
use Rattle.mot_repository.specs.Repository.{RepositoryView}
use Rattle.mot_repository.proofs.Outcomes.{refused_name, refused_rules, refused_room, same_rules}
use Rattle.mot_repository.proofs.Outcomes.{same_start}
use Rattle.mot_repository.specs.declared.prepared.Prepared.{Prepared}
use Rattle.mot_repository.proofs.Extents.{extents-objects_in, kept_object_named-name, placed-names}
use Rattle.mot_repository.proofs.Preparing.{IsMatched, matched, IsKept, all-within, body-length}
use Rattle.mot_repository.proofs.Preparing.{same-catalogue, same-change, made, Made, sizes-of}
use Rattle.mot_repository.proofs.Preparing.{some-area, some-slice, some-length, gap-fits}
use Rattle.mot_repository.proofs.Reading.{IsRead}
use Rattle.mot_repository.proofs.Rewriting.{fold-all}
use Rattle.mot_repository.proofs.Soundness.{whole-step, is_rewriting}
use Rattle.mot_carousel.proofs.Laws.{head, tail}
use Rattle.mot_repository.specs.Inner.Fold.{HasShortId, HaveLengths}

-- ---- what is kept in memory, as the catalogue of records

objects-whole : (area : List ℕ) (os : List Object) (es : List (ℕ × ℕ))
    → map (λ (p : Placed). object_of p.object (body_in_area area p)) (objects_in os es)
    ≡ objects_of os (map (λ (p : Placed). body_in_area area p) (objects_in os es))
objects-whole area [] es = refl
objects-whole area (o ∷ os) [] = refl
objects-whole area (o ∷ os) (e ∷ es) =
    ap (λ l. object_of o (body_in_area area (with_extent o e)) ∷ l) (objects-whole area os es)

lengths-whole : (g : Geometry) (area : List ℕ) → g.area ≤ length area
    → (os : List Object) (es : List (ℕ × ℕ)) → HaveLengths os es
    → AllByRecursion (λ (p : Placed). p.start + p.object.length ≤ g.area) (objects_in os es)
    → map length (map (λ (p : Placed). body_in_area area p) (objects_in os es))
    ≡ map (λ (o : Object). o.length) os
lengths-whole g area long [] es b within = refl
lengths-whole g area long (o ∷ os) [] b within = cc
lengths-whole g area long (o ∷ os) (e ∷ es) b within =
    ap (λ n. n ∷ map length (map (λ (p : Placed). body_in_area area p) (objects_in os es)))
    (body-length g area (with_extent o e) within.0 long ∙ head b)
    ∙ ap (λ l. o.length ∷ l) (lengths-whole g area long os es (tail b) within.1)

pub in_memory : (view : RepositoryView) → is_valid view.journal.geometry ≡ true
    → IsWhole view.journal.geometry view.journal.layout (catalogue_in view)
    → ArePaired view.carousel view.extents
    → IsKept view (records_of_catalogue (catalogue_in view)) (catalogue_in view)
in_memory view valid is paired =
    let g : Geometry = view.journal.geometry in
    let c : Catalogue = catalogue_in view in
    let os : List Object = view.carousel.objects.items in
    let es : List (ℕ × ℕ) = view.extents in
    record {
      fold = fold-all g.objects c.period c.directory c.cursor c.objects is.good;
      valid = valid;
      whole = is;
      is = refl;
      extents = sym (extents-objects_in os es paired);
      paired = paired;
      carousel = λ area long. ap (λ (l : List whole.Object). let k : whole.Carousel =
          record { period = c.period; directory = c.directory; cursor = c.cursor; objects = l } in
          k) (objects-whole area os es);
      bodies = λ area long. lengths-whole g area long os es paired
          (all-within g view c.objects is.each);
    }

-- ---- what is kept after a command

-- the carousel and the extents after a command have no fault, and fit each other
pub record IsAfter (g : Geometry) (layout : Layout) (next : Carousel) (extents : List (ℕ × ℕ)) :
    Type 0 where
  -- the catalogue of both has no fault
  pub whole : IsWhole g layout (catalogue_with next extents)
  -- there is an extent for each object, of its length
  pub paired : ArePaired next extents

-- what a prepared command leaves has no fault, where its record has none
pub is_after : (view : RepositoryView) (command : Command) (done : Done) (next : Carousel)
    (from : ℕ) (r : Record) (given : List Record)
    → IsPreparedFor view command done next from r given → is_valid view.journal.geometry ≡ true
    → IsWhole view.journal.geometry view.journal.layout (catalogue_in view)
    → ArePaired view.carousel view.extents
    → IsRead view.journal.geometry view.journal.layout r
    → IsAfter view.journal.geometry view.journal.layout next
    (extents_after (names_kept view.carousel) view.extents command from)
is_after view command done next from r given prepared valid is paired read =
    let g : Geometry = view.journal.geometry in
    let c : Catalogue = catalogue_in view in
    let kept = in_memory view valid is paired in
    let body : List ℕ = body_of command in
    let area : List ℕ = some-area from body g.area in
    let long = some-length from body g.area in
    let m : Made view command done next from r given (records_of_catalogue c) c prepared kept area =
    made view command done next from r given (records_of_catalogue c) c prepared kept area long
    (some-slice from body g.area) in
    let after : Catalogue = m.0 in
    let after_whole : IsWhole g view.journal.layout after =
    whole-step g view.journal.layout c after r read m.1 is in
    let within = all-within g view after.objects after_whole.each in
    let bodies : List (List ℕ) = map (λ (p : Placed). body_in_area area p) c.objects in
    let change_is = prepared.changes bodies (kept.bodies area long) in
    let same : carousel_in area after
    ≡ carousel_of next (bodies_after view.carousel command bodies) =
    same-change (carousel_in area after)
    (carousel_of next (bodies_after view.carousel command bodies)) done
    (sym m.2 ∙ ap (λ k. change k g.objects command) (kept.carousel area long) ∙ change_is.0) in
    let ms : IsMatched g next.objects.items after.objects =
    matched g area long next.objects.items (bodies_after view.carousel command bodies)
    after.objects
    (sym (ap (λ (k : whole.Carousel). k.objects) same)) change_is.1 within in
    let extents : List (ℕ × ℕ) =
    extents_after (names_kept view.carousel) view.extents command from in
    let lie = m.3 ∙ placed-names view.carousel.objects.items view.extents command from paired in
    let catalogue : catalogue_with next extents ≡ after =
    same-catalogue next.period after.period next.directory after.directory next.cursor after.cursor
    (objects_in next.objects.items extents) after.objects
    (sym (ap (λ (k : whole.Carousel). k.period) same))
    (sym (ap (λ (k : whole.Carousel). k.directory) same))
    (sym (ap (λ (k : whole.Carousel). k.cursor) same))
    (ap (objects_in next.objects.items) (sym lie) ∙ ms.placed) in
    record {
      whole = subst (IsWhole g view.journal.layout) (sym catalogue) after_whole;
      paired = ap (map (λ (e : ℕ × ℕ). e.1)) (sym lie) ∙ sizes-of g area long after.objects within
          ∙ ms.sizes area long;
    }

-- ---- the record of a command has no fault of fields

mime-is : (mime : Option (List ℕ)) → MatchOption mime (Unit {0}) IsMime
    → option_map_or is_mime mime true ≡ true
mime-is None is = refl
mime-is (Some bytes) is = mime_true bytes is

-- what an object that is set needs beside what its types keep
abbrev Fits : Geometry → Layout → Action → Type 0
Fits g layout Nothing = Unit {0}
Fits g layout (Remove tid) = Unit {0}
Fits g layout (Set tid version content start size name mime) = (start + size ≤ g.area)
    × (length name ≤ longest_name layout)

sound-action : (g : Geometry) (layout : Layout) (a : Action) → HasFields a → Fits g layout a
    → is_sound_action g layout a ≡ true
sound-action g layout Nothing is fits = refl
sound-action g layout (Remove tid) is fits = lt-ltb 0 tid is.0
sound-action g layout (Set tid version content start size name mime) is fits =
    and_from _ _ (and_from _ _
    (and_from _ _ (and_from _ _ (and_from _ _ (and_from _ _ (lt-ltb 0 tid is.id.0)
    (le-leb content.content_type 63 is.kind)) (le-leb content.subtype 511 is.subkind))
    (and_from _ _ (le-leb 1 size is.some) (le-leb size 262144 is.short)))
    (le-leb (start + size) g.area fits.0))
    (name_true (longest_name layout) name is.is_name fits.1)) (mime-is mime is.is_mime)

-- a command's object is set under its name
set-fits : (g : Geometry) (layout : Layout) (name : List ℕ) (from size : ℕ) (items : List Object)
    (o : Option Object) → kept_object_named name items ≡ o
    → from + size ≤ g.area → length name ≤ longest_name layout
    → Fits g layout (kept_set from size o)
set-fits g layout name from size items None is le short = tt
set-fits g layout name from size items (Some o) is le short = (
  le,
  subst (λ (n : List ℕ). length n ≤ longest_name layout)
      (sym (kept_object_named-name name items o is)) short,
)

remove-fits : (g : Geometry) (layout : Layout) (o : Option Object) → Fits g layout (kept_remove o)
remove-fits g layout None = tt
remove-fits g layout (Some o) = tt

action-fits : (g : Geometry) (layout : Layout) (extents : List (ℕ × ℕ)) (old next : Carousel)
    (command : Command) (from : ℕ)
    → start_of extents g.area command ≡ Some from → has_long_name layout command ≡ false
    → Fits g layout (kept_action old next command from)
action-fits g layout extents old next (Put name content mime body) from lies short =
    set-fits g layout name from (length body) next.objects.items
    (kept_object_named name next.objects.items) refl
    (gap-fits extents (length body) g.area from lies).0
    (ltb-false (longest_name layout) (length name) short)
action-fits g layout extents old next (Replace name content mime body) from lies short =
    set-fits g layout name from (length body) next.objects.items
    (kept_object_named name next.objects.items) refl
    (gap-fits extents (length body) g.area from lies).0
    (ltb-false (longest_name layout) (length name) short)
action-fits g layout extents old next (Withdraw name) from lies short =
    remove-fits g layout (kept_object_named name old.objects.items)
action-fits g layout extents old next (Period period) from lies short = tt

pub short-id : (a : Action) → HasFields a → HasShortId a
short-id Nothing is = tt
short-id (Remove tid) is = is.1
short-id (Set tid version content start size name mime) is = is.id.1

is_read : (g : Geometry) (layout : Layout) (r : Record) → IsTyped r → Fits g layout r.action
    → IsRead g layout r
is_read g layout r typed fits = record {
  sound = and_from _ _ (and_from _ _ (lt-ltb 0 r.directory typed.directory.0)
      (lt-ltb 0 r.cursor typed.cursor.0))
      (sound-action g layout r.action typed.action fits);
  directory = typed.directory.1;
  cursor = typed.cursor.1;
  object = short-id r.action typed.action;
}

-- ---- what is prepared

body-within : (g : Geometry) (extents : List (ℕ × ℕ)) (command : Command) (from : ℕ)
    → start_of extents g.area command ≡ Some from
    → from + length (body_of command) ≤ g.area
body-within g extents command from e =
    (gap-fits extents (length (body_of command)) g.area from e).0

all-of : {X : Type 0} (P : X → Type 0) (xs : List X) → AllByRecursion P xs → All P xs
all-of P [] a = All-nil P
all-of P (x ∷ xs) a = All-cons P x xs a.0 (all-of P xs a.1)

few-slots : (g : Geometry) (layout : Layout) (n : ℕ) → n ≤ g.objects + 1 → n < slot_count layout g
few-slots g One n le = omega arith
few-slots g Two n le = omega arith

-- what was worked out for a command
pub record IsWorkedOut (view : RepositoryView) (command : Command) (next : Carousel) (done : Done)
    (from : ℕ) (r : Record) : Type 0 where
  -- the geometry is valid
  pub valid : is_valid view.journal.geometry ≡ true
  -- what is kept before has no fault
  pub whole : IsWhole view.journal.geometry view.journal.layout (catalogue_in view)
  -- there is an extent for each object, of its length
  pub paired : ArePaired view.carousel view.extents
  -- the layout has room for the name
  pub short : has_long_name view.journal.layout command ≡ false
  -- the command changes the carousel to the next one
  pub changes : ChangesTo view.carousel view.journal.geometry.objects command next done
  -- the body goes to the least gap
  pub lies : start_of view.extents view.journal.geometry.area command ≡ Some from
  -- the record is that of the command
  pub record_is : r ≡ kept_record view.carousel next command from
  -- the fields of the record are as their types keep them
  pub typed : IsTyped r

module _ (view : RepositoryView) (command : Command) (next : Carousel) (done : Done) (from : ℕ)
    (r : Record)
    (is : IsWorkedOut view command next done from r) where
  prepared : IsPreparedFor view command done next from r (records_of_catalogue (catalogue_in view))
  prepared = record {
    short = is.short;
    changes = is.changes;
    lies = is.lies;
    record_is =
        is.record_is;
    given_is = λ full. refl;
  }

  read : IsRead view.journal.geometry view.journal.layout r
  read = is_read view.journal.geometry view.journal.layout r is.typed
      (subst (λ (q : Record). Fits view.journal.geometry view.journal.layout q.action)
      (sym is.record_is)
      (action-fits view.journal.geometry view.journal.layout view.extents view.carousel next command
      from is.lies is.short))

  -- what was worked out leaves a carousel and extents without a fault
  pub kept_after : IsAfter view.journal.geometry view.journal.layout next
      (extents_after (names_kept view.carousel) view.extents command from)
  kept_after = is_after view command done next from r (records_of_catalogue (catalogue_in view))
      prepared is.valid is.whole is.paired read

-- what was worked out for a command is prepared for it
pub prepared_is : (view : RepositoryView) (command : Command) (p : Prepared) (from : ℕ)
    → IsWorkedOut view command p.inventory.carousel p.done from p.record
    → (IsFull view.journal → p.given.items ≡ records_of_catalogue (catalogue_in view))
    → p.at ≡ area_start view.journal.geometry + from → p.body.now ≡ body_of command
    → p.inventory.extents.items ≡ extents_after (names_kept view.carousel) view.extents command from
    → IsPrepared view command p
prepared_is view command p from is given at body extents =
    let g : Geometry = view.journal.geometry in
    let layout : Layout = view.journal.layout in
    let rewriting = is_rewriting g layout (catalogue_in view) is.whole in
    let within = body-within g view.extents command from is.lies in
    let size : length p.body.now ≡ length (body_of command) = ap length body in
    record {
      from = from;
      at_is = at;
      body_is = body;
      prepared = record {
        short = is.short;
        changes = is.changes;
        lies = is.lies;
        record_is = is.record_is;
        given_is = given;
      };
      extents_are = extents;
      given = λ full. subst (λ (l : List Record). CanBeGiven view.journal l) (sym (given full))
          (record {
            some = rewriting.some;
            few = few-slots g layout (length (records_of_catalogue
                (catalogue_in view))) rewriting.few;
            sound = all-of (λ q. is_sound g layout q ≡ true) (records_of_catalogue
                (catalogue_in view))
                rewriting.sound;
          });
      sound = (read view command p.inventory.carousel p.done from p.record is).sound;
      within = omega (arith, at, within, size);
      whole = subst (λ (l : List (ℕ × ℕ)). IsWhole g layout (catalogue_with p.inventory.carousel l))
          (sym extents)
          (kept_after view command p.inventory.carousel p.done from p.record is).whole;
    }

-- ---- refusals

is-memory : (r : Refusal) → (r ≡ OutOfMemory) ⊎ (r ≡ OutOfMemory → ⊥)
is-memory OutOfMemory = inl refl
is-memory _ = inr (λ e. cc)

module _ (view : RepositoryView) (command : Command) (going : IsFalse view.halted)
    (fits : has_long_name Two command ≡ false) where
  -- the name is too long
  pub name_refused : has_long_name view.journal.layout command ≡ true
      → IsRefusal view command BadName
  name_refused long = IsRefusal.by_rules going fits
      (λ s agrees. refused_name view.journal.layout s command long)

  -- the rules refuse
  pub plan_refused : (refusal : Refusal) → has_long_name view.journal.layout command ≡ false
      → IsPlan view.carousel view.journal.geometry.objects command (Err refusal)
      → IsRefusal view command refusal
  plan_refused refusal short plan = ⊎_elim
      (λ memory. IsRefusal.no_memory going short memory)
      (λ other. IsRefusal.by_rules going fits
      (λ s agrees. refused_rules view.journal.layout s command refusal short
      (same_rules view s agrees command
      ∙ ⊎_elim (λ memory. absurd (other memory)) (λ e. e)
      (plan agrees.bodies agrees.are_bodies))))
      (is-memory refusal)

  -- no gap holds the body
  pub room_refused : (next : Carousel) (done : Done)
      → has_long_name view.journal.layout command ≡ false
      → ChangesTo view.carousel view.journal.geometry.objects command next done
      → start_of view.extents view.journal.geometry.area command ≡ None
      → IsRefusal view command NoRoom
  room_refused next done short changes none = IsRefusal.by_rules going fits (λ s agrees.
      refused_room view.journal.layout s command
      (carousel_of next (bodies_after view.carousel command agrees.bodies), done) short
      (same_rules view s agrees command ∙ (changes agrees.bodies agrees.are_bodies).0)
      (sym (same_start view s agrees command) ∙ none))
