-- What a prepared change writes, and what that makes of the standing.
use Rattle.std.proofs.Common.{◌≡◌, ℕ, ◌+◌, ◌-◌, ◌<◌, ◌≤◌, Bool, true, false, List, [], ◌∷◌, ◌++◌}
use Rattle.std.proofs.Common.{length, map, take, drop, replicate, slice_range, Option, Some, None}
use Rattle.std.proofs.Common.{Result, Ok, refl, sym, ap, ◌∙◌, subst, arith, length-append}
use Rattle.std.proofs.lemmas.List.{length-take-le, length-drop, length-replicate, take-append-le}
use Rattle.std.proofs.lemmas.List.{drop-append-le, drop_all, take_all, drop-drop}
use Rattle.std.specs.Prelude.{IsFalse, bytes_eq, if◌then◌else◌}
use Rattle.std.specs.List.{AllByRecursion, list_all}
use Rattle.disk_model.specs.Disk.{State, IsHonestDisk, IsFirm}
use Rattle.mot_journal.specs.declared.record.Record.{Record}
use Rattle.mot_journal.specs.declared.record.Action.{Action}
use Rattle.mot_journal.specs.Image.{catalogue_of, fold_from, or_damaged, DiskRecords, Standing}
use Rattle.mot_journal.specs.Image.{records_of, stands_for, area_of}
use Rattle.mot_numbers.specs.Refusal.{◌>>=◌}
use Rattle.mot_journal.specs.Catalogue.{Placed, Catalogue, catalogue_after, body_in_area}
use Rattle.mot_journal.specs.Catalogue.{carousel_in, extents_of}
use Rattle.mot_journal.specs.Gaps.{AreBeside, standing_of}
use Rattle.mot_journal.specs.Journal.{JournalView, with_records, HasRecords}
use Rattle.mot_journal.proofs.Laws.{stands_by_parts, geometry_read}
use Rattle.mot_numbers.specs.declared.refusal.Refusal.{Refusal}
use Rattle.mot_numbers.specs.declared.geometry.Geometry.{Geometry}
use Rattle.mot_numbers.specs.Geometry.{area_start, is_valid}
use Rattle.mot_objects.specs.declared.carousel.Carousel.{Carousel}
use Rattle.mot_objects.specs.declared.object.Object.{Object}
use Rattle.mot_objects.specs.declared.command.Command.{Command}
use Rattle.mot_objects.specs.declared.command.Command.TheVariants.{Put, Replace, Withdraw, Period}
use Rattle.mot_objects.specs.declared.command.Done.{Done}
use Rattle.mot_objects.specs.Carousel.{change}
use Rattle.mot_objects.specs.Carousel as whole
use Rattle.mot_objects.specs.Stands.{object_of, objects_of, carousel_of, bodies_after, AreBodiesOf}
use Rattle.mot_carousel.specs.Gap.{is_beside, is_free, least_gap, IsLeastGap}
use Rattle.mot_repository.specs.Records.{records_of_catalogue}
use Rattle.mot_repository.specs.Inner.Following.{IsPlaced, object_named, set_action, remove_action}
use Rattle.mot_repository.specs.Inner.Following.{action_of, record_of, placed_extents_after}
use Rattle.mot_repository.specs.Inner.Extents.{objects_in, catalogue_in, names_kept}
use Rattle.mot_repository.specs.OnDisk.{ArePaired}
use Rattle.mot_repository.specs.Outcome.{body_of, start_of, extents_after, after_command}
use Rattle.mot_repository.specs.Opening.{IsOpened}
use Rattle.mot_repository.specs.Inner.Kept.{KeepsCatalogue}
use Rattle.mot_repository.specs.Inner.Prepared.{IsFull, IsPreparedFor, kept_object_named, kept_set}
use Rattle.mot_repository.specs.Inner.Prepared.{kept_remove, kept_action, kept_record}
use Rattle.mot_repository.specs.Repository.{RepositoryView, Agrees, HasStanding, IsOf, Holds}
use Rattle.mot_repository.proofs.Extents.{placed-names}
use Rattle.mot_repository.proofs.Following as following
use Rattle.mot_carousel.proofs.Laws.{least_gap_is_least}
use Rattle.mot_repository.proofs.Outcomes.{accepted_of, same_extents, same_start}
use Rattle.mot_repository.proofs.Reading.{by_recursion, geometry_is, records_read}
use Rattle.mot_repository.proofs.Rewriting as rewriting
use Rattle.mot_repository.specs.Inner.Whole.{IsSoundPlaced, IsWhole}
use Rattle.mot_repository.proofs.Soundness.{whole_fold, placed_in, few_objects, sound_carousel}
use Rattle.mot_repository.proofs.Soundness.{is_folded, lie_beside, extents-in}

-- the objects of an area, with their bodies
abbrev pub wholes : List ℕ → List Placed → List whole.Object
wholes area objects = map (λ (p : Placed). object_of p.object (body_in_area area p)) objects

abbrev bodies_in : List ℕ → List Placed → List (List ℕ)
bodies_in area objects = map (λ (p : Placed). body_in_area area p) objects

abbrev lengths : List Object → List ℕ
lengths objects = map (λ (o : Object). o.length) objects

-- ---- what is kept in memory is the catalogue

module _ (g : Geometry) where
  abbrev IsWithin : Placed → Type 0
  IsWithin p = p.start + p.object.length ≤ g.area

  -- a body that lies in the data area has its object's length
  pub body-length : (area : List ℕ) (p : Placed) → IsWithin p → g.area ≤ length area
      → length (body_in_area area p) ≡ p.object.length
  body-length area p within long =
      let k : ℕ = p.start + p.object.length - p.start in
      let rest = length-drop p.start area in
      let same : k ≡ p.object.length = omega arith in
      length-take-le k (drop p.start area) (omega (arith, within, long, rest)) ∙ same

  -- the objects that stand beside these bodies are those of the catalogue
  pub record IsMatched (vs : List Object) (ps : List Placed) : Type 0 where
    -- the objects that are kept, with these extents, are the placed ones
    pub placed : objects_in vs (extents-in ps) ≡ ps
    -- with the bodies in the area they are the whole objects
    pub objects : (area : List ℕ) → g.area ≤ length area
        → wholes area ps ≡ objects_of vs (bodies_in area ps)
    -- those bodies have the lengths that the kept objects give
    pub sizes : (area : List ℕ) → g.area ≤ length area
        → map length (bodies_in area ps) ≡ lengths vs

  same-head : (o : Object) (b : List ℕ) (p : Placed) (area : List ℕ) (xs ys : List whole.Object)
      → object_of o b ∷ xs ≡ object_of p.object (body_in_area area p) ∷ ys
      → (object_of o b ≡ object_of p.object (body_in_area area p)) × (xs ≡ ys)
  same-head o b p area xs ys e = (cc, cc)

  same-size : (m n : ℕ) (xs ys : List ℕ) → m ∷ xs ≡ n ∷ ys → (m ≡ n) × (xs ≡ ys)
  same-size m n xs ys e = (cc, cc)

  -- kept objects that are, with some bodies, the whole ones match the placed ones
  pub matched : (area : List ℕ) → g.area ≤ length area
      → (vs : List Object) (bodies : List (List ℕ)) (ps : List Placed)
      → objects_of vs bodies ≡ wholes area ps → map length bodies ≡ lengths vs
      → AllByRecursion IsWithin ps → IsMatched vs ps
  matched area long [] bodies [] e sizes within =
      record { placed = refl; objects = λ a l. refl; sizes = λ a l. refl }
  matched area long [] [] (p ∷ ps) e sizes within = cc
  matched area long [] (b ∷ bodies) (p ∷ ps) e sizes within = cc
  matched area long (o ∷ vs) [] ps e sizes within = cc
  matched area long (o ∷ vs) (b ∷ bodies) [] e sizes within = cc
  matched area long (o ∷ vs) (b ∷ bodies) (p ∷ ps) e sizes within =
      let h = same-head o b p area (objects_of vs bodies) (wholes area ps) e in
      let k = same-size (length b) o.length (map length bodies) (lengths vs) sizes in
      let rest = matched area long vs bodies ps h.1 k.1 within.1 in
      let body : b ≡ body_in_area area p = ap (λ (x : whole.Object). x.body) h.0 in
      let size : o.length ≡ p.object.length =
      sym k.0 ∙ ap length body ∙ body-length area p within.0 long in
      let object : whole.Object → Placed = λ x. record {
        object = record {
          name = x.name;
          content = x.content;
          mime = x.mime;
          version = x.version;
          tid = x.tid;
          length = p.object.length;
        };
        start = p.start;
      } in
      record {
        placed = ap (λ x. object x ∷ objects_in vs (extents-in ps)) h.0
            ∙ ap (λ l. p ∷ l) rest.placed;
        objects = λ a l.
            ap (λ (x : whole.Object). record x { body = body_in_area a p } ∷ wholes a ps) (sym h.0)
            ∙ ap (λ l. object_of o (body_in_area a p) ∷ l) (rest.objects a l);
        sizes = λ a l.
            ap (λ n. n ∷ map length (bodies_in a ps)) (body-length a p within.0 l ∙ sym size)
            ∙ ap (λ l. o.length ∷ l) (rest.sizes a l);
      }

-- the catalogue of an open repository's records
pub record IsKept (view : RepositoryView) (records : List Record) (c : Catalogue) : Type 0 where
  -- the records fold to the catalogue
  pub fold : catalogue_of view.journal.geometry.objects records ≡ Ok c
  -- the geometry is valid
  pub valid : is_valid view.journal.geometry ≡ true
  -- the catalogue has no fault
  pub whole : IsWhole view.journal.geometry view.journal.layout c
  -- what is kept in memory is the catalogue
  pub is : catalogue_in view ≡ c
  -- the extents that are kept are the catalogue's
  pub extents : view.extents ≡ extents_of c
  -- there is an extent for each object, of its length
  pub paired : ArePaired view.carousel view.extents
  -- with the bodies of any long enough area, the carousel that is kept is the catalogue's
  pub carousel : (area : List ℕ) → view.journal.geometry.area ≤ length area
      → carousel_in area c ≡ carousel_of view.carousel
      (map (λ (p : Placed). body_in_area area p) c.objects)
  -- the bodies in such an area are those of the kept carousel
  pub bodies : (area : List ℕ) → view.journal.geometry.area ≤ length area
      → AreBodiesOf view.carousel (map (λ (p : Placed). body_in_area area p) c.objects)

-- bodies of objects without faults lie in the data area
pub all-within : (g : Geometry) (view : RepositoryView) (objects : List Placed)
    → AllByRecursion (IsSoundPlaced g view.journal.layout) objects
    → AllByRecursion (λ (p : Placed). p.start + p.object.length ≤ g.area) objects
all-within g view [] a = tt
all-within g view (p ∷ objects) a =
    ((placed_in g view.journal.layout p a.0).within, all-within g view objects a.1)

-- the lengths of the extents are those of the bodies in the area
pub sizes-of : (g : Geometry) (area : List ℕ) → g.area ≤ length area → (ps : List Placed)
    → AllByRecursion (λ (p : Placed). p.start + p.object.length ≤ g.area) ps
    → map (λ (e : ℕ × ℕ). e.1) (map (λ (p : Placed). (p.start, p.object.length)) ps)
    ≡ map length (map (λ (p : Placed). body_in_area area p) ps)
sizes-of g area long [] within = refl
sizes-of g area long (p ∷ ps) within =
    ap (λ n. n ∷ map (λ (e : ℕ × ℕ). e.1) (map (λ (q : Placed). (q.start, q.object.length)) ps))
    (sym (body-length g area p within.0 long))
    ∙ ap (λ l. length (body_in_area area p) ∷ l) (sizes-of g area long ps within.1)

same-ok : (j k : DiskRecords) → ◌≡◌ {A = Result DiskRecords Refusal} (Ok j) (Ok k) → j ≡ k
same-ok j k e = cc

-- what bytes stand for twice is the same
pub same-standing : (s t : Standing) → ◌≡◌ {A = Result Standing Refusal} (Ok s) (Ok t) → s ≡ t
same-standing s t e = cc

fold-of : (image : List ℕ) (s : Standing) (j : DiskRecords) → records_of image ≡ Ok j
    → stands_for image ≡ Ok s
    → (c : Catalogue) × (catalogue_of j.geometry.objects j.records ≡ Ok c)
    × (standing_of j.geometry c image ≡ s)
fold-of image s j read stands =
    let f = is_folded image s stands in
    let same = same-ok f.journal_in_half j (sym f.read ∙ read) in
    subst (λ (k : DiskRecords). (c : Catalogue) × (catalogue_of k.geometry.objects k.records ≡ Ok c)
    × (standing_of k.geometry c image ≡ s)) same (f.catalogue, f.fold, f.is)

-- the data area of an image that has records
pub area-long : (image : List ℕ) (j : DiskRecords) → records_of image ≡ Ok j
    → j.geometry.area ≤ length (area_of j.geometry image)
area-long image j read =
    let g = j.geometry in
    let long = (geometry_is image g (geometry_read image j read)).1 in
    let size = length-drop (area_start g) image in omega (arith, long, size)

-- catalogues of equal parts are equal
pub same-catalogue : (p p' d d' k k' : ℕ) (os os' : List Placed) → p ≡ p' → d ≡ d' → k ≡ k'
    → os ≡ os'
    → ◌≡◌ {A = Catalogue} (record { period = p; directory = d; cursor = k; objects = os })
    (record { period = p'; directory = d'; cursor = k'; objects = os' })
same-catalogue p p' d d' k k' os os' e f h i = rw (e, f, h, i) refl

same-carousel : (p p' d d' k k' : ℕ) (os os' : List whole.Object) → p ≡ p' → d ≡ d' → k ≡ k'
    → os ≡ os'
    → ◌≡◌ {A = whole.Carousel} (record { period = p; directory = d; cursor = k; objects = os })
    (record { period = p'; directory = d'; cursor = k'; objects = os' })
same-carousel p p' d d' k k' os os' e f h i = rw (e, f, h, i) refl

-- what an honest disk's repository holds is what is read of it
pub read_standing : (view : RepositoryView) (s : Standing) (state : State) → IsHonestDisk state
    → Holds view s state → HasStanding view s state
read_standing view s state sound holds = record {
  agrees = holds.agrees;
  records = holds.records;
  read = (holds.journal.each state.bytes sound.bytes).read;
  stands = (holds.each state.bytes sound.bytes).stands;
}

-- the repository of an honest disk keeps the catalogue of the records that are read of it
pub kept_standing : (view : RepositoryView) (s : Standing) (state : State) → IsHonestDisk state
    → (has : HasStanding view s state)
    → (c : Catalogue) × IsKept view has.records c
kept_standing view s state sound has =
    let g : Geometry = view.journal.geometry in
    let image : List ℕ = state.bytes in
    let j : DiskRecords = with_records view.journal has.records in
    let f = fold-of image s j has.read has.stands in
    let c : Catalogue = f.0 in
    let area : List ℕ = area_of g image in
    let read = records_read image j
    (by_recursion (λ b. b < 256) image (sound.images image sound.bytes).are_bytes) has.read in
    let is : IsWhole g view.journal.layout c =
    whole_fold g view.journal.layout has.records c read.read f.1 in
    let e : carousel_in area c ≡ carousel_of view.carousel has.agrees.bodies =
    ap (λ (t : Standing). t.carousel) f.2 ∙ has.agrees.carousel in
    let m = matched g area (area-long image j has.read) view.carousel.objects.items
    has.agrees.bodies c.objects
    (sym (ap (λ (d : whole.Carousel). d.objects) e)) has.agrees.are_bodies
    (all-within g view c.objects is.each) in
    let extents : view.extents ≡ extents_of c =
    has.agrees.extents ∙ sym (ap (λ (t : Standing). t.extents) f.2) in
    let period : c.period ≡ view.carousel.period = ap (λ (d : whole.Carousel). d.period) e in
    let directory : c.directory ≡ view.carousel.directory =
    ap (λ (d : whole.Carousel). d.directory) e in
    let cursor : c.cursor ≡ view.carousel.cursor = ap (λ (d : whole.Carousel). d.cursor) e in (
      c,
      record {
        fold = f.1;
        valid = read.valid;
        whole = is;
        is = same-catalogue view.carousel.period c.period view.carousel.directory c.directory
            view.carousel.cursor c.cursor
            (objects_in view.carousel.objects.items view.extents) c.objects (sym period)
            (sym directory) (sym cursor)
            (ap (objects_in view.carousel.objects.items) extents ∙ m.placed);
        extents = extents;
        paired = ap (map (λ (e : ℕ × ℕ). e.1)) extents
            ∙ sizes-of g area (area-long image j has.read) c.objects
            (all-within g view c.objects is.each) ∙ m.sizes area (area-long image j has.read);
        carousel = λ a l. same-carousel c.period view.carousel.period c.directory
            view.carousel.directory c.cursor view.carousel.cursor
            (wholes a c.objects) (objects_of view.carousel.objects.items (bodies_in a c.objects))
            period directory cursor (m.objects a l);
        bodies = m.sizes;
      },
    )

-- and of those that it holds
pub kept : (view : RepositoryView) (s : Standing) (state : State) → IsHonestDisk state
    → (holds : Holds view s state)
    → (c : Catalogue) × IsKept view holds.records c
unfolding read_standing
kept view s state sound holds =
    kept_standing view s state sound (read_standing view s state sound holds)

-- ---- the record folds, and the body has its place

push-cases : (limit number : ℕ) (d next : Catalogue) (records : List Record) (r : Record)
    (o : Option Catalogue)
    → ◌>>=◌ (or_damaged number o) (λ k. fold_from limit (number + 1) k records) ≡ Ok d
    → ((k : Catalogue) → fold_from limit (number + 1) k records ≡ Ok d
    → fold_from limit (number + 1) k (records ++ r ∷ []) ≡ Ok next)
    → ◌>>=◌ (or_damaged number o) (λ k. fold_from limit (number + 1) k (records ++ r ∷ []))
    ≡ Ok next
push-cases limit number d next records r None f rest = cc
push-cases limit number d next records r (Some k) f rest = rest k f

fold-push : (limit number : ℕ) (c d next : Catalogue) (records : List Record) (r : Record)
    → fold_from limit number c records ≡ Ok d
    → catalogue_after limit d r ≡ Some next → fold_from limit number c (records ++ r ∷ []) ≡ Ok next
unfolding fold_from
fold-push limit number c d next [] r e after =
    let same : c ≡ d = cc in
    ap (λ k. ◌>>=◌ (or_damaged number (catalogue_after limit k r)) (λ (x : Catalogue). Ok x))
    same
    ∙ ap (λ o. ◌>>=◌ (or_damaged number o) (λ (x : Catalogue). Ok x)) after
fold-push limit number c d next (q ∷ records) r e after =
    push-cases limit number d next records r (catalogue_after limit c q) e
    (λ k f. fold-push limit (number + 1) k d next records r f after)

-- a least gap lies in the area, and meets no extent
pub gap-fits : (extents : List (ℕ × ℕ)) (n size from : ℕ) → least_gap extents n size ≡ Some from
    → (from + n ≤ size) × (is_free extents n from ≡ true)
gap-fits extents n size from e =
    (subst (IsLeastGap extents n size) e (least_gap_is_least extents n size)).0

module _ (view : RepositoryView) (command : Command) (from : ℕ) (c : Catalogue)
    (extents : view.extents ≡ extents_of c) where
  fits : start_of view.extents view.journal.geometry.area command ≡ Some from
      → (from + length (body_of command) ≤ view.journal.geometry.area)
      × (list_all (is_beside from (length (body_of command))) (extents-in c.objects) ≡ true)
  fits lies =
      let h = gap-fits view.extents (length (body_of command)) view.journal.geometry.area from
      lies in
      (h.0, ap (λ l. is_free l (length (body_of command)) from) (sym extents) ∙ h.1)

placed-by : (area : List ℕ) (extents : List (ℕ × ℕ)) (command : Command) (from : ℕ)
    → slice_range area from (from + length (body_of command)) ≡ body_of command
    → is_free extents (length (body_of command)) from ≡ true → IsPlaced area extents command from
placed-by area extents (Put name content mime body) from lies free = (lies, free)
placed-by area extents (Replace name content mime body) from lies free = (lies, free)
placed-by area extents (Withdraw name) from lies free = tt
placed-by area extents (Period period) from lies free = tt

-- an area that has the body at its place
abbrev pub some-area : ℕ → List ℕ → ℕ → List ℕ
some-area from body n = replicate from 0 ++ (body ++ replicate n 0)

-- an area that is made around a body has it in its place
pub some-slice : (from : ℕ) (body : List ℕ) (n : ℕ)
    → slice_range (some-area from body n) from (from + length body) ≡ body
some-slice from body n =
    let before : List ℕ = replicate from 0 in
    let rest : List ℕ = body ++ replicate n 0 in
    let count = length-replicate {A = ℕ} from 0 in
    let k : from + length body - from ≡ length body = omega arith in
    ap (λ l. take (from + length body - from) l)
    (drop-append-le from before rest (omega (arith, count))
    ∙ ap (λ l. l ++ rest) (drop_all from before (omega (arith, count))))
    ∙ ap (λ m. take m rest) k ∙ take-append-le (length body) body (replicate n 0) (omega arith)
    ∙ take_all (length body) body (omega arith)

-- an area that is made with so many zeros behind a body is at least as long
pub some-length : (from : ℕ) (body : List ℕ) (n : ℕ) → n ≤ length (some-area from body n)
some-length from body n =
    let a = length-append (replicate from 0) (body ++ replicate n 0) in
    let b = length-append body (replicate n 0) in
    let d = length-replicate {A = ℕ} n 0 in
    omega (arith, a, b, d)

-- the bytes of an image in its data area
area-slice : (g : Geometry) (image body : List ℕ) (from n : ℕ)
    → slice_range image (area_start g + from) (area_start g + from + n) ≡ body
    → slice_range (area_of g image) from (from + n) ≡ body
area-slice g image body from n is =
    let far : ℕ = area_start g in
    let k : ℕ = from + n - from in
    let count : k ≡ far + from + n - (far + from) = omega arith in
    ap (take k) (drop-drop from far image) ∙ ap (λ m. take m (drop (far + from) image)) count ∙ is

-- ---- the record, by the carousels without their bodies

module _ (name : List ℕ) (start size : ℕ) where
  set-cases : (o : Object) (b : List ℕ) (os : List whole.Object) (vs : List Object) (t : Bool)
      → set_action start size (object_named name os)
      ≡ kept_set start size (kept_object_named name vs)
      → set_action start size (if t then Some (object_of o b) else object_named name os)
      ≡ kept_set start size (if t then Some o else kept_object_named name vs)
  set-cases o b os vs true rest = refl
  set-cases o b os vs false rest = rest

  is-set : (vs : List Object) (bodies : List (List ℕ)) → map length bodies ≡ lengths vs
      → set_action start size (object_named name (objects_of vs bodies))
      ≡ kept_set start size (kept_object_named name vs)
  is-set [] bodies e = refl
  is-set (o ∷ vs) [] e = cc
  is-set (o ∷ vs) (b ∷ bodies) e =
      let rest : map length bodies ≡ lengths vs = cc in
      set-cases o b (objects_of vs bodies) vs (bytes_eq o.name name) (is-set vs bodies rest)

remove-cases : (name : List ℕ) (o : Object) (b : List ℕ) (os : List whole.Object) (vs : List Object)
    (t : Bool) → remove_action (object_named name os) ≡ kept_remove (kept_object_named name vs)
    → remove_action (if t then Some (object_of o b) else object_named name os)
    ≡ kept_remove (if t then Some o else kept_object_named name vs)
remove-cases name o b os vs true rest = refl
remove-cases name o b os vs false rest = rest

is-remove : (name : List ℕ) (vs : List Object) (bodies : List (List ℕ))
    → map length bodies ≡ lengths vs
    → remove_action (object_named name (objects_of vs bodies))
    ≡ kept_remove (kept_object_named name vs)
is-remove name [] bodies e = refl
is-remove name (o ∷ vs) [] e = cc
is-remove name (o ∷ vs) (b ∷ bodies) e =
    let rest : map length bodies ≡ lengths vs = cc in
    remove-cases name o b (objects_of vs bodies) vs (bytes_eq o.name name)
    (is-remove name vs bodies rest)

is-action : (old next : Carousel) (command : Command) (from : ℕ) (bodies after : List (List ℕ))
    → AreBodiesOf old bodies → AreBodiesOf next after
    → action_of (carousel_of old bodies) (carousel_of next after) command from
    ≡ kept_action old next command from
is-action old next (Put name content mime body) from bodies after b a =
    is-set name from (length body) next.objects.items after a
is-action old next (Replace name content mime body) from bodies after b a =
    is-set name from (length body) next.objects.items after a
is-action old next (Withdraw name) from bodies after b a = is-remove name old.objects.items bodies b
is-action old next (Period period) from bodies after b a = refl

-- whatever the bodies are
pub is_kept_record : (old next : Carousel) (command : Command) (from : ℕ)
    (bodies after : List (List ℕ)) → AreBodiesOf old bodies → AreBodiesOf next after
    → record_of (carousel_of old bodies) (carousel_of next after) command from
    ≡ kept_record old next command from
is_kept_record old next command from bodies after b a =
    ap (λ (x : Action). let r : Record =
    record {
      period = next.period;
      directory = next.directory;
      cursor = next.cursor;
      action =
          x;
    } in r)
    (is-action old next command from bodies after b a)

-- ---- a prepared change

-- all that the writing of a prepared change rests on
pub record IsReady (view : RepositoryView) (s : Standing) (command : Command) (done : Done)
    (from : ℕ) (r : Record) (given records : List Record) : Type 0 where
  -- the catalogue before the command
  pub c : Catalogue
  -- the catalogue after it
  pub after : Catalogue
  -- the records fold to the one before
  pub fold : catalogue_of view.journal.geometry.objects records ≡ Ok c
  -- with the command's record they fold to the one after
  pub push : catalogue_of view.journal.geometry.objects (records ++ r ∷ []) ≡ Ok after
  -- the given records fold to the one before, where the half is full
  pub given_fold : IsFull view.journal → catalogue_of view.journal.geometry.objects given ≡ Ok c
  -- with the command's record, the given ones fold to the one after
  pub given_push : IsFull view.journal
      → catalogue_of view.journal.geometry.objects (given ++ r ∷ []) ≡ Ok after
  -- each body lies in the data area, and beside the place of the command's, which lies there too
  pub beside : AreBeside view.journal.geometry from (length (body_of command)) c.objects
      × (from + length (body_of command) ≤ view.journal.geometry.area)
  -- an image of the standing that has the body in its place comes to the standing after
  pub step : (j : JournalView) (list : List Record) (image : List ℕ)
      → j.geometry ≡ view.journal.geometry
      → catalogue_of view.journal.geometry.objects list ≡ Ok c → HasRecords j list image
      → IsOf s image
      → slice_range image (area_start view.journal.geometry + from)
      (area_start view.journal.geometry + from + length (body_of command)) ≡ body_of command
      → after_command view.journal.layout s command
      ≡ Ok (standing_of view.journal.geometry after image, done)

module _ (view : RepositoryView) (command : Command) (done : Done) (next : Carousel) (from : ℕ)
    (r : Record) (given records : List Record) (c : Catalogue)
    (prepared : IsPreparedFor view command done next from r given)
    (is : IsKept view records c) where
  -- what the record makes of the catalogue, where the body has its place in this area
  abbrev pub Made : List ℕ → Type 0
  Made area =
      (after : Catalogue) × (catalogue_after view.journal.geometry.objects c r ≡ Some after)
      × (change (carousel_in area c) view.journal.geometry.objects command
      ≡ Ok (carousel_in area after, done))
      × (extents_of after ≡ placed_extents_after c.objects command from)

  -- where an area has the body, the record makes the catalogue that the command asks for
  pub made : (area : List ℕ) → view.journal.geometry.area ≤ length area
      → slice_range area from (from + length (body_of command)) ≡ body_of command → Made area
  made area long lies =
      let bodies : List (List ℕ) = bodies_in area c.objects in
      let n : whole.Carousel = carousel_of next (bodies_after view.carousel command bodies) in
      let same = is.carousel area long in
      let are = is.bodies area long in
      let accepted : change (carousel_in area c) view.journal.geometry.objects command
      ≡ Ok (n, done) =
      subst (λ k. change k view.journal.geometry.objects command ≡ Ok (n, done)) (sym same)
      (prepared.changes bodies are).0 in
      let record_is : r ≡ record_of (carousel_in area c) n command from =
      subst (λ k. r ≡ record_of k n command from) (sym same)
      (prepared.record_is ∙ sym
      (is_kept_record view.carousel next command from bodies
      (bodies_after view.carousel command bodies) are (prepared.changes bodies are).1)) in
      let free = (fits view command from c is.extents prepared.lies).1 in
      let law = following.keeps view.journal.geometry.objects from area c n command done
      (few_objects view.journal.geometry is.valid) is.whole.good.consistent
      (sound_carousel area view.journal.geometry view.journal.layout c is.valid is.whole) accepted
      (placed-by area (extents_of c) command from lies free) in (
        law.0,
        ap (catalogue_after view.journal.geometry.objects c) record_is ∙ law.1,
        subst (λ k. change (carousel_in area c) view.journal.geometry.objects command
            ≡ Ok (k, done)) (sym law.2) accepted,
        law.3,
      )

  same-some : (x y : Catalogue) → ◌≡◌ {A = Option Catalogue} (Some x) (Some y) → x ≡ y
  same-some x y e = cc

  -- a prepared command has its record and body ready for the standing that is held
  pub is_ready : (s : Standing) → Agrees view s → IsReady view s command done from r given records
  is_ready s agrees =
      let g : Geometry = view.journal.geometry in
      let body : List ℕ = body_of command in
      let room = fits view command from c is.extents prepared.lies in
      let first = made (some-area from body g.area) (some-length from body g.area)
      (some-slice from body g.area) in
      let lie : extents_of first.0
      ≡ extents_after (names_kept view.carousel) view.extents command from =
      first.3 ∙ ap (λ (d : Catalogue). placed_extents_after d.objects command from) (sym is.is)
      ∙ placed-names view.carousel.objects.items view.extents command from is.paired in
      let rewrites : IsFull view.journal → catalogue_of g.objects given ≡ Ok c =
      λ full. ap (catalogue_of g.objects) (prepared.given_is full ∙ ap records_of_catalogue is.is)
      ∙ rewriting.keeps g.objects records c is.fold in
      record {
        c = c;
        after = first.0;
        fold = is.fold;
        push = fold-push g.objects 0 _ c first.0 records r is.fold first.1;
        given_fold = rewrites;
        given_push = λ full. fold-push g.objects 0 _ c first.0 given r (rewrites full) first.1;
        beside = (
          lie_beside g view.journal.layout from (length body) c.objects is.whole.each room.1,
          room.0,
        );
        step = λ j list image same fold has of lies.
            let here = stands_by_parts g (with_records j list) c image same has.read fold in
            let standing = same-standing (standing_of g c image) s (sym here ∙ of.stands) in
            let long : g.area ≤ length (area_of g image) =
            subst (λ (h : Geometry). h.area ≤ length (area_of h image)) same
            (area-long image (with_records j list) has.read) in
            let here_made = made (area_of g image) long
            (area-slice g image body from (length body) lies) in
            let after = same-some here_made.0 first.0 (sym here_made.1 ∙ first.1) in
            let accepted = subst (λ k.
            change (carousel_in (area_of g image) c) g.objects command
            ≡ Ok (carousel_in (area_of g image) k, done)) after here_made.2 in
            accepted_of view.journal.layout s command done (standing_of g first.0 image) (record {
              short = prepared.short;
              rules = subst (λ (t : Standing).
                  change t.carousel t.geometry.objects command
                  ≡ Ok (carousel_in (area_of g image) first.0, done)) standing accepted;
              start = from;
              lies = sym (same_start view s agrees command) ∙ prepared.lies;
              geometry = agrees.geometry;
              extents = lie ∙ same_extents view s agrees command from;
              rest = ap (λ (t : Standing). t.rest) standing;
            });
      }

-- a prepared change of an open repository is ready
pub ready : (view : RepositoryView) (command : Command) (done : Done) (next : Carousel) (from : ℕ)
    (r : Record) (given : List Record) (s : Standing) (state : State)
    → IsPreparedFor view command done next from r given → IsHonestDisk state
    → (holds : Holds view s state)
    → IsReady view s command done from r given holds.records
ready view command done next from r given s state prepared sound holds =
    let k = kept view s state sound holds in
    is_ready view command done next from r given holds.records k.0 prepared k.1 s holds.agrees

same-pair : (x y : whole.Carousel × Done)
    → ◌≡◌ {A = Result (whole.Carousel × Done) Refusal} (Ok x) (Ok y) → x ≡ y
same-pair x y e = cc

-- equal outcomes are of equal carousels
pub same-change : (x y : whole.Carousel) (d : Done)
    → ◌≡◌ {A = Result (whole.Carousel × Done) Refusal} (Ok (x, d)) (Ok (y, d)) → x ≡ y
same-change x y d e = ap (λ (k : whole.Carousel × Done). k.0) (same-pair (x, d) (y, d) e)

-- ---- what is kept after an opening

objects-of : (area : List ℕ) (ps : List Placed)
    → wholes area ps ≡ objects_of (map (λ (p : Placed). p.object) ps) (bodies_in area ps)
objects-of area [] = refl
objects-of area (p ∷ ps) =
    ap (λ l. object_of p.object (body_in_area area p) ∷ l) (objects-of area ps)

lengths-of : (g : Geometry) (area : List ℕ) → g.area ≤ length area → (ps : List Placed)
    → AllByRecursion (λ (p : Placed). p.start + p.object.length ≤ g.area) ps
    → map length (bodies_in area ps) ≡ lengths (map (λ (p : Placed). p.object) ps)
lengths-of g area long [] within = refl
lengths-of g area long (p ∷ ps) within =
    ap (λ n. n ∷ map length (bodies_in area ps)) (body-length g area p within.0 long)
    ∙ ap (λ l. p.object.length ∷ l) (lengths-of g area long ps within.1)

-- what was loaded and fold_from is open
pub opened : (view : RepositoryView) (old new : State) (records : List Record) (c : Catalogue)
    → IsHonestDisk old
    → records_of old.bytes ≡ Ok (with_records view.journal records)
    → catalogue_of view.journal.geometry.objects records ≡ Ok c
    → KeepsCatalogue view c → view.journal.count ≡ length records → IsFalse view.journal.spent
    → IsFirm new → IsOpened old new view
opened view old new records c sound read fold keeps count unspent firm =
    let g : Geometry = view.journal.geometry in
    let image : List ℕ = old.bytes in
    let j : DiskRecords = with_records view.journal records in
    let area : List ℕ = area_of g image in
    let known = records_read image j
    (by_recursion (λ b. b < 256) image (sound.images image sound.bytes).are_bytes) read in
    let is : IsWhole g view.journal.layout c =
    whole_fold g view.journal.layout records c known.read fold in
    let long = area-long image j read in
    let bodies : List (List ℕ) = bodies_in area c.objects in
    record {
      standing = standing_of g c image;
      stands = stands_by_parts g j c image refl read fold;
      agrees = record {
        geometry = refl;
        extents = keeps.extents;
        bodies = bodies;
        are_bodies = lengths-of g area long c.objects (all-within g view c.objects is.each)
            ∙ ap lengths (sym keeps.objects);
        carousel = same-carousel c.period view.carousel.period c.directory view.carousel.directory
            c.cursor view.carousel.cursor
            (wholes area c.objects) (objects_of view.carousel.objects.items bodies)
            (sym keeps.period) (sym keeps.directory) (sym keeps.cursor)
            (objects-of area c.objects ∙ ap (λ l. objects_of l bodies) (sym keeps.objects));
      };
      firm = firm;
      records = records;
      read = read;
      count = count;
      unspent = unspent;
    }
