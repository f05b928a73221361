use Rattle.std.proofs.Common.{◌≡◌, ◌<◌, ◌≤◌, ℕ, List, length, map, refl, ◌∙◌, ap, subst, arith}
use Rattle.std.proofs.lemmas.List.{length-map}
use Rattle.std.specs.Prelude.{unwrap_or}
use Rattle.mot_copy_command.specs.Inner.Steps.{bytes_of_bodies}
use Rattle.mot_journal.specs.declared.record.Record.{Record}
use Rattle.mot_numbers.proofs.Laws.{same_error}
use Rattle.mot_numbers.specs.declared.geometry.Geometry.{Geometry}
use Rattle.mot_numbers.specs.declared.refusal.Refusal.TheVariants.{OutOfMemory}
use Rattle.mot_objects.specs.declared.carousel.Carousel.{Carousel}
use Rattle.mot_objects.specs.declared.object.Object.{Object}
use Rattle.mot_repository.specs.Copy.{IsId, bytes_of_extents, ids_of_copy, packed_catalogue}
use Rattle.mot_repository.specs.Copy.{copied_ids, is_segment_resized, no_room, no_memory}
use Rattle.mot_repository.specs.Records.{records_of_catalogue}
use Rattle.mot_repository.proofs.Laws.{bytes-same, copied_ids-count}
use Rattle.mot_copy_command.proofs.records.records_of_copy.Given as given
use Rattle.mot_copy_command.proofs.records.records_of_copy.Goals as goal
use Rattle.mot_copy_command.proofs.records.records_of_copy.Goals.{Else-length_of_bodies-from}

-- the objects are those of what is kept
kept : (g : given.Over) (c : Else-length_of_bodies-from g)
    → c.carousel-carousel.result.now.objects.items ≡ c.args.from.now.view.carousel.objects.items
kept g c = ap (λ (x : Carousel). x.objects.items) c.carousel-carousel.ensures.value

few : (g : given.Over) (c : Else-length_of_bodies-from g)
    → length c.args.from.now.view.carousel.objects.items ≤ c.args.geometry.now.objects
few g c =
    let h = c.if-len-from.false in
    let l = c.len.ensures in
    let f = c.from.ensures in
    let n = ap length (kept g c) in
    omega (arith, h, l, f, n, c.carousel-carousel.result.now.objects.ok.0)

room : (g : given.Over) (c : Else-length_of_bodies-from g)
    → bytes_of_extents c.args.from.now.view.extents ≤ c.args.geometry.now.area
room g c =
    let view = c.args.from.now.view in
    let h = c.if-length_of_bodies-from.false in
    let l = c.length_of_bodies.ensures ∙ ap bytes_of_bodies (c.deref.ensures.value ∙ kept g c) in
    let f = c.from-2.ensures in
    let sum = bytes-same view.carousel.objects.items view.extents c.body_count-paired.ensures.paired
    in
    omega (arith, h, l, f, sum)

pub returns-then-length_of_bodies-from-clause-refused :
    goal.returns-then-length_of_bodies-from-clause-refused
returns-then-length_of_bodies-from-clause-refused g c =
    let view = c.args.from.now.view in
    let same : c.carousel-carousel.result.now.objects.items ≡ view.carousel.objects.items =
    ap (λ (x : Carousel). x.objects.items) c.carousel-carousel.ensures.value in
    let n = c.if-len-from.false in
    let l = c.len.ensures in
    let f = c.from.ensures in
    let count = ap length same in
    let few : length view.carousel.objects.items ≤ c.args.geometry.now.objects =
    omega (arith, n, l, f, count, c.carousel-carousel.result.now.objects.ok.0) in
    let h = c.if-length_of_bodies-from.true in
    let k = c.length_of_bodies.ensures ∙ ap bytes_of_bodies (c.deref.ensures.value ∙ same) in
    let f2 = c.from-2.ensures in
    let sum = bytes-same view.carousel.objects.items view.extents c.body_count-paired.ensures.paired
    in
    let more : c.args.geometry.now.area < bytes_of_extents view.extents =
    omega (arith, h, k, f2, sum) in
    no_room refl few more

pub returns-in_err-ids-clause-refused : goal.returns-in_err-ids-clause-refused
returns-in_err-ids-clause-refused g c =
    let before = (goal.at.returns-in_err-ids-clause-refused g c).Else-length_of_bodies-from in
    rw (same_error c.from_residual.result OutOfMemory c.from_residual.ensures.1)
    (no_memory refl (few g before) (room g before))

pub returns-in_err-records-clause-refused : goal.returns-in_err-records-clause-refused
returns-in_err-records-clause-refused g c =
    let before = (goal.at.returns-in_err-records-clause-refused g c).Else-length_of_bodies-from in
    rw (same_error c.from_residual-in_err-records.result OutOfMemory
    c.from_residual-in_err-records.ensures.1)
    (no_memory refl (few g before) (room g before))

pub packed_records-requires-clause-ids : goal.packed_records-requires-clause-ids
packed_records-requires-clause-ids g c =
    let x = c.carousel-carousel.result.now in
    ap length (c.deref-2.ensures.value ∙ c.in_ok-ids.ensures.objects)
    ∙ copied_ids-count c.args.after (is_segment_resized c.geometry.result c.args.geometry.now)
    x.directory x.cursor (map (λ (o : Object). o.tid) x.objects.items)
    ∙ length-map x.objects.items (λ (o : Object). o.tid)

pub returns-clause-records : goal.returns-clause-records
returns-clause-records g c =
    let view = c.args.from.now.view in
    let geometry = c.args.geometry.now in
    let after = c.args.after in
    let before = (goal.at.returns-clause-records g c).Else-length_of_bodies-from in
    let is : c.carousel-carousel.result.now ≡ view.carousel = c.carousel-carousel.ensures.value in
    let Last : Carousel → Type 0 = λ x. IsId (unwrap_or after x.cursor) in
    let made : Geometry → Carousel → List ℕ × ℕ = λ old x. copied_ids after
    (is_segment_resized old geometry) x.directory x.cursor
    (map (λ (o : Object). o.tid) x.objects.items) in
    let pair : List ℕ → ℕ → List ℕ × ℕ = λ ids id. (ids, id) in
    let given = made c.geometry.result c.carousel-carousel.result.now in
    let directory = c.in_ok-ids.directory in
    let same : pair c.deref-2.result.now directory ≡ ids_of_copy view geometry after =
    ap (λ l. pair l directory) (c.deref-2.ensures.value ∙ c.in_ok-ids.ensures.objects)
    ∙ ap (pair given.0) c.in_ok-ids.ensures.directory
    ∙ ap (λ old. made old c.carousel-carousel.result.now) c.geometry.ensures.value
    ∙ ap (made view.journal.geometry) is in
    let records : Carousel → List ℕ × ℕ → List Record = λ x ids.
    records_of_catalogue (packed_catalogue x ids) in
    c.know_copies.ensures geometry after c.in_ok-records.records.items
    (subst Last is c.ids_of_copy.ensures.last) (few g before) (room g before)
    (c.in_ok-records.ensures
    ∙ ap (λ x. records x (pair c.deref-2.result.now directory)) is
    ∙ ap (records view.carousel) same)
