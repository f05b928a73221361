use Rattle.std.proofs.Common.{◌≡◌, ◌<◌, ℕ, List, [], ◌∷◌, ◌++◌, length, set, Some, true}
use Rattle.std.proofs.Common.{refl, sym, ap, ◌∙◌, arith, remove}
use Rattle.std.proofs.lemmas.Result.{IfErr-weaker, on_ok_weaker}
use Rattle.std.specs.Prelude.{is_ok}
use Rattle.mot_objects.specs.declared.object.Object.{Object}
use Rattle.mot_objects.specs.Stands.{index_of}
use Rattle.mot_repository.specs.Inner.Extents.{objects_in}
use Rattle.mot_repository.specs.Inner.Fold.{HaveLengths, are_consistent, if_consistent}
use Rattle.mot_repository.specs.declared.opening.bounds.Bounds.{Bounds}
use Rattle.mot_repository.specs.Inner.Bounds.{AreWithin}
use Rattle.mot_repository.proofs.Apart.{consistent_but_set, consistent_but_last, done_where}
use Rattle.mot_repository.proofs.ListFaults.{clash_is_fault}
use Rattle.mot_repository.proofs.Bounds.{within_but_set, within_but_last}
use Rattle.mot_repository.proofs.Listing.{set_there, set_behind, set_nowhere, lengths_set}
use Rattle.mot_repository.proofs.Listing.{same_count, lengths_behind}
use Rattle.mot_repository.proofs.opening.fold.set_object.Goals as goal

same-objects : (os ps : List Object) (es fs : List (ℕ × ℕ)) → os ≡ ps → es ≡ fs
    → objects_in os es ≡ objects_in ps fs
same-objects os ps es fs d e = rw (d, e) refl

same-lengths : (os ps : List Object) (es fs : List (ℕ × ℕ)) → os ≡ ps → es ≡ fs → HaveLengths ps fs
    → HaveLengths os es
same-lengths os ps es fs d e h = rw (d, e) h

same-others : (os ps : List Object) (es fs : List (ℕ × ℕ)) (i j : ℕ) → os ≡ ps → es ≡ fs
    → i ≡ j → are_consistent (objects_in (remove ps j) (remove fs j)) ≡ true
    → are_consistent (objects_in (remove os i) (remove es i)) ≡ true
same-others os ps es fs i j d e same h = rw (d, e, same) h

same-bounds : (b : Bounds) (os ps : List Object) (es fs : List (ℕ × ℕ)) (i j : ℕ) → os ≡ ps
    → es ≡ fs → i ≡ j → AreWithin b (remove ps j) (remove fs j) → AreWithin b (remove os i) (remove es i)
same-bounds b os ps es fs i j d e same h = rw (d, e, same) h

same-within : (b : Bounds) (os ps : List Object) (es fs : List (ℕ × ℕ)) → os ≡ ps → es ≡ fs
    → AreWithin b os es → AreWithin b ps fs
same-within b os ps es fs d e h = rw (← d, ← e) h

pub stands_apart-requires-clause-paired : goal.stands_apart-requires-clause-paired
stands_apart-requires-clause-paired c =
    let os : List Object = c.args.objects.now.items in
    let es : List (ℕ × ℕ) = c.args.extents.now.items in
    let i : ℕ = c.in-Some.place in
    let put : c.deref-in-Some.result.now ≡ set os i c.args.object =
    c.deref-in-Some.ensures.value ∙ ap (set os i) c.replace.ensures.after in
    same-lengths c.deref-in-Some.result.now (set os i c.args.object) c.deref-in-Some-2.result.now
    (set es i (c.args.start, c.args.object.length))
    put
    (c.deref-in-Some-2.ensures.value ∙ ap (λ n. set es i (c.args.start, n)) c.get.ensures.value)
    (lengths_set os es i c.args.object c.args.start c.requires.paired)

pub stands_apart-requires-clause-others : goal.stands_apart-requires-clause-others
stands_apart-requires-clause-others c =
    let os : List Object = c.args.objects.now.items in
    let es : List (ℕ × ℕ) = c.args.extents.now.items in
    let i : ℕ = c.in-Some.place in
    let put : c.deref-in-Some.result.now ≡ set os i c.args.object =
    c.deref-in-Some.ensures.value ∙ ap (set os i) c.replace.ensures.after in
    let within : i < length c.deref.result.now = c.in-Some.ensures.within in
    let count : length c.deref.result.now ≡ length os = ap length c.deref.ensures.value in
    same-others c.deref-in-Some.result.now (set os i c.args.object) c.deref-in-Some-2.result.now
    (set es i (c.args.start, c.get.result)) i i
    put c.deref-in-Some-2.ensures.value refl
    (consistent_but_set os es i c.args.object (c.args.start, c.get.result) c.requires.paired
    (omega (arith, within, count)) c.requires.consistent)

pub returns-in-Some-clause-done : goal.returns-in-Some-clause-done
returns-in-Some-clause-done c =
    let os : List Object = c.args.objects.now.items in
    let es : List (ℕ × ℕ) = c.args.extents.now.items in
    let i : ℕ = c.in-Some.place in
    let put : c.deref-in-Some.result.now ≡ set os i c.args.object =
    c.deref-in-Some.ensures.value ∙ ap (set os i) c.replace.ensures.after in
    let at : index_of c.args.object.name os ≡ Some i =
    ap (index_of c.args.object.name) (sym c.deref.ensures.value) ∙ sym c.place_of_name.ensures.place
    ∙ c.in-Some.is in
    rw c.replace.ensures.after (done_where (is_ok c.stands_apart.result)
    (objects_in (set os i c.args.object) (set es i (c.args.start, c.get.result)))
    (c.stands_apart.ensures.consistent ∙ ap are_consistent
    (same-objects c.deref-in-Some.result.now (set os i c.args.object)
    c.deref-in-Some-2.result.now (set es i (c.args.start, c.get.result))
    put c.deref-in-Some-2.ensures.value))
    ∙ ap if_consistent (ap (λ n.
    Some (objects_in (set os i c.args.object) (set es i (c.args.start, n)))) c.get.ensures.value
    ∙ set_there os es c.requires.paired c.args.limit c.args.start c.args.object i at))

pub returns-in-Some-clause-paired : goal.returns-in-Some-clause-paired
returns-in-Some-clause-paired c =
    let os : List Object = c.args.objects.now.items in
    let es : List (ℕ × ℕ) = c.args.extents.now.items in
    let i : ℕ = c.in-Some.place in
    same-lengths (set os i c.replace.new.dest) (set os i c.args.object)
    (set es i (c.args.start, c.get.result))
    (set es i (c.args.start, c.args.object.length)) (ap (set os i) c.replace.ensures.after)
    (ap (λ n. set es i (c.args.start, n)) c.get.ensures.value)
    (lengths_set os es i c.args.object c.args.start c.requires.paired)

pub returns-then-place-from-clause-done : goal.returns-then-place-from-clause-done
returns-then-place-from-clause-done c =
    let os : List Object = c.args.objects.now.items in
    ap if_consistent (set_nowhere os c.args.extents.now.items c.requires.paired c.args.limit
    c.args.start c.args.object
    (ap (index_of c.args.object.name) (sym c.deref.ensures.value)
    ∙ sym c.place_of_name.ensures.place ∙ c.in_default.is) (omega arith))

pub returns-clause-done : goal.returns-clause-done
returns-clause-done c =
    let os : List Object = c.args.objects.now.items in
    let es : List (ℕ × ℕ) = c.args.extents.now.items in
    let o : Object = c.args.object in
    let next : List Object = c.push_reserved.new.self.items in
    let beside : List (ℕ × ℕ) = c.push_reserved-2.new.self.items in
    done_where (is_ok c.stands_apart-2.result) (objects_in next beside)
    (c.stands_apart-2.ensures.consistent
    ∙ ap are_consistent (same-objects c.deref-2.result.now next c.deref-3.result.now beside
    c.deref-2.ensures.value c.deref-3.ensures.value))
    ∙ ap if_consistent (ap Some
    (same-objects next (os ++ o ∷ []) beside (es ++ (c.args.start, o.length) ∷ [])
    c.push_reserved.ensures.items
    (c.push_reserved-2.ensures.items
    ∙ ap (λ n. es ++ (c.args.start, n) ∷ []) c.get.ensures.value))
    ∙ set_behind os es c.requires.paired c.args.limit c.args.start o
    (ap (index_of o.name) (sym c.deref.ensures.value) ∙ sym c.place_of_name.ensures.place
    ∙ c.in_default.is) (omega arith))

pub stands_apart-requires-clause-bounded : goal.stands_apart-requires-clause-bounded
stands_apart-requires-clause-bounded c =
    let os : List Object = c.args.objects.now.items in
    let es : List (ℕ × ℕ) = c.args.extents.now.items in
    let i : ℕ = c.in-Some.place in
    let put : c.deref-in-Some.result.now ≡ set os i c.args.object =
    c.deref-in-Some.ensures.value ∙ ap (set os i) c.replace.ensures.after in
    let e : ℕ × ℕ = (c.args.start, c.get.result) in
    same-bounds c.args.bounds.now c.deref-in-Some.result.now (set os i c.args.object)
    c.deref-in-Some-2.result.now (set es i e) i i
    put c.deref-in-Some-2.ensures.value refl
    (within_but_set c.args.bounds.now os es i c.args.object e c.requires.bounded)

pub stands_apart-requires-2-clause-bounded : goal.stands_apart-requires-2-clause-bounded
stands_apart-requires-2-clause-bounded c =
    let os : List Object = c.args.objects.now.items in
    let es : List (ℕ × ℕ) = c.args.extents.now.items in
    let e : ℕ × ℕ = (c.args.start, c.get.result) in
    same-bounds c.args.bounds.now c.deref-2.result.now (os ++ c.args.object ∷ [])
    c.deref-3.result.now (es ++ e ∷ []) c.len-place.result (length os)
    (c.deref-2.ensures.value ∙ c.push_reserved.ensures.items)
    (c.deref-3.ensures.value ∙ c.push_reserved-2.ensures.items)
    (let count = c.len-place.ensures in let whole = c.args.objects.now.ok.0 in
    omega (arith, count, whole))
    (within_but_last c.args.bounds.now os es c.args.object e
    (same_count os es c.requires.paired) c.requires.bounded)

pub index_mut-requires : goal.index_mut-requires
index_mut-requires c =
    let within : c.in-Some.place < length c.deref.result.now = c.in-Some.ensures.within in
    let len = c.deref.ensures.len in
    omega (arith, within, len)

pub index_mut-requires-in-Some : goal.index_mut-requires-in-Some
index_mut-requires-in-Some c =
    let within : c.in-Some.place < length c.deref.result.now = c.in-Some.ensures.within in
    let len = c.deref.ensures.len in
    let whole = c.args.objects.now.ok.0 in
    let beside = c.args.extents.now.ok.0 in
    let count = same_count c.args.objects.now.items c.args.extents.now.items c.requires.paired in
    omega (arith, within, len, whole, beside, count)

pub stands_apart-requires-clause-within : goal.stands_apart-requires-clause-within
stands_apart-requires-clause-within c =
    let within : c.in-Some.place < length c.deref.result.now = c.in-Some.ensures.within in
    let len = c.deref.ensures.len in
    let set_len = c.deref-in-Some.ensures.len in
    omega (arith, within, len, set_len)

pub returns-in-Some-clause-bounded : goal.returns-in-Some-clause-bounded
returns-in-Some-clause-bounded c =
    let os : List Object = c.args.objects.now.items in
    let es : List (ℕ × ℕ) = c.args.extents.now.items in
    let i : ℕ = c.in-Some.place in
    let put : c.deref-in-Some.result.now ≡ set os i c.args.object =
    c.deref-in-Some.ensures.value ∙ ap (set os i) c.replace.ensures.after in
    rw c.replace.ensures.after (on_ok_weaker c.stands_apart.result
    (same-within c.stands_apart.new.bounds c.deref-in-Some.result.now (set os i c.args.object)
    c.deref-in-Some-2.result.now (set es i (c.args.start, c.get.result))
    put c.deref-in-Some-2.ensures.value)
    c.stands_apart.ensures.bounded)

pub returns-in-Some-clause-fault : goal.returns-in-Some-clause-fault
returns-in-Some-clause-fault c =
    let os : List Object = c.args.objects.now.items in
    let es : List (ℕ × ℕ) = c.args.extents.now.items in
    let o : Object = c.args.object in
    let i : ℕ = c.in-Some.place in
    let put : c.deref-in-Some.result.now ≡ set os i c.args.object =
    c.deref-in-Some.ensures.value ∙ ap (set os i) c.replace.ensures.after in
    let now : List Object = c.deref-in-Some.result.now in
    let beside : List (ℕ × ℕ) = c.deref-in-Some-2.result.now in
    let extent : beside ≡ set es i (c.args.start, o.length) =
    c.deref-in-Some-2.ensures.value ∙ ap (λ n. set es i (c.args.start, n)) c.get.ensures.value in
    let at : index_of o.name os ≡ Some i =
    ap (index_of o.name) (sym c.deref.ensures.value) ∙ sym c.place_of_name.ensures.place
    ∙ c.in-Some.is in
    IfErr-weaker c.stands_apart.result _ _
    (λ f is. clash_is_fault c.args.limit (record { object = o; start = c.args.start })
    (objects_in os es) now beside
    (same-lengths now (set os i o) beside (set es i (c.args.start, o.length))
    put extent (lengths_set os es i o c.args.start c.requires.paired))
    c.get-id.result f c.get-id.ensures.value
    (sym (set_there os es c.requires.paired c.args.limit c.args.start o i at)
    ∙ ap Some (same-objects (set os i o) now (set es i (c.args.start, o.length)) beside
    (sym put) (sym extent))) is)
    c.stands_apart.ensures.fault

pub returns-then-place-from-clause-fault : goal.returns-then-place-from-clause-fault
returns-then-place-from-clause-fault c = (
  refl,
  sym (set_nowhere c.args.objects.now.items c.args.extents.now.items c.requires.paired
      c.args.limit c.args.start c.args.object
      (ap (index_of c.args.object.name) (sym c.deref.ensures.value)
      ∙ sym c.place_of_name.ensures.place ∙ c.in_default.is) (omega arith)),
)

pub returns-clause-fault : goal.returns-clause-fault
returns-clause-fault c =
    let os : List Object = c.args.objects.now.items in
    let es : List (ℕ × ℕ) = c.args.extents.now.items in
    let o : Object = c.args.object in
    let now : List Object = c.deref-2.result.now in
    let beside : List (ℕ × ℕ) = c.deref-3.result.now in
    let objects : now ≡ os ++ o ∷ [] = c.deref-2.ensures.value ∙ c.push_reserved.ensures.items in
    let extents : beside ≡ es ++ (c.args.start, o.length) ∷ [] =
    c.deref-3.ensures.value ∙ c.push_reserved-2.ensures.items
    ∙ ap (λ n. es ++ (c.args.start, n) ∷ []) c.get.ensures.value in
    IfErr-weaker c.stands_apart-2.result _ _
    (λ f is. clash_is_fault c.args.limit (record { object = o; start = c.args.start })
    (objects_in os es) now beside
    (same-lengths now (os ++ o ∷ []) beside (es ++ (c.args.start, o.length) ∷ [])
    objects extents (lengths_behind os es o c.args.start c.requires.paired))
    c.get-id.result f c.get-id.ensures.value
    (sym (set_behind os es c.requires.paired c.args.limit c.args.start o
    (ap (index_of o.name) (sym c.deref.ensures.value) ∙ sym c.place_of_name.ensures.place
    ∙ c.in_default.is) (omega arith))
    ∙ ap Some (same-objects (os ++ o ∷ []) now (es ++ (c.args.start, o.length) ∷ []) beside
    (sym objects) (sym extents))) is)
    c.stands_apart-2.ensures.fault

pub push_reserved-requires : goal.push_reserved-requires
push_reserved-requires c =
    let count = c.len-place.ensures in
    let limit = c.from.ensures in
    let below = c.if-place-from.false in
    let room = c.requires.room in
    omega (arith, count, limit, below, room)

pub push_reserved-requires-2 : goal.push_reserved-requires-2
push_reserved-requires-2 c =
    let count = c.len-place.ensures in
    let limit = c.from.ensures in
    let below = c.if-place-from.false in
    let room = c.requires.room_of_extents in
    let whole = c.args.objects.now.ok.0 in
    let beside = c.args.extents.now.ok.0 in
    let same = same_count c.args.objects.now.items c.args.extents.now.items c.requires.paired in
    omega (arith, count, limit, below, room, whole, beside, same)

pub stands_apart-requires-2-clause-within : goal.stands_apart-requires-2-clause-within
stands_apart-requires-2-clause-within c =
    let count = c.len-place.ensures in
    let more = c.push_reserved.ensures.len in
    let len = c.deref-2.ensures.len in
    omega (arith, count, more, len)

pub stands_apart-requires-2-clause-paired : goal.stands_apart-requires-2-clause-paired
stands_apart-requires-2-clause-paired c =
    let os : List Object = c.args.objects.now.items in
    let es : List (ℕ × ℕ) = c.args.extents.now.items in
    same-lengths c.deref-2.result.now (os ++ c.args.object ∷ []) c.deref-3.result.now
    (es ++ (c.args.start, c.args.object.length) ∷ [])
    (c.deref-2.ensures.value ∙ c.push_reserved.ensures.items)
    (c.deref-3.ensures.value ∙ c.push_reserved-2.ensures.items
    ∙ ap (λ n. es ++ (c.args.start, n) ∷ []) c.get.ensures.value)
    (lengths_behind os es c.args.object c.args.start c.requires.paired)

pub stands_apart-requires-2-clause-others : goal.stands_apart-requires-2-clause-others
stands_apart-requires-2-clause-others c =
    let os : List Object = c.args.objects.now.items in
    let es : List (ℕ × ℕ) = c.args.extents.now.items in
    let e : ℕ × ℕ = (c.args.start, c.get.result) in
    same-others c.deref-2.result.now (os ++ c.args.object ∷ []) c.deref-3.result.now (es ++ e ∷ [])
    c.len-place.result (length os)
    (c.deref-2.ensures.value ∙ c.push_reserved.ensures.items)
    (c.deref-3.ensures.value ∙ c.push_reserved-2.ensures.items)
    (let count = c.len-place.ensures in let whole = c.args.objects.now.ok.0 in
    omega (arith, count, whole))
    (consistent_but_last os es c.args.object e (same_count os es c.requires.paired)
    c.requires.consistent)

pub returns-clause-paired : goal.returns-clause-paired
returns-clause-paired c =
    let os : List Object = c.args.objects.now.items in
    let es : List (ℕ × ℕ) = c.args.extents.now.items in
    same-lengths c.push_reserved.new.self.items (os ++ c.args.object ∷ [])
    c.push_reserved-2.new.self.items (es ++ (c.args.start, c.args.object.length) ∷ [])
    c.push_reserved.ensures.items
    (c.push_reserved-2.ensures.items ∙ ap (λ n. es ++ (c.args.start, n) ∷ []) c.get.ensures.value)
    (lengths_behind os es c.args.object c.args.start c.requires.paired)

pub returns-clause-listed : goal.returns-clause-listed
returns-clause-listed c =
    let count = c.len-place.ensures in
    let limit = c.from.ensures in
    let below = c.if-place-from.false in
    let few = c.requires.few in
    let more = c.push_reserved.ensures.len in
    omega (arith, count, limit, below, few, more)

pub returns-clause-bounded : goal.returns-clause-bounded
returns-clause-bounded c =
    on_ok_weaker c.stands_apart-2.result
    (same-within c.stands_apart-2.new.bounds c.deref-2.result.now c.push_reserved.new.self.items
    c.deref-3.result.now c.push_reserved-2.new.self.items c.deref-2.ensures.value
    c.deref-3.ensures.value) c.stands_apart-2.ensures.bounded
