use Rattle.std.proofs.Common.{◌≡◌, ◌<◌, length, arith, ℕ, List, Some, refl, sym, ap, ◌∙◌}
use Rattle.std.specs.Prelude.{remove, nat_eq, position}
use Rattle.mot_objects.specs.declared.object.Object.{Object}
use Rattle.mot_repository.specs.Inner.Extents.{objects_in}
use Rattle.mot_repository.specs.declared.opening.bounds.Bounds.{Bounds}
use Rattle.mot_repository.specs.Inner.Bounds.{AreWithin}
use Rattle.mot_repository.specs.Inner.Fold.{HaveLengths}
use Rattle.mot_repository.proofs.Bounds.{within_without}
use Rattle.mot_repository.proofs.Listing.{remove_there, remove_nowhere, lengths_remove}
use Rattle.mot_repository.proofs.Listing.{same_count}
use Rattle.mot_repository.proofs.opening.fold.remove_object.Goals as goal

same-lists : (os ps : List Object) (es fs : List (ℕ × ℕ)) → os ≡ ps → es ≡ fs
    → Some (objects_in os es) ≡ Some (objects_in ps fs)
same-lists os ps es fs d e = rw (d, e) refl

same-lengths : (os ps : List Object) (es fs : List (ℕ × ℕ)) → os ≡ ps → es ≡ fs → HaveLengths ps fs
    → HaveLengths os es
same-lengths os ps es fs d e h = rw (d, e) h

same-bounds : (b : Bounds) (os ps : List Object) (es fs : List (ℕ × ℕ)) → os ≡ ps → es ≡ fs
    → AreWithin b ps fs → AreWithin b os es
same-bounds b os ps es fs d e h = rw (d, e) h

pub returns-in_default-clause-done : goal.returns-in_default-clause-done
returns-in_default-clause-done c =
    let os : List Object = c.args.objects.now.items in
    remove_nowhere os c.args.extents.now.items c.requires.paired c.args.tid
    (ap (position (λ (o : Object). nat_eq o.tid c.args.tid)) (sym c.deref.ensures.value)
    ∙ sym c.place_of_id.ensures.place ∙ c.in_default.is)

pub returns-clause-done : goal.returns-clause-done
returns-clause-done c =
    let os : List Object = c.args.objects.now.items in
    let es : List (ℕ × ℕ) = c.args.extents.now.items in
    same-lists c.remove.new.self.items (remove os c.in-Some.place) c.remove-2.new.self.items
    (remove es c.in-Some.place) c.remove.ensures.items c.remove-2.ensures.items
    ∙ remove_there os es c.requires.paired c.args.tid c.in-Some.place
    (ap (position (λ (o : Object). nat_eq o.tid c.args.tid)) (sym c.deref.ensures.value)
    ∙ sym c.place_of_id.ensures.place ∙ c.in-Some.is)

pub returns-clause-paired : goal.returns-clause-paired
returns-clause-paired c =
    let os : List Object = c.args.objects.now.items in
    let es : List (ℕ × ℕ) = c.args.extents.now.items in
    same-lengths c.remove.new.self.items (remove os c.in-Some.place) c.remove-2.new.self.items
    (remove es c.in-Some.place) c.remove.ensures.items c.remove-2.ensures.items
    (lengths_remove os es c.in-Some.place c.requires.paired)

pub returns-clause-bounded : goal.returns-clause-bounded
returns-clause-bounded c b h =
    let os : List Object = c.args.objects.now.items in
    let es : List (ℕ × ℕ) = c.args.extents.now.items in
    same-bounds b c.remove.new.self.items (remove os c.in-Some.place) c.remove-2.new.self.items
    (remove es c.in-Some.place) c.remove.ensures.items c.remove-2.ensures.items
    (within_without b os es c.in-Some.place h)

pub remove-requires : goal.remove-requires
remove-requires c =
    let within : c.in-Some.place < length c.deref.result.now = c.in-Some.ensures.within in
    let len = c.deref.ensures.len in
    omega (arith, within, len)

pub remove-requires-2 : goal.remove-requires-2
remove-requires-2 c =
    let within : c.in-Some.place < length c.deref.result.now = c.in-Some.ensures.within in
    let len = c.deref.ensures.len in
    let whole = c.args.objects.now.ok.0 in
    let beside = c.args.extents.now.ok.0 in
    let count = same_count c.args.objects.now.items c.args.extents.now.items c.requires.paired in
    omega (arith, within, len, whole, beside, count)

pub returns-clause-listed : goal.returns-clause-listed
returns-clause-listed c =
    let fewer = c.remove.ensures.len in
    let listed = c.requires.listed in
    omega (arith, fewer, listed)
