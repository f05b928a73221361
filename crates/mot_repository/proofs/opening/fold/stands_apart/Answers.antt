use Rattle.std.proofs.Common.{◌≡◌, ℕ, Bool, true, ◌&&◌, List, map, get_or, sym, ap, ◌∙◌, arith}
use Rattle.std.proofs.lemmas.List.{get_or_default}
use Rattle.mot_objects.specs.declared.object.Object.{Object}
use Rattle.mot_objects.specs.Ids.{is_distinct}
use Rattle.mot_repository.specs.Inner.Extents.{objects_in}
use Rattle.mot_repository.specs.Inner.Fold.{HaveLengths, are_consistent, are_extents_apart}
use Rattle.mot_repository.proofs.Apart.{consistent_parts, others_distinct, others_apart}
use Rattle.mot_repository.proofs.Bounds.{widened}
use Rattle.mot_repository.proofs.Listing.{same_count}
use Rattle.mot_repository.proofs.opening.fold.stands_apart.Goals as goal

-- where the ids differ, objects are consistent if their extents lie apart
parts-apart : (os : List Object) (es : List (ℕ × ℕ)) (l : HaveLengths os es) (distinct : Bool)
    → distinct ≡ is_distinct (map (λ (o : Object). o.tid) os) → distinct ≡ true
    → are_consistent (objects_in os es) ≡ are_extents_apart es
parts-apart os es l distinct is holds =
    consistent_parts os es l ∙ ap (λ t. t && are_extents_apart es) (sym is ∙ holds)

pub are_ids_distinct-requires-clause-others : goal.are_ids_distinct-requires-clause-others
are_ids_distinct-requires-clause-others c =
    others_distinct c.args.objects.now c.args.extents.now c.requires.paired c.args.place
    c.requires.others

pub returns-then-not-are_ids_distinct-clause-consistent :
    goal.returns-then-not-are_ids_distinct-clause-consistent
returns-then-not-are_ids_distinct-clause-consistent c =
    sym (consistent_parts c.args.objects.now c.args.extents.now c.requires.paired
    ∙ ap (λ t. t && are_extents_apart c.args.extents.now)
    (sym c.are_ids_distinct.ensures ∙ c.if-not-are_ids_distinct.true))

pub are_apart-requires-clause-others : goal.are_apart-requires-clause-others
are_apart-requires-clause-others c =
    others_apart c.args.objects.now c.args.extents.now c.requires.paired c.args.place
    c.requires.others

pub returns-then-not-are_apart-clause-consistent : goal.returns-then-not-are_apart-clause-consistent
returns-then-not-are_apart-clause-consistent c =
    sym (parts-apart c.args.objects.now c.args.extents.now c.requires.paired
    c.are_ids_distinct.result c.are_ids_distinct.ensures c.if-not-are_ids_distinct.false
    ∙ sym c.are_apart.ensures ∙ c.if-not-are_apart.true)

pub returns-clause-consistent : goal.returns-clause-consistent
returns-clause-consistent c =
    sym (parts-apart c.args.objects.now c.args.extents.now c.requires.paired
    c.are_ids_distinct.result c.are_ids_distinct.ensures c.if-not-are_ids_distinct.false
    ∙ sym c.are_apart.ensures ∙ c.if-not-are_apart.false)

pub bounds-extents-place : goal.bounds-extents-place
bounds-extents-place c =
    let count = same_count c.args.objects.now c.args.extents.now c.requires.paired in
    let within = c.requires.within in
    omega (arith, count, within)

pub returns-clause-bounded : goal.returns-clause-bounded
returns-clause-bounded c =
    let os : List Object = c.args.objects.now in
    let es : List (ℕ × ℕ) = c.args.extents.now in
    let i : ℕ = c.args.place in
    let count = same_count os es c.requires.paired in
    let within = c.requires.within in
    let e : ℕ × ℕ = get_or es i (0, 0) in
    widened c.args.bounds.now c.widen.new.self os es i c.index-objects-place.result e within
    (omega (arith, count, within)) c.index-objects-place.is
    (get_or_default es i (0, 0) e (omega (arith, count, within))) c.requires.bounded
    c.widen.ensures.id c.widen.ensures.ids c.widen.ensures.end c.widen.ensures.ends
    c.widen.ensures.name c.widen.ensures.names
