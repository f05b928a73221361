-- The object of a name, from a carousel and the bodies that stand beside it.
use Rattle.std.proofs.Common.{◌≡◌, ◌∙◌, ⊎_elim, ℕ, true, false, cond, List, [], ◌∷◌, length, map}
use Rattle.std.proofs.Common.{Some, None, ap, refl, sym}
use Rattle.std.specs.Prelude.{bytes_eq}
use Rattle.mot_carousel.proofs.Laws.{located, nowhere-cases, place, index_of-place}
use Rattle.mot_objects.specs.Carousel as whole
use Rattle.mot_objects.specs.declared.object.Object.{Object}
use Rattle.mot_objects.specs.Stands.{object_of, objects_of, index_of}
use Rattle.mot_repository.specs.Repository.{object_body}
use Rattle.mot_update.specs.Updating.{found}

here : (name : List ℕ) (o : whole.Object) (os : List whole.Object) → bytes_eq o.name name ≡ true
    → found name (o ∷ os) ≡ Some o
here name o os e = ap (λ b. cond b (Some o) (found name os)) e

there : (name : List ℕ) (o : whole.Object) (os : List whole.Object) → bytes_eq o.name name ≡ false
    → found name (o ∷ os) ≡ found name os
there name o os e = ap (λ b. cond b (Some o) (found name os)) e

none_placed : (name : List ℕ) (os : List Object) (bodies : List (List ℕ)) → place name os ≡ None
    → found name (objects_of os bodies) ≡ None
none_placed name [] bodies e = refl
none_placed name (o ∷ os) [] e = refl
none_placed name (o ∷ os) (b ∷ bodies) e =
    let h = nowhere-cases (bytes_eq o.name name) (place name os) e in
    there name (object_of o b) (objects_of os bodies) h.0 ∙ none_placed name os bodies h.1

some_placed : (name : List ℕ) (os : List Object) (bodies : List (List ℕ)) (i : ℕ)
    → map length bodies ≡ map (λ (o : Object). o.length) os → place name os ≡ Some i
    → (o : Object) × (found name (objects_of os bodies)
    ≡ Some (object_of o (object_body (objects_of os bodies) i)))
some_placed name [] bodies i beside e = cc
some_placed name (o ∷ os) [] i beside e = cc
some_placed name (o ∷ os) (b ∷ bodies) i beside e =
    let tail : map length bodies ≡ map (λ (x : Object). x.length) os = cc in
    ⊎_elim
    (λ h. (
      o,
      here name (object_of o b) (objects_of os bodies) h.0
          ∙ ap (λ k. Some (object_of o (object_body (objects_of (o ∷ os) (b ∷ bodies)) k)))
          (sym h.1),
    ))
    (λ h.
    let rest = some_placed name os bodies h.0 tail h.3 in (
      rest.0,
      there name (object_of o b) (objects_of os bodies) h.1 ∙ rest.1
          ∙ ap (λ k. Some (object_of rest.0 (object_body (objects_of (o ∷ os) (b ∷ bodies)) k)))
          (sym h.2),
    ))
    (located name o os i e)

-- a name that no object has is found nowhere
pub found_nowhere : (name : List ℕ) (os : List Object) (bodies : List (List ℕ))
    → index_of name os ≡ None → found name (objects_of os bodies) ≡ None
found_nowhere name os bodies e = none_placed name os bodies (sym (index_of-place name os) ∙ e)

-- one that an object has is found with that object's body
pub found_at : (name : List ℕ) (os : List Object) (bodies : List (List ℕ)) (i : ℕ)
    → map length bodies ≡ map (λ (o : Object). o.length) os → index_of name os ≡ Some i
    → (o : Object) × (found name (objects_of os bodies)
    ≡ Some (object_of o (object_body (objects_of os bodies) i)))
found_at name os bodies i beside e =
    some_placed name os bodies i beside (sym (index_of-place name os) ∙ e)
