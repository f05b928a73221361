-- Whether the objects of a carousel stay, since too many would go.
use Rattle.std.proofs.Common.{◌≡◌, ◌∙◌, ◌++◌, ℕ, [], ◌∷◌, ap, cond, refl}
use Rattle.std.proofs.Common.{Bool, true, false, nat_eq, not, suc, List}
use Rattle.std.proofs.Common.{length, map}
use Rattle.mot_events.specs.Events.{event_of}
use Rattle.mot_events.specs.declared.event.LookResult.{LookResult}
use Rattle.mot_events.specs.declared.event.LookResult.TheVariants.{Kept, KeptMost}
use Rattle.mot_folder.specs.Guard.{going, kept_so}
use Rattle.mot_folder.specs.Inner.Notes.{unknown_objects}
use Rattle.mot_folder.specs.Log.{images_noted, of_look}
use Rattle.mot_objects.specs.Stands.{objects_of}
use Rattle.mot_objects.specs.Carousel.{Carousel}
use Rattle.mot_objects.specs.declared.command.Command.{Command}
use Rattle.mot_objects.specs.declared.command.Command.TheVariants.{Withdraw}
use Rattle.mot_objects.specs.declared.object.Object.{Object}
use Rattle.mot_repository.specs.Repository.{Agrees, RepositoryView}
use Rattle.mot_journal.specs.Image.{Standing}
use Rattle.mot_update.specs.Updating.{is_known, withdrawals}

-- a carousel has as many objects as are kept of it
objects_counted : (os : List Object) (bodies : List (List ℕ))
    → map length bodies ≡ map (λ (o : Object). o.length) os
    → length (objects_of os bodies) ≡ length os
objects_counted [] bodies e = refl
objects_counted (o ∷ os) [] e = cc
objects_counted (o ∷ os) (b ∷ bodies) e =
    let tail : map length bodies ≡ map (λ (x : Object). x.length) os = cc in
    ap suc (objects_counted os bodies tail)

-- and as many of them go
one_more : (known : Bool) (command : Command) (commands : List Command) (o : Object)
    (os : List Object) → length commands ≡ length os
    → length (cond known [] (command ∷ []) ++ commands) ≡ length (cond (not known) (o ∷ os) os)
one_more true command commands o os e = e
one_more false command commands o os e = ap suc e

going_counted : (names : List (List ℕ)) (os : List Object) (bodies : List (List ℕ))
    → map length bodies ≡ map (λ (o : Object). o.length) os
    → length (withdrawals names (objects_of os bodies)) ≡ length (unknown_objects names os)
going_counted names [] bodies e = refl
going_counted names (o ∷ os) [] e = cc
going_counted names (o ∷ os) (b ∷ bodies) e =
    let tail : map length bodies ≡ map (λ (x : Object). x.length) os = cc in
    one_more (is_known names o.name) (Withdraw o.name) (withdrawals names (objects_of os bodies)) o
    (unknown_objects names os) (going_counted names os bodies tail)

-- what is made of both numbers is made of those that are kept
pub as_counted : {X : Type 0} (f : ℕ → ℕ → X) (names : List (List ℕ)) (view : RepositoryView)
    (s : Standing) → Agrees view s → f (going names s.carousel) (length s.carousel.objects)
    ≡ f (length (unknown_objects names view.carousel.objects.items))
    (length view.carousel.objects.items)
as_counted f names view s agrees =
    let os = view.carousel.objects.items in
    ap (λ (c : Carousel). f (going names c) (length c.objects)) agrees.carousel
    ∙ ap (λ n. f n (length (objects_of os agrees.bodies)))
    (going_counted names os agrees.bodies agrees.are_bodies)
    ∙ ap (f (length (unknown_objects names os)))
    (objects_counted os agrees.bodies agrees.are_bodies)

-- that they stay is told of the look, and of no image
module _ (path : List ℕ) (all objects : ℕ) where
  abbrev either : (is_empty : Bool) → LookResult
  either is_empty = cond is_empty Kept (KeptMost all objects)

  either_of_look : (is_empty : Bool) → of_look (event_of path (either is_empty) ∷ [])
      ≡ event_of path (either is_empty) ∷ []
  either_of_look true = refl
  either_of_look false = refl

  either_no_image : (is_empty : Bool) → images_noted (event_of path (either is_empty) ∷ []) ≡ []
  either_no_image true = refl
  either_no_image false = refl

  pub kept_of_look : (names : List (List ℕ))
      → of_look (event_of path (kept_so names all objects) ∷ [])
      ≡ event_of path (kept_so names all objects) ∷ []
  kept_of_look names = either_of_look (nat_eq (length names) 0)

  pub kept_no_image : (names : List (List ℕ))
      → images_noted (event_of path (kept_so names all objects) ∷ []) ≡ []
  kept_no_image names = either_no_image (nat_eq (length names) 0)
