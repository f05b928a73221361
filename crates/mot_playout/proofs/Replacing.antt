-- What a replace leaves of the directory's entries: all but one.
use Rattle.std.proofs.Common.{◌≡◌, ℕ, suc, Bool, true, false, cond, List, [], ◌∷◌, length, map, set}
use Rattle.std.proofs.Common.{replicate, Ok, Option, Some, None, refl, sym, ap, ◌∙◌, inl, inr}
use Rattle.std.specs.Prelude.{bytes_eq, option_map}
use Rattle.std.proofs.lemmas.Bool.{false≢true}
use Rattle.std.proofs.lemmas.List.{length-replicate}
use Rattle.mot_carousel.proofs.Laws.{located, place, index_of-place}
use Rattle.mot_directory.specs.Directory.{Entry, bytes_of_directory}
use Rattle.mot_directory.specs.Entries.{HasAnother, entry_of}
use Rattle.mot_objects.specs.Carousel as whole
use Rattle.mot_objects.specs.Carousel.{change, change_to, free_object_id, has_name, objects_with}
use Rattle.mot_objects.specs.Carousel.{renewed_object}
use Rattle.mot_objects.specs.Stands.{AreBodiesOf, IsPlan, bodies_after, carousel_of, object_of}
use Rattle.mot_objects.specs.Stands.{objects_of}
use Rattle.mot_objects.specs.declared.carousel.Carousel.{Carousel}
use Rattle.mot_objects.specs.declared.command.Command.{Command}
use Rattle.mot_objects.specs.declared.command.Command.TheVariants.{Put, Replace, Withdraw, Period}
use Rattle.mot_objects.specs.declared.command.Done.{Done}
use Rattle.mot_objects.specs.declared.object.Object.{Object}
use Rattle.mot_player.specs.PlayerView.{PlayerView}
use Rattle.mot_player.specs.Turn.{Turn}
use Rattle.mot_playout.specs.Inner.{PlaysCarousel, replaced_in}
use Rattle.mot_playout.proofs.OneChange.{named-cases}

-- all entries but that at a place
record AllButOne (was is : List whole.Object) (at : ℕ) : Type 0 where
  gone : Entry
  same : map entry_of was ≡ set (map entry_of is) at gone

first-step : (w n : whole.Object) (ws ns : List whole.Object) (at : ℕ) → ws ≡ ns → at ≡ 0
    → AllButOne (w ∷ ws) (n ∷ ns) at
first-step w n ws ns at e z =
    rw (e, z) (record { gone = entry_of w; same = refl })

other-step : (w n : whole.Object) (ws ns : List whole.Object) (at j : ℕ) → w ≡ n → at ≡ suc j
    → AllButOne ws ns j → AllButOne (w ∷ ws) (n ∷ ns) at
other-step w n ws ns at j e z rest =
    rw (e, z) (record { gone = rest.gone; same = ap (λ l. entry_of n ∷ l) rest.same })

step : (name : List ℕ) (f : whole.Object → whole.Object) (w : whole.Object)
    (ws : List whole.Object) (o : Object) (os : List Object) (body : List ℕ)
    (came : List (List ℕ)) (at : ℕ) (t : Bool) (r : Option (List whole.Object))
    → has_name name w ≡ t → has_name name (f w) ≡ has_name name w
    → cond t (Some (f w ∷ ws)) (option_map (λ rest. w ∷ rest) r)
    ≡ Some (object_of o body ∷ objects_of os came)
    → place name (o ∷ os) ≡ Some at
    → ((j : ℕ) → r ≡ Some (objects_of os came) → place name os ≡ Some j
    → AllButOne ws (objects_of os came) j)
    → AllButOne (w ∷ ws) (object_of o body ∷ objects_of os came) at
step name f w ws o os body came at true r has keeps e is rest =
    let first : f w ≡ object_of o body = cc in
    let others : ws ≡ objects_of os came = cc in
    let there : bytes_eq o.name name ≡ true = sym (ap (has_name name) first) ∙ keeps ∙ has in
    elim (located name o os at is) [
      | inl h ↦ first-step w (object_of o body) ws (objects_of os came) at others h.1
      | inr h ↦ absurd (false≢true (sym h.1 ∙ there))
    ]
step name f w ws o os body came at false None has keeps e is rest = cc
step name f w ws o os body came at false (Some found) has keeps e is rest =
    let first : w ≡ object_of o body = cc in
    let others : found ≡ objects_of os came = cc in
    let not : bytes_eq o.name name ≡ false = sym (ap (has_name name) first) ∙ has in
    elim (located name o os at is) [
      | inl h ↦ absurd (false≢true (sym not ∙ h.0))
      | inr h ↦ other-step w (object_of o body) ws (objects_of os came) at h.0 first h.2
          (rest h.0 (ap Some others) h.3)
    ]

all-but-one : (name : List ℕ) (f : whole.Object → whole.Object) (was : List whole.Object)
    (os : List Object) (came : List (List ℕ)) (at : ℕ)
    → ((o : whole.Object) → has_name name (f o) ≡ has_name name o)
    → map length came ≡ map (λ (o : Object). o.length) os
    → objects_with name f was ≡ Some (objects_of os came) → place name os ≡ Some at
    → AllButOne was (objects_of os came) at
all-but-one name f [] os came at keeps beside e is = cc
all-but-one name f (w ∷ ws) [] came at keeps beside e is = cc
all-but-one name f (w ∷ ws) (o ∷ os) [] at keeps beside e is = cc
all-but-one name f (w ∷ ws) (o ∷ os) (body ∷ came) at keeps beside e is =
    let others : map length came ≡ map (λ (o : Object). o.length) os = cc in
    step name f w ws o os body came at (has_name name w) (objects_with name f ws) refl (keeps w) e
    is (λ j r p. all-but-one name f ws os came j keeps others r p)

-- bodies of these lengths
abbrev zeros : List Object → List (List ℕ)
zeros objects = map (λ (o : Object). replicate o.length 0) objects

zeros-lengths : (objects : List Object)
    → map length (zeros objects) ≡ map (λ (o : Object). o.length) objects
zeros-lengths [] = refl
zeros-lengths (o ∷ objects) =
    ap (λ n. n ∷ map length (zeros objects)) (length-replicate o.length 0)
    ∙ ap (λ l. o.length ∷ l) (zeros-lengths objects)

-- after a replace the directory that is played has all entries but that of the object's place
pub has-another : (c next : Carousel) (limit size : ℕ) (command : Command) (done : Done)
    (player : PlayerView) (at : ℕ)
    → IsPlan c limit command (Ok (record { next = next; done = done }))
    → PlaysCarousel c size player → replaced_in command next ≡ Some at
    → (bodies : List (List ℕ)) × AreBodiesOf next bodies
    × HasAnother player.turn.directory (carousel_of next bodies) at
unfolding change
has-another c next limit size (Put name content mime body) done player at changes plays is = cc
has-another c next limit size (Withdraw name) done player at changes plays is = cc
has-another c next limit size (Period period) done player at changes plays is = cc
has-another c next limit size (Replace name content mime body) done player at changes plays is =
    let bodies : List (List ℕ) = zeros c.objects.items in
    let are : AreBodiesOf c bodies = zeros-lengths c.objects.items in
    let came : List (List ℕ) = bodies_after c (Replace name content mime body) bodies in
    let made = changes bodies are in
    let id : ℕ = free_object_id (carousel_of c bodies) in
    let f : whole.Object → whole.Object = renewed_object content mime body id in
    let named = named-cases (carousel_of c bodies) (Some id)
    (objects_with name f (objects_of c.objects.items bodies)) (carousel_of next came, done)
    made.0 in
    let found : objects_with name f (objects_of c.objects.items bodies)
    ≡ Some (objects_of next.objects.items came) =
    named.1 ∙ ap Some (ap (λ (p : whole.Carousel × Done). p.0.objects) named.2) in
    let rest = all-but-one name f (objects_of c.objects.items bodies) next.objects.items came at
    (λ o. refl) made.1 found (sym (index_of-place name next.objects.items) ∙ is) in (
      came,
      made.1,
      record {
        period = c.period;
        segment_size = size;
        gone = rest.gone;
        is = ap (λ (t : Turn). t.directory) (plays.turn_is bodies are)
            ∙ ap (λ l. bytes_of_directory (record {
              period = c.period;
              segment_size = size;
              entries = l;
            })) rest.same;
      },
    )
