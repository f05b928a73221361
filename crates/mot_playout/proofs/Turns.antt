-- A server's player plays what its repository keeps.
use Rattle.std.proofs.Common.{◌≡◌, ℕ, true, List, [], ◌∷◌, length, map, refl, sym, ap, ◌∙◌, subst}
use Rattle.std.specs.Prelude.{Result, Ok, Err, IfOk, is_some}
use Rattle.mot_journal.specs.Image as journal
use Rattle.mot_numbers.specs.Geometry.{packet_room}
use Rattle.mot_numbers.specs.declared.geometry.Geometry.{Geometry}
use Rattle.mot_objects.specs.Carousel as whole
use Rattle.mot_objects.specs.Stands.{AreBodiesOf, carousel_of, objects_of}
use Rattle.mot_objects.specs.declared.carousel.Carousel.{Carousel}
use Rattle.mot_objects.specs.declared.object.Object.{Object}
use Rattle.mot_player.specs.Turn.{IsFollowable, IsTurnOf, Turn, turn_of_carousel}
use Rattle.mot_player.specs.Place.{change_turn, changed, opened_place}
use Rattle.mot_player.specs.PlayerView.{AreBodiesFor, PlayerView, TurnPlan, place_of, turn_with}
use Rattle.mot_repository.specs.Repository.{Agrees, RepositoryView}
use Rattle.mot_playout.specs.Inner.{PlaysCarousel}
use Rattle.mot_playout.specs.Runs.{bodies_of}

-- from two facts of an Ok a third
pub if_ok_both : {A E : Type 0} (r : Result A E) (P Q R : A → Type 0) → ((a : A) → P a → Q a → R a)
    → IfOk r P → IfOk r Q → IfOk r R
if_ok_both (Ok a) P Q R both p q = both a p q
if_ok_both (Err e) P Q R both p q = tt

-- a carousel's bodies are those beside it
bodies_of-objects : (objects : List Object) (bodies : List (List ℕ))
    → map length bodies ≡ map (λ (o : Object). o.length) objects
    → map (λ (o : whole.Object). o.body) (objects_of objects bodies) ≡ bodies
bodies_of-objects [] [] e = refl
bodies_of-objects [] (body ∷ bodies) e = cc
bodies_of-objects (o ∷ objects) [] e = refl
bodies_of-objects (o ∷ objects) (body ∷ bodies) e =
    let rest : map length bodies ≡ map (λ (x : Object). x.length) objects = cc in
    ap (λ (l : List (List ℕ)). body ∷ l) (bodies_of-objects objects bodies rest)

-- the bodies of what is kept on the disk
pub bodies_kept : (view : RepositoryView) (s : journal.Standing) → Agrees view s
    → AreBodiesOf view.carousel (bodies_of s.carousel)
    × (s.carousel ≡ carousel_of view.carousel (bodies_of s.carousel))
bodies_kept view s agrees =
    let same : bodies_of s.carousel ≡ agrees.bodies =
    ap bodies_of agrees.carousel
    ∙ bodies_of-objects view.carousel.objects.items agrees.bodies agrees.are_bodies in (
      subst (AreBodiesOf view.carousel) (sym same) agrees.are_bodies,
      agrees.carousel ∙ ap (carousel_of view.carousel) (sym same),
    )

-- a player that was given a turn of the carousel plays it
pub plays_of : (carousel : Carousel) (size : ℕ) (plan : TurnPlan) (player : PlayerView)
    → player.turn ≡ plan → player.segment_size ≡ size
    → ((bodies : List (List ℕ)) → AreBodiesOf carousel bodies → AreBodiesFor plan bodies)
    → ((bodies : List (List ℕ)) → AreBodiesOf carousel bodies
    → turn_with plan bodies ≡ turn_of_carousel (carousel_of carousel bodies) size)
    → ((bodies : List (List ℕ)) → AreBodiesOf carousel bodies
    → IsTurnOf (turn_with plan bodies) (carousel_of carousel bodies) size)
    → PlaysCarousel carousel size player
plays_of carousel size plan player same size_is sized exact is = record {
  size_is = size_is;
  sized = λ bodies are. subst (λ (t : TurnPlan). AreBodiesFor t bodies) (sym same)
      (sized bodies are);
  turn_is = λ bodies are. ap (λ (t : TurnPlan). turn_with t bodies) same ∙ exact bodies are;
  is_turn = λ bodies are. subst
      (λ (t : TurnPlan). IsTurnOf (turn_with t bodies) (carousel_of carousel bodies) size)
      (sym same) (is bodies are);
}

-- a player plays what it plays, also where the carousel and size are told otherwise
pub plays_same : (carousel kept : Carousel) (size other : ℕ) (player : PlayerView) → carousel ≡ kept
    → size ≡ other
    → PlaysCarousel carousel size player → PlaysCarousel kept other player
plays_same carousel kept size other player c s plays =
    subst (λ (k : Carousel). PlaysCarousel k other player) c
    (subst (λ (n : ℕ). PlaysCarousel carousel n player) s plays)

-- an opened player stands at the beginning of the carousel's turn
pub opened_at : (g h : Geometry) (carousel kept : Carousel) (plan : TurnPlan) (player : PlayerView)
    (bodies : List (List ℕ)) (address room size : ℕ)
    → g ≡ h → carousel ≡ kept → address ≡ g.address → room ≡ packet_room g → size ≡ g.segment
    → place_of player bodies ≡ opened_place address room size (turn_with plan bodies)
    → turn_with plan bodies ≡ turn_of_carousel (carousel_of carousel bodies) size
    → place_of player bodies
    ≡ opened_place h.address (packet_room h) h.segment
    (turn_of_carousel (carousel_of kept bodies) h.segment)
opened_at g h carousel kept plan player bodies address room size same c a r s opened turn =
    opened ∙ ap (opened_place address room size)
    (turn ∙ ap (λ (k : Carousel). turn_of_carousel (carousel_of k bodies) size) c)
    ∙ ap (λ (n : ℕ). opened_place n room size (turn_of_carousel (carousel_of kept bodies) size)) a
    ∙ ap (λ (n : ℕ). opened_place g.address n size
    (turn_of_carousel (carousel_of kept bodies) size)) r
    ∙ ap (λ (n : ℕ). opened_place g.address (packet_room g) n
    (turn_of_carousel (carousel_of kept bodies) n)) s
    ∙ ap (λ (k : Geometry). opened_place k.address (packet_room k) k.segment
    (turn_of_carousel (carousel_of kept bodies) k.segment)) same

-- where it stands in playing what the disk stands for
pub start_in : (view : RepositoryView) (s : journal.Standing) (player : PlayerView) → Agrees view s
    → ((bodies : List (List ℕ)) → AreBodiesOf view.carousel bodies → place_of player bodies
    ≡ opened_place view.journal.geometry.address (packet_room view.journal.geometry)
    view.journal.geometry.segment
    (turn_of_carousel (carousel_of view.carousel bodies) view.journal.geometry.segment))
    → place_of player (bodies_of s.carousel)
    ≡ opened_place s.geometry.address (packet_room s.geometry) s.geometry.segment
    (turn_of_carousel s.carousel s.geometry.segment)
start_in view s player agrees opened =
    let kept = bodies_kept view s agrees in
    opened (bodies_of s.carousel) kept.0
    ∙ ap (λ (k : whole.Carousel).
    opened_place view.journal.geometry.address (packet_room view.journal.geometry)
    view.journal.geometry.segment
    (turn_of_carousel k view.journal.geometry.segment)) (sym kept.1)
    ∙ ap (λ (g : Geometry). opened_place g.address (packet_room g) g.segment
    (turn_of_carousel s.carousel g.segment)) agrees.geometry

-- the turn of what is kept, with its bodies
turn_kept : (view : RepositoryView) (s : journal.Standing) (player : PlayerView) → Agrees view s
    → PlaysCarousel view.carousel view.journal.geometry.segment player
    → turn_with player.turn (bodies_of s.carousel)
    ≡ turn_of_carousel s.carousel s.geometry.segment
turn_kept view s player agrees plays =
    let kept = bodies_kept view s agrees in
    plays.turn_is (bodies_of s.carousel) kept.0
    ∙ ap (λ (k : whole.Carousel). turn_of_carousel k view.journal.geometry.segment)
    (sym kept.1)
    ∙ ap (λ (g : Geometry). turn_of_carousel s.carousel g.segment) agrees.geometry

-- whatever came before, after a change the turn of what is kept then begins
pub begins_after : (view' : RepositoryView) (s next : journal.Standing) (old new : PlayerView)
    (plan : TurnPlan)
    → Agrees view' next → new.turn ≡ plan
    → PlaysCarousel view'.carousel view'.journal.geometry.segment new
    → ((bodies came : List (List ℕ))
    → place_of new came ≡ change_turn (turn_with plan came) (place_of old bodies))
    → place_of new (bodies_of next.carousel)
    ≡ change_turn (turn_of_carousel next.carousel next.geometry.segment)
    (place_of old (bodies_of s.carousel))
begins_after view' s next old new plan agrees same plays place =
    let bodies : List (List ℕ) = bodies_of next.carousel in
    let turn : turn_with plan bodies ≡ turn_of_carousel next.carousel next.geometry.segment =
    ap (λ (t : TurnPlan). turn_with t bodies) (sym same) ∙ turn_kept view' next new agrees plays in
    place (bodies_of s.carousel) bodies
    ∙ ap (λ (t : Turn). change_turn t (place_of old (bodies_of s.carousel))) turn

-- after a change that can be followed the turn of what is kept then comes as it should
pub comes_after : (view view' : RepositoryView) (s next : journal.Standing) (old new : PlayerView)
    (plan : TurnPlan) (HasRoom : Type 0)
    → Agrees view s → PlaysCarousel view.carousel view.journal.geometry.segment old
    → Agrees view' next → new.turn ≡ plan
    → PlaysCarousel view'.carousel view'.journal.geometry.segment new
    → IsFollowable (turn_of_carousel s.carousel s.geometry.segment)
    (turn_of_carousel next.carousel next.geometry.segment)
    → (is_some old.follows ≡ true → HasRoom)
    → ((bodies came : List (List ℕ)) → AreBodiesFor old.turn bodies → AreBodiesFor plan came
    → (is_some old.follows ≡ true
    → HasRoom × IsFollowable (turn_with old.turn bodies) (turn_with plan came))
    → place_of new came ≡ changed (turn_with plan came) (place_of old bodies))
    → place_of new (bodies_of next.carousel)
    ≡ changed (turn_of_carousel next.carousel next.geometry.segment)
    (place_of old (bodies_of s.carousel))
comes_after view view' s next old new plan HasRoom was was_plays agrees same plays can room place =
    let bodies : List (List ℕ) = bodies_of s.carousel in
    let came : List (List ℕ) = bodies_of next.carousel in
    let first = turn_kept view s old was was_plays in
    let then_turn : turn_with plan came
    ≡ turn_of_carousel next.carousel next.geometry.segment =
    ap (λ (t : TurnPlan). turn_with t came) (sym same) ∙ turn_kept view' next new agrees plays in
    let sized : AreBodiesFor plan came =
    subst (λ (t : TurnPlan). AreBodiesFor t came) same
    (plays.sized came (bodies_kept view' next agrees).0) in
    place bodies came (was_plays.sized bodies (bodies_kept view s was).0) sized
    (λ follows. (
      room follows,
      subst (λ (t : Turn). IsFollowable t (turn_with plan came)) (sym first)
          (subst (IsFollowable (turn_of_carousel s.carousel s.geometry.segment))
          (sym then_turn) can),
    ))
    ∙ ap (λ (t : Turn). changed t (place_of old bodies)) then_turn
