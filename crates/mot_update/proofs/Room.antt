-- What an accepted command brings had room.
use Rattle.std.proofs.Common.{◌≡◌, ◌∙◌, ℕ, suc, ◌<◌, ◌≤◌, Bool, true, false, List, [], ◌∷◌, length}
use Rattle.std.proofs.Common.{map, Some, None, Ok, Err, refl, sym, ap, arith, ⊎_elim}
use Rattle.std.proofs.lemmas.Bool.{leb-false}
use Rattle.std.proofs.lemmas.Bool.Decides.{leb_tells}
use Rattle.std.specs.Prelude.{◌++◌, cond, nat_le}
use Rattle.std.specs.List.{list_any}
use Rattle.mot_carousel.specs.Gap.{IsLongestGap, least_gap}
use Rattle.mot_carousel.proofs.Laws.{tail}
use Rattle.mot_journal.specs.Image.{Standing}
use Rattle.mot_journal.specs.declared.layout.Layout.{Layout}
use Rattle.mot_numbers.specs.declared.geometry.Geometry.{Geometry}
use Rattle.mot_numbers.specs.declared.refusal.Refusal.TheVariants.{NameTaken, TooManyObjects}
use Rattle.mot_objects.specs.Carousel.{Carousel, change, change_to, free_object_id, has_name}
use Rattle.mot_objects.specs.Carousel.{new_object}
use Rattle.mot_objects.specs.Stands.{objects_of}
use Rattle.mot_objects.specs.declared.command.Command.TheVariants as command
use Rattle.mot_objects.specs.declared.command.Done.{Done}
use Rattle.mot_objects.specs.declared.object.Object.{Object}
use Rattle.mot_repository.specs.Repository.{Agrees, RepositoryView}
use Rattle.mot_repository.proofs.Laws.{accepted_parts}
use Rattle.mot_playout.specs.declared.running.Attempt.TheVariants.{Accepted, Refused}
use Rattle.mot_update.specs.HasRun.{commands_for}
use Rattle.mot_update.specs.Inner.{HasGapFor, HasRoomFor}
use Rattle.mot_update.specs.Looking.{was_stored}
use Rattle.mot_update.specs.Told.{AreAttemptsOf, answers_of}
use Rattle.mot_update.specs.declared.settling.Need.{Need}
use Rattle.mot_update.specs.declared.settling.Need.TheVariants as need
use Rattle.mot_update.specs.declared.settling.SettleOutcome.{SettleOutcome}
use Rattle.mot_update.specs.declared.settling.SettleOutcome.TheVariants as settles
use Rattle.mot_objects.specs.declared.command.Item.{Item}

-- as many objects as stand beside bodies
objects-beside : (os : List Object) (bodies : List (List ℕ))
    → map length bodies ≡ map (λ (o : Object). o.length) os
    → length (objects_of os bodies) ≡ length os
objects-beside [] bodies e = refl
objects-beside (o ∷ os) [] e = cc
objects-beside (o ∷ os) (b ∷ bodies) e = ap suc (objects-beside os bodies (tail e))

-- a put is accepted only if there are not as many objects as there may be
few-cases : (taken many : Bool) (r s : Carousel × Done)
    → cond taken (Err NameTaken) (cond many (Err TooManyObjects) (Ok r)) ≡ Ok s → many ≡ false
few-cases true many r s e = cc
few-cases false true r s e = cc
few-cases false false r s e = refl

put-few : (c next : Carousel) (limit : ℕ) (w : Item) (done : Done)
    → change c limit (command.Put w.name w.content w.mime w.body) ≡ Ok (next, done)
    → length c.objects < limit
unfolding change
put-few c next limit w done e =
    let os = c.objects ++ new_object w.name w.content w.mime w.body (free_object_id c) ∷ [] in
    leb-false limit (length c.objects)
    (few-cases (list_any (has_name w.name) c.objects) (nat_le limit (length c.objects))
    (change_to c c.period os (Some (free_object_id c))) (next, done) e)

-- what the least gap holds is no longer than the longest one
gap-fits : (extents : List (ℕ × ℕ)) (n size start : ℕ) → least_gap extents n size ≡ Some start
    → (gap : ℕ) → IsLongestGap extents size gap → n ≤ gap
gap-fits extents n size start at gap is =
    ⊎_elim (λ le. le.1)
    (λ lt. absurd (let no : None ≡ Some start = sym (is.longest n lt.1) ∙ at in cc))
    (leb_tells n gap)

module _ (view : RepositoryView) (s : Standing) (agrees : Agrees view s) where
  few-kept : length s.carousel.objects < s.geometry.objects
      → length view.carousel.objects.items < view.journal.geometry.objects
  few-kept few =
      let is = ap (λ (c : Carousel). length c.objects) agrees.carousel in
      let beside = objects-beside view.carousel.objects.items agrees.bodies agrees.are_bodies in
      let limit = ap (λ (g : Geometry). g.objects) agrees.geometry in
      omega (arith, few, is, beside, limit)

  gap-kept : (n start : ℕ) → least_gap s.extents n s.geometry.area ≡ Some start → HasGapFor view n
  gap-kept n start at =
      gap-fits view.extents n view.journal.geometry.area start
      (ap (λ (es : List (ℕ × ℕ)). least_gap es n view.journal.geometry.area) agrees.extents
      ∙ ap (λ (g : Geometry). least_gap s.extents n g.area) agrees.geometry ∙ at)

  -- what was stored had room
  pub room_for : (layout : Layout) (n : Need) (w : Item) (settled : SettleOutcome)
      → AreAttemptsOf layout s (commands_for n w) (answers_of w.name settled)
      → was_stored settled ≡ true → HasRoomFor view n w
  room_for layout n w settles.Right right stored = absurd (let no : false ≡ true = stored in cc)
  room_for layout n w (settles.Put (Refused refusal)) right stored =
      absurd (let no : false ≡ true = stored in cc)
  room_for layout n w (settles.Replaced (Refused refusal)) right stored =
      absurd (let no : false ≡ true = stored in cc)
  room_for layout need.Nothing w (settles.Put (Accepted done)) right stored = absurd right
  room_for layout need.Nothing w (settles.Replaced (Accepted done)) right stored = absurd right
  room_for layout need.Put w (settles.Put (Accepted done)) right stored =
      let c = command.Put w.name w.content w.mime w.body in
      let is = accepted_parts layout s c done right.0 right.1 in (
        few-kept (put-few s.carousel right.0.carousel s.geometry.objects w done is.rules),
        gap-kept (length w.body) is.start is.lies,
      )
  room_for layout need.Put w (settles.Replaced (Accepted done)) right stored =
      let c = command.Put w.name w.content w.mime w.body in
      let is = accepted_parts layout s c done right.0 right.1 in (
        few-kept (put-few s.carousel right.0.carousel s.geometry.objects w done is.rules),
        gap-kept (length w.body) is.start is.lies,
      )
  room_for layout need.Replace w (settles.Put (Accepted done)) right stored =
      let c = command.Replace w.name w.content w.mime w.body in
      let is = accepted_parts layout s c done right.0 right.1 in
      gap-kept (length w.body) is.start is.lies
  room_for layout need.Replace w (settles.Replaced (Accepted done)) right stored =
      let c = command.Replace w.name w.content w.mime w.body in
      let is = accepted_parts layout s c done right.0 right.1 in
      gap-kept (length w.body) is.start is.lies
