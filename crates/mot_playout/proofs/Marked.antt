-- What the marks of a run say of its commands, told of the carousel alone.
use Rattle.std.proofs.Common.{◌≡◌, ◌⊎◌, inl, inr, ℕ, suc, ◌+◌, ◌-◌, Bool, true, false, List, []}
use Rattle.std.proofs.Common.{◌∷◌, Option, Some, None, Result, Ok, Err, refl, sym, ap, ◌∙◌, subst}
use Rattle.std.proofs.Common.{arith, map}
use Rattle.std.proofs.lemmas.Bool.{and_from, le-leb, or_left}
use Rattle.std.specs.List.{list_any}
use Rattle.std.specs.Prelude.{◌<◌, ◌++◌, All, length, nat_le, if◌then◌else◌}
use Rattle.mot_journal.specs.declared.layout.Layout.{Layout}
use Rattle.mot_journal.specs.declared.layout.Layout.TheVariants.{Two}
use Rattle.mot_numbers.specs.Refusal.{◌>>=◌}
use Rattle.mot_journal.specs.Image.{Standing, stands_for}
use Rattle.mot_numbers.specs.declared.geometry.Geometry.{Geometry}
use Rattle.mot_numbers.specs.declared.refusal.Refusal.{Refusal}
use Rattle.mot_objects.specs.declared.command.Command.{Command}
use Rattle.mot_objects.specs.declared.command.Command.TheVariants.{Put, Replace, Withdraw, Period}
use Rattle.mot_objects.specs.declared.command.Done.{Done}
use Rattle.mot_objects.specs.Carousel.{Carousel, Object, carousel_if_accepted, change, change_to}
use Rattle.mot_objects.specs.Carousel.{change_if_named, free_object_id, has_name, new_object}
use Rattle.mot_objects.specs.Carousel.{objects_with, objects_without, renewed_object}
use Rattle.mot_objects.specs.Name.{ContentNumbers}
use Rattle.mot_numbers.specs.declared.refusal.Refusal.TheVariants.{BadName, NameTaken, NoRoom}
use Rattle.mot_numbers.specs.declared.refusal.Refusal.TheVariants.{TooManyObjects}
use Rattle.mot_journal.specs.Journal.{standing_from}
use Rattle.mot_carousel.specs.Gap.{first_free, is_free, least_gap}
use Rattle.mot_repository.specs.Outcome.{after_command, extents_after, has_long_name, or_no_room}
use Rattle.mot_repository.specs.Outcome.{start_of}
use Rattle.mot_repository.proofs.Laws.{IsAccepted, accepted_of, accepted_parts}
use Rattle.mot_playout.specs.Life.{AreMarksOf, LacksRoom, MayLackRoom, carousel_from}
use Rattle.mot_playout.proofs.Room.{AreAsLong, full, long-put, long-with, long-without, total-long}
use Rattle.mot_playout.proofs.Sizes.{long_standing}
use Rattle.mot_playout.specs.RunEnds.{AreMarks}

nothing-met : (extents : List (ℕ × ℕ)) → is_free extents 0 0 ≡ true
nothing-met [] = refl
nothing-met (e ∷ extents) =
    and_from _ _ (or_left _ _ (le-leb 0 e.0 (omega arith))) (nothing-met extents)

-- no bytes find room everywhere
no_bytes : (extents : List (ℕ × ℕ)) (size : ℕ) → least_gap extents 0 size ≡ None → ⊥
unfolding least_gap
no_bytes extents size none =
    let count : size - 0 + 1 ≡ suc size = omega arith in
    let some : least_gap extents 0 size ≡ Some 0 =
    ap (λ b. if b then first_free (size - 0 + 1) 0 extents 0 else None)
    (le-leb 0 size (omega arith))
    ∙ ap (λ k. first_free k 0 extents 0) count
    ∙ ap (λ b. if b then Some 0 else first_free size (0 + 1) extents 0) (nothing-met extents) in
    let e : ◌≡◌ {A = Option ℕ} (Some 0) None = sym some ∙ none in cc

put-by : (a b : Bool) (x y : Refusal) (z w : Carousel × Done)
    → ◌≡◌ {A = Result (Carousel × Done) Refusal}
    (if a then Err x else (if b then Err y else Ok z)) (Ok w) → z ≡ w
put-by true b x y z w e = cc
put-by false true x y z w e = cc
put-by false false x y z w e = cc

put-made : (c next : Carousel) (limit : ℕ) (name : List ℕ) (content : ContentNumbers)
    (mime : Option (List ℕ)) (body : List ℕ) (done : Done)
    → change c limit (Put name content mime body) ≡ Ok (next, done)
    → next.objects ≡ c.objects ++ new_object name content mime body (free_object_id c) ∷ []
unfolding change
put-made c next limit name content mime body done e =
    let id = free_object_id c in
    let object = new_object name content mime body id in
    sym (ap (λ (w : Carousel × Done). w.0.objects)
    (put-by (list_any (has_name name) c.objects) (nat_le limit (length c.objects)) NameTaken
    TooManyObjects (change_to c c.period (c.objects ++ object ∷ []) (Some id)) (next, done) e))

record NamedMade (o : Option (List Object)) (next : Carousel) : Type 0 where
  pub objects : List Object
  pub are : o ≡ Some objects
  pub made : next.objects ≡ objects

same-pair : (z w : Carousel × Done) → ◌≡◌ {A = Result (Carousel × Done) Refusal} (Ok z) (Ok w)
    → z ≡ w
same-pair z w e = cc

named-by : (c next : Carousel) (taken : Option ℕ) (o : Option (List Object)) (done : Done)
    → change_if_named c taken o ≡ Ok (next, done) → NamedMade o next
named-by c next taken None done e = cc
named-by c next taken (Some objects) done e = record {
  objects = objects;
  are = refl;
  made = sym (ap (λ (w : Carousel × Done). w.0.objects)
      (same-pair (change_to c c.period objects taken) (next, done) e));
}

replace-made : (c next : Carousel) (limit : ℕ) (name : List ℕ) (content : ContentNumbers)
    (mime : Option (List ℕ)) (body : List ℕ) (done : Done)
    → change c limit (Replace name content mime body) ≡ Ok (next, done)
    → NamedMade (objects_with name (renewed_object content mime body (free_object_id c)) c.objects)
    next
unfolding change
replace-made c next limit name content mime body done e =
    named-by c next (Some (free_object_id c))
    (objects_with name (renewed_object content mime body (free_object_id c)) c.objects) done e

withdraw-made : (c next : Carousel) (limit : ℕ) (name : List ℕ) (done : Done)
    → change c limit (Withdraw name) ≡ Ok (next, done)
    → NamedMade (objects_without name c.objects) next
unfolding change
withdraw-made c next limit name done e =
    named-by c next None (objects_without name c.objects) done e

period-made : (c next : Carousel) (limit period : ℕ) (done : Done)
    → change c limit (Period period) ≡ Ok (next, done) → next.objects ≡ c.objects
unfolding change
period-made c next limit period done e =
    sym (ap (λ (w : Carousel × Done). w.0.objects)
    (same-pair (change_to c period c.objects None) (next, done) e))

-- the extents stay as long as the bodies
long_after : (s next : Standing) (command : Command) (done : Done)
    → IsAccepted Two s command done next → AreAsLong s.extents s.carousel.objects
    → AreAsLong next.extents next.carousel.objects
long_after s next (Put name content mime body) done is long =
    let limit : ℕ = s.geometry.objects in
    let made = put-made s.carousel next.carousel limit name content mime body done is.rules in
    let object : Object = new_object name content mime body (free_object_id s.carousel) in
    subst (λ es. AreAsLong es next.carousel.objects) (sym is.extents)
    (subst (λ os. AreAsLong (s.extents ++ (is.start, length body) ∷ []) os) (sym made)
    (long-put s.extents s.carousel.objects (is.start, length body) object long refl))
long_after s next (Replace name content mime body) done is long =
    let limit : ℕ = s.geometry.objects in
    let made = replace-made s.carousel next.carousel limit name content mime body done is.rules in
    let renew = renewed_object content mime body (free_object_id s.carousel) in
    subst (λ es. AreAsLong es next.carousel.objects) (sym is.extents)
    (subst (λ os. AreAsLong (extents_after (map (λ (o : Object). o.name) s.carousel.objects)
    s.extents (Replace name content mime body) is.start) os) (sym made.made)
    (long-with name renew (is.start, length body) (λ o. refl) s.extents s.carousel.objects
    made.objects long made.are))
long_after s next (Withdraw name) done is long =
    let limit : ℕ = s.geometry.objects in
    let made = withdraw-made s.carousel next.carousel limit name done is.rules in
    subst (λ es. AreAsLong es next.carousel.objects) (sym is.extents)
    (subst (λ os. AreAsLong (extents_after (map (λ (o : Object). o.name) s.carousel.objects)
    s.extents (Withdraw name) is.start) os) (sym made.made)
    (long-without name s.extents s.carousel.objects made.objects long made.are))
long_after s next (Period period) done is long =
    let limit : ℕ = s.geometry.objects in
    subst (λ es. AreAsLong es next.carousel.objects) (sym is.extents)
    (subst (λ os. AreAsLong s.extents os)
    (sym (period-made s.carousel next.carousel limit period done is.rules)) long)

-- what finds no gap
no_gap : (extents : List (ℕ × ℕ)) (objects : List Object) (area : ℕ) (body : List ℕ)
    → AreAsLong extents objects → least_gap extents (length body) area ≡ None
    → MayLackRoom area objects body
no_gap extents objects area body long none =
    subst (λ n. area < n) (total-long body extents objects long)
    (full extents (length body) area none)

no_room : (s : Standing) (command : Command) → AreAsLong s.extents s.carousel.objects
    → start_of s.extents s.geometry.area command ≡ None
    → LacksRoom s.geometry.area s.carousel.objects command
no_room s (Put name content mime body) long none =
    no_gap s.extents s.carousel.objects s.geometry.area body long none
no_room s (Replace name content mime body) long none =
    no_gap s.extents s.carousel.objects s.geometry.area body long none
no_room s (Withdraw name) long none = absurd (no_bytes s.extents s.geometry.area none)
no_room s (Period period) long none = absurd (no_bytes s.extents s.geometry.area none)

abbrev Refuses : Standing → Command → Type 0
Refuses s command =
    (carousel_if_accepted (change s.carousel s.geometry.objects command) ≡ None)
    ⊎ LacksRoom s.geometry.area s.carousel.objects command

-- a command is refused by the rules, or there may be no room for it
refuses-by : (s : Standing) (command : Command) (refusal : Refusal)
    → AreAsLong s.extents s.carousel.objects
    → after_command Two s command ≡ Err refusal → (r : Result (Carousel × Done) Refusal)
    (o : Option ℕ) → has_long_name Two command ≡ false
    → change s.carousel s.geometry.objects command ≡ r
    → start_of s.extents s.geometry.area command ≡ o → Refuses s command
refuses-by s command refusal sizes e (Err x) o short is at =
    inl (ap carousel_if_accepted is)
refuses-by s command refusal sizes e (Ok made) None short is at =
    inr (no_room s command sizes at)
refuses-by s command refusal sizes e (Ok made) (Some start) short is at =
    let names : List (List ℕ) = map (λ (o : Object). o.name) s.carousel.objects in
    let next : Standing = record s {
      carousel = made.0;
      extents = extents_after names s.extents command start;
    } in
    let fine : after_command Two s command ≡ Ok (next, made.1) =
    accepted_of Two s command made.1 next (record {
      short = short;
      rules = is;
      start = start;
      lies = at;
      geometry = refl;
      extents = refl;
      rest = refl;
    }) in
    let no : ◌≡◌ {A = Result (Standing × Done) Refusal} (Ok (next, made.1)) (Err refusal) =
    sym fine ∙ e in
    cc

refuses : (s : Standing) (command : Command) (refusal : Refusal)
    → AreAsLong s.extents s.carousel.objects
    → after_command Two s command ≡ Err refusal → has_long_name Two command ≡ false
    → Refuses s command
refuses s command refusal sizes e short =
    refuses-by s command refusal sizes e (change s.carousel s.geometry.objects command)
    (start_of s.extents s.geometry.area command) short refl refl

-- marks that are right of a disk of layout 2 are right of its carousel
marks_two : (s : Standing) (commands : List Command) (marks : List Bool) (last : Standing)
    → AreAsLong s.extents s.carousel.objects → AreMarks Two s commands marks last
    → AreMarksOf s.geometry s.carousel commands marks
marks_two s commands [] last sizes so = tt
marks_two s [] (mark ∷ marks) last sizes so = absurd so
marks_two s (command ∷ commands) (true ∷ marks) last sizes so =
    let step = accepted_parts Two s command so.0 so.1 so.2 in (
      so.1.carousel,
      ap carousel_if_accepted step.rules,
      subst (λ (g : Geometry). AreMarksOf g so.1.carousel commands marks) step.geometry
          (marks_two so.1 commands marks last (long_after s so.1 command so.0 step sizes) so.3),
    )
marks_two s (command ∷ commands) (false ∷ marks) last sizes so =
    (refuses s command so.0 sizes so.1.0 so.1.1, marks_two s commands marks last sizes so.2)

-- so of a new disk whose layout is that one
pub marks_of_carousel : (layout : Layout) (g : Geometry) (first : ℕ) (rest : List ℕ)
    (commands : List Command) (marks : List Bool) (last : Standing) → layout ≡ Two
    → AreMarks layout (standing_from g first rest) commands marks last
    → AreMarksOf g (carousel_from first) commands marks
marks_of_carousel layout g first rest commands marks last is so =
    marks_two (standing_from g first rest) commands marks last refl
    (subst (λ l. AreMarks l (standing_from g first rest) commands marks last) is so)

-- ---- why a command is refused on a disk of that layout

-- Why a command with a name that is not too long is refused: for the rules' reason; or they accept
-- it, and there is no room for what it brings.
abbrev pub IsRefused : Standing → Command → Refusal → Type 0
IsRefused s command refusal =
    (change s.carousel s.geometry.objects command ≡ Err refusal)
    ⊎ ((made : Carousel × Done) × (change s.carousel s.geometry.objects command ≡ Ok made)
    × (refusal ≡ NoRoom) × LacksRoom s.geometry.area s.carousel.objects command)

module _ (s : Standing) (command : Command) where
  abbrev parts : Bool → Result (Carousel × Done) Refusal → Option ℕ
      → Result (Standing × Done) Refusal
  parts long rules lies =
      if long then Err BadName
      else (◌>>=◌ rules (λ made. ◌>>=◌ (or_no_room lies) (λ start.
      Ok (
        record s {
          carousel = made.0;
          extents = extents_after (map (λ (o : Object). o.name) s.carousel.objects) s.extents
              command
              start;
        },
        made.1,
      ))))

  abbrev ruled : Result (Carousel × Done) Refusal
  ruled = change s.carousel s.geometry.objects command

  abbrev lying : Option ℕ
  lying = start_of s.extents s.geometry.area command

  by-parts : after_command Two s command ≡ parts (has_long_name Two command) ruled lying
  unfolding after_command
  by-parts = refl

  refused-cases : (refusal : Refusal) → AreAsLong s.extents s.carousel.objects
      → (r : Result (Carousel × Done) Refusal) (o : Option ℕ) → ruled ≡ r → lying ≡ o
      → parts false r o ≡ Err refusal → IsRefused s command refusal
  refused-cases refusal sizes (Err x) o is at e = let same : x ≡ refusal = cc in
      inl (subst (λ y. ruled ≡ Err y) same is)
  refused-cases refusal sizes (Ok made) None is at e =
      let same : NoRoom ≡ refusal = cc in
      inr (made, is, sym same, no_room s command sizes at)
  refused-cases refusal sizes (Ok made) (Some start) is at e = cc

pub refused_by : (image : List ℕ) (s : Standing) (command : Command) (refusal : Refusal)
    → All (λ b. b < 256) image → stands_for image ≡ Ok s → has_long_name Two command ≡ false
    → after_command Two s command ≡ Err refusal → IsRefused s command refusal
refused_by image s command refusal bytes stands short e =
    refused-cases s command refusal (long_standing image s bytes stands)
    (change s.carousel s.geometry.objects command)
    (start_of s.extents s.geometry.area command) refl refl
    (ap (λ b. parts s command b (ruled s command) (lying s command)) (sym short)
    ∙ sym (by-parts s command) ∙ e)
