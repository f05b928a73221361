-- What a command comes to, by its parts, and told of what is kept in memory.
use Rattle.std.proofs.Common.{◌≡◌, ℕ, Bool, true, false, List, [], ◌∷◌, length, map}
use Rattle.std.proofs.Common.{replicate, Option, Some, None, Result, Ok, Err, refl, sym, ap, ◌∙◌}
use Rattle.std.proofs.Common.{subst}
use Rattle.std.proofs.lemmas.List.{length-replicate}
use Rattle.std.specs.Prelude.{if◌then◌else◌}
use Rattle.mot_carousel.proofs.Laws.{refused_by_rules, tail}
use Rattle.mot_journal.specs.declared.layout.Layout.{Layout}
use Rattle.mot_journal.specs.declared.record.Record.{Record}
use Rattle.mot_numbers.specs.Refusal.{◌>>=◌}
use Rattle.mot_journal.specs.Image.{Standing}
use Rattle.mot_numbers.specs.declared.geometry.Geometry.{Geometry}
use Rattle.mot_numbers.specs.declared.refusal.Refusal.{Refusal}
use Rattle.mot_numbers.specs.declared.refusal.Refusal.TheVariants.{BadName, NameTaken, NoSuchName}
use Rattle.mot_numbers.specs.declared.refusal.Refusal.TheVariants.{TooManyObjects, NoRoom}
use Rattle.mot_objects.specs.declared.carousel.Carousel as kept
use Rattle.mot_objects.specs.declared.command.Command.{Command}
use Rattle.mot_objects.specs.declared.command.Done.{Done}
use Rattle.mot_objects.specs.declared.object.Object as declared
use Rattle.mot_objects.specs.Carousel.{Object, Carousel, change}
use Rattle.mot_objects.specs.Stands.{objects_of, carousel_of, bodies_after, AreBodiesOf}
use Rattle.mot_repository.specs.Inner.Extents.{names_kept}
use Rattle.mot_repository.specs.Outcome.{has_long_name, start_of, or_no_room, extents_after}
use Rattle.mot_repository.specs.Outcome.{after_command}
use Rattle.mot_repository.specs.Inner.Prepared.{IsPreparedFor}
use Rattle.mot_repository.specs.Repository.{RepositoryView, Agrees}

-- the names of a carousel's objects
abbrev pub names_of : Carousel → List (List ℕ)
names_of c = map (λ (o : Object). o.name) c.objects

-- ---- by its parts

-- what is so of a command that is accepted
pub record IsAccepted (layout : Layout) (s : Standing) (command : Command) (done : Done)
    (next : Standing) : Type 0 where
  -- the layout has room for the name
  pub short : has_long_name layout command ≡ false
  -- the rules of the carousel accept the command
  pub rules : change s.carousel s.geometry.objects command ≡ Ok (next.carousel, done)
  -- where the body goes
  pub start : ℕ
  -- that is the least gap
  pub lies : start_of s.extents s.geometry.area command ≡ Some start
  -- the geometry stays
  pub geometry : next.geometry ≡ s.geometry
  -- the extents are those after the command
  pub extents : next.extents ≡ extents_after (names_of s.carousel) s.extents command start
  -- and so do the bytes after the data area
  pub rest : next.rest ≡ s.rest

same_pair : (x y : Standing × Done) → ◌≡◌ {A = Result (Standing × Done) Refusal} (Ok x) (Ok y)
    → x ≡ y
same_pair x y e = cc

module _ (layout : Layout) (s : Standing) (command : Command) where
  abbrev made : Carousel × Done → ℕ → Standing
  made c start = record s {
    carousel = c.0;
    extents = extents_after (names_of s.carousel) s.extents command start;
  }

  abbrev whole : Bool → Result (Carousel × Done) Refusal → Option ℕ
      → Result (Standing × Done) Refusal
  whole long rules lies =
      if long then Err BadName
      else (◌>>=◌ rules (λ c.
      ◌>>=◌ (or_no_room lies) (λ start. Ok (made c start, c.1))))

  abbrev ruled : Result (Carousel × Done) Refusal
  ruled = change s.carousel s.geometry.objects command

  abbrev lying : Option ℕ
  lying = start_of s.extents s.geometry.area command

  by-parts : after_command layout s command ≡ whole (has_long_name layout command) ruled lying
  unfolding after_command
  by-parts = refl

  -- an outcome of these parts
  accepted-by : (long : Bool) (r : Result (Carousel × Done) Refusal) (o : Option ℕ)
      (done : Done) (next : Standing)
      → has_long_name layout command ≡ long → ruled ≡ r → lying ≡ o
      → whole long r o ≡ Ok (next, done) → IsAccepted layout s command done next
  accepted-by true r o done next short is at e = cc
  accepted-by false (Err refusal) o done next short is at e = cc
  accepted-by false (Ok c) None done next short is at e = cc
  accepted-by false (Ok c) (Some start) done next short is at e =
      let same : ◌≡◌ {A = Standing × Done} (made c start, c.1) (next, done) =
      same_pair (made c start, c.1) (next, done) e in
      let ruled_by : Standing × Done → Result (Carousel × Done) Refusal =
      λ x. Ok (x.0.carousel, x.1) in
      record {
        short = short;
        rules = is ∙ ap ruled_by same;
        start = start;
        lies = at;
        geometry = ap (λ (x : Standing × Done). x.0.geometry) (sym same);
        extents = ap (λ (x : Standing × Done). x.0.extents) (sym same);
        rest = ap (λ (x : Standing × Done). x.0.rest) (sym same);
      }

  -- accepted is what has these parts
  pub accepted_parts : (done : Done) (next : Standing)
      → after_command layout s command ≡ Ok (next, done)
      → IsAccepted layout s command done next
  accepted_parts done next e =
      accepted-by (has_long_name layout command) ruled lying done next refl refl refl
      (sym by-parts ∙ e)

  -- a command with room for its name and body, by the rules, comes to the next standing
  pub accepted_of : (done : Done) (next : Standing) → IsAccepted layout s command done next
      → after_command layout s command ≡ Ok (next, done)
  accepted_of done next is =
      let of_parts : Geometry → List (ℕ × ℕ) → List ℕ → Standing =
      λ g l r. record { geometry = g; carousel = next.carousel; extents = l; rest = r } in
      let same : made (next.carousel, done) is.start ≡ next =
      ap (λ g. of_parts g (extents_after (names_of s.carousel) s.extents command is.start) s.rest)
      (sym is.geometry)
      ∙ ap (λ l. of_parts next.geometry l s.rest) (sym is.extents)
      ∙ ap (of_parts next.geometry next.extents) (sym is.rest) in
      let told : Standing → Result (Standing × Done) Refusal = λ k. Ok (k, done) in
      by-parts
      ∙ ap (λ b. whole b ruled lying) is.short
      ∙ ap (λ r. whole false r lying) is.rules
      ∙ ap (λ o. whole false (Ok (next.carousel, done)) o) is.lies
      ∙ ap told same

  -- refused: by the name, by the rules, or since there is no room
  pub refused_name : has_long_name layout command ≡ true
      → after_command layout s command ≡ Err BadName
  refused_name long = by-parts ∙ ap (λ b. whole b ruled lying) long

  -- a command that the carousel's rules refuse is refused for that reason
  pub refused_rules : (refusal : Refusal) → has_long_name layout command ≡ false
      → ruled ≡ Err refusal → after_command layout s command ≡ Err refusal
  refused_rules refusal short is =
      by-parts ∙ ap (λ b. whole b ruled lying) short ∙ ap (λ r. whole false r lying) is

  -- a command whose body has no gap is refused for want of room
  pub refused_room : (c : Carousel × Done) → has_long_name layout command ≡ false → ruled ≡ Ok c
      → lying ≡ None → after_command layout s command ≡ Err NoRoom
  refused_room c short is none =
      by-parts ∙ ap (λ b. whole b ruled lying) short ∙ ap (λ r. whole false r lying) is
      ∙ ap (λ o. whole false (Ok c) o) none

  refused-by : (P : Refusal → Type 0) → P BadName → P NoRoom
      → ((refusal : Refusal) → ruled ≡ Err refusal → P refusal)
      → (long : Bool) (r : Result (Carousel × Done) Refusal) (o : Option ℕ) (refusal : Refusal)
      → ruled ≡ r → whole long r o ≡ Err refusal → P refusal
  refused-by P name room others true r o refusal is e =
      let same : BadName ≡ refusal = cc in subst P same name
  refused-by P name room others false (Err x) o refusal is e =
      let same : x ≡ refusal = cc in subst P same (others x is)
  refused-by P name room others false (Ok c) None refusal is e =
      let same : NoRoom ≡ refusal = cc in subst P same room
  refused-by P name room others false (Ok c) (Some start) refusal is e = cc

  -- what is so of each refusal of a command
  pub refused_so : (P : Refusal → Type 0) → P BadName → P NameTaken → P NoSuchName
      → P TooManyObjects → P NoRoom
      → (refusal : Refusal) → after_command layout s command ≡ Err refusal → P refusal
  refused_so P name taken none many room refusal e =
      refused-by P name room
      (λ r is. refused_by_rules P taken none many s.carousel s.geometry.objects command r is)
      (has_long_name layout command) ruled lying refusal refl (sym by-parts ∙ e)

-- ---- told of what is kept in memory

names-whole : (objects : List declared.Object) (bodies : List (List ℕ))
    → map length bodies ≡ map (λ (o : declared.Object). o.length) objects
    → map (λ (o : Object). o.name) (objects_of objects bodies)
    ≡ map (λ (o : declared.Object). o.name) objects
names-whole [] bodies e = refl
names-whole (o ∷ objects) [] e = cc
names-whole (o ∷ objects) (body ∷ bodies) e =
    ap (λ l. o.name ∷ l) (names-whole objects bodies (tail e))

module _ (view : RepositoryView) (s : Standing) (agrees : Agrees view s) (command : Command) where
  names-agree : names_kept view.carousel ≡ names_of s.carousel
  names-agree = sym (names-whole view.carousel.objects.items agrees.bodies agrees.are_bodies)
      ∙ ap names_of (sym agrees.carousel)

  -- the body goes to the same place by what is kept as by what the disk stands for
  pub same_start : start_of view.extents view.journal.geometry.area command
      ≡ start_of s.extents s.geometry.area command
  same_start = ap (λ l. start_of l view.journal.geometry.area command) agrees.extents
      ∙ ap (λ (g : Geometry). start_of s.extents g.area command) agrees.geometry

  -- the rules say the same of what is kept, with its bodies, as of what the disk stands for
  pub same_rules : change s.carousel s.geometry.objects command
      ≡ change (carousel_of view.carousel agrees.bodies) view.journal.geometry.objects command
  same_rules = ap (λ (c : Carousel). change c s.geometry.objects command) agrees.carousel
      ∙ ap (λ (g : Geometry). change (carousel_of view.carousel agrees.bodies) g.objects command)
      (sym agrees.geometry)

  -- the extents after a command are the same by what is kept
  pub same_extents : (from : ℕ) → extents_after (names_kept view.carousel) view.extents command from
      ≡ extents_after (names_of s.carousel) s.extents command from
  same_extents from = ap (λ n. extents_after n view.extents command from) names-agree
      ∙ ap (λ l. extents_after (names_of s.carousel) l command from) agrees.extents

-- what is prepared for a command is what it comes to, whatever the bodies are
module _ (view view' : RepositoryView) (command : Command) (done : Done) (next : kept.Carousel)
    (from : ℕ) (r : Record) (given : List Record)
    (prepared : IsPreparedFor view command done next from r given)
    (same_geometry : view'.journal.geometry ≡ view.journal.geometry)
    (has_next : view'.carousel ≡ next)
    (lie : view'.extents ≡ extents_after (names_kept view.carousel) view.extents command from) where
  -- a prepared command is accepted, and what is kept after it agrees with what it makes
  pub prepared_is_accepted : (s : Standing) → Agrees view s
      → (last : Standing) × (after_command view.journal.layout s command ≡ Ok (last, done))
      × Agrees view' last
  prepared_is_accepted s agrees =
      let bodies : List (List ℕ) = bodies_after view.carousel command agrees.bodies in
      let changes = prepared.changes agrees.bodies agrees.are_bodies in
      let last : Standing = record {
        geometry = s.geometry;
        carousel = carousel_of next bodies;
        extents = extents_after (names_of s.carousel) s.extents command from;
        rest = s.rest;
      } in (
        last,
        accepted_of view.journal.layout s command done last (record {
          short = prepared.short;
          rules = same_rules view s agrees command ∙ changes.0;
          start = from;
          lies = sym (same_start view s agrees command) ∙ prepared.lies;
          geometry = refl;
          extents = refl;
          rest = refl;
        }),
        record {
          geometry = same_geometry ∙ agrees.geometry;
          extents = lie ∙ same_extents view s agrees command from;
          bodies = bodies;
          are_bodies = subst (λ (k : kept.Carousel). AreBodiesOf k bodies) (sym has_next) changes.1;
          carousel = ap (λ (k : kept.Carousel). carousel_of k bodies) (sym has_next);
        },
      )

  -- what is kept after a prepared command agrees with what the command makes
  pub agrees_after : (s last : Standing) → Agrees view s
      → after_command view.journal.layout s command ≡ Ok (last, done) → Agrees view' last
  agrees_after s last agrees e =
      let made = prepared_is_accepted s agrees in
      let same : ◌≡◌ {A = Standing × Done} (made.0, done) (last, done) =
      same_pair (made.0, done) (last, done) (sym made.1 ∙ e) in
      subst (λ (x : Standing × Done). Agrees view' x.0) same made.2

-- ---- there are bodies of each length

abbrev zeros_for : List declared.Object → List (List ℕ)
zeros_for [] = []
zeros_for (o ∷ objects) = replicate o.length 0 ∷ zeros_for objects

zeros-fit : (objects : List declared.Object)
    → map length (zeros_for objects) ≡ map (λ (o : declared.Object). o.length) objects
zeros-fit [] = refl
zeros-fit (o ∷ objects) =
    ap (λ n. n ∷ map length (zeros_for objects)) (length-replicate {A = ℕ} o.length 0)
    ∙ ap (λ l. o.length ∷ l) (zeros-fit objects)

-- what is kept in memory agrees with something
pub some_standing : (view : RepositoryView) → (s : Standing) × Agrees view s
some_standing view =
    let zeros : List (List ℕ) = zeros_for view.carousel.objects.items in (
      record {
        geometry = view.journal.geometry;
        carousel = carousel_of view.carousel zeros;
        extents = view.extents;
        rest = [];
      },
      record {
        geometry = refl;
        extents = refl;
        bodies = zeros;
        are_bodies = zeros-fit view.carousel.objects.items;
        carousel = refl;
      },
    )
