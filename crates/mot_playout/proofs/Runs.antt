-- How a run of commands goes on by one more.
use Rattle.std.proofs.Common.{◌≡◌, ⊎_elim, ℕ, ◌+◌, Bool, true, false, List, [], ◌∷◌, ◌++◌, length}
use Rattle.std.proofs.Common.{take, drop, Option, Some, None, Result, Ok, Err, refl, sym, ◌∙◌, ap}
use Rattle.std.proofs.Common.{subst, arith}
use Rattle.std.proofs.lemmas.List.{take-append-le, length-append, append-nil}
use Rattle.std.proofs.Math.Seq.{take-append-add}
use Rattle.std.proofs.lemmas.Option.{same_Some}
use Rattle.std.specs.Prelude.{slice_get}
use Rattle.disk_model.specs.Disk.{State, Throughout, Keeps, IsHonestDisk, IsUnchanged}
use Rattle.disk_model.proofs.Laws.{begins as begins_moments, stays, joins, weakens, at_end}
use Rattle.mot_carousel.proofs.Laws.{goes_on}
use Rattle.mot_journal.specs.declared.layout.Layout.{Layout}
use Rattle.mot_journal.specs.Image.{Standing}
use Rattle.mot_numbers.specs.Reading.{◌>>=◌}
use Rattle.mot_numbers.specs.declared.refusal.Refusal.{Refusal}
use Rattle.mot_numbers.specs.declared.refusal.Refusal.TheVariants.{DeviceFault}
use Rattle.mot_numbers.specs.declared.geometry.Geometry.{Geometry}
use Rattle.mot_objects.specs.declared.command.Command.{Command}
use Rattle.mot_objects.specs.declared.command.Done.{Done}
use Rattle.mot_objects.specs.Carousel.{Carousel, change, carousel_after, carousel_if_accepted}
use Rattle.mot_objects.specs.Carousel.{AllKeepRules}
use Rattle.mot_objects.specs.declared.carousel.Carousel as kept
use Rattle.mot_objects.specs.Stands.{carousel_of, AreBodiesOf}
use Rattle.mot_repository.specs.Answers.{IsHalted}
use Rattle.mot_journal.specs.declared.layout.Layout.TheVariants.{Two}
use Rattle.mot_repository.specs.Outcome.{after_command, has_long_name}
use Rattle.mot_repository.specs.Repository.{RepositoryView, IsOf, Agrees, Holds, IsBeforeOrAfter}
use Rattle.mot_repository.proofs.Laws.{accepted_parts, rules_kept}
use Rattle.mot_playout.specs.Runs.{accepted_commands, commands_in_flight, IsAfter, StandsAfterSome}
use Rattle.mot_playout.specs.RunEnds.{AreMarks, RulesAlong, RunLeaves}
use Rattle.mot_playout.proofs.Read.{holds_still}

abbrev Missing : Option Command → Type 0
Missing None = Unit {0}
Missing (Some command) = ⊥

-- no command is not some command
pub not_there : (command : Command) → None ≡ Some command → ⊥
not_there command e = subst Missing e tt

abbrev Yes : Bool → Type 0
Yes true = Unit {0}
Yes false = ⊥

not_both : true ≡ false → ⊥
not_both e = subst Yes e tt

-- a command that is there is the one
pub same : (c command : Command) → Some c ≡ Some command → c ≡ command
same c command e = cc

-- one mark more, where the command was accepted
pub one_true : (layout : Layout) (s : Standing) (commands : List Command) (marks : List Bool)
    (last next : Standing)
    (command : Command) (done : Done) → slice_get commands (length marks) ≡ Some command
    → AreMarks layout s commands marks last → after_command layout last command ≡ Ok (next, done)
    → AreMarks layout s commands (marks ++ true ∷ []) next
one_true layout s [] marks last next command done at so_far step = absurd (not_there command at)
one_true layout s (c ∷ commands) [] last next command done at so_far step =
    let here = subst (λ d. after_command layout last d ≡ Ok (next, done)) (sym (same c command at))
    step in
    (done, next, subst (λ d. after_command layout d c ≡ Ok (next, done)) so_far here, refl)
one_true layout s (c ∷ commands) (true ∷ marks) last next command done at so_far step = (
  so_far.0,
  so_far.1,
  so_far.2,
  one_true layout so_far.1 commands marks last next command done at so_far.3 step,
)
one_true layout s (c ∷ commands) (false ∷ marks) last next command done at so_far step =
    (so_far.0, so_far.1, one_true layout s commands marks last next command done at so_far.2 step)

-- and where it was refused
pub one_false : (layout : Layout) (s : Standing) (commands : List Command) (marks : List Bool)
    (last : Standing)
    (command : Command) (refusal : Refusal) → slice_get commands (length marks) ≡ Some command
    → AreMarks layout s commands marks last → after_command layout last command ≡ Err refusal
    → has_long_name Two command ≡ false
    → AreMarks layout s commands (marks ++ false ∷ []) last
one_false layout s [] marks last command refusal at so_far refused short =
    absurd (not_there command at)
one_false layout s (c ∷ commands) [] last command refusal at so_far refused short =
    let is = sym (same c command at) in
    let here = subst (λ d. after_command layout last d ≡ Err refusal) is refused in (
      refusal,
      (
        subst (λ d. after_command layout d c ≡ Err refusal) so_far here,
        subst (λ d. has_long_name Two d ≡ false) is short,
      ),
      so_far,
    )
one_false layout s (c ∷ commands) (true ∷ marks) last command refusal at so_far refused short = (
  so_far.0,
  so_far.1,
  so_far.2,
  one_false layout so_far.1 commands marks last command refusal at so_far.3 refused short,
)
one_false layout s (c ∷ commands) (false ∷ marks) last command refusal at so_far refused short = (
  so_far.0,
  so_far.1,
  one_false layout s commands marks last command refusal at so_far.2 refused short,
)

-- a true mark more accepts the command that it stands at
pub accepted-true : (commands : List Command) (marks : List Bool) (command : Command)
    → slice_get commands (length marks) ≡ Some command
    → accepted_commands commands (marks ++ true ∷ [])
    ≡ accepted_commands commands marks ++ command ∷ []
accepted-true [] marks command at = absurd (not_there command at)
accepted-true (c ∷ commands) [] command at = ap (λ d. d ∷ []) (same c command at)
accepted-true (c ∷ commands) (true ∷ marks) command at =
    ap (λ l. c ∷ l) (accepted-true commands marks command at)
accepted-true (c ∷ commands) (false ∷ marks) command at = accepted-true commands marks command at

-- a false mark more accepts nothing more
pub accepted-false : (commands : List Command) (marks : List Bool) (command : Command)
    → slice_get commands (length marks) ≡ Some command
    → accepted_commands commands (marks ++ false ∷ []) ≡ accepted_commands commands marks
accepted-false [] marks command at = absurd (not_there command at)
accepted-false (c ∷ commands) [] command at = refl
accepted-false (c ∷ commands) (true ∷ marks) command at =
    ap (λ l. c ∷ l) (accepted-false commands marks command at)
accepted-false (c ∷ commands) (false ∷ marks) command at = accepted-false commands marks command at

-- the command at the next mark is the one in flight
pub flight : (commands : List Command) (marks : List Bool) (command : Command)
    → slice_get commands (length marks) ≡ Some command
    → take 1 (drop (length marks) commands) ≡ command ∷ []
flight [] marks command at = absurd (not_there command at)
flight (c ∷ commands) [] command at = ap (λ d. d ∷ []) (same c command at)
flight (c ∷ commands) (mark ∷ marks) command at = flight commands marks command at

-- one accepted command more
pub after_one : (layout : Layout) (s : Standing) (commands : List Command) (last next : Standing)
    (command : Command) (done : Done)
    → IsAfter s commands last → after_command layout last command ≡ Ok (next, done)
    → IsAfter s (commands ++ command ∷ []) next
after_one layout s commands last next command done so_far accepted =
    let limit : ℕ = s.geometry.objects in
    let step = accepted_parts layout last command done next accepted in
    let here = subst (λ (g : Geometry).
    change last.carousel g.objects command ≡ Ok (next.carousel, done)) so_far.geometry
    step.rules in
    record {
      geometry = step.geometry ∙ so_far.geometry;
      carousel = goes_on s.carousel limit commands command
          ∙ ap (λ (o : Option Carousel). o >>= λ l. carousel_if_accepted (change l limit command))
          so_far.carousel
          ∙ ap carousel_if_accepted here;
      rest = step.rest ∙ so_far.rest;
    }

-- no commands leave what a disk stands for
pub after_none : (s : Standing) → IsAfter s [] s
unfolding carousel_after
after_none s = record { geometry = refl; carousel = refl; rest = refl }

in_parts-step : (limit : ℕ) (commands others : List Command) (o : Option Carousel)
    → ((c : Carousel) → carousel_after c limit (commands ++ others)
    ≡ (carousel_after c limit commands >>= λ d. carousel_after d limit others))
    → (o >>= λ next. carousel_after next limit (commands ++ others))
    ≡ ((o >>= λ next. carousel_after next limit commands) >>= λ d.
    carousel_after d limit others)
in_parts-step limit commands others None h = refl
in_parts-step limit commands others (Some c) h = h c

pub in_parts : (c : Carousel) (limit : ℕ) (commands others : List Command)
    → carousel_after c limit (commands ++ others)
    ≡ (carousel_after c limit commands >>= λ d. carousel_after d limit others)
unfolding carousel_after
in_parts c limit [] others = refl
in_parts c limit (first ∷ commands) others =
    in_parts-step limit commands others (carousel_if_accepted (change c limit first))
    (λ d. in_parts d limit commands others)

-- what the marks leave is what the accepted commands make
pub marks_after : (layout : Layout) (s : Standing) (commands : List Command) (marks : List Bool)
    (last : Standing)
    → AreMarks layout s commands marks last → IsAfter s (accepted_commands commands marks) last
unfolding carousel_after
marks_after layout s commands [] last so_far =
    record {
      geometry = ap (λ (d : Standing). d.geometry) so_far;
      carousel =
          ap (λ (d : Standing). Some d.carousel) (sym so_far);
      rest = ap (λ (d : Standing). d.rest) so_far;
    }
marks_after layout s [] (mark ∷ marks) last so_far = absurd so_far
marks_after layout s (c ∷ commands) (true ∷ marks) last so_far =
    let rest = marks_after layout so_far.1 commands marks last so_far.3 in
    let step = accepted_parts layout s c so_far.0 so_far.1 so_far.2 in
    let here = subst (λ (g : Geometry).
    carousel_after so_far.1.carousel g.objects (accepted_commands commands marks)
    ≡ Some last.carousel) step.geometry rest.carousel in
    record {
      geometry = rest.geometry ∙ step.geometry;
      carousel = ap (λ (r : Result (Carousel × Done) Refusal). carousel_if_accepted r >>= λ next.
          carousel_after next s.geometry.objects (accepted_commands commands marks)) step.rules
          ∙ here;
      rest = rest.rest ∙ step.rest;
    }
marks_after layout s (c ∷ commands) (false ∷ marks) last so_far =
    marks_after layout s commands marks last so_far.2

-- one list of commands, and then another
pub after_both : (s : Standing) (commands others : List Command) (mid last : Standing)
    → IsAfter s commands mid → IsAfter mid others last → IsAfter s (commands ++ others) last
after_both s commands others mid last first second = record {
  geometry = second.geometry ∙ first.geometry;
  carousel = in_parts s.carousel s.geometry.objects commands others
      ∙ ap (λ (o : Option Carousel). o >>= λ next. carousel_after next s.geometry.objects others)
      first.carousel
      ∙ subst (λ (g : Geometry). carousel_after mid.carousel g.objects others ≡ Some last.carousel)
      first.geometry second.carousel;
  rest = second.rest ∙ first.rest;
}

-- each carousel on the way keeps its rules, of one list of commands and of another
pub along_both : (limit : ℕ) (commands others : List Command) (c mid : Carousel)
    → RulesAlong limit c commands → carousel_after c limit commands ≡ Some mid
    → RulesAlong limit mid others → RulesAlong limit c (commands ++ others)
unfolding carousel_after
along_both limit [] others c mid rules e two =
    subst (λ d. RulesAlong limit d others) (sym (same_Some c mid e)) two
along_both limit (command ∷ commands) others c mid rules e two = λ next made.
    let step = rules next made in (
      step.0,
      along_both limit commands others next mid step.1
          (sym (ap (λ (o : Option Carousel). o >>= λ d. carousel_after d limit commands) made)
          ∙ e) two,
    )

-- so does one that the disk holds
rules_held : (view : RepositoryView) (s : Standing) (state : State) → IsHonestDisk state
    → Holds view s state → AllKeepRules s.carousel
rules_held view s state sound holds =
    rules_kept state.bytes s (sound.images state.bytes sound.bytes).are_bytes
    (holds.each state.bytes sound.bytes).stands

one_along : (layout : Layout) (s last next : Standing) (command : Command) (done : Done)
    → last.geometry ≡ s.geometry → after_command layout last command ≡ Ok (next, done)
    → AllKeepRules next.carousel → RulesAlong s.geometry.objects last.carousel (command ∷ [])
one_along layout s last next command done same step rules = λ other made.
    let parts = accepted_parts layout last command done next step in
    let here = subst (λ (g : Geometry).
    carousel_if_accepted (change last.carousel g.objects command) ≡ Some other) (sym same) made in
    let is : Some next.carousel ≡ Some other =
    sym (ap (λ (r : Result (Carousel × Done) Refusal). carousel_if_accepted r) parts.rules) ∙ here
    in
    (subst AllKeepRules (same_Some next.carousel other is) rules, tt)

-- more commands that may have been done
pub more : (s : Standing) (sure others rest : List Command) (image : List ℕ)
    → StandsAfterSome s sure others image → StandsAfterSome s sure (others ++ rest) image
more s sure others rest image is = record {
  last = is.last;
  after = record {
    count = is.after.count;
    few = omega (arith, is.after.few, length-append others rest);
    after = subst (λ l. IsAfter s (sure ++ l) is.last)
        (sym (take-append-le is.after.count others rest is.after.few)) is.after.after;
  };
  image_is = is.image_is;
}

-- what is sure may be told as what may be
pub less_sure : (s : Standing) (sure others : List Command) (image : List ℕ)
    → StandsAfterSome s sure others image → StandsAfterSome s [] (sure ++ others) image
less_sure s sure others image is = record {
  last = is.last;
  after = record {
    count = length sure + is.after.count;
    few = omega (arith, is.after.few, length-append sure others);
    after = subst (λ l. IsAfter s l is.last) (sym (take-append-add sure others is.after.count))
        is.after.after;
  };
  image_is = is.image_is;
}

-- none of the others
pub none_of : (s : Standing) (sure others : List Command) (last : Standing) (image : List ℕ)
    → IsAfter s sure last → IsOf last image → StandsAfterSome s sure others image
none_of s sure others last image after image_is = record {
  last = last;
  after = record {
    count = 0;
    few = omega arith;
    after =
        subst (λ l. IsAfter s l last) (sym (append-nil sure)) after;
  };
  image_is = image_is;
}

-- before or after one command more
pub before_or_after : (layout : Layout) (s : Standing) (commands : List Command) (last : Standing)
    (command : Command) (image : List ℕ)
    → IsAfter s commands last → IsBeforeOrAfter layout last command image
    → StandsAfterSome s commands (command ∷ []) image
before_or_after layout s commands last command image after outcome = ⊎_elim
    (λ before. none_of s commands (command ∷ []) last image after before)
    (λ next. record {
      last = next.1;
      after = record {
        count = 1;
        few = omega arith;
        after =
            after_one layout s commands last next.1 command next.0 after next.2;
      };
      image_is = next.3;
    })
    outcome

-- a device fault leaves the carousel in memory as it was
pub still_agrees : (view view' : RepositoryView) (s : Standing) → IsHalted view view'
    → Agrees view s → Agrees view' s
still_agrees view view' s halts agrees = record {
  geometry = halts.geometry ∙ agrees.geometry;
  extents = halts.extents ∙ agrees.extents;
  bodies = agrees.bodies;
  are_bodies = subst (λ (c : kept.Carousel). AreBodiesOf c agrees.bodies) (sym halts.carousel)
      agrees.are_bodies;
  carousel = agrees.carousel
      ∙ ap (λ (c : kept.Carousel). carousel_of c agrees.bodies) (sym halts.carousel);
}

-- So far: the marks, what the repository and each image now stand for, and what a crash since the
-- start leaves.
pub record Reached (layout : Layout) (view : RepositoryView) (start now : State) (s : Standing)
    (commands : List Command) (marks : List Bool) : Type 0 where
  -- what the disk stands for
  pub last : Standing
  -- the journal's layout is as it was
  pub layout_is : view.journal.layout ≡ layout
  -- each mark is right where it stands, and the last one leaves this
  pub marked : AreMarks layout s commands marks last
  -- each carousel on the way keeps its rules
  pub rules : RulesAlong s.geometry.objects s.carousel (accepted_commands commands marks)
  -- the repository and the disk hold it
  pub holds : Holds view last now
  -- at each moment so far a crash leaves a beginning of the accepted commands
  pub time : Throughout start now (StandsAfterSome s [] (accepted_commands commands marks))

-- a run that begins has no marks, on a disk as it was
pub begins : (view : RepositoryView) (start : State) (s : Standing) (commands : List Command)
    → IsHonestDisk start → Holds view s start
    → Reached view.journal.layout view start start s commands []
begins view start s commands sound holds = record {
  last = s;
  layout_is = refl;
  marked = refl;
  rules = tt;
  holds = holds;
  time = begins_moments start (StandsAfterSome s [] []) sound
      (λ image left. none_of s [] [] s image (after_none s) (holds.each image left));
}

module _ (layout : Layout) (view : RepositoryView) (start mid now : State) (s : Standing)
    (commands : List Command)
    (marks : List Bool) (command : Command) (at : slice_get commands (length marks) ≡ Some command)
    (so_far : Reached layout view start mid s commands marks) where
  after : IsAfter s (accepted_commands commands marks) so_far.last
  after = marks_after layout s commands marks so_far.last so_far.marked

  -- whatever the command comes to
  pub tried : Throughout mid now (IsBeforeOrAfter view.journal.layout so_far.last command)
      → Throughout start now (StandsAfterSome s []
      (accepted_commands commands marks ++ command ∷ []))
  tried time =
      let done : List Command = accepted_commands commands marks in
      let old = weakens start mid (StandsAfterSome s [] done)
      (StandsAfterSome s [] (done ++ command ∷ [])) so_far.time
      (λ image is. more s [] done (command ∷ []) image is) in
      joins start mid now (StandsAfterSome s [] (done ++ command ∷ []))
      (IsBeforeOrAfter view.journal.layout so_far.last command) old time
      (λ image outcome. less_sure s done (command ∷ []) image
      (before_or_after view.journal.layout s done so_far.last command image after outcome))

  -- an accepted command leads the run on by a true mark
  pub accepts : (view' : RepositoryView) (done : Done) (next : Standing)
      → view'.journal.layout ≡ view.journal.layout
      → after_command layout so_far.last command ≡ Ok (next, done) → IsHonestDisk now
      → Holds view' next now
      → Throughout mid now (IsBeforeOrAfter view.journal.layout so_far.last command)
      → Reached layout view' start now s commands (marks ++ true ∷ [])
  accepts view' done next same_layout step sound holds time = record {
    last = next;
    layout_is = same_layout ∙ so_far.layout_is;
    marked = one_true layout s commands marks so_far.last next command done at so_far.marked step;
    rules = subst (RulesAlong s.geometry.objects s.carousel)
        (sym (accepted-true commands marks command at))
        (along_both s.geometry.objects (accepted_commands commands marks) (command ∷ [])
        s.carousel so_far.last.carousel so_far.rules after.carousel
        (one_along layout s so_far.last next command done after.geometry step
        (rules_held view' next now sound holds)));
    holds = holds;
    time = subst (λ l. Throughout start now (StandsAfterSome s [] l))
        (sym (accepted-true commands marks command at)) (tried time);
  }

  -- a refused command leads the run on by a false mark
  pub refuses : (refusal : Refusal) → after_command layout so_far.last command ≡ Err refusal
      → has_long_name Two command ≡ false → Holds view so_far.last now → IsUnchanged mid now
      → Reached layout view start now s commands (marks ++ false ∷ [])
  refuses refusal refused short holds same = record {
    last = so_far.last;
    layout_is = so_far.layout_is;
    rules = subst (RulesAlong s.geometry.objects s.carousel)
        (sym (accepted-false commands marks command at)) so_far.rules;
    marked = one_false layout s commands marks so_far.last command refusal at so_far.marked refused
        short;
    holds = holds;
    time = subst (λ l. Throughout start now (StandsAfterSome s [] l))
        (sym (accepted-false commands marks command at))
        (stays start mid now (StandsAfterSome s [] (accepted_commands commands marks)) so_far.time
        same.time);
  }

  -- it ended in a device fault
  pub fails : (view' : RepositoryView) (first : RepositoryView) → first.journal.layout ≡ layout
      → IsHonestDisk now
      → IsHalted view view' → Throughout mid now
      (IsBeforeOrAfter view.journal.layout so_far.last command)
      → RunLeaves first view' start now s commands marks (Some DeviceFault)
  fails view' first same_layout sound halts time =
      let done : List Command = accepted_commands commands marks in
      let one = sym (flight commands marks command at) in
      record {
        last = so_far.last;
        after = after;
        marked = subst (λ l. AreMarks l s commands marks so_far.last) (sym same_layout)
            so_far.marked;
        rules = so_far.rules;
        agrees = still_agrees view view' so_far.last halts so_far.holds.agrees;
        going = λ e. absurd (not_both e);
        any_moment = subst (λ l. Throughout start now (StandsAfterSome s [] (done ++ l))) one
            (tried time);
        at_end = λ image left. subst (λ l. StandsAfterSome s done l image) one
            (before_or_after view.journal.layout s done so_far.last command image after
            (at_end mid now (IsBeforeOrAfter view.journal.layout so_far.last command) sound time
            image left));
      }

-- no command is in the air
pub rests : (layout : Layout) (first view : RepositoryView) (start now : State) (s : Standing)
    (commands : List Command)
    (marks : List Bool) (fault : Option Refusal) → first.journal.layout ≡ layout
    → Reached layout view start now s commands marks
    → RunLeaves first view start now s commands marks fault
rests layout first view start now s commands marks fault same_layout so_far =
    let done : List Command = accepted_commands commands marks in
    let others : List Command = commands_in_flight commands marks fault in
    let after = marks_after layout s commands marks so_far.last so_far.marked in
    record {
      last = so_far.last;
      after = after;
      marked = subst (λ l. AreMarks l s commands marks so_far.last) (sym same_layout) so_far.marked;
      rules = so_far.rules;
      agrees = so_far.holds.agrees;
      going = λ e. so_far.holds;
      any_moment = weakens start now (StandsAfterSome s [] done)
          (StandsAfterSome s [] (done ++ others)) so_far.time
          (λ image is. more s [] done others image is);
      at_end = λ image left. none_of s done others so_far.last image after
          (so_far.holds.each image left);
    }

-- a call that changes nothing on the disk leaves the run where it is
pub idles : (layout : Layout) (view : RepositoryView) (start mid now : State) (s : Standing)
    (commands : List Command)
    (marks : List Bool) → Reached layout view start mid s commands marks → Keeps mid now
    → IsUnchanged mid now
    → Reached layout view start now s commands marks
idles layout view start mid now s commands marks so_far keeps same = record {
  last = so_far.last;
  layout_is = so_far.layout_is;
  marked = so_far.marked;
  rules = so_far.rules;
  holds = holds_still view view so_far.last mid now so_far.holds
      (keeps.honest so_far.holds.journal.honest) same refl;
  time = stays start mid now (StandsAfterSome s [] (accepted_commands commands marks)) so_far.time
      same.time;
}

-- with one mark more the marks are as many as the next index
pub one_longer : (marks marks' : List Bool) (mark : Bool) (index : ℕ) → marks' ≡ marks ++ mark ∷ []
    → length marks ≡ index
    → length marks' ≡ index + 1
one_longer marks marks' mark index e len =
    omega (arith, ap length e, length-append marks (mark ∷ []), len)
