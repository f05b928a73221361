-- A disk from its formatting on that is served lines: what a crash leaves of them, line by line.
use Rattle.std.proofs.Common.{◌≡◌, ◌⊎◌, inl, inr, ⊎_elim, ℕ, ◌≤◌, Bool, true, false, List, [], ◌∷◌}
use Rattle.std.proofs.Common.{◌++◌, length, map, Option, Result, Ok, Err, refl, sym, ap, ◌∙◌, subst}
use Rattle.std.proofs.Common.{arith, append_assoc, append-nil, Some, None, take}
use Rattle.std.proofs.KnownBytes.{Appends-trans, Appends-nil, Appends-kept, Keeps-refl}
use Rattle.std.proofs.KnownBytes.{Consumes-kept, Consumes-nil}
use Rattle.std.proofs.lemmas.List.{length-map}
use Rattle.std.specs.Io.KnownBytes.{Appends, IsAtEnd, Keeps}
use Rattle.std.specs.List.{AllByRecursion, flat_map}
use Rattle.std.specs.Prelude.{IsTrue, IsFalse, IfOk, if◌then◌else◌}
use Rattle.disk_model.specs.Disk.{State, IsHonestDisk, IsUnchanged, Rises}
use Rattle.mot_journal.specs.declared.layout.Layout.TheVariants.{Two}
use Rattle.mot_journal.specs.Image.{Standing}
use Rattle.mot_journal.specs.Journal.{standing_from}
use Rattle.mot_lines.specs.declared.line.Line.{Line}
use Rattle.mot_lines.specs.declared.line.Line.TheVariants as asks
use Rattle.mot_lines.specs.Line.{line_of}
use Rattle.mot_lines.specs.Lines.{lines_of, whole_lines, rest_of, unless_empty}
use Rattle.mot_numbers.specs.declared.geometry.Geometry.{Geometry}
use Rattle.mot_numbers.specs.declared.refusal.Refusal.{Refusal}
use Rattle.mot_numbers.specs.declared.refusal.Refusal.TheVariants.{OutOfMemory, ReadFault}
use Rattle.mot_numbers.specs.declared.refusal.Refusal.TheVariants.{WriteFault}
use Rattle.mot_objects.specs.declared.command.Command as command
use Rattle.mot_player.specs.Reading.{ReadsAs}
use Rattle.mot_repository.specs.Repository.{IsOf, Holds}
use Rattle.mot_objects.specs.Carousel.{Carousel, carousel_after, AllKeepRules}
use Rattle.mot_playout.specs.Life.{AreNumbered, carousel_from}
use Rattle.mot_playout.specs.Runs.{IsAfter, StandsAfterSome, ServerView}
use Rattle.mot_playout.proofs.Laws.{more, none_of, not_halted, rises_on}
use Rattle.mot_playout.specs.Lives.{HasDone, LivesOn}
use Rattle.mot_session.specs.Inner.Writes.{IsKeptFrom}
use Rattle.mot_session.specs.Life.{Told, commands_done, done_in, AreRightReplies, fails_in, Tells}
use Rattle.mot_session.specs.Life.{is_done}
use Rattle.mot_session.specs.Replies.{IsReply}
use Rattle.mot_repository.proofs.Laws.{rules_kept}
use Rattle.mot_session.specs.LineByLine.{BreaksOff, ServesEach, ServesOne, ServesSome}
use Rattle.mot_session.specs.Served.{EndsServing, TakesInput}
use Rattle.mot_session.specs.Session.{text_of, ServerState, StandsFor, state_of, command_in}
use Rattle.mot_session.specs.Kept.{HoldsSince, IsToldAndStored}
use Rattle.mot_session.proofs.Crashes.{halted_or_not}
use Rattle.mot_session.proofs.Ends.{memory_not_read, read_not_write}
use Rattle.mot_session.proofs.Outcomes.{Outcome, nothing, one, halts}
use Rattle.mot_session.proofs.Ruled.{HasImage, carousel_at, layout_stays, line-short, right_more}
use Rattle.mot_session.proofs.Ruled.{right_reply, rights_weaker}
use Rattle.mot_session.proofs.Shown.{begun, front_begun, replied}
use Rattle.mot_session.proofs.Telling.{begun_told, done_of_front, not_both, sure_flight}
use Rattle.mot_session.proofs.Telling.{told_outcome}
use Rattle.mot_session.proofs.Telling as telling
use Rattle.mot_session.proofs.Told.{less_of_sure}

-- the commands that were told to have failed
abbrev pub commands_failing : List Told → List command.Command
commands_failing told = flat_map fails_in told

-- what a crash now leaves, where these commands are sure and those may be there besides
pub record At (s : Standing) (now : State) (is_halted : Bool) (sure early : List command.Command) :
    Type 0
  where
    -- a crash now leaves all of the sure commands, and a beginning of the early ones
    pub leaves : (image : List ℕ) → now.MayLeave image → StandsAfterSome s sure early image
    -- where the server is not halted, there are no early ones
    pub going : IsFalse is_halted → early ≡ []
    -- there is at most one early one
    pub few : length early ≤ 1

-- one line more, which brought commands that are done and ones that the disk cut off
pub record Step (s : Standing) (old mid : State) (was is : Bool) (standing : Standing)
    (sure early done failing : List command.Command) : Type 0 where
  -- the disk's clock does not go back
  pub later : old.moment ≤ mid.moment
  -- the sure commands and those done make the standing
  pub after : IsAfter s (sure ++ done) standing
  -- a crash then leaves these, and a beginning of the early and of the failed ones
  pub leaves : (image : List ℕ) → mid.MayLeave image
      → StandsAfterSome s (sure ++ done) (early ++ failing) image
  -- where the server is not halted then, no others may be there
  pub going : IsFalse is → early ++ failing ≡ []
  -- what a crash leaves, it left before the line, or it has the sure ones and some of the line's
  pub before : (t : ℕ) (image : List ℕ) → t ≤ old.moment → mid.LeftSince t image
      → old.LeftSince t image ⊎ (IsFalse was × StandsAfterSome s sure (done ++ failing) image)
  -- a halted server stays halted, and does nothing
  pub halted : IsTrue was → IsTrue is × (done ≡ []) × (failing ≡ [])
  -- no command failed, or none was done and the server is halted
  pub stops : (failing ≡ []) ⊎ ((done ≡ []) × IsTrue is)
  -- at most one command may be there besides
  pub few : length (early ++ failing) ≤ 1
  pub few_all : length (early ++ (done ++ failing)) ≤ 1

few_if : (b : Bool) (request : Result Line Refusal)
    → length (if b then command_in request else []) ≤ 1
few_if true (Err r) = omega arith
few_if true (Ok (asks.Command c)) = omega arith
few_if true (Ok asks.List) = omega arith
few_if true (Ok (asks.Raw kind tid body)) = omega arith
few_if true (Ok (asks.Next count)) = omega arith
few_if true (Ok asks.Turn) = omega arith
few_if false request = omega arith

pub one_at_most : (b c : Bool) (l : List command.Command) → (b ≡ false) ⊎ (c ≡ false)
    → ((if b then l else []) ++ (if c then l else []) ≡ [])
    ⊎ ((if b then l else []) ++ (if c then l else []) ≡ l)
one_at_most true true l (inl e) = cc
one_at_most true true l (inr e) = cc
one_at_most true false l e = inr (append-nil l)
one_at_most false true l e = inr refl
one_at_most false false l e = inl refl

module _ (s : Standing) (start now : State) (before behind : ServerState) (t : Told)
    (sound : IsHonestDisk now) (still : IsTrue before.halted → IsUnchanged start now)
    (told : IsToldAndStored start now before (done_in t) (fails_in t) behind)
    (sure early : List command.Command)
    (after : IsAfter s sure before.standing) (at : At s start before.halted sure early) where
  abbrev Told-Outcome : Type 0
  Told-Outcome = Outcome before behind (done_in t) (fails_in t)

  quiet : Told-Outcome → IsTrue before.halted → (done_in t ≡ []) × (fails_in t ≡ [])
      × (behind.standing ≡ before.standing) × IsTrue behind.halted
  quiet (nothing none fine standing same) is = (none, fine, standing, same ∙ is)
  quiet (one c d e fine going same step) is = absurd (not_halted before.halted is going)
  quiet (halts none going so standing rises) is = absurd (not_halted before.halted is going)

  fine_behind : Told-Outcome → IsFalse behind.halted → fails_in t ≡ []
  fine_behind (nothing none fine standing same) going = fine
  fine_behind (one c d e fine was same step) going = fine
  fine_behind (halts none was so standing rises) going = absurd (not_halted behind.halted so going)

  stops_of : Told-Outcome → (fails_in t ≡ []) ⊎ ((done_in t ≡ []) × IsTrue behind.halted)
  stops_of (nothing none fine standing same) = inl fine
  stops_of (one c d e fine was same step) = inl fine
  stops_of (halts none was so standing rises) = inr (none, so)

  few_done : length (done_in t) ≤ 1
  few_done = few_if (is_done t.text) (line_of t.line)

  few_failed : length (fails_in t) ≤ 1
  few_failed = few_if (telling.is_fault t.text) (line_of t.line)

  few_both : (fails_in t ≡ []) ⊎ ((done_in t ≡ []) × IsTrue behind.halted)
      → length (done_in t ++ fails_in t) ≤ 1
  few_both (inl none) = subst (λ l. length l ≤ 1)
      (sym (ap (λ l. done_in t ++ l) none ∙ append-nil (done_in t))) few_done
  few_both (inr (none, so)) =
      subst (λ l. length l ≤ 1) (sym (ap (λ l. l ++ fails_in t) none)) few_failed

  step_halted : Told-Outcome → IsTrue before.halted
      → Step s start now before.halted behind.halted behind.standing sure early
      (done_in t) (fails_in t)
  step_halted what is =
      let none = quiet what is in
      let unchanged = still is in
      let same_sure : sure ++ done_in t ≡ sure =
      ap (λ l. sure ++ l) none.0 ∙ append-nil sure in
      let same_early : early ++ fails_in t ≡ early =
      ap (λ l. early ++ l) none.1 ∙ append-nil early in
      record {
        later = unchanged.time.later;
        after = subst (λ l. IsAfter s l behind.standing) (sym same_sure)
            (subst (λ a. IsAfter s sure a) (sym none.2) after);
        leaves = λ image left. subst (λ l. StandsAfterSome s l (early ++ fails_in t) image)
            (sym same_sure) (subst (λ l. StandsAfterSome s sure l image) (sym same_early)
            (at.leaves image ((unchanged.images image).0 left)));
        going = λ going. absurd (not_halted behind.halted none.3 going);
        before = λ moment image early_enough left.
            ⊎_elim {C = start.LeftSince moment image ⊎ (IsFalse before.halted
            × StandsAfterSome s sure (done_in t ++ fails_in t) image)}
            (λ was. inl was) (λ never. absurd never)
            (unchanged.time.nothing_else moment image early_enough left);
        halted = λ was. (none.3, none.0, none.1);
        stops = inl none.1;
        few = subst (λ l. length l ≤ 1) (sym same_early) at.few;
        few_all = subst (λ l. length l ≤ 1)
            (sym (ap (λ l. early ++ (l ++ fails_in t)) none.0 ∙ same_early)) at.few;
      }

  step_going : Told-Outcome → IsFalse before.halted
      → Step s start now before.halted behind.halted behind.standing sure early
      (done_in t) (fails_in t)
  step_going what going =
      let kept = told going s sure after in
      let none = at.going going in
      record {
        later = kept.any_moment.later;
        after = kept.after;
        leaves = λ image left.
            subst (λ l. StandsAfterSome s (sure ++ done_in t) (l ++ fails_in t) image)
            (sym none)
            (kept.at_end image (sound.counts_now now.moment image (omega arith) left));
        going = λ is. subst (λ l. l ++ fails_in t ≡ []) (sym none) (fine_behind what is);
        before = λ moment image early_enough left.
            ⊎_elim {C = start.LeftSince moment image ⊎ (IsFalse before.halted
            × StandsAfterSome s sure (done_in t ++ fails_in t) image)}
            (λ was. inl was) (λ came. inr (going, came))
            (kept.any_moment.before moment image early_enough left);
        halted = λ was. absurd (not_halted before.halted was going);
        stops = stops_of what;
        few = subst (λ l. length (l ++ fails_in t) ≤ 1) (sym none) few_failed;
        few_all = subst (λ l. length (l ++ (done_in t ++ fails_in t)) ≤ 1) (sym none)
            (few_both (stops_of what));
      }

  pub step_made : Told-Outcome
      → Step s start now before.halted behind.halted behind.standing sure early
      (done_in t) (fails_in t)
  step_made what = ⊎_elim (step_halted what) (step_going what) (halted_or_not before.halted)

-- What a crash leaves of lines that follow, with the commands that may be in flight behind them;
-- early are those that were before. These are the commands of the line behind the last.
pub record Kept (s : Standing) (now old : State) (was : Bool)
    (sure early next : List command.Command)
    (told : List Told) (flight : List command.Command) : Type 0 where
  -- what a crash leaves, it left before the lines, or it has the sure ones and some of theirs
  pub before : (t : ℕ) (image : List ℕ) → t ≤ old.moment → now.LeftSince t image
      → old.LeftSince t image
      ⊎ (IsFalse was × StandsAfterSome s sure (commands_done told ++ flight) image)
  -- since each moment a crash leaves what was sure then, and a beginning of the later ones
  pub since : IsKeptFrom (λ t sure others. HoldsSince now t s sure others) old.moment sure told
      (early ++ flight)
  -- now it leaves all that was told done, and a beginning of those in flight
  pub at_end : (image : List ℕ) → now.MayLeave image
      → StandsAfterSome s (sure ++ commands_done told) (early ++ flight) image
  -- a halted server does nothing, and has nothing in flight
  pub halted : IsTrue was → (commands_done told ≡ []) × (flight ≡ [])
  -- at most one command may be there besides
  pub few : length (early ++ flight) ≤ 1
  -- in flight are those that were told to have failed, or else those of the line behind
  pub which : (flight ≡ commands_failing told)
      ⊎ ((commands_failing told ≡ []) × (flight ≡ next))

-- no line
kept_none : (s : Standing) (now : State) (was : Bool) (sure early : List command.Command)
    → IsHonestDisk now → At s now was sure early → Kept s now now was sure early [] [] []
unfolding IsKeptFrom
kept_none s now was sure early sound at = record {
  before = λ t image le left. inl left;
  since = λ image left. subst (λ l. StandsAfterSome s sure l image) (sym (append-nil early))
      (at.leaves image (sound.only_now image left));
  at_end = λ image left. subst (λ l. StandsAfterSome s l (early ++ []) image)
      (sym (append-nil sure)) (subst (λ l. StandsAfterSome s sure l image)
      (sym (append-nil early)) (at.leaves image left));
  halted = λ is. (refl, refl);
  few = subst (λ l. length l ≤ 1) (sym (append-nil early)) at.few;
  which = inl refl;
}

module _ (s : Standing) (now old mid : State) (was is : Bool) (standing : Standing)
    (sure early : List command.Command) (sound_old : IsHonestDisk old)
    (at : At s old was sure early) where
  -- since the moment before a line
  pub since_before : (done failing : List command.Command)
      → Step s old now was is standing sure early done failing
      → (image : List ℕ) → now.LeftSince old.moment image
      → StandsAfterSome s sure (early ++ (done ++ failing)) image
  since_before done failing step image left =
      ⊎_elim {C = StandsAfterSome s sure (early ++ (done ++ failing)) image}
      (λ o. more s sure early (done ++ failing) image
      (at.leaves image (sound_old.only_now image o)))
      (λ came. subst (λ l. StandsAfterSome s sure (l ++ (done ++ failing)) image)
      (sym (at.going came.0)) came.1)
      (step.before old.moment image (omega arith) left)

  -- a line whose reply was broken off
  kept_broken : (done failing next : List command.Command)
      → Step s old now was is standing sure early done failing → IsHonestDisk now
      → (done ++ failing ≡ []) ⊎ (done ++ failing ≡ next)
      → Kept s now old was sure early next [] (done ++ failing)
  unfolding IsKeptFrom
  kept_broken done failing next step sound which = record {
    before = step.before;
    since = since_before done failing step;
    at_end = λ image left.
        subst (λ l. StandsAfterSome s l (early ++ (done ++ failing)) image) (sym (append-nil sure))
        (since_before done failing step image
        (sound.counts_now old.moment image step.later left));
    halted = λ h. let none = step.halted h in
        (refl, ap (λ l. l ++ failing) none.1 ∙ none.2);
    few = step.few_all;
    which = ⊎_elim (λ none. inl none) (λ next. inr (refl, next)) which;
  }

  -- one line, and those behind it
  module _ (x : Told) (next : List command.Command) (told : List Told)
      (flight : List command.Command)
      (step : Step s old mid was is standing sure early (done_in x) (fails_in x))
      (rest : Kept s now mid is (sure ++ done_in x) (early ++ fails_in x) next told flight) where
    was_going : IsFalse is → IsFalse was
    was_going going = ⊎_elim (λ h. absurd (not_halted is (step.halted h).0 going)) (λ g. g)
        (halted_or_not was)

    none_failing : IsFalse is → fails_in x ≡ []
    none_failing going =
        subst (λ l. l ++ fails_in x ≡ []) (at.going (was_going going)) (step.going going)

    in_order : fails_in x ≡ [] → (done_in x ++ commands_done told) ++ (fails_in x ++ flight)
        ≡ done_in x ++ (commands_done told ++ flight)
    in_order none = ap (λ l. (done_in x ++ commands_done told) ++ (l ++ flight)) none
        ∙ append_assoc (done_in x) (commands_done told) flight

    -- an image that came with the line
    wide : (image : List ℕ) → StandsAfterSome s sure (done_in x ++ fails_in x) image
        → StandsAfterSome s sure
        ((done_in x ++ commands_done told) ++ (fails_in x ++ flight)) image
    wide image came = ⊎_elim
        {C = StandsAfterSome s sure
        ((done_in x ++ commands_done told) ++ (fails_in x ++ flight)) image}
        (λ none. subst (λ l. StandsAfterSome s sure l image) (sym (in_order none))
        (more s sure (done_in x) (commands_done told ++ flight) image
        (subst (λ l. StandsAfterSome s sure l image)
        (ap (λ l. done_in x ++ l) none ∙ append-nil (done_in x)) came)))
        (λ stop. let none = rest.halted stop.1 in
        subst (λ l. StandsAfterSome s sure l image)
        (sym (ap (λ l. (done_in x ++ l) ++ (fails_in x ++ flight)) none.0
        ∙ ap (λ l. (done_in x ++ []) ++ (fails_in x ++ l)) none.1
        ∙ ap (λ l. l ++ (fails_in x ++ [])) (append-nil (done_in x))
        ∙ ap (λ l. done_in x ++ l) (append-nil (fails_in x)))) came)
        step.stops

    -- one that came behind it
    far : (image : List ℕ) → fails_in x ≡ []
        → StandsAfterSome s (sure ++ done_in x) (commands_done told ++ flight) image
        → StandsAfterSome s sure
        ((done_in x ++ commands_done told) ++ (fails_in x ++ flight)) image
    far image none came = subst (λ l. StandsAfterSome s sure l image) (sym (in_order none))
        (less_of_sure s sure (done_in x) (commands_done told ++ flight) image came)

    abbrev Comes : ℕ → List ℕ → Type 0
    Comes t image = old.LeftSince t image ⊎ (IsFalse was × StandsAfterSome s sure
        ((done_in x ++ commands_done told) ++ (fails_in x ++ flight)) image)

    comes : (t : ℕ) (image : List ℕ) → t ≤ old.moment → now.LeftSince t image → Comes t image
    comes t image le left =
        let later = step.later in
        ⊎_elim {C = Comes t image}
        (λ by_mid. ⊎_elim {C = Comes t image} (λ o. inl o)
        (λ came. inr (came.0, wide image came.1)) (step.before t image le by_mid))
        (λ came. inr (was_going came.0, far image (none_failing came.0) came.1))
        (rest.before t image (omega (arith, le, later)) left)

    -- since the moment before the line
    here : (image : List ℕ) → now.LeftSince old.moment image → StandsAfterSome s sure
        ((done_in x ++ commands_done told) ++ (early ++ (fails_in x ++ flight))) image
    here image left = ⊎_elim
        {C = StandsAfterSome s sure
        ((done_in x ++ commands_done told) ++ (early ++ (fails_in x ++ flight))) image}
        (λ o. ⊎_elim
        {C = StandsAfterSome s sure
        ((done_in x ++ commands_done told) ++ (early ++ (fails_in x ++ flight))) image}
        (λ h. let none = step.halted h in
        let others = rest.halted none.0 in
        subst (λ l. StandsAfterSome s sure l image)
        (sym (ap (λ l. (l ++ commands_done told) ++ (early ++ (fails_in x ++ flight))) none.1
        ∙ ap (λ l. l ++ (early ++ (fails_in x ++ flight))) others.0
        ∙ ap (λ l. early ++ (l ++ flight)) none.2
        ∙ ap (λ l. early ++ l) others.1 ∙ append-nil early))
        (at.leaves image (sound_old.only_now image o)))
        (λ g. more s sure []
        ((done_in x ++ commands_done told) ++ (early ++ (fails_in x ++ flight))) image
        (subst (λ l. StandsAfterSome s sure l image) (at.going g)
        (at.leaves image (sound_old.only_now image o))))
        (halted_or_not was))
        (λ came. subst (λ l. StandsAfterSome s sure
        ((done_in x ++ commands_done told) ++ (l ++ (fails_in x ++ flight))) image)
        (sym (at.going came.0)) came.1)
        (comes old.moment image (omega arith) left)

    abbrev Which : Type 0
    Which = (fails_in x ++ flight ≡ fails_in x ++ commands_failing told)
        ⊎ ((fails_in x ++ commands_failing told ≡ []) × (fails_in x ++ flight ≡ next))

    which_is : Which
    which_is = ⊎_elim {C = Which} (λ same. inl (ap (λ l. fails_in x ++ l) same))
        (λ other. ⊎_elim {C = Which}
        (λ none. inr (
          ap (λ l. l ++ commands_failing told) none ∙ other.0,
          ap (λ l. l ++ flight) none ∙ other.1,
        ))
        (λ stop. inl (ap (λ l. fails_in x ++ l) ((rest.halted stop.1).1 ∙ sym other.0)))
        step.stops) rest.which

    kept_more : Kept s now old was sure early next (x ∷ told) (fails_in x ++ flight)
    unfolding IsKeptFrom
    kept_more = record {
      before = comes;
      since = (
        here,
        mid.moment,
        step.later,
        subst (λ l. IsKeptFrom (λ t sure others. HoldsSince now t s sure others) mid.moment
            (sure ++ done_in x) told l) (append_assoc early (fails_in x) flight) rest.since,
      );
      at_end = λ image left.
          subst (λ l. StandsAfterSome s l (early ++ (fails_in x ++ flight)) image)
          (append_assoc sure (done_in x) (commands_done told))
          (subst (λ l. StandsAfterSome s ((sure ++ done_in x) ++ commands_done told) l image)
          (append_assoc early (fails_in x) flight) (rest.at_end image left));
      halted = λ h. let none = step.halted h in
          let others = rest.halted none.0 in (
            ap (λ l. l ++ commands_done told) none.1 ∙ others.0,
            ap (λ l. l ++ flight) none.2 ∙ others.1,
          );
      few = subst (λ l. length l ≤ 1) (append_assoc early (fails_in x) flight) rest.few;
      which = which_is;
    }

-- ---- commands that are told to have failed

-- a line's command failed only on a disk that did
pub line_failed : (before after : ServerState) (done failed : List command.Command)
    → Outcome before after done failed → (failed ≡ []) ⊎ Rises before.failures after.failures
line_failed before after done failed (nothing none fine standing same) = inl fine
line_failed before after done failed (one c d is fine was same step) = inl fine
line_failed before after done failed (halts none was so standing rises) = inr rises

-- so often the disk had failed before lines and behind them, and where it did not in between none
-- of their commands is told to have failed
pub record FailsSo (before now : ℕ) (told : List Told) : Type 0 where
  pub later : before ≤ now
  pub cause : (commands_failing told ≡ []) ⊎ Rises before now

rises-later : (before mid now : ℕ) → mid ≤ now → Rises before mid → Rises before now
rises-later before mid now le (inl less) = inl (omega (arith, le, less))
rises-later before mid now le (inr most) = inr most

fails_more : (before mid now : ℕ) (t : Told) (told : List Told) → before ≤ mid
    → (fails_in t ≡ []) ⊎ Rises before mid → FailsSo mid now told → FailsSo before now (t ∷ told)
fails_more before mid now t told le line rest = record {
  later = let later = rest.later in omega (arith, le, later);
  cause = ⊎_elim {C = (commands_failing (t ∷ told) ≡ []) ⊎ Rises before now}
      (λ none. ⊎_elim {C = (commands_failing (t ∷ told) ≡ []) ⊎ Rises before now}
      (λ others. inl (ap (λ l. l ++ commands_failing told) none ∙ others))
      (λ rises. inr (rises_on before mid now le rest.later rises)) rest.cause)
      (λ rises. inr (rises-later before mid now rest.later rises)) line;
}

-- ---- lines that were served, from a server to a server

abbrev lines_told : List Told → List (List ℕ)
lines_told told = map (λ (t : Told). t.line) told

line_more : (line : List ℕ) (told : List Told) (lines : List (List ℕ)) → lines_told told ≡ lines
    → line ∷ lines_told told ≡ line ∷ lines
line_more line told lines same = ap (λ (l : List (List ℕ)). line ∷ l) same

abbrev texts_told : List Told → List ℕ
texts_told told = flat_map (λ (t : Told). t.text) told

module _ {D : Type 0} (state : D → State)
    (sound : (disk : D) → (state disk).IsHonest → IsHonestDisk (state disk)) (s : Standing) where
  pub each_honest : (old new : ServerView D) (lines : List (List ℕ)) (written now : Option (List ℕ))
      → ServesEach state old lines new written now → (state new.disk).IsHonest
      → (state old.disk).IsHonest
  each_honest old new [] written now same honest =
      subst (λ (v : ServerView D). (state v.disk).IsHonest) same.0 honest
  each_honest old new (line ∷ lines) written now each honest =
      each.2.goes.keeps.was_honest (each_honest each.0 new lines each.1 now each.3 honest)

  -- what is kept of lines that were served from here, up to this state of the disk, and what was
  -- begun behind them
  abbrev pub KeptFrom : State → List command.Command → (List ℕ → Type 0) → ServerView D
      → List (List ℕ) → Option (List ℕ) → Option (List ℕ) → Type 0
  KeptFrom last next Begun old lines written now =
      (standing : Standing) (sure early : List command.Command)
      → StandsFor old.view standing (state old.disk) → IsAfter s sure standing
      → At s (state old.disk) old.view.halted sure early
      → (told : List Told) × (flight : List command.Command)
      × (map (λ (t : Told). t.line) told ≡ lines)
      × Appends written now (flat_map (λ (t : Told). t.text) told)
      × Kept s last (state old.disk) old.view.halted sure early next told flight
      × AllByRecursion (λ (t : Told). IsReply s.geometry (line_of t.line) t.text) told
      × (front : List ℕ) × Begun front
      × (IsTrue (is_done front) → IsFalse old.view.halted × (flight ≡ next))
      × (old.view.journal.layout ≡ Two
      → AreRightReplies (Rises (state old.disk).failures last.failures) s.geometry
      (carousel_at (state_of old standing (state old.disk))) told)
      × FailsSo (state old.disk).failures last.failures told

  -- what a server that stands for this keeps has objects by the rules
  pub rules_of : (server : ServerView D) (standing : Standing) → (state server.disk).IsHonest
      → StandsFor server.view standing (state server.disk) → IsFalse server.view.halted
      → AllKeepRules standing.carousel
  rules_of server standing honest stands going =
      let now = state server.disk in
      let so = sound server.disk honest in
      rules_kept now.bytes standing (so.images now.bytes so.bytes).are_bytes
      ((stands.holds going).each now.bytes so.bytes).stands

  -- and it is what an image has
  pub image_of : (server : ServerView D) (standing : Standing) → (state server.disk).IsHonest
      → StandsFor server.view standing (state server.disk) → IsFalse server.view.halted
      → HasImage standing
  image_of server standing honest stands going =
      let now = state server.disk in
      let so = sound server.disk honest in (
        now.bytes,
        (so.images now.bytes so.bytes).are_bytes,
        ((stands.holds going).each now.bytes so.bytes).stands,
      )

  pub kept_here : (server : ServerView D) (known : Option (List ℕ)) → (state server.disk).IsHonest
      → KeptFrom (state server.disk) [] (λ front. front ≡ []) server [] known known
  kept_here server known honest = λ standing sure early stands after at. (
    [],
    [],
    refl,
    Appends-nil known,
    kept_none s (state server.disk) server.view.halted sure early (sound server.disk honest) at,
    tt,
    [],
    refl,
    λ so. let e : false ≡ true = so in cc,
    λ two. tt,
    record { later = omega arith; cause = inl refl },
  )

  module _ (old mid : ServerView D) (line : List ℕ) (written between : Option (List ℕ))
      (honest : (state mid.disk).IsHonest) (one_line : ServesOne state old line mid written between)
      (last : State) (next : List command.Command) (Begun : List ℕ → Type 0)
      (lines : List (List ℕ)) (now : Option (List ℕ))
      (rest : KeptFrom last next Begun mid lines between now) where
    kept_line : KeptFrom last next Begun old (line ∷ lines) written now
    kept_line = λ standing sure early stands after at.
        let was_honest = one_line.goes.keeps.was_honest honest in
        let led = one_line.answered standing stands honest in
        let served = led.2 in
        let before = state_of old standing (state old.disk) in
        let behind = state_of mid led.0 (state mid.disk) in
        let t : Told = record { line = line; text = text_of served.reply } in
        let what = told_outcome before behind line served.reply served.answers in
        let step = step_made s (state old.disk) (state mid.disk) before behind t
        (sound mid.disk honest) (λ h. (one_line.goes.halted h).1 honest) served.stored sure early
        after at what in
        let others = rest led.0 (sure ++ done_in t) (early ++ fails_in t) led.1 step.after
        (record { leaves = step.leaves; going = step.going; few = step.few }) in (
          t ∷ others.0,
          fails_in t ++ others.1,
          line_more line others.0 lines others.2,
          Appends-trans written between now (text_of served.reply)
              (flat_map (λ (u : Told). u.text) others.0) served.appended others.3,
          kept_more s last (state old.disk) (state mid.disk) old.view.halted mid.view.halted led.0
              sure early (sound old.disk was_honest) at t next others.0 others.1 step others.4,
          (
            replied s.geometry before behind (line_of line) served.reply after.geometry
                (rules_of old standing was_honest stands) served.answers,
            others.5,
          ),
          others.6,
          others.7,
          λ so. let is = others.8 so in
              let none = none_failing s last (state old.disk) (state mid.disk) old.view.halted
              mid.view.halted led.0 sure early (sound old.disk was_honest) at t next others.0
              others.1 step others.4 is.0 in (
                was_going s last (state old.disk) (state mid.disk) old.view.halted mid.view.halted
                    led.0 sure early (sound old.disk was_honest) at t next others.0 others.1 step
                    others.4 is.0,
                ap (λ l. l ++ others.1) none ∙ is.1,
              ),
          λ two.
              let first = (state old.disk).failures in
              let middle = (state mid.disk).failures in
              right_more before behind two (Rises first last.failures)
              (rises-later first middle last.failures others.10.later)
              s.geometry after.geometry line (text_of served.reply)
              others.0 (carousel_at before) (carousel_at behind)
              (right_reply before behind two (line_of line) served.reply (line-short line)
              (image_of old standing was_honest stands) (rules_of old standing was_honest stands)
              served.answers)
              (rights_weaker (Rises middle last.failures) (Rises first last.failures)
              (rises_on first middle last.failures one_line.goes.keeps.later others.10.later)
              s.geometry (carousel_at behind) others.0
              (others.9 (layout_stays before behind two (line_of line) served.reply served.answers
              ∙ two))),
          fails_more (state old.disk).failures (state mid.disk).failures last.failures t others.0
              one_line.goes.keeps.later
              (line_failed before behind (done_in t) (fails_in t) what) others.10,
        )

  pub kept_each : (last : State) (next : List command.Command) (Begun : List ℕ → Type 0)
      (old mid : ServerView D) (lines : List (List ℕ)) (written between : Option (List ℕ))
      → ServesEach state old lines mid written between → (state mid.disk).IsHonest
      → KeptFrom last next Begun mid [] between between
      → KeptFrom last next Begun old lines written between
  kept_each last next Begun old mid [] written between same honest end =
      subst (λ k. KeptFrom last next Begun old [] k between) same.1
      (subst (λ (v : ServerView D). KeptFrom last next Begun v [] between between) same.0 end)
  kept_each last next Begun old mid (line ∷ lines) written between each honest end =
      kept_line old each.0 line written each.1
      (each_honest each.0 mid lines each.1 between each.3 honest) each.2 last next Begun lines
      between (kept_each last next Begun each.0 mid lines each.1 between each.3 honest end)

  -- the front of a reply to the line, behind what was written
  abbrev pub BegunBy : List ℕ → Option (List ℕ) → Option (List ℕ) → List ℕ → Type 0
  BegunBy line written now front = Appends written now front
      × (rest : List ℕ) × IsReply s.geometry (line_of line) (front ++ rest)

  -- the line whose reply was broken off
  pub kept_behind : (old new : ServerView D) (line : List ℕ) (written now known : Option (List ℕ))
      → BreaksOff state old line new written now → (state new.disk).IsHonest
      → KeptFrom (state new.disk) (command_in (line_of line)) (BegunBy line written now) old []
      known known
  kept_behind old new line written now known breaks honest =
      λ standing sure early stands after at.
      let was_honest = breaks.goes.keeps.was_honest honest in
      let led = breaks.broken standing stands honest in
      let stopped = led.2 in
      let before = state_of old standing (state old.disk) in
      let behind = state_of new led.0 (state new.disk) in
      let t : Told = record { line = line; text = text_of stopped.reply } in
      let step = step_made s (state old.disk) (state new.disk) before behind t
      (sound new.disk honest) (λ h. (breaks.goes.halted h).1 honest) stopped.stored sure early after
      at (begun_told before behind line stopped.reply stopped.broken.begins) in
      let goes = front_begun s.geometry (line_of line) (text_of stopped.reply)
      stopped.broken.written.written stopped.broken.written.unwritten stopped.broken.written.split
      (begun s.geometry before behind (line_of line) stopped.reply after.geometry
      (rules_of old standing was_honest stands) stopped.broken.begins) in (
        [],
        done_in t ++ fails_in t,
        refl,
        Appends-nil known,
        kept_broken s (state new.disk) (state old.disk) (state new.disk) old.view.halted
            new.view.halted led.0 sure early (sound old.disk was_honest) at
            (done_in t) (fails_in t) (command_in (line_of line)) step (sound new.disk honest)
            (one_at_most (is_done t.text) (telling.is_fault t.text) (command_in (line_of line))
            (not_both t.text)),
        tt,
        stopped.broken.written.written,
        (
          stopped.broken.written.appended,
          goes.0,
          goes.1,
        ),
        λ so. let is : is_done t.text ≡ true =
            subst (λ text. is_done text ≡ true) (sym stopped.broken.written.split)
            (done_of_front stopped.broken.written.written stopped.broken.written.unwritten so) in (
              telling.sure before behind (line_of line) stopped.reply stopped.broken.begins is,
              sure_flight (is_done t.text) (telling.is_fault t.text) (command_in (line_of line)) is
                  (not_both t.text),
            ),
        λ two. tt,
        record { later = breaks.goes.keeps.later; cause = inl refl },
      )

-- ---- what was told

-- a refusal that is there is not none
pub not_none : (r : Refusal) (o : Option Refusal) → o ≡ Some r → o ≡ None → ⊥
not_none r o some none = let e : None ≡ Some r = sym none ∙ some in cc

as_many : (lines : List (List ℕ)) (told : List Told) (count : ℕ) → lines_told told ≡ lines
    → count ≡ length lines → count ≡ length told
as_many lines told count same counted =
    counted ∙ ap length (sym same) ∙ length-map told (λ (t : Told). t.line)

module _ (g : Geometry) (input : List ℕ) (left : Option (List ℕ)) (count : ℕ)
    (fault : Option Refusal) (told : List Told)
    (flight : List command.Command) (old between new : Option (List ℕ))
    (written : Appends old between (texts_told told)) (few : length flight ≤ 1)
    (replies : AllByRecursion (λ (t : Told). IsReply g (line_of t.line) t.text) told) where
  -- all that was served was answered, up to the end of the input or a fault that is none of replies
  pub tells_all : (lines unanswered : List (List ℕ)) → lines_of input ≡ lines ++ unanswered
      → lines_told told ≡ lines → count ≡ length lines
      → (fault ≡ None → (unanswered ≡ []) × IsAtEnd left)
      → (fault ≡ Some ReadFault → unanswered ≡ unless_empty (rest_of input)) → Keeps between new
      → (flight ≡ commands_failing told) ⊎ ((commands_failing told ≡ []) × (flight ≡ []))
      → Tells g input left count fault told flight old new
  tells_all lines unanswered split same counted whole unread keeps which = record {
    unanswered = unanswered;
    lines = split ∙ ap (λ l. l ++ unanswered) (sym same);
    counted = as_many lines told count same counted;
    replies = replies;
    whole = whole;
    unread = unread;
    front = [];
    written = subst (λ l. Appends old new l) (sym (append-nil (texts_told told)))
        (Appends-kept old between new (texts_told told) written keeps);
    few = few;
    ends = inl (refl, ⊎_elim (λ e. e) (λ both. both.1 ∙ sym both.0) which);
  }

  -- the reply to the line behind them was broken off
  pub tells_some : (first : List (List ℕ)) (line : List ℕ) (others : List (List ℕ))
      (front : List ℕ) → lines_of input ≡ first ++ line ∷ others → lines_told told ≡ first
      → count ≡ length first → fault ≡ Some WriteFault → Appends between new front
      → ((rest : List ℕ) × IsReply g (line_of line) (front ++ rest))
      → (IsTrue (is_done front) → flight ≡ command_in (line_of line))
      → (flight ≡ commands_failing told)
      ⊎ ((commands_failing told ≡ []) × (flight ≡ command_in (line_of line)))
      → Tells g input left count fault told flight old new
  tells_some first line others front split same counted is broken goes sure which = record {
    unanswered = line ∷ others;
    lines = split ∙ ap (λ l. l ++ line ∷ others) (sym same);
    counted = as_many first told count same counted;
    replies = replies;
    whole = λ none. absurd (not_none WriteFault fault is none);
    unread = λ read. absurd (read_not_write (sym read ∙ is));
    front = front;
    written = Appends-trans old between new (texts_told told) front written broken;
    few = few;
    ends = inr (
      line,
      goes.0,
      others,
      refl,
      is,
      goes.1,
      ⊎_elim {C = (flight ≡ commands_failing told) ⊎ (flight ≡ command_in (line_of line))}
          (λ e. inl e) (λ both. inr both.1) which,
      sure,
    );
  }

-- the lines that are whole come first
pub lines_split : (input : List ℕ)
    → lines_of input ≡ whole_lines input ++ unless_empty (rest_of input)
unfolding lines_of
lines_split input = refl

-- ---- a server that has done commands

module _ {D : Type 0} (state : D → State) (g : Geometry) (first : ℕ)
    (sure others : List command.Command) (server : ServerView D)
    (has : HasDone state g first sure others server) where
  -- it stands for what they make
  pub done_stands : StandsFor server.view has.standing (state server.disk)
  done_stands = record { agrees = has.agrees; holds = λ going. (has.holds going).1 }

  -- and so does what a crash leaves
  pub done_at : At (standing_from g first has.standing.rest)
      (state server.disk) server.view.halted sure others
  done_at = record {
    leaves = has.leaves;
    going = λ going. (has.holds going).0;
    few = has.few;
  }

-- ---- a call of `serve` on a disk on which commands are done

module _ {D : Type 0} (state : D → State)
    (sound : (disk : D) → (state disk).IsHonest → IsHonestDisk (state disk)) (s : Standing)
    (done : List command.Command) (standing : Standing) (after : IsAfter s done standing)
    (opened new : ServerView D) (reads : ℕ) (unread left old now : Option (List ℕ)) (count : ℕ)
    (fault : Option Refusal) (honest : (state new.disk).IsHonest)
    (stands : StandsFor opened.view standing (state opened.disk))
    (at : At s (state opened.disk) opened.view.halted done []) where
  -- what was told, and what a crash leaves of it
  abbrev pub ServedSo : Type 0
  ServedSo = (input : List ℕ) × TakesInput reads unread left input
      × (told : List Told) × (flight : List command.Command) × (next : List command.Command)
      × Tells s.geometry input left count fault told flight old now
      × Kept s (state new.disk) (state opened.disk) opened.view.halted done [] next told flight
      × (opened.view.journal.layout ≡ Two
      → AreRightReplies (Rises (state opened.disk).failures (state new.disk).failures) s.geometry
      (carousel_at (state_of opened standing (state opened.disk))) told)
      × ((commands_failing told ≡ [])
      ⊎ Rises (state opened.disk).failures (state new.disk).failures)

  all_served : (input : List ℕ) → TakesInput reads unread left input
      → (lines unanswered : List (List ℕ)) → lines_of input ≡ lines ++ unanswered
      → count ≡ length lines → (fault ≡ None → (unanswered ≡ []) × IsAtEnd left)
      → (fault ≡ Some ReadFault → unanswered ≡ unless_empty (rest_of input))
      → (between : Option (List ℕ)) → Keeps between now
      → KeptFrom state sound s (state new.disk) [] (λ front. front ≡ []) opened lines old between
      → ServedSo
  all_served input takes lines unanswered split counted whole cut between keeps kept =
      let k = kept standing done [] stands after at in (
        input,
        takes,
        k.0,
        k.1,
        [],
        tells_all s.geometry input left count fault k.0 k.1 old between now k.3 k.4.few k.5 lines
            unanswered split k.2
            counted whole cut keeps k.4.which,
        k.4,
        k.9,
        k.10.cause,
      )

  each_served : (input : List ℕ) → TakesInput reads unread left input
      → (lines unanswered : List (List ℕ)) → lines_of input ≡ lines ++ unanswered
      → count ≡ length lines → (fault ≡ None → (unanswered ≡ []) × IsAtEnd left)
      → (fault ≡ Some ReadFault → unanswered ≡ unless_empty (rest_of input))
      → ServesEach state opened lines new old now → ServedSo
  each_served input takes lines unanswered split counted whole cut each =
      all_served input takes lines unanswered split counted whole cut now (Keeps-refl now)
      (kept_each state sound s (state new.disk) [] (λ front. front ≡ []) opened new lines old now
      each honest
      (kept_here state sound s new now honest))

  -- nothing was read
  none_served : new ≡ opened → count ≡ 0 → (fault ≡ None → ⊥) → (fault ≡ Some ReadFault → ⊥)
      → Keeps unread left → Keeps old now → ServedSo
  none_served same none faulty calm kept keeps =
      all_served []
      (record {
        consumed = Consumes-kept unread unread left [] (Consumes-nil unread) kept;
        bounded =
            omega arith;
      })
      [] (lines_of []) refl none (λ fine. absurd (faulty fine)) (λ read. absurd (calm read)) old
      keeps
      (subst (λ (v : ServerView D).
      KeptFrom state sound s (state new.disk) [] (λ front. front ≡ []) v [] old old) same
      (kept_here state sound s new old honest))

  -- a reply was broken off
  some_served : (input : List ℕ) → TakesInput reads unread left input
      → (lines rest : List (List ℕ)) → lines_of input ≡ lines ++ rest → fault ≡ Some WriteFault
      → ServesSome state opened lines count new old now → ServedSo
  some_served input takes lines rest split is some =
      let breaks = some.breaks in
      let k = kept_each state sound s (state new.disk) (command_in (line_of some.line))
      (BegunBy state sound s some.line some.between now) opened some.mid some.first old
      some.between some.each (breaks.goes.keeps.was_honest honest)
      (kept_behind state sound s some.mid new some.line some.between now some.between
      breaks honest) standing done [] stands after at in (
        input,
        takes,
        k.0,
        k.1,
        command_in (line_of some.line),
        tells_some s.geometry input left count fault k.0 k.1 old some.between now k.3 k.4.few k.5
            some.first some.line (some.others ++ rest) k.6
            (split ∙ ap (λ l. l ++ rest) some.split
            ∙ append_assoc some.first (some.line ∷ some.others) rest) k.2
            some.counted is k.7.0 (k.7.1, k.7.2) (λ so. (k.8 so).1) k.4.which,
        k.4,
        k.9,
        k.10.cause,
      )

  -- whatever ended it
  pub served_so : EndsServing fault
      → (fault ≡ None → (input : List ℕ) × TakesInput reads unread left input × IsAtEnd left
      × (count ≡ length (lines_of input)) × ServesEach state opened (lines_of input) new old now)
      → (fault ≡ Some ReadFault → (input : List ℕ) × TakesInput reads unread left input
      × (count ≡ length (whole_lines input))
      × ServesEach state opened (whole_lines input) new old now)
      → (fault ≡ Some WriteFault → (input : List ℕ) × TakesInput reads unread left input
      × (ServesSome state opened (whole_lines input) count new old now
      ⊎ ServesSome state opened (lines_of input) count new old now))
      → (fault ≡ Some OutOfMemory
      → (count ≡ 0) × (new ≡ opened) × Keeps unread left × Keeps old now) → ServedSo
  served_so ends ended unended unwritten none = ⊎_elim {C = ServedSo}
      (λ is. let e = ended is in
      each_served e.0 e.1 (lines_of e.0) [] (sym (append-nil (lines_of e.0))) e.3
      (λ fine. (refl, e.2)) (λ read. absurd (not_none ReadFault fault read is)) e.4)
      (⊎_elim {C = ServedSo}
      (λ is. let e = none is in
      none_served e.1 e.0 (not_none OutOfMemory fault is) (λ read. memory_not_read (sym is ∙ read))
      e.2 e.3)
      (⊎_elim {C = ServedSo}
      (λ is. let e = unended is in
      each_served e.0 e.1 (whole_lines e.0) (unless_empty (rest_of e.0)) (lines_split e.0) e.2
      (λ fine. absurd (not_none ReadFault fault is fine)) (λ read. refl) e.3)
      (λ is. let e = unwritten is in
      ⊎_elim {C = ServedSo}
      (λ some. some_served e.0 e.1 (whole_lines e.0) (unless_empty (rest_of e.0)) (lines_split e.0)
      is
      some)
      (λ some. some_served e.0 e.1 (lines_of e.0) [] (sym (append-nil (lines_of e.0))) is some)
      e.2))) ends

-- the carousel that the commands make, of a server that may be halted
pub kept_by : (g : Geometry) (first : ℕ) (rest : List ℕ) (done : List command.Command)
    (standing : Standing) (halted : Bool) → IsAfter (standing_from g first rest) done standing
    → (if halted then None else Some standing.carousel)
    ≡ (if halted then None else carousel_after (carousel_from first) g.objects done)
kept_by g first rest done standing halted after =
    ap (λ (o : Option Carousel). if halted then None else o) (sym after.carousel)

-- no commands make the new one
pub kept_new : (g : Geometry) (first : ℕ) (rest : List ℕ) (standing : Standing) (halted : Bool)
    → IsFalse halted → IsAfter (standing_from g first rest) [] standing
    → (if halted then None else Some standing.carousel) ≡ Some (carousel_from first)
unfolding carousel_after
kept_new g first rest standing halted going after =
    ap (λ b. if b then None else Some standing.carousel) going ∙ sym after.carousel

-- of two cases, the second of which says more
pub some_of : {A B C : Type 0} → A ⊎ (B × C) → A ⊎ C
some_of (inl some) = inl some
some_of (inr some) = inr some.1

-- what came is what was there, or stands for something
pub left_or_stands : (s : Standing) (others : List command.Command) (image : List ℕ) (was : Bool)
    (Old : Type 0) → Old ⊎ (IsFalse was × StandsAfterSome s [] others image)
    → Old ⊎ StandsAfterSome s [] others image
left_or_stands s others image was Old (inl old) = inl old
left_or_stands s others image was Old (inr came) = inr came.1

-- ---- lives in a row

-- what is kept since the first moment
pub kept_first : (P : ℕ → List command.Command → List command.Command → Type 0) (t : ℕ)
    (sure : List command.Command) (told : List Told) (flight : List command.Command)
    → IsKeptFrom P t sure told flight → P t sure (commands_done told ++ flight)
unfolding IsKeptFrom
kept_first P t sure [] flight kept = kept
kept_first P t sure (x ∷ told) flight kept = kept.0

three_ok : {A B : Type 0} (P Q R S : A → Type 0) (result : Result A B)
    → ((a : A) → P a → Q a → R a → S a) → IfOk result P → IfOk result Q → IfOk result R
    → IfOk result S
three_ok P Q R S (Ok a) f p q r = f a p q r
three_ok P Q R S (Err b) f p q r = tt

-- an image that commands have left, opened and played
module _ {D A B : Type 0} (state : D → State) (result : Result A B) (server_of : A → ServerView D)
    (packets_of : A → List (List ℕ)) (g : Geometry) (first : ℕ) (image : List ℕ)
    (held : (s : Standing) → IsOf s image → IfOk result (λ a. (state (server_of a).disk).IsHonest
    → Holds (server_of a).view s (state (server_of a).disk)))
    (reads : (s : Standing) → IsOf s image → IfOk result (λ a. (state (server_of a).disk).IsHonest
    → ReadsAs (packets_of a) s.carousel s.geometry.segment))
    (numbers : (s : Standing) → IsOf s image → IfOk result (λ a.
    (state (server_of a).disk).IsHonest → AreNumbered s.geometry 0 (packets_of a))) where
  -- a server that opened what a crash left lives on, with the sure ones and some of the others
  pub lives_on : (rest : List ℕ) (sure others : List command.Command)
      → StandsAfterSome (standing_from g first rest) sure others image
      → IfOk result (λ a. (state (server_of a).disk).IsHonest
      → LivesOn state g first sure others (server_of a) (packets_of a))
  lives_on rest sure others stands =
      let last = stands.last in
      let all = sure ++ take stands.after.count others in
      let first_is = stands.after.after in
      let is : IsAfter (standing_from g first last.rest) all last =
      subst (λ r. IsAfter (standing_from g first r) all last) (sym first_is.rest) first_is in
      let none : IsAfter (standing_from g first last.rest) (all ++ []) last =
      subst (λ l. IsAfter (standing_from g first last.rest) l last) (sym (append-nil all)) is in
      three_ok _ _ _ _ result (λ a holds read numbered honest. record {
        count = stands.after.count;
        few = stands.after.few;
        done = record {
          standing = last;
          after = is;
          agrees = (holds honest).agrees;
          holds = λ going. (refl, holds honest);
          leaves = λ left may. none_of (standing_from g first last.rest) all [] last left is
              ((holds honest).each left may);
          few = omega arith;
        };
        plays = record {
          count = 0;
          few = omega arith;
          carousel = last.carousel;
          after = none.carousel;
          reads = subst (λ (x : Geometry). ReadsAs (packets_of a) last.carousel x.segment)
              is.geometry (read honest);
          numbered = subst (λ (x : Geometry). AreNumbered x 0 (packets_of a)) is.geometry
              (numbered honest);
        };
      }) (held last stands.image_is) (reads last stands.image_is) (numbers last stands.image_is)
