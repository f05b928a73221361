-- Looks: names that differ, objects settled one after the other, and what is not known withdrawn.
use Rattle.std.proofs.Common.{◌≡◌, ℕ, zero, suc, ◌+◌, ◌<◌, ◌≤◌, Bool, true, false, not, ◌||◌, List}
use Rattle.std.proofs.Common.{[], ◌∷◌, ◌++◌, length, map, take, Option, Some, None, refl, sym, ap}
use Rattle.std.proofs.Common.{◌∙◌, subst, arith, append_assoc, append-nil, cond, drop, get_or}
use Rattle.std.proofs.Common.{Result, Ok, Err, add-one, take-append-drop}
use Rattle.std.specs.Prelude.{IsErr, bytes_eq, slice_get}
use Rattle.std.proofs.lemmas.List.{take_all, take_more, map-append}
use Rattle.std.specs.List.{flat_map, AllByRecursion}
use Rattle.std.proofs.lemmas.Bool.{and_parts, and_from, or_parts, or_from, not-true, not_from_false}
use Rattle.std.proofs.lemmas.Grind.{flat_map-append}
use Rattle.std.proofs.lemmas.List.Concat.{flat_map-cons}
use Rattle.std.proofs.lemmas.Option.{none-some}
use Rattle.disk_model.specs.Disk.{State, IsHonestDisk, IsUnchanged}
use Rattle.mot_journal.specs.Image.{Standing}
use Rattle.mot_numbers.specs.declared.refusal.Refusal.{Refusal}
use Rattle.mot_objects.specs.Carousel.{Carousel, are_names_distinct, carousel_after}
use Rattle.mot_objects.specs.Stands.{object_of, objects_of}
use Rattle.mot_objects.specs.declared.command.Command.{Command}
use Rattle.mot_objects.specs.declared.command.Command.TheVariants.{Withdraw}
use Rattle.mot_objects.specs.declared.object.Object.{Object}
use Rattle.mot_repository.specs.Repository.{RepositoryView, Agrees, Holds}
use Rattle.mot_playout.specs.Runs.{accepted_commands, ServerView}
use Rattle.mot_playout.specs.Attempts as attempts
use Rattle.mot_playout.specs.declared.running.Attempt.{Attempt}
use Rattle.mot_playout.specs.declared.running.Attempt.TheVariants.{Accepted, Refused}
use Rattle.mot_objects.specs.declared.command.Item.{Item}
use Rattle.mot_update.specs.HasRun.{HasRun, marks_of_settling}
use Rattle.mot_update.specs.Laws.{names_of}
use Rattle.mot_update.specs.Looking.{AreAccepted, Gives, HasLooked, HasSettled, RunsThrough}
use Rattle.mot_update.specs.Looking.{unknown_names, was_settled, withdraw_all}
use Rattle.mot_update.specs.Told.{Answer, AreAnswers, AreAttemptsOf, Withdrew, was_accepted}
use Rattle.mot_update.proofs.Right.{ComesOf, right-cut, right-join, right-one}
use Rattle.mot_update.proofs.Answers.{answer-withdrew, answers-cut, answers-join}
use Rattle.mot_update.specs.declared.settling.SettleOutcome.{SettleOutcome}
use Rattle.mot_update.specs.declared.settling.SettleOutcome.TheVariants.{Right, Put, Replaced}
use Rattle.mot_update.specs.Updating.{is_known, settling, settling_of, withdrawal, withdrawals}
use Rattle.mot_update.proofs.Found.{false_if_not_true, not_both, own_name, same_name, same_some}
use Rattle.mot_update.proofs.Found.{turned}
use Rattle.mot_update.proofs.Made.{IsOfOther, settlings-others, untouched, withdrawals-others}
use Rattle.mot_update.proofs.Runs.{has_read, join, not_none}

-- ---- names that differ

pub known_at : (names : List (List ℕ)) (i : ℕ) (n : List ℕ) → slice_get names i ≡ Some n
    → is_known names n ≡ true
known_at [] i n at = absurd (none-some n at)
known_at (x ∷ names) zero n at =
    ap (λ t. t || is_known names n)
    (subst (λ y. bytes_eq n y ≡ true) (sym (same_some x n at)) (own_name n))
known_at (x ∷ names) (suc i) n at = either_known (bytes_eq n x) (known_at names i n at)
  where
    either_known : (t : Bool) → is_known names n ≡ true → (t || is_known names n) ≡ true
    either_known true e = refl
    either_known false e = e

apart : (names : List (List ℕ)) (i j : ℕ) (n m : List ℕ) → are_names_distinct names ≡ true
    → i < j → slice_get names i ≡ Some n → slice_get names j ≡ Some m → bytes_eq n m ≡ false
apart [] i j n m d lt at also = absurd (none-some n at)
apart (x ∷ names) i zero n m d lt at also = absurd (omega (arith, lt))
apart (x ∷ names) zero (suc j) n m d lt at also =
    let p = and_parts (not (is_known names x)) (are_names_distinct names) d in
    false_if_not_true (bytes_eq n m) (λ e. not_both (is_known names m) (known_at names j m also)
    (subst (λ y. is_known names y ≡ false) (same_some x n at ∙ same_name n m e)
    (not-true (is_known names x) p.0)))
apart (x ∷ names) (suc i) (suc j) n m d lt at also =
    let p = and_parts (not (is_known names x)) (are_names_distinct names) d in
    apart names i j n m p.1 (omega (arith, lt)) at also

-- the name of an object that was given is one of those before this place
abbrev pub IsBelow : List (List ℕ) → ℕ → Item → Type 0
IsBelow names place w = (i : ℕ) × (i < place) × (slice_get names i ≡ Some w.name)

fresh : (names : List (List ℕ)) (place i : ℕ) (w : Item) (wanted : List Item)
    → are_names_distinct names ≡ true → place ≤ i → slice_get names i ≡ Some w.name
    → AllByRecursion (IsBelow names place) wanted → is_known (names_of wanted) w.name ≡ false
fresh names place i w [] d le at below = refl
fresh names place i w (v ∷ wanted) d le at below =
    let b = below.0 in
    let lt : b.0 < place = b.1 in
    or_from (bytes_eq w.name v.name) (is_known (names_of wanted) w.name)
    (turned v.name w.name (apart names b.0 i v.name w.name d (omega (arith, lt, le)) b.2 at))
    (fresh names place i w wanted d le at below.1)

-- what holds of each wanted object and of one more, holds of each of them
pub all-push : (P : Item → Type 0) (wanted : List Item) (w : Item) → AllByRecursion P wanted
    → P w → AllByRecursion P (wanted ++ w ∷ [])
all-push P [] w all p = (p, tt)
all-push P (v ∷ wanted) w all p = (all.0, all-push P wanted w all.1 p)

-- names that stand before a place stand before a later one
pub below_more : (names : List (List ℕ)) (place further : ℕ) (wanted : List Item)
    → place ≤ further
    → AllByRecursion (IsBelow names place) wanted → AllByRecursion (IsBelow names further) wanted
below_more names place further [] le all = tt
below_more names place further (w ∷ wanted) le all =
    let lt : all.0.0 < place = all.0.1 in
    ((all.0.0, omega (arith, lt, le), all.0.2), below_more names place further wanted le all.1)

known-push : (names : List (List ℕ)) (n m : List ℕ) → is_known names m ≡ false
    → bytes_eq m n ≡ false → is_known (names ++ n ∷ []) m ≡ false
known-push [] n m e f = or_from (bytes_eq m n) false f refl
known-push (x ∷ names) n m e f =
    let p = or_parts (bytes_eq m x) (is_known names m) e in
    or_from (bytes_eq m x) (is_known (names ++ n ∷ []) m) p.0 (known-push names n m p.1 f)

-- names that differ, and one that is none of them, differ
pub names-push : (names : List (List ℕ)) (n : List ℕ) → are_names_distinct names ≡ true
    → is_known names n ≡ false → are_names_distinct (names ++ n ∷ []) ≡ true
names-push [] n d e = refl
names-push (m ∷ names) n d e =
    let p = and_parts (not (is_known names m)) (are_names_distinct names) d in
    let q = or_parts (bytes_eq n m) (is_known names n) e in
    and_from (not (is_known (names ++ n ∷ []) m)) (are_names_distinct (names ++ n ∷ []))
    (not_from_false _ (known-push names n m (not-true _ p.0) (turned n m q.0)))
    (names-push names n p.1 q.1)

-- ---- nothing was refused

pub accepted-append : (marks others : List Bool) → AreAccepted marks → AreAccepted others
    → AreAccepted (marks ++ others)
accepted-append [] others all more = more
accepted-append (mark ∷ marks) others all more = (all.0, accepted-append marks others all.1 more)

pub accepted_one : (attempt : Attempt) → was_accepted attempt ≡ true
    → AreAccepted (attempts.marks_of (Ok attempt))
accepted_one (Accepted done) is = (refl, tt)
accepted_one (Refused refusal) is = (is, tt)

-- an object that was settled has its command, if there was one, accepted
pub accepted_settled : (settled : SettleOutcome) → was_settled settled ≡ true
    → AreAccepted (marks_of_settling (Ok settled))
accepted_settled Right is = tt
accepted_settled (Put attempt) is = accepted_one attempt is
accepted_settled (Replaced attempt) is = accepted_one attempt is

take_next : (names : List (List ℕ)) (i : ℕ) (n : List ℕ) → slice_get names i ≡ Some n
    → take (suc i) names ≡ take i names ++ n ∷ []
take_next [] i n at = absurd (none-some n at)
take_next (x ∷ names) zero n at = ap (λ y. y ∷ []) (same_some x n at)
take_next (x ∷ names) (suc i) n at = ap (λ l. x ∷ l) (take_next names i n at)

-- ---- what was given

-- where nothing more is given, the given objects go on by none
pub gives_nil : (a : Option (List Item)) → Gives a a []
gives_nil None = tt
gives_nil (Some x) = sym (append-nil x)

pub gives_trans : (a b c : Option (List Item)) (xs ys : List Item) → Gives a b xs
    → Gives b c ys → Gives a c (xs ++ ys)
gives_trans None b c xs ys p q = tt
gives_trans (Some x) None c xs ys p q = absurd p
gives_trans (Some x) (Some y) None xs ys p q = absurd q
gives_trans (Some x) (Some y) (Some z) xs ys p q =
    q ∙ ap (λ l. l ++ ys) p ∙ append_assoc x xs ys

-- nothing more was given
pub gives_kept : (a b c : Option (List Item)) (xs : List Item) → Gives a b xs → Gives b c []
    → Gives a c xs
gives_kept a b c xs p q = subst (Gives a c) (append-nil xs) (gives_trans a b c xs [] p q)

-- ---- settling one after the other

settles_on : (old last : Carousel) (limit : ℕ) (done : List Item) (marks : List Bool) (w : Item)
    → is_known (names_of done) w.name ≡ false
    → carousel_after old limit (accepted_commands (flat_map (settling old.objects) done) marks)
    ≡ Some last → settling last.objects w ≡ settling old.objects w
settles_on old last limit done marks w unwanted e =
    ap (λ r. settling_of r w) (untouched w.name old last limit
    (flat_map (settling old.objects) done) marks
    (settlings-others w.name old.objects done unwanted) e)

flat_map-push : (f : Item → List Command) (wanted : List Item) (w : Item)
    → flat_map f (wanted ++ w ∷ []) ≡ flat_map f wanted ++ f w
flat_map-push f wanted w =
    flat_map-append f wanted (w ∷ [])
    ∙ ap (λ l. flat_map f wanted ++ l) (flat_map-cons f w [] ∙ append-nil (f w))

-- objects settled so far, and how many of the names were gone over
pub record SettledSoFar {D : Type 0} (old new : ServerView D) (start now : State) (s : Standing)
    (names : List (List ℕ)) (first place : ℕ) (before after : Option (List Item))
    (fine : Bool) : Type 0 where
  -- the objects that were given
  pub wanted : List Item
  -- those that are told go on by them
  pub gives : Gives before after wanted
  -- each one's name is known
  pub known : AllByRecursion (λ (w : Item). is_known names w.name ≡ true) wanted
  -- their names differ
  pub distinct : are_names_distinct (names_of wanted) ≡ true
  -- each one's name stands before the place
  pub below : AllByRecursion (IsBelow names place) wanted
  -- the marks of their commands
  pub marks : List Bool
  -- their commands were run, without a fault
  pub run : HasRun old new start now s (flat_map (settling s.carousel.objects) wanted) marks None
  -- where nothing was refused, one of each name up to the place was given, but for the first ones
  pub every : fine ≡ true → take first names ++ names_of wanted ≡ take place names
  -- where nothing was refused, each command was accepted
  pub accepted : fine ≡ true → AreAccepted marks
  -- what was told of the commands
  pub answers : List Answer
  -- each answer is told, in order
  pub told : AreAnswers answers (flat_map (settling s.carousel.objects) wanted) marks
  -- and rightly
  pub right : AreAttemptsOf old.view.journal.layout s
      (flat_map (settling s.carousel.objects) wanted)
      answers

-- a look that begins has settled nothing
abbrev pub settled_none : {D : Type 0} (old : ServerView D) (start : State) (s : Standing)
    (names : List (List ℕ)) (place : ℕ) (given : Option (List Item)) (fine : Bool)
    → IsHonestDisk start → start.IsHonest → IsUnchanged start start → Holds old.view s start
    → SettledSoFar old old start start s names place place given given fine
settled_none old start s names place given fine sound honest still holds = record {
  wanted = [];
  gives = gives_nil given;
  known = tt;
  distinct = refl;
  below = tt;
  marks = [];
  run = (has_read old old start start s None sound refl refl honest still holds).0;
  every = λ e. append-nil (take place names);
  accepted = λ e. tt;
  answers = [];
  told = refl;
  right = tt;
}

module _ {D : Type 0} (old mid new : ServerView D) (start between now : State) (s : Standing)
    (names : List (List ℕ)) (first place further : ℕ)
    (before after then_given last : Option (List Item)) (fine : Bool) (w : Item)
    (distinct : are_names_distinct names ≡ true)
    (is : (i : ℕ) × (place ≤ i) × (i < further) × (slice_get names i ≡ Some w.name))
    (one_given : Gives after then_given (w ∷ [])) (rest_given : Gives then_given last [])
    (so_far : SettledSoFar old mid start between s names first place before after fine) where
  new_name : is_known (names_of so_far.wanted) w.name ≡ false
  new_name = fresh names place is.0 w so_far.wanted distinct is.1 is.3 so_far.below

  pub run_more : (marks : List Bool) (fault : Option Refusal)
      → ((t : Standing) → Holds mid.view t between
      → HasRun mid new between now t (settling t.carousel.objects w) marks fault)
      → HasRun old new start now s
      (flat_map (settling s.carousel.objects) (so_far.wanted ++ w ∷ []))
      (so_far.marks ++ marks) fault
  run_more marks fault run =
      let f : Item → List Command = settling s.carousel.objects in
      let t : Standing = so_far.run.leaves.last in
      let two = run t (so_far.run.leaves.going refl) in
      let same : settling t.carousel.objects w ≡ f w =
      settles_on s.carousel t.carousel s.geometry.objects so_far.wanted so_far.marks w new_name
      so_far.run.leaves.after.carousel in
      subst (λ l. HasRun old new start now s l (so_far.marks ++ marks) fault)
      (sym (flat_map-push f so_far.wanted w))
      (join old mid new start between now s (flat_map f so_far.wanted) (f w) so_far.marks marks
      fault so_far.run (subst (λ l. HasRun mid new between now t l marks fault) same two))

  pub told_more : (answers : List Answer) (marks : List Bool)
      → ((t : Standing) → Holds mid.view t between
      → AreAnswers answers (settling t.carousel.objects w) marks)
      → AreAnswers (so_far.answers ++ answers)
      (flat_map (settling s.carousel.objects) (so_far.wanted ++ w ∷ [])) (so_far.marks ++ marks)
  told_more answers marks told =
      let f : Item → List Command = settling s.carousel.objects in
      let t : Standing = so_far.run.leaves.last in
      let same : settling t.carousel.objects w ≡ f w =
      settles_on s.carousel t.carousel s.geometry.objects so_far.wanted so_far.marks w new_name
      so_far.run.leaves.after.carousel in
      subst (λ l. AreAnswers (so_far.answers ++ answers) l (so_far.marks ++ marks))
      (sym (flat_map-push f so_far.wanted w))
      (answers-join so_far.answers answers (flat_map f so_far.wanted) (f w) so_far.marks marks
      so_far.told (so_far.run.whole refl) (subst (λ l. AreAnswers answers l marks) same
      (told t (so_far.run.leaves.going refl))))

  pub right_more : (answers : List Answer)
      → ((t : Standing) → Holds mid.view t between
      → AreAttemptsOf mid.view.journal.layout t (settling t.carousel.objects w) answers)
      → AreAttemptsOf old.view.journal.layout s
      (flat_map (settling s.carousel.objects) (so_far.wanted ++ w ∷ []))
      (so_far.answers ++ answers)
  right_more answers right =
      let f : Item → List Command = settling s.carousel.objects in
      let t : Standing = so_far.run.leaves.last in
      let layout = old.view.journal.layout in
      let same : settling t.carousel.objects w ≡ f w =
      settles_on s.carousel t.carousel s.geometry.objects so_far.wanted so_far.marks w new_name
      so_far.run.leaves.after.carousel in
      subst (λ l. AreAttemptsOf layout s l (so_far.answers ++ answers))
      (sym (flat_map-push f so_far.wanted w))
      (right-join layout s t (flat_map f so_far.wanted) (f w) so_far.marks so_far.answers answers
      so_far.run.leaves.marked (so_far.run.whole refl) so_far.told so_far.right
      (subst (λ l. AreAttemptsOf layout t l answers) same
      (subst (λ k. AreAttemptsOf k t (settling t.carousel.objects w) answers) so_far.run.layout
      (right t (so_far.run.leaves.going refl)))))

  pub right_cut : AreAttemptsOf old.view.journal.layout s
      (flat_map (settling s.carousel.objects) (so_far.wanted ++ w ∷ [])) so_far.answers
  right_cut =
      let f : Item → List Command = settling s.carousel.objects in
      subst (λ l. AreAttemptsOf old.view.journal.layout s l so_far.answers)
      (sym (flat_map-push f so_far.wanted w))
      (right-cut old.view.journal.layout s (flat_map f so_far.wanted) (f w) so_far.answers
      so_far.right)

  pub told_cut : AreAnswers so_far.answers
      (flat_map (settling s.carousel.objects) (so_far.wanted ++ w ∷ [])) (so_far.marks ++ [])
  told_cut =
      let f : Item → List Command = settling s.carousel.objects in
      subst (λ l. AreAnswers so_far.answers l (so_far.marks ++ []))
      (sym (flat_map-push f so_far.wanted w))
      (answers-cut so_far.answers (flat_map f so_far.wanted) (f w) so_far.marks so_far.told)

  pub gives_more : Gives before last (so_far.wanted ++ w ∷ [])
  gives_more = gives_trans before after last so_far.wanted (w ∷ []) so_far.gives
      (gives_kept after then_given last (w ∷ []) one_given rest_given)

  pub known_more : AllByRecursion (λ (v : Item). is_known names v.name ≡ true)
      (so_far.wanted ++ w ∷ [])
  known_more = all-push (λ (v : Item). is_known names v.name ≡ true) so_far.wanted w so_far.known
      (known_at names is.0 w.name is.3)

  pub distinct_more : are_names_distinct (names_of (so_far.wanted ++ w ∷ [])) ≡ true
  distinct_more = subst (λ l. are_names_distinct l ≡ true)
      (sym (map-append (λ (v : Item). v.name) so_far.wanted (w ∷ [])))
      (names-push (names_of so_far.wanted) w.name so_far.distinct new_name)

  -- where none was passed over
  pub every_more : fine ≡ true → further ≡ place + 1
      → take first names ++ names_of (so_far.wanted ++ w ∷ []) ≡ take further names
  every_more was next =
      let low = is.1 in
      let high = is.2 in
      let at : is.0 ≡ place = omega (arith, low, high, next) in
      let there : slice_get names place ≡ Some w.name =
      subst (λ i. slice_get names i ≡ Some w.name) at is.3 in
      ap (λ l. take first names ++ l) (map-append (λ (v : Item). v.name) so_far.wanted (w ∷ []))
      ∙ sym (append_assoc (take first names) (names_of so_far.wanted) (w.name ∷ []))
      ∙ ap (λ l. l ++ w.name ∷ []) (so_far.every was)
      ∙ sym (take_next names place w.name there)
      ∙ ap (λ n. take n names) (sym (next ∙ add-one place))

  -- one more was settled
  abbrev pub settled_more : (marks : List Bool) (answers : List Answer) (later : Bool)
      → ((t : Standing) → Holds mid.view t between
      → HasRun mid new between now t (settling t.carousel.objects w) marks None)
      → ((t : Standing) → Holds mid.view t between
      → AreAnswers answers (settling t.carousel.objects w) marks)
      → ((t : Standing) → Holds mid.view t between
      → AreAttemptsOf mid.view.journal.layout t (settling t.carousel.objects w) answers)
      → (later ≡ true → (fine ≡ true) × (further ≡ place + 1) × AreAccepted marks)
      → SettledSoFar old new start now s names first further before last later
  settled_more marks answers later run are right told = record {
    wanted = so_far.wanted ++ w ∷ [];
    gives = gives_more;
    known = known_more;
    distinct = distinct_more;
    below = all-push (IsBelow names further) so_far.wanted w
        (below_more names place further so_far.wanted
        (let a = is.1 in let b = is.2 in omega (arith, a, b)) so_far.below)
        (is.0, is.2, is.3);
    marks = so_far.marks ++ marks;
    run = run_more marks None run;
    every = λ e. let t = told e in every_more t.0 t.1;
    accepted = λ e. let t = told e in
        accepted-append so_far.marks marks (so_far.accepted t.0) t.2;
    answers = so_far.answers ++ answers;
    told = told_more answers marks are;
    right = right_more answers right;
  }

  -- a fault came in settling it
  abbrev pub settled_fault : (later : Bool) (refusal : Refusal)
      → ((t : Standing) → Holds mid.view t between
      → HasRun mid new between now t (settling t.carousel.objects w) [] (Some refusal))
      → HasSettled old new start now s names first before last later (Some refusal)
  settled_fault later refusal run = record {
    wanted = so_far.wanted ++ w ∷ [];
    gives = gives_more;
    is_update = record { distinct = distinct_more; known = known_more };
    every = λ e n. absurd (not_none refusal n);
    runs = record {
      commands = flat_map (settling s.carousel.objects) (so_far.wanted ++ w ∷ []);
      others = [];
      split = sym (append-nil (flat_map (settling s.carousel.objects) (so_far.wanted ++ w ∷ [])));
      whole = λ e. refl;
      marks = so_far.marks ++ [];
      run = run_more [] (Some refusal) run;
      accepted = λ e n. absurd (not_none refusal n);
      answers = so_far.answers;
      told = told_cut;
      right = right_cut;
    };
  }

-- one that was offered was not given, and nothing was done
abbrev pub settled_left : {D : Type 0} (old mid new : ServerView D) (start between now : State)
    (s : Standing) (names : List (List ℕ)) (first place further : ℕ)
    (before after last : Option (List Item)) (fine later : Bool) → place ≤ further
    → Gives after last [] → (later ≡ true → ⊥)
    → (so_far : SettledSoFar old mid start between s names first place before after fine)
    → ((t : Standing) → Holds mid.view t between → HasRun mid new between now t [] [] None)
    → SettledSoFar old new start now s names first further before last later
settled_left old mid new start between now s names first place further before after last fine later
    le gives refused so_far run =
    let commands = flat_map (settling s.carousel.objects) so_far.wanted in
    record {
      wanted = so_far.wanted;
      gives = gives_kept before after last so_far.wanted so_far.gives gives;
      known = so_far.known;
      distinct = so_far.distinct;
      below = below_more names place further so_far.wanted le so_far.below;
      marks = so_far.marks;
      run = subst (λ l. HasRun old new start now s l so_far.marks None) (append-nil commands)
          (subst (λ l. HasRun old new start now s (commands ++ []) l None) (append-nil so_far.marks)
          (join old mid new start between now s commands [] so_far.marks [] None so_far.run
          (run so_far.run.leaves.last (so_far.run.leaves.going refl))));
      every = λ e. absurd (refused e);
      accepted = λ e. absurd (refused e);
      answers = so_far.answers;
      told = so_far.told;
      right = so_far.right;
    }

-- all were settled
abbrev pub settled_all : {D : Type 0} (old new : ServerView D) (start now : State) (s : Standing)
    (names : List (List ℕ)) (first place : ℕ) (before after last : Option (List Item))
    (fine later : Bool)
    → SettledSoFar old new start now s names first place before after fine → Gives after last []
    → (later ≡ true → (fine ≡ true) × (length names ≤ place))
    → HasSettled old new start now s names first before last later None
settled_all old new start now s names first place before after last fine later so_far gives told =
    record {
      wanted = so_far.wanted;
      gives = gives_kept before after last so_far.wanted so_far.gives gives;
      is_update = record { distinct = so_far.distinct; known = so_far.known };
      every = λ e n. let t = told e in so_far.every t.0 ∙ take_all place names t.1;
      runs = record {
        commands = flat_map (settling s.carousel.objects) so_far.wanted;
        others = [];
        split = sym (append-nil (flat_map (settling s.carousel.objects) so_far.wanted));
        whole = λ e. refl;
        marks = so_far.marks;
        run = so_far.run;
        accepted = λ e n. so_far.accepted (told e).0;
        answers = so_far.answers;
        told = so_far.told;
        right = so_far.right;
      };
    }

-- ---- withdrawing one after the other

-- a fault came before the next command
abbrev cut_fault : {D : Type 0} (old mid : ServerView D) (start between : State) (s : Standing)
    (all commands others : List Command) (marks : List Bool) (answers : List Answer) (fine : Bool)
    (refusal : Refusal) → AreAnswers answers commands marks
    → AreAttemptsOf old.view.journal.layout s commands answers → all ≡ commands ++ others
    → IsHonestDisk between → between.IsHonest
    → IsUnchanged between between → HasRun old mid start between s commands marks None
    → RunsThrough old mid start between s all fine (Some refusal)
cut_fault old mid start between s all commands others marks answers fine refusal told right split
    sound honest still one =
    let t : Standing = one.leaves.last in
    let two = (has_read mid mid between between t (Some refusal) sound refl refl honest still
    (one.leaves.going refl)).0 in
    record {
      commands = commands ++ [];
      others = others;
      split = split ∙ ap (λ l. l ++ others) (sym (append-nil commands));
      whole = λ e. absurd (not_none refusal e);
      marks = marks ++ [];
      run = join old mid mid start between between s commands [] marks [] (Some refusal) one two;
      accepted = λ e n. absurd (not_none refusal n);
      answers = answers;
      told = answers-cut answers commands [] marks told;
      right = right-cut old.view.journal.layout s commands [] answers right;
    }

-- these withdrawals were run
pub record WithdrewSoFar {D : Type 0} (old new : ServerView D) (start now : State) (s : Standing)
    (commands : List Command) (fine : Bool) : Type 0 where
  -- the marks of the withdraws
  pub marks : List Bool
  -- they were run, without a fault
  pub run : HasRun old new start now s commands marks None
  -- where nothing was refused, each was accepted
  pub accepted : fine ≡ true → AreAccepted marks
  -- what was told of them
  pub answers : List Answer
  -- each answer is told, in order
  pub told : AreAnswers answers commands marks
  -- and rightly
  pub right : AreAttemptsOf old.view.journal.layout s commands answers

module _ {D : Type 0} (old mid : ServerView D) (start between : State) (s : Standing)
    (names : List (List ℕ)) (i : ℕ) (fine : Bool)
    (one : WithdrewSoFar old mid start between s (withdraw_all (take i names)) fine) where
  -- withdraws that a refusal ends before the next one were run up to there
  abbrev pub withdrew_cut : (refusal : Refusal) → IsHonestDisk between → between.IsHonest
      → IsUnchanged between between
      → RunsThrough old mid start between s (withdraw_all names) fine (Some refusal)
  withdrew_cut refusal sound honest still =
      cut_fault old mid start between s (withdraw_all names) (withdraw_all (take i names))
      (withdraw_all (drop i names)) one.marks one.answers fine refusal one.told one.right
      (ap withdraw_all (sym (take-append-drop i names))
      ∙ map-append Withdraw (take i names) (drop i names))
      sound honest still one.run

  -- at the end of the names all withdraws were run
  abbrev pub withdrew_all : length names ≤ i
      → RunsThrough old mid start between s (withdraw_all names) fine None
  withdrew_all le = record {
    commands = withdraw_all (take i names);
    others = [];
    split = ap withdraw_all (sym (take_all i names le)) ∙ sym (append-nil _);
    whole = λ e. refl;
    marks = one.marks;
    run = one.run;
    accepted = λ e n. one.accepted e;
    answers = one.answers;
    told = one.told;
    right = one.right;
  }

  module _ (new : ServerView D) (now : State) (n : List ℕ) (there : i < length names)
      (is : n ≡ get_or names i n) where
    -- the withdraws of one name more are those before it, and its own
    pub withdraw_one_more : withdraw_all (take (i + 1) names)
        ≡ withdraw_all (take i names) ++ Withdraw n ∷ []
    withdraw_one_more = ap withdraw_all (take_more names i n there
        ∙ ap (λ m. take i names ++ m ∷ []) (sym is)) ∙ map-append Withdraw (take i names) (n ∷ [])

    pub run_next : (others : List Bool) (fault : Option Refusal)
        → ((t : Standing) → Holds mid.view t between
        → HasRun mid new between now t (Withdraw n ∷ []) others fault)
        → HasRun old new start now s (withdraw_all (take i names) ++ Withdraw n ∷ [])
        (one.marks ++ others) fault
    run_next others fault run =
        join old mid new start between now s (withdraw_all (take i names)) (Withdraw n ∷ [])
        one.marks others fault one.run (run one.run.leaves.last (one.run.leaves.going refl))

    -- one more withdraw that was answered
    abbrev pub withdrew_next : (attempt : Attempt) (later : Bool)
        → ((t : Standing) → Holds mid.view t between → HasRun mid new between now t
        (Withdraw n ∷ []) (attempts.marks_of (Ok attempt)) None)
        → ((t : Standing) → Holds mid.view t between
        → ComesOf mid.view.journal.layout t (Withdraw n) attempt)
        → (later ≡ true → (fine ≡ true) × (was_accepted attempt ≡ true))
        → WithdrewSoFar old new start now s (withdraw_all (take (i + 1) names)) later
    withdrew_next attempt later run right told =
        let marks = attempts.marks_of (Ok attempt) in
        record {
          marks = one.marks ++ marks;
          run = subst (λ l. HasRun old new start now s l (one.marks ++ marks) None)
              (sym withdraw_one_more) (run_next marks None run);
          accepted = λ e. let t = told e in
              accepted-append one.marks marks (one.accepted t.0) (accepted_one attempt t.1);
          answers = one.answers ++ Withdrew n attempt ∷ [];
          told = subst (λ l. AreAnswers (one.answers ++ Withdrew n attempt ∷ []) l
              (one.marks ++ marks)) (sym withdraw_one_more)
              (answers-join one.answers (Withdrew n attempt ∷ []) (withdraw_all (take i names))
              (Withdraw n ∷ []) one.marks marks one.told (one.run.whole refl)
              (answer-withdrew n attempt));
          right = subst (λ l. AreAttemptsOf old.view.journal.layout s l
              (one.answers ++ Withdrew n attempt ∷ [])) (sym withdraw_one_more)
              (right-join old.view.journal.layout s one.run.leaves.last
              (withdraw_all (take i names)) (Withdraw n ∷ []) one.marks one.answers
              (Withdrew n attempt ∷ []) one.run.leaves.marked (one.run.whole refl) one.told
              one.right (right-one old.view.journal.layout one.run.leaves.last (Withdraw n)
              (Withdrew n attempt)
              (subst (λ k. ComesOf k one.run.leaves.last (Withdraw n) attempt) one.run.layout
              (right one.run.leaves.last (one.run.leaves.going refl)))));
        }

    -- one more withdraw that a fault ended
    abbrev pub withdrew_fault : (later : Bool) (refusal : Refusal)
        → ((t : Standing) → Holds mid.view t between
        → HasRun mid new between now t (Withdraw n ∷ []) [] (Some refusal))
        → RunsThrough old new start now s (withdraw_all names) later (Some refusal)
    withdrew_fault later refusal run = record {
      commands = withdraw_all (take i names) ++ Withdraw n ∷ [];
      others = withdraw_all (drop (i + 1) names);
      split = ap withdraw_all (sym (take-append-drop (i + 1) names))
          ∙ map-append Withdraw (take (i + 1) names) (drop (i + 1) names)
          ∙ ap (λ l. l ++ withdraw_all (drop (i + 1) names)) withdraw_one_more;
      whole = λ e. absurd (not_none refusal e);
      marks = one.marks ++ [];
      run = run_next [] (Some refusal) run;
      accepted = λ e n. absurd (not_none refusal n);
      answers = one.answers;
      told = answers-cut one.answers (withdraw_all (take i names)) (Withdraw n ∷ []) one.marks
          one.told;
      right = right-cut old.view.journal.layout s (withdraw_all (take i names)) (Withdraw n ∷ [])
          one.answers one.right;
    }

-- a look that begins has withdrawn nothing
abbrev pub withdrew_none : {D : Type 0} (old : ServerView D) (start : State) (s : Standing)
    (fine : Bool)
    → IsHonestDisk start → start.IsHonest → IsUnchanged start start → Holds old.view s start
    → WithdrewSoFar old old start start s [] fine
withdrew_none old start s fine sound honest still holds = record {
  marks = [];
  run = (has_read old old start start s None sound refl refl honest still holds).0;
  accepted = λ e. tt;
  answers = [];
  told = refl;
  right = tt;
}

-- ---- the look

cut-cases : (t : Bool) (n : List ℕ) (rest : List Command) (names : List (List ℕ))
    → rest ≡ withdraw_all names
    → cond t [] (Withdraw n ∷ []) ++ rest ≡ withdraw_all (cond (not t) (n ∷ names) names)
cut-cases true n rest names e = e
cut-cases false n rest names e = ap (λ l. Withdraw n ∷ l) e

withdrawals-by : (names : List (List ℕ)) (os : List Object) (bodies : List (List ℕ))
    → map length bodies ≡ map (λ (o : Object). o.length) os
    → withdrawals names (objects_of os bodies) ≡ withdraw_all (unknown_names names os)
withdrawals-by names [] bodies e = refl
withdrawals-by names (o ∷ os) [] e = cc
withdrawals-by names (o ∷ os) (b ∷ bodies) e =
    let tail : map length bodies ≡ map (λ (x : Object). x.length) os = cc in
    flat_map-cons (withdrawal names) (object_of o b) (objects_of os bodies)
    ∙ cut-cases (is_known names o.name) o.name (withdrawals names (objects_of os bodies))
    (unknown_names names os) (withdrawals-by names os bodies tail)

-- what is to be withdrawn are the names that are not known, of those kept
pub withdrawals-are : (names : List (List ℕ)) (view : RepositoryView) (s : Standing) → Agrees view s
    → withdrawals names s.carousel.objects
    ≡ withdraw_all (unknown_names names view.carousel.objects.items)
withdrawals-are names view s agrees =
    ap (λ (c : Carousel). withdrawals names c.objects) agrees.carousel
    ∙ withdrawals-by names view.carousel.objects.items agrees.bodies agrees.are_bodies

pub same_settlings : (names : List (List ℕ)) (old last : Carousel) (limit : ℕ)
    (commands : List Command) (marks : List Bool) (wanted : List Item)
    → commands ≡ withdrawals names old.objects
    → carousel_after old limit (accepted_commands commands marks) ≡ Some last
    → AllByRecursion (λ (w : Item). is_known names w.name ≡ true) wanted
    → flat_map (settling last.objects) wanted ≡ flat_map (settling old.objects) wanted
same_settlings names old last limit commands marks [] is e known = refl
same_settlings names old last limit commands marks (w ∷ wanted) is e known =
    let others = subst (AllByRecursion (IsOfOther w.name)) (sym is)
    (withdrawals-others names w.name old.objects known.0) in
    let same : settling last.objects w ≡ settling old.objects w =
    ap (λ r. settling_of r w) (untouched w.name old last limit commands marks others e) in
    flat_map-cons (settling last.objects) w wanted
    ∙ ap (λ l. l ++ flat_map (settling last.objects) wanted) same
    ∙ ap (λ l. settling old.objects w ++ l)
    (same_settlings names old last limit commands marks wanted is e known.1)
    ∙ sym (flat_map-cons (settling old.objects) w wanted)

-- a fault came while the names were gathered, or in withdrawing
abbrev pub look_cut : {D : Type 0} (old new : ServerView D) (start now : State) (s : Standing)
    (names gone : List (List ℕ)) (first : ℕ) (before after : Option (List Item)) (fine : Bool)
    (refusal : Refusal)
    → withdrawals names s.carousel.objects ≡ withdraw_all gone → Gives before after []
    → RunsThrough old new start now s (withdraw_all gone) fine (Some refusal)
    → HasLooked old new start now s names first before after fine (Some refusal)
look_cut old new start now s names gone first before after fine refusal are gives runs = record {
  wanted = [];
  gives = gives;
  is_update = record { distinct = refl; known = tt };
  every = λ e n. absurd (not_none refusal n);
  runs = record {
    commands = runs.commands;
    others = runs.others;
    split = append-nil (withdrawals names s.carousel.objects) ∙ are ∙ runs.split;
    whole = runs.whole;
    marks = runs.marks;
    run = runs.run;
    accepted = runs.accepted;
    answers = runs.answers;
    told = runs.told;
    right = runs.right;
  };
}

-- all were withdrawn, and then what was given was settled
abbrev pub look_on : {D : Type 0} (old mid new : ServerView D) (start between now : State)
    (s : Standing)
    (names gone : List (List ℕ)) (first : ℕ) (before after last : Option (List Item))
    (fine later : Bool) (fault : Option Refusal)
    → withdrawals names s.carousel.objects ≡ withdraw_all gone → Gives before after []
    → (one : RunsThrough old mid start between s (withdraw_all gone) fine None)
    → (later ≡ true → fine ≡ true)
    → HasSettled mid new between now one.run.leaves.last names first after last later fault
    → HasLooked old new start now s names first before last later fault
look_on old mid new start between now s names gone first before after last fine later fault are
    gives one was two =
    let t : Standing = one.run.leaves.last in
    let gone_all : one.commands ≡ withdrawals names s.carousel.objects =
    sym (append-nil one.commands) ∙ ap (λ l. one.commands ++ l) (sym (one.whole refl))
    ∙ sym one.split ∙ sym are in
    let same = same_settlings names s.carousel t.carousel s.geometry.objects one.commands one.marks
    two.wanted gone_all one.run.leaves.after.carousel two.is_update.known in
    record {
      wanted = two.wanted;
      gives = gives_trans before after last [] two.wanted gives two.gives;
      is_update = two.is_update;
      every = two.every;
      runs = record {
        commands = one.commands ++ two.runs.commands;
        others = two.runs.others;
        split = ap (λ l. l ++ flat_map (settling s.carousel.objects) two.wanted) (sym gone_all)
            ∙ ap (λ l. one.commands ++ l) (sym same ∙ two.runs.split)
            ∙ sym (append_assoc one.commands two.runs.commands two.runs.others);
        whole = two.runs.whole;
        marks = one.marks ++ two.runs.marks;
        run = join old mid new start between now s one.commands two.runs.commands one.marks
            two.runs.marks fault one.run two.runs.run;
        accepted = λ e n. accepted-append one.marks two.runs.marks (one.accepted (was e) refl)
            (two.runs.accepted e n);
        answers = one.answers ++ two.runs.answers;
        told = answers-join one.answers two.runs.answers one.commands two.runs.commands one.marks
            two.runs.marks one.told (one.run.whole refl) two.runs.told;
        right = right-join old.view.journal.layout s t one.commands two.runs.commands one.marks
            one.answers two.runs.answers one.run.leaves.marked (one.run.whole refl) one.told
            one.right
            (subst (λ k. AreAttemptsOf k t two.runs.commands two.runs.answers) one.run.layout
            two.runs.right);
      };
    }

-- the fault that a result tells
pub err_of : {T : Type 0} (r : Result T Refusal) → IsErr r → (e : Refusal) × (r ≡ Err e)
err_of (Ok x) is = absurd (not_both false is refl)
err_of (Err e) is = (e, refl)
