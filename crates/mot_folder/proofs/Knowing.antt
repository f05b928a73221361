-- What is known of files, call by call.
use Rattle.std.proofs.Common.{◌≡◌, ◌⊎◌, ◌∙◌, ◌||◌, ℕ, Bool, true, false, not, List, [], ◌∷◌}
use Rattle.std.proofs.Common.{◌++◌, Option, None, Some, ap, refl, subst, sym, inl, inr, length, map, suc}
use Rattle.std.proofs.Common.{◌<◌, append-nil, arith, slice_index_or, zero}
use Rattle.std.specs.Prelude.{bytes_eq}
use Rattle.std.specs.List.{AllByRecursion, list_any}
use Rattle.std.proofs.lemmas.Bool.{not-false, or_left, or_right}
use Rattle.std.proofs.lemmas.Slice.Eq.{bytes_eq-Decides}
use Rattle.mot_files.specs.declared.system.Stamp.{Stamp}
use Rattle.mot_folder.specs.Inner.Knowing.{IsKept, IsKnownWith, IsNoted, IsNotedFor, KnowsFiles}
use Rattle.mot_folder.specs.Inner.Knowing.{NotesName}
use Rattle.mot_folder.specs.Inner.Knowing.{WasStamped, is_fine_look, is_here, is_there}
use Rattle.mot_folder.specs.Inner.Reading.{Misses}
use Rattle.mot_folder.specs.Inner.Reading.Misses.{was_refused, was_unkept, was_unread}
use Rattle.mot_folder.specs.Known.{Among, ComesFrom, IsFineFor, IsPassedOver, has_it, is_it}
use Rattle.mot_folder.specs.Known.ComesFrom.{was_known, was_read}
use Rattle.mot_folder.specs.declared.known.Known.{Known}
use Rattle.mot_folder.specs.declared.known.KnownFiles.{KnownFiles}
use Rattle.mot_folder.specs.declared.known.StampedFile.{StampedFile}
use Rattle.mot_objects.specs.Carousel as whole
use Rattle.mot_objects.specs.Stands.{objects_of}
use Rattle.mot_objects.specs.declared.object.Object.{Object}
use Rattle.mot_playout.specs.declared.running.Attempt.{Attempt}
use Rattle.mot_shelf.specs.Given.{Given, and_kept, and_missed, and_read, and_stamp, and_unchanged}
use Rattle.mot_suffixes.specs.Types.{SuffixType}
use Rattle.mot_update.specs.Told.{Answer, Put, Replaced, Withdrew, answers_of}
use Rattle.mot_update.specs.Told.{was_accepted}
use Rattle.mot_update.specs.Looking.{was_settled}
use Rattle.mot_update.specs.Updating.{is_known}
use Rattle.mot_update.specs.declared.settling.SettleOutcome.{SettleOutcome}
use Rattle.mot_update.specs.declared.settling.SettleOutcome.TheVariants as settles

-- ---- lists

module _ {X : Type 0} where
  pub all_push : (P : X → Type 0) (xs : List X) (x : X) → AllByRecursion P xs → P x
      → AllByRecursion P (xs ++ x ∷ [])
  all_push P [] x all one = (one, tt)
  all_push P (y ∷ xs) x all one = (all.0, all_push P xs x all.1 one)

  pub all_on : {P Q : X → Type 0} → ((x : X) → P x → Q x) → (xs : List X) → AllByRecursion P xs
      → AllByRecursion Q xs
  all_on on [] all = tt
  all_on on (x ∷ xs) all = (on x all.0, all_on on xs all.1)

  pub all_at : (P : X → Type 0) (xs : List X) (x : X) → AllByRecursion P xs → Among xs x → P x
  all_at P [] x all at = absurd at
  all_at P (y ∷ xs) x all (inl is) = subst P (sym is) all.0
  all_at P (y ∷ xs) x all (inr at) = all_at P xs x all.1 at

  pub each_among : (xs : List X) → AllByRecursion (Among xs) xs
  each_among [] = tt
  each_among (x ∷ xs) = (inl refl, all_on (λ y at. inr at) xs (each_among xs))

  pub among_more : (xs ys : List X) (x : X) → Among xs x → Among (xs ++ ys) x
  among_more [] ys x at = absurd at
  among_more (y ∷ xs) ys x (inl is) = inl is
  among_more (y ∷ xs) ys x (inr at) = inr (among_more xs ys x at)

  pub among_last : (xs : List X) (x : X) → Among (xs ++ x ∷ []) x
  among_last [] x = inl refl
  among_last (y ∷ xs) x = inr (among_last xs x)

-- ---- what a carousel has

-- with the bodies and without
pub has_it_there : (k : Known) (os : List Object) (bodies : List (List ℕ))
    → map length bodies ≡ map (λ (o : Object). o.length) os
    → list_any (is_it k) (objects_of os bodies) ≡ is_there os k
has_it_there k [] bodies e = refl
has_it_there k (o ∷ os) [] e = cc
has_it_there k (o ∷ os) (b ∷ bodies) e =
    let tail : map length bodies ≡ map (λ (x : Object). x.length) os = cc in
    ap (λ (x : Bool). is_here k o || x) (has_it_there k os bodies tail)

-- ---- what is noted

noted_for : (old new : KnownFiles) (one name : List ℕ) (refused accepted : Bool)
    → NotesName old new one refused → IsNotedFor old name accepted → IsNotedFor new name accepted
noted_for old new one name refused accepted more (inl is) = inl is
noted_for old new one name refused accepted (inl lost) (inr is) = inr (inr lost)
noted_for old new one name refused accepted (inr (same, inl none)) (inr (inl is)) =
    inr (inl (ap (λ l. is_known l name) none.1 ∙ is))
noted_for old new one name refused accepted (inr (same, inr more)) (inr (inl is)) =
    inr (inl (more name ∙ or_right (bytes_eq name one) _ is))
noted_for old new one name refused accepted (inr (same, how)) (inr (inr lost)) =
    inr (inr (same ∙ lost))

noted_on : (old new : KnownFiles) (one : List ℕ) (refused : Bool) → NotesName old new one refused
    → (answer : Answer) → IsNoted old answer → IsNoted new answer
noted_on old new one refused more (Withdrew name came) is = tt
noted_on old new one refused more (Put name came) is =
    noted_for old new one name refused (was_accepted came) more is
noted_on old new one refused more (Replaced name came) is =
    noted_for old new one name refused (was_accepted came) more is

noted_now : (old new : KnownFiles) (name : List ℕ) (accepted : Bool)
    → NotesName old new name (not accepted) → IsNotedFor new name accepted
noted_now old new name accepted (inl lost) = inr (inr lost)
noted_now old new name accepted (inr (same, inl none)) = inl (not-false accepted none.0)
noted_now old new name accepted (inr (same, inr more)) =
    inr (inl (more name ∙ or_left (bytes_eq name name) _ ((bytes_eq-Decides name name).1 refl)))

-- the answers to what was done for one object
noted_of : (old new : KnownFiles) (name : List ℕ) (settled : SettleOutcome)
    → NotesName old new name (not (was_settled settled))
    → AllByRecursion (IsNoted new) (answers_of name settled)
noted_of old new name settles.Right more = tt
noted_of old new name (settles.Put came) more = (noted_now old new name (was_accepted came) more, tt)
noted_of old new name (settles.Replaced came) more =
    (noted_now old new name (was_accepted came) more, tt)

all_append : {X : Type 0} (P : X → Type 0) (xs ys : List X) → AllByRecursion P xs
    → AllByRecursion P ys → AllByRecursion P (xs ++ ys)
all_append P [] ys all more = more
all_append P (x ∷ xs) ys all more = (all.0, all_append P xs ys all.1 more)

-- ---- what is known while a look goes on

-- of a list and what was told of it, with no more told
pub knows_plain : (given : Given) (files : KnownFiles) (told : List Answer)
    → KnowsFiles given files told → KnowsFiles given files (told ++ [])
knows_plain given files told is =
    subst (λ (l : List Answer). KnowsFiles given files l) (sym (append-nil told)) is

-- what was read goes on, and no file was passed over
abbrev pub ReadsOn : Given → Given → Type 0
ReadsOn g h = (h.unchanged ≡ g.unchanged) × ((f : StampedFile) → WasStamped g f → WasStamped h f)

stamped_more : (stamped : List (List ℕ × Stamp)) (name : List ℕ) (stamp : Option Stamp)
    (f : List ℕ × Stamp) → Among stamped f → Among (and_stamp stamped name stamp) f
stamped_more stamped name None f at = at
stamped_more stamped name (Some stamp) f at = among_more stamped ((name, stamp) ∷ []) f at

pub reads_on : (g h : Given) (name bytes : List ℕ) (stamp : Option Stamp)
    → h ≡ and_read g name bytes stamp → ReadsOn g h
reads_on g h name bytes stamp is =
    subst (λ (n : Given). ReadsOn g n) (sym is) (
      refl,
      λ f was. (
        was.0,
        among_more g.read ((name, bytes) ∷ []) (f.name, was.0) was.1,
        stamped_more g.stamped name stamp (f.name, f.stamp) was.2,
      ),
    )

pub misses_on : (g h : Given) (name : List ℕ) → h ≡ and_missed g name → ReadsOn g h
misses_on g h name is = subst (λ (n : Given). ReadsOn g n) (sym is) (refl, λ f was. was)

pub keeps_on : (g h : Given) (name : List ℕ) → h ≡ and_kept g name → ReadsOn g h
keeps_on g h name is = subst (λ (n : Given). ReadsOn g n) (sym is) (refl, λ f was. was)

reads_then : (g h k : Given) → ReadsOn g h → ReadsOn h k → ReadsOn g k
reads_then g h k a b = (b.0 ∙ a.0, λ f was. b.1 f (a.1 f was))

pub left_on : {E : Type 0} {types : List SuffixType} (g h : Given) (name : List ℕ)
    → Misses types name g h E → ReadsOn g h
left_on g h name (was_unread is) = misses_on g h name is
left_on g h name (was_refused bytes stamp is why) = reads_on g h name bytes stamp is
left_on g h name (was_unkept bytes stamp is) =
    reads_then g (and_read g name bytes stamp) h
    (reads_on g (and_read g name bytes stamp) name bytes stamp refl)
    (misses_on (and_read g name bytes stamp) h name is)

pub knows_on : (g h : Given) (files : KnownFiles) (told : List Answer) → ReadsOn g h
    → KnowsFiles g files told → KnowsFiles h files told
knows_on g h files told on is = record {
  passed = subst (λ l. AllByRecursion (IsKnownWith files.known.items) l) (sym on.0) is.passed;
  read = all_on on.1 files.read.items is.read;
  refused = is.refused;
}

-- a file is passed over
pub knows_passed : (g h : Given) (files : KnownFiles) (told : List Answer) (name : List ℕ)
    (stamp : Stamp) → h ≡ and_unchanged g name stamp
    → IsKnownWith files.known.items (name, stamp) → KnowsFiles g files told
    → KnowsFiles h files told
knows_passed g h files told name stamp is one was =
    subst (λ (n : Given). KnowsFiles n files told) (sym is) (record {
      passed = all_push (IsKnownWith files.known.items) g.unchanged (name, stamp) was.passed one;
      read = was.read;
      refused = was.refused;
    })

noted_same : (old new : KnownFiles) → new.refused ≡ old.refused → new.any_lost ≡ old.any_lost
    → (answer : Answer) → IsNoted old answer → IsNoted new answer
noted_same old new same too =
    noted_on old new [] false (inr (too, inl (refl, ap (λ v. v.names.items) same)))

stamped_last : (stamped : List (List ℕ × Stamp)) (name : List ℕ) (stamp : Option Stamp) (is : Stamp)
    → stamp ≡ Some is → Among (and_stamp stamped name stamp) (name, is)
stamped_last stamped name stamp is e =
    subst (λ (o : Option Stamp). Among (and_stamp stamped name o) (name, is)) (sym e)
    (among_last stamped (name, is))

-- a file was read, and is added with its stamp, or not
pub knows_read : (g h : Given) (old new : KnownFiles) (told : List Answer) (name bytes : List ℕ)
    (stamp : Option Stamp) → h ≡ and_read g name bytes stamp
    → (new.read.items ≡ old.read.items) ⊎ ((f : StampedFile) × (f.name ≡ name)
    × (stamp ≡ Some f.stamp) × (new.read.items ≡ old.read.items ++ f ∷ []))
    → new.known ≡ old.known → new.refused ≡ old.refused → new.any_lost ≡ old.any_lost
    → KnowsFiles g old told → KnowsFiles h new told
knows_read g h old new told name bytes stamp is how known refused lost was =
    let next = knows_on g h old told (reads_on g h name bytes stamp is) was in
    record {
      passed = subst (λ v. AllByRecursion (IsKnownWith v.items) h.unchanged) (sym known) next.passed;
      read = elim how [
        | inl same ↦ subst (AllByRecursion (WasStamped h)) (sym same) next.read
        | inr one ↦ subst (AllByRecursion (WasStamped h)) (sym one.3)
            (all_push (WasStamped h) old.read.items one.0 next.read (
              bytes,
              subst (λ (n : List ℕ). Among h.read (n, bytes)) (sym one.1)
                  (subst (λ (n : Given). Among n.read (name, bytes)) (sym is)
                  (among_last g.read (name, bytes))),
              subst (λ (n : List ℕ). Among h.stamped (n, one.0.stamp)) (sym one.1)
                  (subst (λ (n : Given). Among n.stamped (name, one.0.stamp)) (sym is)
                  (stamped_last g.stamped name stamp one.0.stamp one.2)),
            ))
      ];
      refused = all_on (noted_same old new refused lost) told next.refused;
    }

-- the name of a file is noted that was not taken
pub knows_noted : (g : Given) (old new : KnownFiles) (told : List Answer) (name : List ℕ)
    → NotesName old new name true → new.known ≡ old.known → new.read ≡ old.read
    → KnowsFiles g old told → KnowsFiles g new told
knows_noted g old new told name notes known read was = record {
  passed = subst (λ v. AllByRecursion (IsKnownWith v.items) g.unchanged) (sym known) was.passed;
  read = subst (λ v. AllByRecursion (WasStamped g) v.items) (sym read) was.read;
  refused = all_on (noted_on old new name true notes) told was.refused;
}

-- an object is settled
pub knows_settled : (g : Given) (old new : KnownFiles) (told : List Answer) (name : List ℕ)
    (settled : SettleOutcome) → NotesName old new name (not (was_settled settled))
    → new.known ≡ old.known → new.read ≡ old.read → KnowsFiles g old told
    → KnowsFiles g new (told ++ answers_of name settled)
knows_settled g old new told name settled notes known read was = record {
  passed = subst (λ v. AllByRecursion (IsKnownWith v.items) g.unchanged) (sym known) was.passed;
  read = subst (λ v. AllByRecursion (WasStamped g) v.items) (sym read) was.read;
  refused = all_append (IsNoted new) told (answers_of name settled)
      (all_on (noted_on old new name (not (was_settled settled)) notes) told was.refused)
      (noted_of old new name settled notes);
}

-- an object is withdrawn, or not
pub knows_withdrew : (g : Given) (files : KnownFiles) (told : List Answer) (name : List ℕ)
    (came : Attempt) → KnowsFiles g files told
    → KnowsFiles g files (told ++ Withdrew name came ∷ [])
knows_withdrew g files told name came was = record {
  passed = was.passed;
  read = was.read;
  refused = all_push (IsNoted files) told (Withdrew name came) was.refused tt;
}

-- ---- whether a look is fine

-- where a file is passed over it is not
pub passed_is : (any : Bool) → is_fine_look any true ≡ false
passed_is true = refl
passed_is false = refl

pub fine_unrefused : (any passed : Bool) → is_fine_look any passed ≡ true → any ≡ false
fine_unrefused true passed is = absurd (cc (is))
fine_unrefused false passed is = refl

-- ---- behind a look

-- nothing is known of a file that is not
pub none_passed : (c : whole.Carousel) (unchanged : List (List ℕ × Stamp))
    → AllByRecursion (IsPassedOver [] c) unchanged → unchanged ≡ []
none_passed c [] all = refl
none_passed c (file ∷ unchanged) all = absurd (all.0.1)

fine_for : (files : KnownFiles) (name other : List ℕ) (accepted : Bool)
    → is_known files.refused.names.items name ≡ false → files.any_lost ≡ false
    → IsNotedFor files other accepted → other ≡ name → accepted ≡ true
fine_for files name other accepted none lost (inl is) same = is
fine_for files name other accepted none lost (inr (inl known)) same =
    absurd (let e : true ≡ false =
    sym known ∙ ap (is_known files.refused.names.items) same ∙ none in cc (e))
fine_for files name other accepted none lost (inr (inr gone)) same =
    absurd (let e : true ≡ false = sym gone ∙ lost in cc (e))

fine_answer : (files : KnownFiles) (name : List ℕ) → is_known files.refused.names.items name ≡ false
    → files.any_lost ≡ false → (answer : Answer) → IsNoted files answer → IsFineFor name answer
fine_answer files name none lost (Withdrew other came) is = tt
fine_answer files name none lost (Put other came) is =
    fine_for files name other (was_accepted came) none lost is
fine_answer files name none lost (Replaced other came) is =
    fine_for files name other (was_accepted came) none lost is

-- what is kept comes from what was known, or was read
pub comes_from : (known : List Known) (given : Given) (files : KnownFiles) (answers : List Answer)
    (last : whole.Carousel) (objects : List Object) → AllByRecursion (Among known) files.known.items
    → ((k : Known) → is_there objects k ≡ true → has_it last k ≡ true)
    → KnowsFiles given files answers → (k : Known) → IsKept files objects k
    → ComesFrom known given answers last k
comes_from known given files answers last objects were has is k (inl at) =
    was_known (all_at (Among known) files.known.items k were at)
comes_from known given files answers last objects were has is k (inr (added, lost)) =
    let seen = all_at (WasStamped given) files.read.items added.file is.read added.among in
    was_read seen.0
    (subst (λ (n : List ℕ). Among given.read (n, seen.0)) (sym added.name) seen.1)
    (subst (λ (s : Stamp). Among given.stamped (k.name, s)) (sym added.stamp)
    (subst (λ (n : List ℕ). Among given.stamped (n, added.file.stamp)) (sym added.name) seen.2))
    (all_on (fine_answer files k.name added.fine lost) answers is.refused)
    (has k added.there)

-- each file that was passed over is known, and its object there
pub passed_over : (known now : List Known) (c : whole.Carousel)
    → AllByRecursion (λ k. Among known k × (has_it c k ≡ true)) now
    → (file : List ℕ × Stamp) → IsKnownWith now file → IsPassedOver known c file
passed_over known now c all file is =
    let at = all_at (λ k. Among known k × (has_it c k ≡ true)) now is.0 all is.1 in
    (is.0, at.0, is.2, is.3, at.1)

-- what stands at a place of them
module _ {X : Type 0} where
  pub among_at : (xs : List X) (i : ℕ) (x : X) → i < length xs → x ≡ slice_index_or xs i x
      → Among xs x
  among_at [] i x lt is = absurd (omega (arith, lt))
  among_at (y ∷ xs) zero x lt is = inl is
  among_at (y ∷ xs) (suc i) x lt is = inr (among_at xs i x (omega (arith, lt)) is)

  -- all but the last of them, and the last
  pub all_front : (P : X → Type 0) (xs : List X) (x : X) → AllByRecursion P (xs ++ x ∷ [])
      → AllByRecursion P xs × P x
  all_front P [] x all = (tt, all.0)
  all_front P (y ∷ xs) x all = let rest = all_front P xs x all.1 in ((all.0, rest.0), rest.1)
