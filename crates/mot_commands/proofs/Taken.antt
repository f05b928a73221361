-- What follows of words that were taken in turn.
use Rattle.std.proofs.Common.{◌≡◌, ◌∙◌, ◌&&◌, ◌+◌, ◌<◌, ℕ, zero, suc, Bool, true, false, List, []}
use Rattle.std.proofs.Common.{◌∷◌, ◌++◌, Option, None, Some, Result, Ok, Err, ap, append-nil, arith}
use Rattle.std.proofs.Common.{get_or, inl, inr, length, refl, subst, sym, take}
use Rattle.std.proofs.lemmas.List.{take_more}
use Rattle.std.specs.Borrow.{Bor}
use Rattle.clap.specs.Words.{Text}
use Rattle.disk_model.specs.Disk.{KeepsLength, State}
use Rattle.disk_model.proofs.Laws.{keeps_none}
use Rattle.disk_store.specs.File.{file_state}
use Rattle.disk_store.specs.declared.file.start.Start.{Ghosts}
use Rattle.mot_commands.specs.Asking.{IsRequest}
use Rattle.mot_commands.specs.Changing.{Executes, Changes, ChangesFile, Progress, Takes, TakesEach}
use Rattle.mot_commands.specs.Changing.{texts}
use Rattle.mot_commands.specs.Serving.OpensFor.{opened, unopened}
use Rattle.mot_commands.specs.declared.asking.Words.{Words}
use Rattle.mot_commands.specs.declared.asking.Words.TheVariants.{Objects}
use Rattle.mot_endpoints.specs.Opened.{AreMet, Need}
use Rattle.mot_files.specs.Call.{Call}
use Rattle.mot_numbers.specs.declared.refusal.Refusal.{Refusal}
use Rattle.mot_objects.specs.declared.carousel.Carousel.{Carousel}
use Rattle.mot_objects.specs.declared.command.Command.{Command}
use Rattle.mot_objects.specs.declared.command.Done.{Done}
use Rattle.mot_outcome.proofs.Laws.{opened_after}
use Rattle.mot_outcome.specs.Outcome.{OpensAnd}
use Rattle.mot_outcome.specs.declared.used.UsedDisk.{UsedDisk}
use Rattle.mot_outcome.specs.declared.used.UsedDisk.TheVariants.{InMemory, OfCopy, OfFile}
use Rattle.mot_outcome.specs.declared.used.UsedDisk.TheVariants.{Untouched}
use Rattle.mot_playout.specs.Runs.{ServerView}

and_true : (b : Bool) → (true && b) ≡ (b && true)
and_true true = refl
and_true false = refl

and_false : (b : Bool) → false ≡ (b && false)
and_false true = refl
and_false false = refl

and_assoc : (a b c : Bool) → ((a && b) && c) ≡ (a && (b && c))
and_assoc true b c = refl
and_assoc false b c = refl

module _ {D : Type 0} (state : D → State) where
  -- whatever was asked, the disk keeps its length
  pub executes-keeps : (request : Result Command Refusal) (old new : ServerView D)
      (end : Result Done Refusal) → Executes state request old new end
      → KeepsLength (state old.disk) (state new.disk)
  executes-keeps (Ok command) old new end does = does.keeps.frame
  executes-keeps (Err refusal) old new end none =
      subst (λ (s : ServerView D). KeepsLength (state old.disk) (state s.disk)) (sym none.0)
      (keeps_none (state old.disk))

  module _ (words : Words) where
    -- one word more
    pub takes-more : (list : List (List ℕ)) (word : List ℕ) (old mid new : Progress D)
        (all done : Bool) → TakesEach state words list all None old mid
        → Takes state words word done None mid new
        → TakesEach state words (list ++ word ∷ []) (all && done) None old new
    takes-more [] word old mid new all done taken one = inl (
      done,
      true,
      new,
      subst (λ (p : Progress D). Takes state words word done None p new) taken.2 one,
      (refl, refl, refl),
      ap (λ b. b && done) taken.0 ∙ and_true done,
    )
    takes-more (first ∷ list) word old mid new all done (inl taken) one = inl (
      taken.0,
      taken.1 && done,
      taken.2,
      taken.3,
      takes-more list word taken.2 mid new taken.1 done taken.4 one,
      ap (λ b. b && done) taken.5 ∙ and_assoc taken.0 taken.1 done,
    )
    takes-more (first ∷ list) word old mid new all done (inr stopped) one =
        absurd (let e : None ≡ Some stopped.0 = stopped.1 in cc)

    -- and one at which it ended
    pub takes-ends : (list others : List (List ℕ)) (word : List ℕ) (old mid new : Progress D)
        (all : Bool) (refusal : Refusal) → TakesEach state words list all None old mid
        → Takes state words word false (Some refusal) mid new
        → TakesEach state words (list ++ word ∷ others) false (Some refusal) old new
    takes-ends [] others word old mid new all refusal taken one = inr (
      refusal,
      refl,
      subst (λ (p : Progress D). Takes state words word false (Some refusal) p new) taken.2 one,
    )
    takes-ends (first ∷ list) others word old mid new all refusal (inl taken) one = inl (
      taken.0,
      false,
      taken.2,
      taken.3,
      takes-ends list others word taken.2 mid new taken.1 refusal taken.4 one,
      and_false taken.0,
    )
    takes-ends (first ∷ list) others word old mid new all refusal (inr stopped) one =
        absurd (let e : None ≡ Some stopped.0 = stopped.1 in cc)

  request-stays : (name : List ℕ) (c : Carousel) (request : Result Command Refusal)
      (old new : List Call) → IsRequest Objects name c request old new → new ≡ old
  request-stays name c (Ok command) old new asked = asked.0
  request-stays name c (Err refusal) old new why = why.0

  -- of names, nothing is asked of the system
  takes-stays : (list : List (List ℕ)) (all : Bool) (ending : Option Refusal)
      (old new : Progress D) → TakesEach state Objects list all ending old new
      → new.2 ≡ old.2
  takes-stays [] all ending old new taken = ap (λ (p : Progress D). p.2) taken.2
  takes-stays (name ∷ others) all ending old new (inl taken) =
      takes-stays others taken.1 ending taken.2 new taken.4
      ∙ request-stays name old.0.view.carousel taken.3.request _ _ taken.3.asked
  takes-stays (name ∷ others) all ending old new (inr stopped) =
      request-stays name old.0.view.carousel stopped.2.request _ _ stopped.2.asked

  changes-stays : (list : List (List ℕ)) (all : Bool) (ending : Option Refusal)
      (old new : Option (List ℕ)) (before after : List Call) (disk : D) (start : State)
      → Changes state Objects list all ending old new before after disk start → after ≡ before
  changes-stays list all ending old new before after disk start (unopened r is why none) =
      none.1
  changes-stays list all ending old new before after disk start (opened opens) =
      takes-stays list all ending _ _ opens.leads

module _ {S F : Type 0} {start : Ghosts S F} where
  pub names-stay : (list : List Text) (all : Bool) (ending : Option Refusal)
      (old new : Option (List ℕ)) (before after : List Call) (used : UsedDisk S F start)
      → ChangesFile Objects list all ending old new before after used → after ≡ before
  names-stay list all ending old new before after (Untouched value) none = absurd none
  names-stay list all ending old new before after (InMemory disk value) none = absurd none
  names-stay list all ending old new before after (OfCopy from to) none = absurd none
  names-stay list all ending old new before after (OfFile disk beside) changes =
      changes-stays file_state list all ending old new before after disk _ changes.since

  -- the disk, and what was needed before it
  pub opened_behind : (first : List Need) (path : Text) (Does : (old new : List Call) → Type 0)
      (ending : Option Refusal) (used : UsedDisk S F start) (old mid new : List Call)
      → AreMet first old mid → OpensAnd [] path Does ending used mid new
      → OpensAnd first path Does ending used old new
  opened_behind first path Does ending used old mid new are is =
      subst (λ (l : List Need). OpensAnd l path Does ending used old new) (append-nil first)
      (opened_after first [] path Does ending used old mid new are is)

texts-append : (words : List (Bor Text)) (w : Bor Text) → texts (words ++ w ∷ []) ≡ texts words ++ w.now ∷ []
texts-append [] w = refl
texts-append (x ∷ words) w = ap (λ (l : List Text). x.now ∷ l) (texts-append words w)

-- the texts of one word more, and of those around it
pub texts-more : (words : List (Bor Text)) (i : ℕ) (d : Bor Text) → i < length words
    → texts (take (i + 1) words) ≡ texts (take i words) ++ (get_or words i d).now ∷ []
texts-more words i d lt =
    ap texts (take_more words i d lt) ∙ texts-append (take i words) (get_or words i d)

pub texts_around : (words : List (Bor Text)) (i : ℕ) (d : Bor Text) → i < length words
    → (others : List Text)
    × (texts words ≡ texts (take i words) ++ (get_or words i d).now ∷ others)
texts_around [] i d lt = absurd (omega (arith, lt))
texts_around (w ∷ words) zero d lt = (texts words, refl)
texts_around (w ∷ words) (suc i) d lt =
    let rest = texts_around words i d (omega (arith, lt)) in
    (rest.0, ap (λ (l : List Text). w.now ∷ l) rest.1)
