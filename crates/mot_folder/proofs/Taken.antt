-- Names that were gone over, each of an object that was given or of a file that is told.
use Rattle.std.proofs.Common.{◌≡◌, ◌∙◌, ℕ, ◌+◌, ◌<◌, length, zero, suc, List, [], ◌∷◌, ◌++◌, ap}
use Rattle.std.proofs.Common.{append_assoc}
use Rattle.std.proofs.Common.{append-nil, map, refl, subst, sym, take, arith}
use Rattle.std.proofs.Common.{None, Some, Option, Bool, true, false, not, ◌||◌, cond, inl, inr}
use Rattle.std.specs.List.{flat_map, list_any}
use Rattle.std.specs.Prelude.{◌&&◌, ◌⊎◌, ◌↔◌, bytes_eq, slice_get, filter, nat_lt}
use Rattle.std.proofs.lemmas.Bool.{not-false, not-true, or_from, or_left, or_parts, or_right}
use Rattle.std.proofs.lemmas.Slice.Eq.{bytes_eq-Decides}
use Rattle.std.proofs.lemmas.Grind.{flat_map-append}
use Rattle.std.proofs.lemmas.List.Folds.{list_any-append}
use Rattle.std.proofs.lemmas.List.{map-append}
use Rattle.std.proofs.lemmas.List.Elements.{filter-append}
use Rattle.mot_events.specs.Events.{event_of}
use Rattle.mot_events.specs.declared.event.LookStep.TheVariants as step
use Rattle.mot_events.specs.declared.event.LookEvent.{LookEvent}
use Rattle.mot_events.specs.declared.event.LookResult.{LookResult}
use Rattle.mot_events.specs.declared.event.Why.{Why}
use Rattle.mot_folder.specs.Inner.Images.{NotesImage}
use Rattle.mot_folder.specs.Inner.Names.{name_or_none}
use Rattle.mot_folder.specs.Inner.Reading.{LookStart, Misses, Takes, TellsFile, TellsLook, TellsOffered}
use Rattle.mot_folder.specs.Inner.Reading.Misses.{was_refused, was_unkept, was_unread}
use Rattle.mot_folder.specs.Inner.Listing.{TellsNameless}
use Rattle.mot_folder.specs.Inner.Reasons.{TellsNoMore, TellsUnless, and_waiting}
use Rattle.mot_folder.proofs.Waiting.{told_more, told_same, waiting_more}
use Rattle.mot_folder.specs.Listed.{AreEither, IsListing, nameless, names_in, object_names, with_type}
use Rattle.mot_folder.specs.Looked.{EachIsTold}
use Rattle.mot_folder.proofs.Log.{file_beside, file_named, file_no_image, images-more, images_same}
use Rattle.mot_folder.proofs.Log.{look-more, look_same, note_beside, note_no_image, note_unnamed}
use Rattle.mot_folder.proofs.Log.{note_unread}
use Rattle.mot_folder.specs.Log.{AreKept, IsKept}
use Rattle.mot_folder.specs.Log.{TellsOf, TellsOne, event_of_answer, is_note, is_read, is_waiting, result_for}
use Rattle.mot_folder.specs.Log.{all_image_notes, image_note, image_notes, images_noted}
use Rattle.mot_folder.specs.Log.{names_read, not_accepted, of_look, told_of}
use Rattle.mot_folder.specs.Taken.{AreTaken}
use Rattle.mot_numbers.specs.declared.refusal.Refusal.{Refusal}
use Rattle.mot_folder.specs.Taken.AreTaken.{no_file, one_refused, one_unchanged, one_unkept}
use Rattle.mot_folder.specs.Taken.AreTaken.{one_unread, one_wanted}
use Rattle.mot_folder.specs.declared.report.Report.{Report}
use Rattle.mot_playout.specs.declared.running.Attempt.TheVariants.{Accepted, Refused as WasRefused}
use Rattle.mot_files.specs.declared.system.Stamp.{Stamp}
use Rattle.mot_folder.specs.declared.known.Known.{Known}
use Rattle.mot_shelf.specs.Given.{Given, and_kept, and_missed, and_unchanged}
use Rattle.mot_suffixes.specs.Images.{other_image}
use Rattle.mot_suffixes.specs.Types.{SuffixType}
use Rattle.mot_suffixes.specs.declared.images.OtherImage.{OtherImage}
use Rattle.mot_objects.specs.declared.command.Command.{Command}
use Rattle.mot_update.specs.Laws.{names_of}
use Rattle.mot_update.specs.Looking.{AreAccepted, was_stored}
use Rattle.mot_update.specs.Told.{Answer, AreAnswers, Put, Replaced, TellsBoth, Withdrew}
use Rattle.mot_update.specs.Told.{answers_of, came_of, was_accepted}
use Rattle.mot_update.specs.Updating.{is_known}
use Rattle.mot_update.specs.declared.settling.SettleOutcome.{SettleOutcome}
use Rattle.mot_update.specs.declared.settling.SettleOutcome.TheVariants as settles
use Rattle.mot_objects.specs.declared.command.Item.{Item}

-- those that were read, of more entries
pub read-more : (entries more : List LookEvent)
    → names_read (entries ++ more) ≡ names_read entries ++ names_read more
read-more entries more =
    ap (λ (l : List LookEvent). map (λ (e : LookEvent). e.name) l)
    (filter-append is_read entries more)
    ∙ map-append (λ (e : LookEvent). e.name) (filter is_read entries) (filter is_read more)

-- where none of the further ones was
pub read_same : (entries more : List LookEvent) → names_read more ≡ []
    → names_read (entries ++ more) ≡ names_read entries
read_same entries more none =
    read-more entries more ∙ ap (λ l. names_read entries ++ l) none
    ∙ append-nil (names_read entries)

-- ---- whether anything was refused

or_counted : (a b r : Bool) → ((a || b) || r) ≡ ((a || (r || false)) || b)
or_counted true b r = refl
or_counted false true true = refl
or_counted false true false = refl
or_counted false false true = refl
or_counted false false false = refl

-- behind a further answer that is only counted
any_counted : (answers : List Answer) (entries : List LookEvent) (old new : Bool) (answer : Answer)
    → new ≡ (old || not_accepted answer)
    → old ≡ (list_any not_accepted answers || list_any is_read entries)
    → new ≡ (list_any not_accepted (answers ++ answer ∷ []) || list_any is_read entries)
any_counted answers entries old new answer one was =
    let a = list_any not_accepted answers in
    let b = list_any is_read entries in
    let r = not_accepted answer in
    one ∙ ap (λ (x : Bool). x || r) was ∙ or_counted a b r
    ∙ ap (λ (x : Bool). x || b) (sym (list_any-append not_accepted answers (answer ∷ [])))

or_none : (b : Bool) → b ≡ (b || false)
or_none true = refl
or_none false = refl

-- behind entries of no file
pub any_beside : (answers : List Answer) (entries more : List LookEvent) (old new : Bool)
    → list_any is_read more ≡ false → new ≡ old
    → old ≡ (list_any not_accepted answers || list_any is_read entries)
    → new ≡ (list_any not_accepted answers || list_any is_read (entries ++ more))
any_beside answers entries more old new none same was =
    let a = list_any not_accepted answers in
    let b = list_any is_read entries in
    same ∙ was ∙ ap (λ (x : Bool). a || x) (or_none b)
    ∙ ap (λ (x : Bool). a || (b || x)) (sym none)
    ∙ ap (λ (x : Bool). a || x) (sym (list_any-append is_read entries more))

-- behind a file that was not taken
pub any_read : (answers : List Answer) (entries : List LookEvent) (last : LookEvent) (new : Bool)
    → is_read last ≡ true → new ≡ true
    → new ≡ (list_any not_accepted answers || list_any is_read (entries ++ last ∷ []))
any_read answers entries last new one refused =
    refused ∙ sym (or_right (list_any not_accepted answers) _
    (list_any-append is_read entries (last ∷ [])
    ∙ or_right (list_any is_read entries) _ (or_left (is_read last) false one)))

read-cases : (b : Bool) (e : LookEvent) (entries : List LookEvent) → is_read e ≡ b
    → (list_any is_read entries ≡ false → names_read entries ≡ [])
    → (b || list_any is_read entries) ≡ false
    → map (λ (x : LookEvent). x.name) (cond b (e ∷ filter is_read entries) (filter is_read entries)) ≡ []
read-cases true e entries is rest any = absurd (cc (any))
read-cases false e entries is rest any = rest any

none_read : (entries : List LookEvent) → list_any is_read entries ≡ false → names_read entries ≡ []
none_read [] any = refl
none_read (e ∷ entries) any = read-cases (is_read e) e entries refl (none_read entries) any

unread-cases : (b : Bool) (e : LookEvent) (entries : List LookEvent) → is_read e ≡ b
    → (names_read entries ≡ [] → list_any is_read entries ≡ false)
    → map (λ (x : LookEvent). x.name) (cond b (e ∷ filter is_read entries) (filter is_read entries)) ≡ []
    → (b || list_any is_read entries) ≡ false
unread-cases true e entries is rest none = absurd (cc (none))
unread-cases false e entries is rest none = rest none

read_none : (entries : List LookEvent) → names_read entries ≡ [] → list_any is_read entries ≡ false
read_none [] none = refl
read_none (e ∷ entries) none = unread-cases (is_read e) e entries refl (read_none entries) none

accepted_of : (answers : List Answer) (commands : List Command) (marks : List Bool)
    → AreAnswers answers commands marks → list_any not_accepted answers ≡ false → AreAccepted marks
accepted_of answers commands [] are none = tt
accepted_of [] commands (mark ∷ marks) are none = absurd are
accepted_of (answer ∷ answers) [] (mark ∷ marks) are none = absurd are
accepted_of (answer ∷ answers) (c ∷ commands) (mark ∷ marks) are none =
    let parts = or_parts (not_accepted answer) (list_any not_accepted answers) none in (
      sym are.1 ∙ not-false (was_accepted (came_of answer)) parts.0,
      accepted_of answers commands marks are.2 parts.1,
    )

refused_none : (answers : List Answer) (commands : List Command) (marks : List Bool)
    → AreAnswers answers commands marks → AreAccepted marks → list_any not_accepted answers ≡ false
refused_none answers commands [] are all = ap (list_any not_accepted) are
refused_none [] commands (mark ∷ marks) are all = absurd are
refused_none (answer ∷ answers) [] (mark ∷ marks) are all = absurd are
refused_none (answer ∷ answers) (c ∷ commands) (mark ∷ marks) are all =
    ap (λ (m : Bool). not m || list_any not_accepted answers) (are.1 ∙ all.0)
    ∙ refused_none answers commands marks are.2 all.1

-- a look is fine exactly where no file is told and each command was accepted
pub fine_is : (entries : List LookEvent) (answers : List Answer) (commands : List Command)
    (marks : List Bool) (any : Bool) → AreAnswers answers commands marks
    → any ≡ (list_any not_accepted answers || list_any is_read entries)
    → (not any ≡ true) ↔ ((names_read entries ≡ []) × AreAccepted marks)
fine_is entries answers commands marks any are is = (
  λ fine.
      let parts = or_parts (list_any not_accepted answers) (list_any is_read entries)
      (sym is ∙ not-true any fine) in
      (none_read entries parts.1, accepted_of answers commands marks are parts.0),
  λ all. ap not (is
      ∙ ap (λ (b : Bool). b || list_any is_read entries)
      (refused_none answers commands marks are all.1)
      ∙ read_none entries all.0),
)

-- what is told of a command, with this reason of a refusal
abbrev pub event_for : Answer → Why → LookEvent
event_for (Withdrew name came) why = event_of name (result_for step.Withdraw came why)
event_for (Put name came) why = event_of name (result_for step.Put came why)
event_for (Replaced name came) why = event_of name (result_for step.Replace came why)

-- of the look, and of no file
answer_told : (answer : Answer) (why : Why) → (names_read (event_for answer why ∷ []) ≡ [])
    × (is_read (event_for answer why) ≡ false)
    × (of_look (event_for answer why ∷ []) ≡ event_of_answer answer ∷ [])
    × (images_noted (event_for answer why ∷ []) ≡ [])
answer_told (Withdrew name (Accepted done)) why = (refl, refl, refl, refl)
answer_told (Withdrew name (WasRefused refusal)) why = (refl, refl, refl, refl)
answer_told (Put name (Accepted done)) why = (refl, refl, refl, refl)
answer_told (Put name (WasRefused refusal)) why = (refl, refl, refl, refl)
answer_told (Replaced name (Accepted done)) why = (refl, refl, refl, refl)
answer_told (Replaced name (WasRefused refusal)) why = (refl, refl, refl, refl)

-- ---- image types that are noted

-- of no command, and of no file
image_look : (name : List ℕ) (o : Option OtherImage) → of_look (image_note name o) ≡ []
image_look name None = refl
image_look name (Some other) = refl

image_unread : (name : List ℕ) (o : Option OtherImage) → names_read (image_note name o) ≡ []
image_unread name None = refl
image_unread name (Some other) = refl

image_any : (name : List ℕ) (o : Option OtherImage) → list_any is_read (image_note name o) ≡ false
image_any name None = refl
image_any name (Some other) = refl

image_noted : (name : List ℕ) (o : Option OtherImage)
    → images_noted (image_note name o) ≡ image_note name o
image_noted name None = refl
image_noted name (Some other) = refl

-- what is noted of one object more
notes_more : (wanted : List Item) (w : Item)
    → all_image_notes (wanted ++ w ∷ []) ≡ all_image_notes wanted ++ image_notes w
notes_more wanted w = flat_map-append image_notes wanted (w ∷ [])
    ∙ ap (λ l. all_image_notes wanted ++ l) (append-nil (image_notes w))

-- ---- names that were gone over

-- two lists that nothing was added to
pub plain : (P : List Answer → List Item → Type 0) (answers : List Answer) (given : List Item)
    → P (answers ++ []) (given ++ []) → P answers given
plain P answers given told =
    subst (λ (l : List Item). P answers l) (append-nil given)
    (subst (λ (l : List Answer). P l (given ++ [])) (append-nil answers) told)

-- one behind the other
pub behind : (P Q R : List Answer → List Item → Type 0) (more : List Item)
    → TellsBoth P Q [] [] → TellsBoth Q R [] more → TellsBoth P R [] more
behind P Q R more first last = λ given answers was.
    last given answers (plain Q answers given (first given answers was))

-- an answer more, whose file was made to last
kept_more : (kept : List (List ℕ)) (answers : List Answer) (answer : Answer)
    → AreKept kept answers → IsKept kept answer → AreKept kept (answers ++ answer ∷ [])
kept_more kept [] answer are is = (is, tt)
kept_more kept (first ∷ answers) answer are is = (are.0, kept_more kept answers answer are.1 is)

-- and one file more that was
known_on : (kept : List (List ℕ)) (more name : List ℕ) → is_known kept name ≡ true
    → is_known (kept ++ more ∷ []) name ≡ true
known_on kept more name is =
    list_any-append (bytes_eq name) kept (more ∷ [])
    ∙ ap (λ (b : Bool). b || list_any (bytes_eq name) (more ∷ [])) is

kept_on : (kept : List (List ℕ)) (more : List ℕ) (answers : List Answer) → AreKept kept answers
    → AreKept (kept ++ more ∷ []) answers
kept_on kept more [] are = tt
kept_on kept more (Withdrew name came ∷ answers) are = (tt, kept_on kept more answers are.1)
kept_on kept more (Put name came ∷ answers) are =
    (λ stored. known_on kept more name (are.0 stored), kept_on kept more answers are.1)
kept_on kept more (Replaced name came ∷ answers) are =
    (λ stored. known_on kept more name (are.0 stored), kept_on kept more answers are.1)

-- the last of them is one of them
pub known_last : (kept : List (List ℕ)) (name : List ℕ) → is_known (kept ++ name ∷ []) name ≡ true
known_last kept name =
    list_any-append (bytes_eq name) kept (name ∷ [])
    ∙ or_right (list_any (bytes_eq name) kept) _
    (or_left (bytes_eq name name) false ((bytes_eq-Decides name name).1 refl))

-- what was done for an object, whose file was made to last if it was stored
pub answers_kept : (kept : List (List ℕ)) (name : List ℕ) (settled : SettleOutcome)
    → (was_stored settled ≡ true → is_known kept name ≡ true)
    → AreKept kept (answers_of name settled)
answers_kept kept name settles.Right is = tt
answers_kept kept name (settles.Put came) is = (is, tt)
answers_kept kept name (settles.Replaced came) is = (is, tt)

-- nothing more was told or given
pub both_same : (P : List Answer → List Item → Type 0) → TellsBoth P P [] []
both_same P = λ given answers was.
    subst (λ (l : List Item). P (answers ++ []) l) (sym (append-nil given))
    (subst (λ (l : List Answer). P l given) (sym (append-nil answers)) was)

-- what is wanted of a file has its name
pub named_of : {types : List SuffixType} {g h : Given} (name : List ℕ) (w : Item)
    → Takes types name g h w → name ≡ w.name
named_of name w is = sym (ap (λ (v : Item). v.name) is.made)

why_so : {P E F : Type 0} → (E → F) → P ⊎ E → P ⊎ F
why_so on (inl untakable) = inl untakable
why_so on (inr none) = inr (on none)

-- the names that a folder gave are those that it gave before
abbrev pub SameNames : Given → Given → Type 0
SameNames g h = (h.listed ≡ g.listed) × (h.files ≡ g.files) × (h.others ≡ g.others)

module _ (types : List SuffixType) where
  -- so they are still those of a listing
  pub still_listing : (path : List ℕ) (g h : Given) (names : List (List ℕ)) → SameNames g h
      → IsListing types path g names → IsListing types path h names
  still_listing path g h names same is =
      let typed = with_type types (flat_map names_in is.pieces) in
      record {
        pieces = is.pieces;
        whole = same.0 ∙ is.whole;
        asked = subst (λ l. AreEither typed l h.others) (sym same.1)
            (subst (AreEither typed g.files) (sym same.2) is.asked);
        are = is.are ∙ ap object_names (sym same.1);
      }

  -- what came of files, where memory may have been wanted for the one or for the other
  pub taken_so : {E F : Type 0} → (E → F) → {names : List (List ℕ)}
      {read : List (List ℕ × List ℕ)} {unchanged : List (List ℕ × Stamp)}
      {missed : List (List ℕ)} {wanted : List Item}
      {told : List (List ℕ)} → AreTaken types E names read unchanged missed wanted told
      → AreTaken types F names read unchanged missed wanted told
  taken_so on no_file = no_file
  taken_so on (one_wanted names missed told read unchanged others name bytes type typed was) =
      one_wanted names missed told read unchanged others name bytes type typed (taken_so on was)
  taken_so on (one_unchanged names missed told read unchanged others name stamp was) =
      one_unchanged names missed told read unchanged others name stamp (taken_so on was)
  taken_so on (one_refused names missed told read unchanged others name bytes why was) =
      one_refused names missed told read unchanged others name bytes (why_so on why) (taken_so on was)
  taken_so on (one_unread names missed told read unchanged others name was) =
      one_unread names missed told read unchanged others name (taken_so on was)
  taken_so on (one_unkept names missed told read unchanged others name bytes was) =
      one_unkept names missed told read unchanged others name bytes (taken_so on was)

  misses_so : {E F : Type 0} → (E → F) → {name : List ℕ} {old new : Given}
      → Misses types name old new E → Misses types name old new F
  misses_so on (was_unread is) = was_unread is
  misses_so on (was_refused bytes stamp is why) = was_refused bytes stamp is (why_so on why)
  misses_so on (was_unkept bytes stamp is) = was_unkept bytes stamp is

  -- an answer to a command is told
  told_one : (g : Given) (old new : Report) (waiting : ℕ) (names : List (List ℕ)) (answer : Answer)
      (why : Why) → new.any_refused ≡ (old.any_refused || not_accepted answer)
      → (old.any_without_memory ≡ true → new.any_without_memory ≡ true)
      → (is_waiting answer && nat_lt 0 waiting) ≡ false → IsKept g.kept answer
      → TellsOne old new (event_for answer why)
      → TellsBoth (TellsOf types g old waiting names)
      (TellsOf types g new (and_waiting waiting (is_waiting answer)) names) (answer ∷ []) []
  told_one g old new waiting names answer why any stays told is_kept one =
      let after = and_waiting waiting (is_waiting answer) in
      let last = event_for answer why in
      let is = answer_told answer why in
      λ given answers was.
      subst (λ (l : List Item). TellsOf types g new after names (answers ++ answer ∷ []) l)
      (sym (append-nil given)) (record {
        entries = was.entries ++ last ∷ [];
        told = one was.entries was.told;
        are = look-more was.entries (last ∷ [])
            ∙ ap (λ l. l ++ of_look (last ∷ [])) was.are
            ∙ ap (λ l. map event_of_answer (told_of answers) ++ l) is.2
            ∙ sym (map-append event_of_answer (told_of answers) (answer ∷ []))
            ∙ ap (map event_of_answer) (sym (told_more answers answer waiting was.waits told));
        waits = waiting_more answers answer waiting was.waits;
        lasting = kept_more g.kept answers answer was.lasting is_kept;
        any = any_beside (answers ++ answer ∷ []) was.entries (last ∷ []) new.any_refused
            new.any_refused (or_from _ false is.1 refl) refl
            (any_counted answers was.entries old.any_refused new.any_refused answer any was.any);
        missed = was.missed;
        read = read_same was.entries (last ∷ []) is.0 ∙ was.read;
        taken = taken_so stays was.taken;
        images = images_same was.entries last is.3 ∙ was.images;
      })

  -- or is only counted
  counted_one : (g : Given) (old new : Report) (waiting : ℕ) (names : List (List ℕ))
      (answer : Answer) → new.any_refused ≡ (old.any_refused || not_accepted answer)
      → (old.any_without_memory ≡ true → new.any_without_memory ≡ true)
      → (is_waiting answer && nat_lt 0 waiting) ≡ true → IsKept g.kept answer
      → TellsNoMore old new
      → TellsBoth (TellsOf types g old waiting names)
      (TellsOf types g new (and_waiting waiting (is_waiting answer)) names) (answer ∷ []) []
  counted_one g old new waiting names answer any stays counted is_kept one =
      let after = and_waiting waiting (is_waiting answer) in
      λ given answers was.
      subst (λ (l : List Item). TellsOf types g new after names (answers ++ answer ∷ []) l)
      (sym (append-nil given)) (record {
        entries = was.entries;
        told = one was.entries was.told;
        are = was.are
            ∙ ap (map event_of_answer) (sym (told_same answers answer waiting was.waits counted));
        waits = waiting_more answers answer waiting was.waits;
        lasting = kept_more g.kept answers answer was.lasting is_kept;
        any = any_counted answers was.entries old.any_refused new.any_refused answer any was.any;
        missed = was.missed;
        read = was.read;
        taken = taken_so stays was.taken;
        images = was.images;
      })

  told_or_counted : (g : Given) (old new : Report) (waiting : ℕ) (names : List (List ℕ))
      (answer : Answer) (why : Why) (b : Bool)
      → new.any_refused ≡ (old.any_refused || not_accepted answer)
      → (old.any_without_memory ≡ true → new.any_without_memory ≡ true)
      → (is_waiting answer && nat_lt 0 waiting) ≡ b → IsKept g.kept answer
      → TellsUnless b old new (event_for answer why)
      → TellsBoth (TellsOf types g old waiting names)
      (TellsOf types g new (and_waiting waiting (is_waiting answer)) names) (answer ∷ []) []
  told_or_counted g old new waiting names answer why true any stays e is_kept one =
      counted_one g old new waiting names answer any stays e is_kept one
  told_or_counted g old new waiting names answer why false any stays e is_kept one =
      told_one g old new waiting names answer why any stays e is_kept one

  -- whatever the reason of a refusal
  pub of_answer : (g : Given) (old new : Report) (waiting : ℕ) (names : List (List ℕ))
      (answer : Answer) (why : Why) → new.any_refused ≡ (old.any_refused || not_accepted answer)
      → (old.any_without_memory ≡ true → new.any_without_memory ≡ true) → IsKept g.kept answer
      → TellsUnless (is_waiting answer && nat_lt 0 waiting) old new (event_for answer why)
      → TellsBoth (TellsOf types g old waiting names)
      (TellsOf types g new (and_waiting waiting (is_waiting answer)) names) (answer ∷ []) []
  of_answer g old new waiting names answer why any stays is_kept one =
      told_or_counted g old new waiting names answer why _ any stays refl is_kept one

  -- a file of this name is gone over that is not taken
  more_missed : {E : Type 0} (old new : Given) (names missed : List (List ℕ)) (given : List Item)
      (name : List ℕ) → Misses types name old new E
      → AreTaken types E names old.read old.unchanged old.missed given missed
      → AreTaken types E (names ++ name ∷ []) new.read new.unchanged new.missed given
      (missed ++ name ∷ [])
  more_missed {E} old new names missed given name (was_unread is) was =
      subst (λ (n : Given).
      AreTaken types E (names ++ name ∷ []) n.read n.unchanged n.missed given (missed ++ name ∷ []))
      (sym is) (one_unread names old.missed missed old.read old.unchanged given name was)
  more_missed {E} old new names missed given name (was_refused bytes stamp is why) was =
      subst (λ (n : Given).
      AreTaken types E (names ++ name ∷ []) n.read n.unchanged n.missed given (missed ++ name ∷ []))
      (sym is) (one_refused names old.missed missed old.read old.unchanged given name bytes why was)
  more_missed {E} old new names missed given name (was_unkept bytes stamp is) was =
      subst (λ (n : Given).
      AreTaken types E (names ++ name ∷ []) n.read n.unchanged n.missed given (missed ++ name ∷ []))
      (sym is) (one_unkept names old.missed missed old.read old.unchanged given name bytes was)

  -- and the folder has the names that it had, and the same files were made to last
  still_missed : {E : Type 0} (old new : Given) (name : List ℕ) → Misses types name old new E
      → SameNames old new × (new.kept ≡ old.kept)
  still_missed old new name (was_unread is) =
      subst (λ (n : Given). SameNames old n × (n.kept ≡ old.kept)) (sym is) ((refl, refl, refl), refl)
  still_missed old new name (was_refused bytes stamp is why) =
      subst (λ (n : Given). SameNames old n × (n.kept ≡ old.kept)) (sym is) ((refl, refl, refl), refl)
  still_missed old new name (was_unkept bytes stamp is) =
      subst (λ (n : Given). SameNames old n × (n.kept ≡ old.kept)) (sym is) ((refl, refl, refl), refl)

  -- one that is
  more_taken : {E : Type 0} (old new : Given) (names missed : List (List ℕ)) (given : List Item)
      (name : List ℕ) (w : Item) → Takes types name old new w
      → AreTaken types E names old.read old.unchanged old.missed given missed
      → AreTaken types E (names ++ name ∷ []) new.read new.unchanged new.missed (given ++ w ∷ [])
      missed
  more_taken {E} old new names missed given name w is was =
      subst (λ (n : Given).
      AreTaken types E (names ++ name ∷ []) n.read n.unchanged n.missed (given ++ w ∷ []) missed)
      (sym is.read)
      (subst (λ (v : Item). AreTaken types E (names ++ name ∷ [])
      (old.read ++ (name, is.bytes) ∷ []) old.unchanged
      old.missed (given ++ v ∷ []) missed) (sym is.made)
      (one_wanted names old.missed missed old.read old.unchanged given name is.bytes is.type is.typed was))

  -- a file that could not be taken is told
  pub of_missed : (g h : Given) (old new : Report) (waiting : ℕ) (names : List (List ℕ)) (name : List ℕ)
      → Misses types name g h (new.any_without_memory ≡ true) → new.any_refused ≡ true
      → (old.any_without_memory ≡ true → new.any_without_memory ≡ true) → TellsFile old new name
      → TellsBoth (TellsOf types g old waiting names)
      (TellsOf types h new waiting (names ++ name ∷ [])) [] []
  of_missed g h old new waiting names name is any stays one = λ given answers was.
      let last = event_of name one.0 in
      subst (λ (l : List Item). TellsOf types h new waiting (names ++ name ∷ []) (answers ++ []) l)
      (sym (append-nil given))
      (subst (λ (l : List Answer). TellsOf types h new waiting (names ++ name ∷ []) l given)
      (sym (append-nil answers)) (record {
        entries = was.entries ++ last ∷ [];
        told = one.2 was.entries was.told;
        are = look_same was.entries (last ∷ []) (file_beside name one.0 one.1) ∙ was.are;
        waits = was.waits;
        lasting = subst (λ l. AreKept l answers) (sym (still_missed g h name is).1) was.lasting;
        any = any_read answers was.entries last new.any_refused one.1 any;
        missed = was.missed ++ name ∷ [];
        read = read-more was.entries (last ∷ [])
            ∙ ap (λ l. names_read was.entries ++ l) (file_named name one.0 one.1)
            ∙ ap (λ l. l ++ name ∷ []) was.read
            ∙ append_assoc (nameless g.files) was.missed (name ∷ [])
            ∙ ap (λ l. nameless l ++ (was.missed ++ name ∷ [])) (sym (still_missed g h name is).0.1);
        taken = more_missed g h names was.missed given name is (taken_so stays was.taken);
        images = images_same was.entries last (file_no_image name one.0 one.1) ∙ was.images;
      }))

  -- an object is given, and its image type noted
  pub of_given : (g h : Given) (old new : Report) (waiting : ℕ) (names : List (List ℕ))
      (name : List ℕ) (w : Item) → Takes types name g h w → NotesImage old new w
      → TellsBoth (TellsOf types g old waiting names)
      (TellsOf types h new waiting (names ++ name ∷ [])) [] (w ∷ [])
  of_given g h old new waiting names name w is notes = λ given answers was.
      let more = image_notes w in
      let other = other_image w.content w.body in
      subst (λ (l : List Answer).
      TellsOf types h new waiting (names ++ name ∷ []) l (given ++ w ∷ []))
      (sym (append-nil answers)) (record {
        entries = was.entries ++ more;
        told = notes.told was.entries was.told;
        are = look_same was.entries more (image_look w.name other) ∙ was.are;
        waits = was.waits;
        lasting = subst (λ (n : Given). AreKept n.kept answers) (sym is.read) was.lasting;
        any = any_beside answers was.entries more old.any_refused new.any_refused
            (image_any w.name other) notes.any was.any;
        missed = was.missed;
        read = read_same was.entries more (image_unread w.name other) ∙ was.read
            ∙ ap (λ (n : Given). nameless n.files ++ was.missed) (sym is.read);
        taken = more_taken g h names was.missed given name w is (taken_so notes.memory was.taken);
        images = images-more was.entries more
            ∙ ap (λ l. images_noted was.entries ++ l) (image_noted w.name other)
            ∙ ap (λ l. l ++ more) was.images ∙ sym (notes_more given w);
      })

  -- a file is passed over
  pub of_passed : (g h : Given) (report : Report) (waiting : ℕ) (names : List (List ℕ))
      (name : List ℕ) (stamp : Stamp) → h ≡ and_unchanged g name stamp
      → TellsBoth (TellsOf types g report waiting names)
      (TellsOf types h report waiting (names ++ name ∷ [])) [] []
  of_passed g h report waiting names name stamp is = λ given answers was.
      subst (λ (n : Given). TellsOf types n report waiting (names ++ name ∷ []) (answers ++ [])
      (given ++ [])) (sym is)
      (subst (λ (l : List Item). TellsOf types (and_unchanged g name stamp) report waiting
      (names ++ name ∷ []) (answers ++ []) l) (sym (append-nil given))
      (subst (λ (l : List Answer). TellsOf types (and_unchanged g name stamp) report waiting
      (names ++ name ∷ []) l given) (sym (append-nil answers)) (record {
        entries = was.entries;
        told = was.told;
        are = was.are;
        waits = was.waits;
        lasting = was.lasting;
        any = was.any;
        missed = was.missed;
        read = was.read;
        taken = one_unchanged names g.missed was.missed g.read g.unchanged given name stamp
            was.taken;
        images = was.images;
      })))

  -- a note is told
  pub of_note : (g : Given) (old new : Report) (waiting : ℕ) (names : List (List ℕ)) (name : List ℕ)
      (outcome : LookResult)
      (answers : List Answer) (given : List Item) → is_note outcome ≡ true
      → new.any_refused ≡ old.any_refused
      → new.any_without_memory ≡ old.any_without_memory
      → TellsOne old new (event_of name outcome)
      → TellsOf types g old waiting names answers given
      → TellsOf types g new waiting names answers given
  of_note g old new waiting names name outcome answers given is same memory one was =
      let last = event_of name outcome in
      record {
        entries = was.entries ++ last ∷ [];
        told = one was.entries was.told;
        are = look_same was.entries (last ∷ []) (note_beside name outcome is) ∙ was.are;
        waits = was.waits;
        lasting = was.lasting;
        any = any_beside answers was.entries (last ∷ []) old.any_refused new.any_refused
            (or_from _ false (note_unread name outcome is) refl) same was.any;
        missed = was.missed;
        read = read_same was.entries (last ∷ []) (note_unnamed name outcome is) ∙ was.read;
        taken = taken_so (λ e. memory ∙ e) was.taken;
        images = images_same was.entries last (note_no_image name outcome is) ∙ was.images;
      }

  -- no name was gone over
  pub of_none : (g : Given) (report : Report) → g.read ≡ [] → g.missed ≡ [] → g.unchanged ≡ []
      → TellsNameless g.files report → TellsOf types g report 0 [] [] []
  of_none g report no_read none_missed none_passed told =
      let E = report.any_without_memory ≡ true in
      record {
        entries = told.entries;
        told = told.told;
        are = told.are;
        waits = refl;
        lasting = tt;
        any = told.any;
        missed = [];
        read = told.read ∙ sym (append-nil (nameless g.files));
        taken = subst (λ l. AreTaken types E [] l g.unchanged g.missed [] []) (sym no_read)
            (subst (λ l. AreTaken types E [] [] l g.missed [] []) (sym none_passed)
            (subst (λ l. AreTaken types E [] [] [] l [] []) (sym none_missed) no_file));
        images = told.images;
      }

  last_none : {X : Type 0} (xs : List X) (x : X) → xs ++ x ∷ [] ≡ [] → ⊥
  last_none [] x e = cc
  last_none (y ∷ xs) x e = cc

  -- where no file is told, and none passed over, each name is that of an object
  taken_all : {E : Type 0} {names : List (List ℕ)} {read : List (List ℕ × List ℕ)}
      {unchanged : List (List ℕ × Stamp)}
      {missed : List (List ℕ)} {wanted : List Item} {told : List (List ℕ)}
      → AreTaken types E names read unchanged missed wanted told → told ≡ [] → unchanged ≡ []
      → names_of wanted ≡ names
  taken_all no_file none all = refl
  taken_all (one_wanted names missed told read unchanged others name bytes type typed was) none all =
      map-append (λ (w : Item). w.name) others _
      ∙ ap (λ l. l ++ name ∷ []) (taken_all was none all)
  taken_all (one_unchanged names missed told read unchanged others name stamp was) none all =
      absurd (last_none unchanged (name, stamp) all)
  taken_all (one_refused names missed told read unchanged others name bytes why was) none all =
      absurd (last_none told name none)
  taken_all (one_unread names missed told read unchanged others name was) none all =
      absurd (last_none told name none)
  taken_all (one_unkept names missed told read unchanged others name bytes was) none all =
      absurd (last_none told name none)

  -- so an object was given of each
  pub every_named : (given : Given) (names : List (List ℕ)) (wanted : List Item)
      (fault : Option Refusal) (entries : List LookEvent)
      → EachIsTold types given names wanted fault entries → names_read entries ≡ []
      → given.unchanged ≡ [] → names_of wanted ≡ names
  every_named given names wanted fault entries each none all =
      taken_all each.taken (second_none (nameless given.files) each.missed (sym each.read ∙ none))
      all
    where
      second_none : (xs ys : List (List ℕ)) → xs ++ ys ≡ [] → ys ≡ []
      second_none [] ys e = e
      second_none (x ∷ xs) ys e = absurd (cc (e))

take-suc-named : (names : List (List ℕ)) (i : ℕ) → i < length names
    → take (suc i) names ≡ take i names ++ name_or_none (slice_get names i) ∷ []
take-suc-named [] i lt = absurd (omega (arith, lt))
take-suc-named (x ∷ names) zero lt = refl
take-suc-named (x ∷ names) (suc i) lt =
    ap (λ l. x ∷ l) (take-suc-named names i (omega (arith, lt)))

-- one name more is gone over
take-named : (names : List (List ℕ)) (i : ℕ) (name : List ℕ) → i < length names
    → slice_get names i ≡ Some name → take (i + 1) names ≡ take i names ++ name ∷ []
take-named names i name lt at =
    let on : i + 1 ≡ suc i = omega arith in
    ap (λ n. take n names) on ∙ take-suc-named names i lt
    ∙ ap (λ o. take i names ++ name_or_none o ∷ []) at

module _ (began : LookStart) (types : List SuffixType) (known : List Known) (path : List ℕ)
    (names : List (List ℕ)) where
  -- what was given and told in a look goes on
  pub look_on : (g h : Given) (place after : ℕ) (old new : Report) (waiting waits : ℕ) (answers : List Answer)
      (more : List Item) → (IsListing types path g names → IsListing types path h names)
      → TellsBoth (TellsOf types g old waiting (take place names))
      (TellsOf types h new waits (take after names)) answers more
      → TellsBoth (TellsLook began types known path g names place old waiting)
      (TellsLook began types known path h names after new waits) answers more
  look_on g h place after old new waiting waits answers more still step = λ given told was. record {
    same_types = was.same_types;
    same_known = was.same_known;
    listing = still was.listing;
    tells = step given told was.tells;
  }

  -- and an object of the next name is given
  pub then_given : (P : List Answer → List Item → Type 0) (g h : Given) (place : ℕ)
      (old new : Report) (waiting : ℕ) (name : List ℕ) (w : Item)
      → TellsBoth P (TellsLook began types known path g names place old waiting) [] []
      → place < length names → slice_get names place ≡ Some name → Takes types name g h w
      → NotesImage old new w
      → TellsBoth P (TellsLook began types known path h names (place + 1) new waiting) [] (w ∷ [])
  then_given P g h place old new waiting name w told lt at is notes =
      behind P (TellsLook began types known path g names place old waiting)
      (TellsLook began types known path h names (place + 1) new waiting) (w ∷ []) told
      (look_on g h place (place + 1) old new waiting waiting [] (w ∷ [])
      (still_listing types path g h names
      (subst (λ (n : Given). SameNames g n) (sym is.read) (refl, refl, refl)))
      (subst (λ l. TellsBoth (TellsOf types g old waiting (take place names))
      (TellsOf types h new waiting l) [] (w ∷ [])) (sym (take-named names place name lt at))
      (of_given types g h old new waiting (take place names) name w is notes)))

  -- or it is told as that of a file that could not be taken
  pub then_missed : {E : Type 0} (P : List Answer → List Item → Type 0) (g h : Given) (place : ℕ)
      (old new : Report) (waiting : ℕ) (name : List ℕ)
      → TellsBoth P (TellsLook began types known path g names place old waiting) [] []
      → place < length names → slice_get names place ≡ Some name → Misses types name g h E
      → (E → new.any_without_memory ≡ true) → new.any_refused ≡ true
      → (old.any_without_memory ≡ true → new.any_without_memory ≡ true) → TellsFile old new name
      → TellsBoth P (TellsLook began types known path h names (place + 1) new waiting) [] []
  then_missed P g h place old new waiting name told lt at is memory any stays one =
      behind P (TellsLook began types known path g names place old waiting)
      (TellsLook began types known path h names (place + 1) new waiting) [] told
      (look_on g h place (place + 1) old new waiting waiting [] []
      (still_listing types path g h names (still_missed types g h name is).0)
      (subst (λ l. TellsBoth (TellsOf types g old waiting (take place names))
      (TellsOf types h new waiting l) [] [])
      (sym (take-named names place name lt at))
      (of_missed types g h old new waiting (take place names) name (misses_so types memory is) any stays
      one)))

  -- or the file of the next name is passed over
  pub then_passed : (P : List Answer → List Item → Type 0) (g h : Given) (place : ℕ)
      (report : Report) (waiting : ℕ) (name : List ℕ) (stamp : Stamp)
      → TellsBoth P (TellsLook began types known path g names place report waiting) [] []
      → place < length names → slice_get names place ≡ Some name
      → h ≡ and_unchanged g name stamp
      → TellsBoth P (TellsLook began types known path h names (place + 1) report waiting) [] []
  then_passed P g h place report waiting name stamp told lt at is =
      behind P (TellsLook began types known path g names place report waiting)
      (TellsLook began types known path h names (place + 1) report waiting) [] told
      (look_on g h place (place + 1) report report waiting waiting [] []
      (still_listing types path g h names
      (subst (λ (n : Given). SameNames g n) (sym is) (refl, refl, refl)))
      (subst (λ l. TellsBoth (TellsOf types g report waiting (take place names))
      (TellsOf types h report waiting l) [] []) (sym (take-named names place name lt at))
      (of_passed types g h report waiting (take place names) name stamp is)))

  -- an object is offered: its file was read
  pub then_offered : (P : List Answer → List Item → Type 0) (g h : Given) (place : ℕ)
      (report : Report) (waiting : ℕ) (name : List ℕ) (w : Item)
      → TellsBoth P (TellsLook began types known path g names place report waiting) [] []
      → place < length names → slice_get names place ≡ Some name → Takes types name g h w
      → TellsBoth P (TellsOffered began types known path h names (place + 1) report waiting w) [] []
  then_offered P g h place report waiting name w told lt at is = λ given answers was. record {
    before = g;
    index = place;
    next = refl;
    within = lt;
    named = at ∙ ap Some (named_of name w is);
    takes = subst (λ n. Takes types n g h w) (named_of name w is) is;
    was = told given answers was;
  }

  -- nothing is read for a file that is made to last
  look_kept : (h : Given) (place : ℕ) (report : Report) (waiting : ℕ) (name : List ℕ)
      (told : List Answer) (gave : List Item)
      → TellsLook began types known path h names place report waiting told gave
      → TellsLook began types known path (and_kept h name) names place report waiting told gave
  look_kept h place report waiting name told gave is = record {
    same_types = is.same_types;
    same_known = is.same_known;
    listing = still_listing types path h (and_kept h name) names (refl, refl, refl) is.listing;
    tells = record {
      entries = is.tells.entries;
      told = is.tells.told;
      are = is.tells.are;
      waits = is.tells.waits;
      lasting = kept_on h.kept name told is.tells.lasting;
      any = is.tells.any;
      missed = is.tells.missed;
      read = is.tells.read;
      taken = is.tells.taken;
      images = is.tells.images;
    };
  }

  -- and then it is given
  pub then_taken : (h : Given) (place : ℕ) (old new : Report) (waiting : ℕ) (w : Item)
      → NotesImage old new w
      → TellsBoth (TellsOffered began types known path h names place old waiting w)
      (TellsLook began types known path h names place new waiting) [] (w ∷ [])
  then_taken h place old new waiting w notes = λ given answers was.
      let before = TellsLook began types known path was.before names was.index old waiting in
      subst (λ n. TellsLook began types known path h names n new waiting (answers ++ []) (given ++ w ∷ []))
      (sym was.next)
      (then_given before was.before h was.index old new waiting w.name w
      (both_same before) was.within was.named was.takes notes given answers was.was)

  -- also if it was made to last before
  pub then_kept : (h k : Given) (place : ℕ) (old new : Report) (waiting : ℕ) (w : Item)
      (name : List ℕ) → k ≡ and_kept h name → NotesImage old new w
      → TellsBoth (TellsOffered began types known path h names place old waiting w)
      (TellsLook began types known path k names place new waiting) [] (w ∷ [])
  then_kept h k place old new waiting w name is notes = λ given answers was.
      subst (λ (n : Given). TellsLook began types known path n names place new waiting (answers ++ [])
      (given ++ w ∷ [])) (sym is)
      (look_kept h place new waiting name (answers ++ []) (given ++ w ∷ [])
      (then_taken h place old new waiting w notes given answers was))

  -- or its file is told as one that could not be taken
  pub then_left : (h k : Given) (place : ℕ) (old new : Report) (waiting : ℕ) (w : Item)
      → k ≡ and_missed h w.name → new.any_refused ≡ true
      → (old.any_without_memory ≡ true → new.any_without_memory ≡ true)
      → TellsFile old new w.name
      → TellsBoth (TellsOffered began types known path h names place old waiting w)
      (TellsLook began types known path k names place new waiting) [] []
  then_left h k place old new waiting w is any stays one = λ given answers was.
      let before = TellsLook began types known path was.before names was.index old waiting in
      subst (λ n. TellsLook began types known path k names n new waiting (answers ++ []) (given ++ []))
      (sym was.next)
      (then_missed {E = ⊥} before was.before k was.index old new waiting w.name (both_same before)
      was.within was.named
      (was_unkept was.takes.bytes was.takes.stamp
      (is ∙ ap (λ (n : Given). and_missed n w.name) was.takes.read))
      (λ no. absurd no) any stays one given answers was.was)

-- before the first of the names is gone over
pub look_begins : (began : LookStart) (path : List ℕ) (g : Given) (names : List (List ℕ))
    (report : Report) → IsListing began.types path g names → g.read ≡ [] → g.missed ≡ []
    → g.unchanged ≡ [] → TellsNameless g.files report
    → TellsLook began began.types began.known path g names 0 report 0 [] []
look_begins began path g names report listing no_read none_missed none_passed told = record {
  same_types = refl;
  same_known = refl;
  listing = listing;
  tells = of_none began.types g report no_read none_missed none_passed told;
}
