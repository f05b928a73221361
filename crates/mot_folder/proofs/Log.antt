-- What is told of a look, one thing after the other.
use Rattle.std.proofs.Common.{◌≡◌, ◌∙◌, ◌++◌, ◌&&◌, ◌||◌, Bool, true, false, not, ℕ, List, [], ◌∷◌, ap}
use Rattle.std.proofs.Common.{append-nil, cond, map, refl, subst, sym}
use Rattle.std.specs.Prelude.{filter}
use Rattle.std.proofs.lemmas.Bool.{or_parts}
use Rattle.std.proofs.lemmas.List.{map-append}
use Rattle.std.proofs.lemmas.List.Elements.{filter-append}
use Rattle.mot_events.specs.Events.{event_of}
use Rattle.mot_events.specs.declared.event.LookEvent.{LookEvent}
use Rattle.mot_events.specs.declared.event.LookResult.{LookResult}
use Rattle.mot_events.specs.declared.event.LookResult.TheVariants as outcome
use Rattle.mot_folder.specs.Log.{ReportTells, TellsAnswers, TellsOne, images_noted, is_note}
use Rattle.mot_folder.specs.Log.{is_of_file, is_of_image, is_of_look, names_read, of_look}
use Rattle.mot_folder.specs.Log.{unreasoned}
use Rattle.mot_folder.specs.declared.report.Report.{Report}
use Rattle.mot_update.specs.Told.{TellsMore}

-- of more entries those that are told of the look
pub look-more : (entries more : List LookEvent)
    → of_look (entries ++ more) ≡ of_look entries ++ of_look more
look-more entries more =
    ap (λ (l : List LookEvent). map unreasoned l) (filter-append is_of_look entries more)
    ∙ map-append unreasoned (filter is_of_look entries) (filter is_of_look more)

-- and of more entries those that note an image type
pub images-more : (entries more : List LookEvent)
    → images_noted (entries ++ more) ≡ images_noted entries ++ images_noted more
images-more entries more = filter-append (λ (e : LookEvent). is_of_image e.outcome) entries more

-- more that are told of none
pub look_same : (entries more : List LookEvent) → of_look more ≡ []
    → of_look (entries ++ more) ≡ of_look entries
look_same entries more none =
    look-more entries more ∙ ap (λ l. of_look entries ++ l) none ∙ append-nil (of_look entries)

-- and that note none
pub images_same : (entries : List LookEvent) (last : LookEvent) → images_noted (last ∷ []) ≡ []
    → images_noted (entries ++ last ∷ []) ≡ images_noted entries
images_same entries last none =
    images-more entries (last ∷ []) ∙ ap (λ l. images_noted entries ++ l) none
    ∙ append-nil (images_noted entries)

-- a look that begins tells nothing
pub tells_none : (report : Report) → ReportTells report [] → TellsAnswers report []
tells_none report told = record { entries = []; told = told; are = refl; images = refl }

-- nothing more was told
pub tells_same : (report : Report) → TellsMore (TellsAnswers report) (TellsAnswers report) []
tells_same report = λ answers told. subst (TellsAnswers report) (sym (append-nil answers)) told

-- what is told beside the answers to commands is none
pub tells_beside : (old new : Report) (last : LookEvent) → of_look (last ∷ []) ≡ []
    → images_noted (last ∷ []) ≡ [] → TellsOne old new last
    → TellsMore (TellsAnswers old) (TellsAnswers new) []
tells_beside old new last none no_image one = λ answers told.
    subst (TellsAnswers new) (sym (append-nil answers)) (record {
      entries = told.entries ++ last ∷ [];
      told = one told.entries told.told;
      are = look_same told.entries (last ∷ []) none ∙ told.are;
      images = images_same told.entries last no_image ∙ told.images;
    })

-- nothing is told of a file and of an image, and a note is neither
apart : (m : LookResult) → ((is_of_image m && is_of_file m) ≡ false)
    × ((is_note m && (is_of_file m || is_of_image m)) ≡ false)
apart (outcome.Done what done) = (refl, refl)
apart (outcome.Refused what refusal why) = (refl, refl)
apart outcome.Young = (refl, refl)
apart outcome.Changed = (refl, refl)
apart (outcome.Skipped skip) = (refl, refl)
apart (outcome.Going unknown all) = (refl, refl)
apart (outcome.Gap gap) = (refl, refl)
apart (outcome.Waiting most files) = (refl, refl)
apart outcome.Kept = (refl, refl)
apart (outcome.KeptMost going all) = (refl, refl)
apart outcome.Listed = (refl, refl)
apart (outcome.OtherImage other) = (refl, refl)

file_image : (image file : Bool) → (image && file) ≡ false → file ≡ true → image ≡ false
file_image true file none is = absurd (cc (none, is))
file_image false file none is = refl

note_only : (note file image : Bool) → (note && (file || image)) ≡ false → note ≡ true
    → (file ≡ false) × (image ≡ false)
note_only true file image none is = or_parts file image none
note_only false file image none is = absurd (cc (is))

module _ (name : List ℕ) (m : LookResult) where
  -- what is told of a file is told of no command, and of its name
  pub file_beside : is_of_file m ≡ true → of_look (event_of name m ∷ []) ≡ []
  file_beside is =
      ap (λ (b : Bool). map unreasoned
      (cond (not (b || is_note m || is_of_image m)) (event_of name m ∷ []) [])) is

  pub file_named : is_of_file m ≡ true → names_read (event_of name m ∷ []) ≡ name ∷ []
  file_named is =
      ap (λ (b : Bool). map (λ (e : LookEvent). e.name) (cond b (event_of name m ∷ []) [])) is

  -- and notes no image type
  pub file_no_image : is_of_file m ≡ true → images_noted (event_of name m ∷ []) ≡ []
  file_no_image is =
      ap (λ (b : Bool). cond b (event_of name m ∷ []) [])
      (file_image (is_of_image m) (is_of_file m) (apart m).0 is)

  -- a file that was not taken is told
  pub tells_unread : (old new : Report) → is_of_file m ≡ true
      → TellsOne old new (event_of name m) → TellsMore (TellsAnswers old) (TellsAnswers new) []
  tells_unread old new is one =
      tells_beside old new (event_of name m) (file_beside is) (file_no_image is) one

-- a note is told of no file
module _ (name : List ℕ) (m : LookResult) (is : is_note m ≡ true) where
  none : (is_of_file m ≡ false) × (is_of_image m ≡ false)
  none = note_only (is_note m) (is_of_file m) (is_of_image m) (apart m).1 is

  pub note_unread : is_of_file m ≡ false
  note_unread = none.0

  -- and of no command
  pub note_beside : of_look (event_of name m ∷ []) ≡ []
  note_beside =
      ap (λ (b : Bool). map unreasoned
      (cond (not (b || is_note m || is_of_image m)) (event_of name m ∷ []) [])) note_unread
      ∙ ap (λ (b : Bool). map unreasoned
      (cond (not (b || is_of_image m)) (event_of name m ∷ []) [])) is

  pub note_unnamed : names_read (event_of name m ∷ []) ≡ []
  note_unnamed =
      ap (λ (b : Bool). map (λ (e : LookEvent). e.name) (cond b (event_of name m ∷ []) []))
      note_unread

  pub note_no_image : images_noted (event_of name m ∷ []) ≡ []
  note_no_image = ap (λ (b : Bool). cond b (event_of name m ∷ []) []) none.1

-- a note is told
pub tells_note : (old new : Report) (name : List ℕ) (m : LookResult) → is_note m ≡ true
    → TellsOne old new (event_of name m) → TellsMore (TellsAnswers old) (TellsAnswers new) []
tells_note old new name m is one =
    tells_beside old new (event_of name m) (note_beside name m is) (note_no_image name m is) one
