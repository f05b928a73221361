-- While the names of a folder are listed: what is told of those that are no names of objects.
use Rattle.std.proofs.Common.{◌≡◌, ◌∙◌, ◌++◌, ℕ, Bool, true, false, not, List, [], ◌∷◌, ap}
use Rattle.std.proofs.Common.{append-nil, cond, refl, sym}
use Rattle.std.proofs.lemmas.Bool.{or_from}
use Rattle.std.proofs.lemmas.List.Elements.{filter-append}
use Rattle.mot_events.specs.Events.{event_of}
use Rattle.mot_events.specs.declared.event.LookResult.{LookResult}
use Rattle.mot_folder.proofs.Log.{file_beside, file_named, file_no_image, images_same, look_same}
use Rattle.mot_folder.proofs.Log.{note_beside, note_no_image, note_unnamed, note_unread}
use Rattle.mot_folder.proofs.Taken.{any_beside, any_read, read-more, read_same}
use Rattle.mot_folder.specs.Inner.Listing.{TellsNameless}
use Rattle.mot_folder.specs.Listed.{nameless}
use Rattle.mot_folder.specs.Log.{ReportTells, TellsOne, is_note, is_of_file, names_read}
use Rattle.mot_folder.specs.declared.report.Report.{Report}
use Rattle.mot_objects.specs.Name.{is_name}
use Rattle.mot_objects.specs.declared.name.TheConstants.{MAX_NAME}

-- a look that begins tells of no name
pub nameless_none : (report : Report) → report.any_refused ≡ false → ReportTells report []
    → TellsNameless [] report
nameless_none report fine told =
    record { entries = []; told = told; are = refl; any = fine; read = refl; images = refl }

-- a note is told beside them
pub nameless_note : (files : List (List ℕ)) (old new : Report) (name : List ℕ) (outcome : LookResult)
    → is_note outcome ≡ true → new.any_refused ≡ old.any_refused
    → TellsOne old new (event_of name outcome) → TellsNameless files old → TellsNameless files new
nameless_note files old new name outcome is same one was =
    let last = event_of name outcome in
    record {
      entries = was.entries ++ last ∷ [];
      told = one was.entries was.told;
      are = look_same was.entries (last ∷ []) (note_beside name outcome is) ∙ was.are;
      any = any_beside [] was.entries (last ∷ []) old.any_refused new.any_refused
          (or_from _ false (note_unread name outcome is) refl) same was.any;
      read = read_same was.entries (last ∷ []) (note_unnamed name outcome is) ∙ was.read;
      images = images_same was.entries last (note_no_image name outcome is) ∙ was.images;
    }

one_more : (files : List (List ℕ)) (name : List ℕ) (is : Bool) → is_name MAX_NAME name ≡ is
    → nameless (files ++ name ∷ []) ≡ nameless files ++ cond (not is) (name ∷ []) []
one_more files name is e =
    filter-append (λ n. not (is_name MAX_NAME n)) files (name ∷ [])
    ∙ ap (λ (b : Bool). nameless files ++ cond (not b) (name ∷ []) []) e

-- a further file has the name of an object
pub nameless_named : (files : List (List ℕ)) (report : Report) (name : List ℕ)
    → is_name MAX_NAME name ≡ true → TellsNameless files report
    → TellsNameless (files ++ name ∷ []) report
nameless_named files report name named was = record {
  entries = was.entries;
  told = was.told;
  are = was.are;
  any = was.any;
  read = was.read ∙ sym (append-nil (nameless files)) ∙ sym (one_more files name true named);
  images = was.images;
}

-- or it has none, and is told
pub nameless_told : (files : List (List ℕ)) (old new : Report) (name : List ℕ) (outcome : LookResult)
    → is_of_file outcome ≡ true → is_name MAX_NAME name ≡ false → new.any_refused ≡ true
    → TellsOne old new (event_of name outcome) → TellsNameless files old
    → TellsNameless (files ++ name ∷ []) new
nameless_told files old new name outcome is bad any one was =
    let last = event_of name outcome in
    record {
      entries = was.entries ++ last ∷ [];
      told = one was.entries was.told;
      are = look_same was.entries (last ∷ []) (file_beside name outcome is) ∙ was.are;
      any = any_read [] was.entries last new.any_refused is any;
      read = read-more was.entries (last ∷ [])
          ∙ ap (λ l. names_read was.entries ++ l) (file_named name outcome is)
          ∙ ap (λ l. l ++ name ∷ []) was.read
          ∙ sym (one_more files name false bad);
      images = images_same was.entries last (file_no_image name outcome is) ∙ was.images;
    }
