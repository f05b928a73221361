-- A folder while its names are listed.
use Rattle.std.specs.Prelude.{◌≡◌, ◌≢◌, ◌⊎◌, ◌<◌, ◌≤◌, ℕ, Bool, false, List, [], ◌∷◌, ◌++◌}
use Rattle.std.specs.Prelude.{MatchResult, Result, length}
use Rattle.std.specs.List.{flat_map, list_any}
use Rattle.std.specs.Str.{is_utf8}
use Rattle.mot_events.specs.Events.{event_of}
use Rattle.mot_events.specs.declared.event.LookEvent.{LookEvent}
use Rattle.mot_events.specs.declared.event.LookResult.TheVariants.{Skipped}
use Rattle.mot_events.specs.declared.event.Skip.{Skip}
use Rattle.mot_events.specs.declared.event.Skip.TheVariants.{NotUtf8, Suffix}
use Rattle.mot_folder.specs.Listed.{AreEither, IsListing, nameless, names_in, object_names}
use Rattle.mot_folder.specs.Listed.{with_type}
use Rattle.mot_folder.specs.Log.{ReportTells, TellsAnswers, TellsOne, images_noted, is_read}
use Rattle.mot_folder.specs.Log.{names_read, of_look}
use Rattle.mot_folder.specs.Looked.{IsUnlisted}
use Rattle.mot_folder.specs.declared.listing.TheConstants.{MAX_NAMES}
use Rattle.mot_folder.specs.declared.listing.Unlisted.{Unlisted}
use Rattle.mot_folder.specs.declared.names.FileNames.{FileNames}
use Rattle.mot_folder.specs.declared.report.Report.{Report}
use Rattle.mot_numbers.specs.declared.refusal.Refusal.{Refusal}
use Rattle.mot_numbers.specs.declared.refusal.Refusal.TheVariants.{OutOfMemory, ReadFault}
use Rattle.mot_numbers.specs.declared.refusal.Refusal.TheVariants.{TooManyObjects}
use Rattle.mot_shelf.specs.Given.{Given, nothing}
use Rattle.mot_suffixes.specs.Types.{AreShown, SuffixType}
use Rattle.mot_update.specs.Told.{TellsMore}

-- of these names so many have one of the suffixes, each of which was asked for, and these are those
-- of objects
pub record IsSoFar (types : List SuffixType) (seen : List (List ℕ)) (given : Given) (counted : ℕ)
    (names : List (List ℕ)) : Type 0 where
  pub count : counted ≡ length (with_type types seen)
  pub asked : AreEither (with_type types seen) given.files given.others
  pub are : names ≡ object_names given.files

-- these further names were seen
abbrev pub GoesOn : List SuffixType → (more : List (List ℕ)) → (old new : Given)
    → (counted then_counted : ℕ) → (names after : List (List ℕ)) → Type 0
GoesOn types more old new counted then_counted names after =
    (seen : List (List ℕ)) → IsSoFar types seen old counted names
    → IsSoFar types (seen ++ more) new then_counted after

-- why a call of the system failed
abbrev pub IsCallRefusal : Refusal → Type 0
IsCallRefusal refusal = (refusal ≡ ReadFault) ⊎ (refusal ≡ OutOfMemory)

-- why no more of these names are gone over: a call failed, or too many have one of the suffixes, or
-- memory was wanted
pub data IsWhyNot (types : List SuffixType) (seen : List (List ℕ)) (given : Given)
    (refusal : Refusal) : Type 0 where
  failed : refusal ≡ ReadFault → given.failed ≢ [] → IsWhyNot types seen given refusal
  many : refusal ≡ TooManyObjects → MAX_NAMES < length (with_type types seen)
      → IsWhyNot types seen given refusal
  no_memory : refusal ≡ OutOfMemory → IsWhyNot types seen given refusal

-- the same of further names, behind any
abbrev pub StopsAt : List SuffixType → (more : List (List ℕ)) → (old new : Given)
    → (counted : ℕ) → (names : List (List ℕ)) → Refusal → Type 0
StopsAt types more old new counted names refusal =
    (seen : List (List ℕ)) → IsSoFar types seen old counted names
    → IsWhyNot types (seen ++ more) new refusal

-- no file was read, or passed over
pub record IsUnread (old new : Given) : Type 0 where
  pub read : new.read ≡ old.read
  pub missed : new.missed ≡ old.missed
  pub unchanged : new.unchanged ≡ old.unchanged

-- names were asked for, and nothing else
pub record WereAsked (old new : Given) : Type 0 where
  pub listed : new.listed ≡ old.listed
  pub unread : IsUnread old new

-- it gave all further names
pub record GivesAll (types : List SuffixType) (old new : Given)
    (counted then_counted : ℕ) (names after : List (List ℕ)) : Type 0 where
  pub pieces : List (List ℕ)
  pub whole : new.listed ≡ old.listed ++ (pieces ++ [] ∷ [])
  pub goes : GoesOn types (flat_map names_in pieces) old new counted then_counted names after

-- so it gives names, so far
pub record GivesSome (types : List SuffixType) (old new : Given)
    (counted then_counted : ℕ) (names after : List (List ℕ)) : Type 0 where
  pub pieces : List (List ℕ)
  pub so_far : new.listed ≡ old.listed ++ pieces
  pub goes : GoesOn types (flat_map names_in pieces) old new counted then_counted names after

-- or it gives no further ones: a call of it failed, or such names as were gone over last, or names
-- without an end
pub data GivesNoMore (types : List SuffixType) (old new : Given) (counted : ℕ)
    (names : List (List ℕ)) (refusal : Refusal) : Type 0 where
  stops : (pieces : List (List ℕ)) → new.listed ≡ old.listed ++ pieces
      → StopsAt types (flat_map names_in pieces) old new counted names refusal
      → GivesNoMore types old new counted names refusal
  endless : refusal ≡ ReadFault → 18446744073709551615 ≤ length new.listed
      → GivesNoMore types old new counted names refusal

-- These are the names of regular files that a folder gave so far. The report tells those of them
-- that have no name of an object, and beside them only notes.
pub record TellsNameless (files : List (List ℕ)) (report : Report) : Type 0 where
  pub entries : List LookEvent
  pub told : ReportTells report entries
  pub are : of_look entries ≡ []
  pub any : report.any_refused ≡ list_any is_read entries
  pub read : names_read entries ≡ nameless files
  pub images : images_noted entries ≡ []

-- a folder while it is listed: its path, what it gave, what is told of it, how many names were
-- counted, and those of objects
pub record Stage : Type 0 where
  pub path : List ℕ
  pub given : Given
  pub report : Report
  pub counted : ℕ
  pub names : List (List ℕ)

abbrev pub stage : List ℕ → Given → Report → (counted : ℕ) → (names : List (List ℕ)) → Stage
stage path given report counted names =
    record { path = path; given = given; report = report; counted = counted; names = names }

abbrev pub stage_of : List ℕ → Given → Report → FileNames → Stage
stage_of path given report names = stage path given report names.counted names.names.items

-- the same folder later: no answer was told, no file read, and no name came that begins with a dot
pub record IsLater (old new : Stage) : Type 0 where
  pub same : new.path ≡ old.path
  pub told : TellsMore (TellsAnswers old.report) (TellsAnswers new.report) []
  pub unread : IsUnread old.given new.given
  pub shown : AreShown old.names → AreShown new.names

-- each file without a name of an object was told
abbrev pub TellsFurther : (old new : Stage) → Type 0
TellsFurther old new =
    TellsNameless old.given.files old.report → TellsNameless new.given.files new.report

-- these further names were gone over
pub record GoesOver (types : List SuffixType) (more : List (List ℕ)) (old new : Stage) :
    Type 0 where
  pub later : IsLater old new
  pub listed : new.given.listed ≡ old.given.listed
  pub further : TellsFurther old new
  pub goes : GoesOn types more old.given new.given old.counted new.counted old.names new.names

-- or not all of them
pub record StopsWithin (types : List SuffixType) (more : List (List ℕ)) (old new : Stage)
    (refusal : Refusal) : Type 0 where
  pub later : IsLater old new
  pub listed : new.given.listed ≡ old.given.listed
  pub why : StopsAt types more old.given new.given old.counted old.names refusal

abbrev pub AreGoneOver : List SuffixType → (more : List (List ℕ)) → (old new : Stage)
    → Result Unit Unlisted → Type 0
AreGoneOver types more old new result = MatchResult result (λ done. GoesOver types more old new)
    (λ unlisted. StopsWithin types more old new unlisted.refusal)

-- some further names were read, so far
pub record ReadsSome (types : List SuffixType) (old new : Stage) : Type 0 where
  pub later : IsLater old new
  pub further : TellsFurther old new
  pub gave : GivesSome types old.given new.given old.counted new.counted old.names new.names

-- or all of them
pub record ReadsAll (types : List SuffixType) (old new : Stage) : Type 0 where
  pub later : IsLater old new
  pub further : TellsFurther old new
  pub gave : GivesAll types old.given new.given old.counted new.counted old.names new.names

-- or no more
pub record ReadsNoMore (types : List SuffixType) (old new : Stage) (refusal : Refusal) :
    Type 0 where
  pub later : IsLater old new
  pub why : GivesNoMore types old.given new.given old.counted old.names refusal

abbrev pub AreRead : List SuffixType → (old new : Stage) → Result Unit Unlisted → Type 0
AreRead types old new result = MatchResult result (λ done. ReadsAll types old new)
    (λ unlisted. ReadsNoMore types old new unlisted.refusal)

-- a folder was listed, of which nothing was given before
pub record Lists (types : List SuffixType) (old new : Stage) : Type 0 where
  pub later : IsLater old new
  pub further : TellsFurther old new
  pub listing : IsListing types old.path new.given new.names

-- or it was not
pub record ListsNot (types : List SuffixType) (old new : Stage) (refusal : Refusal) : Type 0 where
  pub later : IsLater old new
  pub why : IsUnlisted types old.path new.given refusal

-- these are the names of a listed folder, of which no file was read
pub record IsListed (types : List SuffixType) (now : Stage) : Type 0 where
  pub listing : IsListing types now.path now.given now.names
  pub unread : IsUnread nothing now.given
  pub nameless : TellsNameless now.given.files now.report
  pub shown : AreShown now.names

-- a name is left out for what it names; or since it is not UTF-8; or it names a regular file, and
-- has none of the suffixes
abbrev pub IsLeftOutFor : (has_suffix : Bool) → (name : List ℕ) → Skip → Type 0
IsLeftOutFor has_suffix name skip =
    (skip ≡ Suffix → has_suffix ≡ false) × (skip ≡ NotUtf8 → is_utf8 name ≡ false)

-- nothing was told; or that this name is left out, once and for such a reason
pub data Skips (old new : Report) (name : List ℕ) (has_suffix : Bool) : Type 0 where
  untold : new ≡ old → Skips old new name has_suffix
  told_so : (skip : Skip) → IsLeftOutFor has_suffix name skip
      → TellsOne old new (event_of name (Skipped skip)) → Skips old new name has_suffix
