-- A folder while it is listed, one stage after the other.
use Rattle.std.proofs.Common.{◌≡◌, ◌∙◌, ◌+◌, ◌≤◌, ◌++◌, ◌∷◌, List, [], ℕ, ap, arith, length}
use Rattle.std.proofs.Common.{length-append, refl, subst, sym}
use Rattle.mot_folder.specs.Inner.Listing.{GivesAll, GivesNoMore, GoesOver, IsCallRefusal, IsLater}
use Rattle.mot_folder.specs.Inner.Listing.{IsListed, IsUnread, Lists, ListsNot, ReadsAll}
use Rattle.mot_folder.specs.Inner.Listing.{ReadsNoMore, ReadsSome, Stage, StopsAt, StopsWithin}
use Rattle.mot_folder.specs.Inner.Listing.{TellsFurther, TellsNameless, stage}
use Rattle.mot_folder.specs.Listed.{IsListing, names_in}
use Rattle.mot_folder.specs.Log.{TellsAnswers}
use Rattle.mot_folder.proofs.Log.{tells_same}
use Rattle.mot_folder.proofs.Taken.{SameNames, still_listing}
use Rattle.mot_folder.proofs.FileStat.{all_given, goes_nowhere, goes_on, is_listing, is_unlisted}
use Rattle.mot_folder.proofs.FileStat.{is_unopened, no_more, no_piece, some_more, some_none}
use Rattle.mot_folder.proofs.FileStat.{stops_behind, unread_failed, unread_listed, unread_on}
use Rattle.mot_folder.specs.declared.report.Report.{Report}
use Rattle.mot_numbers.specs.declared.refusal.Refusal.{Refusal}
use Rattle.mot_shelf.specs.Given.{Given, and_failed, and_kept_names, and_listed, nothing}
use Rattle.mot_suffixes.specs.Types.{AreShown, SuffixType}
use Rattle.mot_update.proofs.Laws.{tells_on}
use Rattle.mot_update.specs.Told.{TellsMore}

-- nothing changed
pub later_same : (s : Stage) → IsLater s s
later_same s = record {
  same = refl;
  told = tells_same s.report;
  unread = record { read = refl; missed = refl; unchanged = refl };
  shown = λ shown. shown;
}

pub later_on : (s t u : Stage) → IsLater s t → IsLater t u → IsLater s u
later_on s t u a b = record {
  same = b.same ∙ a.same;
  told = tells_on (TellsAnswers s.report) (TellsAnswers t.report) (TellsAnswers u.report) []
      a.told b.told;
  unread = unread_on s.given t.given u.given a.unread b.unread;
  shown = λ shown. b.shown (a.shown shown);
}

-- the names are as they were
pub later_beside : (s t : Stage) → t.path ≡ s.path
    → TellsMore (TellsAnswers s.report) (TellsAnswers t.report) [] → IsUnread s.given t.given
    → t.names ≡ s.names → IsLater s t
later_beside s t same told unread names = record {
  same = same;
  told = told;
  unread = unread;
  shown = λ shown. subst AreShown (sym names) shown;
}

module _ (types : List SuffixType) where
  pub over_none : (s : Stage) → GoesOver types [] s s
  over_none s = record {
    later = later_same s;
    listed = refl;
    further = λ was. was;
    goes = goes_nowhere types s.given s.counted s.names;
  }

  -- further names, and then further ones
  pub over_on : (front last : List (List ℕ)) (s t u : Stage) → GoesOver types front s t
      → GoesOver types last t u → GoesOver types (front ++ last) s u
  over_on front last s t u a b = record {
    later = later_on s t u a.later b.later;
    listed = b.listed ∙ a.listed;
    further = λ was. b.further (a.further was);
    goes = goes_on types front last s.given t.given u.given s.counted t.counted u.counted s.names
        t.names u.names a.goes b.goes;
  }

  pub over_all : (more all : List (List ℕ)) (s t : Stage) → all ≡ more → GoesOver types more s t
      → GoesOver types all s t
  over_all more all s t same over = subst (λ l. GoesOver types l s t) (sym same) over

  -- or not all of those
  pub stops_on : (front last rest all : List (List ℕ)) (s t u : Stage) (refusal : Refusal)
      → all ≡ front ++ (last ++ rest) → GoesOver types front s t
      → StopsWithin types last t u refusal → StopsWithin types all s u refusal
  stops_on front last rest all s t u refusal same a b = record {
    later = later_on s t u a.later b.later;
    listed = b.listed ∙ a.listed;
    why = subst (λ l. StopsAt types l s.given u.given s.counted s.names refusal) (sym same)
        (stops_behind types front last rest s.given t.given u.given s.counted t.counted s.names
        t.names refusal a.goes b.why);
  }

  pub reads_none : (s : Stage) → ReadsSome types s s
  reads_none s = record {
    later = later_same s;
    further = λ was. was;
    gave = some_none types s.given s.counted s.names;
  }

  -- names were read behind these, or not
  module _ (s t : Stage) (path : List ℕ) (given : Given) (some : ReadsSome types s t)
      (same : path ≡ t.path) where
    later_read : IsUnread t.given given
        → IsLater s (stage path given t.report t.counted t.names)
    later_read unread =
        let next = stage path given t.report t.counted t.names in
        later_on s t next some.later (later_beside t next same (tells_same t.report) unread refl)

    further_read : (bytes : List ℕ) → given ≡ and_listed t.given bytes
        → TellsFurther s (stage path given t.report t.counted t.names)
    further_read bytes is = λ was.
        subst (λ (n : Given). TellsNameless n.files t.report) (sym is) (some.further was)

    pub reads_more : (u : Stage) (bytes : List ℕ) → given ≡ and_listed t.given bytes
        → GoesOver types (names_in bytes) (stage path given t.report t.counted t.names) u
        → ReadsSome types s u
    reads_more u bytes is over =
        let next = stage path given t.report t.counted t.names in
        record {
          later = later_on s next u (later_read (unread_listed t.given given bytes is)) over.later;
          further = λ was. over.further (further_read bytes is was);
          gave = some_more types s.given t.given given u.given s.counted t.counted u.counted s.names
              t.names u.names bytes some.gave is over.goes
              (record { listed = over.listed; unread = over.later.unread });
        }

    pub more_listed : (now : Given) (bytes : List ℕ) (count : ℕ) → given ≡ and_listed t.given bytes
        → now.listed ≡ given.listed → count ≤ length t.given.listed → count + 1 ≤ length now.listed
    more_listed now bytes count is listed long =
        let more = ap length (listed ∙ ap (λ (n : Given). n.listed) is)
        ∙ length-append t.given.listed (bytes ∷ []) in
        omega (arith, more, long)

    pub reads_no_more : (u : Stage) (bytes : List ℕ) (refusal : Refusal)
        → given ≡ and_listed t.given bytes
        → StopsWithin types (names_in bytes) (stage path given t.report t.counted t.names) u refusal
        → ReadsNoMore types s u refusal
    reads_no_more u bytes refusal is stops =
        let next = stage path given t.report t.counted t.names in
        record {
          later = later_on s next u (later_read (unread_listed t.given given bytes is)) stops.later;
          why = no_more types s.given t.given given u.given s.counted t.counted s.names t.names
              bytes refusal some.gave is stops.why
              (record { listed = stops.listed; unread = stops.later.unread });
        }

    pub reads_fault : (of : List ℕ) (refusal : Refusal) → given ≡ and_failed t.given of
        → IsCallRefusal refusal
        → ReadsNoMore types s (stage path given t.report t.counted t.names) refusal
    reads_fault of refusal is why = record {
      later = later_read (unread_failed t.given given of is);
      why = no_piece types s.given t.given given s.counted t.counted s.names t.names of refusal
          some.gave is why;
    }

    pub reads_all : (bytes : List ℕ) → given ≡ and_listed t.given bytes → bytes ≡ []
        → ReadsAll types s (stage path given t.report t.counted t.names)
    reads_all bytes is none = record {
      later = later_read (unread_listed t.given given bytes is);
      further = further_read bytes is;
      gave = all_given types s.given t.given given s.counted t.counted s.names t.names bytes
          some.gave is none;
    }

  -- a folder is opened
  module _ (path : List ℕ) (first : Given) (report : Report) (of : List ℕ) (given : Given)
      (counted : ℕ) (names : List (List ℕ)) (none : first ≡ nothing) (same : of ≡ path)
      (is : given ≡ and_listed first path) (zero : counted ≡ 0) (empty : names ≡ []) where
    opens : given ≡ and_listed nothing path
    opens = is ∙ ap (λ (n : Given). and_listed n path) none

    later_opened : IsLater (stage path nothing report 0 []) (stage of given report counted names)
    later_opened =
        let old = stage path nothing report 0 [] in
        later_beside old (stage of given report counted names) same (tells_same report)
        (unread_listed nothing given path opens) empty

    pub lists_all : (t : Stage) → ReadsAll types (stage of given report counted names) t
        → Lists types (stage path nothing report 0 []) t
    lists_all t all =
        let old = stage path nothing report 0 [] in
        record {
          later = later_on old (stage of given report counted names) t later_opened all.later;
          further = λ was.
              all.further (subst (λ (n : Given). TellsNameless n.files report) (sym opens) was);
          listing = is_listing types path first given t.given counted t.counted t.names none is zero
              (subst (λ l. GivesAll types given t.given counted t.counted l t.names) empty
              all.gave);
        }

    pub lists_no_more : (t : Stage) (refusal : Refusal)
        → ReadsNoMore types (stage of given report counted names) t refusal
        → ListsNot types (stage path nothing report 0 []) (stage t.path t.given t.report 0 [])
        refusal
    lists_no_more t refusal none_more =
        let old = stage path nothing report 0 [] in
        let opened = stage of given report counted names in
        let later = later_on old opened t later_opened none_more.later in
        record {
          later = later_beside old (stage t.path t.given t.report 0 []) later.same later.told
              later.unread refl;
          why = is_unlisted types path first given t.given counted refusal none is zero
              (subst (λ l. GivesNoMore types given t.given counted l refusal) empty none_more.why);
        }

  -- a call failed behind this, so no folder is listed
  pub lists_not : (s t : Stage) (path : List ℕ) (given : Given) (of : List ℕ) (refusal : Refusal)
      → IsLater s t → path ≡ t.path → given ≡ and_failed t.given of → IsCallRefusal refusal
      → s.names ≡ [] → ListsNot types s (stage path given t.report 0 []) refusal
  lists_not s t path given of refusal later same is why empty = record {
    later = later_beside s (stage path given t.report 0 []) (same ∙ later.same) later.told
        (unread_on s.given t.given given later.unread (unread_failed t.given given of is))
        (sym empty);
    why = is_unopened types s.path of t.given given refusal is why;
  }

  -- the names of a listed folder were made to last
  pub lists_kept : (s t : Stage) (path : List ℕ) (given : Given) (of : List ℕ) → Lists types s t
      → path ≡ t.path → given ≡ and_kept_names t.given of
      → Lists types s (stage path given t.report t.counted t.names)
  lists_kept s t path given of lists same is =
      let next = stage path given t.report t.counted t.names in
      record {
        later = later_on s t next lists.later (later_beside t next same (tells_same t.report)
            (subst (λ (n : Given). IsUnread t.given n) (sym is)
            (record { read = refl; missed = refl; unchanged = refl })) refl);
        further = λ was.
            subst (λ (n : Given). TellsNameless n.files t.report) (sym is) (lists.further was);
        listing = still_listing types s.path t.given given t.names
            (subst (λ (n : Given). SameNames t.given n) (sym is) (refl, refl, refl)) lists.listing;
      }

  -- a folder that was listed in a look that begins
  pub is_listed : (path : List ℕ) (report : Report) (t : Stage) → TellsNameless [] report
      → Lists types (stage path nothing report 0 []) t → IsListed types t
  is_listed path report t told lists = record {
    listing = subst (λ p. IsListing types p t.given t.names) (sym lists.later.same) lists.listing;
    unread = lists.later.unread;
    nameless = lists.further told;
    shown = lists.later.shown tt;
  }
