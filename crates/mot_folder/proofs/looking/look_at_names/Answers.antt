use Rattle.std.proofs.Common.{◌≡◌, ◌∙◌, ℕ, None, [], ap, refl, subst, sym, ◌≤◌, Bool, true, false}
use Rattle.std.proofs.Common.{Err, IfErr, List, Ok, Option, Result, Some, inr, length, take}
use Rattle.std.proofs.lemmas.List.{take_all}
use Rattle.mot_folder.specs.Inner.Listing.{IsUnread}
use Rattle.mot_shelf.specs.Gives.{GaveSo}
use Rattle.mot_shelf.specs.Reader.{reader_path, view}
use Rattle.mot_folder.specs.Inner.Knowing.{IsKept, IsKnownWith, KnowsFiles, WasStamped, is_there}
use Rattle.mot_folder.specs.Inner.Reading.{LookStart, TellsLook}
use Rattle.mot_folder.specs.Known.{Among, ComesFrom, IsPassedOver, has_it}
use Rattle.mot_folder.specs.Known.ComesFrom.{was_known}
use Rattle.mot_folder.specs.declared.known.Known.{Known}
use Rattle.mot_folder.specs.declared.known.KnownFiles.{KnownFiles}
use Rattle.mot_folder.proofs.Knowing.{all_on, comes_from, has_it_there, passed_over}
use Rattle.std.specs.List.{AllByRecursion}
use Rattle.mot_folder.specs.Listed.{IsListing}
use Rattle.mot_folder.specs.Log.{TellsOf}
use Rattle.mot_folder.specs.declared.report.Report.{Report}
use Rattle.mot_folder.specs.Guard.{going, is_kept}
use Rattle.mot_folder.specs.Looked.{HasLookedAtFolder, listed}
use Rattle.mot_folder.specs.declared.guard.Guard.{Guard}
use Rattle.mot_objects.specs.Carousel.{Carousel}
use Rattle.mot_objects.specs.declared.carousel.Carousel as memory
use Rattle.mot_objects.specs.declared.object.Object.{Object}
use Rattle.mot_repository.specs.Repository.{Agrees, RepositoryView}
use Rattle.mot_folder.proofs.Kept.{as_counted}
use Rattle.mot_folder.proofs.Order.{ordered_differ}
use Rattle.mot_folder.proofs.Taken.{fine_is, look_begins, taken_so}
use Rattle.mot_folder.proofs.looking.look_at_names.Goals as goal
use Rattle.mot_numbers.specs.declared.refusal.Refusal.{Refusal}
use Rattle.mot_numbers.specs.declared.refusal.Refusal.TheVariants.{OutOfMemory}
use Rattle.mot_numbers.proofs.Laws.{same_error}
use Rattle.mot_objects.specs.declared.command.Command.{Command}
use Rattle.mot_journal.specs.Image.{Standing}
use Rattle.disk_model.specs.Disk.{State}
use Rattle.mot_playout.specs.Runs.{ServerView}
use Rattle.mot_shelf.proofs.Laws.{gives_path}
use Rattle.mot_shelf.specs.Given.{Given, nothing}
use Rattle.mot_shelf.specs.View.{afresh}
use Rattle.mot_update.specs.HasRun.{HasRun}
use Rattle.mot_update.specs.Told.{Answer}
use Rattle.mot_objects.specs.declared.command.Item.{Item}
use Rattle.std.specs.Prelude.{◌≢◌, IsOk, OnOk}
use Rattle.mot_playout.specs.Attempts.{fault_of}
use Rattle.mot_suffixes.specs.Types.{AreShown, SuffixType}
use Rattle.mot_update.specs.Looking.{HasLooked}

-- commands that were all run, as those up to want of memory
run_without_memory : {D : Type 0} (old new : ServerView D) (start now : State) (s : Standing)
    (commands : List Command) (marks : List Bool)
    → HasRun old new start now s commands marks None
    → HasRun old new start now s commands marks (Some OutOfMemory)
run_without_memory old new start now s commands marks run = record {
  leaves = record {
    last = run.leaves.last;
    after = run.leaves.after;
    marked = run.leaves.marked;
    rules = run.leaves.rules;
    agrees = run.leaves.agrees;
    going = λ e. run.leaves.going refl;
    any_moment = run.leaves.any_moment;
    at_end = run.leaves.at_end;
  };
  whole = λ e. absurd (cc (e));
  layout = run.layout;
  place = run.place;
}

-- a look of these names
of_names : {D : Type 0} {waiting : ℕ} {fine : Bool} (old new : ServerView D) (start now : State) (s : Standing)
    (types : List SuffixType) (guard : Guard) (path : List ℕ) (given : Given) (report : Report)
    (names : List (List ℕ)) (fault : Option Refusal) (known after : List Known) → AreShown names
    → IsListing types path given names
    → is_kept guard names (going names s.carousel) (length s.carousel.objects) ≡ false
    → (looked : HasLooked old new start now s names 0 None None fine fault)
    → (seen : List (List ℕ)) → (fault ≡ None → seen ≡ names)
    → (report.any_without_memory ≡ true → fault ≢ None)
    → TellsOf types given report waiting seen looked.runs.answers looked.wanted
    → AllByRecursion (IsPassedOver known s.carousel) given.unchanged
    → AllByRecursion (ComesFrom known given looked.runs.answers looked.runs.run.leaves.last.carousel)
    after
    → HasLookedAtFolder old new start now s types guard path given report fault known after
of_names old new start now s types guard path given report names fault known after shown listing
    updates looked seen all without told passed comes = record {
      commands = looked.runs.commands;
      marks = looked.runs.marks;
      run = looked.runs.run;
      names = names;
      wanted = looked.wanted;
      entries = told.entries;
      look = listed shown listing updates looked.is_update looked.runs.others looked.runs.split
          looked.runs.whole
          (fine_is told.entries looked.runs.answers looked.runs.commands looked.runs.marks
          report.any_refused looked.runs.told told.any)
          looked.runs.answers looked.runs.told told.are told.lasting seen all (record {
            missed = told.missed;
            read = told.read;
            taken = taken_so types without told.taken;
            images = told.images;
          })
          passed s.geometry.objects looked.runs.run.leaves.last.carousel
          looked.runs.run.leaves.after.carousel comes;
      right = inr (looked.runs.answers, told.are, looked.runs.right);
      told = told.told;
    }

-- a look that came to its end, as one up to want of memory
without_memory : {D : Type 0} (old new : ServerView D) (start now : State) (s : Standing)
    (names : List (List ℕ)) (fine : Bool)
    → HasLooked old new start now s names 0 None None fine None
    → HasLooked old new start now s names 0 None None fine (Some OutOfMemory)
without_memory old new start now s names fine looked = record {
  wanted = looked.wanted;
  gives = looked.gives;
  is_update = looked.is_update;
  every = λ all e. absurd (cc (e));
  runs = record {
    commands = looked.runs.commands;
    others = looked.runs.others;
    split = looked.runs.split;
    whole = λ e. absurd (cc (e));
    marks = looked.runs.marks;
    run = run_without_memory old new start now s looked.runs.commands looked.runs.marks
        looked.runs.run;
    accepted = λ all e. absurd (cc (e));
    answers = looked.runs.answers;
    told = looked.runs.told;
    right = looked.runs.right;
  };
}

-- names that were gone over to the last, where memory may have been wanting for a line
listed_whole : {D : Type 0} {waiting : ℕ} {fine : Bool} (old new : ServerView D) (start now : State) (s : Standing)
    (types : List SuffixType) (guard : Guard) (path : List ℕ) (given : Given) (report : Report)
    (names : List (List ℕ)) (known after : List Known) → AreShown names
    → IsListing types path given names
    → is_kept guard names (going names s.carousel) (length s.carousel.objects) ≡ false
    → (looked : HasLooked old new start now s names 0 None None fine None)
    → TellsOf types given report waiting names looked.runs.answers looked.wanted
    → AllByRecursion (IsPassedOver known s.carousel) given.unchanged
    → AllByRecursion (ComesFrom known given looked.runs.answers looked.runs.run.leaves.last.carousel)
    after
    → (r : Result Unit Refusal) → IfErr r (λ e. e ≡ OutOfMemory)
    → (IsOk r → report.any_without_memory ≡ false)
    → HasLookedAtFolder old new start now s types guard path given report (fault_of r) known after
unfolding without_memory run_without_memory
listed_whole old new start now s types guard path given report names known after shown listing
    updates looked told passed comes (Ok x) is memory =
    of_names old new start now s types guard path given report names None known after shown listing
    updates looked names (λ e. refl)
    (λ without. absurd (let no : true ≡ false = sym without ∙ memory refl in cc)) told passed comes
listed_whole {fine = fine} old new start now s types guard path given report names known after shown
    listing updates looked told passed comes (Err e) is memory =
    subst (λ f. HasLookedAtFolder old new start now s types guard path given report (Some f) known
    after) (sym is)
    (of_names old new start now s types guard path given report names (Some OutOfMemory) known after
    shown listing updates (without_memory old new start now s names fine looked) names
    (λ none. absurd (cc (none))) (λ without none. cc (none)) told passed comes)

-- what is known of files when a look begins
knows_begins : (first : Given) (files : KnownFiles) → IsUnread nothing first
    → files.read.items ≡ [] → KnowsFiles first files []
knows_begins first files unread none = record {
  passed = subst (λ l. AllByRecursion (IsKnownWith files.known.items) l) (sym unread.unchanged) tt;
  read = subst (λ l. AllByRecursion (WasStamped first) l) (sym none) tt;
  refused = tt;
}

-- a look that began so is of the types that it began with, and of this path and these names
behind : {waiting : ℕ} (began : LookStart) (types : List SuffixType) (known : List Known)
    (path other : List ℕ) (last : Given) (names after : List (List ℕ)) (place : ℕ)
    (report : Report) (answers : List Answer) (wanted : List Item)
    → TellsLook began types known other last after place report waiting answers wanted
    → other ≡ path → after ≡ names
    → TellsLook began began.types known path last names place report waiting answers wanted
behind {waiting = waiting} began types known path other last names after place report answers wanted
    looks is_path stays =
    subst (λ t. TellsLook began t known path last names place report waiting answers wanted)
    looks.same_types
    (subst (λ p. TellsLook began types known p last names place report waiting answers wanted) is_path
    (subst (λ n. TellsLook began types known other last n place report waiting answers wanted) stays
    looks))

-- the carousel that a server has, with its bodies, has what it has without
has_now : (view : RepositoryView) (s : Standing) → Agrees view s → (k : Known)
    → is_there view.carousel.objects.items k ≡ true → has_it s.carousel k ≡ true
has_now view s agrees k is =
    ap (λ (c : Carousel). has_it c k) agrees.carousel
    ∙ has_it_there k view.carousel.objects.items agrees.bodies agrees.are_bodies ∙ is

-- what was known when a look began, with its objects
started : (known : List Known) (files : KnownFiles) (objects : List Object)
    (view : RepositoryView) (s : Standing) → Agrees view s → view.carousel.objects.items ≡ objects
    → AllByRecursion (λ k. Among known k × (is_there objects k ≡ true)) files.known.items
    → AllByRecursion (λ k. Among known k × (has_it s.carousel k ≡ true)) files.known.items
started known files objects view s agrees same all =
    all_on (λ k is. (
      is.0,
      has_now view s agrees k (ap (λ l. is_there l k) same ∙ is.1),
    )) files.known.items all

on_ok : (r : Result Unit Refusal) (P : Type 0) → OnOk r P → IsOk r → P
on_ok (Ok x) P is ok = is
on_ok (Err e) P is ok = absurd (cc (ok))

pub returns-in_err-look-clause-looked : goal.returns-in_err-look-clause-looked
returns-in_err-look-clause-looked g c = λ since first gives listed s holds honest.
    let state = g.D.Disk.state in
    let old = c.args.server.now in
    let new = c.look.new.server in
    let types = c.args.folder.now.types.now in
    let path = reader_path c.args.folder.now.shelf in
    let names = c.args.folder.now.names.names.items in
    let guard = c.args.folder.now.guard in
    let updates : is_kept guard names (going names s.carousel) (length s.carousel.objects) ≡ false =
    as_counted (is_kept guard names) names old.view s holds.agrees ∙ c.requires.updates in
    let source = c.look.new.source in
    let seen = take source.place names in
    let looks = c.in_err-look.ensures.looked s holds honest in
    let fault = Some c.in_err-look.field-0.0 in
    let files = c.start.new.self in
    let began : LookStart =
    record { types = types; known = files.known.items; folder = since } in
    let x = looks.1 began [] [] (
      first,
      gives,
      (
        look_begins began path first names c.note_if-2.new.report listed.listing
            listed.unread.read listed.unread.missed listed.unread.unchanged
            (c.note_if-2.ensures.further refl first.files
            (c.note_if.ensures.further refl first.files listed.nameless)),
        knows_begins first files listed.unread c.start.ensures.none.0,
        λ kept. absurd (cc (kept)),
      ),
    ) in
    let given = x.0 in
    let is = behind began source.types.now source.files.known.items path (reader_path source.shelf)
    given names source.names.names.items source.place source.report looks.0.runs.answers
    looks.0.wanted x.2.0
    (gives_path (afresh since) nothing _ given x.1 ∙ sym (gives_path (afresh since) nothing _ first gives))
    c.in_err-look.ensures.same in
    let known = c.args.folder.now.files.known.items in
    let started_so = started known c.start.new.self _ old.view s holds.agrees
    (ap (λ (k : memory.Carousel). k.objects.items) (sym c.carousel-2.ensures.value))
    c.start.ensures.known in (
      given,
      x.1,
      subst (λ (r : Result Unit Refusal). HasLookedAtFolder old new (state old.disk) (state new.disk)
          s types guard path given source.report (fault_of r) known source.files.known.items)
          (sym (same_error c.from_residual.result c.in_err-look.field-0.0 c.from_residual.ensures.1))
          (of_names old new (state old.disk) (state new.disk) s types guard path given source.report names
          fault known source.files.known.items listed.shown is.listing updates looks.0 seen
          (λ none. absurd (cc (none))) (λ without none. cc (none)) is.tells
          (all_on (passed_over known source.files.known.items s.carousel
          (subst (λ l. AllByRecursion (λ k. Among known k × (has_it s.carousel k ≡ true)) l)
          (sym is.same_known) started_so)) given.unchanged x.2.1.passed)
          (all_on (λ k at. was_known at) source.files.known.items
          (subst (λ l. AllByRecursion (Among known) l) (sym is.same_known)
          (all_on (λ k at. at.0) c.start.new.self.known.items started_so)))),
    )

pub returns-clause-looked : goal.returns-clause-looked
returns-clause-looked g c = λ since first gives listed s holds honest.
    let state = g.D.Disk.state in
    let old = c.args.server.now in
    let new = c.look.new.server in
    let types = c.args.folder.now.types.now in
    let path = reader_path c.args.folder.now.shelf in
    let names = c.args.folder.now.names.names.items in
    let guard = c.args.folder.now.guard in
    let updates : is_kept guard names (going names s.carousel) (length s.carousel.objects) ≡ false =
    as_counted (is_kept guard names) names old.view s holds.agrees ∙ c.requires.updates in
    let source = c.look.new.source in
    let looks = c.in_ok-look.ensures.looked s holds honest in
    let files = c.start.new.self in
    let began : LookStart =
    record { types = types; known = files.known.items; folder = since } in
    let x = looks.1 began [] [] (
      first,
      gives,
      (
        look_begins began path first names c.note_if-2.new.report listed.listing
            listed.unread.read listed.unread.missed listed.unread.unchanged
            (c.note_if-2.ensures.further refl first.files
            (c.note_if.ensures.further refl first.files listed.nameless)),
        knows_begins first files listed.unread c.start.ensures.none.0,
        λ kept. absurd (cc (kept)),
      ),
    ) in
    let given = x.0 in
    let is = behind began source.types.now source.files.known.items path (reader_path source.shelf)
    given names source.names.names.items source.place source.report looks.0.runs.answers
    looks.0.wanted x.2.0
    (gives_path (afresh since) nothing _ given x.1 ∙ sym (gives_path (afresh since) nothing _ first gives))
    c.in_ok-look.ensures.same in
    let seen : take source.place names ≡ names =
    take_all source.place names (subst (λ (n : List (List ℕ)). length n ≤ source.place)
    c.in_ok-look.ensures.same c.in_ok-look.ensures.ended) in
    let report = c.end_listed.new.folder.report in
    let waiting = source.sizes.waiting in
    let told : TellsOf types given report waiting names looks.0.runs.answers looks.0.wanted =
    c.end_listed.ensures.told types given waiting names looks.0.runs.answers looks.0.wanted
    (subst (λ l. TellsOf types given source.report waiting l looks.0.runs.answers looks.0.wanted) seen
    is.tells) in
    let known = c.args.folder.now.files.known.items in
    let last = looks.0.runs.run.leaves.last in
    let started_so = started known c.start.new.self _ old.view s holds.agrees
    (ap (λ (k : memory.Carousel). k.objects.items) (sym c.carousel-2.ensures.value))
    c.start.ensures.known in
    let were : AllByRecursion (λ k. Among known k × (has_it s.carousel k ≡ true))
    source.files.known.items =
    subst (λ l. AllByRecursion (λ k. Among known k × (has_it s.carousel k ≡ true)) l)
    (sym is.same_known) started_so in
    subst (λ f. GaveSo since (view g.S.System.calls f.shelf) (λ given. HasLookedAtFolder old new
    (state old.disk) (state new.disk) s types guard path given report (fault_of c.end_listed.result)
    known f.files.known.items)) (sym c.end_listed.ensures.same) (
      given,
      x.1,
      listed_whole old new (state old.disk) (state new.disk) s types guard path given report
          names known c.finish.new.self.known.items listed.shown is.listing updates looks.0 told
          (all_on (passed_over known source.files.known.items s.carousel were) given.unchanged x.2.1.passed)
          (all_on (comes_from known given source.files looks.0.runs.answers last.carousel
          new.view.carousel.objects.items
          (all_on (λ k at. at.0) source.files.known.items were)
          (has_now new.view last looks.0.runs.run.leaves.agrees) x.2.1) c.finish.new.self.known.items
          (subst (λ (k : memory.Carousel). AllByRecursion (IsKept source.files k.objects.items)
          c.finish.new.self.known.items) c.carousel-3.ensures.value c.finish.ensures))
          c.end_listed.result c.end_listed.ensures.fault
          (λ ok. (on_ok c.end_listed.result _ c.end_listed.ensures.whole ok).1),
    )

pub returns-in_err-look-clause-keeps : goal.returns-in_err-look-clause-keeps
returns-in_err-look-clause-keeps g c = c.look.ensures.keeps

pub returns-clause-keeps : goal.returns-clause-keeps
returns-clause-keeps g c = c.look.ensures.keeps

pub look-requires : goal.look-requires
look-requires g c =
    ordered_differ c.args.folder.now.names.names.items c.args.folder.now.names.ordered
