use Rattle.std.proofs.Common.{◌≡◌, ◌∙◌, ◌++◌, ℕ, [], ◌∷◌, ap, not, refl, subst, sym, true, List}
use Rattle.std.proofs.Common.{Option, inl, length}
use Rattle.disk_model.proofs.Laws.{unchanged_none}
use Rattle.mot_folder.specs.declared.known.Known.{Known}
use Rattle.mot_folder.specs.Listed.{IsListing}
use Rattle.mot_events.specs.Events.{event_of}
use Rattle.mot_events.specs.declared.event.LookEvent.{LookEvent}
use Rattle.mot_events.specs.declared.event.Why.TheVariants.{Unsaid}
use Rattle.mot_folder.specs.Log.{ReportTells, of_look, unlisted_for}
use Rattle.mot_folder.specs.declared.report.Report.{Report}
use Rattle.mot_folder.specs.Guard.{going, is_kept, kept_so}
use Rattle.mot_folder.specs.Inner.Notes.{unknown_objects}
use Rattle.mot_folder.specs.Looked.{HasLookedAtFolder, IsUnlisted, kept, listed, unlisted}
use Rattle.mot_folder.specs.Looked as look
use Rattle.mot_objects.specs.declared.carousel.Carousel as memory
use Rattle.mot_objects.specs.declared.object.Object.{Object}
use Rattle.mot_folder.proofs.Kept.{as_counted, kept_no_image, kept_of_look}
use Rattle.mot_folder.specs.declared.guard.Guard.{Guard}
use Rattle.mot_folder.proofs.Nameless.{nameless_none}
use Rattle.mot_folder.proofs.Stages.{is_listed}
use Rattle.mot_folder.proofs.Log.{images_same, look-more, tells_none}
use Rattle.mot_folder.proofs.looking.look_at_folder.Goals as goal
use Rattle.mot_numbers.specs.declared.refusal.Refusal.{Refusal}
use Rattle.mot_journal.specs.Image.{Standing}
use Rattle.disk_model.specs.Disk.{State}
use Rattle.mot_playout.specs.Runs.{ServerView}
use Rattle.mot_shelf.proofs.Laws.{gives_on, gives_one}
use Rattle.mot_shelf.specs.Given.{Given, nothing}
use Rattle.mot_shelf.specs.Gives.{Asks, GaveSo, Gives}
use Rattle.mot_shelf.specs.Reader.{reader_path, view}
use Rattle.mot_shelf.specs.View.{FolderView}
use Rattle.mot_update.specs.HasRun.{HasRun}
use Rattle.mot_playout.specs.Attempts.{fault_of}
use Rattle.mot_suffixes.specs.Types.{SuffixType}
use Rattle.mot_update.proofs.Laws.{has_read}

-- a look of no command
of_nothing : {D : Type 0} (old new : ServerView D) (start now : State) (s : Standing)
    (types : List SuffixType) (guard : Guard) (path : List ℕ) (given : Given) (report : Report)
    (names : List (List ℕ)) (fault : Option Refusal) (known : List Known) (entries : List LookEvent)
    → HasRun old new start now s [] [] fault
    → look.IsLook types guard path given s.carousel [] [] fault names [] (not report.any_refused)
    entries known known
    → ReportTells report entries
    → HasLookedAtFolder old new start now s types guard path given report fault known known
of_nothing old new start now s types guard path given report names fault known entries run look told = record {
  commands = [];
  marks = [];
  run = run;
  names = names;
  wanted = [];
  entries = entries;
  look = look;
  right = inl refl;
  told = told;
}

-- a look begins, and the folder is listed
begins : (old begun new : FolderView) (given : Given) → Asks old begun nothing nothing
    → Gives begun nothing new given → Gives old nothing new given
begins old begun new given asks gives =
    gives_on old begun nothing nothing new given (gives_one old begun nothing nothing asks) gives

pub look_at_names-requires : goal.look_at_names-requires
look_at_names-requires g c = record {
  updates = ap (λ (k : memory.Carousel). is_kept c.args.folder.now.guard c.in-Ok.names.names.items
      (length (unknown_objects c.in-Ok.names.names.items k.objects.items))
      (length k.objects.items)) (sym c.carousel-2.ensures.value)
      ∙ sym c.if-is_kept.ensures;
}

pub returns-in-Err-clause-looked : goal.returns-in-Err-clause-looked
returns-in-Err-clause-looked g c = λ s holds honest.
    let old = c.args.server.now in
    let state = g.D.Disk.state old.disk in
    let lists = c.in-Err.ensures in
    let told = lists.2.later.told [] (tells_none c.begin-2.new.self (λ whole. c.begin-2.ensures.none)) in
    let refusal = c.in-Err.why.refusal in
    let path = reader_path c.list.new.shelf in
    let bare = unlisted_for path refusal Unsaid in
    let last = unlisted_for path refusal c.end_unlisted.ensures.told.0 in
    let fault = fault_of c.end_unlisted.result in
    let first = c.args.folder.now in
    subst (λ f. GaveSo (view g.S.System.calls first.shelf) (view g.S.System.calls f.shelf) (λ given.
    HasLookedAtFolder old old state state s first.types.now first.guard (reader_path first.shelf) given
    c.end_unlisted.new.folder.report fault first.files.known.items f.files.known.items))
    (sym c.end_unlisted.ensures.same) (
      lists.0,
      begins _ _ _ lists.0 (c.begin.ensures.asks nothing) lists.1,
      of_nothing old old state state s _ _ _ _ _ [] fault _ (told.entries ++ last ∷ [])
          (has_read old old state state s fault
          (g.met.D.Disk.sound old.disk honest) refl refl honest (unchanged_none state) holds).0
          (unlisted refusal (subst (λ p. IsUnlisted c.args.folder.now.types.now p
          lists.0 refusal) c.begin.ensures.same lists.2.why)
          (ap not c.end_unlisted.ensures.any) c.end_unlisted.ensures.fault refl
          (look-more told.entries (last ∷ []) ∙ ap (λ l. l ++ bare ∷ []) told.are
          ∙ ap (λ n. unlisted_for n refusal Unsaid ∷ [])
          (lists.2.later.same ∙ c.begin.ensures.same))
          (images_same told.entries last refl ∙ told.images) refl)
          (c.end_unlisted.ensures.told.1 told.entries told.told),
    )

pub returns-then-is_kept-clause-looked : goal.returns-then-is_kept-clause-looked
returns-then-is_kept-clause-looked g c = λ s holds honest.
    let old = c.args.server.now in
    let state = g.D.Disk.state old.disk in
    let guard = c.args.folder.now.guard in
    let types = c.args.folder.now.types.now in
    let given = c.in-Ok.ensures.0 in
    let lists = c.in-Ok.ensures.2.0 in
    let path = reader_path c.list.new.shelf in
    let names = c.in-Ok.names.names.items in
    let told = lists.later.told [] (tells_none c.begin-2.new.self (λ whole. c.begin-2.ensures.none)) in
    let same = lists.later.same ∙ c.begin.ensures.same in
    let counts : (os : List Object) → ℕ = λ os. length (unknown_objects names os) in
    let is : is_kept guard names (going names s.carousel) (length s.carousel.objects) ≡ true =
    as_counted (is_kept guard names) names old.view s holds.agrees
    ∙ ap (λ (k : memory.Carousel). is_kept guard names (counts k.objects.items)
    (length k.objects.items)) (sym c.carousel-2.ensures.value)
    ∙ sym c.if-is_kept.ensures in
    let all = length (unknown_objects names c.carousel-then-is_kept.result.now.objects.items) in
    let objects = length c.carousel-then-is_kept.result.now.objects.items in
    let last = event_of path (kept_so names all objects) in
    let fault = fault_of c.end_kept.result in
    let first = c.args.folder.now in
    subst (λ f. GaveSo (view g.S.System.calls first.shelf) (view g.S.System.calls f.shelf) (λ given.
    HasLookedAtFolder old old state state s types guard (reader_path first.shelf) given
    c.end_kept.new.folder.report fault first.files.known.items f.files.known.items))
    (sym c.end_kept.ensures.same) (
      given,
      begins _ _ _ given (c.begin.ensures.asks nothing) c.in-Ok.ensures.1,
      of_nothing old old state state s _ _ _ _ _ names fault _ (told.entries ++ last ∷ [])
          (has_read old old state state s fault
          (g.met.D.Disk.sound old.disk honest) refl refl honest (unchanged_none state) holds).0
          (kept (subst (λ p. IsListing types p given names) c.begin.ensures.same lists.listing) is
          (ap not c.end_kept.ensures.any) c.end_kept.ensures.fault refl
          (look-more told.entries (last ∷ [])
          ∙ ap (λ l. l ++ of_look (last ∷ [])) told.are ∙ kept_of_look path all objects names
          ∙ ap (λ n. event_of n (kept_so names all objects) ∷ []) same
          ∙ ap (λ (k : memory.Carousel). event_of (reader_path c.args.folder.now.shelf)
          (kept_so names (counts k.objects.items) (length k.objects.items)) ∷ [])
          c.carousel-then-is_kept.ensures.value
          ∙ sym (as_counted (λ n m. event_of (reader_path c.args.folder.now.shelf)
          (kept_so names n m) ∷ []) names old.view s holds.agrees))
          (images_same told.entries last (kept_no_image path all objects names) ∙ told.images) refl)
          (c.end_kept.ensures.told told.entries told.told),
    )

pub returns-clause-looked : goal.returns-clause-looked
returns-clause-looked g c = λ s holds honest.
    let state = g.D.Disk.state in
    let old = c.args.server.now in
    let new = c.look_at_names.new.server in
    let first = c.args.folder.now in
    let last = c.look_at_names.new.folder in
    let since = view g.S.System.calls first.shelf in
    let given = c.in-Ok.ensures.0 in
    let lists = c.in-Ok.ensures.2.0 in
    let x = c.look_at_names.ensures.looked since given
    (begins _ _ _ given (c.begin.ensures.asks nothing) c.in-Ok.ensures.1)
    (is_listed first.types.now (reader_path c.begin.new.self) c.begin-2.new.self _
    (nameless_none c.begin-2.new.self c.begin-2.ensures.fine (λ whole. c.begin-2.ensures.none)) lists)
    s holds honest in (
      x.0,
      x.1,
      subst (λ p. HasLookedAtFolder old new (state old.disk) (state new.disk) s first.types.now
          first.guard p x.0 last.report (fault_of c.look_at_names.result)
          first.files.known.items last.files.known.items)
          (lists.later.same ∙ c.begin.ensures.same) x.2,
    )

pub returns-clause-keeps : goal.returns-clause-keeps
returns-clause-keeps g c = c.look_at_names.ensures.keeps

pub returns-clause-faults : goal.returns-clause-faults
returns-clause-faults g c = c.look_at_names.ensures.faults

pub returns-clause-whole : goal.returns-clause-whole
returns-clause-whole g c = c.look_at_names.ensures.whole

pub returns-then-is_kept-clause-whole : goal.returns-then-is_kept-clause-whole
returns-then-is_kept-clause-whole g c = c.end_kept.ensures.whole

pub returns-in-Err-clause-whole : goal.returns-in-Err-clause-whole
returns-in-Err-clause-whole g c = c.end_unlisted.ensures.whole
