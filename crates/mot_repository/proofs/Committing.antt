-- What a body's write and then a record's append leave: the two halves of a commit.
use Rattle.std.proofs.Common.{◌≡◌, ◌⊎◌, inl, inr, ⊎_elim, ℕ, ◌+◌, List, [], ◌∷◌, ◌++◌, length, Ok}
use Rattle.std.proofs.Common.{refl, sym, ◌∙◌, ap, subst, arith, drop, ◌≤◌}
use Rattle.disk_model.specs.Disk.{State, Keeps, WritesWithin, Torn, Throughout, IsHonestDisk}
use Rattle.disk_model.proofs.Laws.{begins, goes_on, joins, weakens, at_end}
use Rattle.mot_journal.specs.declared.layout.Layout.{Layout}
use Rattle.mot_journal.specs.declared.record.Record.{Record}
use Rattle.mot_journal.specs.Image.{catalogue_of}
use Rattle.mot_journal.specs.Catalogue.{Catalogue, carousel_in, extents_of}
use Rattle.mot_journal.specs.Image.{Standing, area_of}
use Rattle.mot_journal.specs.Journal.{JournalView, with_records, HasRecords, HoldsRecords}
use Rattle.mot_journal.specs.Journal.{FoldOf}
use Rattle.mot_journal.specs.Journal.{WithoutOrWith, OldOrGiven, OnlyReadArea, in_other_half}
use Rattle.mot_journal.proofs.Laws.{records_stay}
use Rattle.mot_journal.specs.Gaps.{AreBeside, standing_of}
use Rattle.mot_journal.proofs.Laws.{stands_by_parts, standing_stays, clean_stays, geometry_read}
use Rattle.mot_numbers.specs.declared.geometry.Geometry.{Geometry}
use Rattle.mot_numbers.specs.Geometry.{area_start}
use Rattle.std.specs.Prelude.{IsFalse, IsOk}
use Rattle.mot_objects.specs.declared.command.Command.{Command}
use Rattle.mot_objects.specs.declared.command.Done.{Done}
use Rattle.mot_repository.specs.Outcome.{after_command}
use Rattle.mot_repository.specs.Repository.{RepositoryView, Agrees, IsOf, IsBeforeOrAfter, Holds}

-- what the write of the body leaves: at each moment an image as before, and at last the records
pub record WroteBody (view : RepositoryView) (s : Standing) (records : List Record)
    (old mid : State) : Type 0 where
  pub run : Throughout old mid (IsOf s)
  pub sound : IsHonestDisk mid
  pub each : (image : List ℕ) → mid.MayLeave image → IsOf s image
  pub journal : HoldsRecords view.journal records mid

-- what is read then stands for the same, and has the records
pub is_read : {view : RepositoryView} {s : Standing} {records : List Record} {old mid : State}
    → WroteBody view s records old mid
    → IsOf s mid.bytes × HasRecords view.journal records mid.bytes
is_read {mid = mid} wrote = (
  wrote.each mid.bytes wrote.sound.bytes,
  wrote.journal.each mid.bytes wrote.sound.bytes,
)

-- an image torn in a gap alone stands for the same, and has the same records
module _ (view : RepositoryView) (s : Standing) (records : List Record) (c : Catalogue) (from n : ℕ)
    (fold : catalogue_of view.journal.geometry.objects records ≡ Ok c)
    (beside : AreBeside view.journal.geometry from n c.objects)
    (within : from + n ≤ view.journal.geometry.area) where
  pub torn_is_same : (old : State) (b : List ℕ) → ((a : List ℕ) → old.MayLeave a → IsOf s a)
      → ((a : List ℕ) → old.MayLeave a → HasRecords view.journal records a)
      → Torn (area_start view.journal.geometry + from) n old b
      → IsOf s b × HasRecords view.journal records b
  torn_is_same old b each has torn =
      let g : Geometry = view.journal.geometry in
      let a : List ℕ = torn.0 in
      let of = each a torn.1 in
      let read = (has a torn.1).read in
      let is = geometry_read a (with_records view.journal records) read in
      let same = standing_stays g from n a b torn.2 (with_records view.journal records) c refl is
      read fold beside within in
      let clean = clean_stays g from n a b torn.2 is same of.clean in (
        record { stands = same ∙ of.stands; clean = clean },
        record {
          read = records_stay (area_start g + from) n a b torn.2 g is (omega arith) ∙ read;
          clean = clean;
        },
      )

  -- the write of the body
  pub wrote_body : (old mid : State) → IsHonestDisk old → IsHonestDisk mid
      → (holds : Holds view s old) → holds.records ≡ records
      → Keeps old mid → WritesWithin (area_start view.journal.geometry + from) n old mid
      → WroteBody view s records old mid
  wrote_body old mid sound sound' holds same keeps writes =
      let at : ℕ = area_start view.journal.geometry + from in
      let has : (a : List ℕ) → old.MayLeave a
      → HasRecords view.journal records a = λ a left.
      subst (λ l. HasRecords view.journal l a) same (holds.journal.each a left) in
      let P : List ℕ → Type 0 = λ b. IsOf s b × HasRecords view.journal records b in
      let begun = begins old P sound (λ a left. (holds.each a left, has a left)) in
      let run = goes_on old old mid P (Torn at n old) begun writes.time
      (λ b torn. torn_is_same old b holds.each has torn) in
      let now : (b : List ℕ) → mid.MayLeave b → P b = at_end old mid P sound' run in
      record {
        run = weakens old mid P (IsOf s) run (λ b is. is.0);
        sound = sound';
        each = λ b left. (now b left).0;
        journal = record {
          going = holds.journal.going;
          count = holds.journal.count ∙ ap length same;
          honest = keeps.honest holds.journal.honest;
          each = λ b left. (now b left).1;
        };
      }

-- the append of the record
module _ (view : RepositoryView) (s : Standing) (records : List Record) (r : Record)
    (c next : Catalogue)
    (fold : catalogue_of view.journal.geometry.objects records ≡ Ok c)
    (fold' : catalogue_of view.journal.geometry.objects (records ++ r ∷ []) ≡ Ok next) where
  same-area : (k : Catalogue) (a b : List ℕ)
      → area_of view.journal.geometry b ≡ area_of view.journal.geometry a
      → standing_of view.journal.geometry k b ≡ standing_of view.journal.geometry k a
  same-area k a b e = ap (λ area. let t : Standing =
      record {
        geometry = view.journal.geometry;
        carousel = carousel_in area k;
        extents = extents_of k;
        rest = drop view.journal.geometry.area area;
      } in t) e

  pub outcome_is : (mid : State) (b : List ℕ) → ((a : List ℕ) → mid.MayLeave a → IsOf s a)
      → ((a : List ℕ) → mid.MayLeave a → HasRecords view.journal records a)
      → WithoutOrWith view.journal records r mid b
      → IsOf s b ⊎ IsOf (standing_of view.journal.geometry next mid.bytes) b
  outcome_is mid b each has outcome = ⊎_elim
      (λ without.
      let g : Geometry = view.journal.geometry in
      let d : List ℕ = without.1.0 in
      let here = stands_by_parts g (with_records view.journal records) c b refl without.0.read
      fold in
      let there = stands_by_parts g (with_records view.journal records) c d refl
      (has d without.1.1).read fold in
      inl (record {
        stands = here ∙ ap Ok (same-area c d b without.1.2) ∙ sym there
            ∙ (each d without.1.1).stands;
        clean = without.0.clean;
      }))
      (λ with_it.
      let g : Geometry = view.journal.geometry in
      let here = stands_by_parts g (with_records view.journal (records ++ r ∷ [])) next b refl
      with_it.0.read fold' in
      inr (record {
        stands = here ∙ ap Ok (same-area next mid.bytes b with_it.1);
        clean =
            with_it.0.clean;
      }))
      outcome

  -- the journal of the view has the records, and the new one makes no fault of the list
  pub is_ready : {old mid : State} (j : JournalView) → view.journal ≡ j
      → WroteBody view s records old mid → HoldsRecords j records mid × FoldOf j (records ++ r ∷ [])
  is_ready {mid = mid} j is wrote = (
    subst (λ k. HoldsRecords k records mid) is wrote.journal,
    subst (λ k. FoldOf k (records ++ r ∷ [])) is (subst (λ l. IsOk l) (sym fold') refl),
  )

  -- at each moment of the write and the append: before the command, or after it
  pub any_moment : {old mid now : State} (layout : Layout) (command : Command) (done : Done)
      (j : JournalView) → view.journal ≡ j → WroteBody view s records old mid
      → after_command layout s command ≡ Ok (standing_of view.journal.geometry next mid.bytes, done)
      → Throughout mid now (WithoutOrWith j records r mid)
      → Throughout old now (IsBeforeOrAfter layout s command)
  any_moment {old} {mid} {now} layout command done j is wrote is_next time =
      joins old mid now (IsBeforeOrAfter layout s command)
      (WithoutOrWith view.journal records r mid)
      (weakens old mid (IsOf s) (IsBeforeOrAfter layout s command) wrote.run
      (λ image is. inl is))
      (subst (λ k. Throughout mid now (WithoutOrWith k records r mid)) (sym is) time)
      (λ image outcome. ⊎_elim (λ is. inl is)
      (λ is. inr (done, standing_of view.journal.geometry next mid.bytes, is_next, is))
      (outcome_is mid image wrote.each wrote.journal.each outcome))

  -- and once it is Ok, after it alone
  pub holds_after : (view' : RepositoryView) (mid now : State) → IsFalse view'.halted
      → view'.journal.geometry ≡ view.journal.geometry
      → Agrees view' (standing_of view.journal.geometry next mid.bytes)
      → HoldsRecords view'.journal (records ++ r ∷ []) now → OnlyReadArea view.journal mid now
      → Holds view' (standing_of view.journal.geometry next mid.bytes) now
  holds_after view' mid now going same agrees has area = record {
    going = going;
    agrees = agrees;
    records = records ++ r ∷ [];
    journal = has;
    each = λ image left.
        let here = has.each image left in
        let g : Geometry = view.journal.geometry in
        let stands = stands_by_parts g (with_records view'.journal (records ++ r ∷ [])) next image
        same here.read fold' in
        record {
          stands = stands ∙ ap Ok (same-area next mid.bytes image (area image left));
          clean =
              here.clean;
        };
  }

-- a rewrite, or a migration: the given records fold to the same catalogue
module _ (view : RepositoryView) (s : Standing) (layout : Layout) (records given : List Record)
    (c : Catalogue)
    (fold : catalogue_of view.journal.geometry.objects records ≡ Ok c)
    (fold' : catalogue_of view.journal.geometry.objects given ≡ Ok c) where
  -- an image with these records and the data area of one that stands for s
  same-standing : (j : JournalView) (list : List Record) (a b : List ℕ)
      → j.geometry ≡ view.journal.geometry
      → catalogue_of view.journal.geometry.objects list ≡ Ok c → HasRecords j list b
      → HasRecords view.journal records a → IsOf s a
      → area_of view.journal.geometry b ≡ area_of view.journal.geometry a → IsOf s b
  same-standing j list a b geometry_is list_fold has was of area =
      let g : Geometry = view.journal.geometry in
      let here = stands_by_parts g (with_records j list) c b geometry_is has.read list_fold in
      let there = stands_by_parts g (with_records view.journal records) c a refl was.read fold in
      let same : standing_of g c b ≡ standing_of g c a =
      ap (λ l. let t : Standing =
      record {
        geometry = g;
        carousel = carousel_in l c;
        extents = extents_of c;
        rest = drop g.area l;
      } in t) area in
      record { stands = here ∙ ap Ok same ∙ sym there ∙ of.stands; clean = has.clean }

  rewritten_is : (old : State) (b : List ℕ) → ((a : List ℕ) → old.MayLeave a → IsOf s a)
      → ((a : List ℕ) → old.MayLeave a → HasRecords view.journal records a)
      → OldOrGiven view.journal layout records given old b → IsOf s b
  rewritten_is old b each has outcome =
      let d : List ℕ = outcome.1.0 in
      let left = outcome.1.1 in
      ⊎_elim (λ was. same-standing view.journal records d b refl fold was (has d left) (each d left)
      outcome.1.2)
      (λ now. same-standing (in_other_half view.journal layout given) given d b refl fold' now
      (has d left) (each d left) outcome.1.2)
      outcome.0

  -- at each moment each image stands for what it stood for
  pub rewrote : (old now : State) → (holds : Holds view s old) → holds.records ≡ records
      → Throughout old now (OldOrGiven view.journal layout records given old)
      → Throughout old now (IsOf s)
  rewrote old now holds same time =
      let has : (a : List ℕ) → old.MayLeave a
      → HasRecords view.journal records a = λ a left.
      subst (λ l. HasRecords view.journal l a) same (holds.journal.each a left) in
      weakens old now (OldOrGiven view.journal layout records given old) (IsOf s) time
      (λ b outcome. rewritten_is old b holds.each has outcome)

  -- and once it is Ok, it holds in the other half
  pub holds_rewritten : (view' : RepositoryView) (old now : State) → IsHonestDisk old
      → (holds : Holds view s old) → holds.records ≡ records
      → IsFalse view'.halted → view'.journal.geometry ≡ view.journal.geometry → Agrees view' s
      → HoldsRecords view'.journal given now → OnlyReadArea view.journal old now
      → (after : Holds view' s now) × (after.records ≡ given)
  holds_rewritten view' old now sound holds same going geometry_is agrees has area =
      let was : HasRecords view.journal records old.bytes =
      subst (λ l. HasRecords view.journal l old.bytes) same
      (holds.journal.each old.bytes sound.bytes) in (
        record {
          going = going;
          agrees = agrees;
          records = given;
          journal = has;
          each = λ image left. same-standing view'.journal given old.bytes image geometry_is fold'
              (has.each image left) was (holds.each old.bytes sound.bytes) (area image left);
        },
        refl,
      )
