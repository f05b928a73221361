use Rattle.std.proofs.Common.{◌≡◌, ◌⊎◌, ◌∙◌, ◌+◌, ◌-◌, ◌<◌, ◌++◌, ◌∷◌, [], Option, None, Some, List, ℕ, ap}
use Rattle.std.proofs.Common.{arith, inl, inr, length, refl, subst, sym, true, false}
use Rattle.std.proofs.lemmas.Option.{slice_get_read}
use Rattle.std.specs.Prelude.{IfSome, slice_get}
use Rattle.mot_files.specs.declared.system.Stamp.{Stamp}
use Rattle.mot_folder.proofs.Knowing.{fine_unrefused, knows_on, knows_passed, knows_read, left_on}
use Rattle.mot_folder.proofs.Knowing.{passed_is}
use Rattle.mot_folder.proofs.Taken.{both_same, named_of, plain, then_missed, then_offered, then_passed}
use Rattle.mot_folder.specs.Inner.Names.{name_or_none}
use Rattle.mot_folder.specs.Inner.Reading.{LookedSince, OfferedSince, TellsFile, TellsLook, TellsOffered}
use Rattle.mot_folder.specs.declared.known.StampedFile.{StampedFile}
use Rattle.mot_folder.proofs.folder.FolderSource.next.Goals as goal
use Rattle.mot_shelf.proofs.Laws.{gives_on}
use Rattle.mot_shelf.specs.Given.{and_unchanged, nothing}
use Rattle.mot_shelf.specs.Reader.{reader_path, view}

-- a stamp that is kept is the one that was given
kept_stamp : (kept given : Option Stamp) (stamp : Stamp) → IfSome kept (λ k. given ≡ Some k)
    → kept ≡ Some stamp → given ≡ Some stamp
kept_stamp None given stamp is e = absurd (cc (e))
kept_stamp (Some k) given stamp is e = is ∙ e

-- so it is added with the stamp that it had
added_with : (read after : List StampedFile) (name : List ℕ) (kept given took : Option Stamp)
    → IfSome kept (λ k. given ≡ Some k) → took ≡ given
    → (after ≡ read) ⊎ ((f : StampedFile) × (f.name ≡ name) × (kept ≡ Some f.stamp)
    × (after ≡ read ++ f ∷ []))
    → (after ≡ read) ⊎ ((f : StampedFile) × (f.name ≡ name) × (took ≡ Some f.stamp)
    × (after ≡ read ++ f ∷ []))
added_with read after name kept given took is same (inl none) = inl none
added_with read after name kept given took is same (inr one) =
    inr (one.0, one.1, same ∙ kept_stamp kept given one.0.stamp is one.2, one.3)

pub returns-in-Ok-clause-told : goal.returns-in-Ok-clause-told
returns-in-Ok-clause-told g c = λ since gave told first.
    let mid = c.loop-self.self in
    let is = c.loop-self.invariant in
    let types = mid.types.now in
    let known = mid.files.known.items in
    let names = mid.names.names.items in
    let name = c.index-name.result.now in
    let within : mid.place < length names =
    subst (λ n. mid.place < n) (c.len.ensures ∙ mid.names.names.ok.0) c.loop-self-test.true in
    let at : slice_get names mid.place ≡ Some name =
    slice_get_read names (length names) mid.place name refl within c.index-name.ensures in
    let w = c.in-Ok.wanted in
    let files = c.add.new.self in
    let now = view g.S.System.calls c.read.new.shelf in
    let was = is.looked since told gave first in
    let given = was.0 in
    let took = c.in-Ok.ensures.took given in
    let after = took.0 in
    let takes = took.2.0 in
    let Look = TellsLook since types known (reader_path mid.shelf) given names mid.place mid.report
    mid.sizes.waiting in
    both_same (OfferedSince since now types files names (mid.place + 1) mid.report mid.sizes.waiting
    false w) gave told (
      after,
      gives_on _ _ nothing given _ after
          was.1 took.1,
      (
        subst (λ p. TellsOffered since types files.known.items p after names (mid.place + 1) mid.report
            mid.sizes.waiting w told gave)
            (sym c.in-Ok.ensures.same)
            (subst (λ v. TellsOffered since types v.items (reader_path mid.shelf) after names
            (mid.place + 1) mid.report mid.sizes.waiting w told gave) (sym c.add.ensures.known)
            (plain (TellsOffered since types known (reader_path mid.shelf) after names (mid.place + 1)
            mid.report mid.sizes.waiting w) told gave
            (then_offered since types known (reader_path mid.shelf) names Look given after mid.place
            mid.report mid.sizes.waiting name w (both_same Look) within at takes gave told
            was.2.0))),
        knows_read given after mid.files files told name takes.bytes takes.stamp takes.read
            (added_with mid.files.read.items files.read.items name c.stamp_to_keep.result
            c.in-Ok.stamp takes.stamp c.stamp_to_keep.ensures took.2.1 c.add.ensures.read)
            c.add.ensures.known c.add.ensures.noted.0 c.add.ensures.noted.1 was.2.1,
        refl,
      ),
    )

pub returns-in-Ok-clause-named : goal.returns-in-Ok-clause-named
returns-in-Ok-clause-named g c =
    let mid = c.loop-self.self in
    let is = c.loop-self.invariant in
    let names = mid.names.names.items in
    let name = c.index-name.result.now in
    let within : mid.place < length names =
    subst (λ n. mid.place < n) (c.len.ensures ∙ mid.names.names.ok.0) c.loop-self-test.true in
    let at : slice_get names mid.place ≡ Some name =
    slice_get_read names (length names) mid.place name refl within c.index-name.ensures in (
      mid.place,
      is.goes,
      omega arith,
      subst (λ (l : List (List ℕ)). slice_get l mid.place ≡ Some c.in-Ok.wanted.name) is.names
          (at ∙ ap Some (named_of name c.in-Ok.wanted (c.in-Ok.ensures.took nothing).2.0)),
    )

pub returns-in-Ok-clause-last : goal.returns-in-Ok-clause-last
returns-in-Ok-clause-last g c =
    let mid = c.loop-self.self in
    let names = mid.names.names.items in
    let name = c.index-name.result.now in
    let within : mid.place < length names =
    subst (λ n. mid.place < n) (c.len.ensures ∙ mid.names.names.ok.0) c.loop-self-test.true in
    let at : slice_get names mid.place ≡ Some name =
    slice_get_read names (length names) mid.place name refl within c.index-name.ensures in
    let back : (mid.place + 1) - 1 ≡ mid.place = omega arith in
    ap (λ n. name_or_none (slice_get names n)) back ∙ ap name_or_none at
    ∙ named_of name c.in-Ok.wanted (c.in-Ok.ensures.took nothing).2.0

pub returns-clause-told : goal.returns-clause-told
returns-clause-told g c = λ since gave told first.
    let mid = c.loop-self.self in
    both_same (LookedSince since (view g.S.System.calls mid.shelf) mid.types.now mid.files
    mid.names.names.items mid.place mid.report mid.sizes.waiting mid.is_kept) gave told
    (c.loop-self.invariant.looked since told gave first)

pub loop-self-preserved-then-is_unchanged : goal.loop-self-preserved-then-is_unchanged
loop-self-preserved-then-is_unchanged g c =
    let mid = c.loop-self.self in
    let is = c.loop-self.invariant in
    let types = mid.types.now in
    let known = mid.files.known.items in
    let names = mid.names.names.items in
    let name = c.index-name.result.now in
    let within : mid.place < length names =
    subst (λ n. mid.place < n) (c.len.ensures ∙ mid.names.names.ok.0) c.loop-self-test.true in
    let at : slice_get names mid.place ≡ Some name =
    slice_get_read names (length names) mid.place name refl within c.index-name.ensures in
    let goes = is.goes in
    record {
      names = is.names;
      goes = omega (arith, goes);
      looked = λ since told gave first.
          let was = is.looked since told gave first in
          let given = was.0 in
          let passed = c.if-is_unchanged.ensures refl given in
          let after = and_unchanged given name passed.0 in
          let Look = TellsLook since types known (reader_path mid.shelf) given names mid.place mid.report
          mid.sizes.waiting in (
            after,
            gives_on _ _ nothing given _ after was.1 passed.2,
            (
              plain (TellsLook since types known (reader_path mid.shelf) after names (mid.place + 1)
                  mid.report mid.sizes.waiting) told gave
                  (then_passed since types known (reader_path mid.shelf) names Look given after mid.place
                  mid.report mid.sizes.waiting name passed.0 (both_same Look) within at refl gave
                  told was.2.0),
              knows_passed given after mid.files told name passed.0 refl passed.1 was.2.1,
              λ kept. absurd (cc (kept)),
            ),
          );
      fine = λ e. absurd (let no : false ≡ true = sym (passed_is mid.report.any_refused) ∙ e in
          cc (no));
    }

pub loop-self-preserved : goal.loop-self-preserved
loop-self-preserved g c =
    let mid = c.loop-self.self in
    let is = c.loop-self.invariant in
    let types = mid.types.now in
    let known = mid.files.known.items in
    let names = mid.names.names.items in
    let name = c.index-name.result.now in
    let within : mid.place < length names =
    subst (λ n. mid.place < n) (c.len.ensures ∙ mid.names.names.ok.0) c.loop-self-test.true in
    let at : slice_get names mid.place ≡ Some name =
    slice_get_read names (length names) mid.place name refl within c.index-name.ensures in
    let goes = is.goes in
    let report = c.tell_untaken.new.report in
    let told_so : TellsFile mid.report report name =
    subst (λ n. TellsFile mid.report report n) c.as_bytes.ensures.value c.tell_untaken.ensures.told in
    record {
      names = is.names;
      goes = omega (arith, goes);
      looked = λ since told gave first.
          let was = is.looked since told gave first in
          let given = was.0 in
          let took = c.in-Err.ensures.took given in
          let after = took.0 in
          let Look = TellsLook since types known (reader_path mid.shelf) given names mid.place mid.report
          mid.sizes.waiting in (
            after,
            gives_on _ _ nothing given _ after
                was.1 took.1,
            (
              subst (λ p. TellsLook since types known p after names (mid.place + 1) report
                  mid.sizes.waiting told gave)
                  (sym c.in-Err.ensures.same)
                  (plain (TellsLook since types known (reader_path mid.shelf) after names (mid.place + 1)
                  report mid.sizes.waiting) told gave
                  (then_missed since types known (reader_path mid.shelf) names Look given after mid.place
                  mid.report report mid.sizes.waiting name (both_same Look) within at took.2
                  c.tell_untaken.ensures.memory c.tell_untaken.ensures.any
                  c.tell_untaken.ensures.stays told_so gave told was.2.0)),
              knows_on given after mid.files told (left_on given after name took.2) was.2.1,
              λ kept. absurd (cc (kept)),
            ),
          );
      fine = λ e.
          let none = fine_unrefused report.any_refused mid.any_passed e in
          let any = c.tell_untaken.ensures.any in absurd (cc (none, any));
    }
