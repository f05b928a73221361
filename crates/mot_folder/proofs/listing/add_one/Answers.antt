use Rattle.std.proofs.Common.{◌≡◌, ◌&&◌, ◌∙◌, ◌++◌, ◌<◌, ◌∷◌, [], ap, arith, false, not, refl}
use Rattle.std.proofs.Common.{subst, sym, true}
use Rattle.mot_folder.specs.Inner.Listing.{GoesOn, StopsWithin, TellsNameless}
use Rattle.mot_folder.specs.Inner.Listing.{stage}
use Rattle.mot_folder.specs.Inner.Listing.IsWhyNot.{no_memory}
use Rattle.mot_folder.specs.Listed.{and_object}
use Rattle.mot_folder.specs.declared.listing.TheConstants.{MAX_NAMES}
use Rattle.mot_folder.proofs.Log.{tells_same}
use Rattle.mot_folder.proofs.Order.{shown_where}
use Rattle.mot_folder.proofs.FileStat.{asked_failed, asked_nothing, asked_one, call_failed, of_file}
use Rattle.mot_folder.proofs.FileStat.{of_other, too_many, without_type}
use Rattle.mot_folder.proofs.Stages.{later_beside}
use Rattle.mot_folder.proofs.Unlisted.{stops_so, why_called}
use Rattle.mot_folder.proofs.listing.add_one.Goals as goal
use Rattle.mot_numbers.specs.declared.refusal.Refusal.TheVariants.{OutOfMemory}
use Rattle.mot_objects.specs.Name.{is_name}
use Rattle.mot_objects.specs.declared.name.TheConstants.{MAX_NAME}
use Rattle.mot_shelf.proofs.Laws.{gives_on, gives_one}
use Rattle.mot_shelf.specs.Given.{Given, and_asked, and_failed}
use Rattle.mot_shelf.specs.Gives.Gives.{none}
use Rattle.mot_shelf.specs.Reader.{reader_path, view}
use Rattle.mot_suffixes.specs.Types.{AreShown}
use Rattle.mot_update.specs.Updating.{is_known}

pub returns-then-not-is_object : goal.returns-then-not-is_object
returns-then-not-is_object g c = λ given.
    let counted = c.args.names.now.counted in
    let names = c.args.names.now.names.items in
    let skip = c.tell_skipped.ensures in
    let asked = asked_nothing given in (
      given,
      skip.gave given,
      record {
        later = later_beside (stage (reader_path c.args.shelf.now) given c.args.report.now counted
            names) (stage (reader_path c.tell_skipped.new.shelf) given c.tell_skipped.new.report
            counted names) skip.same skip.told asked.unread refl;
        listed = asked.listed;
        further = skip.further given.files;
        goes = without_type c.args.types.now c.args.name.now given counted names
            (sym c.if-not-is_object.ensures.typed);
      },
    )

pub returns : goal.returns
returns g c = λ given.
    let name = c.args.name.now in
    let new = and_asked given name c.in_ok-is_file.field-0 in
    let names = c.args.names.now.names.items in
    let add = c.in_ok-add_file.ensures in
    let is : new ≡ and_asked given name true =
    ap (λ t. and_asked given name t) c.if-not-branch.false in
    let added : c.add_file.new.names.names.items ≡ and_object names name =
    add.added ∙ ap (λ (v : _). and_object v.items name) c.in_ok-count.ensures.same in
    let asked = asked_one given new name true is in (
      new,
      gives_one _ _ given new (c.in_ok-is_file.ensures.asks given),
      record {
        later = record {
          same = c.in_ok-is_file.ensures.same;
          told = add.told;
          unread = asked.unread;
          shown = λ shown. subst AreShown (sym added)
              (shown_where (is_name MAX_NAME name && not (is_known names name)) names name
              (c.if-not-is_object.ensures.shown refl) shown);
        };
        listed = asked.listed;
        further = λ was. subst (λ (n : Given). TellsNameless n.files c.add_file.new.report) (sym is)
            (add.further given.files was);
        goes = of_file c.args.types.now name given new c.args.names.now.counted
            c.add_file.new.names.counted names c.add_file.new.names.names.items
            (sym c.if-not-is_object.ensures.typed) (add.counted ∙ c.in_ok-count.ensures.counted) is
            added;
      },
    )

pub returns-in_err-add_file : goal.returns-in_err-add_file
returns-in_err-add_file g c = λ given.
    let name = c.args.name.now in
    let new = and_asked given name c.in_ok-is_file.field-0 in
    let asked = asked_one given new name true
    (ap (λ t. and_asked given name t) c.if-not-branch.false) in (
      new,
      gives_one _ _ given new (c.in_ok-is_file.ensures.asks given),
      stops_so c.args.types.now _ _ c.from_residual-in_err-add_file.result
          OutOfMemory c.from_residual-in_err-add_file.ensures.1 (name ∷ []) (record {
            later = later_beside _ _ c.in_ok-is_file.ensures.same
                c.in_err-add_file.ensures.told asked.unread
                (c.in_err-add_file.ensures.kept
                ∙ ap (λ (v : _). v.items) c.in_ok-count.ensures.same);
            listed = asked.listed;
            why = λ seen was. no_memory refl;
          }),
    )

pub returns-then-not-branch : goal.returns-then-not-branch
returns-then-not-branch g c = λ given.
    let name = c.args.name.now in
    let new = and_asked given name c.in_ok-is_file.field-0 in
    let names = c.args.names.now.names.items in
    let skip = c.tell_skipped-then-not-branch.ensures in
    let is : new ≡ and_asked given name false =
    ap (λ t. and_asked given name t) c.if-not-branch.true in
    let asked = asked_one given new name false is in (
      new,
      gives_on (view g.S.System.calls c.args.shelf.now) (view g.S.System.calls c.is_file.new.self)
          given new (view g.S.System.calls c.tell_skipped-then-not-branch.new.shelf) new
          (gives_one _ _ given new (c.in_ok-is_file.ensures.asks given)) (skip.gave new),
      record {
        later = later_beside _ _ (skip.same ∙ c.in_ok-is_file.ensures.same) skip.told asked.unread
            (ap (λ (v : _). v.items) c.in_ok-count.ensures.same);
        listed = asked.listed;
        further = λ was. subst (λ (n : Given). TellsNameless n.files
            c.tell_skipped-then-not-branch.new.report) (sym is) (skip.further given.files was);
        goes = subst (λ (v : _). GoesOn c.args.types.now (name ∷ []) given new
            c.args.names.now.counted c.count.new.self.counted names v.items)
            (sym c.in_ok-count.ensures.same)
            (of_other c.args.types.now name given new c.args.names.now.counted
            c.count.new.self.counted names (sym c.if-not-is_object.ensures.typed)
            c.in_ok-count.ensures.counted is);
      },
    )

pub returns-in_err-is_file : goal.returns-in_err-is_file
returns-in_err-is_file g c = λ given.
    let types = c.args.types.now in
    let name = c.args.name.now in
    let new = and_failed given name in
    let asked = asked_failed given new name refl in
    let stop = c.in_err-is_file.ensures in (
      new,
      gives_one _ _ given new (stop.asks given),
      why_called c.from_residual-in_err-is_file.result _ (StopsWithin types (name ∷ []) _ _)
          c.from_residual-in_err-is_file.ensures.1 (λ refusal why. record {
            later = later_beside _ _ stop.same (tells_same c.args.report.now) asked.unread
                (ap (λ (v : _). v.items) c.in_ok-count.ensures.same);
            listed = asked.listed;
            why = λ seen was. call_failed (seen ++ name ∷ []) given new name refusal refl why;
          }),
    )

pub returns-in_err-count : goal.returns-in_err-count
returns-in_err-count g c = λ given.
    let name = c.args.name.now in
    let asked = asked_nothing given in
    let few : c.args.names.now.counted < MAX_NAMES → ⊥ =
    λ less. let no : false ≡ true = c.in_err-count.ensures.counts.1 less in cc in (
      given,
      none,
      stops_so c.args.types.now _ _ c.from_residual.result c.in_err-count.field-0.0
          c.from_residual.ensures.1 (name ∷ []) (record {
            later = later_beside _ _ refl (tells_same c.args.report.now) asked.unread
                (ap (λ (v : _). v.items) c.in_err-count.ensures.same);
            listed = asked.listed;
            why = too_many c.args.types.now name given given c.args.names.now.counted
                c.args.names.now.names.items c.in_err-count.field-0.0
                (sym c.if-not-is_object.ensures.typed) c.in_err-count.ensures.many
                (omega (arith, few));
          }),
    )
