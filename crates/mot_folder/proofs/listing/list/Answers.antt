use Rattle.std.proofs.Common.{◌∙◌, ◌++◌, ◌∷◌, [], ap, refl, sym}
use Rattle.std.proofs.lemmas.List.{nil_from_length}
use Rattle.mot_folder.specs.Inner.Listing.{ListsNot, stage}
use Rattle.mot_folder.proofs.Stages.{later_same, lists_all, lists_kept, lists_no_more, lists_not}
use Rattle.mot_folder.proofs.Unlisted.{why_called, why_of, why_same}
use Rattle.mot_folder.proofs.listing.list.Goals as goal
use Rattle.mot_shelf.proofs.Laws.{gives_on, gives_one}
use Rattle.mot_shelf.specs.Given.{and_failed, and_kept_names, and_listed, nothing}
use Rattle.mot_shelf.specs.Gives.Gives.{more}
use Rattle.mot_shelf.specs.Reader.{reader_path}

pub returns-in_err-open : goal.returns-in_err-open
returns-in_err-open g c =
    let types = c.args.types.now in
    let path = reader_path c.args.shelf.now in
    let report = c.args.report.now in
    let old = stage path nothing report 0 [] in
    let failed = and_failed nothing path in
    let last = reader_path c.open.new.self in (
      failed,
      gives_one _ _ nothing failed (c.in_err-open.ensures.asks nothing),
      why_called c.from_residual.result _ (ListsNot types old (stage last failed report 0 []))
          c.from_residual.ensures.1 (λ refusal why. lists_not types old old last failed path refusal
          (later_same old) c.in_err-open.ensures.same refl why refl),
    )

pub returns-in_err-read_names : goal.returns-in_err-read_names
returns-in_err-read_names g c =
    let types = c.args.types.now in
    let path = reader_path c.args.shelf.now in
    let opened = and_listed nothing path in
    let stop = c.in_err-read_names in
    let all = stop.ensures opened in
    let old = stage path nothing c.args.report.now 0 [] in
    let last = reader_path c.read_names.new.shelf in
    let report = c.read_names.new.report in
    let result = c.from_residual-in_err-read_names in (
      all.0,
      gives_on _ _ nothing opened _ all.0
          (gives_one _ _ nothing opened (c.in_ok-open.ensures.asks nothing)) all.1,
      why_of result.result _ (ListsNot types old (stage last all.0 report 0 []))
          stop.field-0.0.refusal (why_same result.result stop.field-0.0 result.ensures.1)
          (lists_no_more types path nothing c.args.report.now (reader_path c.open.new.self) opened
          c.new-names.result.counted c.new-names.result.names.items refl
          c.in_ok-open.ensures.same refl c.new-names.ensures.counted
          c.new-names.ensures.none (stage last all.0 report c.read_names.new.names.counted
          c.read_names.new.names.names.items) stop.field-0.0.refusal all.2),
    )

pub returns-then-going-eq0 : goal.returns-then-going-eq0
returns-then-going-eq0 g c =
    let path = reader_path c.args.shelf.now in
    let opened = and_listed nothing path in
    let all = c.in_ok-read_names.ensures opened in (
      all.0,
      gives_on _ _ nothing opened _ all.0
          (gives_one _ _ nothing opened (c.in_ok-open.ensures.asks nothing)) all.1,
      (
        lists_all c.args.types.now path nothing c.args.report.now (reader_path c.open.new.self) opened
            _ _ refl c.in_ok-open.ensures.same refl c.new-names.ensures.counted
            c.new-names.ensures.none _ all.2,
        c.count_unknown-going.ensures,
        λ some. absurd (some (nil_from_length _
            (sym c.count_unknown-going.ensures ∙ c.if-going-eq0.true))),
      ),
    )

pub returns : goal.returns
returns g c =
    let types = c.args.types.now in
    let path = reader_path c.args.shelf.now in
    let opened = and_listed nothing path in
    let all = c.in_ok-read_names.ensures opened in
    let lists = lists_all types path nothing c.args.report.now (reader_path c.open.new.self) opened
    _ _ refl c.in_ok-open.ensures.same refl c.new-names.ensures.counted
    c.new-names.ensures.none _ all.2 in
    let last = reader_path c.read_names.new.shelf in
    let kept = and_kept_names all.0 last in (
      kept,
      more _ all.0 (gives_on _ _ nothing opened _ all.0
          (gives_one _ _ nothing opened (c.in_ok-open.ensures.asks nothing)) all.1)
          (c.in_ok-keep_names.ensures.asks all.0),
      (
        lists_kept types _ _ (reader_path c.keep_names.new.self) kept _ lists
            c.in_ok-keep_names.ensures.same refl,
        c.count_unknown-going.ensures,
        λ some. (all.0.kept_names, ap (λ p. all.0.kept_names ++ p ∷ []) lists.later.same),
      ),
    )

pub returns-in_err-keep_names : goal.returns-in_err-keep_names
returns-in_err-keep_names g c =
    let types = c.args.types.now in
    let path = reader_path c.args.shelf.now in
    let opened = and_listed nothing path in
    let all = c.in_ok-read_names.ensures opened in
    let lists = lists_all types path nothing c.args.report.now (reader_path c.open.new.self) opened
    _ _ refl c.in_ok-open.ensures.same refl c.new-names.ensures.counted
    c.new-names.ensures.none _ all.2 in
    let old = stage path nothing c.args.report.now 0 [] in
    let last = reader_path c.keep_names.new.self in
    let report = c.read_names.new.report in
    let result = c.from_residual-in_err-keep_names in
    let given = and_failed all.0 (reader_path c.read_names.new.shelf) in (
      given,
      more _ all.0 (gives_on _ _ nothing opened _ all.0
          (gives_one _ _ nothing opened (c.in_ok-open.ensures.asks nothing)) all.1)
          (c.in_err-keep_names.ensures.asks all.0),
      why_called result.result _ (ListsNot types old (stage last given report 0 []))
          result.ensures.1 (λ refusal why. lists_not types old _ last given _ refusal lists.later
          c.in_err-keep_names.ensures.same refl why refl),
    )
