use Rattle.std.proofs.Common.{ap, arith, refl, take}
use Rattle.mot_folder.specs.Inner.Listing.{ReadsNoMore, stage}
use Rattle.mot_folder.specs.Inner.Listing.GivesNoMore.{endless}
use Rattle.mot_folder.proofs.Stages.{more_listed, reads_all, reads_fault, reads_more, reads_no_more}
use Rattle.mot_folder.proofs.Stages.{reads_none}
use Rattle.mot_folder.proofs.Unlisted.{reads_so, why_called, why_same}
use Rattle.mot_folder.proofs.listing.read_names.Goals as goal
use Rattle.mot_shelf.proofs.Laws.{gives_on}
use Rattle.mot_shelf.specs.Given.{and_failed, and_listed}
use Rattle.mot_shelf.specs.Gives.Gives.{more, none}
use Rattle.mot_shelf.specs.Reader.{reader_path}

pub loop-init : goal.loop-init
loop-init g c = record {
  some = λ given. (
    given,
    none,
    (
      reads_none c.args.types.now (stage (reader_path c.args.shelf.now) given c.args.report.now
          c.args.names.now.counted c.args.names.now.names.items),
      omega arith,
    ),
  );
}

pub loop-preserved : goal.loop-preserved
loop-preserved g c =
    let path = reader_path c.names.new.self in
    record {
      some = λ given.
          let was = c.loop.invariant.some given in
          let bytes = take c.in_ok-count.count c.names.new.room in
          let mid = and_listed was.0 bytes in
          let rest = c.in_ok-add_all-in_default.ensures mid in (
            rest.0,
            gives_on _ _ given mid _ rest.0 (more _ was.0 was.1 (c.in_ok-count.ensures.asks was.0)) rest.1,
            (
              reads_more c.args.types.now _ _ path mid was.2.0 c.in_ok-count.ensures.same _ _ refl rest.2,
              more_listed c.args.types.now _ _ path mid was.2.0 c.in_ok-count.ensures.same rest.0 _
                  c.loop.counter refl rest.2.listed was.2.1,
            ),
          );
    }

pub returns-in_err-add_all-in_default : goal.returns-in_err-add_all-in_default
returns-in_err-add_all-in_default g c = λ given.
    let types = c.args.types.now in
    let stop = c.in_err-add_all-in_default in
    let result = c.from_residual-in_err-add_all-in_default in
    let was = c.loop.invariant.some given in
    let mid = and_listed was.0 (take c.in_ok-count.count c.names.new.room) in
    let rest = stop.ensures mid in (
      rest.0,
      gives_on _ _ given mid _ rest.0 (more _ was.0 was.1 (c.in_ok-count.ensures.asks was.0)) rest.1,
      reads_so types _ _ result.result stop.field-0.0.refusal
          (why_same result.result stop.field-0.0 result.ensures.1)
          (reads_no_more types _ _ (reader_path c.names.new.self) mid was.2.0 c.in_ok-count.ensures.same _
          _ stop.field-0.0.refusal refl rest.2),
    )

pub returns-in_err-count : goal.returns-in_err-count
returns-in_err-count g c = λ given.
    let types = c.args.types.now in
    let path = reader_path c.names.new.self in
    let was = c.loop.invariant.some given in
    let new = and_failed was.0 (reader_path c.loop.shelf) in (
      new,
      more _ was.0 was.1 (c.in_err-count.ensures.asks was.0),
      why_called c.from_residual.result _ (ReadsNoMore types _ (stage path new c.loop.report
          c.loop.names.counted c.loop.names.names.items)) c.from_residual.ensures.1
          (λ refusal why. reads_fault types _ _ path new was.2.0 c.in_err-count.ensures.same _ refusal
          refl why),
    )

pub returns : goal.returns
returns g c = λ given.
    let was = c.loop.invariant.some given in
    let long = was.2.1 in (
      was.0,
      was.1,
      record { later = was.2.0.later; why = endless c.from.ensures (omega (arith, long)) },
    )

pub returns-in-0 : goal.returns-in-0
returns-in-0 g c = λ given.
    let was = c.loop.invariant.some given in
    let new = and_listed was.0 (take c.in_ok-count.count c.names.new.room) in (
      new,
      more _ was.0 was.1 (c.in_ok-count.ensures.asks was.0),
      reads_all c.args.types.now _ _ (reader_path c.names.new.self) new was.2.0
          c.in_ok-count.ensures.same _ refl
          (ap (λ n. take n c.names.new.room) c.in-0.is),
    )
