use Rattle.std.proofs.Common.{◌∙◌, ◌++◌, ◌∷◌, [], ap, append_assoc, append-nil, refl, sym}
use Rattle.mot_folder.specs.Inner.Listing.{stage}
use Rattle.mot_folder.specs.Listed.{names_in}
use Rattle.mot_folder.proofs.Stages.{over_all, over_none, over_on, stops_on}
use Rattle.mot_folder.proofs.Unlisted.{stops_so, why_same}
use Rattle.mot_folder.proofs.listing.add_all.Goals as goal
use Rattle.mot_shelf.proofs.Laws.{gives_on}
use Rattle.mot_shelf.specs.Gives.Gives.{none}
use Rattle.mot_shelf.specs.Reader.{reader_path}

pub loop-name-init : goal.loop-name-init
loop-name-init g c = record {
  done = [];
  split = refl;
  over = λ given. (
    given,
    none,
    over_none c.args.types.now (stage (reader_path c.args.shelf.now) given c.args.report.now
        c.args.names.now.counted c.args.names.now.names.items),
  );
}

pub loop-name-preserved : goal.loop-name-preserved
loop-name-preserved g c =
    let done = c.loop-name.invariant.done in
    let name = c.in-Some.name.now in
    record {
      done = done ++ name ∷ [];
      split = c.loop-name.invariant.split ∙ ap (λ l. done ++ l) c.in-Some.ensures.first
          ∙ sym (append_assoc done (name ∷ []) (names_in c.in-Some.others.now));
      over = λ given.
          let was = c.loop-name.invariant.over given in
          let one = c.in_ok-add_one.ensures was.0 in (
            one.0,
            gives_on _ _ given was.0 _ one.0 was.1 one.1,
            over_on c.args.types.now done (name ∷ []) _ _ _ was.2 one.2,
          );
    }

pub returns-in_err-add_one : goal.returns-in_err-add_one
returns-in_err-add_one g c = λ given.
    let types = c.args.types.now in
    let was = c.loop-name.invariant in
    let over = was.over given in
    let stop = c.in_err-add_one in
    let one = stop.ensures over.0 in (
      one.0,
      gives_on _ _ given over.0 _ one.0 over.1 one.1,
      stops_so types _ _ c.from_residual.result stop.field-0.0.refusal
          (why_same c.from_residual.result stop.field-0.0 c.from_residual.ensures.1)
          (names_in c.args.bytes.now)
          (stops_on types was.done (c.in-Some.name.now ∷ []) (names_in c.in-Some.others.now) _ _ _ _
          stop.field-0.0.refusal (was.split ∙ ap (λ l. was.done ++ l) c.in-Some.ensures.first)
          over.2 one.2),
    )

pub returns : goal.returns
returns g c = λ given.
    let was = c.loop-name.invariant in
    let over = was.over given in (
      over.0,
      over.1,
      over_all c.args.types.now was.done _ _ _
          (was.split ∙ ap (λ l. was.done ++ l) c.in_default.ensures.none ∙ append-nil was.done)
          over.2,
    )
