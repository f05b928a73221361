use Rattle.std.proofs.Common.{rules, ℕ, List, ap, ◌∙◌, sym, refl, map, arith}
use Rattle.mot_directory.specs.Directory.{bytes_of_directory}
use Rattle.mot_directory.specs.Entries.{directory_of}
use Rattle.mot_objects.specs.declared.object.Object.{Object}
use Rattle.mot_objects.specs.Stands.{carousel_of}
use Rattle.mot_player.specs.PlayerView.{with_bodies}
use Rattle.mot_player.specs.Turn.{Turn}
use Rattle.mot_player.specs.declared.planned_body.PlannedBody.{PlannedBody}
use Rattle.mot_player.proofs.Plans.{lengths-plans, same_count, are_sized, with_bodies-planned}
use Rattle.mot_player.proofs.turn.Turn.replaced.Goals as goal

pub invariant_of-result : goal.invariant_of-result
invariant_of-result c = record {
  some = search rules;
  directory = search rules;
  bodies = are_sized c.in_ok-bodies.bodies.items;
  few = omega (
    arith,
    same_count c.in_ok-bodies.bodies.items c.deref-2.result.now
        c.in_ok-bodies.ensures.tids,
    c.deref-2.ensures.len,
    c.args.carousel.now.few,
  );
}

pub returns-clause-bodies : goal.returns-clause-bodies
returns-clause-bodies c = λ bodies e.
    e ∙ ap (map (λ (o : Object). o.length)) (sym c.deref-2.ensures.value)
    ∙ sym c.in_ok-bodies.ensures.lengths
    ∙ sym (lengths-plans c.in_ok-bodies.bodies.items)

pub returns-clause-turn : goal.returns-clause-turn
returns-clause-turn c = λ bodies e. record {
  tid = refl;
  directory = c.in_ok-directory.ensures.reads bodies e;
  bodies = with_bodies-planned c.in_ok-bodies.bodies.items c.args.carousel.now.objects.items bodies
      (c.in_ok-bodies.ensures.tids ∙ ap (map (λ (o : Object). o.tid)) c.deref-2.ensures.value);
}

pub returns-clause-exact : goal.returns-clause-exact
returns-clause-exact c = λ bodies e.
    let with_directory : List ℕ → Turn = λ directory. record {
      tid = c.args.carousel.now.directory;
      directory = directory;
      bodies = with_bodies (map (λ (b : PlannedBody). record { tid = b.tid; length = b.length })
          c.in_ok-bodies.bodies.items) bodies;
    } in
    let with_these : List (ℕ × List ℕ) → Turn = λ pairs. record {
      tid = c.args.carousel.now.directory;
      directory = bytes_of_directory
          (directory_of (carousel_of c.args.carousel.now bodies) c.args.segment_size);
      bodies = pairs;
    } in
    ap with_directory (c.in_ok-directory.ensures.written bodies e)
    ∙ ap with_these (with_bodies-planned c.in_ok-bodies.bodies.items
    c.args.carousel.now.objects.items bodies
    (c.in_ok-bodies.ensures.tids ∙ ap (map (λ (o : Object). o.tid)) c.deref-2.ensures.value))
