use Rattle.std.proofs.Common.{◌≡◌, ◌∷◌, ◌++◌, [], ◌-◌, ◌+◌, List, ℕ, suc, length, sym, ap, ◌∙◌}
use Rattle.std.proofs.Common.{subst, arith, append-nil}
use Rattle.mot_carousel.specs.Inner.{used_ids_of}
use Rattle.mot_carousel.specs.NewIds.{new_ids, AreNewIds}
use Rattle.mot_carousel.proofs.NewIds.{new_ids-new, new_ids-step}
use Rattle.mot_carousel.proofs.planning.new_ids.Goals as goal
use Rattle.mot_objects.specs.Ids.{next_free_id}

pub loop-preserved : goal.loop-preserved
loop-preserved c =
    let is = c.loop.invariant in
    let k = c.loop.counter in
    let test = c.loop-test.true in
    let m = c.args.count - (k + 1) in
    let left : c.args.count - k ≡ suc m = omega arith in
    let known = c.loop.used.items in
    let id = c.free_id-id.result in
    let next = c.free_id-id.ensures.next ∙ ap (next_free_id c.loop.id) c.deref.ensures.value in
    let step = new_ids-step (c.args.count - k) m c.loop.id id known c.loop.ids.items left next in
    let used = c.push_reserved-in-loop.ensures.items in
    let ids = c.push_reserved.ensures.items in
    let rest : List ℕ → List ℕ × ℕ = λ l. new_ids m id l in
    record {
      objects = is.objects ∙ step.0 ∙ ap (λ l. l ++ (rest (known ++ id ∷ [])).0) (sym ids)
          ∙ ap (λ l. c.push_reserved.new.self.items ++ (rest l).0) (sym used);
      directory = is.directory ∙ step.1 ∙ ap (λ l. (rest l).1) (sym used);
      taken = omega arith;
      used = omega arith;
      room = omega arith;
      used_room = omega arith;
    }

pub returns : goal.returns
returns c =
    let is = c.loop.invariant in
    let k = c.loop.counter in
    let past = c.loop-test.false in
    let used = used_ids_of c.args.carousel.now in
    let none : c.args.count - k ≡ 0 = omega arith in
    let rest : ℕ → List ℕ × ℕ = λ n. new_ids n c.loop.id c.loop.used.items in
    let objects : c.loop.ids.items ≡ (new_ids c.args.count c.args.last used).0 =
    sym (is.objects ∙ ap (λ n. c.loop.ids.items ++ (rest n).0) none
    ∙ append-nil c.loop.ids.items) in
    let directory : c.free_id.result ≡ (new_ids c.args.count c.args.last used).1 =
    c.free_id.ensures.next ∙ ap (next_free_id c.loop.id) c.deref-2.ensures.value
    ∙ sym (is.directory ∙ ap (λ n. (rest n).1) none) in
    let few = c.in_ok-used.ensures.few in
    let items = ap length c.in_ok-used.ensures.items in
    let size = c.in_ok-used.used.ok.0 in
    let count = c.requires in
    let ids = new_ids c.args.count c.args.last used in
    record {
      objects = objects;
      directory = directory;
      new =
          subst (λ l. AreNewIds used (c.free_id.result ∷ l)) (sym objects)
          (subst (λ i. AreNewIds used (i ∷ ids.0)) (sym directory)
          (new_ids-new c.args.count c.args.last used (omega arith) (omega arith)
          (omega (arith, few, items, size, count))));
    }
