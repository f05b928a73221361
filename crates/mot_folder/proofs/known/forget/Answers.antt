use Rattle.std.proofs.Common.{◌≡◌, ◌∙◌, ap, subst, sym, true}
use Rattle.std.proofs.lemmas.Bool.{cond_both}
use Rattle.std.specs.List.{AllByRecursion}
use Rattle.mot_folder.specs.Inner.Knowing.{is_there}
use Rattle.mot_folder.specs.Known.{Among}
use Rattle.mot_folder.specs.declared.known.Known.{Known}
use Rattle.mot_folder.proofs.Knowing.{all_front, all_push, each_among}
use Rattle.mot_folder.proofs.known.forget.Goals as goal

pub loop-one-init : goal.loop-one-init
loop-one-init c = record {
  all = subst (λ l. AllByRecursion (Among c.args.known.now.items) l)
      (ap (λ v. v.items) (sym c.replace-all.ensures.value)) (each_among c.args.known.now.items);
  kept = subst (λ l. AllByRecursion (λ (k : Known). Among c.args.known.now.items k
      × (is_there c.args.carousel.now.objects.items k ≡ true)) l)
      (sym (ap (λ v. v.items) c.replace-all.ensures.after ∙ c.new.ensures.items)) tt;
}

pub loop-one-preserved : goal.loop-one-preserved
loop-one-preserved c = record {
  all = (all_front (Among c.args.known.now.items) c.pop.new.self.items c.in-Some.one
      (subst (AllByRecursion (Among c.args.known.now.items)) c.in-Some.ensures.items
      c.loop-one.invariant.all)).0;
  kept = c.loop-one.invariant.kept;
}

pub loop-one-preserved-then-not-is_of_read : goal.loop-one-preserved-then-not-is_of_read
loop-one-preserved-then-not-is_of_read c =
    let one = c.in-Some.one in
    let first = c.args.known.now.items in
    let parts = all_front (Among first) c.pop.new.self.items one
    (subst (AllByRecursion (Among first)) c.in-Some.ensures.items c.loop-one.invariant.all) in
    let P : Known → Type 0 = λ (k : Known). Among first k
    × (is_there c.args.carousel.now.objects.items k ≡ true) in
    record {
      all = parts.0;
      kept = subst (AllByRecursion P) (sym c.push.ensures.items) (cond_both _ _ _ (AllByRecursion P)
          (λ e. all_push P c.loop-one.known.items one c.loop-one.invariant.kept
          (parts.1, sym c.if-is_there.ensures))
          (λ e. c.loop-one.invariant.kept));
    }
