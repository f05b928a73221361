use Rattle.std.proofs.Common.{⊎_elim, inl, inr, subst}
use Rattle.mot_folder.specs.Inner.Knowing.{IsAdded}
use Rattle.mot_folder.proofs.Knowing.{all_at, all_on, each_among}
use Rattle.mot_folder.proofs.known.KnownFiles.finish.Goals as goal

pub returns-then-not-self : goal.returns-then-not-self
returns-then-not-self c =
    all_on (λ k is. ⊎_elim
    (λ at. inl (all_at _ c.forget.new.known.items k c.forget.ensures at).0)
    (λ added. inr (
      subst (λ l. IsAdded l c.args.self.now.refused.names.items
          c.args.carousel.now.objects.items k) c.deref-then-not-self.ensures.value added,
      c.if-not-self.true,
    )) is) c.add_all.new.known.items c.add_all.ensures

pub returns-else-not-self : goal.returns-else-not-self
returns-else-not-self c =
    all_on (λ k at. inl at) c.args.self.now.known.items (each_among c.args.self.now.known.items)
