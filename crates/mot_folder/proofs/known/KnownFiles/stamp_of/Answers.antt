use Rattle.std.proofs.Common.{◌≡◌, ◌∙◌, ◌<◌, length, refl, slice_index_or, subst, sym}
use Rattle.mot_folder.proofs.Knowing.{among_at}
use Rattle.std.proofs.lemmas.Slice.Eq.{bytes_eq-Decides}
use Rattle.mot_folder.proofs.known.KnownFiles.stamp_of.Goals as goal

pub returns-then-eq : goal.returns-then-eq
returns-then-eq c =
    let known = c.args.self.now.known.items in (
      c.known-item.result,
      among_at known c.loop-known.known-index c.known-item.result
          (subst (λ l. c.loop-known.known-index < length l) c.deref-known-items.ensures.value
          c.loop-known-test.true)
          (subst (λ l. c.known-item.result ≡ slice_index_or l c.loop-known.known-index
          c.known-item.result) c.deref-known-items.ensures.value c.known-item.is),
      (bytes_eq-Decides c.known-item.result.name c.args.name.now).0 (sym c.eq.ensures ∙ c.if-eq.true),
      refl,
    )
