use Rattle.std.proofs.Common.{◌≡◌, ◌∙◌, ℕ, List, Some, ap, length, refl, sym}
use Rattle.std.proofs.lemmas.Option.{slice_get-map, slice_get_read}
use Rattle.std.specs.List.{slice_get}
use Rattle.std.specs.Option.{option_map}
use Rattle.mot_files.specs.declared.system.Stamp.{Stamp}
use Rattle.mot_shelf.specs.declared.seen.SeenFile.{SeenFile}
use Rattle.mot_shelf.proofs.seen.SeenFiles.has.Goals as goal

pub returns : goal.returns
returns c = λ is.
    let files = c.args.self.now.files.items in
    let file = c.in-Some-get.file.now in
    let number = c.in-Some.number.now in
    let named : SeenFile → List ℕ × Stamp = λ f. (f.name.items, f.stamp) in
    let at : slice_get files number ≡ Some file =
    ap (λ l. slice_get l number) (sym c.deref-2.ensures.value)
    ∙ slice_get_read c.deref-2.result.now (length c.deref-2.result.now) number file refl
    c.in-Some-get.ensures.lookup.3.0 c.in-Some-get.ensures.lookup.1 in (
      number,
      slice_get-map named files number ∙ ap (option_map named) at
          ∙ ap (λ n. Some (n, file.stamp)) (c.is_same.ensures.name is)
          ∙ ap (λ s. Some (c.args.name.now, s)) (c.is_same.ensures.stamp is),
    )
