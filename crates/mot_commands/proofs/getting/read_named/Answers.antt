use Rattle.std.proofs.Common.{◌≡◌, ◌∙◌, List, Some, ap, subst, sym}
use Rattle.std.proofs.lemmas.Result.{IfOk-weaker}
use Rattle.mot_commands.proofs.Named.{found_at}
use Rattle.mot_commands.proofs.getting.read_named.Goals as goal
use Rattle.mot_objects.specs.Carousel.{Carousel, Object}
use Rattle.mot_objects.specs.declared.carousel.Carousel as kept
use Rattle.mot_objects.specs.Stands.{index_of, object_of, objects_of}
use Rattle.mot_repository.specs.Repository.{object_body}
use Rattle.mot_update.specs.Updating.{found}

pub returns-in-Some-clause-body : goal.returns-in-Some-clause-body
returns-in-Some-clause-body g c =
    let view = c.args.repository.now.view in
    let name = c.args.name.now in
    let os = view.carousel.objects.items in
    let place = c.in-Some.place in
    let index : index_of name os ≡ Some place =
    sym (c.in-Some.ensures.place ∙ ap (λ (k : kept.Carousel). index_of c.in_ok-name.name k.objects.items)
    c.carousel.ensures.value ∙ ap (λ n. index_of n os)
    (c.in_ok-name.ensures.named.0 ∙ c.as_bytes.ensures.value)) in
    IfOk-weaker c.read_whole.result _ _ (λ body is s holds honest.
    let bodies = holds.agrees.bodies in
    let whole : s.carousel.objects ≡ objects_of os bodies =
    ap (λ (k : Carousel). k.objects) holds.agrees.carousel in
    let at = found_at name os bodies place holds.agrees.are_bodies index in (
      object_of at.0 (object_body s.carousel.objects place),
      subst (λ (l : List Object). found name l ≡ Some (object_of at.0 (object_body l place)))
          (sym whole) at.1,
      is s holds honest,
    )) c.read_whole.ensures.body
