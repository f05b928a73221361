use Rattle.std.proofs.Common.{◌≡◌, ◌∙◌, Some, ap, inl, inr, rules, subst}
use Rattle.mot_commands.specs.Asking.{base_name, put_at}
use Rattle.mot_commands.specs.Asking.IsUnput.{empty, unread}
use Rattle.mot_commands.proofs.asking.file_request.Goals as goal
use Rattle.mot_numbers.proofs.Laws.{same_error}
use Rattle.mot_objects.specs.Name.{IsName}
use Rattle.mot_objects.specs.Stands.{index_of}
use Rattle.mot_suffixes.specs.Types.{SuffixType, type_of_name}

pub returns : goal.returns
returns g c =
    let type = c.in-Some.file_type.now in
    let objects = c.args.carousel.now.objects.items in
    let body = c.in_ok-body.body in
    let name : c.base_name-name.result.now ≡ base_name c.args.path.now =
    c.base_name-name.ensures ∙ ap base_name c.as_bytes.ensures.value in
    let named = c.in-Ok.ensures.named.0 ∙ name in (
      body,
      type,
      c.in_ok-body.ensures.0,
      c.in_ok-body.ensures.1,
      subst IsName name c.in-Ok.ensures.named.1,
      subst (λ n. type_of_name c.args.types.now n ≡ Some type) name c.in-Some.ensures.found,
      c.put_at.ensures type (ap (λ (t : SuffixType). t.content) c.file_type.view_is) (search rules)
          ∙ ap (λ place. put_at place c.in-Ok.name type body) c.place_of-place.ensures.place
          ∙ ap (λ n. put_at (index_of n objects) n type body) named,
    )

pub returns-in_err-body : goal.returns-in_err-body
returns-in_err-body g c = rw (same_error c.from_residual.result c.in_err-body.field-0.0
    c.from_residual.ensures.1) (elim c.in_err-body.ensures [
      | inl is ↦ unread is.0 is.1 is.2
      | inr is ↦ empty is.0 is.1
    ])
