use Rattle.std.proofs.Common.{◌≡◌, ◌∙◌, ◌++◌, ap, length, ℕ}
use Rattle.std.proofs.lemmas.Result.{IfOk-weaker}
use Rattle.std.specs.List.{flat_map}
use Rattle.mot_commands.specs.Inner.Shown.{object_json_beside}
use Rattle.mot_commands.specs.Json.{numbers_json}
use Rattle.mot_commands.proofs.shown.carousel_json.Goals as goal

-- numbers that are the same make the same line
same_numbers : (p d c n p' d' c' n' : ℕ) → p ≡ p' → d ≡ d' → c ≡ c' → n ≡ n'
    → numbers_json p d c n ≡ numbers_json p' d' c' n'
same_numbers p d c n p' d' c' n' ps ds cs ns = cc

pub returns : goal.returns
returns c =
    let k = c.args.carousel.now in
    let numbers = numbers_json k.period k.directory k.cursor (length k.objects.items) in
    let first : c.in_ok-text.text.items ≡ numbers =
    c.in_ok-text.ensures
    ∙ ap (λ l. l ++ numbers_json c.from.result c.from-2.result c.from-3.result c.len.result)
    c.new.ensures.items
    ∙ same_numbers _ _ _ _ k.period k.directory k.cursor (length k.objects.items)
    (c.from.ensures ∙ c.get.ensures.value) (c.from-2.ensures ∙ c.get-directory.ensures.value)
    (c.from-3.ensures ∙ c.get-2.ensures.value) (c.len.ensures ∙ k.objects.ok.0) in
    IfOk-weaker c.add_objects.result _ _ (λ text is. is
    ∙ ap (λ l. l ++ flat_map object_json_beside c.deref.result.now) first
    ∙ ap (λ os. numbers ++ flat_map object_json_beside os) c.deref.ensures.value)
    c.add_objects.ensures
