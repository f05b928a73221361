use Rattle.std.proofs.Common.{◌≡◌, ◌∙◌, ◌+◌, ◌++◌, ◌<◌, ◌∷◌, ℕ, List, [], ap, append-nil, append_assoc}
use Rattle.std.proofs.Common.{get_or, length, sym, take}
use Rattle.std.proofs.lemmas.List.{take_more}
use Rattle.std.proofs.lemmas.List.Concat.{flat_map-append}
use Rattle.std.specs.List.{flat_map}
use Rattle.mot_commands.specs.Inner.Shown.{object_json_beside}
use Rattle.mot_objects.specs.declared.object.Object.{Object}
use Rattle.mot_commands.proofs.shown.add_objects.Goals as goal

-- a text with one more line
one_more : (text now new : List ℕ) (os : List Object) (i : ℕ) (o : Object) → i < length os
    → o ≡ get_or os i o → now ≡ text ++ flat_map object_json_beside (take i os)
    → new ≡ now ++ object_json_beside o
    → new ≡ text ++ flat_map object_json_beside (take (i + 1) os)
one_more text now new os i o lt is was one =
    let before = flat_map object_json_beside (take i os) in
    one ∙ ap (λ l. l ++ object_json_beside o) was
    ∙ append_assoc text before (object_json_beside o)
    ∙ ap (λ x. text ++ (before ++ object_json_beside x)) is
    ∙ ap (λ l. text ++ (before ++ l)) (sym (append-nil (object_json_beside (get_or os i o))))
    ∙ ap (λ l. text ++ l) (sym (flat_map-append object_json_beside (take i os) (get_or os i o ∷ [])))
    ∙ ap (λ l. text ++ flat_map object_json_beside l) (sym (take_more os i o lt))

pub loop-object-preserved : goal.loop-object-preserved
loop-object-preserved c = record {
  lines = one_more c.args.text.items c.loop-object.text.items c.in_ok-text.text.items c.args.objects.now
      c.loop-object.object-index c.object-item.result c.loop-object-test.true c.object-item.is
      c.loop-object.invariant.lines c.in_ok-text.ensures;
}
