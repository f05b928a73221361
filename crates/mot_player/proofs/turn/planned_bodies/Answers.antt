use Rattle.std.proofs.Common.{◌≡◌, ◌+◌, ◌<◌, ◌∷◌, ◌++◌, [], ℕ, List, length, map, take, get_or, ap}
use Rattle.std.proofs.Common.{sym, ◌∙◌}
use Rattle.std.proofs.lemmas.List.{map_more, map_push}
use Rattle.mot_objects.specs.declared.object.Object.{Object}
use Rattle.mot_player.specs.declared.planned_body.PlannedBody.{PlannedBody}

-- where a value of the bodies so far is the objects', it is so with one body more
one_more : {V : Type 0} (of_body : PlannedBody → V) (of_object : Object → V)
    (old new : List PlannedBody) (b : PlannedBody) (objects : List Object) (k : ℕ) (o : Object)
    → new ≡ old ++ b ∷ [] → map of_body old ≡ map of_object (take k objects)
    → of_body b ≡ of_object o → o ≡ get_or objects k o → k < length objects
    → map of_body new ≡ map of_object (take (k + 1) objects)
one_more of_body of_object old new b objects k o is same value item lt =
    ap (map of_body) is ∙ map_push of_body old b ∙ ap (λ l. l ++ of_body b ∷ []) same
    ∙ ap (λ v. map of_object (take k objects) ++ v ∷ []) (value ∙ ap of_object item)
    ∙ sym (map_more of_object objects k o lt)
