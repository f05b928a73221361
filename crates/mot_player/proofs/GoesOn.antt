-- Further steps, behind others.
use Rattle.std.proofs.Common.{◌≡◌, List, [], ◌∷◌, ◌++◌, Option, Some, refl, sym, ap, ◌∙◌}
use Rattle.std.proofs.lemmas.Option.{some_pair_parts}
use Rattle.mot_player.specs.Laws.{StepsGoOn}
use Rattle.mot_player.specs.Place.{Place, Sent, Step, Request, NewTurn, Directory, Follow}
use Rattle.mot_player.specs.Place.{change_turn, hear_directory, follow, request, sent_by}
use Rattle.mot_player.proofs.Requests.{FirstRequest, first_request}

-- what is sent, and the place then
abbrev gives : List Sent → Place → Option (List Sent × Place)
gives sents place = Some (sents, place)

-- further steps go on where the steps before left off
pub steps-go_on : StepsGoOn
unfolding sent_by
steps-go_on [] more place mid new sents others h r =
    let parts = some_pair_parts [] sents place mid h in
    ap (λ (p : Place). sent_by p more) parts.1 ∙ r
    ∙ ap (λ (ss : List Sent). gives (ss ++ others) new) parts.0
steps-go_on (Request ∷ steps) more place mid new sents others h r =
    let q : FirstRequest place steps sents mid = first_request place steps sents mid h in
    rw (q.asked, steps-go_on steps more q.first.place mid new q.others others q.rest r)
    (ap (λ (ss : List Sent). gives (ss ++ others) new) (sym q.all))
steps-go_on (NewTurn turn ∷ steps) more place mid new sents others h r =
    steps-go_on steps more (change_turn turn place) mid new sents others h r
steps-go_on (Directory ∷ steps) more place mid new sents others h r =
    steps-go_on steps more (hear_directory place) mid new sents others h r
steps-go_on (Follow turn ∷ steps) more place mid new sents others h r =
    steps-go_on steps more (follow turn place) mid new sents others h r

-- one more request goes on where the steps before left off
pub requests-go_on : (place mid : Place) (steps : List Step) (sents : List Sent) (s : Sent) →
    sent_by place steps ≡ Some (sents, mid) → request mid ≡ Some s →
    sent_by place (steps ++ Request ∷ []) ≡ Some (sents ++ s ∷ [], s.place)
unfolding sent_by
requests-go_on place mid steps sents s h r =
    steps-go_on steps (Request ∷ []) place mid s.place sents (s ∷ []) h (rw r refl)
