-- The newest bodies of a turn, as they are queued.
use Rattle.std.specs.Prelude.{ℕ, ◌+◌, ◌-◌, Bool, ◌&&◌, nat_lt, if◌then◌else◌, List, [], ◌∷◌, map}
use Rattle.mot_player.specs.PlayerView.{BodyPlan}
use Rattle.mot_player.specs.declared.course.Waiting.{Waiting}

abbrev pub ids_of : List BodyPlan → List ℕ
ids_of plans = map (λ (b : BodyPlan). b.tid) plans

-- of bodies, of which the first is this entity, the first so many whose ids pass a test
abbrev pub first_from : (ℕ → Bool) → (most entity : ℕ) → List BodyPlan → List Waiting
first_from test most entity [] = []
first_from test most entity (b ∷ plans) =
    if test b.tid && nat_lt 0 most then
    record { entity = entity; segment = 0 } ∷ first_from test (most - 1) (entity + 1) plans
    else first_from test most (entity + 1) plans
