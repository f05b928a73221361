-- The entities of a turn, by their number, and how far a turn reaches.
use Rattle.std.specs.Prelude.{◌≡◌, ◌⊎◌, ℕ, ◌+◌, ◌*◌, ◌<◌, ◌≤◌, ◌==◌, if◌then◌else◌, List, length}
use Rattle.std.specs.Prelude.{map, ◌-◌, slice_index, IfSome}
use Rattle.std.specs.List.{AllByRecursion}
use Rattle.mot_directory.specs.declared.directory.TheConstants.{MAX_DIRECTORY}
use Rattle.mot_numbers.specs.declared.geometry.TheConstants.{MAX_OBJECTS}
use Rattle.mot_objects.specs.declared.body.TheConstants.{MAX_BODY}
use Rattle.mot_player.specs.Turn.{body_at}
use Rattle.mot_player.specs.Course.{CourseView}
use Rattle.mot_player.specs.PlayerView.{BodyPlan, TurnPlan}
use Rattle.mot_player.specs.declared.course.Waiting.{Waiting}

-- a turn of a carousel within its limits: how long its entities are, and how many
pub record IsPlannable (plan : TurnPlan) : Type 0 where
  pub some : 0 < length plan.directory
  pub directory : length plan.directory ≤ MAX_DIRECTORY
  pub bodies : AllByRecursion (λ (b : BodyPlan). (1 ≤ b.length) × (b.length ≤ MAX_BODY)) plan.bodies
  pub few : length plan.bodies ≤ MAX_OBJECTS

-- the transport id of an entity of a turn, and how many bytes it has
abbrev pub entity_tid : TurnPlan → ℕ → ℕ
entity_tid plan entity =
    if entity == 0 then plan.tid
    else slice_index (map (λ (b : BodyPlan). b.tid) plan.bodies) (entity - 1)

abbrev pub entity_length : TurnPlan → ℕ → ℕ
entity_length plan entity =
    if entity == 0 then length plan.directory
    else slice_index (map (λ (b : BodyPlan). b.length) plan.bodies) (entity - 1)

-- its bytes, with the bodies
abbrev pub entity_bytes : TurnPlan → List (List ℕ) → ℕ → List ℕ
entity_bytes plan bodies entity =
    if entity == 0 then plan.directory else body_at bodies (entity - 1)

-- the next segment is one of the turn's, or nothing waits
abbrev pub IsWithinTurn : TurnPlan → ℕ → ℕ → ℕ → Type 0
IsWithinTurn plan size entity segment =
    (entity < length plan.bodies + 1) × (segment * size < entity_length plan entity)
    ⊎ (entity ≡ length plan.bodies + 1) × (segment ≡ 0)

-- a segment of one of the turn's entities
abbrev pub IsInside : TurnPlan → ℕ → Waiting → Type 0
IsInside plan size w =
    (w.entity < length plan.bodies + 1) × (w.segment * size < entity_length plan w.entity)

-- what waits are segments of the turn, and only the directory's own place is for the directory
pub record IsOnCourse (plan : TurnPlan) (size : ℕ) (c : CourseView) : Type 0 where
  pub directory : IfSome c.directory (λ (s : ℕ). s * size < length plan.directory)
  pub queue : AllByRecursion (λ (w : Waiting). (0 < w.entity) × IsInside plan size w) c.queue
  pub body : 0 < c.entity
  pub within : IsWithinTurn plan size c.entity c.segment
