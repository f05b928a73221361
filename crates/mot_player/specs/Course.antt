-- The course of a turn: what waits of it.
use Rattle.std.specs.Prelude.{ℕ, zero, suc, List, [], ◌∷◌, ◌++◌, drop, map, flat_map, Option, Some}
use Rattle.std.specs.Prelude.{None, slice_index_or}
use Rattle.mot_groups.specs.Entity.{segments_of}
use Rattle.mot_groups.specs.Group.{Segment}
use Rattle.mot_player.specs.Turn.{Turn}
use Rattle.mot_player.specs.declared.course.Course.{Course}
use Rattle.mot_player.specs.declared.course.Waiting.{Waiting}

-- What waits of a turn, in this order: the directory from a segment on, the queue, and the bodies
-- from a segment of one on, of which the first is number 1.
pub record CourseView : Type 0 where
  pub directory : Option ℕ
  pub queue : List Waiting
  pub entity : ℕ
  pub segment : ℕ

abbrev pub course_of : Course → CourseView
course_of c = record {
  directory = c.directory;
  queue = drop c.at c.queue.items;
  entity = c.entity;
  segment = c.segment;
}

-- an entity of a turn: the type of its groups, its transport id and its bytes
pub record Entity : Type 0 where
  pub kind : ℕ
  pub tid : ℕ
  pub bytes : List ℕ

-- the entities of a turn: the directory, and then the bodies
abbrev pub entities_of : Turn → List Entity
entities_of turn =
    record { kind = 6; tid = turn.tid; bytes = turn.directory }
    ∷ map (λ (b : ℕ × List ℕ). record { kind = 4; tid = b.0; bytes = b.1 }) turn.bodies

abbrev pub segments_in : ℕ → Entity → List Segment
segments_in size e = segments_of e.kind e.tid size e.bytes

-- the segments of entities, from a segment of one of them on
abbrev pub segments_from : ℕ → List Entity → ℕ → ℕ → List Segment
segments_from size [] entity segment = []
segments_from size (e ∷ entities) zero segment =
    drop segment (segments_in size e) ++ flat_map (segments_in size) entities
segments_from size (e ∷ entities) (suc k) segment = segments_from size entities k segment

-- an entity by its number
abbrev pub entity_in : List Entity → ℕ → Entity
entity_in entities k = slice_index_or entities k (record { kind = 4; tid = 0; bytes = [] })

-- the segments of a directory that comes next, and those of a queue
abbrev pub directory_from : ℕ → Turn → Option ℕ → List Segment
directory_from size turn None = []
directory_from size turn (Some s) = drop s (segments_of 6 turn.tid size turn.directory)

abbrev pub queued : ℕ → List Entity → List Waiting → List Segment
queued size entities [] = []
queued size entities (w ∷ queue) =
    drop w.segment (segments_in size (entity_in entities w.entity)) ++ queued size entities queue

-- what waits of a turn on this course
abbrev pub waiting_of : ℕ → Turn → CourseView → List Segment
waiting_of size turn c =
    directory_from size turn c.directory ++ queued size (entities_of turn) c.queue
    ++ segments_from size (entities_of turn) c.entity c.segment
