-- What holds of every group and of every entity.
use Rattle.std.specs.Prelude.{◌≡◌, ℕ, ◌<◌, List, length, Some}
use Rattle.mot_groups.specs.Entity.{entity_of, own_segments, segments_of}
use Rattle.mot_groups.specs.Group.{GroupFields, IsGroup, Segment, bytes_of_group, content_of}
use Rattle.mot_groups.specs.Group.{read_group, segment_content}
use Rattle.mot_numbers.specs.Reading.{AreBytes}

-- each group that can be written reads back
abbrev pub GroupsReadBack : Type 0
GroupsReadBack =
    (group : GroupFields) → IsGroup group → read_group (bytes_of_group group) ≡ Some group

-- its content is its segment's, whatever its index
abbrev pub GroupsHaveTheirContent : Type 0
GroupsHaveTheirContent =
    (group : GroupFields) → content_of (bytes_of_group group) ≡ segment_content group.segment

-- only a group's own bytes read as it
abbrev pub OnlyOwnBytesRead : Type 0
OnlyOwnBytesRead =
    (bytes : List ℕ) (group : GroupFields) → AreBytes bytes → read_group bytes ≡ Some group →
    bytes ≡ bytes_of_group group

-- where the segments of a kind and id are, in order, those of an entity, they read as it, whatever
-- segments of others stand among them
abbrev pub EntitiesReadBack : ℕ → Type 0
EntitiesReadBack size =
    (kind tid : ℕ) (bytes : List ℕ) (segments : List Segment) → 0 < length bytes →
    own_segments kind tid segments ≡ segments_of kind tid size bytes →
    entity_of segments kind tid ≡ Some bytes
