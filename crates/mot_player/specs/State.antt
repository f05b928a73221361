-- What the state of a player stands for.
use Rattle.std.specs.Prelude.{◌==◌, if◌then◌else◌, Some, None}
use Rattle.mot_numbers.specs.PacketLength.{room_of}
use Rattle.mot_player.specs.Course.{course_of}
use Rattle.mot_player.specs.declared.state.State.{State}
use Rattle.mot_player.specs.PlayerView.{kept_last, PlayerView}

abbrev pub view_of : State → PlayerView
view_of p = record {
  address = p.address;
  room = room_of p.full_length;
  segment_size = p.segment_size;
  under_way = if p.sent == 0 then None else Some (record { group = p.group.items; sent = p.sent });
  turn = p.turn;
  course = course_of p.course;
  follows = p.follows;
  index = p.index;
  last_directory = kept_last p.last_directory;
  last_body = kept_last p.last_body;
}
