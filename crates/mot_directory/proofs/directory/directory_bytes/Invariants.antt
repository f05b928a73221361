use Rattle.std.proofs.Common.{◌≡◌, ◌+◌, ◌≤◌, ◌++◌, take, map, vec_len, vec_capacity, All}
use Rattle.std.specs.Prelude.{sum_by}
use Rattle.mot_directory.specs.Directory.{IsEntry, bytes_of_directory_header, bytes_of_entries}
use Rattle.mot_directory.specs.Directory.{directory_size, entry_size}
use Rattle.mot_directory.specs.Inner.{entry_beside}
use Rattle.mot_directory.proofs.directory.directory_bytes.Given as goal
use Rattle.mot_numbers.specs.Reading.{AreBytes}

abbrev pub invariant-loop-object : goal.invariant-loop-object
invariant-loop-object l =
    let done = take l.object-index l.carousel.objects.items in
    record {
      items : l.out.items
          ≡ bytes_of_directory_header l.size (vec_len l.carousel.objects) l.carousel.period
          l.fn.segment_size
          ++ bytes_of_entries (map entry_beside done);
      len : vec_len l.out ≡ 13 + sum_by entry_size done;
      room : directory_size l.carousel ≤ vec_capacity l.out;
      bytes : AreBytes l.out.items;
      fits : All IsEntry (map entry_beside done);
    }
