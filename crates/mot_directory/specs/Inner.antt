-- Headers and the directory of a carousel whose bodies stand beside it.
use Rattle.std.specs.Prelude.{ℕ, map}
use Rattle.mot_directory.specs.Entries.{parameters_with}
use Rattle.mot_directory.specs.Header.{HeaderFields}
use Rattle.mot_directory.specs.Directory.{Entry, DirectoryFields}
use Rattle.mot_objects.specs.declared.object.Object.{Object}
use Rattle.mot_objects.specs.declared.carousel.Carousel.{Carousel}

-- an object's header, which takes of the body its length alone
abbrev pub header_beside : Object → HeaderFields
header_beside o = record {
  body_size = o.length;
  content = o.content;
  parameters = parameters_with o.name o.mime o.version;
}

abbrev pub entry_beside : Object → Entry
entry_beside o = record { tid = o.tid; header = header_beside o }

abbrev pub directory_beside : Carousel → ℕ → DirectoryFields
directory_beside c segment_size = record {
  period = c.period;
  segment_size = segment_size;
  entries = map entry_beside c.objects.items;
}
