-- What is shown of a carousel whose bodies stand beside it.
use Rattle.std.specs.Prelude.{ℕ, Bool, List, ◌++◌, flat_map, length}
use Rattle.mot_cli.specs.declared.task.Form.{Form}
use Rattle.mot_cli.specs.declared.task.Form.TheVariants.{Json, Words}
use Rattle.mot_commands.specs.Json.{numbers_json, object_members, report_line}
use Rattle.mot_commands.specs.Report.{clean_line, layout_line}
use Rattle.mot_journal.specs.declared.layout.Layout.{Layout}
use Rattle.mot_lines.specs.Listing.{listing_text_beside}
use Rattle.mot_objects.specs.declared.carousel.Carousel.{Carousel}
use Rattle.mot_objects.specs.declared.object.Object.{Object}

abbrev pub object_json_beside : Object → List ℕ
object_json_beside o = object_members o.tid o.version o.content o.length o.name o.mime

abbrev pub carousel_json_beside : Carousel → List ℕ
carousel_json_beside c =
    numbers_json c.period c.directory c.cursor (length c.objects.items)
    ++ flat_map object_json_beside c.objects.items

abbrev pub report_json_beside : Carousel → Bool → Layout → List ℕ
report_json_beside c clean layout = carousel_json_beside c ++ report_line clean layout

-- in a form
abbrev pub shown_beside : Form → Carousel → List ℕ
shown_beside Words c = listing_text_beside c
shown_beside Json c = carousel_json_beside c

abbrev pub report_beside : Form → Carousel → Bool → Layout → List ℕ
report_beside Words c clean layout = listing_text_beside c ++ clean_line clean ++ layout_line layout
report_beside Json c clean layout = report_json_beside c clean layout
