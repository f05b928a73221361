use Rattle.std.proofs.Common.{◌≡◌, ◌∙◌, ◌+◌, ap, List, subst, ℕ}
use Rattle.std.specs.Int.{div_ceil}
use Rattle.std.specs.List.{sum_by}
use Rattle.std.specs.Prelude.{length}
use Rattle.mot_journal.specs.Slot.{slot_count}
use Rattle.mot_numbers.specs.Geometry.{packet_room}
use Rattle.mot_numbers.specs.PacketLength.{room_of}
use Rattle.mot_numbers.specs.declared.geometry.Geometry.{Geometry}
use Rattle.mot_objects.specs.Stands.{AreBodiesOf, carousel_of}
use Rattle.mot_objects.specs.declared.carousel.Carousel.{Carousel}
use Rattle.mot_objects.specs.declared.object.Object.{Object}
use Rattle.mot_player.specs.Place.{directory_packets}
use Rattle.mot_player.specs.Turn.{turn_of_carousel}
use Rattle.mot_playout.specs.Runs.{place_in}
use Rattle.mot_export.specs.Inspecting.{rates_of, times_of, usual_pause, waits_of}
use Rattle.mot_export.specs.declared.inspection.Inspection.{Inspection}
use Rattle.mot_export.proofs.Inspected.{figures, same_size}
use Rattle.mot_export.proofs.inspection.inspection_of.Goals as goal

pub returns-clause-figures : goal.returns-clause-figures
returns-clause-figures g c = λ s agrees.
    let view = c.args.server.now.view in
    let k = c.carousel-carousel.result.now in
    let kept = c.carousel-carousel.ensures.value in
    let same = c.geometry-geometry.ensures.value in
    let size = c.size_of_segments-size.ensures ∙ ap (λ (g : Geometry). g.segment) same in
    let turn = same_size view s agrees c.in_ok-turn.turn k (room_of c.length_of_packets-length.result)
    c.size_of_segments-size.result kept
    (c.length_of_packets-length.ensures ∙ ap packet_room same) size c.in_ok-turn.ensures.counted in
    let told : Inspection = record {
      geometry = c.geometry-geometry.result;
      objects = c.len.result;
      bytes = c.used_bytes.result;
      gap = c.longest_gap.result;
      slots = c.slot_count.result;
      records = c.record_count.result;
      turn = c.in_ok-turn.turn;
      waits = c.waits_of.result;
      times = c.in_ok-turn_times.field-0;
    } in
    figures view s agrees c.args.rate (directory_packets (place_in c.args.server.now s)) told same
    (c.len.ensures ∙ c.carousel-carousel.result.now.objects.ok.0
    ∙ ap (λ (c : Carousel). length c.objects.items) kept)
    (c.used_bytes.ensures ∙ ap (λ (c : Carousel). sum_by (λ (o : Object). o.length) c.objects.items) kept)
    c.longest_gap.ensures
    (c.slot_count.ensures ∙ ap (λ l. slot_count l c.geometry-geometry.result) c.layout.ensures.value
    ∙ ap (slot_count view.journal.layout) same)
    c.record_count.ensures turn
    (c.waits_of.ensures ∙ ap (λ n. waits_of (usual_pause c.args.rate c.geometry-geometry.result.packet)
    (div_ceil (c.geometry-geometry.result.segment + 11) (packet_room c.geometry-geometry.result)) n
    c.in_ok-turn.turn.packets) (c.directory_packets-directory.ensures.value s)
    ∙ ap (λ (g : Geometry). waits_of (usual_pause c.args.rate g.packet)
    (div_ceil (g.segment + 11) (packet_room g)) (directory_packets (place_in c.args.server.now s))
    c.in_ok-turn.turn.packets) same)
    (subst (λ (k : Carousel). (b : List (List ℕ)) → AreBodiesOf k b
    → c.in_ok-turn_times.field-0.items ≡ times_of (rates_of c.args.rate) c.size_of_segments-size.result
    (turn_of_carousel (carousel_of k b) c.size_of_segments-size.result))
    kept c.in_ok-turn_times.ensures.times agrees.bodies agrees.are_bodies
    ∙ ap (λ n. times_of (rates_of c.args.rate) n
    (turn_of_carousel (carousel_of view.carousel agrees.bodies) n)) size)
