use Rattle.std.proofs.Common.{◌≡◌, ℕ, List, ◌∙◌, sym, ap, subst}
use Rattle.std.proofs.lemmas.Result.{err_from_is_err_and}
use Rattle.mot_numbers.specs.Geometry.{is_valid, packet_room}
use Rattle.mot_numbers.proofs.Laws.{valid_is}
use Rattle.mot_numbers.specs.PacketLength.{room_of}
use Rattle.mot_numbers.specs.declared.geometry.Geometry.{Geometry}
use Rattle.mot_objects.specs.Stands.{AreBodiesOf, carousel_of}
use Rattle.mot_objects.specs.declared.carousel.Carousel.{Carousel}
use Rattle.mot_player.specs.Place.{opened_place}
use Rattle.mot_player.specs.PlayerView.{AreBodiesFor, PlayerView, place_of, turn_with}
use Rattle.mot_player.specs.Turn.{turn_of_carousel}
use Rattle.mot_playout.specs.Inner.{PlaysCarousel}
use Rattle.mot_playout.proofs.Turns.{if_ok_both, opened_at, plays_of, plays_same}
use Rattle.mot_playout.proofs.playing.player_of.Goals as goal

pub returns-clause-plays : goal.returns-clause-plays
returns-clause-plays g c =
    let view = c.args.repository.now.view in
    let plan = c.in_ok-turn.turn in
    let size = c.size_of_segments-size.result in
    let is = c.in_ok-turn.ensures in
    if_ok_both c.new.result (λ (p : PlayerView). p.turn ≡ plan)
    (λ (p : PlayerView). p.segment_size ≡ size)
    (λ (p : PlayerView). PlaysCarousel view.carousel view.journal.geometry.segment p)
    (λ (p : PlayerView) same sized.
    plays_same c.carousel.result.now view.carousel size view.journal.geometry.segment p
    c.carousel.ensures.value
    (c.size_of_segments-size.ensures
    ∙ ap (λ (k : Geometry). k.segment) c.geometry-geometry.ensures.value)
    (plays_of c.carousel.result.now size plan p same sized is.bodies is.exact is.turn))
    c.new.ensures.turn c.new.ensures.size

pub returns-clause-opened : goal.returns-clause-opened
returns-clause-opened g c =
    let view = c.args.repository.now.view in
    let h = view.journal.geometry in
    let plan = c.in_ok-turn.turn in
    let size = c.size_of_segments-size.result in
    let is = c.in_ok-turn.ensures in
    let address = c.address_of_packets-address.result in
    let room = room_of c.length_of_packets-length.result in
    if_ok_both c.new.result (λ (p : PlayerView). p.turn ≡ plan)
    (λ (p : PlayerView). (bodies : List (List ℕ)) → AreBodiesFor plan bodies
    → place_of p bodies ≡ opened_place address room size (turn_with plan bodies))
    (λ (p : PlayerView). (bodies : List (List ℕ)) → AreBodiesOf view.carousel bodies
    → place_of p bodies ≡ opened_place h.address (packet_room h) h.segment
    (turn_of_carousel (carousel_of view.carousel bodies) h.segment))
    (λ (p : PlayerView) same opened. λ bodies are.
    let are' : AreBodiesOf c.carousel.result.now bodies =
    subst (λ (k : Carousel). AreBodiesOf k bodies) (sym c.carousel.ensures.value) are in
    opened_at c.geometry-geometry.result h c.carousel.result.now view.carousel plan p bodies address
    room size
    c.geometry-geometry.ensures.value c.carousel.ensures.value c.address_of_packets-address.ensures
    c.length_of_packets-length.ensures
    c.size_of_segments-size.ensures (opened bodies (is.bodies bodies are')) (is.exact bodies are'))
    c.new.ensures.turn c.new.ensures.opened

pub returns-in_err-turn-clause-plays : goal.returns-in_err-turn-clause-plays
returns-in_err-turn-clause-plays g c =
    let p = err_from_is_err_and c.from_residual.result c.from_residual.ensures.1 in
    rw p.1 tt

pub returns-in_err-turn-clause-opened : goal.returns-in_err-turn-clause-opened
returns-in_err-turn-clause-opened g c =
    let p = err_from_is_err_and c.from_residual.result c.from_residual.ensures.1 in
    rw p.1 tt

pub returns-in_err-turn-clause-refused : goal.returns-in_err-turn-clause-refused
returns-in_err-turn-clause-refused g c =
    let p = err_from_is_err_and c.from_residual.result c.from_residual.ensures.1 in
    rw (p.1, p.2) c.in_err-turn.ensures.refused

pub returns-clause-refused : goal.returns-clause-refused
returns-clause-refused g c = c.new.ensures.refused

pub of-requires : goal.of-requires
of-requires g c = tt

pub new-requires : goal.new-requires
new-requires g c = tt

pub geometry-geometry-requires : goal.geometry-geometry-requires
geometry-geometry-requires g c = λ κs in_lives a is. in_lives a is

pub size_of_segments-size-requires : goal.size_of_segments-size-requires
size_of_segments-size-requires g c =
    valid_is c.geometry-geometry.result
    (ap is_valid c.geometry-geometry.ensures.value ∙ c.geometry-geometry.ensures.valid)

pub length_of_packets-length-requires : goal.length_of_packets-length-requires
length_of_packets-length-requires g c =
    valid_is c.geometry-geometry.result
    (ap is_valid c.geometry-geometry.ensures.value ∙ c.geometry-geometry.ensures.valid)

pub address_of_packets-address-requires : goal.address_of_packets-address-requires
address_of_packets-address-requires g c =
    valid_is c.geometry-geometry.result
    (ap is_valid c.geometry-geometry.ensures.value ∙ c.geometry-geometry.ensures.valid)

pub carousel-requires : goal.carousel-requires
carousel-requires g c = λ κs in_lives a is. in_lives a is
