-- What begins a group and what sends a packet of it answer a request together.
use Rattle.std.proofs.Common.{◌≡◌, length, ℕ, ◌<◌, List, Bool, arith, Some, None, refl, ap, ◌∙◌}
use Rattle.std.proofs.Common.{eq-eqb}
use Rattle.std.proofs.lemmas.Bool.{ne_eqb}
use Rattle.std.specs.Prelude.{◌==◌, if◌then◌else◌, IfSome}
use Rattle.mot_groups.specs.Group.{GroupFields, bytes_of_group}
use Rattle.mot_packets.specs.Packet.{read_packet}
use Rattle.mot_packets.specs.Written.{bytes_of_packet}
use Rattle.mot_numbers.proofs.Laws.{room_of-some}
use Rattle.mot_player.specs.declared.state.State.{State}
use Rattle.mot_player.specs.declared.groups.LastGroup.{LastGroup}
use Rattle.mot_player.specs.PlayerView.{kept_last, AreBodiesFor, PlayerView, place_of}
use Rattle.mot_player.specs.Laws.{IsPlace, IsStep}
use Rattle.mot_player.specs.Place.{Last, Place, Sent, UnderWay, first_sent, group_for, next_sent}
use Rattle.mot_player.specs.Place.{packet_sent, request, with_begun}
use Rattle.mot_player.specs.Inner.Ready.{HasBegun, IsFitted, IsReady, place_with}
use Rattle.mot_player.specs.State.{view_of}
use Rattle.mot_player.proofs.Plans.{is_playable}

-- what is sent next of the group that a state keeps
abbrev pub sent_from : State → List (List ℕ) → Sent
sent_from state bodies = packet_sent (place_with state bodies) state.group.items state.sent

-- the next packet of a group under way answers a request
pub answers-under_way : (state : State) (bodies : List (List ℕ)) (packet : List ℕ) (ends : Bool)
    (new : Place) →
    (state.sent ≡ 0 → ⊥) → packet ≡ bytes_of_packet (sent_from state bodies).packet →
    read_packet packet ≡ Some (sent_from state bodies).packet →
    ends ≡ (sent_from state bodies).ends_turn → new ≡ (sent_from state bodies).place →
    IsStep (place_with state bodies) packet ends new
unfolding request
answers-under_way state bodies packet ends new some b r e p =
    let u : UnderWay = record { group = state.group.items; sent = state.sent } in
    let under_way : (if state.sent == 0 then None else Some u) ≡ Some u =
    rw (ne_eqb state.sent 0 some) refl in
    record {
      sent = sent_from state bodies;
      asked = ap (next_sent (place_with state bodies)) under_way;
      bytes = b;
      reads = r;
      ends = e;
      place = p;
    }

-- the first packet of a group that was just begun answers a request
pub answers-begun : (old state : State) (bodies : List (List ℕ)) (packet : List ℕ) (ends : Bool)
    (new : Place) →
    old.sent ≡ 0 → state.sent ≡ 0 → HasBegun old state bodies →
    packet ≡ bytes_of_packet (sent_from state bodies).packet →
    read_packet packet ≡ Some (sent_from state bodies).packet →
    ends ≡ (sent_from state bodies).ends_turn → new ≡ (sent_from state bodies).place →
    IsStep (place_with old bodies) packet ends new
unfolding request
answers-begun old state bodies packet ends new none none_sent begun b r e p =
    let place : Place = place_with old bodies in
    let group : GroupFields = group_for place begun.segment in
    let first : Sent = packet_sent (with_begun place group begun.others) (bytes_of_group group) 0 in
    let same : sent_from state bodies ≡ first =
    ap (λ (x : Place). packet_sent x state.group.items state.sent) begun.place
    ∙ ap (λ (g : List ℕ). packet_sent (with_begun place group begun.others) g state.sent)
    begun.group
    ∙ ap (λ (n : ℕ). packet_sent (with_begun place group begun.others) (bytes_of_group group) n)
    none_sent in
    let under_way : (if old.sent == 0 then None
    else Some (record { group = old.group.items; sent = old.sent })) ≡ None =
    rw (eq-eqb old.sent 0 none) refl in
    record {
      sent = first;
      asked = ap (next_sent place) under_way ∙ ap (first_sent place) begun.next;
      bytes = b ∙ ap (λ (x : Sent). bytes_of_packet x.packet) same;
      reads = r ∙ ap (λ (x : Sent). Some x.packet) same;
      ends = e ∙ ap (λ (x : Sent). x.ends_turn) same;
      place = p ∙ ap (λ (x : Sent). x.place) same;
    }

-- from the places of a state that is fitted every group can be sent
index-fits : (last : LastGroup) → IfSome (kept_last last) (λ (l : Last). l.index < 16)
index-fits last = grind arith

-- of a group under way bytes are left
under_way-left : (state : State) (none : Bool) → (state.sent == 0) ≡ none →
    (0 < state.sent → state.sent < length state.group.items) →
    IfSome (if none then None else Some (record { group = state.group.items; sent = state.sent }))
    (λ (u : UnderWay). u.sent < length u.group)
under_way-left state none e left = grind arith

pub is_place : (state : State) (bodies : List (List ℕ)) → IsReady state
    → AreBodiesFor state.turn bodies →
    IsPlace (place_with state bodies)
is_place state bodies ready e =
    let f : IsFitted state = ready.fitted in
    record {
      under_way = under_way-left state (state.sent == 0) refl
          (λ some. omega (arith, ready.left some));
      room = room_of-some state.full_length;
      size = (omega (arith, f.size.0), f.size.1);
      directory = index-fits state.last_directory;
      body = index-fits state.last_body;
      playable = is_playable state.segment_size state.turn bodies f.size.0 f.plannable e;
    }

-- as a player of that standing sees it
pub place_is : (standing : PlayerView) (state : State) → view_of state ≡ standing → IsReady state →
    (bodies : List (List ℕ)) → AreBodiesFor standing.turn bodies
    → IsPlace (place_of standing bodies)
place_is standing state e f bodies b = grind (arith, is_place)
