use Rattle.std.proofs.Common.{◌≡◌, ◌∙◌, ◌<◌, ℕ, List, Some, false, ap, arith, refl, sym, subst}
use Rattle.std.proofs.Common.{Bool, Result, Ok, None, eq-eqb, true}
use Rattle.std.specs.Prelude.{◌==◌, IfSome, if◌then◌else◌}
use Rattle.mot_numbers.specs.declared.refusal.Refusal.{Refusal}
use Rattle.mot_numbers.proofs.Laws.{same_error}
use Rattle.mot_packets.specs.Packet.{read_packet}
use Rattle.mot_packets.specs.Written.{bytes_of_packet}
use Rattle.mot_player.specs.AnyBodies.{IsStepOfSome}
use Rattle.mot_player.specs.Turn.{ReadsBodies}
use Rattle.mot_player.specs.Laws.{IsStep, blank_bodies, bytes_due, bytes_left}
use Rattle.mot_player.specs.Inner.Ready.{HasTaken, place_with}
use Rattle.mot_player.specs.State.{view_of}
use Rattle.mot_player.specs.PlayerView.{AreBodiesFor, PlayerView, TurnPlan, place_of}
use Rattle.mot_player.specs.declared.player.Player.TheInside.{Inside}
use Rattle.mot_player.specs.declared.state.State.{State}
use Rattle.mot_player.proofs.Answered.{place_is, answers-under_way, answers-begun, sent_from}
use Rattle.mot_player.proofs.Nearer.{are-blank, left-less, nearer-begun, nearer-under_way}
use Rattle.mot_player.proofs.player.Player.next_into.Goals as goal
use Rattle.mot_player.proofs.player.Player.next_into.Goals.{then-self-eq0+in_ok-begin}
use Rattle.mot_player.proofs.player.Player.next_into.Goals.{else-self-eq0}

-- a call that gave a value
abbrev answered : Bool → Result Bool Refusal
answered ends_turn = Ok ends_turn

pub returns-clause-sent : goal.returns-clause-sent
returns-clause-sent g c = λ honest.
    let bodies : List (List ℕ) = g.B.Bodies.bodies c.args.bodies.now in
    let own : AreBodiesFor c.self.inside.state.turn bodies =
    subst (λ (t : TurnPlan). AreBodiesFor t bodies)
    (sym (ap (λ (s : PlayerView). s.turn) c.self.view_is)) c.requires in
    let answered : PlayerView
    → Type 0 = λ s. IsStep (place_of s bodies) c.send.new.packet.items
    c.send.result
    (place_with c.send.new.self bodies) in
    elim c.if-self-eq0.branch [
      | then-self-eq0+in_ok-begin w ↦ (
          let later : AreBodiesFor w.begin.new.self.turn bodies =
          subst (λ (t : TurnPlan). AreBodiesFor t bodies) (sym w.in_ok-begin.ensures.turn) own in
          let same : c.if-self-eq0.self-inside.state ≡ w.begin.new.self =
          ap (λ (i : Inside). i.state) w.self-inside-is in
          let bytes = subst (λ (s : State).
          c.send.new.packet.items ≡ bytes_of_packet (sent_from s bodies).packet) same
          (c.send.ensures.bytes bodies) in
          let packet = subst (λ (s : State).
          read_packet c.send.new.packet.items ≡ Some (sent_from s bodies).packet) same
          (c.send.ensures.packet bodies) in
          let ends = subst (λ (s : State). c.send.result ≡ (sent_from s bodies).ends_turn)
          same
          (c.send.ensures.ends_turn bodies
          (subst (λ (s : State). AreBodiesFor s.turn bodies) (sym same) later)) in
          let place = subst (λ (s : State).
          place_with c.send.new.self bodies ≡ (sent_from s bodies).place) same
          (c.send.ensures.place bodies) in
          subst answered c.self.view_is
          (answers-begun c.self.inside.state w.begin.new.self bodies c.send.new.packet.items
          c.send.result (place_with c.send.new.self bodies) w.if-self-eq0.true
          w.in_ok-begin.ensures.sent
          (w.in_ok-begin.ensures.begun (subst g.B.Bodies.IsHonest w.bodies-is honest)) bytes packet
          ends place))
      | else-self-eq0 w ↦ (
          let same : c.if-self-eq0.self-inside.state ≡ c.self.inside.state =
          ap (λ (i : Inside). i.state) w.self-inside-is in
          let bytes = subst (λ (s : State).
          c.send.new.packet.items ≡ bytes_of_packet (sent_from s bodies).packet) same
          (c.send.ensures.bytes bodies) in
          let packet = subst (λ (s : State).
          read_packet c.send.new.packet.items ≡ Some (sent_from s bodies).packet) same
          (c.send.ensures.packet bodies) in
          let ends = subst (λ (s : State). c.send.result ≡ (sent_from s bodies).ends_turn)
          same
          (c.send.ensures.ends_turn bodies
          (subst (λ (s : State). AreBodiesFor s.turn bodies) (sym same) own)) in
          let place = subst (λ (s : State).
          place_with c.send.new.self bodies ≡ (sent_from s bodies).place) same
          (c.send.ensures.place bodies) in
          subst answered c.self.view_is
          (answers-under_way c.self.inside.state bodies c.send.new.packet.items
          c.send.result (place_with c.send.new.self bodies) w.if-self-eq0.false
          bytes packet ends place))
    ]

-- what holds anyhow holds where a group is under way
under-if : {U P : Type 0} (none : Bool) (u : U) → P → IfSome (if none then None else Some u) (λ (v : U). P)
under-if true u p = tt
under-if false u p = p

pub returns-clause-unread : goal.returns-clause-unread
returns-clause-unread g c = rw (← c.self.view_is) (
    elim c.if-self-eq0.branch [
      | then-self-eq0+in_ok-begin w ↦ (
          rw (eq-eqb c.self.inside.state.sent 0 w.if-self-eq0.true) tt)
      | else-self-eq0 w ↦ (under-if (c.self.inside.state.sent == 0) _ (w.bodies-is, refl))
    ])

pub returns-in_err-begin-clause-unread : goal.returns-in_err-begin-clause-unread
returns-in_err-begin-clause-unread g c = rw (
  ← c.self.view_is,
  eq-eqb c.self.inside.state.sent 0 c.if-self-eq0.true,
) tt

pub returns-clause-place : goal.returns-clause-place
returns-clause-place g c =
    place_is c.args.self.now c.self.inside.state c.self.view_is c.self.invariant

pub returns-in_err-begin-clause-place : goal.returns-in_err-begin-clause-place
returns-in_err-begin-clause-place g c =
    place_is c.args.self.now c.self.inside.state c.self.view_is c.self.invariant

pub returns-clause-nearer : goal.returns-clause-nearer
returns-clause-nearer g c = λ goes_on.
    let old : State = c.self.inside.state in
    let mid : State = c.if-self-eq0.self-inside.state in
    let new : State = c.send.new.self in
    let left : (s : PlayerView) → Type 0 = λ s. bytes_left (view_of new) < bytes_left s in
    let ends = c.send.ensures.ends_turn in
    let place = c.send.ensures.place in
    elim c.if-self-eq0.branch [
      | then-self-eq0+in_ok-begin w ↦ (
          let same : mid ≡ w.begin.new.self = ap (λ (i : Inside). i.state) w.self-inside-is in
          let kept = ap (λ (s : State). s.turn) same ∙ w.in_ok-begin.ensures.turn in
          let none = ap (λ (s : State). s.sent) same ∙ w.in_ok-begin.ensures.sent in
          subst left c.self.view_is (left-less old mid new c.send.result kept
          c.send.ensures.turn ends place
          (λ bodies are. nearer-begun old mid bodies w.if-self-eq0.true none
          (subst (λ (s : State). HasTaken old s bodies) (sym same)
          (w.in_ok-begin.ensures.taken bodies are))) goes_on))
      | else-self-eq0 w ↦ (
          let same : mid ≡ old = ap (λ (i : Inside). i.state) w.self-inside-is in
          let some : 0 < old.sent = omega (arith, w.if-self-eq0.false) in
          let kept = ap (λ (s : State). s.turn) same in
          subst left c.self.view_is (left-less old mid new c.send.result kept
          c.send.ensures.turn ends place
          (λ bodies are. subst (λ (s : State). (sent_from s bodies).ends_turn ≡ false
          → bytes_due (sent_from s bodies).place < bytes_due (place_with old bodies)) (sym same)
          (nearer-under_way old bodies w.if-self-eq0.false (c.self.invariant.left some))) goes_on))
    ]

pub returns-clause-sent_of_some : goal.returns-clause-sent_of_some
returns-clause-sent_of_some g c =
    let old : State = c.self.inside.state in
    let new : State = c.send.new.self in
    let packet : List ℕ = c.send.new.packet.items in
    let answered : PlayerView → Type 0 = λ s.
    IsStepOfSome s packet c.send.result (view_of new) in
    elim c.if-self-eq0.branch [
      | then-self-eq0+in_ok-begin w ↦ (
          let mid : State = w.begin.new.self in
          let some = w.in_ok-begin.ensures.of_some in
          let bodies : List (List ℕ) = some.0 in
          let same : c.if-self-eq0.self-inside.state ≡ mid =
          ap (λ (i : Inside). i.state) w.self-inside-is in
          let are : AreBodiesFor mid.turn bodies =
          subst (λ (t : TurnPlan). AreBodiesFor t bodies) (sym w.in_ok-begin.ensures.turn) some.1 in
          let bytes = subst (λ (s : State). packet ≡ bytes_of_packet (sent_from s bodies).packet)
          same
          (c.send.ensures.bytes bodies) in
          let reads = subst (λ (s : State). read_packet packet ≡ Some (sent_from s bodies).packet)
          same
          (c.send.ensures.packet bodies) in
          let ends = subst (λ (s : State). c.send.result ≡ (sent_from s bodies).ends_turn)
          same
          (c.send.ensures.ends_turn bodies
          (subst (λ (s : State). AreBodiesFor s.turn bodies) (sym same) are)) in
          let place = subst (λ (s : State). place_with new bodies ≡ (sent_from s bodies).place) same
          (c.send.ensures.place bodies) in
          subst answered c.self.view_is (record {
            bodies = bodies;
            sized = some.1;
            step = answers-begun old mid bodies packet c.send.result
                (place_with new bodies)
                w.if-self-eq0.true w.in_ok-begin.ensures.sent some.2 bytes reads ends place;
          }))
      | else-self-eq0 w ↦ (
          let bodies : List (List ℕ) = blank_bodies old.turn in
          let are : AreBodiesFor old.turn bodies = are-blank old.turn in
          let same : c.if-self-eq0.self-inside.state ≡ old =
          ap (λ (i : Inside). i.state) w.self-inside-is in
          let bytes = subst (λ (s : State). packet ≡ bytes_of_packet (sent_from s bodies).packet)
          same
          (c.send.ensures.bytes bodies) in
          let reads = subst (λ (s : State). read_packet packet ≡ Some (sent_from s bodies).packet)
          same
          (c.send.ensures.packet bodies) in
          let ends = subst (λ (s : State). c.send.result ≡ (sent_from s bodies).ends_turn)
          same
          (c.send.ensures.ends_turn bodies
          (subst (λ (s : State). AreBodiesFor s.turn bodies) (sym same) are)) in
          let place = subst (λ (s : State). place_with new bodies ≡ (sent_from s bodies).place) same
          (c.send.ensures.place bodies) in
          subst answered c.self.view_is (record {
            bodies = bodies;
            sized = are;
            step = answers-under_way old bodies packet c.send.result
                (place_with new bodies)
                w.if-self-eq0.false bytes reads ends place;
          }))
    ]

pub returns-in_err-begin-clause-sent : goal.returns-in_err-begin-clause-sent
returns-in_err-begin-clause-sent g c = λ honest.
    rw (same_error c.from_residual.result c.in_err-begin.field-0.0 c.from_residual.ensures.1) tt

pub returns-in_err-begin-clause-sent_of_some : goal.returns-in_err-begin-clause-sent_of_some
returns-in_err-begin-clause-sent_of_some g c =
    rw (same_error c.from_residual.result c.in_err-begin.field-0.0 c.from_residual.ensures.1) tt

pub returns-in_err-begin-clause-nearer : goal.returns-in_err-begin-clause-nearer
returns-in_err-begin-clause-nearer g c =
    rw (same_error c.from_residual.result c.in_err-begin.field-0.0 c.from_residual.ensures.1) tt

pub returns-in_err-begin-clause-turn : goal.returns-in_err-begin-clause-turn
returns-in_err-begin-clause-turn g c = rw (← c.self.view_is) c.in_err-begin.ensures.turn

pub returns-in_err-begin-clause-size : goal.returns-in_err-begin-clause-size
returns-in_err-begin-clause-size g c = rw (← c.self.view_is) c.in_err-begin.ensures.size

pub returns-in_err-begin-clause-stays : goal.returns-in_err-begin-clause-stays
returns-in_err-begin-clause-stays g c = rw (
  ← c.self.view_is,
  same_error c.from_residual.result c.in_err-begin.field-0.0 c.from_residual.ensures.1,
) c.in_err-begin.ensures.stays

pub returns-in_err-begin-clause-reads : goal.returns-in_err-begin-clause-reads
returns-in_err-begin-clause-reads g c =
    let begun = c.in_err-begin.ensures.reads in
    rw (same_error c.from_residual.result c.in_err-begin.field-0.0 c.from_residual.ensures.1) (record {
      lengths = begun.lengths;
      unchanged = begun.unchanged;
      was_honest = begun.was_honest;
      only_read = begun.only_read;
      failed = begun.failed;
      no_fault = tt;
      refused = begun.refused;
    })

pub returns-clause-turn : goal.returns-clause-turn
returns-clause-turn g c = rw (← c.self.view_is) (
    let same : c.if-self-eq0.self-inside.state.turn ≡ c.self.inside.state.turn =
    elim c.if-self-eq0.branch [
      | then-self-eq0+in_ok-begin w ↦ (
          ap (λ (i : Inside). i.state.turn) w.self-inside-is ∙ w.in_ok-begin.ensures.turn)
      | else-self-eq0 w ↦ (ap (λ (i : Inside). i.state.turn) w.self-inside-is)
    ] in
    c.send.ensures.turn ∙ same)

pub returns-clause-size : goal.returns-clause-size
returns-clause-size g c = rw (← c.self.view_is) (
    let same : c.if-self-eq0.self-inside.state.segment_size ≡ c.self.inside.state.segment_size =
    elim c.if-self-eq0.branch [
      | then-self-eq0+in_ok-begin w ↦ (
          ap (λ (i : Inside). i.state.segment_size) w.self-inside-is ∙ w.in_ok-begin.ensures.size)
      | else-self-eq0 w ↦ (ap (λ (i : Inside). i.state.segment_size) w.self-inside-is)
    ] in
    c.send.ensures.size ∙ same)

pub returns-clause-reads : goal.returns-clause-reads
returns-clause-reads g c =
    elim c.if-self-eq0.branch [
      | then-self-eq0+in_ok-begin w ↦ (
          let begun = w.in_ok-begin.ensures.reads in
          subst (λ b. ReadsBodies g.B.Bodies.bodies g.B.Bodies.IsHonest g.B.Bodies.failures
          g.B.Bodies.HasOnlyRead c.args.bodies.now b (answered c.send.result)) (sym w.bodies-is)
          (record {
            lengths = begun.lengths;
            unchanged = begun.unchanged;
            was_honest = begun.was_honest;
            only_read = begun.only_read;
            failed = tt;
            no_fault = begun.no_fault;
            refused = tt;
          }))
      | else-self-eq0 w ↦ (
          subst (λ b. ReadsBodies g.B.Bodies.bodies g.B.Bodies.IsHonest g.B.Bodies.failures
          g.B.Bodies.HasOnlyRead c.args.bodies.now b (answered c.send.result)) (sym w.bodies-is)
          (record {
            lengths = refl;
            unchanged = λ honest. refl;
            was_honest = λ honest. honest;
            only_read = g.B.Bodies.unread c.args.bodies.now;
            failed = tt;
            no_fault = refl;
            refused = tt;
          }))
    ]
