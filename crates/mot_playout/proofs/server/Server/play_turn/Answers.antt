use Rattle.std.proofs.Common.{ℕ, Bool, inl, inr, suc, List, [], ◌∷◌, ◌++◌, length, length-append}
use Rattle.std.proofs.Common.{refl, sym, ap, ◌≡◌, ◌∙◌, subst, arith}
use Rattle.std.proofs.lemmas.Result.{err_from_is_err_and}
use Rattle.disk_model.proofs.Laws.{reads_none, reads_on}
use Rattle.mot_journal.specs.Image.{Standing}
use Rattle.mot_numbers.proofs.Laws.{same_error}
use Rattle.mot_numbers.specs.declared.refusal.Refusal.TheVariants.{OutOfMemory}
use Rattle.mot_player.specs.AnyBodies.{IsStepOfSome, PlaysOn, PlaysToTheEnd}
use Rattle.mot_player.specs.PlayerView as player
use Rattle.mot_repository.specs.Repository.{HasStanding, Holds}
use Rattle.mot_repository.proofs.Laws.{read_standing}
use Rattle.mot_playout.specs.Playing.{IsGoing, HasPlayed, HasPlayedTurn, bytes_of_packets}
use Rattle.mot_playout.specs.Playing.IsTurnRefusal.{halted, no_memory}
use Rattle.mot_playout.specs.Runs.{bodies_of, place_in}
use Rattle.mot_playout.proofs.Going.{HasPlayed-more, HasPlayedTurn-ended, IsGoing-more}
use Rattle.mot_playout.proofs.Going.{IsGoing-none, MatchResult-failed, OnErr-always, PlaysOn-more}
use Rattle.mot_playout.proofs.Going.{bytes_of_packets-more, plays_one_more, HasPlayed-none}
use Rattle.mot_playout.proofs.Read.{standing_still}
use Rattle.mot_playout.proofs.ReadRefusals.{turn_of_read, fault_of_read}
use Rattle.mot_playout.proofs.Whole.{turn_reads}
use Rattle.mot_playout.proofs.server.Server.play_turn.Given as given
use Rattle.mot_playout.proofs.server.Server.play_turn.Goals as goal
use Rattle.mot_playout.proofs.server.Server.play_turn.Goals.{After-next_packet, In_ok-push}

-- what was held of the disk at the beginning is read of it before the next packet
held_before : (g : given.Over) (c : After-next_packet g) (s : Standing)
    → Holds c.args.self.now.view s (g.D.Disk.state c.args.self.now.disk)
    → (g.D.Disk.state c.loop-packets.self.disk).IsHonest
    → HasStanding c.loop-packets.self.view s (g.D.Disk.state c.loop-packets.self.disk)
held_before g c s holds was =
    let state = g.D.Disk.state in
    let start = c.args.self.now in
    let mid = c.loop-packets.self in
    let is = c.loop-packets.invariant in
    let sound = g.met.D.Disk.sound start.disk holds.journal.honest in
    standing_still start.view mid.view s (state start.disk) (state mid.disk)
    (read_standing start.view s (state start.disk) sound holds) (is.reads.unchanged was) is.view

-- the packets are those before, and the next
one_more : (g : given.Over) (c : In_ok-push g) → bytes_of_packets c.push.new.self.items
    ≡ bytes_of_packets c.loop-packets.packets.items ++ c.in_ok-packet.field-0.packet.items ∷ []
one_more g c = ap bytes_of_packets c.in_ok-push.ensures.items
    ∙ bytes_of_packets-more c.loop-packets.packets.items c.in_ok-packet.field-0.packet

pub loop-packets-init : goal.loop-packets-init
loop-packets-init g c = record {
  view = refl;
  reads = reads_none (g.D.Disk.state c.args.self.now.disk);
  calm = refl;
  cost = omega arith;
  going = λ s holds honest.
      subst (λ (xs : List (List ℕ)).
      IsGoing (place_in c.args.self.now s) xs (place_in c.args.self.now s))
      (sym (ap bytes_of_packets c.new-packets.ensures.items))
      (IsGoing-none (place_in c.args.self.now s));
  of_some = subst (λ (xs : List (List ℕ)). PlaysOn c.args.self.now.player xs c.args.self.now.player)
      (sym (ap bytes_of_packets c.new-packets.ensures.items)) refl;
}

pub returns-in_err-packet-clause-of_some : goal.returns-in_err-packet-clause-of_some
returns-in_err-packet-clause-of_some g c =
    let start = c.args.self.now.player in
    let packets : List (List ℕ) = bytes_of_packets c.loop-packets.packets.items in
    MatchResult-failed c.from_residual.result _ _ c.from_residual.ensures.0 (
      packets,
      inl (subst (λ (p : player.PlayerView). PlaysOn start packets p)
          (sym c.in_err-packet.ensures.stays)
          c.loop-packets.invariant.of_some),
    )

pub returns-in_err-push-clause-of_some : goal.returns-in_err-push-clause-of_some
returns-in_err-push-clause-of_some g c =
    let packets : List (List ℕ) = bytes_of_packets c.loop-packets.packets.items in
    let played = c.in_ok-packet.field-0 in
    MatchResult-failed c.from_residual-in_err-push.result _ _ c.from_residual-in_err-push.ensures.0 (
      packets ++ played.packet.items ∷ [],
      plays_one_more c.args.self.now.player c.loop-packets.self.player c.next_packet.new.self.player
          packets
          played.packet.items played.ends_turn c.loop-packets.invariant.of_some
          c.in_ok-packet.ensures.of_some,
    )

pub returns-then-ends_turn-clause-of_some : goal.returns-then-ends_turn-clause-of_some
returns-then-ends_turn-clause-of_some g c =
    let start = c.args.self.now.player in
    let mid = c.loop-packets.self.player in
    let now = c.next_packet.new.self.player in
    let packets : List (List ℕ) = bytes_of_packets c.loop-packets.packets.items in
    let played = c.in_ok-packet.field-0 in
    let before = goal.at.returns-then-ends_turn-clause-of_some g c in
    subst (λ (xs : List (List ℕ)). PlaysToTheEnd start xs now)
    (sym (one_more g before.In_ok-push)) (record {
      before = packets;
      last = played.packet.items;
      mid = mid;
      all = refl;
      goes_on = c.loop-packets.invariant.of_some;
      ends = subst (λ (e : Bool). IsStepOfSome mid played.packet.items e now) c.if-ends_turn.true
          c.in_ok-packet.ensures.of_some;
    })

pub returns-in_err-packet-clause-stands : goal.returns-in_err-packet-clause-stands
returns-in_err-packet-clause-stands g c = λ s holds honest.
    let start = c.args.self.now in
    let packets : List (List ℕ) = bytes_of_packets c.loop-packets.packets.items in
    let going = c.loop-packets.invariant.going s holds
    (c.next_packet.ensures.only_reads.keeps.was_honest honest) in
    OnErr-always c.from_residual.result _ (
      length packets,
      packets,
      subst (λ (p : player.PlayerView).
          HasPlayed (place_in start s) (length packets) packets
          (player.place_of p (bodies_of s.carousel)))
          (sym c.in_err-packet.ensures.stays) going.played,
    )

pub returns-in_err-push-clause-stands : goal.returns-in_err-push-clause-stands
returns-in_err-push-clause-stands g c = λ s holds honest.
    let start = c.args.self.now in
    let mid = c.loop-packets.self in
    let now = c.next_packet.new.self in
    let was = c.next_packet.ensures.only_reads.keeps.was_honest honest in
    let before = goal.at.returns-in_err-push-clause-stands g c in
    let held = held_before g before.After-next_packet s holds was in
    let packets : List (List ℕ) = bytes_of_packets c.loop-packets.packets.items in
    let going = c.loop-packets.invariant.going s holds was in
    OnErr-always c.from_residual-in_err-push.result _ (
      suc (length packets),
      packets ++ c.in_ok-packet.field-0.packet.items ∷ [],
      HasPlayed-more (place_in start s) (place_in mid s) (place_in now s) (length packets) packets
          going.played
          c.in_ok-packet.field-0.packet.items c.in_ok-packet.field-0.ends_turn
          (c.in_ok-packet.ensures.sent s held honest),
    )

pub returns-then-ends_turn-clause-turn : goal.returns-then-ends_turn-clause-turn
returns-then-ends_turn-clause-turn g c = λ s holds honest.
    let start = c.args.self.now in
    let mid = c.loop-packets.self in
    let now = c.next_packet.new.self in
    let was = c.next_packet.ensures.only_reads.keeps.was_honest honest in
    let before = goal.at.returns-then-ends_turn-clause-turn g c in
    let held = held_before g before.After-next_packet s holds was in
    subst (λ (xs : List (List ℕ)). HasPlayedTurn (place_in start s) xs (place_in now s))
    (sym (one_more g before.In_ok-push))
    (HasPlayedTurn-ended (place_in start s) (place_in mid s) (place_in now s)
    (bytes_of_packets c.loop-packets.packets.items) (c.loop-packets.invariant.going s holds was)
    c.in_ok-packet.field-0.packet.items
    c.in_ok-packet.field-0.ends_turn (c.in_ok-packet.ensures.sent s held honest)
    c.if-ends_turn.true)

pub returns-then-ends_turn-clause-reads : goal.returns-then-ends_turn-clause-reads
returns-then-ends_turn-clause-reads g c = λ s holds honest begins.
    let start = c.args.self.now in
    turn_reads start.view s (g.D.Disk.state start.disk) start.player
    (bytes_of_packets c.push.new.self.items)
    (place_in c.next_packet.new.self s) (g.met.D.Disk.sound start.disk holds.journal.honest) holds
    c.segment_size.ensures.plays
    c.segment_size.ensures.place (returns-then-ends_turn-clause-turn g c s holds honest) begins

pub loop-packets-preserved : goal.loop-packets-preserved
loop-packets-preserved g c =
    let start = c.args.self.now in
    let mid = c.loop-packets.self in
    let now = c.next_packet.new.self in
    let state = g.D.Disk.state in
    let is = c.loop-packets.invariant in
    let before = goal.at.loop-packets-preserved g c in
    let items = one_more g before.In_ok-push in
    record {
      view = c.next_packet.ensures.view ∙ is.view;
      reads = reads_on (state start.disk) (state mid.disk) (state now.disk) is.reads
          c.next_packet.ensures.only_reads;
      calm = c.in_ok-packet.ensures.no_fault ∙ is.calm;
      cost =
          let so_far = is.cost in
          let one = c.next_packet.ensures.cost in
          omega (
            arith,
            so_far,
            one,
            ap length c.in_ok-push.ensures.items,
            length-append c.loop-packets.packets.items (c.in_ok-packet.field-0.packet ∷ []),
          );
      going = λ s holds honest.
          let was = c.next_packet.ensures.only_reads.keeps.was_honest honest in
          let held = held_before g before.After-next_packet s holds was in
          subst (λ (xs : List (List ℕ)). IsGoing (place_in start s) xs (place_in now s)) (sym items)
          (IsGoing-more (place_in start s) (place_in mid s) (place_in now s)
          (bytes_of_packets c.loop-packets.packets.items)
          (is.going s holds was) c.in_ok-packet.field-0.packet.items
          c.in_ok-packet.field-0.ends_turn
          (c.in_ok-packet.ensures.sent s held honest) c.if-ends_turn.false);
      of_some = subst (λ (xs : List (List ℕ)). PlaysOn start.player xs now.player) (sym items)
          (PlaysOn-more start.player mid.player now.player
          (bytes_of_packets c.loop-packets.packets.items)
          c.in_ok-packet.field-0.packet.items is.of_some
          (subst (λ (e : Bool). IsStepOfSome mid.player c.in_ok-packet.field-0.packet.items e
          now.player)
          c.if-ends_turn.false c.in_ok-packet.ensures.of_some));
    }

pub returns-then-halted-clause-only_reads : goal.returns-then-halted-clause-only_reads
returns-then-halted-clause-only_reads g c = reads_none (g.D.Disk.state c.args.self.now.disk)

pub returns-then-halted-clause-view : goal.returns-then-halted-clause-view
returns-then-halted-clause-view g c = refl

pub returns-then-halted-clause-turn : goal.returns-then-halted-clause-turn
returns-then-halted-clause-turn g c = λ s holds honest. tt

pub returns-then-halted-clause-reads : goal.returns-then-halted-clause-reads
returns-then-halted-clause-reads g c = λ s holds honest begins. tt

pub returns-then-halted-clause-stands : goal.returns-then-halted-clause-stands
returns-then-halted-clause-stands g c =
    λ s holds honest. (0, [], HasPlayed-none (place_in c.args.self.now s))

pub returns-then-halted-clause-of_some : goal.returns-then-halted-clause-of_some
returns-then-halted-clause-of_some g c = ([], inl refl)

pub returns-then-halted-clause-going : goal.returns-then-halted-clause-going
returns-then-halted-clause-going g c = tt

pub returns-then-halted-clause-refused : goal.returns-then-halted-clause-refused
returns-then-halted-clause-refused g c =
    halted (sym c.halted.ensures.value ∙ c.if-halted.true) refl refl

pub returns-then-halted-clause-calm : goal.returns-then-halted-clause-calm
returns-then-halted-clause-calm g c = inr refl

pub returns-then-halted-clause-cost : goal.returns-then-halted-clause-cost
returns-then-halted-clause-cost g c = tt

pub returns-in_err-packet-clause-only_reads : goal.returns-in_err-packet-clause-only_reads
returns-in_err-packet-clause-only_reads g c =
    let state = g.D.Disk.state in
    reads_on (state c.args.self.now.disk) (state c.loop-packets.self.disk)
    (state c.next_packet.new.self.disk) c.loop-packets.invariant.reads
    c.next_packet.ensures.only_reads

pub returns-in_err-packet-clause-view : goal.returns-in_err-packet-clause-view
returns-in_err-packet-clause-view g c = c.next_packet.ensures.view ∙ c.loop-packets.invariant.view

pub returns-in_err-push-clause-only_reads : goal.returns-in_err-push-clause-only_reads
returns-in_err-push-clause-only_reads g c =
    let state = g.D.Disk.state in
    reads_on (state c.args.self.now.disk) (state c.loop-packets.self.disk)
    (state c.next_packet.new.self.disk) c.loop-packets.invariant.reads
    c.next_packet.ensures.only_reads

pub returns-in_err-push-clause-view : goal.returns-in_err-push-clause-view
returns-in_err-push-clause-view g c = c.next_packet.ensures.view ∙ c.loop-packets.invariant.view

pub returns-then-ends_turn-clause-only_reads : goal.returns-then-ends_turn-clause-only_reads
returns-then-ends_turn-clause-only_reads g c =
    let state = g.D.Disk.state in
    reads_on (state c.args.self.now.disk) (state c.loop-packets.self.disk)
    (state c.next_packet.new.self.disk) c.loop-packets.invariant.reads
    c.next_packet.ensures.only_reads

pub returns-then-ends_turn-clause-view : goal.returns-then-ends_turn-clause-view
returns-then-ends_turn-clause-view g c = c.next_packet.ensures.view ∙ c.loop-packets.invariant.view

pub returns-in_err-packet-clause-turn : goal.returns-in_err-packet-clause-turn
returns-in_err-packet-clause-turn g c =
    let p = err_from_is_err_and c.from_residual.result c.from_residual.ensures.1 in
    rw p.1 (λ s holds honest. tt)

pub returns-in_err-packet-clause-reads : goal.returns-in_err-packet-clause-reads
returns-in_err-packet-clause-reads g c =
    let p = err_from_is_err_and c.from_residual.result c.from_residual.ensures.1 in
    rw p.1 (λ s holds honest begins. tt)

pub returns-in_err-packet-clause-going : goal.returns-in_err-packet-clause-going
returns-in_err-packet-clause-going g c =
    let p = err_from_is_err_and c.from_residual.result c.from_residual.ensures.1 in
    rw p.1 tt

pub returns-in_err-packet-clause-cost : goal.returns-in_err-packet-clause-cost
returns-in_err-packet-clause-cost g c =
    let p = err_from_is_err_and c.from_residual.result c.from_residual.ensures.1 in
    rw p.1 tt

pub returns-in_err-packet-clause-refused : goal.returns-in_err-packet-clause-refused
returns-in_err-packet-clause-refused g c =
    let p = err_from_is_err_and c.from_residual.result c.from_residual.ensures.1 in
    rw (p.1, p.2) (turn_of_read c.args.self.now
    c.loop-packets.self c.next_packet.new.self _ _ _ _
    (sym c.halted.ensures.value ∙ c.if-halted.false) c.loop-packets.invariant.view
    c.loop-packets.invariant.calm c.in_err-packet.ensures.refused)

pub returns-in_err-packet-clause-calm : goal.returns-in_err-packet-clause-calm
returns-in_err-packet-clause-calm g c =
    let p = err_from_is_err_and c.from_residual.result c.from_residual.ensures.1 in
    rw (p.1, p.2) (inl (fault_of_read c.args.self.now c.loop-packets.self c.next_packet.new.self
    _ _ _ (sym c.halted.ensures.value ∙ c.if-halted.false) c.loop-packets.invariant.view
    c.in_err-packet.ensures.refused))

pub returns-in_err-push-clause-turn : goal.returns-in_err-push-clause-turn
returns-in_err-push-clause-turn g c =
    let is = same_error c.from_residual-in_err-push.result OutOfMemory
    c.from_residual-in_err-push.ensures.1 in
    rw is (λ s holds honest. tt)

pub returns-in_err-push-clause-reads : goal.returns-in_err-push-clause-reads
returns-in_err-push-clause-reads g c =
    let is = same_error c.from_residual-in_err-push.result OutOfMemory
    c.from_residual-in_err-push.ensures.1 in
    rw is (λ s holds honest begins. tt)

pub returns-in_err-push-clause-going : goal.returns-in_err-push-clause-going
returns-in_err-push-clause-going g c =
    let is = same_error c.from_residual-in_err-push.result OutOfMemory
    c.from_residual-in_err-push.ensures.1 in
    rw is tt

pub returns-in_err-push-clause-cost : goal.returns-in_err-push-clause-cost
returns-in_err-push-clause-cost g c =
    let is = same_error c.from_residual-in_err-push.result OutOfMemory
    c.from_residual-in_err-push.ensures.1 in
    rw is tt

pub returns-in_err-push-clause-refused : goal.returns-in_err-push-clause-refused
returns-in_err-push-clause-refused g c =
    let is = same_error c.from_residual-in_err-push.result OutOfMemory
    c.from_residual-in_err-push.ensures.1 in
    rw is (no_memory (sym c.halted.ensures.value ∙ c.if-halted.false) refl)

pub returns-in_err-push-clause-calm : goal.returns-in_err-push-clause-calm
returns-in_err-push-clause-calm g c =
    let is = same_error c.from_residual-in_err-push.result OutOfMemory
    c.from_residual-in_err-push.ensures.1 in
    rw is (inr (c.in_ok-packet.ensures.no_fault ∙ c.loop-packets.invariant.calm))

pub returns-then-ends_turn-clause-stands : goal.returns-then-ends_turn-clause-stands
returns-then-ends_turn-clause-stands g c = λ s holds honest. tt

pub returns-then-ends_turn-clause-going : goal.returns-then-ends_turn-clause-going
returns-then-ends_turn-clause-going g c = sym c.halted.ensures.value ∙ c.if-halted.false

pub returns-then-ends_turn-clause-refused : goal.returns-then-ends_turn-clause-refused
returns-then-ends_turn-clause-refused g c = tt

pub returns-then-ends_turn-clause-calm : goal.returns-then-ends_turn-clause-calm
returns-then-ends_turn-clause-calm g c =
    c.in_ok-packet.ensures.no_fault ∙ c.loop-packets.invariant.calm
