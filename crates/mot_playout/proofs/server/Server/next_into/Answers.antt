use Rattle.std.proofs.Common.{◌≡◌, ◌∙◌, ◌<◌, ℕ, Bool, false, List, refl, sym, subst, le-add_right}
use Rattle.std.specs.Prelude.{IfOk}
use Rattle.disk_model.proofs.Laws.{reads_none, reads_once}
use Rattle.mot_journal.specs.Image.{Standing}
use Rattle.mot_player.specs.Laws.{IsStep, bytes_left}
use Rattle.mot_player.specs.PlayerView as player
use Rattle.mot_repository.specs.Repository.{HasStanding}
use Rattle.mot_playout.specs.Inner.{bodies_on}
use Rattle.mot_playout.specs.Playing.IsReadRefusal.{halted}
use Rattle.mot_playout.specs.Runs.{bodies_of}
use Rattle.mot_playout.proofs.Read.{are_bodies_on, bodies_held}
use Rattle.mot_playout.proofs.ReadRefusals.{at_once, read_refused}
use Rattle.mot_playout.proofs.server.Server.next_into.Goals as goal

pub next_into-requires : goal.next_into-requires
next_into-requires g c =
    let r = c.self.inside.bodies.repository in
    let image : List ℕ = (g.D.Disk.state r.disk).bytes in
    c.self.invariant.sized (bodies_on r.view.journal.geometry r.view.extents image)
    (are_bodies_on r.view image c.body_count.ensures.paired)

pub returns-clause-sent : goal.returns-clause-sent
returns-clause-sent g c = λ s has honest.
    let now = c.args.self.now in
    let r = c.self.inside.bodies.repository in
    let state = g.D.Disk.state in
    let kept : (d : Standing) → HasStanding now.view d (state now.disk)
    → HasStanding r.view d (state r.disk) = rw (← c.self.view_is) (λ d held. held) in
    let was = c.next_into.ensures.reads.only_read.keeps.was_honest honest in
    let same : bodies_on r.view.journal.geometry r.view.extents (state r.disk).bytes
    ≡ bodies_of s.carousel =
    bodies_held r.view s (state r.disk) (g.met.D.Disk.sound r.disk was) (kept s has)
    c.body_count.ensures.paired in
    let same_player : c.self.inside.player ≡ now.player = rw (← c.self.view_is) refl in
    let new : player.PlayerView = c.next_into.new.self in
    subst (λ (p : player.PlayerView).
    IfOk c.next_into.result
    (λ (ends_turn : Bool). IsStep (player.place_of p (bodies_of s.carousel))
    c.next_into.new.packet.items ends_turn (player.place_of new
    (bodies_of s.carousel)))) same_player
    (subst (λ (bodies : List (List ℕ)).
    IfOk c.next_into.result
    (λ (ends_turn : Bool). IsStep (player.place_of c.self.inside.player bodies)
    c.next_into.new.packet.items ends_turn (player.place_of new bodies))) same
    (c.next_into.ensures.sent honest))

pub returns-then-halted-clause-only_reads : goal.returns-then-halted-clause-only_reads
returns-then-halted-clause-only_reads g c = reads_none (g.D.Disk.state c.args.self.now.disk)

pub returns-then-halted-clause-view : goal.returns-then-halted-clause-view
returns-then-halted-clause-view g c = refl

pub returns-then-halted-clause-cost : goal.returns-then-halted-clause-cost
returns-then-halted-clause-cost g c = le-add_right _ 1

pub returns-then-halted-clause-sent : goal.returns-then-halted-clause-sent
returns-then-halted-clause-sent g c = λ s has honest. tt

pub returns-then-halted-clause-stays : goal.returns-then-halted-clause-stays
returns-then-halted-clause-stays g c = refl

pub returns-then-halted-clause-of_some : goal.returns-then-halted-clause-of_some
returns-then-halted-clause-of_some g c = tt

pub returns-then-halted-clause-nearer : goal.returns-then-halted-clause-nearer
returns-then-halted-clause-nearer g c = tt

pub returns-then-halted-clause-going : goal.returns-then-halted-clause-going
returns-then-halted-clause-going g c = tt

pub returns-then-halted-clause-no_fault : goal.returns-then-halted-clause-no_fault
returns-then-halted-clause-no_fault g c = tt

pub returns-then-halted-clause-refused : goal.returns-then-halted-clause-refused
returns-then-halted-clause-refused g c =
    halted (rw (← c.self.view_is) (sym c.halted.ensures.value ∙ c.if-halted.true)) refl refl

pub returns-then-halted-clause-left : goal.returns-then-halted-clause-left
returns-then-halted-clause-left g c = refl

pub returns-clause-only_reads : goal.returns-clause-only_reads
returns-clause-only_reads g c =
    let state = g.D.Disk.state in
    let is = c.next_into.ensures.reads.only_read in
    rw (← c.self.view_is) (reads_once (state c.self.inside.bodies.repository.disk)
    (state c.next_into.new.bodies.repository.disk) is.keeps is.unchanged)

pub returns-clause-view : goal.returns-clause-view
returns-clause-view g c = rw (← c.self.view_is) c.next_into.ensures.reads.only_read.view

pub returns-clause-cost : goal.returns-clause-cost
returns-clause-cost g c = rw (← c.self.view_is) c.next_into.ensures.reads.only_read.cost

pub returns-clause-stays : goal.returns-clause-stays
returns-clause-stays g c = rw (← c.self.view_is) c.next_into.ensures.stays

pub returns-clause-of_some : goal.returns-clause-of_some
returns-clause-of_some g c = rw (← c.self.view_is) c.next_into.ensures.sent_of_some

pub returns-clause-nearer : goal.returns-clause-nearer
returns-clause-nearer g c =
    let same_player : c.self.inside.player ≡ c.args.self.now.player =
    rw (← c.self.view_is) refl in
    subst (λ (p : player.PlayerView). IfOk c.next_into.result (λ (ends_turn : Bool).
    ends_turn ≡ false → bytes_left c.next_into.new.self < bytes_left p)) same_player
    c.next_into.ensures.nearer

pub returns-clause-going : goal.returns-clause-going
returns-clause-going g c =
    at_once c.next_into.result _
    (rw (← c.self.view_is) (sym c.halted.ensures.value ∙ c.if-halted.false))

pub returns-clause-no_fault : goal.returns-clause-no_fault
returns-clause-no_fault g c = rw (← c.self.view_is) c.next_into.ensures.reads.no_fault

pub returns-clause-refused : goal.returns-clause-refused
returns-clause-refused g c =
    read_refused c.next_into.result _ _ _ _
    (rw (← c.self.view_is) (sym c.halted.ensures.value ∙ c.if-halted.false))
    c.next_into.ensures.reads.refused (rw (← c.self.view_is) c.next_into.ensures.reads.failed)

pub returns-clause-left : goal.returns-clause-left
returns-clause-left g c = c.next_into.ensures.left
