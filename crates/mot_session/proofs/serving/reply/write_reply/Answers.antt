use Rattle.std.proofs.Common.{◌≡◌, Ok, false, refl, sym, ap, ◌∙◌, subst}
use Rattle.mot_lines.specs.Listing.{listing_text_beside, listing_text}
use Rattle.mot_lines.specs.Text.{packet_line}
use Rattle.mot_numbers.specs.declared.geometry.Geometry.{Geometry}
use Rattle.std.specs.List.{flat_map}
use Rattle.mot_lines.proofs.Laws.{listing_text-beside}
use Rattle.mot_lines.specs.declared.line.Line.TheVariants as asks
use Rattle.mot_repository.specs.Repository.{RepositoryView}
use Rattle.mot_session.specs.Served.{Writes}
use Rattle.mot_session.specs.Session.{packets_at, accepted, listing, packets, refused, text_of}
use Rattle.mot_session.specs.Session.{ServerState, state_of}
use Rattle.mot_session.specs.Inner.Writes.{AnswersRequest}
use Rattle.mot_session.proofs.Requests.{reads-none}
use Rattle.mot_session.proofs.Written.{AnswersRequest-written}
use Rattle.mot_session.proofs.Anyhow.{anyhow-played, anyhow-written}
use Rattle.mot_session.proofs.serving.reply.write_reply.Goals as goal

pub returns-in-Refused-clause-answers : goal.returns-in-Refused-clause-answers
unfolding text_of
returns-in-Refused-clause-answers g c = rw c.in-Refused.is (λ before request s stands honest d.
    AnswersRequest-written c.write_whole.result before
    (state_of c.args.server.now s (g.D.Disk.state c.args.server.now.disk)) request
    (refused c.in-Refused.refusal) _ _ refl d
    (rw (c.as_slice.ensures.value, c.refusal_text.ensures) at c.write_whole.ensures))

pub returns-in-Accepted-clause-answers : goal.returns-in-Accepted-clause-answers
unfolding text_of
returns-in-Accepted-clause-answers g c = rw c.in-Accepted.is (λ before request s stands honest d.
    AnswersRequest-written c.write_whole-in-Accepted.result before
    (state_of c.args.server.now s (g.D.Disk.state c.args.server.now.disk)) request
    (accepted c.in-Accepted.done) _ _ refl d
    (rw (c.as_slice-in-Accepted.ensures.value, c.done_text.ensures) at
    c.write_whole-in-Accepted.ensures))

pub returns-in-Listing-clause-answers : goal.returns-in-Listing-clause-answers
unfolding text_of
returns-in-Listing-clause-answers g c = rw c.in-Listing.is (λ before request s stands honest d.
    let agrees = stands.agrees in
    let text : listing_text_beside c.carousel.result.now ≡ listing_text s.carousel =
    ap listing_text_beside c.carousel.ensures.value
    ∙ listing_text-beside c.args.server.now.view.carousel agrees.bodies agrees.are_bodies
    ∙ ap listing_text (sym agrees.carousel) in
    AnswersRequest-written c.write_listing.result before
    (state_of c.args.server.now s (g.D.Disk.state c.args.server.now.disk)) request
    (listing s.carousel) _ _ refl d
    (subst (λ t. Writes c.write_listing.result t
    (g.W.Write.contents c.args.writer.now) (g.W.Write.contents c.write_listing.new.writer))
    text c.write_listing.ensures))

pub returns-in-Packets-clause-answers : goal.returns-in-Packets-clause-answers
unfolding text_of
returns-in-Packets-clause-answers g c = rw c.in-Packets.is (λ before request s stands honest d.
    let same : c.geometry.result ≡ s.geometry = c.geometry.ensures.value ∙ stands.agrees.geometry in
    let w = rw c.deref.ensures.value at c.write_packets.ensures in
    AnswersRequest-written c.write_packets.result before
    (state_of c.args.server.now s (g.D.Disk.state c.args.server.now.disk)) request
    (packets (packets_at s.geometry c.in-Packets.group.items)) _ _ refl d
    (subst (λ (h : Geometry). Writes c.write_packets.result
    (flat_map packet_line (packets_at h c.in-Packets.group.items))
    (g.W.Write.contents c.args.writer.now) (g.W.Write.contents c.write_packets.new.writer)) same w))

pub returns-in-Refused-clause-anyhow : goal.returns-in-Refused-clause-anyhow
returns-in-Refused-clause-anyhow g c = rw c.in-Refused.is (λ old before request d.
    anyhow-written old c.args.server.now.view before _ c.write_whole.result request _ _ _ d
    (rw (c.as_slice.ensures.value, c.refusal_text.ensures) at c.write_whole.ensures))

pub returns-in-Accepted-clause-anyhow : goal.returns-in-Accepted-clause-anyhow
returns-in-Accepted-clause-anyhow g c = rw c.in-Accepted.is (λ old before request d.
    anyhow-written old c.args.server.now.view before _ c.write_whole-in-Accepted.result request
    _ _ _ d (rw (c.as_slice-in-Accepted.ensures.value, c.done_text.ensures) at
    c.write_whole-in-Accepted.ensures))

pub returns-in-Listing-clause-anyhow : goal.returns-in-Listing-clause-anyhow
returns-in-Listing-clause-anyhow g c = rw c.in-Listing.is (λ old before request d.
    anyhow-written old c.args.server.now.view before _ c.write_listing.result request _ _ _ d
    (subst (λ t. Writes c.write_listing.result t
    (g.W.Write.contents c.args.writer.now) (g.W.Write.contents c.write_listing.new.writer))
    (ap listing_text_beside c.carousel.ensures.value) c.write_listing.ensures))

pub returns-in-Packets-clause-anyhow : goal.returns-in-Packets-clause-anyhow
returns-in-Packets-clause-anyhow g c = rw c.in-Packets.is (λ old before request d.
    let w = rw c.deref.ensures.value at c.write_packets.ensures in
    anyhow-written old c.args.server.now.view before _ c.write_packets.result request _ _ _ d
    (subst (λ (h : Geometry). Writes c.write_packets.result
    (flat_map packet_line (packets_at h c.in-Packets.group.items))
    (g.W.Write.contents c.args.writer.now) (g.W.Write.contents c.write_packets.new.writer))
    c.geometry.ensures.value w))

pub returns-in-Next-clause-anyhow : goal.returns-in-Next-clause-anyhow
returns-in-Next-clause-anyhow g c = rw c.in-Next.is (λ old before request d.
    anyhow-played c.write_next.result old c.args.server.now.view c.write_next.new.server.view
    before _ _ (asks.Next c.in-Next.count) request _ _ d.0 d.2 d.3
    (c.write_next.ensures.anyhow (ap (λ (v : RepositoryView). v.halted) d.2 ∙ d.1)))

pub returns-in-Turn-clause-anyhow : goal.returns-in-Turn-clause-anyhow
returns-in-Turn-clause-anyhow g c = rw c.in-Turn.is (λ old before request d.
    anyhow-played c.write_turn.result old c.args.server.now.view c.write_turn.new.server.view
    before _ _ asks.Turn request _ _ d.0 d.2 d.3
    (c.write_turn.ensures.anyhow (ap (λ (v : RepositoryView). v.halted) d.2 ∙ d.1)))

pub returns-in-Refused-clause-reads : goal.returns-in-Refused-clause-reads
returns-in-Refused-clause-reads g c =
    let server = c.args.server.now in reads-none server (g.D.Disk.state server.disk)

pub returns-in-Accepted-clause-reads : goal.returns-in-Accepted-clause-reads
returns-in-Accepted-clause-reads g c =
    let server = c.args.server.now in reads-none server (g.D.Disk.state server.disk)

pub returns-in-Listing-clause-reads : goal.returns-in-Listing-clause-reads
returns-in-Listing-clause-reads g c =
    let server = c.args.server.now in reads-none server (g.D.Disk.state server.disk)

pub returns-in-Packets-clause-reads : goal.returns-in-Packets-clause-reads
returns-in-Packets-clause-reads g c =
    let server = c.args.server.now in reads-none server (g.D.Disk.state server.disk)

pub returns-in-Next-clause-reads : goal.returns-in-Next-clause-reads
returns-in-Next-clause-reads g c = c.write_next.ensures.reads

pub returns-in-Next-clause-answers : goal.returns-in-Next-clause-answers
returns-in-Next-clause-answers g c = rw c.in-Next.is (λ before request s stands honest d.
    let new = c.write_next.new.server in
    let going = ap (λ (before : ServerState). before.halted) d.2 ∙ d.1 in
    rw d.0 (subst (λ (before : ServerState). AnswersRequest c.write_next.result false before
    (Ok (asks.Next c.in-Next.count)) (state_of new s (g.D.Disk.state new.disk))
    (g.W.Write.contents c.args.writer.now) (g.W.Write.contents c.write_next.new.writer))
    d.2 (c.write_next.ensures.answers s (stands.holds going) honest)))

pub returns-in-Turn-clause-reads : goal.returns-in-Turn-clause-reads
returns-in-Turn-clause-reads g c = c.write_turn.ensures.reads

pub returns-in-Turn-clause-answers : goal.returns-in-Turn-clause-answers
returns-in-Turn-clause-answers g c = rw c.in-Turn.is (λ before request s stands honest d.
    let new = c.write_turn.new.server in
    let going = ap (λ (before : ServerState). before.halted) d.2 ∙ d.1 in
    rw d.0 (subst (λ (before : ServerState). AnswersRequest c.write_turn.result false before
    (Ok asks.Turn) (state_of new s (g.D.Disk.state new.disk))
    (g.W.Write.contents c.args.writer.now) (g.W.Write.contents c.write_turn.new.writer))
    d.2 (c.write_turn.ensures.answers s (stands.holds going) honest)))
