use Rattle.std.proofs.Common.{refl, ap}
use Rattle.std.specs.Prelude.{Ok}
use Rattle.mot_lines.specs.declared.line.Line.TheVariants as asks
use Rattle.mot_session.specs.declared.deciding.Decision.TheVariants as decision
use Rattle.mot_session.specs.Session.{state_of, packets_at}
use Rattle.mot_session.proofs.Answered.{Answers-list, Answers-raw, Decides-shown, writes-none}
use Rattle.std.specs.List.{flat_map}
use Rattle.mot_lines.specs.Text.{packet_line}
use Rattle.mot_session.specs.OnAnyDisk.{listed, no_memory, raw}
use Rattle.mot_session.proofs.Anyhow.{anyhow-shown}
use Rattle.mot_session.proofs.deciding.decide_request.Goals as goal

pub returns-in-Command-clause-writes : goal.returns-in-Command-clause-writes
returns-in-Command-clause-writes g c = rw c.in-Command.is c.decide_command.ensures.writes

pub returns-in-Ok-clause-decides : goal.returns-in-Ok-clause-decides
returns-in-Ok-clause-decides g c = rw c.in-Raw.is (λ s stands honest. (
  s,
  stands,
  Answers-raw (state_of c.args.server.now s (g.D.Disk.state c.args.server.now.disk)) c.in-Raw.kind
      c.in-Raw.tid c.in-Raw.body c.in-Ok.group.items c.in-Ok.ensures,
))

pub returns-in-Ok-clause-writes : goal.returns-in-Ok-clause-writes
returns-in-Ok-clause-writes g c = writes-none c.args.server.now.view
    (g.D.Disk.state c.args.server.now.disk) _ (g.met.D.Disk.sound c.args.server.now.disk)

pub returns-in-Err-clause-writes : goal.returns-in-Err-clause-writes
returns-in-Err-clause-writes g c = writes-none c.args.server.now.view
    (g.D.Disk.state c.args.server.now.disk) _ (g.met.D.Disk.sound c.args.server.now.disk)

pub returns-in-List-clause-decides : goal.returns-in-List-clause-decides
returns-in-List-clause-decides g c = rw c.in-List.is (λ s stands honest.
    let before = state_of c.args.server.now s (g.D.Disk.state c.args.server.now.disk) in (
      s,
      stands,
      Decides-shown before (Ok asks.List) decision.Listing c.show.result tt c.show.ensures.halted
          c.show.ensures.going (λ going. Answers-list before going),
    ))

pub returns-in-List-clause-writes : goal.returns-in-List-clause-writes
returns-in-List-clause-writes g c = writes-none c.args.server.now.view
    (g.D.Disk.state c.args.server.now.disk) _ (g.met.D.Disk.sound c.args.server.now.disk)

pub returns-in-Next-clause-decides : goal.returns-in-Next-clause-decides
returns-in-Next-clause-decides g c = rw c.in-Next.is (λ s stands honest.
    let before = state_of c.args.server.now s (g.D.Disk.state c.args.server.now.disk) in (
      s,
      stands,
      Decides-shown before (Ok (asks.Next c.in-Next.count)) (decision.Next c.in-Next.count)
          c.show-in-Next.result tt c.show-in-Next.ensures.halted c.show-in-Next.ensures.going
          (λ going. (refl, going, refl)),
    ))

pub returns-in-Next-clause-writes : goal.returns-in-Next-clause-writes
returns-in-Next-clause-writes g c = writes-none c.args.server.now.view
    (g.D.Disk.state c.args.server.now.disk) _ (g.met.D.Disk.sound c.args.server.now.disk)

pub returns-in-Turn-clause-decides : goal.returns-in-Turn-clause-decides
returns-in-Turn-clause-decides g c = rw c.in-Turn.is (λ s stands honest.
    let before = state_of c.args.server.now s (g.D.Disk.state c.args.server.now.disk) in (
      s,
      stands,
      Decides-shown before (Ok asks.Turn) decision.Turn c.show-in-Turn.result tt
          c.show-in-Turn.ensures.halted c.show-in-Turn.ensures.going (λ going. (refl, going, refl)),
    ))

pub returns-in-Turn-clause-writes : goal.returns-in-Turn-clause-writes
returns-in-Turn-clause-writes g c = writes-none c.args.server.now.view
    (g.D.Disk.state c.args.server.now.disk) _ (g.met.D.Disk.sound c.args.server.now.disk)

pub returns-in-Command-clause-anyhow : goal.returns-in-Command-clause-anyhow
returns-in-Command-clause-anyhow g c = rw c.in-Command.is c.decide_command.ensures.anyhow

pub returns-in-Ok-clause-anyhow : goal.returns-in-Ok-clause-anyhow
returns-in-Ok-clause-anyhow g c = rw c.in-Raw.is (raw c.in-Raw.kind c.in-Raw.tid
    c.in-Raw.body refl refl (ap (λ l. flat_map packet_line
    (packets_at c.args.server.now.view.journal.geometry l)) c.in-Ok.ensures))

pub returns-in-Err-clause-anyhow : goal.returns-in-Err-clause-anyhow
returns-in-Err-clause-anyhow g c = rw c.in-Raw.is (no_memory tt refl refl)

pub returns-in-List-clause-anyhow : goal.returns-in-List-clause-anyhow
returns-in-List-clause-anyhow g c = rw c.in-List.is (
    anyhow-shown c.args.server.now.view _ (Ok asks.List) decision.Listing c.show.result tt
    c.show.ensures.halted c.show.ensures.going (λ going. listed refl going refl refl))

pub returns-in-Next-clause-anyhow : goal.returns-in-Next-clause-anyhow
returns-in-Next-clause-anyhow g c = rw c.in-Next.is (
    anyhow-shown c.args.server.now.view _ (Ok (asks.Next c.in-Next.count))
    (decision.Next c.in-Next.count) c.show-in-Next.result tt c.show-in-Next.ensures.halted
    c.show-in-Next.ensures.going (λ going. (refl, going, refl, refl)))

pub returns-in-Turn-clause-anyhow : goal.returns-in-Turn-clause-anyhow
returns-in-Turn-clause-anyhow g c = rw c.in-Turn.is (
    anyhow-shown c.args.server.now.view _ (Ok asks.Turn) decision.Turn c.show-in-Turn.result tt
    c.show-in-Turn.ensures.halted c.show-in-Turn.ensures.going
    (λ going. (refl, going, refl, refl)))

pub returns-in-Command-clause-decides : goal.returns-in-Command-clause-decides
returns-in-Command-clause-decides g c = rw c.in-Command.is c.decide_command.ensures.decides
