use Rattle.std.proofs.Common.{◌∙◌, ap, inl, inr, subst, sym}
use Rattle.std.specs.Prelude.{IsFalse}
use Rattle.disk_model.specs.Disk.{OnlySyncs}
use Rattle.mot_air.specs.Playing.{Plays, tale_of}
use Rattle.mot_air.proofs.Kept.{lives}
use Rattle.mot_air.proofs.Played.{plays}
use Rattle.mot_air.proofs.playing.feed_disk.Given as given
use Rattle.mot_air.proofs.playing.feed_disk.Goals as goal
use Rattle.mot_air.proofs.playing.feed_disk.Goals.{After-feed-result, After-into_disk}
use Rattle.mot_feed.proofs.Laws.{grows_nil}
use Rattle.mot_feed.specs.Feeding.AreTold.{no_call}
use Rattle.mot_feed.specs.Feeding.{Feeds}
use Rattle.mot_feed.specs.declared.manner.Manner.{Manner}
use Rattle.mot_journal.specs.Journal as journal
use Rattle.mot_repository.specs.Opening.{IsOpened}
use Rattle.mot_numbers.specs.Geometry.{is_valid}
use Rattle.mot_repository.specs.Repository.{Agrees, RepositoryView}
use Rattle.mot_update.proofs.Laws.{unopened_is}
use Rattle.mot_update.specs.Opening.{IsUnopened}
use Rattle.mot_playout.specs.Attempts.{fault_of}

pub returns-in-Err-clause-ended : goal.returns-in-Err-clause-ended
returns-in-Err-clause-ended g c =
    let opens = c.in-Err.ensures in
    record {
      keeps = opens.only_syncs.keeps;
      came = inl (
        unopened_is _ (g.D.Disk.state c.args.disk) _ opens.refused opens.calm opens.only_syncs.still,
        (grows_nil (g.O.Outlet.writes c.args.outlet.now), λ limit made. no_call),
      );
    }

-- memory ran out before the first packet
syncs_begun : (g : given.Over) (c : After-into_disk g) →
    OnlySyncs (g.D.Disk.state c.args.disk) (g.D.Disk.state c.into_disk.result)
syncs_begun g c =
    subst (λ d. OnlySyncs (g.D.Disk.state c.args.disk) (g.D.Disk.state d))
    (sym (c.into_disk.ensures ∙ c.begin.ensures.disk)) c.in-Ok.ensures.only_syncs

unbegun : (g : given.Over) (c : After-into_disk g) →
    IsUnopened c.in-Err-begin.refusal (g.D.Disk.state c.args.disk)
    (g.D.Disk.state c.into_disk.result)
unbegun g c =
    unopened_is c.in-Err-begin.refusal (g.D.Disk.state c.args.disk)
    (g.D.Disk.state c.into_disk.result) (journal.no_memory c.in-Err-begin.ensures.refused)
    (inr (ap (λ d. (g.D.Disk.state d).failures) (c.into_disk.ensures ∙ c.begin.ensures.disk)
    ∙ c.in-Ok.ensures.calm)) (syncs_begun g c).still

pub returns-in-Err-begin-clause-ended : goal.returns-in-Err-begin-clause-ended
returns-in-Err-begin-clause-ended g c = record {
  keeps = (syncs_begun g c).keeps;
  came = inl (
    unbegun g c,
    (grows_nil (g.O.Outlet.writes c.args.outlet.now), λ limit made. no_call),
  );
}

-- the playing
by : (g : given.Over) (c : After-feed-result g) → Plays
    (tale_of g.U.Update.tells c.args.how c.args.update.now c.feed-result.new.update) c.args.how
    (fault_of c.feed-result.result)
    (g.O.Outlet.writes c.args.outlet.now) (g.O.Outlet.writes c.feed-result.new.outlet)
    (g.D.Disk.state c.args.disk) (g.D.Disk.state c.feed-result.new.server.disk)
by g c =
    let state = g.D.Disk.state in
    let opens = c.in-Ok.ensures in
    let feeds = c.feed-result.ensures in
    let opened = c.in-Ok.server in
    let server = c.begin.new.server in
    let same = c.begin.ensures.disk in
    let kept = c.begin.ensures.view in
    plays state c.args.disk server c.feed-result.new.server g.met.D.Disk.sound
    (subst (λ d. OnlySyncs (state c.args.disk) (state d)) (sym same) opens.only_syncs)
    (subst (λ d. (state d).IsHonest → IsOpened (state c.args.disk) (state d) server.view) (sym same)
    (subst (λ (v : RepositoryView). (state opened.disk).IsHonest
    → IsOpened (state c.args.disk) (state opened.disk) v) (sym kept) opens.opened))
    (ap (λ d. (state d).failures) same ∙ opens.calm)
    (subst (λ (v : RepositoryView). IsFalse v.halted) (sym kept) opens.going) c.args.how
    (λ s agrees.
    let was = subst (λ (v : RepositoryView). Agrees v s) kept agrees in
    c.in_default.ensures.begun s was (opens.at_start s was))
    (ap (λ (v : RepositoryView). is_valid v.journal.geometry) kept ∙ c.geometry.ensures.valid)
    feeds.keeps g.U.Update.tells c.args.update.now
    c.feed-result.new.update _ _ c.feed-result.result feeds.calm feeds.fault
    (λ s holds honest. subst (λ (m : Manner). Feeds g.U.Update.tells m
    (fault_of c.feed-result.result) c.args.update.now c.feed-result.new.update server
    c.feed-result.new.server (state server.disk)
    (state c.feed-result.new.server.disk) s (g.O.Outlet.writes c.args.outlet.now)
    (g.O.Outlet.writes c.feed-result.new.outlet)) c.each_packet.ensures (feeds.fed s holds honest))

pub returns-clause-ended : goal.returns-clause-ended
returns-clause-ended g c = by g (goal.at.returns-clause-ended g c).After-feed-result

pub returns-in-Err-clause-lives : goal.returns-in-Err-clause-lives
returns-in-Err-clause-lives g c = λ geometry first done was honest.
    let opens = c.in-Err.ensures in
    inl (unopened_is _ (g.D.Disk.state c.args.disk) _ opens.refused opens.calm opens.only_syncs.still)

pub returns-clause-lives : goal.returns-clause-lives
returns-clause-lives g c =
    let from = (goal.at.returns-clause-lives g c).After-feed-result in
    let how = c.args.how in
    let last = c.feed-result.new.update in λ geometry first done was honest.
    lives geometry first done (tale_of g.U.Update.tells how c.args.update.now last) how
    (g.O.Outlet.writes c.args.outlet.now) (g.O.Outlet.writes c.feed-result.new.outlet)
    (g.D.Disk.state c.args.disk) (g.D.Disk.state c.feed-result.new.server.disk)
    (fault_of c.feed-result.result) was honest (by g from)
