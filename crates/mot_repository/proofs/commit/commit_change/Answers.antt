use Rattle.std.proofs.Common.{◌≡◌, ◌∙◌, ◌+◌, inl, refl, sym, ap, subst, List, ℕ, length}
use Rattle.std.proofs.Common.{slice_range, ◌≤◌}
use Rattle.disk_model.proofs.Laws.{weakens, joins}
use Rattle.mot_journal.specs.Gaps.{AreBeside}
use Rattle.mot_journal.specs.Journal.{JournalView}
use Rattle.mot_numbers.specs.Geometry.{area_start}
use Rattle.mot_repository.specs.Inner.Prepared.{IsFull}
use Rattle.mot_repository.specs.Repository.{RepositoryView, IsOf, IsBeforeOrAfter}
use Rattle.mot_repository.proofs.Following as following
use Rattle.mot_repository.proofs.Rewriting as rewriting
use Rattle.mot_repository.proofs.Soundness as soundness
use Rattle.mot_repository.proofs.Outcomes.{agrees_after}
use Rattle.mot_repository.proofs.Preparing.{ready}
use Rattle.mot_repository.proofs.Room.{at_list, with_journal, agrees_there, on_one}
use Rattle.mot_repository.proofs.commit.commit_change.Goals as goal

pub returns-in_err-make_room-clause-any_moment : goal.returns-in_err-make_room-clause-any_moment
returns-in_err-make_room-clause-any_moment g c =
    λ view s command done next from is at body prepared holds.
    let state = g.D.Disk.state in
    let old = c.args.disk.now in
    let sound = g.met.D.Disk.sound old holds.journal.honest in
    let is_ready = ready view command done next from c.args.entry.now c.args.given.now s (state old)
    prepared sound holds in
    weakens (state old) (state c.make_room.new.disk) (IsOf s)
    (IsBeforeOrAfter view.journal.layout s command)
    (c.make_room.ensures.any_moment view s is_ready.c is holds is_ready.fold
    (λ full. is_ready.given_fold (subst IsFull (sym is) full))) (λ image of. inl of)

pub returns-clause-any_moment : goal.returns-clause-any_moment
returns-clause-any_moment g c = λ view s command done next from is at body prepared holds.
    let state = g.D.Disk.state in
    let old = c.args.disk.now in
    let mid = c.make_room.new.disk in
    let journal = c.make_room.new.journal in
    let sound = g.met.D.Disk.sound old holds.journal.honest in
    let is_ready = ready view command done next from c.args.entry.now c.args.given.now s (state old)
    prepared sound holds in
    let so_far = weakens (state old) (state mid) (IsOf s)
    (IsBeforeOrAfter view.journal.layout s command)
    (c.make_room.ensures.any_moment view s is_ready.c is holds is_ready.fold
    (λ full. is_ready.given_fold (subst IsFull (sym is) full))) (λ image of. inl of) in
    let room = c.in_ok-make_room.ensures.room view s is_ready.c is holds is_ready.fold
    (λ full. is_ready.given_fold (subst IsFull (sym is) full)) in
    let geometry = c.in_ok-make_room.ensures.geometry
    ∙ sym (ap (λ (j : JournalView). j.geometry) is) in
    let there : RepositoryView = with_journal view journal in
    let same : there.journal ≡ journal = ap (λ h. record journal { geometry = h }) (sym geometry) in
    let now = room.holds there same holds.going (agrees_there view journal s holds.agrees) in
    let folds = at_list (IsFull c.args.journal.now) view c.args.entry.now c.args.given.now
    holds.records room.list is_ready.c is_ready.after room.one is_ready.fold is_ready.push
    (λ full. is_ready.given_fold (subst IsFull (sym is) full))
    (λ full. is_ready.given_push (subst IsFull (sym is) full)) in
    let beside = subst (λ (l : List ℕ).
    AreBeside view.journal.geometry from (length l) is_ready.c.objects
    × (from + length l ≤ view.journal.geometry.area)) (sym body)
    is_ready.beside in
    joins (state old) (state mid) (state c.write_change.new.disk)
    (IsBeforeOrAfter view.journal.layout s command)
    (IsBeforeOrAfter view.journal.layout s command) so_far
    (c.write_change.ensures.any_moment there s room.list is_ready.c is_ready.after from
    view.journal.layout command done same at folds.0 folds.1 beside now.0 now.1
    (λ image of has lies. is_ready.step there.journal room.list image refl folds.0 has of
    (subst (λ (l : List ℕ). slice_range image (area_start view.journal.geometry + from)
    (area_start view.journal.geometry + from + length l) ≡ l) body
    (subst (λ (n : ℕ). slice_range image n (n + length c.args.body.now) ≡ c.args.body.now) at
    lies))))
    (λ image is'. is')

pub returns-clause-ok : goal.returns-clause-ok
returns-clause-ok g c = λ view s command done next from is at body prepared holds.
    let state = g.D.Disk.state in
    let old = c.args.disk.now in
    let mid = c.make_room.new.disk in
    let journal = c.make_room.new.journal in
    let sound = g.met.D.Disk.sound old holds.journal.honest in
    let is_ready = ready view command done next from c.args.entry.now c.args.given.now s (state old)
    prepared sound holds in
    let room = c.in_ok-make_room.ensures.room view s is_ready.c is holds is_ready.fold
    (λ full. is_ready.given_fold (subst IsFull (sym is) full)) in
    let geometry = c.in_ok-make_room.ensures.geometry
    ∙ sym (ap (λ (j : JournalView). j.geometry) is) in
    let there : RepositoryView = with_journal view journal in
    let same : there.journal ≡ journal = ap (λ h. record journal { geometry = h }) (sym geometry) in
    let now = room.holds there same holds.going (agrees_there view journal s holds.agrees) in
    let folds = at_list (IsFull c.args.journal.now) view c.args.entry.now c.args.given.now
    holds.records room.list is_ready.c is_ready.after room.one is_ready.fold is_ready.push
    (λ full. is_ready.given_fold (subst IsFull (sym is) full))
    (λ full. is_ready.given_push (subst IsFull (sym is) full)) in
    let beside = subst (λ (l : List ℕ).
    AreBeside view.journal.geometry from (length l) is_ready.c.objects
    × (from + length l ≤ view.journal.geometry.area)) (sym body)
    is_ready.beside in
    let wrote = c.write_change.ensures.ok there s room.list is_ready.c is_ready.after from
    view.journal.layout command done same at folds.0 folds.1 beside now.0 now.1
    (λ image of has lies. is_ready.step there.journal room.list image refl folds.0 has of
    (subst (λ (l : List ℕ). slice_range image (area_start view.journal.geometry + from)
    (area_start view.journal.geometry + from + length l) ≡ l) body
    (subst (λ (n : ℕ). slice_range image n (n + length c.args.body.now) ≡ c.args.body.now) at
    lies))) in
    let new_geometry = c.write_change.ensures.geometry ∙ geometry in
    on_one c.write_change.result wrote (λ found. (
      found.0,
      found.1,
      λ view' is' going carousel extents. found.2 view' is' going
          (agrees_after view view' command done next from c.args.entry.now c.args.given.now prepared
          (ap (λ (j : JournalView). j.geometry) is' ∙ new_geometry) carousel extents s found.0
          holds.agrees found.1),
    ))

pub returns-in_err-make_room-clause-follows : goal.returns-in_err-make_room-clause-follows
returns-in_err-make_room-clause-follows g c = following.keeps

pub returns-in_err-make_room-clause-rewriting : goal.returns-in_err-make_room-clause-rewriting
returns-in_err-make_room-clause-rewriting g c = rewriting.keeps

pub returns-in_err-make_room-clause-standings : goal.returns-in_err-make_room-clause-standings
returns-in_err-make_room-clause-standings g c = soundness.keeps

pub returns-clause-follows : goal.returns-clause-follows
returns-clause-follows g c = following.keeps

pub returns-clause-rewriting : goal.returns-clause-rewriting
returns-clause-rewriting g c = rewriting.keeps

pub returns-clause-standings : goal.returns-clause-standings
returns-clause-standings g c = soundness.keeps
