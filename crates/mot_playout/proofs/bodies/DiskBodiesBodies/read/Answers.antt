use Rattle.std.proofs.Common.{◌≡◌, ◌<◌, ◌≤◌, ◌+◌, ℕ, List, length, map, ◌∙◌, sym, ap, subst}
use Rattle.std.proofs.lemmas.List.{length-map}
use Rattle.std.specs.Prelude.{OnOk, slice_range}
use Rattle.mot_numbers.specs.Geometry.{area_start}
use Rattle.mot_player.specs.Turn.{body_at}
use Rattle.mot_repository.specs.OnDisk.{body_on, extent_at}
use Rattle.mot_repository.specs.Repository.{RepositoryView}
use Rattle.mot_playout.proofs.Extents.{bodies_on-lengths, body_at-length, body_at-whole}
use Rattle.mot_playout.specs.Inner.{bodies_on}
use Rattle.mot_playout.proofs.bodies.DiskBodiesBodies.read.Given as given
use Rattle.mot_playout.proofs.bodies.DiskBodiesBodies.read.Goals as goal
use Rattle.mot_playout.proofs.bodies.DiskBodiesBodies.read.Goals.{After-read_body}

-- of the same extents and bytes the bodies are the same
same_bodies : (v w : RepositoryView) (image other : List ℕ) → v ≡ w → image ≡ other
    → bodies_on v.journal.geometry v.extents image ≡ bodies_on w.journal.geometry w.extents other
same_bodies v w image other view bytes =
    ap (λ (x : RepositoryView). bodies_on x.journal.geometry x.extents image) view
    ∙ ap (bodies_on w.journal.geometry w.extents) bytes

pub returns-clause-lengths : goal.returns-clause-lengths
returns-clause-lengths g c =
    let old = c.args.self.now.repository in
    let new = c.read_body.new.self in
    bodies_on-lengths new.view.journal.geometry new.view.extents (g.D.Disk.state new.disk).bytes
    ∙ ap (λ (v : RepositoryView). map (λ (e : ℕ × ℕ). e.1) v.extents) c.read_body.ensures.view
    ∙ sym (bodies_on-lengths old.view.journal.geometry old.view.extents
    (g.D.Disk.state old.disk).bytes)

pub returns-clause-unchanged : goal.returns-clause-unchanged
returns-clause-unchanged g c =
    λ honest. same_bodies _ _ _ _ c.read_body.ensures.view
    (c.read_body.ensures.unchanged honest).bytes

pub returns-clause-was_honest : goal.returns-clause-was_honest
returns-clause-was_honest g c = c.read_body.ensures.keeps.was_honest

pub returns-clause-only_read : goal.returns-clause-only_read
returns-clause-only_read g c = record {
  view = c.read_body.ensures.view;
  keeps = c.read_body.ensures.keeps;
  unchanged = c.read_body.ensures.unchanged;
  cost = c.read_body.ensures.cost.at_most;
}

pub returns-clause-cause : goal.returns-clause-cause
returns-clause-cause g c = c.read_body.ensures.cause

pub returns-clause-refused : goal.returns-clause-refused
returns-clause-refused g c = c.read_body.ensures.fault

-- an honest disk has the whole body that is read of it
on_disk : (g : given.Over) (c : After-read_body g)
    → (g.D.Disk.state c.args.self.now.repository.disk).IsHonest → c.args.body
    < length c.args.self.now.repository.view.extents
    → body_at (bodies_on c.args.self.now.repository.view.journal.geometry
    c.args.self.now.repository.view.extents
    (g.D.Disk.state c.args.self.now.repository.disk).bytes) c.args.body
    ≡ body_on c.args.self.now.repository.view.journal.geometry
    c.args.self.now.repository.view.extents c.args.body
    (g.D.Disk.state c.args.self.now.repository.disk).bytes
on_disk g c honest lt =
    let view = c.args.self.now.repository.view in
    let state = g.D.Disk.state c.args.self.now.repository.disk in
    let sound = g.met.D.Disk.sound c.args.self.now.repository.disk honest in
    let end : ℕ = area_start view.journal.geometry + (extent_at view.extents c.args.body).0
    + (extent_at view.extents c.args.body).1 in
    body_at-whole view.journal.geometry view.extents c.args.body state.bytes lt
    (subst (λ n. end ≤ n) (sym (sound.images state.bytes sound.bytes).len_is)
    c.read_body.ensures.lies)

in_extents : (g : given.Over) (c : After-read_body g) → c.args.body
    < length c.args.self.now.repository.view.extents
in_extents g c = subst (λ n. c.args.body < n)
    (length-map c.args.self.now.repository.view.extents _) c.requires.body

pub returns-clause-bytes : goal.returns-clause-bytes
returns-clause-bytes g c = λ honest.
    let here = (goal.at.returns-clause-bytes g c).After-read_body in
    let was = c.read_body.ensures.keeps.was_honest honest in
    subst (λ (b : List ℕ). OnOk c.read_body.result
    (c.read_body.new.out ≡ slice_range b c.args.from (c.args.from + length c.args.out.now)))
    (sym (on_disk g here was (in_extents g here))) (c.read_body.ensures.read honest)

pub returns-clause-honest : goal.returns-clause-honest
returns-clause-honest g c = λ honest read.
    let here = (goal.at.returns-clause-honest g c).After-read_body in
    c.read_body.ensures.honest honest
    (subst (λ (b : List ℕ). OnOk c.read_body.result
    (c.read_body.new.out ≡ slice_range b c.args.from (c.args.from + length c.args.out.now)))
    (on_disk g here honest (in_extents g here)) read)

pub read_body-requires-clause-place : goal.read_body-requires-clause-place
read_body-requires-clause-place g c =
    subst (λ n. c.args.body < n) (length-map c.args.self.now.repository.view.extents _)
    c.requires.body

pub read_body-requires-clause-within : goal.read_body-requires-clause-within
read_body-requires-clause-within g c =
    let view = c.args.self.now.repository.view in
    let image : List ℕ = (g.D.Disk.state c.args.self.now.repository.disk).bytes in
    let lt : c.args.body < length view.extents =
    subst (λ n. c.args.body < n) (length-map view.extents _) c.requires.body in
    subst (λ n. c.args.from + length c.args.out.now ≤ n)
    (body_at-length view.journal.geometry view.extents c.args.body image lt) c.requires.range
