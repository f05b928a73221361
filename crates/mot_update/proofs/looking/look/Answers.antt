use Rattle.std.proofs.Common.{◌∙◌, ℕ, List, [], refl, sym, ap, subst}
use Rattle.disk_model.proofs.Laws.{keeps_none, keeps_on, unchanged_none}
use Rattle.mot_numbers.proofs.Laws.{same_error}
use Rattle.mot_objects.specs.declared.carousel.Carousel.{Carousel}
use Rattle.mot_playout.specs.Attempts.{fault_of}
use Rattle.mot_update.specs.Looking.{HasSettled, withdraw_all, unknown_names}
use Rattle.mot_update.specs.Told.{TellsSince}
use Rattle.mot_update.specs.Faults.{no_memory}
use Rattle.mot_update.proofs.Answers.{both_nil, both_trans}
use Rattle.mot_update.proofs.Faults.{tells_on}
use Rattle.mot_update.proofs.Looks.{err_of, gives_nil, look_cut, look_on, withdrawals-are}
use Rattle.mot_update.proofs.Looks.{withdrew_cut, withdrew_none}
use Rattle.mot_update.proofs.looking.look.Goals as goal

pub returns-in_err-names-clause-looked : goal.returns-in_err-names-clause-looked
returns-in_err-names-clause-looked g c = λ s holds honest.
    let state = g.D.Disk.state c.args.server.now.disk in
    let old = c.args.server.now in
    let names = g.S.Source.names c.args.source.now in
    let given = g.S.Source.given c.args.source.now in
    let gone = unknown_names names old.view.carousel.objects.items in
    let sound = g.met.D.Disk.sound old.disk honest in
    let e = err_of c.from_residual.result c.from_residual.ensures.0 in
    let fine = g.S.Source.is_fine c.args.source.now in
    let none = withdrew_none old state s fine sound honest (unchanged_none state) holds in
    rw e.1 (
      look_cut old old state state s names gone (g.S.Source.place c.args.source.now) given given
          fine e.0 (withdrawals-are names old.view s holds.agrees) (gives_nil given)
          (withdrew_cut old old state state s gone 0 fine none e.0 sound honest
          (unchanged_none state)),
      both_nil (g.S.Source.was_told c.args.source.now),
    )

pub returns-in_err-withdraw_these-clause-looked : goal.returns-in_err-withdraw_these-clause-looked
returns-in_err-withdraw_these-clause-looked g c = λ s holds honest.
    let state = g.D.Disk.state in
    let old = c.args.server.now in
    let new = c.withdraw_these.new.server in
    let names = g.S.Source.names c.args.source.now in
    let two = c.in_err-withdraw_these.ensures in
    let are = withdrawals-are names old.view s holds.agrees
    ∙ ap (λ (k : Carousel). withdraw_all (unknown_names names k.objects.items))
    (sym c.carousel.ensures.value)
    ∙ ap withdraw_all (sym c.in_ok-names.ensures.names ∙ sym c.deref.ensures.value) in
    let same = same_error c.from_residual-in_err-withdraw_these.result
    c.in_err-withdraw_these.field-0.0 c.from_residual-in_err-withdraw_these.ensures.1 in
    let runs = two.runs s holds honest in
    rw same (
      look_cut old new (state old.disk) (state new.disk) s names c.deref.result.now
          (g.S.Source.place c.args.source.now)
          (g.S.Source.given c.args.source.now) (g.S.Source.given c.withdraw_these.new.source)
          (g.S.Source.is_fine c.withdraw_these.new.source)
          c.in_err-withdraw_these.field-0.0 are two.gives runs.0,
      runs.1,
    )

pub returns-clause-looked : goal.returns-clause-looked
returns-clause-looked g c = λ s holds honest.
    let state = g.D.Disk.state in
    let given = g.S.Source.given in
    let old = c.args.server.now in
    let mid = c.withdraw_these.new.server in
    let new = c.settle_all.new.server in
    let names = g.S.Source.names c.args.source.now in
    let one = c.in_ok-withdraw_these.ensures in
    let two = c.settle_all.ensures in
    let was = two.keeps.was_honest honest in
    let are = withdrawals-are names old.view s holds.agrees
    ∙ ap (λ (k : Carousel). withdraw_all (unknown_names names k.objects.items))
    (sym c.carousel.ensures.value)
    ∙ ap withdraw_all (sym c.in_ok-names.ensures.names ∙ sym c.deref.ensures.value) in
    let runs = one.runs s holds was in
    let told = g.S.Source.was_told in
    let t = runs.0.run.leaves.last in
    let Settles = λ (names : List (List ℕ)) (place : ℕ).
    (settled : HasSettled mid new (state mid.disk) (state new.disk) t names place
    (given c.withdraw_these.new.source) (given c.settle_all.new.source)
    (g.S.Source.is_fine c.settle_all.new.source) (fault_of c.settle_all.result))
    × TellsSince (told c.withdraw_these.new.source) (told c.settle_all.new.source)
    settled.runs.answers settled.wanted in
    let settled : Settles names (g.S.Source.place c.args.source.now) =
    subst (Settles names) one.stays
    (subst (λ n. Settles n (g.S.Source.place c.withdraw_these.new.source)) one.same
    (two.settled t (runs.0.run.leaves.going refl) honest)) in (
      look_on old mid new (state old.disk) (state mid.disk) (state new.disk) s names
          c.deref.result.now (g.S.Source.place c.args.source.now) (given c.args.source.now)
          (given c.withdraw_these.new.source) (given c.settle_all.new.source)
          (g.S.Source.is_fine c.withdraw_these.new.source)
          (g.S.Source.is_fine c.settle_all.new.source) (fault_of c.settle_all.result) are
          one.gives runs.0 two.fine settled.0,
      both_trans (told c.args.source.now) (told c.withdraw_these.new.source)
          (told c.settle_all.new.source) runs.0.answers settled.0.runs.answers [] settled.0.wanted
          runs.1 settled.1,
    )

pub returns-in_err-names-clause-keeps : goal.returns-in_err-names-clause-keeps
returns-in_err-names-clause-keeps g c = keeps_none (g.D.Disk.state c.args.server.now.disk)

pub returns-in_err-names-clause-fine : goal.returns-in_err-names-clause-fine
returns-in_err-names-clause-fine g c = λ e. e

pub returns-in_err-names-clause-faults : goal.returns-in_err-names-clause-faults
returns-in_err-names-clause-faults g c =
    rw (same_error c.from_residual.result c.in_err-names.field-0.0 c.from_residual.ensures.1)
    (no_memory c.in_err-names.ensures.fault refl)

pub returns-in_err-withdraw_these-clause-keeps : goal.returns-in_err-withdraw_these-clause-keeps
returns-in_err-withdraw_these-clause-keeps g c = c.in_err-withdraw_these.ensures.keeps

pub returns-in_err-withdraw_these-clause-fine : goal.returns-in_err-withdraw_these-clause-fine
returns-in_err-withdraw_these-clause-fine g c = c.in_err-withdraw_these.ensures.fine

pub returns-in_err-withdraw_these-clause-faults : goal.returns-in_err-withdraw_these-clause-faults
returns-in_err-withdraw_these-clause-faults g c =
    rw (same_error c.from_residual-in_err-withdraw_these.result
    c.in_err-withdraw_these.field-0.0 c.from_residual-in_err-withdraw_these.ensures.1)
    c.in_err-withdraw_these.ensures.faults

pub returns-clause-keeps : goal.returns-clause-keeps
returns-clause-keeps g c =
    keeps_on _ _ _ c.in_ok-withdraw_these.ensures.keeps c.settle_all.ensures.keeps

pub returns-clause-fine : goal.returns-clause-fine
returns-clause-fine g c = λ e.
    c.in_ok-withdraw_these.ensures.fine (c.settle_all.ensures.fine e)

pub returns-clause-faults : goal.returns-clause-faults
returns-clause-faults g c =
    tells_on _ _ _ _ _ _ c.settle_all.result c.in_ok-withdraw_these.ensures.faults
    c.settle_all.ensures.faults
