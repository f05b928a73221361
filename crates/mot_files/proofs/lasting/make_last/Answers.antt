use Rattle.std.proofs.Common.{Err, Ok, refl, subst}
use Rattle.mot_files.specs.Lasting.{SyncsPath}
use Rattle.mot_files.specs.Lasting.SyncsFile.{none, tried as tried_file, unnamed}
use Rattle.mot_files.specs.Lasting.MakesLast.{lost, tried}
use Rattle.mot_files.proofs.Laws.{same_error}
use Rattle.mot_files.proofs.lasting.make_last.Goals as goal

pub returns-in_err-named : goal.returns-in_err-named
returns-in_err-named g c =
    lost _ (same_error c.from_residual.result c.from_residual.ensures.1)
    (unnamed _ refl c.in_err-named.ensures)

pub returns-then-not-is_regular : goal.returns-then-not-is_regular
returns-then-not-is_regular g c =
    lost _ refl (none c.in_ok-named.named refl (λ is. let h = c.if-not-is_regular.ensures.1 is in cc)
    c.in_ok-named.ensures)

pub returns-in_err-sync_path : goal.returns-in_err-sync_path
returns-in_err-sync_path g c =
    lost _ (same_error c.from_residual-in_err-sync_path.result c.from_residual-in_err-sync_path.ensures.1)
    (tried_file c.in_ok-named.named (Err c.in_err-sync_path.field-0.0)
    (c.if-not-is_regular.ensures.0 refl) refl
    (subst (λ calls. SyncsPath c.args.path.now (Err c.in_err-sync_path.field-0.0) calls
    (g.S.System.calls c.sync_path.new.system)) c.in_ok-named.ensures c.in_err-sync_path.ensures))

pub returns-in_err-sync_path-2 : goal.returns-in_err-sync_path-2
returns-in_err-sync_path-2 g c =
    tried (Err c.in_err-sync_path-2.field-0.0) (g.S.System.calls c.sync_path.new.system)
    (tried_file c.in_ok-named.named (Ok tt) (c.if-not-is_regular.ensures.0 refl) refl
    (subst (λ calls. SyncsPath c.args.path.now (Ok tt) calls
    (g.S.System.calls c.sync_path.new.system)) c.in_ok-named.ensures c.in_ok-sync_path.ensures))
    (same_error c.from_residual-in_err-sync_path-2.result c.from_residual-in_err-sync_path-2.ensures.1)
    c.in_err-sync_path-2.ensures

pub returns : goal.returns
returns g c =
    tried (Ok tt) (g.S.System.calls c.sync_path.new.system)
    (tried_file c.in_ok-named.named (Ok tt) (c.if-not-is_regular.ensures.0 refl) refl
    (subst (λ calls. SyncsPath c.args.path.now (Ok tt) calls
    (g.S.System.calls c.sync_path.new.system)) c.in_ok-named.ensures c.in_ok-sync_path.ensures))
    refl c.in_ok-sync_path-2.ensures
