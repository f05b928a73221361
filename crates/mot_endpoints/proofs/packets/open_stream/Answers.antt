use Rattle.std.proofs.Common.{Err, None, Ok, Option, Some, false, refl, true, ℕ, ◌≡◌, ◌≢◌}
use Rattle.std.specs.Prelude.{is_some}
use Rattle.mot_endpoints.specs.Packets.IsStream.{block, device, pipe, unseen}
use Rattle.mot_endpoints.specs.Placing.Then.{both, refused}
use Rattle.mot_endpoints.proofs.Exits.{err_of}
use Rattle.mot_files.proofs.Laws.{step}
use Rattle.mot_endpoints.proofs.packets.open_stream.Goals as goal

-- the number of a block device that is there, and one that is not
is_there : (number : Option ℕ) → true ≡ is_some number → number ≢ None
is_there None is = absurd (cc (is))
is_there (Some n) is = λ none. cc (none)

is_absent : (number : Option ℕ) → false ≡ is_some number → number ≡ None
is_absent None is = refl
is_absent (Some n) is = absurd (cc (is))

pub returns-in_err-handle : goal.returns-in_err-handle
returns-in_err-handle g c =
    refused c.in_err-handle.field-0.0 (err_of c.from_residual.ensures.1) c.in_err-handle.ensures

pub returns-in_err-found : goal.returns-in_err-found
returns-in_err-found g c =
    both c.in_ok-handle.handle _ c.in_ok-handle.ensures (unseen c.in_err-found.field-0.0
    (err_of c.from_residual-in_err-found.ensures.1) c.in_err-found.ensures)

pub returns-then-is_some : goal.returns-then-is_some
returns-then-is_some g c =
    both c.in_ok-handle.handle _ c.in_ok-handle.ensures (block c.in_ok-found.found
    (is_there c.in_ok-found.found.block c.if-is_some.ensures) refl c.in_ok-found.ensures)

pub returns-in_default : goal.returns-in_default
returns-in_default g c =
    both c.in_ok-handle.handle _ c.in_ok-handle.ensures (device c.in_ok-found.found
    (is_absent c.in_ok-found.found.block c.if-is_some.ensures) c.in_default.not-Pipe refl
    c.in_ok-found.ensures)

pub returns-in_err-lock : goal.returns-in_err-lock
returns-in_err-lock g c =
    both c.in_ok-handle.handle _ c.in_ok-handle.ensures (pipe c.in_ok-found.found
    (Err c.in_err-lock.field-0.0) (is_absent c.in_ok-found.found.block c.if-is_some.ensures)
    c.in-Pipe.is (err_of c.from_residual-in_err-lock.ensures.1)
    (step _ c.in_err-lock.ensures c.in_ok-found.ensures))

pub returns : goal.returns
returns g c =
    both c.in_ok-handle.handle _ c.in_ok-handle.ensures (pipe c.in_ok-found.found (Ok tt)
    (is_absent c.in_ok-found.found.block c.if-is_some.ensures) c.in-Pipe.is refl
    (step _ c.in_ok-lock.ensures c.in_ok-found.ensures))
