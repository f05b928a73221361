use Rattle.std.proofs.Common.{◌≢◌, ℕ, List, refl, rules, sym}
use Rattle.std.specs.Prelude.{codes}
use Rattle.mot_endpoints.specs.Packets.{IsTarget}
use Rattle.mot_endpoints.specs.Packets.OpensInto.{file, output, stream}
use Rattle.mot_endpoints.specs.Packets.OpensPackets.{no_file, no_output, no_place, no_stream, no_turns}
use Rattle.mot_endpoints.specs.Packets.OpensPackets.{ready}
use Rattle.mot_endpoints.specs.declared.packets.Destination.{Destination}
use Rattle.mot_endpoints.specs.declared.packets.Target.{Target}
use Rattle.mot_endpoints.proofs.Exits.{err_of}
use Rattle.mot_endpoints.proofs.packets.open_packets.Goals as goal

-- what is not standard output
elsewhere : (path : List ℕ) (target : Target) → path ≢ codes "-" → target ≢ Target.Output
    → IsTarget path target
elsewhere path target other is = (λ dash. absurd (other dash), λ out. absurd (is out))

pub returns-in_err-handle : goal.returns-in_err-handle
returns-in_err-handle g c = record {
  calls = no_output c.in_err-handle.field-0.0 (err_of c.from_residual.ensures.1) (search rules)
      c.in_err-handle.ensures;
}

pub returns-then-eq : goal.returns-then-eq
returns-then-eq g c = record {
  calls = ready c.in_ok-handle.handle Destination.Output refl (λ is. refl, λ is. search rules)
      (λ is. absurd (cc)) (output c.in_ok-handle.ensures);
}

pub returns-in_err-place : goal.returns-in_err-place
returns-in_err-place g c = record {
  calls = no_place c.in_err-place.field-0.0 (err_of c.from_residual-in_err-place.ensures.1)
      (search rules) c.in_err-place.ensures;
}

pub returns-in-Stream : goal.returns-in-Stream
returns-in-Stream g c = record {
  calls = ready c.in_ok-handle-2.handle Destination.Stream refl
      (elsewhere c.args.path.now Target.Stream (search rules) (λ is. cc)) (λ is. absurd (cc))
      (stream _ (rw c.in-Stream.is at c.in_ok-place.ensures) c.in_ok-handle-2.ensures);
}

pub returns-in_err-handle-2 : goal.returns-in_err-handle-2
returns-in_err-handle-2 g c = record {
  calls = no_stream c.in_err-handle-2.field-0.0 _ (err_of c.from_residual-in_err-handle-2.ensures.1)
      (search rules) (rw c.in-Stream.is at c.in_ok-place.ensures) c.in_err-handle-2.ensures;
}

pub returns-in-Some : goal.returns-in-Some
returns-in-Some g c = record {
  calls = no_turns c.in-Some.fault c.in_ok-place.place refl (search rules) c.in_default.not-Stream
      c.in_ok-place.ensures (sym c.in-Some.ensures.fault);
}

pub returns-in-Ok : goal.returns-in-Ok
returns-in-Ok g c = record {
  calls = ready c.in-Ok.handle (Destination.File c.in-Ok.place) refl
      (elsewhere c.args.path.now Target.File (search rules) (λ is. cc))
      (λ is. c.in_default-fault_of_turns.ensures.asked (search rules))
      (file _ c.in_ok-place.place c.in-Ok.place c.in_default.not-Stream c.in_ok-place.ensures
      c.in-Ok.ensures);
}

pub returns-in-Err : goal.returns-in-Err
returns-in-Err g c = record {
  calls = no_file c.in-Err.fault c.in_ok-place.place _ refl (search rules) c.in_default.not-Stream
      c.in_ok-place.ensures c.in-Err.ensures;
}
