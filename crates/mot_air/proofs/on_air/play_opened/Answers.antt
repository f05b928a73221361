use Rattle.std.proofs.Common.{◌≡◌, ◌⊎◌, List, ℕ, Result, Ok, Err, ap, inl, inr, subst, sym}
use Rattle.std.proofs.Common.{Option, Some}
use Rattle.disk_model.specs.Disk.{State}
use Rattle.mot_air.specs.Directory.{IsFrame}
use Rattle.mot_air.specs.Playing.{Plays, Tale}
use Rattle.mot_feed.specs.declared.manner.Manner.{Manner}
use Rattle.mot_air.specs.Commands.{EndsSending, PlaysInto}
use Rattle.mot_air.specs.Telling.{EndsReading}
use Rattle.mot_air.proofs.Behind.{frame_behind}
use Rattle.mot_air.proofs.on_air.play_opened.Goals as goal
use Rattle.mot_endpoints.specs.Packets.{destination_of, target_of}
use Rattle.mot_endpoints.specs.declared.packets.Target.{Target}
use Rattle.mot_endpoints.specs.declared.packets.Target.TheVariants.{File}
use Rattle.mot_numbers.specs.declared.refusal.Refusal.{Refusal}
use Rattle.mot_numbers.specs.declared.refusal.Refusal.TheVariants.{WriteFault}
use Rattle.mot_playout.specs.Attempts.{fault_of}

-- what was played took its place, or did not
placed : (target : Target) (tale : Tale) (Reads : Option Refusal → Type 0) (how : Manner)
    (begun taken : List (List ℕ)) (start now : State) (a b : Result Unit Refusal)
    → (b ≡ a) ⊎ ((target ≡ File) × (a ≡ Ok tt) × (b ≡ Err WriteFault))
    → Plays tale how (fault_of a) (Some begun) (Some taken) start now → Reads (fault_of a)
    → PlaysInto target tale Reads how (fault_of b) begun taken start now
placed target tale Reads how begun taken start now a b came plays read =
    elim came [
      | inl is ↦ inl (
        subst (λ (r : Result Unit Refusal). Plays tale how (fault_of r) (Some begun) (Some taken)
            start now) (sym is) plays,
        subst (λ (r : Result Unit Refusal). Reads (fault_of r)) (sym is) read,
      )
      | inr lost ↦ inr (
        lost.0,
        ap (λ (r : Result Unit Refusal). fault_of r) lost.2,
        subst (λ (r : Result Unit Refusal). Plays tale how (fault_of r) (Some begun) (Some taken)
            start now) lost.1 plays,
        subst (λ (r : Result Unit Refusal). Reads (fault_of r)) lost.1 read,
      )
    ]

-- and so its frame is that of playing
frame_placed : (rate : Option ℕ) (target : Target) (frame : ℕ) (start now : State)
    (a b : Result Unit Refusal) → (b ≡ a) ⊎ ((target ≡ File) × (a ≡ Ok tt) × (b ≡ Err WriteFault))
    → IsFrame rate frame (fault_of a) start now → IsFrame rate frame (fault_of b) start now
frame_placed rate target frame start now a b (inl is) found =
    subst (λ (r : Result Unit Refusal). IsFrame rate frame (fault_of r) start now) (sym is) found
frame_placed rate target frame start now a b (inr lost) found =
    frame_behind rate frame (fault_of b) start now now (λ honest. honest)
    (subst (λ (r : Result Unit Refusal). IsFrame rate frame (fault_of r) start now) lost.1 found)

pub returns : goal.returns
returns g c =
    let told = c.air-ended.ensures in
    let end = c.air-ended.result in
    let came = c.placed-result.ensures.came in
    let target = target_of c.args.opened in
    let sent = c.placed-result.ensures.sent in
    let hands = told.2 in record {
      played = (
        hands.0,
        hands.1,
        (
          hands.2.0,
          record {
            sent = g.P.System.calls c.air-ended.new.outlet.system;
            then_handle = c.air-ended.new.outlet.handle;
            played = (
              told.0,
              frame_placed c.args.airing.task.rate target told.0 _ _ end.ended.result
                  c.placed-result.result.0 came told.1,
              placed target _ (λ ended. EndsReading ended hands.2.0 end.beside.lines.all) _ _ _ _ _
                  end.ended.result c.placed-result.result.0 came hands.2.1.1 hands.2.1.0,
            );
            told = sent.0;
            fault = sent.1;
            cause = sent.2;
            reason = sent.3;
            ended = subst (EndsSending (destination_of c.args.opened) c.air-ended.new.outlet.handle
                (fault_of c.placed-result.result.0) sent.0) (sym c.into_calls.ensures) sent.4;
          },
        ),
      );
    }
