-- No more device faults are answered than the disk has.
use Rattle.std.proofs.Common.{◌≡◌, ◌⊎◌, inl, inr, ℕ, ◌+◌, ◌≤◌, Bool, true, false, List, [], ◌∷◌}
use Rattle.std.proofs.Common.{Result, Ok, Err, refl, sym, ap, ◌∙◌, subst, arith}
use Rattle.std.specs.Prelude.{if◌then◌else◌, IsTrue}
use Rattle.disk_model.specs.Disk.{Rises, most_failures}
use Rattle.mot_lines.specs.Line.{line_of}
use Rattle.mot_lines.specs.declared.line.Line.{Line}
use Rattle.mot_lines.specs.declared.line.Line.TheVariants as asks
use Rattle.mot_lines.proofs.Laws.{line_of-no_fault}
use Rattle.mot_numbers.specs.declared.refusal.Refusal.{Refusal}
use Rattle.mot_numbers.specs.declared.refusal.Refusal.TheVariants as refusal
use Rattle.mot_numbers.specs.Refusal.{is_device_fault}
use Rattle.mot_objects.specs.declared.command.Command.{Command}
use Rattle.mot_player.specs.Place.{Sent}
use Rattle.mot_session.specs.Laws.{FaultsAreTheDisks, faults_in, has_fault}
use Rattle.mot_session.specs.Session.{Reply, refused, listing, played, accepted, IsCommandAnswer}
use Rattle.mot_session.specs.Session.{accepts, refuses, fails, IsAnswer, Answers, decided, halted}
use Rattle.mot_session.specs.Session.{no_memory, Session, ServerState}
use Rattle.mot_session.proofs.Crashes.{session-failures}
use Rattle.mot_session.proofs.Outcomes.{answer-failures, refused-fine}

-- the reply has no device fault, or the failures rose
abbrev Counted : ServerState → Reply → ServerState → Type 0
Counted before reply after = (has_fault reply ≡ false) ⊎ Rises before.failures after.failures

module _ (before after : ServerState) (reply : Reply) where
  fine : (is : Reply) → reply ≡ is → has_fault is ≡ false → Counted before reply after
  fine is e f = inl (ap has_fault e ∙ f)

  commanded : (c : Command) → IsCommandAnswer before c reply after → Counted before reply after
  commanded c (accepts d next e outcome a) = fine (accepted d) e refl
  commanded c (refuses r e why s) =
      fine (refused r) e (refused-fine before.layout before.standing c r why)
  commanded c (fails e rises h) = inr rises

  plays : (sents : List Sent) (failed : Bool) → reply ≡ played sents failed
      → (IsTrue failed → Rises before.failures after.failures) → Counted before reply after
  plays sents true e rises = inr (rises refl)
  plays sents false e rises = fine (played sents false) e refl

-- a refusal that is none for a fault of the disk
other-refusal : (r : Refusal) → ((r ≡ refusal.DeviceFault) → ⊥) → is_device_fault r ≡ false
other-refusal refusal.DeviceFault isnt = absurd (isnt refl)
other-refusal r isnt = refl

answered : (before after : ServerState) (line : List ℕ) (request : Result Line Refusal)
    (reply : Reply)
    → line_of line ≡ request → IsAnswer before request reply after → Counted before reply after
unfolding IsAnswer
answered before after line (Err r) reply is a =
    inl (ap has_fault a.0 ∙ other-refusal r (λ e. line_of-no_fault line (is ∙ ap Err e)))
answered before after line (Ok (asks.Command c)) reply is a =
    commanded before after reply c a
answered before after line (Ok asks.List) reply is a =
    fine before after reply (listing before.standing.carousel) a.0 refl
answered before after line (Ok (asks.Raw kind tid body)) reply is a =
    fine before after reply _ a.0 refl
answered before after line (Ok (asks.Next count)) reply is a =
    plays before after reply a.0 a.1 a.2 a.4
answered before after line (Ok asks.Turn) reply is a =
    plays before after reply a.0 a.1 a.2 a.4

counted : (before after : ServerState) (line : List ℕ) (reply : Reply)
    → Answers before (line_of line) reply after → Counted before reply after
counted before after line reply (decided going a) =
    answered before after line (line_of line) reply refl a
counted before after line reply (halted is needs e s) = inl (ap has_fault e)
counted before after line reply (no_memory needs e s) = inl (ap has_fault e)

-- one more reply
adds : (holds : Bool) (before mid after count : ℕ) → before ≤ mid
    → (holds ≡ false) ⊎ Rises before mid
    → (count + mid ≤ after) ⊎ (most_failures ≤ after) → mid ≤ after
    → (((if holds then 1 else 0) + count) + before ≤ after) ⊎ (most_failures ≤ after)
adds holds before mid after count le one (inr most) on = inr most
adds false before mid after count le one (inl rest) on = inl (omega (arith, le, rest))
adds true before mid after count le (inl isnt) (inl rest) on = cc
adds true before mid after count le (inr (inl lt)) (inl rest) on = inl (omega (arith, lt, rest))
adds true before mid after count le (inr (inr most)) (inl rest) on =
    inr (omega (arith, le, on, sym most))

-- replies hold no more device faults than the disk had, unless its count is full
pub faults-are_the_disks : FaultsAreTheDisks
unfolding Session
faults-are_the_disks before [] after s =
    inl (subst (λ (a : ServerState). 0 + before.failures ≤ a.failures) (sym s) (omega arith))
faults-are_the_disks before (x ∷ exchanges) after s =
    let one = answer-failures before x.after (line_of x.line) x.reply s.0 in
    let rest = session-failures x.after exchanges after s.1 in
    adds (has_fault x.reply) before.failures x.after.failures after.failures
    (faults_in exchanges) one (counted before x.after x.line x.reply s.0)
    (faults-are_the_disks x.after exchanges after s.1) rest
