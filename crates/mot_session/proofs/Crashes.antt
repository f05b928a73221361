-- What a crash leaves of a session, line by line.
use Rattle.std.proofs.Common.{ℕ, ◌≤◌, ◌⊎◌, inl, inr, Bool, true, false, List, [], ◌∷◌, refl, sym}
use Rattle.std.proofs.Common.{subst, arith}
use Rattle.std.specs.Prelude.{IsTrue, IsFalse}
use Rattle.mot_journal.specs.Image.{Standing}
use Rattle.mot_lines.specs.Line.{line_of}
use Rattle.mot_objects.specs.declared.command.Command.{Command}
use Rattle.mot_playout.specs.Runs.{IsAfter, StandsAfterSome}
use Rattle.mot_playout.proofs.Laws.{after_none, after_one, after_history_none}
use Rattle.mot_session.specs.Session.{Exchange, Session, ServerState}
use Rattle.mot_session.specs.Inner.Writes.{accepted_in, failed_in}
use Rattle.mot_session.proofs.Outcomes.{Outcome, answer-failures, halts, nothing, one}

-- ---- a session, from its lines

module _ (before : ServerState) (x : Exchange) where
  -- the command that a reply accepts makes the standing after it of the one before
  pub made : Outcome before x.after (accepted_in x) (failed_in x)
      → IsAfter before.standing (accepted_in x) x.after.standing
  made (nothing none fine standing same) =
      subst (λ l. IsAfter before.standing l x.after.standing) (sym none)
      (subst (λ s. IsAfter before.standing [] s) (sym standing) (after_none before.standing))
  made (one c d is fine going same step) =
      subst (λ l. IsAfter before.standing l x.after.standing) (sym is)
      (after_one before.layout before.standing [] before.standing x.after.standing c d
      (after_none before.standing) step)
  made (halts none going is standing rises) =
      subst (λ l. IsAfter before.standing l x.after.standing) (sym none)
      (subst (λ s. IsAfter before.standing [] s) (sym standing) (after_none before.standing))

-- what a crash leaves of commands behind others
pub behind : (s now : Standing) (done others : List Command) (image : List ℕ) → IsAfter s done now
    → StandsAfterSome now [] others image → StandsAfterSome s done others image
behind s now done others image after left = record {
  last = left.last;
  after = after_history_none s now left.last done others after left.after;
  image_is = left.image_is;
}

-- behind a session the disk has failed as often as before it, or more often
pub session-failures : (before : ServerState) (xs : List Exchange) (after : ServerState)
    → Session before xs after → before.failures ≤ after.failures
unfolding Session
session-failures before [] after s =
    subst (λ (a : ServerState). before.failures ≤ a.failures) (sym s) (omega arith)
session-failures before (x ∷ xs) after s =
    let first = answer-failures before x.after (line_of x.line) x.reply s.0 in
    let rest = session-failures x.after xs after s.1 in
    omega (arith, first, rest)

-- a server is halted, or it is not
pub halted_or_not : (b : Bool) → IsTrue b ⊎ IsFalse b
halted_or_not true = inl refl
halted_or_not false = inr refl
