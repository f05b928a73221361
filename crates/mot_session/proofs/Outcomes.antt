-- What one line makes of the carousel.
use Rattle.std.proofs.Common.{◌≡◌, ◌≤◌, Bool, true, false, List, [], ◌∷◌, Result, Ok, Err, refl, ap}
use Rattle.std.proofs.Common.{◌∙◌, subst, sym}
use Rattle.std.specs.Prelude.{IsTrue, IsFalse, if◌then◌else◌}
use Rattle.disk_model.specs.Disk.{Rises}
use Rattle.mot_journal.specs.declared.layout.Layout.{Layout}
use Rattle.mot_journal.specs.Image.{Standing}
use Rattle.mot_lines.specs.declared.line.Line.{Line}
use Rattle.mot_lines.specs.declared.line.Line.TheVariants as asks
use Rattle.mot_numbers.specs.declared.refusal.Refusal.{Refusal}
use Rattle.mot_numbers.specs.declared.refusal.Refusal.TheVariants.{OutOfMemory, Halted}
use Rattle.mot_numbers.specs.Refusal.{is_device_fault}
use Rattle.mot_objects.specs.declared.command.Command as command
use Rattle.mot_objects.specs.declared.command.Done.{Done}
use Rattle.mot_repository.specs.Outcome.{after_command}
use Rattle.mot_repository.proofs.Laws.{refused_so}
use Rattle.mot_session.specs.Session.{Reply, refused, listing, packets, played, IsCommandAnswer}
use Rattle.mot_session.specs.Session.{accepts, refuses, fails, IsAnswer, Answers, decided, halted}
use Rattle.mot_session.specs.Session.{no_memory, PlaysForRequest, ServerState, command_in}
use Rattle.mot_session.specs.Served.{Begins, whole, begun}
use Rattle.mot_player.specs.Place.{Sent}
use Rattle.mot_session.specs.Session as session
use Rattle.mot_session.specs.Inner.Writes.{is_accepting, is_failing}

-- nothing is done; a command is done; or the disk fails, and the server is halted
pub data Outcome (before after : ServerState) (done failed : List command.Command) : Type 0 where
  nothing : done ≡ [] → failed ≡ [] → after.standing ≡ before.standing
      → after.halted ≡ before.halted → Outcome before after done failed
  one : (c : command.Command) (d : Done) → done ≡ c ∷ [] → failed ≡ [] → IsFalse before.halted
      → after.halted ≡ before.halted
      → after_command before.layout before.standing c ≡ Ok (after.standing, d)
      → Outcome before after done failed
  halts : done ≡ [] → IsFalse before.halted → IsTrue after.halted
      → after.standing ≡ before.standing → Rises before.failures after.failures
      → Outcome before after done failed

-- the command of a request, where the reply accepts it
abbrev pub done_by : Reply → Result Line Refusal → List command.Command
done_by reply request = if is_accepting reply then command_in request else []

-- the command of a request, where the reply is a device fault
abbrev pub failed_by_reply : Reply → Result Line Refusal → List command.Command
failed_by_reply reply request = if is_failing reply then command_in request else []

abbrev empty : Bool → List command.Command
empty b = if b then [] else []

no_command : (b : Bool) → empty b ≡ []
no_command true = refl
no_command false = refl

module _ (before after : ServerState) (request : Result Line Refusal) where
  -- nothing but time goes on
  unchanged : (reply : Reply) → is_accepting reply ≡ false → is_failing reply ≡ false
      → after.standing ≡ before.standing → after.halted ≡ before.halted
      → Outcome before after (done_by reply request) (failed_by_reply reply request)
  unchanged reply isnt fine standing same = nothing
      (ap (λ b. if b then command_in request else []) isnt)
      (ap (λ b. if b then command_in request else []) fine) standing same

  unchanged_so : (reply is : Reply) → reply ≡ is → is_accepting is ≡ false → is_failing is ≡ false
      → after.standing ≡ before.standing → after.halted ≡ before.halted
      → Outcome before after (done_by reply request) (failed_by_reply reply request)
  unchanged_so reply is e isnt fine standing same =
      unchanged reply (ap is_accepting e ∙ isnt) (ap is_failing e ∙ fine) standing same

-- what a command comes to is no fault of the disk
pub refused-fine : (layout : Layout) (s : Standing) (c : command.Command) (refusal : Refusal)
    → after_command layout s c ≡ Err refusal → is_device_fault refusal ≡ false
refused-fine layout s c refusal e = refused_so layout s c (λ r. is_device_fault r ≡ false)
    refl refl refl refl refl refusal e

commanded : (before after : ServerState) (c : command.Command) (reply : Reply)
    → IsFalse before.halted
    → IsCommandAnswer before c reply after
    → Outcome before after (done_by reply (Ok (asks.Command c)))
    (failed_by_reply reply (Ok (asks.Command c)))
commanded before after c reply going (accepts d next e outcome a) = one c d
    (ap (λ (r : Reply). done_by r (Ok (asks.Command c))) e)
    (ap (λ (r : Reply). failed_by_reply r (Ok (asks.Command c))) e)
    going a.halted (subst (λ n. after_command before.layout before.standing c ≡ Ok (n, d))
    (sym a.standing) outcome)
commanded before after c reply going (refuses refusal e why stays) =
    unchanged_so before after (Ok (asks.Command c)) reply (refused refusal) e refl
    (refused-fine before.layout before.standing c refusal why) stays.standing
    stays.halted
commanded before after c reply going (fails e rises h) = halts
    (ap (λ (r : Reply). done_by r (Ok (asks.Command c))) e) going h.halted h.standing rises

plays : (before after : ServerState) (request : Result Line Refusal) (reply : Reply)
    (sents : List Sent) (some failed : Bool) → reply ≡ played sents failed
    → PlaysForRequest before request some sents after
    → Outcome before after (done_by reply request) (failed_by_reply reply request)
plays before after request reply sents some failed e p = unchanged_so before after request reply
    (played sents failed) e refl refl p.keeps.standing p.keeps.halted

answered : (before after : ServerState) (request : Result Line Refusal) (reply : Reply)
    → (session.NeedsCarousel request → IsFalse before.halted) → IsAnswer before request reply after
    → Outcome before after (done_by reply request) (failed_by_reply reply request)
unfolding IsAnswer
answered before after (Err r) reply going a = nothing (no_command (is_accepting reply))
    (no_command (is_failing reply)) a.1.standing a.1.halted
answered before after (Ok (asks.Command c)) reply going a =
    commanded before after c reply (going tt) a
answered before after (Ok asks.List) reply going a = nothing (no_command (is_accepting reply))
    (no_command (is_failing reply)) a.1.standing a.1.halted
answered before after (Ok (asks.Raw kind tid body)) reply going a =
    nothing (no_command (is_accepting reply)) (no_command (is_failing reply)) a.1.standing
    a.1.halted
answered before after (Ok (asks.Next count)) reply going a =
    plays before after (Ok (asks.Next count)) reply a.0 a.1 a.1 a.2 a.3
answered before after (Ok asks.Turn) reply going a =
    plays before after (Ok asks.Turn) reply a.0 a.1 a.1 a.2 a.3

-- an answer leaves the carousel, makes one command's, or halts on a disk that fails
pub outcome : (before after : ServerState) (request : Result Line Refusal) (reply : Reply)
    → Answers before request reply after
    → Outcome before after (done_by reply request) (failed_by_reply reply request)
outcome before after request reply (decided going a) = answered before after request reply going a
outcome before after request reply (halted is needs e s) =
    unchanged_so before after request reply (refused Halted) e refl refl s.standing
    s.halted
outcome before after request reply (no_memory needs e s) =
    unchanged_so before after request reply (refused OutOfMemory) e refl refl s.standing
    s.halted

-- also where its reply was broken off
pub begun_outcome : (before after : ServerState) (request : Result Line Refusal) (reply : Reply)
    → Begins before request reply after
    → Outcome before after (done_by reply request) (failed_by_reply reply request)
begun_outcome before after request reply (whole a) = outcome before after request reply a
begun_outcome before after request reply (begun sents going e p) =
    plays before after request reply sents true false e p

-- ---- failures

module _ (before after : ServerState) where
  command-failures : (c : command.Command) (reply : Reply) → IsCommandAnswer before c reply after
      → before.failures ≤ after.failures
  command-failures c reply (accepts d next e outcome a) = a.failures
  command-failures c reply (refuses refusal e why stays) = stays.failures
  command-failures c reply (fails e rises h) = h.failures

  decided-failures : (request : Result Line Refusal) (reply : Reply)
      → IsAnswer before request reply after → before.failures ≤ after.failures
  unfolding IsAnswer
  decided-failures (Err r) reply a = a.1.failures
  decided-failures (Ok (asks.Command c)) reply a = command-failures c reply a
  decided-failures (Ok asks.List) reply a = a.1.failures
  decided-failures (Ok (asks.Raw kind tid body)) reply a = a.1.failures
  decided-failures (Ok (asks.Next count)) reply a = a.3.keeps.failures
  decided-failures (Ok asks.Turn) reply a = a.3.keeps.failures

  -- behind an answer the disk has failed as often as before it, or more often
  pub answer-failures : (request : Result Line Refusal) (reply : Reply)
      → Answers before request reply after → before.failures ≤ after.failures
  answer-failures request reply (decided going a) = decided-failures request reply a
  answer-failures request reply (halted is needs e s) = s.failures
  answer-failures request reply (no_memory needs e s) = s.failures
