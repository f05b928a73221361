-- What answers a request.
use Rattle.std.proofs.Common.{◌≡◌, ℕ, ◌≤◌, inl, inr, Bool, true, false, List, [], ◌∷◌, ◌++◌, Ok}
use Rattle.std.proofs.Common.{Err, Result, refl, sym, ap, ◌∙◌, subst, append-nil}
use Rattle.std.specs.Prelude.{IsTrue, IsFalse, if◌then◌else◌}
use Rattle.disk_model.proofs.Laws.{keeps_none, unchanged_none, unchanged_on, begins, stays, weakens}
use Rattle.disk_model.specs.Disk.{State, IsHonestDisk, IsUnchanged, Throughout}
use Rattle.mot_groups.specs.Group.{bytes_of_group}
use Rattle.mot_journal.specs.declared.layout.Layout.{Layout}
use Rattle.mot_journal.specs.Image.{Standing}
use Rattle.mot_lines.specs.declared.line.Line.{Line}
use Rattle.mot_lines.specs.declared.line.Line.TheVariants as asks
use Rattle.mot_lines.specs.Line.{IsParsed, NeedsMemory, line_of}
use Rattle.mot_numbers.specs.declared.group_kind.GroupKind.{GroupKind}
use Rattle.mot_numbers.specs.declared.refusal.Refusal.{Refusal}
use Rattle.mot_numbers.specs.declared.refusal.Refusal.TheVariants.{OutOfMemory, DeviceFault, Halted}
use Rattle.mot_objects.specs.declared.command.Command.{Command}
use Rattle.mot_objects.specs.declared.command.Done.{Done}
use Rattle.mot_player.specs.Place.{changed}
use Rattle.mot_player.specs.PlayerView as player
use Rattle.mot_player.specs.Turn.{turn_of_carousel}
use Rattle.mot_repository.specs.Answers.{IsAnswered, IsChanged, IsRefusal, accepted, failed}
use Rattle.mot_repository.specs.Answers.{refused}
use Rattle.mot_repository.specs.Answers as repository
use Rattle.mot_repository.specs.Outcome.{after_command}
use Rattle.mot_repository.specs.Repository.{RepositoryView, Agrees, Holds, IsBeforeOrAfter}
use Rattle.mot_playout.specs.Runs.{StandsAfterSome, ServerView, place_in, bodies_of}
use Rattle.mot_playout.proofs.Laws.{after_none, before_or_after, holds_still, more, none_of}
use Rattle.mot_playout.proofs.Laws.{not_halted, not_ok, still_agrees}
use Rattle.mot_session.specs.Session.{raw_group, packets_at, Reply, Answers, IsAnswer}
use Rattle.mot_session.specs.Session.{NeedsCarousel, decided, no_memory, accepts, refuses, fails}
use Rattle.mot_session.specs.Session.{ServerState, StandsFor, Stays, state_of, command_in}
use Rattle.mot_session.specs.Inner.Writes.{Decides, MayWrite, may_be_done, written_by, Crosses}
use Rattle.mot_session.specs.Inner.Writes.{ReadsAlone, may_have_done}
use Rattle.mot_session.specs.Session as session
use Rattle.mot_session.specs.declared.deciding.Decision.{Decision}
use Rattle.mot_session.specs.declared.deciding.Decision.TheVariants.{Refused, Accepted, Listing}
use Rattle.mot_session.specs.declared.deciding.Decision.TheVariants.{Packets, Next, Turn}
use Rattle.mot_session.proofs.Anyhow.{plays-parsed, same_done, same_refusal}
use Rattle.mot_session.proofs.Outcomes.{done_by, failed_by_reply}
use Rattle.mot_session.proofs.Written.{stays-none}

-- ---- a command

module _ {D : Type 0} (old new : ServerView D) (s : Standing) (start now : State) (c : Command)
    (stands : StandsFor old.view s start) (later : start.failures ≤ now.failures) where
  -- it was accepted
  change_of : (done : Done) → IsAnswered old.view new.view start now c (Ok done)
      → IsChanged old.view c done new.view
  change_of done (accepted d e change) =
      subst (λ x. IsChanged old.view c x new.view) (same_done d done e) change
  change_of done (refused refusal e why same still) = absurd (not_ok done refusal (sym e))
  change_of done (failed e going rises halts) = absurd (not_ok done DeviceFault (sym e))

  -- an accepted command's ids answer it, on a server that stands for what it makes
  pub Answers-accepted : (done : Done) → IsAnswered old.view new.view start now c (Ok done)
      → IsFalse old.view.halted → (next : Standing)
      → after_command old.view.journal.layout s c ≡ Ok (next, done) → Holds new.view next now
      → place_in new next ≡ changed (turn_of_carousel next.carousel next.geometry.segment)
      (place_in old s)
      → (last : Standing) × StandsFor new.view last now
      × Answers (state_of old s start) (Ok (asks.Command c)) (session.accepted done)
      (state_of new last now)
  unfolding IsAnswer
  Answers-accepted done answer going next step holds place =
      let change = change_of done answer in (
        next,
        record { agrees = holds.agrees; holds = λ is. holds },
        decided (λ needs. going) (accepts done next refl step (record {
          standing = refl;
          place = place;
          halted = change.halted;
          layout = change.layout;
          failures = later;
        })),
      )

  -- it was refused, and nothing changed
  stays-refused : new.view ≡ old.view → new.player ≡ old.player
      → Stays (state_of old s start) (state_of new s now)
  stays-refused same player_same = record {
    standing = refl;
    place = ap (λ (p : player.PlayerView). player.place_of p (bodies_of s.carousel)) player_same;
    halted = ap (λ (v : RepositoryView). v.halted) same;
    layout = ap (λ (v : RepositoryView). v.journal.layout) same;
    failures = later;
  }

  why-refused : (r : Refusal) → IsRefusal old.view c r
      → Stays (state_of old s start) (state_of new s now)
      → Answers (state_of old s start) (Ok (asks.Command c)) (session.refused r)
      (state_of new s now)
  unfolding IsAnswer
  why-refused r (repository.halted is e) same = session.halted is tt (ap session.refused e) same
  why-refused r (repository.by_rules going fits rules) same =
      decided (λ needs. going) (refuses r refl (rules s stands.agrees) same)
  why-refused r (repository.no_memory going short e) same = no_memory tt (ap session.refused e) same

  -- a refused command's refusal answers it, where its player stays
  pub Answers-refused_command : (r : Refusal) → IsAnswered old.view new.view start now c (Err r)
      → new.player ≡ old.player → now.IsHonest
      → (last : Standing) × StandsFor new.view last now
      × Answers (state_of old s start) (Ok (asks.Command c)) (session.refused r)
      (state_of new last now)
  unfolding IsAnswer
  Answers-refused_command r (accepted d e change) still_player honest = absurd (not_ok d r e)
  Answers-refused_command r (refused x e why same still) still_player honest = (
    s,
    record {
      agrees = subst (λ v. Agrees v s) (sym same) stands.agrees;
      holds = λ is. holds_still old.view new.view s start now
          (stands.holds (subst (λ (v : RepositoryView). IsFalse v.halted) same is)) honest
          still same;
    },
    why-refused r (subst (λ y. IsRefusal old.view c y) (same_refusal r x e) why)
        (stays-refused same still_player),
  )
  Answers-refused_command r (failed e going rises halts) still_player honest = (
    s,
    record {
      agrees = still_agrees old.view new.view s halts stands.agrees;
      holds = λ is. absurd (not_halted new.view.halted halts.halted is);
    },
    decided (λ needs. going) (fails (ap session.refused (sym (same_refusal r DeviceFault e))) rises
        (record {
          standing = refl;
          place =
              ap (λ (p : player.PlayerView). player.place_of p (bodies_of s.carousel)) still_player;
          halted = halts.halted;
          layout = halts.layout;
          failures = later;
        })),
  )

-- ---- what a crash leaves of it

-- nothing changes on the disk
pub crosses-unchanged : (view : RepositoryView) (s : Standing) (start now : State)
    (commands : List Command)
    → IsHonestDisk start → Holds view s start → IsUnchanged start now
    → Throughout start now (StandsAfterSome s [] commands)
crosses-unchanged view s start now commands sound holds still =
    stays start start now (StandsAfterSome s [] commands)
    (begins start (StandsAfterSome s [] commands) sound
    (λ image left. none_of s [] commands s image (after_none s) (holds.each image left))) still.time

-- nothing was asked of the disk
crosses-none : (view : RepositoryView) (s : Standing) (start : State) (commands : List Command)
    → IsHonestDisk start → Holds view s start
    → Throughout start start (StandsAfterSome s [] commands)
crosses-none view s start commands sound holds =
    begins start (StandsAfterSome s [] commands) sound
    (λ image left. none_of s [] commands s image (after_none s) (holds.each image left))

pub writes-none : (view : RepositoryView) (state : State) (commands : List Command)
    → (state.IsHonest → IsHonestDisk state) → MayWrite view view state state commands
writes-none view state commands sound = record {
  crosses = λ s holds. crosses-none view s state commands (sound holds.journal.honest) holds;
  halted = λ is. (refl, unchanged_none state);
  keeps = keeps_none state;
}

tried : (layout : Layout) (s : Standing) (start now : State) (c : Command)
    → Throughout start now (IsBeforeOrAfter layout s c)
    → Throughout start now (StandsAfterSome s [] (c ∷ []))
tried layout s start now c time =
    weakens start now (IsBeforeOrAfter layout s c) (StandsAfterSome s [] (c ∷ [])) time
    (λ image is. before_or_after layout s [] s c image (after_none s) is)

-- during an accepted command a crash leaves the carousel before it or after it
pub crosses-accepted : (layout : Layout) (s : Standing) (start now : State) (c : Command)
    (done : Done)
    → Throughout start now (IsBeforeOrAfter layout s c)
    → Throughout start now (StandsAfterSome s [] (written_by (Accepted done) (Ok (asks.Command c))))
crosses-accepted layout s start now c done time = tried layout s start now c time

-- during a refused one a crash leaves the one before it, or after a fault also the one after
pub crosses-refused : (view view' : RepositoryView) (s : Standing) (start now : State) (c : Command)
    (r : Refusal)
    → IsHonestDisk start → Holds view s start → IsAnswered view view' start now c (Err r)
    → Throughout start now (IsBeforeOrAfter view.journal.layout s c)
    → Throughout start now (StandsAfterSome s [] (written_by (Refused r) (Ok (asks.Command c))))
crosses-refused view view' s start now c r sound holds (accepted d e change) time =
    absurd (not_ok d r e)
crosses-refused view view' s start now c r sound holds (refused x e why same still) time =
    crosses-unchanged view s start now
    (written_by (Refused r) (Ok (asks.Command c))) sound holds still
crosses-refused view view' s start now c r sound holds (failed e going rises halts) time =
    subst (λ x. Throughout start now
    (StandsAfterSome s [] (written_by (Refused x) (Ok (asks.Command c)))))
    (same_refusal r DeviceFault e) (tried view.journal.layout s start now c time)

-- a halted server refuses, and nothing changes
pub stays_halted : (view view' : RepositoryView) (start now : State) (c : Command) (r : Refusal)
    → IsTrue view.halted → IsAnswered view view' start now c (Err r)
    → (view' ≡ view) × IsUnchanged start now
stays_halted view view' start now c r is (accepted d e change) = absurd (not_ok d r e)
stays_halted view view' start now c r is (refused x e why same still) = (same, still)
stays_halted view view' start now c r is (failed e going rises halts) =
    absurd (not_halted view.halted is going)

-- ---- other lines

module _ (state : ServerState) where
  -- a line that is no request is answered with its refusal
  pub Answers-refused : (r : Refusal) → Answers state (Err r) (session.refused r) state
  unfolding IsAnswer
  Answers-refused r = decided (λ needs. absurd needs) (refl, stays-none state)

  -- a list line is answered with the carousel, where the server is not halted
  pub Answers-list : IsFalse state.halted
      → Answers state (Ok asks.List) (session.listing state.standing.carousel) state
  unfolding IsAnswer
  Answers-list going = decided (λ needs. going) (refl, stays-none state)

  -- a raw line is answered with the packets of its group
  pub Answers-raw : (kind : GroupKind) (tid : ℕ) (body group : List ℕ)
      → group ≡ bytes_of_group (raw_group kind tid body)
      → Answers state (Ok (asks.Raw kind tid body))
      (session.packets (packets_at state.standing.geometry group))
      state
  unfolding IsAnswer
  Answers-raw kind tid body group e = decided (λ needs. absurd needs)
      (ap (λ g. session.packets (packets_at state.standing.geometry g)) e, stays-none state)

  -- a halted server shows nothing
  pub Answers-halted : (request : Result Line Refusal) → NeedsCarousel request → IsTrue state.halted
      → Answers state request (session.refused Halted) state
  Answers-halted request needs is = session.halted is needs refl (stays-none state)

-- what is shown or played is decided so, unless the server is halted
pub Decides-shown : (state : ServerState) (request : Result Line Refusal)
    (decision result : Decision)
    → NeedsCarousel request → (IsTrue state.halted → result ≡ Refused Halted)
    → (IsFalse state.halted → result ≡ decision)
    → (IsFalse state.halted → Decides state request decision state)
    → Decides state request result state
Decides-shown state request decision result needs is isnt decides = by_case state.halted refl
  where
    by_case : (b : Bool) → state.halted ≡ b → Decides state request result state
    by_case true e = subst (λ d. Decides state request d state) (sym (is e))
        (Answers-halted state request needs e)
    by_case false e = subst (λ d. Decides state request d state) (sym (isnt e)) (decides e)

-- the line was parsed, or there was no memory for it

module _ (before after : ServerState) where
  answers-no_memory : (reply : Reply) (asked : Result Line Refusal) → NeedsMemory asked
      → Answers before (Err OutOfMemory) reply after → Answers before asked reply after
  unfolding IsAnswer
  answers-no_memory reply asked needs (decided going d) = no_memory needs d.0 d.1
  answers-no_memory reply asked needs (session.halted is n e f) = absurd n
  answers-no_memory reply asked needs (no_memory n e f) = no_memory needs e f

  answers-parsed : (reply : Reply) (request asked : Result Line Refusal) → IsParsed request asked
      → Answers before request reply after → Answers before asked reply after
  answers-parsed reply request asked (inl e) a = subst (λ r. Answers before r reply after) e a
  answers-parsed reply request asked (inr e) a =
      answers-no_memory reply asked e.1 (subst (λ r. Answers before r reply after) e.0 a)

  -- a decision on what was parsed is one on what was asked
  pub Decides-parsed : (decision : Decision) (request asked : Result Line Refusal)
      → IsParsed request asked → Decides before request decision after
      → Decides before asked decision after
  Decides-parsed (Refused r) request asked o d =
      answers-parsed (session.refused r) request asked o d
  Decides-parsed (Accepted a) request asked o d =
      answers-parsed (session.accepted a) request asked o d
  Decides-parsed Listing request asked o d =
      answers-parsed (session.listing after.standing.carousel) request asked o d
  Decides-parsed (Packets group) request asked o d =
      answers-parsed (session.packets (packets_at after.standing.geometry group.items))
      request asked o d
  Decides-parsed (Next count) request asked o d =
      (plays-parsed (asks.Next count) request asked o d.0, d.1, d.2)
  Decides-parsed Turn request asked o d = (plays-parsed asks.Turn request asked o d.0, d.1, d.2)

abbrev empty : Bool → List Command
empty b = if b then [] else []

-- and what was written is of that command
pub written_by-parsed : (decision : Decision) (request asked : Result Line Refusal) (s : Standing)
    (start now : State)
    → IsParsed request asked
    → Throughout start now (StandsAfterSome s [] (written_by decision request))
    → Throughout start now (StandsAfterSome s [] (written_by decision asked))
written_by-parsed decision request asked s start now (inl e) time =
    subst (λ r. Throughout start now (StandsAfterSome s [] (written_by decision r))) e time
written_by-parsed decision request asked s start now (inr e) time =
    weakens start now (StandsAfterSome s [] []) (StandsAfterSome s [] (written_by decision asked))
    (subst (λ l. Throughout start now (StandsAfterSome s [] l)) (nothing (may_be_done decision))
    (subst (λ r. Throughout start now (StandsAfterSome s [] (written_by decision r))) e.0 time))
    (λ image is. more s [] [] (written_by decision asked) image is)
  where
    nothing : (b : Bool) → empty b ≡ []
    nothing true = refl
    nothing false = refl

-- ---- a line

-- what a line may have done, by its reply
line_did : (reply : Reply) (request : Result Line Refusal)
    → (if may_have_done reply then command_in request else [])
    ≡ done_by reply request ++ failed_by_reply reply request
line_did (session.refused r) request = refl
line_did (session.accepted d) request = sym (append-nil (command_in request))
line_did (session.listing c) request = refl
line_did (session.packets ps) request = refl
line_did (session.played sents behind) request = refl

-- what a crash leaves of a line, from what it leaves of its command and of the reply
pub Crosses-line : {D : Type 0} (old mid new : ServerView D) (s : Standing)
    (start between now : State)
    (line : List ℕ) (reply : Reply) (after : ServerState) (decision : Decision)
    (request : Result Line Refusal)
    → StandsFor old.view s start → now.IsHonest → ReadsAlone mid new between now
    → IsParsed request (line_of line) → may_have_done reply ≡ may_be_done decision
    → (Holds old.view s start
    → Throughout start between (StandsAfterSome s [] (written_by decision request)))
    → (IsTrue old.view.halted → IsUnchanged start between)
    → Crosses start now (state_of old s start)
    (record { line = line; reply = reply; after = after })
Crosses-line old mid new s start between now line reply after decision request stands honest reads
    parsed same crossed kept = record {
      going = λ going.
          let first = written_by-parsed decision request (line_of line) s start between parsed
          (crossed (stands.holds going)) in
          let all = stays start between now
          (StandsAfterSome s [] (written_by decision (line_of line))) first
          (reads.disk.unchanged honest).time in
          subst (λ l. Throughout start now (StandsAfterSome s [] l))
          (ap (λ b. if b then command_in (line_of line) else []) (sym same)
          ∙ line_did reply (line_of line)) all;
      halted = λ is. unchanged_on start between now (kept is) (reads.disk.unchanged honest);
    }
