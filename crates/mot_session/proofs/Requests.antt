-- Requests of packets on a disk that is only read.
use Rattle.std.proofs.Common.{◌≡◌, ℕ, Bool, List, Option, Some, Result, refl, sym, ap, ◌∙◌, subst}
use Rattle.std.specs.Prelude.{IfOk}
use Rattle.disk_model.specs.Disk.{State}
use Rattle.disk_model.proofs.Laws.{keeps_none, keeps_on, reads_none, reads_on, unchanged_none}
use Rattle.disk_model.proofs.Laws.{unchanged_on}
use Rattle.mot_journal.specs.Image.{Standing}
use Rattle.mot_lines.specs.Text.{played_line}
use Rattle.mot_packets.specs.Packet.{read_packet}
use Rattle.mot_packets.specs.Written.{bytes_of_packet}
use Rattle.mot_player.specs.Laws.{IsStep}
use Rattle.mot_repository.specs.Repository.{RepositoryView, Agrees, Holds}
use Rattle.mot_playout.specs.Runs.{ServerView, place_in}
use Rattle.mot_playout.proofs.Laws.{holds_still}
use Rattle.mot_session.specs.declared.serving.output.WriteFault.{WriteFault}
use Rattle.mot_session.specs.Inner.Writes.{AnswersOne, ReadsAlone, sends}
use Rattle.mot_session.specs.Served.{Writes}
use Rattle.mot_session.specs.LineByLine.{GoesOn}
use Rattle.mot_session.specs.Session.{KeepsCarousel, StandsFor, state_of}

module _ {D : Type 0} (old new : ServerView D) (start now : State)
    (reads : ReadsAlone old new start now)
    (honest : now.IsHonest) where
  -- only the player's place may be another
  pub keeps-read : (s : Standing) → KeepsCarousel (state_of old s start) (state_of new s now)
  keeps-read s = record {
    standing = refl;
    place = refl;
    halted = ap (λ (v : RepositoryView). v.halted) reads.view;
    layout = ap (λ (v : RepositoryView). v.journal.layout) reads.view;
    failures = reads.disk.keeps.later;
  }

  -- what a server's disk holds, it holds when it was only read
  pub holds-read : (s : Standing) → Holds old.view s start → Holds new.view s now
  holds-read s holds =
      holds_still old.view new.view s start now holds honest (reads.disk.unchanged honest)
      reads.view

  -- what a server stands for, it stands for when its disk was only read
  pub stands-read : (s : Standing) → StandsFor old.view s start → StandsFor new.view s now
  stands-read s stands = record {
    agrees = subst (λ v. Agrees v s) (sym reads.view) stands.agrees;
    holds = λ going. holds-read s
        (stands.holds (sym (ap (λ (v : RepositoryView). v.halted) reads.view) ∙ going));
  }

  -- a packet was played, and its line written
  pub AnswersOne-sent : (s : Standing) (packet : List ℕ) (ends : Bool)
      → IsStep (place_in old s) packet ends (place_in new s)
      → (result : Result (Option Bool) WriteFault)
      → IfOk result (λ shown. shown ≡ Some ends) → (text : List ℕ) → text ≡ played_line packet ends
      → (known next : Option (List ℕ)) → Writes result text known next
      → AnswersOne result (state_of old s start) (state_of new s now) known next
  AnswersOne-sent s packet ends step result shown text is known next w = sends step.sent
      (record {
        asked = step.asked;
        read = subst (λ (b : List ℕ). read_packet b ≡ Some step.sent.packet) step.bytes step.reads;
        place = step.place;
        keeps = keeps-read s;
      })
      (subst (λ (b : Bool). IfOk result (λ shown. shown ≡ Some b)) step.ends shown)
      (subst (λ (b : List ℕ). Writes result b known next)
      (is ∙ ap (λ (b : List ℕ). played_line b ends) step.bytes
      ∙ ap (played_line (bytes_of_packet step.sent.packet)) step.ends) w)

-- nothing was read yet
pub reads-none : {D : Type 0} (server : ServerView D) (state : State)
    → ReadsAlone server server state state
reads-none server state = record {
  view = refl;
  disk = reads_none state;
}

-- calls that only read, one after the other, only read
pub reads-more : {D : Type 0} (old mid new : ServerView D) (start between now : State)
    → ReadsAlone old mid start between → ReadsAlone mid new between now
    → ReadsAlone old new start now
reads-more old mid new start between now a b = record {
  view = b.view ∙ a.view;
  disk = reads_on start between now a.disk b.disk;
}

-- nothing was asked yet
pub goes_on-none : {D : Type 0} (server : ServerView D) (state : State)
    → GoesOn server server state state
goes_on-none server state = record {
  keeps = keeps_none state;
  halted = λ is. (refl, λ honest. unchanged_none state);
}

-- what keeps the disk's length and a halted server, one after the other, keeps both
pub goes_on-more : {D : Type 0} (old mid new : ServerView D) (start between now : State)
    → GoesOn old mid start between → GoesOn mid new between now → GoesOn old new start now
goes_on-more old mid new start between now a b = record {
  keeps = keeps_on start between now a.keeps b.keeps;
  halted = λ is.
      let first = a.halted is in
      let then = b.halted (ap (λ (v : RepositoryView). v.halted) first.0 ∙ is) in (
        then.0 ∙ first.0,
        λ honest. unchanged_on start between now (first.1 (b.keeps.was_honest honest))
            (then.1 honest),
      );
}
