-- What a request is answered on every disk, whatever the disk holds and however it fails: in
-- the words of what the server keeps in memory.
use Rattle.std.specs.Prelude.{ℕ, ◌≡◌, Bool, true, List, [], ◌∷◌, ◌++◌, Result, Ok, Err, IsTrue}
use Rattle.std.specs.Prelude.{IsFalse, if◌then◌else◌}
use Rattle.std.specs.List.{flat_map}
use Rattle.disk_model.specs.Disk.{Rises}
use Rattle.mot_lines.specs.declared.line.Line.{Line}
use Rattle.mot_lines.specs.declared.line.Line.TheVariants.{Command, Raw, Next, Turn}
use Rattle.mot_lines.specs.declared.line.Line.TheVariants as asks
use Rattle.mot_lines.specs.Listing.{listing_text_beside}
use Rattle.mot_lines.specs.Line.{NeedsMemory}
use Rattle.mot_lines.specs.Text.{done_line, packet_line, refusal_line}
use Rattle.mot_numbers.specs.declared.group_kind.GroupKind.{GroupKind}
use Rattle.mot_numbers.specs.declared.refusal.Refusal.{Refusal}
use Rattle.mot_numbers.specs.declared.refusal.Refusal.TheVariants.{OutOfMemory, BadLine}
use Rattle.mot_numbers.specs.declared.refusal.Refusal.TheVariants.{DeviceFault, Halted}
use Rattle.mot_objects.specs.declared.command.Command as command
use Rattle.mot_objects.specs.declared.command.Done.{Done}
use Rattle.mot_repository.specs.Answers.{IsChanged, IsHalted, IsRefusal}
use Rattle.mot_repository.specs.Repository.{RepositoryView}
use Rattle.mot_session.specs.Session.{raw_packets, NeedsCarousel}
use Rattle.mot_session.specs.Replies.{AreAsked, Shown, ends_of, shown_lines}

-- what a request asks for where a server is only read: no command, and no packets of the carousel
abbrev pub read_only : Result Line Refusal → Result Line Refusal
read_only (Ok (Command c)) = Err BadLine
read_only (Ok (Next count)) = Err BadLine
read_only (Ok Turn) = Err BadLine
read_only request = request

-- What was kept in memory was old and is new, the disk had failed so many times before and now, and
-- the text is the whole reply. The packets of a `next` and a `turn` line are counted: they are all
-- that it asks for, or the disk failed behind some first ones.
pub data AnswersAnyhow (old new : RepositoryView) (before now : ℕ) (request : Result Line Refusal)
    (text : List ℕ) : Type 0 where
  no_request : (r : Refusal) → request ≡ Err r → new ≡ old → text ≡ refusal_line r
      → AnswersAnyhow old new before now request text
  accepted : (c : command.Command) (done : Done) → request ≡ Ok (Command c)
      → IsFalse old.halted → IsChanged old c done new → text ≡ done_line done
      → AnswersAnyhow old new before now request text
  refused : (c : command.Command) (r : Refusal) → request ≡ Ok (Command c) → IsRefusal old c r
      → new ≡ old → text ≡ refusal_line r → AnswersAnyhow old new before now request text
  failed : (c : command.Command) → request ≡ Ok (Command c) → IsFalse old.halted
      → Rises before now → IsHalted old new → text ≡ refusal_line DeviceFault
      → AnswersAnyhow old new before now request text
  listed : request ≡ Ok asks.List → IsFalse old.halted → new ≡ old
      → text ≡ listing_text_beside old.carousel → AnswersAnyhow old new before now request text
  raw : (kind : GroupKind) (tid : ℕ) (body : List ℕ) → request ≡ Ok (Raw kind tid body)
      → new ≡ old
      → text ≡ flat_map packet_line (raw_packets old.journal.geometry kind tid body)
      → AnswersAnyhow old new before now request text
  played : (shown : List Shown) (failed : Bool) → NeedsCarousel request → IsFalse old.halted
      → new ≡ old → AreAsked old.journal.geometry request failed (ends_of shown)
      → (IsTrue failed → Rises before now)
      → text ≡ shown_lines shown ++ (if failed then refusal_line DeviceFault else [])
      → AnswersAnyhow old new before now request text
  halted : IsTrue old.halted → NeedsCarousel request → new ≡ old → text ≡ refusal_line Halted
      → AnswersAnyhow old new before now request text
  no_memory : NeedsMemory request → new ≡ old → text ≡ refusal_line OutOfMemory
      → AnswersAnyhow old new before now request text

-- the whole reply was made; or some first packets of a `next` or a `turn` line's, and those before
-- the last of them are not all
pub data BeginsAnyhow (old new : RepositoryView) (before now : ℕ) (request : Result Line Refusal)
    (text : List ℕ) : Type 0 where
  whole : AnswersAnyhow old new before now request text
      → BeginsAnyhow old new before now request text
  begun : (shown : List Shown) (last : Shown) → NeedsCarousel request → IsFalse old.halted
      → new ≡ old → AreAsked old.journal.geometry request true (ends_of shown)
      → text ≡ shown_lines (shown ++ last ∷ []) → BeginsAnyhow old new before now request text
