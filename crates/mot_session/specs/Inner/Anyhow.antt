-- What a call that answers a request did, on every disk.
use Rattle.std.specs.Prelude.{◌≡◌, ℕ, Bool, List, Option, Some, None, Result, Ok, Err, IfOk}
use Rattle.std.specs.Prelude.{IsFalse}
use Rattle.std.specs.List.{flat_map}
use Rattle.std.specs.Io.KnownBytes.{Appends}
use Rattle.disk_model.specs.Disk.{Rises}
use Rattle.mot_lines.specs.declared.line.Line.{Line}
use Rattle.mot_lines.specs.declared.line.Line.TheVariants as asks
use Rattle.mot_lines.specs.Listing.{listing_text_beside}
use Rattle.mot_lines.specs.Text.{done_line, packet_line, played_line, refusal_line}
use Rattle.mot_numbers.specs.declared.refusal.Refusal.{Refusal}
use Rattle.mot_numbers.specs.declared.refusal.Refusal.TheVariants.{DeviceFault}
use Rattle.mot_repository.specs.Repository.{RepositoryView}
use Rattle.mot_session.specs.declared.deciding.Decision.{Decision}
use Rattle.mot_session.specs.declared.deciding.Decision.TheVariants.{Refused, Accepted, Listing}
use Rattle.mot_session.specs.declared.deciding.Decision.TheVariants.{Packets, Next, Turn}
use Rattle.mot_session.specs.declared.serving.output.WriteFault.{WriteFault}
use Rattle.mot_session.specs.Served.{Writes, WritesFront}
use Rattle.mot_session.specs.OnAnyDisk.{AnswersAnyhow, BeginsAnyhow}
use Rattle.mot_session.specs.Session.{packets_at}

-- a decision answers the request, with the text that it stands for; or it is to play packets, and
-- nothing was done yet
abbrev pub DecidesAnyhow : RepositoryView → RepositoryView → ℕ → ℕ → Result Line Refusal
    → Decision → Type 0
DecidesAnyhow old new before now request (Refused r) =
    AnswersAnyhow old new before now request (refusal_line r)
DecidesAnyhow old new before now request (Accepted d) =
    AnswersAnyhow old new before now request (done_line d)
DecidesAnyhow old new before now request Listing =
    AnswersAnyhow old new before now request (listing_text_beside new.carousel)
DecidesAnyhow old new before now request (Packets group) =
    AnswersAnyhow old new before now request
    (flat_map packet_line (packets_at new.journal.geometry group.items))
DecidesAnyhow old new before now request (Next count) =
    (request ≡ Ok (asks.Next count)) × IsFalse old.halted × (new ≡ old) × (now ≡ before)
DecidesAnyhow old new before now request Turn =
    (request ≡ Ok asks.Turn) × IsFalse old.halted × (new ≡ old) × (now ≡ before)

-- it answered a request, or, after a fault, the reply was broken off
abbrev pub AnswersWithAnyhow : {T : Type 0} → Result T WriteFault → RepositoryView
    → RepositoryView → ℕ → ℕ → Result Line Refusal → Option (List ℕ) → Option (List ℕ) → Type 0
AnswersWithAnyhow (Ok done) old new before now request written then =
    (text : List ℕ) × AnswersAnyhow old new before now request text × Appends written then text
AnswersWithAnyhow (Err fault) old new before now request written then =
    (text : List ℕ) × BeginsAnyhow old new before now request text
    × WritesFront text written then

-- a request of a packet was made, and the line of what came was written: the packet's, with whether
-- it ends the turn, or the device fault's
pub data ShowsOne (result : Result (Option Bool) WriteFault) (before now : ℕ)
    (old new : Option (List ℕ)) : Type 0 where
  shows : (packet : List ℕ) (ends : Bool) → now ≡ before
      → IfOk result (λ shown. shown ≡ Some ends) → Writes result (played_line packet ends) old new
      → ShowsOne result before now old new
  fails : Rises before now → IfOk result (λ shown. shown ≡ None)
      → Writes result (refusal_line DeviceFault) old new → ShowsOne result before now old new
