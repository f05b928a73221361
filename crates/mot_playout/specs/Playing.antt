-- What a server plays.
use Rattle.std.specs.Prelude.{ℕ, ◌≡◌, ◌+◌, true, false, List, [], ◌∷◌, ◌++◌, length, map, replicate}
use Rattle.std.specs.Prelude.{IsTrue, IsFalse}
use Rattle.arrayvec.specs.ArrayVec.{ArrayVec}
use Rattle.disk_model.specs.Disk.{Rises}
use Rattle.mot_numbers.specs.declared.refusal.Refusal.{Refusal}
use Rattle.mot_numbers.specs.declared.refusal.Refusal.TheVariants.{OutOfMemory, DeviceFault, Halted}
use Rattle.mot_player.specs.Place.{Place, Sent}
use Rattle.mot_player.specs.Laws.{HasSent, packets_sent}
use Rattle.mot_playout.specs.Runs.{ServerView}

-- the bytes of packets of the program
abbrev pub bytes_of_packets : List (ArrayVec ℕ) → List (List ℕ)
bytes_of_packets packets = map (λ (p : ArrayVec ℕ). p.items) packets

-- the packets of so many requests
pub record HasPlayed (old : Place) (count : ℕ) (packets : List (List ℕ))
    (new : Place) : Type 0 where
  pub sents : List Sent
  pub sent : HasSent old count sents new
  pub bytes : packets ≡ packets_sent sents

-- the packets of requests up to the first that ends a turn
pub record HasPlayedTurn (old : Place) (packets : List (List ℕ)) (new : Place) : Type 0 where
  pub before : ℕ
  pub played : HasPlayed old (before + 1) packets new
  pub ends : map (λ (s : Sent). s.ends_turn) played.sents ≡ replicate before false ++ true ∷ []

-- what playing a turn keeps true until it ends: the packets of the turn so far, none of which ended
-- it
pub record IsGoing (old : Place) (packets : List (List ℕ)) (new : Place) : Type 0 where
  pub played : HasPlayed old (length packets) packets new
  pub going : map (λ (s : Sent). s.ends_turn) played.sents ≡ replicate (length packets) false

-- why a call that only reads the disk is refused; the counts of failures are those before and after
pub data IsReadRefusal {D : Type 0} (old new : ServerView D) (before now : ℕ)
    (refusal : Refusal) : Type 0 where
  halted : IsTrue old.view.halted → refusal ≡ Halted → new ≡ old
      → IsReadRefusal old new before now refusal
  failed : IsFalse old.view.halted → refusal ≡ DeviceFault → Rises before now
      → IsReadRefusal old new before now refusal

-- why no whole turn is played
pub data IsTurnRefusal {D : Type 0} (old new : ServerView D) (before now : ℕ)
    (refusal : Refusal) : Type 0 where
  halted : IsTrue old.view.halted → refusal ≡ Halted → new ≡ old
      → IsTurnRefusal old new before now refusal
  no_memory : IsFalse old.view.halted → refusal ≡ OutOfMemory
      → IsTurnRefusal old new before now refusal
  failed : IsFalse old.view.halted → refusal ≡ DeviceFault → Rises before now
      → IsTurnRefusal old new before now refusal
