-- Whole turns, sent round and round, as a multiplexer plays a file of them.
use Rattle.std.specs.Prelude.{◌≡◌, ℕ, zero, suc, ◌<◌, true, false, List, [], ◌∷◌, ◌++◌, length, map}
use Rattle.std.specs.Prelude.{replicate, flat_map, Some}
use Rattle.mot_player.specs.Continuity.{IsContinuous}
use Rattle.mot_player.specs.Laws.{AreSent}
use Rattle.mot_player.specs.Place.{Place, Sent, Request, opened_place, sent_by}
use Rattle.mot_player.specs.Turn.{Turn}

-- what requests send up to the first that ends a turn
pub record IsWholeTurn (old : Place) (sents : List Sent) (new : Place) : Type 0 where
  pub before : ℕ
  pub steps : sent_by old (Request ∷ replicate before Request) ≡ Some (sents, new)
  pub ends : map (λ (s : Sent). s.ends_turn) sents ≡ replicate before false ++ true ∷ []

-- turns one behind the other, with no change between them
abbrev pub AreWholeTurns : Place → List (List Sent) → Place → Type 0
AreWholeTurns old [] new = new ≡ old
AreWholeTurns old (turn ∷ turns) new =
    (mid : Place) × IsWholeTurn old turn mid × AreWholeTurns mid turns new

-- a list so many times
abbrev pub rounds_of : {A : Type 0} → ℕ → List A → List A
rounds_of zero xs = []
rounds_of (suc n) xs = xs ++ rounds_of n xs

-- The packets of the first sixteen turns, sent so many times, have their continuity indexes.
abbrev pub RoundsAreContinuous : Type 0
RoundsAreContinuous =
    (address room size : ℕ) (turn : Turn) (turns : List (List Sent)) (new : Place)
    (packets : List (List ℕ)) (rounds : ℕ) → 0 < room → length turns ≡ 16 →
    AreWholeTurns (opened_place address room size turn) turns new →
    AreSent (flat_map (λ (sents : List Sent). sents) turns) packets →
    IsContinuous (rounds_of rounds packets)
