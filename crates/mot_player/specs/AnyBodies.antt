-- What is sent on every disk, whatever bytes a read gave: the packets of some bodies of the turn's
-- lengths.
use Rattle.std.specs.Prelude.{◌≡◌, Bool, true, false, List, [], ◌∷◌, ◌++◌, ℕ}
use Rattle.mot_player.specs.Laws.{IsStep}
use Rattle.mot_player.specs.PlayerView.{AreBodiesFor, PlayerView, place_of}

-- a request was answered as if the bodies were these
pub record IsStepOfSome (old : PlayerView) (packet : List ℕ) (ends_turn : Bool)
    (new : PlayerView) : Type 0 where
  pub bodies : List (List ℕ)
  pub sized : AreBodiesFor old.turn bodies
  pub step : IsStep (place_of old bodies) packet ends_turn (place_of new bodies)

-- packets of which none ends the turn
abbrev pub PlaysOn : PlayerView → List (List ℕ) → PlayerView → Type 0
PlaysOn old [] new = new ≡ old
PlaysOn old (packet ∷ packets) new =
    (mid : PlayerView) × IsStepOfSome old packet false mid × PlaysOn mid packets new

-- the packets up to the first that ends the turn
pub record PlaysToTheEnd (old : PlayerView) (packets : List (List ℕ))
    (new : PlayerView) : Type 0 where
  pub before : List (List ℕ)
  pub last : List ℕ
  pub mid : PlayerView
  pub all : packets ≡ before ++ last ∷ []
  pub goes_on : PlaysOn old before mid
  pub ends : IsStepOfSome mid last true new
