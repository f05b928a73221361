-- Steps among which no turn comes.
use Rattle.std.proofs.Common.{◌≡◌, Bool, true, false, List, [], ◌∷◌, refl}
use Rattle.mot_player.specs.Place.{Step, Request, NewTurn, Directory, Follow}
use Rattle.mot_player.specs.Repeats.{keeps_turn}

-- no turn comes
abbrev pub keep_turn : List Step → Bool
keep_turn [] = true
keep_turn (Request ∷ steps) = keep_turn steps
keep_turn (NewTurn turn ∷ steps) = false
keep_turn (Directory ∷ steps) = keep_turn steps
keep_turn (Follow turn ∷ steps) = false

-- the directory is asked for
abbrev pub ask_directory : List Step → Bool
ask_directory [] = false
ask_directory (Request ∷ steps) = ask_directory steps
ask_directory (NewTurn turn ∷ steps) = ask_directory steps
ask_directory (Directory ∷ steps) = true
ask_directory (Follow turn ∷ steps) = ask_directory steps

-- where the directory comes only if it is asked for, no turn comes, and it is asked for
pub keep-turn : (asked : Bool) (steps : List Step) → keeps_turn asked steps ≡ true →
    (keep_turn steps ≡ true) × (asked ≡ false → ask_directory steps ≡ false)
keep-turn asked [] k = (refl, λ f. refl)
keep-turn asked (Request ∷ steps) k = keep-turn asked steps k
keep-turn asked (NewTurn turn ∷ steps) k = absurd (let f : false ≡ true = k in cc)
keep-turn true (Directory ∷ steps) k =
    ((keep-turn true steps k).0, λ f. absurd (let g : true ≡ false = f in cc))
keep-turn false (Directory ∷ steps) k = absurd (let f : false ≡ true = k in cc)
keep-turn asked (Follow turn ∷ steps) k = absurd (let f : false ≡ true = k in cc)
