-- One more behind those that were put into a command in turn.
use Rattle.std.proofs.Common.{◌≡◌, ◌<◌, ◌+◌, ◌∙◌, ℕ, List, [], ◌∷◌, ◌++◌, ap, get_or, length, refl}
use Rattle.std.proofs.Common.{sym, take}
use Rattle.std.proofs.lemmas.List.{take_more}
use Rattle.clap.specs.Words.{App}
use Rattle.mot_cli.specs.Inner.{with_all}

module _ {X : Type 0} (with_one : App → X → App) where
  behind : (app : App) (xs : List X) (x : X)
      → with_all with_one app (xs ++ x ∷ []) ≡ with_one (with_all with_one app xs) x
  behind app [] x = refl
  behind app (y ∷ ys) x = behind (with_one app y) ys x

  -- with the one that stands at the next place, it has all up to there
  pub one_more : (app : App) (xs : List X) (i : ℕ) (default : X) → i < length xs
      → (before after : App) → before ≡ with_all with_one app (take i xs)
      → after ≡ with_one before (get_or xs i default)
      → after ≡ with_all with_one app (take (i + 1) xs)
  one_more app xs i default below before after made added =
      added ∙ ap (λ a. with_one a (get_or xs i default)) made
      ∙ sym (ap (with_all with_one app) (take_more xs i default below)
      ∙ behind app (take i xs) (get_or xs i default))
