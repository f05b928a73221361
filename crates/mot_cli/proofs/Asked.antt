-- What words ask for in a command line.
use Rattle.std.proofs.Common.{◌≡◌, ◌≢◌, ◌∙◌, true, List, Option, Some, None, Result, Ok, Err, refl}
use Rattle.std.proofs.Common.{sym, subst, inl, inr}
use Rattle.std.specs.Prelude.{IfErr, option_map}
use Rattle.std.specs.Box.{box_value}
use Rattle.clap.specs.Words.{App, FailsBy, HasKind, HasMatchesOf, IsAmong, Kinds, Row, Text}
use Rattle.clap.specs.Words.{fault_of, found_of, is_simple, kind_of, rows_of, subcommand_of}
use Rattle.clap.specs.Words.{subcommand_name_of, subcommand_rows_of}
use Rattle.clap.specs.declared.error.Error.{Error}
use Rattle.clap.specs.declared.error.ErrorKind.TheVariants.{DisplayHelp, OutOfMemory}
use Rattle.clap.specs.declared.parser.matches.ArgMatches.{ArgMatches}
use Rattle.clap.specs.declared.parser.matches.ArgMatches.TheViews.{out-ArgMatches, out-SubCommand}
use Rattle.mot_cli.specs.Given.{AreWrong, AskBy, AskForHelp}

-- a fault of the words is of one of their kinds
pub fault_kind : {T : Type 0} (kinds : Kinds) (r : Result T Error) → FailsBy kinds r
    → IfErr r (HasKind kinds)
fault_kind kinds (Ok m) fails = tt
fault_kind kinds (Err e) fails = fails

-- a name and rows that were found apart were found together
found_together : {X A B : Type 0} (f : X → A) (h : X → B) (o : Option X) (a : A) (b : B)
    → Some a ≡ option_map f o
    → Some b ≡ option_map (λ (p : A × B). p.1) (option_map {U = A × B} (λ x. (f x, h x)) o)
    → option_map {U = A × B} (λ x. (f x, h x)) o ≡ Some (a, b)
found_together f h None a b e k = absurd (cc)
found_together f h (Some x) a b e k = cc

Some-inj : {A : Type 0} {x y : A} → Some x ≡ Some y → x ≡ y
Some-inj e = cc

none_found : {A B : Type 0} (f : A → B) (o : Option A) → None ≡ option_map f o → None ≡ o
none_found f None e = refl
none_found f (Some x) e = absurd (cc)

module _ (app : App) (words : List Text) where
  -- ---- what was matched
  rows_matched : is_simple app ≡ true → (m : ArgMatches) → HasMatchesOf app words m
      → subcommand_rows_of m ≡ subcommand_of app words
  rows_matched simple m h = (h simple).1

  -- words that match a subcommand ask for what it does with its rows
  pub AskBy-matched : {T : Type 0} (IsTask : Text → List Row → T → Type 0)
      → is_simple app ≡ true → (m : ArgMatches) (name : Text) (rows : List Row)
      → HasMatchesOf app words m → Some name ≡ subcommand_name_of m
      → Some rows ≡ option_map (λ p. p.1) (subcommand_rows_of m)
      → AskBy app IsTask name rows words
  AskBy-matched IsTask simple m name rows h n r = λ task.
      let found : subcommand_of app words ≡ Some (name, rows) =
      sym (rows_matched simple m h)
      ∙ found_together (λ b. (out-SubCommand (box_value b)).name.now)
      (λ b. rows_of (found_of (out-SubCommand (box_value b)).matches))
      (out-ArgMatches m).subcommand name rows n r in (
        λ asked. subst (λ (p : Text × List Row). IsTask p.0 p.1 task)
            (Some-inj (sym asked.matched ∙ found)) asked.is_task,
        λ is. record { name = name; rows = rows; matched = found; is_task = is },
      )

  -- words that match the program but name no subcommand are wrong
  pub AreWrong-none : is_simple app ≡ true → (m : ArgMatches) → HasMatchesOf app words m
      → None ≡ option_map (λ (p : Text × List Row). p.1) (subcommand_rows_of m)
      → AreWrong app words
  AreWrong-none simple m h r =
      inr (sym (none_found (λ (p : Text × List Row). p.1) (subcommand_rows_of m) r
      ∙ rows_matched simple m h))

  -- words that the parser answers with help ask for help
  pub AskForHelp-shown : (e : Error) → HasKind (fault_of app words) e
      → kind_of e ≡ DisplayHelp → AskForHelp app words
  AskForHelp-shown e (inl h) k = absurd (cc)
  AskForHelp-shown e (inr h) k = subst (λ x. IsAmong x (fault_of app words)) k h

  -- words that it answers with any other fault, but want of memory, are wrong
  pub AreWrong-fault : (e : Error) → HasKind (fault_of app words) e
      → kind_of e ≢ DisplayHelp → kind_of e ≢ OutOfMemory → AreWrong app words
  AreWrong-fault e (inl h) k m = absurd (m h)
  AreWrong-fault e (inr h) k m = inl (kind_of e, k, h)
