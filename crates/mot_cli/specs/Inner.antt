use Rattle.std.specs.Prelude.{◌≡◌, ℕ, false, true, IfOk, List, [], ◌∷◌, Result, Option, Some, None}
use Rattle.clap.specs.Words.{App, Rule, Text, app_of, fault_of, is_simple_and_free, matches_of}
use Rattle.clap.specs.Words.{new_app, subcommand_of, with_rule, with_subcommand}
use Rattle.clap.specs.declared.builder.Command.{Command}
use Rattle.clap.specs.declared.builder.Command.TheViews.{out-Command}
use Rattle.mot_cli.specs.Command.{motcar_app}
use Rattle.mot_cli.specs.Parts.{flag_rule, motcar_top, number_rule, path_rule, word_rule}
use Rattle.mot_cli.specs.Parts.{words_rule}
use Rattle.mot_cli.specs.declared.parts.Argument.{Argument}
use Rattle.mot_cli.specs.declared.parts.Kind.TheVariants.{Word, Words, Path, Number, Flag}
use Rattle.mot_cli.specs.declared.parts.Kind.{Kind}
use Rattle.mot_cli.specs.declared.parts.Verb.{Verb}

-- A command line that is put together of rows.

-- where there was memory for it, it is this one, and no argument of it is for all levels
abbrev pub IsMade : {E : Type 0} → App → Result Command E → Type 0
IsMade app made =
    IfOk made (λ command. (app_of command ≡ app) × ((out-Command command).has_globals ≡ false))

-- each in turn, behind what a command has
abbrev pub with_all : {X : Type 0} → (App → X → App) → App → List X → App
with_all with_one app [] = app
with_all with_one app (x ∷ xs) = with_all with_one (with_one app x) xs

-- what an argument of this name is
abbrev pub rule_of_kind : Kind → List ℕ → Rule
rule_of_kind Word name = word_rule name
rule_of_kind Words name = words_rule name
rule_of_kind (Path value) name = path_rule name
rule_of_kind (Number value) name = number_rule name
rule_of_kind Flag name = flag_rule name

abbrev pub rule_for : Argument → Rule
rule_for argument = rule_of_kind argument.kind argument.name.now

abbrev pub with_argument : App → Argument → App
with_argument app argument = with_rule app (rule_for argument)

-- the command of a row
abbrev pub verb_app : Verb → App
verb_app verb = with_all with_argument (new_app verb.name.now) verb.arguments.now

abbrev pub with_verb : App → Verb → App
with_verb app verb = with_subcommand app (verb_app verb).top

-- the program with no command yet, and the command line with the commands of these rows
abbrev pub empty_app : App
empty_app = record { top = motcar_top; subs = [] }

abbrev pub line_app : List Verb → App
line_app verbs = with_all with_verb empty_app verbs

-- the words mean for a part of the commands what they mean for all
pub record MeansAlike (app : App) (words : List Text) : Type 0 where
  pub is_simple : is_simple_and_free app ≡ true
  pub matches : matches_of app words ≡ matches_of motcar_app words
  pub subcommand : subcommand_of app words ≡ subcommand_of motcar_app words
  pub faults : fault_of app words ≡ fault_of motcar_app words

-- What words give.

-- this was found, and has P; or nothing was found, and nothing has P
abbrev pub Finds : {T : Type 0} → (T → Type 0) → Option T → Type 0
Finds P (Some x) = P x
Finds P None = (x : _) → P x → ⊥
