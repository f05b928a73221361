-- Words that begin with the name of a command mean for it alone what they mean for all commands.
use Rattle.std.proofs.lemmas.List.{get_or-map, length-map}
use Rattle.std.proofs.Common.{◌≡◌, ◌∙◌, true, Bool, List, [], ◌∷◌, Option, Some, ap, ap₂, refl}
use Rattle.std.proofs.Common.{sym, drop, if◌then◌else◌, false, map, subst, Contains, slice_get, ◌&&◌, ℕ, ◌<◌, length, get_or, arith, suc, zero}
use Rattle.std.specs.Prelude.{find, fold, is_some, option_map}
use Rattle.std.specs.Option.{option_map_or}
use Rattle.clap.specs.Faults.{built_fault, check_fault, defaults_fault, entered_fault}
use Rattle.clap.specs.Faults.{level_fault, settle_fault, turn_fault, walk_fault}
use Rattle.clap.specs.Kinds.{or_else}
use Rattle.clap.specs.Simple.{Shape, argument_words, entered, label_of, names_of}
use Rattle.clap.specs.Simple.{rows_at}
use Rattle.clap.specs.Walk.{Held, Names, Walk, answers_to, finished, nothing_held, settled, walk}
use Rattle.clap.specs.Walk.{walk_from, walked}
use Rattle.clap.specs.Words.{App, Kinds, Row, Rule, Text, built, fault_of, is_simple_and_free}
use Rattle.clap.specs.Words.{HasMatchesOf, is_simple, matches_of, new_app, subcommand_of, with_subcommand}
use Rattle.clap.specs.declared.parser.matches.ArgMatches.{ArgMatches}
use Rattle.clap.proofs.FaultLemmas.{stopped_fault}
use Rattle.clap.proofs.OnLiterals.{clap_on_literals}
use Rattle.clap.proofs.WalkLemmas.{walk_stopped}
use Rattle.mot_cli.proofs.Lines.{motcar_free}
use Rattle.mot_cli.specs.Command.{motcar_app, verb_apps}
use Rattle.mot_cli.specs.declared.parts.Argument.{Argument}
use Rattle.mot_cli.specs.declared.parts.Verb.{Verb}
use Rattle.mot_cli.specs.Inner.{MeansAlike, empty_app, line_app, verb_app, with_all, with_argument}

-- the walk that has met a command, and leaves these words to it
abbrev stopped : Text → List Text → Walk
stopped word rest = record (walk_from nothing_held) { stopped = Some (word, rest) }

-- the word is met as the name of a command
record Meets (app : App) (word : Text) : Type 0 where
  bare : app.top.no_binary_name ≡ true
  met : walked (built app).top.rules (names_of (built app)) (walk_from nothing_held) word
      ≡ stopped word []
  fine : turn_fault (built app).top (names_of (built app)) (walk_from nothing_held) word ≡ []

meets : (app : App) (word : Text) → app.top.no_binary_name ≡ true
    → walked (built app).top.rules (names_of (built app)) (walk_from nothing_held) word
    ≡ stopped word []
    → turn_fault (built app).top (names_of (built app)) (walk_from nothing_held) word ≡ []
    → Meets app word
meets app word bare met fine = record { bare = bare; met = met; fine = fine }

-- the command of this name
abbrev shape_for : App → Text → Option Shape
shape_for app word = find (λ s. answers_to word (label_of s)) (built app).subs

-- what is wrong with words at a walk, over which this is wrong
abbrev faults_at : App → Walk → Kinds → Kinds
faults_at app w here =
    or_else here
    (or_else (entered_fault app w.stopped)
    (or_else (settle_fault app.top.rules app.top.args_override_self w.held)
    (or_else (defaults_fault (settled app.top.rules w.held).rows app.top.rules)
    (check_fault app.top (finished app.top.rules w.held) (is_some (entered app w.stopped))))))

-- what is wrong with words behind the name of a command
abbrev faults_behind : Shape → Option Shape → List Text → Kinds
faults_behind top found rest =
    or_else (option_map_or (λ s. level_fault s [] nothing_held rest false []) found [])
    (or_else (settle_fault top.rules top.args_override_self nothing_held)
    (or_else (defaults_fault (settled top.rules nothing_held).rows top.rules)
    (check_fault top (finished top.rules nothing_held)
    (is_some (option_map (λ s. rows_at s rest) found)))))

module _ (app : App) (word : Text) (meets : Meets app word) (rest : List Text) where
  words_are : argument_words app (word ∷ rest) ≡ word ∷ rest
  words_are = ap (λ b. if b then word ∷ rest else drop 1 (word ∷ rest)) meets.bare

  walk_is : walk (built app).top.rules (names_of (built app)) nothing_held (word ∷ rest)
      ≡ stopped word rest
  walk_is = ap (λ w. fold (walked (built app).top.rules (names_of (built app))) w rest) meets.met
      ∙ sym (walk_stopped (built app).top.rules (names_of (built app)) (walk_from nothing_held) word
      [] rest)

  no_fault : walk_fault (built app).top (names_of (built app)) (walk_from nothing_held)
      (word ∷ rest) ≡ []
  unfolding walk_fault
  no_fault = ap₂ or_else meets.fine
      (ap (λ w. walk_fault (built app).top (names_of (built app)) w rest) meets.met
      ∙ stopped_fault (built app).top (names_of (built app)) (walk_from nothing_held) (word, []) rest)

  matches_are : matches_of app (word ∷ rest) ≡ finished (built app).top.rules nothing_held
  matches_are =
      ap (λ ws. finished (built app).top.rules
      (walk (built app).top.rules (names_of (built app)) nothing_held ws).held) words_are
      ∙ ap (λ (w : Walk). finished (built app).top.rules w.held) walk_is

  subcommand_is : subcommand_of app (word ∷ rest)
      ≡ option_map (λ s. rows_at s rest) (shape_for app word)
  subcommand_is =
      ap (λ ws. entered (built app)
      (walk (built app).top.rules (names_of (built app)) nothing_held ws).stopped) words_are
      ∙ ap (λ (w : Walk). entered (built app) w.stopped) walk_is

  faults_are : fault_of app (word ∷ rest) ≡ faults_behind (built app).top (shape_for app word) rest
  faults_are = ap (λ ws. built_fault (built app) nothing_held ws) words_are
      ∙ ap₂ (faults_at (built app)) walk_is no_fault

-- a part of the commands, of which this word names one
alike : (app : App) (word : Text) → is_simple_and_free app ≡ true → Meets app word
    → Meets motcar_app word → (built app).top ≡ (built motcar_app).top
    → shape_for app word ≡ shape_for motcar_app word
    → (rest : List Text) → MeansAlike app (word ∷ rest)
alike app word simple one all tops found rest = record {
  is_simple = simple;
  matches = matches_are app word one rest
      ∙ ap (λ (s : Shape). finished s.rules nothing_held) tops
      ∙ sym (matches_are motcar_app word all rest);
  subcommand = subcommand_is app word one rest
      ∙ ap (λ (o : Option Shape). option_map (λ s. rows_at s rest) o) found
      ∙ sym (subcommand_is motcar_app word all rest);
  faults = faults_are app word one rest
      ∙ ap₂ (λ (s : Shape) (o : Option Shape). faults_behind s o rest) tops found
      ∙ sym (faults_are motcar_app word all rest);
}

-- a command of which this is the whole, where its name comes first
abbrev IsAlone : App → Type 0
IsAlone app = (rest : List Text)
    → MeansAlike (with_subcommand empty_app app.top) (app.top.name ∷ rest)

Each : (App → Type 0) → List App → Type 0
Each P [] = Unit {0}
Each P (x ∷ xs) = P x × Each P xs

one_of : (P : App → Type 0) (xs : List App) (i : ℕ) (d : App) → i < length xs → Each P xs
    → P (get_or xs i d)
unfolding Each
one_of P [] i d below each = absurd (omega arith)
one_of P (x ∷ xs) zero d below each = each.0
one_of P (x ∷ xs) (suc i) d below each = one_of P xs i d (omega arith) each.1

each_alone : Each IsAlone verb_apps
unfolding clap_on_literals Each
each_alone = (
  alike _ _ refl (meets _ _ refl refl refl) (meets _ _ refl refl refl) refl refl,
  (
    alike _ _ refl (meets _ _ refl refl refl) (meets _ _ refl refl refl) refl refl,
    (
      alike _ _ refl (meets _ _ refl refl refl) (meets _ _ refl refl refl) refl refl,
      (
        alike _ _ refl (meets _ _ refl refl refl) (meets _ _ refl refl refl) refl refl,
        (
          alike _ _ refl (meets _ _ refl refl refl) (meets _ _ refl refl refl) refl refl,
          (
            alike _ _ refl (meets _ _ refl refl refl) (meets _ _ refl refl refl) refl refl,
            (
              alike _ _ refl (meets _ _ refl refl refl) (meets _ _ refl refl refl) refl refl,
              (
                alike _ _ refl (meets _ _ refl refl refl) (meets _ _ refl refl refl) refl refl,
                (
                  alike _ _ refl (meets _ _ refl refl refl) (meets _ _ refl refl refl) refl refl,
                  (
                    alike _ _ refl (meets _ _ refl refl refl) (meets _ _ refl refl refl) refl refl,
                    (
                      alike _ _ refl (meets _ _ refl refl refl) (meets _ _ refl refl refl) refl refl,
                      (
                        alike _ _ refl (meets _ _ refl refl refl) (meets _ _ refl refl refl) refl refl,
                        (
                          alike _ _ refl (meets _ _ refl refl refl) (meets _ _ refl refl refl) refl refl,
                          (
                            alike _ _ refl (meets _ _ refl refl refl) (meets _ _ refl refl refl) refl refl,
                            (
                              alike _ _ refl (meets _ _ refl refl refl) (meets _ _ refl refl refl) refl refl,
                              tt,
                            ),
                          ),
                        ),
                      ),
                    ),
                  ),
                ),
              ),
            ),
          ),
        ),
      ),
    ),
  ),
)

-- what is put into a command leaves it its name
name_stays : (app : App) (arguments : List Argument)
    → (with_all with_argument app arguments).top.name ≡ app.top.name
name_stays app [] = refl
name_stays app (x ∷ xs) = name_stays (with_argument app x) xs

-- words that begin with the name of one of the commands
pub named_alike : {T : Type 0} (text : T → Text) (verbs : List Verb) (found : List Verb) (verb : Verb)
    (words : List T) (word : T) → Contains verbs verb → verb.name.now ≡ text word
    → found ≡ verb ∷ [] → Some word ≡ slice_get words 0 → map verb_app verbs ≡ verb_apps
    → MeansAlike (line_app found) (map text words)
named_alike text verbs found verb [] word is name one first each = absurd (cc)
named_alike text verbs found verb (x ∷ xs) word is name one first each =
    let same : x ≡ word = cc in
    let many = length-map verbs verb_app in
    let there : IsAlone (verb_app verb) =
    subst IsAlone (get_or-map verb_app verbs is.0 verb (verb_app verb) is.1 ∙ ap verb_app is.2)
    (subst (λ apps. IsAlone (get_or apps is.0 (verb_app verb))) (sym each)
    (one_of IsAlone verb_apps is.0 (verb_app verb)
    (subst (λ apps. is.0 < length apps) each (omega arith)) each_alone)) in
    let begins : (verb_app verb).top.name ≡ text x =
    name_stays (new_app verb.name.now) verb.arguments.now ∙ name ∙ ap text (sym same) in
    subst (λ vs. MeansAlike (line_app vs) (text x ∷ map text xs)) (sym one)
    (subst (λ w. MeansAlike (line_app (verb ∷ [])) (w ∷ map text xs)) begins
    (there (map text xs)))

-- all of them
pub all_alike : (app : App) (words : List Text) → app ≡ motcar_app → MeansAlike app words
all_alike app words same = subst (λ a. MeansAlike a words) (sym same)
    (record { is_simple = motcar_free; matches = refl; subcommand = refl; faults = refl })

first_is : (a b : Bool) → (a && b) ≡ true → a ≡ true
first_is true b h = refl
first_is false b h = h

-- what was matched of a part was matched of all
pub matches_alike : (app : App) (words : List Text) (m : ArgMatches) → MeansAlike app words
    → HasMatchesOf app words m → HasMatchesOf motcar_app words m
matches_alike app words m same h simple =
    let found = h (first_is (is_simple app) _ same.is_simple) in
    (found.0 ∙ same.matches, found.1 ∙ same.subcommand)
