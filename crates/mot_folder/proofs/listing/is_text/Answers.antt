use Rattle.std.proofs.Common.{◌≡◌, ◌∙◌, Err, List, Ok, Result, is_ok, sym, ℕ}
use Rattle.std.proofs.lemmas.Bool.{false_from_ne_true}
use Rattle.std.proofs.lemmas.Str.{IsUtf8-from_is_utf8, is_utf8-from_IsUtf8}
use Rattle.std.specs.Prelude.{IsUtf8, MatchResult}
use Rattle.std.specs.Str.{is_utf8}
use Rattle.mot_folder.proofs.listing.is_text.Goals as goal

told : {T E : Type 0} (P : T → Type 0) (Q : E → Type 0) (r : Result T E) (name : List ℕ)
    → MatchResult r (λ s. P s × IsUtf8 name) (λ e. (IsUtf8 name → ⊥) × Q e) → is_ok r ≡ is_utf8 name
told P Q (Ok s) name is = sym (is_utf8-from_IsUtf8 name is.1)
told P Q (Err e) name is =
    sym (false_from_ne_true (is_utf8 name) (λ text. is.0 (IsUtf8-from_is_utf8 name text)))

pub returns : goal.returns
returns c = c.is_ok.ensures.value ∙ told _ _ c.from_utf8.result c.args.name.now c.from_utf8.ensures.cases
