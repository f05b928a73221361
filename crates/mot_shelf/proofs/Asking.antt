-- What a folder gave goes on by what each call answers.
use Rattle.std.proofs.Common.{◌≡◌, ◌∙◌, ℕ, Bool, true, false, List, [], ◌∷◌, ◌++◌, Ok, Err, Result}
use Rattle.std.proofs.Common.{ap, inl, inr}
use Rattle.std.specs.Prelude.{IsUtf8, MatchResult}
use Rattle.std.specs.Str.{is_utf8}
use Rattle.std.proofs.lemmas.Str.{IsUtf8-from_is_utf8}
use Rattle.mot_files.specs.Call.{Call, looked}
use Rattle.mot_files.specs.declared.system.Fault.{Fault}
use Rattle.mot_files.specs.declared.system.FileStat.{FileStat}
use Rattle.mot_shelf.specs.Calls.{HasNoPath}
use Rattle.mot_shelf.specs.Inner.{IsWithoutPath}
use Rattle.mot_shelf.specs.declared.path.NoPath.{NoPath}
use Rattle.mot_shelf.specs.declared.path.NoPath.TheVariants.{NoText, TooLong}

-- by a result
pub by_result : {T E : Type 0} (r : Result T E) {P More : T → Type 0} {Q Other : E → Type 0}
    → MatchResult r P Q → ((x : T) → P x → More x) → ((e : E) → Q e → Other e)
    → MatchResult r More Other
by_result (Ok x) is so other = so x is
by_result (Err e) is so other = other e is

-- what is no text is known to be none
pub no_text : (name : List ℕ) (b : Bool) → is_utf8 name ≡ b → (IsUtf8 name → ⊥) → is_utf8 name ≡ false
no_text name true e none = absurd (none (IsUtf8-from_is_utf8 name e))
no_text name false e none = e

-- what has no path for a reason has none
pub no_path : (path name : List ℕ) (why : NoPath) → IsWithoutPath path name why → HasNoPath path name
no_path path name NoText is = inl is
no_path path name TooLong is = inr is.1

-- a call by one path is one by the same path
pub looked_by : (place path : List ℕ) (answer : Result FileStat Fault) (old new : List Call)
    → place ≡ path → new ≡ old ++ looked place answer ∷ [] → new ≡ old ++ looked path answer ∷ []
looked_by place path answer old new same calls =
    calls ∙ ap (λ p. old ++ looked p answer ∷ []) same
