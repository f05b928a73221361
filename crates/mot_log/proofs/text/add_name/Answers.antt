use Rattle.std.proofs.Common.{◌≡◌, ◌++◌, Bool, List, OnOk, ap, false, if◌then◌else◌, map, refl}
use Rattle.std.proofs.Common.{subst, sym, true, ℕ}
use Rattle.std.proofs.lemmas.Str.{IsUtf8-from_is_utf8, is_utf8-from_IsUtf8}
use Rattle.std.specs.Prelude.{IsUtf8}
use Rattle.std.specs.Str.{is_utf8}
use Rattle.mot_log.specs.Text.{ascii_byte, shown_name}
use Rattle.mot_suffixes.specs.Shown.{shown}
use Rattle.mot_log.proofs.text.add_name.Goals as goal

shown_by : (name : List ℕ) (b : Bool) → is_utf8 name ≡ b
    → shown_name name ≡ (if b then shown name else map ascii_byte name)
shown_by name b e = ap (λ (t : Bool). if t then shown name else map ascii_byte name) e

no_text : (name : List ℕ) (b : Bool) → is_utf8 name ≡ b → (IsUtf8 name → ⊥) → b ≡ false
no_text name true e none = absurd (none (IsUtf8-from_is_utf8 name e))
no_text name false e none = refl

pub returns-in-Ok : goal.returns-in-Ok
returns-in-Ok c =
    let name = c.args.name.now in
    let is = shown_by name true (is_utf8-from_IsUtf8 name c.in-Ok.ensures.cases.1) in
    subst (λ (l : List ℕ). OnOk c.add_shown.result
    (c.add_shown.new.text.items ≡ c.args.text.now.items ++ l)) (sym is) c.add_shown.ensures

pub returns-in-Err : goal.returns-in-Err
returns-in-Err c =
    let name = c.args.name.now in
    let none = no_text name (is_utf8 name) refl c.in-Err.ensures.cases.0 in
    subst (λ (l : List ℕ). OnOk c.add_ascii.result
    (c.add_ascii.new.text.items ≡ c.args.text.now.items ++ l)) (sym (shown_by name false none))
    c.add_ascii.ensures
