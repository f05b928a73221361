-- The parameters of an object describe it.
use Rattle.std.proofs.Common.{◌≡◌, ℕ, List, ◌∷◌, Bool, true, false, refl, length, ◌<◌, eq-eqb}
use Rattle.std.proofs.Common.{Option, Some, None}
use Rattle.std.proofs.lemmas.Bool.{lt-ltb, leb-false}
use Rattle.std.specs.Prelude.{if◌then◌else◌, nat_le}
use Rattle.mot_directory.specs.Parameter.{Short, Long}
use Rattle.mot_directory.specs.Entries.{text_parameter, text_in, parameters_with, description_in}

text_in-by_form : (id : ℕ) (text : List ℕ) (b : Bool) → nat_le (length text) 127 ≡ b →
    text_in id (if b then Short id text else Long id text) ≡ Some text
text_in-by_form id text true h = rw (eq-eqb id id refl) refl
text_in-by_form id text false h =
    let long : 127 < length text = leb-false (length text) 127 h in
    rw (eq-eqb id id refl, lt-ltb 127 (length text) long) refl

text_in-text_parameter : (id : ℕ) (text : List ℕ) → text_in id (text_parameter id text) ≡ Some text
text_in-text_parameter id text = text_in-by_form id text (nat_le (length text) 127) refl

-- an object's parameters give its name, its MIME type and its version
pub description_in-parameters_with : (name : List ℕ) (mime : Option (List ℕ)) (version : ℕ) →
    description_in (parameters_with name mime version) ≡ Some (name, mime, version)
description_in-parameters_with name None version = rw (text_in-text_parameter 12 (240 ∷ name)) refl
description_in-parameters_with name (Some mime) version =
    rw (text_in-text_parameter 12 (240 ∷ name), text_in-text_parameter 16 mime) refl
