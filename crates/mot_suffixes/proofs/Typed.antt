-- What files of a name are: the suffix of the name, and the last of the types that have it.
use Rattle.std.proofs.Common.{◌≡◌, ◌∙◌, ◌++◌, ◌<◌, ◌≤◌, ◌+◌, ◌-◌, ℕ, suc, Bool, true, false, List, []}
use Rattle.std.proofs.Common.{◌∷◌}
use Rattle.std.proofs.Common.{Option, Some, None, All, ap, arith, cond, drop, get_or, length}
use Rattle.std.proofs.Common.{nat_eq, refl, sym, take, add-one, drop-cons, take-append-drop}
use Rattle.std.proofs.Common.{length-drop}
use Rattle.std.proofs.lemmas.Bool.{eqb-true, false_from_ne_true}
use Rattle.std.proofs.lemmas.List.{get_or-drop, take_all, take_more}
use Rattle.std.proofs.lemmas.List.Elements.{All-from_get_or}
use Rattle.std.proofs.lemmas.Slice.Eq.{bytes_eq-Decides}
use Rattle.std.specs.Char.{to_ascii_lowercase}
use Rattle.std.specs.Option.{option_or}
use Rattle.std.specs.Prelude.{if◌then◌else◌, ◌↔◌, IsTrue, map}
use Rattle.memchr.specs.Find.{NoneAfter, Nowhere, Passes, is_byte}
use Rattle.std.specs.Str.{str_eq_ignore_ascii_case}
use Rattle.mot_suffixes.specs.Types.{SuffixType, after_last_dot, is_hidden}
use Rattle.mot_suffixes.specs.Types.{last_of_suffix, suffix_of}

-- ---- the suffix of a name

-- where there is no dot, nothing follows it
after_last_dot-none : (bytes : List ℕ) → All (λ b. nat_eq b 46 ≡ false) bytes
    → after_last_dot bytes ≡ None
after_last_dot-none [] none = refl
after_last_dot-none (byte ∷ bytes) none =
    rw (
      after_last_dot-none bytes (λ k d l. none (suc k) d (omega (arith, l))),
      none 0 0 (omega arith),
    ) refl

-- what follows a dot, behind which there is none, follows the last one
after_last_dot-at : (bytes others : List ℕ) → All (λ b. nat_eq b 46 ≡ false) others
    → after_last_dot (bytes ++ 46 ∷ others) ≡ Some others
after_last_dot-at [] others none = rw (after_last_dot-none others none) refl
after_last_dot-at (byte ∷ bytes) others none = rw (after_last_dot-at bytes others none) refl

module _ (name : List ℕ) (shown : is_hidden name ≡ false) where
  -- a name with no dot has no suffix
  pub suffix_of-none : Nowhere (Passes (is_byte 46) name) 0 (length name) → suffix_of name ≡ None
  suffix_of-none none = rw shown (after_last_dot-none name
      (All-from_get_or (λ b. nat_eq b 46 ≡ false) name 0
      (λ k l. false_from_ne_true _ (none k (omega arith) l))))

  -- what follows the last dot is the suffix
  pub suffix_of-at : (at : ℕ) → NoneAfter (Passes (is_byte 46) name) 0 (length name) at
      → Passes (is_byte 46) name at
      → suffix_of name ≡ Some (take (length name - (at + 1)) (drop (at + 1) name))
  suffix_of-at at last is =
      let behind = drop (at + 1) name in
      let high = last.high in
      let none : All (λ b. nat_eq b 46 ≡ false) behind =
      All-from_get_or (λ b. nat_eq b 46 ≡ false) behind 0 (λ k l.
      let below : at + 1 + k < length name = omega (arith, l, length-drop (at + 1) name) in
      rw get_or-drop (false_from_ne_true _ (last.after (at + 1 + k) (omega arith) below))) in
      let dot : drop at name ≡ 46 ∷ behind = rw add-one (drop-cons name at 0 high)
      ∙ ap (λ b. b ∷ behind) (eqb-true _ 46 is) in
      let whole : take at name ++ 46 ∷ behind ≡ name =
      ap (λ l. take at name ++ l) (sym dot) ∙ take-append-drop at name in
      rw shown (ap after_last_dot (sym whole)
      ∙ after_last_dot-at (take at name) behind none
      ∙ ap Some (sym (take_all (length name - (at + 1)) behind (rw length-drop (omega arith)))))

-- ---- the last of a suffix

-- what is found behind is found before all others
one_of : {A : Type 0} (is : Bool) (x : A) (found other : Option A)
    → option_or (cond is (Some x) found) other ≡ cond is (Some x) (option_or found other)
one_of true x found other = refl
one_of false x found other = refl

-- one type more, behind the others
last_of_suffix-push : (suffix : List ℕ) (types : List SuffixType) (type : SuffixType)
    → last_of_suffix suffix (types ++ type ∷ [])
    ≡ (if str_eq_ignore_ascii_case type.suffix suffix then Some type
    else last_of_suffix suffix types)
last_of_suffix-push suffix [] type = refl
last_of_suffix-push suffix (first ∷ types) type = rw (last_of_suffix-push suffix types type)
    (one_of (str_eq_ignore_ascii_case type.suffix suffix) type (last_of_suffix suffix types)
    (if str_eq_ignore_ascii_case first.suffix suffix then Some first else None))

-- the last type was looked at
pub last_of_suffix-back : (suffix : List ℕ) (types : List SuffixType) (type : SuffixType)
    → 1 ≤ length types → type ≡ get_or types (length types - 1) type
    → last_of_suffix suffix types
    ≡ (if str_eq_ignore_ascii_case type.suffix suffix then Some type
    else last_of_suffix suffix (take (length types - 1) types))
last_of_suffix-back suffix types type some is =
    let before = take (length types - 1) types in
    ap (last_of_suffix suffix) (sym (take_all (length types - 1 + 1) types (omega (arith, some)))
    ∙ take_more types (length types - 1) type (omega (arith, some))
    ∙ ap (λ t. before ++ t ∷ []) (sym is))
    ∙ last_of_suffix-push suffix before type

-- the test of the code is that of the definition
pub same-suffix : (same : Bool) (a b : List ℕ)
    → (IsTrue same ↔ (map to_ascii_lowercase a ≡ map to_ascii_lowercase b))
    → same ≡ str_eq_ignore_ascii_case a b
same-suffix true a b is = sym ((bytes_eq-Decides (map to_ascii_lowercase a)
    (map to_ascii_lowercase b)).1 (is.0 refl))
same-suffix false a b is = sym (false_from_ne_true (str_eq_ignore_ascii_case a b) (λ t.
    let e : false ≡ true = is.1 ((bytes_eq-Decides (map to_ascii_lowercase a)
    (map to_ascii_lowercase b)).0 t) in cc))

-- it is the one
pub last_of_suffix-is : (same : Bool) (type : SuffixType) (before : Option SuffixType)
    → {test : Bool} → test ≡ same → test ≡ true
    → (if same then Some type else before) ≡ Some type
last_of_suffix-is true type before e t = refl
last_of_suffix-is false type before e t = absurd (cc)

-- or not
pub last_of_suffix-other : (same : Bool) (type : SuffixType) (before : Option SuffixType)
    → {test : Bool} → test ≡ same → test ≡ false
    → (if same then Some type else before) ≡ before
last_of_suffix-other true type before e t = absurd (cc)
last_of_suffix-other false type before e t = refl
