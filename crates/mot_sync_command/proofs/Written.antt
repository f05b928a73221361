-- Lines that are written one after the other.
use Rattle.std.proofs.Common.{◌≡◌, ◌∙◌, ◌++◌, ◌+◌, ◌<◌, ℕ, List, [], ◌∷◌, Option, ap, append-nil}
use Rattle.std.proofs.Common.{add-one, flat_map, get_or, length, subst, sym, take, take-suc}
use Rattle.std.specs.Io.KnownBytes.{Appends}
use Rattle.std.proofs.KnownBytes.{Appends-trans}
use Rattle.std.proofs.lemmas.List.Concat.{flat_map-append}

-- the lines of the first ones, and that of a further one
pub line_more : {A : Type 0} (line : A → List ℕ) (xs : List A) (i : ℕ) (x : A)
    (a b c : Option (List ℕ)) → i < length xs → x ≡ get_or xs i x
    → Appends a b (flat_map line (take i xs)) → Appends b c (line x)
    → Appends a c (flat_map line (take (i + 1) xs))
line_more {A} line xs i x a b c lt is before more =
    let next : take (i + 1) xs ≡ take i xs ++ x ∷ [] =
    ap (λ (n : ℕ). take n xs) (add-one i) ∙ take-suc xs i x lt
    ∙ ap (λ (y : A). take i xs ++ y ∷ []) (sym is) in
    subst (λ (l : List ℕ). Appends a c l)
    (sym (ap (flat_map line) next ∙ flat_map-append line (take i xs) (x ∷ [])
    ∙ ap (λ l. flat_map line (take i xs) ++ l) (append-nil (line x))))
    (Appends-trans a b c (flat_map line (take i xs)) (line x) before more)
