-- What was added to what is known.
use Rattle.std.proofs.Common.{List, [], ◌++◌, Option, Some, None, sym, ap, ◌∙◌, subst, append_assoc}
use Rattle.std.proofs.Common.{append-nil}
use Rattle.mot_packets.specs.Written.{Grows}

-- what is known goes on by nothing
pub grows_nil : {A : Type 0} (a : Option (List A)) → Grows a a []
grows_nil None = tt
grows_nil (Some x) = sym (append-nil x)

-- what goes on by some, and then by others, goes on by both
pub grows_trans : {A : Type 0} (a b c : Option (List A)) (xs ys : List A) → Grows a b xs
    → Grows b c ys → Grows a c (xs ++ ys)
grows_trans None b c xs ys p q = tt
grows_trans (Some x) None c xs ys p q = absurd p
grows_trans (Some x) (Some y) None xs ys p q = absurd q
grows_trans (Some x) (Some y) (Some z) xs ys p q =
    q ∙ ap (λ l. l ++ ys) p ∙ append_assoc x xs ys

-- nothing more was added
pub grows_kept : {A : Type 0} (a b c : Option (List A)) (xs : List A) → Grows a b xs
    → Grows b c [] → Grows a c xs
grows_kept a b c xs p q = subst (Grows a c) (append-nil xs) (grows_trans a b c xs [] p q)
