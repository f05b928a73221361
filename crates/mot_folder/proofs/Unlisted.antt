-- Why a folder is not listed, handed on.
use Rattle.std.proofs.Common.{◌≡◌, ℕ, Err, List, Ok, Result, ap, subst, sym}
use Rattle.std.specs.Prelude.{IsErrAnd, MatchResult}
use Rattle.mot_folder.specs.Inner.Listing.{AreGoneOver, AreRead, GoesOver, ReadsAll, ReadsNoMore}
use Rattle.mot_folder.specs.Inner.Listing.{IsCallRefusal, Stage, StopsWithin}
use Rattle.mot_folder.specs.declared.listing.Unlisted.{Unlisted}
use Rattle.mot_numbers.specs.declared.refusal.Refusal.{Refusal}
use Rattle.mot_suffixes.specs.Types.{SuffixType}

-- an error that is handed on has its reason
pub why_same : {T : Type 0} (r : Result T Unlisted) (u : Unlisted) → IsErrAnd r (λ x. x ≡ u)
    → IsErrAnd r (λ x. x.refusal ≡ u.refusal)
why_same (Ok a) u is = absurd is
why_same (Err v) u is = ap (λ (x : Unlisted). x.refusal) is

-- what holds of its reason holds of it
pub why_of : {T : Type 0} (r : Result T Unlisted) (Q : T → Type 0) (P : Refusal → Type 0)
    (refusal : Refusal) → IsErrAnd r (λ u. u.refusal ≡ refusal) → P refusal
    → MatchResult r Q (λ u. P u.refusal)
why_of (Ok a) Q P refusal is why = absurd is
why_of (Err u) Q P refusal is why = subst P (sym is) why

-- a call failed, for either reason
pub why_called : {T : Type 0} (r : Result T Unlisted) (Q : T → Type 0) (P : Refusal → Type 0)
    → IsErrAnd r (λ u. IsCallRefusal u.refusal)
    → ((refusal : Refusal) → IsCallRefusal refusal → P refusal)
    → MatchResult r Q (λ u. P u.refusal)
why_called (Ok a) Q P is why = absurd is
why_called (Err u) Q P is why = why u.refusal is

module _ (types : List SuffixType) (old new : Stage) (r : Result Unit Unlisted) (refusal : Refusal)
    (is : IsErrAnd r (λ u. u.refusal ≡ refusal)) where
  pub stops_so : (more : List (List ℕ)) → StopsWithin types more old new refusal
      → AreGoneOver types more old new r
  stops_so more why =
      why_of r (λ done. GoesOver types more old new) (StopsWithin types more old new) refusal is why

  pub reads_so : ReadsNoMore types old new refusal → AreRead types old new r
  reads_so why =
      why_of r (λ done. ReadsAll types old new) (ReadsNoMore types old new) refusal is why
