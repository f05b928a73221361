-- What a command needs, one after the other.
use Rattle.std.proofs.Common.{◌∙◌, List, [], ◌∷◌, ◌++◌, Option, Some, None, ap, append_assoc}
use Rattle.std.proofs.Common.{inl, inr, subst, sym, true}
use Rattle.clap.specs.Words.{Text}
use Rattle.disk_store.specs.declared.file.start.Start.{Ghosts}
use Rattle.mot_endpoints.specs.Opened.{AreMet, BeginsTo, Need}
use Rattle.mot_endpoints.specs.Opened.BeginsTo.{unfit, vain}
use Rattle.mot_files.specs.Call.{Call, opened_disk}
use Rattle.mot_numbers.specs.declared.refusal.Refusal.{Refusal}
use Rattle.mot_outcome.specs.Outcome.{OpensAnd}
use Rattle.mot_outcome.specs.declared.used.UsedDisk.{UsedDisk}
use Rattle.mot_outcome.specs.declared.used.UsedDisk.TheVariants.{InMemory, OfCopy, OfFile, Untouched}

-- a beginning of what comes first is one of all
pub begun_first : (first others : List Need) (old new : List Call) (refusal : Refusal)
    → BeginsTo first refusal old new → BeginsTo (first ++ others) refusal old new
begun_first first others old new refusal (vain met one rest then split are is) =
    vain met one (rest ++ others) then
    (sym (append_assoc met (one ∷ rest) others) ∙ ap (λ l. l ++ others) split) are is
begun_first first others old new refusal (unfit met rest split why are) =
    unfit met (rest ++ others)
    (sym (append_assoc met rest others) ∙ ap (λ l. l ++ others) split) why are

-- these were there, and then the others
pub both_met : (first others : List Need) (old mid new : List Call) → AreMet first old mid
    → AreMet others mid new → AreMet (first ++ others) old new
both_met [] others old mid new are rest = subst (λ (l : List Call). AreMet others l new) are rest
both_met (one ∷ first) others old mid new are rest =
    (are.0, are.1, both_met first others are.0 mid new are.2 rest)

-- and so is a beginning of the others, where all that comes first was there
pub begun_after : (first others : List Need) (old mid new : List Call) (refusal : Refusal)
    → AreMet first old mid → BeginsTo others refusal mid new
    → BeginsTo (first ++ others) refusal old new
begun_after first others old mid new refusal all (vain met one rest then split are is) =
    vain (first ++ met) one rest then
    (append_assoc first met (one ∷ rest) ∙ ap (λ l. first ++ l) split)
    (both_met first met old mid then all are) is
begun_after first others old mid new refusal all (unfit met rest split why are) =
    unfit (first ++ met) rest (append_assoc first met rest ∙ ap (λ l. first ++ l) split) why
    (both_met first met old mid new all are)

-- the same of whatever is handed out
pub opened_after : {S F : Type 0} {start : Ghosts S F} (first others : List Need)
    (path : Text) (Does : (old new : List Call) → Type 0) (ending : Option Refusal)
    (used : UsedDisk S F start) (old mid new : List Call) → AreMet first old mid
    → OpensAnd others path Does ending used mid new
    → OpensAnd (first ++ others) path Does ending used old new
opened_after first others path Does None (Untouched value) old mid new are is = absurd is
opened_after first others path Does (Some refusal) (Untouched value) old mid new are (inl begins) =
    inl (begun_after first others old mid new refusal are begins)
opened_after first others path Does (Some refusal) (Untouched value) old mid new are (inr tried) =
    inr (tried.0, (tried.1.0, both_met first others old mid tried.1.0 are tried.1.1, tried.1.2))
opened_after first others path Does ending (InMemory disk value) old mid new are is = is
opened_after first others path Does ending (OfCopy from to) old mid new are is = is
opened_after first others path Does ending (OfFile disk beside) old mid new are is =
    (is.0, both_met first others old mid is.0 are is.1, is.2)

-- what was done behind the opening says more
pub opens_more : {S F : Type 0} {start : Ghosts S F} (needs : List Need) (path : Text)
    (Does More : (old new : List Call) → Type 0) (ending : Option Refusal)
    (used : UsedDisk S F start) (old new : List Call)
    → ((opened now : List Call) → Does opened now → More opened now)
    → OpensAnd needs path Does ending used old new → OpensAnd needs path More ending used old new
opens_more needs path Does More ending (Untouched value) old new more is = is
opens_more needs path Does More ending (InMemory disk value) old new more is = is
opens_more needs path Does More ending (OfCopy from to) old new more is = is
opens_more needs path Does More ending (OfFile disk beside) old new more is =
    (is.0, is.1, more (is.0 ++ opened_disk path true ∷ []) new is.2)
