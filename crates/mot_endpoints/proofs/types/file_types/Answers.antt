use Rattle.std.proofs.Common.{◌≡◌, ◌∷◌, [], false, inl, inr, refl}
use Rattle.mot_endpoints.specs.Opened.BeginsTo.{unfit, vain}
use Rattle.mot_endpoints.specs.Opened.{is_fault}
use Rattle.mot_numbers.specs.declared.refusal.Refusal.{Refusal}
use Rattle.mot_suffixes.specs.Types.{IsTypesRefusal}
use Rattle.mot_endpoints.proofs.types.file_types.Goals as goal

-- the refusal of a line of suffixes is none of a file
line_is_read : (refusal : Refusal) → IsTypesRefusal refusal → is_fault refusal ≡ false
line_is_read refusal is = elim is [
  | inl e ↦ rw e refl
  | inr (inl e) ↦ rw e refl
  | inr (inr (inl e)) ↦ rw e refl
  | inr (inr (inr (inl e))) ↦ rw e refl
  | inr (inr (inr (inr e))) ↦ rw e refl
]

pub returns-in_default-clause-opens : goal.returns-in_default-clause-opens
returns-in_default-clause-opens g c = unfit [] _ refl (rw c.no_memory.ensures refl) refl

pub returns-in-Err-clause-opens : goal.returns-in-Err-clause-opens
returns-in-Err-clause-opens g c =
    rw c.in-Some.is (vain [] _ [] _ refl refl (c.unread.ensures, c.read_text.ensures.asked))

pub returns-in-Err-add-clause-opens : goal.returns-in-Err-add-clause-opens
returns-in-Err-add-clause-opens g c =
    rw c.in-Some.is (unfit (_ ∷ []) [] refl
    (rw c.wrong.ensures (line_is_read c.in-Err-add.at.refusal c.in-Err-add.ensures.refused))
    (_, (c.in-Ok-read_text.text.items, c.in-Ok-read_text.ensures.calls), refl))

pub returns-in-Ok-add-clause-opens : goal.returns-in-Ok-add-clause-opens
returns-in-Ok-add-clause-opens g c =
    rw c.in-Some.is (_, (c.in-Ok-read_text.text.items, c.in-Ok-read_text.ensures.calls), refl)
