use Rattle.std.proofs.Common.{inl, refl}
use Rattle.mot_numbers.specs.declared.refusal.Refusal.TheVariants.{ReadFault}
use Rattle.mot_folder.proofs.folder.tell_fault.Goals as goal

pub returns-in-ReadFault-clause-told : goal.returns-in-ReadFault-clause-told
returns-in-ReadFault-clause-told c = (
  ReadFault,
  c.words_of-why.result,
  inl refl,
  λ entries was. c.missed.ensures.told entries (c.words_of-why.ensures.told entries was),
)
