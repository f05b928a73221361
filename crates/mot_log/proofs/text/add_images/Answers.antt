use Rattle.std.proofs.Common.{◌≡◌, ◌∙◌, ◌++◌, ℕ, List, OnOk, Some, ap, append_assoc, codes, subst}
use Rattle.mot_log.specs.Text.{image_word}
use Rattle.mot_log.proofs.text.add_images.Goals as goal

-- four texts, one after the other
joined : (a w s m e one two three : List ℕ) → one ≡ a ++ w → two ≡ one ++ s → three ≡ two ++ m
    → three ++ e ≡ a ++ (w ++ s ++ m ++ e)
joined a w s m e one two three first second third =
    ap (λ l. l ++ e) (third ∙ ap (λ l. l ++ m) (second ∙ ap (λ l. l ++ s) first ∙ append_assoc a w s)
    ∙ append_assoc a (w ++ s) m)
    ∙ append_assoc a (w ++ s ++ m) e

pub returns : goal.returns
returns c =
    subst (λ (l : List ℕ). OnOk c.add-2.result (c.add-2.new.text.items ≡ l))
    (joined c.args.text.now.items (image_word (Some c.args.other.by_suffix)) (codes " by its suffix, ")
    (image_word c.args.other.by_bytes) (codes " by its bytes") c.add_image.new.text.items
    c.add.new.text.items c.add_image-2.new.text.items c.in_ok-add_image.ensures
    c.in_ok-add.ensures c.in_ok-add_image-2.ensures) c.add-2.ensures
