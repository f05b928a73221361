use Rattle.std.proofs.Common.{ℕ, ◌<◌, ◌≤◌, ◌⊎◌, arith, inl, inr, refl}
use Rattle.mot_line_folder.specs.LineFiles.{IsWholeFront}
use Rattle.mot_line_folder.specs.LineFiles.IsLookedInto.{cut, lines, no_lines, other, unheld, unread}
use Rattle.mot_files.proofs.Laws.{step}
use Rattle.mot_line_folder.proofs.line_file.look_into.Goals as goal

no_front : {count len : ℕ} → count < 9 → count < len → ¬ (IsWholeFront count len)
no_front few fewer (inl enough) = omega (arith, few, enough)
no_front few fewer (inr all) = omega (arith, fewer, all)

whole_front : {count len : ℕ} → (count < 9 × len ≤ count) ⊎ (9 ≤ count) → IsWholeFront count len
whole_front (inl (few, all)) = inr all
whole_front (inr enough) = inl enough

pub returns-in-Err : goal.returns-in-Err
returns-in-Err g c = unheld c.in-Err.fault refl c.in-Err.ensures

pub returns-then-not-is_same : goal.returns-then-not-is_same
returns-then-not-is_same g c =
    other c.in-Ok.held refl (λ same. let h = c.if-not-is_same.ensures.1 same in cc) c.in-Ok.ensures

pub returns-in-Err-peek : goal.returns-in-Err-peek
returns-in-Err-peek g c =
    unread c.in-Ok.held c.peek.new.room c.in-Err-peek.fault refl (c.if-not-is_same.ensures.0 refl)
    (step _ c.in-Err-peek.ensures.noted c.in-Ok.ensures)

pub returns-then-count-held : goal.returns-then-count-held
returns-then-count-held g c =
    cut c.in-Ok.held c.peek.new.room c.in-Ok-peek.count refl (c.if-not-is_same.ensures.0 refl)
    (step _ c.in-Ok-peek.ensures.noted c.in-Ok.ensures)
    (no_front c.if-count-lt-LONGEST.true c.if-count-held.true)

pub returns-then-begins : goal.returns-then-begins
returns-then-begins g c =
    lines c.in-Ok.held c.peek.new.room c.in-Ok-peek.count refl (c.if-not-is_same.ensures.0 refl)
    (step _ c.in-Ok-peek.ensures.noted c.in-Ok.ensures)
    (whole_front c.else-count-lt-LONGEST.either) (c.if-begins.ensures.0 refl)

pub returns-else-begins : goal.returns-else-begins
returns-else-begins g c =
    no_lines c.in-Ok.held c.peek.new.room c.in-Ok-peek.count refl (c.if-not-is_same.ensures.0 refl)
    (step _ c.in-Ok-peek.ensures.noted c.in-Ok.ensures)
    (whole_front c.else-count-lt-LONGEST.either) (λ is. let h = c.if-begins.ensures.1 is in cc)
