use Rattle.std.proofs.Common.{◌≡◌, ℕ, List, ◌+◌, ◌-◌, ◌++◌, take, drop, length, arith, subst, sym}
use Rattle.std.proofs.Common.{ap, ◌∙◌, length-drop}
use Rattle.std.specs.Io.KnownBytes.{Appends}
use Rattle.std.proofs.KnownBytes.{Appends-trans, Appends-kept}
use Rattle.std.proofs.Math.Seq.{take-add}
use Rattle.std.proofs.lemmas.List.{take_all}
use Rattle.mot_session.proofs.Fronts.{WritesFront-take}
use Rattle.mot_session.proofs.serving.output.write_whole.Goals as goal

slice_from : (xs : List ℕ) (at : ℕ) → take (length xs - at) (drop at xs) ≡ drop at xs
slice_from xs at = take_all (length xs - at) (drop at xs) (rw length-drop (omega arith))

-- a further part of the bytes
part : (bytes : List ℕ) (at count : ℕ) → take at bytes ++ take count
    (take (length bytes - at) (drop at bytes)) ≡ take (at + count) bytes
part bytes at count = ap (λ l. take at bytes ++ take count l) (slice_from bytes at)
    ∙ sym (take-add at count bytes)

pub loop-at-preserved : goal.loop-at-preserved
loop-at-preserved g c =
    let b = c.in-Ok.ensures.bound in
    record {
      within = let l : length (take (length c.args.bytes.now - c.loop-at.at)
          (drop c.loop-at.at c.args.bytes.now)) ≡ length c.args.bytes.now - c.loop-at.at =
          ap length (slice_from c.args.bytes.now c.loop-at.at)
          ∙ length-drop c.loop-at.at c.args.bytes.now in omega (arith, b);
      written = subst (Appends (g.W.Write.contents c.args.writer.now)
          (g.W.Write.contents c.write.new.self))
          (part c.args.bytes.now c.loop-at.at c.in-Ok.count)
          (Appends-trans _ _ _ _ _ c.loop-at.invariant.written c.in-Ok.ensures.bytes);
    }

pub returns-in-Ok-eq0 : goal.returns-in-Ok-eq0
returns-in-Ok-eq0 g c =
    WritesFront-take c.args.bytes.now (c.loop-at.at + c.in-Ok-eq0.field-0) _ _ (
    subst (Appends (g.W.Write.contents c.args.writer.now) (g.W.Write.contents c.write.new.self))
    (part c.args.bytes.now c.loop-at.at c.in-Ok-eq0.field-0)
    (Appends-trans _ _ _ _ _ c.loop-at.invariant.written c.in-Ok-eq0.ensures.bytes))

pub returns-in-Err : goal.returns-in-Err
returns-in-Err g c = WritesFront-take c.args.bytes.now c.loop-at.at _ _
    (Appends-kept _ _ _ _ c.loop-at.invariant.written c.in-Err.ensures.bytes)
