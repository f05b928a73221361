use Rattle.std.proofs.Common.{◌≡◌, ℕ, ◌+◌, ◌-◌, List, sym, ◌∙◌, ap, subst, take, drop, arith, rules}
use Rattle.std.specs.Prelude.{slice_index}
use Rattle.mot_journal.proofs.Decoded.{mime_none, mime_ok, mime_bad, mime_long, kept-text, wrong-ok}
use Rattle.mot_journal.proofs.decoding.read_mime.Goals as goal
use Rattle.mot_objects.specs.Name.{IsMime}

pub returns-then-size-eq0 : goal.returns-then-size-eq0
returns-then-size-eq0 c = sym (mime_none c.args.bytes.now c.if-size-eq0.true)

pub returns-then-size-gt-MAX_MIME : goal.returns-then-size-gt-MAX_MIME
returns-then-size-gt-MAX_MIME c =
    sym (mime_long c.args.bytes.now c.requires c.if-size-gt-MAX_MIME.true)

pub returns : goal.returns
returns c =
    let value : c.as_bytes.result.now ≡ c.in-Some.last.now = c.as_bytes.ensures.value in
    let bytes : List ℕ = drop 1 c.args.bytes.now in
    let size : ℕ = slice_index c.args.bytes.now 0 in
    let found : c.as_bytes.result.now ≡ take (1 + size - 1) bytes =
    c.are_same.ensures c.if-are_same.true in
    let width : 1 + size - 1 ≡ size = omega arith in
    let text : c.in-Some.last.now ≡ take size bytes =
    sym value ∙ found ∙ ap (λ n. take n bytes) width in
    let is : IsMime c.in-Some.last.now = c.as_bytes.ensures.rule in
    ap kept-text (c.in_ok-clone.ensures.cases ∙ text)
    ∙ sym (mime_ok c.args.bytes.now c.if-size-eq0.false (subst IsMime text is))

pub returns-in-Ok : goal.returns-in-Ok
returns-in-Ok c =
    let same : c.in_ok-to_vec.field-0.items
    ≡ take (slice_index c.args.bytes.now 0) (drop 1 c.args.bytes.now) = grind arith in
    let is : IsMime c.in_ok-to_vec.field-0.items = c.in-Ok.ensures.valid.0 (search rules) in
    let value : c.in-Ok.mime ≡ c.in_ok-to_vec.field-0.items = c.in-Ok.ensures.value in
    ap kept-text (value ∙ same)
    ∙ sym (mime_ok c.args.bytes.now c.if-size-eq0.false (subst IsMime same is))

pub returns-in-Err : goal.returns-in-Err
returns-in-Err c =
    let same : c.in_ok-to_vec.field-0.items
    ≡ take (slice_index c.args.bytes.now 0) (drop 1 c.args.bytes.now) = grind arith in
    sym (mime_bad c.args.bytes.now c.if-size-eq0.false
    (λ is. wrong-ok (c.in-Err.ensures.valid.1 (subst IsMime (sym same) is))))

pub bounds-bytes-0 : goal.bounds-bytes-0
bounds-bytes-0 c = omega arith

pub overflow_add-text : goal.overflow_add-text
overflow_add-text c = omega arith

pub slice_bounds-text-count : goal.slice_bounds-text-count
slice_bounds-text-count c = omega arith

pub slice_bounds-text-start : goal.slice_bounds-text-start
slice_bounds-text-start c = omega arith

pub slice_bounds-text-end : goal.slice_bounds-text-end
slice_bounds-text-end c = omega arith
