use Rattle.std.proofs.Common.{◌≡◌, ℕ, ◌+◌, ◌≤◌, refl, sym, ◌∙◌, ap, subst, arith, length, [], ◌∷◌}
use Rattle.std.proofs.Common.{◌++◌}
use Rattle.std.specs.Int.{w16, to_be_bytes, bytes_high_first}
use Rattle.mot_journal.specs.Slot.{action_bytes}
use Rattle.mot_journal.proofs.Encoded.{put_set}
use Rattle.mot_journal.proofs.encoding.put_action.Goals as goal

-- a length after so many bytes more
upto : (a b k m : ℕ) → a ≤ m → b ≡ a + k → b ≤ m + k
upto a b k m most more = omega arith

-- so many bytes fit
fits : (a k m top : ℕ) → a ≤ m → m + k ≤ top → a + k ≤ top
fits a k m top most room = omega arith

-- a length after a text of a bounded length, and after no more than so many bytes
joined : (a b k m short top : ℕ) → a ≤ m → k ≤ short → b ≡ a + k → m + short ≤ top → b ≤ top
joined a b k m short top most few more room = omega arith

under : (a b k m top : ℕ) → a ≤ m → b ≤ a + k → m + k ≤ top → b ≤ top
under a b k m top most more room = omega arith

pub returns-in-Set-clause-written : goal.returns-in-Set-clause-written
returns-in-Set-clause-written c =
    put_set c.args.action.now c.in-Set.tid c.in-Set.version c.in-Set.content c.in-Set.start
    c.in-Set.length c.in-Set.name c.in-Set.mime c.in-Set.is
    _ _ _ _ _ _ _ _ _ _ _ _ _ _ _ _
    (ap (λ n. to_be_bytes w16 n) c.get-in-Set.ensures.value)
    (ap (λ t. c.in-Set.version ∷ t ∷ []) c.content_type.ensures.value)
    (ap (λ n. to_be_bytes w16 n) c.subtype.ensures.value)
    refl
    (ap (bytes_high_first 4) c.get-in-Set-2.ensures.value)
    (ap (λ l. length l ∷ []) c.as_bytes.ensures.value)
    c.as_bytes-in-Set.ensures.value
    c.array_append_number-in-Set.ensures.items c.array_append.ensures.items
    c.array_append_number-in-Set-2.ensures.items c.put_number.ensures.written
    c.put_number-in-Set.ensures.written c.push.ensures.items c.array_append-in-Set.ensures.items
    c.put_mime.ensures.written

pub put_number-requires-clause-room : goal.put_number-requires-clause-room
put_number-requires-clause-room c =
    let n1 = upto _ _ 2 100 c.requires c.array_append_number-in-Set.ensures.len in
    let n2 = upto _ _ 2 102 n1 c.array_append.ensures.len in
    let n3 = upto _ _ 2 104 n2 c.array_append_number-in-Set-2.ensures.len in
    fits _ 4 106 512 n3 (omega arith)

pub put_number-requires-in-Set-clause-room : goal.put_number-requires-in-Set-clause-room
put_number-requires-in-Set-clause-room c =
    let n1 = upto _ _ 2 100 c.requires c.array_append_number-in-Set.ensures.len in
    let n2 = upto _ _ 2 102 n1 c.array_append.ensures.len in
    let n3 = upto _ _ 2 104 n2 c.array_append_number-in-Set-2.ensures.len in
    let n4 = upto _ _ 4 106 n3 c.put_number.ensures.len in
    fits _ 4 110 512 n4 (omega arith)

pub put_mime-requires : goal.put_mime-requires
put_mime-requires c =
    let n1 = upto _ _ 2 100 c.requires c.array_append_number-in-Set.ensures.len in
    let n2 = upto _ _ 2 102 n1 c.array_append.ensures.len in
    let n3 = upto _ _ 2 104 n2 c.array_append_number-in-Set-2.ensures.len in
    let n4 = upto _ _ 4 106 n3 c.put_number.ensures.len in
    let n5 = upto _ _ 4 110 n4 c.put_number-in-Set.ensures.len in
    let n6 = upto _ _ 1 114 n5 c.push.ensures.len in
    let short = subst (λ b. length b ≤ 255) (sym c.as_bytes-in-Set.ensures.value)
    c.as_bytes-in-Set.ensures.rule.short in
    joined _ _ _ 115 255 400 n6 short c.array_append-in-Set.ensures.len (omega arith)

pub returns-in-Set-clause-len : goal.returns-in-Set-clause-len
returns-in-Set-clause-len c =
    let n1 = upto _ _ 2 100 c.requires c.array_append_number-in-Set.ensures.len in
    let n2 = upto _ _ 2 102 n1 c.array_append.ensures.len in
    let n3 = upto _ _ 2 104 n2 c.array_append_number-in-Set-2.ensures.len in
    let n4 = upto _ _ 4 106 n3 c.put_number.ensures.len in
    let n5 = upto _ _ 4 110 n4 c.put_number-in-Set.ensures.len in
    let n6 = upto _ _ 1 114 n5 c.push.ensures.len in
    let short = subst (λ b. length b ≤ 255) (sym c.as_bytes-in-Set.ensures.value)
    c.as_bytes-in-Set.ensures.rule.short in
    let n7 = joined _ _ _ 115 255 400 n6 short c.array_append-in-Set.ensures.len (omega arith) in
    under _ _ 65 400 512 n7 c.put_mime.ensures.len (omega arith)

pub returns-in-Remove-clause-written : goal.returns-in-Remove-clause-written
returns-in-Remove-clause-written c =
    c.array_append_number.ensures.items
    ∙ ap (λ n. c.args.slot.now.items ++ to_be_bytes w16 n) c.get.ensures.value
    ∙ ap (λ a. c.args.slot.now.items ++ action_bytes a) (sym c.in-Remove.is)

pub array_append_number-requires : goal.array_append_number-requires
array_append_number-requires c = omega arith

pub slice_bounds-array_append-end : goal.slice_bounds-array_append-end
slice_bounds-array_append-end c = omega arith

pub array_append-requires : goal.array_append-requires
array_append-requires c = omega arith

pub push-requires : goal.push-requires
push-requires c = omega arith
