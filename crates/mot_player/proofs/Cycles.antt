-- Contents that come sixteen times change by a multiple of sixteen, so groups that are sent round
-- and round keep their indexes.
use Rattle.std.proofs.Common.{◌≡◌, ℕ, zero, suc, ◌+◌, ◌%◌, List, [], ◌∷◌, ◌++◌, refl, sym, ap, ◌∙◌}
use Rattle.std.proofs.Common.{map, length, arith, append_assoc, append-nil, add-zero}
use Rattle.std.proofs.lemmas.List.{map-append}
use Rattle.std.specs.Prelude.{slice_index_or}
use Rattle.mot_groups.specs.Group.{content_of}
use Rattle.mot_player.specs.Continuity.{changes, contents, index_after, group_index, indexes_after}
use Rattle.mot_player.specs.Continuity.{kind_of}
use Rattle.mot_player.specs.Rounds.{rounds_of}
use Rattle.mot_player.proofs.Indexes.{contents-append}

changes-join : (before : List (List ℕ)) (c : List ℕ) (behind : List (List ℕ)) →
    changes (before ++ c ∷ behind) ≡ changes (before ++ c ∷ []) + changes (c ∷ behind)
changes-join [] c behind = omega arith
changes-join (x ∷ []) c behind = omega arith
changes-join (x ∷ y ∷ before) c behind = omega (arith, changes-join (y ∷ before) c behind)

-- rounds of a list begin as the list does, whatever begins so behind them
rounds-head : (n : ℕ) (c : List ℕ) (cs xs : List (List ℕ)) →
    (ys : List (List ℕ)) × (rounds_of n (c ∷ cs) ++ c ∷ xs ≡ c ∷ ys)
rounds-head zero c cs xs = (xs, refl)
rounds-head (suc n) c cs xs = ((cs ++ rounds_of n (c ∷ cs)) ++ c ∷ xs, refl)

-- a round more changes by those of one cycle
changes-round : (n : ℕ) (c : List ℕ) (cs xs : List (List ℕ)) →
    changes (rounds_of (suc n) (c ∷ cs) ++ c ∷ xs)
    ≡ changes (c ∷ cs ++ c ∷ []) + changes (rounds_of n (c ∷ cs) ++ c ∷ xs)
changes-round n c cs xs =
    let head = rounds-head n c cs xs in
    let rest : List (List ℕ) = rounds_of n (c ∷ cs) ++ c ∷ xs in
    ap changes (append_assoc (c ∷ cs) (rounds_of n (c ∷ cs)) (c ∷ xs))
    ∙ ap (λ (l : List (List ℕ)). changes (c ∷ cs ++ l)) head.1
    ∙ changes-join (c ∷ cs) c head.0
    ∙ ap (λ (l : List (List ℕ)). changes (c ∷ cs ++ c ∷ []) + changes l) (sym head.1)

times : ℕ → ℕ → ℕ
times zero x = 0
times (suc n) x = x + times n x

changes-rounds : (n : ℕ) (c : List ℕ) (cs xs : List (List ℕ)) →
    changes (rounds_of n (c ∷ cs) ++ c ∷ xs)
    ≡ times n (changes (c ∷ cs ++ c ∷ [])) + changes (c ∷ xs)
unfolding times
changes-rounds zero c cs xs = omega arith
changes-rounds (suc n) c cs xs =
    omega (arith, changes-round n c cs xs, changes-rounds n c cs xs)

times-sixteen : (n x y : ℕ) → (times n (times 16 x) + y) % 16 ≡ y % 16
unfolding times
times-sixteen zero x y = omega arith
times-sixteen (suc n) x y = omega (arith, times-sixteen n x y)

-- behind rounds of sixteen cycles there are as many changes, modulo 16, as without them
changes-sixteen : (n : ℕ) (whole cycle : List (List ℕ)) (d : List ℕ) (ds xs : List (List ℕ)) →
    whole ≡ rounds_of 16 cycle → whole ≡ d ∷ ds →
    changes (rounds_of n whole ++ d ∷ xs) % 16 ≡ changes (d ∷ xs) % 16
changes-sixteen n whole [] d ds xs is begins =
    absurd (omega (arith, ap length (sym is ∙ begins)))
changes-sixteen n whole (c ∷ cycle) d ds xs is begins =
    let behind : List (List ℕ) = cycle ++ rounds_of 15 (c ∷ cycle) in
    let same : c ≡ d = ap (λ (l : List (List ℕ)). slice_index_or l 0 []) (sym is ∙ begins) in
    let cyc : ℕ = changes (c ∷ cycle ++ c ∷ []) in
    let one : changes (whole ++ c ∷ []) ≡ times 16 cyc + 0 =
    ap (λ (l : List (List ℕ)). changes (l ++ c ∷ [])) is ∙ changes-rounds 16 c cycle [] in
    let all : changes (rounds_of n (c ∷ behind) ++ c ∷ xs)
    ≡ times n (changes (c ∷ behind ++ c ∷ [])) + changes (c ∷ xs) =
    changes-rounds n c behind xs in
    let cycles : changes (c ∷ behind ++ c ∷ []) ≡ times 16 cyc =
    ap (λ (l : List (List ℕ)). changes (l ++ c ∷ [])) (sym is) ∙ one ∙ add-zero (times 16 cyc) in
    ap (λ (l : List (List ℕ)). changes (rounds_of n l ++ d ∷ xs) % 16) is
    ∙ ap (λ (e : List ℕ). changes (rounds_of n (c ∷ behind) ++ e ∷ xs) % 16) (sym same)
    ∙ ap (λ (k : ℕ). k % 16) all
    ∙ ap (λ (k : ℕ). (times n k + changes (c ∷ xs)) % 16) cycles
    ∙ times-sixteen n cyc (changes (c ∷ xs))
    ∙ ap (λ (e : List ℕ). changes (e ∷ xs) % 16) same

-- the contents of rounds are rounds of the contents
contents-rounds : (kind n : ℕ) (groups : List (List ℕ)) →
    contents kind (rounds_of n groups) ≡ rounds_of n (contents kind groups)
contents-rounds kind zero groups = refl
contents-rounds kind (suc n) groups =
    contents-append kind groups (rounds_of n groups)
    ∙ ap (λ (l : List (List ℕ)). contents kind groups ++ l) (contents-rounds kind n groups)

-- a group's own content is the last of its type
contents-own : (group : List ℕ) → contents (kind_of group) (group ∷ []) ≡ content_of group ∷ []
contents-own group = grind arith

-- what two lists begin with that have a front and an element in common
heads : (front : List (List ℕ)) (x : List ℕ) (behind : List (List ℕ)) →
    (d : List ℕ) × (ds : List (List ℕ)) × (xs : List (List ℕ))
    × (front ++ x ∷ behind ≡ d ∷ ds) × (front ++ x ∷ [] ≡ d ∷ xs)
heads [] x behind = (x, behind, [], refl, refl)
heads (d ∷ front) x behind = (d, front ++ x ∷ behind, front ++ x ∷ [], refl, refl)

-- of each type the contents come sixteen times
abbrev pub ComeSixteenTimes : List (List ℕ) → Type 0
ComeSixteenTimes groups =
    (kind : ℕ) → (cycle : List (List ℕ)) × (contents kind groups ≡ rounds_of 16 cycle)

-- a group has the index behind rounds that it has in the first
index-same : (n : ℕ) (groups before : List (List ℕ)) (group : List ℕ) (behind : List (List ℕ)) →
    ComeSixteenTimes groups → groups ≡ before ++ group ∷ behind →
    index_after (rounds_of n groups ++ before) group ≡ index_after before group
index-same n groups before group behind come split =
    let kind : ℕ = kind_of group in
    let whole : List (List ℕ) = contents kind groups in
    let front : List (List ℕ) = contents kind before in
    let own : contents kind (before ++ group ∷ []) ≡ front ++ content_of group ∷ [] =
    contents-append kind before (group ∷ [])
    ∙ ap (λ (l : List (List ℕ)). front ++ l) (contents-own group) in
    let is : whole ≡ front ++ content_of group ∷ contents kind behind =
    ap (contents kind) split ∙ contents-append kind before (group ∷ behind)
    ∙ ap (λ (l : List (List ℕ)). front ++ l) (contents-append kind (group ∷ []) behind
    ∙ ap (λ (l : List (List ℕ)). l ++ contents kind behind) (contents-own group)) in
    let h = heads front (content_of group) (contents kind behind) in
    let all : contents kind ((rounds_of n groups ++ before) ++ group ∷ [])
    ≡ rounds_of n whole ++ h.0 ∷ h.2 =
    ap (contents kind) (append_assoc (rounds_of n groups) before (group ∷ []))
    ∙ contents-append kind (rounds_of n groups) (before ++ group ∷ [])
    ∙ ap (λ (l : List (List ℕ)). l ++ contents kind (before ++ group ∷ []))
    (contents-rounds kind n groups)
    ∙ ap (λ (l : List (List ℕ)). rounds_of n whole ++ l) (own ∙ h.4) in
    let cycle = come kind in
    ap (λ (l : List (List ℕ)). changes l % 16) all
    ∙ changes-sixteen n whole cycle.0 h.0 h.1 h.2 cycle.1 (is ∙ h.3)
    ∙ ap (λ (l : List (List ℕ)). changes l % 16) (sym (own ∙ h.4))

cons_eq : (x y : ℕ) (xs ys : List ℕ) → x ≡ y → xs ≡ ys → x ∷ xs ≡ y ∷ ys
cons_eq x y xs ys p q = cc

indexes-same : (n : ℕ) (groups before behind : List (List ℕ)) → ComeSixteenTimes groups →
    groups ≡ before ++ behind →
    indexes_after (rounds_of n groups ++ before) behind ≡ indexes_after before behind
indexes-same n groups before [] come split = refl
indexes-same n groups before (group ∷ behind) come split =
    let one : before ++ group ∷ behind ≡ (before ++ group ∷ []) ++ behind =
    sym (append_assoc before (group ∷ []) behind) in
    cons_eq (index_after (rounds_of n groups ++ before) group) (index_after before group)
    (indexes_after ((rounds_of n groups ++ before) ++ group ∷ []) behind)
    (indexes_after (before ++ group ∷ []) behind)
    (index-same n groups before group behind come split)
    (ap (λ (l : List (List ℕ)). indexes_after l behind)
    (append_assoc (rounds_of n groups) before (group ∷ []))
    ∙ indexes-same n groups (before ++ group ∷ []) behind come (split ∙ one))

indexes-append : (before groups more : List (List ℕ)) →
    indexes_after before (groups ++ more)
    ≡ indexes_after before groups ++ indexes_after (before ++ groups) more
indexes-append before [] more =
    ap (λ (l : List (List ℕ)). indexes_after l more) (sym (append-nil before))
indexes-append before (group ∷ groups) more =
    grind (arith, indexes-append (before ++ group ∷ []) groups more, append_assoc)

round-behind : (n : ℕ) (groups : List (List ℕ)) →
    rounds_of n groups ++ groups ≡ rounds_of (suc n) groups
round-behind zero groups = sym (append-nil groups)
round-behind (suc n) groups =
    append_assoc groups (rounds_of n groups) groups
    ∙ ap (λ (l : List (List ℕ)). groups ++ l) (round-behind n groups)

-- groups whose contents come sixteen times keep their indexes, sent round and round
pub indexes-rounds : (n done : ℕ) (groups : List (List ℕ)) → ComeSixteenTimes groups →
    map group_index groups ≡ indexes_after [] groups →
    map group_index (rounds_of n groups)
    ≡ indexes_after (rounds_of done groups) (rounds_of n groups)
indexes-rounds zero done groups come own = refl
indexes-rounds (suc n) done groups come own =
    let here : indexes_after (rounds_of done groups) groups ≡ map group_index groups =
    ap (λ (l : List (List ℕ)). indexes_after l groups) (sym (append-nil (rounds_of done groups)))
    ∙ indexes-same done groups [] groups come refl ∙ sym own in
    map-append group_index groups (rounds_of n groups)
    ∙ ap (λ (l : List ℕ). map group_index groups ++ l) (indexes-rounds n (suc done) groups come own)
    ∙ ap (λ (l : List ℕ). l ++ indexes_after (rounds_of (suc done) groups) (rounds_of n groups))
    (sym here)
    ∙ ap (λ (l : List (List ℕ)). indexes_after (rounds_of done groups) groups
    ++ indexes_after l (rounds_of n groups)) (sym (round-behind done groups))
    ∙ sym (indexes-append (rounds_of done groups) groups (rounds_of n groups))
