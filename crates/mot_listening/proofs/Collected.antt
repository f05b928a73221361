-- What a receiver has of a turn whose segments come in any order, each once or more often, reads as
-- its carousel.
use Rattle.std.proofs.Common.{◌≡◌, ℕ, zero, suc, ◌+◌, ◌<◌, ◌≤◌, List, [], ◌∷◌, ◌++◌, Bool, true}
use Rattle.std.proofs.Common.{false, Option, Some, None, refl, sym, subst, map, length, ap, ◌∙◌}
use Rattle.std.proofs.Common.{not, arith, eq-eqb, append-nil}
use Rattle.std.proofs.lemmas.Bool.{and_parts, eqb-true, ne_eqb, not-true}
use Rattle.std.proofs.lemmas.List.Elements.{filter-append}
use Rattle.std.proofs.lemmas.Slice.Eq.{bytes_eq-Decides}
use Rattle.std.specs.Prelude.{◌==◌, ◌&&◌, ◌||◌, bytes_eq, filter, flat_map, max}
use Rattle.std.specs.Prelude.{if◌then◌else◌}
use Rattle.std.specs.List.{list_any, list_all, AllByRecursion}
use Rattle.mot_directory.specs.Directory.{read_directory}
use Rattle.mot_directory.specs.Entries.{entry_of}
use Rattle.mot_groups.specs.Entity.{entity_of, numbered_segments, own_segments, pieces}
use Rattle.mot_groups.specs.Entity.{segments_of}
use Rattle.mot_groups.specs.Group.{Segment}
use Rattle.mot_numbers.specs.Reading.{is_empty, read_each}
use Rattle.mot_objects.specs.Carousel.{Object}
use Rattle.mot_objects.specs.Ids.{contains, is_distinct}
use Rattle.mot_listening.specs.Listening.{collected, highest, in_order}
use Rattle.mot_player.specs.Reading.{belongs, directory_in, object_in, read_segments}
use Rattle.mot_player.specs.Repeats.{is_same_segment, received}
use Rattle.mot_player.specs.Turn.{bodies_with_ids}
use Rattle.mot_player.proofs.Laws.{AreBodies, AreSome, EntityLaws, IsHad, IsOwn, Respects}
use Rattle.mot_player.proofs.Laws.{all-append, all-behind, all-copies, all-front, all-list}
use Rattle.mot_player.proofs.Laws.{all-received, any-filter, belongs-cut, belongs-entity}
use Rattle.mot_player.proofs.Laws.{bodies-bodies, body-absent, body_of, copies, cut, each-own}
use Rattle.mot_player.proofs.Laws.{entry_ids, filter-received, foreign-directory, had-all, ids_of}
use Rattle.mot_player.proofs.Laws.{later-id, listed, map-ids, own-append, own-directory}
use Rattle.mot_player.proofs.Laws.{own-numbered_segments, own-respects, own-whole, read-own}

-- ---- the same segment

flags-same : (b c : Bool) → (if b then c else not c) ≡ true → b ≡ c
flags-same true true e = refl
flags-same true false e = absurd (let f : false ≡ true = e in cc)
flags-same false true e = absurd (let f : false ≡ true = e in cc)
flags-same false false e = refl

-- a segment that is the same in each field is the segment
pub same-is : (s t : Segment) → is_same_segment s t ≡ true → s ≡ t
same-is s t e =
    let flags : Bool = if s.last then t.last else not t.last in
    let bytes = and_parts (s.kind == t.kind && s.tid == t.tid && s.number == t.number && flags)
    (bytes_eq s.bytes t.bytes) e in
    let last = and_parts (s.kind == t.kind && s.tid == t.tid && s.number == t.number) flags
    bytes.0 in
    let number = and_parts (s.kind == t.kind && s.tid == t.tid) (s.number == t.number) last.0 in
    let ids = and_parts (s.kind == t.kind) (s.tid == t.tid) number.0 in
    let k : s.kind ≡ t.kind = eqb-true s.kind t.kind ids.0 in
    let i : s.tid ≡ t.tid = eqb-true s.tid t.tid ids.1 in
    let n : s.number ≡ t.number = eqb-true s.number t.number number.1 in
    let l : s.last ≡ t.last = flags-same s.last t.last last.1 in
    let b : s.bytes ≡ t.bytes = (bytes_eq-Decides s.bytes t.bytes).0 bytes.1 in
    ap (λ (x : ℕ). record s { kind = x }) k
    ∙ ap (λ (x : ℕ). record s { kind = t.kind; tid = x }) i
    ∙ ap (λ (x : ℕ). record s { kind = t.kind; tid = t.tid; number = x }) n
    ∙ ap (λ (x : Bool). record s { kind = t.kind; tid = t.tid; number = t.number; last = x }) l
    ∙ ap (λ (x : List ℕ). record t { bytes = x }) b

-- what holds of all segments holds of one that is among them
had-cases : (P : Segment → Type 0) (s x : Segment) (xs : List Segment) (b : Bool) →
    is_same_segment s x ≡ b → (list_any (is_same_segment s) xs ≡ true → P s) → P x →
    (b || list_any (is_same_segment s) xs) ≡ true → P s
had-cases P s x xs true e f p h = subst P (sym (same-is s x e)) p
had-cases P s x xs false e f p h = f h

pub had-holds : (P : Segment → Type 0) (xs : List Segment) (s : Segment) → AllByRecursion P xs →
    IsHad xs s → P s
had-holds P [] s p h = absurd (let f : false ≡ true = h in cc)
had-holds P (x ∷ xs) s p h =
    had-cases P s x xs (is_same_segment s x) refl (λ e. had-holds P xs s p.1 e) p.0 h

pub all-had : (P : Segment → Type 0) (xs ys : List Segment) → AllByRecursion P xs →
    AllByRecursion (IsHad xs) ys → AllByRecursion P ys
all-had P xs [] p h = tt
all-had P xs (y ∷ ys) p h = (had-holds P xs y p h.0, all-had P xs ys p h.1)

-- those of them that pass a test are among those that do
kept-cases : (P : Segment → Type 0) (b : Bool) (x : Segment) (ys : List Segment) →
    (b ≡ true → P x) → AllByRecursion P ys → AllByRecursion P (if b then x ∷ ys else ys)
kept-cases P true x ys f p = (f refl, p)
kept-cases P false x ys f p = p

pub all-filter : (P : Segment → Type 0) (q : Segment → Bool) (xs : List Segment) →
    AllByRecursion P xs → AllByRecursion P (filter q xs)
all-filter P q [] p = tt
all-filter P q (x ∷ xs) p =
    kept-cases P (q x) x (filter q xs) (λ e. p.0) (all-filter P q xs p.1)

pub filter-had : (q : Segment → Bool) → Respects q → (xs ys : List Segment) →
    AllByRecursion (IsHad xs) ys → AllByRecursion (IsHad (filter q xs)) (filter q ys)
filter-had q r xs [] h = tt
filter-had q r xs (y ∷ ys) h =
    kept-cases (IsHad (filter q xs)) (q y) y (filter q ys)
    (λ e. any-filter q r y e xs ∙ h.0) (filter-had q r xs ys h.1)

-- ---- in the order of numbers

number-respects : (n : ℕ) → Respects (λ (s : Segment). s.number == n)
number-respects n s t e = ap (λ (x : Segment). x.number == n) (same-is s t e)

twice-cases : (p q : Segment → Bool) (x : Segment) (ys zs : List Segment) (b c : Bool) →
    p x ≡ b → q x ≡ c → filter p ys ≡ filter q zs →
    filter p (if c then x ∷ ys else ys) ≡ filter q (if b then x ∷ zs else zs)
twice-cases p q x ys zs true true e f ih = rw (e, f, ih) refl
twice-cases p q x ys zs true false e f ih = rw (f, ih) refl
twice-cases p q x ys zs false true e f ih = rw (e, ih) refl
twice-cases p q x ys zs false false e f ih = ih

filter-twice : (p q : Segment → Bool) (xs : List Segment) →
    filter p (filter q xs) ≡ filter q (filter p xs)
filter-twice p q [] = refl
filter-twice p q (x ∷ xs) =
    twice-cases p q x (filter q xs) (filter p xs) (p x) (q x) refl refl (filter-twice p q xs)

pub kind-respects : (kind : ℕ) → Respects (λ (s : Segment). s.kind == kind)
kind-respects kind s t e = ap (λ (x : Segment). x.kind == kind) (same-is s t e)

filter-order : (p : Segment → Bool) (count n : ℕ) (xs : List Segment) →
    filter p (in_order count n xs) ≡ in_order count n (filter p xs)
filter-order p zero n xs = refl
filter-order p (suc count) n xs =
    let here : Segment → Bool = λ (s : Segment). s.number == n in
    filter-append p (filter here xs) (in_order count (n + 1) xs)
    ∙ ap (λ (ss : List Segment). ss ++ filter p (in_order count (n + 1) xs))
    (filter-twice p here xs)
    ∙ ap (λ (ss : List Segment). filter here (filter p xs) ++ ss)
    (filter-order p count (n + 1) xs)

all-order : (P : Segment → Type 0) (count n : ℕ) (xs : List Segment) → AllByRecursion P xs →
    AllByRecursion P (in_order count n xs)
all-order P zero n xs p = tt
all-order P (suc count) n xs p =
    all-append P (filter (λ (s : Segment). s.number == n) xs) (in_order count (n + 1) xs)
    (all-filter P (λ (s : Segment). s.number == n) xs p) (all-order P count (n + 1) xs p)

-- what holds of all segments holds of those that a receiver has
pub all-collected : (P : Segment → Type 0) (xs : List Segment) → AllByRecursion P xs →
    AllByRecursion P (collected xs)
all-collected P xs p =
    all-order P (suc (highest xs)) 0 (received [] xs) (all-received P [] xs tt p)

-- ---- one segment, once or more often

one-had : (x s : Segment) → IsHad (x ∷ []) s → is_same_segment s x ≡ true
one-had x s h = one-cases (is_same_segment s x) h
  where
    one-cases : (b : Bool) → (b || false) ≡ true → b ≡ true
    one-cases true e = refl
    one-cases false e = e

ones-again : (x : Segment) (ys : List Segment) → AllByRecursion (IsHad (x ∷ [])) ys →
    received (x ∷ []) ys ≡ x ∷ []
ones-again x [] h = refl
ones-again x (y ∷ ys) h =
    ap (λ (b : Bool). received (if b then x ∷ [] else (x ∷ []) ++ y ∷ []) ys) h.0
    ∙ ones-again x ys h.1

once-one : (x : Segment) (ys : List Segment) → AllByRecursion (IsHad (x ∷ [])) ys →
    IsHad ys x → received [] ys ≡ x ∷ []
once-one x [] h k = absurd (let f : false ≡ true = k in cc)
once-one x (y ∷ ys) h k =
    let is : y ≡ x = same-is y x (one-had x y h.0) in
    ap (λ (z : Segment). received (z ∷ []) ys) is ∙ ones-again x ys h.1

none-had : (ys : List Segment) → AllByRecursion (IsHad []) ys → ys ≡ []
none-had [] h = refl
none-had (y ∷ ys) h = absurd (let f : false ≡ true = h.0 in cc)

-- ---- the segments of an entity

-- numbers from one on
abbrev IsFrom : ℕ → Segment → Type 0
IsFrom n s = n ≤ s.number

numbered-from : (kind tid n k : ℕ) (ps : List (List ℕ)) → k ≤ n →
    AllByRecursion (IsFrom k) (numbered_segments kind tid n ps)
numbered-from kind tid n k [] l = tt
numbered-from kind tid n k (p ∷ ps) l =
    (l, numbered-from kind tid (n + 1) k ps (omega (arith, l)))

none-numbered : (n : ℕ) (xs : List Segment) → AllByRecursion (IsFrom (n + 1)) xs →
    filter (λ (s : Segment). s.number == n) xs ≡ []
none-numbered n [] h = refl
none-numbered n (x ∷ xs) h =
    rw (ne_eqb x.number n (λ e. omega (arith, h.0, e))) (none-numbered n xs h.1)

-- of one number there is one segment of an entity, or none
data AtMostOne : List Segment → Type 0 where
  none_there : AtMostOne []
  one_there : (x : Segment) → AtMostOne (x ∷ [])

number-cases : (first : Segment) (rest : List Segment) (b : Bool) → (b ≡ true → rest ≡ []) →
    AtMostOne rest → AtMostOne (if b then first ∷ rest else rest)
number-cases first rest true e m =
    subst (λ (ss : List Segment). AtMostOne (first ∷ ss)) (sym (e refl)) (one_there first)
number-cases first rest false e m = m

numbered-once : (kind tid n m : ℕ) (ps : List (List ℕ)) →
    AtMostOne (filter (λ (s : Segment). s.number == m) (numbered_segments kind tid n ps))
numbered-once kind tid n m [] = none_there
numbered-once kind tid n m (p ∷ ps) =
    let rest : List Segment = numbered_segments kind tid (n + 1) ps in
    number-cases (record
    { kind = kind; tid = tid; number = n; last = is_empty ps; bytes = p })
    (filter (λ (s : Segment). s.number == m) rest) (n == m)
    (λ e. none-numbered m rest
    (numbered-from kind tid (n + 1) (m + 1) ps (omega (arith, eqb-true n m e))))
    (numbered-once kind tid (n + 1) m ps)

once-is : (ws ts : List Segment) → AtMostOne ws → AllByRecursion (IsHad ws) ts →
    AllByRecursion (IsHad ts) ws → received [] ts ≡ ws
once-is _ ts none_there h k = ap (received []) (none-had ts h)
once-is _ ts (one_there x) h k = once-one x ts h k.0

-- so segments that are those of an entity, in any order, are them in the order of numbers
order-is : (kind tid count n m : ℕ) (ps : List (List ℕ)) (ts : List Segment) →
    AllByRecursion (IsHad (numbered_segments kind tid n ps)) ts →
    AllByRecursion (IsHad ts) (numbered_segments kind tid n ps) →
    in_order count m (received [] ts) ≡ in_order count m (numbered_segments kind tid n ps)
order-is kind tid zero n m ps ts h k = refl
order-is kind tid (suc count) n m ps ts h k =
    let ws : List Segment = numbered_segments kind tid n ps in
    let here : Segment → Bool = λ (s : Segment). s.number == m in
    ap (λ (ss : List Segment). ss ++ in_order count (m + 1) (received [] ts))
    (filter-received here (number-respects m) [] ts
    ∙ once-is (filter here ws) (filter here ts) (numbered-once kind tid n m ps)
    (filter-had here (number-respects m) ws ts h) (filter-had here (number-respects m) ts ws k))
    ∙ ap (λ (ss : List Segment). filter here ws ++ ss)
    (order-is kind tid count n (m + 1) ps ts h k)

-- a segment with a lower number is not among those from a number on
order-skips : (count n : ℕ) (x : Segment) (xs : List Segment) → x.number < n →
    in_order count n (x ∷ xs) ≡ in_order count n xs
order-skips zero n x xs l = refl
order-skips (suc count) n x xs l =
    rw (ne_eqb x.number n (λ e. omega (arith, l, e)))
    (ap (λ (ss : List Segment). filter (λ (s : Segment). s.number == n) xs ++ ss)
    (order-skips count (n + 1) x xs (omega (arith, l))))

order-none : (count n : ℕ) → in_order count n [] ≡ []
order-none zero n = refl
order-none (suc count) n = order-none count (n + 1)

order-numbered : (kind tid count n : ℕ) (ps : List (List ℕ)) → length ps ≤ count →
    in_order count n (numbered_segments kind tid n ps) ≡ numbered_segments kind tid n ps
order-numbered kind tid count n [] l = order-none count n
order-numbered kind tid zero n (p ∷ ps) l = absurd (omega (arith, l))
order-numbered kind tid (suc count) n (p ∷ ps) l =
    let x : Segment = record
    { kind = kind; tid = tid; number = n; last = is_empty ps; bytes = p } in
    let rest : List Segment = numbered_segments kind tid (n + 1) ps in
    let here : Segment → Bool = λ (s : Segment). s.number == n in
    let none : filter here rest ≡ [] =
    none-numbered n rest (numbered-from kind tid (n + 1) (n + 1) ps (omega arith)) in
    let first : filter here (x ∷ rest) ≡ x ∷ [] = rw (eq-eqb n n refl, none) refl in
    ap (λ (ss : List Segment). ss ++ in_order count (n + 1) (x ∷ rest)) first
    ∙ ap (λ (ss : List Segment). x ∷ ss)
    (order-skips count (n + 1) x rest (omega arith)
    ∙ order-numbered kind tid count (n + 1) ps (omega (arith, l)))

-- the highest number
higher-cases : (s x : Segment) (xs : List Segment) (b : Bool) → is_same_segment s x ≡ b →
    (list_any (is_same_segment s) xs ≡ true → s.number ≤ highest xs) →
    (b || list_any (is_same_segment s) xs) ≡ true → s.number ≤ max x.number (highest xs)
higher-cases s x xs true e f h =
    omega (arith, ap (λ (y : Segment). y.number) (same-is s x e))
higher-cases s x xs false e f h = omega (arith, f h)

had-highest : (xs : List Segment) (s : Segment) → IsHad xs s → s.number ≤ highest xs
had-highest [] s h = absurd (let f : false ≡ true = h in cc)
had-highest (x ∷ xs) s h =
    higher-cases s x xs (is_same_segment s x) refl (λ e. had-highest xs s e) h

numbered-highest : (kind tid n : ℕ) (ps : List (List ℕ)) (xs : List Segment) → 0 < length ps →
    AllByRecursion (IsHad xs) (numbered_segments kind tid n ps) →
    n + length ps ≤ 1 + highest xs
numbered-highest kind tid n [] xs some h = absurd (omega (arith, some))
numbered-highest kind tid n (p ∷ []) xs some h =
    omega (
      arith,
      had-highest xs (record
          { kind = kind; tid = tid; number = n; last = true; bytes = p }) h.0,
    )
numbered-highest kind tid n (p ∷ q ∷ ps) xs some h =
    omega (arith, numbered-highest kind tid (n + 1) (q ∷ ps) xs (omega arith) h.1)

enough-numbers : (kind tid : ℕ) (ps : List (List ℕ)) (xs : List Segment) →
    AllByRecursion (IsHad xs) (numbered_segments kind tid 0 ps) →
    length ps ≤ suc (highest xs)
enough-numbers kind tid [] xs h = omega arith
enough-numbers kind tid (p ∷ ps) xs h =
    omega (arith, numbered-highest kind tid 0 (p ∷ ps) xs (omega arith) h)

-- an entity's own segments, among any, are in the order of their numbers, each once
pub collected-own : (kind tid : ℕ) (ps : List (List ℕ)) (xs : List Segment) →
    AllByRecursion (IsHad (numbered_segments kind tid 0 ps)) (own_segments kind tid xs) →
    AllByRecursion (IsHad xs) (numbered_segments kind tid 0 ps) →
    own_segments kind tid (collected xs) ≡ numbered_segments kind tid 0 ps
collected-own kind tid ps xs h k =
    let mine : Segment → Bool = λ (s : Segment). s.kind == kind && s.tid == tid in
    let ws : List Segment = numbered_segments kind tid 0 ps in
    let count : ℕ = suc (highest xs) in
    let back : AllByRecursion (IsHad (filter mine xs)) ws =
    subst (AllByRecursion (IsHad (filter mine xs))) (own-numbered_segments kind tid 0 ps)
    (filter-had mine (own-respects kind tid) xs ws k) in
    filter-order mine count 0 (received [] xs)
    ∙ ap (in_order count 0) (filter-received mine (own-respects kind tid) [] xs)
    ∙ order-is kind tid count 0 0 ps (filter mine xs) h back
    ∙ order-numbered kind tid count 0 ps (enough-numbers kind tid ps xs k)

-- ---- reading

-- the first directory is this one, where there is no other
IsDirectory : ℕ → Segment → Type 0
IsDirectory id s = (s.kind == 6) ≡ true → s.tid ≡ id

directory-cases : (id : ℕ) (x : Segment) (xs : List Segment) (b : Bool) →
    (b ≡ true → x.tid ≡ id) →
    (is_empty (own_segments 6 id xs) ≡ false → directory_in xs ≡ Some id) →
    is_empty (if b && x.tid == id then x ∷ own_segments 6 id xs else own_segments 6 id xs)
    ≡ false → (if b then Some x.tid else directory_in xs) ≡ Some id
directory-cases id x xs true p f e = ap (λ (n : ℕ). Some n) (p refl)
directory-cases id x xs false p f e = f e

first-directory : (id : ℕ) (xs : List Segment) → AllByRecursion (IsDirectory id) xs →
    is_empty (own_segments 6 id xs) ≡ false → directory_in xs ≡ Some id
unfolding IsDirectory
first-directory id [] p e = absurd (let f : true ≡ false = e in cc)
first-directory id (x ∷ xs) p e =
    directory-cases id x xs (x.kind == 6) p.0 (first-directory id xs p.1) e

numbered-directories : (id n : ℕ) (ps : List (List ℕ)) →
    AllByRecursion (IsDirectory id) (numbered_segments 6 id n ps)
unfolding IsDirectory
numbered-directories id n [] = tt
numbered-directories id n (p ∷ ps) = (λ e. refl, numbered-directories id (n + 1) ps)

no-directories : (id : ℕ) (xs : List Segment) → AreBodies xs →
    AllByRecursion (IsDirectory id) xs
unfolding IsDirectory
no-directories id [] k = tt
no-directories id (x ∷ xs) k = (
  λ e. absurd (let f : false ≡ true = sym (ap (λ (n : ℕ). n == 6) k.0) ∙ e in cc),
  no-directories id xs k.1,
)

some-numbered : (id : ℕ) (bytes : List ℕ) (ps : List (List ℕ)) →
    flat_map (λ piece. piece) ps ≡ bytes → 0 < length bytes →
    is_empty (numbered_segments 6 id 0 ps) ≡ false
some-numbered id bytes [] e some = absurd (omega (arith, ap length e))
some-numbered id bytes (p ∷ ps) e some = refl

own6-turn : (id size : ℕ) (bytes : List ℕ) (objects : List Object) →
    own_segments 6 id (segments_of 6 id size bytes ++ cut size objects)
    ≡ segments_of 6 id size bytes
own6-turn id size bytes objects =
    let own6 : List Segment = segments_of 6 id size bytes in
    let bodies : List Segment = cut size objects in
    own-append 6 id own6 bodies
    ∙ ap (λ (ss : List Segment). ss ++ own_segments 6 id bodies)
    (own-numbered_segments 6 id 0 (pieces size bytes))
    ∙ ap (λ (ss : List Segment). own6 ++ ss) (foreign-directory id size objects)
    ∙ append-nil own6

-- of segments of a turn among which its directory's are, the directory's are in order
collected-directory : (id size : ℕ) (bytes : List ℕ) (objects : List Object)
    (xs : List Segment) →
    AllByRecursion (IsHad (segments_of 6 id size bytes ++ cut size objects)) xs →
    AllByRecursion (IsHad xs) (segments_of 6 id size bytes) →
    own_segments 6 id (collected xs) ≡ segments_of 6 id size bytes
collected-directory id size bytes objects xs h k =
    let whole : List Segment = segments_of 6 id size bytes ++ cut size objects in
    collected-own 6 id (pieces size bytes) xs
    (subst (λ (ws : List Segment). AllByRecursion (IsHad ws) (own_segments 6 id xs))
    (own6-turn id size bytes objects)
    (filter-had (λ (s : Segment). s.kind == 6 && s.tid == id) (own-respects 6 id) whole xs h)) k

module _ (size : ℕ) (laws : EntityLaws size) where
  -- and they read as it
  pub directory-collected : (id : ℕ) (bytes : List ℕ) (objects : List Object)
      (xs : List Segment) → 0 < length bytes →
      AllByRecursion (IsHad (segments_of 6 id size bytes ++ cut size objects)) xs →
      AllByRecursion (IsHad xs) (segments_of 6 id size bytes) →
      entity_of (collected xs) 6 id ≡ Some bytes
  directory-collected id bytes objects xs b h k =
      laws.entity 6 id bytes (collected xs) b
      (collected-directory id size bytes objects xs h k)

  -- of segments of a turn among which a body's are, the body is read
  pub bodies-once : (id : ℕ) (bytes : List ℕ) (objects : List Object) (xs : List Segment) →
      is_distinct (ids_of objects) ≡ true → AreSome objects →
      AllByRecursion (IsHad (segments_of 6 id size bytes ++ cut size objects)) xs →
      AllByRecursion (λ (o : Object).
      AllByRecursion (IsHad xs) (segments_of 4 o.tid size o.body) →
      entity_of (collected xs) 4 o.tid ≡ Some o.body) objects
  bodies-once id bytes objects xs distinct some h =
      each-read objects some (each-had objects distinct (λ tid body e.
      own-among tid body (subst (λ (o : Option (List ℕ)).
      IsOwn size tid o (own_segments 4 tid (cut size objects))) e
      (own-whole tid size (bodies_with_ids objects)
      (ap is_distinct (map-ids objects) ∙ distinct)))))
    where
      whole : List Segment
      whole = segments_of 6 id size bytes ++ cut size objects

      own-among : (tid : ℕ) (body : List ℕ) →
          IsOwn size tid (Some body) (own_segments 4 tid (cut size objects)) →
          AllByRecursion (IsHad (segments_of 4 tid size body)) (own_segments 4 tid xs)
      own-among tid body is =
          let here : List Segment = segments_of 4 tid size body in
          let same : own_segments 4 tid whole ≡ copies (suc is.0) here =
          own-append 4 tid (segments_of 6 id size bytes) (cut size objects)
          ∙ ap (λ (ss : List Segment). ss ++ own_segments 4 tid (cut size objects))
          (own-directory tid id 0 (pieces size bytes)) ∙ is.1 in
          all-had (IsHad here) (copies (suc is.0) here) (own_segments 4 tid xs)
          (all-copies (IsHad here) (suc is.0) here (had-all here))
          (subst (λ (ws : List Segment). AllByRecursion (IsHad ws) (own_segments 4 tid xs)) same
          (filter-had (λ (s : Segment). s.kind == 4 && s.tid == tid) (own-respects 4 tid) whole xs
          h))

      each-had : (objects : List Object) → is_distinct (ids_of objects) ≡ true →
          ((tid : ℕ) (body : List ℕ) → body_of tid (bodies_with_ids objects) ≡ Some body →
          AllByRecursion (IsHad (segments_of 4 tid size body)) (own_segments 4 tid xs)) →
          AllByRecursion (λ (o : Object).
          AllByRecursion (IsHad (segments_of 4 o.tid size o.body)) (own_segments 4 o.tid xs))
          objects
      each-had [] d f = tt
      each-had (o ∷ objects) d f =
          let parts = and_parts (not (contains (ids_of objects) o.tid))
          (is_distinct (ids_of objects)) d in
          let absent : body_of o.tid (bodies_with_ids objects) ≡ None =
          body-absent o.tid (bodies_with_ids objects)
          (ap (λ (ids : List ℕ). contains ids o.tid) (map-ids objects)
          ∙ not-true (contains (ids_of objects) o.tid) parts.0) in (
            f o.tid o.body (rw (eq-eqb o.tid o.tid refl) refl),
            each-had objects parts.1 (λ tid body e. f tid body
                (later-id tid o objects body (tid == o.tid) refl absent e)),
          )

      each-read : (objects : List Object) → AreSome objects →
          AllByRecursion (λ (o : Object).
          AllByRecursion (IsHad (segments_of 4 o.tid size o.body)) (own_segments 4 o.tid xs))
          objects →
          AllByRecursion (λ (o : Object).
          AllByRecursion (IsHad xs) (segments_of 4 o.tid size o.body) →
          entity_of (collected xs) 4 o.tid ≡ Some o.body) objects
      each-read [] some f = tt
      each-read (o ∷ objects) some f = (
        λ k. laws.entity 4 o.tid o.body (collected xs) some.0
            (collected-own 4 o.tid (pieces size o.body) xs f.0 k),
        each-read objects some.1 f.1,
      )

  -- the segments of a turn, in any order, each once or more often, read as its carousel
  pub reads-collected : (id period : ℕ) (bytes : List ℕ) (objects : List Object)
      (xs : List Segment) → 0 < length bytes →
      read_directory bytes ≡ Some
      (record { period = period; segment_size = size; entries = map entry_of objects }) →
      is_distinct (id ∷ ids_of objects) ≡ true → AreSome objects →
      AllByRecursion (IsHad (segments_of 6 id size bytes ++ cut size objects)) xs →
      AllByRecursion (IsHad xs) (segments_of 6 id size bytes ++ cut size objects) →
      read_segments (collected xs)
      ≡ Some (record { directory = id; period = period; segment_size = size; objects = objects })
  unfolding read_segments
  reads-collected id period bytes objects xs b d distinct some h k =
      let own6 : List Segment = segments_of 6 id size bytes in
      let bodies : List Segment = cut size objects in
      let whole : List Segment = own6 ++ bodies in
      let all : List Segment = collected xs in
      let own_is : own_segments 6 id all ≡ own6 =
      collected-directory id size bytes objects xs h (all-front (IsHad xs) own6 bodies k) in
      let entity : entity_of all 6 id ≡ Some bytes = laws.entity 6 id bytes all b own_is in
      let first : directory_in all ≡ Some id =
      first-directory id all
      (all-collected (IsDirectory id) xs
      (all-had (IsDirectory id) whole xs
      (all-append (IsDirectory id) own6 bodies (numbered-directories id 0 (pieces size bytes))
      (no-directories id bodies (bodies-bodies size (bodies_with_ids objects)))) h))
      (ap (λ (ss : List Segment). is_empty ss) own_is
      ∙ some-numbered id bytes (pieces size bytes) (laws.cut bytes).whole b) in
      let parts = and_parts (not (contains (ids_of objects) id)) (is_distinct (ids_of objects))
      distinct in
      let found : read_each (object_in all) (map entry_of objects) ≡ Some objects =
      read-own size laws all objects some (each-own size all objects parts.1 (λ tid body e.
      own-body tid body xs objects (own_is-body tid body objects parts.1 e) whole
      (filter-had (λ (s : Segment). s.kind == 4 && s.tid == tid) (own-respects 4 tid) whole xs h)
      (own-append 4 tid own6 bodies
      ∙ ap (λ (ss : List Segment). ss ++ own_segments 4 tid bodies)
      (own-directory tid id 0 (pieces size bytes)))
      (all-behind (IsHad xs) own6 bodies k))) in
      let test : Segment → Bool = belongs id (ids_of objects) size in
      let members : list_all test all ≡ true =
      all-list test all (all-collected (λ (s : Segment). test s ≡ true) xs
      (all-had (λ (s : Segment). test s ≡ true) whole xs
      (all-append (λ (s : Segment). test s ≡ true) own6 bodies
      (listed test own6
      (belongs-entity size laws id 6 id (ids_of objects) bytes (rw (eq-eqb id id refl) refl)))
      (listed test bodies (belongs-cut size laws id (ids_of objects) objects (λ tid e. e)))) h)) in
      rw (first, entity, d, found, entry_ids objects, distinct, members) refl
    where
      own_is-body : (tid : ℕ) (body : List ℕ) (objects : List Object) →
          is_distinct (ids_of objects) ≡ true →
          body_of tid (bodies_with_ids objects) ≡ Some body →
          IsOwn size tid (Some body) (own_segments 4 tid (cut size objects))
      own_is-body tid body objects distinct e =
          subst (λ (o : Option (List ℕ)). IsOwn size tid o (own_segments 4 tid (cut size objects)))
          e (own-whole tid size (bodies_with_ids objects)
          (ap is_distinct (map-ids objects) ∙ distinct))

      own-body : (tid : ℕ) (body : List ℕ) (xs : List Segment) (objects : List Object) →
          IsOwn size tid (Some body) (own_segments 4 tid (cut size objects)) →
          (whole : List Segment) →
          AllByRecursion (IsHad (own_segments 4 tid whole)) (own_segments 4 tid xs) →
          own_segments 4 tid whole ≡ own_segments 4 tid (cut size objects) →
          AllByRecursion (IsHad xs) (cut size objects) →
          own_segments 4 tid (collected xs) ≡ segments_of 4 tid size body
      own-body tid body xs objects is whole h same k =
          let here : List Segment = segments_of 4 tid size body in
          let again : own_segments 4 tid whole ≡ copies (suc is.0) here = same ∙ is.1 in
          collected-own 4 tid (pieces size body) xs
          (all-had (IsHad here) (copies (suc is.0) here) (own_segments 4 tid xs)
          (all-copies (IsHad here) (suc is.0) here (had-all here))
          (subst (λ (ws : List Segment). AllByRecursion (IsHad ws) (own_segments 4 tid xs)) again
          h))
          (all-front (IsHad xs) here (copies is.0 here)
          (subst (AllByRecursion (IsHad xs)) is.1
          (all-filter (IsHad xs) (λ (s : Segment). s.kind == 4 && s.tid == tid)
          (cut size objects) k)))
