-- Names in their order, and one more in its place.
use Rattle.std.proofs.Common.{◌≡◌, ◌∙◌, ◌<◌, ◌≤◌, ◌+◌, ℕ, zero, suc, Bool, true, false, not}
use Rattle.std.proofs.Common.{◌||◌, List, [], ◌∷◌, ap, arith, cond, length, refl, Ok, Err, Result}
use Rattle.std.proofs.Common.{subst, sym, get_or, IfErr, is_ok, Equal, Greater, Less, Ordering}
use Rattle.std.proofs.lemmas.Bool.{and_from, or_parts, or_from, not_from_false}
use Rattle.std.proofs.lemmas.Bool.Decides.{nat_tests}
use Rattle.std.proofs.lemmas.Cmp.{nat_list_cmp_total, same_from_slice_cmp}
use Rattle.std.proofs.lemmas.List.Sorted.{searchable_from_sorted}
use Rattle.std.proofs.lemmas.Slice.Eq.{bytes_eq-Decides}
use Rattle.std.specs.Cmp.Lexicographic.{slice_cmp}
use Rattle.std.specs.List.{AllByRecursion, insert, list_any}
use Rattle.std.specs.List.Sorted.{IsBinarySearchResult, IsSearchInRange, IsSortedBy}
use Rattle.std.specs.List.Sorted.{IsStrictlySortedBy}
use Rattle.std.specs.Ordering.{is_eq, is_lt, nat_cmp, ordering_reverse}
use Rattle.std.specs.Prelude.{bytes_eq}
use Rattle.mot_objects.specs.Carousel.{are_names_distinct}
use Rattle.mot_folder.specs.Listed.{and_in_order, stands_before}
use Rattle.mot_suffixes.specs.Types.{AreShown, is_hidden}
use Rattle.mot_update.specs.Updating.{is_known}

-- ---- one name before another

abbrev by_bytes : List ℕ → List ℕ → Ordering
by_bytes = slice_cmp nat_cmp

is_first : (xs ys : List ℕ) → is_lt (by_bytes xs ys) ≡ stands_before xs ys
is_first xs ys =
    same_from_slice_cmp nat_cmp is_lt stands_before refl (λ _ _. refl) (λ _ _. refl)
    (λ x y xs ys o h. grind (arith, nat_tests)) xs ys (by_bytes xs ys) refl

is_same : (xs ys : List ℕ) → is_eq (by_bytes xs ys) ≡ bytes_eq xs ys
is_same xs ys =
    same_from_slice_cmp nat_cmp is_eq bytes_eq refl (λ _ _. refl) (λ _ _. refl)
    (λ x y xs ys o h. grind (arith, nat_tests)) xs ys (by_bytes xs ys) refl

-- the other way round
turned : (n m : List ℕ) (o : Ordering) → by_bytes m n ≡ o → by_bytes n m ≡ ordering_reverse o
turned n m o is = nat_list_cmp_total.antisymm n m ∙ ap ordering_reverse is

is_less : (o : Ordering) → is_lt o ≡ true → o ≡ Less
is_less Less e = refl
is_less Equal e = absurd (cc (e))
is_less Greater e = absurd (cc (e))

is_greater : (o : Ordering) → is_lt o ≡ false → is_eq o ≡ false → o ≡ Greater
is_greater Less e f = absurd (cc (e))
is_greater Equal e f = absurd (cc (f))
is_greater Greater e f = refl

-- ---- names in order, and one more

pub none_ordered : (names : List (List ℕ)) → names ≡ [] → IsStrictlySortedBy by_bytes names
unfolding IsStrictlySortedBy
none_ordered names is = subst (IsStrictlySortedBy by_bytes) (sym is) tt

all-cases : (P : List ℕ → Type 0) (b : Bool) (xs ys : List (List ℕ)) → AllByRecursion P xs
    → AllByRecursion P ys → AllByRecursion P (cond b xs ys)
all-cases P true xs ys all too = all
all-cases P false xs ys all too = too

-- what is so of names, and of one more
all_more : (P : List ℕ → Type 0) (names : List (List ℕ)) (n : List ℕ) → AllByRecursion P names
    → P n → AllByRecursion P (and_in_order names n)
all_more P [] n all one = (one, tt)
all_more P (m ∷ names) n all one =
    all-cases P (stands_before n m) (n ∷ m ∷ names) (m ∷ and_in_order names n) (one, all)
    (all.0, all_more P names n all.1 one)

-- names none of which begins with a dot, and one more in its place, if it is none of them
pub shown_where : (b : Bool) (names : List (List ℕ)) (n : List ℕ) → is_hidden n ≡ false → AreShown names
    → AreShown (cond b (and_in_order names n) names)
shown_where b names n is all =
    all-cases (λ m. is_hidden m ≡ false) b (and_in_order names n) names
    (all_more (λ m. is_hidden m ≡ false) names n all is) all

-- what a name stands before, stands before what that stands before
all_before : (n m : List ℕ) (names : List (List ℕ)) → by_bytes n m ≡ Less
    → AllByRecursion (λ x. by_bytes m x ≡ Less) names
    → AllByRecursion (λ x. by_bytes n x ≡ Less) names
all_before n m [] less all = tt
all_before n m (x ∷ names) less all =
    (nat_list_cmp_total.trans n m x less all.0, all_before n m names less all.1)

ordered-cases : (b : Bool) (n m : List ℕ) (names : List (List ℕ)) → stands_before n m ≡ b
    → bytes_eq n m ≡ false → IsStrictlySortedBy by_bytes (m ∷ names)
    → IsStrictlySortedBy by_bytes (and_in_order names n)
    → IsStrictlySortedBy by_bytes (cond b (n ∷ m ∷ names) (m ∷ and_in_order names n))
unfolding IsStrictlySortedBy
ordered-cases true n m names is other all rest =
    let less = is_less (by_bytes n m) (is_first n m ∙ is) in
    ((less, all_before n m names less all.0), all)
ordered-cases false n m names is other all rest = (
  all_more (λ x. by_bytes m x ≡ Less) names n all.0 (turned m n Greater
      (is_greater (by_bytes n m) (is_first n m ∙ is) (is_same n m ∙ other))),
  rest,
)

-- names in order, and one that is none of them in its place, are in order
pub still_ordered : (names : List (List ℕ)) (n : List ℕ) → IsStrictlySortedBy by_bytes names
    → is_known names n ≡ false → IsStrictlySortedBy by_bytes (and_in_order names n)
unfolding IsStrictlySortedBy
still_ordered [] n all none = (tt, tt)
still_ordered (m ∷ names) n all none =
    let parts = or_parts (bytes_eq n m) (is_known names n) none in
    ordered-cases (stands_before n m) n m names refl parts.0 all
    (still_ordered names n all.1 parts.1)

none_before : (names : List (List ℕ)) (n : List ℕ) → AllByRecursion (λ x. by_bytes n x ≡ Less) names
    → is_known names n ≡ false
none_before [] n all = refl
none_before (m ∷ names) n all =
    or_from (bytes_eq n m) (is_known names n) (sym (is_same n m) ∙ ap is_eq all.0)
    (none_before names n all.1)

-- names in order differ
pub ordered_differ : (names : List (List ℕ)) → IsStrictlySortedBy by_bytes names
    → are_names_distinct names ≡ true
unfolding IsStrictlySortedBy
ordered_differ [] all = refl
ordered_differ (n ∷ names) all =
    and_from (not (list_any (bytes_eq n) names)) (are_names_distinct names)
    (not_from_false _ (none_before names n all.0)) (ordered_differ names all.1)

-- ---- what a search finds

rising : (names : List (List ℕ)) → IsStrictlySortedBy by_bytes names
    → IsSortedBy (λ x y. is_lt (by_bytes x y)) names
unfolding IsStrictlySortedBy
rising [] all k d low high = absurd (omega (arith, high))
rising (n ∷ []) all k d low high = absurd (omega (arith, high))
rising (n ∷ m ∷ names) all zero d low high = ap is_lt (turned m n Less all.0.0)
rising (n ∷ m ∷ names) all (suc k) d low high =
    subst (λ i. is_lt (by_bytes (get_or (n ∷ m ∷ names) i d) (get_or (m ∷ names) k d)) ≡ false)
    {x = suc (suc k)} {y = suc k + 1} (omega arith)
    (subst (λ i. is_lt (by_bytes (get_or (m ∷ names) i d) (get_or (m ∷ names) k d)) ≡ false)
    {x = k + 1} {y = suc k} (omega arith)
    (rising (m ∷ names) all.1 k d (omega arith) (omega (arith, high))))

found : (names : List (List ℕ)) (n : List ℕ) (i : ℕ) → i < length names
    → ((d : List ℕ) → by_bytes (get_or names i d) n ≡ Equal) → is_known names n ≡ true
found [] n i lt is = absurd (omega (arith, lt))
found (m ∷ names) n zero lt is =
    ap (λ (b : Bool). b || is_known names n)
    (sym (is_same n m) ∙ ap is_eq (turned n m Equal (is [])))
found (m ∷ names) n (suc i) lt is =
    known_behind (bytes_eq n m) (is_known names n) (found names n i (omega (arith, lt)) is)
  where
    known_behind : (a b : Bool) → b ≡ true → (a || b) ≡ true
    known_behind true b e = refl
    known_behind false b e = e

placed : (names : List (List ℕ)) (n : List ℕ) (i : ℕ) → i ≤ length names
    → ((k : ℕ) (d : List ℕ) → k < i → by_bytes (get_or names k d) n ≡ Less)
    → ((k : ℕ) (d : List ℕ) → i ≤ k → k < length names → by_bytes (get_or names k d) n ≡ Greater)
    → (is_known names n ≡ false) × (insert names i n ≡ and_in_order names n)
placed [] n zero le before after = (refl, refl)
placed [] n (suc i) le before after = absurd (omega (arith, le))
placed (m ∷ names) n zero le before after =
    let less = turned n m Greater (after 0 [] (omega arith) (omega arith)) in
    let rest = placed names n zero (omega arith) (λ k d lt. absurd (omega (arith, lt)))
    (λ k d low high. after (suc k) d (omega arith) (omega (arith, high))) in (
      or_from (bytes_eq n m) (is_known names n) (sym (is_same n m) ∙ ap is_eq less) rest.0,
      sym (ap (λ b. cond b (n ∷ m ∷ names) (m ∷ and_in_order names n))
          (sym (is_first n m) ∙ ap is_lt less)),
    )
placed (m ∷ names) n (suc i) le before after =
    let greater = turned n m Less (before 0 [] (omega arith)) in
    let rest = placed names n i (omega (arith, le))
    (λ k d lt. before (suc k) d (omega (arith, lt)))
    (λ k d low high. after (suc k) d (omega (arith, low)) (omega (arith, high))) in (
      or_from (bytes_eq n m) (is_known names n) (sym (is_same n m) ∙ ap is_eq greater) rest.0,
      ap (λ l. m ∷ l) rest.1
          ∙ sym (ap (λ b. cond b (n ∷ m ∷ names) (m ∷ and_in_order names n))
          (sym (is_first n m) ∙ ap is_lt greater)),
    )

-- a search among names in order finds the name, or else its place
pub searched : (names : List (List ℕ)) (n : List ℕ) → IsStrictlySortedBy by_bytes names
    → (r : Result ℕ ℕ) → IsSearchInRange r (length names)
    → IsBinarySearchResult (λ m. by_bytes m n) names r
    → (is_ok r ≡ is_known names n) × IfErr r (λ i. insert names i n ≡ and_in_order names n)
searched names n all (Ok i) within equal = (sym (found names n i within equal), tt)
searched names n all (Err i) within parted =
    let parts = parted (searchable_from_sorted nat_list_cmp_total (λ m. m) names n (rising names all)) in
    let here = placed names n i within (λ k d lt. parts.0 k d (omega arith) lt) parts.1 in
    (sym here.0, here.1)

-- ---- what is known of names, and of one more

swapped : (a b c : Bool) → (a || (b || c)) ≡ (b || (a || c))
swapped true true c = refl
swapped true false c = refl
swapped false b c = refl

more-cases : (b : Bool) (n m other : List ℕ) (names : List (List ℕ))
    → is_known (and_in_order names n) m ≡ (bytes_eq m n || is_known names m)
    → is_known (cond b (n ∷ other ∷ names) (other ∷ and_in_order names n)) m
    ≡ (bytes_eq m n || is_known (other ∷ names) m)
more-cases true n m other names rest = refl
more-cases false n m other names rest =
    ap (λ (b : Bool). bytes_eq m other || b) rest
    ∙ swapped (bytes_eq m other) (bytes_eq m n) (is_known names m)

known_more : (names : List (List ℕ)) (n m : List ℕ)
    → is_known (and_in_order names n) m ≡ (bytes_eq m n || is_known names m)
known_more [] n m = refl
known_more (other ∷ names) n m =
    more-cases (stands_before n other) n m other names (known_more names n m)

known_there : (b : Bool) (names : List (List ℕ)) (n m : List ℕ) → bytes_eq m n ≡ b
    → is_known names n ≡ true → is_known names m ≡ (b || is_known names m)
known_there true names n m same is =
    subst (λ l. is_known names l ≡ true) (sym ((bytes_eq-Decides m n).0 same)) is
known_there false names n m other is = refl

-- names, and one more in its place, if it is none of them: it is known, and each that was
pub known_where : (b : Bool) (names : List (List ℕ)) (n m : List ℕ) → is_known names n ≡ b
    → is_known (cond b names (and_in_order names n)) m ≡ (bytes_eq m n || is_known names m)
known_where true names n m is = known_there (bytes_eq m n) names n m refl is
known_where false names n m is = known_more names n m
