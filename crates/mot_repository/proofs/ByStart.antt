-- Extents in another order: one that goes or comes, and where the bytes of a command go.
use Rattle.std.proofs.Common.{◌≡◌, ℕ, ◌+◌, ◌<◌, Bool, true, false, cond, List, [], ◌∷◌}
use Rattle.std.proofs.Common.{Option, Some, None, ◌++◌, length, get_or, set, refl, sym, ◌∙◌, ap, arith}
use Rattle.std.specs.Prelude.{sum_by, count_by, position, remove, vec_len}
use Rattle.std.specs.List.{position_from}
use Rattle.std.proofs.lemmas.Bool.Decides.{nat_tests}
use Rattle.std.proofs.lemmas.Iterator.Adapters.{position_from-zero}
use Rattle.std.proofs.lemmas.List.Sums.{sum_by-cons, sum_by-remove, sum_by-set, sum_by_push}
use Rattle.std.proofs.lemmas.List.{length-map}
use Rattle.std.proofs.lemmas.List.Quantifiers.{position-Some}
use Rattle.mot_carousel.specs.Gap.{AreReordered, least_gap}
use Rattle.mot_carousel.proofs.Laws.{least_gap-reordered}
use Rattle.mot_objects.specs.declared.command.Command.{Command}
use Rattle.mot_objects.specs.declared.carousel.Carousel.{Carousel}
use Rattle.mot_objects.specs.declared.object.Object.{Object}
use Rattle.mot_repository.specs.OnDisk.{ArePaired}
use Rattle.mot_repository.specs.Outcome.{body_of, start_of}
use Rattle.mot_repository.specs.Inner.Extents.{is_extent}

same-extent : (g e : ℕ × ℕ) → is_extent g e ≡ true → e ≡ g
same-extent g e is =
    let first : e.0 ≡ g.0 = grind (arith, nat_tests) in
    let second : e.1 ≡ g.1 = grind (arith, nat_tests) in
    ap (λ a. (a, e.1)) first ∙ ap (λ b. (g.0, b)) second

own-extent : (g : ℕ × ℕ) → is_extent g g ≡ true
own-extent g = grind (arith, nat_tests)

-- without the one that stands here
pub sum-taken : (ys : List (ℕ × ℕ)) (g : ℕ × ℕ) (i : ℕ) → position (is_extent g) ys ≡ Some i
    → (f : ℕ × ℕ → ℕ) → sum_by f (remove ys i) + f g ≡ sum_by f ys
sum-taken ys g i e f =
    let p = position-Some (is_extent g) ys i g e in
    ap (λ x. sum_by f (remove ys i) + f x) (sym (same-extent g (get_or ys i g) p.1))
    ∙ sum_by-remove f ys i g p.0

nowhere-cases : (g y : ℕ × ℕ) (k : ℕ) (ys : List (ℕ × ℕ)) (b : Bool) (rest : Option ℕ)
    → cond b (Some k) rest ≡ None → (rest ≡ None → count_by (is_extent g) ys ≡ 0)
    → cond b 1 0 + count_by (is_extent g) ys ≡ 0
nowhere-cases g y k ys true rest e ih = cc
nowhere-cases g y k ys false rest e ih = let none = ih e in omega (arith, none)

nowhere-from : (g : ℕ × ℕ) (k : ℕ) (ys : List (ℕ × ℕ)) → position_from (is_extent g) k ys ≡ None
    → count_by (is_extent g) ys ≡ 0
nowhere-from g k [] e = refl
nowhere-from g k (y ∷ ys) e =
    sum_by-cons (λ x. cond (is_extent g x) 1 0) y ys
    ∙ nowhere-cases g y k ys (is_extent g y) (position_from (is_extent g) (k + 1) ys) e
    (nowhere-from g (k + 1) ys)

-- one that is counted stands somewhere
pub counted-somewhere : (ys : List (ℕ × ℕ)) (g : ℕ × ℕ) → position (is_extent g) ys ≡ None
    → 0 < count_by (is_extent g) ys → ⊥
counted-somewhere ys g e some =
    let none : count_by (is_extent g) ys ≡ 0 =
    nowhere-from g 0 ys (sym (position_from-zero (is_extent g) ys) ∙ e) in
    omega (arith, none, some)

-- one that stands in one order stands in the other
pub counted-reordered : (xs ys : List (ℕ × ℕ)) (i : ℕ) (g : ℕ × ℕ) → AreReordered xs ys
    → i < length xs → g ≡ get_or xs i g → 0 < count_by (is_extent g) ys
counted-reordered xs ys i g same lt here =
    let f : ℕ × ℕ → ℕ = λ e. cond (is_extent g e) 1 0 in
    let counts : f (get_or xs i g) ≡ 1 = sym (ap f here) ∙ ap (λ b. cond b 1 0) (own-extent g) in
    let all : sum_by f (remove xs i) + f (get_or xs i g) ≡ sum_by f xs = sum_by-remove f xs i g lt in
    let there : count_by (is_extent g) ys ≡ sum_by f xs = same f in
    omega (arith, all, there, counts)

-- one more
pub come : (xs ys zs : List (ℕ × ℕ)) (e : ℕ × ℕ) → AreReordered xs ys
    → ((f : ℕ × ℕ → ℕ) → sum_by f zs ≡ sum_by f ys + f e) → AreReordered (xs ++ e ∷ []) zs
come xs ys zs e same more = λ f.
    more f ∙ ap (λ s. s + f e) (same f) ∙ sym (sum_by_push f xs e)

-- one less
pub gone : (xs ys zs : List (ℕ × ℕ)) (i : ℕ) (g : ℕ × ℕ) → AreReordered xs ys → i < length xs
    → g ≡ get_or xs i g → ((f : ℕ × ℕ → ℕ) → sum_by f zs + f g ≡ sum_by f ys)
    → AreReordered (remove xs i) zs
gone xs ys zs i g same lt here less = λ f.
    let before = less f in
    let as_it_was = same f in
    let one = ap f here in
    let left = sum_by-remove f xs i g lt in
    omega (arith, before, as_it_was, one, left)

-- another one in the place of one
pub exchanged : (xs ys zs us : List (ℕ × ℕ)) (i : ℕ) (g e : ℕ × ℕ) → AreReordered xs ys
    → i < length xs → g ≡ get_or xs i g → ((f : ℕ × ℕ → ℕ) → sum_by f zs + f g ≡ sum_by f ys)
    → ((f : ℕ × ℕ → ℕ) → sum_by f us ≡ sum_by f zs + f e) → AreReordered (set xs i e) us
exchanged xs ys zs us i g e same lt here less more = λ f.
    let before = less f in
    let after = more f in
    let as_it_was = same f in
    let one = ap f here in
    let changed = sum_by-set f xs i e g lt in
    omega (arith, before, after, as_it_was, one, changed)

-- an object's extent stands where the object does
pub paired-within : (c : Carousel) (extents es : List (ℕ × ℕ)) (i : ℕ) → ArePaired c extents
    → es ≡ extents → i < vec_len c.objects → i < length es
paired-within c extents es i paired same lt =
    let sizes = length-map extents (λ (e : ℕ × ℕ). e.1) in
    let objects = length-map c.objects.items (λ (o : Object). o.length) in
    let both = ap length paired in
    let copied = ap length same in
    omega (arith, lt, sizes, objects, both, copied)

-- where the bytes of a command go, the order of the extents does not matter
pub start-reordered : (xs ys zs : List (ℕ × ℕ)) (size : ℕ) (command : Command) (body : List ℕ)
    → AreReordered xs ys → zs ≡ ys → body ≡ body_of command
    → start_of xs size command ≡ least_gap zs (length body) size
start-reordered xs ys zs size command body same is brought =
    rw (is, brought) (sym (least_gap-reordered xs ys (length (body_of command)) size same))
