-- Objects that wait, one answer after the other.
use Rattle.std.proofs.Common.{◌≡◌, ◌∙◌, ◌+◌, ◌&&◌, ◌||◌, ℕ, Bool, true, false, List, [], ◌∷◌, ◌++◌, ap}
use Rattle.std.proofs.Common.{append-nil, arith, cond, length, length-append, min, nat_lt, refl, suc, sym}
use Rattle.std.specs.List.{list_any}
use Rattle.std.specs.Prelude.{filter}
use Rattle.std.proofs.lemmas.List.Elements.{filter-append}
use Rattle.mot_folder.specs.Inner.Reasons.{and_waiting}
use Rattle.mot_folder.specs.Log.{is_waiting, told_behind, told_of, waiting_in}
use Rattle.mot_update.specs.Told.{Answer}

-- what is told of a further answer, where some wait or none
told_rest : (waits : Bool) → Answer → List Answer
told_rest waits answer = cond (waits && is_waiting answer) [] (answer ∷ [])

told-cases : (waits p : Bool) (first last : Answer) (answers : List Answer)
    → ((w : Bool) → told_behind w (answers ++ last ∷ [])
    ≡ told_behind w answers ++ told_rest (w || list_any is_waiting answers) last)
    → cond (waits && p) (told_behind waits (answers ++ last ∷ []))
    (first ∷ told_behind (waits || p) (answers ++ last ∷ []))
    ≡ cond (waits && p) (told_behind waits answers) (first ∷ told_behind (waits || p) answers)
    ++ told_rest (waits || (p || list_any is_waiting answers)) last
told-cases true true first last answers on = on true
told-cases true false first last answers on = ap (λ l. first ∷ l) (on true)
told-cases false true first last answers on = ap (λ l. first ∷ l) (on true)
told-cases false false first last answers on = ap (λ l. first ∷ l) (on false)

told-push : (waits : Bool) (answers : List Answer) (last : Answer)
    → told_behind waits (answers ++ last ∷ [])
    ≡ told_behind waits answers ++ told_rest (waits || list_any is_waiting answers) last
unfolding told_rest
told-push true [] last = refl
told-push false [] last = refl
told-push waits (first ∷ answers) last =
    told-cases waits (is_waiting first) first last answers (λ w. told-push w answers last)

some-cases : (p : Bool) (first : Answer) (answers : List Answer)
    → nat_lt 0 (waiting_in answers) ≡ list_any is_waiting answers
    → nat_lt 0 (min (length (cond p (first ∷ filter is_waiting answers) (filter is_waiting answers)))
    4294967295) ≡ (p || list_any is_waiting answers)
some-cases true first answers on = above (length (filter is_waiting answers))
  where
    above : (n : ℕ) → nat_lt 0 (min (suc n) 4294967295) ≡ true
    above n = grind arith
some-cases false first answers on = on

-- some wait exactly if one of them does
some_wait : (answers : List Answer) → nat_lt 0 (waiting_in answers) ≡ list_any is_waiting answers
some_wait [] = refl
some_wait (first ∷ answers) = some-cases (is_waiting first) first answers (some_wait answers)

module _ (answers : List Answer) (last : Answer) (waiting : ℕ) (is : waiting ≡ waiting_in answers)
  where
    told_is : (b : Bool) → (is_waiting last && nat_lt 0 waiting) ≡ b
        → told_of (answers ++ last ∷ []) ≡ told_of answers ++ cond b [] (last ∷ [])
    unfolding told_rest
    told_is b counted =
        told-push false answers last
        ∙ ap (λ (w : Bool). told_of answers ++ cond w [] (last ∷ []))
        (swapped (list_any is_waiting answers) (is_waiting last)
        ∙ ap (λ (w : Bool). is_waiting last && w)
        (sym (some_wait answers) ∙ ap (λ n. nat_lt 0 n) (sym is)) ∙ counted)
      where
        swapped : (a b : Bool) → (a && b) ≡ (b && a)
        swapped true true = refl
        swapped true false = refl
        swapped false true = refl
        swapped false false = refl

    -- one that is told
    pub told_more : (is_waiting last && nat_lt 0 waiting) ≡ false
        → told_of (answers ++ last ∷ []) ≡ told_of answers ++ last ∷ []
    told_more told = told_is false told

    -- or is only counted
    pub told_same : (is_waiting last && nat_lt 0 waiting) ≡ true
        → told_of (answers ++ last ∷ []) ≡ told_of answers
    told_same counted = told_is true counted ∙ append-nil (told_of answers)

    counted-cases : (p : Bool) → (is_waiting last) ≡ p
        → and_waiting waiting p ≡ min (length (filter is_waiting answers)
        + length (cond p (last ∷ []) [])) 4294967295
    counted-cases true e = more (length (filter is_waiting answers)) waiting is
      where
        more : (n w : ℕ) → w ≡ min n 4294967295 → min (w + 1) 4294967295 ≡ min (n + 1) 4294967295
        more n w e = grind arith
    counted-cases false e = is ∙ ap (λ n. min n 4294967295) (plus (length (filter is_waiting answers)))
      where
        plus : (n : ℕ) → n ≡ n + 0
        plus n = omega arith

    -- and so many wait then
    pub waiting_more : and_waiting waiting (is_waiting last) ≡ waiting_in (answers ++ last ∷ [])
    waiting_more =
        counted-cases (is_waiting last) refl
        ∙ ap (λ n. min n 4294967295)
        (sym (ap length (filter-append is_waiting answers (last ∷ []))
        ∙ length-append (filter is_waiting answers) (filter is_waiting (last ∷ []))))
