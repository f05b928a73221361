-- Objects and their extents, beside each other, as a catalogue has them.
use Rattle.std.proofs.Common.{◌≡◌, ℕ, zero, suc, ◌+◌, ◌<◌, Bool, true, false, cond, List, [], ◌∷◌}
use Rattle.std.proofs.Common.{◌++◌, length, map, get_or, set, take, Option, Some, None, refl, sym}
use Rattle.std.proofs.Common.{ap, ◌∙◌, subst, arith}
use Rattle.std.proofs.lemmas.Iterator.Adapters.{position_from-zero}
use Rattle.std.proofs.lemmas.List.{length-map}
use Rattle.std.proofs.lemmas.Slice.Eq.{bytes_eq-Decides}
use Rattle.std.specs.List.{position_from, position_or_len}
use Rattle.std.specs.Option.{option_map_or}
use Rattle.std.specs.Prelude.{bytes_eq, not, nat_lt, position, remove, ◌==◌}
use Rattle.std.proofs.lemmas.Bool.Decides.{nat_tests}
use Rattle.mot_journal.specs.declared.record.Record.{Record}
use Rattle.mot_journal.specs.declared.record.Action.{Action}
use Rattle.mot_journal.specs.declared.record.Action.TheVariants.{Set, Nothing}
use Rattle.mot_journal.specs.Catalogue.{Catalogue, Placed}
use Rattle.mot_objects.specs.Stands.{index_of}
use Rattle.mot_objects.specs.declared.object.Object.{Object}
use Rattle.mot_objects.specs.declared.command.Command.{Command}
use Rattle.mot_objects.specs.declared.command.Command.TheVariants.{Put, Replace, Withdraw, Period}
use Rattle.mot_repository.specs.Inner.Extents.{objects_in}
use Rattle.mot_repository.specs.Inner.Following.{extent_of, extents_with, extents_without}
use Rattle.mot_repository.specs.Inner.Following.{placed_extents_after}
use Rattle.mot_repository.specs.Records.{records_of_objects, records_of_catalogue}
use Rattle.mot_repository.specs.Outcome.{extents_after}
use Rattle.mot_repository.specs.Inner.Prepared.{kept_object_named}
use Rattle.mot_carousel.proofs.Laws.{head, tail}
use Rattle.mot_repository.specs.Inner.Fold.{HaveLengths}

-- the extents of the catalogue are those that stand there
pub extents-objects_in : (os : List Object) (es : List (ℕ × ℕ)) → HaveLengths os es
    → map extent_of (objects_in os es) ≡ es
extents-objects_in [] [] b = refl
extents-objects_in [] (e ∷ es) b = cc
extents-objects_in (o ∷ os) [] b = cc
extents-objects_in (o ∷ os) (e ∷ es) b = ap (λ l. e ∷ l) (extents-objects_in os es (tail b))

-- ---- the place of a name

-- the first object of the name stands here
pub data IsFirst (name : List ℕ) : List Object → ℕ → Type 0 where
  here : (o : Object) (os : List Object) → bytes_eq o.name name ≡ true → IsFirst name (o ∷ os) zero
  there : (o : Object) (os : List Object) (i : ℕ) → bytes_eq o.name name ≡ false → IsFirst name os i
      → IsFirst name (o ∷ os) (suc i)

-- no object has the name
pub data IsNowhere (name : List ℕ) : List Object → Type 0 where
  none : IsNowhere name []
  other : (o : Object) (os : List Object) → bytes_eq o.name name ≡ false → IsNowhere name os
      → IsNowhere name (o ∷ os)

module _ (name : List ℕ) where
  abbrev has : Object → Bool
  has o = bytes_eq o.name name

  abbrev Behind : ℕ → List Object → ℕ → Type 0
  Behind k os i = (j : ℕ) × (k + j ≡ i) × IsFirst name os j

  first-cases : (k i : ℕ) (o : Object) (os : List Object) (t : Bool) (r : Option ℕ) → has o ≡ t
      → (r ≡ Some i → Behind (k + 1) os i)
      → cond t (Some k) r ≡ Some i → Behind k (o ∷ os) i
  first-cases k i o os true r is rest e = let same : k ≡ i = cc in (0, omega arith, here o os is)
  first-cases k i o os false r is rest e =
      let h = rest e in let at = h.1 in (suc h.0, omega (arith, at), there o os h.0 is h.2)

  first-from : (k i : ℕ) (os : List Object) → position_from has k os ≡ Some i → Behind k os i
  first-from k i [] e = cc
  first-from k i (o ∷ os) e =
      first-cases k i o os (has o) (position_from has (k + 1) os) refl
      (λ f. first-from (k + 1) i os f) e

  -- the place that a name is found at is that of the first object of the name
  pub first-place : (i : ℕ) (os : List Object) → index_of name os ≡ Some i → IsFirst name os i
  first-place i os e =
      let h = first-from 0 i os (sym (position_from-zero has os) ∙ e) in
      let same : h.0 ≡ i = let at = h.1 in omega (arith, at) in
      subst (IsFirst name os) same h.2

  nowhere-cases : (k : ℕ) (o : Object) (os : List Object) (t : Bool) (r : Option ℕ) → has o ≡ t
      → (r ≡ None → IsNowhere name os)
      → cond t (Some k) r ≡ None → IsNowhere name (o ∷ os)
  nowhere-cases k o os true r is rest e = cc
  nowhere-cases k o os false r is rest e = other o os is (rest e)

  nowhere-from : (k : ℕ) (os : List Object) → position_from has k os ≡ None → IsNowhere name os
  nowhere-from k [] e = none
  nowhere-from k (o ∷ os) e =
      nowhere-cases k o os (has o) (position_from has (k + 1) os) refl
      (λ f. nowhere-from (k + 1) os f) e

  -- where a name is not found, no object has it
  pub nowhere-place : (os : List Object) → index_of name os ≡ None → IsNowhere name os
  nowhere-place os e = nowhere-from 0 os (sym (position_from-zero has os) ∙ e)

  -- what the first object is, and what the list is with another extent for it or without it

  -- the object at the first place of a name is the one of the name
  pub kept_object_named-first : {os : List Object} {i : ℕ} (o : Object) → IsFirst name os i
      → o ≡ get_or os i o → kept_object_named name os ≡ Some o
  kept_object_named-first o (here q os is) at =
      ap (λ t. cond t (Some q) (kept_object_named name os)) is ∙ ap Some (sym at)
  kept_object_named-first o (there q os i isnt first) at =
      ap (λ t. cond t (Some q) (kept_object_named name os)) isnt
      ∙ kept_object_named-first o first at

  -- where no object has a name, there is none of it
  pub kept_object_named-nowhere : {os : List Object} → IsNowhere name os
      → kept_object_named name os ≡ None
  kept_object_named-nowhere none = refl
  kept_object_named-nowhere (other q os isnt rest) =
      ap (λ t. cond t (Some q) (kept_object_named name os)) isnt ∙ kept_object_named-nowhere rest

  kept-cases : (o q : Object) (t : Bool) (r : Option Object) → has q ≡ t
      → (r ≡ Some o → has o ≡ true) → cond t (Some q) r ≡ Some o → has o ≡ true
  kept-cases o q true r is rest e = let same : q ≡ o = cc in ap has (sym same) ∙ is
  kept-cases o q false r is rest e = rest e

  kept-has : (os : List Object) (o : Object) → kept_object_named name os ≡ Some o → has o ≡ true
  kept-has [] o e = cc
  kept-has (q ∷ os) o e = kept-cases o q (has q) (kept_object_named name os) refl
      (λ f. kept-has os o f) e

  -- the object of a name has that name
  pub kept_object_named-name : (os : List Object) (o : Object) → kept_object_named name os ≡ Some o
      → o.name ≡ name
  kept_object_named-name os o e = (bytes_eq-Decides o.name name).0 (kept-has os o e)

  pub extents_with-first : {os : List Object} {i : ℕ} (es : List (ℕ × ℕ)) (x : ℕ × ℕ)
      → HaveLengths os es → IsFirst name os i
      → extents_with name x (objects_in os es) ≡ set es i x
  extents_with-first [] x b (here o os is) = cc
  extents_with-first [] x b (there o os i isnt first) = cc
  extents_with-first (e ∷ es) x b (here o os is) =
      ap (λ t. cond t (x ∷ map extent_of (objects_in os es))
      (e ∷ extents_with name x (objects_in os es))) is
      ∙ ap (λ l. x ∷ l) (extents-objects_in os es (tail b))
  extents_with-first (e ∷ es) x b (there o os i isnt first) =
      ap (λ t. cond t (x ∷ map extent_of (objects_in os es))
      (e ∷ extents_with name x (objects_in os es))) isnt
      ∙ ap (λ l. e ∷ l) (extents_with-first es x (tail b) first)

  pub extents_with-nowhere : {os : List Object} (es : List (ℕ × ℕ)) (x : ℕ × ℕ) → HaveLengths os es
      → IsNowhere name os
      → extents_with name x (objects_in os es) ≡ es
  extents_with-nowhere [] x b none = refl
  extents_with-nowhere (e ∷ es) x b none = cc
  extents_with-nowhere [] x b (other o os isnt rest) = cc
  extents_with-nowhere (e ∷ es) x b (other o os isnt rest) =
      ap (λ t. cond t (x ∷ map extent_of (objects_in os es))
      (e ∷ extents_with name x (objects_in os es))) isnt
      ∙ ap (λ l. e ∷ l) (extents_with-nowhere es x (tail b) rest)

  pub extents_without-first : {os : List Object} {i : ℕ} (es : List (ℕ × ℕ)) → HaveLengths os es
      → IsFirst name os i
      → extents_without name (objects_in os es) ≡ remove es i
  extents_without-first [] b (here o os is) = cc
  extents_without-first [] b (there o os i isnt first) = cc
  extents_without-first (e ∷ es) b (here o os is) =
      ap (λ t. cond t (map extent_of (objects_in os es))
      (e ∷ extents_without name (objects_in os es))) is
      ∙ extents-objects_in os es (tail b)
  extents_without-first (e ∷ es) b (there o os i isnt first) =
      ap (λ t. cond t (map extent_of (objects_in os es))
      (e ∷ extents_without name (objects_in os es))) isnt
      ∙ ap (λ l. e ∷ l) (extents_without-first es (tail b) first)

  pub extents_without-nowhere : {os : List Object} (es : List (ℕ × ℕ)) → HaveLengths os es
      → IsNowhere name os
      → extents_without name (objects_in os es) ≡ es
  extents_without-nowhere [] b none = refl
  extents_without-nowhere (e ∷ es) b none = cc
  extents_without-nowhere [] b (other o os isnt rest) = cc
  extents_without-nowhere (e ∷ es) b (other o os isnt rest) =
      ap (λ t. cond t (map extent_of (objects_in os es))
      (e ∷ extents_without name (objects_in os es))) isnt
      ∙ ap (λ l. e ∷ l) (extents_without-nowhere es (tail b) rest)

-- ---- by the names

-- the names of these objects
abbrev pub names_in : List Object → List (List ℕ)
names_in os = map (λ (o : Object). o.name) os

module _ (name : List ℕ) where
  length-names : (os : List Object)
      → position_or_len (λ n. bytes_eq n name) (names_in os)
      ≡ position_or_len (λ (o : Object). bytes_eq o.name name) os
  length-names [] = refl
  length-names (o ∷ os) = ap (λ k. cond (not (bytes_eq o.name name)) (1 + k) 0) (length-names os)

  -- the place of a name is that of its object
  pub place-names : (os : List Object)
      → position (λ n. bytes_eq n name) (names_in os) ≡ index_of name os
  place-names os =
      ap (λ k. cond (nat_lt k (length (names_in os))) (Some k) None) (length-names os)
      ∙ ap (λ l. cond (nat_lt (position_or_len (λ (o : Object). bytes_eq o.name name) os) l)
      (Some (position_or_len (λ (o : Object). bytes_eq o.name name) os)) None)
      (length-map os (λ (o : Object). o.name))

  with-cases : (os : List Object) (es : List (ℕ × ℕ)) (x : ℕ × ℕ) → HaveLengths os es
      → (place : Option ℕ) → index_of name os ≡ place
      → extents_with name x (objects_in os es) ≡ option_map_or (λ i. set es i x) place es
  with-cases os es x b None is = extents_with-nowhere name es x b (nowhere-place name os is)
  with-cases os es x b (Some i) is = extents_with-first name es x b (first-place name i os is)

  without-cases : (os : List Object) (es : List (ℕ × ℕ)) → HaveLengths os es → (place : Option ℕ)
      → index_of name os ≡ place
      → extents_without name (objects_in os es) ≡ option_map_or (remove es) place es
  without-cases os es b None is = extents_without-nowhere name es b (nowhere-place name os is)
  without-cases os es b (Some i) is = extents_without-first name es b (first-place name i os is)

-- the extents of placed objects after a command are those that stand beside the names
pub placed-names : (os : List Object) (es : List (ℕ × ℕ)) (command : Command) (start : ℕ)
    → HaveLengths os es
    → placed_extents_after (objects_in os es) command start
    ≡ extents_after (names_in os) es command start
placed-names os es (Put name content mime body) start b =
    ap (λ l. l ++ (start, length body) ∷ []) (extents-objects_in os es b)
placed-names os es (Replace name content mime body) start b =
    with-cases name os es (start, length body) b (index_of name os) refl
    ∙ ap (λ p. option_map_or (λ i. set es i (start, length body)) p es) (sym (place-names name os))
placed-names os es (Withdraw name) start b =
    without-cases name os es b (index_of name os) refl
    ∙ ap (λ p. option_map_or (remove es) p es) (sym (place-names name os))
placed-names os es (Period period) start b = extents-objects_in os es b

-- ---- as records

-- a record with a catalogue's numbers and an action
abbrev pub record_with : Catalogue → Action → Record
record_with c a = record
    { period = c.period; directory = c.directory; cursor = c.cursor; action = a }

-- the action that sets an object whose body begins here
abbrev pub set_of_object : Object → ℕ → Action
set_of_object o start = Set o.tid o.version o.content start o.length o.name o.mime

-- one object more
pub records_of_objects-next : (c : Catalogue) (os : List Object) (es : List (ℕ × ℕ)) (k : ℕ)
    (o : Object) (e : ℕ × ℕ) → HaveLengths os es → k < length os
    → o ≡ get_or os k o → e ≡ get_or es k e
    → records_of_objects c (objects_in (take k os) (take k es))
    ++ record_with c (set_of_object o e.0) ∷ []
    ≡ records_of_objects c (objects_in (take (suc k) os) (take (suc k) es))
records_of_objects-next c [] es k o e b lt at from = absurd (omega arith)
records_of_objects-next c (p ∷ os) [] k o e b lt at from = cc
records_of_objects-next c (p ∷ os) (x ∷ es) zero o e b lt at from =
    let size : x.1 ≡ p.length = head b in
    let made : Object → ℕ × ℕ → ℕ → List Record = λ q y n.
    record_with c (Set q.tid q.version q.content y.0 n q.name q.mime) ∷ [] in
    ap (λ q. made q e q.length) at ∙ ap (λ y. made p y p.length) from ∙ ap (made p x) (sym size)
records_of_objects-next c (p ∷ os) (x ∷ es) (suc k) o e b lt at from =
    ap (λ l. record_with c (Set p.tid p.version p.content x.0 x.1 p.name p.mime) ∷ l)
    (records_of_objects-next c os es k o e (tail b) (omega arith) at from)

-- a catalogue of these
abbrev catalogue-of : ℕ → ℕ → ℕ → List Placed → Catalogue
catalogue-of period directory cursor objects =
    record { period = period; directory = directory; cursor = cursor; objects = objects }

-- after no record comes one of kind nothing
pub records-none : (period directory cursor : ℕ) (ps : List Placed) (rs : List Record)
    → rs ≡ records_of_objects (catalogue-of period directory cursor ps) ps → length rs ≡ 0
    → rs ++ record_with (catalogue-of period directory cursor ps) Nothing ∷ []
    ≡ records_of_catalogue (catalogue-of period directory cursor ps)
records-none period directory cursor [] rs e size =
    ap (λ l. l ++ record_with (catalogue-of period directory cursor []) Nothing ∷ []) e
records-none period directory cursor (p ∷ ps) rs e size =
    let more = ap length e in absurd (omega (arith, more, size))

-- and after some comes no other
pub records-some : (period directory cursor : ℕ) (ps : List Placed) (rs : List Record)
    → rs ≡ records_of_objects (catalogue-of period directory cursor ps) ps → (length rs ≡ 0 → ⊥)
    → rs ≡ records_of_catalogue (catalogue-of period directory cursor ps)
records-some period directory cursor [] rs e some = absurd (some (ap length e))
records-some period directory cursor (p ∷ ps) rs e some = e

-- what a test for zero means
pub is_zero : (b : Bool) (n : ℕ) → b ≡ (n == 0) → b ≡ true → n ≡ 0
is_zero b n e is = grind (arith, nat_tests)

pub isnt_zero : (b : Bool) (n : ℕ) → b ≡ (n == 0) → b ≡ false → n ≡ 0 → ⊥
isnt_zero b n e isnt nil = grind (arith, nat_tests)
