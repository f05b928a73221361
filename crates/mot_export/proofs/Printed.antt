-- The lines of a carousel, written one after the other.
use Rattle.std.proofs.Common.{◌≡◌, ℕ, zero, suc, ◌+◌, ◌-◌, ◌/◌, ◌%◌, ◌<◌, ◌≤◌, List, [], ◌∷◌, ◌++◌}
use Rattle.std.proofs.Common.{length, take, drop, get_or, Result, Ok, Err, inl, take-append-drop}
use Rattle.std.proofs.Common.{Option, Some, map, refl, sym, ap, ◌∙◌, subst, arith, add-one}
use Rattle.std.proofs.Common.{append-nil}
use Rattle.std.specs.Prelude.{IfErr, slice_get, slice_index, slice_range}
use Rattle.std.specs.List.{flat_map}
use Rattle.std.specs.Io.KnownBytes.{Appends}
use Rattle.std.proofs.KnownBytes.{Appends-trans}
use Rattle.std.proofs.Math.Seq.{take-add}
use Rattle.std.proofs.lemmas.List.{take_all}
use Rattle.std.proofs.lemmas.List.Concat.{flat_map-append}
use Rattle.hex.specs.Hex.{encode_lower, encode_with, lower_digits}
use Rattle.mot_journal.specs.Image.{Standing}
use Rattle.mot_lines.specs.Export.{front_words, put_line}
use Rattle.mot_numbers.specs.declared.refusal.Refusal.{Refusal}
use Rattle.mot_objects.specs.declared.object.Object as beside
use Rattle.mot_objects.specs.Carousel.{Object}
use Rattle.mot_objects.specs.Carousel as whole
use Rattle.mot_objects.specs.declared.carousel.Carousel.{Carousel}
use Rattle.mot_objects.specs.Stands.{object_of, objects_of}
use Rattle.mot_repository.specs.Repository.{Agrees, RepositoryView, object_body}
use Rattle.mot_export.specs.Inner.Inspected.{IsPrintingFault}
use Rattle.mot_outcome.specs.Outcome.{Prints}
use Rattle.mot_playout.specs.Attempts.{fault_of}
use Rattle.mot_session.proofs.Laws.{Writes-after, WritesFront-after, WritesFront-all}
use Rattle.mot_session.proofs.Laws.{WritesFront-before}
use Rattle.mot_session.specs.Served.{Writes, WritesFront}

digits-append : (t xs ys : List ℕ) → encode_with t (xs ++ ys) ≡ encode_with t xs ++ encode_with t ys
unfolding encode_with
digits-append t [] ys = refl
digits-append t (x ∷ xs) ys =
    ap (λ l. slice_index t (x / 16) ∷ slice_index t (x % 16) ∷ l) (digits-append t xs ys)

-- no bytes have no digits
pub digits-none : encode_lower [] ≡ []
unfolding encode_with
digits-none = refl

-- one more piece of a body
pub digits-more : (body piece : List ℕ) (from n : ℕ)
    → piece ≡ slice_range body from (from + n)
    → encode_lower (take (from + n) body) ≡ encode_lower (take from body) ++ encode_lower piece
digits-more body piece from n is =
    let size : from + n - from ≡ n = omega arith in
    let same : take n (drop from body) ≡ piece =
    ap (λ k. take k (drop from body)) (sym size) ∙ sym is in
    ap encode_lower (take-add from n body ∙ ap (λ l. take from body ++ l) same)
    ∙ digits-append lower_digits (take from body) piece

same_some : {A : Type 0} (x y : A) → Some x ≡ Some y → x ≡ y
same_some x y e = cc

-- one more line
take_next : {A : Type 0} (xs : List A) (i : ℕ) (x : A) → slice_get xs i ≡ Some x
    → take (suc i) xs ≡ take i xs ++ x ∷ []
take_next [] i x at = absurd (cc)
take_next (y ∷ xs) zero x at = ap (λ z. z ∷ []) (same_some y x at)
take_next (y ∷ xs) (suc i) x at = ap (λ l. y ∷ l) (take_next xs i x at)

-- the lines of one more of a list are those before it, and its own
pub lines-more : {A : Type 0} (line : A → List ℕ) (xs : List A) (i : ℕ) (x : A)
    → slice_get xs i ≡ Some x
    → flat_map line (take (i + 1) xs) ≡ flat_map line (take i xs) ++ line x
lines-more line xs i x at =
    ap (λ n. flat_map line (take n xs)) (add-one i)
    ∙ ap (flat_map line) (take_next xs i x at)
    ∙ flat_map-append line (take i xs) (x ∷ [])
    ∙ ap (λ t. flat_map line (take i xs) ++ t) (append-nil (line x))

same_object : (x o : beside.Object) → Some x ≡ Some o → x ≡ o
same_object x o e = cc

-- the object at a place, from the one in memory and its body
pub object_at : (os : List beside.Object) (bodies : List (List ℕ)) (i : ℕ) (o : beside.Object)
    → map length bodies ≡ map (λ (x : beside.Object). x.length) os → slice_get os i ≡ Some o
    → slice_get (objects_of os bodies) i ≡ Some (object_of o (object_body (objects_of os bodies) i))
object_at [] bodies i o sized at = absurd (cc)
object_at (x ∷ os) [] i o sized at = absurd (cc)
object_at (x ∷ os) (b ∷ bodies) zero o sized at =
    ap (λ (y : beside.Object). Some (object_of y b)) (same_object x o at)
object_at (x ∷ os) (b ∷ bodies) (suc i) o sized at =
    object_at os bodies i o (let e : map length bodies ≡ map (λ (y : beside.Object). y.length) os =
    cc in e) at

few-objects : (os : List beside.Object) (bodies : List (List ℕ))
    → length (objects_of os bodies) ≤ length os
few-objects [] bodies = omega arith
few-objects (o ∷ os) [] = omega arith
few-objects (o ∷ os) (b ∷ bodies) = let rest = few-objects os bodies in omega (arith, rest)

get-slice : {A : Type 0} (xs : List A) (i : ℕ) (d : A) → i < length xs
    → slice_get xs i ≡ Some (get_or xs i d)
get-slice [] i d lt = absurd (omega (arith, lt))
get-slice (x ∷ xs) zero d lt = refl
get-slice (x ∷ xs) (suc i) d lt = get-slice xs i d (omega (arith, lt))

-- an object at its place in the same carousel
pub kept_at : (k l : Carousel) (i : ℕ) (x : beside.Object) → x ≡ get_or k.objects.items i x → k ≡ l
    → x ≡ get_or l.objects.items i x
kept_at k l i x is same = subst (λ (k : Carousel). x ≡ get_or k.objects.items i x) same is

module _ (view : RepositoryView) (s : Standing) (agrees : Agrees view s) where
  abbrev objects : List Object
  objects = s.carousel.objects

  whole_is : objects ≡ objects_of view.carousel.objects.items agrees.bodies
  whole_is = ap (λ (c : whole.Carousel). c.objects) agrees.carousel

  -- the object at this place
  pub object_here : (i : ℕ) (x : beside.Object) → i < length view.carousel.objects.items
      → x ≡ get_or view.carousel.objects.items i x
      → slice_get objects i ≡ Some (object_of x (object_body objects i))
  object_here i x lt is =
      let here = get-slice view.carousel.objects.items i x lt
      ∙ ap (λ (o : beside.Object). Some o) (sym is) in
      subst (λ (os : List Object). slice_get os i ≡ Some (object_of x (object_body os i)))
      (sym whole_is)
      (object_at view.carousel.objects.items agrees.bodies i x agrees.are_bodies here)

  -- an object that is kept, with its body on the disk, is the carousel's at that place
  pub object_is : (i : ℕ) (x : beside.Object) (o : Object)
      → i < length view.carousel.objects.items → x ≡ get_or view.carousel.objects.items i x
      → slice_get objects i ≡ Some o → object_of x (object_body objects i) ≡ o
  object_is i x o lt is at = same_some _ o (sym (object_here i x lt is) ∙ at)

  -- for each object that is kept the carousel has one at its place
  pub some_object : (i : ℕ) → i < length view.carousel.objects.items
      → (o : Object) × (slice_get objects i ≡ Some o)
  some_object i lt = first view.carousel.objects.items refl
    where
      first : (os : List beside.Object) → view.carousel.objects.items ≡ os
          → (o : Object) × (slice_get objects i ≡ Some o)
      first [] is = absurd (omega (arith, lt, ap length is))
      first (x ∷ os) is = (
        object_of (get_or view.carousel.objects.items i x) (object_body objects i),
        subst (λ (os : List Object). slice_get os i
            ≡ Some (object_of (get_or view.carousel.objects.items i x) (object_body os i)))
            (sym whole_is)
            (object_at view.carousel.objects.items agrees.bodies i
            (get_or view.carousel.objects.items i x) agrees.are_bodies
            (get-slice view.carousel.objects.items i x lt)),
      )

  -- all of them
  pub all_objects : (i : ℕ) → length view.carousel.objects.items ≤ i → take i objects ≡ objects
  all_objects i le =
      let few = few-objects view.carousel.objects.items agrees.bodies in
      let size : length objects ≡ length (objects_of view.carousel.objects.items agrees.bodies) =
      ap length whole_is in
      take_all i objects (omega (arith, few, size, le))

-- the digits of a body, cut
pub digits-cut : (body : List ℕ) (n : ℕ)
    → encode_lower body ≡ encode_lower (take n body) ++ encode_lower (drop n body)
digits-cut body n = ap encode_lower (sym (take-append-drop n body))
    ∙ digits-append lower_digits (take n body) (drop n body)

-- the digits of a body up to a place, and some first of those of the next piece
pub front-digits : (body piece : List ℕ) (from n : ℕ) (a b c : Option (List ℕ))
    → piece ≡ slice_range body from (from + n)
    → Appends a b (encode_lower (take from body)) → WritesFront (encode_lower piece) b c
    → WritesFront (encode_lower body) a c
front-digits body piece from n a b c is before front =
    subst (λ l. WritesFront l a c)
    (ap (λ l. l ++ encode_lower (drop (from + n) body)) (sym (digits-more body piece from n is))
    ∙ sym (digits-cut body (from + n)))
    (WritesFront-before (encode_lower (take from body) ++ encode_lower piece)
    (encode_lower (drop (from + n) body)) a c
    (WritesFront-after (encode_lower (take from body)) (encode_lower piece) a b c before front))

-- the digits of a body up to a place
pub front-piece : (body : List ℕ) (from : ℕ) (a b : Option (List ℕ))
    → Appends a b (encode_lower (take from body)) → WritesFront (encode_lower body) a b
front-piece body from a b before = subst (λ l. WritesFront l a b) (sym (digits-cut body from))
    (WritesFront-before (encode_lower (take from body)) (encode_lower (drop from body)) a b
    (WritesFront-all (encode_lower (take from body)) a b before))

-- the words of an object, its body and an end make its line
module _ (o : Object) where
  abbrev words : List ℕ
  words = front_words o.name o.content o.mime

  abbrev digits : List ℕ
  digits = encode_lower o.body

  front-words : (a b : Option (List ℕ)) → WritesFront words a b → WritesFront (put_line o) a b
  front-words a b front = WritesFront-before (words ++ digits) (10 ∷ []) a b
      (WritesFront-before words digits a b front)

  front-body : (a b c : Option (List ℕ)) → Appends a b words → WritesFront digits b c
      → WritesFront (put_line o) a c
  front-body a b c before front = WritesFront-before (words ++ digits) (10 ∷ []) a c
      (WritesFront-after words digits a b c before front)

  line-end : (result : Result Unit Refusal) (a b c d : Option (List ℕ)) → Appends a b words
      → Appends b c digits → Writes result (10 ∷ []) c d → Writes result (put_line o) a d
  line-end result a b c d before body end = Writes-after result (words ++ digits) (10 ∷ []) a c d
      (Appends-trans a b c words digits before body) end

-- the same of an object that is this one
module _ (x o : Object) (same : x ≡ o) where
  -- some first bytes of the words
  pub stops-in_words : (a b : Option (List ℕ)) (text items : List ℕ) → text ≡ items
      → items ≡ words x → WritesFront text a b → WritesFront (put_line o) a b
  stops-in_words a b text items of is front = subst (λ p. WritesFront (put_line p) a b) same
      (front-words x a b (subst (λ l. WritesFront l a b) (of ∙ is) front))

  -- the words, and some first digits
  pub stops-in_body : (a b c : Option (List ℕ)) (text items : List ℕ) → text ≡ items
      → items ≡ words x → Appends a b text → WritesFront (digits x) b c
      → WritesFront (put_line o) a c
  stops-in_body a b c text items of is before front = subst (λ p. WritesFront (put_line p) a c)
      same (front-body x a b c (subst (Appends a b) (of ∙ is) before) front)

  -- the words, the digits, and what came of the end
  pub ends-line : (result : Result Unit Refusal) (a b c d : Option (List ℕ)) (text items : List ℕ)
      → text ≡ items → items ≡ words x → Appends a b text → Appends b c (digits x)
      → Writes result (10 ∷ []) c d → Writes result (put_line o) a d
  ends-line result a b c d text items of is before body end =
      subst (λ p. Writes result (put_line p) a d) same
      (line-end x result a b c d (subst (Appends a b) (of ∙ is) before) body end)

-- what was printed was written
pub prints-writes : (result : Result Unit Refusal) (text : List ℕ) (a b : Option (List ℕ))
    → Prints (fault_of result) text a b → Writes result text a b
prints-writes (Ok done) text a b prints = prints
prints-writes (Err refusal) text a b prints = prints.1

-- and if it was not, the disk did not fail
pub prints-faults : (result : Result Unit Refusal) (text : List ℕ) (a b : Option (List ℕ))
    (before now : ℕ) → now ≡ before → Prints (fault_of result) text a b
    → IfErr result (λ r. IsPrintingFault r before now)
prints-faults (Ok done) text a b before now calm prints = tt
prints-faults (Err refusal) text a b before now calm prints = inl (prints.0, calm)

-- the lines up to a place, and some first bytes of the next one
pub front-lines : (objects : List Object) (at : ℕ) (o : Object) (rest : List ℕ)
    (a b c : Option (List ℕ)) → slice_get objects at ≡ Some o
    → Appends a b (flat_map put_line (take at objects)) → WritesFront (put_line o) b c
    → WritesFront (flat_map put_line objects ++ rest) a c
front-lines objects at o rest a b c is before front =
    let first = flat_map put_line (take at objects) in
    let behind = flat_map put_line (drop (at + 1) objects) in
    let whole : (first ++ put_line o) ++ behind ≡ flat_map put_line objects =
    ap (λ l. l ++ behind) (sym (lines-more put_line objects at o is))
    ∙ sym (flat_map-append put_line (take (at + 1) objects) (drop (at + 1) objects))
    ∙ ap (flat_map put_line) (take-append-drop (at + 1) objects) in
    WritesFront-before (flat_map put_line objects) rest a c
    (subst (λ l. WritesFront l a c) whole
    (WritesFront-before (first ++ put_line o) behind a c
    (WritesFront-after first (put_line o) a b c before front)))
