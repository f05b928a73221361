-- What a receiver has of a turn of which some bodies come more than once, each whole, reads as its
-- carousel.
use Rattle.std.proofs.Common.{arith, ◌≡◌, ℕ, zero, suc, ◌<◌, List, [], ◌∷◌, ◌++◌, Bool, true, false}
use Rattle.std.proofs.Common.{Option, Some, None, refl, sym, subst, map, length, ap, ◌∙◌, not}
use Rattle.std.proofs.Common.{append-nil, append_assoc, eq-eqb}
use Rattle.std.proofs.lemmas.Bool.{and_parts, eqb-true, not-true, or_parts}
use Rattle.std.proofs.lemmas.List.Elements.{filter-append}
use Rattle.std.proofs.lemmas.Option.{same_Some, none-some}
use Rattle.std.specs.Prelude.{◌==◌, ◌&&◌, ◌||◌, filter, if◌then◌else◌, nat_eq}
use Rattle.std.specs.List.{list_all, list_any, AllByRecursion}
use Rattle.std.specs.Cmp.{nat_eq_equiv}
use Rattle.mot_directory.specs.Directory.{read_directory}
use Rattle.mot_directory.specs.Entries.{entry_of}
use Rattle.mot_groups.specs.Entity.{entity_of, own_segments, pieces, segments_of}
use Rattle.mot_groups.specs.Group.{Segment}
use Rattle.mot_numbers.specs.Reading.{read_each}
use Rattle.mot_objects.specs.Carousel.{Object}
use Rattle.mot_objects.specs.Ids.{contains, is_distinct}
use Rattle.mot_player.specs.Reading.{belongs, directory_in, object_in, read_segments}
use Rattle.mot_player.specs.Repeats.{had_with, is_same_segment, received}
use Rattle.mot_player.specs.Turn.{bodies_with_ids, segments_of_bodies}
use Rattle.mot_player.proofs.Followed.{AreBodies}
use Rattle.mot_player.proofs.Left.{own, own-directory}
use Rattle.mot_player.proofs.Repeated.{IsHad, again, received-numbered, same-self}
use Rattle.mot_player.proofs.TurnReads.{AreSome, EntityLaws, belongs-cut, belongs-entity, cut}
use Rattle.mot_player.proofs.TurnReads.{entry_ids, first-numbered_segments, ids_of}
use Rattle.mot_player.proofs.TurnReads.{foreign-numbered_segments, own-append}
use Rattle.mot_player.proofs.TurnReads.{object_in-entry_of, own-numbered_segments}

-- the bytes of the first body of this id
abbrev pub body_of : ℕ → List (ℕ × List ℕ) → Option (List ℕ)
body_of id [] = None
body_of id (b ∷ bodies) = if id == b.0 then Some b.1 else body_of id bodies

-- segments so many times
abbrev pub copies : ℕ → List Segment → List Segment
copies zero xs = []
copies (suc n) xs = xs ++ copies n xs

-- of a body there are its segments, whole, once or more often, and none of one that is none
abbrev pub IsOwn : ℕ → ℕ → Option (List ℕ) → List Segment → Type 0
IsOwn size id None segments = segments ≡ []
IsOwn size id (Some bytes) segments =
    (n : ℕ) × (segments ≡ copies (suc n) (segments_of 4 id size bytes))

-- ---- what a receiver has, of one entity

abbrev pub Respects : (Segment → Bool) → Type 0
Respects p = (s t : Segment) → is_same_segment s t ≡ true → p s ≡ p t

pub own-respects : (kind tid : ℕ) → Respects (λ (s : Segment). s.kind == kind && s.tid == tid)
own-respects kind tid s t e = grind (arith, and_parts, eqb-true)

any-cases : (p : Segment → Bool) (s t : Segment) (had : List Segment) (b c : Bool) →
    is_same_segment s t ≡ b → (b ≡ true → c ≡ true) →
    list_any (is_same_segment s) (filter p had) ≡ list_any (is_same_segment s) had →
    list_any (is_same_segment s) (if c then t ∷ filter p had else filter p had)
    ≡ (b || list_any (is_same_segment s) had)
any-cases p s t had b c e f ih = grind arith

pub any-filter : (p : Segment → Bool) → Respects p → (s : Segment) → p s ≡ true →
    (had : List Segment) →
    list_any (is_same_segment s) (filter p had) ≡ list_any (is_same_segment s) had
any-filter p r s is [] = refl
any-filter p r s is (t ∷ had) =
    any-cases p s t had (is_same_segment s t) (p t) refl (λ e. sym (r s t e) ∙ is)
    (any-filter p r s is had)

filter-cases : (p : Segment → Bool) (had : List Segment) (s : Segment) (b c : Bool) → p s ≡ c →
    (c ≡ true → list_any (is_same_segment s) (filter p had) ≡ b) →
    filter p (if b then had else had ++ s ∷ [])
    ≡ (if c then had_with (filter p had) s else filter p had)
filter-cases p had s b c is f = grind (arith, filter-append, append-nil)

had-cases : (had xs : List Segment) (s : Segment) (c : Bool) →
    received (if c then had_with had s else had) xs ≡ received had (if c then s ∷ xs else xs)
had-cases had xs s c = grind arith

-- of what is received, an entity's are what is received of the entity's
pub filter-received : (p : Segment → Bool) → Respects p → (had ss : List Segment) →
    filter p (received had ss) ≡ received (filter p had) (filter p ss)
filter-received p r had [] = refl
filter-received p r had (s ∷ ss) =
    grind (arith, filter-received p r (had_with had s) ss, filter-cases, any-filter, had-cases)

had-wider : (x : Segment) (had ys : List Segment) → AllByRecursion (IsHad had) ys →
    AllByRecursion (IsHad (x ∷ had)) ys
had-wider x had [] h = tt
had-wider x had (y ∷ ys) h = grind (arith, had-wider x had ys h.1)

pub had-all : (xs : List Segment) → AllByRecursion (IsHad xs) xs
had-all [] = tt
had-all (x ∷ xs) = (rw (same-self x) refl, had-wider x xs xs (had-all xs))

copies-had : (n : ℕ) (xs : List Segment) → received xs (copies n xs) ≡ xs
copies-had zero xs = refl
copies-had (suc n) xs = again xs xs (copies n xs) (had-all xs) ∙ copies-had n xs

-- of an entity that comes more than once, its segments are had once
received-copies : (n id size : ℕ) (bytes : List ℕ) →
    received [] (copies (suc n) (segments_of 4 id size bytes)) ≡ segments_of 4 id size bytes
received-copies n id size bytes =
    grind (arith, received-numbered, copies-had)

with-front : (b : Bool) (had : List Segment) (s : Segment) →
    (xs : List Segment) × ((if b then had else had ++ s ∷ []) ≡ had ++ xs)
with-front true had s = ([], sym (append-nil had))
with-front false had s = (s ∷ [], refl)

pub received-front : (had ss : List Segment) →
    (xs : List Segment) × (received had ss ≡ had ++ xs)
received-front had [] = ([], sym (append-nil had))
received-front had (s ∷ ss) =
    let one = with-front (list_any (is_same_segment s) had) had s in
    let more = received-front (had_with had s) ss in (
      one.0 ++ more.0,
      more.1 ∙ ap (λ (h : List Segment). h ++ more.0) one.1 ∙ append_assoc had one.0 more.0,
    )

-- ---- what holds of all of them

pub all-append : (P : Segment → Type 0) (xs ys : List Segment) → AllByRecursion P xs →
    AllByRecursion P ys → AllByRecursion P (xs ++ ys)
all-append P [] ys p q = q
all-append P (x ∷ xs) ys p q = (p.0, all-append P xs ys p.1 q)

pub all-front : (P : Segment → Type 0) (xs ys : List Segment) → AllByRecursion P (xs ++ ys) →
    AllByRecursion P xs
all-front P [] ys p = tt
all-front P (x ∷ xs) ys p = (p.0, all-front P xs ys p.1)

pub all-behind : (P : Segment → Type 0) (xs ys : List Segment) → AllByRecursion P (xs ++ ys) →
    AllByRecursion P ys
all-behind P [] ys p = p
all-behind P (x ∷ xs) ys p = all-behind P xs ys p.1

pub all-copies : (P : Segment → Type 0) (n : ℕ) (xs : List Segment) → AllByRecursion P xs →
    AllByRecursion P (copies n xs)
all-copies P zero xs p = tt
all-copies P (suc n) xs p = all-append P xs (copies n xs) p (all-copies P n xs p)

with-all : (P : Segment → Type 0) (b : Bool) (had : List Segment) (s : Segment) →
    AllByRecursion P had → P s → AllByRecursion P (if b then had else had ++ s ∷ [])
with-all P true had s p q = p
with-all P false had s p q = all-append P had (s ∷ []) p (q, tt)

pub all-received : (P : Segment → Type 0) (had ss : List Segment) → AllByRecursion P had →
    AllByRecursion P ss → AllByRecursion P (received had ss)
all-received P had [] p q = p
all-received P had (s ∷ ss) p q =
    grind (arith, all-received P (had_with had s) ss (with-all P (list_any (is_same_segment s) had) had s p q.0) q.1)

pub listed : (p : Segment → Bool) (xs : List Segment) → list_all p xs ≡ true →
    AllByRecursion (λ (s : Segment). p s ≡ true) xs
listed p [] e = tt
listed p (x ∷ xs) e =
    let parts = and_parts (p x) (list_all p xs) e in (parts.0, listed p xs parts.1)

pub all-list : (p : Segment → Bool) (xs : List Segment) →
    AllByRecursion (λ (s : Segment). p s ≡ true) xs → list_all p xs ≡ true
all-list p [] h = refl
all-list p (x ∷ xs) h = rw (h.0, all-list p xs h.1) refl

later-cases : (P : Segment → Type 0) (b : Bool) (x : Segment) (ys : List Segment) →
    AllByRecursion P (if b then x ∷ ys else ys) → AllByRecursion P ys
later-cases P b x ys p = grind arith

first-case : (P : Segment → Type 0) (b : Bool) (x : Segment) (ys : List Segment) → b ≡ true →
    AllByRecursion P (if b then x ∷ ys else ys) → P x
first-case P b x ys e p = grind arith

-- what holds of each body's own segments holds of all
all-of_own : (P : Segment → Type 0) (xs : List Segment) → AreBodies xs →
    ((id : ℕ) → AllByRecursion P (own_segments 4 id xs)) → AllByRecursion P xs
all-of_own P [] k f = tt
all-of_own P (x ∷ xs) k f = (
  first-case P (own x.tid x) x (own_segments 4 x.tid xs)
      (rw (eq-eqb x.kind 4 k.0, eq-eqb x.tid x.tid refl) refl) (f x.tid),
  all-of_own P xs k.1 (λ id. later-cases P (own id x) x (own_segments 4 id xs) (f id)),
)

body-cases : (P : Segment → Type 0) (id size : ℕ) (b : ℕ × List ℕ) (bytes : List ℕ)
    (later : Option (List ℕ)) (t : Bool) → (id == b.0) ≡ t →
    AllByRecursion P (segments_of 4 b.0 size b.1) →
    (later ≡ Some bytes → AllByRecursion P (segments_of 4 id size bytes)) →
    (if t then Some b.1 else later) ≡ Some bytes →
    AllByRecursion P (segments_of 4 id size bytes)
body-cases P id size b bytes later t e p f is = grind arith

-- what holds of all bodies' segments holds of one's
all-of_body : (P : Segment → Type 0) (id size : ℕ) (bodies : List (ℕ × List ℕ))
    (bytes : List ℕ) → AllByRecursion P (segments_of_bodies size bodies) →
    body_of id bodies ≡ Some bytes → AllByRecursion P (segments_of 4 id size bytes)
all-of_body P id size [] bytes p is = absurd (none-some bytes is)
all-of_body P id size (b ∷ bodies) bytes p is =
    let here : List Segment = segments_of 4 b.0 size b.1 in
    let rest : List Segment = segments_of_bodies size bodies in
    body-cases P id size b bytes (body_of id bodies) (id == b.0) refl (all-front P here rest p)
    (λ e. all-of_body P id size bodies bytes (all-behind P here rest p) e) is

own-cases : (P : Segment → Type 0) (id size : ℕ) (o : Option (List ℕ)) (segments : List Segment) →
    IsOwn size id o segments →
    ((bytes : List ℕ) → o ≡ Some bytes → AllByRecursion P (segments_of 4 id size bytes)) →
    AllByRecursion P segments
own-cases P id size None segments is f = subst (AllByRecursion P) (sym is) tt
own-cases P id size (Some bytes) segments is f =
    subst (AllByRecursion P) (sym is.1)
    (all-copies P (suc is.0) (segments_of 4 id size bytes) (f bytes refl))

-- and so does what holds of all bodies' segments, of those that come again too
pub all-again : (P : Segment → Type 0) (size : ℕ) (bodies : List (ℕ × List ℕ))
    (xs : List Segment) → AreBodies xs → AllByRecursion P (segments_of_bodies size bodies) →
    ((id : ℕ) → IsOwn size id (body_of id bodies) (own_segments 4 id xs)) → AllByRecursion P xs
all-again P size bodies xs k p is =
    all-of_own P xs k
    (λ id. own-cases P id size (body_of id bodies) (own_segments 4 id xs) (is id)
    (λ bytes e. all-of_body P id size bodies bytes p e))

-- ---- a body by its id

pub body-absent : (id : ℕ) (bodies : List (ℕ × List ℕ)) →
    contains (map (λ (b : ℕ × List ℕ). b.0) bodies) id ≡ false → body_of id bodies ≡ None
body-absent id [] e = refl
body-absent id (b ∷ bodies) e =
    let parts = or_parts (nat_eq id b.0)
    (contains (map (λ (b : ℕ × List ℕ). b.0) bodies) id) e in
    rw parts.0 (body-absent id bodies parts.1)

whole-cases : (id size : ℕ) (b : ℕ × List ℕ) (bodies : List (ℕ × List ℕ)) (t : Bool) →
    (id == b.0) ≡ t → contains (map (λ (b : ℕ × List ℕ). b.0) bodies) b.0 ≡ false →
    IsOwn size id (body_of id bodies) (own_segments 4 id (segments_of_bodies size bodies)) →
    IsOwn size id (if t then Some b.1 else body_of id bodies)
    (own_segments 4 id (segments_of_bodies size (b ∷ bodies)))
whole-cases id size b bodies true e absent ih =
    let same : id ≡ b.0 = eqb-true id b.0 e in
    let here : List Segment = segments_of 4 b.0 size b.1 in
    let rest : List Segment = segments_of_bodies size bodies in
    let none : own_segments 4 id rest ≡ [] =
    subst (λ (o : Option (List ℕ)). IsOwn size id o (own_segments 4 id rest))
    (body-absent id bodies
    (ap (contains (map (λ (b : ℕ × List ℕ). b.0) bodies)) same ∙ absent)) ih in (
      0,
      own-append 4 id here rest
          ∙ ap (λ ss. ss ++ own_segments 4 id rest)
          (ap (λ (k : ℕ). own_segments 4 id (segments_of 4 k size b.1)) (sym same)
          ∙ own-numbered_segments 4 id 0 (pieces size b.1))
          ∙ ap (λ ss. segments_of 4 id size b.1 ++ ss) none,
    )
whole-cases id size b bodies false e absent ih =
    let here : List Segment = segments_of 4 b.0 size b.1 in
    let rest : List Segment = segments_of_bodies size bodies in
    subst (IsOwn size id (body_of id bodies))
    (sym (own-append 4 id here rest
    ∙ ap (λ ss. ss ++ own_segments 4 id rest)
    (foreign-numbered_segments 4 id 4 b.0 0 (pieces size b.1)
    (nat_eq_equiv.symm b.0 id ∙ e)))) ih

-- of bodies with ids that stand once, each comes once
pub own-whole : (id size : ℕ) (bodies : List (ℕ × List ℕ)) →
    is_distinct (map (λ (b : ℕ × List ℕ). b.0) bodies) ≡ true →
    IsOwn size id (body_of id bodies) (own_segments 4 id (segments_of_bodies size bodies))
own-whole id size [] d = refl
own-whole id size (b ∷ bodies) d =
    let names : List ℕ = map (λ (b : ℕ × List ℕ). b.0) bodies in
    let parts = and_parts (not (contains names b.0)) (is_distinct names) d in
    whole-cases id size b bodies (id == b.0) refl (not-true (contains names b.0) parts.0)
    (own-whole id size bodies parts.1)

-- ---- reading

pub later-id : (id : ℕ) (o : Object) (objects : List Object) (bytes : List ℕ) (t : Bool) →
    (id == o.tid) ≡ t → body_of o.tid (bodies_with_ids objects) ≡ None →
    body_of id (bodies_with_ids objects) ≡ Some bytes →
    (if t then Some o.body else body_of id (bodies_with_ids objects)) ≡ Some bytes
later-id id o objects bytes t e absent is = grind arith

pub map-ids : (objects : List Object) →
    map (λ (b : ℕ × List ℕ). b.0) (bodies_with_ids objects) ≡ ids_of objects
map-ids [] = refl
map-ids (o ∷ objects) = ap (λ ids. o.tid ∷ ids) (map-ids objects)

pub each-own : (size : ℕ) (all : List Segment) (objects : List Object) →
    is_distinct (ids_of objects) ≡ true →
    ((id : ℕ) (bytes : List ℕ) → body_of id (bodies_with_ids objects) ≡ Some bytes →
    own_segments 4 id all ≡ segments_of 4 id size bytes) →
    AllByRecursion (λ (o : Object).
    own_segments 4 o.tid all ≡ segments_of 4 o.tid size o.body) objects
each-own size all [] d f = tt
each-own size all (o ∷ objects) d f =
    let parts = and_parts (not (contains (ids_of objects) o.tid)) (is_distinct (ids_of objects))
    d in
    let absent : body_of o.tid (bodies_with_ids objects) ≡ None =
    body-absent o.tid (bodies_with_ids objects)
    (ap (λ (ids : List ℕ). contains ids o.tid) (map-ids objects)
    ∙ not-true (contains (ids_of objects) o.tid) parts.0) in (
      f o.tid o.body (rw (eq-eqb o.tid o.tid refl) refl),
      each-own size all objects parts.1 (λ id bytes e. f id bytes
          (later-id id o objects bytes (id == o.tid) refl absent e)),
    )

none-of_bodies : (id : ℕ) (xs : List Segment) → AreBodies xs → own_segments 6 id xs ≡ []
none-of_bodies id [] k = refl
none-of_bodies id (x ∷ xs) k = grind (arith, none-of_bodies id xs k.1)

received-own : (id size : ℕ) (bytes : List ℕ) (o : Option (List ℕ)) (segments : List Segment) →
    o ≡ Some bytes → IsOwn size id o segments →
    received [] segments ≡ segments_of 4 id size bytes
received-own id size bytes o segments e is =
    grind (arith, none-some, received-copies, same_Some)

module _ (size : ℕ) (laws : EntityLaws size) where
  pub read-own : (all : List Segment) (objects : List Object) → AreSome objects →
      AllByRecursion (λ (o : Object).
      own_segments 4 o.tid all ≡ segments_of 4 o.tid size o.body) objects →
      read_each (object_in all) (map entry_of objects) ≡ Some objects
  read-own all [] some f = refl
  read-own all (o ∷ objects) some f =
      rw (
        object_in-entry_of all o (laws.entity 4 o.tid o.body all some.0 f.0),
        read-own all objects some.1 f.1,
      ) refl

  -- a directory, and behind it bodies of which some come more than once
  pub reads-again : (id period : ℕ) (bytes : List ℕ) (objects : List Object)
      (xs : List Segment) → 0 < length bytes →
      read_directory bytes ≡ Some
      (record { period = period; segment_size = size; entries = map entry_of objects }) →
      is_distinct (id ∷ ids_of objects) ≡ true → AreSome objects → AreBodies xs →
      ((k : ℕ) → IsOwn size k (body_of k (bodies_with_ids objects)) (own_segments 4 k xs)) →
      read_segments (received [] (segments_of 6 id size bytes ++ xs))
      ≡ Some (record { directory = id; period = period; segment_size = size; objects = objects })
  unfolding read_segments
  reads-again id period bytes objects xs b d distinct some k is =
      let own6 : List Segment = segments_of 6 id size bytes in
      let all : List Segment = received own6 xs in
      let whole : received [] (own6 ++ xs) ≡ all =
      received-numbered [] xs 6 id 0 (pieces size bytes) tt in
      let front = received-front own6 xs in
      let first : directory_in all ≡ Some id =
      ap directory_in front.1
      ∙ first-numbered_segments id bytes (pieces size bytes) front.0 (laws.cut bytes).whole b in
      let entity : entity_of all 6 id ≡ Some bytes =
      laws.entity 6 id bytes all b
      (filter-received (λ (s : Segment). s.kind == 6 && s.tid == id) (own-respects 6 id) own6 xs
      ∙ ap (λ (h : List Segment). received h (own_segments 6 id xs))
      (own-numbered_segments 6 id 0 (pieces size bytes))
      ∙ ap (received own6) (none-of_bodies id xs k)) in
      let parts = and_parts (not (contains (ids_of objects) id)) (is_distinct (ids_of objects))
      distinct in
      let found : read_each (object_in all) (map entry_of objects) ≡ Some objects =
      read-own all objects some (each-own size all objects parts.1
      (λ tid body e.
      filter-received (λ (s : Segment). s.kind == 4 && s.tid == tid) (own-respects 4 tid) own6 xs
      ∙ ap (λ (h : List Segment). received h (own_segments 4 tid xs))
      (own-directory tid id 0 (pieces size bytes))
      ∙ received-own tid size body (body_of tid (bodies_with_ids objects))
      (own_segments 4 tid xs) e (is tid))) in
      let test : Segment → Bool = belongs id (ids_of objects) size in
      let members : list_all test all ≡ true =
      all-list test all (all-received (λ (s : Segment). test s ≡ true) own6 xs
      (listed test own6
      (belongs-entity size laws id 6 id (ids_of objects) bytes (rw (eq-eqb id id refl) refl)))
      (all-again (λ (s : Segment). test s ≡ true) size (bodies_with_ids objects) xs k
      (listed test (cut size objects)
      (belongs-cut size laws id (ids_of objects) objects (λ tid h. h))) is)) in
      ap read_segments whole
      ∙ rw (first, entity, d, found, entry_ids objects, distinct, members) refl
