-- A directory whose other entries are copied from one that differs in one entry.
use Rattle.std.proofs.Common.{◌≡◌, ℕ, suc, ◌+◌, ◌-◌, ◌<◌, ◌≤◌, List, [], ◌∷◌, ◌++◌, refl, sym, length}
use Rattle.std.proofs.Common.{map, take, drop, get_or, set, All, arith, ap, ◌∙◌, length-append}
use Rattle.std.proofs.Common.{append_assoc, add-one}
use Rattle.std.proofs.Math.Seq.{split_at}
use Rattle.std.proofs.lemmas.Grind.{flat_map-append}
use Rattle.std.proofs.lemmas.List.{drop-map, drop_at, length-map, map-append, set_split, take-map}
use Rattle.std.proofs.lemmas.List.{take_at, take_rest}
use Rattle.std.proofs.lemmas.List.Elements.{All-append, All-cons, All-same}
use Rattle.std.proofs.lemmas.List.Sums.{sum_by-append, sum_by-cons}
use Rattle.std.specs.Prelude.{sum_by}
use Rattle.mot_directory.specs.Directory.{Entry, IsEntry, bytes_of_directory, bytes_of_entries}
use Rattle.mot_directory.specs.Directory.{bytes_of_directory_header, bytes_of_entry, entry_size}
use Rattle.mot_directory.specs.Entries.{HasAnother, entries_of}
use Rattle.mot_directory.specs.Inner.{entry_beside}
use Rattle.mot_directory.proofs.Beside.{entries_of-objects_of, length-bytes_of_entries}
use Rattle.mot_objects.specs.declared.object.Object.{Object}
use Rattle.mot_objects.specs.declared.carousel.Carousel.{Carousel}
use Rattle.mot_objects.specs.Stands.{AreBodiesOf, carousel_of}

abbrev pub entries_beside : List Object → List ℕ
entries_beside objects = bytes_of_entries (map entry_beside objects)

-- the objects before a place, the one there, and those behind it
around : (objects : List Object) (place : ℕ) (o : Object) → place < length objects
    → o ≡ get_or objects place o → objects ≡ take place objects ++ o ∷ drop (place + 1) objects
around objects place o within is =
    split_at objects place o within
    ∙ ap (λ x. take place objects ++ x ∷ drop (suc place) objects) (sym is)
    ∙ ap (λ n. take place objects ++ o ∷ drop n objects) (sym (add-one place))

-- so do their entries' bytes stand
pub entries-around : (objects : List Object) (place : ℕ) (o : Object) → place < length objects
    → o ≡ get_or objects place o
    → entries_beside objects ≡ entries_beside (take place objects)
    ++ (bytes_of_entry (entry_beside o) ++ entries_beside (drop (place + 1) objects))
entries-around objects place o within is =
    let others : List Object = drop (place + 1) objects in
    ap entries_beside (around objects place o within is)
    ∙ ap bytes_of_entries (map-append entry_beside (take place objects) (o ∷ others))
    ∙ flat_map-append bytes_of_entry (map entry_beside (take place objects))
    (entry_beside o ∷ map entry_beside others)

-- and so their sizes add up
pub sizes-around : (objects : List Object) (place : ℕ) (o : Object) → place < length objects
    → o ≡ get_or objects place o
    → sum_by entry_size objects ≡ sum_by entry_size (take place objects) + entry_size o
    + sum_by entry_size (drop (place + 1) objects)
sizes-around objects place o within is =
    ap (sum_by entry_size) (around objects place o within is)
    ∙ sum_by-append entry_size (take place objects) (o ∷ drop (place + 1) objects)
    ∙ omega (arith, sum_by-cons entry_size o (drop (place + 1) objects))

-- and all are within their fields if these are
pub fit-around : (objects : List Object) (place : ℕ) (o : Object) → place < length objects
    → o ≡ get_or objects place o
    → All IsEntry (map entry_beside (take place objects)) → IsEntry (entry_beside o)
    → All IsEntry (map entry_beside (drop (place + 1) objects))
    → All IsEntry (map entry_beside objects)
fit-around objects place o within is front one back =
    let first : List Entry = map entry_beside (take place objects) in
    let others : List Entry = map entry_beside (drop (place + 1) objects) in
    All-same IsEntry (map entry_beside objects) (first ++ entry_beside o ∷ others)
    (ap (map entry_beside) (around objects place o within is)
    ∙ map-append entry_beside (take place objects) (o ∷ drop (place + 1) objects))
    (All-append IsEntry first (entry_beside o ∷ others) front
    (All-cons IsEntry (entry_beside o) others one back))

-- The parts of a directory's bytes: the header, and the entries before one, its own, and those
-- behind it.
pub record LastParts (last : List ℕ) (objects : List Object) (place : ℕ) : Type 0 where
  pub head : List ℕ
  pub gone : List ℕ
  pub long : length head ≡ 13
  pub is : last ≡ head ++ (entries_beside (take place objects)
      ++ (gone ++ entries_beside (drop (place + 1) objects)))

pub last-parts : (c : Carousel) (bodies : List (List ℕ)) (last : List ℕ) (place : ℕ)
    → AreBodiesOf c bodies → place < length c.objects.items
    → HasAnother last (carousel_of c bodies) place → LastParts last c.objects.items place
unfolding bytes_of_directory
last-parts c bodies last place are within has =
    let objects : List Object = c.objects.items in
    let beside : List Entry = map entry_beside objects in
    let first : List Entry = map entry_beside (take place objects) in
    let others : List Entry = map entry_beside (drop (place + 1) objects) in
    let entries : List Entry = set (entries_of (carousel_of c bodies)) place has.gone in
    let inside : place < length beside = omega (arith, within, length-map objects entry_beside) in
    let split : entries ≡ first ++ has.gone ∷ others =
    ap (λ l. set l place has.gone) (entries_of-objects_of objects bodies are)
    ∙ set_split beside place has.gone inside
    ∙ ap (λ l. l ++ has.gone ∷ drop (suc place) beside) (take-map entry_beside place objects)
    ∙ ap (λ n. first ++ has.gone ∷ drop n beside) (sym (add-one place))
    ∙ ap (λ l. first ++ has.gone ∷ l) (drop-map entry_beside (place + 1) objects) in
    let head : List ℕ =
    bytes_of_directory_header (13 + length (bytes_of_entries entries)) (length entries) has.period
    has.segment_size in
    record {
      head = head;
      gone = bytes_of_entry has.gone;
      long = refl;
      is = has.is ∙ ap (λ l. head ++ l) (ap bytes_of_entries split
          ∙ flat_map-append bytes_of_entry first (has.gone ∷ others));
    }

pub last-length : (last : List ℕ) (objects : List Object) (place : ℕ)
    → LastParts last objects place
    → 13 + sum_by entry_size (take place objects) + sum_by entry_size (drop (place + 1) objects)
    ≤ length last
last-length last objects place parts =
    let front : List ℕ = entries_beside (take place objects) in
    let back : List ℕ = entries_beside (drop (place + 1) objects) in
    omega (
      arith,
      ap length parts.is,
      parts.long,
      length-append parts.head (front ++ (parts.gone ++ back)),
      length-append front (parts.gone ++ back),
      length-append parts.gone back,
      length-bytes_of_entries (take place objects),
      length-bytes_of_entries (drop (place + 1) objects),
    )

pub front-copied : (last : List ℕ) (objects : List Object) (place size : ℕ)
    → LastParts last objects place → size ≡ sum_by entry_size (take place objects)
    → take (13 + size - 13) (drop 13 last) ≡ entries_beside (take place objects)
front-copied last objects place size parts e =
    let front : List ℕ = entries_beside (take place objects) in
    let back : List ℕ = entries_beside (drop (place + 1) objects) in
    ap (λ l. take (13 + size - 13) (drop 13 l)) parts.is
    ∙ ap (take (13 + size - 13)) (drop_at parts.head (front ++ (parts.gone ++ back)) 13 parts.long)
    ∙ take_at front (parts.gone ++ back) (13 + size - 13)
    (omega (arith, e, length-bytes_of_entries (take place objects)))

pub back-copied : (last : List ℕ) (objects : List Object) (place size : ℕ)
    → LastParts last objects place → size ≡ sum_by entry_size (drop (place + 1) objects)
    → take (length last - (length last - size)) (drop (length last - size) last)
    ≡ entries_beside (drop (place + 1) objects)
back-copied last objects place size parts e =
    let front : List ℕ = entries_beside (take place objects) in
    let back : List ℕ = entries_beside (drop (place + 1) objects) in
    let before : List ℕ = (parts.head ++ front) ++ parts.gone in
    let whole : last ≡ before ++ back =
    parts.is ∙ simp append_assoc in
    let n : ℕ = length last - size in
    take_rest last n ∙ ap (drop n) whole
    ∙ drop_at before back n
    (omega (
      arith,
      e,
      ap length whole,
      length-append before back,
      length-bytes_of_entries (drop (place + 1) objects),
    ))

-- bytes that are put together piece by piece
pub put_together : (head front entry back x0 x1 x2 x3 x4 s1 s2 : List ℕ) → x0 ≡ []
    → x1 ≡ x0 ++ head → x2 ≡ x1 ++ s1 → x3 ≡ x2 ++ entry → x4 ≡ x3 ++ s2 → s1 ≡ front
    → s2 ≡ back → x4 ≡ head ++ (front ++ (entry ++ back))
put_together head front entry back x0 x1 x2 x3 x4 s1 s2 e0 e1 e2 e3 e4 f b =
    let pieces : x4 ≡ ((head ++ front) ++ entry) ++ back = rw (e4, e3, e2, e1, e0, f, b) refl in
    pieces ∙ simp append_assoc
