-- The directory of a carousel whose bodies stand beside it, and how many bytes it has.
use Rattle.std.proofs.Common.{◌≡◌, ℕ, ◌+◌, ◌<◌, ◌≤◌, List, [], ◌∷◌, ◌++◌, refl, sym, length, map}
use Rattle.std.proofs.Common.{take, get_or, All, arith, ap, ◌∙◌, length-append, add-zero}
use Rattle.std.proofs.lemmas.Grind.{flat_map-append}
use Rattle.std.proofs.lemmas.List.{append-nil, length-map, map-append, take_more}
use Rattle.std.proofs.lemmas.List.Elements.{All-push, All-same}
use Rattle.std.proofs.lemmas.List.Sums.{sum_by-append, sum_by-cons, sum_by-take-le, sum_by_more}
use Rattle.std.specs.Prelude.{sum_by}
use Rattle.mot_directory.specs.Header.{HeaderFields}
use Rattle.mot_directory.specs.Directory.{Entry, DirectoryFields, IsEntry, IsDirectory}
use Rattle.mot_directory.specs.Directory.{bytes_of_directory, bytes_of_entry}
use Rattle.mot_directory.specs.Directory.{bytes_of_directory_header, bytes_of_entries}
use Rattle.mot_directory.specs.Directory.{directory_size, entry_size}
use Rattle.mot_directory.specs.Entries.{parameters_with, header_of, entry_of, directory_of}
use Rattle.mot_directory.specs.Inner.{header_beside, entry_beside, directory_beside}
use Rattle.mot_directory.proofs.Fits.{length-bytes_of_entry, length-extension}
use Rattle.mot_objects.specs.declared.object.Object.{Object}
use Rattle.mot_objects.specs.declared.carousel.Carousel.{Carousel}
use Rattle.mot_objects.specs.Stands.{object_of, objects_of, carousel_of, AreBodiesOf}

header_of_size : Object → ℕ → HeaderFields
header_of_size o n =
    record {
      body_size = n;
      content = o.content;
      parameters =
          parameters_with o.name o.mime o.version;
    }

-- the header is the object's, whatever the body of that length
pub header_of-object_of : (o : Object) (body : List ℕ) → length body ≡ o.length →
    header_of (object_of o body) ≡ header_beside o
unfolding header_of_size
header_of-object_of o body e = ap (header_of_size o) e

entry_with : Object → HeaderFields → Entry
entry_with o header = record { tid = o.tid; header = header }

entry_of-object_of : (o : Object) (body : List ℕ) → length body ≡ o.length →
    entry_of (object_of o body) ≡ entry_beside o
unfolding entry_with
entry_of-object_of o body e = ap (entry_with o) (header_of-object_of o body e)

pub entries_of-objects_of : (objects : List Object) (bodies : List (List ℕ)) →
    map length bodies ≡ map (λ (o : Object). o.length) objects →
    map entry_of (objects_of objects bodies) ≡ map entry_beside objects
entries_of-objects_of [] bodies e = refl
entries_of-objects_of (o ∷ objects) [] e = cc
entries_of-objects_of (o ∷ objects) (body ∷ bodies) e =
    let first : length body ≡ o.length = cc in
    let rest : map length bodies ≡ map (λ (p : Object). p.length) objects = cc in
    let here : entry_of (object_of o body) ≡ entry_beside o = entry_of-object_of o body first in
    let others : map entry_of (objects_of objects bodies) ≡ map entry_beside objects =
    entries_of-objects_of objects bodies rest in
    cc

directory_with_entries : Carousel → ℕ → List Entry → DirectoryFields
directory_with_entries c segment_size entries =
    record { period = c.period; segment_size = segment_size; entries = entries }

-- the directory of a carousel is that of its objects beside their bodies
pub directory_of-carousel_of : (c : Carousel) (bodies : List (List ℕ)) (segment_size : ℕ) →
    AreBodiesOf c bodies → directory_of (carousel_of c bodies) segment_size
    ≡ directory_beside c segment_size
unfolding directory_with_entries
directory_of-carousel_of c bodies segment_size e =
    ap (directory_with_entries c segment_size) (entries_of-objects_of c.objects.items bodies e)

entry_beside-size : (o : Object) → length (bytes_of_entry (entry_beside o)) ≡ entry_size o
entry_beside-size o =
    length-bytes_of_entry (entry_beside o)
    ∙ ap (λ n. 2 + n) (length-extension o.name o.mime o.version)

pub length-bytes_of_entries : (objects : List Object) →
    length (bytes_of_entries (map entry_beside objects)) ≡ sum_by entry_size objects
length-bytes_of_entries [] = refl
length-bytes_of_entries (o ∷ objects) =
    length-append (bytes_of_entry (entry_beside o)) (bytes_of_entries (map entry_beside objects))
    ∙ ap (λ n. n + length (bytes_of_entries (map entry_beside objects))) (entry_beside-size o)
    ∙ ap (λ n. entry_size o + n) (length-bytes_of_entries objects)
    ∙ sym (sum_by-cons entry_size o objects)

-- one more object of the list
pub one_more : (objects : List Object) (i : ℕ) (o : Object) → i < length objects
    → o ≡ get_or objects i o →
    take (i + 1) objects ≡ take i objects ++ o ∷ []
one_more objects i o l e = take_more objects i o l ∙ ap (λ x. take i objects ++ x ∷ []) (sym e)

-- the bytes of one entry more come behind those of the others
pub bytes_of_entries-push : (objects : List Object) (o : Object) →
    bytes_of_entries (map entry_beside (objects ++ o ∷ []))
    ≡ bytes_of_entries (map entry_beside objects) ++ bytes_of_entry (entry_beside o)
bytes_of_entries-push objects o =
    ap bytes_of_entries (map-append entry_beside objects (o ∷ []))
    ∙ flat_map-append bytes_of_entry (map entry_beside objects) (entry_beside o ∷ [])
    ∙ ap (λ rest. bytes_of_entries (map entry_beside objects) ++ rest)
    (append-nil (bytes_of_entry (entry_beside o)))

-- entries that can be written, and one more that can
pub are_entries-push : (objects : List Object) (o : Object) → All IsEntry (map entry_beside objects)
    →
    IsEntry (entry_beside o) → All IsEntry (map entry_beside (objects ++ o ∷ []))
are_entries-push objects o all h =
    let some : List Entry = map entry_beside objects in
    All-same IsEntry (map entry_beside (objects ++ o ∷ [])) (some ++ entry_beside o ∷ [])
    (map-append entry_beside objects (o ∷ [])) (All-push IsEntry some (entry_beside o) all h)

next_le : (a b c d e : ℕ) → a ≡ b + c → c ≡ d → a ≤ e → b + d ≤ e
next_le a b c d e p q l = omega arith

-- there is room for the next entry
pub sum_by-next : (objects : List Object) (i : ℕ) (o : Object) → i < length objects
    → o ≡ get_or objects i o →
    sum_by entry_size (take i objects) + entry_size o ≤ sum_by entry_size objects
sum_by-next objects i o l e =
    next_le (sum_by entry_size (take (i + 1) objects)) (sum_by entry_size (take i objects))
    (entry_size (get_or objects i o)) (entry_size o) (sum_by entry_size objects)
    (sum_by_more entry_size objects i o l) (ap entry_size (sym e))
    (sum_by-take-le entry_size objects (i + 1))

-- the sizes of entries, with one more, come to its size more
pub sum_by-push : (objects : List Object) (o : Object) →
    sum_by entry_size (objects ++ o ∷ []) ≡ sum_by entry_size objects + entry_size o
sum_by-push objects o =
    sum_by-append entry_size objects (o ∷ [])
    ∙ ap (λ n. sum_by entry_size objects + n)
    (sum_by-cons entry_size o [] ∙ add-zero (entry_size o))

-- the header and the entries that are appended are the directory
pub bytes_of_directory-beside : (c : Carousel) (segment_size size count : ℕ)
    → size ≡ directory_size c →
    count ≡ length c.objects.items →
    bytes_of_directory_header size count c.period segment_size
    ++ bytes_of_entries (map entry_beside c.objects.items)
    ≡ bytes_of_directory (directory_beside c segment_size)
unfolding bytes_of_directory
bytes_of_directory-beside c segment_size size count e f =
    let objects : List Object = c.objects.items in
    let entries : List ℕ = bytes_of_entries (map entry_beside objects) in
    let all : size ≡ 13 + length entries =
    e ∙ ap (λ n. 13 + n) (sym (length-bytes_of_entries objects)) in
    let each : count ≡ length (map entry_beside objects) =
    f ∙ sym (length-map objects entry_beside) in
    ap (λ n. bytes_of_directory_header n count c.period segment_size ++ entries) all
    ∙ ap (λ n. bytes_of_directory_header (13 + length entries) n c.period segment_size ++ entries)
    each

-- the directory of objects within the limits can be written
pub IsDirectory-beside : (c : Carousel) (segment_size : ℕ) → directory_size c ≤ 84013 →
    length c.objects.items ≤ 250 → c.period ≤ 16777215 → segment_size ≤ 8189 →
    All IsEntry (map entry_beside c.objects.items) → IsDirectory (directory_beside c segment_size)
IsDirectory-beside c segment_size longest few period size entries = record {
  directory_size = rw (length-bytes_of_entries c.objects.items) (omega arith);
  count = rw (length-map c.objects.items entry_beside) (omega arith);
  period = omega arith;
  segment_size = omega arith;
  entries = entries;
}
