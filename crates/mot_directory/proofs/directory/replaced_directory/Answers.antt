use Rattle.std.proofs.Common.{◌≡◌, ℕ, ◌+◌, ◌-◌, ◌*◌, ◌<◌, ◌≤◌, List, ◌++◌, length, map, take, drop}
use Rattle.std.proofs.Common.{sym, ap, subst, ◌∙◌, arith, vec_len, All, Some, length-drop}
use Rattle.std.proofs.lemmas.List.{length-take, take_rest}
use Rattle.std.specs.Prelude.{sum_by}
use Rattle.mot_directory.specs.Directory.{IsDirectory, IsEntry, bytes_of_directory, directory_size}
use Rattle.mot_directory.specs.Directory.{bytes_of_directory_header, bytes_of_entry, entry_size}
use Rattle.mot_directory.specs.Directory.{read_directory}
use Rattle.mot_directory.specs.Inner.{directory_beside, entry_beside}
use Rattle.mot_directory.proofs.Beside.{IsDirectory-beside, bytes_of_directory-beside}
use Rattle.mot_directory.proofs.Beside.{directory_of-carousel_of, length-bytes_of_entries}
use Rattle.mot_directory.proofs.ReadBack.{read_directory-bytes_of_directory}
use Rattle.mot_directory.proofs.Replaced.{back-copied, entries-around, entries_beside}
use Rattle.mot_directory.proofs.Replaced.{fit-around}
use Rattle.mot_directory.proofs.Replaced.{front-copied, last-length, last-parts, put_together}
use Rattle.mot_directory.proofs.Replaced.{sizes-around}
use Rattle.mot_directory.proofs.directory.replaced_directory.Goals as goal
use Rattle.mot_directory.proofs.directory.replaced_directory.Goals.{After-append-2}
use Rattle.mot_objects.specs.declared.carousel.Carousel.{Carousel}
use Rattle.mot_objects.specs.declared.object.Object.{Object}

-- what the slices of the objects are
sizes-front : (size place : ℕ) (slice objects : List Object) → slice ≡ objects
    → size ≡ sum_by entry_size (take place slice) → size ≡ sum_by entry_size (take place objects)
sizes-front size place slice objects is e = e ∙ ap (λ l. sum_by entry_size (take place l)) is

rest : (place : ℕ) (slice objects : List Object) → slice ≡ objects
    → take (length slice - (place + 1)) (drop (place + 1) slice) ≡ drop (place + 1) objects
rest place slice objects is = take_rest slice (place + 1) ∙ ap (drop (place + 1)) is

sizes-back : (size place : ℕ) (slice objects : List Object) → slice ≡ objects
    → size ≡ sum_by entry_size (take (length slice - (place + 1)) (drop (place + 1) slice))
    → size ≡ sum_by entry_size (drop (place + 1) objects)
sizes-back size place slice objects is e = e ∙ ap (sum_by entry_size) (rest place slice objects is)

-- the directory of so many objects is not too long
not_longer : (objects : List Object) (place front back header all : ℕ) → place < length objects
    → length objects ≤ 250 → front ≤ 336 * length (take place objects) → header ≤ 334
    → back ≤ 336 * length (drop (place + 1) objects) → all ≡ 13 + front + 2 + header + back
    → all ≤ 84013
not_longer objects place front back header all within few f h b e =
    omega (arith, length-take place objects, length-drop (place + 1) objects)

pub overflow_sub-last : goal.overflow_sub-last
overflow_sub-last c =
    let objects : List Object = c.args.carousel.now.objects.items in
    let place : ℕ = c.args.place in
    let within : place < length objects = omega arith in
    let parts = last-parts c.args.carousel.now c.requires.last.0 c.args.last.now place
    c.requires.last.1 within c.requires.last.2 in
    omega (
      arith,
      last-length c.args.last.now objects place parts,
      sizes-back c.entries_size-back.result place c.deref-2.result.now objects
          c.deref-2.ensures.value c.entries_size-back.ensures.size,
    )

pub slice_bounds-append-end : goal.slice_bounds-append-end
slice_bounds-append-end c =
    let objects : List Object = c.args.carousel.now.objects.items in
    let place : ℕ = c.args.place in
    let within : place < length objects = omega arith in
    let parts = last-parts c.args.carousel.now c.requires.last.0 c.args.last.now place
    c.requires.last.1 within c.requires.last.2 in
    omega (
      arith,
      last-length c.args.last.now objects place parts,
      sizes-front c.entries_size-front.result place c.deref.result.now objects
          c.deref.ensures.value c.entries_size-front.ensures.size,
    )

whole_size : (c : After-append-2) → 13 + c.entries_size-front.result + 2 + c.header_size.result
    + c.entries_size-back.result ≡ directory_size c.args.carousel.now
whole_size c =
    let objects : List Object = c.args.carousel.now.objects.items in
    let place : ℕ = c.args.place in
    let within : place < length objects = omega arith in
    let front = sizes-front c.entries_size-front.result place c.deref.result.now objects
    c.deref.ensures.value c.entries_size-front.ensures.size in
    let back = sizes-back c.entries_size-back.result place c.deref-2.result.now objects
    c.deref-2.ensures.value c.entries_size-back.ensures.size in
    omega (
      arith,
      front,
      back,
      c.header_size.ensures.size,
      sizes-around objects place c.index-object.result.now within c.index-object.ensures,
    )

whole : (c : After-append-2) → c.append-2.new.out.items
    ≡ bytes_of_directory (directory_beside c.args.carousel.now c.args.segment_size)
whole c =
    let carousel : Carousel = c.args.carousel.now in
    let objects : List Object = carousel.objects.items in
    let place : ℕ = c.args.place in
    let o : Object = c.index-object.result.now in
    let within : place < length objects = omega arith in
    let parts = last-parts carousel c.requires.last.0 c.args.last.now place c.requires.last.1 within
    c.requires.last.2 in
    let size : ℕ = 13 + c.entries_size-front.result + 2 + c.header_size.result
    + c.entries_size-back.result in
    let front = sizes-front c.entries_size-front.result place c.deref.result.now objects
    c.deref.ensures.value c.entries_size-front.ensures.size in
    let back = sizes-back c.entries_size-back.result place c.deref-2.result.now objects
    c.deref-2.ensures.value c.entries_size-back.ensures.size in
    let count : vec_len carousel.objects ≡ length objects =
    sym c.deref.ensures.len ∙ ap length c.deref.ensures.value in
    put_together
    (bytes_of_directory_header size (vec_len carousel.objects) carousel.period c.args.segment_size)
    (entries_beside (take place objects)) (bytes_of_entry (entry_beside o))
    (entries_beside (drop (place + 1) objects)) _ _ _ _ _ _ _
    c.in_ok-out.ensures.items c.append_directory_header.ensures.items c.append.ensures.items
    c.append_entry.ensures.items c.append-2.ensures.items
    (front-copied c.args.last.now objects place c.entries_size-front.result parts front)
    (back-copied c.args.last.now objects place c.entries_size-back.result parts back)
    ∙ ap (λ l. bytes_of_directory_header size (vec_len carousel.objects) carousel.period
    c.args.segment_size ++ l)
    (sym (entries-around objects place o within c.index-object.ensures))
    ∙ bytes_of_directory-beside carousel c.args.segment_size size (vec_len carousel.objects)
    (whole_size c) count

short : (c : After-append-2) → directory_size c.args.carousel.now ≤ 84013
short c =
    let objects : List Object = c.args.carousel.now.objects.items in
    let place : ℕ = c.args.place in
    let within : place < length objects = omega arith in
    let few : length objects ≤ 250 = omega arith in
    let front : c.entries_size-front.result ≤ 336 * length (take place objects) =
    subst (λ l. c.entries_size-front.result ≤ 336 * length (take place l)) c.deref.ensures.value
    c.entries_size-front.ensures.longest in
    let back : c.entries_size-back.result ≤ 336 * length (drop (place + 1) objects) =
    subst (λ l. c.entries_size-back.result ≤ 336 * length l)
    (rest place c.deref-2.result.now objects c.deref-2.ensures.value)
    c.entries_size-back.ensures.longest in
    not_longer objects place c.entries_size-front.result c.entries_size-back.result
    c.header_size.result (directory_size c.args.carousel.now) within few front
    c.header_size.ensures.longest back (sym (whole_size c))

fits : (c : After-append-2) → IsDirectory (directory_beside c.args.carousel.now c.args.segment_size)
fits c =
    let carousel : Carousel = c.args.carousel.now in
    let objects : List Object = carousel.objects.items in
    let place : ℕ = c.args.place in
    let within : place < length objects = omega arith in
    let few : length objects ≤ 250 = omega arith in
    let front : All IsEntry (map entry_beside (take place objects)) =
    subst (λ l. All IsEntry (map entry_beside (take place l))) c.deref.ensures.value
    c.entries_size-front.ensures.fits in
    let back : All IsEntry (map entry_beside (drop (place + 1) objects)) =
    subst (λ l. All IsEntry (map entry_beside l))
    (rest place c.deref-2.result.now objects c.deref-2.ensures.value)
    c.entries_size-back.ensures.fits in
    IsDirectory-beside carousel c.args.segment_size (short c) few
    c.append_directory_header.ensures.period c.append_directory_header.ensures.segment_size
    (fit-around objects place c.index-object.result.now within c.index-object.ensures front
    c.append_entry.ensures.fits back)

pub returns-clause-reads : goal.returns-clause-reads
returns-clause-reads c =
    λ bodies beside.
    let d = directory_beside c.args.carousel.now c.args.segment_size in
    ap read_directory (whole c) ∙ read_directory-bytes_of_directory d (fits c)
    ∙ ap Some (sym (directory_of-carousel_of c.args.carousel.now bodies c.args.segment_size beside))

pub returns-clause-size : goal.returns-clause-size
returns-clause-size c =
    let objects : List Object = c.args.carousel.now.objects.items in
    let place : ℕ = c.args.place in
    let within : place < length objects = omega arith in
    let parts = last-parts c.args.carousel.now c.requires.last.0 c.args.last.now place
    c.requires.last.1 within c.requires.last.2 in
    let front = sizes-front c.entries_size-front.result place c.deref.result.now objects
    c.deref.ensures.value c.entries_size-front.ensures.size in
    let back = sizes-back c.entries_size-back.result place c.deref-2.result.now objects
    c.deref-2.ensures.value c.entries_size-back.ensures.size in
    omega (
      arith,
      whole_size c,
      front,
      back,
      c.header_size.ensures.size,
      c.in_ok-out.ensures.len,
      c.append_directory_header.ensures.len,
      c.append.ensures.len,
      c.append_entry.ensures.len,
      c.append-2.ensures.len,
      ap length (front-copied c.args.last.now objects place c.entries_size-front.result parts front),
      ap length (back-copied c.args.last.now objects place c.entries_size-back.result parts back),
      length-bytes_of_entries (take place objects),
      length-bytes_of_entries (drop (place + 1) objects),
    )

pub returns-clause-longest : goal.returns-clause-longest
returns-clause-longest c = omega (arith, returns-clause-size c, short c)

pub returns-clause-written : goal.returns-clause-written
returns-clause-written c =
    λ bodies beside.
    whole c
    ∙ ap bytes_of_directory
    (sym (directory_of-carousel_of c.args.carousel.now bodies c.args.segment_size beside))
