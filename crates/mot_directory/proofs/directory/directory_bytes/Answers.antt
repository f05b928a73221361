use Rattle.std.proofs.Common.{◌≡◌, ℕ, ◌+◌, ◌<◌, ◌≤◌, List, [], ◌∷◌, ◌++◌, length, map, take, get_or}
use Rattle.std.proofs.Common.{sym, ap, ◌∙◌, arith, append_assoc, vec_len, All, Some}
use Rattle.std.proofs.lemmas.List.{take_all}
use Rattle.mot_directory.specs.Directory.{DirectoryFields, IsDirectory, IsEntry, bytes_of_directory}
use Rattle.mot_directory.specs.Directory.{bytes_of_entry, bytes_of_directory_header}
use Rattle.mot_directory.specs.Directory.{bytes_of_entries, read_directory, directory_size}
use Rattle.mot_directory.specs.Inner.{directory_beside, entry_beside}
use Rattle.mot_directory.proofs.Beside.{are_entries-push, bytes_of_directory-beside}
use Rattle.mot_directory.proofs.Beside.{directory_of-carousel_of, bytes_of_entries-push}
use Rattle.mot_directory.proofs.Beside.{IsDirectory-beside, one_more, sum_by-next, sum_by-push}
use Rattle.mot_directory.proofs.Described.{description_in-parameters_with}
use Rattle.mot_directory.proofs.Fits.{read_directory-directory_of}
use Rattle.mot_directory.proofs.ReadBack.{read_directory-bytes_of_directory}
use Rattle.mot_directory.proofs.directory.directory_bytes.Goals as goal
use Rattle.mot_objects.specs.declared.object.Object.{Object}
use Rattle.mot_objects.specs.declared.carousel.Carousel.{Carousel}

pub returns-in_err-out-clause-reads_back : goal.returns-in_err-out-clause-reads_back
returns-in_err-out-clause-reads_back c = read_directory-bytes_of_directory

pub returns-in_err-out-clause-carousels : goal.returns-in_err-out-clause-carousels
returns-in_err-out-clause-carousels c = read_directory-directory_of

pub append_entry-requires : goal.append_entry-requires
append_entry-requires c =
    let objects : List Object = c.args.carousel.now.objects.items in
    let i : ℕ = c.loop-object.object-index in
    let o : Object = c.object-item.result in
    let within : i < length objects =
    rw c.deref-object-items.ensures.value at c.loop-object-test.true in
    let item : o ≡ get_or objects i o = rw c.deref-object-items.ensures.value at c.object-item.is in
    omega (arith, sum_by-next objects i o within item)

pub loop-object-preserved : goal.loop-object-preserved
loop-object-preserved c =
    let carousel : Carousel = c.args.carousel.now in
    let objects : List Object = carousel.objects.items in
    let i : ℕ = c.loop-object.object-index in
    let o : Object = c.object-item.result in
    let within : i < length objects =
    rw c.deref-object-items.ensures.value at c.loop-object-test.true in
    let item : o ≡ get_or objects i o = rw c.deref-object-items.ensures.value at c.object-item.is in
    let next : take (i + 1) objects ≡ take i objects ++ o ∷ [] = one_more objects i o within item in
    let header : List ℕ =
    bytes_of_directory_header c.directory_size-size.result (vec_len carousel.objects)
    carousel.period
    c.args.segment_size in
    let entries : List ℕ = bytes_of_entries (map entry_beside (take i objects)) in
    record {
      items = rw (
        next,
        bytes_of_entries-push (take i objects) o,
        c.append_entry.ensures.items,
        c.loop-object.invariant.items,
      ) (append_assoc header entries (bytes_of_entry (entry_beside o)));
      len = rw (next, sum_by-push (take i objects) o) (omega arith);
      room = omega arith;
      bytes = c.append_entry.ensures.bytes;
      fits = rw next
          (are_entries-push (take i objects) o c.loop-object.invariant.fits
          c.append_entry.ensures.fits);
    }

-- at the end every object's entry was added
all_done : (c : goal.After-loop-object) →
    take c.loop-object.object-index c.args.carousel.now.objects.items
    ≡ c.args.carousel.now.objects.items
all_done c =
    let objects : List Object = c.args.carousel.now.objects.items in
    let past : length objects ≤ c.loop-object.object-index =
    rw c.deref-object-items.ensures.value at c.loop-object-test.false in
    take_all c.loop-object.object-index objects past

whole : (c : goal.After-loop-object) →
    c.loop-object.out.items ≡ bytes_of_directory
    (directory_beside c.args.carousel.now c.args.segment_size)
whole c =
    let carousel : Carousel = c.args.carousel.now in
    let count : vec_len carousel.objects ≡ length carousel.objects.items =
    sym c.deref-object-items.ensures.len ∙ ap length c.deref-object-items.ensures.value in
    rw (c.loop-object.invariant.items, all_done c)
    (bytes_of_directory-beside carousel c.args.segment_size c.directory_size-size.result
    (vec_len carousel.objects) c.directory_size-size.ensures.size count)

fits : (c : goal.After-loop-object) →
    IsDirectory (directory_beside c.args.carousel.now c.args.segment_size)
fits c =
    let carousel : Carousel = c.args.carousel.now in
    let few : length carousel.objects.items ≤ 250 = omega arith in
    let longest : directory_size carousel ≤ 84013 =
    rw (← c.directory_size-size.ensures.size) c.directory_size-size.ensures.longest in
    let entries : All IsEntry (map entry_beside carousel.objects.items) =
    rw (all_done c) at c.loop-object.invariant.fits in
    IsDirectory-beside carousel c.args.segment_size longest few
    c.append_directory_header.ensures.period
    c.append_directory_header.ensures.segment_size entries

pub returns-clause-reads : goal.returns-clause-reads
returns-clause-reads c =
    λ bodies beside.
    let d : DirectoryFields = directory_beside c.args.carousel.now c.args.segment_size in
    ap read_directory (whole c) ∙ read_directory-bytes_of_directory d (fits c)
    ∙ ap Some (sym (directory_of-carousel_of c.args.carousel.now bodies c.args.segment_size beside))

pub returns-clause-written : goal.returns-clause-written
returns-clause-written c =
    λ bodies beside.
    whole c
    ∙ ap bytes_of_directory
    (sym (directory_of-carousel_of c.args.carousel.now bodies c.args.segment_size beside))

pub returns-clause-fits : goal.returns-clause-fits
returns-clause-fits c =
    λ bodies beside.
    rw (directory_of-carousel_of c.args.carousel.now bodies c.args.segment_size beside) (fits c)

pub returns-clause-bytes : goal.returns-clause-bytes
returns-clause-bytes c = c.loop-object.invariant.bytes

pub returns-clause-reads_back : goal.returns-clause-reads_back
returns-clause-reads_back c = read_directory-bytes_of_directory

pub returns-clause-carousels : goal.returns-clause-carousels
returns-clause-carousels c = read_directory-directory_of

pub returns-in_err-out-clause-described : goal.returns-in_err-out-clause-described
returns-in_err-out-clause-described c = λ o. description_in-parameters_with o.name o.mime o.version

pub returns-clause-described : goal.returns-clause-described
returns-clause-described c = λ o. description_in-parameters_with o.name o.mime o.version
