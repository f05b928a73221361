-- What is written as parameters, as a header or as a directory reads as it.
use Rattle.std.proofs.Common.{◌≡◌, ℕ, zero, suc, ◌+◌, ◌-◌, ◌*◌, ◌/◌, ◌%◌, ◌^◌, ◌<◌, ◌≤◌, List, []}
use Rattle.std.proofs.Common.{◌∷◌, ◌++◌, refl, sym, length, drop, take, All, Some, arith, ap, ◌∙◌}
use Rattle.std.proofs.Common.{length-append, eq-eqb}
use Rattle.std.proofs.Math.Seq.{take-append_seam, drop-append_seam}
use Rattle.std.proofs.lemmas.Bool.{lt-ltb, le-leb, le-ltb}
use Rattle.std.proofs.lemmas.List.Elements.{All-head, All-tail}
use Rattle.std.specs.Int.{w16, to_be_bytes}
use Rattle.mot_numbers.proofs.Laws.{cons_eq}
use Rattle.mot_directory.specs.Parameter.{Parameter, NoData, OneByte, FourBytes, Short, Long}
use Rattle.mot_directory.specs.Parameter.{IsParameter, bytes_of_parameter, read_parameter}
use Rattle.mot_directory.specs.Parameter.{parameter_with, parameters_within, read_parameters}
use Rattle.mot_directory.specs.Header.{HeaderFields, IsHeader, bytes_of_header, bytes_of_core}
use Rattle.mot_directory.specs.Header.{core_of, bytes_of_extension, header_size_in, header_with}
use Rattle.mot_directory.specs.Header.{read_header}
use Rattle.mot_directory.specs.Directory.{Entry, IsEntry, DirectoryFields, IsDirectory}
use Rattle.mot_directory.specs.Directory.{bytes_of_entry, bytes_of_entries, entries_in}
use Rattle.mot_directory.specs.Directory.{bytes_of_directory_header, directory_header_of}
use Rattle.mot_directory.specs.Directory.{directory_with, bytes_of_directory, read_directory}
use Rattle.mot_numbers.specs.Reading.{number_in}
use Rattle.mot_objects.specs.Name.{ContentNumbers}

-- data that is cut off at its length
parameter_with-append : (make : List ℕ → Parameter) (n : ℕ) (text rest : List ℕ) → n ≡ length text →
    parameter_with make n (text ++ rest) ≡ Some (make text, rest)
parameter_with-append make n text rest e =
    let fits : length text ≤ length (text ++ rest) = omega (arith, length-append text rest) in
    rw (
      e,
      le-leb (length text) (length (text ++ rest)) fits,
      take-append_seam text rest,
      drop-append_seam text rest,
    ) refl

read_parameter-append : (p : Parameter) (rest : List ℕ) → IsParameter p →
    read_parameter (bytes_of_parameter p ++ rest) ≡ Some (p, rest)
read_parameter-append (NoData id) rest h =
    let low : id % 64 ≡ id = omega arith in
    let high : id / 64 ≡ 0 = omega arith in
    rw (high, low) refl
read_parameter-append (OneByte id b) rest h =
    let low : (64 + id) % 64 ≡ id = omega arith in
    let high : (64 + id) / 64 ≡ 1 = omega arith in
    rw (high, low) refl
read_parameter-append (FourBytes id four) rest h =
    let low : (128 + id) % 64 ≡ id = omega arith in
    let high : (128 + id) / 64 ≡ 2 = omega arith in
    rw (high, low) (parameter_with-append (FourBytes id) 4 four rest (sym h.1))
read_parameter-append (Short id text) rest h =
    let low : (192 + id) % 64 ≡ id = omega arith in
    let high : (192 + id) / 64 ≡ 3 = omega arith in
    rw (high, low, lt-ltb (length text) 128 (omega arith))
    (parameter_with-append (Short id) (length text) text rest refl)
read_parameter-append (Long id text) rest h =
    let low : (192 + id) % 64 ≡ id = omega arith in
    let high : (192 + id) / 64 ≡ 3 = omega arith in
    let n : ℕ = 2 ^ 15 + length text in
    rw (high, low, le-ltb (n / 256 % 256) 128 (omega arith))
    (parameter_with-append (Long id) (256 * (n / 256 % 256 - 128) + n % 256) text rest
    (omega arith))

parameters_within-next : (n : ℕ) (p : Parameter) (ps : List Parameter) (rest : List ℕ)
    → IsParameter p →
    parameters_within n rest ≡ Some ps →
    parameters_within (suc n) (bytes_of_parameter p ++ rest) ≡ Some (p ∷ ps)
parameters_within-next n (NoData id) ps rest h e =
    rw (read_parameter-append (NoData id) rest h, e) refl
parameters_within-next n (OneByte id b) ps rest h e =
    rw (read_parameter-append (OneByte id b) rest h, e) refl
parameters_within-next n (FourBytes id four) ps rest h e =
    rw (read_parameter-append (FourBytes id four) rest h, e) refl
parameters_within-next n (Short id text) ps rest h e =
    rw (read_parameter-append (Short id text) rest h, e) refl
parameters_within-next n (Long id text) ps rest h e =
    rw (read_parameter-append (Long id text) rest h, e) refl

some_byte : (p : Parameter) → 0 < length (bytes_of_parameter p)
some_byte (NoData id) = omega arith
some_byte (OneByte id b) = omega arith
some_byte (FourBytes id four) = omega arith
some_byte (Short id text) = omega arith
some_byte (Long id text) = omega arith

parameters_within-bytes_of_extension : (n : ℕ) (ps : List Parameter) → All IsParameter ps →
    length (bytes_of_extension ps) ≤ n → parameters_within n (bytes_of_extension ps) ≡ Some ps
parameters_within-bytes_of_extension n [] all l = refl
parameters_within-bytes_of_extension zero (p ∷ ps) all l =
    absurd (omega (
      arith,
      some_byte p,
      length-append (bytes_of_parameter p) (bytes_of_extension ps),
    ))
parameters_within-bytes_of_extension (suc n) (p ∷ ps) all l =
    let fits : length (bytes_of_extension ps) ≤ n =
    omega (arith, some_byte p, length-append (bytes_of_parameter p) (bytes_of_extension ps)) in
    parameters_within-next n p ps (bytes_of_extension ps) (All-head IsParameter p ps all)
    (parameters_within-bytes_of_extension n ps (All-tail IsParameter p ps all) fits)

read_parameters-bytes_of_extension : (ps : List Parameter) → All IsParameter ps →
    read_parameters (bytes_of_extension ps) ≡ Some ps
unfolding read_parameters
read_parameters-bytes_of_extension ps all =
    parameters_within-bytes_of_extension (length (bytes_of_extension ps)) ps all (omega arith)

-- the core's fields, whatever follows
core_of-bytes_of_core : (body size : ℕ) (content : ContentNumbers) (rest : List ℕ) → body < 2 ^ 28 →
    size < 2 ^ 13 → content.content_type < 2 ^ 6 → content.subtype < 2 ^ 9 →
    core_of (bytes_of_core body size content ++ rest)
    ≡ body ∷ size ∷ content.content_type ∷ content.subtype ∷ []
core_of-bytes_of_core body size content rest p q r s =
    cons_eq (omega arith) (cons_eq (omega arith)
    (cons_eq (omega arith) (cons_eq (omega arith) refl)))

header_with-written : (bytes : List ℕ) (body size : ℕ) (content : ContentNumbers)
    (ps : List Parameter) →
    read_parameters (drop 7 bytes) ≡ Some ps → size ≡ length bytes → 7 ≤ size →
    header_with bytes (body ∷ size ∷ content.content_type ∷ content.subtype ∷ [])
    ≡ Some (record { body_size = body; content = content; parameters = ps })
header_with-written bytes body size content ps e l m =
    rw (e, eq-eqb size (length bytes) l, le-leb 7 size m) refl

-- what is written as a header reads as it
pub read_header-bytes_of_header : (h : HeaderFields) → IsHeader h
    → read_header (bytes_of_header h) ≡ Some h
unfolding read_header bytes_of_header
read_header-bytes_of_header h is =
    let extension : List ℕ = bytes_of_extension h.parameters in
    let size : ℕ = 7 + length extension in
    let core : List ℕ = bytes_of_core h.body_size size h.content in
    ap (header_with (core ++ extension))
    (core_of-bytes_of_core h.body_size size h.content extension is.body_size is.header_size
    is.content_type
    is.subtype)
    ∙ header_with-written (core ++ extension) h.body_size size h.content h.parameters
    (read_parameters-bytes_of_extension h.parameters is.parameters) (omega arith) (omega arith)

-- HeaderSize is the length of the header, whatever follows it
header_size_in-append : (h : HeaderFields) (rest : List ℕ) → IsHeader h →
    header_size_in (bytes_of_header h ++ rest) ≡ length (bytes_of_header h)
unfolding bytes_of_header
header_size_in-append h rest is = omega arith

-- a header is cut off by its HeaderSize, whatever follows it
pub take-header_size_in : (h : HeaderFields) (rest : List ℕ) → IsHeader h →
    take (header_size_in (bytes_of_header h ++ rest)) (bytes_of_header h ++ rest)
    ≡ bytes_of_header h
take-header_size_in h rest is =
    rw (header_size_in-append h rest is) (take-append_seam (bytes_of_header h) rest)

drop-header_size_in : (h : HeaderFields) (rest : List ℕ) → IsHeader h →
    drop (header_size_in (bytes_of_header h ++ rest)) (bytes_of_header h ++ rest) ≡ rest
drop-header_size_in h rest is =
    rw (header_size_in-append h rest is) (drop-append_seam (bytes_of_header h) rest)

two_bytes : (n : ℕ) → n < 2 ^ 16 → number_in (to_be_bytes w16 n) ≡ n
two_bytes n h = omega arith

entry_again : (e : Entry) (others : List Entry) (tid : ℕ) → tid ≡ e.tid →
    record { tid = tid; header = e.header } ∷ others ≡ e ∷ others
entry_again e others tid eq = rw eq refl

-- the entry at the front, cut off by its HeaderSize
entries_in-next : (n : ℕ) (e : Entry) (es : List Entry) (rest : List ℕ) → IsEntry e →
    entries_in n rest ≡ Some es → entries_in (suc n) (bytes_of_entry e ++ rest) ≡ Some (e ∷ es)
entries_in-next n e es rest is others =
    let regrouped : drop 2 (bytes_of_entry e ++ rest) ≡ bytes_of_header e.header ++ rest = refl in
    rw (
      take-header_size_in e.header rest is.header,
      drop-header_size_in e.header rest is.header,
      read_header-bytes_of_header e.header is.header,
      others,
    ) (ap Some (entry_again e es _ (two_bytes e.tid is.tid)))

entries_in-bytes_of_entries : (es : List Entry) → All IsEntry es →
    entries_in (length es) (bytes_of_entries es) ≡ Some es
entries_in-bytes_of_entries [] all = refl
entries_in-bytes_of_entries (e ∷ es) all =
    entries_in-next (length es) e es (bytes_of_entries es) (All-head IsEntry e es all)
    (entries_in-bytes_of_entries es (All-tail IsEntry e es all))

directory_header_of-bytes_of_directory_header : (size count period segment : ℕ) (rest : List ℕ)
    → size < 2 ^ 30 →
    count < 2 ^ 16 → period < 2 ^ 24 → segment < 2 ^ 13 →
    directory_header_of (bytes_of_directory_header size count period segment ++ rest)
    ≡ 0 ∷ 0 ∷ size ∷ count ∷ period ∷ 0 ∷ 0 ∷ segment ∷ 0 ∷ []
directory_header_of-bytes_of_directory_header size count period segment rest p q r s =
    cons_eq (omega arith) (cons_eq (omega arith) (cons_eq (omega arith) (cons_eq (omega arith)
    (cons_eq (omega arith) (cons_eq (omega arith) (cons_eq (omega arith) (cons_eq (omega arith)
    (cons_eq (omega arith) refl))))))))

directory_with-written : (bytes : List ℕ) (size count period segment : ℕ) (entries : List Entry) →
    entries_in count (drop 13 bytes) ≡ Some entries → size ≡ length bytes → 13 ≤ size →
    directory_with bytes (0 ∷ 0 ∷ size ∷ count ∷ period ∷ 0 ∷ 0 ∷ segment ∷ 0 ∷ [])
    ≡ Some (record { period = period; segment_size = segment; entries = entries })
directory_with-written bytes size count period segment entries e l m =
    rw (e, eq-eqb size (length bytes) l, le-leb 13 size m) refl

-- what is written as a directory reads as it
pub read_directory-bytes_of_directory : (d : DirectoryFields) → IsDirectory d →
    read_directory (bytes_of_directory d) ≡ Some d
unfolding read_directory bytes_of_directory
read_directory-bytes_of_directory d is =
    let entries : List ℕ = bytes_of_entries d.entries in
    let size : ℕ = 13 + length entries in
    let header : List ℕ = bytes_of_directory_header size (length d.entries) d.period
    d.segment_size in
    ap (directory_with (header ++ entries))
    (directory_header_of-bytes_of_directory_header size (length d.entries) d.period d.segment_size
    entries
    is.directory_size is.count is.period is.segment_size)
    ∙ directory_with-written (header ++ entries) size (length d.entries) d.period d.segment_size
    d.entries
    (entries_in-bytes_of_entries d.entries is.entries) (omega arith) (omega arith)
