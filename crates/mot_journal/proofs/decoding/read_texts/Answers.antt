use Rattle.std.proofs.Common.{◌≡◌, ◌<◌, subst, ◌+◌, ◌-◌, sym, ◌∙◌, ap, take, drop, length, true}
use Rattle.std.proofs.Common.{ℕ, None, arith}
use Rattle.std.proofs.lemmas.Bool.{false_from_ne_true}
use Rattle.mot_journal.specs.Slot.{longest_name}
use Rattle.mot_journal.specs.Geometry.{number_at}
use Rattle.mot_journal.specs.Inner.Reading.{name_from, mime_from}
use Rattle.mot_journal.proofs.Setting.{rest_is, no_mime_of, none_of, long_name}
use Rattle.mot_journal.proofs.Setting.{no_mime_parts, no_name}
use Rattle.mot_journal.proofs.decoding.read_texts.Goals as goal
use Rattle.mot_objects.specs.Name.{is_name}

pub returns-then-size-longest_name-clause-fault : goal.returns-then-size-longest_name-clause-fault
returns-then-size-longest_name-clause-fault c =
    let slot = c.args.slot.now in
    let longest : ℕ = longest_name c.args.layout in
    let n : ℕ = number_at 23 1 slot in
    let value : c.number-length.result ≡ n = c.number-length.ensures.value in
    let few : n < 256 = subst (λ k. k < 256) value c.number-length.ensures.fits in
    let long : longest < n = omega (
      arith,
      value,
      c.from-size.ensures,
      c.longest_name.ensures,
      c.if-size-longest_name.true,
    ) in
    let bad : is_name longest (take n (drop 24 slot)) ≡ true → ⊥ =
    long_name c.args.layout slot n c.requires.long few long in (
      none_of c.args.geometry.now c.args.layout slot (λ has. bad has.name),
      (
        c.requires.sets,
        value,
        ap (λ k. is_name longest (take k (drop 24 slot))) value
            ∙ false_from_ne_true (is_name longest (take n (drop 24 slot))) bad,
      ),
    )

pub returns-in_default-clause-fault : goal.returns-in_default-clause-fault
returns-in_default-clause-fault c =
    let slot = c.args.slot.now in
    let longest : ℕ = longest_name c.args.layout in
    let n : ℕ = number_at 23 1 slot in
    let value : c.number-length.result ≡ n = c.number-length.ensures.value in
    let from = c.from-size.ensures in
    let width : 24 + c.from-size.result - 24 ≡ n = omega (arith, value, from) in
    let none : name_from longest (take n (drop 24 slot)) ≡ None =
    sym (ap (λ k. name_from longest (take k (drop 24 slot))) width)
    ∙ sym c.in_ok-name.ensures ∙ c.in_default.is in
    let bad = no_name longest (take n (drop 24 slot)) none in (
      none_of c.args.geometry.now c.args.layout slot (λ has. bad has.name),
      (
        c.requires.sets,
        value,
        ap (λ k. is_name longest (take k (drop 24 slot))) value
            ∙ false_from_ne_true (is_name longest (take n (drop 24 slot))) bad,
      ),
    )

pub returns-in_default-2-clause-fault : goal.returns-in_default-2-clause-fault
returns-in_default-2-clause-fault c =
    let slot = c.args.slot.now in
    let n = c.from-size.result in
    let size : n ≡ number_at 23 1 slot = c.from-size.ensures ∙ c.number-length.ensures.value in
    let same : take (length slot - (24 + n)) (drop (24 + n) slot)
    ≡ drop (number_at 23 1 slot) (drop 24 slot) =
    rest_is slot 24 n ∙ ap (λ k. drop k (drop 24 slot)) size in
    let none : mime_from (drop (number_at 23 1 slot) (drop 24 slot)) ≡ None =
    sym (ap mime_from same) ∙ sym c.in_ok-mime.ensures ∙ c.in_default-2.is in (
      no_mime_of c.args.geometry.now c.args.layout slot none,
      (
        c.requires.sets,
        c.number-length-in_default-2.ensures.value ∙ ap (number_at 0 1) same,
        no_mime_parts (drop (number_at 23 1 slot) (drop 24 slot)) none,
      ),
    )

pub returns-clause-read : goal.returns-clause-read
returns-clause-read c =
    let slot = c.args.slot.now in
    let n = c.from-size.result in
    let size : n ≡ number_at 23 1 slot = c.from-size.ensures ∙ c.number-length.ensures.value in
    let same : take (length slot - (24 + n)) (drop (24 + n) slot)
    ≡ drop (number_at 23 1 slot) (drop 24 slot) =
    rest_is slot 24 n ∙ ap (λ k. drop k (drop 24 slot)) size in
    let width : 24 + n - 24 ≡ number_at 23 1 slot = omega (arith, size) in
    let name : take (24 + n - 24) (drop 24 slot) ≡ take (number_at 23 1 slot) (drop 24 slot) =
    ap (λ k. take k (drop 24 slot)) width in
    record {
      name = sym (ap (λ b. name_from (longest_name c.args.layout) b) name)
          ∙ sym c.in_ok-name.ensures ∙ c.in-Some.is;
      mime = sym (ap mime_from same) ∙ sym c.in_ok-mime.ensures ∙ c.in-Some-2.is;
    }

pub overflow_cast-length : goal.overflow_cast-length
overflow_cast-length c = omega arith

pub overflow_add-end : goal.overflow_add-end
overflow_add-end c = omega arith

pub slice_bounds-read_name-count : goal.slice_bounds-read_name-count
slice_bounds-read_name-count c = omega arith

pub slice_bounds-read_name-start : goal.slice_bounds-read_name-start
slice_bounds-read_name-start c = omega arith

pub slice_bounds-rest-end : goal.slice_bounds-rest-end
slice_bounds-rest-end c = omega arith

pub overflow_cast-length-in_default-2 : goal.overflow_cast-length-in_default-2
overflow_cast-length-in_default-2 c = omega arith
