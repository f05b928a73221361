use Rattle.std.proofs.Common.{take, sym, ◌∙◌, arith}
use Rattle.std.specs.Prelude.{bytes_eq}
use Rattle.std.proofs.lemmas.Bool.{not-false, not-true}
use Rattle.mot_journal.specs.Geometry.{magic}
use Rattle.mot_journal.proofs.Heads.{AreRead, foreign_told, range_told, cut_told, read_told}
use Rattle.mot_journal.proofs.loading.geometry_of_head.Goals as goal
use Rattle.mot_journal.proofs.loading.geometry_of_head.Goals.{After-number-5}
use Rattle.mot_numbers.specs.declared.geometry.Geometry.{Geometry}

-- the numbers of the head
abbrev geometry : After-number-5 → Geometry
geometry c = record {
  objects = c.number.result;
  segment = c.number-2.result;
  address = c.number-3.result;
  packet = c.number-4.result;
  area = c.number-5.result;
}

are_read : (c : After-number-5) → AreRead c.args.head.now (geometry c)
are_read c = record {
  whole = c.requires;
  objects = c.number.ensures.value;
  segment = c.number-2.ensures.value;
  address = c.number-3.ensures.value;
  packet = c.number-4.ensures.value;
  area = c.number-5.ensures.value;
}

pub returns-then-ne-clause-fault : goal.returns-then-ne-clause-fault
returns-then-ne-clause-fault c = λ rest long.
    let head = c.args.head.now in
    let at = (goal.at.returns-then-ne-clause-fault c).After-number-5 in
    let g = geometry at in
    let read = are_read at in
    let other = not-true (bytes_eq (take 8 head) magic) (sym c.ne.ensures ∙ c.if-ne.true) in
    foreign_told head rest g c.args.len read long other

pub returns-then-not-is_valid-clause-fault : goal.returns-then-not-is_valid-clause-fault
returns-then-not-is_valid-clause-fault c = λ rest long.
    let head = c.args.head.now in
    let at = (goal.at.returns-then-not-is_valid-clause-fault c).After-number-5 in
    let g = geometry at in
    let read = are_read at in
    let same = not-false (bytes_eq (take 8 head) magic) (sym c.ne.ensures ∙ c.if-ne.false) in
    range_told head rest g c.args.len read long c.out_of_range.result same
    (sym c.is_valid.ensures ∙ c.if-not-is_valid.true) c.out_of_range.ensures

pub returns-then-asked-len-clause-fault : goal.returns-then-asked-len-clause-fault
returns-then-asked-len-clause-fault c = λ rest long.
    let head = c.args.head.now in
    let at = (goal.at.returns-then-asked-len-clause-fault c).After-number-5 in
    let g = geometry at in
    let read = are_read at in
    let same = not-false (bytes_eq (take 8 head) magic) (sym c.ne.ensures ∙ c.if-ne.false) in
    cut_told head rest g c.args.len read long c.length-asked.result same c.length-asked.ensures
    c.if-asked-len.true

pub returns-clause-read : goal.returns-clause-read
returns-clause-read c = λ rest long.
    let head = c.args.head.now in
    let at = (goal.at.returns-clause-read c).After-number-5 in
    let g = geometry at in
    let read = are_read at in
    let same = not-false (bytes_eq (take 8 head) magic) (sym c.ne.ensures ∙ c.if-ne.false) in
    read_told head rest g c.args.len read long same
    (sym c.is_valid.ensures ∙ c.if-not-is_valid.false)
    (omega (arith, c.length-asked.ensures, c.if-asked-len.false))

pub overflow_cast-geometry : goal.overflow_cast-geometry
overflow_cast-geometry c = omega arith

pub overflow_cast-geometry-2 : goal.overflow_cast-geometry-2
overflow_cast-geometry-2 c = omega arith

pub overflow_cast-geometry-3 : goal.overflow_cast-geometry-3
overflow_cast-geometry-3 c = omega arith

pub overflow_cast-geometry-4 : goal.overflow_cast-geometry-4
overflow_cast-geometry-4 c = omega arith

pub out_of_range-requires : goal.out_of_range-requires
out_of_range-requires c = sym c.is_valid.ensures ∙ c.if-not-is_valid.true
