-- The geometry of an image, from its first bytes.
use Rattle.std.proofs.Common.{◌≡◌, ℕ, ◌+◌, ◌<◌, ◌≤◌, Bool, true, false, List, [], ◌∷◌, ◌++◌, length}
use Rattle.std.proofs.Common.{take, drop, Option, Some, None, refl, sym, ◌∙◌, ap, arith}
use Rattle.std.specs.Prelude.{if◌then◌else◌, nat_le, ◌&&◌, bytes_eq}
use Rattle.std.proofs.lemmas.Bool.{leb-true, le-leb, false_from_ne_true}
use Rattle.std.proofs.lemmas.List.{length-drop, length-append, drop-append-le, take-append-le}
use Rattle.mot_journal.specs.Faults.{HasHeadFault}
use Rattle.mot_journal.specs.Geometry.{geometry_of, geometry_in, has_magic, head_numbers, magic}
use Rattle.mot_journal.specs.Geometry.{number_at}
use Rattle.mot_journal.specs.Inner.Reading.{HasRangeFault, IsNoHead}
use Rattle.mot_journal.specs.declared.reason.HeadFault.{HeadFault}
use Rattle.mot_journal.specs.declared.reason.HeadFault.TheVariants.{Short, Foreign, OutOfRange, Cut}
use Rattle.mot_journal.proofs.Decoded.{columns_from, and-false}
use Rattle.mot_numbers.specs.Reading.{number_in, ◌>>=◌}
use Rattle.mot_numbers.specs.declared.geometry.Geometry.{Geometry}
use Rattle.mot_numbers.specs.Geometry.{length_of, is_valid}

number_front : (head rest : List ℕ) (at w : ℕ) → at + w ≤ length head
    → number_at at w (head ++ rest) ≡ number_at at w head
number_front head rest at w fits =
    ap (λ l. number_in (take w l)) (drop-append-le at head rest (omega (arith, fits)))
    ∙ ap number_in (take-append-le w (drop at head) rest (omega (arith, fits, length-drop at head)))

-- a geometry, if a test holds
abbrev pub geometry_if : Geometry → Bool → Option Geometry
geometry_if g b = if b then Some g else None

-- the geometry of these five numbers
abbrev pub of : ℕ → ℕ → ℕ → ℕ → ℕ → Geometry
of n segment address packet area =
    record {
      objects = n;
      segment = segment;
      address = address;
      packet = packet;
      area = area;
    }

-- the geometry made of a geometry's own numbers is that geometry
pub same-geometry : (g : Geometry) (n segment address packet area : ℕ) → g.objects ≡ n
    → g.segment ≡ segment → g.address ≡ address → g.packet ≡ packet → g.area ≡ area
    → of n segment address packet area ≡ g
same-geometry g n segment address packet area e1 e2 e3 e4 e5 =
    ap (λ x. of x segment address packet area) (sym e1)
    ∙ ap (λ x. of g.objects x address packet area) (sym e2)
    ∙ ap (λ x. of g.objects g.segment x packet area) (sym e3)
    ∙ ap (λ x. of g.objects g.segment g.address x area) (sym e4)
    ∙ ap (λ x. of g.objects g.segment g.address g.packet x) (sym e5)

-- an image's geometry is that of the numbers at their places, if three tests hold
pub geometry_by_places : (image : List ℕ) → geometry_of image
    ≡ geometry_if (of (number_at 16 2 image) (number_at 18 2 image) (number_at 20 2 image)
    (number_at 22 2 image) (number_at 24 4 image))
    (has_magic image && is_valid
    (of (number_at 16 2 image) (number_at 18 2 image) (number_at 20 2 image)
    (number_at 22 2 image) (number_at 24 4 image))
    && nat_le (length_of (of (number_at 16 2 image) (number_at 18 2 image) (number_at 20 2 image)
    (number_at 22 2 image) (number_at 24 4 image))) (length image))
unfolding geometry_of
geometry_by_places image =
    ap (λ cs. geometry_in cs
    >>= (λ g. geometry_if g (has_magic image && is_valid g
    && nat_le (length_of g) (length image))))
    (columns_from (8 ∷ 1 ∷ 7 ∷ 2 ∷ 2 ∷ 2 ∷ 2 ∷ 4 ∷ []) 0 image)

-- a disk of less than 64 bytes has none
pub short_has_none : (image : List ℕ) → length image < 64 → geometry_of image ≡ None
short_has_none image short =
    let g : Geometry = of (number_at 16 2 image) (number_at 18 2 image) (number_at 20 2 image)
    (number_at 22 2 image) (number_at 24 4 image) in
    let small : nat_le (length_of g) (length image) ≡ false =
    false_from_ne_true (nat_le (length_of g) (length image))
    (λ e. absurd (omega (arith, short, leb-true (length_of g) (length image) e))) in
    geometry_by_places image ∙ ap (λ b. geometry_if g b)
    (and-false (has_magic image && is_valid g) (nat_le (length_of g) (length image)) small)

-- three tests that hold leave the geometry
pub all_three : (g : Geometry) (a b c : Bool) → a ≡ true → b ≡ true → c ≡ true
    → geometry_if g (a && b && c) ≡ Some g
all_three g a b c ea eb ec =
    ap (λ x. geometry_if g (x && b && c)) ea ∙ ap (λ x. geometry_if g (x && c)) eb
    ∙ ap (λ x. geometry_if g x) ec

-- a failed first test leaves no geometry
pub first_false : (g : Geometry) (a b c : Bool) → a ≡ false → geometry_if g (a && b && c) ≡ None
first_false g a b c e = ap (λ x. geometry_if g (x && b && c)) e

-- a failed second test leaves no geometry
pub second_false : (g : Geometry) (a b c : Bool) → b ≡ false → geometry_if g (a && b && c) ≡ None
second_false g true b c e = ap (λ x. geometry_if g (x && c)) e
second_false g false b c e = refl

-- a failed third test leaves no geometry
pub third_false : (g : Geometry) (a b c : Bool) → c ≡ false → geometry_if g (a && b && c) ≡ None
third_false g a b c e = ap (λ x. geometry_if g x) (and-false (a && b) c e)

-- a number of the head that is out of its range is a fault of the head
pub range_of_head : (image : List ℕ) (g : Geometry) (fault : HeadFault) → has_magic image ≡ true
    → head_numbers image ≡ Some g → HasRangeFault g fault → HasHeadFault image fault
range_of_head image g (OutOfRange size number) m e is = (m, (g, e, is.0, is.1))
range_of_head image g (Short len) m e is = absurd is
range_of_head image g Foreign m e is = absurd is
range_of_head image g (Cut len asked) m e is = absurd is

-- the numbers that were read of a head of 64 bytes
pub record AreRead (head : List ℕ) (g : Geometry) : Type 0 where
  pub whole : length head ≡ 64
  pub objects : g.objects ≡ number_at 16 2 head
  pub segment : g.segment ≡ number_at 18 2 head
  pub address : g.address ≡ number_at 20 2 head
  pub packet : g.packet ≡ number_at 22 2 head
  pub area : g.area ≡ number_at 24 4 head

module _ (head rest : List ℕ) (g : Geometry) (len : ℕ) (read : AreRead head g)
    (long : 64 + length rest ≡ len) where
  -- the numbers of 64 bytes and what follows are those that were read of the 64
  numbers_from : head_numbers (head ++ rest) ≡ Some g
  numbers_from =
      let image : List ℕ = head ++ rest in
      let w = read.whole in
      let n1 = number_front head rest 16 2 (omega (arith, w)) in
      let n2 = number_front head rest 18 2 (omega (arith, w)) in
      let n3 = number_front head rest 20 2 (omega (arith, w)) in
      let n4 = number_front head rest 22 2 (omega (arith, w)) in
      let n5 = number_front head rest 24 4 (omega (arith, w)) in
      ap geometry_in (columns_from (8 ∷ 1 ∷ 7 ∷ 2 ∷ 2 ∷ 2 ∷ 2 ∷ 4 ∷ []) 0 image)
      ∙ ap (λ x. geometry_if x true)
      (same-geometry g (number_at 16 2 image) (number_at 18 2 image) (number_at 20 2 image)
      (number_at 22 2 image) (number_at 24 4 image)
      (read.objects ∙ sym n1) (read.segment ∙ sym n2) (read.address ∙ sym n3)
      (read.packet ∙ sym n4) (read.area ∙ sym n5))

  -- 64 bytes and what follows are as long as the disk
  whole_length : len ≡ length (head ++ rest)
  whole_length = sym (length-append head rest ∙ ap (λ k. k + length rest) read.whole ∙ long)

  -- the magic stands in the 64 bytes
  magic_from : has_magic (head ++ rest) ≡ bytes_eq (take 8 head) magic
  magic_from =
      let w = read.whole in
      ap (λ l. bytes_eq l magic) (take-append-le 8 head rest (omega (arith, w)))

  -- the geometry of 64 bytes and what follows, by the numbers that were read of the 64
  geometry_from : geometry_of (head ++ rest)
      ≡ geometry_if g (bytes_eq (take 8 head) magic && is_valid g && nat_le (length_of g) len)
  unfolding geometry_of
  geometry_from =
      ap (λ o. ◌>>=◌ o (λ x. geometry_if x (has_magic (head ++ rest) && is_valid x
      && nat_le (length_of x) (length (head ++ rest))))) numbers_from
      ∙ ap (λ b. geometry_if g (b && is_valid g && nat_le (length_of g) (length (head ++ rest))))
      magic_from
      ∙ ap (λ k. geometry_if g (bytes_eq (take 8 head) magic && is_valid g
      && nat_le (length_of g) k)) (sym whole_length)

  -- no magic
  pub foreign_told : bytes_eq (take 8 head) magic ≡ false → IsNoHead (head ++ rest) Foreign
  foreign_told other = (
    geometry_from
        ∙ first_false g (bytes_eq (take 8 head) magic) (is_valid g) (nat_le (length_of g) len) other,
    magic_from ∙ other,
  )

  -- the magic, and a number that is out of its range
  pub range_told : (fault : HeadFault) → bytes_eq (take 8 head) magic ≡ true → is_valid g ≡ false
      → HasRangeFault g fault → IsNoHead (head ++ rest) fault
  range_told fault same bad is = (
    geometry_from
        ∙ second_false g (bytes_eq (take 8 head) magic) (is_valid g) (nat_le (length_of g) len) bad,
    range_of_head (head ++ rest) g fault (magic_from ∙ same) numbers_from is,
  )

  -- the magic, and a disk that is shorter than its numbers ask
  pub cut_told : (asked : ℕ) → bytes_eq (take 8 head) magic ≡ true → asked ≡ length_of g
      → len < asked → IsNoHead (head ++ rest) (Cut len asked)
  cut_told asked same is short =
      let small : nat_le (length_of g) len ≡ false = false_from_ne_true (nat_le (length_of g) len)
      (λ e. absurd (omega (arith, leb-true (length_of g) len e, is, short))) in (
        geometry_from
            ∙ third_false g (bytes_eq (take 8 head) magic) (is_valid g) (nat_le (length_of g) len)
            small,
        (magic_from ∙ same, (g, numbers_from, whole_length, is, short)),
      )

  -- the magic, numbers in their ranges, and a disk that is long enough
  pub read_told : bytes_eq (take 8 head) magic ≡ true → is_valid g ≡ true → length_of g ≤ len
      → Some g ≡ geometry_of (head ++ rest)
  read_told same good fits =
      sym (geometry_from ∙ all_three g (bytes_eq (take 8 head) magic) (is_valid g)
      (nat_le (length_of g) len) same good (le-leb (length_of g) len fits))

-- each image has one geometry that it is of, if three tests hold
pub has_geometry_if : (image : List ℕ)
    → (g : Geometry) × (geometry_of image
    ≡ geometry_if g (has_magic image && is_valid g && nat_le (length_of g) (length image)))
has_geometry_if image = (
  of (number_at 16 2 image) (number_at 18 2 image) (number_at 20 2 image)
      (number_at 22 2 image) (number_at 24 4 image),
  geometry_by_places image,
)
