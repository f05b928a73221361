-- What calls that only read leave, and what they read.
use Rattle.std.proofs.Common.{◌≡◌, false, true, inl, ⊎_elim, ℕ, zero, suc, ◌<◌, ◌≤◌, List, [], ◌∷◌}
use Rattle.std.proofs.Common.{Ok, length, map, get_or, refl, sym, ap, ◌∙◌, subst, arith}
use Rattle.std.proofs.Math.Nat.{eq-or-lt_of_le}
use Rattle.std.proofs.lemmas.List.{ext_get_or, get_or-map}
use Rattle.disk_model.specs.Disk.{State, IsHonestDisk, IsUnchanged, Rises}
use Rattle.mot_journal.specs.Image.{Standing, records_of, stands_for}
use Rattle.mot_journal.specs.Journal.{with_records}
use Rattle.mot_numbers.specs.declared.geometry.Geometry.{Geometry}
use Rattle.mot_objects.specs.Carousel as whole
use Rattle.mot_objects.specs.Stands.{AreBodiesOf}
use Rattle.mot_repository.specs.OnDisk.{ArePaired, extent_at, body_on}
use Rattle.mot_repository.specs.Repository.{RepositoryView, Agrees, HasStanding, Holds, object_body}
use Rattle.mot_repository.proofs.Laws.{body_held}
use Rattle.mot_playout.specs.Inner.{bodies_on}
use Rattle.mot_playout.specs.Runs.{bodies_of}
use Rattle.mot_playout.proofs.Extents.{bodies_on-lengths, body_at-filled, filled_up-whole}
use Rattle.mot_playout.proofs.Turns.{bodies_kept}

-- there is a body on the disk for each object
pub are_bodies_on : (view : RepositoryView) (image : List ℕ) → ArePaired view.carousel view.extents
    → AreBodiesOf view.carousel (bodies_on view.journal.geometry view.extents image)
are_bodies_on view image paired =
    bodies_on-lengths view.journal.geometry view.extents image ∙ paired

object_body-bodies : (objects : List whole.Object) (place : ℕ)
    → object_body objects place ≡ get_or (map (λ (o : whole.Object). o.body) objects) place []
object_body-bodies [] place = refl
object_body-bodies (o ∷ objects) zero = refl
object_body-bodies (o ∷ objects) (suc place) = object_body-bodies objects place

length-same : {A B : Type 0} (f : A → ℕ) (h : B → ℕ) (xs : List A) (ys : List B)
    → map f xs ≡ map h ys → length xs ≡ length ys
length-same f h [] [] e = refl
length-same f h [] (y ∷ ys) e = cc
length-same f h (x ∷ xs) [] e = cc
length-same f h (x ∷ xs) (y ∷ ys) e =
    let rest : map f xs ≡ map h ys = cc in
    ap suc (length-same f h xs ys rest)

-- the bodies on the disk are those of the carousel that it stands for
pub bodies_held : (view : RepositoryView) (s : Standing) (state : State) → IsHonestDisk state
    → HasStanding view s state
    → ArePaired view.carousel view.extents
    → bodies_on view.journal.geometry view.extents state.bytes ≡ bodies_of s.carousel
bodies_held view s state sound has paired =
    let g : Geometry = view.journal.geometry in
    let image : List ℕ = state.bytes in
    let extents : List (ℕ × ℕ) = view.extents in
    let on : List (List ℕ) = bodies_on g extents image in
    let bodies : List (List ℕ) = bodies_of s.carousel in
    let kept = bodies_kept view s has.agrees in
    let sizes : map length bodies ≡ map (λ (e : ℕ × ℕ). e.1) extents = kept.0 ∙ sym paired in
    let many : length bodies ≡ length extents =
    length-same length (λ (e : ℕ × ℕ). e.1) bodies extents sizes in
    let count : length on ≡ length extents =
    length-same length (λ (e : ℕ × ℕ). e.1) on extents (bodies_on-lengths g extents image) in
    ext_get_or [] on bodies (count ∙ sym many) (λ i lt.
    let below : i < length extents = omega (arith, lt, count) in
    let within : i < length bodies = omega (arith, below, many) in
    let held : get_or bodies i [] ≡ body_on g extents i image =
    sym (object_body-bodies s.carousel.objects i)
    ∙ body_held view s state sound has i below in
    let size : length (get_or bodies i []) ≡ (extent_at extents i).1 =
    sym (get_or-map length bodies i [] 0 within) ∙ ap (λ (l : List ℕ). get_or l i 0) sizes
    ∙ get_or-map (λ (e : ℕ × ℕ). e.1) extents i (0, 0) 0 below in
    body_at-filled g extents i image below
    ∙ filled_up-whole (extent_at extents i).1 (body_on g extents i image)
    (sym (ap length held) ∙ size)
    ∙ sym held)

-- the length of a body is that of its extent
pub body_length : (view : RepositoryView) (s : Standing) → Agrees view s
    → ArePaired view.carousel view.extents
    → (i : ℕ) → i < length view.extents
    → length (object_body s.carousel.objects i) ≡ (extent_at view.extents i).1
body_length view s agrees paired i below =
    let extents : List (ℕ × ℕ) = view.extents in
    let bodies : List (List ℕ) = bodies_of s.carousel in
    let kept = bodies_kept view s agrees in
    let sizes : map length bodies ≡ map (λ (e : ℕ × ℕ). e.1) extents = kept.0 ∙ sym paired in
    let many : length bodies ≡ length extents =
    length-same length (λ (e : ℕ × ℕ). e.1) bodies extents sizes in
    let within : i < length bodies = omega (arith, below, many) in
    ap length (object_body-bodies s.carousel.objects i)
    ∙ sym (get_or-map length bodies i [] 0 within) ∙ ap (λ (l : List ℕ). get_or l i 0) sizes
    ∙ get_or-map (λ (e : ℕ × ℕ). e.1) extents i (0, 0) 0 below

-- two calls, one after the other

-- a count that rises in the later part of a time rises in the whole of it
pub rises_on : (start mid now : ℕ) → start ≤ mid → mid ≤ now → Rises mid now → Rises start now
rises_on start mid now le later rises =
    ⊎_elim (λ e. subst (λ n. Rises n now) (sym e) rises) (λ lt. inl (omega (arith, lt, later)))
    (eq-or-lt_of_le le)

-- a call in which the disk has not failed
pub no_failure : (old new : ℕ) → old ≤ new → (Rises old new → false ≡ true) → new ≡ old
no_failure old new later none =
    ⊎_elim sym (λ lt. absurd (let e : false ≡ true = none (inl lt) in cc)) (eq-or-lt_of_le later)

-- a call that changes nothing on the disk nor in memory
pub holds_still : (view view' : RepositoryView) (s : Standing) (old new : State) → Holds view s old
    → new.IsHonest
    → IsUnchanged old new → view' ≡ view → Holds view' s new
holds_still view view' s old new holds honest still same =
    subst (λ v. Holds v s new) (sym same) (record {
      going = holds.going;
      agrees = holds.agrees;
      records = holds.records;
      journal = record {
        going = holds.journal.going;
        count = holds.journal.count;
        honest = honest;
        each = λ c left. holds.journal.each c ((still.images c).0 left);
      };
      each = λ c left. holds.each c ((still.images c).0 left);
    })

-- nor what is read of the disk
pub standing_still : (view view' : RepositoryView) (s : Standing) (old new : State)
    → HasStanding view s old → IsUnchanged old new → view' ≡ view → HasStanding view' s new
standing_still view view' s old new has still same =
    subst (λ v. HasStanding v s new) (sym same) (record {
      agrees = has.agrees;
      records = has.records;
      read = subst (λ b. records_of b ≡ Ok (with_records view.journal has.records))
          (sym still.bytes) has.read;
      stands = subst (λ b. stands_for b ≡ Ok s) (sym still.bytes) has.stands;
    })
