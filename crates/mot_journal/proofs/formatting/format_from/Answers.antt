-- What is refused, what it costs and what stays, told for each way out.
use Rattle.std.proofs.Common.{ℕ, ◌+◌, ◌*◌, ◌⊎◌, ◌≡◌, ◌<◌, ◌≤◌, ◌↔◌, inl, inr, Ok, Err, refl, arith}
use Rattle.std.proofs.Common.{sym, ◌∙◌, subst, List, Bool, true, false}
use Rattle.std.specs.Prelude.{Result}
use Rattle.disk_model.specs.Disk.{State, IsHonestDisk, IsStill, Throughout, Rises}
use Rattle.disk_model.proofs.Laws.{unchanged_none, keeps_none, keeps_on, begins, stays, joins}
use Rattle.mot_journal.specs.Geometry.{has_magic}
use Rattle.mot_journal.specs.Journal.{HasAreaOf, NoneOrFrom}
use Rattle.mot_journal.specs.Making.{IsFormatRefusal}
use Rattle.mot_journal.proofs.Calls.{calm}
use Rattle.mot_journal.proofs.Decoded.{wrong-ok}
use Rattle.mot_journal.proofs.formatting.format_from.Given as given
use Rattle.mot_journal.proofs.formatting.format_from.Goals as goal
use Rattle.mot_journal.proofs.formatting.format_from.Goals.{Then-not-is_valid, Else-not-is_valid}
use Rattle.mot_numbers.specs.declared.geometry.Geometry.{Geometry}
use Rattle.mot_numbers.specs.declared.refusal.Refusal.{Refusal}
use Rattle.mot_numbers.specs.declared.refusal.Refusal.TheVariants.{DeviceFault, BadGeometry}
use Rattle.mot_numbers.specs.declared.refusal.Refusal.TheVariants.{DiskTooSmall, AlreadyFormatted}
use Rattle.mot_numbers.specs.Geometry.{IsValid}

abbrev Told : Type 0
Told = Result (Unit {0}) Refusal

-- a result of another kind, and a cause that is not there
neither : (r : Told) (x : Refusal) (P : Type 0) → (r ≡ Err x → ⊥) → (P → ⊥) → r ≡ Err x ↔ P
neither r x P other none = (λ e. absurd (other e), λ p. absurd (none p))

-- no result is another one
bad-small : (let r : Told = Err BadGeometry in r) ≡ Err DiskTooSmall → ⊥
bad-small e = cc

small-bad : (let r : Told = Err DiskTooSmall in r) ≡ Err BadGeometry → ⊥
small-bad e = cc

fault-bad : (let r : Told = Err DeviceFault in r) ≡ Err BadGeometry → ⊥
fault-bad e = cc

fault-small : (let r : Told = Err DeviceFault in r) ≡ Err DiskTooSmall → ⊥
fault-small e = cc

already-bad : (let r : Told = Err AlreadyFormatted in r) ≡ Err BadGeometry → ⊥
already-bad e = cc

already-small : (let r : Told = Err AlreadyFormatted in r) ≡ Err DiskTooSmall → ⊥
already-small e = cc

ok-bad : (let r : Told = Ok tt in r) ≡ Err BadGeometry → ⊥
ok-bad e = cc

ok-small : (let r : Told = Ok tt in r) ≡ Err DiskTooSmall → ⊥
ok-small e = cc

bad-already : (let r : Told = Err BadGeometry in r) ≡ Err AlreadyFormatted → ⊥
bad-already e = cc

small-already : (let r : Told = Err DiskTooSmall in r) ≡ Err AlreadyFormatted → ⊥
small-already e = cc

fault-already : (let r : Told = Err DeviceFault in r) ≡ Err AlreadyFormatted → ⊥
fault-already e = cc

ok-already : (let r : Told = Ok tt in r) ≡ Err AlreadyFormatted → ⊥
ok-already e = cc

never : (b : Bool) → b ≡ false → b ≡ true → ⊥
never b e f = cc

-- where no call is made, nothing stirs
still_none : (state : State) → IsStill state state
still_none state = record {
  bytes = refl;
  time = (unchanged_none state).time;
  images = λ c left. left;
  loose = λ k is. is;
}

-- while nothing is written, a crash leaves no magic where it left none before
module _ (geometry : Geometry) (directory : ℕ) {old : State} (sound : IsHonestDisk old)
    (none : (image : List ℕ) → old.MayLeave image → has_magic image ≡ false) where
  at_start : Throughout old old (NoneOrFrom geometry directory)
  at_start = begins old (NoneOrFrom geometry directory) sound (λ image left. inl (none image left))

  asked : {mid : State} → IsStill old mid → Throughout old mid (NoneOrFrom geometry directory)
  asked {mid} still = stays old old mid (NoneOrFrom geometry directory) at_start still.time

  -- and then the disk is made
  made : {mid new : State} → IsStill old mid
      → (((image : List ℕ) → mid.MayLeave image → has_magic image ≡ false)
      → Throughout mid new (NoneOrFrom geometry directory))
      → Throughout old new (NoneOrFrom geometry directory)
  made {mid} {new} still then =
      joins old mid new (NoneOrFrom geometry directory) (NoneOrFrom geometry directory)
      (asked still)
      (then (λ image left. none image (still.images image left))) (λ image has. has)

-- while nothing is written, the data area and what lies after it stay
module _ (geometry : Geometry) {old : State} (sound : IsHonestDisk old) where
  area_at_start : Throughout old old (HasAreaOf geometry old)
  area_at_start = begins old (HasAreaOf geometry old) sound (λ image left. (image, left, refl))

  area_asked : {mid : State} → IsStill old mid → Throughout old mid (HasAreaOf geometry old)
  area_asked {mid} still = stays old old mid (HasAreaOf geometry old) area_at_start still.time

  -- and while the disk is made
  area_made : {mid new : State} → IsStill old mid → Throughout mid new (HasAreaOf geometry mid)
      → Throughout old new (HasAreaOf geometry old)
  area_made {mid} {new} still then =
      joins old mid new (HasAreaOf geometry old) (HasAreaOf geometry mid) (area_asked still) then
      (λ image has. (has.0, still.images has.0 has.1, has.2))

-- the length that was asked for, and that of the geometry
not-below : (len' len most' most : ℕ) → len' ≡ len → most' ≡ most → most' ≤ len' → len < most → ⊥
not-below len' len most' most e f fits less = omega arith

is-below : (len' len most' most : ℕ) → len' ≡ len → most' ≡ most → len' < most' → len < most
is-below len' len most' most e f less = omega arith

-- where the geometry is valid and the disk long enough, nothing is claimed to be untouched
taken : (P Q : Type 0) (len' len most' most : ℕ) → P → len' ≡ len → most' ≡ most → most' ≤ len'
    → (P → ⊥) ⊎ (len < most) → Q
taken P Q len' len most' most is e f fits (inl not) = absurd (not is)
taken P Q len' len most' most is e f fits (inr less) = absurd (omega arith)

-- the calls of the first step, and of both
fewer : (old mid n : ℕ) → mid ≤ old + 2 → mid ≤ old + (2 * (n + 2) + 6)
fewer old mid n first = omega arith

at_most : (old mid new n : ℕ) → mid ≤ old + 2 → new ≤ mid + (2 * (n + 2) + 4)
    → new ≤ old + (2 * (n + 2) + 6)
at_most old mid new n first second = omega arith

exactly : (old mid new n : ℕ) → mid ≡ old + 2 → new ≡ mid + (2 * (n + 2) + 4)
    → new ≡ old + (2 * (n + 2) + 6)
exactly old mid new n first second = omega arith

-- what the first test found
invalid : (g : given.Over) (c : Then-not-is_valid g) → IsValid c.args.geometry.now → ⊥
invalid g c valid = wrong-ok (c.if-not-is_valid.ensures.1 valid)

valid : (g : given.Over) (c : Else-not-is_valid g) → IsValid c.args.geometry.now
valid g c = c.if-not-is_valid.ensures.0 refl

pub returns-then-not-is_valid : goal.returns-then-not-is_valid
returns-then-not-is_valid g c = record {
  makes = record {
    keeps = keeps_none (g.D.Disk.state c.args.disk.now);
    bad = (λ e. invalid g c, λ not. refl);
    small = neither _ _ _ bad-small (λ h. invalid g c h.0);
    refused = IsFormatRefusal.bad refl (invalid g c);
    calm = inr refl;
    cost = record { at_most = omega arith; exact = tt };
    untouched = λ h. unchanged_none (g.D.Disk.state c.args.disk.now);
    already = λ honest magic. still_none (g.D.Disk.state c.args.disk.now);
    synced = λ honest e. absurd (bad-already e);
    not_over = λ honest. tt;
    any_moment = λ honest none.
        at_start c.args.geometry.now c.args.directory
        (g.met.D.Disk.sound c.args.disk.now honest) none;
    area = λ honest.
        area_at_start c.args.geometry.now (g.met.D.Disk.sound c.args.disk.now honest);
    ok = λ honest. tt;
  };
}

pub returns-then-len-length : goal.returns-then-len-length
returns-then-len-length g c = record {
  makes = record {
    keeps = keeps_none (g.D.Disk.state c.args.disk.now);
    bad = let is = valid g (goal.at.returns-then-len-length g c).Else-not-is_valid in
        neither _ _ _ small-bad (λ not. not is);
    small = (
      λ e. (
        valid g (goal.at.returns-then-len-length g c).Else-not-is_valid,
        is-below _ _ _ _ c.len.ensures c.length.ensures c.if-len-length.true,
      ),
      λ h. refl,
    );
    refused = IsFormatRefusal.small refl
        (is-below _ _ _ _ c.len.ensures c.length.ensures c.if-len-length.true);
    calm = inr refl;
    cost = record { at_most = omega arith; exact = tt };
    untouched = λ h. unchanged_none (g.D.Disk.state c.args.disk.now);
    already = λ honest magic. still_none (g.D.Disk.state c.args.disk.now);
    synced = λ honest e. absurd (small-already e);
    not_over = λ honest. tt;
    any_moment = λ honest none.
        at_start c.args.geometry.now c.args.directory
        (g.met.D.Disk.sound c.args.disk.now honest) none;
    area = λ honest.
        area_at_start c.args.geometry.now (g.met.D.Disk.sound c.args.disk.now honest);
    ok = λ honest. tt;
  };
}

pub returns-in_default : goal.returns-in_default
returns-in_default g c = record {
  makes = record {
    keeps = c.reads_magic.ensures.only_syncs.keeps;
    bad = let is = valid g (goal.at.returns-in_default g c).Else-not-is_valid in
        neither _ _ _ fault-bad (λ not. not is);
    small = neither _ _ _ fault-small (λ h.
        not-below _ _ _ _ c.len.ensures c.length.ensures c.if-len-length.false h.1);
    refused = IsFormatRefusal.device refl (c.in_default.ensures.cause.cause refl);
    calm = inl refl;
    cost = record {
      at_most = fewer _ _ _ c.reads_magic.ensures.cost.at_most;
      exact = tt;
    };
    untouched = taken _ _ _ _ _ _ (valid g (goal.at.returns-in_default g c).Else-not-is_valid)
        c.len.ensures c.length.ensures c.if-len-length.false;
    already = λ honest magic. c.reads_magic.ensures.only_syncs.still honest;
    synced = λ honest e. absurd (fault-already e);
    not_over = λ honest. tt;
    any_moment = λ honest none.
        let asks = c.reads_magic.ensures.only_syncs in
        asked c.args.geometry.now c.args.directory
        (g.met.D.Disk.sound c.args.disk.now (asks.keeps.was_honest honest)) none
        (asks.still honest);
    area = λ honest.
        let asks = c.reads_magic.ensures.only_syncs in
        area_asked c.args.geometry.now
        (g.met.D.Disk.sound c.args.disk.now (asks.keeps.was_honest honest)) (asks.still honest);
    ok = λ honest. tt;
  };
}

pub returns-then-is_formatted : goal.returns-then-is_formatted
returns-then-is_formatted g c = record {
  makes = record {
    keeps = c.reads_magic.ensures.only_syncs.keeps;
    bad = let is = valid g (goal.at.returns-then-is_formatted g c).Else-not-is_valid in
        neither _ _ _ already-bad (λ not. not is);
    small = neither _ _ _ already-small (λ h.
        not-below _ _ _ _ c.len.ensures c.length.ensures c.if-len-length.false h.1);
    refused = IsFormatRefusal.already refl
        (λ honest. sym (c.in-Ok.ensures.exact honest) ∙ c.if-is_formatted.true);
    calm = inr (calm c.in-Ok.ensures.cause);
    cost = record {
      at_most = fewer _ _ _ c.reads_magic.ensures.cost.at_most;
      exact = tt;
    };
    untouched = taken _ _ _ _ _ _ (valid g (goal.at.returns-then-is_formatted g
        c).Else-not-is_valid)
        c.len.ensures c.length.ensures c.if-len-length.false;
    already = λ honest magic. c.reads_magic.ensures.only_syncs.still honest;
    synced = λ honest e. c.in-Ok.ensures.synced honest;
    not_over = λ honest. tt;
    any_moment = λ honest none.
        let asks = c.reads_magic.ensures.only_syncs in
        asked c.args.geometry.now c.args.directory
        (g.met.D.Disk.sound c.args.disk.now (asks.keeps.was_honest honest)) none
        (asks.still honest);
    area = λ honest.
        let asks = c.reads_magic.ensures.only_syncs in
        area_asked c.args.geometry.now
        (g.met.D.Disk.sound c.args.disk.now (asks.keeps.was_honest honest)) (asks.still honest);
    ok = λ honest. tt;
  };
}

pub returns-in_default-make : goal.returns-in_default-make
returns-in_default-make g c = record {
  makes = record {
    keeps = let state = g.D.Disk.state in
        keeps_on (state c.args.disk.now) (state c.reads_magic.new.disk) (state c.make.new.disk)
        c.reads_magic.ensures.only_syncs.keeps c.make.ensures.keeps.frame;
    bad = let is = valid g (goal.at.returns-in_default-make g c).Else-not-is_valid in
        neither _ _ _ fault-bad (λ not. not is);
    small = neither _ _ _ fault-small (λ h.
        not-below _ _ _ _ c.len.ensures c.length.ensures c.if-len-length.false h.1);
    refused = IsFormatRefusal.device refl
        (subst (λ n. Rises n (g.D.Disk.state c.make.new.disk).failures) (calm c.in-Ok.ensures.cause)
        (c.in_default-make.ensures.cause.cause refl));
    calm = inl refl;
    cost = record {
      at_most = at_most _ _ _ _ c.reads_magic.ensures.cost.at_most c.make.ensures.cost.at_most;
      exact = tt;
    };
    untouched = taken _ _ _ _ _ _ (valid g (goal.at.returns-in_default-make g
        c).Else-not-is_valid)
        c.len.ensures c.length.ensures c.if-len-length.false;
    already = λ honest magic.
        let exact = c.in-Ok.ensures.exact (c.make.ensures.keeps.frame.was_honest honest) in
        absurd (never _ c.if-is_formatted.false (exact ∙ magic));
    synced = λ honest e. absurd (fault-already e);
    not_over = λ honest. tt;
    any_moment = λ honest none.
        let asks = c.reads_magic.ensures.only_syncs in
        let honest1 = c.make.ensures.keeps.frame.was_honest honest in
        made c.args.geometry.now c.args.directory
        (g.met.D.Disk.sound c.args.disk.now (asks.keeps.was_honest honest1)) none
        (asks.still honest1)
        (c.make.ensures.any_moment honest1);
    area = λ honest.
        let asks = c.reads_magic.ensures.only_syncs in
        let honest1 = c.make.ensures.keeps.frame.was_honest honest in
        area_made c.args.geometry.now
        (g.met.D.Disk.sound c.args.disk.now (asks.keeps.was_honest honest1)) (asks.still honest1)
        (c.make.ensures.area honest1);
    ok = λ honest. tt;
  };
}

pub returns : goal.returns
returns g c = record {
  makes = record {
    keeps = let state = g.D.Disk.state in
        keeps_on (state c.args.disk.now) (state c.reads_magic.new.disk) (state c.make.new.disk)
        c.reads_magic.ensures.only_syncs.keeps c.make.ensures.keeps.frame;
    bad = let is = valid g (goal.at.returns g c).Else-not-is_valid in
        neither _ _ _ ok-bad (λ not. not is);
    small = neither _ _ _ ok-small (λ h.
        not-below _ _ _ _ c.len.ensures c.length.ensures c.if-len-length.false h.1);
    refused = tt;
    calm = calm c.in-Ok-make.ensures.cause ∙ calm c.in-Ok.ensures.cause;
    cost = record {
      at_most = at_most _ _ _ _ c.reads_magic.ensures.cost.at_most c.make.ensures.cost.at_most;
      exact = exactly _ _ _ _ c.in-Ok.ensures.cost.exact c.in-Ok-make.ensures.cost.exact;
    };
    untouched = taken _ _ _ _ _ _ (valid g (goal.at.returns g c).Else-not-is_valid)
        c.len.ensures c.length.ensures c.if-len-length.false;
    already = λ honest magic.
        let exact = c.in-Ok.ensures.exact (c.make.ensures.keeps.frame.was_honest honest) in
        absurd (never _ c.if-is_formatted.false (exact ∙ magic));
    synced = λ honest e. absurd (ok-already e);
    not_over = λ honest.
        sym (c.in-Ok.ensures.exact (c.make.ensures.keeps.frame.was_honest honest))
        ∙ c.if-is_formatted.false;
    any_moment = λ honest none.
        let asks = c.reads_magic.ensures.only_syncs in
        let honest1 = c.make.ensures.keeps.frame.was_honest honest in
        made c.args.geometry.now c.args.directory
        (g.met.D.Disk.sound c.args.disk.now (asks.keeps.was_honest honest1)) none
        (asks.still honest1)
        (c.make.ensures.any_moment honest1);
    area = λ honest.
        let asks = c.reads_magic.ensures.only_syncs in
        let honest1 = c.make.ensures.keeps.frame.was_honest honest in
        area_made c.args.geometry.now
        (g.met.D.Disk.sound c.args.disk.now (asks.keeps.was_honest honest1)) (asks.still honest1)
        (c.make.ensures.area honest1);
    ok = λ honest image left.
        c.in-Ok-make.ensures.ok (c.make.ensures.keeps.frame.was_honest honest) image left;
  };
}

pub reads_magic-requires : goal.reads_magic-requires
reads_magic-requires g c = omega arith

pub make-requires-clause-valid : goal.make-requires-clause-valid
make-requires-clause-valid g c = c.is_valid.ensures.0 c.if-not-is_valid.false

pub make-requires-clause-long_enough : goal.make-requires-clause-long_enough
make-requires-clause-long_enough g c =
    omega (
      arith,
      c.length.ensures,
      c.if-len-length.false,
      c.len.ensures,
      c.reads_magic.ensures.only_syncs.keeps.len,
    )
