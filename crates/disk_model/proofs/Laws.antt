-- The laws of the disk model, for the crates above: images that agree outside a range, what the
-- images of an honest disk agree in, and how a run of calls goes on.
use Rattle.std.proofs.Common.{◌≡◌, inl, inr, ⊎_elim, ℕ, ◌+◌, ◌≤◌, List, length, refl, sym, ◌∙◌}
use Rattle.std.proofs.Common.{arith}
use Rattle.std.proofs.lemmas.List.{ext_get_or}
use Rattle.disk_model.specs.Disk.{State, AgreeOutside, Elapses, Nothing, Throughout, IsHonestDisk}
use Rattle.disk_model.specs.Disk.{IsFirm}
use Rattle.disk_model.specs.Disk.{Keeps, KeepsLength, IsUnchanged, OnlyReads}

-- Images that agree outside a range.

-- an image agrees with itself outside any range
pub agree_refl : (at n : ℕ) (image : List ℕ) → AgreeOutside at n image image
agree_refl at n image = record { len_is = refl; before = λ k lt. refl; after = λ k le. refl }

-- images that agree with a third outside a range agree with each other there
pub agree_trans : (at n : ℕ) (a b c : List ℕ)
    → AgreeOutside at n a b → AgreeOutside at n b c → AgreeOutside at n a c
agree_trans at n a b c first then = record {
  len_is = then.len_is ∙ first.len_is;
  before = λ k lt. then.before k lt ∙ first.before k lt;
  after = λ k le. then.after k le ∙ first.after k le;
}

-- the range may be taken larger
pub agree_more : (at n from len : ℕ) (a b : List ℕ) → from ≤ at → at + n ≤ from + len
    → AgreeOutside at n a b → AgreeOutside from len a b
agree_more at n from len a b low high agree = record {
  len_is = agree.len_is;
  before = λ k lt. agree.before k (omega (arith, lt, low));
  after = λ k le. agree.after k (omega (arith, le, high));
}

-- What is left of an honest disk.

-- where no position is loose, a crash leaves what is read
pub only_bytes : (state : State) → IsHonestDisk state → IsFirm state
    → (c : List ℕ) → state.MayLeave c → c ≡ state.bytes
only_bytes state sound firm c left =
    let image = sound.images c left in
    let same_len : length c ≡ length state.bytes =
    image.len_is ∙ sym (sound.images state.bytes sound.bytes).len_is in
    ext_get_or 0 c state.bytes same_len (λ k lt. image.agrees k (firm k))

-- A run of calls.

-- before the first call
pub begins : (old : State) (P : List ℕ → Type 0)
    → IsHonestDisk old → ((c : List ℕ) → old.MayLeave c → P c) → Throughout old old P
begins old P sound here = record {
  later = omega arith;
  each = λ c left. here c (sound.only_now c left);
  before = λ t c le left. inl left;
  keeps = λ t c le left. left;
}

-- one call more, which brings images that have P
pub goes_on : (old mid new : State) (P comes : List ℕ → Type 0)
    → Throughout old mid P → Elapses mid new comes → ((c : List ℕ) → comes c → P c)
    → Throughout old new P
goes_on old mid new P comes so_far time here = record {
  later = omega (arith, so_far.later, time.later);
  each = λ c left. ⊎_elim (so_far.each c) (here c)
      (time.nothing_else old.moment c so_far.later left);
  before = λ t c le left.
      let by_now : t ≤ mid.moment = omega (arith, le, so_far.later) in
      ⊎_elim (so_far.before t c le) (λ came. inr (here c came)) (time.nothing_else t c by_now left);
  keeps = λ t c le left. time.keeps t c (omega (arith, le, so_far.later))
      (so_far.keeps t c le left);
}

-- one call more that brings no image: a read or a sync
pub stays : (old mid new : State) (P : List ℕ → Type 0)
    → Throughout old mid P → Elapses mid new Nothing → Throughout old new P
stays old mid new P so_far time = goes_on old mid new P Nothing so_far time (λ c came. absurd came)

-- a whole run more, of images that have P
pub joins : (old mid new : State) (P Q : List ℕ → Type 0)
    → Throughout old mid P → Throughout mid new Q → ((c : List ℕ) → Q c → P c)
    → Throughout old new P
joins old mid new P Q so_far then here = record {
  later = omega (arith, so_far.later, then.later);
  each = λ c left. ⊎_elim (so_far.each c) (λ q. here c q)
      (then.before old.moment c so_far.later left);
  before = λ t c le left.
      let by_now : t ≤ mid.moment = omega (arith, le, so_far.later) in
      ⊎_elim (so_far.before t c le) (λ q. inr (here c q)) (then.before t c by_now left);
  keeps = λ t c le left. then.keeps t c (omega (arith, le, so_far.later))
      (so_far.keeps t c le left);
}

-- what a crash now leaves, it may have left since the run began
pub at_end : (old new : State) (P : List ℕ → Type 0)
    → IsHonestDisk new → Throughout old new P → (c : List ℕ) → new.MayLeave c → P c
at_end old new P sound run c left = run.each c (sound.counts_now old.moment c run.later left)

-- a weaker fact of each image
pub weakens : (old new : State) (P Q : List ℕ → Type 0)
    → Throughout old new P → ((c : List ℕ) → P c → Q c) → Throughout old new Q
weakens old new P Q run here = record {
  later = run.later;
  each = λ c left. here c (run.each c left);
  before = λ t c le left. ⊎_elim (λ was. inl was) (λ p. inr (here c p)) (run.before t c le left);
  keeps = run.keeps;
}

-- Two calls, one after the other, and none.

-- calls that keep the length, one after the other, keep it
pub keeps_on : (start mid now : State) → KeepsLength start mid → KeepsLength mid now
    → KeepsLength start now
keeps_on start mid now first second = record {
  len = second.len ∙ first.len;
  later = omega (arith, first.later, second.later);
  was_honest = λ honest. first.was_honest (second.was_honest honest);
}

-- where no call is made, the length stays
pub keeps_none : (state : State) → KeepsLength state state
keeps_none state = record { len = refl; later = omega arith; was_honest = λ honest. honest }

-- calls that keep the length and an honest disk, one after the other, keep both
pub keeps_all_on : (start mid now : State) → Keeps start mid → Keeps mid now → Keeps start now
keeps_all_on start mid now first second = record {
  frame = keeps_on start mid now first.frame second.frame;
  honest = λ is. second.honest (first.honest is);
}

-- calls that change nothing, one after the other, change nothing
pub unchanged_on : (start mid now : State) → IsUnchanged start mid → IsUnchanged mid now
    → IsUnchanged start now
unchanged_on start mid now first second = record {
  bytes = second.bytes ∙ first.bytes;
  time = record {
    later = omega (arith, first.time.later, second.time.later);
    nothing_else = λ t c le left.
        ⊎_elim (λ was. first.time.nothing_else t c le was) (λ came. absurd came)
        (second.time.nothing_else t c (omega (arith, le, first.time.later)) left);
    keeps = λ t c le left. second.time.keeps t c (omega (arith, le, first.time.later))
        (first.time.keeps t c le left);
  };
  images = λ c. (
    λ left. (first.images c).0 ((second.images c).0 left),
    λ left.
        (second.images c).1 ((first.images c).1 left),
  );
  loose = λ k. (
    λ is. (first.loose k).0 ((second.loose k).0 is),
    λ is.
        (second.loose k).1 ((first.loose k).1 is),
  );
}

-- where no call is made, nothing changes
pub unchanged_none : (state : State) → IsUnchanged state state
unchanged_none state = record {
  bytes = refl;
  time = record {
    later = omega arith;
    nothing_else = λ t c le left. inl left;
    keeps =
        λ t c le left. left;
  };
  images = λ c. (λ left. left, λ left. left);
  loose = λ k. (λ is. is, λ is. is);
}

-- calls that only read, one after the other, only read
pub reads_on : (start mid now : State) → OnlyReads start mid → OnlyReads mid now
    → OnlyReads start now
reads_on start mid now first second = record {
  keeps = keeps_on start mid now first.keeps second.keeps;
  unchanged = λ honest.
      unchanged_on start mid now (first.unchanged (second.keeps.was_honest honest))
      (second.unchanged honest);
}

-- where no call is made, the disk is read at most
pub reads_none : (state : State) → OnlyReads state state
reads_none state = record { keeps = keeps_none state; unchanged = λ honest. unchanged_none state }

-- a call that changes nothing where the disk was honest
pub reads_once : (old new : State) → KeepsLength old new → (old.IsHonest → IsUnchanged old new)
    → OnlyReads old new
reads_once old new keeps same =
    record { keeps = keeps; unchanged = λ honest. same (keeps.was_honest honest) }
