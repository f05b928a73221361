-- What a disk that was just opened stands for, and what is played of it.
use Rattle.std.proofs.Common.{◌≡◌, inl, ℕ, ◌<◌, ◌≤◌, Bool, true, false, List, [], ◌∷◌, length}
use Rattle.std.proofs.Common.{replicate, Option, Some, None, Result, Ok, refl, sym, ◌∙◌, subst}
use Rattle.std.proofs.Common.{arith, ◌+◌}
use Rattle.std.proofs.Math.Logic.{⊎_elim}
use Rattle.std.proofs.lemmas.Bool.Decides.{nat_tests}
use Rattle.std.specs.Prelude.{IsFalse, ◌&&◌, nat_le, if◌then◌else◌}
use Rattle.disk_model.specs.Disk.{State, Elapses, IsHonestDisk, IsStill, IsUnchanged, Nothing}
use Rattle.disk_model.specs.Disk.{OnlyReads, OnlySyncs}
use Rattle.disk_model.proofs.Laws.{keeps_on, only_bytes}
use Rattle.mot_journal.specs.Geometry.{columns, geometry_in, geometry_of, has_magic}
use Rattle.mot_journal.specs.Image.{Standing, records_of, stands_for}
use Rattle.mot_journal.specs.Journal.{HasRecords, with_records}
use Rattle.mot_journal.proofs.Laws.{geometry_read}
use Rattle.mot_numbers.specs.declared.geometry.Geometry.{Geometry}
use Rattle.mot_numbers.specs.declared.refusal.Refusal.{Refusal}
use Rattle.mot_numbers.specs.Geometry.{packet_room, length_of, is_valid}
use Rattle.mot_numbers.specs.PacketLength.{IsLength}
use Rattle.mot_numbers.proofs.Laws.{valid_is}
use Rattle.mot_numbers.specs.Reading.{◌>>=◌}
use Rattle.mot_player.specs.Continuity.{IsContinuous}
use Rattle.mot_player.specs.Laws.{IsAtTurnsBeginning, StepsAreContinuous}
use Rattle.mot_player.specs.Place.{Place, Request, opened_place}
use Rattle.mot_player.specs.Turn.{Turn}
use Rattle.mot_repository.specs.Repository.{RepositoryView, Agrees, HasStanding, IsOf, Holds}
use Rattle.mot_repository.specs.Opening.{IsOpened, IsOpeningRefusal}
use Rattle.mot_journal.specs.Journal as openings
use Rattle.mot_playout.specs.Playing.{HasPlayedTurn, IsTurnRefusal, halted, no_memory, failed}
use Rattle.mot_playout.proofs.Going.{HasPlayedTurn-read}
use Rattle.mot_playout.specs.Runs.{ServerView}
use Rattle.mot_playout.proofs.Read.{rises_on}

-- time in which no image comes, and then more of it
elapses_on : (a b c : State) → Elapses a b Nothing → Elapses b c Nothing → Elapses a c Nothing
elapses_on a b c first second = record {
  later = let l = first.later in let m = second.later in omega (arith, l, m);
  nothing_else = λ t image le left.
      let l = first.later in
      ⊎_elim (λ was. first.nothing_else t image le was) (λ none. absurd none)
      (second.nothing_else t image (omega (arith, l, le)) left);
  keeps = λ t image le left.
      let l = first.later in
      second.keeps t image (omega (arith, l, le)) (first.keeps t image le left);
}

-- a disk that is only synced, and then left as it is
pub still_unchanged : (a b c : State) → IsStill a b → IsUnchanged b c → IsStill a c
still_unchanged a b c first second = record {
  bytes = second.bytes ∙ first.bytes;
  time = elapses_on a b c first.time second.time;
  images = λ image left. first.images image ((second.images image).0 left);
  loose = λ k is. first.loose k ((second.loose k).0 is);
}

-- a disk that is synced at most, and then read at most
pub syncs_read : (a b c : State) → OnlySyncs a b → OnlyReads b c → OnlySyncs a c
syncs_read a b c first second = record {
  keeps = keeps_on a b c first.keeps second.keeps;
  still = λ honest.
      still_unchanged a b c (first.still (second.keeps.was_honest honest))
      (second.unchanged honest);
}

same-standing : (r : Result Standing Refusal) (a b : Standing) → r ≡ Ok a → r ≡ Ok b → a ≡ b
same-standing r a b is was = let e : Ok a ≡ Ok b = sym is ∙ was in cc

module _ (old new : State) (view : RepositoryView) (s : Standing) (image : IsOf s old.bytes)
    (opened : IsOpened old new view) where
  -- what was read at first stands for this, so the server keeps it
  pub opened_agrees : Agrees view s
  opened_agrees =
      subst (λ d. Agrees view d)
      (same-standing (stands_for old.bytes) opened.standing s opened.stands image.stands)
      opened.agrees

  -- and nothing is loose: it holds
  pub opened_holds : new.IsHonest → IsHonestDisk new → IsStill old new → IsFalse view.halted
      → Holds view s new
  opened_holds honest sound still going = record {
    going = going;
    agrees = opened_agrees;
    records = opened.records;
    journal = record {
      going = opened.unspent;
      count = opened.count;
      honest = honest;
      each = λ c left. subst (λ d. HasRecords view.journal opened.records d)
          (sym (only_bytes new sound opened.firm c left ∙ still.bytes))
          (record { read = opened.read; clean = image.clean });
    };
    each = λ c left. subst (λ d. IsOf s d)
        (sym (only_bytes new sound opened.firm c left ∙ still.bytes)) image;
  }

-- what the bytes stood for that it was opened of, clean or not, is what is read of it
pub opened_standing : (old new : State) (view : RepositoryView) (s : Standing)
    → stands_for old.bytes ≡ Ok s → IsOpened old new view → IsStill old new
    → HasStanding view s new
opened_standing old new view s stands opened still =
    let same = sym still.bytes in
    record {
      agrees = subst (λ d. Agrees view d)
          (same-standing (stands_for old.bytes) opened.standing s opened.stands stands)
          opened.agrees;
      records = opened.records;
      read = subst (λ b. records_of b ≡ Ok (with_records view.journal opened.records)) same
          opened.read;
      stands = subst (λ b. stands_for b ≡ Ok s) same stands;
    }

valid-cases : (g h : Geometry) (b c : Bool)
    → (if b && is_valid g && c then Some g else None) ≡ Some h → is_valid h ≡ true
valid-cases g h b c e = valid-if (b && is_valid g && c) refl e
  where
    same : Some g ≡ Some h → g ≡ h
    same is = cc

    is_so : (b x c : Bool) → (b && x && c) ≡ true → x ≡ true
    is_so true true c is = refl
    is_so true false c is = cc
    is_so false x c is = cc

    valid-if : (t : Bool) → (b && is_valid g && c) ≡ t → (if t then Some g else None) ≡ Some h
        → is_valid h ≡ true
    valid-if true t e = subst (λ x. is_valid x ≡ true) (same e) (is_so b (is_valid g) c t)
    valid-if false t e = cc

valid-read : (image : List ℕ) (h : Geometry) (o : Option Geometry)
    → (o >>= λ g. if has_magic image && is_valid g && nat_le (length_of g) (length image) then
    Some g else None) ≡ Some h → is_valid h ≡ true
valid-read image h None e = cc
valid-read image h (Some g) e =
    valid-cases g h (has_magic image) (nat_le (length_of g) (length image)) e

-- a geometry that is read is valid
valid-geometry : (image : List ℕ) (g : Geometry) → geometry_of image ≡ Some g → is_valid g ≡ true
unfolding geometry_of
valid-geometry image g e =
    valid-read image g (geometry_in (columns (8 ∷ 1 ∷ 7 ∷ 2 ∷ 2 ∷ 2 ∷ 2 ∷ 4 ∷ []) image)) e

has-room : (g : Geometry) → is_valid g ≡ true → 0 < packet_room g
has-room g is = grind (arith, nat_tests)

-- so a packet has room for data
pub opened_room : (old new : State) (view : RepositoryView) (s : Standing) → Agrees view s
    → IsOpened old new view → 0 < packet_room s.geometry
opened_room old new view s agrees opened =
    let read = geometry_read old.bytes (with_records view.journal opened.records) opened.read in
    subst (λ g. 0 < packet_room g) agrees.geometry
    (has-room view.journal.geometry (valid-geometry old.bytes view.journal.geometry read))

-- and its length is one of the four
pub opened_length : (old new : State) (view : RepositoryView) (s : Standing) → Agrees view s
    → IsOpened old new view → IsLength s.geometry.packet
opened_length old new view s agrees opened =
    let read = geometry_read old.bytes (with_records view.journal opened.records) opened.read in
    let valid = valid_is view.journal.geometry
    (valid-geometry old.bytes view.journal.geometry read) in
    subst (λ (g : Geometry). IsLength g.packet) agrees.geometry valid.8

-- what was opened stays so where it is read at most
pub opened_still : (old mid new : State) (view view' : RepositoryView) → IsOpened old mid view
    → IsUnchanged mid new → view' ≡ view → IsOpened old new view'
opened_still old mid new view view' opened still same =
    subst (IsOpened old new) (sym same) (record {
      standing = opened.standing;
      stands = opened.stands;
      agrees = opened.agrees;
      firm = λ k loose. opened.firm k ((still.loose k).0 loose);
      records = opened.records;
      read = opened.read;
      count = opened.count;
      unspent = opened.unspent;
    })

-- a player just opened is at the beginning of its turn
pub opened_beginning : (address room size : ℕ) (turn : Turn) (place : Place)
    → place ≡ opened_place address room size turn
    → IsAtTurnsBeginning place
opened_beginning address room size turn place is =
    subst IsAtTurnsBeginning (sym is) (record { under_way = refl; waiting = inl refl })

-- its first turn has the continuity indexes
pub opened_continuous : (address room size : ℕ) (turn : Turn) (packets : List (List ℕ))
    (place : Place) → StepsAreContinuous → 0 < room
    → HasPlayedTurn (opened_place address room size turn) packets place → IsContinuous packets
opened_continuous address room size turn packets place law some played =
    law address room size turn None (replicate (played.before + 1) Request) played.played.sents
    place packets some played.played.sent.steps
    (HasPlayedTurn-read (opened_place address room size turn) place packets played)

abbrev Clash : Bool → Type 0
Clash true = ⊥
Clash false = Unit {0}

-- want of memory for a turn, or a failure of the disk in it
pub turn_refused : {D : Type 0} (old new : ServerView D) (start mid now : State) (refusal : Refusal)
    → IsFalse old.view.halted
    → start.failures ≤ mid.failures → mid.failures ≤ now.failures
    → IsTurnRefusal old new mid.failures now.failures refusal
    → IsOpeningRefusal start now refusal
turn_refused old new start mid now refusal going le later (halted is e same) =
    absurd (subst Clash (sym going ∙ is) tt)
turn_refused old new start mid now refusal going le later (no_memory still_going e) =
    openings.no_memory e
turn_refused old new start mid now refusal going le later (failed still_going e rises) =
    openings.device e (rises_on start.failures mid.failures now.failures le later rises)
