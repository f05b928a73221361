use Rattle.mot_journal.proofs.Calls.{fails, succeeds}
use Rattle.std.proofs.Common.{ℕ, ◌+◌, ◌<◌, ◌≡◌, ◌≤◌, true, List, ◌++◌, [], ◌∷◌, length, Some, Ok}
use Rattle.std.proofs.Common.{refl, sym, ◌∙◌, ap, subst, arith, length-append}
use Rattle.mot_journal.specs.declared.layout.Layout.{Layout}
use Rattle.mot_journal.specs.declared.layout.Layout.TheVariants.{One, Two}
use Rattle.mot_journal.specs.Inner.Steps.{start_of_slot}
use Rattle.mot_journal.proofs.Fill.{slot_ends}
use Rattle.mot_numbers.specs.Geometry.{area_start, length_of}
use Rattle.mot_numbers.specs.declared.geometry.Geometry.{Geometry}
use Rattle.disk_model.specs.Disk.{Throughout}
use Rattle.mot_journal.specs.declared.record.Record.{Record}
use Rattle.mot_journal.specs.Slot.{is_sound, read_slot, slot_size, bytes_of_slot}
use Rattle.mot_journal.specs.Image.{records_of}
use Rattle.mot_journal.specs.Journal.{JournalView, with_records, HoldsRecords, FoldOf}
use Rattle.mot_journal.specs.Journal.{WithoutOrWith}
use Rattle.mot_journal.proofs.Written.{written_gate}
use Rattle.mot_journal.proofs.Appending.{Found, any_moment, with_slot}
use Rattle.mot_journal.proofs.journal.Journal.append.Given as given
use Rattle.mot_journal.proofs.journal.Journal.append.Goals as goal
use Rattle.mot_journal.proofs.journal.Journal.append.Goals.{After-write_slot}

-- the slot that is written
slot_is : (g : given.Over) (c : After-write_slot g)
    → c.slot_bytes-slot.result.items ≡ bytes_of_slot c.args.self.now.layout c.args.entry.now
slot_is g c = c.slot_bytes-slot.ensures.written
    ∙ ap (λ (x : JournalView). bytes_of_slot x.layout c.args.entry.now) c.self.view_is

-- what was found of the journal and of that slot
found : (g : given.Over) (c : After-write_slot g) (records : List Record)
    → HoldsRecords c.args.self.now records (g.D.Disk.state c.args.disk.now)
    → FoldOf c.args.self.now (records ++ c.args.entry.now ∷ [])
    → Found c.args.self.now records c.args.entry.now (g.D.Disk.state c.args.disk.now)
found g c records holds fold =
    let j = c.args.self.now in
    let r = c.args.entry.now in
    let layout_is : c.self.inside.layout ≡ j.layout =
    ap (λ (x : JournalView). x.layout) c.self.view_is in
    let sound_inside = subst (λ y. is_sound j.geometry y r ≡ true) (sym layout_is)
    c.requires.sound in
    record {
      sound = g.met.D.Disk.sound c.args.disk.now holds.honest;
      holds = holds;
      fold = fold;
      room = c.requires.not_full;
      two_halves = subst (λ (x : JournalView). x.half ≤ 1) c.self.view_is
          c.self.inside.two_halves;
      long = c.requires.long_enough;
      reads = sym (ap (read_slot j.geometry j.layout) (slot_is g c))
          ∙ subst (λ y. read_slot j.geometry y c.slot_bytes-slot.result.items ≡ Some r) layout_is
          (c.slot_bytes-slot.ensures.reads j.geometry sound_inside);
      size_is = sym (ap length (slot_is g c))
          ∙ c.slot_bytes-slot.ensures.size j.geometry sound_inside ∙ ap slot_size layout_is;
      gate_is = written_gate j.layout r;
    }

-- at each moment, without the record or with it
without_or_with : (g : given.Over) (c : After-write_slot g) (records : List Record)
    → HoldsRecords c.args.self.now records (g.D.Disk.state c.args.disk.now)
    → FoldOf c.args.self.now (records ++ c.args.entry.now ∷ [])
    → Throughout (g.D.Disk.state c.args.disk.now) (g.D.Disk.state c.write_slot.new.disk)
    (WithoutOrWith c.args.self.now records c.args.entry.now (g.D.Disk.state c.args.disk.now))
without_or_with g c records holds fold =
    any_moment _ _ _ _ (found g c records holds fold) _
    (rw (c.next_place-place.ensures.value, c.deref.ensures.0, slot_is g c)
    at (c.write_slot.ensures.any_moment holds.honest))

pub returns-in_default-clause-any_moment : goal.returns-in_default-clause-any_moment
returns-in_default-clause-any_moment g c =
    without_or_with g (goal.at.returns-in_default-clause-any_moment g c).After-write_slot

pub returns-clause-any_moment : goal.returns-clause-any_moment
returns-clause-any_moment g c =
    without_or_with g (goal.at.returns-clause-any_moment g c).After-write_slot

pub returns-clause-ok : goal.returns-clause-ok
returns-clause-ok g c = λ records holds fold.
    let r = c.args.entry.now in
    let from = (goal.at.returns-clause-ok g c).After-write_slot in
    let written = rw (c.next_place-place.ensures.value, c.deref.ensures.0, slot_is g from)
    at (c.in-Ok.ensures.ok holds.honest) in
    record {
      going = refl;
      count = omega (
        arith,
        holds.count,
        ap (λ (x : JournalView). x.count) c.self.view_is,
        length-append records (r ∷ []),
      );
      honest = c.write_slot.ensures.keeps.honest holds.honest;
      each = λ image left.
          let has = (with_slot _ _ _ _ (found g from records holds fold) image
          (written image left)).0 in
          record {
            read = subst (λ (x : JournalView).
                records_of image ≡ Ok (with_records x (records ++ r ∷ []))) (sym c.self.view_is)
                has.read;
            clean = has.clean;
          };
    }

pub returns-clause-area : goal.returns-clause-area
returns-clause-area g c = λ records holds fold image left.
    let from = (goal.at.returns-clause-area g c).After-write_slot in
    let written = rw (c.next_place-place.ensures.value, c.deref.ensures.0, slot_is g from)
    at (c.in-Ok.ensures.ok holds.honest) in
    (with_slot _ _ _ _ (found g from records holds fold) image (written image left)).1

pub returns-in_default-clause-keeps : goal.returns-in_default-clause-keeps
returns-in_default-clause-keeps g c =
    c.write_slot.ensures.keeps

pub returns-in_default-clause-cause : goal.returns-in_default-clause-cause
returns-in_default-clause-cause g c =
    fails _ refl refl c.in_default.ensures.cause

pub returns-in_default-clause-cost : goal.returns-in_default-clause-cost
returns-in_default-clause-cost g c =
    record {
      at_most = c.write_slot.ensures.cost.at_most;
      exact = tt;
    }

pub returns-in_default-clause-spent : goal.returns-in_default-clause-spent
returns-in_default-clause-spent g c =
    rw (← c.self.view_is) refl

pub returns-in_default-clause-added : goal.returns-in_default-clause-added
returns-in_default-clause-added g c = tt

pub returns-in_default-clause-ok : goal.returns-in_default-clause-ok
returns-in_default-clause-ok g c =
    λ records holds folds. tt

pub returns-in_default-clause-area : goal.returns-in_default-clause-area
returns-in_default-clause-area g c =
    λ records holds folds. tt

pub returns-clause-keeps : goal.returns-clause-keeps
returns-clause-keeps g c =
    c.write_slot.ensures.keeps

pub returns-clause-cause : goal.returns-clause-cause
returns-clause-cause g c =
    succeeds refl c.in-Ok.ensures.cause

pub returns-clause-cost : goal.returns-clause-cost
returns-clause-cost g c =
    let is = c.in-Ok.ensures.cost in record { at_most = is.at_most; exact = is.exact }

pub returns-clause-spent : goal.returns-clause-spent
returns-clause-spent g c =
    tt

-- the slot has its layout's size
size : (layout : Layout) → 0 < slot_size layout
size One = omega arith
size Two = omega arith

-- a slot that ends before the data area ends on the disk
fits : (g : Geometry) (at start n size len : ℕ) → at ≡ start → n ≡ size
    → start + size ≤ area_start g → length_of g ≤ len → at + n ≤ len
fits g at start n size len at_is size_is ends long = omega (arith, at_is, size_is, ends, long)

pub write_slot-requires-clause-some : goal.write_slot-requires-clause-some
write_slot-requires-clause-some g c =
    let layout_is = ap (λ (x : JournalView). x.layout) c.self.view_is in
    let sound = subst (λ y. is_sound c.args.self.now.geometry y c.args.entry.now ≡ true)
    (sym layout_is) c.requires.sound in
    subst (λ n. 0 < n) (sym (ap length c.deref.ensures.0
    ∙ c.slot_bytes-slot.ensures.size c.args.self.now.geometry sound)) (size _)

pub write_slot-requires-clause-fits : goal.write_slot-requires-clause-fits
write_slot-requires-clause-fits g c =
    let j = c.args.self.now in
    let layout_is = ap (λ (x : JournalView). x.layout) c.self.view_is in
    let sound = subst (λ y. is_sound j.geometry y c.args.entry.now ≡ true)
    (sym layout_is) c.requires.sound in
    let half = subst (λ (x : JournalView). x.half ≤ 1) c.self.view_is c.self.inside.two_halves in
    fits j.geometry _ (start_of_slot j j.count) _ (slot_size j.layout) _
    c.next_place-place.ensures.value
    (ap length c.deref.ensures.0 ∙ c.slot_bytes-slot.ensures.size j.geometry sound
    ∙ ap slot_size layout_is)
    (slot_ends j.geometry j.half j.layout j.count half c.requires.not_full).1
    c.requires.long_enough

pub returns-in_default-clause-fault : goal.returns-in_default-clause-fault
returns-in_default-clause-fault g c = refl

pub returns-clause-fault : goal.returns-clause-fault
returns-clause-fault g c = tt
