-- What a crash leaves while the other half is filled and selected.
use Rattle.std.proofs.Common.{◌≡◌, ◌⊎◌, inl, inr, ⊎_elim, ℕ, ◌-◌, ◌<◌, ◌≤◌, List, [], ◌∷◌, length}
use Rattle.std.proofs.Common.{get_or, sym, ◌∙◌, ap, arith}
use Rattle.disk_model.specs.Disk.{State, AgreeOutside, IsHonestDisk, Torn, Throughout}
use Rattle.disk_model.proofs.Laws.{weakens, joins, at_end}
use Rattle.mot_journal.specs.declared.layout.Layout.{Layout}
use Rattle.mot_journal.specs.declared.record.Record.{Record}
use Rattle.mot_journal.specs.Slot.{slot_count}
use Rattle.mot_journal.specs.Image.{area_of}
use Rattle.mot_journal.specs.Inner.Steps.{ChangesWithin, HasSlots, Publishes, LeavesWritten}
use Rattle.mot_journal.specs.Journal.{JournalView, in_other_half, HasRecords, HoldsRecords, FoldOf}
use Rattle.mot_journal.specs.Journal.{OldOrGiven, HasReadArea}
use Rattle.mot_journal.proofs.Halves.{other_torn, either_half, new_half}
use Rattle.mot_journal.proofs.Halves.{area_beside_selector, selected_is}
use Rattle.mot_journal.proofs.Publishing.{first_of_one}
use Rattle.mot_journal.proofs.Parts.{HasParts, has_parts, parts_have}
use Rattle.mot_numbers.specs.Geometry.{half_start, half_size}

-- what a rewrite found of the journal and of the other half that it filled
pub record Found (j : JournalView) (layout : Layout) (records given : List Record)
    (start filled : State) : Type 0 where
  pub two_halves : j.half ≤ 1
  pub some : 0 < length given
  pub few : length given ≤ slot_count layout j.geometry
  pub sound : IsHonestDisk start
  pub holds : HoldsRecords j records start
  pub fold : FoldOf j given
  pub changes : ChangesWithin (half_start j.geometry (1 - j.half)) (half_size j.geometry)
      start filled
  pub filled_sound : IsHonestDisk filled
  pub still_honest : filled.IsHonest

module _ {j : JournalView} {layout : Layout} {records given : List Record} {start filled : State}
    (found : Found j layout records given start filled) where
  from : (d c : List ℕ) → start.MayLeave d
      → AgreeOutside (half_start j.geometry (1 - j.half)) (half_size j.geometry) d c
      → HasParts j records c × (area_of j.geometry c ≡ area_of j.geometry d)
  from d c left agree = other_torn j found.two_halves records d c
      (has_parts j records d (found.holds.each d left)) agree

  -- while the other half is filled
  pub filling : Throughout start filled (OldOrGiven j layout records given start)
  filling =
      weakens start filled (Torn (half_start j.geometry (1 - j.half)) (half_size j.geometry) start)
      (OldOrGiven j layout records given start) found.changes.time (λ c torn.
      let is = from torn.0 c torn.1 torn.2 in
      (inl (parts_have j records c is.0), (torn.0, torn.1, is.1)))

  now : HasParts j records filled.bytes
      × (area_of j.geometry filled.bytes ≡ area_of j.geometry start.bytes)
  now = from start.bytes filled.bytes found.sound.bytes found.changes.bytes

  module _ (slots : HasSlots j.geometry (1 - j.half) layout given (slot_count layout j.geometry)
      filled.bytes) where
    selected : (c : List ℕ) → AgreeOutside 8 1 filled.bytes c
        → OldOrGiven j layout records given start c
    selected c agree = (
      ⊎_elim (λ old. inl (parts_have j records c old))
          (λ new. inr (parts_have (in_other_half j layout given) given c new))
          (either_half j found.two_halves records given layout found.some found.few found.fold
          filled.bytes now.0 slots c agree),
      (
        start.bytes,
        found.sound.bytes,
        area_beside_selector j found.two_halves records given layout found.some found.few
            found.fold filled.bytes now.0 slots c agree ∙ now.1,
      ),
    )

    -- while the selector is written
    pub selecting : {last : State} → Publishes 8 1 filled last
        → Throughout start last (OldOrGiven j layout records given start)
    selecting {last} selects =
        let Outcome = OldOrGiven j layout records given start in
        joins start filled last Outcome (λ c. filled.MayLeave c ⊎ AgreeOutside 8 1 filled.bytes c)
        filling selects.time (λ c outcome.
        ⊎_elim (λ left. at_end start filled Outcome found.filled_sound filling c left)
        (λ agree. selected c agree) outcome)

    -- after it
    pub given_alone : (last : State) → LeavesWritten 8 ((1 - j.half) ∷ []) filled last
        → (c : List ℕ) → last.MayLeave c
        → HasRecords (in_other_half j layout given) given c × HasReadArea j start c
    given_alone last has c left =
        let agree = (has c left).agree in
        let byte : get_or c 8 0 ≡ 1 - j.half =
        sym (first_of_one c 8) ∙ ap (λ l. get_or l 0 0) (has c left).slot_is in
        let is = selected_is c (1 - j.half) (omega arith) byte in (
          parts_have (in_other_half j layout given) given c
              (new_half j found.two_halves records given layout found.some found.few found.fold
              filled.bytes now.0 slots c agree is),
          area_beside_selector j found.two_halves records given layout found.some found.few
              found.fold filled.bytes now.0 slots c agree ∙ now.1,
        )
