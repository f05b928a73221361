-- A journal stands where an image has its records.
use Rattle.std.proofs.Common.{◌≡◌, ℕ, List, Result, Ok, Err, ap, subst}
use Rattle.mot_journal.specs.declared.layout.Layout.{Layout}
use Rattle.mot_journal.specs.declared.record.Record.{Record}
use Rattle.mot_numbers.specs.Refusal.{◌>>=◌}
use Rattle.mot_journal.specs.Geometry.{selected_half}
use Rattle.mot_journal.specs.Image.{DiskRecords, records_of, journal_in_half, half_of}
use Rattle.mot_journal.specs.Image.{or_not_formatted}
use Rattle.mot_journal.specs.Journal.{JournalView, with_records, StandsWhere}
use Rattle.mot_journal.specs.Slot.{layout_of}
use Rattle.mot_journal.proofs.Laws.{found, geometry_read, is-same}
use Rattle.mot_numbers.specs.declared.geometry.Geometry.{Geometry}
use Rattle.mot_numbers.specs.declared.refusal.Refusal.{Refusal}

parts-cases : (g : Geometry) (half : ℕ) (layout : Layout) (r : Result (List Record) Refusal)
    (j : DiskRecords)
    → ◌>>=◌ r (λ records.
    found (record { geometry = g; half = half; layout = layout; records = records })) ≡ found j
    → (half ≡ j.half) × (layout ≡ j.layout)
parts-cases g half layout (Ok records) j e =
    let same = is-same (record { geometry = g; half = half; layout = layout; records = records }) j
    e in
    (ap (λ (k : DiskRecords). k.half) same, ap (λ (k : DiskRecords). k.layout) same)
parts-cases g half layout (Err refusal) j e = cc

-- a journal whose records an image has stands where the image has them
pub stands_where : (j : JournalView) (records : List Record) (image : List ℕ)
    → records_of image ≡ Ok (with_records j records) → StandsWhere j image
unfolding records_of
stands_where j records image read =
    let geometry = geometry_read image (with_records j records) read in
    let here = subst (λ o. ◌>>=◌ (or_not_formatted o)
    (λ g. journal_in_half g (selected_half image) (half_of g image))
    ≡ found (with_records j records)) geometry read in
    let is = parts-cases j.geometry (selected_half image) (layout_of (half_of j.geometry image)) _
    (with_records j records) here in
    record { geometry = geometry; half = is.0; layout = is.1 }
