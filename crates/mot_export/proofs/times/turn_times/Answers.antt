use Rattle.std.proofs.Common.{◌≡◌, ◌∙◌, ◌∷◌, ℕ, [], ap, length, sym}
use Rattle.std.proofs.lemmas.Result.{IfOk-weaker}
use Rattle.std.specs.Prelude.{None, Option}
use Rattle.mot_directory.specs.Directory.{bytes_of_directory}
use Rattle.mot_directory.specs.Entries.{directory_of}
use Rattle.mot_objects.specs.Stands.{carousel_of}
use Rattle.mot_player.specs.Turn.{turn_of_carousel}
use Rattle.mot_export.specs.Inspecting.{rates_of, times_of}
use Rattle.mot_export.proofs.Filled.{carousel-times}
use Rattle.mot_export.proofs.times.turn_times.Goals as goal

pub returns-in-Some-clause-times : goal.returns-in-Some-clause-times
returns-in-Some-clause-times c = λ bodies are.
    let size : ℕ = c.args.segment_size in
    let k = c.args.carousel.now in
    let turn = turn_of_carousel (carousel_of k bodies) size in
    let is : c.len-directory.result
    ≡ length (bytes_of_directory (directory_of (carousel_of k bodies) size)) =
    c.len-directory.ensures ∙ c.in_ok-directory_bytes.field-0.ok.0
    ∙ ap length (c.in_ok-directory_bytes.ensures.written bodies are) in
    IfOk-weaker c.times_at.result _ _ (λ times so. so
    ∙ carousel-times (c.in-Some.rate ∷ []) size c.len-directory.result k bodies are is
    ∙ ap (λ (rate : Option ℕ). times_of (rates_of rate) size turn) (sym c.in-Some.is))
    c.times_at.ensures.times

pub returns-in-None-clause-times : goal.returns-in-None-clause-times
returns-in-None-clause-times c = λ bodies are.
    let size : ℕ = c.args.segment_size in
    let k = c.args.carousel.now in
    let turn = turn_of_carousel (carousel_of k bodies) size in
    let is : c.len-directory.result
    ≡ length (bytes_of_directory (directory_of (carousel_of k bodies) size)) =
    c.len-directory.ensures ∙ c.in_ok-directory_bytes.field-0.ok.0
    ∙ ap length (c.in_ok-directory_bytes.ensures.written bodies are) in
    IfOk-weaker c.times_at-in-None.result _ _ (λ times so. so
    ∙ carousel-times (rates_of None) size c.len-directory.result k bodies are is
    ∙ ap (λ (rate : Option ℕ). times_of (rates_of rate) size turn) (sym c.in-None.is))
    c.times_at-in-None.ensures.times
