-- What is shown of a carousel, with its bodies and without them.
use Rattle.std.proofs.Common.{◌≡◌, ◌∙◌, ◌++◌, ℕ, List, [], ◌∷◌, ap, inl, inr, length, map, refl}
use Rattle.std.proofs.Common.{suc, Err, Global, Ok, Result, Some, Vec, subst}
use Rattle.std.specs.List.{flat_map}
use Rattle.std.specs.Io.KnownBytes.{Keeps}
use Rattle.std.specs.Prelude.{Bool, IfOk, MatchResult, Option}
use Rattle.disk_model.specs.Disk.{OnlySyncs, State}
use Rattle.mot_cli.specs.declared.task.Form.{Form}
use Rattle.mot_cli.specs.declared.task.Form.TheVariants.{Json, Words}
use Rattle.mot_commands.specs.Inner.Shown.{object_json_beside, report_beside, shown_beside}
use Rattle.mot_commands.specs.Json.{numbers_json, object_json, object_members, report_line}
use Rattle.mot_commands.specs.Report.{Reports, clean_line, layout_line, report_in, shown_in}
use Rattle.mot_journal.specs.Journal.IsReadingRefusal.{no_memory}
use Rattle.mot_journal.specs.declared.layout.Layout.{Layout}
use Rattle.mot_lines.proofs.Laws.{listing_text-beside}
use Rattle.mot_numbers.specs.declared.refusal.Refusal.{Refusal}
use Rattle.mot_numbers.specs.declared.refusal.Refusal.TheVariants.{OutOfMemory}
use Rattle.mot_objects.specs.Stands.{AreBodiesOf, carousel_of, objects_of}
use Rattle.mot_objects.specs.declared.carousel.Carousel.{Carousel}
use Rattle.mot_objects.specs.declared.object.Object.{Object}
use Rattle.mot_outcome.specs.Outcome.{Prints}
use Rattle.mot_update.specs.Opening.{IsUnopened}

counted : (objects : List Object) (bodies : List (List ℕ))
    → map length bodies ≡ map (λ (o : Object). o.length) objects
    → length objects ≡ length (objects_of objects bodies)
counted [] bodies e = refl
counted (o ∷ objects) [] e = absurd (cc)
counted (o ∷ objects) (body ∷ bodies) e =
    ap suc (counted objects bodies
    (let rest : map length bodies ≡ map (λ (x : Object). x.length) objects = cc in rest))

lines : (objects : List Object) (bodies : List (List ℕ))
    → map length bodies ≡ map (λ (o : Object). o.length) objects
    → flat_map object_json_beside objects ≡ flat_map object_json (objects_of objects bodies)
lines [] bodies e = refl
lines (o ∷ objects) [] e = absurd (cc)
lines (o ∷ objects) (body ∷ bodies) e =
    let first : o.length ≡ length body = cc in
    let rest : map length bodies ≡ map (λ (x : Object). x.length) objects = cc in
    ap (λ n. object_members o.tid o.version o.content n o.name o.mime
    ++ flat_map object_json_beside objects) first
    ∙ ap (λ l. object_members o.tid o.version o.content (length body) o.name o.mime ++ l)
    (lines objects bodies rest)

-- it is the same
pub shown-beside : (form : Form) (c : Carousel) (bodies : List (List ℕ)) → AreBodiesOf c bodies
    → shown_beside form c ≡ shown_in form (carousel_of c bodies)
shown-beside Words c bodies are = listing_text-beside c bodies are
shown-beside Json c bodies are =
    ap (λ n. numbers_json c.period c.directory c.cursor n
    ++ flat_map object_json_beside c.objects.items) (counted c.objects.items bodies are)
    ∙ ap (λ l. numbers_json c.period c.directory c.cursor
    (length (objects_of c.objects.items bodies)) ++ l) (lines c.objects.items bodies are)

-- and so is a report
pub report-beside : (form : Form) (c : Carousel) (bodies : List (List ℕ)) (clean : Bool)
    (layout : Layout) → AreBodiesOf c bodies
    → report_beside form c clean layout ≡ report_in form (carousel_of c bodies) clean layout
report-beside Words c bodies clean layout are =
    ap (λ l. l ++ clean_line clean ++ layout_line layout) (shown-beside Words c bodies are)
report-beside Json c bodies clean layout are =
    ap (λ l. l ++ report_line clean layout) (shown-beside Json c bodies are)

-- what was printed of a disk that was only synced is told of it; or there was no memory for that, as
-- there may be none for an opening
pub told : {E : Type 0} (start now : State) (Done : List ℕ → Type 0) (ending : Option Refusal)
    (bytes : List ℕ) (made : Result (Vec ℕ Global) E) (old new : Option (List ℕ))
    → OnlySyncs start now → now.failures ≡ start.failures → Done bytes
    → IfOk made (λ text. text.items ≡ bytes)
    → MatchResult made (λ text. Prints ending text.items old new)
    (λ _. (ending ≡ Some OutOfMemory) × Keeps old new)
    → Reports (λ refusal. IsUnopened refusal start now) Done ending old new
told start now Done ending bytes (Ok text) old new syncs calm done is prints =
    inr (bytes, done, subst (λ t. Prints ending t old new) is prints)
told start now Done ending bytes (Err e) old new syncs calm done is lacks = inl (
  OutOfMemory,
  lacks.0,
  record { why = no_memory refl; calm = inr calm; still = syncs.still },
  lacks.1,
)
