use Rattle.std.proofs.Common.{◌≡◌, ◌++◌, ◌∙◌, [], List, ap, append_assoc, ℕ}
use Rattle.std.specs.List.{flat_map}
use Rattle.std.proofs.lemmas.Result.{IfOk-weaker}
use Rattle.mot_export.specs.Inspecting.{disk_members, filled_json, time_json}
use Rattle.mot_export.specs.Json.{json_line}
use Rattle.mot_export.proofs.shown.add_json.Goals as goal

-- texts that were added one after the other
appended : (old t1 t2 t3 t4 t5 t6 a b c d e f : List ℕ) → t1 ≡ old ++ a → t2 ≡ t1 ++ b
    → t3 ≡ t2 ++ c → t4 ≡ t3 ++ d → t5 ≡ t4 ++ e → t6 ≡ t5 ++ f
    → t6 ≡ old ++ (a ++ (b ++ (c ++ (d ++ (e ++ [])))) ++ f)
appended old t1 t2 t3 t4 t5 t6 a b c d e f e1 e2 e3 e4 e5 e6 =
    let all : t6 ≡ (((((old ++ a) ++ b) ++ c) ++ d) ++ e) ++ f = cc in
    all ∙ simp append_assoc

pub returns : goal.returns
returns c =
    let told = c.args.told.now in
    let filled = filled_json told.geometry.segment in
    let same = c.from-size.ensures in
    IfOk-weaker c.add_times.result _ _ (λ added is.
    appended c.args.text.items _ _ _ _ _ added.items (json_line (disk_members told)) (filled 19)
    (filled 43) (filled 67) (filled 91) (flat_map time_json told.times.items)
    (c.in_ok-text.ensures ∙ ap (λ m. c.args.text.items ++ json_line m) c.disk_members.ensures)
    (rw same at c.in_ok-text-2.ensures) (rw same at c.in_ok-text-3.ensures)
    (rw same at c.in_ok-text-4.ensures) (rw same at c.in_ok-text-5.ensures)
    (is ∙ ap (λ t. c.in_ok-text-5.text.items ++ flat_map time_json t) c.deref.ensures.value))
    c.add_times.ensures
