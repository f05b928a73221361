use Rattle.std.proofs.Common.{ℕ, ◌≢◌, ◌≤◌, ◌<◌, ◌↔◌, All, Bool, IsTrue, List, MatchBool, arith, false, length, refl, rules, tests, true}
use Rattle.std.specs.List.{AllWithin, HoldsAt}
use Rattle.std.proofs.lemmas.Iterator.{YieldsList-from_slice, cases_from_all}
use Rattle.mot_line_folder.proofs.names.is_plain.Goals as goal

abbrev IsShown : ℕ → Type 0
IsShown byte = (32 ≤ byte) × (byte ≢ 127)

all_shown : (is : Bool) (name : List ℕ)
    → MatchBool is (AllWithin IsShown name 0 (length name))
    ((k : ℕ) × (k < length name) × HoldsAt (λ byte. ¬ (IsShown byte)) name k)
    → IsTrue is ↔ All IsShown name
all_shown true name shown = ((λ yes k d below. shown k d (omega arith) below), (λ all. refl))
all_shown false name other =
    ((λ no. let h = no in cc), (λ all. absurd (other.2 0 (all other.0 0 other.1))))

pub returns : goal.returns
returns c =
    all_shown c.all.result c.args.name.now
    (cases_from_all _ _ _ IsShown (λ byte. ¬ (IsShown byte)) c.all.ensures.ran
    (YieldsList-from_slice c.args.name.now cc) (λ x q k. search (rules, tests))
    (λ x q k. search (rules, tests)))
