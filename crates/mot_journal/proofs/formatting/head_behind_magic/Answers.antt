use Rattle.std.proofs.Common.{◌≡◌, List, ℕ, [], ◌++◌, length, replicate, refl, ap}
use Rattle.std.specs.Int.{w16, w32, to_be_bytes}
use Rattle.mot_journal.specs.Inner.Format.{behind_magic}
use Rattle.mot_journal.proofs.formatting.head_behind_magic.Goals as goal
use Rattle.mot_numbers.specs.declared.geometry.Geometry.{Geometry}

-- the bytes between the magic and the halves, piece by piece
pieces : (g : Geometry) (x0 x1 x2 x3 x4 x5 x6 x7 d : List ℕ)
    → x0 ≡ [] → x1 ≡ x0 ++ replicate 8 0 → x2 ≡ x1 ++ to_be_bytes w16 g.objects
    → x3 ≡ x2 ++ to_be_bytes w16 g.segment → x4 ≡ x3 ++ to_be_bytes w16 g.address
    → x5 ≡ x4 ++ to_be_bytes w16 g.packet → d ≡ to_be_bytes w32 g.area
    → x6 ≡ x5 ++ d → x7 ≡ x6 ++ replicate 36 0 → x7 ≡ behind_magic g
pieces g x0 x1 x2 x3 x4 x5 x6 x7 d e0 e1 e2 e3 e4 e5 ed e6 e7 =
    rw (e7, e6, ed, e5, e4, e3, e2, e1, e0) refl

pub returns-clause-value : goal.returns-clause-value
returns-clause-value c =
    pieces c.args.geometry.now _ _ _ _ _ _ _ _ _ c.new-head.ensures
    c.array_append.ensures.items c.array_append_number.ensures.items
    c.array_append_number-2.ensures.items c.array_append_number-3.ensures.items
    c.array_append_number-4.ensures.items c.to_be_bytes.ensures c.array_append-2.ensures.items
    c.array_append-3.ensures.items

pub returns-clause-len : goal.returns-clause-len
returns-clause-len c = ap length (returns-clause-value c)
