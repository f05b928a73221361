-- The definitions, computed on worked rows.
use Rattle.std.proofs.Common.{◌≡◌, ◌∷◌, [], List, Ok, Err, refl}
use Rattle.std.specs.Prelude.{codes}
use Rattle.mot_endpoints.specs.Packets.{mark, writes_to}
use Rattle.mot_files.specs.Call.{Call, opened, synced, wrote}
use Rattle.mot_files.specs.declared.system.Fault.TheVariants.{Busy}
use Rattle.mot_files.specs.declared.system.Handle.{Handle}
use Rattle.mot_files.specs.declared.system.How.TheVariants.{Stream}

pipe : Handle
pipe = record { slot = 3 }

log : Handle
log = record { slot = 4 }

-- one write is cut, one is to another handle, one fails, and one is taken whole
calls : List Call
calls =
    opened (codes "p") Stream (Ok pipe) ∷ wrote pipe (codes "one") (Ok 2)
    ∷ wrote log (codes "line") (Ok 4) ∷ wrote pipe (codes "two") (Err Busy) ∷ synced pipe (Ok tt)
    ∷ wrote pipe (codes "six") (Ok 3) ∷ []

written : writes_to pipe calls
    ≡ mark pipe ∷ codes "on" ∷ mark pipe ∷ [] ∷ mark pipe ∷ codes "six" ∷ []
unfolding pipe log calls
written = refl
