use Rattle.std.proofs.Common.{◌≡◌, ◌++◌, refl, rules}
use Rattle.std.specs.Prelude.{codes, string_bytes}
use Rattle.std.proofs.lemmas.Result.{err_from_is_err_and}
use Rattle.mot_endpoints.specs.Packets.BeginsNone.{no_memory, unbegun}
use Rattle.mot_endpoints.proofs.Exits.{err_of}
use Rattle.mot_endpoints.proofs.packets.new_file.Goals as goal

pub returns-in_err-beside : goal.returns-in_err-beside
returns-in_err-beside g c =
    let told = err_from_is_err_and c.from_residual.result c.from_residual.ensures.1 in
    rw told.1 (no_memory told.2 refl)

pub returns-in_err-handle : goal.returns-in_err-handle
returns-in_err-handle g c =
    let named : string_bytes c.in_ok-beside.beside ≡ c.args.path.now ++ codes ".new" = search rules in
    rw (err_of {r = c.from_residual-in_err-handle.result} c.from_residual-in_err-handle.ensures.1)
    (unbegun (rw named at (rw c.as_str.ensures.value at c.in_err-handle.ensures)))

pub returns : goal.returns
returns g c = record {
  its_path = refl;
  its_beside = search rules;
  begun = rw c.as_str.ensures.value at c.in_ok-handle.ensures;
}
