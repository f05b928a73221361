use Rattle.std.proofs.Common.{◌+◌, ◌<◌, ◌≤◌, [], ◌∙◌, length, refl, sym, ap, subst, arith}
use Rattle.std.proofs.lemmas.List.Elements.{All-from_get_or}
use Rattle.disk_store.specs.Calls.{Wrote, after_call, no_content}
use Rattle.disk_store.specs.Content.{Content, IsLooseIn, after_overwrite}
use Rattle.disk_store.specs.File.{calls_in, ram_content}
use Rattle.disk_store.proofs.FileCalls.{IsWhole, content_now, whole_write}
use Rattle.disk_store.proofs.Loose.{loose_within}
use Rattle.disk_store.proofs.RamCalls.{was_noted, whole}
use Rattle.disk_store.proofs.Recorded.{wrote as wrote_disk}
use Rattle.disk_store.proofs.memory.ram.RamDiskDisk.write.Goals as goal

pub invariant_of-self : goal.invariant_of-self
invariant_of-self c =
    let s = c.args.self.now in
    let bytes = c.args.bytes.now in
    let noted = was_noted c.wrote.result _ c.wrote.ensures.same c.wrote.ensures.ok in
    let now = content_now [] _ _ (Wrote c.args.at bytes) noted in
    let n = length s.bytes.items in
    let fits : c.args.at + length bytes ≤ n = omega (arith, c.requires, (whole s).len_is) in
    let are_bytes = All-from_get_or (λ b. b < 256) bytes 0
    (λ i within. omega (arith, c.type_inv.bytes i)) in
    let then = subst (IsWhole n) (sym now)
    (whole_write n (ram_content s) (whole s) c.args.at bytes fits are_bytes) in
    record {
      is_noted = ap (λ (u : Content). u.bytes) now
          ∙ ap (after_overwrite c.args.at bytes) s.is_noted
          ∙ sym c.overwrite.ensures.bytes;
      loose_len = then.loose_len ∙ then.len_is ∙ sym c.overwrite.ensures.len;
      are_bytes = c.overwrite.ensures.are_bytes;
    }

pub returns-clause-range : goal.returns-clause-range
returns-clause-range c =
    let s = c.args.self.now in
    let call = Wrote c.args.at c.args.bytes.now in
    let noted = was_noted c.wrote.result _ c.wrote.ensures.same c.wrote.ensures.ok in
    wrote_disk (after_call []) no_content (calls_in s) _ (ram_content s) _ _ _ _ _ _ _ refl call
    (whole s).loose_len c.args.at c.args.bytes.now refl c.requires (whole s).are_bytes noted
    (content_now [] _ _ call noted)

pub returns-clause-marked : goal.returns-clause-marked
returns-clause-marked c = λ k within.
    let s = c.args.self.now in
    let noted = was_noted c.wrote.result _ c.wrote.ensures.same c.wrote.ensures.ok in
    let now = content_now [] _ _ (Wrote c.args.at c.args.bytes.now) noted in
    subst (λ u. IsLooseIn u k) (sym now)
    (loose_within (ram_content s) c.args.at (length c.args.bytes.now) c.requires
    (whole s).loose_len k within)
