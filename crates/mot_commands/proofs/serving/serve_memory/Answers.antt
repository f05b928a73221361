use Rattle.std.proofs.Common.{inl, inr, refl, subst, sym}
use Rattle.std.proofs.KnownBytes.{Keeps-refl}
use Rattle.std.specs.Io.KnownBytes.{Keeps}
use Rattle.mot_commands.specs.Commands.{IsUnmade, ServesMemory}
use Rattle.mot_commands.proofs.serving.serve_memory.Goals as goal
use Rattle.mot_outcome.specs.Outcome.{Finishes}

pub returns-then-not-is_valid : goal.returns-then-not-is_valid
returns-then-not-is_valid g c =
    let remains = g.R.Read.remaining c.args.reader.now in
    let old = g.W.Write.contents c.args.writer.now in
    let geometry = c.args.geometry in
    subst (λ (f : _). Finishes (λ r. IsUnmade geometry r × Keeps remains remains)
    (λ ending used. ServesMemory geometry ending used remains remains old old) f old old)
    (sym c.unbegun.ensures) (inl (
      (
        inr (refl, λ v. let e = c.if-not-is_valid.ensures.1 v in absurd (cc (e))),
        Keeps-refl _,
      ),
      record { untouched = tt; silent = Keeps-refl _ },
    ))

pub returns-in_default : goal.returns-in_default
returns-in_default g c =
    let remains = g.R.Read.remaining c.args.reader.now in
    let old = g.W.Write.contents c.args.writer.now in
    let geometry = c.args.geometry in
    subst (λ (f : _). Finishes (λ r. IsUnmade geometry r × Keeps remains remains)
    (λ ending used. ServesMemory geometry ending used remains remains old old) f old old)
    (sym c.unbegun-in_default.ensures)
    (inl ((inl refl, Keeps-refl _), record { untouched = tt; silent = Keeps-refl _ }))

pub returns-in_default-format : goal.returns-in_default-format
returns-in_default-format g c =
    let remains = g.R.Read.remaining c.args.reader.now in
    let old = g.W.Write.contents c.args.writer.now in
    let geometry = c.args.geometry in
    subst (λ (f : _). Finishes (λ r. IsUnmade geometry r × Keeps remains remains)
    (λ ending used. ServesMemory geometry ending used remains remains old old) f old old)
    (sym c.unbegun-in_default-format.ensures)
    (inl ((inl refl, Keeps-refl _), record { untouched = tt; silent = Keeps-refl _ }))

-- the disk that is served was just formatted
pub returns : goal.returns
returns g c =
    let unread = g.R.Read.remaining c.args.reader.now in
    let left = g.R.Read.remaining c.serve_disk.new.reader in
    let old = g.W.Write.contents c.args.writer.now in
    let new = g.W.Write.contents c.serve_disk.new.writer in
    let geometry = c.args.geometry in
    subst (λ (f : _). Finishes (λ r. IsUnmade geometry r × Keeps unread left)
    (λ ending used. ServesMemory geometry ending used unread left old new) f old new)
    (sym c.in_memory.ensures) (inr (record {
      valid = c.if-not-is_valid.ensures.0 refl;
      first = c.format.new.disk;
      formatted = c.in-Ok.ensures.makes.ok tt;
      served = c.serve_disk.ensures.ended;
    }))
