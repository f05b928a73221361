use Rattle.mot_playout.specs.Attempts.{fault_of}
use Rattle.std.proofs.Common.{◌≡◌, ◌∙◌, ℕ, List, Option, None, Some, ap, inl, inr, refl, subst, sym}
use Rattle.disk_model.specs.Disk.{IsStill}
use Rattle.mot_commands.specs.Serving.{Serves, ServesTill}
use Rattle.mot_commands.specs.Serving.OpensFor.{opened, unopened}
use Rattle.mot_commands.proofs.Opened.{opens_to}
use Rattle.mot_commands.proofs.serving.serve_disk.Goals as goal
use Rattle.mot_journal.specs.Journal.IsReadingRefusal.{no_memory}
use Rattle.mot_numbers.specs.declared.refusal.Refusal.{Refusal}
use Rattle.mot_numbers.specs.declared.refusal.Refusal.TheVariants.{OutOfMemory, ReadFault}
use Rattle.mot_numbers.specs.declared.refusal.Refusal.TheVariants.{WriteFault}
use Rattle.mot_playout.specs.Runs.{ServerView}
use Rattle.mot_session.specs.Served.{TakesInput}
use Rattle.mot_session.specs.declared.serving.TheConstants.{MAX_READS}
use Rattle.std.proofs.KnownBytes.{Keeps-refl}

pub returns-in-Err-clause-ended : goal.returns-in-Err-clause-ended
returns-in-Err-clause-ended g c =
    let state = g.D.Disk.state in
    let opens = c.in-Err.ensures in
    let remains = g.R.Read.remaining c.args.reader.now in
    let old = g.W.Write.contents c.args.writer.now in
    subst (λ (e : _). Serves state e.disk (fault_of e.result) remains remains old old
    (state c.args.disk)) (sym c.unopened.ensures) (unopened c.in-Err.refused.refusal refl
    (record { why = opens.refused; calm = opens.calm; still = opens.only_syncs.still })
    (Keeps-refl _, Keeps-refl _))

pub returns-clause-ended : goal.returns-clause-ended
returns-clause-ended g c =
    let state = g.D.Disk.state in
    let opens = c.in-Ok.ensures in
    let server = c.in-Ok.server in
    let last = c.serve-fault.new.server in
    let disk = c.into_disk.result in
    let calls = c.serve-fault.ensures in
    let remains = g.R.Read.remaining c.args.reader.now in
    let left = g.R.Read.remaining c.serve-fault.new.reader in
    let old = g.W.Write.contents c.args.writer.now in
    let new = g.W.Write.contents c.serve-fault.new.writer in
    let start = state c.args.disk in
    let ends = λ (ending : Option Refusal). Serves state disk ending remains left old new start in
    let Input : Option Refusal → (first last : ServerView g.row.D.Denot) → Type 0 = λ ending first last.
    (input : List ℕ) × TakesInput MAX_READS remains left input
    × ServesTill state disk ending left input old new first last in
    let served : (ending : Option Refusal) → Input ending server last → ends ending = λ ending is.
    opened (opens_to state c.args.disk disk server last (Input ending) g.met.D.Disk.sound
    opens.only_syncs opens.opened opens.going opens.at_start (sym c.into_disk.ensures) is) in
    rw c.ended_with.ensures (subst ends (sym c.result_of.ensures) (elim calls.faults [
      | inl is ↦ let r = calls.ended is in subst ends (sym is) (served None (r.0, r.1, (r.2, r.4)))
      | inr (inl is) ↦ let r = calls.none is in
          let same = c.into_disk.ensures ∙ ap (λ s. s.disk) r.1 in
          subst ends (sym is) (unopened OutOfMemory refl (record {
            why = no_memory refl;
            calm = inr (subst (λ (d : _). (state d).failures ≡ start.failures) (sym same)
                opens.calm);
            still = subst (λ (d : _). (state d).IsHonest → IsStill start (state d)) (sym same)
                opens.only_syncs.still;
          }) (r.2, r.3))
      | inr (inr (inl is)) ↦ let r = calls.unread is in
          subst ends (sym is) (served (Some ReadFault) (r.0, r.1, r.3))
      | inr (inr (inr is)) ↦ let r = calls.unwritten is in
          subst ends (sym is) (served (Some WriteFault) (r.0, r.1, (c.serve-fault.result.lines, r.2)))
    ]))
