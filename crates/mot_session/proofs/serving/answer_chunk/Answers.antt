use Rattle.std.proofs.Common.{◌≡◌, List, ℕ, ◌+◌, ◌<◌, ◌≤◌, [], ◌∷◌, ◌++◌, refl, sym, ap, ◌∙◌, arith}
use Rattle.std.proofs.Common.{Fits, append_assoc, length, length-append, w64, ◌^◌}
use Rattle.std.proofs.lemmas.Result.{err_from_is_err_and}
use Rattle.mot_session.proofs.Requests.{goes_on-more, goes_on-none}
use Rattle.mot_session.proofs.Taken.{Taken, some_there, taken_none, taken_within, taken_line}
use Rattle.mot_session.proofs.serving.answer_chunk.Given as given
use Rattle.mot_session.proofs.serving.answer_chunk.Goals as goal
use Rattle.mot_session.proofs.serving.answer_chunk.Goals.{After-as_slice, After-add-2}

no_more : (n left bound : ℕ) → n + left ≤ bound → n ≤ bound
no_more n left bound le = omega arith

shorter : (rest line next : List ℕ) → rest ≡ line ++ 10 ∷ next → length next < length rest
shorter rest line next parts = omega (arith, ap length parts, length-append line (10 ∷ next))

fits : (n next rest most : ℕ) → next < rest → n + rest ≤ most → most < 2 ^ 64 → Fits w64 (n + 1)
fits n next rest most shorter bound below = omega arith

pub loop-line-init : goal.loop-line-init
loop-line-init g c = record {
  bound = omega arith;
  goes = goes_on-none c.args.server.now (g.D.Disk.state c.args.server.now.disk);
  taken = ([], refl, taken_none g.D.Disk.state c.args.server.now _ _ _);
}

-- the chunk up to the end of the line in hand
abbrev front : (g : given.Over) → After-as_slice g → List ℕ
front g c = c.loop-line.invariant.taken.0 ++ c.in-Some.line.now

-- what is behind it
abbrev parts : (g : given.Over) (c : After-as_slice g)
    → (rest : List ℕ) × (front g c ++ 10 ∷ rest ≡ c.args.chunk.now)
parts g c =
    let so_far = c.loop-line.invariant.taken in (
      c.in-Some.next.now,
      append_assoc so_far.0 c.in-Some.line.now (10 ∷ c.in-Some.next.now)
          ∙ ap (λ l. so_far.0 ++ l) (sym c.in-Some.ensures.parts) ∙ so_far.1,
    )

-- it was taken
taken : (g : given.Over) (c : After-as_slice g)
    → Taken g.D.Disk.state c.args.server.now c.args.hand.now c.args.lines.now
    (g.W.Write.contents c.args.writer.now) (front g c) c.loop-line.server c.add.new.self
    c.loop-line.lines (g.W.Write.contents c.loop-line.writer)
taken g c =
    taken_within c.loop-line.invariant.taken.2 c.in-Some.ensures.first c.add.ensures

pub loop-line-preserved : goal.loop-line-preserved
loop-line-preserved g c =
    let state = g.D.Disk.state in
    let here = (goal.at.loop-line-preserved g c).After-as_slice in
    let old = c.args.server.now in
    let mid = c.loop-line.server in
    let new = c.serve_line.new.server in
    let one = c.in_ok-serve_line.ensures.answered in
    let bound = c.loop-line.invariant.bound in
    record {
      bound = omega (
        arith,
        ap length c.in-Some.ensures.parts,
        length-append c.in-Some.line.now (10 ∷ c.in-Some.next.now),
        bound,
      );
      goes = goes_on-more old mid new (state old.disk) (state mid.disk) (state new.disk)
          c.loop-line.invariant.goes one.goes;
      taken = (
        front g here ++ 10 ∷ [],
        append_assoc (front g here) (10 ∷ []) c.in-Some.next.now ∙ (parts g here).1,
        taken_line (taken g here) c.as_slice.ensures.asks one c.clear.ensures,
      );
    }

pub loop-line-smaller : goal.loop-line-smaller
loop-line-smaller g c =
    shorter c.loop-line.rest.now c.in-Some.line.now c.in-Some.next.now c.in-Some.ensures.parts

pub overflow_add-lines : goal.overflow_add-lines
overflow_add-lines g c =
    let rest = c.loop-line.rest.now in
    let next = c.in-Some.next.now in
    fits c.loop-line.lines (length next) (length rest) (c.args.lines.now + length c.args.chunk.now)
    (shorter rest c.in-Some.line.now next c.in-Some.ensures.parts) c.loop-line.invariant.bound
    c.requires

pub returns-in_err-serve_line-clause-some : goal.returns-in_err-serve_line-clause-some
returns-in_err-serve_line-clause-some g c =
    let here = (goal.at.returns-in_err-serve_line-clause-some g c).After-as_slice in
    rw (err_from_is_err_and c.from_residual.result c.from_residual.ensures.1).1
    (some_there (taken g here) c.as_slice.ensures.asks (parts g here)
    c.in_err-serve_line.ensures.broken)

-- the whole chunk was taken
all_taken : (g : given.Over) (c : After-add-2 g)
    → Taken g.D.Disk.state c.args.server.now c.args.hand.now c.args.lines.now
    (g.W.Write.contents c.args.writer.now) c.args.chunk.now c.loop-line.server c.add-2.new.self
    c.loop-line.lines (g.W.Write.contents c.loop-line.writer)
all_taken g c =
    rw c.loop-line.invariant.taken.1 at
    (taken_within c.loop-line.invariant.taken.2 c.in_default.ensures.none c.add-2.ensures)

pub returns-clause-hand : goal.returns-clause-hand
returns-clause-hand g c = (all_taken g (goal.at.returns-clause-hand g c).After-add-2).in_hand

pub returns-clause-each : goal.returns-clause-each
returns-clause-each g c = (all_taken g (goal.at.returns-clause-each g c).After-add-2).each

pub returns-in_err-serve_line-clause-bound : goal.returns-in_err-serve_line-clause-bound
returns-in_err-serve_line-clause-bound g c =
    rw (err_from_is_err_and c.from_residual.result c.from_residual.ensures.1).1 tt

pub returns-in_err-serve_line-clause-hand : goal.returns-in_err-serve_line-clause-hand
returns-in_err-serve_line-clause-hand g c =
    rw (err_from_is_err_and c.from_residual.result c.from_residual.ensures.1).1 tt

pub returns-in_err-serve_line-clause-each : goal.returns-in_err-serve_line-clause-each
returns-in_err-serve_line-clause-each g c =
    rw (err_from_is_err_and c.from_residual.result c.from_residual.ensures.1).1 tt

pub returns-in_err-serve_line-clause-goes : goal.returns-in_err-serve_line-clause-goes
returns-in_err-serve_line-clause-goes g c =
    let state = g.D.Disk.state in
    let old = c.args.server.now in
    let mid = c.loop-line.server in
    let new = c.serve_line.new.server in
    goes_on-more old mid new (state old.disk) (state mid.disk) (state new.disk)
    c.loop-line.invariant.goes c.in_err-serve_line.ensures.broken.goes

pub returns-clause-bound : goal.returns-clause-bound
returns-clause-bound g c =
    no_more c.loop-line.lines (length c.loop-line.rest.now)
    (c.args.lines.now + length c.args.chunk.now) c.loop-line.invariant.bound

pub returns-clause-goes : goal.returns-clause-goes
returns-clause-goes g c = c.loop-line.invariant.goes

pub returns-clause-some : goal.returns-clause-some
returns-clause-some g c = tt
