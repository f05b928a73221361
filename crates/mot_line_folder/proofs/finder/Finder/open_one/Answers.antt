use Rattle.std.proofs.Common.{refl, ◌∙◌}
use Rattle.mot_line_folder.specs.Spooling.OnlyReads.{none}
use Rattle.mot_line_folder.proofs.OnlyReads.{and_then, finds_behind, finds_none, found_nothing}
use Rattle.mot_line_folder.proofs.finder.Finder.open_one.Goals as goal

pub loop-init : goal.loop-init
loop-init g c = record { reads = none refl; folder = refl }

pub returns-in_err-lines-clause-finds : goal.returns-in_err-lines-clause-finds
returns-in_err-lines-clause-finds g c =
    finds_none _ c.from_residual-in_err-lines.ensures.0
    (and_then c.loop.invariant.reads (found_nothing c.in_err-lines.ensures.finds))

pub returns-in-Some-2-clause-finds : goal.returns-in-Some-2-clause-finds
returns-in-Some-2-clause-finds g c =
    finds_behind c.loop.invariant.reads
    (rw c.loop.invariant.folder at (rw c.in-Some-2.is at c.in_ok-lines.ensures.finds))

pub loop-preserved : goal.loop-preserved
loop-preserved g c = record {
  reads = and_then c.loop.invariant.reads
      (found_nothing (rw c.in_default-2.is at c.in_ok-lines.ensures.finds));
  folder = c.open_named.ensures.folder ∙ c.loop.invariant.folder;
}
