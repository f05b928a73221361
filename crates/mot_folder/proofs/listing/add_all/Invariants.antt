use Rattle.std.proofs.Common.{◌≡◌, ◌++◌, ℕ, List, length}
use Rattle.mot_folder.specs.Inner.Listing.{GoesOver, stage_of}
use Rattle.mot_folder.specs.Listed.{names_in}
use Rattle.mot_folder.proofs.listing.add_all.Given as goal
use Rattle.mot_shelf.specs.Gives.{GoesOnSo}
use Rattle.mot_shelf.specs.Reader.{reader_path, view}

abbrev pub invariant-loop-name : goal.invariant-loop-name
invariant-loop-name g l = record {
  done : List (List ℕ);
  split : names_in l.bytes ≡ done ++ names_in l.rest;
  over : GoesOnSo (view g.S.System.calls l.initial.shelf) (view g.S.System.calls l.shelf)
      (λ given after. GoesOver l.types done
      (stage_of (reader_path l.initial.shelf) given l.initial.report l.initial.names)
      (stage_of (reader_path l.shelf) after l.report l.names));
}

abbrev pub decreases-loop-name : goal.decreases-loop-name
decreases-loop-name g l = length l.rest
