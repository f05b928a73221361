use Rattle.std.proofs.Common.{◌≤◌, length}
use Rattle.mot_folder.specs.Inner.Listing.{ReadsSome, stage_of}
use Rattle.mot_folder.proofs.listing.read_names.Given as goal
use Rattle.mot_shelf.specs.Gives.{GoesOnSo}
use Rattle.mot_shelf.specs.Reader.{reader_path, view}

abbrev pub invariant-loop : goal.invariant-loop
invariant-loop g l = record {
  some : GoesOnSo (view g.S.System.calls l.initial.shelf) (view g.S.System.calls l.shelf)
      (λ given after. ReadsSome l.types
      (stage_of (reader_path l.initial.shelf) given l.initial.report l.initial.names)
      (stage_of (reader_path l.shelf) after l.report l.names)
      × (l.counter ≤ length after.listed));
}
