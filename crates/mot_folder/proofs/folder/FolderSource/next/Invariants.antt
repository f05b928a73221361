use Rattle.std.proofs.Common.{◌≡◌, ◌-◌, ◌≤◌, List, length, true}
use Rattle.mot_folder.specs.Inner.Knowing.{is_fine_look}
use Rattle.mot_folder.specs.Inner.Reading.{LookStart, LookedSince}
use Rattle.mot_shelf.specs.Reader.{view}
use Rattle.mot_update.specs.Told.{Answer}
use Rattle.mot_objects.specs.declared.command.Item.{Item}
use Rattle.mot_folder.proofs.folder.FolderSource.next.Given as goal

abbrev pub invariant-loop-self : goal.invariant-loop-self
invariant-loop-self g l = record {
  names : l.self.names.names.items ≡ l.initial.self.names.names.items;
  goes : l.initial.self.place ≤ l.self.place;
  looked : (since : LookStart) (told : List Answer) (gave : List Item)
      → LookedSince since (view g.S.System.calls l.initial.self.shelf)
      l.initial.self.types.now l.initial.self.files l.initial.self.names.names.items
      l.initial.self.place l.initial.self.report l.initial.self.sizes.waiting
      l.initial.self.is_kept told gave
      → LookedSince since (view g.S.System.calls l.self.shelf) l.self.types.now l.self.files
      l.self.names.names.items l.self.place l.self.report l.self.sizes.waiting l.self.is_kept told
      gave;
  fine : is_fine_look l.self.report.any_refused l.self.any_passed ≡ true
      → (is_fine_look l.initial.self.report.any_refused l.initial.self.any_passed ≡ true)
      × (l.self.place ≡ l.initial.self.place);
}

abbrev pub decreases-loop-self : goal.decreases-loop-self
decreases-loop-self g l = length l.self.names.names.items - l.self.place
