-- What is known of a disk that was just opened.
use Rattle.std.proofs.Common.{◌≡◌}
use Rattle.std.specs.Prelude.{IsFalse}
use Rattle.disk_model.specs.Disk.{State, IsHonestDisk, Keeps, OnlySyncs, Throughout}
use Rattle.disk_model.proofs.Laws.{joins}
use Rattle.mot_journal.specs.Image.{Standing}
use Rattle.mot_numbers.specs.Geometry.{packet_room}
use Rattle.mot_player.specs.Place.{opened_place}
use Rattle.mot_player.specs.Turn.{turn_of_carousel}
use Rattle.mot_commands.specs.Serving.{OpensTo}
use Rattle.mot_update.specs.Opening.{OfClean}
use Rattle.mot_update.proofs.Laws.{AllAre, held, openable, opened_throughout}
use Rattle.mot_repository.specs.OnDisk.{OnDisk}
use Rattle.mot_repository.specs.Repository.{Agrees, IsOf, Holds}
use Rattle.mot_repository.specs.Opening.{IsOpened}
use Rattle.mot_playout.specs.Runs.{ServerView, place_in}

-- a session on a server that was opened is one from the disk's standing on
pub opens_to : {D : Type 0} (state : D → State) (start disk : D) (server new : ServerView D)
    (P : ServerView D → ServerView D → Type 0)
    → ((disk : D) → (state disk).IsHonest → IsHonestDisk (state disk))
    → OnlySyncs (state start) (state server.disk)
    → ((state server.disk).IsHonest → IsOpened (state start) (state server.disk) server.view)
    → IsFalse server.view.halted
    → ((s : Standing) → Agrees server.view s
    → place_in server s ≡ opened_place s.geometry.address (packet_room s.geometry)
    s.geometry.segment (turn_of_carousel s.carousel s.geometry.segment))
    → new.disk ≡ disk → P server new → OpensTo state disk (state start) P
opens_to state start disk server new P sound opens opened going at_start is p = record {
  first = server;
  last = new;
  on_disk = is;
  going = going;
  openable = openable (state start) (state server.disk) (state server.disk) server.view
      (sound start) (sound server.disk) opens opened going (λ is. is);
  fresh = λ s honest all.
      let holds = held (state start) (state server.disk) (state server.disk) server.view
      (sound start) (sound server.disk) opens opened going (λ is. is) s honest all in record {
        stands = record { agrees = holds.agrees; holds = λ _. holds };
        opened = at_start s holds.agrees;
      };
  leads = p;
}

-- what was opened of a disk that stands for something holds it, and migrates it
module _ {D : Type 0} (state : D → State) (start : D) (repository new : OnDisk D)
    (sound : (disk : D) → (state disk).IsHonest → IsHonestDisk (state disk))
    (opens : OnlySyncs (state start) (state repository.disk))
    (opened : (state repository.disk).IsHonest
    → IsOpened (state start) (state repository.disk) repository.view)
    (going : IsFalse repository.view.halted)
    (keeps : Keeps (state repository.disk) (state new.disk)) where
  -- a disk whose images all stand for one thing is held as that once it is opened
  pub migrates_held : (s : Standing) → (state new.disk).IsHonest → AllAre s (state start)
      → Holds repository.view s (state repository.disk)
  migrates_held = held (state start) (state repository.disk) (state new.disk) repository.view
      (sound start) (sound repository.disk) opens opened going keeps.frame.was_honest

  -- what a crash leaves of a migration, it leaves from the disk's opening on
  pub migrates_under : ((s : Standing) → Holds repository.view s (state repository.disk)
      → Throughout (state repository.disk) (state new.disk) (IsOf s))
      → OfClean (λ s. Throughout (state start) (state new.disk) (IsOf s)) (state start)
      (state new.disk)
  migrates_under any s honest each =
      let was = keeps.frame.was_honest honest in
      joins (state start) (state repository.disk) (state new.disk) (IsOf s) (IsOf s)
      (opened_throughout (state start) (state repository.disk) (IsOf s)
      (sound start (opens.keeps.was_honest was)) each (opens.still was))
      (any s (migrates_held s honest each)) (λ image is. is)
