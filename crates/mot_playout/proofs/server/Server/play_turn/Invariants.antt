use Rattle.std.proofs.Common.{◌≡◌, ◌≤◌, ◌+◌, length}
use Rattle.disk_model.specs.Disk.{OnlyReads}
use Rattle.mot_journal.specs.Image.{Standing}
use Rattle.mot_player.specs.AnyBodies.{PlaysOn}
use Rattle.mot_player.specs.Laws.{bytes_left}
use Rattle.mot_repository.specs.Repository.{Holds}
use Rattle.mot_playout.specs.Playing.{IsGoing, bytes_of_packets}
use Rattle.mot_playout.specs.Runs.{place_in}
use Rattle.mot_playout.proofs.server.Server.play_turn.Given as goal

abbrev pub invariant-loop-packets : goal.invariant-loop-packets
invariant-loop-packets g l = record {
  view : l.self.view ≡ l.fn.self.view;
  reads : OnlyReads (g.D.Disk.state l.fn.self.disk) (g.D.Disk.state l.self.disk);
  calm : (g.D.Disk.state l.self.disk).failures ≡ (g.D.Disk.state l.fn.self.disk).failures;
  cost : (g.D.Disk.state l.self.disk).calls
      ≤ (g.D.Disk.state l.fn.self.disk).calls + length l.packets.items;
  going : (s : Standing) → Holds l.fn.self.view s (g.D.Disk.state l.fn.self.disk)
      → (g.D.Disk.state l.self.disk).IsHonest
      → IsGoing (place_in l.fn.self s) (bytes_of_packets l.packets.items) (place_in l.self s);
  of_some : PlaysOn l.fn.self.player (bytes_of_packets l.packets.items) l.self.player;
}

abbrev pub decreases-loop-packets : goal.decreases-loop-packets
decreases-loop-packets g l = bytes_left l.self.player
