-- What one request comes to.
use Rattle.std.proofs.Common.{◌≡◌, ◌⊎◌, inl, inr, false, true, List, [], Option, None, Result, ap}
use Rattle.std.proofs.Common.{refl, subst, ◌∙◌}
use Rattle.disk_model.specs.Disk.{State, IsHonestDisk}
use Rattle.disk_model.proofs.Laws.{unchanged_none}
use Rattle.mot_feed_lines.specs.Inner.{HasAnswered}
use Rattle.mot_lines.specs.Line.{IsParsed}
use Rattle.mot_lines.specs.declared.line.Line.{Line}
use Rattle.mot_numbers.specs.declared.refusal.Refusal.{Refusal}
use Rattle.mot_objects.specs.declared.command.Command.{Command}
use Rattle.mot_playout.specs.Runs.{ServerView}
use Rattle.mot_session.specs.Session.{command_in}
use Rattle.mot_update.proofs.Laws.{has_read}

-- false is not true
pub never : false ≡ true → ⊥
never e = absurd (cc)

-- a request for no command was answered, and the server only read
pub shown : {D : Type 0} (state : D → State) (server : ServerView D) (asked : List Command)
    → ((state server.disk).IsHonest → IsHonestDisk (state server.disk))
    → HasAnswered state server server asked None
shown state server asked sound = record {
  commands = [];
  are = inl refl;
  run = λ s holds honest. (
    [],
    (has_read server server (state server.disk) (state server.disk) s None (sound honest) refl
        refl honest (unchanged_none (state server.disk)) holds).0,
  );
}

none_of : {commands asked : List Command} → (commands ≡ []) ⊎ (commands ≡ asked) → asked ≡ []
    → commands ≡ []
none_of (inl none) is = none
none_of (inr same) is = same ∙ is

-- an answer to what was parsed is one to what was asked: where memory was wanted no command was run
pub parsed : {D : Type 0} (state : D → State) (old new : ServerView D)
    (request asked : Result Line Refusal) (fault : Option Refusal) → IsParsed request asked
    → HasAnswered state old new (command_in request) fault
    → HasAnswered state old new (command_in asked) fault
parsed state old new request asked fault (inl e) a =
    subst (λ r. HasAnswered state old new (command_in r) fault) e a
parsed state old new request asked fault (inr e) a = record {
  commands = a.commands;
  are = inl (none_of a.are (ap command_in e.0));
  run = a.run;
}
