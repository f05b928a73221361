use Rattle.std.proofs.Common.{◌≡◌, false, Bool, Some, arith, subst, sym}
use Rattle.std.proofs.lemmas.Bool.{ne_eqb}
use Rattle.std.specs.Prelude.{◌==◌, if◌then◌else◌}
use Rattle.mot_feed.proofs.feeding.follow.Goals as goal
use Rattle.mot_feed.specs.Feeding.{server_for}
use Rattle.mot_feed.specs.declared.manner.Manner.{Manner}
use Rattle.mot_journal.specs.Image.{Standing}
use Rattle.mot_player.specs.Place.{following}
use Rattle.mot_playout.specs.Runs.{ServerView, place_in}

-- a server that was told to follow stands where one stands that follows
told : {D : Type 0} (how : Manner) (old mid : ServerView D) (s : Standing)
    → (how.directory == 0) ≡ false → place_in mid s ≡ following how.early (place_in old s)
    → place_in mid s ≡ place_in (server_for how old) s
unfolding following
told how old mid s some is = subst (λ (b : Bool). place_in mid s ≡ place_in (record old {
  player = record old.player { follows = if b then old.player.follows else Some how.early };
}) s) (sym some) is

pub returns-then-how-gt0-clause-place : goal.returns-then-how-gt0-clause-place
returns-then-how-gt0-clause-place g c = λ s.
    told c.args.how c.args.server.now c.follow_changes.new.self s
    (ne_eqb c.args.how.directory 0 (let some = c.if-how-gt0.true in λ e. omega (arith, e, some)))
    (c.follow_changes.ensures.place s)
