-- A whole turn that was played reads as the carousel that the disk stands for.
use Rattle.std.proofs.Common.{◌≡◌, ℕ, List, sym, ap, ◌∙◌, subst}
use Rattle.disk_model.specs.Disk.{State, IsHonestDisk}
use Rattle.mot_journal.specs.Image as journal
use Rattle.mot_numbers.specs.declared.geometry.Geometry.{Geometry}
use Rattle.mot_objects.specs.Carousel as whole
use Rattle.mot_objects.specs.Carousel.{IsSound}
use Rattle.mot_player.specs.Laws.{IsAtTurnsBeginning, IsPlace}
use Rattle.mot_player.specs.Place.{Place}
use Rattle.mot_player.specs.Reading.{ReadsAs}
use Rattle.mot_player.specs.PlayerView.{AreBodiesFor, PlayerView, place_of, turn_with}
use Rattle.mot_player.specs.Turn.{IsTurnOf}
use Rattle.mot_player.proofs.Laws.{turns_read_as_their_carousels}
use Rattle.mot_repository.specs.Repository.{RepositoryView, Holds}
use Rattle.mot_repository.proofs.Laws.{standings-are_sound}
use Rattle.mot_playout.specs.Inner.{PlaysCarousel}
use Rattle.mot_playout.specs.Playing.{HasPlayedTurn}
use Rattle.mot_playout.specs.Runs.{bodies_of}
use Rattle.mot_playout.proofs.Going.{HasPlayedTurn-read, HasPlayedTurn-steps}
use Rattle.mot_playout.proofs.Turns.{bodies_kept}

-- what the disk stands for is sound
pub sound_carousel : (view : RepositoryView) (s : journal.Standing) (state : State)
    → IsHonestDisk state → Holds view s state → IsSound s.carousel
sound_carousel view s state sound holds =
    (standings-are_sound state.bytes s (sound.images state.bytes sound.bytes).are_bytes
    (holds.each state.bytes sound.bytes).stands).0

-- a whole turn, played from its beginning, reads as the carousel that the disk stands for
pub turn_reads : (view : RepositoryView) (s : journal.Standing) (state : State)
    (player : PlayerView) (packets : List (List ℕ)) (new : Place)
    → IsHonestDisk state → Holds view s state
    → PlaysCarousel view.carousel view.journal.geometry.segment player
    → ((bodies : List (List ℕ)) → AreBodiesFor player.turn bodies
    → IsPlace (place_of player bodies))
    → HasPlayedTurn (place_of player (bodies_of s.carousel)) packets new
    → IsAtTurnsBeginning (place_of player (bodies_of s.carousel))
    → ReadsAs packets s.carousel s.geometry.segment
turn_reads view s state player packets new sound holds plays place turn begins =
    let bodies : List (List ℕ) = bodies_of s.carousel in
    let kept = bodies_kept view s holds.agrees in
    let whole_carousel = sound_carousel view s state sound holds in
    let is : IsTurnOf (turn_with player.turn bodies) s.carousel view.journal.geometry.segment =
    subst (λ (k : whole.Carousel).
    IsTurnOf (turn_with player.turn bodies) k view.journal.geometry.segment) (sym kept.1)
    (plays.is_turn bodies kept.0) in
    let size : player.segment_size ≡ s.geometry.segment =
    plays.size_is ∙ ap (λ (g : Geometry). g.segment) holds.agrees.geometry in
    subst (ReadsAs packets s.carousel) size
    (turns_read_as_their_carousels (place_of player bodies) new s.carousel turn.before
    turn.played.sents packets (place bodies (plays.sized bodies kept.0))
    (subst (IsTurnOf (turn_with player.turn bodies) s.carousel) (sym plays.size_is) is)
    whole_carousel begins
    (HasPlayedTurn-steps (place_of player bodies) new packets turn) turn.ends
    (HasPlayedTurn-read (place_of player bodies) new packets turn))
