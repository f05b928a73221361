use Rattle.mot_objects.proofs.Sound.{commands-sound}
use Rattle.mot_objects.proofs.carousel.Carousel.new.Goals as goal

pub returns-clause-sound : goal.returns-clause-sound
returns-clause-sound c = commands-sound
