-- A disk inspected, from its opening on.
use Rattle.std.proofs.Common.{◌≡◌, ◌∙◌, ℕ, suc, ◌+◌, List, [], ◌∷◌, length, map, Option, Some}
use Rattle.std.proofs.Common.{Result, Ok, Err, refl, sym, ap, subst, inr, Global, None, Vec}
use Rattle.std.specs.Prelude.{IfOk, IsFalse, MatchResult}
use Rattle.std.specs.Int.{div_ceil}
use Rattle.std.specs.List.{fold, sum_by}
use Rattle.std.specs.Io.KnownBytes.{Appends, Keeps}
use Rattle.disk_model.specs.Disk.{IsHonestDisk, State, OnlySyncs}
use Rattle.mot_carousel.specs.Gap.{IsLongestGap}
use Rattle.mot_cli.specs.declared.task.Form.{Form}
use Rattle.mot_journal.specs.Image.{Standing}
use Rattle.mot_journal.specs.Journal.{with_records}
use Rattle.mot_journal.specs.Slot.{slot_count}
use Rattle.mot_numbers.specs.Geometry.{packet_room}
use Rattle.mot_numbers.specs.declared.geometry.Geometry.{Geometry}
use Rattle.mot_numbers.specs.declared.refusal.Refusal.{Refusal}
use Rattle.mot_numbers.specs.declared.refusal.Refusal.TheVariants.{OutOfMemory}
use Rattle.mot_objects.specs.Carousel.{Object}
use Rattle.mot_objects.specs.Carousel as whole
use Rattle.mot_objects.specs.declared.carousel.Carousel.{Carousel}
use Rattle.mot_objects.specs.declared.object.Object as beside
use Rattle.mot_objects.specs.Stands.{AreBodiesOf, carousel_of, objects_of}
use Rattle.mot_player.specs.Place.{Place, directory_packets}
use Rattle.mot_player.specs.Turn.{turn_of_carousel}
use Rattle.mot_listening.specs.Lengths.{size_of_turn}
use Rattle.mot_listening.specs.declared.turn.TurnSize.{TurnSize}
use Rattle.mot_export.specs.Inspecting.{AreFigures, Inspects, PrintsFigures, TellsOfDisk}
use Rattle.mot_export.specs.Inspecting.{bytes_of_bodies, rates_of, times_of, usual_pause, waits_of}
use Rattle.mot_export.specs.declared.inspection.Inspection.{Inspection}
use Rattle.mot_export.specs.Inner.Inspected.{IsAbout}
use Rattle.mot_update.specs.Opening.{OfStanding, first_place}
use Rattle.mot_update.proofs.Laws.{openable, read_so}
use Rattle.mot_repository.specs.Opening.{IsOpened}
use Rattle.mot_repository.specs.Repository.{Agrees, RepositoryView}
use Rattle.mot_playout.specs.Runs.{ServerView, place_in}
use Rattle.mot_outcome.specs.Outcome.{Prints}
use Rattle.mot_session.specs.Served.{WritesFront}

abbrev AreLengths : List beside.Object → List (List ℕ) → Type 0
AreLengths os bodies = map length bodies ≡ map (λ (o : beside.Object). o.length) os

others : (o : beside.Object) (os : List beside.Object) (b : List ℕ) (bodies : List (List ℕ))
    → AreLengths (o ∷ os) (b ∷ bodies) → AreLengths os bodies
others o os b bodies e = cc

first_length : (o : beside.Object) (os : List beside.Object) (b : List ℕ) (bodies : List (List ℕ))
    → AreLengths (o ∷ os) (b ∷ bodies) → o.length ≡ length b
first_length o os b bodies e = cc

-- as many objects with their bodies as without
same_count : (os : List beside.Object) (bodies : List (List ℕ)) → AreLengths os bodies
    → length os ≡ length (objects_of os bodies)
same_count [] bodies e = refl
same_count (o ∷ os) [] e = absurd (cc)
same_count (o ∷ os) (b ∷ bodies) e = ap suc (same_count os bodies (others o os b bodies e))

-- and as many bytes
same_bytes : (a : ℕ) (os : List beside.Object) (bodies : List (List ℕ)) → AreLengths os bodies
    → fold (λ (n : ℕ) (o : beside.Object). n + o.length) a os
    ≡ fold (λ (n : ℕ) (o : Object). n + length o.body) a (objects_of os bodies)
same_bytes a [] bodies e = refl
same_bytes a (o ∷ os) [] e = absurd (cc)
same_bytes a (o ∷ os) (b ∷ bodies) e =
    same_bytes (a + o.length) os bodies (others o os b bodies e)
    ∙ ap (λ m. fold (λ (n : ℕ) (o : Object). n + length o.body) (a + m) (objects_of os bodies))
    (first_length o os b bodies e)

-- the size of the turn of what the disk stands for
abbrev pub turn_size_of : Standing → TurnSize
turn_size_of s = size_of_turn (packet_room s.geometry) s.geometry.segment
    (turn_of_carousel s.carousel s.geometry.segment)

same_turn : (room room' segment segment' : ℕ) (c c' : whole.Carousel) → room ≡ room'
    → segment ≡ segment' → c ≡ c'
    → size_of_turn room segment (turn_of_carousel c segment)
    ≡ size_of_turn room' segment' (turn_of_carousel c' segment')
same_turn room room' segment segment' c c' rooms segments cs = cc

module _ (view : RepositoryView) (s : Standing) (agrees : Agrees view s) where
  abbrev items : List beside.Object
  items = view.carousel.objects.items

  number : length items ≡ length s.carousel.objects
  number =
      same_count items agrees.bodies agrees.are_bodies
      ∙ ap (λ (c : whole.Carousel). length c.objects) (sym agrees.carousel)

  used : sum_by (λ (o : beside.Object). o.length) items ≡ bytes_of_bodies s.carousel.objects
  used =
      same_bytes 0 items agrees.bodies agrees.are_bodies
      ∙ ap (λ (c : whole.Carousel). bytes_of_bodies c.objects) (sym agrees.carousel)

  -- the size of the turn of what is kept in memory is that of what the disk stands for
  pub same_size : (size : TurnSize) (c : Carousel) (room segment : ℕ) → c ≡ view.carousel
      → room ≡ packet_room view.journal.geometry → segment ≡ view.journal.geometry.segment
      → ((bodies : List (List ℕ)) → AreBodiesOf c bodies
      → size ≡ size_of_turn room segment (turn_of_carousel (carousel_of c bodies) segment))
      → size ≡ turn_size_of s
  same_size size c room segment cs rooms segments counted =
      counted agrees.bodies (subst (λ (k : Carousel). AreBodiesOf k agrees.bodies) (sym cs)
      agrees.are_bodies)
      ∙ same_turn room (packet_room s.geometry) segment s.geometry.segment
      (carousel_of c agrees.bodies) s.carousel
      (rooms ∙ ap packet_room agrees.geometry)
      (segments ∙ ap (λ (g : Geometry). g.segment) agrees.geometry)
      (ap (λ (k : Carousel). carousel_of k agrees.bodies) cs ∙ sym agrees.carousel)

  -- the figures of what is kept in memory are those of what the disk stands for
  pub figures : (rate : Option ℕ) (directory : ℕ) (told : Inspection)
      → told.geometry ≡ view.journal.geometry → told.objects ≡ length items
      → told.bytes ≡ sum_by (λ (o : beside.Object). o.length) items
      → IsLongestGap view.extents view.journal.geometry.area told.gap
      → told.slots ≡ slot_count view.journal.layout view.journal.geometry
      → told.records ≡ view.journal.count → told.turn ≡ turn_size_of s
      → told.waits ≡ waits_of (usual_pause rate view.journal.geometry.packet)
      (div_ceil (view.journal.geometry.segment + 11) (packet_room view.journal.geometry))
      directory told.turn.packets
      → told.times.items ≡ times_of (rates_of rate) view.journal.geometry.segment
      (turn_of_carousel (carousel_of view.carousel agrees.bodies) view.journal.geometry.segment)
      → AreFigures rate s view.journal.layout view.journal.count directory told
  figures rate directory told geometry objects bytes gap slots records turn waits times =
      let same = agrees.geometry in
      record {
        geometry = geometry ∙ same;
        objects = objects ∙ number;
        bytes = bytes ∙ used;
        gap = subst (λ e. IsLongestGap e s.geometry.area told.gap) agrees.extents
            (subst (λ (g : Geometry). IsLongestGap view.extents g.area told.gap) same gap);
        slots = slots ∙ ap (slot_count view.journal.layout) same;
        records = records;
        turn = turn;
        waits = waits ∙ ap (λ (g : Geometry). waits_of (usual_pause rate g.packet)
            (div_ceil (g.segment + 11) (packet_room g)) directory told.turn.packets) same;
        times = times
            ∙ ap (λ (g : Geometry). times_of (rates_of rate) g.segment
            (turn_of_carousel (carousel_of view.carousel agrees.bodies) g.segment)) same
            ∙ ap (λ (c : whole.Carousel). times_of (rates_of rate) s.geometry.segment
            (turn_of_carousel c s.geometry.segment)) (sym agrees.carousel);
      }

module _ {D : Type 0} (state : D → State) (disk : D) (server : ServerView D)
    (sound : (d : D) → (state d).IsHonest → IsHonestDisk (state d))
    (opens : OnlySyncs (state disk) (state server.disk))
    (opened : (state server.disk).IsHonest → IsOpened (state disk) (state server.disk) server.view)
    (same : (state server.disk).failures ≡ (state disk).failures)
    (going : IsFalse server.view.halted)
    (at_start : (s : Standing) → Agrees server.view s → place_in server s ≡ first_place s)
    (rate : Option ℕ) (form : Form) (before after : Option (List ℕ)) where
  -- what is told of an open server is told of the disk, from its opening on
  tells_of : (text : List ℕ) (is_printed : List ℕ → Type 0) → is_printed text
      → ((s : Standing) → Agrees server.view s
      → IsAbout rate form server.view.journal (place_in server s) s text)
      → OfStanding (λ s. TellsOfDisk rate form s (state disk).bytes is_printed) (state disk)
      (state server.disk)
  tells_of text is_printed printed about = λ s honest stands.
      let first = opened honest in
      let is = read_so (state disk) (state server.disk) (state server.disk) server.view (sound disk)
      (sound server.disk) opens opened going (λ h. h) s honest stands in
      let so = about s is.agrees in
      record {
        journal = with_records server.view.journal first.records;
        read = first.read;
        told = so.told;
        figures = subst (λ (p : Place). AreFigures rate s server.view.journal.layout
            (length first.records) (directory_packets p) so.told) (at_start s is.agrees)
            (subst (λ n. AreFigures rate s server.view.journal.layout n
            (directory_packets (place_in server s)) so.told) first.count so.figures);
        text = text;
        shown = so.shown;
        printed = printed;
      }

  -- what was printed of an open server was printed of the disk
  printed : {E : Type 0} (made : Result (Vec ℕ Global) E) (ending : Option Refusal)
      → ((s : Standing) → Agrees server.view s → IfOk made (λ text. IsAbout rate form
      server.view.journal (place_in server s) s text.items))
      → MatchResult made (λ text. Prints ending text.items before after)
      (λ _. (ending ≡ Some OutOfMemory) × Keeps before after)
      → PrintsFigures rate form ending before after (state disk) (state server.disk)
  printed (Ok text) None about prints =
      (same, tells_of text.items (Appends before after) prints about)
  printed (Ok text) (Some refusal) about prints =
      subst (λ r. PrintsFigures rate form (Some r) before after (state disk) (state server.disk))
      (sym prints.0)
      (same, tells_of text.items (λ t. WritesFront t before after) prints.1 about)
  printed (Err e) ending about lacks =
      subst (λ r. PrintsFigures rate form r before after (state disk) (state server.disk))
      (sym lacks.0) (same, lacks.1)

  -- so the disk is inspected, from its opening on
  pub inspects : {E : Type 0} (made : Result (Vec ℕ Global) E) (ending : Option Refusal)
      → ((s : Standing) → Agrees server.view s → IfOk made (λ text. IsAbout rate form
      server.view.journal (place_in server s) s text.items))
      → MatchResult made (λ text. Prints ending text.items before after)
      (λ _. (ending ≡ Some OutOfMemory) × Keeps before after)
      → Inspects rate form ending before after (state disk) (state server.disk)
  inspects made ending about prints = record {
    syncs = opens;
    came = inr (
      openable (state disk) (state server.disk) (state server.disk) server.view (sound disk)
          (sound server.disk) opens opened going (λ h. h),
      printed made ending about prints,
    );
  }
