-- What a change that is prepared for a command is, and what it writes.
use Rattle.std.specs.Prelude.{◌≡◌, ◌<◌, ◌≤◌, All, true, false, ℕ, List, [], ◌∷◌, length, Option}
use Rattle.std.specs.Prelude.{Some, None, Ok, bytes_eq, if◌then◌else◌, MatchOption}
use Rattle.mot_journal.specs.declared.record.Record.{Record}
use Rattle.mot_journal.specs.declared.record.Action.{Action}
use Rattle.mot_journal.specs.declared.record.Action.TheVariants.{Nothing, Set, Remove}
use Rattle.mot_journal.specs.Slot.{is_sound, slot_count}
use Rattle.mot_journal.specs.Journal.{JournalView}
use Rattle.mot_objects.specs.declared.carousel.Carousel.{Carousel}
use Rattle.mot_objects.specs.declared.object.Object.{Object}
use Rattle.mot_objects.specs.declared.command.Command.{Command}
use Rattle.mot_objects.specs.declared.command.Command.TheVariants.{Put, Replace, Withdraw, Period}
use Rattle.mot_objects.specs.declared.command.Done.{Done}
use Rattle.mot_objects.specs.Carousel.{change}
use Rattle.mot_objects.specs.Stands.{carousel_of, bodies_after, AreBodiesOf}
use Rattle.mot_repository.specs.Inner.Extents.{catalogue_in}
use Rattle.mot_repository.specs.Records.{records_of_catalogue}
use Rattle.mot_repository.specs.Outcome.{has_long_name, start_of}
use Rattle.mot_repository.specs.Repository.{RepositoryView}
use Rattle.mot_objects.specs.Name.{ContentNumbers, IsName, IsMime}

-- the first object of this name
abbrev pub kept_object_named : List ℕ → List Object → Option Object
kept_object_named name [] = None
kept_object_named name (o ∷ objects) =
    if bytes_eq o.name name then Some o else kept_object_named name objects

abbrev pub kept_set : ℕ → ℕ → Option Object → Action
kept_set start size None = Nothing
kept_set start size (Some o) = Set o.tid o.version o.content start size o.name o.mime

abbrev pub kept_remove : Option Object → Action
kept_remove None = Nothing
kept_remove (Some o) = Remove o.tid

abbrev pub kept_action : Carousel → Carousel → Command → ℕ → Action
kept_action old next (Put name content mime body) start =
    kept_set start (length body) (kept_object_named name next.objects.items)
kept_action old next (Replace name content mime body) start =
    kept_set start (length body) (kept_object_named name next.objects.items)
kept_action old next (Withdraw name) start = kept_remove (kept_object_named name old.objects.items)
kept_action old next (Period period) start = Nothing

-- the record of an accepted command, by the carousels without their bodies
abbrev pub kept_record : Carousel → Carousel → Command → ℕ → Record
kept_record old next command start = record {
  period = next.period;
  directory = next.directory;
  cursor = next.cursor;
  action = kept_action old next command start;
}

-- no slot of the half is closed
abbrev pub IsFull : JournalView → Type 0
IsFull j = slot_count j.layout j.geometry ≤ j.count

-- whatever the bodies are, the carousel is changed to this one, and these are the ids taken
abbrev pub ChangesTo : Carousel → ℕ → Command → Carousel → Done → Type 0
ChangesTo c limit command next done =
    (bodies : List (List ℕ)) → AreBodiesOf c bodies →
    (change (carousel_of c bodies) limit command
    ≡ Ok (carousel_of next (bodies_after c command bodies), done))
    × AreBodiesOf next (bodies_after c command bodies)

-- What is prepared for a command that is accepted: the carousel after it, where its body goes, the
-- record of it, and where the half is full the records that it is rewritten to.
pub record IsPreparedFor (view : RepositoryView) (command : Command) (done : Done)
    (next : Carousel) (from : ℕ) (r : Record) (given : List Record) : Type 0 where
  pub short : has_long_name view.journal.layout command ≡ false
  pub changes : ChangesTo view.carousel view.journal.geometry.objects command next done
  pub lies : start_of view.extents view.journal.geometry.area command ≡ Some from
  pub record_is : r ≡ kept_record view.carousel next command from
  pub given_is : IsFull view.journal → given ≡ records_of_catalogue (catalogue_in view)

-- these records can be written into the other half, and leave room there
pub record CanBeGiven (j : JournalView) (given : List Record) : Type 0 where
  pub some : 0 < length given
  pub few : length given < slot_count j.layout j.geometry
  pub sound : All (λ r. is_sound j.geometry j.layout r ≡ true) given

-- What is worked out for a command, in memory alone.

abbrev pub IsId : ℕ → Type 0
IsId id = (1 ≤ id) × (id ≤ 65535)

-- what the types of the fields keep of an object that is set
pub record AreFields (tid : ℕ) (content : ContentNumbers) (size : ℕ) (name : List ℕ)
    (mime : Option (List ℕ)) : Type 0 where
  pub id : IsId tid
  pub kind : content.content_type ≤ 63
  pub subkind : content.subtype ≤ 511
  pub some : 1 ≤ size
  pub short : size ≤ 262144
  pub is_name : IsName name
  pub is_mime : MatchOption mime (Unit {0}) IsMime

abbrev pub HasFields : Action → Type 0
HasFields Nothing = Unit {0}
HasFields (Remove tid) = IsId tid
HasFields (Set tid version content start size name mime) = AreFields tid content size name mime

-- what the types of its fields keep of a record
pub record IsTyped (r : Record) : Type 0 where
  pub directory : IsId r.directory
  pub cursor : IsId r.cursor
  pub action : HasFields r.action
