-- What is kept in memory, as the catalogue that records make.
use Rattle.std.specs.Prelude.{ℕ, List, map, sum_by, [], ◌∷◌, ◌≡◌, length, Ok, Bool, ◌&&◌, nat_eq}
use Rattle.mot_journal.specs.Catalogue.{Placed, Catalogue}
use Rattle.mot_objects.specs.declared.carousel.Carousel.{Carousel}
use Rattle.mot_objects.specs.declared.object.Object.{Object}
use Rattle.mot_repository.specs.Repository.{RepositoryView}
use Rattle.mot_journal.specs.declared.record.Record.{Record}
use Rattle.mot_journal.specs.Image.{catalogue_of, records_of}
use Rattle.mot_journal.specs.Journal.{JournalView, with_records}

-- an object where this extent says, and of its length
abbrev pub with_extent : Object → ℕ × ℕ → Placed
with_extent o e = record {
  object = record {
    name = o.name;
    content = o.content;
    mime = o.mime;
    version = o.version;
    tid = o.tid;
    length = e.1;
  };
  start = e.0;
}

-- the objects that are kept, each where its extent says
abbrev pub objects_in : List Object → List (ℕ × ℕ) → List Placed
objects_in [] extents = []
objects_in (o ∷ objects) [] = []
objects_in (o ∷ objects) (e ∷ extents) = with_extent o e ∷ objects_in objects extents

-- a carousel without its bodies, and their extents, as a catalogue
abbrev pub catalogue_with : Carousel → List (ℕ × ℕ) → Catalogue
catalogue_with carousel extents = record {
  period = carousel.period;
  directory = carousel.directory;
  cursor = carousel.cursor;
  objects = objects_in carousel.objects.items extents;
}

-- the catalogue that is kept in memory
abbrev pub catalogue_in : RepositoryView → Catalogue
catalogue_in view = catalogue_with view.carousel view.extents

-- the names of the objects that are kept
abbrev pub names_kept : Carousel → List (List ℕ)
names_kept carousel = map (λ (o : Object). o.name) carousel.objects.items

-- how many bytes the bodies of these objects have
abbrev pub bytes_of_bodies : List Object → ℕ
bytes_of_bodies objects = sum_by (λ (o : Object). o.length) objects

-- What was loaded and folded.

-- these bytes have records where the journal stands, and they fold to this carousel and its extents
pub record IsLoaded (bytes : List ℕ) (j : JournalView) (carousel : Carousel)
    (extents : List (ℕ × ℕ)) : Type 0 where
  pub records : List Record
  pub read : records_of bytes ≡ Ok (with_records j records)
  pub count : j.count ≡ length records
  pub fold : catalogue_of j.geometry.objects records ≡ Ok (catalogue_with carousel extents)

-- this extent, and no other
abbrev pub is_extent : ℕ × ℕ → ℕ × ℕ → Bool
is_extent extent other = nat_eq other.0 extent.0 && nat_eq other.1 extent.1
