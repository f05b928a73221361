-- A carousel as the records that a half is rewritten to.
use Rattle.std.specs.Prelude.{List, [], ◌∷◌}
use Rattle.mot_journal.specs.declared.record.Record.{Record}
use Rattle.mot_journal.specs.declared.record.Action.TheVariants.{Nothing, Set}
use Rattle.mot_journal.specs.Catalogue.{Placed, Catalogue}

-- a carousel as records, one for each object, and one of kind nothing where there is none
abbrev pub records_of_objects : Catalogue → List Placed → List Record
records_of_objects c [] = []
records_of_objects c (p ∷ objects) = record {
  period = c.period;
  directory = c.directory;
  cursor = c.cursor;
  action = Set p.object.tid p.object.version p.object.content p.start p.object.length
      p.object.name p.object.mime;
} ∷ records_of_objects c objects

abbrev pub records_of_catalogue : Catalogue → List Record
records_of_catalogue c = not_none c (records_of_objects c c.objects)
  where
    not_none : Catalogue → List Record → List Record
    not_none d [] = record {
      period = d.period;
      directory = d.directory;
      cursor = d.cursor;
      action = Nothing;
    } ∷ []
    not_none d (r ∷ records) = r ∷ records
