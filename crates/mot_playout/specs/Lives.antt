-- Lives in a row: a disk that was formatted is served, a crash comes, what it left is served, and
-- so on.
use Rattle.std.specs.Prelude.{◌≡◌, ℕ, ◌≤◌, List, [], ◌++◌, length, take, IsFalse}
use Rattle.disk_model.specs.Disk.{State}
use Rattle.mot_journal.specs.Image.{Standing, rest_of}
use Rattle.mot_journal.specs.Journal.{standing_from}
use Rattle.mot_numbers.specs.declared.geometry.Geometry.{Geometry}
use Rattle.mot_objects.specs.declared.command.Command.{Command}
use Rattle.mot_repository.specs.Repository.{Agrees, Holds}
use Rattle.mot_playout.specs.Life.{PlaysAfter}
use Rattle.mot_playout.specs.Runs.{IsAfter, StandsAfterSome, ServerView, IsAfterSome}

-- The image keeps the carousel that all of the sure commands and a beginning of the others make of
-- the new one, and opens as it.
abbrev pub KeepsCommands : Geometry → ℕ → List Command → List Command → List ℕ → Type 0
KeepsCommands g first sure others image =
    StandsAfterSome (standing_from g first (rest_of g image)) sure others image

module _ {D : Type 0} (state : D → State) (g : Geometry) (first : ℕ) where
  -- All of the sure commands are done since the formatting, and the server keeps the carousel that
  -- they make of the new one. Each image that a crash now may leave has them too, and perhaps the
  -- one other that a fault of the disk cut off; while the server is not halted there is none.
  pub record HasDone (sure others : List Command) (server : ServerView D) : Type 0 where
    pub standing : Standing
    pub after : IsAfter (standing_from g first standing.rest) sure standing
    pub agrees : Agrees server.view standing
    pub holds : IsFalse server.view.halted → (others ≡ [])
        × Holds server.view standing (state server.disk)
    pub leaves : (image : List ℕ) → (state server.disk).MayLeave image
        → StandsAfterSome (standing_from g first standing.rest) sure others image
    pub few : length others ≤ 1

  -- The server has done all of the sure commands and a beginning of the others, and the packets of
  -- its first turn read as exactly the carousel that these make of the new one.
  pub record LivesOn (sure others : List Command) (server : ServerView D)
      (packets : List (List ℕ)) : Type 0 where
    pub count : ℕ
    pub few : count ≤ length others
    pub done : HasDone (sure ++ take count others) [] server
    pub plays : PlaysAfter g first (sure ++ take count others) [] packets

-- A disk from its formatting on: runs of commands in a row, each on what the last one left.

-- These commands are done on a disk of this geometry, whose directory had this transport id at
-- first, and this is what it stands for.
pub data IsHistory (g : Geometry) (first : ℕ) : List Command → Standing → Type 0 where
  -- it was formatted
  new : (rest : List ℕ) → IsHistory g first [] (standing_from g first rest)
  -- one run more, which ended or was cut off by a crash: all of the sure commands are done, and a
  -- beginning of the others
  one_more : (done sure others : List Command) (s last : Standing) → IsHistory g first done s
      → (is : IsAfterSome s sure others last)
      → IsHistory g first (done ++ sure ++ take is.count others) last

-- However often it crashed, a disk stands for the new carousel after the commands that are done.
abbrev pub HistoriesAreCommands : Type 0
HistoriesAreCommands =
    (g : Geometry) (first : ℕ) (done : List Command) (s : Standing) → IsHistory g first done s
    → IsAfter (standing_from g first s.rest) done s
