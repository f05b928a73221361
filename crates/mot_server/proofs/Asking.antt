-- What words ask for that name a command.
use Rattle.std.proofs.Common.{◌≡◌, ◌∙◌, true, false, List, Option, Some, None, ap, refl, sym}
use Rattle.std.specs.Option.{option_map_or}
use Rattle.std.specs.Prelude.{bytes_eq, codes}
use Rattle.clap.specs.Words.{Row, Text, subcommand_of}
use Rattle.mot_cli.specs.Given.{AskBy, is_whole}
use Rattle.mot_cli.specs.Command.{motcar_app}
use Rattle.mot_cli.specs.Task.{IsTask, IsWork, LackOption, bad_number}
use Rattle.mot_cli.specs.declared.task.DiskTask.{DiskTask}
use Rattle.mot_cli.specs.declared.task.DiskTask.TheVariants.{Serve, Check, Migrate, ListObjects}
use Rattle.mot_cli.specs.declared.task.DiskTask.TheVariants.{GetBody, Export, Inspect}
use Rattle.mot_cli.specs.declared.task.Task.{Task}
use Rattle.mot_cli.specs.declared.task.Task.TheVariants.{Memory, Format, Copy, Play, Sync, Health}
use Rattle.mot_cli.specs.declared.task.Task.TheVariants.{PutFiles, WithdrawNames, OnDisk}
use Rattle.mot_numbers.specs.declared.refusal.Refusal.{Refusal}
use Rattle.mot_numbers.specs.declared.refusal.Refusal.TheVariants.{BadNumber, OutOfMemory}
use Rattle.mot_server.specs.Program.{refused_number}

-- a name and rows, and nothing else of them
abbrev pub IsNamed : Text → List Row → Text × List Row → Type 0
IsNamed name rows both = both ≡ (name, rows)

-- words that ask for what a command of this name does name it
pub named_so : (name : Text) (rows : List Row) (words : List Text)
    → AskBy motcar_app IsNamed name rows words
    → subcommand_of motcar_app words ≡ Some (name, rows)
named_so name rows words asks =
    let asked = (asks (name, rows)).1 refl in
    asked.matched ∙ ap Some (sym asked.is_task)

one_pair : (both other : Text × List Row) → Some both ≡ Some other → both ≡ other
one_pair both other e = cc

module _ (words : List Text) (name : Text) (rows : List Row)
    (is : subcommand_of motcar_app words ≡ Some (name, rows)) where
  -- the refusal of its numbers
  pub number_of_named : refused_number words ≡ bad_number name
  number_of_named = ap (λ (o : Option (Text × List Row)).
      option_map_or (λ named. bad_number named.0) o BadNumber) is

  -- only `play` lacks an option
  pub lacks : LackOption words → (name ≡ codes "play") × (is_whole rows ≡ false)
  lacks lack =
      let same = one_pair (name, rows) (codes "play", lack.0) (sym is ∙ lack.1) in (
        ap (λ (p : Text × List Row). p.0) same,
        ap (λ (p : Text × List Row). is_whole p.1) same ∙ lack.2,
      )

not_play : (name other : Text) → bytes_eq other (codes "play") ≡ false → name ≡ other
    → name ≡ codes "play" → ⊥
not_play name other differs is play =
    let e : bytes_eq other (codes "play") ≡ true =
    ap (λ n. bytes_eq n (codes "play")) (sym is ∙ play) in
    absurd (cc)

works_not_play : (name : Text) (rows : List Row) (work : DiskTask) → IsWork name rows work
    → name ≡ codes "play" → ⊥
works_not_play name rows Serve is play = not_play name (codes "serve") refl is play
works_not_play name rows (Check f) is play = not_play name (codes "check") refl is.0 play
works_not_play name rows Migrate is play = not_play name (codes "migrate") refl is play
works_not_play name rows (ListObjects f) is play = not_play name (codes "list") refl is.0 play
works_not_play name rows (GetBody o) is play = not_play name (codes "get") refl is.0 play
works_not_play name rows Export is play = not_play name (codes "export") refl is play
works_not_play name rows (Inspect r f) is play = not_play name (codes "inspect") refl is.0 play

-- a task that is asked for lacks none
pub lacks_none : (name : Text) (rows : List Row) (task : Task) → IsTask name rows task
    → name ≡ codes "play" → is_whole rows ≡ false → ⊥
lacks_none name rows (Play p) is play lack =
    absurd (let whole : is_whole rows ≡ true = is.15 in cc)
lacks_none name rows (Memory g) is play lack = not_play name (codes "memory") refl is.0 play
lacks_none name rows (Format p g d) is play lack = not_play name (codes "format") refl is.0 play
lacks_none name rows (Copy c) is play lack = not_play name (codes "copy") refl is.0 play
lacks_none name rows (Sync sync) is play lack = not_play name (codes "sync") refl is.0 play
lacks_none name rows (Health h) is play lack = not_play name (codes "health") refl is.0 play
lacks_none name rows (PutFiles d f t) is play lack = not_play name (codes "put") refl is.0 play
lacks_none name rows (WithdrawNames d n) is play lack = not_play name (codes "withdraw") refl is.0 play
lacks_none name rows (OnDisk d work) is play lack = works_not_play name rows work is.0 play

-- refusals that are no bad number
pub none_is : (r : Option Refusal) → r ≡ None → r ≡ Some BadNumber → ⊥
none_is r is was = absurd (let e : None ≡ Some BadNumber = sym is ∙ was in cc)

pub memory_is : (r : Option Refusal) → r ≡ Some OutOfMemory → r ≡ Some BadNumber → ⊥
memory_is r is was =
    absurd (let e : Some OutOfMemory ≡ Some BadNumber = sym is ∙ was in cc)
