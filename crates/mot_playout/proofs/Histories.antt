-- Runs in a row, from formatting on.
use Rattle.std.proofs.Common.{◌≡◌, ℕ, Bool, false, List, [], ◌∷◌, ◌++◌, length, take, append_assoc}
use Rattle.std.proofs.Common.{Option, Some, None, sym, subst}
use Rattle.std.specs.Prelude.{◌&&◌, nat_le, if◌then◌else◌}
use Rattle.disk_model.specs.Disk.{State}
use Rattle.mot_journal.specs.Geometry.{columns, geometry_in, geometry_of, has_magic}
use Rattle.mot_journal.specs.Image.{Standing}
use Rattle.mot_journal.specs.Journal.{standing_from, with_records}
use Rattle.mot_journal.proofs.Laws.{geometry_read}
use Rattle.mot_numbers.specs.declared.geometry.Geometry.{Geometry}
use Rattle.mot_numbers.specs.Reading.{◌>>=◌}
use Rattle.mot_numbers.specs.Geometry.{length_of, is_valid}
use Rattle.mot_objects.specs.declared.command.Command.{Command}
use Rattle.mot_repository.specs.Repository.{RepositoryView}
use Rattle.mot_repository.specs.Opening.{IsOpened}
use Rattle.mot_playout.specs.Lives.{IsHistory, HistoriesAreCommands, new, one_more}
use Rattle.mot_playout.specs.Runs.{IsAfter, IsAfterSome}
use Rattle.mot_playout.proofs.Runs.{after_both, after_none}

-- however often it crashed, a disk stands for what the commands that are done make
pub histories_are : HistoriesAreCommands
histories_are g first done s (new rest) = after_none (standing_from g first rest)
histories_are g first done s (one_more before sure others mid last history is) =
    subst (λ l. IsAfter (standing_from g first last.rest) l last)
    (sym (append_assoc before sure (take is.count others)))
    (subst (λ r. IsAfter (standing_from g first r) (before ++ (sure ++ take is.count others)) last)
    (sym is.after.rest)
    (after_both (standing_from g first mid.rest) before (sure ++ take is.count others) mid last
    (histories_are g first before mid history) is.after))

-- one run more
pub goes_on : (g : Geometry) (first : ℕ) (before sure others : List Command) (s last : Standing)
    → IsHistory g first before s
    → (is : IsAfterSome s sure others last)
    → IsHistory g first (before ++ (sure ++ take is.count others)) last
goes_on g first before sure others s last history is =
    subst (λ l. IsHistory g first l last) (append_assoc before sure (take is.count others))
    (one_more before sure others s last history is)

no-if : (b c : Bool) (g h : Geometry) → (if false && b && c then Some g else None) ≡ Some h → ⊥
no-if b c g h e = cc

no-geometry-cases : (image : List ℕ) (h : Geometry) (o : Option Geometry) → has_magic image ≡ false
    → (o >>= λ g. if has_magic image && is_valid g && nat_le (length_of g) (length image) then
    Some g else None) ≡ Some h → ⊥
no-geometry-cases image h None none e = cc
no-geometry-cases image h (Some g) none e =
    no-if (is_valid g) (nat_le (length_of g) (length image)) g h
    (subst (λ b. (if b && is_valid g && nat_le (length_of g) (length image) then Some g else None)
    ≡ Some h) none e)

-- bytes with no magic have no geometry
pub no-geometry : (image : List ℕ) (h : Geometry) → has_magic image ≡ false
    → geometry_of image ≡ Some h
    → ⊥
unfolding geometry_of
no-geometry image h none e =
    no-geometry-cases image h (geometry_in (columns (8 ∷ 1 ∷ 7 ∷ 2 ∷ 2 ∷ 2 ∷ 2 ∷ 4 ∷ []) image))
    none e

-- so they do not open
pub not_opened : (old now : State) (view : RepositoryView) → has_magic old.bytes ≡ false
    → IsOpened old now view → ⊥
not_opened old now view none opened = no-geometry old.bytes view.journal.geometry none
    (geometry_read old.bytes (with_records view.journal opened.records) opened.read)
