use Rattle.std.specs.Prelude.{codes}
use Rattle.clap.specs.Words.{found_of, rows_of}
use Rattle.mot_cli.proofs.Unasked.{format_needs, none_found}
use Rattle.mot_cli.proofs.task.format_of.Goals as goal
use Rattle.mot_cli.specs.Task.{IsTask}

pub returns-in_err-geometry_of : goal.returns-in_err-geometry_of
returns-in_err-geometry_of c =
    let rows = rows_of (found_of c.args.words.now) in
    none_found (IsTask (codes "format") rows) c.from_residual-in_err-geometry_of.result
    c.from_residual-in_err-geometry_of.ensures
    (format_needs rows (λ g directory gives given. c.in_err-geometry_of.ensures g gives))

pub returns-in_err-directory_of : goal.returns-in_err-directory_of
returns-in_err-directory_of c =
    let rows = rows_of (found_of c.args.words.now) in
    none_found (IsTask (codes "format") rows) c.from_residual-in_err-directory_of.result
    c.from_residual-in_err-directory_of.ensures
    (format_needs rows (λ g directory gives given. c.in_err-directory_of.ensures directory given))
