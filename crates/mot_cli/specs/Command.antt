-- The command line, in the words of `clap`.
use Rattle.std.specs.Prelude.{List, [], ◌∷◌, codes, false, map}
use Rattle.clap.specs.Words.{App, new_app, with_rule}
use Rattle.mot_cli.specs.Parts.{disk_app, flag_rule, motcar_top, number_rule, path_rule}
use Rattle.mot_cli.specs.Parts.{word_rule, words_rule}

-- the five options of a geometry, behind what a command has
abbrev pub with_options : App → App
with_options a =
    with_rule (with_rule (with_rule (with_rule (with_rule a
    (number_rule (codes "objects"))) (number_rule (codes "data"))) (number_rule (codes "segment")))
    (number_rule (codes "address"))) (number_rule (codes "packet"))

-- `memory` and `format`, with their options; a new disk's ids may begin behind one
abbrev pub memory_app : App
memory_app = with_options (new_app (codes "memory"))

abbrev pub format_app : App
format_app = with_rule (with_options (disk_app (codes "format"))) (number_rule (codes "after"))

-- a copy's ids may go on behind one, too
abbrev pub copy_app : App
copy_app = with_rule (with_options (with_rule (disk_app (codes "copy")) (word_rule (codes "NEW"))))
    (number_rule (codes "after"))

-- how a folder is looked at, behind what a command has
abbrev pub with_looks : App → App
with_looks a =
    with_rule (with_rule (with_rule (with_rule a (path_rule (codes "types")))
    (flag_rule (codes "allow-empty"))) (flag_rule (codes "keep-most"))) (flag_rule (codes "at-once"))

abbrev pub play_app : App
play_app =
    with_rule (with_rule (with_rule (with_rule (with_rule (with_rule (with_rule (with_rule (with_rule
    (with_looks (with_rule (with_rule (disk_app (codes "play")) (word_rule (codes "PACKETS")))
    (path_rule (codes "folder")))) (path_rule (codes "lines")))
    (number_rule (codes "every"))) (number_rule (codes "turns"))) (number_rule (codes "directory")))
    (number_rule (codes "look"))) (number_rule (codes "rate"))) (number_rule (codes "early")))
    (path_rule (codes "status"))) (flag_rule (codes "levels"))

abbrev pub sync_app : App
sync_app = with_rule (with_looks (with_rule (disk_app (codes "sync")) (word_rule (codes "DIR"))))
    (flag_rule (codes "dry-run"))

-- what is printed as JSON, if that is asked for
abbrev pub with_json : App → App
with_json a = with_rule a (flag_rule (codes "json"))

abbrev pub health_app : App
health_app = with_json (with_rule (with_rule (new_app (codes "health")) (word_rule (codes "STATUS")))
    (number_rule (codes "max-age")))

-- single objects: their files, their names, and the name of one
abbrev pub put_app : App
put_app = with_rule (with_rule (disk_app (codes "put")) (words_rule (codes "FILE")))
    (path_rule (codes "types"))

abbrev pub withdraw_app : App
withdraw_app = with_rule (disk_app (codes "withdraw")) (words_rule (codes "NAME"))

abbrev pub get_app : App
get_app = with_rule (disk_app (codes "get")) (word_rule (codes "NAME"))

abbrev pub inspect_app : App
inspect_app = with_json (with_rule (disk_app (codes "inspect")) (number_rule (codes "rate")))

-- the commands, and the program with all of them
abbrev pub verb_apps : List App
verb_apps =
    format_app ∷ play_app ∷ sync_app ∷ health_app ∷ with_json (disk_app (codes "list")) ∷ put_app
    ∷ withdraw_app ∷ get_app ∷ disk_app (codes "serve") ∷ inspect_app
    ∷ with_json (disk_app (codes "check")) ∷ copy_app ∷ disk_app (codes "export")
    ∷ disk_app (codes "migrate") ∷ memory_app ∷ []

abbrev pub motcar_app : App
motcar_app = record {
  top = record motcar_top { is_leaf = false };
  subs = map (λ (a : App). a.top) verb_apps;
}
