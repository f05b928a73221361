-- What the command line is made with, in the words of `clap`.
use Rattle.std.specs.Prelude.{pos, true, Some, codes}
use Rattle.clap.specs.Words.{App, Rule, Shape, Text, new_app, new_rule, with_rule}
use Rattle.clap.specs.declared.builder.ArgAction.TheVariants.{Append, Set, SetTrue}
use Rattle.clap.specs.declared.builder.value_parser.ValueParser.TheVariants.{Signed}

-- a word that has to be there
abbrev pub word_rule : Text → Rule
word_rule name = record (new_rule name) { action = Some Set; required = true }

-- one word or more, of which one has to be there
abbrev pub words_rule : Text → Rule
words_rule name = record (new_rule name) { action = Some Append; required = true }

-- an option that is a path
abbrev pub path_rule : Text → Rule
path_rule name = record (new_rule name) {
  long = Some name;
  action = Some Set;
  value_names = 1;
}

-- an option that is a number of 32 bits
abbrev pub number_rule : Text → Rule
number_rule name = record (new_rule name) {
  long = Some name;
  action = Some Set;
  value_names = 1;
  parser = Some (Signed (pos 0) (pos 4294967295));
}

-- an option that is given alone
abbrev pub flag_rule : Text → Rule
flag_rule name = record (new_rule name) { long = Some name; action = Some SetTrue }

-- a command on the file of a disk
abbrev pub disk_app : Text → App
disk_app name = with_rule (new_app name) (word_rule (codes "DISK"))

-- the program's words are those after its name, and the first of them is a command
abbrev pub motcar_top : Shape
motcar_top = record (new_app (codes "motcar")).top {
  no_binary_name = true;
  subcommand_required = true;
}
