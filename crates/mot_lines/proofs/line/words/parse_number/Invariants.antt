use Rattle.std.proofs.Common.{◌≡◌, true, ◌≤◌, ◌<◌, ◌^◌, take, length}
use Rattle.std.specs.List.{list_all}
use Rattle.std.specs.Char.{is_ascii_digit}
use Rattle.mot_lines.specs.Fields.{decimal_value}
use Rattle.mot_lines.proofs.line.words.parse_number.Given as goal

abbrev pub invariant-loop-digit : goal.invariant-loop-digit
invariant-loop-digit l = record {
  short : length l.word ≤ 10;
  small : l.number < 10 ^ l.digit-index;
  digits : list_all is_ascii_digit (take l.digit-index l.word) ≡ true;
  value : l.number ≡ decimal_value (take l.digit-index l.word);
}
