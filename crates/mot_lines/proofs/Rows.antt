-- The definitions, computed on the worked rows.
use Rattle.std.proofs.Common.{◌≡◌, [], ◌∷◌, None, Ok, Err, refl}
use Rattle.std.specs.Prelude.{codes}
use Rattle.std.specs.Fmt.{digits}
use Rattle.hex.proofs.OnLiterals.{hex_on_literals}
use Rattle.mot_lines.specs.declared.line.Line.TheVariants.{Raw}
use Rattle.mot_lines.specs.declared.line.Line.TheVariants as asks
use Rattle.mot_lines.specs.declared.line.TheConstants.{MAX_LINE, MAX_PACKETS}
use Rattle.mot_lines.specs.Export.{export_text}
use Rattle.mot_lines.specs.Lines.{bytes_in_hand, whole_lines, rest_of, lines_of}
use Rattle.mot_lines.specs.Line.{raw_of, request_of, line_of}
use Rattle.mot_lines.specs.Text.{refusal_line}
use Rattle.mot_lines.specs.Fields.{number_of_word}
use Rattle.mot_numbers.specs.declared.group_kind.GroupKind.TheVariants.{Body}
use Rattle.mot_numbers.specs.declared.refusal.Refusal.TheVariants.{BadLine, BadType, BadNumber}
use Rattle.mot_numbers.specs.declared.refusal.Refusal.TheVariants.{BadBody, EmptyBody}

hello_line : line_of (codes "raw 4 2 68656c6c6f") ≡ Ok (Raw Body 2 (codes "hello"))
unfolding line_of request_of raw_of number_of_word hex_on_literals
hello_line = refl

no_words : line_of [] ≡ Err BadLine
unfolding line_of request_of
no_words = refl

two_spaces : line_of (codes "raw 4 2  00") ≡ Err BadLine
unfolding line_of request_of raw_of
two_spaces = refl

empty_number : line_of (codes "raw 4  00") ≡ Err BadNumber
unfolding line_of request_of raw_of number_of_word hex_on_literals
empty_number = refl

long_number : line_of (codes "raw 00000000004 2 00") ≡ Err BadType
unfolding line_of request_of raw_of number_of_word hex_on_literals
long_number = refl

odd_digits : line_of (codes "raw 4 2 0") ≡ Err BadBody
unfolding line_of request_of raw_of number_of_word hex_on_literals
odd_digits = refl

no_digits : line_of (codes "raw 4 2 ") ≡ Err EmptyBody
unfolding line_of request_of raw_of number_of_word hex_on_literals
no_digits = refl

refused_line : refusal_line BadType ≡ codes "refused 3 BadType\n"
unfolding digits
refused_line = refl

last_line : lines_of (codes "a\nb") ≡ codes "a" ∷ codes "b" ∷ []
unfolding lines_of whole_lines rest_of
last_line = refl

no_last_line : lines_of (codes "a\n\n") ≡ codes "a" ∷ [] ∷ []
unfolding lines_of whole_lines rest_of
no_last_line = refl

line_in_hand : bytes_in_hand (codes "list") ≡ codes "list"
line_in_hand = refl

list_line : line_of (codes "list") ≡ Ok asks.List
unfolding line_of request_of
list_line = refl

export_rows : export_text (record {
  period = 5;
  directory = 9;
  cursor = 9;
  objects = record {
    name = codes "a";
    content = record { content_type = 2; subtype = 3 };
    mime = None;
    version = 1;
    tid = 7;
    body = codes "hi";
  } ∷ [];
}) ≡ codes "put a 2 3 - 6869\nperiod 5\n"
unfolding digits hex_on_literals
export_rows = refl

max_line : MAX_LINE ≡ 530000
max_line = refl

max_packets : MAX_PACKETS ≡ 100000
max_packets = refl
