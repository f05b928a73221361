-- Counts of what happened.
use Rattle.std.specs.Prelude.{ℕ, ◌+◌, min, Bool, if◌then◌else◌, List, replicate}
use Rattle.std.specs.List.{slice_index, slice_set}
use Rattle.mot_log.specs.declared.counters.Counters.{Counters}
use Rattle.mot_log.specs.declared.tally.EventClass.{EventClass}
use Rattle.mot_log.specs.declared.tally.EventClass.TheVariants.{Change, Doubt, Going, Kept, Look}
use Rattle.mot_log.specs.declared.tally.EventClass.TheVariants.{LineRefusal, News, Refusal, Stop}
use Rattle.mot_numbers.specs.Refusal.{number_of}
use Rattle.mot_numbers.specs.declared.refusal.Refusal as refusal

-- one more, up to the greatest number of 64 bits
abbrev pub one_more : ℕ → ℕ
one_more n = min (n + 1) 18446744073709551615

-- one more of this number
abbrev pub one_more_of : List ℕ → ℕ → List ℕ
one_more_of counts number = slice_set counts number (one_more (slice_index counts number))

abbrev pub none_counted : Counters
none_counted = record {
  packets = 0;
  turns = 0;
  looks = 0;
  changes = 0;
  refusals = 0;
  line_refusals = 0;
  goings = 0;
  numbered = replicate 24 0;
}

-- a refusal counts as one, and as one of its number
abbrev pub refusal_counted : Counters → refusal.Refusal → Counters
refusal_counted c refusal = record c {
  refusals = one_more c.refusals;
  numbered = one_more_of c.numbered (number_of refusal);
}

-- a refusal of a line is one among the others, and counts as one of lines
abbrev pub counted : Counters → EventClass → Counters
counted c Change = record c { changes = one_more c.changes }
counted c (Refusal refusal) = refusal_counted c refusal
counted c (LineRefusal refusal) =
    refusal_counted (record c { line_refusals = one_more c.line_refusals }) refusal
counted c (Stop refusal) = refusal_counted c refusal
counted c Kept = record c { refusals = one_more c.refusals }
counted c Going = record c { goings = one_more c.goings }
counted c Doubt = c
counted c News = c
counted c Look = record c { looks = one_more c.looks }

-- packets count as they are told, and the turn that ends with the last counts, too
abbrev pub packets_counted : Counters → (packets : ℕ) → (ends_turn : Bool) → Counters
packets_counted c packets ends_turn = record c {
  packets = packets;
  turns = if ends_turn then one_more c.turns else c.turns;
}
