use Rattle.std.proofs.Common.{◌≡◌, drop}
use Rattle.mot_lines.specs.Verb.{verb_among, verb_of}
use Rattle.mot_lines.specs.declared.line.verb.TheConstants.{VERBS}
use Rattle.mot_lines.proofs.line.verb.Verb.of.Given as goal

abbrev pub invariant-loop-verb : goal.invariant-loop-verb
invariant-loop-verb l = verb_of l.word ≡ verb_among l.word (drop l.verb-index VERBS)
