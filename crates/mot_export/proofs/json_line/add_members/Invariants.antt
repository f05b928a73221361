use Rattle.std.proofs.Common.{◌≡◌, ◌++◌, take}
use Rattle.std.specs.List.{flat_map}
use Rattle.mot_export.specs.Json.{member_tokens, members_of}
use Rattle.mot_export.proofs.json_line.add_members.Given as goal

-- the members so far
abbrev pub invariant-loop-name : goal.invariant-loop-name
invariant-loop-name l = record {
  before : l.writer.before ≡ l.initial.writer.before;
  tokens : l.writer.tokens
      ≡ l.initial.writer.tokens ++ flat_map member_tokens (members_of (take l.name-index l.members));
}
