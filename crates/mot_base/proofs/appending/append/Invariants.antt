use Rattle.std.proofs.Common.{◌≡◌, ◌+◌, ◌++◌, vec_len, vec_capacity, take}
use Rattle.mot_base.proofs.appending.append.Given as goal

abbrev pub invariant-loop-byte : goal.invariant-loop-byte
invariant-loop-byte l = record {
  items : l.filled.items ≡ l.initial.filled.items ++ take l.byte-index l.bytes;
  len : vec_len l.filled ≡ vec_len l.initial.filled + l.byte-index;
  capacity : vec_capacity l.filled ≡ vec_capacity l.initial.filled;
}
