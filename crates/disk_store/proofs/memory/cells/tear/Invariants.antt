use Rattle.std.proofs.Common.{◌≡◌, ◌<◌, ◌≤◌, ℕ, true, false, get_or}
use Rattle.disk_store.specs.Content.{loose_before, crash_byte}
use Rattle.disk_store.proofs.memory.cells.tear.Given as goal

abbrev pub invariant-loop-k : goal.invariant-loop-k
invariant-loop-k l = record {
  count : l.before ≡ loose_before l.loose l.k;
  bound : l.before ≤ l.k;
  torn : (i : ℕ) → i < l.k → get_or l.loose i false ≡ true
      → get_or l.image i 0 ≡ crash_byte l.choices l.loose l.synced i;
  firm : (i : ℕ) → i < l.k → get_or l.loose i false ≡ false
      → get_or l.image i 0 ≡ get_or l.initial.image i 0;
  rest : (i : ℕ) → l.k ≤ i → get_or l.image i 0 ≡ get_or l.initial.image i 0;
}
