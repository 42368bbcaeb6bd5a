use Rattle.std.specs.Iterator.Adapters.{enumerate_source, enumerate_count}
use Rattle.std.specs.Slice.Iter.{split_inclusive_rest}
use Rattle.policy_text.proofs.Splits.{Kept}
use Rattle.policy_text.proofs.reader.read_lines.Given as goal

abbrev pub invariant-loop-i : goal.invariant-loop-i
invariant-loop-i l = Kept l.text l.policy (enumerate_count l.i-iterator) (split_inclusive_rest (enumerate_source l.i-iterator))
