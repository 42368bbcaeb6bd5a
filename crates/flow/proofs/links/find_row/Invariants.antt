use Rattle.std.proofs.Common.{ℕ}
use Rattle.flow.specs.Keys.{chain_of}
use Rattle.flow.specs.Rows.{Sound}
use Rattle.flow.proofs.Chains.{Left}
use Rattle.flow.proofs.links.find_row.Given as goal

abbrev pub invariant-loop : goal.invariant-loop
invariant-loop g l = (used : ℕ) → Sound (λ k. chain_of (g.K.Key.bytes k)) l.rows l.heads used → Left l.rows used l.key l.at l.counter
