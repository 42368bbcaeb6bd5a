-- What folding a sum of 16-bit words means.
-- Folds: a number with its carries added back in, until sixteen bits hold it
-- Assumes nothing.
use Rattle.std.specs.Prelude.{◌≡◌, ℕ, ◌+◌, ◌*◌, ◌≤◌}

-- it differs from n by carries, each worth 65,536 - 1, and is 0 only where n is
pub record Folds (n folded : ℕ) : Type 0 where
  pub carries : ℕ
  pub same : n ≡ 65535 * carries + folded
  pub small : folded ≤ 65535
  pub zero : folded ≡ 0 → n ≡ 0
