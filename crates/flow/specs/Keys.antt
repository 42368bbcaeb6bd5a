-- Keys: which chain one belongs to.
-- chain_count: how many chains there are; chain_of: the chain of a key with these bytes
-- Assumes nothing.
use Rattle.std.specs.Prelude.{ℕ, ◌%◌, List, fold, bit_xor}

abbrev pub chain_count : ℕ
chain_count = 64

-- the low six bits of the exclusive or of the bytes
abbrev pub chain_of : List ℕ → ℕ
chain_of bs = fold bit_xor 0 bs % chain_count
