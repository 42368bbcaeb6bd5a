use Rattle.std.proofs.Common.{◌≡◌, take, length, fold}
use lib.Bits.{bit_xor}
use Rattle.flow.proofs.key.Key.chain.Given as goal

abbrev pub invariant-loop-i : goal.invariant-loop-i
invariant-loop-i g l =
    let bytes = g.Self.Key.bytes l.self in
    (l.all ≡ fold bit_xor 0 (take l.i bytes)) × (length bytes ≡ g.Self.Key.LEN)
