-- Bytes one by one.
-- Assumes nothing.
use Rattle.std.proofs.Common.{◌≡◌, ℕ, ◌≤◌, List, [], ◌∷◌, length, arith}
use Rattle.std.proofs.lemmas.List.{drop_more}
use Rattle.packet.specs.Layout.{byte, station_of}

pub source_is : (f : List ℕ) → 14 ≤ length f →
    byte f 6 ∷ (byte f 7 ∷ (byte f 8 ∷ (byte f 9 ∷ (byte f 10 ∷ (byte f 11 ∷ []))))) ≡ (station_of f).source
source_is f h =
    rw (
      drop_more f 6 0 (omega arith),
      drop_more f 7 0 (omega arith),
      drop_more f 8 0 (omega arith),
      drop_more f 9 0 (omega arith),
      drop_more f 10 0 (omega arith),
      drop_more f 11 0 (omega arith),
    )
