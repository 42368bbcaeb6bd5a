-- A meter that counts packets.
-- packet_terms: what it is bought with; packet_meaning: what its numbers stand for
-- PacketsWithin: no window carries more than rate and burst allow
-- Assumes nothing.
use Rattle.std.specs.Prelude.{ℕ, ◌*◌, min, max, List, None}
use Rattle.meter.specs.declared.measures.Arrival.{Arrival}
use Rattle.meter.specs.declared.measures.State.{State}
use Rattle.meter.specs.declared.measures.Terms.{Terms}
use Rattle.meter.specs.Rules.{grains}
use Rattle.meter.specs.Runs.{Answer, every, charges_of}
use Rattle.meter.specs.Windows.{WindowsWithin}
use Rattle.packet_rate.specs.declared.PacketRate.{PacketRate}

abbrev pub grains_a_packet : ℕ
grains_a_packet = 1000000

abbrev pub packet_terms : ℕ → ℕ → Terms
packet_terms rate burst =
    record { base = grains grains_a_packet; per_byte = grains 0; all = record { rate = max rate 1; depth = grains (burst * grains_a_packet) }; green = None; excess = None }

abbrev pub packet_meaning : PacketRate → State
packet_meaning m =
    record {
      base = grains grains_a_packet;
      per_byte = grains 0;
      all = record { limit = (packet_terms m.rate m.burst).all; fill = grains (min m.fill.0 (m.burst * grains_a_packet)); last = m.last };
      green = None;
      excess = None;
    }

abbrev pub PacketsWithin : ℕ → ℕ → List Arrival → List Answer → Type 0
PacketsWithin rate burst arrivals rs =
    WindowsWithin (max rate 1) (burst * grains_a_packet) (charges_of every (packet_terms rate burst) arrivals rs)
