-- What the buckets of a configuration let through over every window of a history.
-- MeterWindows: the windows of one meter; AllWindows: of every node and every flow; WindowLaw: in every lawful history
-- Assumes nothing.
use Rattle.std.specs.Prelude.{ℕ, ◌<◌, Bool, Some, None, Option}
use Rattle.meter.specs.declared.measures.Limit.{Limit}
use Rattle.meter.specs.declared.measures.Terms.{Terms}
use Rattle.meter.specs.Windows.{WindowsWithin}
use Rattle.packet.specs.declared.kinds.Key.{Key}
use Rattle.history.specs.Histories.{Config, Offer, History, charges_of, counts, counts_green, on_flow, on_node, node_terms, flow_terms, Lawful}

abbrev pub green_windows : Option Limit → Terms → (Offer → Bool) → History → Type 0
green_windows None w on h = Unit {0}
green_windows (Some l) w on h = WindowsWithin l.rate l.depth.0 (charges_of (counts_green on) w h)

-- From a carried record to itself or a later one, what is counted costs at most rate times length plus depth.
pub record MeterWindows (w : Terms) (on : Offer → Bool) (h : History) : Type 0 where
  pub all : WindowsWithin w.all.rate w.all.depth.0 (charges_of (counts on) w h)
  pub green : green_windows w.green w on h

pub record AllWindows (g : Config) (h : History) : Type 0 where
  pub nodes : (k : ℕ) → 0 < k → MeterWindows (node_terms g k) (on_node g k) h
  pub flows : (k : Key) → MeterWindows (flow_terms g k) (on_flow k) h

abbrev pub WindowLaw : Type 0
WindowLaw = (g : Config) (h : History) → Lawful g h → AllWindows g h
