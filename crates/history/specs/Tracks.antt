-- A meter that has the fills of a history.
-- Tracks: its terms, and at every moment from the clock on its fills; Fair: an offer that every meter can be asked about
-- Assumes nothing.
use Rattle.std.specs.Prelude.{◌≡◌, ℕ, ◌<◌, ◌≤◌, Bool}
use Rattle.meter.specs.declared.measures.State.{State}
use Rattle.meter.specs.declared.measures.Terms.{Terms}
use Rattle.meter.specs.Rules.{level, green_level, terms_of, largest_size, largest_moment}
use Rattle.history.specs.Histories.{Offer, History, clock_of, all_fill, green_fill}

-- its last charge is no later than the clock
pub record Tracks (w : Terms) (on : Offer → Bool) (h : History) (m : State) : Type 0 where
  pub terms : terms_of m ≡ w
  pub past : m.all.last.0 ≤ clock_of h
  pub all : (t : ℕ) → clock_of h ≤ t → level m.all t ≡ all_fill w on h t
  pub green : (t : ℕ) → clock_of h ≤ t → green_level m.green t ≡ green_fill w on h t

pub record Fair (o : Offer) : Type 0 where
  pub some : 0 < o.size
  pub fits : o.size ≤ largest_size
  pub soon : o.moment ≤ largest_moment
