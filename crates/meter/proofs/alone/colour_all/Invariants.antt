-- What is left of the arrivals decides.
use Rattle.std.proofs.Common.{◌≡◌, ◌≤◌, ◌++◌, length, drop, vec_items, vec_len, vec_capacity}
use Rattle.meter.specs.Rules.{terms_of}
use Rattle.meter.specs.Alone.{answers, left_all}
use Rattle.meter.proofs.alone.colour_all.Given as goal

abbrev pub invariant-loop-arrival : goal.invariant-loop-arrival
invariant-loop-arrival g l =
    let f = g.M.Meter.meaning in
    let rest = drop l.arrival-index l.arrivals in
    (vec_len l.answers ≡ l.arrival-index)
    × (length l.arrivals ≤ vec_capacity l.answers)
    × (answers (f l.initial.meter) l.arrivals ≡ vec_items l.answers ++ answers (f l.meter) rest)
    × (left_all (f l.initial.meter) l.arrivals ≡ left_all (f l.meter) rest)
    × (terms_of (f l.meter) ≡ terms_of (f l.initial.meter))
