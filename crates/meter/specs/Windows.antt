-- Charges, the windows that run over them, and the fill: the largest excess over all windows.
-- Charge: a cost and its moment; By: each charge is made at a moment or before
-- window_cost: what some charges cost; fill: the largest excess over the windows that end now
-- Within: every window that ends now keeps to a bound; Admitted: each charge left the fill at depth or below
-- Window: some charges that stand one behind another; WindowsWithin: every window keeps to rate and depth
-- Assumes nothing.
use Rattle.std.specs.Prelude.{◌≡◌, ℕ, ◌+◌, ◌-◌, ◌*◌, ◌≤◌, max, List, [], ◌∷◌, ◌++◌}

-- A cost, and the moment at which it was charged. One that a bucket does not count costs it nothing.
pub record Charge : Type 0 where
  pub at : ℕ
  pub cost : ℕ

abbrev pub charge_of : ℕ → ℕ → Charge
charge_of t c = record { at = t; cost = c }

abbrev pub By : ℕ → List Charge → Type 0
By t [] = Unit {0}
By t (c ∷ rest) = (c.at ≤ t) × By t rest

abbrev pub window_cost : List Charge → ℕ
window_cost [] = 0
window_cost (c ∷ rest) = c.cost + window_cost rest

-- The largest excess of cost over rate times length, over all windows that run from a charge to now, never below zero.
abbrev pub fill : ℕ → List Charge → ℕ → ℕ
fill rate [] now = 0
fill rate (c ∷ rest) now = max (window_cost (c ∷ rest) - rate * (now - c.at)) (fill rate rest now)

-- Every window that runs from a charge to now costs at most d more than the rate allows.
abbrev pub Within : ℕ → List Charge → ℕ → ℕ → Type 0
Within rate cs now d =
    (xs : List Charge) (c : Charge) (ys : List Charge) → cs ≡ xs ++ (c ∷ ys) → window_cost (c ∷ ys) ≤ rate * (now - c.at) + d

-- Each charge, when it was made, left the fill at depth or below.
abbrev pub Admitted : ℕ → ℕ → List Charge → Type 0
Admitted rate depth cs =
    (xs : List Charge) (c : Charge) (ys : List Charge) → cs ≡ xs ++ (c ∷ ys) → fill rate xs c.at + c.cost ≤ depth

-- The last of the charges c ∷ ys.
abbrev pub last_of : Charge → List Charge → Charge
last_of c [] = c
last_of c (y ∷ ys) = last_of y ys

-- The charges c ∷ ys stand among the others one behind another: a window, from c to the last of them.
abbrev pub Window : List Charge → Charge → List Charge → Type 0
Window cs c ys = (xs : List Charge) × (zs : List Charge) × (cs ≡ xs ++ ((c ∷ ys) ++ zs))

-- Every window, from a charge to itself or a later one, costs at most rate times its length plus depth.
abbrev pub WindowsWithin : ℕ → ℕ → List Charge → Type 0
WindowsWithin rate depth cs =
    (c : Charge) (ys : List Charge) → Window cs c ys → window_cost (c ∷ ys) ≤ rate * ((last_of c ys).at - c.at) + depth
