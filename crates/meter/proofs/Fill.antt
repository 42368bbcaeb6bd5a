-- The fill as the bound of every window, and how it moves with time and with a charge.
-- Assumes nothing.
use Rattle.std.proofs.Common.{◌≡◌, ℕ, ◌+◌, ◌-◌, ◌*◌, ◌≤◌, List, [], ◌∷◌, ◌++◌, refl, ap, ◌∙◌, mul-zero, mul-add, arith}
use native.Mathlib.Nat.{sub_self}
use Rattle.meter.specs.Windows.{Charge, window_cost, fill, Within}
use Rattle.meter.specs.Laws.{FillIsWindows, FillLater, FillCharge}

-- the windows of the later charges are among those of all
pub fill_suffix : (rate : ℕ) (xs ys : List Charge) (now : ℕ) → fill rate ys now ≤ fill rate (xs ++ ys) now
fill_suffix rate [] ys now = omega arith
fill_suffix rate (x ∷ xs) ys now = omega (arith, fill_suffix rate xs ys now)

within : (rate : ℕ) (cs : List Charge) (now d : ℕ) → fill rate cs now ≤ d → Within rate cs now d
within rate cs now d le xs c ys e =
    let le' : fill rate (xs ++ (c ∷ ys)) now ≤ d = rw e at le in
    omega (arith, fill_suffix rate xs (c ∷ ys) now)

pub fill-≤ : (rate : ℕ) (cs : List Charge) (now d : ℕ) → Within rate cs now d → fill rate cs now ≤ d
fill-≤ rate [] now d w = omega arith
fill-≤ rate (c ∷ rest) now d w =
    let later : Within rate rest now d = λ xs a ys e. w (c ∷ xs) a ys (ap (λ l. c ∷ l) e) in
    omega (arith, w [] c rest refl, fill-≤ rate rest now d later)

pub fill_is_windows : FillIsWindows
fill_is_windows rate cs now d = (within rate cs now d, fill-≤ rate cs now d)

-- what the rate allows from a to u, in two parts at t
pub allowed_in_parts : (rate a t u : ℕ) → a ≤ t → t ≤ u → rate * (u - a) ≡ rate * (t - a) + rate * (u - t)
allowed_in_parts rate a t u a≤t t≤u =
    let e : u - a ≡ (t - a) + (u - t) = omega arith in ap (λ n. rate * n) e ∙ mul-add rate (t - a) (u - t)

pub allowed_at_once : (rate t : ℕ) → rate * (t - t) ≡ 0
allowed_at_once rate t = rw (sub_self t) (mul-zero rate)

pub fill_later : FillLater
fill_later rate [] t u le by = omega arith
fill_later rate (c ∷ rest) t u le by =
    omega (arith, allowed_in_parts rate c.at t u by.0 le, fill_later rate rest t u le by.1)

pub window_cost-++ : (xs ys : List Charge) → window_cost (xs ++ ys) ≡ window_cost xs + window_cost ys
window_cost-++ [] ys = omega arith
window_cost-++ (x ∷ xs) ys = omega (arith, window_cost-++ xs ys)

pub fill_charge : FillCharge
fill_charge rate [] c = omega (arith, allowed_at_once rate c.at)
fill_charge rate (x ∷ xs) c = omega (arith, window_cost-++ xs (c ∷ []), fill_charge rate xs c)
