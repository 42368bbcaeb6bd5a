-- Charges that leave the fill at depth or below, and windows that keep to rate and depth, are the same.
-- Assumes nothing.
use Rattle.std.proofs.Common.{◌≡◌, ℕ, ◌+◌, ◌-◌, ◌*◌, ◌≤◌, ◌⊎◌, List, [], ◌∷◌, ◌++◌, refl, ap, ◌∙◌, inl, inr, append_assoc, arith}
use Rattle.meter.specs.Windows.{Charge, window_cost, fill, Within, Admitted, last_of, WindowsWithin}
use Rattle.meter.specs.Laws.{WindowsHold}
use Rattle.meter.proofs.Fill.{fill_suffix, fill-≤, window_cost-++, allowed_at_once}

-- a window is some charges, and then its last one
up_to_last : (c : Charge) (ys : List Charge) → (before : List Charge) × (c ∷ ys ≡ before ++ (last_of c ys ∷ []))
up_to_last c [] = ([], refl)
up_to_last c (y ∷ ys) = let r = up_to_last y ys in (c ∷ r.0, ap (λ l. c ∷ l) r.1)

last_push : (c : Charge) (ys : List Charge) (d : Charge) → last_of c (ys ++ (d ∷ [])) ≡ d
last_push c [] d = refl
last_push c (y ∷ ys) d = last_push y ys d

held : (rate depth : ℕ) (cs : List Charge) → Admitted rate depth cs → WindowsWithin rate depth cs
held rate depth cs ok c [] (xs, zs, e) = omega (arith, ok xs c zs e)
held rate depth cs ok c (y ∷ ys) (xs, zs, e) =
    let d : Charge = last_of y ys in
    let (before, ends) = up_to_last y ys in
    let split : cs ≡ (xs ++ (c ∷ before)) ++ (d ∷ zs) = e ∙ ap (λ l. xs ++ (c ∷ (l ++ zs))) ends ∙ simp append_assoc in
    omega (
      arith,
      ok (xs ++ (c ∷ before)) d zs split,
      fill_suffix rate xs (c ∷ before) d.at,
      ap window_cost ends,
      window_cost-++ before (d ∷ []),
    )

admitted : (rate depth : ℕ) (cs : List Charge) → WindowsWithin rate depth cs → Admitted rate depth cs
admitted rate depth cs w xs c ys e =
    omega (arith, alone, fill-≤ rate xs c.at (depth - c.cost) joined)
  where
    alone : c.cost ≤ depth
    alone = omega (arith, w c [] (xs, ys, e), allowed_at_once rate c.at)

    -- with c behind it, a window of what came before is a window that ends at c
    joined : Within rate xs c.at (depth - c.cost)
    joined us a vs e' =
        let split : cs ≡ us ++ ((a ∷ (vs ++ (c ∷ []))) ++ ys) = e ∙ ap (λ l. l ++ (c ∷ ys)) e' ∙ simp append_assoc in
        let whole : window_cost (a ∷ (vs ++ (c ∷ []))) ≤ rate * (c.at - a.at) + depth =
        rw (last_push a vs c) at (w a (vs ++ (c ∷ [])) (us, ys, split)) in
        omega (arith, alone, window_cost-++ vs (c ∷ []))

pub windows_hold : WindowsHold
windows_hold rate depth cs = (held rate depth cs, admitted rate depth cs)

-- charges that are split are some
not_empty : (xs : List Charge) (d : Charge) (ys : List Charge) → [] ≡ xs ++ (d ∷ ys) → ⊥
not_empty [] d ys e = cc
not_empty (x ∷ xs) d ys e = cc

pub admitted_none : (rate depth : ℕ) → Admitted rate depth []
admitted_none rate depth xs c ys e = absurd (not_empty xs c ys e)

-- charges with one more at the end are split at that one or before it
split_push : (cs : List Charge) (c : Charge) (xs : List Charge) (d : Charge) (ys : List Charge) →
    cs ++ (c ∷ []) ≡ xs ++ (d ∷ ys) → ((cs ≡ xs) × (c ≡ d)) ⊎ ((us : List Charge) × (cs ≡ xs ++ (d ∷ us)))
split_push [] c [] d ys e = inl (refl, cc)
split_push [] c (x ∷ xs) d ys e = absurd (not_empty xs d ys (cc))
split_push (a ∷ cs) c [] d ys e = inr (cs, cc)
split_push (a ∷ cs) c (x ∷ xs) d ys e =
    let same : a ≡ x = cc in
    elim (split_push cs c xs d ys (cc)) [ inl s ↦ inl (cc s.0, s.1) | inr s ↦ inr (s.0, cc s.1) ]

pub admitted_push : (rate depth : ℕ) (cs : List Charge) (c : Charge) →
    Admitted rate depth cs → fill rate cs c.at + c.cost ≤ depth → Admitted rate depth (cs ++ (c ∷ []))
admitted_push rate depth cs c ok le xs d ys e =
    elim (split_push cs c xs d ys e) [ inl s ↦ rw (s.0, s.1) at le | inr s ↦ ok xs d s.0 s.1 ]
