-- The meter of a number, and one that is charged. Assumes nothing.
use Rattle.std.proofs.Common.{◌≡◌, ℕ, ◌+◌, ◌-◌, ◌<◌, eqb, List, map, length, get_or, set, Some, Ok, Err, Result, sym, ap, ◌∙◌, arith}
use Rattle.std.proofs.lemmas.List.{length-map, get_or-map, map-set}
use Rattle.std.proofs.lemmas.Option.{slice_get-get_or}
use Rattle.std.proofs.lemmas.Bool.{cond-false, ne_eqb}
use Rattle.std.specs.List.{slice_get}
use Rattle.meter.specs.declared.measures.Colour.{Colour}
use Rattle.meter.specs.declared.measures.Load.{Load}
use Rattle.meter.specs.declared.measures.Refusal.{Refusal}
use Rattle.meter.specs.declared.measures.State.{State}
use Rattle.meter.specs.Rules.{Charged}
use Rattle.paths.specs.Layers.{meter_at, after_charge, left_by, put_left, charged_node}

pub nth_map : {S X : Type 0} (f : S → X) (xs : List S) (i : ℕ) (x : S) → i < length xs → x ≡ get_or xs i x → slice_get (map f xs) i ≡ Some (f x)
nth_map f xs i x h is =
    let len : length (map f xs) ≡ length xs = length-map xs f in
    slice_get-get_or (map f xs) i (f x) (omega arith) ∙ ap Some (get_or-map f xs i x (f x) h ∙ ap f (sym is))

pub at_node : (m : State) (ms : List State) (k : ℕ) → (k ≡ 0 → ⊥) → meter_at m ms k ≡ slice_get ms (k - 1)
at_node m ms k n = cond-false (eqb k 0) _ _ (ne_eqb k 0 n)

-- what a charge leaves, whatever it answered
pub left_is : {S : Type 0} (f : S → State) (before later : S) (o : Load) (c : Colour) (r : Result (Unit {0}) Refusal) → Charged f before later o.size.0 o.moment.0 c r → f later ≡ left_by o c (f before)
left_is f before later o c (Ok u) h = sym (ap (after_charge (f before)) h)
left_is f before later o c (Err e) h = ap f h.1 ∙ sym (ap (after_charge (f before)) h.0)

module _ {S : Type 0} (f : S → State) (xs : List S) (k : ℕ) (o : Load) (c : Colour) where
  pub node_charged : (i : ℕ) (x later : S) (r : Result (Unit {0}) Refusal) → k ≡ i + 1 → i < length xs → x ≡ get_or xs i x → Charged f x later o.size.0 o.moment.0 c r → map f (set xs i later) ≡ charged_node o c (map f xs) k
  node_charged i x later r is lt read charge =
      let j : k - 1 ≡ i = omega arith in
      map-set f xs i later ∙ ap (set (map f xs) i) (left_is f x later o c r charge)
      ∙ ap (put_left o c (map f xs) i) (sym (nth_map f xs i x lt read))
      ∙ ap (λ n. put_left o c (map f xs) n (slice_get (map f xs) n)) (sym j)
      ∙ sym (cond-false (eqb k 0) _ _ (ne_eqb k 0 (λ z. omega arith)))
