-- A profile that the words' checks passed makes a meter.
use Rattle.std.proofs.Common.{◌≡◌, ℕ, ◌+◌, Bool, true, false, cond, ◌&&◌, leb, List, get_or, Some, None, Ok, Err, IsOk, Option, Result, refl, subst}
use Rattle.std.specs.Result.{result_and}
use Rattle.meter.specs.declared.measures.State.{State}
use Rattle.meter.specs.declared.measures.Terms.{Terms}
use Rattle.kinds.specs.declared.profiles.Fault.{Fault}
use Rattle.kinds.specs.declared.profiles.Fault.TheVariants.{BadRate, BadDepth, PeakBelowCommitted}
use Rattle.kinds.specs.declared.profiles.Profile.{Profile}
use Rattle.kinds.specs.declared.profiles.Profile.TheVariants.{Vs, Lb, Tb, Sr, Tr}
use Rattle.kinds.specs.Making.{within, rate_of, tolerance_of, burst_of, loose_burst_of, excess_of, peak_of, bought, fresh, made, meant}
use Rattle.colour.specs.declared.purchase.Kind.{Kind}
use Rattle.colour.specs.declared.purchase.Word.{Word}
use Rattle.colour.specs.declared.purchase.WordFault.{WordFault}
use Rattle.colour.specs.Purchase.{missing, number_at, placed, end_at, then, checked_at, two_of, single_of, double_of, profile_for, profile_of}

-- a check hands its number on
abbrev Same : (ℕ → Result ℕ Fault) → Type 0
Same check = (n m : ℕ) → check n ≡ Ok m → n ≡ m

cond_same : (b : Bool) (f : Fault) (n m : ℕ) → cond b (Ok n) (Err f) ≡ Ok m → n ≡ m
cond_same true f n m e = cc
cond_same false f n m e = cc

within_same : (low high : ℕ) (f : Fault) → Same (within low high f)
within_same low high f n m e = cond_same (leb low n && leb n high) f n m e

rate_same : Same rate_of
rate_same = within_same 1 1000000000 BadRate

tolerance_same : Same tolerance_of
tolerance_same = within_same 0 1000000000000 BadDepth

burst_same : Same burst_of
burst_same = within_same 1 1000000000 BadDepth

loose_burst_same : Same loose_burst_of
loose_burst_same = within_same 0 1000000000 BadDepth

excess_same : (cbs : ℕ) → Same (excess_of cbs)
excess_same cbs n m e = go (leb 1 (cbs + n)) e
  where
    go : (b : Bool) → cond b (loose_burst_of n) (Err BadDepth) ≡ Ok m → n ≡ m
    go true h = loose_burst_same n m h
    go false h = cc

peak_same : (cir : ℕ) → Same (peak_of cir)
peak_same cir n m e = go (rate_of n) e
  where
    go : (r : Result ℕ Fault) → result_and r (cond (leb cir n) (Ok n) (Err PeakBelowCommitted)) ≡ Ok m → n ≡ m
    go (Ok k) h = cond_same (leb cir n) PeakBelowCommitted n m h
    go (Err f) h = cc

then_ok : {X Y : Type 0} (r : Result X WordFault) (f : X → Result Y WordFault) (y : Y) → then r f ≡ Ok y → (x : X) × (r ≡ Ok x) × (f x ≡ Ok y)
then_ok (Ok x) f y e = (x, refl, e)
then_ok (Err d) f y e = cc

-- what a last step hands on
then_last : {X Y : Type 0} (r : Result X WordFault) (f : X → Y) (y : Y) → then r (λ x. Ok (f x)) ≡ Ok y → (x : X) × (r ≡ Ok x) × (f x ≡ y)
then_last (Ok x) f y e = (x, refl, cc)
then_last (Err d) f y e = cc

placed_ok : (i : ℕ) (r : Result ℕ Fault) (n : ℕ) → placed i r ≡ Ok n → r ≡ Ok n
placed_ok i (Ok x) n e = cc
placed_ok i (Err f) n e = cc

-- a number that passed its check passes it again
passed : {Y : Type 0} (ws : List Word) (i : ℕ) (check : ℕ → Result ℕ Fault) → Same check → (f : ℕ → Result Y WordFault) (y : Y) → then (checked_at ws i check) f ≡ Ok y → (n : ℕ) × (check n ≡ Ok n) × (f n ≡ Ok y)
passed ws i check same f y e =
    let (n, is, h) = then_ok (checked_at ws i check) f y e in
    let (m, at, k) = then_ok (number_at ws i) (λ k. placed i (check k)) n is in
    let ok = placed_ok i (check m) n k in
    (n, subst (λ k. check k ≡ Ok n) (same m n ok) ok, h)

ended : {Y : Type 0} (ws : List Word) (i : ℕ) (x y : Y) → then (end_at ws i) (λ _. Ok x) ≡ Ok y → x ≡ y
ended ws i x y e = (then_last (end_at ws i) (λ _. x) y e).2

-- the profile of numbers that passed
abbrev Makes : Profile → Type 0
Makes p = IsOk (bought p)

two_makes : (check : ℕ → Result ℕ Fault) → Same check → (make : ℕ → ℕ → Profile) → ((n m : ℕ) → rate_of n ≡ Ok n → check m ≡ Ok m → Makes (make n m)) → (ws : List Word) (p : Profile) → then (two_of check ws) (λ x. Ok (make x.0 x.1)) ≡ Ok p → Makes p
two_makes check same make makes ws p e =
    let (q, hq, is) = then_last (two_of check ws) (λ x. make x.0 x.1) p e in
    let (n, hn, h) = passed ws 1 rate_of rate_same (λ n. then (checked_at ws 2 check) (λ m. then (end_at ws 3) (λ _. Ok (n, m)))) q hq in
    let (m, hm, k) = passed ws 2 check same (λ m. then (end_at ws 3) (λ _. Ok (n, m))) q h in
    subst Makes is (subst (λ (x : ℕ × ℕ). Makes (make x.0 x.1)) (ended ws 3 (n, m) q k) (makes n m hn hm))

single_makes : (ws : List Word) (p : Profile) → single_of ws ≡ Ok p → Makes p
single_makes ws p e =
    let (a, ha, h) = passed ws 1 rate_of rate_same (λ a. then (checked_at ws 2 loose_burst_of) (λ b. then (checked_at ws 3 (excess_of b)) (λ c. then (end_at ws 4) (λ _. Ok (Sr a b c))))) p e in
    let (b, hb, k) = passed ws 2 loose_burst_of loose_burst_same (λ b. then (checked_at ws 3 (excess_of b)) (λ c. then (end_at ws 4) (λ _. Ok (Sr a b c)))) p h in
    let (c, hc, l) = passed ws 3 (excess_of b) (excess_same b) (λ c. then (end_at ws 4) (λ _. Ok (Sr a b c))) p k in
    let makes : Makes (Sr a b c) = rw (ha, hb, hc) in
    subst Makes (ended ws 4 (Sr a b c) p l) makes

double_makes : (ws : List Word) (p : Profile) → double_of ws ≡ Ok p → Makes p
double_makes ws p e =
    let (a, ha, h) = passed ws 1 rate_of rate_same (λ a. then (checked_at ws 2 burst_of) (λ b. then (checked_at ws 3 (peak_of a)) (λ c. then (checked_at ws 4 burst_of) (λ d. then (end_at ws 5) (λ _. Ok (Tr a b c d)))))) p e in
    let (b, hb, k) = passed ws 2 burst_of burst_same (λ b. then (checked_at ws 3 (peak_of a)) (λ c. then (checked_at ws 4 burst_of) (λ d. then (end_at ws 5) (λ _. Ok (Tr a b c d))))) p h in
    let (c, hc, l) = passed ws 3 (peak_of a) (peak_same a) (λ c. then (checked_at ws 4 burst_of) (λ d. then (end_at ws 5) (λ _. Ok (Tr a b c d)))) p k in
    let (d, hd, m) = passed ws 4 burst_of burst_same (λ d. then (end_at ws 5) (λ _. Ok (Tr a b c d))) p l in
    let makes : Makes (Tr a b c d) = rw (ha, hb, hc, hd) in
    subst Makes (ended ws 5 (Tr a b c d) p m) makes

makes_for : (k : Option Kind) (ws : List Word) (p : Profile) → profile_for k ws ≡ Ok p → Makes p
makes_for None ws p e = cc
makes_for (Some Kind.Vs) ws p e = two_makes tolerance_of tolerance_same Vs (λ n m a b. rw (a, b)) ws p e
makes_for (Some Kind.Lb) ws p e = two_makes tolerance_of tolerance_same Lb (λ n m a b. rw (a, b)) ws p e
makes_for (Some Kind.Tb) ws p e = two_makes burst_of burst_same Tb (λ n m a b. rw (a, b)) ws p e
makes_for (Some Kind.Sr) ws p e = single_makes ws p e
makes_for (Some Kind.Tr) ws p e = double_makes ws p e

-- the meter of what is bought
meant_ok : {S : Type 0} (f : S → State) (r : Result S Fault) (b : Result Terms Fault) → meant f r ≡ fresh b → IsOk b → IsOk r
meant_ok f (Ok s) b e h = refl
meant_ok f (Err d) (Ok w) e h = cc
meant_ok f (Err d) (Err g) e h = h

pub profile_makes : {S : Type 0} (f : S → State) (r : Result S Fault) (ws : List Word) (p : Profile) → profile_of ws ≡ Ok p → meant f r ≡ made p → IsOk r
profile_makes f r ws p e is = meant_ok f r (bought p) is (makes_for (get_or ws 0 missing).kind ws p e)
