-- What is judged along a path, whose numbers fall. Assumes nothing.
use Rattle.std.proofs.Common.{◌≡◌, ℕ, ◌+◌, ◌<◌, ◌≤◌, Bool, true, false, cond, ◌&&◌, eqb, List, [], ◌∷◌, Some, None, Option, sym, refl, ap, ◌∙◌, ⊎_elim, arith, Ok, Err}
use Rattle.std.specs.List.{list_all, find}
use Rattle.std.proofs.lemmas.Bool.{cases_eq, ne_eqb, and_parts}
use Rattle.meter.specs.declared.measures.Colour.{Colour}
use Rattle.meter.specs.declared.measures.PacketColour.{PacketColour}
use Rattle.meter.specs.declared.measures.PacketColour.TheVariants.{Green, Yellow, Red}
use Rattle.meter.specs.Alone.{allowed}
use Rattle.paths.specs.declared.layers.Place.{Place}
use Rattle.paths.specs.Layers.{best, lowest, place}
use Rattle.policy.proofs.Ancestry.{Falls}
use Rattle.history.specs.declared.answers.Refusal.TheVariants.{OverDepth, OverExcess}
use Rattle.history.specs.Answers.{blame, or_else, judged, went_back, is_backward}
use Rattle.history.specs.Histories.{among}

pub among_above : (b j : ℕ) (ks : List ℕ) → Falls b ks → b ≤ j → among j ks ≡ false
among_above b j [] f le = refl
among_above b j (k ∷ ks) f le =
    let q : eqb j k ≡ false = ne_eqb j k (λ e. omega (arith, f.1)) in
    ap (λ v. cond v true (among j ks)) q ∙ among_above k j ks f.2 (omega (arith, f.1))

pub among_in : (b j : ℕ) (ks : List ℕ) → Falls b ks → among j ks ≡ true → (0 < j) × (j < b)
among_in b j [] f t = cc
among_in b j (k ∷ ks) f t =
    ⊎_elim
    (λ (e : j ≡ k). (omega (arith, f.0), omega (arith, f.1)))
    (λ (ne : j ≡ k → ⊥).
    let later = among_in k j ks f.2 (sym (ap (λ v. cond v true (among j ks)) (ne_eqb j k ne)) ∙ t) in
    (later.0, omega (arith, later.1, f.1)))
    (cases_eq j k)

-- two tests that agree on a path judge alike

abbrev pub Agree : (ℕ → Bool) → (ℕ → Bool) → List ℕ → Type 0
Agree p q [] = Unit {0}
Agree p q (k ∷ ks) = (p k ≡ q k) × Agree p q ks

pub falls_agree : (p q : ℕ → Bool) (b : ℕ) (ks : List ℕ) → Falls b ks → ((k : ℕ) → 0 < k → k < b → p k ≡ q k) → Agree p q ks
falls_agree p q b [] f same = tt
falls_agree p q b (k ∷ ks) f same = (same k f.0 f.1, falls_agree p q k ks f.2 (λ j pos lt. same j pos (omega (arith, f.1))))

all_same : (p q : ℕ → Bool) (ks : List ℕ) → Agree p q ks → list_all p ks ≡ list_all q ks
all_same p q [] a = refl
all_same p q (k ∷ ks) a = ap (λ v. v && list_all p ks) a.0 ∙ ap (λ v. q k && v) (all_same p q ks a.1)

lowest_same : (p q : ℕ → Bool) (i : ℕ) (ks : List ℕ) → Agree p q ks → lowest p i ks ≡ lowest q i ks
lowest_same p q i [] a = refl
lowest_same p q i (k ∷ ks) a =
    ap (λ v. cond v (lowest p (i + 1) ks) (Some (place i k))) a.0 ∙ ap (λ v. cond (q k) v (Some (place i k))) (lowest_same p q (i + 1) ks a.1)

-- the place that is blamed stands on the path
blame_same : (p : ℕ → Bool) (over under : ℕ → Bool) (i : ℕ) (ks : List ℕ) → Agree over under ks → blame over (lowest p i ks) ≡ blame under (lowest p i ks)
blame_same p over under i [] a = refl
blame_same p over under i (k ∷ ks) a =
    elim (p k) as (λ b. blame over (cond b (lowest p (i + 1) ks) (Some (place i k))) ≡ blame under (cond b (lowest p (i + 1) ks) (Some (place i k))))
    [ true ↦ blame_same p over under (i + 1) ks a.1 | false ↦ ap (λ b. Err (cond b (OverDepth (place i k)) (OverExcess (place i k)))) a.0 ]

best_same : (p q : Colour → ℕ → Bool) (a : PacketColour) (ks : List ℕ) → ((c : Colour) → Agree (p c) (q c) ks) → best p a ks ≡ best q a ks
best_same p q a ks same =
    let g = all_same (p Colour.Green) (q Colour.Green) ks (same Colour.Green) in
    let y = all_same (p Colour.Yellow) (q Colour.Yellow) ks (same Colour.Yellow) in
    ap (λ v. cond (allowed a Colour.Green && v) (Some Colour.Green) (find (λ c. allowed a c && list_all (p c) ks) (Colour.Yellow ∷ []))) g
    ∙ ap (λ v. cond (allowed a Colour.Green && list_all (q Colour.Green) ks) (Some Colour.Green) (cond (allowed a Colour.Yellow && v) (Some Colour.Yellow) None)) y

pub judged_same : (p q : Colour → ℕ → Bool) (over under : ℕ → Bool) (a : PacketColour) (ks : List ℕ) → ((c : Colour) → Agree (p c) (q c) ks) → Agree over under ks → judged p over a ks ≡ judged q under a ks
judged_same p q over under a ks same also = go a
  where
    rest : blame over (lowest (p Colour.Yellow) 0 ks) ≡ blame under (lowest (q Colour.Yellow) 0 ks)
    rest = blame_same (p Colour.Yellow) over under 0 ks also ∙ ap (blame under) (lowest_same (p Colour.Yellow) (q Colour.Yellow) 0 ks (same Colour.Yellow))

    go : (x : PacketColour) → judged p over x ks ≡ judged q under x ks
    go Green = ap (λ v. or_else v (blame over (lowest (p Colour.Yellow) 0 ks))) (best_same p q Green ks same) ∙ ap (or_else (best q Green ks)) rest
    go Yellow = ap (λ v. or_else v (blame over (lowest (p Colour.Yellow) 0 ks))) (best_same p q Yellow ks same) ∙ ap (or_else (best q Yellow ks)) rest
    go Red = refl

-- carried in a colour, everything on the path fits in it

blame_not : (over : ℕ → Bool) (q : Option Place) (c : Colour) → blame over q ≡ Ok c → ⊥
blame_not over None c e = cc
blame_not over (Some q) c e = cc

else_carried : (b : Option Colour) (over : ℕ → Bool) (q : Option Place) (c : Colour) → or_else b (blame over q) ≡ Ok c → b ≡ Some c
else_carried (Some d) over q c e = cc
else_carried None over q c e = absurd (blame_not over q c e)

first_passes : (p : Colour → Bool) (c : Colour) → find p (Colour.Green ∷ Colour.Yellow ∷ []) ≡ Some c → p c ≡ true
first_passes p c e = go (p Colour.Green) refl (p Colour.Yellow) refl e
  where
    go : (x : Bool) → p Colour.Green ≡ x → (y : Bool) → p Colour.Yellow ≡ y → cond x (Some Colour.Green) (cond y (Some Colour.Yellow) None) ≡ Some c → p c ≡ true
    go true ex y ey e = let d : Colour.Green ≡ c = cc in ap p (sym d) ∙ ex
    go false ex true ey e = let d : Colour.Yellow ≡ c = cc in ap p (sym d) ∙ ey
    go false ex false ey e = cc

best_fits : (p : Colour → ℕ → Bool) (a : PacketColour) (c : Colour) (ks : List ℕ) → best p a ks ≡ Some c → list_all (p c) ks ≡ true
best_fits p a c ks e = (and_parts _ _ (first_passes (λ d. allowed a d && list_all (p d) ks) c e)).1

pub judged_fits : (p : Colour → ℕ → Bool) (over : ℕ → Bool) (a : PacketColour) (c : Colour) (ks : List ℕ) → judged p over a ks ≡ Ok c → list_all (p c) ks ≡ true
judged_fits p over Green c ks e = best_fits p Green c ks (else_carried _ over _ c e)
judged_fits p over Yellow c ks e = best_fits p Yellow c ks (else_carried _ over _ c e)
judged_fits p over Red c ks e = cc

pub all_among : (p : ℕ → Bool) (ks : List ℕ) (j : ℕ) → list_all p ks ≡ true → among j ks ≡ true → p j ≡ true
all_among p [] j e t = cc
all_among p (k ∷ ks) j e t =
    let s = and_parts (p k) (list_all p ks) e in
    ⊎_elim
    (λ (q : j ≡ k). ap p q ∙ s.0)
    (λ (ne : j ≡ k → ⊥). all_among p ks j s.1 (sym (ap (λ v. cond v true (among j ks)) (ne_eqb j k ne)) ∙ t))
    (cases_eq j k)

-- a judgement is never that of the clock
blame_timely : (over : ℕ → Bool) (q : Option Place) → went_back (blame over q) ≡ false
blame_timely over None = refl
blame_timely over (Some q) = elim (over q.node) as (λ b. is_backward (cond b (OverDepth q) (OverExcess q)) ≡ false) [ true ↦ refl | false ↦ refl ]

else_timely : (b : Option Colour) (over : ℕ → Bool) (q : Option Place) → went_back (or_else b (blame over q)) ≡ false
else_timely (Some c) over q = refl
else_timely None over q = blame_timely over q

pub judged_timely : (p : Colour → ℕ → Bool) (over : ℕ → Bool) (a : PacketColour) (ks : List ℕ) → went_back (judged p over a ks) ≡ false
judged_timely p over Green ks = else_timely (best p Green ks) over (lowest (p Colour.Yellow) 0 ks)
judged_timely p over Yellow ks = else_timely (best p Yellow ks) over (lowest (p Colour.Yellow) 0 ks)
judged_timely p over Red ks = refl
