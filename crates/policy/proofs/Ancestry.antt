-- The way up from a node: more steps than its number change nothing, the numbers on it fall, and a node more leaves it.
use Rattle.std.proofs.Common.{◌≡◌, ℕ, zero, suc, ◌+◌, ◌-◌, ◌<◌, ◌≤◌, cond, List, [], ◌∷◌, ◌++◌, length, sym, refl, ap, ◌∙◌, subst, ⊎_elim, arith}
use Rattle.std.proofs.lemmas.List.{get_or_append_left}
use Rattle.std.proofs.lemmas.Bool.{cases_eq, eq-eqb, ne_eqb}
use Rattle.policy.specs.Trees.{parent_of, upward, ancestry, depth_of, Earlier, DepthLaw}

pub upward_none : (f : ℕ) (ps : List ℕ) (n : ℕ) → n ≡ 0 → upward f ps n ≡ []
upward_none zero ps n e = refl
upward_none (suc f) ps n e = ap (λ v. cond v [] (n ∷ upward f ps (parent_of ps n))) (eq-eqb n 0 e)

pub upward_more : (f : ℕ) (ps : List ℕ) (n : ℕ) → 0 < n → upward (suc f) ps n ≡ n ∷ upward f ps (parent_of ps n)
upward_more f ps n pos = ap (λ v. cond v [] (n ∷ upward f ps (parent_of ps n))) (ne_eqb n 0 (λ e. omega arith))

pub parent_below : (ps : List ℕ) → Earlier ps → (n : ℕ) → 0 < n → n ≤ length ps → parent_of ps n < n
parent_below ps earlier n pos inside = let low : parent_of ps n ≤ n - 1 = earlier (n - 1) (omega arith) in omega arith

upward_same : (ps : List ℕ) → Earlier ps → (f g n : ℕ) → n ≤ f → n ≤ g → n ≤ length ps → upward f ps n ≡ upward g ps n
upward_same ps earlier zero g n a b inside = sym (upward_none g ps n (omega arith))
upward_same ps earlier (suc f) zero n a b inside = upward_none (suc f) ps n (omega arith)
upward_same ps earlier (suc f) (suc g) n a b inside =
    ⊎_elim
    (λ (e : n ≡ 0). upward_none (suc f) ps n e ∙ sym (upward_none (suc g) ps n e))
    (λ (ne : n ≡ 0 → ⊥).
    let pos : 0 < n = omega arith in
    let low = parent_below ps earlier n pos inside in
    upward_more f ps n pos ∙ ap (λ up. n ∷ up) (upward_same ps earlier f g (parent_of ps n) (omega arith) (omega arith) (omega arith)) ∙ sym (upward_more g ps n pos))
    (cases_eq n 0)

pub upward_enough : (ps : List ℕ) → Earlier ps → (f n : ℕ) → n ≤ f → n ≤ length ps → upward f ps n ≡ ancestry ps n
upward_enough ps earlier f n enough inside = upward_same ps earlier f n n enough (omega arith) inside

pub ancestry_more : (ps : List ℕ) → Earlier ps → (n : ℕ) → 0 < n → n ≤ length ps → ancestry ps n ≡ n ∷ ancestry ps (parent_of ps n)
ancestry_more ps earlier n pos inside =
    let steps : n ≡ suc (n - 1) = omega arith in
    let low = parent_below ps earlier n pos inside in
    ap (λ f. upward f ps n) steps ∙ upward_more (n - 1) ps n pos ∙ ap (λ up. n ∷ up) (upward_enough ps earlier (n - 1) (parent_of ps n) (omega arith) (omega arith))

pub depth_more : (ps : List ℕ) → Earlier ps → (n : ℕ) → 0 < n → n ≤ length ps → depth_of ps n ≡ depth_of ps (parent_of ps n) + 1
depth_more ps earlier n pos inside = let e = ap length (ancestry_more ps earlier n pos inside) in omega arith

pub depth_law : (ps : List ℕ) → Earlier ps → DepthLaw ps
depth_law ps earlier = (refl, λ n pos inside. depth_more ps earlier n pos inside)

-- numbers above 0, the first below b, and each below the one before
abbrev pub Falls : ℕ → List ℕ → Type 0
Falls b [] = Unit {0}
Falls b (k ∷ ks) = (0 < k) × (k < b) × Falls k ks

pub falls_from : (a b : ℕ) (ks : List ℕ) → a ≤ b → Falls a ks → Falls b ks
falls_from a b [] le falls = tt
falls_from a b (k ∷ ks) le falls = (falls.0, omega (arith, falls.1), falls.2)

pub upward_falls : (ps : List ℕ) → Earlier ps → (f n : ℕ) → n ≤ length ps → Falls (n + 1) (upward f ps n)
upward_falls ps earlier zero n inside = tt
upward_falls ps earlier (suc f) n inside =
    ⊎_elim
    (λ (e : n ≡ 0). subst (Falls (n + 1)) (sym (upward_none (suc f) ps n e)) tt)
    (λ (ne : n ≡ 0 → ⊥).
    let pos : 0 < n = omega arith in
    let up = parent_of ps n in
    let low = parent_below ps earlier n pos inside in
    subst (Falls (n + 1)) (sym (upward_more f ps n pos)) (pos, omega arith, falls_from (up + 1) n (upward f ps up) (omega arith) (upward_falls ps earlier f up (omega arith))))
    (cases_eq n 0)

pub ancestry_falls : (ps : List ℕ) → Earlier ps → (n : ℕ) → n ≤ length ps → Falls (n + 1) (ancestry ps n)
ancestry_falls ps earlier n inside = upward_falls ps earlier n n inside

parent_push : (ps : List ℕ) (p n : ℕ) → 0 < n → n ≤ length ps → parent_of (ps ++ p ∷ []) n ≡ parent_of ps n
parent_push ps p n pos inside = get_or_append_left ps (p ∷ []) 0 (n - 1) (omega arith)

upward_push : (ps : List ℕ) → Earlier ps → (p f n : ℕ) → n ≤ length ps → upward f (ps ++ p ∷ []) n ≡ upward f ps n
upward_push ps earlier p zero n inside = refl
upward_push ps earlier p (suc f) n inside =
    ⊎_elim
    (λ (e : n ≡ 0). upward_none (suc f) (ps ++ p ∷ []) n e ∙ sym (upward_none (suc f) ps n e))
    (λ (ne : n ≡ 0 → ⊥).
    let pos : 0 < n = omega arith in
    let low = parent_below ps earlier n pos inside in
    upward_more f (ps ++ p ∷ []) n pos
    ∙ ap (λ up. n ∷ upward f (ps ++ p ∷ []) up) (parent_push ps p n pos inside)
    ∙ ap (λ up. n ∷ up) (upward_push ps earlier p f (parent_of ps n) (omega arith))
    ∙ sym (upward_more f ps n pos))
    (cases_eq n 0)

pub ancestry_push : (ps : List ℕ) → Earlier ps → (p n : ℕ) → n ≤ length ps → ancestry (ps ++ p ∷ []) n ≡ ancestry ps n
ancestry_push ps earlier p n inside = upward_push ps earlier p n n inside
