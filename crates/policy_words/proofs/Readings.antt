-- The laws of the parts of a line, and of the number that is the next word. Assumes nothing.
use Rattle.std.proofs.Common.{◌≡◌, ℕ, suc, ◌^◌, ◌<◌, Bool, true, false, cond, eqb, ◌⊎◌, List, [], ◌∷◌, ◌++◌, Ok, Err, Result, sym, refl, ap, ◌∙◌, subst, inl, inr}
use Rattle.std.specs.Char.{is_ascii_digit}
use Rattle.std.proofs.lemmas.Bool.{cond-true, cond-false, eqb-true, eq-eqb}
use Rattle.policy_words.specs.declared.numbers.NumberFault.{NumberFault}
use Rattle.policy_words.specs.declared.causes.Cause.TheVariants.{Form}
use Rattle.policy_words.specs.Numbers.{digit_run, number_of, Undigited}
use Rattle.policy_words.specs.Words.{then, choice, stop, lit, gap, formed, whole, field, finish}
use Rattle.policy_words.specs.Texts.{word_on}
use Rattle.policy_words.specs.Laws.{Word}
use Rattle.policy_words.proofs.Digits.{number_back, number_forth}

-- what a reading that went well read first
pub then_ok : {A B E : Type 0} (r : Result A E) (f : A → Result B E) (b : B) → then r f ≡ Ok b → (a : A) × (r ≡ Ok a) × (f a ≡ Ok b)
then_ok (Ok a) f b h = (a, refl, h)
then_ok (Err e) f b h = cc

pub cond_ok : {A E : Type 0} (t : Bool) (r : Result A E) (e : E) (a : A) → cond t r (Err e) ≡ Ok a → (t ≡ true) × (r ≡ Ok a)
cond_ok true r e a h = (refl, h)
cond_ok false r e a h = cc

pub ok_cond : {A E : Type 0} (t : Bool) (r : Result A E) (e : E) (a : A) → cond t (Err e) r ≡ Ok a → (t ≡ false) × (r ≡ Ok a)
ok_cond false r e a h = (refl, h)
ok_cond true r e a h = cc

pub same_ok : {A E : Type 0} {a b : A} → ◌≡◌ {A = Result A E} (Ok a) (Ok b) → a ≡ b
same_ok h = cc

-- which of two readings it was that went well
pub choice_ok : {A B E F : Type 0} (r : Result A E) (f : A → Result B F) (g : Result B F) (b : B) → choice r f g ≡ Ok b → ((a : A) × (r ≡ Ok a) × (f a ≡ Ok b)) ⊎ (g ≡ Ok b)
choice_ok (Ok a) f g b h = inl (a, refl, h)
choice_ok (Err e) f g b h = inr h

-- no digit follows a word
pub stop_undigited : (t : List ℕ) → stop t ≡ true → Undigited t
stop_undigited [] h = refl
stop_undigited (c ∷ cs) h =
    let e : c ≡ 32 = eqb-true c 32 h in
    cond-false (is_ascii_digit c) (suc (digit_run cs)) 0 (ap is_ascii_digit e)

pub lit_back : (ks t rest : List ℕ) → lit ks t ≡ Ok rest → (t ≡ ks ++ rest) × (stop rest ≡ true)
lit_back [] t rest h = let q = cond_ok (stop t) (Ok t) Form rest h in let e : t ≡ rest = same_ok q.1 in (e, ap stop (sym e) ∙ q.0)
lit_back (k ∷ ks) [] rest h = cc
lit_back (k ∷ ks) (c ∷ cs) rest h =
    let q = cond_ok (eqb c k) (lit ks cs) Form rest h in
    let e = eqb-true c k q.0 in
    let p = lit_back ks cs rest q.1 in
    ((λ i. e i ∷ p.0 i), p.1)

pub lit_on : (ks t : List ℕ) → lit ks (ks ++ t) ≡ cond (stop t) (Ok t) (Err Form)
lit_on [] t = refl
lit_on (k ∷ ks) t = cond-true (eqb k k) _ _ (eq-eqb k k refl) ∙ lit_on ks t

pub lit_forth : (ks rest : List ℕ) → stop rest ≡ true → lit ks (ks ++ rest) ≡ Ok rest
lit_forth ks rest h = lit_on ks rest ∙ cond-true (stop rest) _ _ h

pub lit_not : (ks t : List ℕ) → ((rest : List ℕ) → t ≡ ks ++ rest → ⊥) → lit ks t ≡ Err Form
lit_not [] t h = absurd (h t refl)
lit_not (k ∷ ks) [] h = refl
lit_not (k ∷ ks) (c ∷ cs) h = go (eqb c k) refl (λ a. lit_not ks cs (λ rest e. h rest (λ i. eqb-true c k a i ∷ e i)))
  where
    go : (b : Bool) → eqb c k ≡ b → (eqb c k ≡ true → lit ks cs ≡ Err Form) → cond b (lit ks cs) (Err Form) ≡ Err Form
    go true e f = f e
    go false e f = refl

pub gap_back : (t rest : List ℕ) → gap t ≡ Ok rest → t ≡ 32 ∷ rest
gap_back [] rest h = cc
gap_back (c ∷ cs) rest h =
    let q = cond_ok (eqb c 32) (Ok cs) Form rest h in
    let e = eqb-true c 32 q.0 in
    let f : cs ≡ rest = same_ok q.1 in
    (λ i. e i ∷ f i)

pub formed_ok : {A : Type 0} (r : Result A NumberFault) (a : A) → formed r ≡ Ok a → r ≡ Ok a
formed_ok (Ok x) a h = ap Ok (same_ok h)
formed_ok (Err e) a h = cc

pub finish_back : (t : List ℕ) (u : Unit {0}) → finish t ≡ Ok u → t ≡ []
finish_back [] u h = refl
finish_back (c ∷ cs) u h = cc

-- what a word's law says of what was read
abbrev pub Wrote : {A : Type 0} → (A → List ℕ → List ℕ) → (A → Type 0) → List ℕ → A × List ℕ → Type 0
Wrote text Fine t p = (t ≡ text p.0 p.1) × Fine p.0 × (stop p.1 ≡ true)

field_back : (t : List ℕ) (p : ℕ × List ℕ) → field t ≡ Ok p → Wrote word_on (λ v. v < 10 ^ 13) t p
field_back t p h =
    let a = then_ok (gap t) (λ u. then (formed (number_of u)) whole) p h in
    let b = then_ok (formed (number_of a.0)) whole p a.2 in
    let w = cond_ok (stop b.0.1) (Ok b.0) Form p b.2 in
    let same : b.0 ≡ p = same_ok w.1 in
    let n = number_back a.0 b.0.0 b.0.1 (formed_ok (number_of a.0) b.0 b.1) in
    subst (Wrote word_on (λ v. v < 10 ^ 13) t) same (gap_back t a.0 a.1 ∙ ap (λ l. 32 ∷ l) n.0, n.2, w.0)

field_forth : (v : ℕ) (rest : List ℕ) → v < 10 ^ 13 → stop rest ≡ true → field (word_on v rest) ≡ Ok (v, rest)
field_forth v rest small h = ap (λ r. then (formed r) whole) (number_forth v rest small (stop_undigited rest h)) ∙ cond-true (stop rest) _ _ h

pub number_word : Word field word_on (λ v. v < 10 ^ 13)
number_word = record { back = λ t v rest h. field_back t (v, rest) h; forth = field_forth }

-- readings in a row, however they are grouped
pub then_then : {A B D E : Type 0} (r : Result A E) (f : A → Result B E) (g : B → Result D E) → then (then r f) g ≡ then r (λ a. then (f a) g)
then_then (Ok a) f g = refl
then_then (Err e) f g = refl
