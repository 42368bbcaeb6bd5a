-- A history with one more entry: its clock, its charges, its keys. Assumes nothing.
use Rattle.std.proofs.Common.{◌≡◌, ℕ, ◌+◌, ◌<◌, ◌≤◌, Bool, true, false, cond, List, [], ◌∷◌, ◌++◌, Some, None, Option, sym, refl, ap, ◌∙◌, ⊎_elim, append_assoc, append-nil, le_trans, le_refl, arith, Ok, Err}
use Rattle.std.proofs.lemmas.Bool.{cases_lt, lt-ltb, le-ltb}
use Rattle.meter.specs.declared.measures.Colour.{Colour}
use Rattle.meter.specs.declared.measures.Terms.{Terms}
use Rattle.meter.specs.Rules.{cost}
use Rattle.meter.specs.Windows.{Charge, charge_of, By}
use Rattle.packet.specs.declared.kinds.Key.{Key}
use Rattle.history.specs.declared.answers.Refusal.{Refusal}
use Rattle.history.specs.declared.answers.Refusal.TheVariants.{Backward}
use Rattle.history.specs.Answers.{Answer, is_carried, went_back}
use Rattle.history.specs.Histories.{Config, Offer, Entry, History, entry_of, clock_from, clock_of, charges_of, alike, same_kind, is_key, key_of, carried_of, carried_key, new_key, keys_like, answer_for, answer_of, LawfulFrom, Lawful}
use Rattle.history.proofs.Keys.{alike_decides, alike_sym}

pub by_later : (s t : ℕ) (l : List Charge) → s ≤ t → By s l → By t l
by_later s t [] le b = tt
by_later s t (c ∷ l) le b = (le_trans b.0 le, by_later s t l le b.1)

pub by_push : (t : ℕ) (cs : List Charge) (c : Charge) → t ≤ c.at → By t cs → By c.at (cs ++ (c ∷ []))
by_push t [] c le by = (le_refl c.at, tt)
by_push t (x ∷ xs) c le by = (le_trans by.0 le, by_push t xs c le by.1)

pub clock_snoc : (t : ℕ) (h : History) (e : Entry) → clock_from t (h ++ (e ∷ [])) ≡ cond (went_back e.answer) (clock_from t h) e.offer.moment
clock_snoc t [] e = refl
clock_snoc t (x ∷ h) e = clock_snoc (cond (went_back x.answer) t x.offer.moment) h e

pub charges_snoc : (p : Entry → Bool) (w : Terms) (h : History) (e : Entry) → charges_of p w (h ++ (e ∷ [])) ≡ charges_of p w h ++ charges_of p w (e ∷ [])
charges_snoc p w [] e = refl
charges_snoc p w (x ∷ h) e =
    let first : Charge = charge_of x.offer.moment (cond (p x) (cost w x.offer.size) 0) in
    let more = charges_snoc p w h e in
    elim (is_carried x.answer) as (λ b. cond b (first ∷ charges_of p w (h ++ (e ∷ []))) (charges_of p w (h ++ (e ∷ []))) ≡ cond b (first ∷ charges_of p w h) (charges_of p w h) ++ charges_of p w (e ∷ []))
    [ true ↦ ap (λ l. first ∷ l) more | false ↦ more ]

-- a record that did not go back came at the clock or later
abbrev pub Timely : History → Offer → Answer → Type 0
Timely h o a = went_back a ≡ false → clock_of h ≤ o.moment

pub clock_rises : (h : History) (o : Offer) (a : Answer) → Timely h o a → clock_of h ≤ clock_of (h ++ (entry_of o a ∷ []))
clock_rises h o a timely = rw (clock_snoc 0 h (entry_of o a)) (go (went_back a) timely)
  where
    go : (b : Bool) → (b ≡ false → clock_of h ≤ o.moment) → clock_of h ≤ cond b (clock_of h) o.moment
    go true f = le_refl (clock_of h)
    go false f = f refl

-- what is refused is not charged
pub charges_none : (p : Entry → Bool) (w : Terms) (h : History) (o : Offer) (e : Refusal) → charges_of p w (h ++ (entry_of o (Err e) ∷ [])) ≡ charges_of p w h
charges_none p w h o e = charges_snoc p w h (entry_of o (Err e)) ∙ append-nil (charges_of p w h)

pub by_step : (p : Entry → Bool) (w : Terms) (h : History) (o : Offer) (a : Answer) → Timely h o a → By (clock_of h) (charges_of p w h) → By (clock_of (h ++ (entry_of o a ∷ []))) (charges_of p w (h ++ (entry_of o a ∷ [])))
by_step p w h o (Ok c) timely b =
    rw (clock_snoc 0 h (entry_of o (Ok c)), charges_snoc p w h (entry_of o (Ok c)))
    (by_push (clock_of h) (charges_of p w h) (charge_of o.moment (cond (p (entry_of o (Ok c))) (cost w o.size) 0)) (timely refl) b)
by_step p w h o (Err e) timely b = rw (charges_none p w h o e) (by_later (clock_of h) _ (charges_of p w h) (clock_rises h o (Err e) timely) b)

pub answer_back : (g : Config) (h : History) (o : Offer) → o.moment < clock_of h → answer_of g h o ≡ Err Backward
answer_back g h o lt = ap (λ b. cond b (Err Backward) (answer_for g h o o.flow)) (lt-ltb o.moment (clock_of h) lt)

pub answer_on : (g : Config) (h : History) (o : Offer) → clock_of h ≤ o.moment → answer_of g h o ≡ answer_for g h o o.flow
answer_on g h o le = ap (λ b. cond b (Err Backward) (answer_for g h o o.flow)) (le-ltb o.moment (clock_of h) le)

pub timely : (g : Config) (h : History) (o : Offer) (a : Answer) → a ≡ answer_of g h o → Timely h o a
timely g h o a e n =
    ⊎_elim
    (λ lt. let z : a ≡ Err Backward = e ∙ answer_back g h o lt in let y : true ≡ false = sym (ap went_back z) ∙ n in cc)
    (λ le. le)
    (cases_lt o.moment (clock_of h))

by_from : (g : Config) (p : Entry → Bool) (w : Terms) (before h : History) → LawfulFrom g before h → By (clock_of before) (charges_of p w before) → By (clock_of (before ++ h)) (charges_of p w (before ++ h))
by_from g p w before [] l b = rw (append-nil before) b
by_from g p w before (e ∷ h) l b =
    rw (append_assoc before (e ∷ []) h) at
    (by_from g p w (before ++ (e ∷ [])) h l.1 (by_step p w before e.offer e.answer (timely g before e.offer e.answer l.0) b))

-- each charge of a lawful history was made by its clock
pub lawful_by : (g : Config) (p : Entry → Bool) (w : Terms) (h : History) → Lawful g h → By (clock_of h) (charges_of p w h)
lawful_by g p w h l = by_from g p w [] h l tt

lawful_more : (g : Config) (before h : History) (e : Entry) → LawfulFrom g before h → e.answer ≡ answer_of g (before ++ h) e.offer → LawfulFrom g before (h ++ (e ∷ []))
lawful_more g before [] e l a = (rw (append-nil before) at a, tt)
lawful_more g before (x ∷ h) e l a = (l.0, lawful_more g (before ++ (x ∷ [])) h e l.1 (a ∙ ap (λ b. answer_of g b e.offer) (sym (append_assoc before (x ∷ []) h))))

pub lawful_snoc : (g : Config) (h : History) (o : Offer) (a : Answer) → Lawful g h → a ≡ answer_of g h o → Lawful g (h ++ (entry_of o a ∷ []))
lawful_snoc g h o a l e = lawful_more g [] h (entry_of o a) l e

-- keys

pub key_none : (h : History) (o : Offer) (e : Refusal) (k : Key) → carried_key (h ++ (entry_of o (Err e) ∷ [])) k ≡ carried_key h k
key_none [] o e k = refl
key_none (x ∷ h) o e k = ap (λ v. cond (is_key k (carried_of x)) true v) (key_none h o e k)

pub key_some : (h : History) (o : Offer) (c : Colour) (k : Key) → carried_key (h ++ (entry_of o (Ok c) ∷ [])) k ≡ cond (carried_key h k) true (is_key k (key_of o))
key_some [] o c k = elim (is_key k (key_of o)) as (λ b. cond b true false ≡ b) [ true ↦ refl | false ↦ refl ]
key_some (x ∷ h) o c k =
    let more = key_some h o c k in
    elim (is_key k (carried_of x)) as (λ b. cond b true (carried_key (h ++ (entry_of o (Ok c) ∷ [])) k) ≡ cond (cond b true (carried_key h k)) true (is_key k (key_of o)))
    [ true ↦ refl | false ↦ more ]

-- how many keys

new_none : (k : Key) (h : History) (o : Offer) (e : Refusal) (j : Option Key) → new_key k (h ++ (entry_of o (Err e) ∷ [])) j ≡ new_key k h j
new_none k h o e None = refl
new_none k h o e (Some j) = ap (λ v. cond (same_kind k j) (cond v 0 1) 0) (key_none h o e j)

pub keys_none : (k : Key) (h : History) (o : Offer) (e : Refusal) → keys_like k (h ++ (entry_of o (Err e) ∷ [])) ≡ keys_like k h
keys_none k [] o e = omega arith
keys_none k (x ∷ h) o e =
    ap (λ v. v + keys_like k (h ++ (entry_of o (Err e) ∷ []))) (new_none k h o e (carried_of x)) ∙ ap (λ v. new_key k h (carried_of x) + v) (keys_none k h o e)

module _ (k : Key) (o : Offer) (c : Colour) (i : Key) (own : key_of o ≡ Some i) where
  -- one more key, at x's place or at the end
  counts : (d n : ℕ) (mine its same other v u : Bool) → same ≡ other → (same ≡ true → v ≡ u) → (same ≡ true → mine ≡ its) → n ≡ d + cond its (cond u 0 1) 0 →
      cond mine (cond (cond v true same) 0 1) 0 + n ≡ (cond mine (cond v 0 1) 0 + d) + cond its (cond (cond other true u) 0 1) 0
  counts d n false its true true v u e f q is = let z : false ≡ its = q refl in rw (sym z) (omega (arith, ap {B = ℕ} (λ b. cond b (cond u 0 1) 0) z))
  counts d n false its false false v u e f q is = omega arith
  counts d n true its true true v true e f q is = let z : v ≡ true = f refl in let y : true ≡ its = q refl in rw (z, sym y) (omega (arith, ap {B = ℕ} (λ b. cond b 0 0) y))
  counts d n true its true true v false e f q is = let z : v ≡ false = f refl in let y : true ≡ its = q refl in rw (z, sym y) (omega (arith, ap {B = ℕ} (λ b. cond b 1 0) y))
  counts d n true its false false true u e f q is = omega arith
  counts d n true its false false false u e f q is = omega arith
  counts d n mine its true false v u e f q is = cc
  counts d n mine its false true v u e f q is = cc

  abbrev after : History → History
  after h = h ++ (entry_of o (Ok c) ∷ [])

  key_after : (h : History) (j : Key) → carried_key (after h) j ≡ cond (carried_key h j) true (alike i j)
  key_after h j = key_some h o c j ∙ ap (λ v. cond (carried_key h j) true (is_key j v)) own

  pub keys_some : (h : History) → keys_like k (after h) ≡ keys_like k h + cond (same_kind k i) (cond (carried_key h i) 0 1) 0
  keys_some [] = ap (λ v. new_key k [] v + 0) own ∙ omega arith
  keys_some (x ∷ h) = go (carried_of x) (keys_some h)
    where
      go : (j : Option Key) → keys_like k (after h) ≡ keys_like k h + cond (same_kind k i) (cond (carried_key h i) 0 1) 0 →
          new_key k (after h) j + keys_like k (after h) ≡ (new_key k h j + keys_like k h) + cond (same_kind k i) (cond (cond (is_key i j) true (carried_key h i)) 0 1) 0
      go None more = omega arith
      go (Some j) more =
          ap (λ v. cond (same_kind k j) (cond v 0 1) 0 + keys_like k (after h)) (key_after h j)
          ∙ counts (keys_like k h) (keys_like k (after h)) (same_kind k j) (same_kind k i) (alike i j) (alike j i) (carried_key h j) (carried_key h i) (alike_sym i j)
          (λ t. ap (carried_key h) (sym ((alike_decides i j).0 t))) (λ t. ap (same_kind k) (sym ((alike_decides i j).0 t))) more
