-- In a lawful history every window keeps to rate and depth. Assumes nothing.
use Rattle.std.proofs.Common.{◌≡◌, ℕ, ◌+◌, ◌≤◌, Bool, true, false, cond, ltb, [], ◌∷◌, ◌++◌, Some, None, Ok, Err, Option, Result, sym, refl, ap, ◌∙◌, subst, ⊎_elim, append_assoc, append-nil, arith}
use Rattle.std.proofs.lemmas.Bool.{cases_Bool, ne_eqb, and_parts, leb-true}
use Rattle.meter.specs.declared.measures.Colour.{Colour}
use Rattle.meter.specs.declared.measures.Colour.TheVariants.{Green, Yellow}
use Rattle.meter.specs.declared.measures.Limit.{Limit}
use Rattle.meter.specs.declared.measures.Terms.{Terms}
use Rattle.meter.specs.Rules.{cost, fits_by, green_room}
use Rattle.meter.specs.Windows.{Charge, charge_of, By, fill, Admitted}
use Rattle.meter.proofs.Fill.{fill_later, fill_charge}
use Rattle.meter.proofs.Held.{windows_hold, admitted_none, admitted_push}
use Rattle.history.specs.declared.answers.Refusal.{Refusal}
use Rattle.history.specs.declared.answers.Refusal.TheVariants.{Backward, TableFull}
use Rattle.history.specs.Answers.{Answer, is_green, carried_green}
use Rattle.history.specs.Histories.{Config, Flow, Offer, Entry, History, entry_of, clock_of, charges_of, counts, counts_green, fill_if, green_fill, meter_fits, on_node, on_flow, key_in, key_of, is_key, nodes_of, node_terms, flow_terms, fits_for, over_for, answer_for, answer_of, LawfulFrom, Lawful}
use Rattle.history.specs.Windows.{green_windows, MeterWindows, WindowLaw}
use Rattle.history.proofs.Keys.{alike_decides}
use Rattle.history.proofs.Longer.{clock_snoc, clock_rises, charges_snoc, charges_none, by_step, Timely, timely}
use Rattle.history.proofs.Pathing.{judged_fits, all_among}

module _ (p : Entry → Bool) (w : Terms) (rate depth : ℕ) where
  -- the fill only falls
  low_later : (h : History) (t : ℕ) → clock_of h ≤ t → By (clock_of h) (charges_of p w h) → fill rate (charges_of p w h) (clock_of h) ≤ depth → fill rate (charges_of p w h) t ≤ depth
  low_later h t le by low = let e = fill_later rate (charges_of p w h) (clock_of h) t le by in omega arith

  abbrev Low : History → Type 0
  Low h = Admitted rate depth (charges_of p w h) × (fill rate (charges_of p w h) (clock_of h) ≤ depth)

  low_step : (h : History) (o : Offer) (a : Answer) → Timely h o a → By (clock_of h) (charges_of p w h) → Low h →
      ((c : Colour) → a ≡ Ok c → p (entry_of o a) ≡ true → fill rate (charges_of p w h) o.moment + cost w o.size ≤ depth) → Low (h ++ (entry_of o a ∷ []))
  low_step h o (Ok c) ti by low fits =
      let l = charges_of p w h in
      let e = entry_of o (Ok c) in
      let n = cond (p e) (cost w o.size) 0 in
      let new : Charge = charge_of o.moment n in
      let under : fill rate l o.moment + n ≤ depth =
      ⊎_elim
      (λ (b : p e ≡ true). subst (λ v. fill rate l o.moment + cond v (cost w o.size) 0 ≤ depth) (sym b) (fits c refl b))
      (λ (b : p e ≡ false). subst (λ v. fill rate l o.moment + cond v (cost w o.size) 0 ≤ depth) (sym b) (let x = low_later h o.moment (ti refl) by low.1 in omega arith))
      (cases_Bool (p e)) in
      let top : fill rate (l ++ (new ∷ [])) o.moment ≤ depth = let x = fill_charge rate l new in omega arith in (
        subst (Admitted rate depth) (sym (charges_snoc p w h e)) (admitted_push rate depth l new low.0 under),
        subst (λ v. fill rate v (clock_of (h ++ (e ∷ []))) ≤ depth) (sym (charges_snoc p w h e)) (subst (λ t. fill rate (l ++ (new ∷ [])) t ≤ depth) (sym (clock_snoc 0 h e)) top),
      )
  low_step h o (Err e) ti by low fits =
      let same = charges_none p w h o e in
      (subst (Admitted rate depth) (sym same) low.0, subst (λ l. fill rate l (clock_of (h ++ (entry_of o (Err e) ∷ []))) ≤ depth) (sym same) (low_later h _ (clock_rises h o (Err e) ti) by low.1))

  module _ (g : Config) (whole : History)
      (fits : (before : History) (e : Entry) → e.answer ≡ answer_of g before e.offer → (c : Colour) → e.answer ≡ Ok c → p e ≡ true → fill rate (charges_of p w before) e.offer.moment + cost w e.offer.size ≤ depth) where
    go : (before rest : History) → whole ≡ before ++ rest → LawfulFrom g before rest → By (clock_of before) (charges_of p w before) → Low before → Admitted rate depth (charges_of p w whole)
    go before [] e l by low = subst (λ v. Admitted rate depth (charges_of p w v)) (sym (e ∙ append-nil before)) low.0
    go before (x ∷ rest) e l by low =
        let ti = timely g before x.offer x.answer l.0 in
        go (before ++ (x ∷ [])) rest (e ∙ sym (append_assoc before (x ∷ []) rest)) l.1 (by_step p w before x.offer x.answer ti by)
        (low_step before x.offer x.answer ti by low (fits before x l.0))

    pub all_admitted : Lawful g whole → Admitted rate depth (charges_of p w whole)
    all_admitted l = go [] whole refl l tt (admitted_none rate depth, omega arith)

fits_all : (w : Terms) (fa fg n : ℕ) (c : Colour) → fits_by w fa fg n c ≡ true → fa + n ≤ w.all.depth.0
fits_all w fa fg n Green e = leb-true _ _ (and_parts _ _ e).0
fits_all w fa fg n Yellow e = leb-true _ _ (and_parts _ _ e).0

green_only : (c : Colour) → is_green c ≡ true → c ≡ Green
green_only Green e = refl
green_only Yellow e = cc

carried_judged : (b : Bool) (j : Answer) (c : Colour) → cond b (Err TableFull) j ≡ Ok c → j ≡ Ok c
carried_judged true j c e = cc
carried_judged false j c e = e

back_not : (b : Bool) (j : Answer) (c : Colour) → cond b (Err Backward) j ≡ Ok c → j ≡ Ok c
back_not true j c e = cc
back_not false j c e = e

-- a carried record has a flow, and fits every meter of its path
pub carried_fits : (g : Config) (h : History) (o : Offer) (c : Colour) → answer_of g h o ≡ Ok c →
    (f : Flow) × (o.flow ≡ Ok f) × (fits_for g h o f.key c 0 ≡ true) × ((j : ℕ) → on_node g j o ≡ true → fits_for g h o f.key c j ≡ true)
carried_fits g h o c e = go o.flow refl (back_not (ltb o.moment (clock_of h)) _ c e)
  where
    go : (r : Result Flow Refusal) → o.flow ≡ r → answer_for g h o r ≡ Ok c → (f : Flow) × (o.flow ≡ Ok f) × (fits_for g h o f.key c 0 ≡ true) × ((j : ℕ) → on_node g j o ≡ true → fits_for g h o f.key c j ≡ true)
    go (Err x) is car = cc
    go (Ok f) is car =
        let fit = judged_fits (fits_for g h o f.key) (over_for g h o f.key) f.arrival c (0 ∷ nodes_of g o) (carried_judged _ _ c car) in
        let s = and_parts _ _ fit in
        (f, is, s.0, λ j on. all_among (fits_for g h o f.key c) (nodes_of g o) j s.1 on)

module _ (g : Config) (whole : History) (lawful : Lawful g whole) (w : Terms) (on : Offer → Bool)
    (met : (before : History) (o : Offer) (c : Colour) → answer_of g before o ≡ Ok c → on o ≡ true → meter_fits w on before o c ≡ true) where
  green_law : (b : Option Limit) → w.green ≡ b → green_windows b w on whole
  green_law None e = tt
  green_law (Some l) e =
      (windows_hold l.rate l.depth.0 (charges_of (counts_green on) w whole)).0
      (all_admitted (counts_green on) w l.rate l.depth.0 g whole
      (λ before x a c car t.
      let s = and_parts _ _ t in
      let green : c ≡ Green = green_only c (sym (ap carried_green car) ∙ s.1) in
      let fit : meter_fits w on before x.offer Green ≡ true = subst (λ d. meter_fits w on before x.offer d ≡ true) green (met before x.offer c (sym a ∙ car) s.0) in
      let has : green_room w.green (fill_if w.green w on before x.offer.moment) (cost w x.offer.size) ≡ true = (and_parts _ _ fit).1 in
      leb-true _ _ (subst (λ v. green_room v (fill_if v w on before x.offer.moment) (cost w x.offer.size) ≡ true) e has))
      lawful)

  pub meter_law : MeterWindows w on whole
  meter_law = record {
    all = (windows_hold w.all.rate w.all.depth.0 (charges_of (counts on) w whole)).0
        (all_admitted (counts on) w w.all.rate w.all.depth.0 g whole
        (λ before x a c car t. fits_all w _ (green_fill w on before x.offer.moment) _ c (met before x.offer c (sym a ∙ car) t))
        lawful);
    green = green_law w.green refl;
  }

pub window_law : WindowLaw
window_law g h lawful = record {
  nodes = λ k pos. meter_law g h lawful (node_terms g k) (on_node g k)
      (λ before o c car on.
      let fit = carried_fits g before o c car in
      sym (ap (λ v. cond v (meter_fits (flow_terms g fit.0.key) (on_flow fit.0.key) before o c) (meter_fits (node_terms g k) (on_node g k) before o c)) (ne_eqb k 0 (λ z. omega arith)))
      ∙ fit.3 k on);
  flows = λ k. meter_law g h lawful (flow_terms g k) (on_flow k)
      (λ before o c car on.
      let fit = carried_fits g before o c car in
      let own : key_of o ≡ Some fit.0.key = ap key_in fit.1 in
      let same : fit.0.key ≡ k = (alike_decides fit.0.key k).0 (sym (ap (is_key k) own) ∙ on) in
      subst (λ v. meter_fits (flow_terms g v) (on_flow v) before o c ≡ true) same fit.2);
}
