-- The unused meter of what was bought answers as its document does.
-- Assumes nothing.
use Rattle.std.proofs.Common.{◌≡◌, ℕ, cond, ◌&&◌, ltb, leb, List, [], ◌∷◌, Ok, Err, Result, refl, ap, ◌∙◌}
use Rattle.std.specs.Result.{result_and}
use Rattle.std.proofs.lemmas.List.{map-id}
use Rattle.meter.specs.declared.measures.Arrival.{Arrival}
use Rattle.meter.specs.declared.measures.Refusal.{Refusal}
use Rattle.meter.specs.declared.measures.State.{State}
use Rattle.meter.specs.declared.measures.Terms.{Terms}
use Rattle.meter.specs.Rules.{largest_size, largest_moment, unused}
use Rattle.meter.specs.Alone.{answers}
use Rattle.meter.specs.Runs.{Answer}
use Rattle.kinds.specs.declared.profiles.Fault.{Fault}
use Rattle.meter.specs.declared.measures.Mode.{Mode}
use Rattle.meter.specs.declared.measures.Mode.TheVariants.{Blind, Aware}
use Rattle.kinds.specs.declared.profiles.Profile.{Profile}
use Rattle.kinds.specs.declared.profiles.Profile.TheVariants.{Vs, Lb, Tb, Sr, Tr}
use Rattle.documents.specs.Documents.{Outcome, at, stepped, as_green, greened, aware, blind, documented, sr_blind, sr_aware, tr_blind, tr_aware, full, Rising}
use Rattle.documents.specs.Fresh.{seen}
use Rattle.kinds.specs.Making.{rate_of, tolerance_of, burst_of, loose_burst_of, excess_of, peak_of, bought, fresh}
use Rattle.documents.proofs.Uncoloured.{vs_runs, lb_runs, tb_runs}
use Rattle.documents.proofs.Single.{sr_runs}
use Rattle.documents.proofs.Two.{tr_runs}

passed : {X : Type 0} (c : Result ℕ Fault) (r : Result X Fault) (x : X) → result_and c r ≡ Ok x → r ≡ Ok x
passed (Ok n) r x e = e
passed (Err f) r x e = cc

same_terms : (v w : Terms) (arrivals : List Arrival) (rs : List Answer) → ◌≡◌ {A = Result Terms Fault} (Ok v) (Ok w) → answers (unused v) arrivals ≡ rs → answers (unused w) arrivals ≡ rs
same_terms v w arrivals rs e h = let is : w ≡ v = cc in ap (λ u. answers (unused u) arrivals) is ∙ h

-- on the terms that were bought, the unused meter runs as the document, where each packet's own colour counts
aware_runs : (p : Profile) (w : Terms) → bought p ≡ Ok w → (arrivals : List Arrival) → Rising 0 arrivals → answers (unused w) arrivals ≡ aware p arrivals
aware_runs (Vs t l) w e arrivals up =
    same_terms _ w arrivals _ (passed (tolerance_of l) _ w (passed (rate_of t) _ w e)) (vs_runs t l arrivals up)
aware_runs (Lb t l) w e arrivals up =
    same_terms _ w arrivals _ (passed (tolerance_of l) _ w (passed (rate_of t) _ w e)) (lb_runs t l arrivals up)
aware_runs (Tb r b) w e arrivals up =
    same_terms _ w arrivals _ (passed (burst_of b) _ w (passed (rate_of r) _ w e)) (tb_runs r b arrivals up)
aware_runs (Sr cir cbs ebs) w e arrivals up =
    same_terms _ w arrivals _ (passed (excess_of cbs ebs) _ w (passed (loose_burst_of cbs) _ w (passed (rate_of cir) _ w e))) (sr_runs cir cbs ebs arrivals up)
aware_runs (Tr cir cbs pir pbs) w e arrivals up =
    same_terms _ w arrivals _ (passed (burst_of pbs) _ w (passed (peak_of cir pir) _ w (passed (burst_of cbs) _ w (passed (rate_of cir) _ w e)))) (tr_runs cir cbs pir pbs arrivals up)

greened_rising : (t : ℕ) (arrivals : List Arrival) → Rising t arrivals → Rising t (greened arrivals)
greened_rising t [] up = tt
greened_rising t (a ∷ rest) up = (up.0, greened_rising (at a) rest up.1)

-- steps that answer a packet taken as green as others answer the packet
stepped_greened : {D : Type 0} (f g : D → Arrival → Outcome D) → ((d : D) (a : Arrival) → f d (as_green a) ≡ g d a) → (d : D) (arrivals : List Arrival) → stepped f d (greened arrivals) ≡ stepped g d arrivals
stepped_greened f g same d [] = refl
stepped_greened f g same d (a ∷ rest) =
    let idle = stepped_greened f g same d rest in
    let x = ltb 0 a.size.0 && leb a.size.0 largest_size in
    let y = leb (at a) largest_moment in
    ap (λ o. cond x (cond y (Ok o.colour ∷ stepped f o.keeps (greened rest)) (Err Refusal.BadMoment ∷ stepped f d (greened rest))) (Err Refusal.BadSize ∷ stepped f d (greened rest))) (same d a)
    ∙ ap (λ l. cond x (cond y (Ok (g d a).colour ∷ l) (Err Refusal.BadMoment ∷ stepped f d (greened rest))) (Err Refusal.BadSize ∷ stepped f d (greened rest))) (stepped_greened f g same (g d a).keeps rest)
    ∙ ap (λ l. cond x (cond y (Ok (g d a).colour ∷ stepped g (g d a).keeps rest) (Err Refusal.BadMoment ∷ l)) (Err Refusal.BadSize ∷ l)) idle

blind_is : (p : Profile) (arrivals : List Arrival) → aware p (greened arrivals) ≡ blind p arrivals
blind_is (Vs t l) arrivals = refl
blind_is (Lb t l) arrivals = refl
blind_is (Tb r b) arrivals = refl
blind_is (Sr cir cbs ebs) arrivals = stepped_greened (sr_aware cir cbs ebs) (sr_blind cir cbs ebs) (λ d a. refl) (full cbs ebs) arrivals
blind_is (Tr cir cbs pir pbs) arrivals = stepped_greened (tr_aware cir cbs pir pbs) (tr_blind cir cbs pir pbs) (λ d a. refl) (full pbs cbs) arrivals

pub documented_runs : (mode : Mode) (p : Profile) (w : Terms) → bought p ≡ Ok w → (arrivals : List Arrival) → Rising 0 arrivals → answers (unused w) (seen mode arrivals) ≡ documented mode p arrivals
documented_runs Aware p w e arrivals up = ap (answers (unused w)) (map-id arrivals) ∙ aware_runs p w e arrivals up
documented_runs Blind p w e arrivals up = aware_runs p w e (greened arrivals) (greened_rising 0 arrivals up) ∙ blind_is p arrivals

-- a meter that was made is the unused one on the terms that were bought
pub made_terms : (b : Result Terms Fault) (m : State) → Ok m ≡ fresh b → (w : Terms) × (b ≡ Ok w) × (m ≡ unused w)
made_terms (Ok w) m e = (w, refl, cc)
made_terms (Err f) m e = cc
