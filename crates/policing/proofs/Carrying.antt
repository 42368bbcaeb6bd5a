-- Flows and nodes that hold a history go on to hold it with one more entry. Assumes nothing.
use Rattle.std.proofs.Common.{◌≡◌, ℕ, zero, suc, ◌+◌, ◌-◌, ◌<◌, ◌≤◌, Bool, true, false, cond, not, ◌&&◌, eqb, List, [], ◌∷◌, ◌++◌, map, length, get_or, Some, None, Ok, vec_items, Option, sym, refl, ap, ◌∙◌, subst, ⊎_elim, arith, Err}
use Rattle.std.proofs.lemmas.List.{length-map}
use Rattle.std.proofs.lemmas.Bool.{cases_Bool, cases_eq, ne_eqb}
use Rattle.std.specs.List.{slice_get}
use Rattle.meter.specs.declared.measures.Colour.{Colour}
use Rattle.meter.specs.declared.measures.Moment.{Moment}
use Rattle.meter.specs.declared.measures.State.{State}
use Rattle.meter.specs.declared.measures.Terms.{Terms}
use Rattle.meter.specs.Rules.{cost, counted, terms_of}
use Rattle.meter.specs.Windows.{By}
use Rattle.packet.specs.declared.kinds.Key.{Key}
use Rattle.policy.specs.declared.rules.Rule.{Rule}
use Rattle.policy.specs.Rules.{matches, next, first_for}
use Rattle.policy.specs.Policies.{parents_of}
use Rattle.policy.specs.Trees.{most_depth, parent_of, upward, ancestry, depth_of, Earlier, Shallow}
use Rattle.policy.proofs.Ancestry.{Falls, upward_none, upward_more, ancestry_more, depth_more, ancestry_falls, parent_below}
use Rattle.paths.specs.Layers.{fits_one, fits_at, over_one, left_by, charged_nodes, over_at}
use Rattle.paths.proofs.Numbered.{nth_map, at_node}
use Rattle.history.specs.declared.answers.Refusal.{Refusal}
use Rattle.history.specs.declared.answers.Refusal.TheVariants.{TableFull}
use Rattle.history.specs.Answers.{Answer, judged, went_back}
use Rattle.history.specs.Histories as history
use Rattle.history.specs.Histories.{RuleTerms, Config, Entry, History, entry_of, no_terms, no_rule, rule_for, alike, same_kind, is_key, key_in, key_of, room, among, clock_of, charges_of, on_flow, on_node, nodes_of, nodes_under, node_terms, flow_terms, carried_key, keys_like, meter_fits, meter_over, fits_for, over_for, answer_for, answer_of, Lawful}
use Rattle.history.specs.Tracks.{Tracks, Fair}
use Rattle.history.proofs.Keys.{alike_decides, alike_self}
use Rattle.history.proofs.Longer.{timely, clock_snoc, answer_on, lawful_by, lawful_snoc, key_none, key_some, keys_none, keys_some}
use Rattle.history.proofs.Pathing.{Agree, falls_agree, judged_same, judged_timely}
use Rattle.history.proofs.Law.{carried_fits}
use Rattle.history.proofs.Tracking.{tracks_on, tracks_off, tracks_none, asked_tracks, over_tracks, charged_tracks}
use Rattle.flow.specs.Tables.{rows_of}
use Rattle.policing.specs.declared.cores.Core.{Core}
use Rattle.policing.specs.declared.cores.Flow.{Flow}
use Rattle.policing.specs.declared.cores.Offer.{Offer}
use Rattle.policing.specs.Flows.{HeldBy}
use Rattle.policing.specs.Moving.{Same, Charges, Outcome, RuleAt, Moves, path_up}
use Rattle.policing.specs.Holding.{flow_of, offer_of, rule_of, config_of, Rooted, Ready, Holds}
use Rattle.policing.proofs.Charged.{left_in, nodes_terms, nodes_length, charged_at}
use Rattle.policing.proofs.KindTables.{same_back, same_forth, same_used, puts_held, puts_only, puts_kept, puts_nomore, puts_used}

never : {A : Type 0} → true ≡ false → A
never e = cc

pub same_some : {A : Type 0} {x y : A} → Some x ≡ Some y → x ≡ y
same_some e = cc

-- what stands at a place
pub item : {A : Type 0} (xs : List A) (i : ℕ) → i < length xs → (x : A) × (x ≡ get_or xs i x)
item [] i lt = absurd (omega arith)
item (x ∷ xs) zero lt = (x, refl)
item (x ∷ xs) (suc i) lt = item xs i (omega arith)

-- a path of the greatest depth is long enough
upward_deep : (ps : List ℕ) → Earlier ps → (f n : ℕ) → n ≤ length ps → depth_of ps n ≤ f → upward f ps n ≡ ancestry ps n
upward_deep ps earlier zero n inside deep =
    ⊎_elim
    (λ (e : n ≡ 0). sym (upward_none n ps n e))
    (λ (ne : n ≡ 0 → ⊥). absurd (omega (arith, depth_more ps earlier n (omega arith) inside)))
    (cases_eq n 0)
upward_deep ps earlier (suc f) n inside deep =
    let more = upward_deep ps earlier f (parent_of ps n) in
    ⊎_elim
    (λ (e : n ≡ 0). upward_none (suc f) ps n e ∙ sym (upward_none n ps n e))
    (λ (ne : n ≡ 0 → ⊥).
    let pos : 0 < n = omega arith in
    let low = parent_below ps earlier n pos inside in
    upward_more f ps n pos ∙ ap (λ l. n ∷ l) (more (omega arith) (omega (arith, depth_more ps earlier n pos inside))) ∙ sym (ancestry_more ps earlier n pos inside))
    (cases_eq n 0)

-- the rule of a key is the first for it
next_some : (o : Option ℕ) (i : ℕ) → next o ≡ Some i → (j : ℕ) × (o ≡ Some j) × (i ≡ suc j)
next_some (Some j) i e = (j, refl, sym (same_some e))
next_some None i e = cc

pub rule_first : {M : Type 0} (f : M → State) (rs : List (Rule M)) (k : Key) (i : ℕ) (x : Rule M) → first_for (map (λ r. r.selector) rs) k ≡ Some i → RuleAt rs i x → rule_for (map (rule_of f) rs) k ≡ rule_of f x
rule_first f [] k i x e at = cc
rule_first {M} f (r ∷ rs) k i x e at = go (matches r.selector k) refl (λ j first there. rule_first f rs k j x first there) e
  where
    go : (b : Bool) → matches r.selector k ≡ b → ((j : ℕ) → first_for (map (λ (y : Rule M). y.selector) rs) k ≡ Some j → RuleAt rs j x → rule_for (map (rule_of f) rs) k ≡ rule_of f x) → cond b (Some 0) (next (first_for (map (λ (y : Rule M). y.selector) rs) k)) ≡ Some i →
        cond b (rule_of f r) (rule_for (map (rule_of f) rs) k) ≡ rule_of f x
    go true b more e =
        let z : 0 ≡ i = same_some e in
        ap (rule_of f) (sym (at.1 ∙ ap (λ n. get_or (r ∷ rs) n x) (sym z)))
    go false b more e =
        let n = next_some (first_for (map (λ (y : Rule M). y.selector) rs) k) i e in
        let there : RuleAt (r ∷ rs) (suc n.0) x = subst (λ v. RuleAt (r ∷ rs) v x) n.2 at in
        let lt = there.0 in
        more n.0 n.1 (omega arith, there.1)

abbrev pub moved : {M : Type 0} → Core M → Moment → Core M
moved p t = record { flows = p.flows; tree = p.tree; nodes = p.nodes; rules = p.rules; clock = t }

module _ {M : Type 0} (f : M → State) where
  config_on : (p q : Core M) → parents_of q.tree ≡ parents_of p.tree → map terms_of (map f (vec_items q.nodes)) ≡ map terms_of (map f (vec_items p.nodes)) → vec_items q.rules ≡ vec_items p.rules
      → length (rows_of q.flows.conversations) ≡ length (rows_of p.flows.conversations) → length (rows_of q.flows.stations) ≡ length (rows_of p.flows.stations) → config_of f q ≡ config_of f p
  config_on p q a b c d e =
      (λ i. record { parents = a i; nodes = b i; rules = map (rule_of f) (c i); conversations = d i; stations = e i })

  ready_on : (p q : Core M) → Ready f p → length (vec_items q.nodes) ≡ length (vec_items p.nodes) → parents_of q.tree ≡ parents_of p.tree → vec_items q.rules ≡ vec_items p.rules → Ready f q
  ready_on p q r n a b = record {
    beside = n ∙ r.beside ∙ ap length (sym a);
    earlier = subst Earlier (sym a) r.earlier;
    shallow = subst Shallow (sym a) r.shallow;
    roots = subst (λ v. Rooted f v (vec_items q.rules)) (sym a) (subst (Rooted f (parents_of p.tree)) (sym b) r.roots);
  }

  -- a refused record changes nothing but the clock
  pub holds_refused : (p q : Core M) (h : History) (o : history.Offer) (e : Refusal) (t : Moment) →
      Holds f (config_of f p) p h → Same (moved p t) q → t.0 ≡ clock_of (h ++ (entry_of o (Err e) ∷ [])) → Err e ≡ answer_of (config_of f p) h o →
      Holds f (config_of f p) q (h ++ (entry_of o (Err e) ∷ []))
  holds_refused p q h o e t hold s clock is =
      let g = config_of f p in
      let on-time = timely g h o (Err e) is in
      record {
        is = config_on p q s.parents (ap (λ v. map terms_of (map f v)) s.nodes) s.rules (ap length s.flows.0.0) (ap length s.flows.1.0);
        ready = ready_on p q hold.ready (ap length s.nodes) s.parents s.rules;
        lawful = lawful_snoc g h o (Err e) hold.lawful is;
        clock = ap (λ (v : Moment). v.0) s.clock ∙ clock;
        nodes = λ k m pos le at. tracks_none (node_terms g k) (on_node g k) h (f m) (hold.nodes k m pos (subst (λ v. k ≤ length v) s.nodes le) (subst (λ v. m ≡ get_or v (k - 1) m) s.nodes at)) o e on-time;
        flows = λ k m held.
            let old = hold.flows k m (same_back p.flows q.flows s.flows k m held) in
            (key_none h o e k ∙ old.0, tracks_none (flow_terms g k) (on_flow k) h (f m) old.1 o e on-time);
        rows = λ k t. let old = hold.rows k (sym (key_none h o e k) ∙ t) in (old.0, same_forth p.flows q.flows s.flows k old.0 old.1);
        used = λ k. same_used p.flows q.flows s.flows k ∙ hold.used k ∙ sym (keys_none k h o e);
      }

  -- the state of a node has the fills of the history
  node_state : (p : Core M) (h : History) (g : Config) → Holds f g p h → (k : ℕ) → 0 < k → k ≤ length (vec_items p.nodes) → (s : State) × (slice_get (map f (vec_items p.nodes)) (k - 1) ≡ Some s) × Tracks (node_terms g k) (on_node g k) h s
  node_state p h g hold k pos le =
      let lt : k - 1 < length (vec_items p.nodes) = omega arith in
      let x = item (vec_items p.nodes) (k - 1) lt in
      (f x.0, nth_map f (vec_items p.nodes) (k - 1) x.0 lt x.1, hold.nodes k x.0 pos le x.1)

  module _ (p q : Core M) (h : History) (o : Offer) (w : Flow) (x : Rule M) (m : M) (hold : Holds f (config_of f p) p h) (fair : Fair (offer_of o)) (flow : o.flow ≡ Ok w)
      (first : first_for (map (λ r. r.selector) (vec_items p.rules)) w.key ≡ Some w.rule) (at : RuleAt (vec_items p.rules) w.rule x) (late : clock_of h ≤ o.load.moment.0)
      (tracks : Tracks (flow_terms (config_of f p) w.key) (on_flow w.key) h (f m)) where
    abbrev g : Config
    g = config_of f p

    abbrev r : history.Offer
    r = offer_of o

    abbrev ks : List ℕ
    ks = ancestry (parents_of p.tree) x.parent

    abbrev ms : List State
    ms = map f (vec_items p.nodes)

    known_flow : r.flow ≡ Ok (record { key = w.key; arrival = w.arrival })
    known_flow = ap flow_of flow

    own_key : key_of r ≡ Some w.key
    own_key = ap key_in known_flow

    under : x.parent ≤ length (parents_of p.tree)
    under = (hold.ready.roots w.rule x at).0

    falls : Falls (x.parent + 1) ks
    falls = ancestry_falls (parents_of p.tree) hold.ready.earlier x.parent under

    path_is : nodes_of g r ≡ ks
    path_is = ap (nodes_under g) own_key ∙ ap (λ (v : RuleTerms). ancestry (parents_of p.tree) v.under) (rule_first f (vec_items p.rules) w.key w.rule x first at)

    whole_path : path_up p x ≡ 0 ∷ nodes_of g r
    whole_path = ap (λ l. 0 ∷ l) (upward_deep (parents_of p.tree) hold.ready.earlier most_depth x.parent under (hold.ready.shallow x.parent under) ∙ sym path_is)

    inside : (k : ℕ) → k < x.parent + 1 → k ≤ length (vec_items p.nodes)
    inside k lt = let b = hold.ready.beside in let u = under in omega arith

    node_fits : (c : Colour) (k : ℕ) → 0 < k → k < x.parent + 1 → fits_at o.load (f m) ms c k ≡ fits_for g h r w.key c k
    node_fits c k pos lt =
        let s = node_state p h g hold k pos (inside k lt) in
        ap (fits_one o.load c) (at_node (f m) ms k (λ e. omega arith) ∙ s.1) ∙ asked_tracks (node_terms g k) (on_node g k) h s.0 s.2 r c fair late
        ∙ sym (ap (λ b. cond b (meter_fits (flow_terms g w.key) (on_flow w.key) h r c) (meter_fits (node_terms g k) (on_node g k) h r c)) (ne_eqb k 0 (λ e. omega arith)))

    node_over : (k : ℕ) → 0 < k → k < x.parent + 1 → over_at o.load (f m) ms k ≡ over_for g h r w.key k
    node_over k pos lt =
        let s = node_state p h g hold k pos (inside k lt) in
        ap (over_one o.load) (at_node (f m) ms k (λ e. omega arith) ∙ s.1) ∙ over_tracks (node_terms g k) (on_node g k) h s.0 s.2 r fair late
        ∙ sym (ap (λ b. cond b (meter_over (flow_terms g w.key) (on_flow w.key) h r) (meter_over (node_terms g k) (on_node g k) h r)) (ne_eqb k 0 (λ e. omega arith)))

    -- judged by the states as by the history
    judged_is : judged (fits_at o.load (f m) ms) (over_at o.load (f m) ms) w.arrival (path_up p x) ≡ judged (fits_for g h r w.key) (over_for g h r w.key) w.arrival (0 ∷ nodes_of g r)
    judged_is =
        ap (judged (fits_at o.load (f m) ms) (over_at o.load (f m) ms) w.arrival) whole_path
        ∙ judged_same (fits_at o.load (f m) ms) (fits_for g h r w.key) (over_at o.load (f m) ms) (over_for g h r w.key) w.arrival (0 ∷ nodes_of g r)
        (λ c. (asked_tracks (flow_terms g w.key) (on_flow w.key) h (f m) tracks r c fair late, subst (Agree (fits_at o.load (f m) ms c) (fits_for g h r w.key c)) (sym path_is) (falls_agree (fits_at o.load (f m) ms c) (fits_for g h r w.key c) (x.parent + 1) ks falls (node_fits c))))
        (over_tracks (flow_terms g w.key) (on_flow w.key) h (f m) tracks r fair late, subst (Agree (over_at o.load (f m) ms) (over_for g h r w.key)) (sym path_is) (falls_agree (over_at o.load (f m) ms) (over_for g h r w.key) (x.parent + 1) ks falls node_over))

    on_own : on_flow w.key r ≡ true
    on_own = ap (is_key w.key) own_key ∙ alike_self w.key

    key_at : (k : Key) → is_key k (key_of r) ≡ alike w.key k
    key_at k = ap (is_key k) own_key

    -- a carried record
    holds_carried : (c : Colour) (more : ℕ) → Ok c ≡ answer_of g h r → Charges f (moved p o.load.moment) q o.load w.key (path_up p x) (f m) more c → more ≡ cond (carried_key h w.key) 0 1 →
        Holds f g q (h ++ (entry_of r (Ok c) ∷ []))
    holds_carried c more is ch grown =
        let h' = h ++ (entry_of r (Ok c) ∷ []) in
        let by : (v : Terms) (u : Entry → Bool) → By (clock_of h) (charges_of u v h) = λ v u. lawful_by g u v h hold.lawful in
        let fit = carried_fits g h r c (sym is) in
        let same_key : fit.0.key ≡ w.key = same_some (sym (ap key_in fit.1) ∙ own_key) in
        let own-fits : meter_fits (flow_terms g w.key) (on_flow w.key) h r c ≡ true = subst (λ k. meter_fits (flow_terms g k) (on_flow k) h r c ≡ true) same_key fit.2 in
        let new = ch.made.0 in
        let put = ch.made.1 in
        let path : charged_nodes o.load c ms (path_up p x) ≡ charged_nodes o.load c ms ks = ap (charged_nodes o.load c ms) (whole_path ∙ ap (λ l. 0 ∷ l) path_is) in
        let states : map f (vec_items q.nodes) ≡ charged_nodes o.load c ms ks = ch.nodes ∙ path in
        let len : length (vec_items q.nodes) ≡ length (vec_items p.nodes) = sym (length-map (vec_items q.nodes) f) ∙ ap length states ∙ nodes_length o.load c ms ks ∙ length-map (vec_items p.nodes) f in
        let made : f new ≡ counted (f m) r.moment (cost (terms_of (f m)) r.size) c = ch.made.2 ∙ charged_tracks (flow_terms g w.key) (on_flow w.key) h (f m) tracks r c fair late own-fits in
        let own : Tracks (flow_terms g w.key) (on_flow w.key) h' (f new) = subst (Tracks (flow_terms g w.key) (on_flow w.key) h') (sym made) (tracks_on (flow_terms g w.key) (on_flow w.key) h (f m) tracks r c late by on_own) in
        record {
          is = config_on p q ch.parents (ap (map terms_of) states ∙ nodes_terms o.load c ms ks) ch.rules ch.same.0.1 ch.same.1.1;
          ready = ready_on p q hold.ready len ch.parents ch.rules;
          lawful = lawful_snoc g h r (Ok c) hold.lawful is;
          clock = ap (λ (v : Moment). v.0) ch.clock ∙ sym (clock_snoc 0 h (entry_of r (Ok c)));
          nodes = λ k n pos le there.
              let old = node_state p h g hold k pos (omega (arith, len)) in
              let on : on_node g k r ≡ among k ks = ap (among k) path_is in
              let here : Some (f n) ≡ cond (among k ks) (Some (left_by o.load c old.0)) (Some old.0) =
              sym (nth_map f (vec_items q.nodes) (k - 1) n (omega arith) there) ∙ ap (λ l. slice_get l (k - 1)) states ∙ charged_at o.load c ms (x.parent + 1) ks k falls pos
              ∙ ap (λ s. cond (among k ks) (left_in o.load c s) s) old.1 in
              ⊎_elim
              (λ (b : among k ks ≡ true).
              let fits : meter_fits (node_terms g k) (on_node g k) h r c ≡ true =
              sym (ap (λ v. cond v (meter_fits (flow_terms g fit.0.key) (on_flow fit.0.key) h r c) (meter_fits (node_terms g k) (on_node g k) h r c)) (ne_eqb k 0 (λ e. omega arith))) ∙ fit.3 k (on ∙ b) in
              let e : f n ≡ counted old.0 r.moment (cost (terms_of old.0) r.size) c =
              same_some (here ∙ ap (λ v. cond v (Some (left_by o.load c old.0)) (Some old.0)) b) ∙ charged_tracks (node_terms g k) (on_node g k) h old.0 old.2 r c fair late fits in
              subst (Tracks (node_terms g k) (on_node g k) h') (sym e) (tracks_on (node_terms g k) (on_node g k) h old.0 old.2 r c late by (on ∙ b)))
              (λ (b : among k ks ≡ false).
              let e : f n ≡ old.0 = same_some (here ∙ ap (λ v. cond v (Some (left_by o.load c old.0)) (Some old.0)) b) in
              subst (Tracks (node_terms g k) (on_node g k) h') (sym e) (tracks_off (node_terms g k) (on_node g k) h old.0 old.2 r c late by (on ∙ b)))
              (cases_Bool (among k ks));
          flows = λ k n held.
              ⊎_elim
              (λ (b : alike w.key k ≡ true).
              let e : w.key ≡ k = (alike_decides w.key k).0 b in
              let same : n ≡ new = puts_only p.flows q.flows w.key more new put n (subst (λ v. HeldBy q.flows v n) (sym e) held) in (
                key_some h r c k ∙ ap (λ v. cond (carried_key h k) true v) (key_at k ∙ b) ∙ (elim (carried_key h k) as (λ v. cond v true true ≡ true) [ true ↦ refl | false ↦ refl ]),
                subst (λ v. Tracks (flow_terms g k) (on_flow k) h' (f v)) (sym same) (subst (λ v. Tracks (flow_terms g v) (on_flow v) h' (f new)) e own),
              ))
              (λ (b : alike w.key k ≡ false).
              let ne : k ≡ w.key → ⊥ = λ e. never (sym ((alike_decides w.key k).1 (sym e)) ∙ b) in
              let old = hold.flows k n (puts_nomore p.flows q.flows w.key more new put k n ne held) in (
                key_some h r c k ∙ ap (λ v. cond v true (is_key k (key_of r))) old.0,
                tracks_off (flow_terms g k) (on_flow k) h (f n) old.1 r c late by (key_at k ∙ b),
              ))
              (cases_Bool (alike w.key k));
          rows = λ k carried.
              ⊎_elim
              (λ (b : alike w.key k ≡ true). (new, subst (λ v. HeldBy q.flows v new) ((alike_decides w.key k).0 b) (puts_held p.flows q.flows w.key more new put)))
              (λ (b : alike w.key k ≡ false).
              let ne : k ≡ w.key → ⊥ = λ e. never (sym ((alike_decides w.key k).1 (sym e)) ∙ b) in
              let before : carried_key h k ≡ true =
              (elim (carried_key h k) as (λ v. cond v true false ≡ true → v ≡ true) [ true ↦ λ z. z | false ↦ λ z. z ]) (sym (key_some h r c k ∙ ap (λ v. cond (carried_key h k) true v) (key_at k ∙ b)) ∙ carried) in
              let old = hold.rows k before in
              (old.0, puts_kept p.flows q.flows w.key more new put k old.0 ne old.1))
              (cases_Bool (alike w.key k));
          used = λ k.
              puts_used p.flows q.flows w.key more new put k ∙ ap (λ v. v + cond (same_kind k w.key) more 0) (hold.used k)
              ∙ ap (λ v. keys_like k h + cond (same_kind k w.key) v 0) grown ∙ sym (keys_some k r c w.key own_key h);
        }

    -- whatever was answered by the states
    pub settled : (s : Answer) (more : ℕ) → (not (carried_key h w.key) && eqb (keys_like w.key h) (room g w.key)) ≡ false → more ≡ cond (carried_key h w.key) 0 1 →
        Moves f (moved p o.load.moment) q o.load w.key w.arrival (path_up p x) (f m) more s → (s ≡ answer_of g h r) × Holds f g q (h ++ (entry_of r s ∷ []))
    settled s more free grown moves =
        let is : s ≡ answer_of g h r = moves.0 ∙ judged_is ∙ sym answered in
        (is, go s is moves.0 moves.1)
      where
        answered : answer_of g h r ≡ judged (fits_for g h r w.key) (over_for g h r w.key) w.arrival (0 ∷ nodes_of g r)
        answered =
            answer_on g h r late ∙ ap (answer_for g h r) known_flow
            ∙ ap (λ b. cond b (Err TableFull) (judged (fits_for g h r w.key) (over_for g h r w.key) w.arrival (0 ∷ nodes_of g r))) free

        go : (a : Answer) → a ≡ answer_of g h r → a ≡ judged (fits_at o.load (f m) ms) (over_at o.load (f m) ms) w.arrival (path_up p x) → Outcome f (moved p o.load.moment) q o.load w.key (path_up p x) (f m) more a → Holds f g q (h ++ (entry_of r a ∷ []))
        go (Ok c) e j d = holds_carried c more e d grown
        go (Err y) e j d =
            let timely' : went_back (Err y) ≡ false = ap went_back j ∙ judged_timely (fits_at o.load (f m) ms) (over_at o.load (f m) ms) w.arrival (path_up p x) in
            holds_refused p q h r y o.load.moment hold d (sym (clock_snoc 0 h (entry_of r (Err y)) ∙ ap (λ b. cond b (clock_of h) r.moment) timely')) e
