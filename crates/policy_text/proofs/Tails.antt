-- The words of a line from one place to the line's end, read one after another.
-- Reaches: the words before a fault are the first of a text that is in order; Tail: what a reader of such words owes
-- step: a word before them; choose, must: a keyword before them; ended: no word more; mapped, same: another answer, the same reader
-- meter_tail, node_tail, ip_tail, mac_tail: the tails of the lines
-- Assumes nothing.
use Rattle.std.proofs.Common.{◌≡◌, ℕ, ◌+◌, true, ◌⊎◌, List, [], ◌++◌, length, None, Ok, Err, codes, Option, Result, sym, refl, ap, ◌∙◌, subst, inl, inr, ⊎_elim, arith}
use Rattle.kinds.specs.declared.profiles.Profile.{Profile}
use Rattle.kinds.specs.declared.profiles.Profile.TheVariants.{Vs, Lb, Tb, Sr, Tr}
use Rattle.packet.specs.declared.kinds.Class.{Class}
use Rattle.packet.specs.declared.kinds.Class.TheVariants.{One}
use Rattle.meter.specs.declared.measures.Mode.{Mode}
use Rattle.meter.specs.declared.measures.Mode.TheVariants.{Blind}
use Rattle.policy.specs.declared.rules.Prefix.{Prefix}
use Rattle.policy.specs.declared.rules.Selector.TheVariants.{Ip, Mac}
use Rattle.policy.specs.declared.rules.Refusal.{Refusal}
use Rattle.policy.specs.Policies.{room_of, number_of, rule_room_of}
use Rattle.policy.proofs.Taken.{room_taken}
use Rattle.policy_words.specs.declared.causes.Cause.{Cause}
use Rattle.policy_words.specs.Words.{then, choice, stop, lit, finish}
use Rattle.policy_words.specs.Addresses.{prefix_word_of}
use Rattle.policy_words.specs.Choices.{protocol_of, class_word_of, mode_of}
use Rattle.policy_words.specs.Texts.{word_on, prefix_text, station_text, protocol_text, class_text, mode_text}
use Rattle.policy_words.specs.Laws.{Word}
use Rattle.policy_words.proofs.Readings.{then_then, then_ok, lit_back, finish_back, same_ok}
use Rattle.policy_words.proofs.Octets.{prefix_word, prefix_stop}
use Rattle.policy_words.proofs.Hexes.{station_word, station_stop}
use Rattle.policy_words.proofs.Chosen.{protocol_word, protocol_stop, class_word, class_stop, mode_word, mode_stop}
use Rattle.policy_text.specs.declared.lines.LineFault.{LineFault}
use Rattle.policy_text.specs.declared.lines.NodeLine.{NodeLine}
use Rattle.policy_text.specs.declared.lines.Line.{Line}
use Rattle.policy_text.specs.declared.lines.Line.TheVariants as line
use Rattle.policy_text.specs.Places.{placed}
use Rattle.policy_text.specs.Amounts.{check_of, amount_of}
use Rattle.policy_text.specs.Meters.{two_of, last_two_of, single_of, two_rate_of, meter_of}
use Rattle.policy_text.specs.Lines.{taken, done, node_room, rule_room, number_word_of, under_word_of, node_line_of, conversations_of, treatment_of, ip_line_of, mac_line_of, line_of}
use Rattle.policy_text.specs.Texts.{profile_text, ProfileOk, rule_text, line_text, LineOk}
use Rattle.policy_text.specs.declared.amounts.Amount.{Amount}
use Rattle.policy_text.specs.declared.amounts.Amount.TheVariants.{Rate, Tolerance, Burst, LooseBurst, Excess, Peak}
use Rattle.policy_text.proofs.Checks.{err_ok, placed_ok, Within, amount_word, amount_few, excess_one, peak_same, node_number_word, under_word, known_word, number_next, under_top, known_top, ok_before, buys}
use Rattle.policy_text.proofs.Spaces.{spaces, Adds, adds_word, adds_prefix, adds_station, adds_protocol, adds_class, adds_mode, Shared, shared_none, shared_on}

-- where a reading failed

pub same_err : {A E : Type 0} {d e : E} → ◌≡◌ {A = Result A E} (Err d) (Err e) → d ≡ e
same_err h = cc

pub then_err : {A B E : Type 0} (r : Result A E) (f : A → Result B E) (e : E) → then r f ≡ Err e → (r ≡ Err e) ⊎ ((a : A) × (r ≡ Ok a) × (f a ≡ Err e))
then_err (Ok a) f e h = inr (a, refl, h)
then_err (Err d) f e h = inl (ap Err (same_err h))

pub placed_err : {A : Type 0} (n : ℕ) (r : Result A Cause) (f : LineFault) → placed n r ≡ Err f → f.word ≡ n
placed_err n (Ok a) f h = absurd (err_ok f a (sym h))
placed_err n (Err e) f h = sym (ap (λ x. x.word) (same_err h))

pub choice_is : {A B E F : Type 0} (r : Result A E) (f : A → Result B F) (g y : Result B F) → choice r f g ≡ y → ((a : A) × (r ≡ Ok a) × (f a ≡ y)) ⊎ (g ≡ y)
choice_is (Ok a) f g y h = inl (a, refl, h)
choice_is (Err e) f g y h = inr h

-- a text that is in order has the same words before the fault, the first of them being word w
pub record Reaches {A : Type 0} (w : ℕ) (P : A → List ℕ → Type 0) (t : List ℕ) (f : LineFault) : Type 0 where
  pub value : A
  pub text : List ℕ
  pub holds : P value text
  pub count : ℕ
  pub place : f.word ≡ w + count
  pub shared : Shared count t text

-- P a u: the value a is in order, and its text is u
pub record Tail {A : Type 0} (w : ℕ) (reads : List ℕ → Result A LineFault) (P : A → List ℕ → Type 0) : Type 0 where
  pub back : (t : List ℕ) (a : A) → reads t ≡ Ok a → P a t
  pub first : (t : List ℕ) (f : LineFault) → stop t ≡ true → reads t ≡ Err f → Reaches w P t f
  pub some : (a : A) × (u : List ℕ) × P a u × (stop u ≡ true)

-- the fault is in the first word
here : {A : Type 0} {P : A → List ℕ → Type 0} (w : ℕ) (t : List ℕ) (f : LineFault) → f.word ≡ w → stop t ≡ true → (a : A) (u : List ℕ) → P a u → stop u ≡ true → Reaches w P t f
here w t f at h a u p g = record { value = a; text = u; holds = p; count = 0; place = omega (arith, at); shared = shared_none t u h g }

-- the fault is behind the first word
further : {A : Type 0} {P : A → List ℕ → Type 0} (w v : ℕ) (tx : List ℕ → List ℕ) (t u : List ℕ) (f : LineFault) → v ≡ w + 1 → Adds 1 tx → t ≡ tx u → Reaches v (λ a l. P a (tx l)) u f → Reaches w P t f
further w v tx t u f next adds is r = record {
  value = r.value;
  text = tx r.text;
  holds = r.holds;
  count = 1 + r.count;
  place = omega (arith, next, r.place);
  shared = subst (λ l. Shared (1 + r.count) l (tx r.text)) (sym is) (shared_on 1 r.count tx u r.text adds r.shared);
}

pub step : {A X : Type 0} {r : List ℕ → Result (X × List ℕ) Cause} {tx : X → List ℕ → List ℕ} {F : X → Type 0} {P : A → List ℕ → Type 0} (w v : ℕ) (K : X × List ℕ → Result A LineFault) → v ≡ w + 1 → Word r tx F → ((x : X) → F x → Adds 1 (tx x)) → ((x : X) (t : List ℕ) → stop (tx x t) ≡ true) → (d : X) → F d → ((x : X) → F x → Tail v (λ u. K (x, u)) (λ a u. P a (tx x u))) → Tail w (λ t. then (placed w (r t)) K) P
step {A} {X} {r} {tx} {F} {P} w v K next word adds stops d fine tail = record { back = went; first = failed; some = (s.0, tx d s.1, s.2, stops d s.1) }
  where
    s : (a : A) × (u : List ℕ) × P a (tx d u) × (stop u ≡ true)
    s = (tail d fine).some

    went : (t : List ℕ) (a : A) → then (placed w (r t)) K ≡ Ok a → P a t
    went t a h =
        let q = then_ok (placed w (r t)) K a h in
        let b = word.back t q.0.0 q.0.1 (placed_ok w (r t) q.0 q.1) in
        subst (P a) (sym b.0) ((tail q.0.0 b.1).back q.0.1 a q.2)

    failed : (t : List ℕ) (f : LineFault) → stop t ≡ true → then (placed w (r t)) K ≡ Err f → Reaches w P t f
    failed t f h e =
        ⊎_elim
        (λ (g : placed w (r t) ≡ Err f). here w t f (placed_err w (r t) f g) h s.0 (tx d s.1) s.2 (stops d s.1))
        (λ (q : (p : X × List ℕ) × (placed w (r t) ≡ Ok p) × (K p ≡ Err f)).
        let b = word.back t q.0.0 q.0.1 (placed_ok w (r t) q.0 q.1) in
        further w v (tx q.0.0) t q.0.1 f next (adds q.0.0 b.1) b.0 ((tail q.0.0 b.1).first q.0.1 f b.2 q.2))
        (then_err (placed w (r t)) K f e)

pub keyed : (k : ℕ) (ks : List ℕ) → spaces ks ≡ k → Adds k (λ t. ks ++ t)
keyed k ks h = record { front = ks; count = h; puts = λ t. refl }

pub choose : {A : Type 0} {K G : List ℕ → Result A LineFault} {P : A → List ℕ → Type 0} (w v : ℕ) (ks : List ℕ) → v ≡ w + 1 → spaces ks ≡ 1 → Tail v K (λ a u. P a (ks ++ u)) → Tail w G P → Tail w (λ t. choice (lit ks t) K (G t)) P
choose {A} {K} {G} {P} w v ks next one tail other = record { back = went; first = failed; some = other.some }
  where
    went : (t : List ℕ) (a : A) → choice (lit ks t) K (G t) ≡ Ok a → P a t
    went t a h =
        ⊎_elim
        (λ (q : (u : List ℕ) × (lit ks t ≡ Ok u) × (K u ≡ Ok a)). subst (P a) (sym (lit_back ks t q.0 q.1).0) (tail.back q.0 a q.2))
        (other.back t a)
        (choice_is (lit ks t) K (G t) (Ok a) h)

    failed : (t : List ℕ) (f : LineFault) → stop t ≡ true → choice (lit ks t) K (G t) ≡ Err f → Reaches w P t f
    failed t f h e =
        ⊎_elim
        (λ (q : (u : List ℕ) × (lit ks t ≡ Ok u) × (K u ≡ Err f)).
        let b = lit_back ks t q.0 q.1 in
        further w v (λ l. ks ++ l) t q.0 f next (keyed 1 ks one) b.0 (tail.first q.0 f b.1 q.2))
        (other.first t f h)
        (choice_is (lit ks t) K (G t) (Err f) e)

pub must : {A : Type 0} {K : List ℕ → Result A LineFault} {P : A → List ℕ → Type 0} (w v : ℕ) (ks : List ℕ) → v ≡ w + 1 → spaces ks ≡ 1 → ((t : List ℕ) → stop (ks ++ t) ≡ true) → Tail v K (λ a u. P a (ks ++ u)) → Tail w (λ t. then (placed w (lit ks t)) K) P
must {A} {K} {P} w v ks next one stops tail = record { back = went; first = failed; some = (s.0, ks ++ s.1, s.2, stops s.1) }
  where
    s : (a : A) × (u : List ℕ) × P a (ks ++ u) × (stop u ≡ true)
    s = tail.some

    went : (t : List ℕ) (a : A) → then (placed w (lit ks t)) K ≡ Ok a → P a t
    went t a h =
        let q = then_ok (placed w (lit ks t)) K a h in
        subst (P a) (sym (lit_back ks t q.0 (placed_ok w (lit ks t) q.0 q.1)).0) (tail.back q.0 a q.2)

    failed : (t : List ℕ) (f : LineFault) → stop t ≡ true → then (placed w (lit ks t)) K ≡ Err f → Reaches w P t f
    failed t f h e =
        ⊎_elim
        (λ (g : placed w (lit ks t) ≡ Err f). here w t f (placed_err w (lit ks t) f g) h s.0 (ks ++ s.1) s.2 (stops s.1))
        (λ (q : (u : List ℕ) × (placed w (lit ks t) ≡ Ok u) × (K u ≡ Err f)).
        let b = lit_back ks t q.0 (placed_ok w (lit ks t) q.0 q.1) in
        further w v (λ l. ks ++ l) t q.0 f next (keyed 1 ks one) b.0 (tail.first q.0 f b.1 q.2))
        (then_err (placed w (lit ks t)) K f e)

pub ended : {A : Type 0} {P : A → List ℕ → Type 0} (w : ℕ) (a : A) → P a [] → Tail w (λ t. then (placed w (finish t)) (λ _. Ok a)) P
ended {A} {P} w a p = record { back = went; first = failed; some = (a, [], p, refl) }
  where
    went : (t : List ℕ) (b : A) → then (placed w (finish t)) (λ _. Ok a) ≡ Ok b → P b t
    went t b h =
        let q = then_ok (placed w (finish t)) (λ _. Ok a) b h in
        let e = finish_back t q.0 (placed_ok w (finish t) q.0 q.1) in
        let z : a ≡ b = same_ok q.2 in
        subst (λ x. P x t) z (subst (P a) (sym e) p)

    failed : (t : List ℕ) (f : LineFault) → stop t ≡ true → then (placed w (finish t)) (λ _. Ok a) ≡ Err f → Reaches w P t f
    failed t f h e =
        ⊎_elim
        (λ (g : placed w (finish t) ≡ Err f). here w t f (placed_err w (finish t) f g) h a [] p refl)
        (λ (q : (u : Unit {0}) × (placed w (finish t) ≡ Ok u) × (◌≡◌ {A = Result A LineFault} (Ok a) (Err f))). absurd (err_ok f a (sym q.2)))
        (then_err (placed w (finish t)) (λ _. Ok a) f e)

pub mapped : {A B : Type 0} {R : List ℕ → Result A LineFault} {Q : A → List ℕ → Type 0} {P : B → List ℕ → Type 0} (w : ℕ) (g : A → B) → ((a : A) (u : List ℕ) → Q a u → P (g a) u) → Tail w R Q → Tail w (λ t. then (R t) (λ a. Ok (g a))) P
mapped {A} {B} {R} {Q} {P} w g carries tail = record { back = went; first = failed; some = (g s.0, s.1, carries s.0 s.1 s.2, s.3) }
  where
    s : (a : A) × (u : List ℕ) × Q a u × (stop u ≡ true)
    s = tail.some

    went : (t : List ℕ) (b : B) → then (R t) (λ a. Ok (g a)) ≡ Ok b → P b t
    went t b h =
        let q = then_ok (R t) (λ a. Ok (g a)) b h in
        let z : g q.0 ≡ b = same_ok q.2 in
        subst (λ x. P x t) z (carries q.0 t (tail.back t q.0 q.1))

    failed : (t : List ℕ) (f : LineFault) → stop t ≡ true → then (R t) (λ a. Ok (g a)) ≡ Err f → Reaches w P t f
    failed t f h e =
        ⊎_elim
        (λ (i : R t ≡ Err f).
        let r = tail.first t f h i in
        record { value = g r.value; text = r.text; holds = carries r.value r.text r.holds; count = r.count; place = r.place; shared = r.shared })
        (λ (q : (a : A) × (R t ≡ Ok a) × (◌≡◌ {A = Result B LineFault} (Ok (g a)) (Err f))). absurd (err_ok f (g q.0) (sym q.2)))
        (then_err (R t) (λ a. Ok (g a)) f e)

pub same : {A : Type 0} {R S : List ℕ → Result A LineFault} {P : A → List ℕ → Type 0} (w : ℕ) → ((t : List ℕ) → S t ≡ R t) → Tail w R P → Tail w S P
same w is tail = record {
  back = λ t a h. tail.back t a (sym (is t) ∙ h);
  first = λ t f h e. tail.first t f h (sym (is t) ∙ e);
  some = tail.some;
}

-- the meter

pub two_on : {A : Type 0} (w : ℕ) (x y : Amount) (t : List ℕ) (K : (ℕ × ℕ) × List ℕ → Result A LineFault) → then (two_of w (check_of x) (check_of y) t) K ≡ then (placed w (amount_of (check_of x) t)) (λ p. then (placed (w + 1) (amount_of (check_of y) p.1)) (λ q. K ((p.0, q.0), q.1)))
unfolding two_of
two_on w x y t K =
    then_then (placed w (amount_of (check_of x) t)) (λ p. then (placed (w + 1) (amount_of (check_of y) p.1)) (λ q. Ok ((p.0, q.0), q.1))) K
    ∙ (λ i. then (placed w (amount_of (check_of x) t)) (λ p. then_then (placed (w + 1) (amount_of (check_of y) p.1)) (λ q. Ok ((p.0, q.0), q.1)) K i))

pub last_two_on : {A : Type 0} (w : ℕ) (x y : Amount) (t : List ℕ) (G : ℕ × ℕ → Result A LineFault) → then (last_two_of w (check_of x) (check_of y) t) G ≡ then (placed w (amount_of (check_of x) t)) (λ p. then (placed (w + 1) (amount_of (check_of y) p.1)) (λ q. then (placed (w + 2) (finish q.1)) (λ _. G (p.0, q.0))))
unfolding last_two_of
last_two_on w x y t G =
    then_then (two_of w (check_of x) (check_of y) t) (λ p. then (placed (w + 2) (finish p.1)) (λ _. Ok p.0)) G
    ∙ (λ i. then (two_of w (check_of x) (check_of y) t) (λ p. then_then (placed (w + 2) (finish p.1)) (λ _. Ok p.0) G i))
    ∙ two_on w x y t (λ p. then (placed (w + 2) (finish p.1)) (λ _. G p.0))

amount_step : {A : Type 0} {P : A → List ℕ → Type 0} (w v : ℕ) (K : ℕ × List ℕ → Result A LineFault) → v ≡ w + 1 → (x : Amount) (d : ℕ) → Within x d → ((n : ℕ) → Within x n → Tail v (λ u. K (n, u)) (λ a u. P a (word_on n u))) → Tail w (λ t. then (placed w (amount_of (check_of x) t)) K) P
amount_step w v K next x d fine tail = step w v K next (amount_word x) (λ n h. adds_word n (amount_few x n h)) (λ n t. refl) d fine tail

last_two : {A : Type 0} {P : A → List ℕ → Type 0} (w : ℕ) (x y : Amount) (d e : ℕ) → Within x d → Within y e → (g : ℕ → ℕ → A) → ((n m : ℕ) → Within x n → Within y m → P (g n m) (word_on n (word_on m []))) → Tail w (λ t. then (last_two_of w (check_of x) (check_of y) t) (λ p. Ok (g p.0 p.1))) P
last_two w x y d e hd he g holds =
    same w (λ t. last_two_on w x y t (λ p. Ok (g p.0 p.1)))
    (amount_step w (w + 1) _ refl x d hd (λ n hn. amount_step (w + 1) (w + 2) _ (omega arith) y e he (λ m hm. ended (w + 2) (g n m) (holds n m hn hm))))

abbrev pub MeterIs : Profile → List ℕ → Type 0
MeterIs m u = ProfileOk m × (u ≡ profile_text m)

single_tail : (w : ℕ) → Tail w (single_of w) (λ m u. MeterIs m (codes " sr" ++ u))
unfolding single_of profile_text
single_tail w =
    same w (λ t. two_on w Rate LooseBurst t _)
    (amount_step w (w + 1) _ refl Rate 1 refl (λ cir h. amount_step (w + 1) (w + 2) _ (omega arith) LooseBurst 1 refl (λ cbs g.
    amount_step (w + 2) (w + 3) _ (omega arith) (Excess cbs) 1 (excess_one cbs) (λ ebs e. ended (w + 3) (Sr cir cbs ebs) (buys (Sr cir cbs ebs) (h, g, e), refl)))))

two_rate_tail : (w : ℕ) → Tail w (two_rate_of w) (λ m u. MeterIs m (codes " tr" ++ u))
unfolding two_rate_of profile_text
two_rate_tail w =
    same w (λ t. two_on w Rate Burst t _)
    (amount_step w (w + 1) _ refl Rate 1 refl (λ cir h. amount_step (w + 1) (w + 2) _ (omega arith) Burst 1 refl (λ cbs g.
    last_two (w + 2) (Peak cir) Burst cir 1 (peak_same cir h) refl (λ pir pbs. Tr cir cbs pir pbs) (λ pir pbs e i. (buys (Tr cir cbs pir pbs) (h, g, e, i), refl)))))

pub meter_tail : (w : ℕ) → Tail w (meter_of w) MeterIs
unfolding meter_of profile_text
meter_tail w =
    choose w (w + 1) (codes " vs") refl refl (last_two (w + 1) Rate Tolerance 1 0 refl refl Vs (λ t l h g. (buys (Vs t l) (h, g), refl)))
    (choose w (w + 1) (codes " lb") refl refl (last_two (w + 1) Rate Tolerance 1 0 refl refl Lb (λ t l h g. (buys (Lb t l) (h, g), refl)))
    (choose w (w + 1) (codes " tb") refl refl (last_two (w + 1) Rate Burst 1 1 refl refl Tb (λ r b h g. (buys (Tb r b) (h, g), refl)))
    (choose w (w + 1) (codes " sr") refl refl (single_tail (w + 1))
    (must w (w + 1) (codes " tr") refl refl (λ t. refl) (two_rate_tail (w + 1))))))

-- the lines, behind their first word

-- the line x is in order, and u is what its text has behind the word ks
abbrev pub LineIs : List ℕ → ℕ → List ℕ → Line → List ℕ → Type 0
LineIs ps n ks x u = LineOk ps n x × (ks ++ u ≡ line_text x)

-- a node's words behind the first
abbrev pub node_rest : List ℕ → List ℕ → Result NodeLine LineFault
node_rest ps t =
    then (placed 2 (number_word_of ps t)) (λ n.
    then (placed 3 (under_word_of ps n.1)) (λ p.
    then (meter_of 4 p.1) (λ m.
    Ok (record { number = n.0; parent = p.0; profile = m }))))

pub node_tail : (ps : List ℕ) (n q : ℕ) → room_of ps ≡ Ok q → Tail 2 (node_rest ps) (λ x u. LineIs ps n (codes "node") (line.Node x) u)
unfolding line_text
node_tail ps n q room =
    let small = room_taken ps q (sym room) in
    step 2 3 _ refl (node_number_word ps) (λ v h. adds_word v h.0) (λ v t. refl) (length ps + 1) (omega arith, number_next ps) (λ v hv.
    step 3 4 _ refl (under_word ps) (λ p h. adds_word p h.0) (λ p t. refl) 0 (omega arith, under_top ps) (λ p hp.
    mapped 4 (λ m. record { number = v; parent = p; profile = m })
    (λ m u is. ((ok_before (room_of ps) _ q room ∙ ok_before (number_of ps v) _ v hv.1 ∙ hp.1, is.0), ap (λ l. codes "node" ++ word_on v (word_on p l)) is.1))
    (meter_tail 4)))

-- the first prefix of all, which is always one
abbrev anywhere : Prefix
anywhere = record { address = record { 0 = 0 }; length = 0 }

pub conversations_on : {A : Type 0} (t : List ℕ) (K : (Prefix × Prefix × Option ℕ) × List ℕ → Result A LineFault) → then (conversations_of t) K ≡ then (placed 2 (prefix_word_of t)) (λ s. then (placed 3 (prefix_word_of s.1)) (λ d. then (placed 4 (protocol_of d.1)) (λ p. K ((s.0, d.0, p.0), p.1))))
unfolding conversations_of
conversations_on t K =
    then_then (placed 2 (prefix_word_of t)) (λ s. then (placed 3 (prefix_word_of s.1)) (λ d. then (placed 4 (protocol_of d.1)) (λ p. Ok ((s.0, d.0, p.0), p.1)))) K
    ∙ (λ i. then (placed 2 (prefix_word_of t)) (λ s. then_then (placed 3 (prefix_word_of s.1)) (λ d. then (placed 4 (protocol_of d.1)) (λ p. Ok ((s.0, d.0, p.0), p.1))) K i))
    ∙ (λ i. then (placed 2 (prefix_word_of t)) (λ s. then (placed 3 (prefix_word_of s.1)) (λ d. then_then (placed 4 (protocol_of d.1)) (λ p. Ok ((s.0, d.0, p.0), p.1)) K i)))

pub treatment_on : {A : Type 0} (t : List ℕ) (K : (Class × Mode) × List ℕ → Result A LineFault) → then (treatment_of t) K ≡ then (placed 6 (class_word_of t)) (λ c. then (placed 7 (mode_of c.1)) (λ m. K ((c.0, m.0), m.1)))
unfolding treatment_of
treatment_on t K =
    then_then (placed 6 (class_word_of t)) (λ c. then (placed 7 (mode_of c.1)) (λ m. Ok ((c.0, m.0), m.1))) K
    ∙ (λ i. then (placed 6 (class_word_of t)) (λ c. then_then (placed 7 (mode_of c.1)) (λ m. Ok ((c.0, m.0), m.1)) K i))

pub ip_tail : (ps : List ℕ) (n q : ℕ) → rule_room_of n ≡ Ok q → Tail 2 (ip_line_of ps) (λ r u. LineIs ps n (codes "ip") (line.Rule r) u)
unfolding ip_line_of line_text rule_text
ip_tail ps n q room =
    same 2 (λ t. conversations_on t _)
    (step 2 3 _ refl prefix_word adds_prefix prefix_stop anywhere (refl, omega arith) (λ s hs.
    step 3 4 _ refl prefix_word adds_prefix prefix_stop anywhere (refl, omega arith) (λ d hd.
    step 4 5 _ refl protocol_word adds_protocol protocol_stop None tt (λ o ho.
    step 5 6 _ refl (known_word ps) (λ p h. adds_word p h.0) (λ p t. refl) 0 (omega arith, known_top ps) (λ p hp.
    same 6 (λ t. treatment_on t _)
    (step 6 7 _ refl class_word (λ c h. adds_class c) class_stop One tt (λ c hc.
    step 7 8 _ refl mode_word (λ m h. adds_mode m) mode_stop Blind tt (λ m hm.
    mapped 8 (λ x. record { selector = Ip (record { source = s; destination = d; protocol = o; class = c; mode = m }); parent = p; meter = x })
    (λ x u is. ((ok_before (rule_room_of n) _ q room ∙ hp.1, (hs, hd, ho), is.0), ap (λ l. codes "ip" ++ prefix_text s (prefix_text d (protocol_text o (word_on p (class_text c (mode_text m l)))))) is.1))
    (meter_tail 8)))))))))

pub mac_tail : (ps : List ℕ) (n q : ℕ) → rule_room_of n ≡ Ok q → Tail 2 (mac_line_of ps) (λ r u. LineIs ps n (codes "mac") (line.Rule r) u)
unfolding mac_line_of line_text rule_text
mac_tail ps n q room =
    step 2 3 _ refl station_word (λ s h. adds_station s) station_stop None tt (λ s hs.
    step 3 4 _ refl (known_word ps) (λ p h. adds_word p h.0) (λ p t. refl) 0 (omega arith, known_top ps) (λ p hp.
    mapped 4 (λ x. record { selector = Mac s; parent = p; meter = x })
    (λ x u is. ((ok_before (rule_room_of n) _ q room ∙ hp.1, hs, is.0), ap (λ l. codes "mac" ++ station_text s (word_on p l)) is.1))
    (meter_tail 4)))

-- a line is its first word, room for it, and its tail

pub room_of_lem : (r : Result ℕ Refusal) (u : Unit {0}) → done (taken r) ≡ Ok u → (q : ℕ) × (r ≡ Ok q)
room_of_lem (Ok q) u h = (q, refl)
room_of_lem (Err e) u h = absurd (err_ok _ u h)

-- what each kind of line owes, behind its first word
abbrev pub Headed : List ℕ → ℕ → List ℕ → Result (Unit {0}) Cause → (List ℕ → Result Line LineFault) → Type 0
Headed ps n ks room reads = (v : Unit {0}) → room ≡ Ok v → Tail 2 reads (LineIs ps n ks)

pub node_headed : (ps : List ℕ) (n : ℕ) → Headed ps n (codes "node") (node_room ps) (λ u. then (node_rest ps u) (λ x. Ok (line.Node x)))
node_headed ps n v h = let r = room_of_lem (room_of ps) v h in mapped 2 line.Node (λ x u is. is) (node_tail ps n r.0 r.1)

pub ip_headed : (ps : List ℕ) (n : ℕ) → Headed ps n (codes "ip") (rule_room n) (λ u. then (ip_line_of ps u) (λ x. Ok (line.Rule x)))
ip_headed ps n v h = let r = room_of_lem (rule_room_of n) v h in mapped 2 line.Rule (λ x u is. is) (ip_tail ps n r.0 r.1)

pub mac_headed : (ps : List ℕ) (n : ℕ) → Headed ps n (codes "mac") (rule_room n) (λ u. then (mac_line_of ps u) (λ x. Ok (line.Rule x)))
mac_headed ps n v h = let r = room_of_lem (rule_room_of n) v h in mapped 2 line.Rule (λ x u is. is) (mac_tail ps n r.0 r.1)

-- where a line's answer comes from, by its first word
pub line_by : (ps : List ℕ) (n : ℕ) (t : List ℕ) (y : Result Line LineFault) → line_of ps n t ≡ y → ((u : List ℕ) × (lit (codes "node") t ≡ Ok u) × (then (placed 1 (node_room ps)) (λ _. then (node_rest ps u) (λ x. Ok (line.Node x))) ≡ y)) ⊎ ((u : List ℕ) × (lit (codes "ip") t ≡ Ok u) × (then (placed 1 (rule_room n)) (λ _. then (ip_line_of ps u) (λ x. Ok (line.Rule x))) ≡ y)) ⊎ (then (placed 1 (lit (codes "mac") t)) (λ u. then (placed 1 (rule_room n)) (λ _. then (mac_line_of ps u) (λ x. Ok (line.Rule x)))) ≡ y)
unfolding line_of node_line_of
line_by ps n t y h =
    ⊎_elim
    (λ (x : (u : List ℕ) × (lit (codes "node") t ≡ Ok u) × (then (node_line_of ps u) (λ x. Ok (line.Node x)) ≡ y)).
    inl (x.0, x.1, sym (then_then (placed 1 (node_room ps)) (λ _. node_rest ps x.0) (λ x. Ok (line.Node x))) ∙ x.2))
    (λ g. inr (choice_is (lit (codes "ip") t) _ _ y g))
    (choice_is (lit (codes "node") t) _ _ y h)
