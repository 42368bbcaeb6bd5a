-- The laws of a line: what is read is so written, and what is written is read. Assumes nothing.
use Rattle.std.proofs.Common.{◌≡◌, ℕ, ◌+◌, ◌≤◌, true, List, [], ◌++◌, length, Ok, codes, Result, refl, ap, ◌∙◌, ⊎_elim, arith}
use Rattle.kinds.specs.declared.profiles.Profile.{Profile}
use Rattle.kinds.specs.declared.profiles.Profile.TheVariants.{Vs, Lb, Tb, Sr, Tr}
use Rattle.policy.specs.declared.rules.Refusal.{Refusal}
use Rattle.policy.specs.declared.rules.Selector.{Selector}
use Rattle.policy.specs.declared.rules.Selector.TheVariants.{Ip, Mac}
use Rattle.policy.specs.Policies.{room_of, number_of, known_of, rule_room_of, rule_of}
use Rattle.policy_words.specs.declared.causes.Cause.{Cause}
use Rattle.policy_words.specs.Words.{then, choice, stop, lit}
use Rattle.policy_words.specs.Texts.{word_on, prefix_text, station_text, protocol_text, class_text, mode_text}
use Rattle.policy_words.specs.Laws.{Word}
use Rattle.policy_words.proofs.Readings.{then_ok, lit_back, lit_forth}
use Rattle.policy_words.proofs.Octets.{prefix_word, prefix_stop}
use Rattle.policy_words.proofs.Hexes.{station_word, station_stop}
use Rattle.policy_words.proofs.Chosen.{protocol_word, protocol_stop, class_word, class_stop, mode_word, mode_stop}
use Rattle.policy_text.specs.declared.lines.LineFault.{LineFault}
use Rattle.policy_text.specs.declared.lines.Line.{Line}
use Rattle.policy_text.specs.declared.lines.Line.TheVariants as line
use Rattle.policy_text.specs.Places.{placed}
use Rattle.policy_text.specs.Meters.{last_two_of, single_of, two_rate_of, meter_of}
use Rattle.policy_text.specs.Lines.{taken, done, node_room, rule_room, node_line_of, ip_line_of, mac_line_of, line_of}
use Rattle.policy_text.specs.Texts.{profile_text, ProfileOk, rule_text, SelectorOk, line_text, LineOk}
use Rattle.policy_text.specs.Laws.{LineCanonical}
use Rattle.policy_text.specs.Amounts.{check_of}
use Rattle.policy_text.specs.declared.amounts.Amount.{Amount}
use Rattle.policy_text.specs.declared.amounts.Amount.TheVariants.{Rate, Tolerance, Burst, LooseBurst, Excess, Peak}
use Rattle.policy_text.proofs.Checks.{placed_ok, Within, amount_word, node_number_word, under_word, known_word, number_keeps, number_is, known_low, under_low, before_ok, Bought, bought_by}
use Rattle.policy_text.proofs.Tails.{Headed, node_headed, ip_headed, mac_headed, line_by, two_on, last_two_on, conversations_on, treatment_on}

headed_back : (ps : List ℕ) (n : ℕ) (ks : List ℕ) (room : Result (Unit {0}) Cause) (reads : List ℕ → Result Line LineFault) → Headed ps n ks room reads → (t u : List ℕ) (x : Line) → lit ks t ≡ Ok u → then (placed 1 room) (λ _. reads u) ≡ Ok x → (t ≡ line_text x) × LineOk ps n x
headed_back ps n ks room reads head t u x is h =
    let r = then_ok (placed 1 room) (λ _. reads u) x h in
    let l = (head r.0 (placed_ok 1 room r.0 r.1)).back u x r.2 in
    ((lit_back ks t u is).0 ∙ l.1, l.0)

pub line_back : LineCanonical
line_back ps n t x h =
    ⊎_elim
    (λ y. headed_back ps n (codes "node") (node_room ps) _ (node_headed ps n) t y.0 x y.1 y.2)
    (λ z.
    ⊎_elim
    (λ y. headed_back ps n (codes "ip") (rule_room n) _ (ip_headed ps n) t y.0 x y.1 y.2)
    (λ g.
    let y = then_ok (placed 1 (lit (codes "mac") t)) _ x g in
    headed_back ps n (codes "mac") (rule_room n) _ (mac_headed ps n) t y.0 x (placed_ok 1 (lit (codes "mac") t) y.0 y.1) y.2)
    z)
    (line_by ps n t (Ok x) h)

-- what is written is read, word after word

step_on : {A X : Type 0} {r : List ℕ → Result (X × List ℕ) Cause} {tx : X → List ℕ → List ℕ} {F : X → Type 0} (w : ℕ) (K : X × List ℕ → Result A LineFault) (x : X) (u : List ℕ) → Word r tx F → F x → stop u ≡ true → then (placed w (r (tx x u))) K ≡ K (x, u)
step_on w K x u word fine h = ap (λ y. then (placed w y) K) (word.forth x u fine h)

key_on : {A E : Type 0} (ks u : List ℕ) (K : List ℕ → Result A E) (G : Result A E) → stop u ≡ true → choice (lit ks (ks ++ u)) K G ≡ K u
key_on ks u K G h = ap (λ y. choice y K G) (lit_forth ks u h)

must_on : {A : Type 0} (w : ℕ) (ks u : List ℕ) (K : List ℕ → Result A LineFault) → stop u ≡ true → then (placed w (lit ks (ks ++ u))) K ≡ K u
must_on w ks u K h = ap (λ y. then (placed w y) K) (lit_forth ks u h)

room_on : {A : Type 0} (w : ℕ) (r : Result ℕ Refusal) (q : ℕ) (K : Unit {0} → Result A LineFault) → r ≡ Ok q → then (placed w (done (taken r))) K ≡ K tt
room_on w r q K h = ap (λ y. then (placed w (done (taken y))) K) h

last_two_forth : {A : Type 0} (w : ℕ) (x y : Amount) (a b : ℕ) (G : ℕ × ℕ → Result A LineFault) → Within x a → Within y b → then (last_two_of w (check_of x) (check_of y) (word_on a (word_on b []))) G ≡ G (a, b)
last_two_forth w x y a b G h g =
    last_two_on w x y (word_on a (word_on b [])) G ∙ step_on w _ a (word_on b []) (amount_word x) h refl ∙ step_on (w + 1) _ b [] (amount_word y) g refl

single_forth : (w cir cbs ebs : ℕ) → Bought (Sr cir cbs ebs) → single_of w (word_on cir (word_on cbs (word_on ebs []))) ≡ Ok (Sr cir cbs ebs)
unfolding single_of
single_forth w cir cbs ebs ok =
    two_on w Rate LooseBurst (word_on cir (word_on cbs (word_on ebs []))) _
    ∙ step_on w _ cir (word_on cbs (word_on ebs [])) (amount_word Rate) ok.0 refl
    ∙ step_on (w + 1) _ cbs (word_on ebs []) (amount_word LooseBurst) ok.1 refl
    ∙ step_on (w + 2) _ ebs [] (amount_word (Excess cbs)) ok.2 refl

two_rate_forth : (w cir cbs pir pbs : ℕ) → Bought (Tr cir cbs pir pbs) → two_rate_of w (word_on cir (word_on cbs (word_on pir (word_on pbs [])))) ≡ Ok (Tr cir cbs pir pbs)
unfolding two_rate_of
two_rate_forth w cir cbs pir pbs ok =
    two_on w Rate Burst (word_on cir (word_on cbs (word_on pir (word_on pbs [])))) _
    ∙ step_on w _ cir (word_on cbs (word_on pir (word_on pbs []))) (amount_word Rate) ok.0 refl
    ∙ step_on (w + 1) _ cbs (word_on pir (word_on pbs [])) (amount_word Burst) ok.1 refl
    ∙ last_two_forth (w + 2) (Peak cir) Burst pir pbs _ ok.2 ok.3

meter_forth : (w : ℕ) (m : Profile) → Bought m → meter_of w (profile_text m) ≡ Ok m
unfolding meter_of profile_text
meter_forth w (Vs t l) ok = last_two_forth (w + 1) Rate Tolerance t l (λ p. Ok (Vs p.0 p.1)) ok.0 ok.1
meter_forth w (Lb t l) ok = last_two_forth (w + 1) Rate Tolerance t l (λ p. Ok (Lb p.0 p.1)) ok.0 ok.1
meter_forth w (Tb r b) ok = last_two_forth (w + 1) Rate Burst r b (λ p. Ok (Tb p.0 p.1)) ok.0 ok.1
meter_forth w (Sr cir cbs ebs) ok = single_forth (w + 1) cir cbs ebs ok
meter_forth w (Tr cir cbs pir pbs) ok = two_rate_forth (w + 1) cir cbs pir pbs ok

meter_stop : (m : Profile) → stop (profile_text m) ≡ true
unfolding profile_text
meter_stop (Vs t l) = refl
meter_stop (Lb t l) = refl
meter_stop (Tb r b) = refl
meter_stop (Sr cir cbs ebs) = refl
meter_stop (Tr cir cbs pir pbs) = refl

rule_forth : (ps : List ℕ) (n : ℕ) (s : Selector) (p : ℕ) (m : Profile) → length ps ≤ 32 → rule_of ps n p ≡ Ok p → SelectorOk s → ProfileOk m → line_of ps n (rule_text s p (profile_text m)) ≡ Ok (line.Rule (record { selector = s; parent = p; meter = m }))
unfolding line_of ip_line_of mac_line_of rule_text
rule_forth ps n (Ip r) p m small ok fine buys =
    let room = before_ok (rule_room_of n) (known_of ps p) p ok in
    let low = known_low ps p p room.2 in
    let u-5 = word_on p (class_text r.class (mode_text r.mode (profile_text m))) in
    let u-4 = protocol_text r.protocol u-5 in
    let u-3 = prefix_text r.destination u-4 in
    key_on (codes "ip") (prefix_text r.source u-3) (λ u. then (placed 1 (rule_room n)) (λ _. then (ip_line_of ps u) (λ x. Ok (line.Rule x)))) _ (prefix_stop r.source u-3)
    ∙ room_on 1 (rule_room_of n) room.0 _ room.1
    ∙ ap (λ y. then y (λ x. Ok (line.Rule x)))
    (conversations_on (prefix_text r.source u-3) _
    ∙ step_on 2 _ r.source u-3 prefix_word fine.0 (prefix_stop r.destination u-4)
    ∙ step_on 3 _ r.destination u-4 prefix_word fine.1 (protocol_stop r.protocol u-5)
    ∙ step_on 4 _ r.protocol u-5 protocol_word fine.2 refl
    ∙ step_on 5 _ p (class_text r.class (mode_text r.mode (profile_text m))) (known_word ps) (omega arith, room.2) (class_stop r.class (mode_text r.mode (profile_text m)))
    ∙ treatment_on (class_text r.class (mode_text r.mode (profile_text m))) _
    ∙ step_on 6 _ r.class (mode_text r.mode (profile_text m)) class_word tt (mode_stop r.mode (profile_text m))
    ∙ step_on 7 _ r.mode (profile_text m) mode_word tt (meter_stop m)
    ∙ ap (λ y. then y (λ x. Ok (record { selector = Ip r; parent = p; meter = x }))) (meter_forth 8 m (bought_by m buys)))
rule_forth ps n (Mac s) p m small ok fine buys =
    let room = before_ok (rule_room_of n) (known_of ps p) p ok in
    let low = known_low ps p p room.2 in
    must_on 1 (codes "mac") (station_text s (word_on p (profile_text m))) (λ u. then (placed 1 (rule_room n)) (λ _. then (mac_line_of ps u) (λ x. Ok (line.Rule x)))) (station_stop s (word_on p (profile_text m)))
    ∙ room_on 1 (rule_room_of n) room.0 _ room.1
    ∙ ap (λ y. then y (λ x. Ok (line.Rule x)))
    (step_on 2 _ s (word_on p (profile_text m)) station_word fine refl
    ∙ step_on 3 _ p (profile_text m) (known_word ps) (omega arith, room.2) (meter_stop m)
    ∙ ap (λ y. then y (λ x. Ok (record { selector = Mac s; parent = p; meter = x }))) (meter_forth 4 m (bought_by m buys)))

-- a parent beyond the most nodes could have too many digits
pub line_forth : (ps : List ℕ) (n : ℕ) (x : Line) → length ps ≤ 32 → LineOk ps n x → line_of ps n (line_text x) ≡ Ok x
unfolding line_of node_line_of line_text
line_forth ps n (line.Node x) few ok =
    let room = before_ok (room_of ps) _ x.parent ok.0 in
    let numbered = before_ok (number_of ps x.number) _ x.parent room.2 in
    let is = number_is ps x.number numbered.0 numbered.1 in
    let same = numbered.1 ∙ ap Ok (number_keeps ps x.number numbered.0 numbered.1) in
    let low = under_low ps x.parent x.parent numbered.2 in
    let u-4 = profile_text x.profile in
    ap (λ y. then y (λ z. Ok (line.Node z)))
    (room_on 1 (room_of ps) room.0 _ room.1
    ∙ step_on 2 _ x.number (word_on x.parent u-4) (node_number_word ps) (omega arith, same) refl
    ∙ step_on 3 _ x.parent u-4 (under_word ps) (omega arith, numbered.2) (meter_stop x.profile)
    ∙ ap (λ y. then y (λ m. Ok (record { number = x.number; parent = x.parent; profile = m }))) (meter_forth 4 x.profile (bought_by x.profile ok.1)))
line_forth ps n (line.Rule r) few ok = rule_forth ps n r.selector r.parent r.meter few ok.0 ok.1 ok.2
