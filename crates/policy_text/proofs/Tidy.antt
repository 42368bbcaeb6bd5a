-- A line is short, and no line feed stands in it. Assumes nothing.
use Rattle.std.proofs.Common.{◌≡◌, ℕ, ◌+◌, ◌≤◌, true, List, [], length, refl, arith}
use Rattle.kinds.specs.declared.profiles.Profile.{Profile}
use Rattle.kinds.specs.declared.profiles.Profile.TheVariants.{Vs, Lb, Tb, Sr, Tr}
use Rattle.policy.specs.declared.rules.Selector.{Selector}
use Rattle.policy.specs.declared.rules.Selector.TheVariants.{Ip, Mac}
use Rattle.policy.specs.Policies.{room_of, number_of, known_of, rule_room_of}
use Rattle.policy_words.specs.Texts.{word_on}
use Rattle.policy_words.proofs.Tidy.{clean, Tidy, tidy_decimal, tidy_word, tidy_prefix, tidy_station, tidy_protocol, tidy_class, tidy_mode}
use Rattle.policy_text.specs.declared.lines.Line.{Line}
use Rattle.policy_text.specs.declared.lines.Line.TheVariants as line
use Rattle.policy_text.specs.Texts.{profile_text, rule_text, SelectorOk, line_text, LineOk}
use Rattle.policy_text.specs.declared.amounts.Amount.{Amount}
use Rattle.policy_text.specs.declared.amounts.Amount.TheVariants.{Rate, Tolerance, Burst, LooseBurst, Excess, Peak}
use Rattle.policy_text.proofs.Checks.{Within, amount_few, Bought, bought_by, before_ok, number_is, known_low, under_low}

tidy_amount : (n : ℕ) (a : Amount) (v : ℕ) (t : List ℕ) → Within a v → Tidy n t → Tidy (14 + n) (word_on v t)
tidy_amount n a v t h = tidy_word n v t (amount_few a v h)

tidy_profile : (m : Profile) → Bought m → Tidy 59 (profile_text m)
unfolding profile_text
tidy_profile (Vs t l) ok =
    let a = tidy_amount 14 Rate t _ ok.0 (tidy_amount 0 Tolerance l [] ok.1 (refl, omega arith)) in let short = a.1 in (a.0, omega arith)
tidy_profile (Lb t l) ok =
    let a = tidy_amount 14 Rate t _ ok.0 (tidy_amount 0 Tolerance l [] ok.1 (refl, omega arith)) in let short = a.1 in (a.0, omega arith)
tidy_profile (Tb r b) ok =
    let a = tidy_amount 14 Rate r _ ok.0 (tidy_amount 0 Burst b [] ok.1 (refl, omega arith)) in let short = a.1 in (a.0, omega arith)
tidy_profile (Sr cir cbs ebs) ok =
    let c = tidy_amount 0 (Excess cbs) ebs [] ok.2 (refl, omega arith) in
    let a = tidy_amount 28 Rate cir _ ok.0 (tidy_amount 14 LooseBurst cbs _ ok.1 c) in
    let short = a.1 in
    (a.0, omega arith)
tidy_profile (Tr cir cbs pir pbs) ok =
    let c = tidy_amount 14 (Peak cir) pir _ ok.2 (tidy_amount 0 Burst pbs [] ok.3 (refl, omega arith)) in
    let a = tidy_amount 42 Rate cir _ ok.0 (tidy_amount 28 Burst cbs _ ok.1 c) in
    let short = a.1 in
    (a.0, omega arith)

-- a node's number
tidy_node : (n v : ℕ) (t : List ℕ) → v ≤ 33 → Tidy n t → Tidy (3 + n) (word_on v t)
tidy_node n v t low h =
    let d = tidy_decimal 2 n v t (omega arith) (omega arith) (omega arith) h in
    let short = d.1 in
    (d.0, omega arith)

tidy_rule : (s : Selector) (p : ℕ) (t : List ℕ) → p ≤ 33 → SelectorOk s → Tidy 59 t → Tidy 120 (rule_text s p t)
unfolding rule_text
tidy_rule (Ip r) p t low ok h =
    let tail = tidy_node 67 p _ low (tidy_class 65 r.class _ (tidy_mode 59 r.mode t h)) in
    let a = tidy_prefix 93 r.source _ ok.0 (tidy_prefix 74 r.destination _ ok.1 (tidy_protocol 70 r.protocol _ ok.2 tail)) in
    let short = a.1 in
    (a.0, omega arith)
tidy_rule (Mac s) p t low ok h =
    let a = tidy_station 62 s _ ok (tidy_node 59 p t low h) in
    let short = a.1 in
    (a.0, omega arith)

pub tidy_line : (ps : List ℕ) (n : ℕ) (x : Line) → length ps ≤ 32 → LineOk ps n x → (clean (line_text x) ≡ true) × (length (line_text x) ≤ 120)
unfolding line_text
tidy_line ps n (line.Node x) small ok =
    let room = before_ok (room_of ps) _ x.parent ok.0 in
    let numbered = before_ok (number_of ps x.number) _ x.parent room.2 in
    let is = number_is ps x.number numbered.0 numbered.1 in
    let low = under_low ps x.parent x.parent numbered.2 in
    let m = tidy_profile x.profile (bought_by x.profile ok.1) in
    let a = tidy_node 62 x.number _ (omega arith) (tidy_node 59 x.parent _ (omega arith) m) in
    let short = a.1 in
    (a.0, omega arith)
tidy_line ps n (line.Rule r) small ok =
    let room = before_ok (rule_room_of n) (known_of ps r.parent) r.parent ok.0 in
    let low = known_low ps r.parent r.parent room.2 in
    tidy_rule r.selector r.parent _ (omega arith) ok.1 (tidy_profile r.meter (bought_by r.meter ok.2))
