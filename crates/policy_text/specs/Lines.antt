-- The lines of a policy, behind the nodes whose parents are ps and behind n rules.
-- taken: a refusal of the policy as a word's; node_room, rule_room: may there be one more?
-- number_word_of, under_word_of, known_word_of: the next word as a node's number, its parent, a rule's parent
-- node_line_of: a node; conversations_of, treatment_of, ip_line_of: a rule for conversations; mac_line_of: one for stations
-- line_of: a line
-- Assumes nothing.
use Rattle.std.specs.Prelude.{ℕ, List, Ok, Err, codes, Option, Result}
use Rattle.kinds.specs.declared.profiles.Profile.{Profile}
use Rattle.packet.specs.declared.kinds.Class.{Class}
use Rattle.meter.specs.declared.measures.Mode.{Mode}
use Rattle.policy.specs.declared.rules.Prefix.{Prefix}
use Rattle.policy.specs.declared.rules.Refusal.{Refusal}
use Rattle.policy.specs.declared.rules.Rule.{Rule}
use Rattle.policy.specs.declared.rules.Selector.TheVariants.{Ip, Mac}
use Rattle.policy.specs.Policies.{room_of, number_of, under_of, known_of, rule_room_of}
use Rattle.policy_words.specs.declared.causes.Cause.{Cause}
use Rattle.policy_words.specs.declared.causes.Cause.TheVariants.{Refused}
use Rattle.policy_words.specs.Words.{then, choice, lit, judged}
use Rattle.policy_words.specs.Addresses.{prefix_word_of, station_of}
use Rattle.policy_words.specs.Choices.{protocol_of, class_word_of, mode_of}
use Rattle.policy_text.specs.declared.lines.LineFault.{LineFault}
use Rattle.policy_text.specs.declared.lines.NodeLine.{NodeLine}
use Rattle.policy_text.specs.declared.lines.Line.{Line}
use Rattle.policy_text.specs.declared.lines.Line.TheVariants as line
use Rattle.policy_text.specs.Places.{placed}
use Rattle.policy_text.specs.Meters.{meter_of}

abbrev pub taken : {A : Type 0} → Result A Refusal → Result A Cause
taken (Ok a) = Ok a
taken (Err e) = Err (Refused e)

abbrev pub done : {A E : Type 0} → Result A E → Result (Unit {0}) E
done r = then r (λ _. Ok tt)

abbrev pub node_room : List ℕ → Result (Unit {0}) Cause
node_room ps = done (taken (room_of ps))

abbrev pub rule_room : ℕ → Result (Unit {0}) Cause
rule_room n = done (taken (rule_room_of n))

unfoldable pub number_word_of : List ℕ → List ℕ → Result (ℕ × List ℕ) Cause
number_word_of ps t = judged (λ n. taken (number_of ps n)) t

unfoldable pub under_word_of : List ℕ → List ℕ → Result (ℕ × List ℕ) Cause
under_word_of ps t = judged (λ n. taken (under_of ps n)) t

unfoldable pub known_word_of : List ℕ → List ℕ → Result (ℕ × List ℕ) Cause
known_word_of ps t = judged (λ n. taken (known_of ps n)) t

-- a node too many is refused before the rest
unfoldable pub node_line_of : List ℕ → List ℕ → Result NodeLine LineFault
node_line_of ps t =
    then (placed 1 (node_room ps)) (λ _.
    then (placed 2 (number_word_of ps t)) (λ n.
    then (placed 3 (under_word_of ps n.1)) (λ p.
    then (meter_of 4 p.1) (λ m.
    Ok (record { number = n.0; parent = p.0; profile = m })))))

unfoldable pub conversations_of : List ℕ → Result ((Prefix × Prefix × Option ℕ) × List ℕ) LineFault
conversations_of t =
    then (placed 2 (prefix_word_of t)) (λ s.
    then (placed 3 (prefix_word_of s.1)) (λ d.
    then (placed 4 (protocol_of d.1)) (λ p.
    Ok ((s.0, d.0, p.0), p.1))))

unfoldable pub treatment_of : List ℕ → Result ((Class × Mode) × List ℕ) LineFault
treatment_of t =
    then (placed 6 (class_word_of t)) (λ c. then (placed 7 (mode_of c.1)) (λ m. Ok ((c.0, m.0), m.1)))

unfoldable pub ip_line_of : List ℕ → List ℕ → Result (Rule Profile) LineFault
ip_line_of ps t =
    then (conversations_of t) (λ k.
    then (placed 5 (known_word_of ps k.1)) (λ p.
    then (treatment_of p.1) (λ c.
    then (meter_of 8 c.1) (λ m.
    Ok (record {
      selector = Ip (record { source = k.0.0; destination = k.0.1; protocol = k.0.2; class = c.0.0; mode = c.0.1 });
      parent = p.0;
      meter = m;
    })))))

unfoldable pub mac_line_of : List ℕ → List ℕ → Result (Rule Profile) LineFault
mac_line_of ps t =
    then (placed 2 (station_of t)) (λ s.
    then (placed 3 (known_word_of ps s.1)) (λ p.
    then (meter_of 4 p.1) (λ m.
    Ok (record { selector = Mac s.0; parent = p.0; meter = m }))))

-- a rule too many is refused before the rest
unfoldable pub line_of : List ℕ → ℕ → List ℕ → Result Line LineFault
line_of ps n t =
    choice (lit (codes "node") t) (λ u. then (node_line_of ps u) (λ x. Ok (line.Node x)))
    (choice (lit (codes "ip") t) (λ u. then (placed 1 (rule_room n)) (λ _. then (ip_line_of ps u) (λ x. Ok (line.Rule x))))
    (then (placed 1 (lit (codes "mac") t)) (λ u. then (placed 1 (rule_room n)) (λ _. then (mac_line_of ps u) (λ x. Ok (line.Rule x))))))
