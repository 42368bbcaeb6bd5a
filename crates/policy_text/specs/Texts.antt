-- How a line is written, and which lines there may be behind the nodes whose parents are ps and behind n rules.
-- profile_text: a meter's words; rule_text, line_text: a line, without the byte that ends it
-- ProfileOk: a profile that makes a meter; SelectorOk: frames that can be written; LineOk: a line that may stand there
-- Assumes nothing.
use Rattle.std.specs.Prelude.{◌≡◌, ℕ, List, [], ◌++◌, Ok, codes}
use Rattle.meter.specs.declared.measures.Terms.{Terms}
use Rattle.kinds.specs.declared.profiles.Profile.{Profile}
use Rattle.kinds.specs.declared.profiles.Profile.TheVariants.{Vs, Lb, Tb, Sr, Tr}
use Rattle.kinds.specs.Making.{bought}
use Rattle.policy.specs.declared.rules.Selector.{Selector}
use Rattle.policy.specs.declared.rules.Selector.TheVariants.{Ip, Mac}
use Rattle.policy.specs.Policies.{node_of, rule_of}
use Rattle.policy_words.specs.Texts.{word_on, prefix_text, PrefixOk, station_text, StationOk, protocol_text, ProtocolOk, class_text, mode_text}
use Rattle.policy_text.specs.declared.lines.Line.{Line}
use Rattle.policy_text.specs.declared.lines.Line.TheVariants as line

unfoldable pub profile_text : Profile → List ℕ
profile_text (Vs t l) = codes " vs" ++ word_on t (word_on l [])
profile_text (Lb t l) = codes " lb" ++ word_on t (word_on l [])
profile_text (Tb r b) = codes " tb" ++ word_on r (word_on b [])
profile_text (Sr cir cbs ebs) = codes " sr" ++ word_on cir (word_on cbs (word_on ebs []))
profile_text (Tr cir cbs pir pbs) = codes " tr" ++ word_on cir (word_on cbs (word_on pir (word_on pbs [])))

abbrev pub ProfileOk : Profile → Type 0
ProfileOk p = (w : Terms) × (bought p ≡ Ok w)

-- a rule's words up to its meter's
unfoldable pub rule_text : Selector → ℕ → List ℕ → List ℕ
rule_text (Ip r) p t =
    codes "ip" ++ prefix_text r.source (prefix_text r.destination (protocol_text r.protocol (word_on p (class_text r.class (mode_text r.mode t)))))
rule_text (Mac s) p t = codes "mac" ++ station_text s (word_on p t)

abbrev pub SelectorOk : Selector → Type 0
SelectorOk (Ip r) = PrefixOk r.source × PrefixOk r.destination × ProtocolOk r.protocol
SelectorOk (Mac s) = StationOk s

unfoldable pub line_text : Line → List ℕ
line_text (line.Node x) = codes "node" ++ word_on x.number (word_on x.parent (profile_text x.profile))
line_text (line.Rule r) = rule_text r.selector r.parent (profile_text r.meter)

abbrev pub LineOk : List ℕ → ℕ → Line → Type 0
LineOk ps n (line.Node x) = (node_of ps x.number x.parent ≡ Ok x.parent) × ProfileOk x.profile
LineOk ps n (line.Rule r) = (rule_of ps n r.parent ≡ Ok r.parent) × SelectorOk r.selector × ProfileOk r.meter
