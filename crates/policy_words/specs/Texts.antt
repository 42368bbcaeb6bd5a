-- How each word is written, before the rest of its line.
-- word_on: a number; part_text, octets_text, prefix_text: a prefix; pairs_text, station_text: a station, or any
-- protocol_text, class_text, mode_text: the words that choose
-- PrefixOk, StationOk, ProtocolOk: the values that have a text
-- Assumes nothing.
use Rattle.std.specs.Prelude.{◌≡◌, ℕ, ◌/◌, ◌%◌, ◌^◌, ◌<◌, ◌≤◌, List, [], ◌∷◌, ◌++◌, length, Some, None, codes, decimal, Option}
use Rattle.std.specs.Char.{digit_char}
use Rattle.packet.specs.declared.kinds.Class.{Class}
use Rattle.packet.specs.declared.kinds.Station.{Station}
use Rattle.packet.specs.Kinds.{class_number}
use Rattle.meter.specs.declared.measures.Mode.{Mode}
use Rattle.meter.specs.declared.measures.Mode.TheVariants.{Blind, Aware}
use Rattle.policy.specs.declared.rules.Prefix.{Prefix}
use Rattle.policy.specs.Rules.{prefix_of}

-- a space, and the number in plain decimal
abbrev pub word_on : ℕ → List ℕ → List ℕ
word_on v t = 32 ∷ (decimal v ++ t)

abbrev pub part_text : ℕ → ℕ → List ℕ → List ℕ
part_text v b t = decimal v ++ (b ∷ t)

-- the four bytes of an address, with stops between and a slash behind
abbrev pub octets_text : ℕ → List ℕ → List ℕ
octets_text n t = part_text (n / 16777216) 46 (part_text (n / 65536 % 256) 46 (part_text (n / 256 % 256) 46 (part_text (n % 256) 47 t)))

unfoldable pub prefix_text : Prefix → List ℕ → List ℕ
prefix_text p t = 32 ∷ octets_text p.address.0 (decimal p.length ++ t)

abbrev pub PrefixOk : Prefix → Type 0
PrefixOk p = (prefix_of p.address p.length ≡ Some p) × (p.address.0 < 2 ^ 32)

-- two digits a byte
abbrev pub pairs_text : List ℕ → List ℕ → List ℕ
pairs_text [] t = t
pairs_text (b ∷ bs) t = digit_char (b / 16) ∷ digit_char (b % 16) ∷ pairs_text bs t

unfoldable pub station_text : Option Station → List ℕ → List ℕ
station_text None t = codes " any" ++ t
station_text (Some s) t = 32 ∷ pairs_text s.source t

abbrev pub Bytes : List ℕ → Type 0
Bytes [] = Unit {0}
Bytes (b ∷ bs) = (b < 256) × Bytes bs

abbrev pub StationOk : Option Station → Type 0
StationOk None = Unit {0}
StationOk (Some s) = (length s.source ≡ 6) × Bytes s.source

unfoldable pub protocol_text : Option ℕ → List ℕ → List ℕ
protocol_text None t = codes " any" ++ t
protocol_text (Some n) t = word_on n t

abbrev pub ProtocolOk : Option ℕ → Type 0
ProtocolOk None = Unit {0}
ProtocolOk (Some n) = n ≤ 255

unfoldable pub class_text : Class → List ℕ → List ℕ
class_text c t = word_on (class_number c) t

unfoldable pub mode_text : Mode → List ℕ → List ℕ
mode_text Blind t = codes " blind" ++ t
mode_text Aware t = codes " aware" ++ t
