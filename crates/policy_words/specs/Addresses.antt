-- The words that are addresses.
-- octet_of: a number up to 255; part_of: one before a given byte; octets_of: four of them; prefix_word_of: a prefix, as the next word
-- hex_digit, hex_byte: a digit and a byte; pairs_of: so many bytes more; station_of: a station, or any, as the next word
-- Assumes nothing.
use Rattle.std.specs.Prelude.{ℕ, zero, suc, ◌+◌, ◌-◌, ◌*◌, cond, List, [], ◌∷◌, ◌++◌, Some, None, Ok, Err, codes, Option, Result, ◌==◌, nat_lt}
use Rattle.std.specs.Int.{is_in_range}
use Rattle.packet.specs.declared.kinds.Address.{Address}
use Rattle.packet.specs.declared.kinds.Station.{Station}
use Rattle.policy.specs.declared.rules.Prefix.{Prefix}
use Rattle.policy.specs.Rules.{prefix_of}
use Rattle.policy_words.specs.declared.causes.Cause.{Cause}
use Rattle.policy_words.specs.declared.causes.Cause.TheVariants.{Form}
use Rattle.policy_words.specs.Numbers.{number_of}
use Rattle.policy_words.specs.Words.{then, choice, formed, whole, lit, gap}

unfoldable pub octet_of : List ℕ → Result (ℕ × List ℕ) Cause
octet_of t = then (formed (number_of t)) (λ p. cond (nat_lt 255 p.0) (Err Form) (Ok p))

-- a value before the byte b
abbrev pub marked : ℕ → ℕ → List ℕ → Result (ℕ × List ℕ) Cause
marked b v [] = Err Form
marked b v (c ∷ cs) = cond (c == b) (Ok (v, cs)) (Err Form)

unfoldable pub part_of : ℕ → List ℕ → Result (ℕ × List ℕ) Cause
part_of b t = then (octet_of t) (λ p. marked b p.0 p.1)

-- the number of four bytes, the first the highest
abbrev pub value_of : ℕ → ℕ → ℕ → ℕ → ℕ
value_of a b c d = ((a * 256 + b) * 256 + c) * 256 + d

-- 46 is a full stop, 47 a slash
unfoldable pub octets_of : List ℕ → Result (Address × List ℕ) Cause
octets_of t =
    then (part_of 46 t) (λ a. then (part_of 46 a.1) (λ b. then (part_of 46 b.1) (λ c. then (part_of 47 c.1) (λ d.
    Ok (record { 0 = value_of a.0 b.0 c.0 d.0 }, d.1)))))

abbrev pub as_prefix : Option Prefix → List ℕ → Result (Prefix × List ℕ) Cause
as_prefix (Some p) t = whole (p, t)
as_prefix None t = Err Form

unfoldable pub prefix_word_of : List ℕ → Result (Prefix × List ℕ) Cause
prefix_word_of t =
    then (gap t) (λ u. then (octets_of u) (λ a. then (octet_of a.1) (λ n. as_prefix (prefix_of a.0 n.0) n.1)))

abbrev pub hex_digit : ℕ → Result ℕ Cause
hex_digit c = cond (is_in_range 48 57 c) (Ok (c - 48)) (cond (is_in_range 97 102 c) (Ok (c - 97 + 10)) (Err Form))

abbrev pub hex_byte : List ℕ → Result (ℕ × List ℕ) Cause
hex_byte [] = Err Form
hex_byte (c ∷ []) = Err Form
hex_byte (c ∷ (d ∷ t)) = then (hex_digit c) (λ high. then (hex_digit d) (λ low. Ok (16 * high + low, t)))

-- so many bytes more behind those in bs, as a word
abbrev pub pairs_of : ℕ → List ℕ → List ℕ → Result (List ℕ × List ℕ) Cause
pairs_of zero bs t = whole (bs, t)
pairs_of (suc k) bs t = then (hex_byte t) (λ p. pairs_of k (bs ++ p.0 ∷ []) p.1)

abbrev pub one_station : List ℕ × List ℕ → Result (Option Station × List ℕ) Cause
one_station p = Ok (Some (record { source = p.0 }), p.1)

unfoldable pub station_of : List ℕ → Result (Option Station × List ℕ) Cause
station_of t = choice (lit (codes " any") t) (λ u. Ok (None, u)) (then (gap t) (λ u. then (pairs_of 6 [] u) one_station))
