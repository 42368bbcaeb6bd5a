-- Which frames a rule is for, and which rule a key has.
-- refusal_number: the number of each refusal
-- address_bits: how many bits an address has; leading: the first of them, as a number
-- prefix: an address with a length; prefix_of: the same, where the address has no bit beyond the length
-- in_prefix: does an address lie in a prefix?
-- ip_matches, matches: is a rule for a key?
-- first_for: the first rule for a key, from 0; next: one place further on
-- SelectorAt: what stands at a place; First: the first rule for a key, said of every rule
-- Assumes nothing.
use Rattle.std.specs.Prelude.{◌≡◌, ℕ, suc, ◌-◌, ◌/◌, ◌%◌, ◌^◌, ◌<◌, Bool, true, false, cond, ◌&&◌, List, [], ◌∷◌, length, Some, None, Option, ◌==◌, nat_le, slice_index_or}
use Rattle.std.specs.Option.{option_map_or}
use Rattle.std.specs.Str.{bytes_eq}
use Rattle.packet.specs.declared.kinds.Address.{Address}
use Rattle.packet.specs.declared.kinds.Conversation.{Conversation}
use Rattle.packet.specs.declared.kinds.Station.{Station}
use Rattle.packet.specs.declared.kinds.Key.{Key}
use Rattle.packet.specs.declared.kinds.Key.TheVariants as key
use Rattle.policy.specs.declared.rules.Prefix.{Prefix}
use Rattle.policy.specs.declared.rules.IpRule.{IpRule}
use Rattle.policy.specs.declared.rules.Selector.{Selector}
use Rattle.policy.specs.declared.rules.Selector.TheVariants.{Ip, Mac}
use Rattle.policy.specs.declared.rules.Refusal.{Refusal}
use Rattle.policy.specs.declared.rules.Refusal.TheVariants.{WrongNumber, UnknownParent, TooDeep, TooManyNodes, TooManyRules}

abbrev pub refusal_number : Refusal → ℕ
refusal_number WrongNumber = 5
refusal_number UnknownParent = 5
refusal_number TooDeep = 6
refusal_number TooManyNodes = 7
refusal_number TooManyRules = 7

abbrev pub address_bits : ℕ
address_bits = 32

-- the first bits of an address, as a number
abbrev pub leading : ℕ → ℕ → ℕ
leading bits a = a / 2 ^ (address_bits - bits)

abbrev pub prefix : Address → ℕ → Prefix
prefix a bits = record { address = a; length = bits }

-- all bits beyond the first ones are zero
abbrev pub prefix_of : Address → ℕ → Option Prefix
prefix_of a bits = cond (nat_le bits address_bits && a.0 % 2 ^ (address_bits - bits) == 0) (Some (prefix a bits)) None

abbrev pub in_prefix : Prefix → Address → Bool
in_prefix p a = leading p.length a.0 == leading p.length p.address.0

-- where no protocol is asked for, any will do
abbrev pub ip_matches : IpRule → Conversation → Bool
ip_matches r k =
    in_prefix r.source k.source && (in_prefix r.destination k.destination && option_map_or (λ wanted. k.protocol == wanted) r.protocol true)

abbrev pub matches : Selector → Key → Bool
matches (Ip r) (key.Conversation k) = ip_matches r k
matches (Ip r) (key.Station k) = false
matches (Mac s) (key.Conversation k) = false
matches (Mac s) (key.Station k) = option_map_or (λ (one : Station). bytes_eq one.source k.source) s true

abbrev pub next : Option ℕ → Option ℕ
next (Some i) = Some (suc i)
next None = None

-- the first that is for the key, counted from 0
abbrev pub first_for : List Selector → Key → Option ℕ
first_for [] k = None
first_for (s ∷ ss) k = cond (matches s k) (Some 0) (next (first_for ss k))

-- the selector at i is s
abbrev pub SelectorAt : List Selector → ℕ → Selector → Type 0
SelectorAt ss i s = (i < length ss) × (s ≡ slice_index_or ss i s)

abbrev pub First : List Selector → Key → Option ℕ → Type 0
First ss k (Some i) =
    (i < length ss) × ((s : Selector) → SelectorAt ss i s → matches s k ≡ true)
    × ((j : ℕ) (s : Selector) → j < i → SelectorAt ss j s → matches s k ≡ false)
First ss k None = (j : ℕ) (s : Selector) → SelectorAt ss j s → matches s k ≡ false
