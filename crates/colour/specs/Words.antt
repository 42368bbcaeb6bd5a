-- The words of a text, and the number that a word writes.
-- blank: a space or a tab, which part words
-- words_on, words: the words of a text, behind a word that has begun, and from its start
-- value: the number that decimal digits write; numeral: the number of a word, where it is one that fits 64 bits
-- Assumes nothing.
use Rattle.std.specs.Prelude.{ℕ, ◌+◌, ◌-◌, ◌*◌, ◌^◌, Bool, cond, ◌&&◌, ◌||◌, List, [], ◌∷◌, ◌++◌, length, Some, None, Option, ◌==◌, nat_lt}
use Rattle.std.specs.Str.{all_ascii_digits}

abbrev pub blank : ℕ → Bool
blank b = b == 32 || b == 9

-- a word is never empty
abbrev pub begun : List ℕ → List (List ℕ) → List (List ℕ)
begun [] ws = ws
begun (b ∷ w) ws = (b ∷ w) ∷ ws

abbrev pub words_on : List ℕ → List ℕ → List (List ℕ)
words_on w [] = begun w []
words_on w (b ∷ t) = cond (blank b) (begun w (words_on [] t)) (words_on (w ++ (b ∷ [])) t)

unfoldable pub words : List ℕ → List (List ℕ)
words t = words_on [] t

-- digits, behind the number so far
abbrev pub value_on : ℕ → List ℕ → ℕ
value_on n [] = n
value_on n (d ∷ ds) = value_on (10 * n + (d - 48)) ds

abbrev pub value : List ℕ → ℕ
value ds = value_on 0 ds

-- one digit or more and nothing else, below 2^64
unfoldable pub numeral : List ℕ → Option ℕ
numeral w = cond (all_ascii_digits w && (nat_lt 0 (length w) && nat_lt (value w) (2 ^ 64))) (Some (value w)) None
