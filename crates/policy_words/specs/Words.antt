-- The parts of a line.
-- then: what comes after a reading that went well; choice: one reading where the first went well, or else another
-- stop: whether a word has its end here; lit: given bytes, as a word; gap: the space before a word
-- formed, whole, field: the number that is the next word; judged: one that a check takes; any_of: a word, or any
-- finish: the end of the line
-- Reads: the answer of a reader, a value and what follows it; Leaves: of one that answers only what follows
-- Computes: a check as a function of the number
-- Assumes nothing.
use Rattle.std.specs.Prelude.{◌≡◌, ℕ, ◌^◌, ◌<◌, Bool, true, cond, List, [], ◌∷◌, Some, None, Ok, Err, codes, MatchResult, Option, Result, ◌==◌}
use Rattle.std.specs.Borrow.{Bor}
use Rattle.policy_words.specs.declared.numbers.NumberFault.{NumberFault}
use Rattle.policy_words.specs.declared.causes.Cause.{Cause}
use Rattle.policy_words.specs.declared.causes.Cause.TheVariants.{Form}
use Rattle.policy_words.specs.Numbers.{number_of}

-- the first fault stays
abbrev pub then : {A B E : Type 0} → Result A E → (A → Result B E) → Result B E
then (Ok a) f = f a
then (Err e) f = Err e

abbrev pub choice : {A B E F : Type 0} → Result A E → (A → Result B F) → Result B F → Result B F
choice (Ok a) f g = f a
choice (Err e) f g = g

-- the line ends, or a space follows
abbrev pub stop : List ℕ → Bool
stop [] = true
stop (c ∷ cs) = c == 32

abbrev pub lit : List ℕ → List ℕ → Result (List ℕ) Cause
lit [] t = cond (stop t) (Ok t) (Err Form)
lit (k ∷ ks) [] = Err Form
lit (k ∷ ks) (c ∷ cs) = cond (c == k) (lit ks cs) (Err Form)

abbrev pub gap : List ℕ → Result (List ℕ) Cause
gap [] = Err Form
gap (c ∷ cs) = cond (c == 32) (Ok cs) (Err Form)

-- a number's fault is one of form
abbrev pub formed : {A : Type 0} → Result A NumberFault → Result A Cause
formed (Ok a) = Ok a
formed (Err e) = Err Form

-- what was read is a word
abbrev pub whole : {A : Type 0} → A × List ℕ → Result (A × List ℕ) Cause
whole p = cond (stop p.1) (Ok p) (Err Form)

abbrev pub field : List ℕ → Result (ℕ × List ℕ) Cause
field t = then (gap t) (λ u. then (formed (number_of u)) whole)

-- a number that a check takes, as the next word: its form first
abbrev pub judged : {A : Type 0} → (ℕ → Result A Cause) → List ℕ → Result (A × List ℕ) Cause
judged check t = then (field t) (λ p. then (check p.0) (λ a. Ok (a, p.1)))

-- the word any, or what is read of a text that does not begin with it
abbrev pub any_of : {A : Type 0} → Result (A × List ℕ) Cause → List ℕ → Result (Option A × List ℕ) Cause
any_of r t = choice (lit (codes " any") t) (λ u. Ok (None, u)) (then r (λ p. Ok (Some p.0, p.1)))

abbrev pub finish : List ℕ → Result (Unit {0}) Cause
finish [] = Ok tt
finish (c ∷ cs) = Err Form

-- the value and the rest are those of r, or the fault is
abbrev pub Reads : {A E : Type 0} → Result (A × Bor (List ℕ)) E → Result (A × List ℕ) E → Type 0
Reads answer r = MatchResult answer (λ p. r ≡ Ok (p.0, p.1.now)) (λ e. r ≡ Err e)

abbrev pub Leaves : {E : Type 0} → Result (Bor (List ℕ)) E → Result (List ℕ) E → Type 0
Leaves answer r = MatchResult answer (λ p. r ≡ Ok p.now) (λ e. r ≡ Err e)

-- of each number of 64 bits a check, whose answers post tells, answers what f does
abbrev pub Computes : {A E : Type 0} → (ℕ → Result A E → Type 0) → (ℕ → Result A E) → Type 0
Computes {A} {E} post f = (n : ℕ) (r : Result A E) → n < 2 ^ 64 → post n r → r ≡ f n
