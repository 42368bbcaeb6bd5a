-- The laws of the words: what is read is so written, and what is written is read, whatever follows.
-- NumberLaw: of a number, before anything that is no digit
-- Word: what a reader of a word owes to the way in which the word is written; WordsLaw: every reader owes it
-- Assumes nothing.
use Rattle.std.specs.Prelude.{◌≡◌, ℕ, ◌^◌, ◌<◌, true, List, ◌++◌, Ok, decimal, Result}
use Rattle.policy_words.specs.declared.causes.Cause.{Cause}
use Rattle.policy_words.specs.Numbers.{number_of, Undigited}
use Rattle.policy_words.specs.Words.{stop, field}
use Rattle.policy_words.specs.Addresses.{prefix_word_of, station_of}
use Rattle.policy_words.specs.Choices.{protocol_of, class_word_of, mode_of}
use Rattle.policy_words.specs.Texts.{word_on, prefix_text, PrefixOk, station_text, StationOk, protocol_text, ProtocolOk, class_text, mode_text}

abbrev pub NumberLaw : Type 0
NumberLaw = (v : ℕ) (rest : List ℕ) → v < 10 ^ 13 → Undigited rest → number_of (decimal v ++ rest) ≡ Ok (v, rest)

-- What is read is the text of a value that has one, up to a word's end; and such a text is read, whatever word follows.
pub record Word {A : Type 0} (reads : List ℕ → Result (A × List ℕ) Cause) (text : A → List ℕ → List ℕ) (Fine : A → Type 0) : Type 0 where
  pub back : (t : List ℕ) (a : A) (rest : List ℕ) → reads t ≡ Ok (a, rest) → (t ≡ text a rest) × Fine a × (stop rest ≡ true)
  pub forth : (a : A) (rest : List ℕ) → Fine a → stop rest ≡ true → reads (text a rest) ≡ Ok (a, rest)

abbrev pub always : {A : Type 0} → A → Type 0
always a = Unit {0}

pub record WordsLaw : Type 0 where
  pub number : Word field word_on (λ v. v < 10 ^ 13)
  pub prefix : Word prefix_word_of prefix_text PrefixOk
  pub station : Word station_of station_text StationOk
  pub protocol : Word protocol_of protocol_text ProtocolOk
  pub class : Word class_word_of class_text always
  pub mode : Word mode_of mode_text always
