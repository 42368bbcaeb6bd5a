-- What a policy's text says.
-- lined: a line's fault, with the line's number; broken: a line too long or unended
-- nodes_in, rules_in: the nodes and the rules of some lines; parents_in, count_in: the parents of the nodes, the number of rules
-- cut_at: a text in the parts that a byte ends, and what follows the last; words_of: the words of a line
-- read_from, read_after: the lines behind others, of parts and of a text; read_text: the lines of a text, or its first fault
-- line_len, first_line, IsFirstLine, step_of: the same, line by line
-- text_of: how lines are written; LinesOk: lines that may stand behind others
-- Worth, worth_of, worth_in: what a meter is, and what a profile buys; Sells, Grown, Built: the policy of lines
-- Answered, Canonical, Gives: what the reader answers; Begun, AtFault, Follows, First: its fault is the first
-- Assumes nothing.
use Rattle.std.specs.Prelude.{◌≡◌, ℕ, suc, ◌+◌, ◌-◌, ◌<◌, ◌≤◌, cond, ◌||◌, ◌⊎◌, List, [], ◌∷◌, ◌++◌, map, length, take, drop, Ok, Err, vec_items, Result, ◌==◌, nat_le, nat_lt}
use Rattle.meter.specs.declared.measures.State.{State}
use Rattle.kinds.specs.declared.profiles.AnyMeter.{AnyMeter}
use Rattle.kinds.specs.declared.profiles.Fault as range
use Rattle.kinds.specs.declared.profiles.Profile.{Profile}
use Rattle.kinds.specs.Kinds.{any_meaning}
use Rattle.kinds.specs.Making.{Word, word_bought, word_of, made}
use Rattle.policy.specs.declared.rules.Rule.{Rule}
use Rattle.policy.specs.declared.rules.Selector.{Selector}
use Rattle.policy.specs.declared.policies.Policy.{Policy}
use Rattle.policy.specs.Policies.{parents_of}
use Rattle.policy_words.specs.declared.causes.Cause.TheVariants.{Form}
use Rattle.policy_words.specs.Words.{then}
use Rattle.policy_text.specs.declared.lines.LineFault.{LineFault}
use Rattle.policy_text.specs.declared.lines.NodeLine.{NodeLine}
use Rattle.policy_text.specs.declared.lines.Line.{Line}
use Rattle.policy_text.specs.declared.lines.Line.TheVariants as line
use Rattle.policy_text.specs.declared.reader.Fault.{Fault}
use Rattle.policy_text.specs.declared.reader.PolicyFault.{PolicyFault}
use Rattle.policy_text.specs.declared.reader.PolicyFault.TheVariants.{Memory, At}
use Rattle.policy_text.specs.Lines.{line_of}
use Rattle.policy_text.specs.Texts.{line_text, LineOk}

abbrev pub most_bytes : ℕ
most_bytes = 65536

abbrev pub longest_line : ℕ
longest_line = 120

abbrev pub lined : {A : Type 0} → ℕ → Result A LineFault → Result A Fault
lined n (Ok a) = Ok a
lined n (Err e) = Err (record { line = n; word = e.word; cause = e.cause })

abbrev pub broken : LineFault
broken = record { word = 0; cause = Form }

abbrev pub nodes_in : List Line → List NodeLine
nodes_in [] = []
nodes_in (line.Node x ∷ xs) = x ∷ nodes_in xs
nodes_in (line.Rule r ∷ xs) = nodes_in xs

abbrev pub rules_in : List Line → List (Rule Profile)
rules_in [] = []
rules_in (line.Node x ∷ xs) = rules_in xs
rules_in (line.Rule r ∷ xs) = r ∷ rules_in xs

abbrev pub parents_in : List Line → List ℕ
parents_in xs = map (λ x. x.parent) (nodes_in xs)

abbrev pub count_in : List Line → ℕ
count_in xs = length (rules_in xs)

-- a byte in front of the first part
abbrev pub onto : ℕ → List (List ℕ) × List ℕ → List (List ℕ) × List ℕ
onto c ([], tail) = ([], c ∷ tail)
onto c (l ∷ ls, tail) = ((c ∷ l) ∷ ls, tail)

abbrev pub cut_at : ℕ → List ℕ → List (List ℕ) × List ℕ
cut_at b [] = ([], [])
cut_at b (c ∷ cs) = cond (c == b) ([] ∷ (cut_at b cs).0, (cut_at b cs).1) (onto c (cut_at b cs))

-- 32 is a space
abbrev pub words_of : List ℕ → List (List ℕ)
words_of l = (cut_at 32 l).0 ++ ((cut_at 32 l).1 ∷ [])

-- 10 is a line feed
abbrev pub lines_of : List ℕ → List (List ℕ) × List ℕ
lines_of t = cut_at 10 t

unfoldable pub read_from : List Line → List (List ℕ) → List ℕ → Result (List Line) Fault
read_from xs [] [] = Ok xs
read_from xs [] (c ∷ tail) = lined (length xs + 1) (Err broken)
read_from xs (l ∷ ls) tail =
    cond (nat_lt longest_line (length l)) (lined (length xs + 1) (Err broken))
    (then (lined (length xs + 1) (line_of (parents_in xs) (count_in xs) l)) (λ x. read_from (xs ++ x ∷ []) ls tail))

abbrev pub read_after : List Line → List ℕ → Result (List Line) Fault
read_after xs t = read_from xs (lines_of t).0 (lines_of t).1

unfoldable pub read_text : List ℕ → Result (List Line) Fault
read_text t = cond (nat_lt most_bytes (length t)) (lined 0 (Err broken)) (read_after [] t)

abbrev pub line_len : List ℕ → ℕ
line_len [] = 0
line_len (c ∷ cs) = cond (c == 10) 0 (suc (line_len cs))

abbrev pub first_by : ℕ → List ℕ → Result (List ℕ × List ℕ) LineFault
first_by n t = cond (nat_le (length t) n || nat_lt longest_line n) (Err broken) (Ok (take n t, drop (n + 1) t))

abbrev pub first_line : List ℕ → Result (List ℕ × List ℕ) LineFault
first_line t = first_by (line_len t) t

-- l is the first line of the text l ++ after, with the byte that ends it, or a text in which none ends
abbrev pub IsFirstLine : List ℕ → List ℕ → Type 0
IsFirstLine l after = (line_len (l ++ after) + 1 ≡ length l) ⊎ ((after ≡ []) × (line_len l ≡ length l))

unfoldable pub step_of : ℕ → List ℕ → ℕ → List ℕ → Result (Line × List ℕ) Fault
step_of k ps n t = then (lined k (first_line t)) (λ p. then (lined k (line_of ps n p.0)) (λ x. Ok (x, p.1)))

-- each line with its end
abbrev pub text_of : List Line → List ℕ
text_of [] = []
text_of (x ∷ xs) = line_text x ++ (10 ∷ text_of xs)

abbrev pub LinesOk : List Line → List Line → Type 0
LinesOk xs [] = Unit {0}
LinesOk xs (y ∷ ys) = LineOk (parents_in xs) (count_in xs) y × LinesOk (xs ++ y ∷ []) ys

-- a meter's kind and its meaning, or the fault of what was to be bought
abbrev pub Worth : Type 0
Worth = Word × Result State range.Fault

abbrev pub worth_of : AnyMeter → Worth
worth_of m = (word_of m, Ok (any_meaning m))

abbrev pub worth_in : Profile → Worth
worth_in p = (word_bought p, made p)

-- the meter is the unused one that the profile buys
abbrev pub Sells : Profile → AnyMeter → Type 0
Sells p m = worth_of m ≡ worth_in p

-- a rule with what its meter is worth
abbrev pub rule_worth : {M : Type 0} → (M → Worth) → Rule M → Selector × ℕ × Worth
rule_worth f r = (r.selector, r.parent, f r.meter)

-- a policy has the nodes and rules of the lines, in their order, each with the unused meter that was bought
pub record Built (ys : List Line) (p : Policy AnyMeter) : Type 0 where
  pub parents : parents_of p.tree ≡ parents_in ys
  pub meters : map worth_of (vec_items p.meters) ≡ map (λ x. worth_in x.profile) (nodes_in ys)
  pub rules : map (rule_worth worth_of) (vec_items p.rules) ≡ map (rule_worth worth_in) (rules_in ys)

-- one line more, whatever the lines before
abbrev pub Grown : Policy AnyMeter → Policy AnyMeter → Line → Type 0
Grown p q x = (ys : List Line) → Built ys p → Built (ys ++ x ∷ []) q

-- the policy of the lines, or the first fault; or there was no memory
abbrev pub AnsweredBy : Result (List Line) Fault → Result (Policy AnyMeter) PolicyFault → Type 0
AnsweredBy (Ok ys) (Ok p) = Built ys p
AnsweredBy (Ok ys) (Err (At f)) = ⊥
AnsweredBy (Err g) (Ok p) = ⊥
AnsweredBy (Err g) (Err (At f)) = f ≡ g
AnsweredBy (Ok ys) (Err Memory) = Unit {0}
AnsweredBy (Err g) (Err Memory) = Unit {0}

abbrev pub Answered : List ℕ → Result (Policy AnyMeter) PolicyFault → Type 0
Answered t r = AnsweredBy (read_text t) r

-- what is read is, byte for byte, the text of lines that respect the limits, and the policy is that of these lines
abbrev pub Canonical : List ℕ → Result (Policy AnyMeter) PolicyFault → Type 0
Canonical t (Ok p) = (ys : List Line) × (t ≡ text_of ys) × LinesOk [] ys × Built ys p
Canonical t (Err e) = Unit {0}

-- the policy of the lines, where there is memory
abbrev pub Gives : List Line → Result (Policy AnyMeter) PolicyFault → Type 0
Gives ys (Ok p) = Built ys p
Gives ys (Err Memory) = Unit {0}
Gives ys (Err (At f)) = ⊥

-- the words of l before word w are the first words of a line that may stand there
abbrev pub Begun : List ℕ → ℕ → List ℕ → ℕ → Type 0
Begun ps n l w =
    1 < w → (x : Line) × LineOk ps n x × (w ≤ length (words_of l) + 1) × (take (w - 1) (words_of l) ≡ take (w - 1) (words_of (line_text x)))

-- behind the lines ys the fault is in l, which is too long or has no end; or l has an end and the fault is in a word of it, and the words before are in order
abbrev pub AtFault : List Line → List ℕ → List ℕ → Fault → Type 0
AtFault ys l rest f =
    ((f.word ≡ 0) × (f.cause ≡ Form) × ((longest_line < length l) ⊎ (rest ≡ [])))
    ⊎ ((length l ≤ longest_line) × (0 < length rest) × (line_of (parents_in ys) (count_in ys) l ≡ Err (record { word = f.word; cause = f.cause })) × Begun (parents_in ys) (count_in ys) l f.word)

-- the text is lines that are in order, then the line at fault, up to its end, then the rest
abbrev pub Follows : List ℕ → Fault → Type 0
Follows t f =
    (ys : List Line) × (l : List ℕ) × (rest : List ℕ) × (t ≡ text_of ys ++ (l ++ rest)) × (line_len (l ++ rest) ≡ length l) × LinesOk [] ys × (f.line ≡ length ys + 1) × AtFault ys l rest f

-- a text that is too long has its fault in line 0; any other in the first line that is not in order
abbrev pub First : List ℕ → Result (Policy AnyMeter) PolicyFault → Type 0
First t (Ok p) = Unit {0}
First t (Err Memory) = Unit {0}
First t (Err (At f)) = length t ≤ most_bytes → Follows t f
