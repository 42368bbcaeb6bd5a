-- The laws of a line, behind the nodes whose parents are ps and behind n rules.
-- LineCanonical: a line that is read is so written; LineWritten: a line that is written is read
-- LineFirst: the words before the one that is refused are in order
-- Assumes nothing.
use Rattle.std.specs.Prelude.{◌≡◌, ℕ, ◌≤◌, List, length, Ok, Err}
use Rattle.policy.specs.Trees.{most_nodes}
use Rattle.policy_text.specs.declared.lines.LineFault.{LineFault}
use Rattle.policy_text.specs.declared.lines.Line.{Line}
use Rattle.policy_text.specs.Lines.{line_of}
use Rattle.policy_text.specs.Texts.{line_text, LineOk}
use Rattle.policy_text.specs.Policies.{Begun}

abbrev pub LineCanonical : Type 0
LineCanonical = (ps : List ℕ) (n : ℕ) (t : List ℕ) (x : Line) → line_of ps n t ≡ Ok x → (t ≡ line_text x) × LineOk ps n x

abbrev pub LineWritten : Type 0
LineWritten = (ps : List ℕ) (n : ℕ) (x : Line) → length ps ≤ most_nodes → LineOk ps n x → line_of ps n (line_text x) ≡ Ok x

abbrev pub LineFirst : Type 0
LineFirst = (ps : List ℕ) (n : ℕ) (t : List ℕ) (f : LineFault) → line_of ps n t ≡ Err f → Begun ps n t f.word
