-- The text of each line that is printed, its line feed last.
-- colour_name: the name of a colour
-- Verdict: a line's colour, or why it has none; entry_text: a line's number and its verdict
-- count_text: the packets and bytes of a colour; counts_text: those of each colour
-- fault_text: the word of a meter that is refused
-- Assumes nothing.
use Rattle.std.specs.Prelude.{ℕ, List, ◌++◌, Ok, Err, Result, codes, decimal}
use Rattle.meter.specs.declared.measures.PacketColour.{PacketColour}
use Rattle.meter.specs.declared.measures.PacketColour.TheVariants.{Green, Yellow, Red}
use Rattle.meter.specs.Rules.{number_of}
use Rattle.colour.specs.declared.entries.Count.{Count}
use Rattle.colour.specs.declared.entries.Counts.{Counts}
use Rattle.colour.specs.declared.entries.Rejection.{Rejection}
use Rattle.colour.specs.declared.entries.Rejection.TheVariants.{Refused, Malformed}
use Rattle.colour.specs.declared.purchase.Cause.{Cause}
use Rattle.colour.specs.Arrivals.{place_of}
use Rattle.colour.specs.Purchase.{cause_number}

abbrev pub colour_name : PacketColour → List ℕ
colour_name Green = codes "green"
colour_name Yellow = codes "yellow"
colour_name Red = codes "red"

abbrev pub Verdict : Type 0
Verdict = Result PacketColour Rejection

abbrev pub entry_text : ℕ → Verdict → List ℕ
entry_text k (Ok c) = decimal k ++ (codes " " ++ (colour_name c ++ codes "\n"))
entry_text k (Err (Refused r)) = decimal k ++ (codes " refused " ++ (decimal (number_of r) ++ codes "\n"))
entry_text k (Err (Malformed w)) = decimal k ++ (codes " refused 1 word " ++ (decimal (place_of w) ++ codes "\n"))

-- packets before bytes
abbrev pub count_text : Count → List ℕ
count_text n = decimal n.packets ++ (codes " " ++ decimal n.bytes)

abbrev pub counts_text : Counts → List ℕ
counts_text t =
    codes "total green " ++ (count_text t.green
    ++ (codes " yellow " ++ (count_text t.yellow ++ (codes " red " ++ (count_text t.red ++ codes "\n")))))

abbrev pub fault_text : ℕ → Cause → List ℕ
fault_text k cause = codes "meter word " ++ (decimal k ++ (codes " refused " ++ (decimal (cause_number cause) ++ codes "\n")))
