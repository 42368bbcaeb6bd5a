-- Numbers of refusals and classes.
-- number_of: the number of each refusal
-- class_number, class_of: the number of a class, and the class of a number; class_or_unknown: the class, or the number that has none
-- Assumes nothing.
use Rattle.std.specs.Prelude.{ℕ, cond, Some, None, Option, Result, ok_or, ◌==◌}
use Rattle.packet.specs.declared.kinds.Refusal.{Refusal}
use Rattle.packet.specs.declared.kinds.Refusal.TheVariants.{ShortFrame, BadHeader, ShortBuffer}
use Rattle.packet.specs.declared.kinds.Class.{Class}
use Rattle.packet.specs.declared.kinds.Class.TheVariants.{One, Two, Three, Four}
use Rattle.packet.specs.declared.kinds.UnknownClass.{UnknownClass}

abbrev pub number_of : Refusal → ℕ
number_of ShortFrame = 32
number_of BadHeader = 33
number_of ShortBuffer = 39

abbrev pub class_number : Class → ℕ
class_number One = 1
class_number Two = 2
class_number Three = 3
class_number Four = 4

abbrev pub class_of : ℕ → Option Class
class_of n =
    cond (n == 1) (Some One) (cond (n == 2) (Some Two) (cond (n == 3) (Some Three) (cond (n == 4) (Some Four) None)))

abbrev pub class_or_unknown : ℕ → Result Class UnknownClass
class_or_unknown n = ok_or (class_of n) (record { 0 = n })
