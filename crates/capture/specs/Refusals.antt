-- The refusals' numbers.
-- number_of: the number of each refusal
-- Assumes nothing.
use Rattle.std.specs.Prelude.{ℕ}
use Rattle.capture.specs.declared.layout.Refusal.{Refusal}
use Rattle.capture.specs.declared.layout.Refusal.TheVariants.{ShortFile, BadMagic, BadVersion, BadLink, Incomplete, BadFraction, BadLength}

abbrev pub number_of : Refusal → ℕ
number_of ShortFile = 20
number_of BadMagic = 21
number_of BadVersion = 22
number_of BadLink = 23
number_of Incomplete = 24
number_of BadFraction = 25
number_of BadLength = 26
