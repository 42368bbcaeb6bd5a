-- What was taken so far, and what was written for it.
use Rattle.std.proofs.Common.{take, string_bytes}
use Rattle.colour.specs.Report.{Goes}
use Rattle.colour.proofs.session.Session.feed.Given as goal

abbrev pub invariant-loop-byte : goal.invariant-loop-byte
invariant-loop-byte l = Goes l.initial.self (string_bytes l.initial.out) (take l.byte-index l.block) l.self (string_bytes l.out)
