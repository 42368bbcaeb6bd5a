-- What is left of the calls decides.
use Rattle.std.proofs.Common.{◌≡◌, ◌≤◌, List, ◌++◌, length, drop, vec_items, vec_len, vec_capacity}
use Rattle.flow.specs.Maps.{Entry, Mapped, replies, after_all}
use Rattle.flow.specs.Tables.{rows_of, SameSlice}
use Rattle.flow.proofs.table.FlowTable.serve.Given as goal

abbrev pub invariant-loop-call : goal.invariant-loop-call
invariant-loop-call g l =
    let bytes = g.K.Key.bytes in
    let rows = length (rows_of l.initial.self) in
    let rest = drop l.call-index l.calls in
    record {
      len : vec_len l.replies ≡ l.call-index;
      capacity : length l.calls ≤ vec_capacity l.replies;
      same : SameSlice l.initial.self l.self;
      map : (es : List (Entry g.row.K.Denot g.row.M.Denot)) → Mapped l.initial.self es →
          (now : List (Entry g.row.K.Denot g.row.M.Denot)) × Mapped l.self now × (replies bytes rows es l.calls ≡ vec_items l.replies ++ replies bytes rows now rest) × (after_all bytes rows es l.calls ≡ after_all bytes rows now rest);
    }
