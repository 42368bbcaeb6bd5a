-- Each turn has one row less to meet.
use Rattle.std.proofs.Common.{◌≡◌, ◌<◌, inl, inr, arith}
use Rattle.flow.specs.Keys.{chain_of}
use Rattle.flow.specs.Rows.{At}
use Rattle.flow.proofs.Chains.{left_start, left_more, left_used, left_none}
use Rattle.flow.proofs.links.find_row.Goals as goal

pub loop-init : goal.loop-init
loop-init g c = λ used s.
    let h : chain_of (g.K.Key.bytes c.args.key.now) < 64 = omega arith in
    rw (c.from-at.ensures, c.chain.ensures) (left_start s c.args.key.now h)

pub returns-in_err-row : goal.returns-in_err-row
returns-in_err-row g c = λ used s.
    rw c.from_residual.ensures (left_none s c.args.key.now c.loop.at c.loop.counter (c.loop.invariant used s) (inl c.in_err-row.ensures.lookup.3))

pub returns-then-same : goal.returns-then-same
returns-then-same g c = λ used s.
    let row = c.in_ok-row.row.now in
    let at : At c.args.rows.now c.loop.at row = (c.in_ok-row.ensures.lookup.3.0, c.in_ok-row.ensures.lookup.1) in
    let key = c.same.ensures.0 c.if-same.true in
    (left_used s c.args.key.now c.loop.at c.loop.counter (c.loop.invariant used s) row at, (row, at, key))

pub loop-preserved : goal.loop-preserved
loop-preserved g c = λ used s.
    let row = c.in_ok-row.row.now in
    let at : At c.args.rows.now c.loop.at row = (c.in_ok-row.ensures.lookup.3.0, c.in_ok-row.ensures.lookup.1) in
    let other : row.key ≡ c.args.key.now → ⊥ = λ k. let e = c.same.ensures.1 k in cc in
    rw c.from-at-in-loop.ensures (left_more s c.args.key.now c.loop.at c.loop.counter (c.loop.invariant used s) row at other)

pub returns : goal.returns
returns g c = λ used s. left_none s c.args.key.now c.loop.at c.loop.counter (c.loop.invariant used s) (inr c.loop-test.false)
