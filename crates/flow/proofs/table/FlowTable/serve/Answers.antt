-- Each turn takes one call off what is left.
use Rattle.std.proofs.Common.{◌≡◌, ◌+◌, [], ◌++◌, length, drop, vec_items, sym, ap, ◌∙◌, subst, append-nil, arith}
use Rattle.std.proofs.lemmas.List.{at_drop_all}
use Rattle.flow.specs.Maps.{Mapped, reply_to, after_call, replies, after_all}
use Rattle.flow.specs.Tables.{rows_of}
use Rattle.flow.proofs.MapLaws.{replies_more, after_more}
use Rattle.flow.proofs.table.FlowTable.serve.Goals as goal

pub loop-call-preserved : goal.loop-call-preserved
loop-call-preserved g c =
    let bytes = g.K.Key.bytes in
    let rows = length (rows_of c.args.self.now) in
    let calls = c.args.calls.now in
    let i = c.loop-call.call-index in
    let call = c.call-item.result in
    let inv = c.loop-call.invariant in
    let before = vec_items c.loop-call.replies in
    record {
      len = omega (arith, c.push_reserved.ensures.len, inv.len);
      capacity = omega (arith, c.push_reserved.ensures.capacity, inv.capacity);
      same = (c.answer.ensures.same.0 ∙ inv.same.0, c.answer.ensures.same.1 ∙ inv.same.1);
      map = λ es a.
          let (now, is, said, left) = inv.map es a in
          let told = c.answer.ensures.mapped now is in
          let reply : c.answer.result ≡ reply_to bytes rows now call = told.0 ∙ ap (λ n. reply_to bytes n now call) inv.same.1 in
          let next : Mapped c.answer.new.self (after_call bytes rows now call) = subst (λ n. Mapped c.answer.new.self (after_call bytes n now call)) inv.same.1 told.1 in (
            after_call bytes rows now call,
            next,
            replies_more bytes rows now calls i call c.loop-call-test.true c.call-item.is c.answer.result reply before (replies bytes rows es calls) said
                ∙ ap (λ l. l ++ replies bytes rows (after_call bytes rows now call) (drop (i + 1) calls)) (sym c.push_reserved.ensures.items),
            left ∙ after_more bytes rows now calls i call c.loop-call-test.true c.call-item.is,
          );
    }

pub returns : goal.returns
returns g c =
    let bytes = g.K.Key.bytes in
    let rows = length (rows_of c.args.self.now) in
    let calls = c.args.calls.now in
    let i = c.loop-call.call-index in
    let inv = c.loop-call.invariant in
    let items = vec_items c.loop-call.replies in
    record {
      same = inv.same;
      served = λ es a.
          let (now, is, said, left) = inv.map es a in
          let none : replies bytes rows now (drop i calls) ≡ [] = at_drop_all (replies bytes rows now) calls i c.loop-call-test.false in
          let all : after_all bytes rows now (drop i calls) ≡ now = at_drop_all (after_all bytes rows now) calls i c.loop-call-test.false in (
            sym (said ∙ ap (λ l. items ++ l) none ∙ append-nil items),
            subst (λ x. Mapped c.loop-call.self x) (sym (left ∙ all)) is,
          );
    }
