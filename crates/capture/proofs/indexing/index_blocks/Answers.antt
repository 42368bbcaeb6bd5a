-- What is listed is the index of the whole, at a fault or at the end.
use Rattle.std.proofs.Common.{◌+◌, take, drop, Ok, unwrap_or, sym, refl, ap, ◌∙◌, subst}
use Rattle.std.proofs.lemmas.List.{take_all}
use Rattle.std.proofs.lemmas.Result.{err_from_is_err_and}
use Rattle.std.specs.List.{flat_map}
use Rattle.capture.specs.declared.indexing.Indexer.{Indexer}
use Rattle.capture.specs.Indexing.{Listed, Indexes}
use Rattle.capture.proofs.Listing.{listed_more, listed_shut, joined_parts, indexed_open, indexed_closed, not_indexed}
use Rattle.capture.proofs.indexing.index_blocks.Goals as goal

pub returns-in-Some : goal.returns-in-Some
returns-in-Some c =
    let t = c.in_ok-take.ensures.cases in
    let blocks = c.args.blocks.now in
    let n = c.loop-block.block-index + 1 in
    let x = c.take.new.self in
    let listed : Listed x (flat_map (λ x. x.now) (take n blocks)) =
    listed_more c.loop-block.indexer x blocks c.loop-block.block-index _ c.loop-block-test.true t c.loop-block.invariant.1 in
    record {
      cases =
          subst (λ y. Indexes (flat_map (λ x. x.now) blocks) y) (sym c.index.ensures.value)
          (indexed_open x (flat_map (λ x. x.now) (take n blocks)) (flat_map (λ x. x.now) (drop n blocks)) (flat_map (λ x. x.now) blocks) c.in-Some.ending
          (joined_parts (λ x. x.now) blocks n) t.closed listed c.ending.ensures.settles (sym c.ending.ensures.value ∙ c.in-Some.is));
    }

pub returns : goal.returns
returns c =
    let p = c.in_ok-pass_all.ensures.made in
    let blocks = c.args.blocks.now in
    let whole = flat_map (λ x. x.now) blocks in
    let x = c.loop-block.indexer in
    let all : Listed x whole =
    subst (λ l. Listed x (flat_map (λ x. x.now) l)) (take_all c.loop-block.block-index blocks c.loop-block-test.false) c.loop-block.invariant.1 in
    let shut = c.close.ensures.shut in
    let closed : Indexer = record { capture = c.close.new.self; entries = x.entries } in
    record {
      cases =
          subst (λ y. Indexes whole y) (sym c.index-2.ensures.value)
          (indexed_closed c.pass_all.new.self whole c.unwrap_or-ending.result (p.closed ∙ shut.closed) p.done (p.listed whole (listed_shut x closed shut refl whole all))
          c.ending-2.ensures.settles (c.unwrap_or-ending.ensures ∙ ap (λ o. unwrap_or o (Ok tt)) c.ending-2.ensures.value));
    }

pub returns-in_err-take : goal.returns-in_err-take
returns-in_err-take c =
    let p = err_from_is_err_and c.from_residual.result c.from_residual.ensures.1 in
    record {
      cases =
          rw (p.1, p.2)
          (not_indexed c.loop-block.indexer c.args.blocks.now c.loop-block.block-index _ _
          c.loop-block-test.true c.loop-block.invariant.0 c.loop-block.invariant.1 c.in_err-take.ensures.cases);
    }
