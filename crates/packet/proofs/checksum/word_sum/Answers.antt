-- The chunks of two bytes are the words, at most thirty of them.
use Rattle.std.proofs.Common.{◌≡◌, ◌<◌, ◌/◌, length, map, sum, rules, tests, sym, ap, ◌∙◌, arith}
use Rattle.std.specs.Simd.{first_chunks}
use Rattle.std.proofs.lemmas.Iterator.{YieldsList-from_slice, YieldsList-from_map}
use Rattle.std.proofs.lemmas.Iterator.Consumers.{sum_from_yields_List, fits_from_yields_list}
use Rattle.std.proofs.lemmas.List.Elements.{All-from_get_or}
use Rattle.packet.specs.Layout.{field16, words_of}
use Rattle.packet.proofs.Words.{words_chunks, sum_words_le}
use Rattle.packet.proofs.checksum.word_sum.Goals as goal

pub sum-requires-clause-fits : goal.sum-requires-clause-fits
sum-requires-clause-fits c =
    let xs = c.args.bytes.now in
    let le = sum_words_le xs (All-from_get_or (λ x. x < 256) xs 0 (λ i lt. omega (arith, c.type_inv.bytes i))) in
    let all : sum (map (λ w. field16 w 0) (first_chunks 2 (length xs / 2) xs)) ≡ sum (words_of xs) = ap sum (sym (words_chunks xs)) in
    fits_from_yields_list c.map.result _ (YieldsList-from_map _ (λ w. field16 w 0) (YieldsList-from_slice (first_chunks 2 (length xs / 2) xs) (search rules)) c.map.ensures.closure (λ x r q k. search (rules, tests))) (omega (arith, le, all, c.requires))

pub returns : goal.returns
returns c =
    let xs = c.args.bytes.now in
    let le = sum_words_le xs (All-from_get_or (λ x. x < 256) xs 0 (λ i lt. omega (arith, c.type_inv.bytes i))) in
    let is : c.sum.result ≡ sum (words_of xs) =
    sum_from_yields_List c.map.result c.sum.result c.sum.ensures.ran (YieldsList-from_map _ (λ w. field16 w 0) (YieldsList-from_slice (first_chunks 2 (length xs / 2) xs) (search rules)) c.map.ensures.closure (λ x r q k. search (rules, tests))) ∙ ap sum (sym (words_chunks xs)) in
    record { value = is; bound = omega (arith, is, le, c.requires) }
