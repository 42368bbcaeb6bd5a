-- The conditions of a right header, one by one.
-- Assumes nothing.
use Rattle.std.proofs.Common.{◌≡◌, ℕ, ◌+◌, ◌-◌, ◌*◌, ◌/◌, ◌%◌, ◌≤◌, true, eqb, List, ◌++◌, length, take, drop, set, sym, ap, ◌∙◌, arith}
use Rattle.std.proofs.lemmas.List.{get_or-set_same, get_or-set_other, length-set, take-take, take-set-le, drop-take, drop-set-lt}
use Rattle.std.proofs.lemmas.Bool.{eq-eqb, le-leb, eqb-true, leb-true, and_parts}
use Rattle.packet.specs.Layout.{byte, field16, words_of, ones_sum, header_length, header_bytes, checksum_of, header_right}
use Rattle.packet.specs.Marking.{with_field16}
use Rattle.packet.specs.Laws.{AllButChecksum, ChecksumPasses}

-- with all but the checksum right, the checksum decides
pub right_by_checksum : (p : List ℕ) → AllButChecksum p → header_right p ≡ eqb (field16 p 10) (checksum_of (header_bytes p))
right_by_checksum p r =
    simp (eq-eqb _ _ r.version, le-leb _ _ r.words, le-leb _ _ r.there, le-leb _ _ r.total)

pub right_parts : (p : List ℕ) → header_right p ≡ true → AllButChecksum p × (field16 p 10 ≡ checksum_of (header_bytes p))
right_parts p e =
    let a = and_parts _ _ e in
    let b = and_parts _ _ a.1 in
    let c = and_parts _ _ b.1 in
    let d = and_parts _ _ c.1 in (
      record {
        version = eqb-true _ _ a.0;
        words = leb-true _ _ b.0;
        there = leb-true _ _ c.0;
        total = leb-true _ _ d.0;
      },
      eqb-true _ _ d.1,
    )

-- a checksum is taken over the other words only
checksum_of_others : (q : List ℕ) (n a b : ℕ) → 12 ≤ n → checksum_of (take n (set (set q 10 a) 11 b)) ≡ checksum_of (take n q)
checksum_of_others q n a b h =
    let r = set (set q 10 a) 11 b in
    let m = n - 12 in
    let split : n ≡ 12 + m = omega arith in
    let front : take 10 (take n r) ≡ take 10 (take n q) =
    take-take 10 n r (omega arith) ∙ take-set-le 10 (set q 10 a) 11 b (omega arith) ∙ take-set-le 10 q 10 a (omega arith) ∙ sym (take-take 10 n q (omega arith)) in
    let past : (xs : List ℕ) → drop 12 (take n xs) ≡ take m (drop 12 xs) = λ xs. ap (λ k. drop 12 (take k xs)) split ∙ drop-take 12 m xs in
    let back : drop 12 (take n r) ≡ drop 12 (take n q) =
    past r ∙ ap (take m) (drop-set-lt 12 (set q 10 a) 11 b (omega arith) ∙ drop-set-lt 12 q 10 a (omega arith)) ∙ sym (past q) in
    ap (λ xs. 65535 - ones_sum (words_of xs ++ words_of (drop 12 (take n r)))) front ∙ ap (λ xs. 65535 - ones_sum (words_of (take 10 (take n q)) ++ words_of xs)) back

pub checksum_passes : ChecksumPasses
checksum_passes p r =
    let s = checksum_of (header_bytes p) in
    let p' = with_field16 p 10 s in
    let other : (i : ℕ) → (i ≡ 10 → ⊥) → (i ≡ 11 → ⊥) → byte p' i ≡ byte p i =
    λ i x y. get_or-set_other (set p 10 (s / 256)) 11 i (s % 256) 0 y ∙ get_or-set_other p 10 i (s / 256) 0 x in
    let first : byte p' 0 ≡ byte p 0 = other 0 (λ e. omega arith) (λ e. omega arith) in
    let size : header_length p' ≡ header_length p = ap (λ b. 4 * (b % 16)) first in
    let long : length p' ≡ length p = length-set (set p 10 (s / 256)) 11 (s % 256) ∙ length-set p 10 (s / 256) in
    let room : 20 ≤ length p = omega (arith, r.words, r.there) in
    let high : byte p' 10 ≡ s / 256 =
    get_or-set_other (set p 10 (s / 256)) 11 10 (s % 256) 0 (λ e. omega arith) ∙ get_or-set_same p 10 (s / 256) 0 (omega arith) in
    let low : byte p' 11 ≡ s % 256 =
    get_or-set_same (set p 10 (s / 256)) 11 (s % 256) 0 (omega (arith, length-set p 10 (s / 256))) in
    let same : checksum_of (header_bytes p') ≡ s =
    ap (λ n. checksum_of (take n p')) size ∙ checksum_of_others p (header_length p) (s / 256) (s % 256) (omega (arith, r.words)) in
    let rest : AllButChecksum p' = record {
      version = ap (λ b. b / 16) first ∙ r.version;
      words = omega (arith, first, r.words);
      there = omega (arith, size, long, r.there);
      total = omega (arith, size, other 2 (λ e. omega arith) (λ e. omega arith), other 3 (λ e. omega arith) (λ e. omega arith), r.total);
    } in
    right_by_checksum p' rest ∙ eq-eqb _ _ (omega (arith, high, low, same))
