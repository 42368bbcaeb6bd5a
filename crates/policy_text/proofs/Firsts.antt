-- The words before the one that is refused are in order. Assumes nothing.
use Rattle.std.proofs.Common.{◌≡◌, ℕ, suc, ◌+◌, ◌-◌, ◌≤◌, List, ◌++◌, length, take, Ok, Err, codes, Result, sym, refl, ap, ◌∙◌, subst, ⊎_elim, arith}
use Rattle.policy_words.specs.declared.causes.Cause.{Cause}
use Rattle.policy_words.specs.Words.{then, lit}
use Rattle.policy_words.proofs.Readings.{lit_back}
use Rattle.policy_text.specs.declared.lines.LineFault.{LineFault}
use Rattle.policy_text.specs.declared.lines.Line.{Line}
use Rattle.policy_text.specs.Places.{placed}
use Rattle.policy_text.specs.Lines.{node_room, rule_room}
use Rattle.policy_text.specs.Policies.{words_of, Begun}
use Rattle.policy_text.specs.Laws.{LineFirst}
use Rattle.policy_text.proofs.Checks.{placed_ok}
use Rattle.policy_text.proofs.Spaces.{spaces, Shared, shared_on, words_in}
use Rattle.policy_text.proofs.Tails.{then_err, placed_err, keyed, Headed, node_headed, ip_headed, mac_headed, line_by}

-- two texts with so many spaces in common have one word more in common
words_shared : (k w : ℕ) (t u : List ℕ) → w ≡ 2 + k → Shared k t u → (w ≤ length (words_of t) + 1) × (take (w - 1) (words_of t) ≡ take (w - 1) (words_of u))
words_shared k w t u at s =
    let ws = words_in s.front s.one s.other s.one_stops s.other_stops in
    let n : w - 1 ≡ suc (spaces s.front) = omega (arith, at, s.count) in
    let enough : suc (spaces s.front) ≤ length (words_of t) = subst (λ l. suc (spaces s.front) ≤ length (words_of l)) (sym s.is_one) ws.1 in (
      omega (arith, at, enough, s.count),
      (λ i. take (n i) (words_of (s.is_one i))) ∙ ws.0 ∙ sym (λ i. take (n i) (words_of (s.is_other i))),
    )

-- a fault in the first word, for want of room, has no word before it
at_one : (ps : List ℕ) (n : ℕ) (t : List ℕ) (f : LineFault) → f.word ≡ 1 → Begun ps n t f.word
at_one ps n t f at more = absurd (omega (arith, at, more))

headed_first : (ps : List ℕ) (n : ℕ) (ks : List ℕ) (room : Result (Unit {0}) Cause) (reads : List ℕ → Result Line LineFault) → spaces ks ≡ 0 → Headed ps n ks room reads → (t u : List ℕ) (f : LineFault) → lit ks t ≡ Ok u → then (placed 1 room) (λ _. reads u) ≡ Err f → Begun ps n t f.word
headed_first ps n ks room reads none head t u f is h =
    ⊎_elim
    (λ (g : placed 1 room ≡ Err f). at_one ps n t f (placed_err 1 room f g))
    (λ (q : (v : Unit {0}) × (placed 1 room ≡ Ok v) × (reads u ≡ Err f)).
    let l = lit_back ks t u is in
    let r = (head q.0 (placed_ok 1 room q.0 q.1)).first u f l.1 q.2 in
    let s = shared_on 0 r.count (λ x. ks ++ x) u r.text (keyed 0 ks none) r.shared in
    let ws = words_shared (0 + r.count) f.word (ks ++ u) (ks ++ r.text) (omega (arith, r.place)) s in
    λ more. (
      r.value,
      r.holds.0,
      subst (λ x. f.word ≤ length (words_of x) + 1) (sym l.0) ws.0,
      ap (λ x. take (f.word - 1) (words_of x)) l.0 ∙ ws.1 ∙ ap (λ x. take (f.word - 1) (words_of x)) r.holds.1,
    ))
    (then_err (placed 1 room) (λ _. reads u) f h)

pub line_first : LineFirst
line_first ps n t f h =
    ⊎_elim
    (λ y. headed_first ps n (codes "node") (node_room ps) _ refl (node_headed ps n) t y.0 f y.1 y.2)
    (λ z.
    ⊎_elim
    (λ y. headed_first ps n (codes "ip") (rule_room n) _ refl (ip_headed ps n) t y.0 f y.1 y.2)
    (λ g.
    ⊎_elim
    (λ i. at_one ps n t f (placed_err 1 (lit (codes "mac") t) f i))
    (λ y. headed_first ps n (codes "mac") (rule_room n) _ refl (mac_headed ps n) t y.0 f (placed_ok 1 (lit (codes "mac") t) y.0 y.1) y.2)
    (then_err (placed 1 (lit (codes "mac") t)) _ f g))
    z)
    (line_by ps n t (Err f) h)
