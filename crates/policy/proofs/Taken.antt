-- What a check that was passed says of the tree, and of what it answered.
use Rattle.std.proofs.Common.{◌≡◌, ℕ, ◌+◌, ◌<◌, ◌≤◌, Bool, true, false, cond, ltb, leb, List, length, IfOk, Ok, Err, Result, sym, refl, subst}
use Rattle.std.proofs.lemmas.Bool.{leb-true, ltb-true}
use Rattle.policy.specs.declared.rules.Refusal.{Refusal}
use Rattle.policy.specs.declared.rules.Refusal.TheVariants.{UnknownParent, TooDeep, TooManyNodes}
use Rattle.policy.specs.Trees.{most_nodes, most_depth, depth_of}
use Rattle.policy.specs.Policies.{before, room_of, number_of, known_of, under_of, node_of, Placed}

test_passed : (b : Bool) (x q : ℕ) (e : Refusal) → Ok q ≡ cond b (Ok x) (Err e) → (b ≡ true) × (q ≡ x)
test_passed true x q e ok = (refl, (cc))
test_passed false x q e ok = cc

both_passed : (a r : Result ℕ Refusal) (q : ℕ) → Ok q ≡ before a r → (n : ℕ) × (Ok n ≡ a) × (Ok q ≡ r)
both_passed (Ok n) r q ok = (n, refl, ok)
both_passed (Err e) r q ok = cc

pub room_taken : (ps : List ℕ) (q : ℕ) → Ok q ≡ room_of ps → length ps < most_nodes
room_taken ps q ok = ltb-true (length ps) most_nodes (test_passed (ltb (length ps) most_nodes) (length ps + 1) q TooManyNodes ok).0

pub known_taken : (ps : List ℕ) (p q : ℕ) → Ok q ≡ known_of ps p → (p ≤ length ps) × (q ≡ p)
known_taken ps p q ok = let t = test_passed (leb p (length ps)) p q UnknownParent ok in (leb-true p (length ps) t.0, t.1)

node_taken : (ps : List ℕ) (n p q : ℕ) → Ok q ≡ node_of ps n p → Placed ps q
node_taken ps n p q ok =
    let counted = both_passed (room_of ps) (before (number_of ps n) (under_of ps p)) q ok in
    let numbered = both_passed (number_of ps n) (under_of ps p) q counted.2 in
    let under = both_passed (known_of ps p) (cond (ltb (depth_of ps p) most_depth) (Ok p) (Err TooDeep)) q numbered.2 in
    let deep = test_passed (ltb (depth_of ps p) most_depth) p q TooDeep under.2 in
    let up : Placed ps p = record {
      room = room_taken ps counted.0 counted.1;
      known = (known_taken ps p under.0 under.1).0;
      depth = ltb-true (depth_of ps p) most_depth deep.0;
    } in
    subst (Placed ps) (sym deep.1) up

pub made_placed : (ps : List ℕ) (n p : ℕ) (r : Result ℕ Refusal) → r ≡ node_of ps n p → IfOk r (Placed ps)
made_placed ps n p (Ok q) is = node_taken ps n p q is
made_placed ps n p (Err e) is = tt
