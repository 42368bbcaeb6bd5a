-- The library finds the first.
use Rattle.std.proofs.Common.{◌≡◌, map, rules, tests, sym, ◌∙◌}
use Rattle.std.proofs.lemmas.Iterator.{YieldsList-from_slice}
use Rattle.std.proofs.lemmas.Iterator.Search.{position_from_yields_List}
use Rattle.policy.specs.declared.rules.Rule.{Rule}
use Rattle.policy.specs.Rules.{matches, first_for}
use Rattle.policy.proofs.Firsts.{first_position, first_from}
use Rattle.policy.proofs.matching.first_for.Goals as goal

pub returns : goal.returns
returns g c =
    let rs = c.args.rules.now in
    let k = c.args.key in
    let is : c.position.result ≡ first_for (map (λ (r : Rule g.row.M.Denot). r.selector) rs) k =
    position_from_yields_List (λ (r : Rule g.row.M.Denot). matches r.selector k) _ _ c.position.result c.position.ensures.ran (YieldsList-from_slice rs c.iter.ensures.rest) (λ x b q e. search (rules, tests)) ∙ sym (first_position rs k) in
    record { value = is; first = first_from (map (λ (r : Rule g.row.M.Denot). r.selector) rs) k c.position.result is }
