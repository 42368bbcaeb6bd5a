use Rattle.std.proofs.Common.{sym}
use Rattle.kinds.specs.Kinds.{any_meaning}
use Rattle.colour.proofs.Purchases.{profile_makes}
use Rattle.colour.proofs.purchase.buy.Goals as goal

pub unwrap-requires : goal.unwrap-requires
unwrap-requires c = profile_makes any_meaning c.new.result c.args.words.now c.in_ok-profile.profile (sym c.in_ok-profile.ensures) c.new.ensures.value
