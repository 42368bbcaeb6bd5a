-- The bytes at hand, as a block comes in.
use Rattle.std.proofs.Common.{◌≡◌, ℕ, ◌+◌, ◌^◌, ◌<◌, false, List, ◌++◌, length, vec_items, vec_len, sym, ◌∙◌, subst, arith}
use Rattle.std.proofs.lemmas.List.{length-drop}
use Rattle.capture.specs.declared.blocks.Blocks.{Blocks}
use Rattle.capture.specs.Reading.{HandedOut}
use Rattle.capture.specs.Feeding.{unread_of, Grown}
use Rattle.capture.proofs.Going.{more_out}

pub unread_long : (b : Blocks) → b.behind + length (unread_of b) ≡ vec_len b.held
unread_long b = omega (arith, length-drop b.behind (vec_items b.held), b.held.ok.0, b.within)

pub unread_fits : (b : Blocks) → b.place + length (unread_of b) < 2 ^ 64
unread_fits b = omega (arith, unread_long b, b.placed)

pub grown : (before after : Blocks) (block : List ℕ) → before.closed ≡ false → before.place + (length (unread_of before) + length block) < 2 ^ 64 →
    after.header ≡ before.header → after.closed ≡ before.closed → after.place ≡ before.place → unread_of after ≡ unread_of before ++ block → Grown before after block
grown before after block opened short known closed place all =
    record {
      before_open = opened;
      short = short;
      header = known;
      closed = closed ∙ opened;
      place = place;
      unread = all;
      fed = λ input rs k.
          subst (λ h. HandedOut h rs after.place (unread_of after) (input ++ block)) (sym known)
          (subst (λ p. HandedOut before.header rs p (unread_of after) (input ++ block)) (sym place)
          (subst (λ u. HandedOut before.header rs before.place u (input ++ block)) (sym all)
          (more_out before.header rs before.place (unread_of before) input block k)));
    }
