-- Two keys are alike exactly if they are equal. Assumes nothing.
use Rattle.std.proofs.Common.{◌≡◌, true, Decides, sym, refl, ap}
use Rattle.std.proofs.lemmas.Slice.Eq.{bytes_eq-Decides}
use Rattle.std.proofs.lemmas.Bool.Decides.{same_from_decides, Decides-like}
use Rattle.std.proofs.lemmas.Bool.{and_parts, and_from, eqb-true, eq-eqb}
use Rattle.packet.specs.declared.kinds.Conversation as one
use Rattle.packet.specs.declared.kinds.Station as other
use Rattle.packet.specs.declared.kinds.Key.{Key}
use Rattle.packet.specs.declared.kinds.Key.TheVariants.{Conversation, Station}
use Rattle.history.specs.Histories.{alike}

conversations_alike : (a b : one.Conversation) → Decides (alike (Conversation a) (Conversation b)) (Conversation a ≡ Conversation b)
conversations_alike a b = (
  λ t.
      let p = and_parts _ _ t in
      let q = and_parts _ _ p.1 in
      let s : a.source.0 ≡ b.source.0 = eqb-true _ _ p.0 in
      let d : a.destination.0 ≡ b.destination.0 = eqb-true _ _ q.0 in
      let n : a.protocol ≡ b.protocol = eqb-true _ _ q.1 in
      (λ i. Conversation (record { source = record { 0 = s i }; destination = record { 0 = d i }; protocol = n i })),
  λ e.
      let same : a ≡ b = cc in
      and_from _ _ (eq-eqb _ _ (ap (λ (k : one.Conversation). k.source.0) same)) (and_from _ _ (eq-eqb _ _ (ap (λ (k : one.Conversation). k.destination.0) same)) (eq-eqb _ _ (ap (λ (k : one.Conversation). k.protocol) same))),
)

stations_alike : (a b : other.Station) → Decides (alike (Station a) (Station b)) (Station a ≡ Station b)
stations_alike a b = (
  λ t. let s : a.source ≡ b.source = (bytes_eq-Decides a.source b.source).0 t in (λ i. Station (record { source = s i })),
  λ e. let same : a ≡ b = cc in (bytes_eq-Decides a.source b.source).1 (ap (λ (k : other.Station). k.source) same),
)

pub alike_decides : (a b : Key) → Decides (alike a b) (a ≡ b)
alike_decides (Conversation a) (Conversation b) = conversations_alike a b
alike_decides (Conversation a) (Station b) = (λ t. cc, λ e. cc)
alike_decides (Station a) (Conversation b) = (λ t. cc, λ e. cc)
alike_decides (Station a) (Station b) = stations_alike a b

pub alike_self : (k : Key) → alike k k ≡ true
alike_self k = (alike_decides k k).1 refl

pub alike_sym : (a b : Key) → alike a b ≡ alike b a
alike_sym a b = same_from_decides (alike a b) (alike b a) (alike_decides a b) (Decides-like (alike b a) sym sym (alike_decides b a))
