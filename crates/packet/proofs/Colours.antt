-- A code point of the table reads as its own colour.
-- Assumes nothing.
use Rattle.std.proofs.Common.{◌≡◌, ◌<◌, ◌≤◌, Bool, true, false, ◌||◌, eqb, refl, arith}
use Rattle.std.proofs.lemmas.Bool.{eq-eqb, ne_eqb, or_right, or_from}
use Rattle.packet.specs.declared.kinds.Class.{Class}
use Rattle.packet.specs.declared.kinds.Class.TheVariants.{One, Two, Three, Four}
use Rattle.meter.specs.declared.measures.PacketColour.{PacketColour}
use Rattle.meter.specs.declared.measures.PacketColour.TheVariants.{Green, Yellow, Red}
use Rattle.packet.specs.declared.marks.Marks.{Marks}
use Rattle.packet.specs.Kinds.{class_number}
use Rattle.packet.proofs.Tables.{below_at, apart_at}
use Rattle.packet.specs.Marks.{colour_place, place, code, is_mark, colour_of}

class_bounds : (c : Class) → (1 ≤ class_number c) × (class_number c ≤ 4)
class_bounds One = (omega arith, omega arith)
class_bounds Two = (omega arith, omega arith)
class_bounds Three = (omega arith, omega arith)
class_bounds Four = (omega arith, omega arith)

colour_bound : (k : PacketColour) → colour_place k ≤ 2
colour_bound Green = omega arith
colour_bound Yellow = omega arith
colour_bound Red = omega arith

pub place_bound : (c : Class) (k : PacketColour) → place c k < 12
place_bound c k = omega (arith, class_bounds c, colour_bound k)

or_true : (b : Bool) → (b || true) ≡ true
or_true b = or_right b true refl

module _ (m : Marks) where
  pub code_below : (c : Class) (k : PacketColour) → code m c k < 64
  code_below c k = below_at 64 m.codes m.small (place c k) (omega (arith, m.twelve, place_bound c k))

  is_mark_lem : (c : Class) (k : PacketColour) → is_mark m k (code m c k) ≡ true
  is_mark_lem One k = simp (eq-eqb (code m One k) (code m One k) refl)
  is_mark_lem Two k = simp (eq-eqb (code m Two k) (code m Two k) refl, or_true)
  is_mark_lem Three k = simp (eq-eqb (code m Three k) (code m Three k) refl, or_true)
  is_mark_lem Four k = simp (eq-eqb (code m Four k) (code m Four k) refl, or_true)

  apart : (c d : Class) (k j : PacketColour) → (colour_place j ≡ colour_place k → ⊥) → eqb (code m d j) (code m c k) ≡ false
  apart c d k j differ =
      ne_eqb (code m d j) (code m c k) (λ same. differ (omega (arith, colour_bound k, colour_bound j, class_bounds c, class_bounds d, apart_at m.codes m.apart (place d j) (place c k) (omega (arith, m.twelve, place_bound d j)) (omega (arith, m.twelve, place_bound c k)) same)))

  not_mark : (c : Class) (k j : PacketColour) → (colour_place j ≡ colour_place k → ⊥) → is_mark m j (code m c k) ≡ false
  not_mark c k j differ =
      or_from _ _ (apart c One k j differ) (or_from _ _ (apart c Two k j differ) (or_from _ _ (apart c Three k j differ) (apart c Four k j differ)))

  pub colour_of_code : (c : Class) (k : PacketColour) → colour_of m (code m c k) ≡ k
  colour_of_code c Red = rw (is_mark_lem c Red)
  colour_of_code c Yellow = rw (not_mark c Yellow Red (λ e. omega arith), is_mark_lem c Yellow)
  colour_of_code c Green = rw (not_mark c Green Red (λ e. omega arith), not_mark c Green Yellow (λ e. omega arith))
