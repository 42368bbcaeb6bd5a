-- A charge keeps the terms, and a sound meter sound.
-- Assumes nothing.
use Rattle.std.proofs.Common.{◌≡◌, ℕ, ◌+◌, ◌≤◌, Bool, true, false, cond, leb, Some, None, Ok, Err, Option, Result, sym, refl, subst}
use Rattle.std.proofs.lemmas.Bool.{and_parts, leb-true}
use Rattle.meter.specs.declared.measures.Colour.{Colour}
use Rattle.meter.specs.declared.measures.Colour.TheVariants.{Green, Yellow}
use Rattle.meter.specs.declared.measures.Refusal.{Refusal}
use Rattle.meter.specs.declared.measures.Bucket.{Bucket}
use Rattle.meter.specs.declared.measures.State.{State}
use Rattle.meter.specs.Rules.{cost, unless, filled, fitting, counted, charged, terms_of, level, green_level, green_room, green_filled, limit_of, largest_moment, Paired, Sound, SoundBucket, SoundGreen}

passed : {X : Type 0} (b : Bool) (x : Result X Refusal) (e : Refusal) (y : X) → cond b x (Err e) ≡ Ok y → (b ≡ true) × (x ≡ Ok y)
passed true x e y h = (refl, h)
passed false x e y h = (cc, cc)

-- an answer Ok was not refused, and does not go back before the last charge
pub unless_ok : {X : Type 0} (m : State) (n t : ℕ) (x : Result X Refusal) (y : X) → unless m n t x ≡ Ok y → (m.all.last.0 ≤ t) × (x ≡ Ok y)
unless_ok m n t x y h =
    let a : cond (leb t largest_moment) (cond (leb m.all.last.0 t) x (Err Refusal.Backward)) (Err Refusal.BadMoment) ≡ Ok y = (passed _ _ _ _ h).1 in
    let b : cond (leb m.all.last.0 t) x (Err Refusal.Backward) ≡ Ok y = (passed _ _ _ _ a).1 in
    let p = passed _ _ _ _ b in
    (leb-true _ _ p.0, p.1)

-- a charge that was made fitted, and was counted
pub charged_fits : (m next : State) (n t : ℕ) (k : Colour) → charged m n t k ≡ Ok next → (fitting m n t k ≡ true) × (counted m t (cost (terms_of m) n) k ≡ next)
charged_fits m next n t k h =
    let f = passed (fitting m n t k) (Ok (counted m t (cost (terms_of m) n) k)) Refusal.Unfit next (unless_ok m n t _ next h).1 in
    let e = f.1 in
    (f.0, cc)

green_limit : (g : Option Bucket) (t c : ℕ) (k : Colour) → limit_of (green_filled g t c k) ≡ limit_of g
green_limit None t c k = refl
green_limit (Some g) t c Green = refl
green_limit (Some g) t c Yellow = refl

filled_sound : (b : Bucket) (t c : ℕ) → SoundBucket b → leb (level b t + c) b.limit.depth.0 ≡ true → SoundBucket (filled b t c)
filled_sound b t c s r = record { leaks = s.leaks; within = leb-true _ _ r }

green_sound : (g : Option Bucket) (t c : ℕ) → SoundGreen g → green_room (limit_of g) (green_level g t) c ≡ true → SoundGreen (green_filled g t c Green)
green_sound None t c s r = tt
green_sound (Some g) t c s r = filled_sound g t c s r

yellow_sound : (g : Option Bucket) (t c : ℕ) → SoundGreen g → SoundGreen (green_filled g t c Yellow)
yellow_sound None t c s = tt
yellow_sound (Some g) t c s = s

module _ (m : State) (n t : ℕ) (s : Sound m) where
  kept_pair : (k : Colour) → Paired m.excess (limit_of (green_filled m.green t (cost (terms_of m) n) k)) m.all.limit.rate
  kept_pair k = subst (λ g. Paired m.excess g m.all.limit.rate) (sym (green_limit m.green t (cost (terms_of m) n) k)) s.paired

  pub counted_sound : (k : Colour) → fitting m n t k ≡ true → Sound (counted m t (cost (terms_of m) n) k)
  counted_sound Green f =
      let p = and_parts _ _ f in
      record { all = filled_sound m.all t (cost (terms_of m) n) s.all p.0; green = green_sound m.green t (cost (terms_of m) n) s.green p.1; paired = kept_pair Green }
  counted_sound Yellow f =
      let p = and_parts _ _ f in
      record { all = filled_sound m.all t (cost (terms_of m) n) s.all p.0; green = yellow_sound m.green t (cost (terms_of m) n) s.green; paired = kept_pair Yellow }

pub counted_terms : (m : State) (t c : ℕ) (k : Colour) → terms_of (counted m t c k) ≡ terms_of m
counted_terms m t c k = let e = green_limit m.green t c k in cc

pub charged_terms : (m next : State) (n t : ℕ) (k : Colour) → charged m n t k ≡ Ok next → terms_of next ≡ terms_of m
charged_terms m next n t k h = let e = counted_terms m t (cost (terms_of m) n) k in let p = charged_fits m next n t k h in let q = p.1 in cc

pub charged_sound : (m next : State) (n t : ℕ) (k : Colour) → Sound m → charged m n t k ≡ Ok next → Sound next
charged_sound m next n t k s h =
    let p = charged_fits m next n t k h in
    subst Sound p.1 (counted_sound m n t s k p.0)
