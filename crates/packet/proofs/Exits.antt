-- Each way out of marking.
-- Assumes nothing.
use Rattle.std.proofs.Common.{◌≡◌, ℕ, ◌≤◌, Bool, true, false, cond, eqb, ltb, List, ◌++◌, length, drop, IfOk, Ok, Err, Result, sym, refl, ap, ◌∙◌, subst}
use Rattle.std.proofs.lemmas.List.{length-set, take_at}
use Rattle.std.proofs.lemmas.Bool.{le-ltb}
use Rattle.packet.specs.declared.kinds.Refusal.{Refusal}
use Rattle.packet.specs.declared.kinds.Refusal.TheVariants.{ShortBuffer}
use Rattle.packet.specs.declared.kinds.Class.{Class}
use Rattle.meter.specs.declared.measures.PacketColour.{PacketColour}
use Rattle.packet.specs.declared.kinds.Packet.{Packet}
use Rattle.packet.specs.declared.kinds.Packet.TheVariants.{Ipv4, Other}
use Rattle.packet.specs.declared.kinds.Written.{Written}
use Rattle.packet.specs.declared.kinds.Written.TheVariants.{AsItCame, Marked}
use Rattle.packet.specs.declared.marks.Marks.{Marks}
use Rattle.packet.specs.Layout.{packet_of, header_right, read_of}
use Rattle.packet.specs.Marks.{code}
use Rattle.packet.specs.Marking.{marked, chosen, answered, marking_of, left_by, left_in, written_of, out_by, out_of, Marking}
use Rattle.packet.proofs.Remarks.{read_ip, out_lawful}

pub length_marked : (f : List ℕ) (x : ℕ) → length (marked f x) ≡ length f
length_marked f x = simp length-set

-- the bytes handed out are those that are to be written
out_bytes : (x : ℕ) (f b : List ℕ) (r : Result Packet Refusal) →
    IfOk (answered x (length f) (length b) r) (λ w. written_of w f (left_by (answered x (length f) (length b) r) (marked f x) b) ≡ out_by x f r)
out_bytes x f b (Err e) = tt
out_bytes x f b (Ok p) = short (ltb (length b) (length f)) p
  where
    same : (t : Bool) → IfOk {E = Refusal} (Ok (cond t AsItCame Marked)) (λ w. written_of w f (left_by (Ok (cond t AsItCame Marked)) (marked f x) b) ≡ cond t f (marked f x))
    same true = refl
    same false = take_at (marked f x) (drop (length (marked f x)) b) (length f) (length_marked f x)

    short : (t : Bool) (p : Packet) →
        IfOk (cond t (Err ShortBuffer) (Ok (chosen x p))) (λ w. written_of w f (left_by (cond t (Err ShortBuffer) (Ok (chosen x p))) (marked f x) b) ≡ out_by x f (Ok p))
    short true p = tt
    short false (Other s) = refl
    short false (Ipv4 h) = same (eqb h.mark x)

made_any : {X Y : Type 0} (r : Result X Y) (P : Type 0) → P → IfOk r (λ _. P)
made_any (Ok x) P p = p
made_any (Err y) P p = tt

module _ (m : Marks) (c : Class) (k : PacketColour) (f b : List ℕ) where
  pub done : (b' : List ℕ) (r : Result Written Refusal) → r ≡ marking_of m c k f b → b' ≡ left_in m c k f b → Marking m c k f b b' r
  done b' r e e' =
      record {
        value = e;
        after = e';
        bytes = subst (λ r. IfOk r (λ w. written_of w f b' ≡ out_of m c k f)) (sym e)
            (subst (λ b'. IfOk (marking_of m c k f b) (λ w. written_of w f b' ≡ out_of m c k f)) (sym e') (out_bytes (code m c k) f b (read_of f)));
        law = made_any r _ (out_lawful m c k f (read_of f) refl);
      }

  pub as_it_came : (p : Packet) → Ok p ≡ read_of f → length f ≤ length b → AsItCame ≡ chosen (code m c k) p → Marking m c k f b b (Ok AsItCame)
  as_it_came p w le e =
      let t = le-ltb (length b) (length f) le in
      done b (Ok AsItCame) (rw (sym w, t) (ap Ok e)) (rw (sym w, t) (ap (λ v. left_by (Ok v) (marked f (code m c k)) b) e))

  pub copied : (p : Packet) → Ok p ≡ read_of f → length f ≤ length b → Marked ≡ chosen (code m c k) p →
      Marking m c k f b (marked f (code m c k) ++ drop (length f) b) (Ok Marked)
  copied p w le e =
      let t = le-ltb (length b) (length f) le in
      let copy = marked f (code m c k) in
      done _ (Ok Marked) (rw (sym w, t) (ap Ok e))
      (rw (sym w, t) (ap (λ l. copy ++ drop l b) (sym (length_marked f (code m c k))) ∙ ap (λ v. left_by (Ok v) copy b) e))

-- what is copied is an IPv4 packet
pub marked_right : (f : List ℕ) (x : ℕ) (p : Packet) → Ok p ≡ read_of f → Marked ≡ chosen x p → header_right (packet_of f) ≡ true
marked_right f x (Ipv4 h) w e = (read_ip f h (sym w)).0.right
marked_right f x (Other s) w e = cc
