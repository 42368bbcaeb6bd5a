-- What marking writes: a frame that differs in mark and checksum only, and reads as it should.
-- Assumes nothing.
use Rattle.std.proofs.Common.{◌≡◌, ℕ, ◌+◌, ◌*◌, ◌/◌, ◌%◌, ◌≤◌, Bool, true, false, cond, eqb, ltb, List, length, set, Ok, Err, Result, sym, refl, ap, ◌∙◌, arith}
use Rattle.std.proofs.lemmas.List.{get_or-set_same, get_or-set_other, get_or-drop, length-set, length-drop, drop-set-add}
use Rattle.std.proofs.lemmas.Bool.{ltb-false, le-ltb, eqb-true, eq-eqb, cond_both}
use Rattle.packet.specs.declared.kinds.Refusal.{Refusal}
use Rattle.packet.specs.declared.kinds.Refusal.TheVariants.{ShortFrame, BadHeader}
use Rattle.packet.specs.declared.kinds.Class.{Class}
use Rattle.meter.specs.declared.measures.PacketColour.{PacketColour}
use Rattle.packet.specs.declared.kinds.Header.{Header}
use Rattle.packet.specs.declared.kinds.Packet.{Packet}
use Rattle.packet.specs.declared.kinds.Packet.TheVariants.{Ipv4, Other}
use Rattle.packet.specs.declared.kinds.Key.TheVariants as key
use Rattle.packet.specs.declared.marks.Marks.{Marks}
use Rattle.packet.specs.Layout.{link_length, ipv4, byte, field32, ether_type, station_of, packet_of, header_bytes, checksum_of, header_right, conversation_of, mark_of, header_fields, ip_packet, read_of, key_from, key_of}
use Rattle.packet.specs.Marks.{code, colour_of}
use Rattle.packet.specs.Marking.{mark_place, checksum_place, with_mark, with_field16, marked, out_by, Remarked, Lawful}
use Rattle.packet.specs.Laws.{AllButChecksum}
use Rattle.packet.proofs.Rights.{right_parts, checksum_passes}
use Rattle.packet.proofs.Colours.{colour_of_code}

-- an IPv4 packet whose header is right
pub record Ip (f : List ℕ) : Type 0 where
  pub long : link_length ≤ length f
  pub kind : ether_type f ≡ ipv4
  pub right : header_right (packet_of f) ≡ true

pub read_ip : (f : List ℕ) (h : Header) → read_of f ≡ Ok (Ipv4 h) → Ip f × (h ≡ header_fields (packet_of f))
read_ip f h e = go _ _ _ refl refl refl e
  where
    go : (a b d : Bool) → ltb (length f) link_length ≡ a → eqb (ether_type f) ipv4 ≡ b → header_right (packet_of f) ≡ d →
        cond a (Err ShortFrame) (cond b (ip_packet (cond d (Ok (header_fields (packet_of f))) (Err BadHeader))) (Ok (Other (station_of f)))) ≡ Ok (Ipv4 h) →
        Ip f × (h ≡ header_fields (packet_of f))
    go true b d p q r w = cc
    go false false d p q r w = cc
    go false true false p q r w = cc
    go false true true p q r w = (record { long = ltb-false _ _ p; kind = eqb-true _ _ q; right = r }, cc)

ip_read : (f : List ℕ) → Ip f → read_of f ≡ Ok (Ipv4 (header_fields (packet_of f)))
ip_read f i = simp (le-ltb (length f) link_length i.long, eq-eqb (ether_type f) ipv4 i.kind, i.right)

-- two packets alike but for the mark and the checksum say the same conversation
conversation_same : (p q : List ℕ) → ((i : ℕ) → 12 ≤ i → byte q i ≡ byte p i) → byte q 9 ≡ byte p 9 → conversation_of q ≡ conversation_of p
conversation_same p q same protocol =
    let at : (i : ℕ) → 12 ≤ i → field32 q i ≡ field32 p i =
    λ i le. omega (arith, same i le, same (i + 1) (omega arith), same (i + 2) (omega arith), same (i + 2 + 1) (omega arith)) in
    let source = at 12 (omega arith) in
    let destination = at 16 (omega arith) in
    cc

module _ (f : List ℕ) (x : ℕ) (i : Ip f) where
  abbrev new : ℕ
  new = 4 * x + byte f mark_place % 4

  abbrev g : List ℕ
  g = with_mark f x

  abbrev sum : ℕ
  sum = checksum_of (header_bytes (packet_of g))

  abbrev out : List ℕ
  out = marked f x

  room : 34 ≤ length f
  room = let r = (right_parts (packet_of f) i.right).0 in omega (arith, r.words, r.there, length-drop link_length f)

  g_other : (j : ℕ) → (j ≡ mark_place → ⊥) → byte g j ≡ byte f j
  g_other j n = get_or-set_other f mark_place j new 0 n

  out_other : (j : ℕ) → (j ≡ checksum_place → ⊥) → (j ≡ checksum_place + 1 → ⊥) → byte out j ≡ byte g j
  out_other j n n' =
      get_or-set_other (set g checksum_place (sum / 256)) (checksum_place + 1) j (sum % 256) 0 n' ∙ get_or-set_other g checksum_place j (sum / 256) 0 n

  elsewhere : (j : ℕ) → (j ≡ mark_place → ⊥) → (j ≡ checksum_place → ⊥) → (j ≡ checksum_place + 1 → ⊥) → byte out j ≡ byte f j
  elsewhere j a b d = out_other j b d ∙ g_other j a

  g_long : length g ≡ length f
  g_long = length-set f mark_place new

  out_long : length out ≡ length f
  out_long = length-set (set g checksum_place (sum / 256)) (checksum_place + 1) (sum % 256) ∙ length-set g checksum_place (sum / 256) ∙ g_long

  mark_byte : byte out mark_place ≡ new
  mark_byte = out_other mark_place (λ e. omega arith) (λ e. omega arith) ∙ get_or-set_same f mark_place new 0 (omega (arith, room))

  -- the same, by places of the packet
  in_packet : (j : ℕ) → (j ≡ 1 → ⊥) → (j ≡ 10 → ⊥) → (j ≡ 11 → ⊥) → byte (packet_of out) j ≡ byte (packet_of f) j
  in_packet j a b d =
      get_or-drop link_length out j 0 ∙ elsewhere (link_length + j) (λ e. a (omega arith)) (λ e. b (omega arith)) (λ e. d (omega arith)) ∙ sym (get_or-drop link_length f j 0)

  g_packet : (j : ℕ) → (j ≡ 1 → ⊥) → byte (packet_of g) j ≡ byte (packet_of f) j
  g_packet j a = get_or-drop link_length g j 0 ∙ g_other (link_length + j) (λ e. a (omega arith)) ∙ sym (get_or-drop link_length f j 0)

  out_packet : packet_of out ≡ with_field16 (packet_of g) 10 sum
  out_packet =
      drop-set-add link_length (set g checksum_place (sum / 256)) 11 (sum % 256) ∙ ap (λ l. set l 11 (sum % 256)) (drop-set-add link_length g 10 (sum / 256))

  -- the new mark leaves all but the checksum right
  g_right : AllButChecksum (packet_of g)
  g_right =
      let r = (right_parts (packet_of f) i.right).0 in
      let first = g_packet 0 (λ e. omega arith) in
      let long : length (packet_of g) ≡ length (packet_of f) = omega (arith, length-drop link_length g, length-drop link_length f, g_long) in
      record {
        version = ap (λ b. b / 16) first ∙ r.version;
        words = omega (arith, first, r.words);
        there = omega (arith, first, long, r.there);
        total = omega (arith, first, g_packet 2 (λ e. omega arith), g_packet 3 (λ e. omega arith), r.total);
      }

  out_right : header_right (packet_of out) ≡ true
  out_right = ap header_right out_packet ∙ checksum_passes (packet_of g) g_right

  out_ip : Ip out
  out_ip = record {
    long = omega (arith, out_long, room);
    kind = omega (arith, i.kind, elsewhere 12 (λ e. omega arith) (λ e. omega arith) (λ e. omega arith), elsewhere 13 (λ e. omega arith) (λ e. omega arith) (λ e. omega arith));
    right = out_right;
  }

  out_mark : mark_of (packet_of out) ≡ x
  out_mark = omega (arith, get_or-drop link_length out 1 0, mark_byte)

  out_conversation : conversation_of (packet_of out) ≡ conversation_of (packet_of f)
  out_conversation =
      conversation_same (packet_of f) (packet_of out)
      (λ j le. in_packet j (λ e. omega arith) (λ e. omega arith) (λ e. omega arith))
      (in_packet 9 (λ e. omega arith) (λ e. omega arith) (λ e. omega arith))

module _ (m : Marks) (c : Class) (k : PacketColour) (f : List ℕ) (i : Ip f) where
  reads_as : (out : List ℕ) → Ip out → conversation_of (packet_of out) ≡ conversation_of (packet_of f) → mark_of (packet_of out) ≡ code m c k →
      read_of out ≡ Ok (Ipv4 (record { key = conversation_of (packet_of f); mark = code m c k }))
  reads_as out o e e' = ip_read out o ∙ cc (e, e')

  colour_is : (x : ℕ) → x ≡ code m c k → colour_of m x ≡ k
  colour_is x e = ap (colour_of m) e ∙ colour_of_code m c k

  key_as : (out : List ℕ) → Ip out → conversation_of (packet_of out) ≡ conversation_of (packet_of f) → key_of out ≡ key_of f
  key_as out o e =
      ap key_from (ip_read out o) ∙ ap (λ v. Ok (key.Conversation v)) e ∙ sym (ap key_from (ip_read f i))

  marked_remarked : Remarked m c k f (marked f (code m c k))
  marked_remarked =
      let x = code m c k in
      record {
        long = out_long f x i;
        elsewhere = elsewhere f x i;
        low = omega (arith, mark_byte f x i);
        header = out_right f x i;
        reads = reads_as (marked f x) (out_ip f x i) (out_conversation f x i) (out_mark f x i);
        key = key_as (marked f x) (out_ip f x i) (out_conversation f x i);
        colour = colour_is (mark_of (packet_of (marked f x))) (out_mark f x i);
      }

  same_remarked : mark_of (packet_of f) ≡ code m c k → Remarked m c k f f
  same_remarked e =
      record {
        long = refl;
        elsewhere = λ j a b d. refl;
        low = refl;
        header = i.right;
        reads = reads_as f i refl e;
        key = refl;
        colour = colour_is (mark_of (packet_of f)) e;
      }

-- whatever is written of a frame, the law holds of it
pub out_lawful : (m : Marks) (c : Class) (k : PacketColour) (f : List ℕ) (r : Result Packet Refusal) → read_of f ≡ r → Lawful m c k f (out_by (code m c k) f r) r
out_lawful m c k f (Err e) w = tt
out_lawful m c k f (Ok (Other s)) w = refl
out_lawful m c k f (Ok (Ipv4 h)) w =
    let is = read_ip f h w in
    let mark : h.mark ≡ mark_of (packet_of f) = ap (λ (y : Header). y.mark) is.1 in
    cond_both (eqb h.mark (code m c k)) f (marked f (code m c k)) (Remarked m c k f)
    (λ e. same_remarked m c k f is.0 (sym mark ∙ eqb-true h.mark (code m c k) e))
    (λ e. marked_remarked m c k f is.0)
