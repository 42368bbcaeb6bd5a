-- Marking a frame: the copy with its new mark, which bytes are written, and what holds of them.
-- mark_place, checksum_place: where a frame has its mark and, in two bytes, its checksum
-- with_mark, with_field16, with_checksum, marked: a frame with another mark, number, right checksum, mark and checksum
-- chosen: is the frame written as it came, or its marked copy?
-- marking_of (by answered), left_in (by left_by): what marking answers, and what it leaves in the buffer
-- written_of: the bytes that are handed out to be written
-- out_of (by out_by): the bytes that are written of a frame
-- Remarked, Lawful: what holds of them
-- Marking: all that a call of marking promises
-- Assumes nothing.
use Rattle.std.specs.Prelude.{◌≡◌, ℕ, ◌+◌, ◌*◌, ◌/◌, ◌%◌, true, cond, List, ◌++◌, length, take, drop, IfOk, Ok, Err, Result, ◌==◌, ◌≢◌, nat_lt, slice_set}
use Rattle.packet.specs.declared.kinds.Refusal.{Refusal}
use Rattle.packet.specs.declared.kinds.Refusal.TheVariants.{ShortBuffer}
use Rattle.packet.specs.declared.kinds.Class.{Class}
use Rattle.meter.specs.declared.measures.PacketColour.{PacketColour}
use Rattle.packet.specs.declared.kinds.Packet.{Packet}
use Rattle.packet.specs.declared.kinds.Packet.TheVariants.{Ipv4, Other}
use Rattle.packet.specs.declared.kinds.Written.{Written}
use Rattle.packet.specs.declared.kinds.Written.TheVariants.{AsItCame, Marked}
use Rattle.packet.specs.declared.marks.Marks.{Marks}
use Rattle.packet.specs.Layout.{link_length, service_at, checksum_at, byte, packet_of, header_bytes, checksum_of, header_right, mark_of, conversation_of, read_of, key_of}
use Rattle.packet.specs.Marks.{code, colour_of}

abbrev pub mark_place : ℕ
mark_place = link_length + service_at

abbrev pub checksum_place : ℕ
checksum_place = link_length + checksum_at

-- the six high bits are the mark, the two low bits stay
abbrev pub with_mark : List ℕ → ℕ → List ℕ
with_mark f x = slice_set f mark_place (4 * x + byte f mark_place % 4)

abbrev pub with_field16 : List ℕ → ℕ → ℕ → List ℕ
with_field16 f i n = slice_set (slice_set f i (n / 256)) (i + 1) (n % 256)

abbrev pub with_checksum : List ℕ → List ℕ
with_checksum f = with_field16 f checksum_place (checksum_of (header_bytes (packet_of f)))

abbrev pub marked : List ℕ → ℕ → List ℕ
marked f x = with_checksum (with_mark f x)

-- the copy only where the mark differs
abbrev pub chosen : ℕ → Packet → Written
chosen x (Ipv4 h) = cond (h.mark == x) AsItCame Marked
chosen x (Other s) = AsItCame

-- the buffer has to have room for the frame, whether it is copied or not
abbrev pub answered : ℕ → ℕ → ℕ → Result Packet Refusal → Result Written Refusal
answered x size room (Err e) = Err e
answered x size room (Ok p) = cond (nat_lt room size) (Err ShortBuffer) (Ok (chosen x p))

abbrev pub marking_of : Marks → Class → PacketColour → List ℕ → List ℕ → Result Written Refusal
marking_of m c k f b = answered (code m c k) (length f) (length b) (read_of f)

-- the marked copy in front, and past it what was there
abbrev pub left_by : Result Written Refusal → List ℕ → List ℕ → List ℕ
left_by (Err e) copy b = b
left_by (Ok AsItCame) copy b = b
left_by (Ok Marked) copy b = copy ++ drop (length copy) b

abbrev pub left_in : Marks → Class → PacketColour → List ℕ → List ℕ → List ℕ
left_in m c k f b = left_by (marking_of m c k f b) (marked f (code m c k)) b

-- the frame itself, or as many bytes from the front of the buffer
abbrev pub written_of : Written → List ℕ → List ℕ → List ℕ
written_of AsItCame f b = f
written_of Marked f b = take (length f) b

abbrev pub out_by : ℕ → List ℕ → Result Packet Refusal → List ℕ
out_by x f (Err e) = f
out_by x f (Ok (Ipv4 h)) = cond (h.mark == x) f (marked f x)
out_by x f (Ok (Other s)) = f

abbrev pub out_of : Marks → Class → PacketColour → List ℕ → List ℕ
out_of m c k f = out_by (code m c k) f (read_of f)

-- what is written of an IPv4 packet f
pub record Remarked (m : Marks) (c : Class) (k : PacketColour) (f out : List ℕ) : Type 0 where
  -- it differs from the frame in its mark and its checksum only, and the two low bits beside the mark stay
  pub long : length out ≡ length f
  pub elsewhere : (i : ℕ) → (i ≢ mark_place) → (i ≢ checksum_place) → (i ≢ checksum_place + 1) → byte out i ≡ byte f i
  pub low : byte out mark_place % 4 ≡ byte f mark_place % 4
  -- its header is right, and says the same conversation with the mark of the class and colour
  pub header : header_right (packet_of out) ≡ true
  pub reads : read_of out ≡ Ok (Ipv4 (record { key = conversation_of (packet_of f); mark = code m c k }))
  -- it stays in its flow, and the mark reads as the colour
  pub key : key_of out ≡ key_of f
  pub colour : colour_of m (mark_of (packet_of out)) ≡ k

-- a station is written as it came
abbrev pub Lawful : Marks → Class → PacketColour → List ℕ → List ℕ → Result Packet Refusal → Type 0
Lawful m c k f out (Err e) = Unit {0}
Lawful m c k f out (Ok (Ipv4 h)) = Remarked m c k f out
Lawful m c k f out (Ok (Other s)) = out ≡ f

-- what marking answers, leaves in the buffer and has written; b is the buffer before, b' after
pub record Marking (m : Marks) (c : Class) (k : PacketColour) (f b b' : List ℕ) (r : Result Written Refusal) : Type 0 where
  pub value : r ≡ marking_of m c k f b
  pub after : b' ≡ left_in m c k f b
  pub bytes : IfOk r (λ w. written_of w f b' ≡ out_of m c k f)
  pub law : IfOk r (λ _. Lawful m c k f (out_of m c k f) (read_of f))
