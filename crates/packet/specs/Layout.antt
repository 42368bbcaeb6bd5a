-- The layout of a frame, and what its headers say.
-- byte, field16, field32: a byte, and numbers of two and four bytes, high byte first, by their place
-- link_length, ipv4: the link header's length, and the kind of packet that is IPv4
-- ether_type, station_of, packet_of: the fields of an Ethernet frame; Linked: its parts are these
-- words_of: bytes as 16-bit words; end_around, ones_sum: the sum of two, and of all, in ones' complement
-- service_at, total_at, protocol_at, checksum_at, source_at, destination_at: the places of an IPv4 header's fields
-- header_length, header_bytes, checksum_of: an IPv4 header, and the checksum that is right for it
-- header_right: is the IPv4 header right, and wholly there?
-- conversation_of, mark_of: the key and the mark of an IPv4 packet; header_fields, header_of: both, where the header is right
-- read_of (by ip_packet): what the headers of a frame say; key_in, key_of (by key_from): the key
-- Assumes nothing.
use Rattle.std.specs.Prelude.{◌≡◌, ℕ, ◌+◌, ◌-◌, ◌*◌, ◌/◌, ◌%◌, ◌≤◌, Bool, cond, ◌&&◌, List, [], ◌∷◌, ◌++◌, length, take, drop, Ok, Err, Result, ◌==◌, nat_le, nat_lt, slice_index}
use Rattle.packet.specs.declared.kinds.Refusal.{Refusal}
use Rattle.packet.specs.declared.kinds.Refusal.TheVariants.{ShortFrame, BadHeader}
use Rattle.packet.specs.declared.kinds.Address.{Address}
use Rattle.packet.specs.declared.kinds.Conversation.{Conversation}
use Rattle.packet.specs.declared.kinds.Station.{Station}
use Rattle.packet.specs.declared.kinds.Header.{Header}
use Rattle.packet.specs.declared.kinds.Packet.{Packet}
use Rattle.packet.specs.declared.kinds.Packet.TheVariants.{Ipv4, Other}
use Rattle.packet.specs.declared.kinds.Key.{Key}
use Rattle.packet.specs.declared.kinds.Key.TheVariants as key

-- past the end a byte counts as 0
abbrev pub byte : List ℕ → ℕ → ℕ
byte xs i = slice_index xs i

abbrev pub field16 : List ℕ → ℕ → ℕ
field16 xs i = byte xs i * 256 + byte xs (i + 1)

abbrev pub field32 : List ℕ → ℕ → ℕ
field32 xs i = field16 xs i * 65536 + field16 xs (i + 2)

-- 6 bytes of destination, 6 of source and 2 of kind
abbrev pub link_length : ℕ
link_length = 14

abbrev pub ipv4 : ℕ
ipv4 = 2048

abbrev pub ether_type : List ℕ → ℕ
ether_type f = field16 f 12

abbrev pub station_of : List ℕ → Station
station_of f = record { source = take 6 (drop 6 f) }

-- what follows the link header
abbrev pub packet_of : List ℕ → List ℕ
packet_of f = drop link_length f

-- the parts of a frame f whose link header is there
pub record Linked (f packet source : List ℕ) (kind : ℕ) : Type 0 where
  pub long : link_length ≤ length f
  pub packet_is : packet ≡ packet_of f
  pub source_is : source ≡ (station_of f).source
  pub kind_is : kind ≡ ether_type f

-- a byte left over is no word
abbrev pub words_of : List ℕ → List ℕ
words_of [] = []
words_of (a ∷ []) = []
words_of (a ∷ (b ∷ rest)) = (a * 256 + b) ∷ words_of rest

-- the carry out of the sixteen bits is added back in at the low end
abbrev pub end_around : ℕ → ℕ → ℕ
end_around a b = (a + b) % 65536 + (a + b) / 65536

abbrev pub ones_sum : List ℕ → ℕ
ones_sum [] = 0
ones_sum (w ∷ ws) = end_around w (ones_sum ws)

abbrev pub service_at : ℕ
service_at = 1

abbrev pub total_at : ℕ
total_at = 2

abbrev pub protocol_at : ℕ
protocol_at = 9

abbrev pub checksum_at : ℕ
checksum_at = 10

abbrev pub source_at : ℕ
source_at = 12

abbrev pub destination_at : ℕ
destination_at = 16

-- the low half of byte 0 counts words of four bytes
abbrev pub header_length : List ℕ → ℕ
header_length p = 4 * (byte p 0 % 16)

abbrev pub header_bytes : List ℕ → List ℕ
header_bytes p = take (header_length p) p

-- the complement of the sum of the words before the checksum and after it
abbrev pub checksum_of : List ℕ → ℕ
checksum_of h = 65535 - ones_sum (words_of (take checksum_at h) ++ words_of (drop (checksum_at + 2) h))

-- version 4, at least five words, all of them there, a total length not below them, and the checksum
abbrev pub header_right : List ℕ → Bool
header_right p =
    (byte p 0 / 16 == 4) && (nat_le 5 (byte p 0 % 16) && (nat_le (header_length p) (length p) && (nat_le (header_length p) (field16 p total_at) && field16 p checksum_at == checksum_of (header_bytes p))))

abbrev pub address : ℕ → Address
address n = record { 0 = n }

abbrev pub conversation_of : List ℕ → Conversation
conversation_of p =
    record { source = address (field32 p source_at); destination = address (field32 p destination_at); protocol = byte p protocol_at }

-- the six high bits of the type of service
abbrev pub mark_of : List ℕ → ℕ
mark_of p = byte p service_at / 4

abbrev pub header_fields : List ℕ → Header
header_fields p = record { key = conversation_of p; mark = mark_of p }

abbrev pub header_of : List ℕ → Result Header Refusal
header_of p = cond (header_right p) (Ok (header_fields p)) (Err BadHeader)

abbrev pub ip_packet : Result Header Refusal → Result Packet Refusal
ip_packet (Ok h) = Ok (Ipv4 h)
ip_packet (Err e) = Err e

abbrev pub read_of : List ℕ → Result Packet Refusal
read_of f =
    cond (nat_lt (length f) link_length) (Err ShortFrame)
    (cond (ether_type f == ipv4) (ip_packet (header_of (packet_of f))) (Ok (Other (station_of f))))

abbrev pub key_in : Packet → Key
key_in (Ipv4 h) = key.Conversation h.key
key_in (Other s) = key.Station s

abbrev pub key_from : Result Packet Refusal → Result Key Refusal
key_from (Ok p) = Ok (key_in p)
key_from (Err e) = Err e

abbrev pub key_of : List ℕ → Result Key Refusal
key_of f = key_from (read_of f)
