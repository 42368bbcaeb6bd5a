-- The bytes of a conversation.
-- four_bytes: a number's bytes, the highest first; conversation_bytes: source, destination, protocol
-- Assumes nothing.
use Rattle.std.specs.Prelude.{ℕ, ◌/◌, ◌%◌, List, [], ◌∷◌, ◌++◌}
use Rattle.packet.specs.declared.kinds.Conversation.{Conversation}

abbrev pub four_bytes : ℕ → List ℕ
four_bytes n = n / 16777216 ∷ n / 65536 % 256 ∷ n / 256 % 256 ∷ n % 256 ∷ []

abbrev pub conversation_bytes : Conversation → List ℕ
conversation_bytes k = four_bytes k.source.0 ++ (four_bytes k.destination.0 ++ (k.protocol ∷ []))
