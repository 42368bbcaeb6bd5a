use Rattle.policy_words.proofs.Readings.{number_word}
use Rattle.policy_words.proofs.Octets.{prefix_word}
use Rattle.policy_words.proofs.Hexes.{station_word}
use Rattle.policy_words.proofs.Chosen.{protocol_word, class_word, mode_word}
use Rattle.policy_words.proofs.laws.words_have_one_text.Goals as goal

pub returns : goal.returns
returns c =
    record { number = number_word; prefix = prefix_word; station = station_word; protocol = protocol_word; class = class_word; mode = mode_word }
