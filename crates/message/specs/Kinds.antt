-- The types of messages, and the keys that they may have: RULES, Messages, and RULES, Answers.
use Rattle.std.specs.Prelude.{ℕ, Bool, ◌&&◌, List, length, leb}
use Rattle.limits.specs.Limits.{most_key}

abbrev pub put_value : ℕ
put_value = 0

abbrev pub get_value : ℕ
get_value = 1

abbrev pub find_node : ℕ
find_node = 4

abbrev pub ping : ℕ
ping = 5

-- "key of 1 to 128 bytes, else 8"
unfoldable pub key_fits : List ℕ → Bool
key_fits key = leb 1 (length key) && leb (length key) most_key
