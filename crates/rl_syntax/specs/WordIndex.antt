-- The index of a word in the table of words.
use Rattle.std.specs.Prelude.{ℕ, ◌+◌, ◌-◌, ◌*◌, ◌/◌, ◌%◌, List, length, get_or}
use Rattle.rl_syntax.specs.declared.word.TheConstants.{ENTRIES, LAST, MIDDLE, LENGTH}

-- A hash of a text, different for any two words.
abbrev pub word_index : List ℕ → ℕ
word_index text = (get_or text 0 0 + LAST * get_or text (length text - 1) 0 + MIDDLE * get_or text (length text / 2) 0 + LENGTH * (length text % 32)) % ENTRIES
