-- The slots of reserved words.
use Rattle.std.specs.Prelude.{ℕ, ◌+◌, ◌-◌, ◌*◌, ◌%◌, Bool, List, [], if◌then◌else◌, nat_lt, bytes_eq, length, get_or}
use Rattle.rl_used_names.specs.declared.reserved.TheConstants.{COUNT, SECOND, LAST, LENGTH}

-- A hash of a text, different for any two reserved words.
abbrev pub slot_of : List ℕ → ℕ
slot_of text =
    if nat_lt (length text) 2 then 0
    else (get_or text 0 0 + SECOND * get_or text 1 0 + LAST * get_or text (length text - 1) 0 + LENGTH * (length text % 32)) % COUNT

-- True if `word` is the one at an index.
abbrev pub is_at : List (List ℕ) → (index : ℕ) → (word : List ℕ) → Bool
is_at words index word = bytes_eq (get_or words index []) word
