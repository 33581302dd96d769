-- Templates of messages and help texts: `%` stands for the word of a diagnostic, `#` for its tag.
use Rattle.std.specs.Prelude.{ℕ, ◌==◌, List, [], ◌∷◌, ◌++◌, if◌then◌else◌}
use Rattle.std.specs.List.{before_first}

-- The part of `word` before its first colon; all of it where there is none.
abbrev pub tag_of : (word : List ℕ) → List ℕ
tag_of word = before_first (λ byte. byte == 58) word

-- `template` with `word` in each place of `%`, and its tag in each place of `#`.
abbrev pub filled : (template word : List ℕ) → List ℕ
filled [] word = []
filled (byte ∷ rest) word =
    (if byte == 37 then word else (if byte == 35 then tag_of word else byte ∷ [])) ++ filled rest word
