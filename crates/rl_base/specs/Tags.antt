-- Templates whose tag alone is put in.
use Rattle.std.specs.Prelude.{ℕ, ◌==◌, List, [], ◌∷◌, ◌++◌, if◌then◌else◌}

-- `template` with `tag` in each place of `#`.
abbrev pub tagged : (template tag : List ℕ) → List ℕ
tagged [] tag = []
tagged (byte ∷ rest) tag = (if byte == 35 then tag else byte ∷ []) ++ tagged rest tag
