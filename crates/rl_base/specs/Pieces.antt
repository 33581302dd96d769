-- Bytes that are written in parts.
use Rattle.std.specs.Prelude.{ℕ, List, take}
use Rattle.std.specs.declared.option.Option.{Option}
use Rattle.std.specs.Io.KnownBytes.{Appends}

-- From `old` to `new` a prefix of `bytes` was appended. Bytes that are not told stay so.
abbrev pub AppendsPrefix : Option (List ℕ) → Option (List ℕ) → List ℕ → Type 0
AppendsPrefix old new bytes = (count : ℕ) × Appends old new (take count bytes)
