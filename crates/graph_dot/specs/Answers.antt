-- Statuses of the program, by what was read and written.
use Rattle.std.specs.Prelude.{◌≡◌, ◌⊎◌, ℕ, List, [], ◌∷◌, ◌++◌, Option, None, IfSome}
use Rattle.std.specs.Io.KnownBytes.{Keeps, Appends}
use Rattle.rl_syntax.specs.Limits.{IsTooLarge}
use Rattle.rl_syntax.specs.Syntax.{Syntax}
use Rattle.rl_ast.specs.Units.{Spells}
use Rattle.rl_base.specs.Pieces.{AppendsPrefix}
use Rattle.rl_hir.specs.declared.function.Lowered.{Lowered}
use Rattle.rl_promises.specs.Headline.{IsLowered}
use Rattle.rl_semantic.specs.Rules.{least_broken}
use Rattle.rl_unit.specs.Answers.{RefusesKnown, WritesKnown}
use Rattle.rl_unit.specs.declared.run.Status.{Status}
use Rattle.rl_unit.specs.declared.run.Status.TheVariants.{Done, Reported, Malformed, TooLarge, ReadFault, WriteFault, OutOfMemory, Usage}

-- The bytes, where they are known, are within the limits and spell a unit that keeps the rules and has a result.
pub record HasResult (bytes : Option (List ℕ)) : Type 0 where
  pub source : Syntax
  pub spelled : IfSome bytes (λ known. Spells known source)
  pub within : IfSome bytes (λ known. IsTooLarge known → ⊥)
  pub rules : least_broken source ≡ None
  pub result : Lowered
  pub is_lowered : IsLowered source result

-- The text ends with a closing brace and a line feed: in DOT, where a drawing is whole.
abbrev pub IsWhole : List ℕ → Type 0
IsWhole text = (body : List ℕ) × (text ≡ body ++ 125 ∷ 10 ∷ [])

-- The bytes have a result, and the text is a whole drawing.
pub record IsDrawing (bytes : Option (List ℕ)) (text : List ℕ) : Type 0 where
  pub has_result : HasResult bytes
  pub whole : IsWhole text

-- The fact that a status states of the bytes that the source had left, and of what the sink held before and holds now.
abbrev pub Explains : Status → Option (List ℕ) → Option (List ℕ) → Option (List ℕ) → Type 0
Explains Done left old new = (text : List ℕ) × IsDrawing left text × Appends old new text
Explains Reported left old new = (text : List ℕ) × WritesKnown left Reported text × Appends old new text
Explains WriteFault left old new = (text : List ℕ) × (IsDrawing left text ⊎ WritesKnown left Reported text) × AppendsPrefix old new text
Explains Malformed left old new = RefusesKnown left Malformed × Keeps old new
Explains TooLarge left old new = RefusesKnown left TooLarge × Keeps old new
Explains ReadFault left old new = Keeps old new
Explains OutOfMemory left old new = Keeps old new
Explains Usage left old new = Keeps old new
