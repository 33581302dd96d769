-- Statuses of a program that reads a unit and writes a text, each with its cause.
use Rattle.std.specs.Prelude.{◌≡◌, ◌≢◌, ◌⊎◌, ℕ, List, Option, None, Some, IfSome}
use Rattle.std.specs.Io.KnownBytes.{Keeps, Appends}
use Rattle.rl_ast.specs.Units.{Spells}
use Rattle.rl_base.specs.Pieces.{AppendsPrefix}
use Rattle.rl_semantic.specs.Rules.{least_broken}
use Rattle.rl_syntax.specs.Limits.{IsTooLarge}
use Rattle.rl_syntax.specs.Syntax.{Syntax}
use Rattle.rl_unit.specs.Answers.{RefusesKnown}
use Rattle.rl_unit.specs.declared.run.Status.{Status}
use Rattle.rl_unit.specs.declared.run.Status.TheVariants.{Done, Reported, Malformed, TooLarge, ReadFault, WriteFault, OutOfMemory, Usage}

-- The bytes, where they are known, are within the limits and spell the unit.
pub record IsKnown (bytes : Option (List ℕ)) (u : Syntax) : Type 0 where
  pub spelled : IfSome bytes (λ known. Spells known u)
  pub within : IfSome bytes (λ known. IsTooLarge known → ⊥)

-- The text is an output of the status for the unit that was read.
pub record WritesBy (IsOutput : Status → Syntax → List ℕ → Type 0) (left : Option (List ℕ)) (status : Status) (text : List ℕ)
    : Type 0 where
  pub source : Syntax
  pub known : IsKnown left source
  pub is_output : IsOutput status source text

-- The meaning of a status, by the outputs of Done and Reported for a unit: about the bytes `left` that the source had, and the bytes
-- `old` and `new` that the sink held before and after the run.
abbrev pub ExplainsBy : (IsOutput : Status → Syntax → List ℕ → Type 0) → Status
    → Option (List ℕ) → Option (List ℕ) → Option (List ℕ) → Type 0
ExplainsBy IsOutput Done left old new = (text : List ℕ) × WritesBy IsOutput left Done text × Appends old new text
ExplainsBy IsOutput Reported left old new = (text : List ℕ) × WritesBy IsOutput left Reported text × Appends old new text
ExplainsBy IsOutput WriteFault left old new =
    (status : Status) × (text : List ℕ) × WritesBy IsOutput left status text × AppendsPrefix old new text
ExplainsBy IsOutput Malformed left old new = RefusesKnown left Malformed × Keeps old new
ExplainsBy IsOutput TooLarge left old new = RefusesKnown left TooLarge × Keeps old new
ExplainsBy IsOutput ReadFault left old new = Keeps old new
ExplainsBy IsOutput OutOfMemory left old new = Keeps old new
ExplainsBy IsOutput Usage left old new = Keeps old new

-- The status of a unit that was read and has no output: it breaks a rule, or an allocation failed.
abbrev pub RefusesUnit : Syntax → Status → Type 0
RefusesUnit u status = ((status ≡ Malformed) × (least_broken u ≢ None)) ⊎ (status ≡ OutOfMemory)

-- Bytes that were left, are known, are within the limits and spell a unit have a status that fits the unit.
pub record IsCompleteBy (IsAnswer : Syntax → Status → Type 0) (left : Option (List ℕ)) (status : Status) : Type 0 where
  pub answers : (bytes : List ℕ) (u : Syntax) → left ≡ Some bytes → (IsTooLarge bytes → ⊥) → Spells bytes u → IsAnswer u status
