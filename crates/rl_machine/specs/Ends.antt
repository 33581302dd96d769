-- The effects of terminals: a table over all kinds, and the notes that they leave at blocks.
use Rattle.std.specs.Prelude.{ℕ, nat_eq, Bool, true, false, if◌then◌else◌, Option, Some, None, List, [], ◌∷◌}
use Rattle.std.specs.Option.{option_map}
use Rattle.rl_base.specs.declared.ids.BlockId.{BlockId}
use Rattle.rl_base.specs.declared.operator.LogicalOperator.{LogicalOperator}
use Rattle.rl_base.specs.declared.operator.LogicalOperator.TheVariants as logical
use Rattle.rl_hir.specs.declared.instruction.Place.{Place}
use Rattle.rl_hir.specs.declared.terminal.Case.{Case}
use Rattle.rl_hir.specs.declared.terminal.ReturnVariant.{ReturnVariant}
use Rattle.rl_hir.specs.declared.terminal.TerminalKind.{TerminalKind}
use Rattle.rl_hir.specs.declared.terminal.TerminalKind.TheVariants as kinds

-- A note at a block: the construct that was last run of those that name the block as their fallthrough, test, init or handler.
pub data Note : Type 0 where
  -- a logical expression
  Connects : (operator : LogicalOperator) → Note
  -- a conditional expression
  Chooses : Note
  -- a link of an optional chain
  Chains : (optional : Bool) → Note
  -- a `for`, `while` or `do`-`while` loop
  Loops : (fallthrough : BlockId) → Note
  -- a `for`-`in` loop
  Enumerates : (fallthrough : BlockId) → Note
  -- a `for`-`of` loop; `opened` is true if the block has asked for its iterator since
  Iterates : (fallthrough : BlockId) (opened : Bool) → Note
  -- a `try`; `binding` takes the value of a throw
  Catches : (binding : Option ℕ) → Note
  -- any other construct
  Passes : Note

-- The notes by block id.
abbrev pub Notes : Type 0
Notes = ℕ → Option Note

abbrev pub no_notes : Notes
no_notes id = None

abbrev pub noted : Notes → BlockId → Note → Notes
noted notes block note = λ id. if nat_eq id block.0 then Some note else notes id

-- The effect of a terminal.
pub data Leaving : Type 0 where
  -- Notes itself at the blocks, and goes on in `block`.
  Goes : (block : BlockId) (marks : List (BlockId × Note)) → Leaving
  -- Tests a value, and notes an `if` at `fallthrough`.
  Tests : (test : ℕ) (consequent alternate fallthrough : BlockId) → Leaving
  -- Goes to one of two blocks, by the note at `fallthrough`.
  Reads : (test : ℕ) (consequent alternate fallthrough : BlockId) → Leaving
  -- Compares a value with those of the cases, and notes a `switch` at `fallthrough`.
  Compares : (value : ℕ) (cases : List Case) (fallthrough : BlockId) → Leaving
  Returns : (variant : ReturnVariant) (value : ℕ) → Leaving
  Throws : (value : ℕ) → Leaving
  -- Is never run.
  Stops : Leaving

-- The identifier of a place, if there is one.
abbrev pub bound : Option Place → Option ℕ
bound place = option_map (λ p. p.identifier.0) place

-- The table of effects.
abbrev pub leaving : TerminalKind → Leaving
leaving (kinds.Goto b variant) = Goes b []
leaving (kinds.If test c a f) = Tests test.identifier.0 c a f
leaving (kinds.Branch test c a f) = Reads test.identifier.0 c a f
leaving (kinds.Switch test cases f) = Compares test.identifier.0 cases f
leaving (kinds.Logical operator t f) = Goes t ((t, Connects operator) ∷ (f, Connects operator) ∷ [])
leaving (kinds.Ternary t f) = Goes t ((t, Chooses) ∷ (f, Chooses) ∷ [])
leaving (kinds.Optional flag t f) = Goes t ((t, Chains flag) ∷ (f, Chains flag) ∷ [])
leaving (kinds.Sequence b f) = Goes b ((f, Passes) ∷ [])
leaving (kinds.Label b f) = Goes b ((f, Passes) ∷ [])
leaving (kinds.Try b binding h f) = Goes b ((h, Catches (bound binding)) ∷ (f, Catches (bound binding)) ∷ [])
leaving (kinds.While t b f) = Goes t ((t, Loops f) ∷ (f, Loops f) ∷ [])
leaving (kinds.DoWhile b t f) = Goes b ((t, Loops f) ∷ (f, Loops f) ∷ [])
leaving (kinds.For i t update b f) = Goes i ((i, Loops f) ∷ (t, Loops f) ∷ (f, Loops f) ∷ [])
leaving (kinds.ForIn i b f) = Goes i ((i, Enumerates f) ∷ (f, Enumerates f) ∷ [])
leaving (kinds.ForOf i t b f) = Goes i ((i, Iterates f false) ∷ (t, Iterates f false) ∷ (f, Iterates f false) ∷ [])
leaving (kinds.MaybeThrow b h) = Goes b []
leaving (kinds.Return variant p) = Returns variant p.identifier.0
leaving (kinds.Throw p) = Throws p.identifier.0
leaving kinds.Unreachable = Stops

-- The handler of the terminal, if it has one.
abbrev pub catcher_of : TerminalKind → Option ℕ
catcher_of (kinds.MaybeThrow b h) = option_map (λ id. id.0) h
catcher_of _ = None

-- Applies notes in order.
abbrev pub all_noted : List (BlockId × Note) → Notes → Notes
all_noted [] notes = notes
all_noted (m ∷ marks) notes = all_noted marks (noted notes m.0 m.1)

-- The choice of a branch at whose fallthrough the note stands.
pub data Choice : Type 0 where
  -- a test of truth: a yes goes to the consequent if the flag is true, else to the alternate
  Truthy : (consequent : Bool) → Choice
  -- a test for null and undefined: a yes goes to the alternate
  Nullish : Choice
  -- the consequent, without a test
  Straight : Choice
  -- none: a branch does not read such a note
  Nowhere : Choice

abbrev pub choice : Note → Choice
choice (Connects logical.And) = Truthy false
choice (Connects logical.Or) = Truthy true
choice (Connects logical.Coalesce) = Nullish
choice Chooses = Truthy true
choice (Chains true) = Nullish
choice (Chains false) = Straight
choice (Loops fallthrough) = Truthy true
choice (Enumerates fallthrough) = Straight
choice (Iterates fallthrough opened) = Straight
choice (Catches binding) = Nowhere
choice Passes = Nowhere

-- The block behind the loop that is noted.
abbrev pub exit_of : Note → Option BlockId
exit_of (Loops fallthrough) = Some fallthrough
exit_of (Enumerates fallthrough) = Some fallthrough
exit_of (Iterates fallthrough opened) = Some fallthrough
exit_of _ = None
