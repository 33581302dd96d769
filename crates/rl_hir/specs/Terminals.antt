-- Terminals: the blocks and places that they name, and orders.
use Rattle.std.specs.Prelude.{ℕ, Bool, Option, Some, None, List, [], ◌∷◌, ◌++◌, map, codes}
use Rattle.rl_base.specs.declared.ids.BlockId.{BlockId}
use Rattle.rl_base.specs.Operators.{logical_text}
use Rattle.rl_hir.specs.declared.instruction.Place.{Place}
use Rattle.rl_hir.specs.declared.terminal.Case.{Case}
use Rattle.rl_hir.specs.declared.terminal.GotoVariant.{GotoVariant}
use Rattle.rl_hir.specs.declared.terminal.GotoVariant.TheVariants as gotos
use Rattle.rl_hir.specs.declared.terminal.ReturnVariant.{ReturnVariant}
use Rattle.rl_hir.specs.declared.terminal.ReturnVariant.TheVariants as returns
use Rattle.rl_hir.specs.declared.terminal.Terminal.{Terminal}
use Rattle.rl_hir.specs.declared.terminal.TerminalKind.{TerminalKind}
use Rattle.rl_hir.specs.declared.terminal.TerminalKind.TheVariants as kinds

-- A field of a terminal, by what it tells.
pub data Field : Type 0 where
  -- a block to which the terminal may lead
  Leads : (block : BlockId) → Field
  -- the same, if it is there
  MayLead : (block : Option BlockId) → Field
  -- the cases, each with a block to which the terminal may lead
  Chooses : (cases : List Case) → Field
  -- the block behind the construct that the terminal opens
  Follows : (block : BlockId) → Field
  -- another block of the construct
  Names : (block : BlockId) → Field
  -- the same, if it is there
  MayName : (block : Option BlockId) → Field
  -- a place whose value the terminal reads
  Reads : (place : Place) → Field
  -- the place, if any, that takes the value of a throw
  MayBind : (place : Option Place) → Field
  -- a text
  Says : (text : List ℕ) → Field
  -- a flag
  Holds : (flag : Bool) → Field

abbrev pub goto_variant : GotoVariant → List ℕ
goto_variant gotos.Break = codes "break"
goto_variant gotos.Continue = codes "continue"
goto_variant gotos.Try = codes "try"

abbrev pub return_variant : ReturnVariant → List ℕ
return_variant returns.Implicit = codes "implicit"
return_variant returns.Explicit = codes "explicit"
return_variant returns.Void = codes "void"

-- The table of terminals: the fields of each, in the order of its listing.
abbrev pub fields_of : TerminalKind → List Field
fields_of (kinds.Goto block variant) = Leads block ∷ Says (goto_variant variant) ∷ []
fields_of (kinds.If test consequent alternate fallthrough) = Reads test ∷ Leads consequent ∷ Leads alternate ∷ Follows fallthrough ∷ []
fields_of (kinds.Branch test consequent alternate fallthrough) = Reads test ∷ Leads consequent ∷ Leads alternate ∷ Follows fallthrough ∷ []
fields_of (kinds.Switch test cases fallthrough) = Reads test ∷ Chooses cases ∷ Follows fallthrough ∷ []
fields_of (kinds.Logical operator test fallthrough) = Says (logical_text operator) ∷ Leads test ∷ Follows fallthrough ∷ []
fields_of (kinds.Ternary test fallthrough) = Leads test ∷ Follows fallthrough ∷ []
fields_of (kinds.Optional optional test fallthrough) = Holds optional ∷ Leads test ∷ Follows fallthrough ∷ []
fields_of (kinds.Sequence block fallthrough) = Leads block ∷ Follows fallthrough ∷ []
fields_of (kinds.Label block fallthrough) = Leads block ∷ Follows fallthrough ∷ []
fields_of (kinds.Try block binding handler fallthrough) = Leads block ∷ MayBind binding ∷ Names handler ∷ Follows fallthrough ∷ []
fields_of (kinds.While test loop fallthrough) = Leads test ∷ Names loop ∷ Follows fallthrough ∷ []
fields_of (kinds.DoWhile loop test fallthrough) = Leads loop ∷ Names test ∷ Follows fallthrough ∷ []
fields_of (kinds.For init test update loop fallthrough) = Leads init ∷ Names test ∷ MayName update ∷ Names loop ∷ Follows fallthrough ∷ []
fields_of (kinds.ForIn init loop fallthrough) = Leads init ∷ Names loop ∷ Follows fallthrough ∷ []
fields_of (kinds.ForOf init test loop fallthrough) = Leads init ∷ Names test ∷ Names loop ∷ Follows fallthrough ∷ []
fields_of (kinds.MaybeThrow continuation handler) = Leads continuation ∷ MayLead handler ∷ []
fields_of (kinds.Return variant value) = Says (return_variant variant) ∷ Reads value ∷ []
fields_of (kinds.Throw value) = Reads value ∷ []
fields_of kinds.Unreachable = []

abbrev pub terminal_word : TerminalKind → List ℕ
terminal_word (kinds.Goto block variant) = codes "goto"
terminal_word (kinds.If test consequent alternate fallthrough) = codes "if"
terminal_word (kinds.Branch test consequent alternate fallthrough) = codes "branch"
terminal_word (kinds.Switch test cases fallthrough) = codes "switch"
terminal_word (kinds.Logical operator test fallthrough) = codes "logical"
terminal_word (kinds.Ternary test fallthrough) = codes "ternary"
terminal_word (kinds.Optional optional test fallthrough) = codes "optional"
terminal_word (kinds.Sequence block fallthrough) = codes "sequence"
terminal_word (kinds.Label block fallthrough) = codes "label"
terminal_word (kinds.Try block binding handler fallthrough) = codes "try"
terminal_word (kinds.While test loop fallthrough) = codes "while"
terminal_word (kinds.DoWhile loop test fallthrough) = codes "dowhile"
terminal_word (kinds.For init test update loop fallthrough) = codes "for"
terminal_word (kinds.ForIn init loop fallthrough) = codes "forin"
terminal_word (kinds.ForOf init test loop fallthrough) = codes "forof"
terminal_word (kinds.MaybeThrow continuation handler) = codes "maybethrow"
terminal_word (kinds.Return variant value) = codes "return"
terminal_word (kinds.Throw value) = codes "throw"
terminal_word kinds.Unreachable = codes "unreachable"

abbrev pub listed_id : Option BlockId → List BlockId
listed_id None = []
listed_id (Some id) = id ∷ []

-- The blocks to which a terminal with these fields may lead.
abbrev pub leads : List Field → List BlockId
leads [] = []
leads (Leads block ∷ fields) = block ∷ leads fields
leads (MayLead block ∷ fields) = listed_id block ++ leads fields
leads (Chooses cases ∷ fields) = map (λ c. c.block) cases ++ leads fields
leads (_ ∷ fields) = leads fields

-- The block behind the construct that a terminal with these fields opens.
abbrev pub follows : List Field → Option BlockId
follows [] = None
follows (Follows block ∷ fields) = Some block
follows (_ ∷ fields) = follows fields

-- The blocks that a terminal with these fields names.
abbrev pub names : List Field → List BlockId
names [] = []
names (Leads block ∷ fields) = block ∷ names fields
names (MayLead block ∷ fields) = listed_id block ++ names fields
names (Chooses cases ∷ fields) = map (λ c. c.block) cases ++ names fields
names (Follows block ∷ fields) = block ∷ names fields
names (Names block ∷ fields) = block ∷ names fields
names (MayName block ∷ fields) = listed_id block ++ names fields
names (_ ∷ fields) = names fields

-- The blocks to which a terminal may lead, in the order in which the original visits them (`eachTerminalSuccessor`).
abbrev pub successor_ids : Terminal → List BlockId
successor_ids terminal = leads (fields_of terminal.kind)

-- The block that stands behind the construct which a terminal opens, if it opens one (`terminalFallthrough`).
abbrev pub fallthrough : Terminal → Option BlockId
fallthrough terminal = follows (fields_of terminal.kind)

-- The blocks that a terminal names in any field.
abbrev pub named_ids : Terminal → List BlockId
named_ids terminal = names (fields_of terminal.kind)

-- The terminal with another evaluation order.
abbrev pub with_order : ℕ → Terminal → Terminal
with_order order terminal = record terminal { order = record { 0 = order } }

-- The terminal of a block that is never run to its end, with the order and the span of another terminal.
abbrev pub unreachable : Terminal → Terminal
unreachable terminal = record terminal { kind = kinds.Unreachable }
