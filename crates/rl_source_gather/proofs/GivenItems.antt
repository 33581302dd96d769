-- Attributes and children that give their values to an element.
use Rattle.std.proofs.Common.{◌≡◌, ◌++◌, List, [], ◌∷◌, ap, sym, append_assoc, ◌∙◌}
use Rattle.rl_machine.specs.declared.trace.Value.{Value}
use Rattle.rl_model.specs.Actions.{Action, ◌>>=◌}
use Rattle.rl_model.specs.Expressions.{eval, values, values_of}
use Rattle.rl_model.specs.Scene.{Scene}
use Rattle.rl_source_stack.specs.Controls.{from}
use Rattle.rl_source_stack.specs.Parts.{gathered, gathering}
use Rattle.rl_source_stack.specs.States.{State}
use Rattle.rl_source_stack.specs.declared.gather.Gather.{Gather}
use Rattle.rl_source_gather.specs.Items.{item_values}
use Rattle.rl_source_gather.specs.declared.jsx_item.Item.{Item}
use Rattle.rl_source_gather.specs.declared.jsx_item.Item.TheVariants as items
use Rattle.rl_syntax.specs.Syntax.{Syntax, Pieces, Then}

-- A construct that gets the values of a part, and then those of the parts behind it.
abbrev pub part_then : Scene → Gather → Action (List Value) → Pieces → (given : List Value) → Action Value
part_then scene what part rest given = do
  vs ← part
  ws ← values scene rest
  gathered scene what (given ++ (vs ++ ws))

-- The first part gives what its item gives.
pub item_first : (s : State) (what : Gather) (a : Syntax) (rest : Pieces) (given : List Value) (item : Item)
    → values_of s.scene a (eval s.scene a) ≡ item_values s.scene item
    → from (gathering s.scene what (Then a rest) given) s ≡ from (part_then s.scene what (item_values s.scene item) rest given) s
item_first s what a rest given item same = ap (λ part. from (part_then s.scene what part rest given) s) same

-- A value that is known stands behind those that are given.
pub known_given : (s : State) (what : Gather) (v : Value) (rest : Pieces) (given : List Value)
    → from (part_then s.scene what (item_values s.scene (items.Known v)) rest given) s
    ≡ from (gathering s.scene what rest (given ++ v ∷ [])) s
known_given s what v rest given =
    sym (ap (λ (f : List Value → List Value). from (values s.scene rest >>= (λ ws. gathered s.scene what (f ws))) s)
    (λ i ws. append_assoc given (v ∷ []) ws i))

-- The parts that are left give what the first of them does, and those behind it.
pub item_step : (s : State) (what : Gather) (left : Pieces) (a : Syntax) (rest : Pieces) (given : List Value) (item known : Item)
    → left ≡ Then a rest → values_of s.scene a (eval s.scene a) ≡ item_values s.scene item → item ≡ known
    → from (part_then s.scene what (item_values s.scene known) rest given) s ≡ from (gathering s.scene what left given) s
item_step s what left a rest given item known first same is =
    sym (ap (λ ps. from (gathering s.scene what ps given) s) first
    ∙ item_first s what a rest given item same
    ∙ ap (λ i. from (part_then s.scene what (item_values s.scene i) rest given) s) is)
