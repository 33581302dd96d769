-- Declarations of parameters, by what they have in the tables of names.
use Rattle.std.proofs.Common.{◌≡◌, Bool, false, Some, List, [], ◌∷◌, ◌++◌, append_assoc, append-nil, sym, subst}
use Rattle.std.proofs.lemmas.Bool.{or_parts}
use Rattle.std.specs.List.{list_any}
use Rattle.rl_bindings.specs.NameRules.{clashes}
use Rattle.rl_bindings.specs.declared.event.BindKind.TheVariants as kind
use Rattle.rl_bindings.specs.declared.event.Bound.{Bound}
use Rattle.rl_bindings.specs.declared.names.Name.{Name}
use Rattle.rl_syntax.specs.declared.numbered.At.{At}
use Rattle.rl_names.specs.Names.{Names}
use Rattle.rl_names.proofs.SymbolNumbers.{HasSymbol}

-- Without clashes among declarations there are none among the last of them.
pub clashes_last : (clash : Bound → Bound → Bool) (before first last : List Bound) → clashes clash before (first ++ last) ≡ false → clashes clash (before ++ first) last ≡ false
clashes_last clash before [] last none = subst (λ l. clashes clash l last ≡ false) (sym (append-nil before)) none
clashes_last clash before (b ∷ first) last none =
    subst (λ l. clashes clash l last ≡ false) (append_assoc before (b ∷ []) first)
    (clashes_last clash (before ++ b ∷ []) first last (or_parts (list_any (clash b) before) (clashes clash (before ++ b ∷ []) (first ++ last)) none).1)

-- The names of a unit: by its table of names and its symbols.
module _ (table : List Name) (symbols : List Bound) (names : Names) (at : At) where
  -- The names tell of the declaration's node which symbol it declares.
  pub record IsTold (b : Bound) : Type 0 where
    pub symbol : HasSymbol symbols b
    pub declared : names.declared b.node.0 ≡ Some (record { 0 = symbol.number })

  -- The form of the parameters' declarations.
  pub record IsParam (b : Bound) : Type 0 where
    pub kind_is : b.kind ≡ kind.Param
    pub scope_is : b.scope ≡ at.scope
