-- Kinds of symbols: of the binding, and of the declaration.
use Rattle.std.specs.Prelude.{ℕ, slice_get, List}
use Rattle.rl_bindings.specs.SymbolKinds as symbol_kinds
use Rattle.rl_bindings.specs.declared.event.Bound.{Bound}
use Rattle.rl_bindings.specs.declared.symbol_kind.BindingKind.{BindingKind}
use Rattle.rl_bindings.specs.declared.symbol_kind.BindingKind.TheVariants as binding_kinds
use Rattle.rl_bindings.specs.declared.symbol_kind.DeclKind.{DeclKind}
use Rattle.rl_bindings.specs.declared.symbol_kind.DeclKind.TheVariants as decl_kinds
use Rattle.rl_semantic.specs.Items.{of_item}

-- The kind of a symbol's binding. `Unknown` for a number that is no symbol's.
abbrev pub binding_kind : List Bound → (symbol : ℕ) → BindingKind
binding_kind symbols symbol = of_item binding_kinds.Unknown (λ b. symbol_kinds.binding_kind b.kind) (slice_get symbols symbol)

-- The kind of a symbol's declaration. `Unknown` for a number that is no symbol's.
abbrev pub decl_kind : List Bound → (symbol : ℕ) → DeclKind
decl_kind symbols symbol = of_item decl_kinds.Unknown (λ b. symbol_kinds.decl_kind b.kind) (slice_get symbols symbol)
