-- The local variable that a name stands for.
use Rattle.std.proofs.Common.{◌≡◌, ℕ, Bool, true, false, if◌then◌else◌, Option, Some, None, List, ap, sym, ◌∙◌}
use Rattle.rl_base.specs.declared.ids.SymbolId.{SymbolId}
use Rattle.rl_bindings.specs.declared.event.Bound.{Bound}
use Rattle.rl_bindings.specs.declared.event.ScopeEntry.{ScopeEntry}
use Rattle.rl_model.specs.Code.{declared_by, local_of}
use Rattle.rl_names.specs.Names.{is_local, meaning_of, symbol_binding}
use Rattle.rl_names.specs.declared.names.Meaning.TheVariants.{Local, Outer}
use Rattle.rl_semantic.specs.declared.imports.ImportBindingData.{ImportBindingData}
use Rattle.rl_syntax.specs.declared.numbered.At.{At}

pub local_some : (imported : ℕ
    → Option ImportBindingData) (at : At) (scopes : List ScopeEntry) (symbols : List Bound) (found : Option SymbolId) (symbol : SymbolId) (name : List ℕ)
    → Some symbol ≡ found → is_local at scopes symbols symbol.0 ≡ true → declared_by (Some symbol) ≡ local_of
    (meaning_of imported at scopes symbols found name)
local_some imported at scopes symbols found symbol name is holds =
    ap (λ (b : Bool). local_of (if b then Local symbol else Outer (symbol_binding imported symbols symbol.0 name))) (sym holds)
    ∙ ap (λ s. local_of (meaning_of imported at scopes symbols s name)) is

pub local_other : (imported : ℕ
    → Option ImportBindingData) (at : At) (scopes : List ScopeEntry) (symbols : List Bound) (found : Option SymbolId) (symbol : SymbolId) (name : List ℕ)
    → Some symbol ≡ found → is_local at scopes symbols symbol.0 ≡ false → declared_by None ≡ local_of
    (meaning_of imported at scopes symbols found name)
local_other imported at scopes symbols found symbol name is fails =
    ap (λ (b : Bool). local_of (if b then Local symbol else Outer (symbol_binding imported symbols symbol.0 name))) (sym fails)
    ∙ ap (λ s. local_of (meaning_of imported at scopes symbols s name)) is

pub local_none : (imported : ℕ
    → Option ImportBindingData) (at : At) (scopes : List ScopeEntry) (symbols : List Bound) (found : Option SymbolId) (name : List ℕ)
    → None ≡ found → declared_by None ≡ local_of (meaning_of imported at scopes symbols found name)
local_none imported at scopes symbols found name is = ap (λ s. local_of (meaning_of imported at scopes symbols s name)) is

pub ruleset locals = (local_some, local_other, local_none)
