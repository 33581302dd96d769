-- The symbols that the names of a tree stand for.
use Rattle.std.specs.Prelude.{ℕ, zero, suc, List, [], ◌∷◌, ◌++◌}
use Rattle.rl_base.specs.declared.ids.ScopeId.{ScopeId}
use Rattle.rl_bindings.specs.Events.{front}
use Rattle.rl_bindings.specs.Roles.{role_of, parts_ahead, outside, below}
use Rattle.rl_bindings.specs.Symbols.{resolve}
use Rattle.rl_bindings.specs.declared.event.Bound.{Bound}
use Rattle.rl_bindings.specs.declared.event.Event.{Event}
use Rattle.rl_bindings.specs.declared.event.Event.TheVariants as event
use Rattle.rl_bindings.specs.declared.names.Name.{Name}
use Rattle.rl_bindings.specs.declared.resolve.Answer.{Answer}
use Rattle.rl_bindings.specs.declared.resolve.Reference.{Reference}
use Rattle.rl_bindings.specs.declared.role.Above.{Above}
use Rattle.rl_bindings.specs.declared.role.Role.{Role}
use Rattle.rl_bindings.specs.declared.role.Role.TheVariants as role
use Rattle.rl_syntax.specs.Syntax.{Syntax, Node, Listed, Said, Count, Flag, Absent, Pieces, End, Then}
use Rattle.rl_syntax.specs.declared.numbered.At.{At}

-- The scopes inside a node that makes one: its own is the innermost.
abbrev pub inside : Role → At → List ScopeId → List ScopeId
inside role.Maker at scopes = at.scope ∷ scopes
inside _ at scopes = scopes

-- The names that events declare or use, each with the symbol that it stands for under `scopes`.
abbrev pub answers : (symbols : List Bound) → (scopes : List ScopeId) → List Event → List Answer
answers symbols scopes [] = []
answers symbols scopes (event.Bind b ∷ es) = record { event = event.Bind b; symbol = resolve symbols scopes b.name } ∷ answers symbols scopes es
answers symbols scopes (event.Use node name ∷ es) = record { event = event.Use node name; symbol = resolve symbols scopes name } ∷ answers symbols scopes es
answers symbols scopes (_ ∷ es) = answers symbols scopes es

abbrev mutual
  -- The names that a tree declares or uses, in order, each with the symbol that it stands for where it is.
  pub standing : List Name → (symbols : List Bound) → Above → (scopes : List ScopeId) → Syntax → List Answer
  standing names symbols a scopes (Node at word parts) = stands_ahead names symbols (parts_ahead word) (outside a word) scopes parts ++ (answers symbols scopes (front names (role_of word) a at parts) ++ stands_within names symbols (parts_ahead word) (below a at word parts) (inside (role_of word) at scopes) parts)
  standing names symbols a scopes (Listed parts) = stands_within names symbols 0 a scopes parts
  standing names symbols a scopes (Said text) = []
  standing names symbols a scopes (Count number) = []
  standing names symbols a scopes (Flag flag) = []
  standing names symbols a scopes Absent = []

  -- As `standing`, for the first `n` of parts in a row.
  pub stands_ahead : List Name → (symbols : List Bound) → (n : ℕ) → Above → (scopes : List ScopeId) → Pieces → List Answer
  stands_ahead names symbols n a scopes End = []
  stands_ahead names symbols zero a scopes (Then piece pieces) = []
  stands_ahead names symbols (suc n) a scopes (Then piece pieces) = standing names symbols a scopes piece ++ stands_ahead names symbols n a scopes pieces

  -- As `standing`, for parts in a row, the first `n` aside.
  pub stands_within : List Name → (symbols : List Bound) → (n : ℕ) → Above → (scopes : List ScopeId) → Pieces → List Answer
  stands_within names symbols n a scopes End = []
  stands_within names symbols zero a scopes (Then piece pieces) = standing names symbols a scopes piece ++ stands_within names symbols zero a scopes pieces
  stands_within names symbols (suc n) a scopes (Then piece pieces) = stands_within names symbols n a scopes pieces

-- The uses among answers, in order.
abbrev pub references : List Answer → List Reference
references [] = []
references (x ∷ xs) = elim x.event as (λ e. List Reference) [ event.Use node name ↦ record { node = node; name = name; symbol = x.symbol } ∷ references xs | _ ↦ references xs ]
