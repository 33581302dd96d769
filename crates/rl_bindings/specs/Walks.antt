-- Walks over a tree that number its names as they come to them. Names are only added, so a number that a name has stays.
use Rattle.std.specs.Prelude.{◌≡◌, ℕ, Some, List, [], ◌++◌}
use Rattle.rl_bindings.specs.Names.{number_of, numbered, add_names, said}
use Rattle.rl_bindings.specs.declared.event.Event.{Event}
use Rattle.rl_bindings.specs.declared.names.Name.{Name}
use Rattle.rl_bindings.specs.declared.role.Role.{Role}
use Rattle.rl_bindings.specs.declared.role.Role.TheVariants as role
use Rattle.rl_syntax.specs.Syntax.{Pieces}

-- The number that a name has among `names` it has among `later` too.
pub record KeepsNumbers (names later : List Name) : Type 0 where
  pub at : (text : List ℕ) (k : ℕ) → number_of names text ≡ Some k → number_of later text ≡ Some k

-- `number` is that of a node that says `said`, by `names` and by each list that keeps their numbers.
pub record IsNumber (names : List Name) (said : List (List ℕ)) (number : ℕ) : Type 0 where
  pub at : (later : List Name) → KeepsNumbers names later → number ≡ numbered later said

-- A walk that adds the names `said` to `old`, which gives `new`, and appends events to `before`, which gives `after`: those that
-- `made` gives for `new`, and for each list of names that keeps the numbers of `new`.
pub record Walked (old new : List Name) (said : List (List ℕ)) (before after : List Event) (made : List Name → List Event) : Type 0 where
  pub names : new ≡ add_names old said
  pub events : (later : List Name) → KeepsNumbers new later → after ≡ before ++ made later

-- The name that a node of this role says.
abbrev pub said_by : Role → Pieces → List (List ℕ)
said_by role.Binder parts = said parts
said_by role.User parts = said parts
said_by role.Maker parts = []
said_by role.Plain parts = []
