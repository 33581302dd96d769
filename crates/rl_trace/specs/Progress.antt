-- The progress of a run, as definitions of traces see it.
use Rattle.std.specs.Prelude.{◌≡◌, ℕ, true, Option, Some, None, List, [], ◌∷◌, ◌++◌, map}
use Rattle.std.specs.Borrow.{Bor}
use Rattle.rl_machine.specs.Machine.{set_by, set_where, value_where}
use Rattle.rl_machine.specs.Traces.{Changer, Store, World, set}
use Rattle.rl_machine.specs.declared.trace.Answer.{Answer}
use Rattle.rl_machine.specs.declared.trace.Assignment.{Assignment}
use Rattle.rl_machine.specs.declared.trace.Event.{Event}
use Rattle.rl_machine.specs.declared.trace.Trace.{Trace}
use Rattle.rl_machine.specs.declared.trace.Value.{Value}
use Rattle.rl_trace.specs.Shared.{ident_of, world_of}
use Rattle.rl_trace.specs.Variables.{store_of}
use Rattle.rl_trace.specs.declared.progress.Progress.{Progress}

pub record Seen : Type 0 where
  -- the numbers of symbols among the variables
  pub ident : ℕ → Option ℕ
  pub world : World
  pub store : Store
  -- the answers that are left
  pub answers : List Answer
  -- the events that were asked
  pub events : List Event

abbrev pub seen : Progress → Seen
seen p = record {
  ident = ident_of p.shared.numbers;
  world = world_of p.shared;
  store = store_of p.variables;
  answers = p.answers.now;
  events = p.events;
}

-- The effect of the assignments of an answer.
abbrev pub change_of : Seen → Changer
change_of s = set_by s.ident s.world.opens

abbrev pub assigned : (number : ℕ) → Value → Seen → Seen
assigned number v s = record s { store = set s.store number v }

abbrev pub assigned_where : Option ℕ → Value → Seen → Seen
assigned_where number v s = record s { store = set_where number s.store v }

abbrev pub changed : List Assignment → Seen → Seen
changed assignments s = record s { store = change_of s assignments s.store }

-- The start values are set, whether or not other functions assign their variables.
abbrev pub begun : List Assignment → Seen → Seen
begun start s = record s { store = set_by s.ident (λ symbol. true) start s.store }

-- The values of the variables of symbols.
abbrev pub kept_for : Seen → (symbols : List ℕ) → List Assignment
kept_for s symbols = map (λ symbol. record { symbol = record { 0 = symbol }; value = value_where (s.ident symbol) s.store }) symbols

-- The values of the variables that other functions see.
abbrev pub kept_in : Seen → List Assignment
kept_in s = kept_for s s.world.keeps

-- Puts events in front of a trace.
abbrev pub after : List Event → Trace → Trace
after events trace = record trace { events = events ++ trace.events }

-- The event was asked, and `a` is its answer.
pub record IsAsked (event : Event) (a : Answer) (old new : Seen) : Type 0 where
  pub answers : old.answers ≡ a ∷ new.answers
  pub same : new ≡ record old { store = change_of old a.assignments old.store; answers = new.answers; events = old.events ++ event ∷ [] }

-- No answer was left, and nothing changed.
pub record IsUnasked (old new : Seen) : Type 0 where
  pub same : new ≡ old
  pub answers : old.answers ≡ []

abbrev pub WasAsked : Event → Option (Bor Answer) → (old new : Seen) → Type 0
WasAsked event None old new = IsUnasked old new
WasAsked event (Some a) old new = IsAsked event a.now old new
