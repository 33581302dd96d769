-- The loops that resolve names, step by step on plain lists.
use Rattle.std.specs.Prelude.{◌≡◌, ℕ, zero, suc, ◌+◌, if◌then◌else◌, nat_eq, nat_lt, Option, Some, None, slice_get, slice_set, List, [], ◌∷◌, length, drop, take, replicate, Bool, false, ◌||◌}
use Rattle.rl_bindings.specs.NameRules.{is_var}
use Rattle.rl_bindings.specs.Symbols.{binding}
use Rattle.rl_bindings.specs.declared.event.Bound.{Bound}
use Rattle.rl_bindings.specs.declared.event.Event.{Event}
use Rattle.rl_bindings.specs.declared.event.Event.TheVariants as event
use Rattle.rl_bindings.specs.declared.resolve.Answer.{Answer}
use Rattle.rl_bindings.specs.declared.resolve.Entry.{Entry}

abbrev pub joined : Option (Option ℕ) → Option ℕ
joined None = None
joined (Some o) = o

-- The symbol that a name stands for, by a list of symbols by the names' numbers.
abbrev pub look : (env : List (Option ℕ)) → (name : ℕ) → Option ℕ
look env name = joined (slice_get env name)

-- Entries are written into the list, each at its name.
abbrev pub write_all : List Entry → (env : List (Option ℕ)) → List (Option ℕ)
write_all [] env = env
write_all (e ∷ es) env = write_all es (slice_set env e.name e.symbol)

-- The entries that `write_all` overwrites: one for each that is written, with the symbol that the list has at its name just
-- before.
abbrev pub overwritten : List Entry → (env : List (Option ℕ)) → List Entry
overwritten [] env = []
overwritten (e ∷ es) env = record { name = e.name; symbol = look env e.name } ∷ overwritten es (slice_set env e.name e.symbol)

-- Entries are written into the list, the last first.
abbrev pub undo : List Entry → (env : List (Option ℕ)) → List (Option ℕ)
undo [] env = env
undo (e ∷ es) env = slice_set (undo es env) e.name e.symbol

-- Events in order: at the beginning of a scope its entries are written, and what they overwrite is kept as a frame; at its end
-- the frame is written back. `entries` gives the entries of a scope by its number, and `frames` are those of the scopes that are
-- open, the innermost first.
abbrev pub run : (entries : ℕ → List Entry) → (env : List (Option ℕ)) → (frames : List (List Entry)) → List Event → List Answer
run entries env frames [] = []
run entries env frames (event.Scope s ∷ es) = run entries env frames es
run entries env frames (event.Open s ∷ es) = run entries (write_all (entries s.0) env) (overwritten (entries s.0) env ∷ frames) es
run entries env [] (event.Close ∷ es) = run entries env [] es
run entries env (f ∷ frames) (event.Close ∷ es) = run entries (undo f env) frames es
run entries env frames (event.Bind b ∷ es) = record { event = event.Bind b; symbol = look env b.name } ∷ run entries env frames es
run entries env frames (event.Use node name ∷ es) = record { event = event.Use node name; symbol = look env name } ∷ run entries env frames es

-- Frames that stand in one list, each from its start to that of the next. `starts` are those of the innermost frames first.
abbrev pub frames_at : (starts : List ℕ) → (saved : List Entry) → List (List Entry)
frames_at [] saved = []
frames_at (start ∷ starts) saved = drop start saved ∷ frames_at starts (take start saved)

-- A symbol's entry: its name, and what its scope binds that name to.
abbrev pub entry_of : (symbols : List Bound) → Bound → Entry
entry_of symbols b = record { name = b.name; symbol = binding symbols b.scope.0 b.name }

abbrev pub entry_before : (symbols : List Bound) → (s : ℕ) → (rest : List Entry) → Option Bound → List Entry
entry_before symbols s rest None = rest
entry_before symbols s rest (Some b) = if nat_eq b.scope.0 s then entry_of symbols b ∷ rest else rest

-- `entries_before symbols s n`: the entries of those of the first `n` symbols that are of the scope `s`, the last first.
abbrev pub entries_before : (symbols : List Bound) → (s : ℕ) → ℕ → List Entry
entries_before symbols s zero = []
entries_before symbols s (suc n) = entry_before symbols s (entries_before symbols s n) (slice_get symbols n)

-- The entries of a scope, by its number.
abbrev pub entries_at : (symbols : List Bound) → (s : ℕ) → List Entry
entries_at symbols s = entries_before symbols s (length symbols)

abbrev pub last_or : (s n : ℕ) → (rest : Option ℕ) → Option Bound → Option ℕ
last_or s n rest None = rest
last_or s n rest (Some b) = if nat_eq b.scope.0 s then Some n else rest

-- `last_before symbols s n`: the last of the first `n` symbols that is of the scope `s`, by its index.
abbrev pub last_before : (symbols : List Bound) → (s : ℕ) → ℕ → Option ℕ
last_before symbols s zero = None
last_before symbols s (suc n) = last_or s n (last_before symbols s n) (slice_get symbols n)

-- `last` has for each scope its last symbol, and `earlier` for each symbol the one before it in its scope.
pub record AreLinks (symbols : List Bound) (last earlier : List (Option ℕ)) : Type 0 where
  pub last_is : (s : ℕ) → look last s ≡ last_before symbols s (length symbols)
  pub earlier_is : (k : ℕ) (b : Bound) → slice_get symbols k ≡ Some b → look earlier k ≡ last_before symbols b.scope.0 k

abbrev pub larger : ℕ → ℕ → ℕ
larger m n = if nat_lt m n then n else m

-- The number above the largest name of symbols, or `most` if that is more.
abbrev pub count_names : (most : ℕ) → List Bound → ℕ
count_names most [] = most
count_names most (b ∷ bs) = count_names (larger most (b.name + 1)) bs

-- As `count_names`, for their scopes.
abbrev pub count_scopes : (most : ℕ) → List Bound → ℕ
count_scopes most [] = most
count_scopes most (b ∷ bs) = count_scopes (larger most (b.scope.0 + 1)) bs

-- The names that events declare and use, each with the symbol that it stands for.
abbrev pub resolved : (symbols : List Bound) → List Event → List Answer
resolved symbols es = run (entries_at symbols) (replicate (count_names 0 symbols) None) [] es

-- True if a `var` declaration is among events.
abbrev pub any_var : List Event → Bool
any_var [] = false
any_var (event.Bind b ∷ es) = is_var b.kind || any_var es
any_var (_ ∷ es) = any_var es
