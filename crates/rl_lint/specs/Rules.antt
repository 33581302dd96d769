-- The four rules of the linter. A rule is the list of its findings in a unit: `tree` is the unit, `b` are the tables of its names.
use Rattle.std.specs.Prelude.{ℕ, Bool, true, false, not, ◌&&◌, ◌||◌, if◌then◌else◌, nat_eq}
use Rattle.std.specs.Prelude.{nat_le, nat_lt, Option, Some, None, slice_get, List, [], ◌∷◌, ◌++◌}
use Rattle.std.specs.List.{list_any}
use Rattle.std.specs.Str.{bytes_eq}
use Rattle.rl_base.specs.declared.ids.ScopeId.{ScopeId}
use Rattle.rl_bindings.specs.Names.{number_of}
use Rattle.rl_bindings.specs.Symbols.{number_at, resolve}
use Rattle.rl_bindings.specs.declared.event.Bound.{Bound}
use Rattle.rl_bindings.specs.declared.resolve.Declaration.{Declaration}
use Rattle.rl_bindings.specs.declared.resolve.Reference.{Reference}
use Rattle.rl_lint.specs.Findings.{finding}
use Rattle.rl_lint.specs.Sites.{sites_in}
use Rattle.rl_lint.specs.Stems.{stem}
use Rattle.rl_lint.specs.Tables.{Tables, tables_in}
use Rattle.rl_lint.specs.declared.finding.Finding.{Finding}
use Rattle.rl_lint.specs.declared.finding.LintRule.TheVariants as rule
use Rattle.rl_lint.specs.declared.site.LateSite.{LateSite}
use Rattle.rl_lint.specs.declared.site.NamedSite.{NamedSite}
use Rattle.rl_lint.specs.declared.site.Site.{Site}
use Rattle.rl_lint.specs.declared.site.Site.TheVariants as site
use Rattle.rl_lint.specs.declared.site.UseSite.{UseSite}
use Rattle.rl_resolver.specs.Around.{ancestors}
use Rattle.rl_resolver.specs.Inside.{is_function_word}
use Rattle.rl_resolver.specs.Lookups.{is_number, name_text, scope_parent}
use Rattle.rl_semantic.specs.Imports.{first_text}
use Rattle.rl_semantic.specs.Items.{of_item}
use Rattle.rl_syntax.specs.Syntax.{Syntax, Node, Listed, Said, Count, Flag, Absent, Pieces, End, Then}
use Rattle.rl_syntax.specs.declared.numbered.At.{At}
use Rattle.rl_syntax.specs.declared.word.Word.{Word}
use Rattle.rl_syntax.specs.declared.word.Word.TheVariants as word

-- The number of the symbol that a `bind` node declares. None at any other node.
abbrev pub declared : List Declaration → (node : ℕ) → Option ℕ
declared [] node = None
declared (d ∷ declarations) node = if nat_eq d.node.0 node then d.symbol else declared declarations node

-- The number of the symbol that a reference resolves to. None of a global.
abbrev pub used : List Reference → (reference : ℕ) → Option ℕ
used references reference = of_item None (λ r. r.symbol) (slice_get references reference)

-- L1: a name of `let`, `const`, `using` or a class is used in a statement before the one that declares it, in the same list of statements
-- and in no function inside that statement. `f(x); let x = 1;`.

-- The use stands in a statement of the list before the one that declares the name, and in no function there: its id is one of those from
-- the list's first statement to before the declaring one, and the innermost function around is the one around the list.
abbrev pub stands_before : UseSite → LateSite → Bool
stands_before u d = nat_le d.first.0 u.at.id.0 && (nat_lt u.at.id.0 d.statement.0 && nat_eq d.function.0 u.function.0)

-- True of a declaration of the symbol `symbol` that the use stands before.
abbrev pub is_late : Tables → UseSite → (symbol : ℕ) → Site → Bool
is_late b u symbol (site.Late d) = is_number symbol (declared b.declarations d.bind.0) && stands_before u d
is_late b u symbol _ = false

abbrev pub early_of : Tables → (all : List Site) → UseSite → (symbol : ℕ) → Bound → List Finding
early_of b all u symbol first = if list_any (is_late b u symbol) all then finding rule.L1 u.at.span (name_text b.names first.name)
    (Some first.span) ∷ [] else []

abbrev pub early_use : Tables → (all : List Site) → UseSite → List Finding
early_use b all u = of_item [] (λ symbol. of_item [] (early_of b all u symbol) (slice_get b.symbols symbol))
    (used b.references u.at.reference.0)

-- The findings of L1 at some of the sites `all` of a unit.
abbrev pub early : Tables → (all : List Site) → List Site → List Finding
early b all [] = []
early b all (site.Use u ∷ rest) = early_use b all u ++ early b all rest
early b all (_ ∷ rest) = early b all rest

-- L2: a symbol has the name of a symbol of a scope outside its own. `const x = 1; { const x = 2; f(x); }`.

-- The number of the symbol that a name stands for around a scope, that scope aside.
abbrev pub outer : Tables → ScopeId → (name : ℕ) → Option ℕ
outer b scope name = of_item None (λ around. resolve b.symbols (ancestors b.scopes around) name) (scope_parent b.scopes scope.0)

abbrev pub shadowing_of : Tables → Bound → List Finding
shadowing_of b first = of_item []
    (λ symbol. of_item [] (λ (other : Bound). finding rule.L2 first.span (name_text b.names first.name) (Some other.span) ∷ [])
    (slice_get b.symbols symbol)) (outer b first.scope first.name)

-- The findings of L2 at symbols, each given by its first declaration.
abbrev pub shadowing : Tables → List Bound → List Finding
shadowing b [] = []
shadowing b (first ∷ symbols) = shadowing_of b first ++ shadowing b symbols

-- L3: no `break` and no `continue` refers to a label. `a: while (b) { break; }`.

-- True of the words of nodes that refer to labels.
abbrev pub is_jump : Word → Bool
is_jump word.Break = true
is_jump word.Continue = true
is_jump _ = false

abbrev pub is_labeled : Word → Bool
is_labeled word.Labeled = true
is_labeled _ = false

-- True of a label, if there is one, that is `label`.
abbrev pub is_label : (label : List ℕ) → Option (List ℕ) → Bool
is_label label None = false
is_label label (Some text) = bytes_eq text label

-- True of a node that refers to `label`, itself or, as `inside` tells, by what stands in it: nothing in a function does, nor in another
-- statement of that label.
abbrev pub refers_at : (label : List ℕ) → Word → (text : Option (List ℕ)) → (inside : Bool) → Bool
refers_at label w text inside = not (is_function_word w)
    && (not (is_labeled w && is_label label text) && ((is_jump w && is_label label text) || inside))

abbrev mutual
  -- True of a tree with a `break` or `continue` of `label`, outside inner functions and inner statements of that label.
  pub refers : (label : List ℕ) → Syntax → Bool
  refers label (Node at w parts) = refers_at label w (first_text parts) (refers_among label parts)
  refers label (Listed parts) = refers_among label parts
  refers label (Said text) = false
  refers label (Count number) = false
  refers label (Flag flag) = false
  refers label Absent = false

  -- As `refers`, for parts in a row.
  pub refers_among : (label : List ℕ) → Pieces → Bool
  refers_among label End = false
  refers_among label (Then piece pieces) = refers label piece || refers_among label pieces

-- The finding of L3 at a labelled statement.
abbrev pub unused_label : At → (label : List ℕ) → Pieces → List Finding
unused_label at label parts = if refers_among label parts then [] else finding rule.L3 at.span label None ∷ []

-- The finding of L3 at a node.
abbrev pub unused_at : At → Word → Pieces → List Finding
unused_at at w parts = if is_labeled w then of_item [] (λ label. unused_label at label parts) (first_text parts) else []

abbrev mutual
  -- The findings of L3 in a tree.
  pub unused : Syntax → List Finding
  unused (Node at w parts) = unused_among parts ++ unused_at at w parts
  unused (Listed parts) = unused_among parts
  unused (Said text) = []
  unused (Count number) = []
  unused (Flag flag) = []
  unused Absent = []

  -- As `unused`, for parts in a row.
  pub unused_among : Pieces → List Finding
  unused_among End = []
  unused_among (Then piece pieces) = unused piece ++ unused_among pieces

-- L4: a function declaration has a name that another symbol of its own scope or of a scope around it has too, or would have less an ending
-- `_` and digits. `const f = 1; function f_0() {}`.

-- A number, if it is not `own`.
abbrev pub other_than : (own : ℕ) → Option ℕ → Option ℕ
other_than own None = None
other_than own (Some number) = if nat_eq number own then None else Some number

-- The smaller of two numbers, if there are two.
abbrev pub least : Option ℕ → Option ℕ → Option ℕ
least None other = other
least (Some number) None = Some number
least (Some number) (Some other) = if nat_le number other then Some number else Some other

-- The least number of a symbol of the name in a scope, `own` aside. A scope has at most two: an own name, and another.
abbrev pub other_at : (symbols : List Bound) → (own : ℕ) → (name : ℕ) → ScopeId → Option ℕ
other_at symbols own name scope = least (other_than own (number_at false scope.0 name symbols))
    (other_than own (number_at true scope.0 name symbols))

-- As `other_at`, in some scopes.
abbrev pub other_among : (symbols : List Bound) → (own : ℕ) → (name : ℕ) → List ScopeId → Option ℕ
other_among symbols own name [] = None
other_among symbols own name (scope ∷ scopes) = least (other_at symbols own name scope) (other_among symbols own name scopes)

-- The least number of a symbol with this text as its name in some scopes, `own` aside. None of a text that is no name of the unit.
abbrev pub other_named : Tables → (own : ℕ) → List ScopeId → (text : List ℕ) → Option ℕ
other_named b own scopes text = of_item None (λ name. other_among b.symbols own name scopes) (number_of b.names text)

-- The least number of a symbol with this text or its stem as its name, `own` aside, in a scope or in one around it.
abbrev pub taken_by : Tables → (own : ℕ) → ScopeId → (text : List ℕ) → Option ℕ
taken_by b own scope text = least (other_named b own (ancestors b.scopes scope) text)
    (other_named b own (ancestors b.scopes scope) (stem text))

abbrev pub taken_of : Tables → NamedSite → (own : ℕ) → Bound → List Finding
taken_of b f own first = of_item []
    (λ symbol. of_item [] (λ (other : Bound). finding rule.L4 f.bind.span (name_text b.names first.name) (Some other.span) ∷ [])
    (slice_get b.symbols symbol)) (taken_by b own f.scope (name_text b.names first.name))

abbrev pub taken_name : Tables → NamedSite → List Finding
taken_name b f = of_item [] (λ own. of_item [] (taken_of b f own) (slice_get b.symbols own)) (declared b.declarations f.bind.id.0)

-- The findings of L4 at some sites of a unit.
abbrev pub taken : Tables → List Site → List Finding
taken b [] = []
taken b (site.Named f ∷ rest) = taken_name b f ++ taken b rest
taken b (_ ∷ rest) = taken b rest

-- The findings of all rules in a unit.
abbrev pub findings : Tables → (tree : Syntax) → List Finding
findings b tree = early b (sites_in tree) (sites_in tree) ++ (shadowing b b.symbols ++ (unused tree ++ taken b (sites_in tree)))

-- The findings of all rules in a unit, by its own tables.
abbrev pub findings_in : (tree : Syntax) → List Finding
findings_in tree = findings (tables_in tree) tree
