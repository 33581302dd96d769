-- The loops give what the definitions say of a tree.
use Rattle.std.proofs.Common.{◌≡◌, ◌<◌, ℕ, Bool, ◌||◌, Option, None, IfSome, List, [], length, All, replicate, append-nil, refl, sym, ap, subst, ◌∙◌}
use Rattle.std.specs.List.{list_any}
use Rattle.rl_bindings.specs.Checks.{steps, start, lexical_steps}
use Rattle.rl_bindings.specs.Events.{events, top}
use Rattle.rl_bindings.specs.NameRules.{clashes, is_lexical_clash, is_repeat, is_type_clash, is_misplaced, is_passing, least, least_of, lexical_of}
use Rattle.rl_bindings.specs.Names.{names_in}
use Rattle.rl_bindings.specs.Symbols.{bounds, symbols_of}
use Rattle.rl_bindings.specs.Tables.{events_in, scopes_of, scopes_in, symbols_in, declarations_of, declarations_in, references_in, least_broken}
use Rattle.rl_bindings.specs.Machines.{entries_at, count_names, run, resolved}
use Rattle.rl_bindings.specs.Standing.{standing, references}
use Rattle.rl_bindings.specs.declared.event.Bound.{Bound}
use Rattle.rl_bindings.specs.declared.event.Event.{Event}
use Rattle.rl_bindings.specs.declared.event.ScopeEntry.{ScopeEntry}
use Rattle.rl_bindings.specs.declared.names.Name.{Name}
use Rattle.rl_bindings.specs.declared.resolve.Answer.{Answer}
use Rattle.rl_bindings.specs.declared.resolve.Reference.{Reference}
use Rattle.rl_bindings.specs.declared.resolve.Reference.{Reference}
use Rattle.rl_bindings.specs.declared.rules.Found.{Found}
use Rattle.rl_bindings.proofs.Entries.{named, length-blank}
use Rattle.rl_bindings.proofs.LookUps.{look-blank}
use Rattle.rl_bindings.proofs.Machines.{runs-tree}
use Rattle.rl_bindings.proofs.Checks.{checked, lexical_found}
use Rattle.rl_bindings.proofs.SymbolIndices.{declarations_within}
use Rattle.rl_syntax.specs.Syntax.{Syntax}

pub resolved_is : (names : List Name) (symbols : List Bound) (tree : Syntax) → resolved symbols (events names top tree) ≡ standing names symbols top [] tree
resolved_is names symbols tree =
    let env = replicate (count_names 0 symbols) None in
    ap (run (entries_at symbols) env []) (sym (append-nil (events names top tree)))
    ∙ runs-tree (count_names 0 symbols) symbols (named 0 symbols) names tree top [] env [] [] (record { size = length-blank None (count_names 0 symbols); at = look-blank (count_names 0 symbols) })
    ∙ append-nil (standing names symbols top [] tree)

module _ (tree : Syntax) (names : List Name) (es : List Event) (found : Found) (are_names : names ≡ names_in tree) (are_events : es ≡ events names top tree) (is_found : found ≡ steps start es) where
  events_are : es ≡ events_in tree
  events_are = are_events ∙ ap (λ n. events n top tree) are_names

  symbols_of_events : found.symbols ≡ symbols_of es
  symbols_of_events = ap (λ f. f.symbols) is_found ∙ (checked es).symbols

  lexical_of_events : lexical_steps [] es ≡ lexical_of es
  lexical_of_events = lexical_found es []

  pub scopes_made : (scopes : List ScopeEntry) → scopes ≡ scopes_of es → scopes ≡ scopes_in tree
  scopes_made scopes are = are ∙ ap scopes_of events_are

  pub symbols_made : found.symbols ≡ symbols_in tree
  symbols_made = symbols_of_events ∙ ap symbols_of events_are

  declarations_found : found.declarations ≡ declarations_of found.symbols es
  declarations_found = ap (λ f. f.declarations) is_found ∙ (checked es).declarations ∙ ap (λ s. declarations_of s es) (sym symbols_of_events)

  pub declarations_made : found.declarations ≡ declarations_in tree
  declarations_made = declarations_found ∙ (λ i. declarations_of (symbols_made i) (events_are i))

  pub found_within : All (λ d. IfSome d.symbol (λ k. k < length found.symbols)) found.declarations
  found_within = subst (All (λ d. IfSome d.symbol (λ k. k < length found.symbols))) (sym declarations_found) (declarations_within found.symbols (bounds es))

  answers_stand : (symbols : List Bound) (answers : List Answer) → answers ≡ resolved symbols es → answers ≡ standing (names_in tree) symbols top [] tree
  answers_stand symbols answers are =
      are ∙ ap (resolved symbols) are_events ∙ resolved_is names symbols tree ∙ ap (λ n. standing n symbols top [] tree) are_names

  pub references_made : (found_references : List Reference) → found_references ≡ references (resolved found.symbols es) → found_references ≡ references_in tree
  references_made found_references is =
      is ∙ ap references (answers_stand found.symbols (resolved found.symbols es) refl ∙ ap (λ s. standing (names_in tree) s top [] tree) symbols_made)

  pub broken_made : (passing : Bool) (broken : Option ℕ) → passing ≡ list_any (is_passing (lexical_steps [] es)) (resolved (lexical_steps [] es) es) → broken ≡ least found.clashed passing found.repeated found.shared → broken ≡ least_broken tree
  broken_made passing broken passes is =
      let lexical = lexical_of_events in
      let clashed : found.clashed ≡ clashes is_lexical_clash [] (bounds es) = ap (λ f. f.clashed) is_found ∙ (checked es).clashed in
      let repeated : found.repeated ≡ clashes is_repeat [] (bounds es) = ap (λ f. f.repeated) is_found ∙ (checked es).repeated in
      let shared : found.shared ≡ (clashes is_type_clash [] (bounds es) || list_any is_misplaced (bounds es)) = ap (λ f. f.shared) is_found ∙ (checked es).shared in
      let standing_is : resolved (lexical_steps [] es) es ≡ standing (names_in tree) (lexical_of es) top [] tree = answers_stand (lexical_steps [] es) (resolved (lexical_steps [] es) es) refl ∙ ap (λ s. standing (names_in tree) s top [] tree) lexical in
      is ∙ ap (λ p. least found.clashed p found.repeated found.shared) passes
      ∙ (λ i. least (clashed i) (list_any (is_passing (lexical i)) (standing_is i)) (repeated i) (shared i))
      ∙ ap (λ e. least_of e (standing (names_in tree) (lexical_of e) top [] tree)) events_are
