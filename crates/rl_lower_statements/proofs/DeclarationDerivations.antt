-- Derivations of declarators of variables.
use Rattle.std.proofs.Common.{◌≡◌, ℕ, ◌+◌, ◌<◌, ◌≤◌, Bool, false, Option, Some, None, Result, Ok, Err, OnOk, true, List}
use Rattle.std.proofs.Common.{length, refl, sym, ap, ◌∙◌, subst, arith}
use Rattle.rl_base.specs.declared.span.Span.{Span}
use Rattle.rl_base.specs.declared.stop.Stop.{Stop}
use Rattle.rl_base.specs.declared.variable_kind.VariableKind.{VariableKind}
use Rattle.rl_base.specs.VariableKinds.{variable_text}
use Rattle.rl_builder.specs.Builder.{State}
use Rattle.rl_builder.specs.Temporaries.{temporary, with_value}
use Rattle.rl_grammar.specs.Fields.{maybe}
use Rattle.rl_grammar.specs.Grammar.{fits}
use Rattle.rl_grammar.specs.declared.kind.Field.TheVariants as field
use Rattle.rl_grammar.specs.declared.kind.Kind.TheVariants as sort
use Rattle.rl_hir.specs.Pairs.{identifier_of}
use Rattle.rl_hir.specs.declared.instruction.InstructionKind.{InstructionKind}
use Rattle.rl_hir.specs.declared.instruction.InstructionValue.{InstructionValue}
use Rattle.rl_hir.specs.declared.instruction.InstructionValue.TheVariants as values
use Rattle.rl_hir.specs.declared.instruction.Place.{Place}
use Rattle.rl_hir.specs.declared.instruction.PrimitiveValue.TheVariants as primitives
use Rattle.rl_lower_statements.specs.Declarators.{IsDeclared, IsMet, LowersDeclarator, respanned}
use Rattle.rl_lower_statements.specs.Patterns.{HasPatternRoom}
use Rattle.rl_lowered.proofs.Names.{names_value}
use Rattle.rl_lowered.proofs.Redeclared.{names_redeclared, size_redeclared}
use Rattle.rl_lowered.proofs.Told.{told_init, told_statement}
use Rattle.rl_lowered.specs.Forms.{IsAnnotation}
use Rattle.rl_lowered.specs.Items.{redeclared}
use Rattle.rl_lowered.specs.Lowered.{LoweredDeclarators, LoweredInit, LoweredPattern, LoweredStatement, declaring, kind_of}
use Rattle.rl_lowered.specs.Lowered as lowered
use Rattle.rl_lowered.specs.Named.{IsNamed}
use Rattle.rl_lowered.specs.Promised.{HasRoom, LowersExpression, LowersInit, LowersPattern, LowersStatement, share}
use Rattle.rl_model.specs.Shapes.{is_absent}
use Rattle.rl_names.specs.Names.{Names}
use Rattle.rl_promises.specs.Lowerable.{IsLowerable}
use Rattle.rl_promises.specs.Patterns.{takes_apart}
use Rattle.rl_runs.specs.Blocks.{size_of}
use Rattle.rl_syntax.specs.declared.numbered.At.{At}
use Rattle.rl_syntax.specs.declared.word.Word.TheVariants as word
use Rattle.rl_syntax.specs.Syntax.{Syntax, Node, Listed, Said, Count, Flag, Absent, Pieces, End, Then, nodes}
use Rattle.rl_lower_parts.proofs.Derivations.{grown}

-- A type that stands there, or none.

one_or_none : (t : Syntax) → fits (field.One sort.TypeAnnotation) t ≡ true → IsAnnotation t
one_or_none Absent h = absurd (cc)
one_or_none (Node at word parts) h = h
one_or_none (Said text) h = h
one_or_none (Flag flag) h = h
one_or_none (Listed parts) h = h
one_or_none (Count number) h = h

pub annotation_fits : {X : Type 0} (f : X → Syntax) (o : Option X) → ((x : X) → fits (field.One sort.TypeAnnotation) (f x) ≡ true)
    → IsAnnotation (maybe o f)
annotation_fits f None fit = refl
annotation_fits f (Some x) fit = one_or_none (f x) (fit x)

-- The names behind a value.
value_named : (names : Names) (s t : State) (v : InstructionValue) (span : Option Span) → t ≡ with_value s v span → IsNamed names s
    → IsNamed names t
value_named names s t v span moved named = subst (IsNamed names) (sym moved) ((names_value {names = names} s v span).named named)

-- A declarator without an initializer.
pub declared_ok : {names : Names} {bind : At} {kind : InstructionKind} {name : List ℕ} {type : Syntax} {identifier : ℕ} {old mid : State}
    (new : State) → IsAnnotation type → IsDeclared names bind old mid identifier
    → new ≡ with_value mid (values.DeclareLocal kind (record { identifier = record { 0 = identifier }; span = Some bind.span }))
    (Some bind.span)
    → (at : Span) (there : At)
    → LowersDeclarator names at kind
    (Node there word.Declarator (Then (Node bind word.Bind (Then (Said name) (Then type End))) (Then Absent End))) old new
declared_ok {names} {bind} {kind} {name} {type} {identifier} {old} {mid} new annotated d moved = λ at there. record {
  next = λ more last l.
      lowered.NextDeclared there bind name type more d.symbol identifier old last annotated d.declared d.bound
      (subst (λ (t : State). LoweredDeclarators names at kind more t last)
      (moved ∙ ap (λ (t : State). with_value t
      (values.DeclareLocal kind (record { identifier = record { 0 = identifier }; span = Some bind.span })) (Some bind.span)) d.moved) l);
  named = value_named names mid new _ _ moved d.named;
  size =
      let value : size_of new ≤ size_of mid + 4 = grown mid new _ _ moved in
      let variable : size_of mid ≤ size_of old + 2 = d.size in
      omega (arith, value, variable);
}

-- A declarator with an initializer.
pub initialized_ok : {names : Names} {bind : At} {kind : InstructionKind} {name : List ℕ} {type init : Syntax} {identifier : ℕ}
    {old behind mid : State} {p : Place} (at : Span) (new : State) → IsAnnotation type → LowersExpression names init old behind p
    → IsDeclared names bind behind mid identifier
    → new ≡ with_value mid (values.StoreLocal kind (record { identifier = record { 0 = identifier }; span = Some at }) p) (Some at)
    → (there : At)
    → LowersDeclarator names at kind
    (Node there word.Declarator (Then (Node bind word.Bind (Then (Said name) (Then type End))) (Then init End))) old new
initialized_ok {names} {bind} {kind} {name} {type} {init} {identifier} {old} {behind} {mid} {p} at new annotated e d
    moved = λ there. record {
      next = λ more last l.
          lowered.NextInitialized there bind name type init more d.symbol identifier old behind last p annotated d.declared e.by d.bound
          (subst (λ (t : State). LoweredDeclarators names at kind more t last)
          (moved ∙ ap (λ (t : State). with_value t
          (values.StoreLocal kind (record { identifier = record { 0 = identifier }; span = Some at }) p) (Some at)) d.moved) l);
      named = value_named names mid new _ _ moved d.named;
      size =
          let value : size_of new ≤ size_of mid + 4 = grown mid new _ _ moved in
          let variable : size_of mid ≤ size_of behind + 2 = d.size in
          let first : size_of behind ≤ size_of old + share (nodes init) = e.size in
          omega (arith, value, variable, first);
    }

-- A declarator of a pattern.

pub taken_told : {names : Names} {at : Span} {kind : InstructionKind} {pattern init : Syntax} {old t new : State} {p q : Place}
    → takes_apart pattern ≡ true → is_absent init ≡ false → LowersExpression names init old t p
    → LowersPattern names false kind at p pattern t new q → IsNamed names old
    → (there : At) → LowersDeclarator names at kind (Node there word.Declarator (Then pattern (Then init End))) old new
taken_told {names} {at} {kind} {pattern} {init} {old} {t} {new} {p} {q} apart present e l n there = record {
  next = λ more last d. lowered.NextTakenApart there pattern init more old t new last p q apart present e.by l.by d;
  named = l.named (e.named n);
  size = omega (arith, e.size, l.size);
}

pub untaken_told : {names : Names} {at : Span} {kind : InstructionKind} {pattern : Syntax} {old t new : State} {p q : Place}
    → takes_apart pattern ≡ true → t ≡ with_value old (values.Primitive primitives.Undefined) (Some at) → p ≡ temporary old (Some at)
    → LowersPattern names false kind at p pattern t new q → IsNamed names old
    → (there : At) → LowersDeclarator names at kind (Node there word.Declarator (Then pattern (Then Absent End))) old new
untaken_told {names} {at} {kind} {pattern} {old} {t} {new} {p} {q} apart moved placed l n there = record {
  next = λ more last d.
      lowered.NextUntaken there pattern more old new last q apart
      (subst (λ (o : State). LoweredPattern names false kind at (temporary old (Some at)) pattern o new q) moved
      (subst (λ (v : Place). LoweredPattern names false kind at v pattern t new q) placed l.by)) d;
  named = l.named (value_named names old t _ _ moved n);
  size = omega (arith, grown old t _ _ moved, l.size);
}

pub untaken_named : {names : Names} (at : Span) (old t : State) → t ≡ with_value old (values.Primitive primitives.Undefined) (Some at)
    → IsNamed names old → IsNamed names t
untaken_named {names} at old t moved n = value_named names old t _ _ moved n

pub untaken_room : (at : Span) (pattern : Syntax) (old t : State) → t ≡ with_value old (values.Primitive primitives.Undefined) (Some at)
    → HasRoom old (share (nodes pattern + 1)) → HasPatternRoom t pattern
untaken_room at pattern old t moved room = omega (arith, grown old t _ _ moved, room)

pub taken_room : {names : Names} {init : Syntax} {p : Place} (pattern : Syntax) (old t : State) → LowersExpression names init old t p
    → HasRoom old (share (nodes pattern + nodes init + 1)) → HasPatternRoom t pattern
taken_room pattern old t e room = omega (arith, e.size, room)

-- A declared variable has an identifier that was made.
pub declared_within : {names : Names} {bind : At} {old mid : State} {identifier : ℕ} → IsDeclared names bind old mid identifier
    → identifier < length mid.env.identifiers
declared_within {identifier = identifier} d =
    d.named.made d.symbol.0 identifier (ap (λ (t : State). identifier_of t.bindings d.symbol.0) d.moved ∙ d.bound.bound)

-- A name that is met again in the head of a loop.
pub met_told : {names : Names} {bind : At} {old mid : State} {identifier : ℕ} (again : Bool) (new : State)
    → IsDeclared names bind old mid identifier → new ≡ respanned again mid identifier bind.span
    → IsMet names again bind old new identifier
met_told {names} {bind} {old} {mid} {identifier} true new d after = record {
  symbol = d.symbol;
  declared = d.declared;
  moved = after ∙ ap (λ (s : State). redeclared s identifier bind.span) d.moved;
  bound = d.bound;
  named = subst (IsNamed names) (sym after) ((names_redeclared {names = names} mid identifier bind.span).named d.named);
  size =
      let same : size_of new ≡ size_of mid = ap size_of after ∙ size_redeclared mid identifier bind.span in
      omega (arith, same, d.size);
}
met_told {names} {bind} {old} {mid} {identifier} false new d after = record {
  symbol = d.symbol;
  declared = d.declared;
  moved = after ∙ d.moved;
  bound = d.bound;
  named = subst (IsNamed names) (sym after) d.named;
  size = let same : size_of new ≡ size_of mid = ap size_of after in omega (arith, same, d.size);
}

-- A declarator, from the views of its parts: of its name, of its initializer, and of it.

declarator_told : {names : Names} {span : Span} {kind : InstructionKind} {at : At} {bind pattern init shown tree : Syntax}
    {old new : State} → bind ≡ pattern → init ≡ shown → Node at word.Declarator (Then pattern (Then shown End)) ≡ tree
    → LowersDeclarator names span kind (Node at word.Declarator (Then bind (Then init End))) old new
    → LowersDeclarator names span kind tree old new
declarator_told {names} {span} {kind} {at} {bind} {pattern} {init} {shown} {tree} {old} {new} binds inits is l =
    subst (λ (t : Syntax). LowersDeclarator names span kind t old new)
    (ap (λ (i : Syntax). Node at word.Declarator (Then bind (Then i End))) inits
    ∙ ap (λ (b : Syntax). Node at word.Declarator (Then b (Then shown End))) binds ∙ is) l

pub declared_declarator_ok : {at : At} {bind pattern shown tree : Syntax} (names : Names) (span : Span) (kind : InstructionKind)
    (old new : State) (r : Result (Unit {0}) Stop) → bind ≡ pattern → Absent ≡ shown
    → Node at word.Declarator (Then pattern (Then shown End)) ≡ tree
    → OnOk r ((span : Span) (there : At) →
    LowersDeclarator names span kind (Node there word.Declarator (Then bind (Then Absent End))) old new)
    → OnOk r (LowersDeclarator names span kind tree old new)
declared_declarator_ok {at} names span kind old new (Ok x) binds inits is l = declarator_told binds inits is (l span at)
declared_declarator_ok names span kind old new (Err e) binds inits is l = tt

pub initialized_declarator_ok : {at : At} {bind pattern init shown tree : Syntax} (names : Names) (span : Span) (kind : InstructionKind)
    (old new : State) (r : Result (Unit {0}) Stop) → bind ≡ pattern → init ≡ shown
    → Node at word.Declarator (Then pattern (Then shown End)) ≡ tree
    → OnOk r ((there : At) → LowersDeclarator names span kind (Node there word.Declarator (Then bind (Then init End))) old new)
    → OnOk r (LowersDeclarator names span kind tree old new)
initialized_declarator_ok {at} names span kind old new (Ok x) binds inits is l = declarator_told binds inits is (l at)
initialized_declarator_ok names span kind old new (Err e) binds inits is l = tt

-- The parts of a declarator of a pattern.

pub declarator_parts_may : (names : Names) {at : At} {pattern init shown tree : Syntax} → init ≡ shown
    → Node at word.Declarator (Then pattern (Then shown End)) ≡ tree → IsLowerable names tree
    → IsLowerable names pattern × IsLowerable names init
declarator_parts_may names inits is may =
    let both = (subst (IsLowerable names) (sym is) may).1 in (both.0, subst (IsLowerable names) (sym inits) both.1.0)

pub declarator_parts_room : {at : At} {pattern init shown tree : Syntax} (s : State) → init ≡ shown
    → Node at word.Declarator (Then pattern (Then shown End)) ≡ tree → HasRoom s (share (nodes tree))
    → HasRoom s (share (nodes pattern + nodes init + 1))
declarator_parts_room {at} {pattern} {init} {shown} {tree} s inits is room =
    let counted : nodes (Node at word.Declarator (Then pattern (Then shown End))) ≡ nodes tree = ap nodes is in
    let same : nodes init ≡ nodes shown = ap nodes inits in
    omega (arith, counted, same, room)

pub declarator_room : {at : At} {pattern shown tree : Syntax} (s : State) → Absent ≡ shown
    → Node at word.Declarator (Then pattern (Then shown End)) ≡ tree → HasRoom s (share (nodes tree))
    → HasRoom s (share (nodes pattern + 1))
declarator_room {pattern = pattern} s inits is room =
    let both : HasRoom s (share (nodes pattern + 0 + 1)) = declarator_parts_room s inits is room in
    omega (arith, both)

-- Behind the last declarator.

pub declarators_done : {names : Names} {at : Span} {kind : InstructionKind} {left : Pieces} {s : State} → left ≡ End
    → LoweredDeclarators names at kind left s s
declarators_done {names} {at} {kind} {left} {s} done =
    subst (λ (es : Pieces). LoweredDeclarators names at kind es s s) (sym done) (lowered.NoDeclarator s)

-- A declaration.
pub variables_ok : {at : At} {kind : InstructionKind} {declarators : Pieces} {tree : Syntax}
    {noted : State} (names : Names) (k : VariableKind) (s : State) (r : Result (Unit {0}) Stop) (new : State)
    → Node at word.Var (Then (Said (variable_text k)) (Then (Listed declarators) End)) ≡ tree → noted ≡ declaring s k at.span
    → kind ≡ kind_of k → OnOk r (LoweredDeclarators names at.span kind declarators noted new)
    → OnOk r (LowersStatement names tree s new)
variables_ok {at} {kind} {declarators} {tree} {noted} names k s (Ok done) new is declares kinds l =
    subst (λ (n : Syntax). LowersStatement names n s new) is
    (told_statement (lowered.Variables at k declarators s new
    (subst (λ (o : State). LoweredDeclarators names at.span (kind_of k) declarators o new) declares
    (subst (λ (i : InstructionKind). LoweredDeclarators names at.span i declarators noted new) kinds l))))
variables_ok names k s (Err e) new is declares kinds l = tt

-- A declaration of variables stands in front of a `for` loop as it stands in a row of statements.
pub variables_init_ok : (names : Names) {there : At} {fields : Pieces} {tree : Syntax} (s new : State) (r : Result (Unit {0}) Stop)
    → Node there word.Var fields ≡ tree → OnOk r (LowersStatement names tree s new)
    → OnOk r ((at : Span) → LowersInit names at tree s new)
variables_init_ok names {there} {fields} {tree} s new (Ok done) is l = λ at.
    told_init (subst (λ (n : Syntax). LoweredInit names at n s new) is
    (lowered.DeclaredInit there fields s new (subst (λ (n : Syntax). LoweredStatement names n s new) (sym is) l.by)))
variables_init_ok names s new (Err e) is l = tt
