-- Trees that declare variables alone: each name that is declared is that of a parameter, of a declarator or of a `catch`, or stands in
-- a pattern there.
use Rattle.std.proofs.Common.{◌≡◌, ℕ, zero, suc, Bool, true, false, true≢false, if◌then◌else◌, Option, Some, List, [], ◌∷◌, codes, inl, inr, refl, sym, subst}
use Rattle.std.specs.List.{AllByRecursion}
use Rattle.std.specs.Str.{bytes_eq}
use Rattle.rl_ast.proofs.MarkedFunctions.{Inside, InsideOf}
use Rattle.rl_base.specs.declared.ids.NodeId.{NodeId}
use Rattle.rl_bindings.specs.Events.{bound_of}
use Rattle.rl_bindings.specs.NameRules.{is_type}
use Rattle.rl_bindings.specs.Names.{said}
use Rattle.rl_bindings.specs.Roles.{below, outside, parts_ahead, role_of, text_kind, texts_kind}
use Rattle.rl_bindings.specs.declared.event.BindKind.TheVariants as kind
use Rattle.rl_bindings.specs.declared.event.Bound.{Bound}
use Rattle.rl_bindings.specs.declared.names.Name.{Name}
use Rattle.rl_bindings.specs.declared.role.Above.{Above}
use Rattle.rl_bindings.specs.declared.role.Role.{Role}
use Rattle.rl_bindings.specs.declared.role.Role.TheVariants as role
use Rattle.rl_names.proofs.Declarations.{declares, declares_among, own}
use Rattle.rl_names.proofs.Items.{Has, each-append, each_weaker, has_left, has_right}
use Rattle.rl_names.specs.Names.{Names}
use Rattle.rl_promises.specs.Locals.{DeclareIn, DeclaresIn, DeclaresVariable}
use Rattle.rl_syntax.specs.Nodes.{entries_among, entries_under}
use Rattle.rl_syntax.specs.Syntax.{Syntax, Node, Listed, Said, Count, Flag, Absent, Pieces, End, Then}
use Rattle.rl_syntax.specs.Words.{makes_scope}
use Rattle.rl_syntax.specs.declared.nodes.NodeEntry.{NodeEntry}
use Rattle.rl_syntax.specs.declared.numbered.At.{At}
use Rattle.rl_syntax.specs.declared.word.Word.{Word}
use Rattle.rl_syntax.specs.declared.word.Word.TheVariants as word

-- True of the words of nodes that may stand in parameters, declarators and `catch` clauses, or elsewhere: a `bind` node only there.
abbrev pub may_stand : (named : Bool) → Word → Bool
may_stand named word.Bind = named
may_stand named _ = true

-- True of the parts of parameters, of declarators and of `catch` clauses, and of patterns there.
abbrev pub is_named : (named : Bool) → Word → Bool
is_named named word.Var = true
is_named named word.Params = true
is_named named word.Catch = true
is_named named word.Declarator = named
is_named named word.Param = named
is_named named word.Rest = named
is_named named word.Arraypat = named
is_named named word.Objectpat = named
is_named named word.Keyedpat = named
is_named named word.Defaultpat = named
is_named named _ = false

abbrev mutual
  -- Each `bind` node of the tree stands in parameters, in a declarator or in a `catch`; `named` is true of the parts of these.
  pub HasVariables : (named : Bool) → Syntax → Type 0
  HasVariables named (Node at w parts) = (may_stand named w ≡ true) × HaveVariables (is_named named w) parts
  HasVariables named (Listed parts) = HaveVariables named parts
  HasVariables named (Said text) = Unit {0}
  HasVariables named (Count number) = Unit {0}
  HasVariables named (Flag flag) = Unit {0}
  HasVariables named Absent = Unit {0}

  -- As `HasVariables`, for parts in a row.
  pub HaveVariables : (named : Bool) → Pieces → Type 0
  HaveVariables named End = Unit {0}
  HaveVariables named (Then piece pieces) = HasVariables named piece × HaveVariables named pieces

-- The declaration is none of a type.
abbrev pub IsValue : Bound → Type 0
IsValue b = is_type b.kind ≡ false

text_value : (text : List ℕ) → is_type (text_kind text) ≡ false
text_value text = chosen (bytes_eq text (codes "var")) (bytes_eq text (codes "let"))
  where
    chosen : (a b : Bool) → is_type (if a then kind.Var else (if b then kind.Let else kind.Const)) ≡ false
    chosen true b = refl
    chosen false true = refl
    chosen false false = refl

texts_value : (said : List (List ℕ)) → is_type (texts_kind said) ≡ false
texts_value [] = refl
texts_value (text ∷ texts) = text_value text

below_value : (named : Bool) (w : Word) (a : Above) (at : At) (ps : Pieces) → (named ≡ true → is_type a.kind ≡ false)
    → is_named named w ≡ true
    → is_type (below a at w ps).kind ≡ false
below_value named word.Var a at ps given is = texts_value (said ps)
below_value named word.Params a at ps given is = refl
below_value named word.Catch a at ps given is = refl
below_value named word.Declarator a at ps given is = given is
below_value named word.Param a at ps given is = given is
below_value named word.Rest a at ps given is = given is
below_value named word.Arraypat a at ps given is = given is
below_value named word.Objectpat a at ps given is = given is
below_value named word.Keyedpat a at ps given is = given is
below_value named word.Defaultpat a at ps given is = given is
below_value named _ a at ps given is = absurd (true≢false (sym is))

none_ahead : (named : Bool) (w : Word) → is_named named w ≡ true → parts_ahead w ≡ 0
none_ahead named word.Switch is = absurd (true≢false (sym is))
none_ahead named word.Classdecl is = absurd (true≢false (sym is))
none_ahead named word.Fundecl is = absurd (true≢false (sym is))
none_ahead named _ is = refl

module _ (names : List Name) where
  own_value : (named : Bool) (w : Word) (a : Above) (at : At) (ps : Pieces) → (named ≡ true → is_type a.kind ≡ false)
      → may_stand named w ≡ true
      → AllByRecursion IsValue (own names (role_of w) a at ps)
  own_value named word.Bind a at ps given is = (given is, tt)
  own_value named _ a at ps given is = tt

  mutual
    -- A tree that declares variables alone declares no type.
    pub only_values : (named : Bool) (t : Syntax) (a : Above) → (named ≡ true → is_type a.kind ≡ false) → HasVariables named t
        → AllByRecursion IsValue (declares names a t)
    only_values named (Node at w ps) a given v =
        each-append IsValue (own names (role_of w) a at ps) (declares_among names (parts_ahead w) (outside a w) (below a at w ps) ps)
        (own_value named w a at ps given v.0)
        (only_values_among (is_named named w) ps (parts_ahead w) (outside a w) (below a at w ps) (none_ahead named w)
        (below_value named w a at ps given) v.1)
    only_values named (Listed ps) a given v = only_values_among named ps zero a a (λ is. refl) given v
    only_values named (Said text) a given v = tt
    only_values named (Count number) a given v = tt
    only_values named (Flag flag) a given v = tt
    only_values named Absent a given v = tt

    only_values_among : (named : Bool) (ps : Pieces) (n : ℕ) (a b : Above) → (named ≡ true → n ≡ 0)
        → (named ≡ true → is_type b.kind ≡ false)
        → HaveVariables named ps → AllByRecursion IsValue (declares_among names n a b ps)
    only_values_among named End n a b none given v = tt
    only_values_among named (Then p ps) zero a b none given v =
        each-append IsValue (declares names b p) (declares_among names zero a b ps)
        (only_values named p b given v.0) (only_values_among named ps zero a b none given v.1)
    only_values_among named (Then p ps) (suc n) a b none given v =
        each-append IsValue (declares names a p) (declares_among names n a b ps)
        (only_values named p a (λ is. absurd (let e : suc n ≡ 0 = none is in cc)) v.0)
        (only_values_among named ps n a b (λ is. absurd (let e : suc n ≡ 0 = none is in cc)) given v.1)

-- Each of the declarations declares a variable, by the names of a unit.
abbrev pub DeclareVariables : Names → List Bound → Type 0
DeclareVariables names bs = (b : Bound) → Has bs b → DeclaresVariable names b.node.0

module _ (names : Names) (table : List Name) where
  node_declares : (at : At) (w : Word) (ps : Pieces) → DeclareIn names ps → (role_of w ≡ role.Binder → DeclaresVariable names at.id.0)
      → DeclaresIn names (Node at w ps)
  node_declares at word.Type ps more itself = tt
  node_declares at word.Bind ps more itself = (itself refl, more)
  node_declares at _ ps more itself = more

  own_has : (r : Role) (a : Above) (at : At) (ps : Pieces) → r ≡ role.Binder → Has (own table r a at ps) (bound_of table a at ps)
  own_has r a at ps is = subst (λ x. Has (own table x a at ps) (bound_of table a at ps)) (sym is) (inl refl)

  mutual
    -- The `bind` nodes of a tree declare variables if its declarations do.
    pub declares_in : (t : Syntax) (a : Above) → DeclareVariables names (declares table a t) → DeclaresIn names t
    declares_in (Node at w ps) a each =
        let itself = own table (role_of w) a at ps in
        let more = declares_among table (parts_ahead w) (outside a w) (below a at w ps) ps in
        node_declares at w ps
        (declare_in ps (parts_ahead w) (outside a w) (below a at w ps) (λ b has. each b (has_right itself more b has)))
        (λ is. each (bound_of table a at ps) (has_left itself more (bound_of table a at ps) (own_has (role_of w) a at ps is)))
    declares_in (Listed ps) a each = declare_in ps zero a a each
    declares_in (Said text) a each = tt
    declares_in (Count number) a each = tt
    declares_in (Flag flag) a each = tt
    declares_in Absent a each = tt

    declare_in : (ps : Pieces) (n : ℕ) (a b : Above) → DeclareVariables names (declares_among table n a b ps) → DeclareIn names ps
    declare_in End n a b each = tt
    declare_in (Then p ps) zero a b each = (
      declares_in p b (λ d has. each d (has_left (declares table b p) (declares_among table zero a b ps) d has)),
      declare_in ps zero a b (λ d has. each d (has_right (declares table b p) (declares_among table zero a b ps) d has)),
    )
    declare_in (Then p ps) (suc n) a b each = (
      declares_in p a (λ d has. each d (has_left (declares table a p) (declares_among table n a b ps) d has)),
      declare_in ps n a b (λ d has. each d (has_right (declares table a p) (declares_among table n a b ps) d has)),
    )

-- A node that makes the scope `k` stands among the parts, and declares variables alone.
pub record InnerScope (k : ℕ) (ps : Pieces) : Type 0 where
  pub at : At
  pub w : Word
  pub parts : Pieces
  pub inside : InsideOf (Node at w parts) ps
  pub maker : makes_scope w ≡ true
  pub number : at.scope.0 ≡ k
  pub variables : HasVariables false (Node at w parts)

-- If the node of an entry makes a scope, that is an inner one.
abbrev pub HasInner : Pieces → NodeEntry → Type 0
HasInner ps e = makes_scope e.word ≡ true → InnerScope e.at.scope.0 ps

inner_behind : (k : ℕ) (p : Syntax) (ps : Pieces) → InnerScope k ps → InnerScope k (Then p ps)
inner_behind k p ps i =
    record { at = i.at; w = i.w; parts = i.parts; inside = inr i.inside; maker = i.maker; number = i.number; variables = i.variables }

inner_node : (k : ℕ) (at : At) (w : Word) (qs ps : Pieces) → InnerScope k qs → InnerScope k (Then (Node at w qs) ps)
inner_node k at w qs ps i =
    record { at = i.at; w = i.w; parts = i.parts; inside = inl (inr i.inside); maker = i.maker; number = i.number; variables = i.variables }

inner_list : (k : ℕ) (qs ps : Pieces) → InnerScope k qs → InnerScope k (Then (Listed qs) ps)
inner_list k qs ps i =
    record { at = i.at; w = i.w; parts = i.parts; inside = inl i.inside; maker = i.maker; number = i.number; variables = i.variables }

-- Parts in front of others.
inner_later : (p : Syntax) (ps : Pieces) (es : List NodeEntry) → AllByRecursion (HasInner ps) es → AllByRecursion (HasInner (Then p ps)) es
inner_later p ps es all = each_weaker (HasInner ps) (HasInner (Then p ps)) es (λ e h maker. inner_behind e.at.scope.0 p ps (h maker)) all

-- A node that makes a scope is no part of a declarator, nor of a pattern.
maker_apart : (named : Bool) (at : At) (w : Word) (ps : Pieces) → makes_scope w ≡ true → HasVariables named (Node at w ps)
    → HasVariables false (Node at w ps)
maker_apart named at word.Bind ps maker v = absurd (true≢false (sym maker))
maker_apart named at word.Declarator ps maker v = absurd (true≢false (sym maker))
maker_apart named at word.Param ps maker v = absurd (true≢false (sym maker))
maker_apart named at word.Rest ps maker v = absurd (true≢false (sym maker))
maker_apart named at word.Arraypat ps maker v = absurd (true≢false (sym maker))
maker_apart named at word.Objectpat ps maker v = absurd (true≢false (sym maker))
maker_apart named at word.Keyedpat ps maker v = absurd (true≢false (sym maker))
maker_apart named at word.Defaultpat ps maker v = absurd (true≢false (sym maker))
maker_apart named at _ ps maker v = v

mutual
  -- The scopes that the nodes of such a tree make are inner scopes.
  variables_inner : (named : Bool) (parent : Option NodeId) (t : Syntax) (ps : Pieces) → HasVariables named t
      → AllByRecursion (HasInner (Then t ps)) (entries_under parent t)
  variables_inner named parent (Node at w qs) ps v = (
    (λ maker. record {
      at = at;
      w = w;
      parts = qs;
      inside = inl (inl refl);
      maker = maker;
      number = refl;
      variables = maker_apart named at w qs maker v;
    }),
    each_weaker (HasInner qs) (HasInner (Then (Node at w qs) ps)) (entries_among (Some at.id) qs)
        (λ e h maker. inner_node e.at.scope.0 at w qs ps (h maker)) (variables_inner_among (is_named named w) (Some at.id) qs v.1),
  )
  variables_inner named parent (Listed qs) ps v =
      each_weaker (HasInner qs) (HasInner (Then (Listed qs) ps)) (entries_among parent qs)
      (λ e h maker. inner_list e.at.scope.0 qs ps (h maker)) (variables_inner_among named parent qs v)
  variables_inner named parent (Said text) ps v = tt
  variables_inner named parent (Count number) ps v = tt
  variables_inner named parent (Flag flag) ps v = tt
  variables_inner named parent Absent ps v = tt

  pub variables_inner_among : (named : Bool) (parent : Option NodeId) (ps : Pieces) → HaveVariables named ps
      → AllByRecursion (HasInner ps) (entries_among parent ps)
  variables_inner_among named parent End v = tt
  variables_inner_among named parent (Then p ps) v =
      each-append (HasInner (Then p ps)) (entries_under parent p) (entries_among parent ps)
      (variables_inner named parent p ps v.0) (inner_later p ps (entries_among parent ps) (variables_inner_among named parent ps v.1))

mutual
  -- Trees inside a tree inside another are inside that.
  pub inside_through : (x t : Syntax) → Inside x t → (u : Syntax) → Inside t u → Inside x u
  inside_through x t i (Node at w ps) (inl same) = subst (λ s. Inside x s) same i
  inside_through x t i (Node at w ps) (inr more) = inr (inside_through_parts x t i ps more)
  inside_through x t i (Listed ps) more = inside_through_parts x t i ps more
  inside_through x t i (Said text) more = absurd more
  inside_through x t i (Count number) more = absurd more
  inside_through x t i (Flag flag) more = absurd more
  inside_through x t i Absent more = absurd more

  inside_through_parts : (x t : Syntax) → Inside x t → (ps : Pieces) → InsideOf t ps → InsideOf x ps
  inside_through_parts x t i End more = absurd more
  inside_through_parts x t i (Then p ps) (inl here) = inl (inside_through x t i p here)
  inside_through_parts x t i (Then p ps) (inr there) = inr (inside_through_parts x t i ps there)
