-- The index of a scope is its id, and so is that of a reference: they stand in the order of their nodes.
use Rattle.std.proofs.Common.{◌≡◌, ℕ, zero, suc, Bool, true, false, if◌then◌else◌, List, [], ◌∷◌, ◌++◌, length, map, filter, append_assoc, append-nil, refl, sym, ap, ◌∙◌}
use Rattle.std.proofs.lemmas.List.{map-append, length-map}
use Rattle.std.proofs.lemmas.List.Elements.{filter-append}
use Rattle.rl_base.specs.declared.ids.NodeId.{NodeId}
use Rattle.rl_base.specs.declared.ids.ScopeId.{ScopeId}
use Rattle.rl_bindings.specs.Events.{events, lead, trail, sign, front, back, top}
use Rattle.rl_bindings.specs.Names.{names_in}
use Rattle.rl_bindings.specs.Roles.{role_of, parts_ahead, outside, below}
use Rattle.rl_bindings.specs.Standing.{inside, answers, standing, stands_ahead, stands_within, references}
use Rattle.rl_bindings.specs.Tables.{scopes_of, scopes_in, symbols_in, references_in}
use Rattle.rl_bindings.specs.declared.event.Bound.{Bound}
use Rattle.rl_bindings.specs.declared.event.Event.{Event}
use Rattle.rl_bindings.specs.declared.event.Event.TheVariants as event
use Rattle.rl_bindings.specs.declared.names.Name.{Name}
use Rattle.rl_bindings.specs.declared.resolve.Answer.{Answer}
use Rattle.rl_bindings.specs.declared.role.Above.{Above}
use Rattle.rl_bindings.specs.declared.role.Role.{Role}
use Rattle.rl_bindings.specs.declared.role.Role.TheVariants as role
use Rattle.rl_syntax.specs.Nodes.{entries_under, entries_among, entries}
use Rattle.rl_syntax.specs.Syntax.{Syntax, Node, Listed, Said, Count, Flag, Absent, Pieces, End, Then, is_reference}
use Rattle.rl_syntax.specs.Syntax as syntax
use Rattle.rl_syntax.specs.Syntax.{IsPlaced, outset, scopes}
use Rattle.rl_syntax.proofs.Numbers.{scopes_numbered, references_numbered}
use Rattle.std.proofs.lemmas.List.FromFn.{length-range_with_len}
use Rattle.rl_syntax.specs.Words.{makes_scope}
use Rattle.rl_syntax.specs.declared.nodes.NodeEntry.{NodeEntry}
use Rattle.rl_syntax.specs.declared.numbered.At.{At}
use Rattle.rl_syntax.specs.declared.word.Word.{Word}
use Rattle.rl_syntax.specs.declared.word.Word.TheVariants as word
use Rattle.std.specs.Prelude.{Option, Some, None}

-- The nodes in a table that `test` is true of.
abbrev pub nodes_of : (test : Word → Bool) → List NodeEntry → List NodeId
nodes_of test table = map (λ e. e.at.id) (filter (λ e. test e.word) table)

abbrev one_if : Bool → NodeId → List NodeId
one_if b node = if b then node ∷ [] else []

nodes-cons : (b : Bool) (e : NodeEntry) (rest : List NodeEntry) → map (λ x. x.at.id) (if b then e ∷ rest else rest) ≡ one_if b e.at.id ++ map (λ x. x.at.id) rest
nodes-cons true e rest = refl
nodes-cons false e rest = refl

nodes-append : (test : Word → Bool) (a b : List NodeEntry) → nodes_of test (a ++ b) ≡ nodes_of test a ++ nodes_of test b
nodes-append test a b = ap (map (λ e. e.at.id)) (filter-append (λ e. test e.word) a b) ∙ map-append (λ e. e.at.id) (filter (λ e. test e.word) a) (filter (λ e. test e.word) b)

-- The nodes of the scopes among events.
abbrev makers : List Event → List NodeId
makers es = map (λ s. s.node) (scopes_of es)

makers-append : (es fs : List Event) → makers (es ++ fs) ≡ makers es ++ makers fs
makers-append [] fs = refl
makers-append (event.Scope s ∷ es) fs = ap (λ l. s.node ∷ l) (makers-append es fs)
makers-append (event.Open s ∷ es) fs = makers-append es fs
makers-append (event.Close ∷ es) fs = makers-append es fs
makers-append (event.Bind b ∷ es) fs = makers-append es fs
makers-append (event.Use node name ∷ es) fs = makers-append es fs

is_maker : Role → Bool
is_maker role.Maker = true
is_maker role.Binder = false
is_maker role.User = false
is_maker role.Plain = false

maker_is : (w : Word) → is_maker (role_of w) ≡ makes_scope w
unfolding is_maker
maker_is word.Program = refl
maker_is word.Arrow = refl
maker_is word.Fundecl = refl
maker_is word.Funexpr = refl
maker_is word.Block = refl
maker_is word.For = refl
maker_is word.Forin = refl
maker_is word.Forof = refl
maker_is word.Switch = refl
maker_is word.Catch = refl
maker_is word.Classdecl = refl
maker_is word.Classexpr = refl
maker_is word.Static = refl
maker_is word.Bind = refl
maker_is word.Id = refl
maker_is _ = refl

module _ (names : List Name) where
  signs : (r : Role) (a : Above) (at : At) (w : Word) → makers (sign r a at w) ≡ one_if (is_maker r) at.id
  unfolding is_maker
  signs role.Maker a at w = refl
  signs role.Binder a at w = refl
  signs role.User a at w = refl
  signs role.Plain a at w = refl

  within : (r : Role) (a : Above) (at : At) (ps : Pieces) (es : List Event) → makers (front names r a at ps ++ (es ++ back r)) ≡ makers es
  within role.Maker a at ps es = makers-append es (event.Close ∷ []) ∙ append-nil (makers es)
  within role.Binder a at ps es = ap makers (append-nil es)
  within role.User a at ps es = ap makers (append-nil es)
  within role.Plain a at ps es = ap makers (append-nil es)

  lead_none : (a : Above) (ps : Pieces) → makers (lead names zero a ps) ≡ []
  lead_none a End = refl
  lead_none a (Then p ps) = refl

  mutual
    scopes_are : (t : Syntax) (a : Above) (parent : Option NodeId) → makers (events names a t) ≡ nodes_of makes_scope (entries_under parent t)
    scopes_are (Node at w ps) a parent =
        let l = lead names (parts_ahead w) (outside a w) ps in
        let t = trail names (parts_ahead w) (below a at w ps) ps in
        makers-append (sign (role_of w) a at w) (l ++ (front names (role_of w) a at ps ++ (t ++ back (role_of w))))
        ∙ (λ i. signs (role_of w) a at w i ++ makers-append l (front names (role_of w) a at ps ++ (t ++ back (role_of w))) i)
        ∙ (λ i. one_if (maker_is w i) at.id ++ (makers l ++ within (role_of w) a at ps t i))
        ∙ ap (λ m. one_if (makes_scope w) at.id ++ m) (parts_are ps (parts_ahead w) (outside a w) (below a at w ps) (Some at.id))
        ∙ sym (nodes-cons (makes_scope w) (record { word = w; parent = parent; at = at }) (filter (λ e. makes_scope e.word) (entries_among (Some at.id) ps)))
    scopes_are (Listed ps) a parent = ap (λ m. m ++ makers (trail names 0 a ps)) (sym (lead_none a ps)) ∙ parts_are ps 0 a a parent
    scopes_are (Said text) a parent = refl
    scopes_are (Count number) a parent = refl
    scopes_are (Flag flag) a parent = refl
    scopes_are Absent a parent = refl

    parts_are : (ps : Pieces) (n : ℕ) (a b : Above) (parent : Option NodeId) → makers (lead names n a ps) ++ makers (trail names n b ps) ≡ nodes_of makes_scope (entries_among parent ps)
    parts_are End n a b parent = refl
    parts_are (Then p ps) zero a b parent =
        makers-append (events names b p) (trail names zero b ps)
        ∙ (λ i. scopes_are p b parent i ++ (sym (lead_none a ps) i ++ makers (trail names zero b ps)))
        ∙ ap (λ m. nodes_of makes_scope (entries_under parent p) ++ m) (parts_are ps zero a b parent)
        ∙ sym (nodes-append makes_scope (entries_under parent p) (entries_among parent ps))
    parts_are (Then p ps) (suc n) a b parent =
        (λ i. (makers-append (events names a p) (lead names n a ps) i) ++ makers (trail names n b ps))
        ∙ append_assoc (makers (events names a p)) (makers (lead names n a ps)) (makers (trail names n b ps))
        ∙ (λ i. scopes_are p a parent i ++ parts_are ps n a b parent i)
        ∙ sym (nodes-append makes_scope (entries_under parent p) (entries_among parent ps))

-- The scopes of a tree are those nodes of its table that make one. In a unit the ids of these are their indices
-- (`scopes_numbered`).
pub scopes_listed : (tree : Syntax) → map (λ s. s.node) (scopes_in tree) ≡ nodes_of makes_scope (entries tree)
scopes_listed tree = scopes_are (names_in tree) tree top None

-- The nodes of the uses among answers.
abbrev users : List Answer → List NodeId
users xs = map (λ r. r.node) (references xs)

users_head : (e : Event) (o : Option ℕ) (xs ys : List Answer) → users (xs ++ ys) ≡ users xs ++ users ys → users (record { event = e; symbol = o } ∷ (xs ++ ys)) ≡ users (record { event = e; symbol = o } ∷ xs) ++ users ys
users_head (event.Scope s) o xs ys more = more
users_head (event.Open s) o xs ys more = more
users_head event.Close o xs ys more = more
users_head (event.Bind b) o xs ys more = more
users_head (event.Use node name) o xs ys more = ap (λ l. node ∷ l) more

users-append : (xs ys : List Answer) → users (xs ++ ys) ≡ users xs ++ users ys
users-append [] ys = refl
users-append (x ∷ xs) ys = users_head x.event x.symbol xs ys (users-append xs ys)

is_user : Role → Bool
is_user role.Maker = false
is_user role.Binder = false
is_user role.User = true
is_user role.Plain = false

user_is : (w : Word) → is_user (role_of w) ≡ is_reference w
unfolding is_user
user_is word.Program = refl
user_is word.Arrow = refl
user_is word.Fundecl = refl
user_is word.Funexpr = refl
user_is word.Block = refl
user_is word.For = refl
user_is word.Forin = refl
user_is word.Forof = refl
user_is word.Switch = refl
user_is word.Catch = refl
user_is word.Classdecl = refl
user_is word.Classexpr = refl
user_is word.Static = refl
user_is word.Bind = refl
user_is word.Id = refl
user_is _ = refl

module _ (names : List Name) (symbols : List Bound) where
  used : (r : Role) (a : Above) (at : At) (ps : Pieces) (ss : List ScopeId) → users (answers symbols ss (front names r a at ps)) ≡ one_if (is_user r) at.id
  unfolding is_user
  used role.Maker a at ps ss = refl
  used role.Binder a at ps ss = refl
  used role.User a at ps ss = refl
  used role.Plain a at ps ss = refl

  ahead_none : (a : Above) (ss : List ScopeId) (ps : Pieces) → users (stands_ahead names symbols zero a ss ps) ≡ []
  ahead_none a ss End = refl
  ahead_none a ss (Then p ps) = refl

  -- No part of an `id` node stands before it.
  first : (w : Word) (a : Above) (ss : List ScopeId) (ps : Pieces) (node : NodeId) (rest : List NodeId)
      → users (stands_ahead names symbols (parts_ahead w) a ss ps) ++ (one_if (is_reference w) node ++ rest) ≡ one_if (is_reference w) node ++ (users (stands_ahead names symbols (parts_ahead w) a ss ps) ++ rest)
  first word.Id a ss ps node rest = ap (λ m. m ++ (node ∷ rest)) (ahead_none a ss ps) ∙ sym (ap (λ m. node ∷ (m ++ rest)) (ahead_none a ss ps))
  first _ a ss ps node rest = refl

  mutual
    references_are : (t : Syntax) (a : Above) (ss : List ScopeId) (parent : Option NodeId) → users (standing names symbols a ss t) ≡ nodes_of is_reference (entries_under parent t)
    references_are (Node at w ps) a ss parent =
        let l = stands_ahead names symbols (parts_ahead w) (outside a w) ss ps in
        let t = stands_within names symbols (parts_ahead w) (below a at w ps) (inside (role_of w) at ss) ps in
        users-append l (answers symbols ss (front names (role_of w) a at ps) ++ t)
        ∙ ap (λ m. users l ++ m) (users-append (answers symbols ss (front names (role_of w) a at ps)) t)
        ∙ (λ i. users l ++ (used (role_of w) a at ps ss i ++ users t))
        ∙ (λ i. users l ++ (one_if (user_is w i) at.id ++ users t))
        ∙ first w (outside a w) ss ps at.id (users t)
        ∙ ap (λ m. one_if (is_reference w) at.id ++ m) (uses_are ps (parts_ahead w) (outside a w) (below a at w ps) ss (inside (role_of w) at ss) (Some at.id))
        ∙ sym (nodes-cons (is_reference w) (record { word = w; parent = parent; at = at }) (filter (λ e. is_reference e.word) (entries_among (Some at.id) ps)))
    references_are (Listed ps) a ss parent = ap (λ m. m ++ users (stands_within names symbols 0 a ss ps)) (sym (ahead_none a ss ps)) ∙ uses_are ps 0 a a ss ss parent
    references_are (Said text) a ss parent = refl
    references_are (Count number) a ss parent = refl
    references_are (Flag flag) a ss parent = refl
    references_are Absent a ss parent = refl

    uses_are : (ps : Pieces) (n : ℕ) (a b : Above) (ss ts : List ScopeId) (parent : Option NodeId) → users (stands_ahead names symbols n a ss ps) ++ users (stands_within names symbols n b ts ps) ≡ nodes_of is_reference (entries_among parent ps)
    uses_are End n a b ss ts parent = refl
    uses_are (Then p ps) zero a b ss ts parent =
        users-append (standing names symbols b ts p) (stands_within names symbols zero b ts ps)
        ∙ (λ i. references_are p b ts parent i ++ (sym (ahead_none a ss ps) i ++ users (stands_within names symbols zero b ts ps)))
        ∙ ap (λ m. nodes_of is_reference (entries_under parent p) ++ m) (uses_are ps zero a b ss ts parent)
        ∙ sym (nodes-append is_reference (entries_under parent p) (entries_among parent ps))
    uses_are (Then p ps) (suc n) a b ss ts parent =
        (λ i. (users-append (standing names symbols a ss p) (stands_ahead names symbols n a ss ps) i) ++ users (stands_within names symbols n b ts ps))
        ∙ append_assoc (users (standing names symbols a ss p)) (users (stands_ahead names symbols n a ss ps)) (users (stands_within names symbols n b ts ps))
        ∙ (λ i. references_are p a ss parent i ++ uses_are ps n a b ss ts parent i)
        ∙ sym (nodes-append is_reference (entries_under parent p) (entries_among parent ps))

-- The references of a tree are the `id` nodes of its table. In a unit the ids of these are their indices (`references_numbered`).
pub references_listed : (tree : Syntax) → map (λ r. r.node) (references_in tree) ≡ nodes_of is_reference (entries tree)
references_listed tree = references_are (names_in tree) (symbols_in tree) tree top [] None

module _ (tree : Syntax) (placed : IsPlaced outset tree) where
  -- A unit has as many scopes as nodes that make one, and the entry at the index of a scope is that of its node.
  pub scopes_counted : length (scopes_in tree) ≡ scopes tree
  scopes_counted =
      sym (length-map (scopes_in tree) (λ s. s.node))
      ∙ ap length (scopes_listed tree)
      ∙ length-map (filter (λ e. makes_scope e.word) (entries tree)) (λ e. e.at.id)
      ∙ sym (length-map (filter (λ e. makes_scope e.word) (entries tree)) (λ e. e.at.scope.0))
      ∙ ap length (scopes_numbered tree placed)
      ∙ length-range_with_len 0 (scopes tree)

  pub references_counted : length (references_in tree) ≡ syntax.references tree
  references_counted =
      sym (length-map (references_in tree) (λ r. r.node))
      ∙ ap length (references_listed tree)
      ∙ length-map (filter (λ e. is_reference e.word) (entries tree)) (λ e. e.at.id)
      ∙ sym (length-map (filter (λ e. is_reference e.word) (entries tree)) (λ e. e.at.reference.0))
      ∙ ap length (references_numbered tree placed)
      ∙ length-range_with_len 0 (syntax.references tree)
