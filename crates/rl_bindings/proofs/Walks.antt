-- The walk over a tree, by the tree's form: the names that it adds, and the events that it appends.
use Rattle.std.proofs.Common.{◌≡◌, ℕ, zero, suc, Bool, List, [], ◌∷◌, ◌++◌, map, take, drop, append_assoc, append-nil, ap, sym, refl, subst, ◌∙◌}
use Rattle.rl_bindings.specs.Events.{events, lead, trail, sign, front, back}
use Rattle.rl_bindings.specs.Names.{add_names, named_by, said, texts, texts_of}
use Rattle.rl_bindings.specs.Roles.{role_of, parts_ahead, outside, below, scope_of}
use Rattle.rl_bindings.specs.Walks.{KeepsNumbers, IsNumber, Walked, said_by}
use Rattle.rl_bindings.specs.declared.event.Bound.{Bound}
use Rattle.rl_bindings.specs.declared.event.Event.{Event}
use Rattle.rl_bindings.specs.declared.event.Event.TheVariants as event
use Rattle.rl_bindings.specs.declared.names.Name.{Name}
use Rattle.rl_bindings.specs.declared.role.Above.{Above}
use Rattle.rl_bindings.specs.declared.role.Role.{Role}
use Rattle.rl_bindings.specs.declared.role.Role.TheVariants as role
use Rattle.rl_bindings.specs.Quiet.{inside}
use Rattle.rl_bindings.proofs.QuietNodes.{IsPassed}
use Rattle.rl_bindings.proofs.AddedNames.{keeps_self, keeps_further, keeps_added, add_names_append}
use Rattle.rl_syntax.specs.Syntax.{Syntax, Node, Listed, Said, Count, Flag, Absent, Pieces, End, Then, pieces_of, syntax}
use Rattle.rl_syntax.specs.declared.numbered.At.{At}
use Rattle.rl_syntax.specs.declared.numbered.Numbered.{Numbered}
use Rattle.rl_syntax.specs.declared.numbered.Numbered.TheVariants as numbered
use Rattle.rl_syntax.specs.declared.word.Word.{Word}
use Rattle.rl_syntax.specs.declared.word.Word.TheVariants as word
use Rattle.rl_syntax.proofs.Layers.{syntax_node, syntax_list}

-- Events that do not depend on names.
appended : (names : List Name) (before after es : List Event) → after ≡ before ++ es → Walked names names [] before after (λ later. es)
appended names before after es is = record { names = refl; events = λ later keeps. is }

nothing : (names : List Name) (out : List Event) → Walked names names [] out out (λ later. [])
nothing names out = appended names out out [] (sym (append-nil out))

-- A walk after another.
walked_then : (n0 n1 n2 : List Name) (s t : List (List ℕ)) (o0 o1 o2 : List Event) (f g : List Name → List Event)
    → Walked n0 n1 s o0 o1 f → Walked n1 n2 t o1 o2 g → Walked n0 n2 (s ++ t) o0 o2 (λ later. f later ++ g later)
walked_then n0 n1 n2 s t o0 o1 o2 f g first second = record {
  names = second.names ∙ ap (λ n. add_names n t) first.names ∙ sym (add_names_append n0 s t);
  events = λ later keeps.
      second.events later keeps
      ∙ ap (λ o. o ++ g later) (first.events later (keeps_further n1 n2 later (subst (KeepsNumbers n1) (sym second.names) (keeps_added t n1)) keeps))
      ∙ append_assoc o0 (f later) (g later);
}

-- A walk, by other words for what it adds and appends.
walked_as : (n0 n1 : List Name) (s t : List (List ℕ)) (o0 o1 : List Event) (f g : List Name → List Event)
    → s ≡ t → ((later : List Name) → f later ≡ g later) → Walked n0 n1 s o0 o1 f → Walked n0 n1 t o0 o1 g
walked_as n0 n1 s t o0 o1 f g same_names same_events walked = record {
  names = walked.names ∙ ap (add_names n0) same_names;
  events = λ later keeps. walked.events later keeps ∙ ap (λ es. o0 ++ es) (same_events later);
}

-- The first `n` of parts in a row, and the others.
taken : (n : ℕ) (names : List Name) (a : Above) (parts : List Numbered) → lead names n a (pieces_of (map syntax parts)) ≡ trail names 0 a (pieces_of (map syntax (take n parts)))
taken zero names a [] = refl
taken (suc n) names a [] = refl
taken zero names a (part ∷ parts) = refl
taken (suc n) names a (part ∷ parts) = ap (λ es. events names a (syntax part) ++ es) (taken n names a parts)

dropped : (n : ℕ) (names : List Name) (a : Above) (parts : List Numbered) → trail names n a (pieces_of (map syntax parts)) ≡ trail names 0 a (pieces_of (map syntax (drop n parts)))
dropped zero names a parts = refl
dropped (suc n) names a [] = refl
dropped (suc n) names a (part ∷ parts) = dropped n names a parts

texts_joined : (n : ℕ) (parts : List Numbered) → texts_of (pieces_of (map syntax (take n parts))) ++ texts_of (pieces_of (map syntax (drop n parts))) ≡ texts_of (pieces_of (map syntax parts))
texts_joined zero parts = refl
texts_joined (suc n) [] = refl
texts_joined (suc n) (part ∷ parts) = append_assoc (texts (syntax part)) (texts_of (pieces_of (map syntax (take n parts)))) (texts_of (pieces_of (map syntax (drop n parts)))) ∙ ap (λ l. texts (syntax part) ++ l) (texts_joined n parts)

-- A node's own name, by its role.
own_said : (w : Word) (ps : Pieces) → named_by w ps ≡ said_by (role_of w) ps
own_said word.Program ps = refl
own_said word.Arrow ps = refl
own_said word.Fundecl ps = refl
own_said word.Funexpr ps = refl
own_said word.Block ps = refl
own_said word.For ps = refl
own_said word.Forin ps = refl
own_said word.Forof ps = refl
own_said word.Switch ps = refl
own_said word.Catch ps = refl
own_said word.Classdecl ps = refl
own_said word.Classexpr ps = refl
own_said word.Static ps = refl
own_said word.Bind ps = refl
own_said word.Id ps = refl
own_said _ ps = refl

lead_none : (names : List Name) (a : Above) (ps : Pieces) → lead names 0 a ps ≡ []
lead_none names a End = refl
lead_none names a (Then p ps) = refl

-- Parts stand ahead of scopes alone.
ahead_none : (w : Word) → (role_of w ≡ role.Maker → ⊥) → parts_ahead w ≡ 0
ahead_none word.Switch other = absurd (other refl)
ahead_none word.Classdecl other = absurd (other refl)
ahead_none word.Fundecl other = absurd (other refl)
ahead_none _ other = refl

-- The events of a node that makes no scope.
module _ (names : List Name) (a : Above) (at : At) (w : Word) (ps : Pieces) where
  unscoped : (r : Role) → role_of w ≡ r → parts_ahead w ≡ 0 → sign r a at w ≡ [] → back r ≡ [] → events names a (Node at w ps) ≡ front names r a at ps ++ trail names 0 (below a at w ps) ps
  unscoped r is none signs backs =
      (λ i. sign (is i) a at w ++ (lead names (none i) (outside a w) ps ++ (front names (is i) a at ps ++ (trail names (none i) (below a at w ps) ps ++ back (is i)))))
      ∙ (λ i. signs i ++ (lead_none names (outside a w) ps i ++ (front names r a at ps ++ (trail names 0 (below a at w ps) ps ++ backs i))))
      ∙ ap (λ l. front names r a at ps ++ l) (append-nil (trail names 0 (below a at w ps) ps))

-- A node whose scope begins: nothing is said.
pub front_maker : (a : Above) (at : At) (parts : List Numbered) (n0 : List Name) (o0 o1 : List Event)
    → o1 ≡ o0 ++ event.Open at.scope ∷ []
    → Walked n0 n0 (said_by role.Maker (pieces_of (map syntax parts))) o0 o1 (λ later. front later role.Maker a at (pieces_of (map syntax parts)))
front_maker a at parts n0 o0 o1 is = appended n0 o0 o1 (event.Open at.scope ∷ []) is

pub front_binder : (a : Above) (at : At) (parts : List Numbered) (n0 n1 : List Name) (o0 o1 : List Event) (bound : Bound)
    → n1 ≡ add_names n0 (said (pieces_of (map syntax parts)))
    → IsNumber n1 (said (pieces_of (map syntax parts))) bound.name
    → bound ≡ record { node = at.id; span = at.span; name = bound.name; scope = scope_of a; kind = a.kind; place = a.place }
    → o1 ≡ o0 ++ event.Bind bound ∷ []
    → Walked n0 n1 (said_by role.Binder (pieces_of (map syntax parts))) o0 o1 (λ later. front later role.Binder a at (pieces_of (map syntax parts)))
front_binder a at parts n0 n1 o0 o1 bound named number is appends = record {
  names = named;
  events = λ later keeps. appends ∙ ap (λ b. o0 ++ event.Bind b ∷ []) (is ∙ ap (λ k. record { node = at.id; span = at.span; name = k; scope = scope_of a; kind = a.kind; place = a.place }) (number.at later keeps));
}

pub front_user : (a : Above) (at : At) (parts : List Numbered) (n0 n1 : List Name) (o0 o1 : List Event) (k : ℕ)
    → n1 ≡ add_names n0 (said (pieces_of (map syntax parts)))
    → IsNumber n1 (said (pieces_of (map syntax parts))) k
    → o1 ≡ o0 ++ event.Use at.id k ∷ []
    → Walked n0 n1 (said_by role.User (pieces_of (map syntax parts))) o0 o1 (λ later. front later role.User a at (pieces_of (map syntax parts)))
front_user a at parts n0 n1 o0 o1 k named number appends = record {
  names = named;
  events = λ later keeps. appends ∙ ap (λ n. o0 ++ event.Use at.id n ∷ []) (number.at later keeps);
}

pub front_plain : (a : Above) (at : At) (parts : List Numbered) (n0 : List Name) (o0 : List Event)
    → Walked n0 n0 (said_by role.Plain (pieces_of (map syntax parts))) o0 o0 (λ later. front later role.Plain a at (pieces_of (map syntax parts)))
front_plain a at parts n0 o0 = nothing n0 o0

pub ruleset by_role = (front_maker, front_binder, front_user, front_plain)

-- A tree that is a node, by its parts.
pub node_is : (tree : Numbered) (at : At) (word : Word) (parts slice : List Numbered) → tree ≡ numbered.Node at word parts → slice ≡ parts → syntax tree ≡ Node at word (pieces_of (map syntax slice))
node_is tree at word parts slice is same = ap syntax is ∙ syntax_node at word parts ∙ ap (λ l. Node at word (pieces_of (map syntax l))) (sym same)

-- A tree that is a list, by its parts.
pub list_is : (tree : Numbered) (parts slice : List Numbered) → tree ≡ numbered.List parts → slice ≡ parts → syntax tree ≡ Listed (pieces_of (map syntax slice))
list_is tree parts slice is same = ap syntax is ∙ syntax_list parts ∙ ap (λ l. Listed (pieces_of (map syntax l))) (sym same)

module _ (a : Above) (tree : Syntax) (n0 : List Name) (o0 : List Event) where
  -- The walk over the tree, which ends with these names and events.
  abbrev Walks : List Name → List Event → Type 0
  Walks n1 o1 = Walked n0 n1 (texts tree) o0 o1 (λ later. events later a tree)

  of_form : (n1 : List Name) (o1 : List Event) (form : Syntax) → tree ≡ form → Walked n0 n1 (texts form) o0 o1 (λ later. events later a form) → Walks n1 o1
  of_form n1 o1 form is walked = subst (λ s. Walked n0 n1 (texts s) o0 o1 (λ later. events later a s)) (sym is) walked

  -- A node that makes a scope, by its parts that stand before it and those that stand in it.
  pub node_maker : (at : At) (word : Word) (parts ahead behind : List Numbered) (r : Role) (over inner : Above) (n1 n2 n3 : List Name) (o1 o2 o3 o4 o5 : List Event)
      → tree ≡ Node at word (pieces_of (map syntax parts))
      → r ≡ role.Maker
      → r ≡ role_of word
      → over ≡ outside a word
      → inner ≡ below a at word (pieces_of (map syntax parts))
      → ahead ≡ take (parts_ahead word) parts
      → behind ≡ drop (parts_ahead word) parts
      → o1 ≡ o0 ++ sign r a at word
      → Walked n0 n1 (texts_of (pieces_of (map syntax ahead))) o1 o2 (λ later. trail later 0 over (pieces_of (map syntax ahead)))
      → Walked n1 n2 (said_by r (pieces_of (map syntax parts))) o2 o3 (λ later. front later r a at (pieces_of (map syntax parts)))
      → Walked n2 n3 (texts_of (pieces_of (map syntax behind))) o3 o4 (λ later. trail later 0 inner (pieces_of (map syntax behind)))
      → o5 ≡ o4 ++ back r
      → Walks n3 o5
  node_maker at word parts ahead behind r over inner n1 n2 n3 o1 o2 o3 o4 o5 is maker is_role is_over is_inner is_ahead is_behind signs leads fronts trails backs =
      let ps = pieces_of (map syntax parts) in
      let first = texts_of (pieces_of (map syntax ahead)) in
      let last = texts_of (pieces_of (map syntax behind)) in
      let joined : first ++ last ≡ texts_of ps = (λ i. texts_of (pieces_of (map syntax (is_ahead i))) ++ texts_of (pieces_of (map syntax (is_behind i)))) ∙ texts_joined (parts_ahead word) parts in
      let is_lead : (later : List Name) → trail later 0 over (pieces_of (map syntax ahead)) ≡ lead later (parts_ahead word) (outside a word) ps = λ later. (λ i. trail later 0 (is_over i) (pieces_of (map syntax (is_ahead i)))) ∙ sym (taken (parts_ahead word) later (outside a word) parts) in
      let is_trail : (later : List Name) → trail later 0 inner (pieces_of (map syntax behind)) ≡ trail later (parts_ahead word) (below a at word ps) ps = λ later. (λ i. trail later 0 (is_inner i) (pieces_of (map syntax (is_behind i)))) ∙ sym (dropped (parts_ahead word) later (below a at word ps) parts) in
      of_form n3 o5 (Node at word ps) is
      (walked_as n0 n3 (first ++ (said_by r ps ++ (last ++ []))) (texts (Node at word ps)) o0 o5
      (λ later. sign r a at word ++ (trail later 0 over (pieces_of (map syntax ahead)) ++ (front later r a at ps ++ (trail later 0 inner (pieces_of (map syntax behind)) ++ back r))))
      (λ later. events later a (Node at word ps))
      (ap (λ q. first ++ (said_by q ps ++ (last ++ []))) maker
      ∙ ap (λ l. first ++ l) (append-nil last)
      ∙ joined
      ∙ sym (ap (λ l. l ++ texts_of ps) (own_said word ps ∙ ap (λ q. said_by q ps) (sym is_role ∙ maker))))
      (λ later. λ i. sign (is_role i) a at word ++ (is_lead later i ++ (front later (is_role i) a at ps ++ (is_trail later i ++ back (is_role i)))))
      (walked_then n0 n0 n3 [] (first ++ (said_by r ps ++ (last ++ []))) o0 o1 o5 (λ later. sign r a at word) (λ later. trail later 0 over (pieces_of (map syntax ahead)) ++ (front later r a at ps ++ (trail later 0 inner (pieces_of (map syntax behind)) ++ back r)))
      (appended n0 o0 o1 (sign r a at word) signs)
      (walked_then n0 n1 n3 first (said_by r ps ++ (last ++ [])) o1 o2 o5 (λ later. trail later 0 over (pieces_of (map syntax ahead))) (λ later. front later r a at ps ++ (trail later 0 inner (pieces_of (map syntax behind)) ++ back r)) leads
      (walked_then n1 n2 n3 (said_by r ps) (last ++ []) o2 o3 o5 (λ later. front later r a at ps) (λ later. trail later 0 inner (pieces_of (map syntax behind)) ++ back r) fronts
      (walked_then n2 n3 n3 last [] o3 o4 o5 (λ later. trail later 0 inner (pieces_of (map syntax behind))) (λ later. back r) trails (appended n3 o4 o5 (back r) backs))))))

  module _ (at : At) (word : Word) (ps : Pieces) (is : tree ≡ Node at word ps) where
    -- A node that makes no scope: `r` is its role, and `q` says which.
    node_other : (r q : Role) (inner : Above) (n1 n2 : List Name) (o1 o2 : List Event)
        → r ≡ q → sign q a at word ≡ [] → back q ≡ [] → (q ≡ role.Maker → ⊥)
        → r ≡ role_of word
        → inner ≡ below a at word ps
        → Walked n0 n1 (said_by r ps) o0 o1 (λ later. front later r a at ps)
        → Walked n1 n2 (texts_of ps) o1 o2 (λ later. trail later 0 inner ps)
        → Walks n2 o2
    node_other r q inner n1 n2 o1 o2 which signs backs other is_role is_inner fronts trails =
        of_form n2 o2 (Node at word ps) is
        (walked_as n0 n2 (said_by r ps ++ texts_of ps) (texts (Node at word ps)) o0 o2 (λ later. front later r a at ps ++ trail later 0 inner ps) (λ later. events later a (Node at word ps))
        (λ i. (sym (own_said word ps ∙ ap (λ x. said_by x ps) (sym is_role))) i ++ texts_of ps)
        (λ later.
        ap (λ b. front later r a at ps ++ trail later 0 b ps) is_inner
        ∙ sym (unscoped later a at word ps r (sym is_role) (ahead_none word (λ e. other (sym which ∙ is_role ∙ e))) (ap (λ x. sign x a at word) which ∙ signs) (ap back which ∙ backs)))
        (walked_then n0 n1 n2 (said_by r ps) (texts_of ps) o0 o1 o2 (λ later. front later r a at ps) (λ later. trail later 0 inner ps) fronts trails))

    pub node_binder : (r : Role) (inner : Above) (n1 n2 : List Name) (o1 o2 : List Event)
        → r ≡ role.Binder
        → r ≡ role_of word
        → inner ≡ below a at word ps
        → Walked n0 n1 (said_by r ps) o0 o1 (λ later. front later r a at ps)
        → Walked n1 n2 (texts_of ps) o1 o2 (λ later. trail later 0 inner ps)
        → Walks n2 o2
    node_binder r inner n1 n2 o1 o2 which is_role is_inner fronts trails =
        node_other r role.Binder inner n1 n2 o1 o2 which refl refl (λ e. let f : role.Binder ≡ role.Maker = e in cc) is_role is_inner fronts trails

    pub node_user : (r : Role) (inner : Above) (n1 n2 : List Name) (o1 o2 : List Event)
        → r ≡ role.User
        → r ≡ role_of word
        → inner ≡ below a at word ps
        → Walked n0 n1 (said_by r ps) o0 o1 (λ later. front later r a at ps)
        → Walked n1 n2 (texts_of ps) o1 o2 (λ later. trail later 0 inner ps)
        → Walks n2 o2
    node_user r inner n1 n2 o1 o2 which is_role is_inner fronts trails =
        node_other r role.User inner n1 n2 o1 o2 which refl refl (λ e. let f : role.User ≡ role.Maker = e in cc) is_role is_inner fronts trails

    pub node_plain : (r : Role) (inner : Above) (n1 : List Name) (o1 : List Event)
        → r ≡ role.Plain
        → r ≡ role_of word
        → inner ≡ below a at word ps
        → Walked n0 n1 (texts_of ps) o0 o1 (λ later. trail later 0 inner ps)
        → Walks n1 o1
    node_plain r inner n1 o1 which is_role is_inner trails =
        node_other r role.Plain inner n0 n1 o0 o1 which refl refl (λ e. let f : role.Plain ≡ role.Maker = e in cc) is_role is_inner
        (subst (λ x. Walked n0 n0 (said_by x ps) o0 o0 (λ later. front later x a at ps)) (sym which) (nothing n0 o0)) trails

    -- A node that a walk passes by, but for its own name.
    pub node_quiet : (r : Role) (inner : Above) (n1 n2 : List Name) (o1 o2 : List Event)
        → IsPassed word
        → r ≡ role_of word
        → inner ≡ inside a
        → Walked n0 n1 (said_by r ps) o0 o1 (λ later. front later r a at ps)
        → Walked n1 n2 (texts_of ps) o1 o2 (λ later. trail later 0 inner ps)
        → Walks n2 o2
    node_quiet r inner n1 n2 o1 o2 passed is_role is_inner fronts trails =
        of_form n2 o2 (Node at word ps) is
        (walked_as n0 n2 (said_by r ps ++ texts_of ps) (texts (Node at word ps)) o0 o2 (λ later. front later r a at ps ++ trail later 0 inner ps) (λ later. events later a (Node at word ps))
        (λ i. (sym (own_said word ps ∙ ap (λ x. said_by x ps) (sym is_role))) i ++ texts_of ps)
        (λ later.
        ap (λ b. front later r a at ps ++ trail later 0 b ps) (is_inner ∙ sym (passed.inner a at ps))
        ∙ sym (unscoped later a at word ps r (sym is_role) passed.none_ahead (ap (λ x. sign x a at word) is_role ∙ passed.no_sign a at) (ap back is_role ∙ passed.no_back)))
        (walked_then n0 n1 n2 (said_by r ps) (texts_of ps) o0 o1 o2 (λ later. front later r a at ps) (λ later. trail later 0 inner ps) fronts trails))

    -- A node that a walk passes by, without a name of its own.
    pub node_silent : (inner : Above) (n1 : List Name) (o1 : List Event)
        → IsPassed word
        → role_of word ≡ role.Plain
        → inner ≡ inside a
        → Walked n0 n1 (texts_of ps) o0 o1 (λ later. trail later 0 inner ps)
        → Walks n1 o1
    node_silent inner n1 o1 passed plain is_inner trails =
        node_quiet (role_of word) inner n0 n1 o0 o1 passed refl is_inner
        (subst (λ x. Walked n0 n0 (said_by x ps) o0 o0 (λ later. front later x a at ps)) (sym plain) (nothing n0 o0)) trails

  pub list_walked : (ps : Pieces) (n1 : List Name) (o1 : List Event) → tree ≡ Listed ps
      → Walked n0 n1 (texts_of ps) o0 o1 (λ later. trail later 0 a ps)
      → Walks n1 o1
  list_walked ps n1 o1 is walked =
      of_form n1 o1 (Listed ps) is walked

  pub text_walked : (text : List ℕ) → tree ≡ Said text → Walks n0 o0
  text_walked text is = of_form n0 o0 (Said text) is (nothing n0 o0)

  pub number_walked : (number : ℕ) → tree ≡ Count number → Walks n0 o0
  number_walked number is = of_form n0 o0 (Count number) is (nothing n0 o0)

  pub flag_walked : (flag : Bool) → tree ≡ Flag flag → Walks n0 o0
  flag_walked flag is = of_form n0 o0 (Flag flag) is (nothing n0 o0)

  pub absent_walked : tree ≡ Absent → Walks n0 o0
  absent_walked is = of_form n0 o0 Absent is (nothing n0 o0)

-- The walk over `rest` from `n1` and `o1` on is the end of the walk over `all` from `n0` and `o0` on.
pub record IsLeft (a : Above) (n0 : List Name) (o0 : List Event) (all : List Numbered) (n1 : List Name) (o1 : List Event) (rest : List Numbered) : Type 0 where
  pub at : (n2 : List Name) (o2 : List Event)
      → Walked n1 n2 (texts_of (pieces_of (map syntax rest))) o1 o2 (λ later. trail later 0 a (pieces_of (map syntax rest)))
      → Walked n0 n2 (texts_of (pieces_of (map syntax all))) o0 o2 (λ later. trail later 0 a (pieces_of (map syntax all)))

module _ (a : Above) (n0 : List Name) (o0 : List Event) (all : List Numbered) where
  pub left_all : IsLeft a n0 o0 all n0 o0 all
  left_all = record { at = λ n2 o2 walked. walked }

  pub left_less : (n1 n2 : List Name) (o1 o2 : List Event) (rest more : List Numbered) (tree : Numbered)
      → rest ≡ tree ∷ more → IsLeft a n0 o0 all n1 o1 rest
      → Walked n1 n2 (texts (syntax tree)) o1 o2 (λ later. events later a (syntax tree))
      → IsLeft a n0 o0 all n2 o2 more
  left_less n1 n2 o1 o2 rest more tree is left walked = record {
    at = λ n3 o3 further.
        left.at n3 o3
        (subst (λ l. Walked n1 n3 (texts_of (pieces_of (map syntax l))) o1 o3 (λ later. trail later 0 a (pieces_of (map syntax l)))) (sym is)
        (walked_then n1 n2 n3 (texts (syntax tree)) (texts_of (pieces_of (map syntax more))) o1 o2 o3 (λ later. events later a (syntax tree)) (λ later. trail later 0 a (pieces_of (map syntax more))) walked further));
  }

  pub left_none : (n1 : List Name) (o1 : List Event) (rest : List Numbered)
      → rest ≡ [] → IsLeft a n0 o0 all n1 o1 rest
      → Walked n0 n1 (texts_of (pieces_of (map syntax all))) o0 o1 (λ later. trail later 0 a (pieces_of (map syntax all)))
  left_none n1 o1 rest none left =
      left.at n1 o1
      (subst (λ l. Walked n1 n1 (texts_of (pieces_of (map syntax l))) o1 o1 (λ later. trail later 0 a (pieces_of (map syntax l)))) (sym none) (nothing n1 o1))

-- A whole walk, which begins without names and events.
module _ (a : Above) (tree : Syntax) (n1 : List Name) (o1 : List Event) (walked : Walked [] n1 (texts tree) [] o1 (λ later. events later a tree)) where
  pub all_named : n1 ≡ add_names [] (texts tree)
  all_named = walked.names

  pub all_walked : o1 ≡ events n1 a tree
  all_walked = walked.events n1 (keeps_self n1)
