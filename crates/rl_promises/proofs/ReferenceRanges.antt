-- The references of a tree, by their numbers: what is known of those in a range of numbers.
use Rattle.std.proofs.Common.{◌≡◌, ℕ, ◌+◌, ◌≤◌, ◌<◌, zero, suc, Bool, true, false, true≢false, if◌then◌else◌, Option, Some, List, [], ◌∷◌, ◌++◌, length, slice_get, append_assoc, refl, sym, ap, subst, ◌∙◌, arith}
use Rattle.rl_base.specs.declared.ids.NodeId.{NodeId}
use Rattle.rl_base.specs.declared.ids.ScopeId.{ScopeId}
use Rattle.rl_bindings.specs.Events.{front}
use Rattle.rl_bindings.specs.Names.{name_of}
use Rattle.rl_bindings.specs.Roles.{below, outside, parts_ahead, role_of}
use Rattle.rl_bindings.specs.Standing.{answers, inside, references, standing, stands_ahead, stands_within}
use Rattle.rl_bindings.specs.Symbols.{resolve}
use Rattle.rl_bindings.specs.declared.event.Bound.{Bound}
use Rattle.rl_bindings.specs.declared.event.Event.{Event}
use Rattle.rl_bindings.specs.declared.event.Event.TheVariants as event
use Rattle.rl_bindings.specs.declared.names.Name.{Name}
use Rattle.rl_bindings.specs.declared.resolve.Answer.{Answer}
use Rattle.rl_bindings.specs.declared.resolve.Reference.{Reference}
use Rattle.rl_bindings.specs.declared.role.Above.{Above}
use Rattle.rl_bindings.specs.declared.role.Role.TheVariants as role
use Rattle.rl_syntax.specs.Syntax as syntax
use Rattle.rl_syntax.specs.Syntax.{Syntax, Node, Listed, Said, Count, Flag, Absent, Pieces, End, Then, scopes, one_if, is_reference, next_byte, behind}
use Rattle.rl_syntax.specs.Syntax.{IsPlaced, ArePlaced}
use Rattle.rl_syntax.specs.Tallies.{references_of, scopes_of}
use Rattle.rl_syntax.specs.Words.{makes_scope}
use Rattle.rl_syntax.specs.declared.numbered.At.{At}
use Rattle.rl_syntax.specs.declared.numbered.Position.{Position}
use Rattle.rl_syntax.specs.declared.word.Word.{Word}
use Rattle.rl_syntax.specs.declared.word.Word.TheVariants as word

-- The references of answers in a row.

used_head : (e : Event) (o : Option ℕ) (xs ys : List Answer) → references (xs ++ ys) ≡ references xs ++ references ys
    → references (record { event = e; symbol = o } ∷ (xs ++ ys)) ≡ references (record { event = e; symbol = o } ∷ xs) ++ references ys
used_head (event.Scope s) o xs ys more = more
used_head (event.Open s) o xs ys more = more
used_head event.Close o xs ys more = more
used_head (event.Bind b) o xs ys more = more
used_head (event.Use node name) o xs ys more = ap (λ l. record { node = node; name = name; symbol = o } ∷ l) more

pub references-append : (xs ys : List Answer) → references (xs ++ ys) ≡ references xs ++ references ys
references-append [] ys = refl
references-append (x ∷ xs) ys = used_head x.event x.symbol xs ys (references-append xs ys)

module _ (Q : ℕ → Reference → Type 0) where
  -- Each of the references, whose numbers count from `first`, has the property.
  abbrev pub AllFrom : (first : ℕ) → List Reference → Type 0
  AllFrom first [] = Unit {0}
  AllFrom first (r ∷ rs) = Q first r × AllFrom (first + 1) rs

  pub from_at : (first : ℕ) (rs : List Reference) → AllFrom first rs → (k : ℕ) (r : Reference) → slice_get rs k ≡ Some r → Q (first + k) r
  from_at first [] all k r is = absurd (cc)
  from_at first (x ∷ rs) all zero r is =
      let same : x ≡ r = cc in
      let number : first ≡ first + 0 = omega arith in subst (λ n. Q n r) number (subst (λ y. Q first y) same all.0)
  from_at first (x ∷ rs) all (suc k) r is =
      let number : first + 1 + k ≡ first + suc k = omega arith in subst (λ n. Q n r) number (from_at (first + 1) rs all.1 k r is)

  -- There are `count` references, and each has the property.
  pub record AreUsed (first count : ℕ) (rs : List Reference) : Type 0 where
    pub long : length rs ≡ count
    pub all : AllFrom first rs

  pub none_used : (first : ℕ) → AreUsed first 0 []
  none_used first = record { long = refl; all = tt }

  pub used_behind : (first c d total : ℕ) (rs ss : List Reference) → AreUsed first c rs → AreUsed (first + c) d ss → total ≡ c + d
      → AreUsed first total (rs ++ ss)
  used_behind first c d total [] ss u v is =
      let none : 0 ≡ c = u.long in
      let start : first + c ≡ first = omega (arith, none) in
      let end : d ≡ total = omega (arith, none, is) in
      record { long = v.long ∙ end; all = subst (λ n. AllFrom n ss) start v.all }
  used_behind first zero d total (r ∷ rs) ss u v is = absurd (let long = u.long in omega (arith, long))
  used_behind first (suc c) d total (r ∷ rs) ss u v is =
      let long = u.long in
      let fewer : length rs ≡ c = omega (arith, long) in
      let start : first + suc c ≡ first + 1 + c = omega arith in
      let more = used_behind (first + 1) c d (c + d) rs ss (record { long = fewer; all = u.all.1 })
      (record { long = v.long; all = subst (λ n. AllFrom n ss) start v.all }) refl in
      let behind = more.long in
      record { long = omega (arith, behind, is); all = (u.all.0, more.all) }

-- No part of a node stands before it, if none is ahead.
pub ahead_none : (names : List Name) (symbols : List Bound) (a : Above) (ss : List ScopeId) (ps : Pieces)
    → stands_ahead names symbols zero a ss ps ≡ []
ahead_none names symbols a ss End = refl
ahead_none names symbols a ss (Then p ps) = refl

front_none : (names : List Name) (symbols : List Bound) (w : Word) (a : Above) (at : At) (ps : Pieces) (ss : List ScopeId)
    → is_reference w ≡ false → references (answers symbols ss (front names (role_of w) a at ps)) ≡ []
front_none names symbols word.Id a at ps ss other = absurd (true≢false other)
front_none names symbols word.Program a at ps ss other = refl
front_none names symbols word.Arrow a at ps ss other = refl
front_none names symbols word.Fundecl a at ps ss other = refl
front_none names symbols word.Funexpr a at ps ss other = refl
front_none names symbols word.Block a at ps ss other = refl
front_none names symbols word.For a at ps ss other = refl
front_none names symbols word.Forin a at ps ss other = refl
front_none names symbols word.Forof a at ps ss other = refl
front_none names symbols word.Switch a at ps ss other = refl
front_none names symbols word.Catch a at ps ss other = refl
front_none names symbols word.Classdecl a at ps ss other = refl
front_none names symbols word.Classexpr a at ps ss other = refl
front_none names symbols word.Static a at ps ss other = refl
front_none names symbols word.Bind a at ps ss other = refl
front_none names symbols _ a at ps ss other = refl

-- The references of a node: its own, and those of its parts.
module _ (names : List Name) (symbols : List Bound) (Q : ℕ → Reference → Type 0) where
  -- The parts of a node, in front of its scope and inside it.
  abbrev pub UsedBy : (w : Word) → Above → At → Pieces → (ss : List ScopeId) → (first : ℕ) → Type 0
  UsedBy w a at ps ss first =
      AreUsed Q first (references_of ps) (references (stands_ahead names symbols (parts_ahead w) (outside a w) ss ps)
      ++ references (stands_within names symbols (parts_ahead w) (below a at w ps) (inside (role_of w) at ss) ps))

  id_used : (a : Above) (at : At) (ps : Pieces) (ss : List ScopeId) (first : ℕ)
      → Q first (record { node = at.id; name = name_of names ps; symbol = resolve symbols ss (name_of names ps) })
      → UsedBy word.Id a at ps ss (first + 1)
      → AreUsed Q first (1 + references_of ps) (references (standing names symbols a ss (Node at word.Id ps)))
  id_used a at ps ss first q parts =
      let r : Reference = record { node = at.id; name = name_of names ps; symbol = resolve symbols ss (name_of names ps) } in
      let within = stands_within names symbols zero (below a at word.Id ps) ss ps in
      let behind = subst (λ l. AreUsed Q (first + 1) (references_of ps) (references l ++ references within))
      (ahead_none names symbols (outside a word.Id) ss ps) parts in
      subst (λ l. AreUsed Q first (1 + references_of ps)
      (references (l ++ (answers symbols ss (front names role.User a at ps) ++ within))))
      (sym (ahead_none names symbols (outside a word.Id) ss ps))
      (used_behind Q first 1 (references_of ps) (1 + references_of ps) (r ∷ []) (references within) (record { long = refl; all = (q, tt) })
      behind refl)

  other_used : (w : Word) (a : Above) (at : At) (ps : Pieces) (ss : List ScopeId) (first : ℕ) → is_reference w ≡ false
      → UsedBy w a at ps ss first → AreUsed Q first (references_of ps) (references (standing names symbols a ss (Node at w ps)))
  other_used w a at ps ss first none parts =
      let ahead = stands_ahead names symbols (parts_ahead w) (outside a w) ss ps in
      let here = answers symbols ss (front names (role_of w) a at ps) in
      let within = stands_within names symbols (parts_ahead w) (below a at w ps) (inside (role_of w) at ss) ps in
      subst (λ rs. AreUsed Q first (references_of ps) rs)
      (sym (references-append ahead (here ++ within)
      ∙ ap (λ rs. references ahead ++ rs)
      (references-append here within ∙ ap (λ rs. rs ++ references within) (front_none names symbols w a at ps ss none)))) parts

  pub node_used : (w : Word) (a : Above) (at : At) (ps : Pieces) (ss : List ScopeId) (from : Position)
      → (is_reference w ≡ true
      → Q from.reference (record { node = at.id; name = name_of names ps; symbol = resolve symbols ss (name_of names ps) }))
      → UsedBy w a at ps ss (syntax.inside from w).reference
      → AreUsed Q from.reference (syntax.references (Node at w ps)) (references (standing names symbols a ss (Node at w ps)))
  node_used word.Id a at ps ss from q parts =
      let count : 1 + references_of ps ≡ syntax.references (Node at word.Id ps) = omega arith in
      subst (λ n. AreUsed Q from.reference n (references (standing names symbols a ss (Node at word.Id ps)))) count
      (id_used a at ps ss from.reference (q refl) parts)
  node_used w a at ps ss from q parts =
      let count : references_of ps ≡ syntax.references (Node at w ps) = omega arith in
      let first : (syntax.inside from w).reference ≡ from.reference = omega arith in
      subst (λ n. AreUsed Q from.reference n (references (standing names symbols a ss (Node at w ps)))) count
      (other_used w a at ps ss from.reference refl (subst (λ n. UsedBy w a at ps ss n) first parts))

pub scope_counts : (w : Word) → makes_scope w ≡ true → one_if makes_scope w ≡ 1
scope_counts w maker = ap (λ (b : Bool). if b then 1 else 0) maker

pub reference_counts : (w : Word) → is_reference w ≡ true → one_if is_reference w ≡ 1
reference_counts w is = ap (λ (b : Bool). if b then 1 else 0) is

-- A fact about the scopes around a node holds of those inside it, if it holds with the scope that the node makes.
pub good_inside : (Good : List ScopeId → Type 0) (w : Word) (at : At) (ss : List ScopeId) → Good ss
    → (makes_scope w ≡ true → Good (at.scope ∷ ss)) → Good (inside (role_of w) at ss)
good_inside Good word.Program at ss good more = more refl
good_inside Good word.Arrow at ss good more = more refl
good_inside Good word.Fundecl at ss good more = more refl
good_inside Good word.Funexpr at ss good more = more refl
good_inside Good word.Block at ss good more = more refl
good_inside Good word.For at ss good more = more refl
good_inside Good word.Forin at ss good more = more refl
good_inside Good word.Forof at ss good more = more refl
good_inside Good word.Switch at ss good more = more refl
good_inside Good word.Catch at ss good more = more refl
good_inside Good word.Classdecl at ss good more = more refl
good_inside Good word.Classexpr at ss good more = more refl
good_inside Good word.Static at ss good more = more refl
good_inside Good word.Bind at ss good more = good
good_inside Good word.Id at ss good more = good
good_inside Good _ at ss good more = good

-- The references of a tree that stands in a range of numbers of references and scopes, under scopes of which something is known.
module _ (names : List Name) (symbols : List Bound) (Q : ℕ → Reference → Type 0) (Good : List ScopeId → Type 0)
    (low high low_scope high_scope : ℕ)
    (given : (n : ℕ) (node : NodeId) (name : ℕ) (ss : List ScopeId) → Good ss → low ≤ n → n < high
    → Q n (record { node = node; name = name; symbol = resolve symbols ss name }))
    (deeper : (s : ScopeId) (ss : List ScopeId) → Good ss → low_scope ≤ s.0 → s.0 < high_scope → Good (s ∷ ss)) where
  mutual
    pub tree_used : (t : Syntax) (a : Above) (ss : List ScopeId) (from : Position) → IsPlaced from t → Good ss → low ≤ from.reference
        → from.reference + syntax.references t ≤ high → low_scope ≤ from.scope → from.scope + scopes t ≤ high_scope
        → AreUsed Q from.reference (syntax.references t) (references (standing names symbols a ss t))
    tree_used (Node at w ps) a ss from placed good first last first_scope last_scope =
        node_used names symbols Q w a at ps ss from
        (λ is. given from.reference at.id (name_of names ps) ss good first (let one = reference_counts w is in omega (arith, last, one)))
        (parts_used ps (parts_ahead w) (outside a w) (below a at w ps) ss (inside (role_of w) at ss) (syntax.inside from w) placed.1 good
        (good_inside Good w at ss good (λ maker.
        let one = scope_counts w maker in
        let is = placed.0.scope in
        deeper at.scope ss good (omega (arith, first_scope, is)) (omega (arith, last_scope, is, one))))
        (omega (arith, first)) (omega (arith, last)) (omega (arith, first_scope)) (omega (arith, last_scope)))
    tree_used (Listed ps) a ss from placed good first last first_scope last_scope =
        subst (λ l. AreUsed Q from.reference (references_of ps) (references l ++ references (stands_within names symbols zero a ss ps)))
        (ahead_none names symbols a ss ps) (parts_used ps zero a a ss ss from placed good good first last first_scope last_scope)
    tree_used (Said text) a ss from placed good first last first_scope last_scope = none_used Q from.reference
    tree_used (Count number) a ss from placed good first last first_scope last_scope = none_used Q from.reference
    tree_used (Flag flag) a ss from placed good first last first_scope last_scope = none_used Q from.reference
    tree_used Absent a ss from placed good first last first_scope last_scope = none_used Q from.reference

    pub parts_used : (ps : Pieces) (n : ℕ) (a b : Above) (ss ts : List ScopeId) (from : Position) → ArePlaced from ps → Good ss → Good ts
        → low ≤ from.reference → from.reference + references_of ps ≤ high → low_scope ≤ from.scope
        → from.scope + scopes_of ps ≤ high_scope
        → AreUsed Q from.reference (references_of ps)
        (references (stands_ahead names symbols n a ss ps) ++ references (stands_within names symbols n b ts ps))
    parts_used End n a b ss ts from placed good inner first last first_scope last_scope = none_used Q from.reference
    parts_used (Then p ps) zero a b ss ts from placed good inner first last first_scope last_scope =
        let within = stands_within names symbols zero b ts ps in
        let more = subst (λ l. AreUsed Q (from.reference + syntax.references p) (references_of ps) (references l ++ references within))
        (ahead_none names symbols a ss ps)
        (parts_used ps zero a b ss ts (behind (next_byte from) p) placed.1 good inner (omega (arith, first)) (omega (arith, last))
        (omega (arith, first_scope)) (omega (arith, last_scope))) in
        subst (λ rs. AreUsed Q from.reference (references_of (Then p ps)) rs)
        (sym (references-append (standing names symbols b ts p) within))
        (used_behind Q from.reference (syntax.references p) (references_of ps) (references_of (Then p ps))
        (references (standing names symbols b ts p)) (references within)
        (tree_used p b ts (next_byte from) placed.0 inner first (omega (arith, last)) first_scope (omega (arith, last_scope))) more
        (omega arith))
    parts_used (Then p ps) (suc n) a b ss ts from placed good inner first last first_scope last_scope =
        let ahead = stands_ahead names symbols n a ss ps in
        let within = stands_within names symbols n b ts ps in
        let more = parts_used ps n a b ss ts (behind (next_byte from) p) placed.1 good inner (omega (arith, first)) (omega (arith, last))
        (omega (arith, first_scope)) (omega (arith, last_scope)) in
        subst (λ rs. AreUsed Q from.reference (references_of (Then p ps)) rs)
        (sym (ap (λ rs. rs ++ references within) (references-append (standing names symbols a ss p) ahead)
        ∙ append_assoc (references (standing names symbols a ss p)) (references ahead) (references within)))
        (used_behind Q from.reference (syntax.references p) (references_of ps) (references_of (Then p ps))
        (references (standing names symbols a ss p)) (references ahead ++ references within)
        (tree_used p a ss (next_byte from) placed.0 good first (omega (arith, last)) first_scope (omega (arith, last_scope))) more
        (omega arith))
