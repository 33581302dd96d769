-- The symbols that a tree mentions: those of its declarations, and those that its references stand for.
use Rattle.std.proofs.Common.{◌≡◌, ℕ, ◌+◌, ◌≤◌, ◌<◌, zero, suc, ◌⊎◌, inl, inr, Some, List, refl, arith}
use Rattle.rl_base.specs.declared.ids.SymbolId.{SymbolId}
use Rattle.rl_bindings.specs.Events.{bound_of}
use Rattle.rl_bindings.specs.Roles.{below, outside, parts_ahead, role_of}
use Rattle.rl_bindings.specs.declared.event.Bound.{Bound}
use Rattle.rl_bindings.specs.declared.names.Name.{Name}
use Rattle.rl_bindings.specs.declared.role.Above.{Above}
use Rattle.rl_names.proofs.Declarations.{declares, declares_among, own}
use Rattle.rl_names.proofs.Items.{Has, has_left, has_right}
use Rattle.rl_names.specs.Names.{Names}
use Rattle.rl_names.specs.declared.names.Meaning.TheVariants.{Local}
use Rattle.rl_promises.specs.Locals.{Mentions, MentionsAmong}
use Rattle.rl_syntax.specs.Syntax as syntax
use Rattle.rl_syntax.specs.Syntax.{Syntax, Node, Listed, Said, Count, Flag, Absent, Pieces, End, Then, next_byte, behind, IsPlaced, ArePlaced}
use Rattle.rl_syntax.specs.Tallies.{references_of}
use Rattle.rl_syntax.specs.declared.numbered.At.{At}
use Rattle.rl_syntax.specs.declared.numbered.Position.{Position}
use Rattle.rl_syntax.specs.declared.word.Word.{Word}
use Rattle.rl_syntax.specs.declared.word.Word.TheVariants as word

module _ (names : Names) (table : List Name) (symbol : SymbolId) where
  -- A reference of a number from `first` on, one of `count`, stands for the symbol.
  pub record IsUse (first count : ℕ) : Type 0 where
    pub reference : ℕ
    pub name : List ℕ
    pub low : first ≤ reference
    pub high : reference < first + count
    pub means : names.meaning reference name ≡ Local symbol

  -- A declaration among these declares the symbol.
  pub record IsDeclaration (bs : List Bound) : Type 0 where
    pub bound : Bound
    pub has : Has bs bound
    pub declares_it : names.declared bound.node.0 ≡ Some symbol

  abbrev pub Either : (first count : ℕ) → List Bound → Type 0
  Either first count bs = IsUse first count ⊎ IsDeclaration bs

  wider : (first count low all : ℕ) (bs cs : List Bound) → low ≤ first → first + count ≤ low + all
      → ((b : Bound) → Has bs b → Has cs b) → Either first count bs → Either low all cs
  wider first count low all bs cs one two more (inl there) =
      let down = there.low in
      let up = there.high in
      inl (record {
        reference = there.reference;
        name = there.name;
        low = omega (arith, one, down);
        high = omega (arith, two, up);
        means = there.means;
      })
  wider first count low all bs cs one two more (inr declaration) = inr (record {
    bound = declaration.bound;
    has = more declaration.bound declaration.has;
    declares_it = declaration.declares_it;
  })

  node_wider : (at : At) (w : Word) (ps : Pieces) (a : Above) (from : Position)
      → Either (syntax.inside from w).reference (references_of ps) (declares_among table (parts_ahead w) (outside a w) (below a at w ps) ps)
      → Either from.reference (syntax.references (Node at w ps)) (declares table a (Node at w ps))
  node_wider at w ps a from e =
      let more = declares_among table (parts_ahead w) (outside a w) (below a at w ps) ps in
      wider (syntax.inside from w).reference (references_of ps) from.reference (syntax.references (Node at w ps)) more
      (declares table a (Node at w ps)) (omega arith) (omega arith) (λ b has. has_right (own table (role_of w) a at ps) more b has) e

  mutual
    pub mentioned : (t : Syntax) (a : Above) (from : Position) → IsPlaced from t → Mentions names symbol t
        → Either from.reference (syntax.references t) (declares table a t)
    mentioned (Node at word.Type ps) a from placed m = absurd m
    mentioned (Node at word.Bind ps) a from placed m =
        inr (record { bound = bound_of table a at ps; has = inl refl; declares_it = m })
    mentioned (Node at word.Id (Then (Said name) End)) a from placed m =
        let is = placed.0.reference in
        inl (record { reference = at.reference.0; name = name; low = omega (arith, is); high = omega (arith, is); means = m })
    mentioned (Node at w ps) a from placed m =
        node_wider at w ps a from
        (mentioned_among ps (parts_ahead w) (outside a w) (below a at w ps) (syntax.inside from w) placed.1 m)
    mentioned (Listed ps) a from placed m = mentioned_among ps zero a a from placed m
    mentioned (Said text) a from placed m = absurd m
    mentioned (Count number) a from placed m = absurd m
    mentioned (Flag flag) a from placed m = absurd m
    mentioned Absent a from placed m = absurd m

    mentioned_among : (ps : Pieces) (n : ℕ) (a b : Above) (from : Position) → ArePlaced from ps → MentionsAmong names symbol ps
        → Either from.reference (references_of ps) (declares_among table n a b ps)
    mentioned_among End n a b from placed m = absurd m
    mentioned_among (Then p ps) zero a b from placed (inl here) =
        wider from.reference (syntax.references p) from.reference (references_of (Then p ps)) (declares table b p)
        (declares_among table zero a b (Then p ps)) (omega arith) (omega arith)
        (λ d has. has_left (declares table b p) (declares_among table zero a b ps) d has) (mentioned p b (next_byte from) placed.0 here)
    mentioned_among (Then p ps) zero a b from placed (inr there) =
        wider (from.reference + syntax.references p) (references_of ps) from.reference (references_of (Then p ps))
        (declares_among table zero a b ps) (declares_among table zero a b (Then p ps)) (omega arith) (omega arith)
        (λ d has. has_right (declares table b p) (declares_among table zero a b ps) d has)
        (mentioned_among ps zero a b (behind (next_byte from) p) placed.1 there)
    mentioned_among (Then p ps) (suc n) a b from placed (inl here) =
        wider from.reference (syntax.references p) from.reference (references_of (Then p ps)) (declares table a p)
        (declares_among table (suc n) a b (Then p ps)) (omega arith) (omega arith)
        (λ d has. has_left (declares table a p) (declares_among table n a b ps) d has) (mentioned p a (next_byte from) placed.0 here)
    mentioned_among (Then p ps) (suc n) a b from placed (inr there) =
        wider (from.reference + syntax.references p) (references_of ps) from.reference (references_of (Then p ps))
        (declares_among table n a b ps) (declares_among table (suc n) a b (Then p ps)) (omega arith) (omega arith)
        (λ d has. has_right (declares table a p) (declares_among table n a b ps) d has)
        (mentioned_among ps n a b (behind (next_byte from) p) placed.1 there)
