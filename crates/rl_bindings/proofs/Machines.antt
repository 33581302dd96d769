-- The run over events answers with what names stand for.
use Rattle.std.proofs.Common.{◌≡◌, ◌<◌, ℕ, zero, suc, true, false, true≢false, Option, Some, None, is_some, List, [], ◌∷◌, ◌++◌, length, append-nil, append_assoc, refl, sym, ap, subst, ◌∙◌}
use Rattle.rl_base.specs.declared.ids.ScopeId.{ScopeId}
use Rattle.rl_bindings.specs.Events.{bound_of, events, lead, trail, sign, front, back}
use Rattle.rl_bindings.specs.Machines.{look, write_all, overwritten, entries_at, run}
use Rattle.rl_bindings.specs.Names.{name_of}
use Rattle.rl_bindings.specs.Roles.{role_of, parts_ahead, outside, below}
use Rattle.rl_bindings.specs.Standing.{inside, answers, standing, stands_ahead, stands_within}
use Rattle.rl_bindings.specs.Symbols.{option_or, binding, resolve}
use Rattle.rl_bindings.specs.declared.event.Bound.{Bound}
use Rattle.rl_bindings.specs.declared.event.Event.{Event}
use Rattle.rl_bindings.specs.declared.event.Event.TheVariants as event
use Rattle.rl_bindings.specs.declared.names.Name.{Name}
use Rattle.rl_bindings.specs.declared.resolve.Answer.{Answer}
use Rattle.rl_bindings.specs.declared.resolve.Entry.{Entry}
use Rattle.rl_bindings.specs.declared.role.Above.{Above}
use Rattle.rl_bindings.specs.declared.role.Role.{Role}
use Rattle.rl_bindings.specs.declared.role.Role.TheVariants as role
use Rattle.rl_bindings.proofs.Entries.{AreNamed, says-at, has-below, has-binding}
use Rattle.rl_bindings.proofs.LookUps.{by_test, has, length-write, look-write_not, look-write_has, undone}
use Rattle.rl_syntax.specs.Syntax.{Syntax, Node, Listed, Said, Count, Flag, Absent, Pieces, End, Then}
use Rattle.rl_syntax.specs.declared.numbered.At.{At}
use Rattle.rl_syntax.specs.declared.word.Word.{Word}

-- The list has for each name the symbol that it stands for under `ss`.
pub record Stands (most : ℕ) (symbols : List Bound) (ss : List ScopeId) (env : List (Option ℕ)) : Type 0 where
  pub size : length env ≡ most
  pub at : (n : ℕ) → look env n ≡ resolve symbols ss n

or_some : (a b : Option ℕ) → is_some a ≡ true → option_or a b ≡ a
or_some None b some = absurd (true≢false (sym some))
or_some (Some x) b some = refl

or_none : (a b : Option ℕ) → is_some a ≡ false → option_or a b ≡ b
or_none None b none = refl
or_none (Some x) b none = absurd (true≢false none)

module _ (most : ℕ) (symbols : List Bound) (named : AreNamed most symbols) where
  begins : (s : ScopeId) (ss : List ScopeId) (env : List (Option ℕ)) → Stands most symbols ss env → Stands most symbols (s ∷ ss) (write_all (entries_at symbols s.0) env)
  begins s ss env stands = record {
    size = length-write (entries_at symbols s.0) env ∙ stands.size;
    at = λ n. by_test (has (entries_at symbols s.0) n)
        (λ some. look-write_has (binding symbols s.0) (entries_at symbols s.0) env n
        (subst (λ m. n < m) (sym stands.size) (has-below most symbols s.0 n named some))
        (says-at symbols s.0) some
        ∙ sym (or_some (binding symbols s.0 n) (resolve symbols ss n) (sym (has-binding symbols s.0 n) ∙ some)))
        (λ none. look-write_not (entries_at symbols s.0) env n none
        ∙ stands.at n
        ∙ sym (or_none (binding symbols s.0 n) (resolve symbols ss n) (sym (has-binding symbols s.0 n) ∙ none)));
  }

  -- Events under these scopes give these answers, and leave the list of symbols and the frames as they were.
  abbrev pub Runs : List ScopeId → List Event → List Answer → Type 0
  Runs ss es found = (env : List (Option ℕ)) (frames : List (List Entry)) (rest : List Event) → Stands most symbols ss env
      → run (entries_at symbols) env frames (es ++ rest) ≡ found ++ run (entries_at symbols) env frames rest

  runs-none : (ss : List ScopeId) → Runs ss [] []
  runs-none ss env frames rest stands = refl

  runs-append : (ss : List ScopeId) (es fs : List Event) (xs ys : List Answer) → Runs ss es xs → Runs ss fs ys → Runs ss (es ++ fs) (xs ++ ys)
  runs-append ss es fs xs ys first second env frames rest stands =
      ap (run (entries_at symbols) env frames) (append_assoc es fs rest)
      ∙ first env frames (fs ++ rest) stands
      ∙ ap (λ l. xs ++ l) (second env frames rest stands)
      ∙ sym (append_assoc xs ys (run (entries_at symbols) env frames rest))

  runs-scope : (s : ScopeId) (ss : List ScopeId) (es : List Event) (xs : List Answer) → Runs (s ∷ ss) es xs → Runs ss (event.Open s ∷ (es ++ event.Close ∷ [])) xs
  runs-scope s ss es xs inner env frames rest stands =
      let entries = entries_at symbols s.0 in
      ap (run (entries_at symbols) (write_all entries env) (overwritten entries env ∷ frames)) (append_assoc es (event.Close ∷ []) rest)
      ∙ inner (write_all entries env) (overwritten entries env ∷ frames) (event.Close ∷ rest) (begins s ss env stands)
      ∙ ap (λ l. xs ++ run (entries_at symbols) l frames rest) (undone entries env)

  runs-bind : (b : Bound) (ss : List ScopeId) → Runs ss (event.Bind b ∷ []) (answers symbols ss (event.Bind b ∷ []))
  runs-bind b ss env frames rest stands = ap (λ o. record { event = event.Bind b; symbol = o } ∷ run (entries_at symbols) env frames rest) (stands.at b.name)

  runs-sign : (r : Role) (a : Above) (at : At) (word : Word) (ss : List ScopeId) → Runs ss (sign r a at word) []
  runs-sign role.Maker a at word ss = λ env frames rest stands. refl
  runs-sign role.Binder a at word ss = runs-none ss
  runs-sign role.User a at word ss = runs-none ss
  runs-sign role.Plain a at word ss = runs-none ss

  module _ (names : List Name) where
    runs-front : (r : Role) (a : Above) (at : At) (ps : Pieces) (ss : List ScopeId) (es : List Event) (xs : List Answer) → Runs (inside r at ss) es xs → Runs ss (front names r a at ps ++ (es ++ back r)) (answers symbols ss (front names r a at ps) ++ xs)
    runs-front role.Maker a at ps ss es xs inner = runs-scope at.scope ss es xs inner
    runs-front role.Binder a at ps ss es xs inner =
        subst (λ fs. Runs ss (front names role.Binder a at ps ++ fs) (answers symbols ss (front names role.Binder a at ps) ++ xs)) (sym (append-nil es))
        (runs-append ss (front names role.Binder a at ps) es (answers symbols ss (front names role.Binder a at ps)) xs (runs-bind (bound_of names a at ps) ss) inner)
    runs-front role.User a at ps ss es xs inner =
        subst (λ fs. Runs ss (front names role.User a at ps ++ fs) (answers symbols ss (front names role.User a at ps) ++ xs)) (sym (append-nil es))
        (runs-append ss (front names role.User a at ps) es (answers symbols ss (front names role.User a at ps)) xs
        (λ env frames rest stands. ap (λ o. record { event = event.Use at.id (name_of names ps); symbol = o } ∷ run (entries_at symbols) env frames rest) (stands.at (name_of names ps))) inner)
    runs-front role.Plain a at ps ss es xs inner = subst (λ fs. Runs ss fs xs) (sym (append-nil es)) inner

    runs-node : (r : Role) (a : Above) (at : At) (word : Word) (ps : Pieces) (ss : List ScopeId) (ls es : List Event) (xs ys : List Answer) → Runs ss ls xs → Runs (inside r at ss) es ys
        → Runs ss (sign r a at word ++ (ls ++ (front names r a at ps ++ (es ++ back r)))) (xs ++ (answers symbols ss (front names r a at ps) ++ ys))
    runs-node r a at word ps ss ls es xs ys ahead within =
        runs-append ss (sign r a at word) (ls ++ (front names r a at ps ++ (es ++ back r))) [] (xs ++ (answers symbols ss (front names r a at ps) ++ ys))
        (runs-sign r a at word ss)
        (runs-append ss ls (front names r a at ps ++ (es ++ back r)) xs (answers symbols ss (front names r a at ps) ++ ys) ahead (runs-front r a at ps ss es ys within))

    mutual
      pub runs-tree : (t : Syntax) (a : Above) (ss : List ScopeId) → Runs ss (events names a t) (standing names symbols a ss t)
      runs-tree (Node at word ps) a ss =
          runs-node (role_of word) a at word ps ss (lead names (parts_ahead word) (outside a word) ps) (trail names (parts_ahead word) (below a at word ps) ps)
          (stands_ahead names symbols (parts_ahead word) (outside a word) ss ps) (stands_within names symbols (parts_ahead word) (below a at word ps) (inside (role_of word) at ss) ps)
          (runs-lead ps (parts_ahead word) (outside a word) ss)
          (runs-trail ps (parts_ahead word) (below a at word ps) (inside (role_of word) at ss))
      runs-tree (Listed ps) a ss = runs-trail ps 0 a ss
      runs-tree (Said text) a ss = runs-none ss
      runs-tree (Count number) a ss = runs-none ss
      runs-tree (Flag flag) a ss = runs-none ss
      runs-tree Absent a ss = runs-none ss

      runs-lead : (ps : Pieces) (n : ℕ) (a : Above) (ss : List ScopeId) → Runs ss (lead names n a ps) (stands_ahead names symbols n a ss ps)
      runs-lead End n a ss = runs-none ss
      runs-lead (Then p ps) zero a ss = runs-none ss
      runs-lead (Then p ps) (suc n) a ss = runs-append ss (events names a p) (lead names n a ps) (standing names symbols a ss p) (stands_ahead names symbols n a ss ps) (runs-tree p a ss) (runs-lead ps n a ss)

      runs-trail : (ps : Pieces) (n : ℕ) (a : Above) (ss : List ScopeId) → Runs ss (trail names n a ps) (stands_within names symbols n a ss ps)
      runs-trail End n a ss = runs-none ss
      runs-trail (Then p ps) zero a ss = runs-append ss (events names a p) (trail names zero a ps) (standing names symbols a ss p) (stands_within names symbols zero a ss ps) (runs-tree p a ss) (runs-trail ps zero a ss)
      runs-trail (Then p ps) (suc n) a ss = runs-trail ps n a ss
