-- The comparisons of a `switch`, in order.
use Rattle.std.proofs.Common.{◌≡◌, ℕ, inr, List, [], ◌∷◌, Option, Some, None, sym, ◌∙◌, subst, arith}
use Rattle.rl_hir.specs.declared.instruction.Place.{Place}
use Rattle.rl_hir.specs.declared.terminal.Case.{Case}
use Rattle.rl_machine.specs.Ends.{Notes}
use Rattle.rl_machine.specs.Machine.{at, changer, compared, tried}
use Rattle.rl_machine.specs.Traces.{Cont, matches, set_open, tested}
use Rattle.rl_runs.proofs.Common.{Answer, BlockId, Code, Store, Value, World}
use Rattle.rl_runs.proofs.Events.{stuck_tests_come}
use Rattle.rl_runs.proofs.Steps.{inside_refl, since_then}
use Rattle.rl_runs.specs.Continuations.{Eventually, Follows, Range, SharesVariables, Since}
use Rattle.rl_runs.specs.Exits.{AreCases, IsTest, switched}
use Rattle.rl_runs.specs.Facts.{AreOne, Nobody}

-- Each comparison of the terminal goes on in the block of the first case that matches, else in the default's.
module _ (c : Code) (world : World) (one : AreOne c.ident) (shares : SharesVariables c.ident world c.world)
    (r : Range) (store : Store) (notes : Notes) (answers : List Answer) (value : ℕ) (v : Value) (free : Nobody c.ident value)
    (has : store value ≡ v)
    (other : BlockId) (k_other : Cont) (behind : Follows c r store notes answers other.0 0 k_other) where
  pub compares_come : (cases : List Case) (ks : List (Option Value × Cont)) → AreCases c r store notes answers cases ks
      → (source1 store1 : Store) (rest : List Answer) → ((q : Range) → Since c q store notes answers source1 store1 notes rest)
      → Eventually c (λ stuck next. compared stuck c cases (Some other) value next next notes store1 rest)
      (switched (set_open world.opens) ks k_other v source1 rest)
  compares_come [] [] all source1 store1 rest here = behind.goes source1 store1 notes rest (here r)
  compares_come [] (k ∷ ks) all source1 store1 rest here = absurd all
  compares_come (k ∷ cases) [] all source1 store1 rest here = absurd all
  compares_come (k ∷ cases) (t ∷ ks) all source1 store1 rest here =
      by_test k.test t.0 all.0 (λ source2 store2 rest2 there. compares_come cases ks all.2 source2 store2 rest2 there)
    where
      kept : (identifier : ℕ) → Nobody c.ident identifier → store1 identifier ≡ store identifier
      kept identifier nobody =
          (here (record { identifier = 0; identifiers = 0; block = 0; blocks = 0 })).later.temporaries identifier nobody
          (inr (omega arith))

      by_test : (test : Option Place) (w : Option Value) → IsTest c store test w
          → ((source2 store2 : Store) (rest2 : List Answer) → ((q : Range) → Since c q store notes answers source2 store2 notes rest2)
          → Eventually c (λ stuck next. compared stuck c cases (Some other) value next next notes store2 rest2)
          (switched (set_open world.opens) ks k_other v source2 rest2))
          → Eventually c (λ stuck next. tried (changer c) test value (at next k.block notes)
          (compared stuck c cases (Some other) value next next notes)
          (compared stuck c cases (Some other) value next next notes) store1 rest)
          (switched (set_open world.opens) ((w, t.1) ∷ ks) k_other v source1 rest)
      by_test None None is next = next source1 store1 rest here
      by_test None (Some w) is next = absurd is
      by_test (Some place) None is next = absurd is
      by_test (Some place) (Some w) is next =
          subst (λ (x : Value). Eventually c
          (λ stuck k1. tested (changer c) (matches x (store1 place.identifier.0)) store1 rest (at k1 k.block notes)
          (compared stuck c cases (Some other) value k1 k1 notes))
          (switched (set_open world.opens) ((Some w, t.1) ∷ ks) k_other v source1 rest))
          (sym (kept value free ∙ has))
          (subst (λ (x : Value). Eventually c
          (λ stuck k1. tested (changer c) (matches v x) store1 rest (at k1 k.block notes)
          (compared stuck c cases (Some other) value k1 k1 notes))
          (switched (set_open world.opens) ((Some w, t.1) ∷ ks) k_other v source1 rest)) (sym (kept place.identifier.0 is.0 ∙ is.1))
          (stuck_tests_come c world one shares (matches v w) rest (λ stuck k1. at k1 k.block notes)
          (λ stuck k1. compared stuck c cases (Some other) value k1 k1 notes) t.1 (switched (set_open world.opens) ks k_other v)
          (here r).agrees
          (λ source2 store2 rest2 after. all.1.goes source2 store2 notes rest2 (since_then (inside_refl r) (here r).later (after.since r)))
          (λ source2 store2 rest2 after. next source2 store2 rest2 (λ q. since_then (inside_refl q) (here q).later (after.since q)))))
