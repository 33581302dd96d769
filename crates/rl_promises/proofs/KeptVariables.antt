-- Expressions of a covered function keep each variable that no lowered function assigns: behind an expression it has its old value.
use Rattle.std.proofs.Common.{◌≡◌, ℕ, Bool, true, false, true≢false, nat_eq, eqb-true, if◌then◌else◌, List, refl, sym, ap, ◌∙◌}
use Rattle.rl_machine.specs.Traces.{Cont, Store, set}
use Rattle.rl_machine.specs.declared.trace.Answer.{Answer}
use Rattle.rl_machine.specs.declared.trace.Event.{Event}
use Rattle.rl_model.specs.Actions.{Action, Ways, test}
use Rattle.rl_model.specs.Code.{contains}
use Rattle.rl_model.specs.Expressions.{eval, place}
use Rattle.rl_model.specs.Scene.{Scene}
use Rattle.rl_promises.proofs.OrderlyCalls.{LendAlike, LendsAlike}
use Rattle.rl_promises.proofs.ReadNames.{read_among, read_in}
use Rattle.rl_promises.proofs.RelatedStores as related
use Rattle.rl_promises.proofs.RelatedStores.{Relates, Relation, eval_relates, relates_test}
use Rattle.rl_syntax.specs.Syntax.{Syntax, Node, Pieces}
use Rattle.rl_syntax.specs.declared.numbered.At.{At}
use Rattle.rl_syntax.specs.declared.word.Word.TheVariants as word

-- The variables that no function assigns have their old values.
abbrev pub Agree : (assigned : List ℕ) → (after before : Store) → Type 0
Agree assigned after before = (symbol : ℕ) → contains assigned symbol ≡ false → after symbol ≡ before symbol

-- The ways, where a chain that ends early goes on with `short`.
abbrev pub ending : Ways → (short : Cont) → Ways
ending ways short = record ways { short = short }

-- Behind the action these variables have their old values, also where a chain ends early: what comes behind it matters for such stores
-- alone.
pub record Keeps (assigned : List ℕ) {A : Type 0} (action : Action A) : Type 0 where
  pub holds : (ways : Ways) (h k : Cont) (f g : A → Cont) (store : Store) (answers : List Answer)
      → ((after : Store) (rest : List Answer) → Agree assigned after store → h after rest ≡ k after rest)
      → ((a : A) (after : Store) (rest : List Answer) → Agree assigned after store → f a after rest ≡ g a after rest)
      → action (ending ways h) f store answers ≡ action (ending ways k) g store answers

module _ (t : Scene) (assigned : List ℕ) (closed : (symbol : ℕ) → t.world.opens symbol ≡ false) where
  pub agree_then : (last middle first : Store) → Agree assigned last middle → Agree assigned middle first → Agree assigned last first
  agree_then last middle first later before symbol kept = later symbol kept ∙ before symbol kept

  other_symbol : (assigned_one kept : ℕ) → contains assigned assigned_one ≡ true → contains assigned kept ≡ false
      → nat_eq kept assigned_one ≡ false
  other_symbol assigned_one kept there gone = by_test (nat_eq kept assigned_one) refl
    where
      by_test : (b : Bool) → nat_eq kept assigned_one ≡ b → b ≡ false
      by_test false is = refl
      by_test true is =
          absurd (true≢false (sym there ∙ ap (contains assigned) (sym (eqb-true kept assigned_one is)) ∙ gone))

  -- Two stores that are one, in which these variables have the values of the first.
  abbrev kept_from : (first : Store) → Relation assigned
  kept_from first = record {
    Reads = λ symbol. Unit {0};
    R = λ one other. (one ≡ other) × Agree assigned other first;
    read = λ symbol reads one other same. λ i. same.0 i symbol;
    write = λ symbol reads there v one other same. (
      (λ i. set (same.0 i) symbol v),
      (λ kept gone. ap (λ (b : Bool). if b then v else other kept) (other_symbol symbol kept there gone) ∙ same.1 kept gone),
    );
  }

  keeps_by : {A : Type 0} (action : Action A) → ((first : Store) → Relates (kept_from first).R action) → Keeps assigned action
  keeps_by action relates = record {
    holds = λ ways h k f g store answers short same.
        (relates store).holds (ending ways h) (ending ways k) f g store store answers (refl, (λ symbol gone. refl))
        (λ v one other rest are. λ i. ways.throws v (are.0 i) rest)
        (λ one other rest are. (λ i. h (are.0 i) rest) ∙ short other rest are.1)
        (λ a one other rest are. (λ i. f a (are.0 i) rest) ∙ same a other rest are.1);
  }

  pub keeps_test : (event : Event) → Keeps assigned (test t event)
  keeps_test event = keeps_by (test t event) (λ first. relates_test t closed event)

  pub eval_keeps : (e : Syntax) → LendsAlike t.names assigned e → Keeps assigned (eval t e)
  eval_keeps e covered =
      keeps_by (eval t e) (λ first.
      eval_relates t assigned closed (kept_from first) e
      (read_in t.names assigned (λ symbol. Unit {0}) e covered (λ symbol there. tt)))

  -- The object and the key of a property.

  pub member_placed : (at : At) (parts : Pieces) → LendAlike t.names assigned parts → Keeps assigned (place t (Node at word.Member parts))
  member_placed at parts covered =
      keeps_by (place t (Node at word.Member parts)) (λ first.
      related.member_placed t assigned closed (kept_from first) at parts
      (read_among t.names assigned (λ symbol. Unit {0}) parts covered (λ symbol there. tt)))

  pub index_placed : (at : At) (parts : Pieces) → LendAlike t.names assigned parts → Keeps assigned (place t (Node at word.Index parts))
  index_placed at parts covered =
      keeps_by (place t (Node at word.Index parts)) (λ first.
      related.index_placed t assigned closed (kept_from first) at parts
      (read_among t.names assigned (λ symbol. Unit {0}) parts covered (λ symbol there. tt)))
