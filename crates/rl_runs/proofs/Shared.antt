-- The variables that a function shares with others: answers change them alike in source and graph, and a return hands on their values.
use Rattle.std.proofs.Common.{◌≡◌, ℕ, ◌≤◌, inl, inr, Bool, true, false, if◌then◌else◌, List, [], ◌∷◌, All, length, map, Option, Some}
use Rattle.std.proofs.Common.{None, refl, sym, ap, ◌∙◌, subst}
use Rattle.std.proofs.lemmas.Bool.Decides.{eqb_tells}
use Rattle.std.proofs.lemmas.List.Elements.{All-head, All-tail}
use Rattle.std.proofs.lemmas.Option.{none-some, same_Some}
use Rattle.rl_machine.specs.declared.trace.Assignment.{Assignment}
use Rattle.rl_machine.specs.Ends.{Notes}
use Rattle.rl_machine.specs.Machine.{changer, kept_by, set_by, set_where, value_where}
use Rattle.rl_machine.specs.Traces.{set, set_open}
use Rattle.rl_runs.proofs.Common.{Answer, Code, Store, Value, World}
use Rattle.rl_runs.proofs.Steps.{set_other, set_same}
use Rattle.rl_runs.specs.Continuations.{Agrees, Range, SharesVariables, Since, kept_in}
use Rattle.rl_runs.specs.Facts.{AreOne, Nobody}

module _ (ident : ℕ → Option ℕ) (one : AreOne ident) where
  -- A symbol and its identifier take a value.
  pub agrees_store : (source store : Store) (symbol identifier : ℕ) (v : Value) → ident symbol ≡ Some identifier
      → Agrees ident source store
      → Agrees ident (set source symbol v) (set store identifier v)
  agrees_store source store symbol identifier v has a = record {
    at = λ other found is. elim (eqb_tells other symbol) [
      | inl same ↦ (let told : found ≡ identifier = same_Some found identifier (sym is ∙ ap ident same.1 ∙ has) in
          ap (λ (n : ℕ). set store identifier v n) told ∙ set_same store identifier v
          ∙ sym (ap (λ (n : ℕ). set source symbol v n) same.1 ∙ set_same source symbol v))
      | inr apart ↦ (let ne : found ≡ identifier → ⊥ = λ e. apart.1 (one other symbol identifier (is ∙ ap (λ (n : ℕ). Some n) e) has) in
          set_other store identifier found v ne ∙ a.at other found is ∙ sym (set_other source symbol other v apart.1))
    ];
  }

  -- A symbol without an identifier has a value in the source alone.
  pub agrees_where : (source store : Store) (symbol : ℕ) (v : Value) (o : Option ℕ) → ident symbol ≡ o → Agrees ident source store
      → Agrees ident (set source symbol v) (set_where o store v)
  agrees_where source store symbol v None none a = record {
    at = λ other found is.
        let ne : other ≡ symbol → ⊥ = λ e. none-some found (sym none ∙ ap ident (sym e) ∙ is) in
        a.at other found is ∙ sym (set_other source symbol other v ne);
  }
  agrees_where source store symbol v (Some identifier) has a = agrees_store source store symbol identifier v has a

  module _ (source graph : World) (shares : SharesVariables ident source graph) where
    agrees_opened : (before after : Store) (symbol : ℕ) (v : Value) → Agrees ident before after → (b : Bool)
        → Agrees ident (if b then set before symbol v else before) (if b then set_where (ident symbol) after v else after)
    agrees_opened before after symbol v a true = agrees_where before after symbol v (ident symbol) refl a
    agrees_opened before after symbol v a false = a

    -- The stores agree behind an answer's assignments.
    pub agrees_changed : (assignments : List Assignment) (before after : Store) → Agrees ident before after
        → Agrees ident (set_open source.opens assignments before) (set_by ident graph.opens assignments after)
    agrees_changed [] before after a = a
    agrees_changed (x ∷ assignments) before after a =
        agrees_changed assignments _ _
        (subst (λ (b : Bool). Agrees ident (if b then set before x.symbol.0 x.value else before)
        (if graph.opens x.symbol.0 then set_where (ident x.symbol.0) after x.value else after))
        (sym (shares.opens x.symbol.0)) (agrees_opened before after x.symbol.0 x.value a (graph.opens x.symbol.0)))

-- An answer leaves identifiers that are no symbol's.
module _ (ident : ℕ → Option ℕ) (opens : ℕ → Bool) (identifier : ℕ) (free : Nobody ident identifier) where
  kept_where : (symbol : ℕ) (v : Value) (store : Store) (o : Option ℕ) → ident symbol ≡ o
      → set_where o store v identifier ≡ store identifier
  kept_where symbol v store None none = refl
  kept_where symbol v store (Some own) given =
      set_other store own identifier v (λ e. free symbol (given ∙ ap (λ (n : ℕ). Some n) (sym e)))

  kept_one : (b : Bool) (symbol : ℕ) (v : Value) (store : Store)
      → (if b then set_where (ident symbol) store v else store) identifier ≡ store identifier
  kept_one true symbol v store = kept_where symbol v store (ident symbol) refl
  kept_one false symbol v store = refl

  pub kept_changed : (assignments : List Assignment) (store : Store)
      → set_by ident opens assignments store identifier ≡ store identifier
  kept_changed [] store = refl
  kept_changed (x ∷ assignments) store =
      kept_changed assignments _ ∙ kept_one (opens x.symbol.0) x.symbol.0 x.value store

module _ (c : Code) (world : World) (one : AreOne c.ident) (shares : SharesVariables c.ident world c.world) where
  -- The point behind an answer, for every range.
  pub since_answer : {source store : Store} {notes : Notes} {rest : List Answer} (answers : List Answer) (assignments : List Assignment)
      → Agrees c.ident source store → length rest ≤ length answers
      → (r : Range) → Since c r store notes answers (set_open world.opens assignments source) (changer c assignments store) notes rest
  since_answer {source} {store} {notes} {rest} answers assignments a fewer r = record {
    agrees = agrees_changed c.ident one world c.world shares assignments source store a;
    later = record {
      temporaries = λ identifier free outside. kept_changed c.ident c.world.opens identifier free assignments store;
      marks = λ block outside. refl;
      fewer = fewer;
    };
  }

-- A variable takes a value, on both sides.
pub since_store : {c : Code} {r : Range} {store : Store} {notes : Notes} {answers : List Answer} {source1 store1 : Store}
    {notes1 : Notes} {answers1 : List Answer}
    (symbol identifier : ℕ) (v : Value) → AreOne c.ident → c.ident symbol ≡ Some identifier
    → Since c r store notes answers source1 store1 notes1 answers1
    → Since c r store notes answers (set source1 symbol v) (set store1 identifier v) notes1 answers1
since_store {c} {r} {store} {notes} {answers} {source1} {store1} {notes1} {answers1} symbol identifier v one given t = record {
  agrees = agrees_store c.ident one source1 store1 symbol identifier v given t.agrees;
  later = record {
    temporaries = λ other nobody outside.
        let ne : other ≡ identifier → ⊥ = λ e. nobody symbol (given ∙ ap (λ (n : ℕ). Some n) (sym e)) in
        set_other store1 identifier other v ne ∙ t.later.temporaries other nobody outside;
    marks = t.later.marks;
    fewer = t.later.fewer;
  };
}

-- A return gives other functions the same values.
pub kept_same : (c : Code) (world : World) (source store : Store) → Agrees c.ident source store
    → SharesVariables c.ident world c.world → kept_by c store ≡ kept_in world source
kept_same c world source store a shares =
    along c.world.keeps shares.known
    ∙ ap (λ (symbols : List ℕ). map (λ (symbol : ℕ). kept symbol (source symbol)) symbols) (sym shares.keeps)
  where
    kept : (symbol : ℕ) → Value → Assignment
    kept symbol v = record { symbol = record { 0 = symbol }; value = v }

    IsKnown : ℕ → Type 0
    IsKnown symbol = (identifier : ℕ) × (c.ident symbol ≡ Some identifier)

    same : (symbol : ℕ) → IsKnown symbol → value_where (c.ident symbol) store ≡ source symbol
    same symbol known = ap (λ (o : Option ℕ). value_where o store) known.1 ∙ a.at symbol known.0 known.1

    along : (symbols : List ℕ) → All IsKnown symbols
        → map (λ (symbol : ℕ). kept symbol (value_where (c.ident symbol) store)) symbols
        ≡ map (λ (symbol : ℕ). kept symbol (source symbol)) symbols
    along [] known = refl
    along (symbol ∷ symbols) known =
        ap (λ (v : Value). kept symbol v ∷ map (λ (other : ℕ). kept other (value_where (c.ident other) store)) symbols)
        (same symbol (All-head IsKnown symbol symbols known))
        ∙ ap (λ (l : List Assignment). kept symbol (source symbol) ∷ l) (along symbols (All-tail IsKnown symbol symbols known))
