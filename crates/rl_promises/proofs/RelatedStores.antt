-- Expressions of a covered function run alike from two stores that are related, where reads and assignments of the function's variables
-- keep them related.
use Rattle.std.proofs.Common.{◌≡◌, ℕ, Bool, true, false, true≢false, ◌&&◌, ◌||◌, eq-eqb, not, if◌then◌else◌, List, [], ◌∷◌, ◌++◌, codes}
use Rattle.std.proofs.Common.{refl, sym, ap, subst, ◌∙◌}
use Rattle.std.specs.Str.{bytes_eq}
use Rattle.rl_machine.specs.Traces.{Cont, Store, by_kind, emit, nullish, set, set_open, truthy}
use Rattle.rl_machine.specs.declared.trace.Answer.{Answer}
use Rattle.rl_machine.specs.declared.trace.Assignment.{Assignment}
use Rattle.rl_machine.specs.declared.trace.Event.{Event}
use Rattle.rl_machine.specs.declared.trace.Value.{Value}
use Rattle.rl_machine.specs.declared.trace.Value.TheVariants as value
use Rattle.rl_model.specs.Actions.{Action, Ways, ◌>>=◌, ◌>>◌, answer_to, ask, assign, chained, end_short, give, no_meaning, test, variable}
use Rattle.rl_model.specs.Code.{assigned_among, assigned_by, contains, local_of}
use Rattle.rl_model.specs.Events as events
use Rattle.rl_model.specs.Expressions.{assign_items, assign_to, assignment, assignment_in, called, callee, compound, delete_property, eval}
use Rattle.rl_model.specs.Expressions.{eval_last, first_piece, key_in, later_pieces, needs_right, one_value, or_default, place}
use Rattle.rl_model.specs.Expressions.{property_key, read, take_apart, unless_nullish, update_name, update_property, values, values_of}
use Rattle.rl_model.specs.Expressions.{write, write_property}
use Rattle.rl_model.specs.Orderly.{used_at}
use Rattle.rl_model.specs.Scene.{Scene}
use Rattle.rl_model.specs.Shapes as shapes
use Rattle.rl_names.specs.declared.names.Meaning.{Meaning}
use Rattle.rl_names.specs.declared.names.Meaning.TheVariants.{Local, Outer}
use Rattle.rl_promises.proofs.OrderlyCalls.{Each, EachAmong, EachFirst, IsOrderlyAt, contains_left, contains_right}
use Rattle.rl_promises.proofs.ReadNames.{IsReadAt}
use Rattle.rl_syntax.specs.Syntax.{Syntax, Node, Listed, Said, Flag, Absent, Pieces, End, Then}
use Rattle.rl_syntax.specs.declared.numbered.At.{At}
use Rattle.rl_syntax.specs.declared.word.Word.TheVariants as word

-- A relation of stores that agree on the variables which may be read, and stay related where a variable that may be read, and that the
-- function assigns, takes a value.
pub record Relation (assigned : List ℕ) : Type 1 where
  pub Reads : ℕ → Type 0
  pub R : Store → Store → Type 0
  pub read : (symbol : ℕ) → Reads symbol → (one other : Store) → R one other → one symbol ≡ other symbol
  pub write : (symbol : ℕ) → Reads symbol → contains assigned symbol ≡ true → (v : Value) (one other : Store) → R one other
      → R (set one symbol v) (set other symbol v)

-- An action gives one trace from related stores, if what comes behind it does.
pub record Relates (R : Store → Store → Type 0) {A : Type 0} (action : Action A) : Type 0 where
  pub holds : (first second : Ways) (f g : A → Cont) (one other : Store) (answers : List Answer) → R one other
      → ((v : Value) (one other : Store) (rest : List Answer) → R one other → first.throws v one rest ≡ second.throws v other rest)
      → ((one other : Store) (rest : List Answer) → R one other → first.short one rest ≡ second.short other rest)
      → ((a : A) (one other : Store) (rest : List Answer) → R one other → f a one rest ≡ g a other rest)
      → action first f one answers ≡ action second g other answers

-- Actions by their parts.

pub relates_give : {R : Store → Store → Type 0} {A : Type 0} (a : A) → Relates R (give a)
relates_give a = record { holds = λ first second f g one other answers related throws short same. same a one other answers related }

pub relates_none : {R : Store → Store → Type 0} {A : Type 0} → Relates R {A = A} no_meaning
relates_none = record { holds = λ first second f g one other answers related throws short same. refl }

pub relates_short : {R : Store → Store → Type 0} {A : Type 0} → Relates R {A = A} end_short
relates_short = record { holds = λ first second f g one other answers related throws short same. short one other answers related }

pub relates_bind : {R : Store → Store → Type 0} {A B : Type 0} (action : Action A) (next : A → Action B) → Relates R action
    → ((a : A) → Relates R (next a))
    → Relates R (action >>= next)
relates_bind action next first second = record {
  holds = λ ways others f g one other answers related throws short same.
      first.holds ways others (λ a. next a ways f) (λ a. next a others g) one other answers related throws short
      (λ a after also rest relates. (second a).holds ways others f g after also rest relates throws short same);
}

pub relates_row : {R : Store → Store → Type 0} {A B : Type 0} (action : Action A) (next : Action B) → Relates R action → Relates R next
    → Relates R (action >> next)
relates_row action next first second = record {
  holds = λ ways others f g one other answers related throws short same.
      first.holds ways others (λ a. next ways f) (λ a. next others g) one other answers related throws short
      (λ a after also rest relates. second.holds ways others f g after also rest relates throws short same);
}

-- A chain that ends early goes on as one that does not.
pub relates_chained : {R : Store → Store → Type 0} {A : Type 0} (early : A) (action : Action A) → Relates R action
    → Relates R (chained early action)
relates_chained early action relates = record {
  holds = λ ways others f g one other answers related throws short same.
      relates.holds (record ways { short = f early }) (record others { short = g early }) f g one other answers related throws
      (same early) same;
}

pub relates_if : {R : Store → Store → Type 0} {A : Type 0} (test : Bool) (first second : Action A) → Relates R first → Relates R second
    → Relates R (if test then first else second)
relates_if true first second one other = one
relates_if false first second one other = other

-- Events: no other function assigns a variable of this one.
module _ (t : Scene) (closed : (symbol : ℕ) → t.world.opens symbol ≡ false) where
  pub closed_sets : (assignments : List Assignment) (store : Store) → set_open t.world.opens assignments store ≡ store
  closed_sets [] store = refl
  closed_sets (a ∷ assignments) store =
      ap (λ (b : Bool). set_open t.world.opens assignments (if b then set store a.symbol.0 a.value else store)) (closed a.symbol.0)
      ∙ closed_sets assignments store

  related_sets : (R : Store → Store → Type 0) (assignments : List Assignment) (one other : Store) → R one other
      → R (set_open t.world.opens assignments one) (set_open t.world.opens assignments other)
  related_sets R assignments one other related =
      subst (λ (store : Store). R store (set_open t.world.opens assignments other)) (sym (closed_sets assignments one))
      (subst (λ (store : Store). R one store) (sym (closed_sets assignments other)) related)

  answered : (R : Store → Store → Type 0) (event : Event) (ways others : Ways) (f g : Answer → Cont) (one other : Store)
      (answers : List Answer) → R one other
      → ((v : Value) (one other : Store) (rest : List Answer) → R one other → ways.throws v one rest ≡ others.throws v other rest)
      → ((a : Answer) (one other : Store) (rest : List Answer) → R one other → f a one rest ≡ g a other rest)
      → answer_to t event ways f one answers ≡ answer_to t event others g other answers
  answered R event ways others f g one other [] related throws same = refl
  answered R event ways others f g one other (answer ∷ rest) related throws same =
      let after : Store = set_open t.world.opens answer.assignments one in
      let also : Store = set_open t.world.opens answer.assignments other in
      let relates : R after also = related_sets R answer.assignments one other related in
      let goes : f answer after rest ≡ g answer also rest = same answer after also rest relates in
      let ends : ways.throws answer.value after rest ≡ others.throws answer.value also rest =
      throws answer.value after also rest relates in
      λ i. emit event (by_kind answer.kind (goes i) (goes i) (ends i))

  pub relates_answer : {R : Store → Store → Type 0} (event : Event) → Relates R (answer_to t event)
  relates_answer {R = R} event = record {
    holds = λ ways others f g one other answers related throws short same.
        answered R event ways others f g one other answers related throws same;
  }

  answered_test : (R : Store → Store → Type 0) (event : Event) (ways others : Ways) (f g : Bool → Cont) (one other : Store)
      (answers : List Answer) → R one other
      → ((b : Bool) (one other : Store) (rest : List Answer) → R one other → f b one rest ≡ g b other rest)
      → test t event ways f one answers ≡ test t event others g other answers
  answered_test R event ways others f g one other [] related same = refl
  answered_test R event ways others f g one other (answer ∷ rest) related same =
      let after : Store = set_open t.world.opens answer.assignments one in
      let also : Store = set_open t.world.opens answer.assignments other in
      let relates : R after also = related_sets R answer.assignments one other related in
      λ i. emit event
      (by_kind answer.kind (same true after also rest relates i) (same false after also rest relates i)
      (same false after also rest relates i))

  pub relates_ask : {R : Store → Store → Type 0} (event : Event) → Relates R (ask t event)
  relates_ask event = relates_bind (answer_to t event) (λ a. give a.value) (relates_answer event) (λ a. relates_give a.value)

  pub relates_test : {R : Store → Store → Type 0} (event : Event) → Relates R (test t event)
  relates_test {R = R} event = record {
    holds = λ ways others f g one other answers related throws short same.
        answered_test R event ways others f g one other answers related same;
  }

  pub relates_apart : {R : Store → Store → Type 0} (shape : List (List ℕ)) (v : Value) → Relates R (take_apart t shape v)
  relates_apart shape v =
      relates_bind (answer_to t (events.destructure shape v)) (λ a. give a.pieces) (relates_answer (events.destructure shape v))
      (λ a. relates_give a.pieces)

  pub relates_default : {R : Store → Store → Type 0} (v : Value) (default : Action Value) → Relates R default
      → Relates R (or_default t v default)
  relates_default v default relates =
      relates_bind (ask t (events.binary (codes "===") v value.Undefined)) _ (relates_ask _) (λ same.
      relates_bind (test t (truthy same)) _ (relates_test (truthy same)) (λ missing.
      relates_if missing default (give v) relates (relates_give v)))

module _ (t : Scene) (assigned : List ℕ) (closed : (symbol : ℕ) → t.world.opens symbol ≡ false) (r : Relation assigned) where
  -- Names.

  relates_variable : (symbol : ℕ) → r.Reads symbol → Relates r.R (variable symbol)
  relates_variable symbol reads = record {
    holds = λ ways others f g one other answers related throws short same.
        ap (λ (v : Value). f v one answers) (r.read symbol reads one other related) ∙ same (other symbol) one other answers related;
  }

  relates_assign : (symbol : ℕ) (v : Value) → r.Reads symbol → contains assigned symbol ≡ true → Relates r.R (assign symbol v)
  relates_assign symbol v reads there = record {
    holds = λ ways others f g one other answers related throws short same.
        same (tt {0}) (set one symbol v) (set other symbol v) answers (r.write symbol reads there v one other related);
  }

  -- The local variable that a name stands for is among these.
  abbrev Among : Meaning → (ℕ → Type 0) → Type 0
  Among meaning Has = (symbol : ℕ) → contains (local_of meaning) symbol ≡ true → Has symbol

  among_itself : (symbol : ℕ) → contains (symbol ∷ []) symbol ≡ true
  among_itself symbol = ap (λ (b : Bool). b || false) (eq-eqb symbol symbol refl)

  relates_read : (meaning : Meaning) → Among meaning r.Reads → Relates r.R (read t meaning)
  relates_read (Local symbol) reads = relates_variable symbol.0 (reads symbol.0 (among_itself symbol.0))
  relates_read (Outer binding) reads = relates_ask t closed _

  relates_update : (prefix : Bool) (operator : List ℕ) (meaning : Meaning) → Among meaning r.Reads
      → Among meaning (λ symbol. contains assigned symbol ≡ true) → Relates r.R (update_name t prefix operator meaning)
  relates_update prefix operator (Local symbol) reads assigns =
      let itself = among_itself symbol.0 in
      relates_bind _ _ (relates_variable symbol.0 (reads symbol.0 itself)) (λ old.
      relates_bind _ _ (relates_ask t closed (events.update prefix operator old)) (λ new.
      relates_row _ _ (relates_assign symbol.0 new (reads symbol.0 itself) (assigns symbol.0 itself))
      (relates_give (if prefix then new else old))))
  relates_update prefix operator (Outer binding) reads assigns = relates_none

  -- A store to a name that the function assigns, and to a property.

  relates_write : (meaning : Meaning) (name : List ℕ) (v : Value) → Among meaning r.Reads
      → Among meaning (λ symbol. contains assigned symbol ≡ true) → Relates r.R (write t meaning name v)
  relates_write (Local symbol) name v reads assigns =
      let itself = among_itself symbol.0 in
      relates_row _ _ (relates_assign symbol.0 v (reads symbol.0 itself) (assigns symbol.0 itself)) (relates_give v)
  relates_write (Outer binding) name v reads assigns =
      relates_row _ _ (relates_answer t closed (events.store_global name v)) (relates_give v)

  relates_stored : (object : Value) (key : events.Key) (v : Value) → Relates r.R (write_property t object key v)
  relates_stored object key v = relates_row _ _ (relates_answer t closed (events.store_in object key v)) (relates_give v)

  relates_in : (object_and_key : Action (Value × events.Key)) (right : Action Value) → Relates r.R object_and_key → Relates r.R right
      → Relates r.R (assignment_in t object_and_key right)
  relates_in object_and_key right relates also =
      relates_if t.ported _ _
      (relates_bind _ _ also (λ v. relates_bind _ _ relates (λ p. relates_stored p.0 p.1 v)))
      (relates_bind _ _ relates (λ p. relates_bind _ _ also (λ v. relates_stored p.0 p.1 v)))

  relates_computed : (operator : List ℕ) (object_and_key : Action (Value × events.Key)) (right : Action Value) → Relates r.R object_and_key
      → Relates r.R right
      → Relates r.R (object_and_key >>= (λ p. ask t (events.load p.0 p.1) >>= (λ old. right >>= (λ w.
      ask t (events.binary operator old w) >>= (λ v. write_property t p.0 p.1 v)))))
  relates_computed operator object_and_key right relates also =
      relates_bind _ _ relates (λ p. relates_bind _ _ (relates_ask t closed (events.load p.0 p.1)) (λ old.
      relates_bind _ _ also (λ w. relates_bind _ _ (relates_ask t closed (events.binary operator old w)) (λ v. relates_stored p.0 p.1 v))))

  relates_property : (prefix : Bool) (operator : List ℕ) (object : Value) (key : events.Key)
      → Relates r.R (update_property t prefix operator object key)
  relates_property prefix operator object key =
      relates_bind _ _ (relates_ask t closed (events.load object key)) (λ old.
      relates_bind _ _ (relates_ask t closed _) (λ new.
      relates_row _ _ (relates_row _ _ (relates_answer t closed (events.store_in object key new)) (relates_give new))
      (relates_give (if prefix then new else old))))

  relates_needed : (operator : List ℕ) (v : Value) → Relates r.R (needs_right t operator v)
  relates_needed operator v =
      relates_if (bytes_eq operator (codes "&&")) _ _ (relates_test t closed (truthy v))
      (relates_if (bytes_eq operator (codes "||")) _ _ (relates_bind _ _ (relates_test t closed (truthy v)) (λ b. relates_give (not b)))
      (relates_test t closed (nullish v)))

  relates_missing : (optional : Bool) (v : Value) → Relates r.R (unless_nullish t optional v)
  relates_missing false v = relates_give (tt {0})
  relates_missing true v =
      relates_bind _ _ (relates_test t closed (nullish v))
      (λ missing. relates_if missing end_short (give (tt {0})) relates_short (relates_give (tt {0})))

  relates_one : (action : Action Value) → Relates r.R action → Relates r.R (one_value action)
  relates_one action relates = relates_bind action (λ v. give (v ∷ [])) relates (λ v. relates_give (v ∷ []))

  relates_key : (property : Syntax) (computed : Action Value) → Relates r.R computed → Relates r.R (key_in property computed)
  relates_key (Node at word.Num (Then (Said text) End)) computed relates = relates_if _ (give _) no_meaning (relates_give _) relates_none
  relates_key _ computed relates = relates_bind _ _ relates (λ v. relates_give (events.computed_key v))

  relates_property_key : (computed : Bool) (key : Syntax) (action : Action Value) → Relates r.R action
      → Relates r.R (property_key computed key action)
  relates_property_key computed key action relates =
      relates_if (shapes.is_computed computed key) _ _ (relates_one action relates)
      (relates_if _ (give []) no_meaning (relates_give []) relates_none)

  -- Expressions.

  null_relates : (at : At) (parts : Pieces) → Relates r.R (eval t (Node at word.Null parts))
  null_relates at End = relates_give value.Null
  null_relates at _ = relates_none

  bool_relates : (at : At) (parts : Pieces) → Relates r.R (eval t (Node at word.Bool parts))
  bool_relates at (Then (Flag flag) End) = relates_give (value.Bool flag)
  bool_relates at _ = relates_none

  num_relates : (at : At) (parts : Pieces) → Relates r.R (eval t (Node at word.Num parts))
  num_relates at (Then (Said text) End) = relates_if _ (give _) no_meaning (relates_give _) relates_none
  num_relates at _ = relates_none

  str_relates : (at : At) (parts : Pieces) → Relates r.R (eval t (Node at word.Str parts))
  str_relates at (Then (Said text) End) = relates_give (value.Text text)
  str_relates at _ = relates_none

  -- The variable of a name may be read.
  abbrev Reads : (name : Syntax) → Type 0
  Reads name = (symbol : ℕ) → contains (used_at t.names [] name) symbol ≡ true → r.Reads symbol

  id_relates : (at : At) (parts : Pieces) → Reads (Node at word.Id parts) → Relates r.R (eval t (Node at word.Id parts))
  id_relates at (Then (Said name) End) reads = relates_read (t.names.meaning at.reference.0 name) reads
  id_relates at _ reads = relates_none

  regexp_relates : (at : At) (parts : Pieces) → Relates r.R (eval t (Node at word.Regexp parts))
  regexp_relates at (Then (Said pattern) (Then (Said flags) End)) = relates_ask t closed _
  regexp_relates at _ = relates_none

  importmeta_relates : (at : At) (parts : Pieces) → Relates r.R (eval t (Node at word.Importmeta parts))
  importmeta_relates at End = relates_ask t closed _
  importmeta_relates at _ = relates_none

  abbrev Covered : Syntax → Type 0
  Covered = Each (IsReadAt t.names assigned r.Reads)

  abbrev AreAllCovered : Pieces → Type 0
  AreAllCovered = EachAmong (IsReadAt t.names assigned r.Reads)

  -- The function assigns the variables of the target.
  abbrev Assigns : (target : Syntax) → Type 0
  Assigns target = (symbol : ℕ) → contains (assigned_by t.names target) symbol ≡ true → contains assigned symbol ≡ true

  -- The function assigns the variables of the items of a target.
  abbrev AssignAll : (items : Pieces) → Type 0
  AssignAll items = (symbol : ℕ) → contains (assigned_among t.names items) symbol ≡ true → contains assigned symbol ≡ true

  assigns_left : (items : Pieces) (rest : Syntax)
      → ((symbol : ℕ) → contains (assigned_among t.names items ++ assigned_by t.names rest) symbol ≡ true → contains assigned symbol ≡ true)
      → AssignAll items
  assigns_left items rest assigns symbol there =
      assigns symbol (contains_left (assigned_among t.names items) (assigned_by t.names rest) symbol there)

  assigns_right : (items : Pieces) (rest : Syntax)
      → ((symbol : ℕ) → contains (assigned_among t.names items ++ assigned_by t.names rest) symbol ≡ true → contains assigned symbol ≡ true)
      → Assigns rest
  assigns_right items rest assigns symbol there =
      assigns symbol (contains_right (assigned_among t.names items) (assigned_by t.names rest) symbol there)

  mutual
    pub eval_relates : (e : Syntax) → Covered e → Relates r.R (eval t e)
    eval_relates (Node at word.Null parts) covered = null_relates at parts
    eval_relates (Node at word.Bool parts) covered = bool_relates at parts
    eval_relates (Node at word.Num parts) covered = num_relates at parts
    eval_relates (Node at word.Str parts) covered = str_relates at parts
    eval_relates (Node at word.Regexp parts) covered = regexp_relates at parts
    eval_relates (Node at word.Importmeta parts) covered = importmeta_relates at parts
    eval_relates (Node at word.Id parts) covered = id_relates at parts covered.1.reads
    eval_relates (Node at word.Paren parts) covered = paren_relates at parts covered.2
    eval_relates (Node at word.Nonnull parts) covered = nonnull_relates at parts covered.2
    eval_relates (Node at word.As parts) covered = as_relates at parts covered.2
    eval_relates (Node at word.Satisfies parts) covered = satisfies_relates at parts covered.2
    eval_relates (Node at word.Assert parts) covered = assert_relates at parts covered.2
    eval_relates (Node at word.Instantiate parts) covered = instantiate_relates at parts covered.2
    eval_relates (Node at word.Template parts) covered = template_relates at parts covered.2
    eval_relates (Node at word.Tagged parts) covered = tagged_relates at parts covered.2
    eval_relates (Node at word.Object parts) covered = object_relates at parts covered.2
    eval_relates (Node at word.Array parts) covered = array_relates at parts covered.2
    eval_relates (Node at word.Unary parts) covered = unary_relates at parts covered.2
    eval_relates (Node at word.Update parts) covered = update_relates at parts covered.1.orderly covered.2
    eval_relates (Node at word.Binary parts) covered = binary_relates at parts covered.2
    eval_relates (Node at word.Logical parts) covered = logical_relates at parts covered.2
    eval_relates (Node at word.Cond parts) covered = cond_relates at parts covered.2
    eval_relates (Node at word.Seq parts) covered = seq_relates at parts covered.2
    eval_relates (Node at word.Await parts) covered = await_relates at parts covered.2
    eval_relates (Node at word.Member parts) covered = member_relates at parts covered.2
    eval_relates (Node at word.Index parts) covered = index_relates at parts covered.2
    eval_relates (Node at word.Call parts) covered = call_relates at parts covered.2
    eval_relates (Node at word.New parts) covered = new_relates at parts covered.2
    eval_relates (Node at word.Assign parts) covered = assign_relates at parts covered.1.orderly covered.2
    eval_relates (Node at word.Chain parts) covered = chain_relates at parts covered.2
    eval_relates (Node at word.Arrow parts) covered = absurd (true≢false (sym covered.0))
    eval_relates (Node at word.Funexpr parts) covered = absurd (true≢false (sym covered.0))
    eval_relates (Node at word.Element parts) covered = absurd (true≢false (sym covered.0))
    eval_relates (Node at word.Fragment parts) covered = absurd (true≢false (sym covered.0))
    eval_relates _ covered = relates_none

    paren_relates : (at : At) (parts : Pieces) → AreAllCovered parts → Relates r.R (eval t (Node at word.Paren parts))
    paren_relates at (Then expression End) covered = eval_relates expression covered.0
    paren_relates at _ covered = relates_none

    nonnull_relates : (at : At) (parts : Pieces) → AreAllCovered parts → Relates r.R (eval t (Node at word.Nonnull parts))
    nonnull_relates at (Then expression End) covered = eval_relates expression covered.0
    nonnull_relates at _ covered = relates_none

    as_relates : (at : At) (parts : Pieces) → AreAllCovered parts → Relates r.R (eval t (Node at word.As parts))
    as_relates at (Then expression (Then type End)) covered = eval_relates expression covered.0
    as_relates at _ covered = relates_none

    satisfies_relates : (at : At) (parts : Pieces) → AreAllCovered parts → Relates r.R (eval t (Node at word.Satisfies parts))
    satisfies_relates at (Then expression (Then type End)) covered = eval_relates expression covered.0
    satisfies_relates at _ covered = relates_none

    assert_relates : (at : At) (parts : Pieces) → AreAllCovered parts → Relates r.R (eval t (Node at word.Assert parts))
    assert_relates at (Then type (Then expression End)) covered = eval_relates expression covered.1.0
    assert_relates at _ covered = relates_none

    instantiate_relates : (at : At) (parts : Pieces) → EachFirst (IsReadAt t.names assigned r.Reads) parts
        → Relates r.R (eval t (Node at word.Instantiate parts))
    instantiate_relates at (Then expression (Then names End)) covered = eval_relates expression covered
    instantiate_relates at _ covered = relates_none

    template_relates : (at : At) (parts : Pieces) → AreAllCovered parts → Relates r.R (eval t (Node at word.Template parts))
    template_relates at (Then (Listed quasis) (Then (Listed expressions) End)) covered =
        relates_bind _ _ (values_relate expressions covered.1.0) (λ vs. relates_ask t closed _)
    template_relates at _ covered = relates_none

    array_relates : (at : At) (parts : Pieces) → AreAllCovered parts → Relates r.R (eval t (Node at word.Array parts))
    array_relates at (Then (Listed items) End) covered = relates_bind _ _ (values_relate items covered.0) (λ vs. relates_ask t closed _)
    array_relates at _ covered = relates_none

    object_relates : (at : At) (parts : Pieces) → AreAllCovered parts → Relates r.R (eval t (Node at word.Object parts))
    object_relates at (Then (Listed properties) End) covered =
        relates_bind _ _ (values_relate properties covered.0) (λ vs. relates_ask t closed _)
    object_relates at _ covered = relates_none

    tagged_relates : (at : At) (parts : Pieces) → AreAllCovered parts → Relates r.R (eval t (Node at word.Tagged parts))
    tagged_relates at (Then tag (Then (Node there word.Template (Then (Listed quasis) (Then (Listed expressions) End))) End)) covered =
        relates_if (shapes.are_raw quasis) _ no_meaning
        (relates_bind _ _ (relates_if (shapes.lends_to_tag t tag) _ _ (callee_relates tag covered.0)
        (relates_one _ (eval_relates tag covered.0)))
        (λ head. relates_bind _ _ (values_relate expressions covered.1.0.2.1.0) (λ vs. relates_ask t closed _)))
        relates_none
    tagged_relates at _ covered = relates_none

    unary_relates : (at : At) (parts : Pieces) → AreAllCovered parts → Relates r.R (eval t (Node at word.Unary parts))
    unary_relates at (Then (Said operator) (Then argument End)) covered =
        relates_if (bytes_eq operator (codes "delete")) _ _ (delete_relates argument covered.1.0)
        (relates_bind _ _ (eval_relates argument covered.1.0) (λ v. relates_ask t closed _))
    unary_relates at _ covered = relates_none

    delete_relates : (e : Syntax) → Covered e → Relates r.R (delete_property t e)
    delete_relates (Node at word.Paren (Then expression End)) covered = delete_relates expression covered.2.0
    delete_relates (Node at word.Member (Then optional (Then object (Then (Said name) End)))) covered =
        relates_bind _ _ (eval_relates object covered.2.1.0) (λ v. relates_ask t closed _)
    delete_relates (Node at word.Index (Then optional (Then object (Then property End)))) covered =
        relates_bind _ _ (eval_relates object covered.2.1.0) (λ v.
        relates_bind _ _ (relates_key property _ (eval_relates property covered.2.1.1.0)) (λ key. relates_ask t closed _))
    delete_relates _ covered = relates_none

    update_relates : (at : At) (parts : Pieces) → IsOrderlyAt t.names assigned at word.Update parts → AreAllCovered parts
        → Relates r.R (eval t (Node at word.Update parts))
    update_relates at (Then (Said operator) (Then (Flag prefix) (Then target rest))) orderly covered =
        target_relates operator prefix at target rest orderly covered.1.1.0
    update_relates at _ orderly covered = relates_none

    target_relates : (operator : List ℕ) (prefix : Bool) (at : At) (target : Syntax) (rest : Pieces)
        → IsOrderlyAt t.names assigned at word.Update (Then (Said operator) (Then (Flag prefix) (Then target rest))) → Covered target
        → Relates r.R (eval t (Node at word.Update (Then (Said operator) (Then (Flag prefix) (Then target rest)))))
    target_relates operator prefix at (Node there word.Id parts) rest orderly covered =
        name_relates operator prefix at there parts rest orderly covered.1.reads
    target_relates operator prefix at (Node there word.Member parts) End orderly covered =
        relates_bind _ _ (member_placed there parts covered.2) (λ p. relates_property prefix operator p.0 p.1)
    target_relates operator prefix at (Node there word.Index parts) End orderly covered =
        relates_bind _ _ (index_placed there parts covered.2) (λ p. relates_property prefix operator p.0 p.1)
    target_relates operator prefix at _ End orderly covered =
        record { holds = λ first second f g one other answers related throws short same. refl }
    target_relates operator prefix at _ (Then first rest) orderly covered =
        record { holds = λ first second f g one other answers related throws short same. refl }

    name_relates : (operator : List ℕ) (prefix : Bool) (at there : At) (parts rest : Pieces)
        → IsOrderlyAt t.names assigned at word.Update
        (Then (Said operator) (Then (Flag prefix) (Then (Node there word.Id parts) rest))) → Reads (Node there word.Id parts)
        → Relates r.R (eval t (Node at word.Update (Then (Said operator) (Then (Flag prefix) (Then (Node there word.Id parts) rest)))))
    name_relates operator prefix at there (Then (Said name) End) End orderly reads =
        relates_update prefix operator (t.names.meaning there.reference.0 name) reads orderly.assigns
    name_relates operator prefix at there (Then (Said name) End) (Then first rest) orderly reads =
        record { holds = λ first second f g one other answers related throws short same. refl }
    name_relates operator prefix at there _ End orderly reads =
        record { holds = λ first second f g one other answers related throws short same. refl }
    name_relates operator prefix at there _ (Then first rest) orderly reads =
        record { holds = λ first second f g one other answers related throws short same. refl }

    -- Assignments.

    assign_relates : (at : At) (parts : Pieces) → IsOrderlyAt t.names assigned at word.Assign parts → AreAllCovered parts
        → Relates r.R (eval t (Node at word.Assign parts))
    assign_relates at (Then (Said operator) (Then target (Then right End))) orderly covered =
        relates_if (bytes_eq operator (codes "=")) _ _
        (equals_relates target right orderly.assigns covered.1.0 (eval_relates right covered.1.1.0)
        (λ v. target_takes target v orderly.assigns covered.1.0))
        (relates_if (shapes.is_logical operator) no_meaning _ relates_none
        (compound_relates (shapes.operator_in operator) target right orderly.assigns covered.1.0 (eval_relates right covered.1.1.0)))
    assign_relates at _ orderly covered = relates_none

    equals_relates : (target right : Syntax) → Assigns target → Covered target → Relates r.R (eval t right)
        → ((v : Value) → Relates r.R (assign_to t target v))
        → Relates r.R (assignment t target (place t target) (assign_to t target) (eval t right))
    equals_relates (Node there word.Id (Then (Said name) End)) right assigns covered also takes =
        relates_bind _ _ also (λ v. relates_write (t.names.meaning there.reference.0 name) name v covered.1.reads assigns)
    equals_relates (Node there word.Member parts) right assigns covered also takes =
        relates_in _ _ (member_placed there parts covered.2) also
    equals_relates (Node there word.Index parts) right assigns covered also takes =
        relates_in _ _ (index_placed there parts covered.2) also
    equals_relates (Node there word.Privatemember parts) right assigns covered also takes = relates_none
    equals_relates target right assigns covered also takes =
        relates_bind _ _ also (λ v. relates_row _ _ (takes v) (relates_give v))

    compound_relates : (operator : List ℕ) (target right : Syntax) → Assigns target → Covered target → Relates r.R (eval t right)
        → Relates r.R (compound t operator target (place t target) (eval t right))
    compound_relates operator (Node there word.Id (Then (Said name) End)) right assigns covered also =
        relates_bind _ _ (relates_read (t.names.meaning there.reference.0 name) covered.1.reads) (λ old.
        relates_bind _ _ also (λ w.
        relates_bind _ _ (relates_ask t closed (events.binary operator old w)) (λ v.
        relates_write (t.names.meaning there.reference.0 name) name v covered.1.reads assigns)))
    compound_relates operator (Node there word.Member parts) right assigns covered also =
        relates_computed operator _ _ (member_placed there parts covered.2) also
    compound_relates operator (Node there word.Index parts) right assigns covered also =
        relates_computed operator _ _ (index_placed there parts covered.2) also
    compound_relates operator _ right assigns covered also = relates_computed operator _ _ relates_none also

    -- A target takes a value.
    target_takes : (target : Syntax) (v : Value) → Assigns target → Covered target → Relates r.R (assign_to t target v)
    target_takes Absent v assigns covered = relates_give (tt {0})
    target_takes (Node at word.Id (Then (Said name) End)) v assigns covered =
        relates_row _ _ (relates_write (t.names.meaning at.reference.0 name) name v covered.1.reads assigns) (relates_give (tt {0}))
    target_takes (Node at word.Default (Then target (Then default End))) v assigns covered =
        relates_bind _ _ (relates_default t closed v _ (eval_relates default covered.2.1.0))
        (λ w. target_takes target w assigns covered.2.0)
    target_takes (Node at word.Short (Then name (Then Absent End))) v assigns covered = target_takes name v assigns covered.2.0
    target_takes (Node at word.Short (Then name (Then default End))) v assigns covered =
        relates_bind _ _ (relates_default t closed v _ (eval_relates default covered.2.1.0)) (λ w. target_takes name w assigns covered.2.0)
    target_takes (Node at word.Keyed (Then computed (Then key (Then target End)))) v assigns covered =
        target_takes target v assigns covered.2.1.1.0
    target_takes (Node at word.Rest (Then target End)) v assigns covered = target_takes target v assigns covered.2.0
    target_takes (Node at word.Arraytarget (Then (Listed items) (Then rest End))) v assigns covered =
        relates_bind _ _ (relates_apart t closed _ v) (λ pieces.
        relates_bind _ _ (items_take items pieces (assigns_left items rest assigns) covered.2.0) (λ left.
        target_takes rest (first_piece left) (assigns_right items rest assigns) covered.2.1.0))
    target_takes (Node at word.Objecttarget (Then (Listed properties) (Then rest End))) v assigns covered =
        relates_if (shapes.have_keys properties && shapes.is_plain_rest rest) _ no_meaning
        (relates_bind _ _ (relates_apart t closed _ v) (λ pieces.
        relates_bind _ _ (items_take properties pieces (assigns_left properties rest assigns) covered.2.0) (λ left.
        target_takes rest (first_piece left) (assigns_right properties rest assigns) covered.2.1.0)))
        relates_none
    target_takes (Node at word.Member (Then optional (Then object (Then (Said name) End)))) v assigns covered =
        relates_bind _ _ (eval_relates object covered.2.1.0)
        (λ o. relates_row _ _ (relates_stored o (events.fixed_key (value.Text name)) v) (relates_give (tt {0})))
    target_takes (Node at word.Index (Then optional (Then object (Then property End)))) v assigns covered =
        relates_bind _ _ (eval_relates object covered.2.1.0) (λ o.
        relates_bind _ _ (relates_key property _ (eval_relates property covered.2.1.1.0)) (λ key.
        relates_row _ _ (relates_stored o key v) (relates_give (tt {0}))))
    target_takes _ v assigns covered = relates_none

    items_take : (items : Pieces) (pieces : List Value) → AssignAll items → AreAllCovered items
        → Relates r.R (assign_items t items pieces)
    items_take End pieces assigns covered = relates_give pieces
    items_take (Then item items) pieces assigns covered =
        relates_if (shapes.is_hole item) _ _
        (items_take items pieces (λ symbol there. assigns symbol (contains_right (assigned_by t.names item) _ symbol there)) covered.1)
        (relates_row _ _
        (target_takes item (first_piece pieces)
        (λ symbol there. assigns symbol (contains_left (assigned_by t.names item) _ symbol there)) covered.0)
        (items_take items (later_pieces pieces)
        (λ symbol there. assigns symbol (contains_right (assigned_by t.names item) _ symbol there)) covered.1))

    -- The object and the key of a property.

    pub member_placed : (at : At) (parts : Pieces) → AreAllCovered parts → Relates r.R (place t (Node at word.Member parts))
    member_placed at (Then optional (Then object (Then (Said name) End))) covered =
        relates_bind _ _ (eval_relates object covered.1.0) (λ v. relates_give _)
    member_placed at _ covered = relates_none

    pub index_placed : (at : At) (parts : Pieces) → AreAllCovered parts → Relates r.R (place t (Node at word.Index parts))
    index_placed at (Then optional (Then object (Then property End))) covered =
        relates_bind _ _ (eval_relates object covered.1.0) (λ v.
        relates_bind _ _ (relates_key property _ (eval_relates property covered.1.1.0)) (λ key. relates_give _))
    index_placed at _ covered = relates_none

    binary_relates : (at : At) (parts : Pieces) → AreAllCovered parts → Relates r.R (eval t (Node at word.Binary parts))
    binary_relates at (Then (Said operator) (Then left (Then right End))) covered =
        relates_bind _ _ (eval_relates left covered.1.0)
        (λ v. relates_bind _ _ (eval_relates right covered.1.1.0) (λ w. relates_ask t closed _))
    binary_relates at _ covered = relates_none

    logical_relates : (at : At) (parts : Pieces) → AreAllCovered parts → Relates r.R (eval t (Node at word.Logical parts))
    logical_relates at (Then (Said operator) (Then left (Then right End))) covered =
        relates_bind _ _ (eval_relates left covered.1.0) (λ v.
        relates_bind _ _ (relates_needed operator v) (λ needed.
        relates_if needed _ (give v) (eval_relates right covered.1.1.0) (relates_give v)))
    logical_relates at _ covered = relates_none

    cond_relates : (at : At) (parts : Pieces) → AreAllCovered parts → Relates r.R (eval t (Node at word.Cond parts))
    cond_relates at (Then condition (Then consequent (Then alternate End))) covered =
        relates_bind _ _ (eval_relates condition covered.0) (λ v.
        relates_bind _ _ (relates_test t closed (truthy v)) (λ holds.
        relates_if holds _ _ (eval_relates consequent covered.1.0) (eval_relates alternate covered.1.1.0)))
    cond_relates at _ covered = relates_none

    seq_relates : (at : At) (parts : Pieces) → AreAllCovered parts → Relates r.R (eval t (Node at word.Seq parts))
    seq_relates at (Then (Listed expressions) End) covered = last_relates expressions covered.0
    seq_relates at _ covered = relates_none

    last_relates : (expressions : Pieces) → AreAllCovered expressions → Relates r.R (eval_last t expressions)
    last_relates End covered = relates_none
    last_relates (Then expression End) covered = eval_relates expression covered.0
    last_relates (Then expression (Then next expressions)) covered =
        relates_row _ _ (eval_relates expression covered.0) (last_relates (Then next expressions) covered.1)

    await_relates : (at : At) (parts : Pieces) → AreAllCovered parts → Relates r.R (eval t (Node at word.Await parts))
    await_relates at (Then argument End) covered = relates_bind _ _ (eval_relates argument covered.0) (λ v. relates_ask t closed _)
    await_relates at _ covered = relates_none

    member_relates : (at : At) (parts : Pieces) → AreAllCovered parts → Relates r.R (eval t (Node at word.Member parts))
    member_relates at (Then (Flag optional) (Then object (Then (Said name) End))) covered =
        relates_bind _ _ (eval_relates object covered.1.0) (λ v. relates_row _ _ (relates_missing optional v) (relates_ask t closed _))
    member_relates at _ covered = relates_none

    index_relates : (at : At) (parts : Pieces) → AreAllCovered parts → Relates r.R (eval t (Node at word.Index parts))
    index_relates at (Then (Flag optional) (Then object (Then property End))) covered =
        relates_bind _ _ (eval_relates object covered.1.0) (λ v.
        relates_row _ _ (relates_missing optional v)
        (relates_bind _ _ (relates_key property _ (eval_relates property covered.1.1.0)) (λ key. relates_ask t closed _)))
    index_relates at _ covered = relates_none

    call_relates : (at : At) (parts : Pieces) → AreAllCovered parts → Relates r.R (eval t (Node at word.Call parts))
    call_relates at (Then (Flag optional) (Then called_part (Then (Listed arguments) End))) covered =
        relates_bind _ _
        (relates_if (shapes.lends_receiver t called_part) _ _ (callee_relates called_part covered.1.0)
        (relates_one _ (eval_relates called_part covered.1.0)))
        (λ head. relates_row _ _ (relates_missing optional (called head))
        (relates_bind _ _ (values_relate arguments covered.1.1.0) (λ vs. relates_ask t closed _)))
    call_relates at _ covered = relates_none

    chain_relates : (at : At) (parts : Pieces) → AreAllCovered parts → Relates r.R (eval t (Node at word.Chain parts))
    chain_relates at (Then expression End) covered = relates_chained value.Undefined _ (eval_relates expression covered.0)
    chain_relates at _ covered = relates_none

    -- A callee that lends its object.
    callee_relates : (e : Syntax) → Covered e → Relates r.R (callee t e)
    callee_relates (Node at word.Paren (Then expression End)) covered = callee_relates expression covered.2.0
    callee_relates (Node at word.As (Then expression (Then type End))) covered = callee_relates expression covered.2.0
    callee_relates (Node at word.Satisfies (Then expression (Then type End))) covered = callee_relates expression covered.2.0
    callee_relates (Node at word.Assert (Then type (Then expression End))) covered = callee_relates expression covered.2.1.0
    callee_relates (Node at word.Nonnull (Then expression End)) covered = callee_relates expression covered.2.0
    callee_relates (Node at word.Instantiate (Then expression (Then names End))) covered = callee_relates expression covered.2
    callee_relates (Node at word.Chain (Then expression End)) covered = relates_chained _ _ (callee_relates expression covered.2.0)
    callee_relates (Node at word.Member (Then (Flag optional) (Then object (Then (Said name) End)))) covered =
        relates_bind _ _ (eval_relates object covered.2.1.0) (λ v.
        relates_row _ _ (relates_missing optional v) (relates_bind _ _ (relates_ask t closed _) (λ f. relates_give _)))
    callee_relates (Node at word.Index (Then (Flag optional) (Then object (Then property End)))) covered =
        relates_bind _ _ (eval_relates object covered.2.1.0) (λ v.
        relates_row _ _ (relates_missing optional v)
        (relates_bind _ _ (relates_key property _ (eval_relates property covered.2.1.1.0)) (λ key.
        relates_bind _ _ (relates_ask t closed _) (λ f. relates_give _))))
    callee_relates _ covered = relates_none

    new_relates : (at : At) (parts : Pieces) → AreAllCovered parts → Relates r.R (eval t (Node at word.New parts))
    new_relates at (Then called_part (Then (Listed arguments) End)) covered =
        relates_bind _ _ (eval_relates called_part covered.0)
        (λ v. relates_bind _ _ (values_relate arguments covered.1.0) (λ vs. relates_ask t closed _))
    new_relates at _ covered = relates_none

    values_relate : (parts : Pieces) → AreAllCovered parts → Relates r.R (values t parts)
    values_relate End covered = relates_give []
    values_relate (Then part parts) covered =
        relates_bind _ _ (item_relates part covered.0 (eval_relates part covered.0)) (λ vs.
        relates_bind _ _ (values_relate parts covered.1) (λ ws. relates_give (vs ++ ws)))

    -- An argument, an element or a property.
    item_relates : (part : Syntax) → Covered part → Relates r.R (eval t part) → Relates r.R (values_of t part (eval t part))
    item_relates (Node at word.Hole End) covered also = relates_give []
    item_relates (Node at word.Spread (Then argument End)) covered also = relates_one _ (eval_relates argument covered.2.0)
    item_relates (Node at word.Prop (Then (Flag computed) (Then key (Then expression End)))) covered also =
        relates_bind _ _ (relates_property_key computed key _ (eval_relates key covered.2.1.0)) (λ vs.
        relates_bind _ _ (eval_relates expression covered.2.1.1.0) (λ v. relates_give _))
    item_relates (Node at word.Attrspread parts) covered also = absurd (true≢false (sym covered.0))
    item_relates (Node at word.Method parts) covered also = absurd (true≢false (sym covered.0))
    item_relates (Node at word.Get parts) covered also = absurd (true≢false (sym covered.0))
    item_relates (Node at word.Set parts) covered also = absurd (true≢false (sym covered.0))
    item_relates (Node at word.Attr parts) covered also = absurd (true≢false (sym covered.0))
    item_relates (Node at word.Text parts) covered also = absurd (true≢false (sym covered.0))
    item_relates (Node at word.Container parts) covered also = absurd (true≢false (sym covered.0))
    item_relates (Node at word.Spreadchild parts) covered also = absurd (true≢false (sym covered.0))
    item_relates part covered also = relates_one (eval t part) also
