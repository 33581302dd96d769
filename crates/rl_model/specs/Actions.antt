-- Actions: what a part of a function does. An action gives a value to what comes behind it, or leaves by one of the ways of an abrupt
-- completion (ECMA-262, 6.2.4). Actions stand in `do` blocks, one below the other, in the order in which they are done.
use Rattle.std.specs.Prelude.{ℕ, zero, suc, Bool, true, false, if◌then◌else◌, Option, Some, None, List, length}
use Rattle.std.specs.Str.{bytes_eq}
use Rattle.rl_hir.specs.declared.terminal.ReturnVariant.{ReturnVariant}
use Rattle.rl_machine.specs.Traces.{Cont, ValueCont, fired, returned, set, set_open, stepped, tested, waiting}
use Rattle.rl_machine.specs.declared.trace.Answer.{Answer}
use Rattle.rl_machine.specs.declared.trace.Event.{Event}
use Rattle.rl_machine.specs.declared.trace.Value.{Value}
use Rattle.rl_model.specs.Scene.{Scene, kept_values}

-- A label, or none.
abbrev pub Label : Type 0
Label = Option (List ℕ)

-- The ways to leave a part that does not complete normally: a continuation for each. A `return` ends the run.
pub record Ways : Type 0 where
  pub breaks : Label → Cont
  pub continues : Label → Cont
  pub throws : ValueCont
  -- an optional chain ends early
  pub short : Cont

-- An action that gives an `A`: its trace from the ways, what comes behind it, a store, and the answers that are left.
abbrev pub Action : Type 0 → Type 0
Action A = Ways → (onward : A → Cont) → Cont

infixl 20 ◌>>=◌
infixl 20 ◌>>◌
-- Two actions in a row; the second sees the value of the first. `do` blocks are made of these.
abbrev pub ◌>>=◌ : {A B : Type 0} → Action A → (A → Action B) → Action B
◌>>=◌ action next ways onward = action ways (λ a. next a ways onward)

abbrev pub ◌>>◌ : {A B : Type 0} → Action A → Action B → Action B
◌>>◌ action next ways onward = action ways (λ a. next ways onward)

abbrev pub give : {A : Type 0} → A → Action A
give a ways onward = onward a

abbrev pub done : Action (Unit {0})
done = give (tt {0})

-- A part without a meaning: the run waits.
abbrev pub no_meaning : {A : Type 0} → Action A
no_meaning ways onward store answers = waiting

-- The value of a local variable.
abbrev pub variable : (symbol : ℕ) → Action Value
variable symbol ways onward store answers = onward (store symbol) store answers

abbrev pub assign : (symbol : ℕ) → Value → Action (Unit {0})
assign symbol v ways onward store answers = onward (tt {0}) (set store symbol v) answers

-- Asks an event that may throw, and gives its answer.
abbrev pub answer_to : Scene → Event → Action Answer
answer_to scene event ways onward store answers = fired (set_open scene.world.opens) event store answers onward ways.throws

-- Asks an event, and gives the answer's value.
abbrev pub ask : Scene → Event → Action Value
ask scene event = do
  a ← answer_to scene event
  give a.value

-- Asks a test: an answer that is no yes is a no.
abbrev pub test : Scene → Event → Action Bool
test scene event ways onward store answers = tested (set_open scene.world.opens) event store answers (onward true) (onward false)

-- Asks for the next value of a loop. None at the end.
abbrev pub next : Scene → Event → Action (Option Value)
next scene event ways onward store answers =
    stepped (set_open scene.world.opens) event store answers (λ v. onward (Some v)) (onward None) ways.throws

abbrev pub raise : {A : Type 0} → Value → Action A
raise v ways onward = ways.throws v

abbrev pub break_to : {A : Type 0} → Label → Action A
break_to label ways onward = ways.breaks label

abbrev pub continue_to : {A : Type 0} → Label → Action A
continue_to label ways onward = ways.continues label

abbrev pub end_short : {A : Type 0} → Action A
end_short ways onward = ways.short

-- The function returns.
abbrev pub return_with : {A : Type 0} → Scene → ReturnVariant → Value → Action A
return_with scene variant v ways onward store answers = returned (kept_values scene store) variant v

-- An action whose throws a handler takes.
abbrev pub catching : {A : Type 0} → Action A → (handler : Value → Action A) → Action A
catching action handler ways onward = action (record ways { throws = λ v. handler v ways onward }) onward

-- An optional chain: where it ends early, it gives `early`.
abbrev pub chained : {A : Type 0} → (early : A) → Action A → Action A
chained early action ways onward = action (record ways { short = onward early }) onward

abbrev pub is_label : (label : List ℕ) → Label → Bool
is_label label None = false
is_label label (Some jump) = bytes_eq label jump

-- A labelled statement completes normally where its body breaks to its label. What is labelled so is no loop: a `continue` to the label has
-- no meaning, but for that in the loop itself, which takes it first.
abbrev pub labeled : (label : List ℕ) → Action (Unit {0}) → Action (Unit {0})
labeled label action ways onward =
    action (record ways {
      breaks = λ jump. if is_label label jump then onward (tt {0}) else ways.breaks jump;
      continues = λ jump. if is_label label jump then no_meaning ways onward else ways.continues jump;
    }) onward

-- A loop or a `switch`: it completes normally where it is broken without a label.
abbrev pub breakable : Action (Unit {0}) → Action (Unit {0})
breakable action ways onward = action (record ways { breaks = λ jump. if is_none jump then onward (tt {0}) else ways.breaks jump }) onward
  where
    is_none : Label → Bool
    is_none None = true
    is_none (Some label) = false

-- True of a `continue` without a label, or to the label of the loop.
abbrev pub is_own : (own jump : Label) → Bool
is_own own None = true
is_own None (Some label) = false
is_own (Some own) (Some label) = bytes_eq own label

-- The body of a loop under the label: it completes normally where it continues the loop.
abbrev pub body_of_loop : (own : Label) → Action (Unit {0}) → Action (Unit {0})
body_of_loop own action ways onward =
    action (record ways { continues = λ jump. if is_own own jump then onward (tt {0}) else ways.continues jump }) onward

-- Makes turns, at most as many as given, until one gives false.
abbrev pub turns : ℕ → (turn : Action Bool) → Action (Unit {0})
turns zero turn = no_meaning
turns (suc most) turn = do
  goes_on ← turn
  if goes_on then turns most turn else done

-- Makes turns until one gives false. Each turn that gives true takes an answer, so there is one more than answers at most.
abbrev pub loop : (turn : Action Bool) → Action (Unit {0})
loop turn ways onward store answers = turns (suc (length answers)) turn ways onward store answers
