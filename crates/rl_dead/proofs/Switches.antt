-- Walks over `switch` statements, labelled statements and `try` statements.
use Rattle.std.proofs.Common.{◌≡◌, ℕ, Bool, true, false, ◌||◌, not, if◌then◌else◌, Some, None, List, [], ◌∷◌, ◌++◌, filter, refl, sym, ap, ◌∙◌}
use Rattle.std.specs.List.{list_any}
use Rattle.std.proofs.Math.Path.{subst}
use Rattle.rl_dead.proofs.Covering.{adds_both}
use Rattle.rl_dead.proofs.Pairs.{first_of, second_of}
use Rattle.rl_dead.proofs.Statements.{calm, either_walked}
use Rattle.rl_dead.specs.Jumps.{breaks, continues, takes}
use Rattle.rl_dead.specs.Parts.{labeled_of, second_list, try_parts}
use Rattle.rl_dead.specs.Ranges.{Adds}
use Rattle.rl_dead.specs.Walks.{Walked, WalkedCases, WalkedLabeled, WalkedPlain, WalkedSwitch}
use Rattle.rl_dead.specs.declared.flow.Flow.{Flow}
use Rattle.rl_dead.specs.declared.jumps.Jumps.{Jumps}
use Rattle.rl_dead.specs.declared.jumps.Target.TheVariants as target
use Rattle.rl_dead.specs.declared.ranges.Range.{Range}
use Rattle.rl_model.specs.Actions.{Label}
use Rattle.rl_model.specs.Dead.{dead_in, either, has_default, is_labeled, is_unlabeled, lives, lives_cases}
use Rattle.rl_syntax.specs.Syntax.{Syntax, Node, Listed, Said, Pieces, End, Then}
use Rattle.rl_syntax.specs.declared.numbered.At.{At}
use Rattle.rl_syntax.specs.declared.word.Word.TheVariants as word

all_kept : (xs : List Label) → filter (λ l. not (takes target.Nothing l)) xs ≡ xs
all_kept [] = refl
all_kept (x ∷ xs) = ap (λ l. x ∷ l) (all_kept xs)

switch_node : (j k i0 i1 : Jumps) (d e : List Range) (h f : Flow) (x : Syntax) (cases : Pieces) (left : Bool) → breaks i0 ≡ []
    → continues i0 ≡ [] → WalkedCases i0 i1 d e h cases → left ≡ list_any (takes target.Unlabeled) (breaks i1)
    → breaks k ≡ breaks j ++ filter (λ l. not (takes target.Unlabeled l)) (breaks i1)
    → continues k ≡ continues j ++ filter (λ l. not (takes target.Nothing l)) (continues i1)
    → f.falls ≡ (h.falls || not (has_default cases) || left) → f.acts ≡ true
    → WalkedPlain j k d e f word.Switch (Then x (Then (Listed cases) End))
switch_node j k i0 i1 d e h f x cases left no_break no_continue q is_left broken continued falls acts =
    let outs = (lives_cases cases).outs in
    let inner_breaks : breaks i1 ≡ outs.breaks = q.walked.broken ∙ ap (λ b. b ++ outs.breaks) no_break in
    let inner_continues : continues i1 ≡ outs.continues = q.walked.continued ∙ ap (λ b. b ++ outs.continues) no_continue in
    record {
      node = λ own. record {
        node = λ at. record {
          falls =
              falls ∙ ap (λ b. b || not (has_default cases) || left) q.walked.falls
              ∙ ap (λ b. outs.falls || not (has_default cases) || b) (is_left ∙ ap (list_any is_unlabeled) inner_breaks);
          acts = acts;
          broken = broken ∙ ap (λ b. breaks j ++ filter (λ l. not (is_unlabeled l)) b) inner_breaks;
          continued = continued ∙ ap (λ b. continues j ++ b) (all_kept (continues i1) ∙ inner_continues);
          dead = q.walked.dead;
        };
      };
    }

pub switch_made : (j k i0 i1 : Jumps) (d e : List Range) (h f : Flow) (cases : Pieces) (left : Bool) → breaks i0 ≡ [] → continues i0 ≡ []
    → WalkedCases i0 i1 d e h cases → left ≡ list_any (takes target.Unlabeled) (breaks i1)
    → breaks k ≡ breaks j ++ filter (λ l. not (takes target.Unlabeled l)) (breaks i1)
    → continues k ≡ continues j ++ filter (λ l. not (takes target.Nothing l)) (continues i1)
    → f.falls ≡ (h.falls || not (has_default cases) || left) → f.acts ≡ true → WalkedSwitch j k d e f cases
switch_made j k i0 i1 d e h f cases left no_break no_continue q is_left broken continued falls acts = record {
  walked = λ x. switch_node j k i0 i1 d e h f x cases left no_break no_continue q is_left broken continued falls acts;
}

pub switch_walked : (j k : Jumps) (d e : List Range) (f : Flow) (parts cases : Pieces) → Some cases ≡ second_list parts
    → WalkedSwitch j k d e f cases → WalkedPlain j k d e f word.Switch parts
switch_walked j k d e f (Then x (Then (Listed items) End)) cases is q =
    let same : cases ≡ items = cc in subst (λ s. WalkedPlain j k d e f word.Switch (Then x (Then (Listed s) End))) same (q.walked x)
switch_walked j k d e f _ cases is q = absurd (cc)

pub no_switch : (j : Jumps) (d : List Range) (f : Flow) (parts : Pieces) → None ≡ second_list parts → f.falls ≡ true → f.acts ≡ false
    → WalkedPlain j j d d f word.Switch parts
no_switch j d f (Then x (Then (Listed items) End)) none falls acts = absurd (cc)
no_switch j d f _ none falls acts = record { node = λ own. record { node = λ at. calm j d f falls acts } }

pub ruleset switches = (switch_walked, no_switch)

labeled_node : (j k i0 i1 : Jumps) (d e : List Range) (h f : Flow) (label : List ℕ) (body : Syntax) → breaks i0 ≡ [] → continues i0 ≡ []
    → Walked i0 i1 d e h (lives (Some label) body) (dead_in (Some label) body)
    → breaks k ≡ breaks j ++ filter (λ l. not (is_labeled label l)) (breaks i1)
    → continues k ≡ continues j ++ filter (λ l. not (is_labeled label l)) (continues i1)
    → f.falls ≡ (h.falls || list_any (is_labeled label) (breaks i1)) → f.acts ≡ h.acts
    → WalkedPlain j k d e f word.Labeled (Then (Said label) (Then body End))
labeled_node j k i0 i1 d e h f label body no_break no_continue q broken continued falls acts =
    let outs = (lives (Some label) body).outs in
    let inner_breaks : breaks i1 ≡ outs.breaks = q.broken ∙ ap (λ b. b ++ outs.breaks) no_break in
    let inner_continues : continues i1 ≡ outs.continues = q.continued ∙ ap (λ b. b ++ outs.continues) no_continue in
    record {
      node = λ own. record {
        node = λ at. record {
          falls =
              falls ∙ ap (λ b. b || list_any (is_labeled label) (breaks i1)) q.falls
              ∙ ap (λ b. outs.falls || list_any (is_labeled label) b) inner_breaks;
          acts = acts ∙ q.acts;
          broken = broken ∙ ap (λ b. breaks j ++ filter (λ l. not (is_labeled label l)) b) inner_breaks;
          continued = continued ∙ ap (λ b. continues j ++ filter (λ l. not (is_labeled label l)) b) inner_continues;
          dead = q.dead;
        };
      };
    }

pub labeled_made : (j k i0 i1 : Jumps) (d e : List Range) (h f : Flow) (label : List ℕ) (body : Syntax) → breaks i0 ≡ [] → continues i0 ≡ []
    → Walked i0 i1 d e h (lives (Some label) body) (dead_in (Some label) body)
    → breaks k ≡ breaks j ++ filter (λ l. not (is_labeled label l)) (breaks i1)
    → continues k ≡ continues j ++ filter (λ l. not (is_labeled label l)) (continues i1)
    → f.falls ≡ (h.falls || list_any (is_labeled label) (breaks i1)) → f.acts ≡ h.acts → WalkedLabeled j k d e f label body
labeled_made j k i0 i1 d e h f label body no_break no_continue q broken continued falls acts = record {
  walked = labeled_node j k i0 i1 d e h f label body no_break no_continue q broken continued falls acts;
}

pub labeled_walked : (j k : Jumps) (d e : List Range) (f : Flow) (parts : Pieces) (label : List ℕ) (body : Syntax)
    → Some (label, body) ≡ labeled_of parts → WalkedLabeled j k d e f label body → WalkedPlain j k d e f word.Labeled parts
labeled_walked j k d e f (Then (Said text) (Then x End)) label body is q =
    let first : label ≡ text = first_of (label, body) (text, x) is in
    let second : body ≡ x = second_of (label, body) (text, x) is in
    subst (λ s. WalkedPlain j k d e f word.Labeled (Then (Said s) (Then x End))) first
    (subst (λ s. WalkedPlain j k d e f word.Labeled (Then (Said label) (Then s End))) second q.walked)
labeled_walked j k d e f _ label body is q = absurd (cc)

pub no_labeled : (j : Jumps) (d : List Range) (f : Flow) (parts : Pieces) → None ≡ labeled_of parts → f.falls ≡ true → f.acts ≡ false
    → WalkedPlain j j d d f word.Labeled parts
no_labeled j d f (Then (Said text) (Then x End)) none falls acts = absurd (cc)
no_labeled j d f _ none falls acts = record { node = λ own. record { node = λ at. calm j d f falls acts } }

pub ruleset labels = (labeled_walked, no_labeled)

-- The walk over a `try`, by whether its block acts.
abbrev TryWalked : (j l : Jumps) (d g : List Range) (r : Flow) (block body handler : Syntax) → (acts : Bool) → Type 0
TryWalked j l d g r block body handler acts =
    Walked j l d g r
    (if acts then record { outs = either (lives None block).outs (lives None body).outs; acts = (lives None body).acts }
    else record { outs = (lives None block).outs; acts = false })
    (dead_in None block ++ (if acts then dead_in None body else handler ∷ []))

record TryShape (parts : Pieces) (block handler body : Syntax) : Type 0 where
  there : At
  param : Syntax
  finalizer : Syntax
  parts_are : parts ≡ Then block (Then (Node there word.Catch (Then param (Then body End))) (Then finalizer End))
  handler_is : Node there word.Catch (Then param (Then body End)) ≡ handler

try_shape : (parts : Pieces) (block handler body : Syntax) → Some (block, (handler, body)) ≡ try_parts parts → TryShape parts block handler body
try_shape (Then b (Then (Node at word.Catch (Then p (Then x End))) (Then f End))) block handler body is =
    let c = Node at word.Catch (Then p (Then x End)) in
    let first : block ≡ b = first_of (block, (handler, body)) (b, (c, x)) is in
    let rest : (handler, body) ≡ (c, x) = second_of (block, (handler, body)) (b, (c, x)) is in
    let second : handler ≡ c = ap (λ (r : Syntax × Syntax). r.0) rest in
    let third : body ≡ x = ap (λ (r : Syntax × Syntax). r.1) rest in
    record {
      there = at;
      param = p;
      finalizer = f;
      parts_are =
          ap (λ s. Then s (Then (Node at word.Catch (Then p (Then x End))) (Then f End))) (sym first)
          ∙ ap (λ s. Then block (Then (Node at word.Catch (Then p (Then s End))) (Then f End))) (sym third);
      handler_is = ap (λ s. Node at word.Catch (Then p (Then s End))) third ∙ sym second;
    }
try_shape (Then x (Then h (Then f (Then g rest)))) block handler body is = absurd (cc)
try_shape (Then x (Then h End)) block handler body is = absurd (cc)
try_shape (Then x End) block handler body is = absurd (cc)
try_shape End block handler body is = absurd (cc)
try_shape _ block handler body is = absurd (cc)

try_node : (j l : Jumps) (d g : List Range) (r : Flow) (parts : Pieces) (block handler body : Syntax)
    → Some (block, (handler, body)) ≡ try_parts parts → TryWalked j l d g r block body handler (lives None block).acts
    → WalkedPlain j l d g r word.Try parts
try_node j l d g r parts block handler body is q =
    let s = try_shape parts block handler body is in
    subst (λ ps. WalkedPlain j l d g r word.Try ps) (sym s.parts_are)
    (record {
      node = λ own. record {
        node = λ at. subst (λ h. TryWalked j l d g r block body h (lives None block).acts) (sym s.handler_is) q;
      };
    })

pub try_live : (j k l : Jumps) (d e g : List Range) (f h r : Flow) (parts : Pieces) (block handler body : Syntax)
    → Some (block, (handler, body)) ≡ try_parts parts → Walked j k d e f (lives None block) (dead_in None block) → f.acts ≡ true
    → Walked k l e g h (lives None body) (dead_in None body) → r.falls ≡ (f.falls || h.falls) → r.acts ≡ h.acts
    → WalkedPlain j l d g r word.Try parts
try_live j k l d e g f h r parts block handler body is q live caught falls acts =
    try_node j l d g r parts block handler body is
    (subst (λ b. TryWalked j l d g r block body handler b) (sym live ∙ q.acts)
    (either_walked j k l d e g f h r (lives None block) (lives None body) (dead_in None block) (dead_in None body) (lives None body).acts q
    caught falls (acts ∙ caught.acts)))

pub try_calm : (j k : Jumps) (d e g : List Range) (f : Flow) (parts : Pieces) (block handler body : Syntax)
    → Some (block, (handler, body)) ≡ try_parts parts → Walked j k d e f (lives None block) (dead_in None block) → f.acts ≡ false
    → Adds e g (handler ∷ []) → WalkedPlain j k d g f word.Try parts
try_calm j k d e g f parts block handler body is q not_live adds =
    try_node j k d g f parts block handler body is
    (subst (λ b. TryWalked j k d g f block body handler b) (sym not_live ∙ q.acts)
    (record {
      falls = q.falls;
      acts = not_live;
      broken = q.broken;
      continued = q.continued;
      dead = adds_both d e g (dead_in None block) (handler ∷ []) q.dead adds;
    }))

pub no_try : (j : Jumps) (d : List Range) (f : Flow) (parts : Pieces) → None ≡ try_parts parts → f.falls ≡ true → f.acts ≡ false
    → WalkedPlain j j d d f word.Try parts
no_try j d f (Then b (Then (Node there word.Catch (Then param (Then x End))) (Then finalizer End))) none falls acts = absurd (cc)
no_try j d f _ none falls acts = record { node = λ own. record { node = λ at. calm j d f falls acts } }

pub ruleset tries = (try_live, try_calm, no_try)
