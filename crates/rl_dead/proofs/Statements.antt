-- Walks over statements without a body, blocks and `if` statements.
use Rattle.std.proofs.Common.{◌≡◌, ℕ, Bool, true, false, ◌||◌, Some, None, List, [], ◌∷◌, ◌++◌, map, append-nil, append_assoc}
use Rattle.std.proofs.Common.{Result, Ok, Err, IfOk, refl, sym, ap, ◌∙◌}
use Rattle.std.proofs.Math.Path.{subst}
use Rattle.rl_dead.proofs.Covering.{adds_both, adds_none}
use Rattle.rl_dead.proofs.Pairs.{first_of, second_of}
use Rattle.rl_dead.specs.Jumps.{breaks, continues}
use Rattle.rl_dead.specs.Parts.{jump_of, last_two, only_list}
use Rattle.rl_dead.specs.Walks.{Walked, WalkedJump, WalkedNode, WalkedPlain, WalkedStatements, WalkedStill}
use Rattle.rl_dead.specs.declared.flow.Flow.{Flow}
use Rattle.rl_dead.specs.declared.jumps.Jumps.{Jumps}
use Rattle.rl_dead.specs.declared.ranges.Range.{Range}
use Rattle.rl_model.specs.Actions.{Label}
use Rattle.rl_model.specs.Code.{is_no_code}
use Rattle.rl_model.specs.Dead.{Lives, dead_among, dead_in, declares, either, falling, lives, lives_all, quiet}
use Rattle.rl_syntax.specs.Syntax.{Syntax, Node, Listed, Said, Count, Flag, Absent, Pieces, End, Then, pieces_of, syntax}
use Rattle.rl_syntax.specs.declared.numbered.At.{At}
use Rattle.rl_syntax.specs.declared.numbered.Numbered.{Numbered}
use Rattle.rl_syntax.specs.declared.numbered.Numbered.TheVariants as numbered
use Rattle.rl_syntax.specs.declared.word.Word.{Word}
use Rattle.rl_syntax.specs.declared.word.Word.TheVariants as word
use Rattle.rl_syntax.proofs.Layers.{syntax_node, syntax_list, syntax_text, syntax_number, syntax_flag, syntax_absent}

-- No jump and no dead part.
pub still : (j : Jumps) (d : List Range) (f : Flow) (l : Lives) → f.falls ≡ l.outs.falls → f.acts ≡ l.acts → [] ≡ l.outs.breaks
    → [] ≡ l.outs.continues → Walked j j d d f l []
still j d f l falls acts no_break no_continue = record {
  falls = falls;
  acts = acts;
  broken = sym (append-nil (breaks j)) ∙ ap (λ x. breaks j ++ x) no_break;
  continued = sym (append-nil (continues j)) ∙ ap (λ x. continues j ++ x) no_continue;
  dead = adds_none d;
}

pub calm : (j : Jumps) (d : List Range) (f : Flow) → f.falls ≡ true → f.acts ≡ false → Walked j j d d f (quiet falling) []
calm j d f falls acts = still j d f (quiet falling) falls acts refl refl

pub node_walked : (j k : Jumps) (d e : List Range) (f : Flow) (own : Label) (at : At) (w : Word) (parts : List Numbered)
    → WalkedNode j k d e f own w (pieces_of (map syntax parts))
    → Walked j k d e f (lives own (syntax (numbered.Node at w parts))) (dead_in own (syntax (numbered.Node at w parts)))
node_walked j k d e f own at w parts q =
    subst (λ t. Walked j k d e f (lives own t) (dead_in own t)) (sym (syntax_node at w parts)) (q.node at)

pub list_walked : (j : Jumps) (d : List Range) (f : Flow) (own : Label) (items : List Numbered) → f.falls ≡ true → f.acts ≡ false
    → Walked j j d d f (lives own (syntax (numbered.List items))) (dead_in own (syntax (numbered.List items)))
list_walked j d f own items falls acts =
    subst (λ t. Walked j j d d f (lives own t) (dead_in own t)) (sym (syntax_list items)) (calm j d f falls acts)

pub text_walked : (j : Jumps) (d : List Range) (f : Flow) (own : Label) (text : List ℕ) → f.falls ≡ true → f.acts ≡ false
    → Walked j j d d f (lives own (syntax (numbered.Text text))) (dead_in own (syntax (numbered.Text text)))
text_walked j d f own text falls acts =
    subst (λ t. Walked j j d d f (lives own t) (dead_in own t)) (sym (syntax_text text)) (calm j d f falls acts)

pub number_walked : (j : Jumps) (d : List Range) (f : Flow) (own : Label) (number : ℕ) → f.falls ≡ true → f.acts ≡ false
    → Walked j j d d f (lives own (syntax (numbered.Number number))) (dead_in own (syntax (numbered.Number number)))
number_walked j d f own number falls acts =
    subst (λ t. Walked j j d d f (lives own t) (dead_in own t)) (sym (syntax_number number)) (calm j d f falls acts)

pub flag_walked : (j : Jumps) (d : List Range) (f : Flow) (own : Label) (flag : Bool) → f.falls ≡ true → f.acts ≡ false
    → Walked j j d d f (lives own (syntax (numbered.Flag flag))) (dead_in own (syntax (numbered.Flag flag)))
flag_walked j d f own flag falls acts =
    subst (λ t. Walked j j d d f (lives own t) (dead_in own t)) (sym (syntax_flag flag)) (calm j d f falls acts)

pub absent_walked : (j : Jumps) (d : List Range) (f : Flow) (own : Label) → f.falls ≡ true → f.acts ≡ false
    → Walked j j d d f (lives own (syntax numbered.Absent)) (dead_in own (syntax numbered.Absent))
absent_walked j d f own falls acts =
    subst (λ t. Walked j j d d f (lives own t) (dead_in own t)) (sym syntax_absent) (calm j d f falls acts)

-- By the tree that a walk is given.
pub list_tree : (j : Jumps) (d : List Range) (f : Flow) (own : Label) (tree : Numbered) (items : List Numbered) → tree ≡ numbered.List items
    → f.falls ≡ true → f.acts ≡ false → Walked j j d d f (lives own (syntax tree)) (dead_in own (syntax tree))
list_tree j d f own tree items is falls acts =
    subst (λ t. Walked j j d d f (lives own (syntax t)) (dead_in own (syntax t))) (sym is) (list_walked j d f own items falls acts)

pub text_tree : (j : Jumps) (d : List Range) (f : Flow) (own : Label) (tree : Numbered) (text : List ℕ) → tree ≡ numbered.Text text
    → f.falls ≡ true → f.acts ≡ false → Walked j j d d f (lives own (syntax tree)) (dead_in own (syntax tree))
text_tree j d f own tree text is falls acts =
    subst (λ t. Walked j j d d f (lives own (syntax t)) (dead_in own (syntax t))) (sym is) (text_walked j d f own text falls acts)

pub number_tree : (j : Jumps) (d : List Range) (f : Flow) (own : Label) (tree : Numbered) (number : ℕ) → tree ≡ numbered.Number number
    → f.falls ≡ true → f.acts ≡ false → Walked j j d d f (lives own (syntax tree)) (dead_in own (syntax tree))
number_tree j d f own tree number is falls acts =
    subst (λ t. Walked j j d d f (lives own (syntax t)) (dead_in own (syntax t))) (sym is) (number_walked j d f own number falls acts)

pub flag_tree : (j : Jumps) (d : List Range) (f : Flow) (own : Label) (tree : Numbered) (flag : Bool) → tree ≡ numbered.Flag flag
    → f.falls ≡ true → f.acts ≡ false → Walked j j d d f (lives own (syntax tree)) (dead_in own (syntax tree))
flag_tree j d f own tree flag is falls acts =
    subst (λ t. Walked j j d d f (lives own (syntax t)) (dead_in own (syntax t))) (sym is) (flag_walked j d f own flag falls acts)

pub absent_tree : (j : Jumps) (d : List Range) (f : Flow) (own : Label) (tree : Numbered) → tree ≡ numbered.Absent
    → f.falls ≡ true → f.acts ≡ false → Walked j j d d f (lives own (syntax tree)) (dead_in own (syntax tree))
absent_tree j d f own tree is falls acts =
    subst (λ t. Walked j j d d f (lives own (syntax t)) (dead_in own (syntax t))) (sym is) (absent_walked j d f own falls acts)

pub ruleset by_form = (node_walked, list_walked, text_walked, number_walked, flag_walked, absent_walked)

-- A node of one word, from what holds whatever its ids.
pub plain_node : (j k : Jumps) (d e : List Range) (f : Flow) (own : Label) (w : Word) (parts : Pieces) → WalkedPlain j k d e f w parts
    → WalkedNode j k d e f own w parts
plain_node j k d e f own w parts q = q.node own

pub jump_node : (j k : Jumps) (d : List Range) (f : Flow) (own : Label) (w : Word) (parts : Pieces) → WalkedJump j k f w parts
    → WalkedNode j k d d f own w parts
jump_node j k d f own w parts q = (q.node d).node own

pub still_node : (j : Jumps) (d : List Range) (f : Flow) (own : Label) (w : Word) (parts : Pieces) → WalkedStill f w parts
    → WalkedNode j j d d f own w parts
still_node j d f own w parts q = ((q.node j).node d).node own

pub return_node : (j : Jumps) (d : List Range) (f : Flow) (own : Label) (parts : Pieces) → f.falls ≡ false → f.acts ≡ true
    → WalkedNode j j d d f own word.Return parts
return_node j d f own parts falls acts = record { node = λ at. still j d f _ falls acts refl refl }

pub throw_node : (j : Jumps) (d : List Range) (f : Flow) (own : Label) (parts : Pieces) → f.falls ≡ false → f.acts ≡ true
    → WalkedNode j j d d f own word.Throw parts
throw_node j d f own parts falls acts = record { node = λ at. still j d f _ falls acts refl refl }

pub expr_node : (j : Jumps) (d : List Range) (f : Flow) (own : Label) (parts : Pieces) → f.falls ≡ true → f.acts ≡ true
    → WalkedNode j j d d f own word.Expr parts
expr_node j d f own parts falls acts = record { node = λ at. still j d f _ falls acts refl refl }

pub debugger_node : (j : Jumps) (d : List Range) (f : Flow) (own : Label) (parts : Pieces) → f.falls ≡ true → f.acts ≡ true
    → WalkedNode j j d d f own word.Debugger parts
debugger_node j d f own parts falls acts = record { node = λ at. still j d f _ falls acts refl refl }

-- As `plain_node` and `jump_node`, for the result of a walk.
pub ok_plain : {E : Type 0} (j k : Jumps) (d e : List Range) (r : Result Flow E) (own : Label) (w : Word) (parts : Pieces)
    → IfOk r (λ f. WalkedPlain j k d e f w parts) → IfOk r (λ f. WalkedNode j k d e f own w parts)
ok_plain j k d e (Ok f) own w parts q = q.node own
ok_plain j k d e (Err x) own w parts q = q

pub ok_jump : {E : Type 0} (j k : Jumps) (d : List Range) (r : Result Flow E) (own : Label) (w : Word) (parts : Pieces)
    → IfOk r (λ f. WalkedJump j k f w parts) → IfOk r (λ f. WalkedNode j k d d f own w parts)
ok_jump j k d (Ok f) own w parts q = (q.node d).node own
ok_jump j k d (Err x) own w parts q = q

pub ruleset simple = (ok_plain, ok_jump, plain_node, jump_node, still_node, return_node, throw_node, expr_node, debugger_node)

calm_plain : (j : Jumps) (d : List Range) (f : Flow) (w : Word) (parts : Pieces)
    → ((own : Label) (at : At) → Walked j j d d f (lives own (Node at w parts)) (dead_in own (Node at w parts))) → WalkedPlain j j d d f w parts
calm_plain j d f w parts q = record { node = λ own. record { node = λ at. q own at } }

-- Declarations of variables.
pub variables_still : (f : Flow) (parts : Pieces) → f.falls ≡ true → f.acts ≡ declares parts → WalkedStill f word.Var parts
variables_still f parts falls acts =
    record { node = λ j. record { node = λ d. calm_plain j d f word.Var _ (λ own at. still j d f _ falls acts refl refl) } }

-- Function declarations.
pub bodiless_still : (f : Flow) (parts : Pieces) → is_no_code word.Fundecl parts ≡ true → f.falls ≡ true → f.acts ≡ false
    → WalkedStill f word.Fundecl parts
bodiless_still f (Then marked (Then is_async (Then generator (Then name (Then params (Then Absent End)))))) is falls acts =
    record { node = λ j. record { node = λ d. calm_plain j d f word.Fundecl _ (λ own at. calm j d f falls acts) } }
bodiless_still f _ is falls acts = absurd (cc)

pub declared_still : (f : Flow) (parts : Pieces) → is_no_code word.Fundecl parts ≡ false → f.falls ≡ true → f.acts ≡ true
    → WalkedStill f word.Fundecl parts
declared_still f (Then marked (Then is_async (Then generator (Then name (Then params (Then Absent End)))))) is falls acts = absurd (cc)
declared_still f _ is falls acts =
    record { node = λ j. record { node = λ d. calm_plain j d f word.Fundecl _ (λ own at. still j d f _ falls acts refl refl) } }

pub ruleset declared = (bodiless_still, declared_still)

-- Jumps.
pub break_walked : (j k : Jumps) (f : Flow) (parts : Pieces) (label : Label) → Some label ≡ jump_of parts → f.falls ≡ false → f.acts ≡ false
    → breaks k ≡ breaks j ++ label ∷ [] → continues k ≡ continues j → WalkedJump j k f word.Break parts
break_walked j k f (Then Absent End) label is falls acts broken same =
    let none : label ≡ None = cc in
    record {
      node = λ d. record {
        node = λ own. record {
          node = λ at. record {
            falls = falls;
            acts = acts;
            broken = broken ∙ ap (λ l. breaks j ++ l ∷ []) none;
            continued = same ∙ sym (append-nil (continues j));
            dead = adds_none d;
          };
        };
      };
    }
break_walked j k f (Then (Said text) End) label is falls acts broken same =
    let some : label ≡ Some text = cc in
    record {
      node = λ d. record {
        node = λ own. record {
          node = λ at. record {
            falls = falls;
            acts = acts;
            broken = broken ∙ ap (λ l. breaks j ++ l ∷ []) some;
            continued = same ∙ sym (append-nil (continues j));
            dead = adds_none d;
          };
        };
      };
    }
break_walked j k f (Then first (Then second rest)) label is falls acts broken same = absurd (cc)
break_walked j k f (Then (Node at w parts) End) label is falls acts broken same = absurd (cc)
break_walked j k f (Then (Listed parts) End) label is falls acts broken same = absurd (cc)
break_walked j k f (Then (Count number) End) label is falls acts broken same = absurd (cc)
break_walked j k f (Then (Flag flag) End) label is falls acts broken same = absurd (cc)
break_walked j k f End label is falls acts broken same = absurd (cc)

pub no_break : (j : Jumps) (f : Flow) (parts : Pieces) → None ≡ jump_of parts → f.falls ≡ true → f.acts ≡ false
    → WalkedJump j j f word.Break parts
no_break j f (Then Absent End) none falls acts = absurd (cc)
no_break j f (Then (Said text) End) none falls acts = absurd (cc)
no_break j f _ none falls acts = record { node = λ d. calm_plain j d f word.Break _ (λ own at. calm j d f falls acts) }

pub ruleset broken = (break_walked, no_break)

pub continue_walked : (j k : Jumps) (f : Flow) (parts : Pieces) (label : Label) → Some label ≡ jump_of parts → f.falls ≡ false
    → f.acts ≡ false → continues k ≡ continues j ++ label ∷ [] → breaks k ≡ breaks j → WalkedJump j k f word.Continue parts
continue_walked j k f (Then Absent End) label is falls acts continued same =
    let none : label ≡ None = cc in
    record {
      node = λ d. record {
        node = λ own. record {
          node = λ at. record {
            falls = falls;
            acts = acts;
            broken = same ∙ sym (append-nil (breaks j));
            continued = continued ∙ ap (λ l. continues j ++ l ∷ []) none;
            dead = adds_none d;
          };
        };
      };
    }
continue_walked j k f (Then (Said text) End) label is falls acts continued same =
    let some : label ≡ Some text = cc in
    record {
      node = λ d. record {
        node = λ own. record {
          node = λ at. record {
            falls = falls;
            acts = acts;
            broken = same ∙ sym (append-nil (breaks j));
            continued = continued ∙ ap (λ l. continues j ++ l ∷ []) some;
            dead = adds_none d;
          };
        };
      };
    }
continue_walked j k f (Then first (Then second rest)) label is falls acts continued same = absurd (cc)
continue_walked j k f (Then (Node at w parts) End) label is falls acts continued same = absurd (cc)
continue_walked j k f (Then (Listed parts) End) label is falls acts continued same = absurd (cc)
continue_walked j k f (Then (Count number) End) label is falls acts continued same = absurd (cc)
continue_walked j k f (Then (Flag flag) End) label is falls acts continued same = absurd (cc)
continue_walked j k f End label is falls acts continued same = absurd (cc)

pub no_continue : (j : Jumps) (f : Flow) (parts : Pieces) → None ≡ jump_of parts → f.falls ≡ true → f.acts ≡ false
    → WalkedJump j j f word.Continue parts
no_continue j f (Then Absent End) none falls acts = absurd (cc)
no_continue j f (Then (Said text) End) none falls acts = absurd (cc)
no_continue j f _ none falls acts = record { node = λ d. calm_plain j d f word.Continue _ (λ own at. calm j d f falls acts) }

pub ruleset continued = (continue_walked, no_continue)

-- Blocks.
pub block_walked : (j k : Jumps) (d e : List Range) (f : Flow) (parts statements : Pieces) → Some statements ≡ only_list parts
    → WalkedStatements j k d e f statements → WalkedPlain j k d e f word.Block parts
block_walked j k d e f (Then (Listed items) End) statements is q =
    let same : statements ≡ items = cc in
    record {
      node = λ own. record {
        node = λ at. subst (λ s. Walked j k d e f (lives_all s) (dead_among true s)) same q.walked;
      };
    }
block_walked j k d e f _ statements is q = absurd (cc)

pub no_block : (j : Jumps) (d : List Range) (f : Flow) (parts : Pieces) → None ≡ only_list parts → f.falls ≡ true → f.acts ≡ false
    → WalkedPlain j j d d f word.Block parts
no_block j d f (Then (Listed items) End) none falls acts = absurd (cc)
no_block j d f _ none falls acts = calm_plain j d f word.Block _ (λ own at. calm j d f falls acts)

pub ruleset blocks = (block_walked, no_block)

-- Of two parts one is run, or both.
pub either_walked : (j k l : Jumps) (d e g : List Range) (fa fb f : Flow) (la lb : Lives) (pa pb : List Syntax) (acts : Bool)
    → Walked j k d e fa la pa → Walked k l e g fb lb pb → f.falls ≡ (fa.falls || fb.falls) → f.acts ≡ acts
    → Walked j l d g f (record { outs = either la.outs lb.outs; acts = acts }) (pa ++ pb)
either_walked j k l d e g fa fb f la lb pa pb acts one other falls same = record {
  falls = falls ∙ ap (λ b. b || fb.falls) one.falls ∙ ap (λ b. la.outs.falls || b) other.falls;
  acts = same;
  broken =
      other.broken ∙ ap (λ x. x ++ lb.outs.breaks) one.broken ∙ append_assoc (breaks j) la.outs.breaks lb.outs.breaks;
  continued =
      other.continued ∙ ap (λ x. x ++ lb.outs.continues) one.continued
      ∙ append_assoc (continues j) la.outs.continues lb.outs.continues;
  dead = adds_both d e g pa pb one.dead other.dead;
}

pub if_walked : (j k l : Jumps) (d e g : List Range) (fa fb f : Flow) (parts : Pieces) (a b : Syntax) → Some (a, b) ≡ last_two parts
    → Walked j k d e fa (lives None a) (dead_in None a) → Walked k l e g fb (lives None b) (dead_in None b)
    → f.falls ≡ (fa.falls || fb.falls) → f.acts ≡ true → WalkedPlain j l d g f word.If parts
if_walked j k l d e g fa fb f (Then c (Then x (Then y End))) a b is one other falls acts =
    let first : a ≡ x = first_of (a, b) (x, y) is in
    let second : b ≡ y = second_of (a, b) (x, y) is in
    record {
      node = λ own. record {
        node = λ at.
            either_walked j k l d e g fa fb f (lives None x) (lives None y) (dead_in None x) (dead_in None y) true
            (subst (λ s. Walked j k d e fa (lives None s) (dead_in None s)) first one)
            (subst (λ s. Walked k l e g fb (lives None s) (dead_in None s)) second other) falls acts;
      };
    }
if_walked j k l d e g fa fb f _ a b is one other falls acts = absurd (cc)

pub no_if : (j : Jumps) (d : List Range) (f : Flow) (parts : Pieces) → None ≡ last_two parts → f.falls ≡ true → f.acts ≡ false
    → WalkedPlain j j d d f word.If parts
no_if j d f (Then c (Then x (Then y End))) none falls acts = absurd (cc)
no_if j d f _ none falls acts = calm_plain j d f word.If _ (λ own at. calm j d f falls acts)

pub ruleset branches = (if_walked, no_if)
