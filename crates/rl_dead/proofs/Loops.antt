-- Walks over loops.
use Rattle.std.proofs.Common.{◌≡◌, Bool, true, false, ◌&&◌, ◌||◌, not, Some, None, List, [], ◌++◌, filter, refl, ap, ◌∙◌}
use Rattle.std.specs.List.{list_any}
use Rattle.std.proofs.Math.Path.{subst}
use Rattle.rl_dead.proofs.Covering.{adds_both, adds_swapped}
use Rattle.rl_dead.proofs.Pairs.{first_of, second_of}
use Rattle.rl_dead.proofs.Statements.{calm}
use Rattle.rl_dead.specs.Jumps.{breaks, continues, name_of, takes}
use Rattle.rl_dead.specs.Parts.{For, body_of_each, both, for_parts, init_acts, second_of_two, third_of_three}
use Rattle.rl_dead.specs.Ranges.{Adds}
use Rattle.rl_dead.specs.Walks.{Walked, WalkedBody, WalkedFor, WalkedLoop, WalkedNode, for_acts}
use Rattle.rl_dead.specs.declared.flow.Flow.{Flow}
use Rattle.rl_dead.specs.declared.jumps.Jumps.{Jumps}
use Rattle.rl_dead.specs.declared.jumps.Label.{Label as Held}
use Rattle.rl_dead.specs.declared.jumps.Target.TheVariants as target
use Rattle.rl_dead.specs.declared.ranges.Range.{Range}
use Rattle.rl_dead.specs.declared.walk.Body.{Body}
use Rattle.rl_model.specs.Actions.{Label, is_own}
use Rattle.rl_model.specs.Dead as dead
use Rattle.rl_model.specs.Dead.{dead_in, goes_on, is_unlabeled, lives, parts_if}
use Rattle.rl_model.specs.Shapes as shapes
use Rattle.rl_syntax.specs.Forms as forms
use Rattle.rl_syntax.specs.Syntax.{Syntax, Node, Listed, Said, Count, Flag, Absent, Pieces, End, Then}
use Rattle.rl_syntax.specs.declared.word.Word.TheVariants as word

pub body_walked : (j k i0 i1 : Jumps) (d e : List Range) (f : Flow) (r : Body) (own : Held) (b : Syntax)
    → breaks i0 ≡ [] → continues i0 ≡ [] → Walked i0 i1 d e f (lives None b) (dead_in None b)
    → r.goes_on ≡ (f.falls || list_any (takes (target.Own own)) (continues i1)) → r.is_broken ≡ list_any (takes target.Unlabeled) (breaks i1)
    → r.acts ≡ f.acts → breaks k ≡ breaks j ++ filter (λ l. not (takes target.Unlabeled l)) (breaks i1)
    → continues k ≡ continues j ++ filter (λ l. not (takes (target.Own own) l)) (continues i1) → WalkedBody j k d e r (name_of own) b
body_walked j k i0 i1 d e f r own b no_break no_continue q goes_on is_broken acts broken continued =
    let inner_breaks : breaks i1 ≡ (lives None b).outs.breaks = q.broken ∙ ap (λ x. x ++ (lives None b).outs.breaks) no_break in
    let inner_continues : continues i1 ≡ (lives None b).outs.continues =
    q.continued ∙ ap (λ x. x ++ (lives None b).outs.continues) no_continue in
    record {
      goes_on =
          goes_on ∙ ap (λ x. x || list_any (is_own (name_of own)) (continues i1)) q.falls
          ∙ ap (λ x. (lives None b).outs.falls || list_any (is_own (name_of own)) x) inner_continues;
      is_broken = is_broken ∙ ap (λ x. list_any is_unlabeled x) inner_breaks;
      acts = acts ∙ q.acts;
      broken = broken ∙ ap (λ x. breaks j ++ filter (λ l. not (is_unlabeled l)) x) inner_breaks;
      continued = continued ∙ ap (λ x. continues j ++ filter (λ l. not (is_own (name_of own) l)) x) inner_continues;
      dead = q.dead;
    }

pub loop_walked : (j k : Jumps) (d e : List Range) (f : Flow) (r : Body) (own : Label) (b : Syntax) → WalkedBody j k d e r own b
    → f.falls ≡ true → f.acts ≡ true → WalkedLoop j k d e f own b
loop_walked j k d e f r own b q falls acts = record {
  walked = record { falls = falls; acts = acts; broken = q.broken; continued = q.continued; dead = q.dead };
}

pub while_walked : (j k : Jumps) (d e : List Range) (f : Flow) (own : Label) (parts : Pieces) (b : Syntax) → Some b ≡ second_of_two parts
    → WalkedLoop j k d e f own b → WalkedNode j k d e f own word.While parts
while_walked j k d e f own (Then c (Then body End)) b is q =
    let same : b ≡ body = cc in record { node = λ at. (subst (λ s. WalkedLoop j k d e f own s) same q).walked }
while_walked j k d e f own _ b is q = absurd (cc)

pub no_while : (j : Jumps) (d : List Range) (f : Flow) (own : Label) (parts : Pieces) → None ≡ second_of_two parts → f.falls ≡ true
    → f.acts ≡ false → WalkedNode j j d d f own word.While parts
no_while j d f own (Then c (Then body End)) none falls acts = absurd (cc)
no_while j d f own _ none falls acts = record { node = λ at. calm j d f falls acts }

pub ruleset whiles = (while_walked, no_while)

pub for_in_walked : (j k : Jumps) (d e : List Range) (f : Flow) (own : Label) (parts : Pieces) (b : Syntax) → Some b ≡ third_of_three parts
    → WalkedLoop j k d e f own b → WalkedNode j k d e f own word.Forin parts
for_in_walked j k d e f own (Then head (Then right (Then body End))) b is q =
    let same : b ≡ body = cc in record { node = λ at. (subst (λ s. WalkedLoop j k d e f own s) same q).walked }
for_in_walked j k d e f own _ b is q = absurd (cc)

pub no_for_in : (j : Jumps) (d : List Range) (f : Flow) (own : Label) (parts : Pieces) → None ≡ third_of_three parts → f.falls ≡ true
    → f.acts ≡ false → WalkedNode j j d d f own word.Forin parts
no_for_in j d f own (Then head (Then right (Then body End))) none falls acts = absurd (cc)
no_for_in j d f own _ none falls acts = record { node = λ at. calm j d f falls acts }

pub ruleset for_ins = (for_in_walked, no_for_in)

pub for_of_walked : (j k : Jumps) (d e : List Range) (f : Flow) (own : Label) (parts : Pieces) (b : Syntax) → Some b ≡ body_of_each parts
    → WalkedLoop j k d e f own b → WalkedNode j k d e f own word.Forof parts
for_of_walked j k d e f own (Then (Flag false) (Then head (Then right (Then body End)))) b is q =
    let same : b ≡ body = cc in record { node = λ at. (subst (λ s. WalkedLoop j k d e f own s) same q).walked }
for_of_walked j k d e f own _ b is q = absurd (cc)

pub no_for_of : (j : Jumps) (d : List Range) (f : Flow) (own : Label) (parts : Pieces) → None ≡ body_of_each parts → f.falls ≡ true
    → f.acts ≡ false → WalkedNode j j d d f own word.Forof parts
no_for_of j d f own (Then (Flag false) (Then head (Then right (Then body End)))) none falls acts = absurd (cc)
no_for_of j d f own _ none falls acts = record { node = λ at. calm j d f falls acts }

pub ruleset for_ofs = (for_of_walked, no_for_of)

pub absent_alike : (t : Syntax) → forms.is_absent t ≡ shapes.is_absent t
absent_alike (Node at w parts) = refl
absent_alike (Listed parts) = refl
absent_alike (Said text) = refl
absent_alike (Count number) = refl
absent_alike (Flag flag) = refl
absent_alike Absent = refl

parts_alike : (d e : List Range) (a b : Bool) (p : Syntax) → a ≡ b → Adds d e (parts_if (not a) p) → Adds d e (parts_if (not b) p)
parts_alike d e a b p same q = subst (λ x. Adds d e (parts_if (not x) p)) same q

init_alike : (t : Syntax) → init_acts t ≡ dead.init_acts t
init_alike Absent = refl
init_alike (Node at word.Var parts) = refl
init_alike _ = refl

acts_alike : (p : For) (r : Body)
    → for_acts p r
    ≡ (dead.init_acts p.init || not (shapes.is_absent p.condition) || r.acts || (not (shapes.is_absent p.update) && r.goes_on))
acts_alike p r =
    ap (λ x. x || not (forms.is_absent p.condition) || r.acts || (not (forms.is_absent p.update) && r.goes_on)) (init_alike p.init)
    ∙ ap (λ x. dead.init_acts p.init || not x || r.acts || (not (forms.is_absent p.update) && r.goes_on)) (absent_alike p.condition)
    ∙ ap (λ x. dead.init_acts p.init || not (shapes.is_absent p.condition) || r.acts || (not x && r.goes_on)) (absent_alike p.update)

for_node : (j k : Jumps) (d e g : List Range) (f : Flow) (r : Body) (own : Label) (p : For) → WalkedBody j k d e r own p.body
    → Adds e g (parts_if (not r.goes_on) p.update) → f.falls ≡ true → f.acts ≡ for_acts p r
    → WalkedNode j k d g f own word.For (Then p.init (Then p.condition (Then p.update (Then p.body End))))
for_node j k d e g f r own p q adds falls acts = record {
  node = λ at. record {
    falls = falls;
    acts =
        acts ∙ acts_alike p r ∙ ap (λ x. dead.init_acts p.init || not (shapes.is_absent p.condition) || x || (not (shapes.is_absent p.update) && r.goes_on)) q.acts
        ∙ ap (λ x. dead.init_acts p.init || not (shapes.is_absent p.condition) || (lives None p.body).acts || (not (shapes.is_absent p.update) && x)) q.goes_on;
    broken = q.broken;
    continued = q.continued;
    dead = adds_swapped d e g _ _ q.dead (parts_alike e g r.goes_on _ p.update q.goes_on adds);
  };
}

pub for_made : (j k : Jumps) (d e g : List Range) (f : Flow) (r : Body) (own : Label) (p : For) → WalkedBody j k d e r own p.body
    → Adds e g (parts_if (not r.goes_on) p.update) → f.falls ≡ true → f.acts ≡ for_acts p r → WalkedFor j k d g f own p
for_made j k d e g f r own p q adds falls acts = record { walked = for_node j k d e g f r own p q adds falls acts }

pub for_walked : (j k : Jumps) (d e : List Range) (f : Flow) (own : Label) (parts : Pieces) (p : For) → Some p ≡ for_parts parts
    → WalkedFor j k d e f own p → WalkedNode j k d e f own word.For parts
for_walked j k d e f own (Then init (Then condition (Then update (Then body End)))) p is q =
    let same : p ≡ record { init = init; condition = condition; update = update; body = body } = cc in
    subst (λ x. WalkedNode j k d e f own word.For (Then x.init (Then x.condition (Then x.update (Then x.body End))))) same q.walked
for_walked j k d e f own _ p is q = absurd (cc)

pub no_for : (j : Jumps) (d : List Range) (f : Flow) (own : Label) (parts : Pieces) → None ≡ for_parts parts → f.falls ≡ true
    → f.acts ≡ false → WalkedNode j j d d f own word.For parts
no_for j d f own (Then init (Then condition (Then update (Then body End)))) none falls acts = absurd (cc)
no_for j d f own _ none falls acts = record { node = λ at. calm j d f falls acts }

pub ruleset fors = (for_walked, no_for)

do_while_node : (j k : Jumps) (d e g : List Range) (f : Flow) (r : Body) (own : Label) (body condition : Syntax)
    → WalkedBody j k d e r own body → Adds e g (parts_if (not r.goes_on) condition) → f.falls ≡ (r.goes_on || r.is_broken)
    → f.acts ≡ (r.acts || r.goes_on) → WalkedNode j k d g f own word.Dowhile (Then body (Then condition End))
do_while_node j k d e g f r own body condition q adds falls acts = record {
  node = λ at. record {
    falls = falls ∙ ap (λ x. x || r.is_broken) q.goes_on ∙ ap (λ x. goes_on own (lives None body).outs || x) q.is_broken;
    acts = acts ∙ ap (λ x. x || r.goes_on) q.acts ∙ ap (λ x. (lives None body).acts || x) q.goes_on;
    broken = q.broken;
    continued = q.continued;
    dead = adds_both d e g _ _ q.dead (parts_alike e g r.goes_on _ condition q.goes_on adds);
  };
}

pub do_while_walked : (j k : Jumps) (d e g : List Range) (f : Flow) (r : Body) (own : Label) (parts : Pieces) (body condition : Syntax)
    → Some (body, condition) ≡ both parts → WalkedBody j k d e r own body → Adds e g (parts_if (not r.goes_on) condition)
    → f.falls ≡ (r.goes_on || r.is_broken) → f.acts ≡ (r.acts || r.goes_on) → WalkedNode j k d g f own word.Dowhile parts
do_while_walked j k d e g f r own (Then a (Then b End)) body condition is q adds falls acts =
    let first : body ≡ a = first_of (body, condition) (a, b) is in
    let second : condition ≡ b = second_of (body, condition) (a, b) is in
    subst (λ x. WalkedNode j k d g f own word.Dowhile (Then x (Then b End))) first
    (subst (λ x. WalkedNode j k d g f own word.Dowhile (Then body (Then x End))) second
    (do_while_node j k d e g f r own body condition q adds falls acts))
do_while_walked j k d e g f r own _ body condition is q adds falls acts = absurd (cc)

pub no_do_while : (j : Jumps) (d : List Range) (f : Flow) (own : Label) (parts : Pieces) → None ≡ both parts → f.falls ≡ true
    → f.acts ≡ false → WalkedNode j j d d f own word.Dowhile parts
no_do_while j d f own (Then a (Then b End)) none falls acts = absurd (cc)
no_do_while j d f own _ none falls acts = record { node = λ at. calm j d f falls acts }

pub ruleset do_whiles = (do_while_walked, no_do_while)
