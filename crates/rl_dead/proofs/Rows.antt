-- Walks over statements in a row, and over the cases of a `switch`.
use Rattle.std.proofs.Common.{◌≡◌, ℕ, Bool, true, false, ◌&&◌, ◌||◌, if◌then◌else◌, Some, None, List, [], ◌∷◌, ◌++◌, append-nil}
use Rattle.std.proofs.Common.{append_assoc, refl, sym, ap, ◌∙◌}
use Rattle.std.specs.List.{list_any}
use Rattle.std.proofs.Math.Path.{subst}
use Rattle.std.proofs.lemmas.List.Folds.{list_any-append}
use Rattle.rl_bindings.proofs.LookUps.{by_test}
use Rattle.rl_dead.proofs.Covering.{or_assoc, or_none}
use Rattle.rl_dead.specs.Jumps.{breaks, continues}
use Rattle.rl_dead.specs.Parts.{case_statements}
use Rattle.rl_dead.specs.Ranges.{Adds, is_covered}
use Rattle.rl_dead.specs.Walks.{CasesLeft, StatementsLeft, Stepped, Walked, WalkedCases, WalkedStatements, cases_fall}
use Rattle.rl_dead.specs.declared.flow.Flow.{Flow}
use Rattle.rl_dead.specs.declared.jumps.Jumps.{Jumps}
use Rattle.rl_dead.specs.declared.ranges.Range.{Range}
use Rattle.rl_model.specs.Dead.{Lives, Outs, dead_among, dead_in, dead_in_cases, either, falling, in_row, lives, lives_all, lives_cases}
use Rattle.rl_model.specs.Dead.{quiet}
use Rattle.rl_model.specs.Supported.{is_among}
use Rattle.rl_syntax.specs.Syntax.{Syntax, Node, Listed, Pieces, End, Then}
use Rattle.rl_syntax.specs.declared.word.Word.TheVariants as word

or_false : (b : Bool) → b || false ≡ b
or_false true = refl
or_false false = refl

-- A statement behind one that may complete normally.
pub live_next : (j k : Jumps) (d e : List Range) (before f after : Flow) (s : Syntax) → before.falls ≡ true
    → Walked j k d e f (lives None s) (dead_in None s) → after.falls ≡ f.falls → after.acts ≡ (before.acts || f.acts)
    → Stepped j k d e before after s
live_next j k d e before f after s live q falls acts = record {
  falls = falls ∙ q.falls ∙ ap (λ b. b && (lives None s).outs.falls) (sym live);
  acts =
      acts ∙ ap (λ x. before.acts || x) q.acts ∙ ap (λ b. before.acts || (b && (lives None s).acts)) (sym live);
  broken = q.broken ∙ ap (λ (b : Bool). breaks j ++ (if b then (lives None s).outs.breaks else [])) (sym live);
  continued = q.continued ∙ ap (λ (b : Bool). continues j ++ (if b then (lives None s).outs.continues else [])) (sym live);
  dead = subst (λ (b : Bool). Adds d e (if b then dead_in None s else s ∷ [])) (sym live) q.dead;
}

-- A statement behind one that may not.
pub dead_next : (j : Jumps) (d e : List Range) (before : Flow) (s : Syntax) → before.falls ≡ false → Adds d e (s ∷ [])
    → Stepped j j d e before before s
dead_next j d e before s not_live adds = record {
  falls = not_live ∙ ap (λ b. b && (lives None s).outs.falls) (sym not_live);
  acts = sym (or_false before.acts) ∙ ap (λ b. before.acts || (b && (lives None s).acts)) (sym not_live);
  broken =
      sym (append-nil (breaks j)) ∙ ap (λ (b : Bool). breaks j ++ (if b then (lives None s).outs.breaks else [])) (sym not_live);
  continued =
      sym (append-nil (continues j)) ∙ ap (λ (b : Bool). continues j ++ (if b then (lives None s).outs.continues else [])) (sym not_live);
  dead = subst (λ (b : Bool). Adds d e (if b then dead_in None s else s ∷ [])) (sym not_live) adds;
}

pub ruleset next = (live_next, dead_next)

pub statements_begin : (j : Jumps) (d : List Range) (f : Flow) (all : Pieces) → f.falls ≡ true → f.acts ≡ false
    → StatementsLeft j j d d f all all
statements_begin j d f all falls acts = record {
  falls = ap (λ b. b && (lives_all all).outs.falls) falls;
  acts =
      ap (λ b. b || (f.falls && (lives_all all).acts)) acts ∙ ap (λ b. b && (lives_all all).acts) falls;
  broken = ap (λ (b : Bool). breaks j ++ (if b then (lives_all all).outs.breaks else [])) falls;
  continued = ap (λ (b : Bool). continues j ++ (if b then (lives_all all).outs.continues else [])) falls;
  dead = λ n. ap (λ b. is_covered d n || list_any (is_among n) (dead_among b all)) falls;
}

row_live : (a b : Outs) → a.falls ≡ true → in_row a b ≡ record (either a b) { falls = b.falls }
row_live a b live = ap (λ (x : Bool). if x then record (either a b) { falls = b.falls } else a) live

row_dead : (a b : Outs) → a.falls ≡ false → in_row a b ≡ a
row_dead a b dead = ap (λ (x : Bool). if x then record (either a b) { falls = b.falls } else a) dead

row_falls : (a b : Outs) → (in_row a b).falls ≡ (a.falls && b.falls)
row_falls a b = by_test a.falls
    (λ live. ap (λ (o : Outs). o.falls) (row_live a b live) ∙ ap (λ x. x && b.falls) (sym live))
    (λ dead. ap (λ (o : Outs). o.falls) (row_dead a b dead) ∙ dead ∙ ap (λ x. x && b.falls) (sym dead))

row_breaks : (a b : Outs) → (in_row a b).breaks ≡ a.breaks ++ (if a.falls then b.breaks else [])
row_breaks a b = by_test a.falls
    (λ live. ap (λ (o : Outs). o.breaks) (row_live a b live) ∙ ap (λ (x : Bool). a.breaks ++ (if x then b.breaks else [])) (sym live))
    (λ dead. ap (λ (o : Outs). o.breaks) (row_dead a b dead) ∙ sym (append-nil a.breaks)
    ∙ ap (λ (x : Bool). a.breaks ++ (if x then b.breaks else [])) (sym dead))

row_continues : (a b : Outs) → (in_row a b).continues ≡ a.continues ++ (if a.falls then b.continues else [])
row_continues a b = by_test a.falls
    (λ live. ap (λ (o : Outs). o.continues) (row_live a b live) ∙ ap (λ (x : Bool). a.continues ++ (if x then b.continues else [])) (sym live))
    (λ dead. ap (λ (o : Outs). o.continues) (row_dead a b dead) ∙ sym (append-nil a.continues)
    ∙ ap (λ (x : Bool). a.continues ++ (if x then b.continues else [])) (sym dead))

and_assoc : (a b c : Bool) → ((a && b) && c) ≡ (a && (b && c))
and_assoc true b c = refl
and_assoc false b c = refl

-- Something acts before the statement, in it, or behind it.
acts_on : (before live now falls later : Bool)
    → ((before || (live && now)) || ((live && falls) && later)) ≡ (before || (live && (now || (falls && later))))
acts_on true live now falls later = refl
acts_on false true now falls later = refl
acts_on false false now falls later = refl

jumps_on : {X : Type 0} (before now later : List X) (live falls : Bool)
    → (before ++ (if live then now else [])) ++ (if live && falls then later else [])
    ≡ before ++ (if live then now ++ (if falls then later else []) else [])
jumps_on before now later true falls = append_assoc before now (if falls then later else [])
jumps_on before now later false falls = append-nil (before ++ [])

dead_on : (before live falls : Bool) (n : ℕ) (s : Syntax) (rest : Pieces) → falls ≡ (lives None s).outs.falls
    → ((before || list_any (is_among n) (if live then dead_in None s else s ∷ [])) || list_any (is_among n) (dead_among (live && falls) rest))
    ≡ (before || list_any (is_among n) (dead_among live (Then s rest)))
dead_on before true falls n s rest is =
    ap (λ b. (before || list_any (is_among n) (dead_in None s)) || list_any (is_among n) (dead_among b rest)) is
    ∙ or_assoc before (list_any (is_among n) (dead_in None s)) (list_any (is_among n) (dead_among (lives None s).outs.falls rest))
    ∙ ap (λ b. before || b) (sym (list_any-append (is_among n) (dead_in None s) (dead_among (lives None s).outs.falls rest)))
dead_on before false falls n s rest is =
    or_assoc before (list_any (is_among n) (s ∷ [])) (list_any (is_among n) (dead_among false rest))
    ∙ ap (λ b. before || b) (sym (list_any-append (is_among n) (s ∷ []) (dead_among false rest)))

pub statements_step : (j k l : Jumps) (d e g : List Range) (f h : Flow) (all rest : Pieces) (s : Syntax)
    → StatementsLeft j k d e f all (Then s rest) → Stepped k l e g f h s → StatementsLeft j l d g h all rest
statements_step j k l d e g f h all rest s q step =
    let now = lives None s in
    let later = lives_all rest in
    record {
      falls =
          ap (λ b. b && later.outs.falls) step.falls ∙ and_assoc f.falls now.outs.falls later.outs.falls
          ∙ ap (λ b. f.falls && b) (sym (row_falls now.outs later.outs)) ∙ q.falls;
      acts =
          ap (λ b. b || (h.falls && later.acts)) step.acts
          ∙ ap (λ b. (f.acts || (f.falls && now.acts)) || (b && later.acts)) step.falls
          ∙ acts_on f.acts f.falls now.acts now.outs.falls later.acts ∙ q.acts;
      broken =
          ap (λ b. b ++ (if h.falls then later.outs.breaks else [])) step.broken
          ∙ ap (λ (b : Bool). (breaks k ++ (if f.falls then now.outs.breaks else [])) ++ (if b then later.outs.breaks else [])) step.falls
          ∙ jumps_on (breaks k) now.outs.breaks later.outs.breaks f.falls now.outs.falls
          ∙ ap (λ b. breaks k ++ (if f.falls then b else [])) (sym (row_breaks now.outs later.outs)) ∙ q.broken;
      continued =
          ap (λ b. b ++ (if h.falls then later.outs.continues else [])) step.continued
          ∙ ap (λ (b : Bool). (continues k ++ (if f.falls then now.outs.continues else [])) ++ (if b then later.outs.continues else []))
          step.falls
          ∙ jumps_on (continues k) now.outs.continues later.outs.continues f.falls now.outs.falls
          ∙ ap (λ b. continues k ++ (if f.falls then b else [])) (sym (row_continues now.outs later.outs)) ∙ q.continued;
      dead = λ n.
          ap (λ b. b || list_any (is_among n) (dead_among h.falls rest)) (step.dead.covers n)
          ∙ ap (λ b. (is_covered e n || list_any (is_among n) (if f.falls then dead_in None s else s ∷ []))
          || list_any (is_among n) (dead_among b rest)) step.falls
          ∙ dead_on (is_covered e n) f.falls now.outs.falls n s rest refl ∙ q.dead n;
    }

nothing_else : {X : Type 0} (x : List X) (b : Bool) → x ++ (if b then [] else []) ≡ x
nothing_else x true = append-nil x
nothing_else x false = append-nil x

and_true : (b : Bool) → (b && true) ≡ b
and_true true = refl
and_true false = refl

and_false : (a b : Bool) → (a || (b && false)) ≡ a
and_false true b = refl
and_false false true = refl
and_false false false = refl

dead_end : (live : Bool) → dead_among live End ≡ []
dead_end true = refl
dead_end false = refl

pub statements_end : (j k : Jumps) (d e : List Range) (f : Flow) (all : Pieces) → StatementsLeft j k d e f all End
    → WalkedStatements j k d e f all
statements_end j k d e f all q = record {
  walked = record {
    falls = sym (and_true f.falls) ∙ q.falls;
    acts = sym (and_false f.acts f.falls) ∙ q.acts;
    broken = sym (nothing_else (breaks k) f.falls) ∙ q.broken;
    continued = sym (nothing_else (continues k) f.falls) ∙ q.continued;
    dead = record {
      covers = λ n.
          or_none (is_covered e n) ∙ ap (λ l. is_covered e n || list_any (is_among n) l) (sym (dead_end f.falls)) ∙ q.dead n;
    };
  };
}

pub ruleset statements = (statements_begin, statements_step, statements_end)

case_falls : (c : Syntax) (rest statements : Pieces) → Some statements ≡ case_statements c
    → cases_fall (lives_all statements).outs.falls rest ≡ (lives_cases (Then c rest)).outs.falls
case_falls (Node at word.Case (Then condition (Then (Listed items) End))) End statements is =
    let same : statements ≡ items = cc in ap (λ s. (lives_all s).outs.falls) same
case_falls (Node at word.Case (Then condition (Then (Listed items) End))) (Then next rest) statements is = refl
case_falls _ rest statements is = absurd (cc)

case_acts : (c : Syntax) (rest statements : Pieces) → Some statements ≡ case_statements c
    → (lives_cases (Then c rest)).acts ≡ ((lives_all statements).acts || (lives_cases rest).acts)
case_acts (Node at word.Case (Then condition (Then (Listed items) End))) End statements is =
    let same : statements ≡ items = cc in ap (λ s. (lives_all s).acts) (sym same) ∙ or_none (lives_all statements).acts
case_acts (Node at word.Case (Then condition (Then (Listed items) End))) (Then next rest) statements is =
    let same : statements ≡ items = cc in ap (λ s. (lives_all s).acts || (lives_cases (Then next rest)).acts) (sym same)
case_acts _ rest statements is = absurd (cc)

case_breaks : (c : Syntax) (rest statements : Pieces) → Some statements ≡ case_statements c
    → (lives_cases (Then c rest)).outs.breaks ≡ (lives_all statements).outs.breaks ++ (lives_cases rest).outs.breaks
case_breaks (Node at word.Case (Then condition (Then (Listed items) End))) End statements is =
    let same : statements ≡ items = cc in
    ap (λ s. (lives_all s).outs.breaks) (sym same) ∙ sym (append-nil (lives_all statements).outs.breaks)
case_breaks (Node at word.Case (Then condition (Then (Listed items) End))) (Then next rest) statements is =
    let same : statements ≡ items = cc in ap (λ s. (lives_all s).outs.breaks ++ (lives_cases (Then next rest)).outs.breaks) (sym same)
case_breaks _ rest statements is = absurd (cc)

case_continues : (c : Syntax) (rest statements : Pieces) → Some statements ≡ case_statements c
    → (lives_cases (Then c rest)).outs.continues ≡ (lives_all statements).outs.continues ++ (lives_cases rest).outs.continues
case_continues (Node at word.Case (Then condition (Then (Listed items) End))) End statements is =
    let same : statements ≡ items = cc in
    ap (λ s. (lives_all s).outs.continues) (sym same) ∙ sym (append-nil (lives_all statements).outs.continues)
case_continues (Node at word.Case (Then condition (Then (Listed items) End))) (Then next rest) statements is =
    let same : statements ≡ items = cc in ap (λ s. (lives_all s).outs.continues ++ (lives_cases (Then next rest)).outs.continues) (sym same)
case_continues _ rest statements is = absurd (cc)

some_dead : (c : Syntax) (rest statements : Pieces) → Some statements ≡ case_statements c
    → dead_in_cases (Then c rest) ≡ dead_among true statements ++ dead_in_cases rest
some_dead (Node at word.Case (Then condition (Then (Listed items) End))) rest statements is =
    let same : statements ≡ items = cc in ap (λ s. dead_among true s ++ dead_in_cases rest) (sym same)
some_dead _ rest statements is = absurd (cc)

no_case : (c : Syntax) (rest : Pieces) → None ≡ case_statements c → lives_cases (Then c rest) ≡ quiet falling
no_case (Node at word.Case (Then condition (Then (Listed items) End))) rest none = absurd (cc)
no_case _ rest none = refl

no_dead : (c : Syntax) (rest : Pieces) → None ≡ case_statements c → dead_in_cases (Then c rest) ≡ []
no_dead (Node at word.Case (Then condition (Then (Listed items) End))) rest none = absurd (cc)
no_dead _ rest none = refl

all_fall : (falls : Bool) (all : Pieces) → falls ≡ true → cases_fall falls all ≡ (lives_cases all).outs.falls
all_fall falls End live = live
all_fall falls (Then c rest) live = refl

pub cases_begin : (j : Jumps) (d : List Range) (falls acts : Bool) (all : Pieces) → falls ≡ true → acts ≡ false
    → CasesLeft j j d d falls acts all all
cases_begin j d falls acts all live not_yet = record {
  fell = all_fall falls all live;
  acted = ap (λ b. b || (lives_cases all).acts) not_yet;
  broken = refl;
  continued = refl;
  dead = λ n. refl;
}

pub cases_step : (j k l : Jumps) (d e g : List Range) (falls acts : Bool) (h : Flow) (all rest statements : Pieces) (c : Syntax)
    (last next : Bool) → CasesLeft j k d e falls acts all (Then c rest) → Some statements ≡ case_statements c
    → WalkedStatements k l e g h statements → last ≡ h.falls → next ≡ (acts || h.acts) → CasesLeft j l d g last next all rest
cases_step j k l d e g falls acts h all rest statements c last next q is step live same =
    let now = lives_all statements in
    let later = lives_cases rest in
    record {
      fell = ap (λ b. cases_fall b rest) (live ∙ step.walked.falls) ∙ case_falls c rest statements is ∙ q.fell;
      acted =
          ap (λ b. b || later.acts) (same ∙ ap (λ b. acts || b) step.walked.acts) ∙ or_assoc acts now.acts later.acts
          ∙ ap (λ b. acts || b) (sym (case_acts c rest statements is)) ∙ q.acted;
      broken =
          ap (λ b. b ++ later.outs.breaks) step.walked.broken ∙ append_assoc (breaks k) now.outs.breaks later.outs.breaks
          ∙ ap (λ b. breaks k ++ b) (sym (case_breaks c rest statements is)) ∙ q.broken;
      continued =
          ap (λ b. b ++ later.outs.continues) step.walked.continued ∙ append_assoc (continues k) now.outs.continues later.outs.continues
          ∙ ap (λ b. continues k ++ b) (sym (case_continues c rest statements is)) ∙ q.continued;
      dead = λ n.
          ap (λ b. b || list_any (is_among n) (dead_in_cases rest)) (step.walked.dead.covers n)
          ∙ or_assoc (is_covered e n) (list_any (is_among n) (dead_among true statements)) (list_any (is_among n) (dead_in_cases rest))
          ∙ ap (λ b. is_covered e n || b)
          (sym (list_any-append (is_among n) (dead_among true statements) (dead_in_cases rest))
          ∙ ap (list_any (is_among n)) (sym (some_dead c rest statements is))) ∙ q.dead n;
    }

pub cases_end : (j k : Jumps) (d e : List Range) (falls acts : Bool) (f : Flow) (all : Pieces) → CasesLeft j k d e falls acts all End
    → f.falls ≡ falls → f.acts ≡ acts → WalkedCases j k d e f all
cases_end j k d e falls acts f all q live same = record {
  walked = record {
    falls = live ∙ q.fell;
    acts = same ∙ sym (or_false acts) ∙ q.acted;
    broken = sym (append-nil (breaks k)) ∙ q.broken;
    continued = sym (append-nil (continues k)) ∙ q.continued;
    dead = record { covers = λ n. or_none (is_covered e n) ∙ q.dead n };
  };
}

-- Parts that are no cases end a walk over cases.
pub cases_stop : (j k : Jumps) (d e : List Range) (falls acts : Bool) (f : Flow) (all rest : Pieces) (c : Syntax)
    → CasesLeft j k d e falls acts all (Then c rest) → None ≡ case_statements c → f.falls ≡ true → f.acts ≡ acts → WalkedCases j k d e f all
cases_stop j k d e falls acts f all rest c q none live same =
    let lives_are = no_case c rest none in
    record {
      walked = record {
        falls = live ∙ ap (λ (x : Lives). x.outs.falls) (sym lives_are) ∙ q.fell;
        acts = same ∙ sym (or_false acts) ∙ ap (λ (x : Lives). acts || x.acts) (sym lives_are) ∙ q.acted;
        broken = sym (append-nil (breaks k)) ∙ ap (λ (x : Lives). breaks k ++ x.outs.breaks) (sym lives_are) ∙ q.broken;
        continued = sym (append-nil (continues k)) ∙ ap (λ (x : Lives). continues k ++ x.outs.continues) (sym lives_are) ∙ q.continued;
        dead = record {
          covers = λ n.
              or_none (is_covered e n) ∙ ap (λ l. is_covered e n || list_any (is_among n) l) (sym (no_dead c rest none)) ∙ q.dead n;
        };
      };
    }

pub ruleset cases = (cases_begin, cases_step, cases_end, cases_stop)
