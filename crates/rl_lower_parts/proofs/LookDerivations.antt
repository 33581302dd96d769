-- Derivations of the look-ups of names in front of a target that is a pattern.
use Rattle.std.proofs.Common.{◌≡◌, ℕ, ◌+◌, ◌≤◌, Bool, true, false, Option, Some, None, sym, ap, ◌∙◌, subst, arith}
use Rattle.rl_base.specs.declared.ids.SymbolId.{SymbolId}
use Rattle.rl_builder.specs.Builder.{State}
use Rattle.rl_lower_parts.proofs.TargetTrees.{named_is, unnamed_local}
use Rattle.rl_lower_parts.specs.Patterns.{FindsLocal, FindsNone, FindsOther, IsFreeName, LooksUp, named}
use Rattle.rl_lowered.proofs.LookSizes.{found_size}
use Rattle.rl_lowered.proofs.Names.{names_found}
use Rattle.rl_lowered.specs.Items as items
use Rattle.rl_lowered.specs.Items.{LoweredAhead}
use Rattle.rl_lowered.specs.Named.{IsFound, IsNamed, found}
use Rattle.rl_model.specs.Shapes.{is_absent}
use Rattle.rl_names.specs.Names.{Names}
use Rattle.rl_promises.specs.Lowerable.{AreFreeAhead, IsFree, IsFreeAhead}
use Rattle.rl_promises.specs.Patterns.{local_at, target_under}
use Rattle.rl_runs.specs.Blocks.{size_of}
use Rattle.rl_syntax.specs.Syntax.{Syntax, Absent, Pieces, End, Then, span_of}

-- A look-up keeps what is known of names, and makes two at most.

pub look_named : {names : Names} {name : Option Syntax} {s t : State} {found : Bool} → LooksUp names name s t found → IsNamed names s
    → IsNamed names t
look_named (FindsLocal name symbol identifier s is f) n = (names_found s symbol (span_of name) identifier f).named n
look_named (FindsOther name s is) n = n
look_named (FindsNone s) n = n

pub look_size : {names : Names} {name : Option Syntax} {s t : State} {found : Bool} → LooksUp names name s t found
    → size_of t ≤ size_of s + 2
look_size {names} (FindsLocal name symbol identifier s is f) = found_size names s symbol (span_of name)
look_size (FindsOther name s is) = omega arith
look_size (FindsNone s) = omega arith

-- A name that was looked up, or none.

pub found_name : {names : Names} {name : Option Syntax} {symbol : SymbolId} {identifier : ℕ} {s t : State} (tree : Syntax)
    → name ≡ Some tree → Some symbol ≡ local_at names tree → t ≡ found names s symbol (span_of tree)
    → IsFound names s symbol (span_of tree) identifier → LooksUp names name s t true
found_name {names} {name} {symbol} {identifier} {s} {t} tree is local moved f =
    subst (λ (o : Option Syntax). LooksUp names o s t true) (sym is)
    (subst (λ (o : State). LooksUp names (Some tree) s o true) (sym moved) (FindsLocal tree symbol identifier s (sym local) f))

pub other_name : {names : Names} {name : Option Syntax} {s : State} (tree : Syntax) → name ≡ Some tree → None ≡ local_at names tree
    → LooksUp names name s s false
other_name {names} {name} {s} tree is local =
    subst (λ (o : Option Syntax). LooksUp names o s s false) (sym is) (FindsOther tree s (sym local))

pub no_name : {names : Names} {name : Option Syntax} {s : State} → name ≡ None → LooksUp names name s s false
no_name {names} {s = s} is = subst (λ (o : Option Syntax). LooksUp names o s s false) (sym is) (FindsNone s)

-- An item, by the name that it is.

ahead_local : (names : Names) (local : Option SymbolId) (behind : Type 0) → IsFreeAhead names local behind → IsFree names local
ahead_local names None behind free = tt
ahead_local names (Some symbol) behind free = free.0

name_free : (names : Names) (u : Syntax) (name : Option Syntax) → named u ≡ name → IsFree names (local_at names u) → IsFreeName names name
name_free names u None is free = tt
name_free names u (Some tree) is free = subst (λ (t : Syntax). IsFree names (local_at names t)) (named_is u tree is) free

pub item_free : (names : Names) (item : Syntax) (es : Pieces) {name : Option Syntax} → name ≡ named (target_under item)
    → AreFreeAhead names (Then item es) → IsFreeName names name
item_free names item es {name} is free =
    name_free names (target_under item) name (sym is) (ahead_local names (local_at names (target_under item)) (AreFreeAhead names es) free)

-- A target with a rest looks at no name.
pub looks_past : {names : Names} {es : Pieces} {rest : Syntax} {s : State} → is_absent rest ≡ false → LoweredAhead names es rest s s true
looks_past {es = es} {rest} {s} there = items.NoLook es rest s there

-- The names of `left` are those that wait among `all`.
abbrev pub LooksLeft : Names → (all left : Pieces) → (old now : State) → Type 0
LooksLeft names all left old now =
    (new : State) (forced : Bool) → LoweredAhead names left Absent now new forced → LoweredAhead names all Absent old new forced

looked_local : {names : Names} {item : Syntax} {es : Pieces} {name : Option Syntax} {s t : State} → name ≡ named (target_under item)
    → LooksUp names name s t true → (new : State) (forced : Bool) → LoweredAhead names es Absent t new forced
    → LoweredAhead names (Then item es) Absent s new forced
looked_local {names} {item} {es} is (FindsLocal name symbol identifier s local f) new forced l =
    let same : name ≡ target_under item = sym (named_is (target_under item) name (sym is)) in
    items.LookLocal item es symbol identifier s new forced (subst (λ (t : Syntax). local_at names t ≡ Some symbol) same local)
    (subst (λ (t : Syntax). IsFound names s symbol (span_of t) identifier) same f)
    (subst (λ (t : Syntax). LoweredAhead names es Absent (found names s symbol (span_of t)) new forced) same l)

looked_other : {names : Names} {item : Syntax} {es : Pieces} {name : Option Syntax} {s t : State} → name ≡ named (target_under item)
    → LooksUp names name s t false → LoweredAhead names (Then item es) Absent s t true
looked_other {names} {item} {es} is (FindsOther name s local) =
    items.LookOther item es s
    (subst (λ (t : Syntax). local_at names t ≡ None) (sym (named_is (target_under item) name (sym is))) local)
looked_other {names} {item} {es} is (FindsNone s) =
    items.LookOther item es s (unnamed_local names (target_under item) (sym is))

looked_free : {names : Names} {name : Option Syntax} {s t : State} (item : Syntax) (es : Pieces) → name ≡ named (target_under item)
    → LooksUp names name s t true → AreFreeAhead names (Then item es) → AreFreeAhead names es
looked_free {names} item es is (FindsLocal name symbol identifier s local f) free =
    let there : local_at names (target_under item) ≡ Some symbol =
    ap (local_at names) (named_is (target_under item) name (sym is)) ∙ local in
    (subst (λ (o : Option SymbolId). IsFreeAhead names o (AreFreeAhead names es)) there free).1

-- Behind a local variable, and at the first other item.

pub looks_next : {names : Names} {all left rest : Pieces} {item : Syntax} {name : Option Syntax} {old s t : State} {found : Bool}
    → left ≡ Then item rest → name ≡ named (target_under item) → LooksUp names name s t found → found ≡ true
    → LooksLeft names all left old s → LooksLeft names all rest old t
looks_next {names} {all} {left} {rest} {item} {name} {old} {s} {t} split is d held gives = λ new forced l.
    gives new forced
    (subst (λ (es : Pieces). LoweredAhead names es Absent s new forced) (sym split)
    (looked_local is (subst (LooksUp names name s t) held d) new forced l))

pub looks_free : {names : Names} {left : Pieces} (rest : Pieces) {item : Syntax} {name : Option Syntax} {s t : State} {found : Bool}
    → left ≡ Then item rest → name ≡ named (target_under item) → LooksUp names name s t found → found ≡ true → AreFreeAhead names left
    → AreFreeAhead names rest
looks_free {names} rest {item} {name} {s} {t} split is d held free =
    looked_free item rest is (subst (LooksUp names name s t) held d) (subst (AreFreeAhead names) split free)

pub looks_ends : {names : Names} {all left rest : Pieces} {item : Syntax} {name : Option Syntax} {old s t : State} {found : Bool}
    → left ≡ Then item rest → name ≡ named (target_under item) → LooksUp names name s t found → found ≡ false
    → LooksLeft names all left old s → LoweredAhead names all Absent old t true
looks_ends {names} {all} {left} {rest} {item} {name} {old} {s} {t} split is d held gives =
    gives t true
    (subst (λ (es : Pieces). LoweredAhead names es Absent s t true) (sym split)
    (looked_other is (subst (LooksUp names name s t) held d)))

pub looks_done : {names : Names} {all left : Pieces} {old now : State} → left ≡ End → LooksLeft names all left old now
    → LoweredAhead names all Absent old now false
looks_done {names} {now = now} done gives =
    gives now false (subst (λ (es : Pieces). LoweredAhead names es Absent now now false) (sym done) (items.LookEnds now))
