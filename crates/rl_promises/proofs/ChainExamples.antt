-- Optional chains: the nodes that are covered, the rows in their order, the links of a function, and its nodes that are counted.
use Rattle.std.proofs.Common.{◌≡◌, ℕ, Bool, true, false, None, List, [], ◌∷◌, codes, refl}
use Rattle.rl_base.specs.declared.diagnostic.Diagnostic.{Diagnostic}
use Rattle.rl_base.specs.declared.row.Row.TheVariants as row
use Rattle.rl_model.proofs.ExampleUnits.{arrow, name, node, span, unit_of}
use Rattle.rl_model.specs.Counted.{Counted}
use Rattle.rl_model.specs.Marked.{marked}
use Rattle.rl_model.specs.Source.{is_orderly}
use Rattle.rl_model.specs.Units.{names_of}
use Rattle.rl_names.specs.Functions.{body_in}
use Rattle.rl_promises.specs.Chains.{HasChains}
use Rattle.rl_promises.specs.Covered.{pending}
use Rattle.rl_promises.specs.Live.{Held, live_in_body}
use Rattle.rl_promises.specs.Rows.{refusal, refusals_of}
use Rattle.rl_promises.specs.Tallies.{tallied}
use Rattle.rl_syntax.specs.Syntax.{Syntax, Listed, Said, Flag, pieces_of}
use Rattle.rl_syntax.specs.declared.word.Word.TheVariants as word

-- The nodes of a chain, each by the byte where it stands.

abbrev chain : (start : ℕ) → (expression : Syntax) → Syntax
chain start expression = node start word.Chain (expression ∷ [])

abbrev member : (start : ℕ) → (optional : Bool) → (object : Syntax) → Syntax
member start optional object = node start word.Member (Flag optional ∷ object ∷ Said (codes "a") ∷ [])

abbrev private : (start : ℕ) → (optional : Bool) → (object : Syntax) → Syntax
private start optional object = node start word.Privatemember (Flag optional ∷ object ∷ Said (codes "a") ∷ [])

abbrev index : (start : ℕ) → (optional : Bool) → (object property : Syntax) → Syntax
index start optional object property = node start word.Index (Flag optional ∷ object ∷ property ∷ [])

abbrev call : (start : ℕ) → (optional : Bool) → (callee : Syntax) → (arguments : List Syntax) → Syntax
call start optional callee arguments = node start word.Call (Flag optional ∷ callee ∷ Listed (pieces_of arguments) ∷ [])

abbrev asserted : (start : ℕ) → (expression : Syntax) → Syntax
asserted start expression = node start word.Nonnull (expression ∷ [])

abbrev parenthesized : (start : ℕ) → (expression : Syntax) → Syntax
parenthesized start expression = node start word.Paren (expression ∷ [])

-- `() => f?.a?.(g().#a, h?.[f])!`: each node is covered, and the function is orderly.
abbrev covered_chain : Syntax
covered_chain = unit_of (arrow [] (chain 11 (asserted 12 (call 13 true (member 14 true (name 15 (codes "f"))) (
    private 16 false (call 17 false (name 18 (codes "g")) [])
    ∷ chain 19 (index 20 true (name 21 (codes "h")) (name 22 (codes "f"))) ∷ [])))))

covered : pending covered_chain ≡ None
covered = refl

orderly : is_orderly covered_chain None ≡ true
orderly = refl

-- Its links are optional on the spines of chains alone, and each chain has one.
chained : HasChains (marked covered_chain)
chained = record {
  params = (tt, (tt, tt));
  body = (
    refl,
    (
      tt,
      (tt, (tt, tt), (tt, tt)),
      (((refl, (tt, ((refl, (tt, ((tt, tt), (tt, tt)))), (tt, tt)))), ((refl, (tt, (tt, tt), ((tt, tt), tt))), tt)), tt),
    ),
  );
}

-- A callee that is a chain, in parentheses, is not orderly: `(f?.a)()`.
chain_called : is_orderly (unit_of (arrow [] (call 11 false (parenthesized 12 (chain 13 (member 14 true (name 15 (codes "f"))))) [])))
    None ≡ false
chain_called = refl

-- The refusals of a function that returns an expression.
abbrev refusals_at : Syntax → List Diagnostic
refusals_at e = let u = unit_of (arrow [] e) in refusals_of (names_of u) (marked u)

abbrev this : (start : ℕ) → Syntax
this start = node start word.This []

abbrev super : (start : ℕ) → Syntax
super start = node start word.Super []

-- The parts of a link are met in order, object, key and arguments: `eval?.[1n](super)`.
in_order : refusals_at (chain 11 (call 12 false
    (index 13 true (name 14 (codes "eval")) (node 15 word.Bigint (Said (codes "1") ∷ []))) (super 16 ∷ [])))
    ≡ refusal row.F2 (span 14) ∷ refusal row.F42 (span 15) ∷ refusal row.F17 (span 16) ∷ []
in_order = refl

-- A private name is met behind its object, and in front of the arguments: `this.#a?.(super)`.
private_link : refusals_at (chain 11 (call 12 true (private 13 false (this 14)) (super 15 ∷ [])))
    ≡ refusal row.F18 (span 14) ∷ refusal row.F3 (span 13) ∷ refusal row.F17 (span 15) ∷ []
private_link = refl

-- Each `!` below a link is refused in front of its parts, where an optional link stands below it: `(this?.a)!!.a`, in one chain.
asserted_below : refusals_at (chain 11 (member 12 false (asserted 13 (asserted 14 (member 15 true (this 16))))))
    ≡ refusal row.F44 (span 13) ∷ refusal row.F44 (span 14) ∷ refusal row.F18 (span 16) ∷ []
asserted_below = refl

-- A callee below `!` is refused so too, in front of its arguments and those behind it: `f?.(this)!(super)`.
asserted_callee : refusals_at (chain 11 (call 12 false (asserted 13 (call 14 true (name 15 (codes "f")) (this 16 ∷ []))) (super 17 ∷ [])))
    ≡ refusal row.F44 (span 13) ∷ refusal row.F18 (span 16) ∷ refusal row.F17 (span 17) ∷ []
asserted_callee = refl

-- It is not at the top of a chain, nor in front of the first optional link, nor around another chain: `this?.a!`, `this.a!?.a`, and
-- `(this?.a)!.a` of two parts.
asserted_top : refusals_at (chain 11 (asserted 12 (member 13 true (this 14)))) ≡ refusal row.F18 (span 14) ∷ []
asserted_top = refl

asserted_front : refusals_at (chain 11 (member 12 true (asserted 13 (member 14 false (this 15))))) ≡ refusal row.F18 (span 15) ∷ []
asserted_front = refl

asserted_chain : refusals_at (member 11 false (asserted 12 (chain 13 (member 14 true (this 15))))) ≡ refusal row.F18 (span 15) ∷ []
asserted_chain = refl

-- `() => f().a?.(g())`: three calls are live, that of a property is one of a method, and each is tallied once.
abbrev calls : Syntax
calls = arrow [] (chain 11 (call 12 true (member 13 false (call 14 false (name 15 (codes "f")) [])) (
    call 16 false (name 17 (codes "g")) [] ∷ [])))

abbrev call_of : (start : ℕ) → Held
call_of start = record { word = codes "call"; span = span start }

live : live_in_body (names_of (unit_of calls)) (body_in calls)
    ≡ record { word = codes "methodcall"; span = span 12 } ∷ call_of 14 ∷ call_of 16 ∷ []
live = refl

abbrev key : (start : ℕ) → Counted
key start = record { node = 0; kinds = codes "call" ∷ codes "methodcall" ∷ []; span = span start }

tallied_link : tallied (names_of (unit_of calls)) (key 12) (body_in calls) ≡ 1
tallied_link = refl

tallied_argument : tallied (names_of (unit_of calls)) (key 16) (body_in calls) ≡ 1
tallied_argument = refl
