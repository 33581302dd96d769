use Rattle.std.proofs.Common.{◌≡◌, ◌+◌, ◌<◌, ◌^◌, Bool, false, if◌then◌else◌, length, map, sym, ap, ◌∙◌, add-one, append_assoc, below_more, arith}
use Rattle.std.proofs.lemmas.List.{length-map}
use Rattle.rl_used_names.specs.Choosing.{is_free, with_user}
use Rattle.rl_used_names.specs.UsedName.{candidate, used_name_of}
use Rattle.rl_used_names.proofs.Candidates.{chosen-first}
use Rattle.rl_used_names.proofs.names.claim_numbered.Goals as goal

pub returns-then-is_claimed-clause-text : goal.returns-then-is_claimed-clause-text
returns-then-is_claimed-clause-text c = c.in_ok-text.ensures ∙ rw (add-one, append_assoc) (c.new-candidate.ensures ∙ c.in_ok-format.ensures.ok)

pub returns-then-is_claimed-clause-chosen : goal.returns-then-is_claimed-clause-chosen
returns-then-is_claimed-clause-chosen c =
    let used = map used_name_of c.args.users.now in
    let number = c.loop-number.number-counter in
    let next : c.in_ok-text.text ≡ candidate c.args.name.now (number + 1) = returns-then-is_claimed-clause-text c in
    let view : length (map used_name_of c.args.users.now) ≡ length c.args.users.now = length-map c.args.users.now used_name_of in
    let small : length used < 2 ^ 64 = omega (arith, view, c.len-number-end.ensures, c.len-number-end.type_inv) in
    let free = ap (is_free used c.args.symbol.0) (sym next ∙ c.in_ok-text.ensures)
    ∙ ap (λ l. is_free l c.args.symbol.0 c.new-candidate.result) (sym c.loop-number.invariant.same)
    ∙ sym c.in_ok-is_claimed.ensures.free ∙ c.if-is_claimed.true in
    next ∙ chosen-first used c.args.symbol.0 c.args.name.now (number + 1) small (record { free = free; taken = c.loop-number.invariant.taken })

pub loop-number-preserved : goal.loop-number-preserved
loop-number-preserved c =
    let used = map used_name_of c.args.users.now in
    let number = c.loop-number.number-counter in
    let next : c.new-candidate.result ≡ candidate c.args.name.now (number + 1) = rw (add-one, append_assoc) (c.new-candidate.ensures ∙ c.in_ok-format.ensures.ok) in
    let taken : is_free used c.args.symbol.0 (candidate c.args.name.now (number + 1)) ≡ false =
    ap (is_free used c.args.symbol.0) (sym next)
    ∙ ap (λ l. is_free l c.args.symbol.0 c.new-candidate.result) (sym c.loop-number.invariant.same)
    ∙ sym c.in_ok-is_claimed.ensures.free ∙ c.if-is_claimed.false in
    record {
      same = c.in_ok-is_claimed.ensures.used
          ∙ ap (λ (b : Bool). if b then with_user (map used_name_of c.loop-number.users) c.new-candidate.result c.args.symbol.0 else map used_name_of c.loop-number.users) c.if-is_claimed.false
          ∙ c.loop-number.invariant.same;
      taken = below_more _ _ c.loop-number.invariant.taken taken;
    }
