use Rattle.std.proofs.Common.{◌+◌, drop, get_or, Option, Some, None, IfNone}
use Rattle.std.proofs.lemmas.List.{drop_more}
use Rattle.rl_text.proofs.Forms.{number-found, number-none, number-longer}
use Rattle.rl_text.proofs.Numerals.{numeral-found, numeral-none}
use Rattle.rl_text.proofs.read.read_number_at.Goals as goal

if_none : {A P : Type 0} (o : Option A) → P → IfNone o P
if_none (Some v) h = tt
if_none None h = h

pub returns-in_err-number-clause-none : goal.returns-in_err-number-clause-none
returns-in_err-number-clause-none c =
    let bytes = c.args.bytes.now in
    let at = c.args.at in
    if_none c.from_residual.result (λ depth. number-none bytes at c.digits_end-end.result c.digits_end-end.ensures depth (get_or bytes at 0) (drop (at + 1) bytes) c.requires.digit (drop_more bytes at 0 c.requires.within) (λ n h. numeral-none _ n c.in_err-number.ensures h))

pub returns-clause-found : goal.returns-clause-found
returns-clause-found c =
    let bytes = c.args.bytes.now in
    let at = c.args.at in (
      number-longer bytes at c.digits_end-end.result c.digits_end-end.ensures c.requires.within c.requires.digit,
      c.digits_end-end.ensures.within,
      number-found bytes at c.digits_end-end.result c.digits_end-end.ensures 0 c.in_ok-number.number (numeral-found _ _ c.in_ok-number.ensures),
    )
