use Rattle.std.proofs.Common.{None, get_or, ◌∙◌, sym, ap}
use Rattle.std.proofs.lemmas.Bool.{false≢true}
use Rattle.std.proofs.lemmas.Slice.Eq.{bytes_eq-Decides}
use Rattle.rl_syntax.specs.Words.{word_text}
use Rattle.rl_syntax.specs.declared.word_table.TheConstants.{TABLE}
use Rattle.rl_syntax.proofs.Words.{held-at, none-some, some-one}
use Rattle.rl_syntax.proofs.word.Word.from_text.Goals as goal

pub returns-in_default : goal.returns-in_default
returns-in_default c w e =
    let index = c.index_of.result in
    none-some (get_or TABLE index None) w c.in_default.is (held-at c.args.text.now index w c.index_of.ensures.value e)

pub returns-else-eq : goal.returns-else-eq
returns-else-eq c w e =
    let index = c.index_of.result in
    let same = some-one (get_or TABLE index None) c.in-Some.word w c.in-Some.is (held-at c.args.text.now index w c.index_of.ensures.value e) in
    let spelled = c.as_bytes.ensures.value ∙ c.text.ensures ∙ ap word_text same ∙ e in
    false≢true (sym c.if-eq.false ∙ c.eq.ensures ∙ (bytes_eq-Decides c.as_bytes.result.now c.args.text.now).1 spelled)
