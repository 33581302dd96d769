use Rattle.std.proofs.Common.{ℕ, List, ◌++◌, codes, ap, sym, ◌∙◌}
use Rattle.std.proofs.lemmas.Bool.Decides.{Decides-eqb}
use Rattle.std.proofs.lemmas.Slice.Eq.{slice_eq-Decides}
use Rattle.react_lower.proofs.Comparing.{compared_same}
use Rattle.react_lower.proofs.trace.compared.Goals as goal

pub returns-then-same : goal.returns-then-same
returns-then-same c =
    let text = c.in_ok-text.text.items in
    let line = c.in_ok-line.line.items in
    let decides = slice_eq-Decides Decides-eqb c.as_slice.result.now c.as_slice-2.result.now _ c.eq-same.ensures in
    compared_same c.args.source.now c.args.graph.now text line c.extend_from_slice-then-same.new.self.items c.in_ok-text.ensures
    c.in_ok-line.ensures (sym c.as_slice.ensures.value ∙ decides.0 c.if-same.true ∙ c.as_slice-2.ensures.value)
    (c.in_ok-extend_from_slice-2.ensures.items
    ∙ ap (λ (l : List ℕ). l ++ codes "same\n")
    (c.in_ok-extend_from_slice.ensures.items ∙ ap (λ (l : List ℕ). text ++ l) c.as_slice-3.ensures.value))
