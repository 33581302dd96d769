use Rattle.std.proofs.Common.{◌∙◌, sym, arith}
use Rattle.std.proofs.lemmas.Bool.{and_from}
use Rattle.std.proofs.lemmas.List.Folds.{list_all_more}
use Rattle.rl_jsx.specs.Marks.{is_inside}
use Rattle.rl_jsx.proofs.lines.line_end.Goals as goal

pub scanning-preserved : goal.scanning-preserved
scanning-preserved c = record {
  within = omega arith;
  inside = list_all_more is_inside c.args.text.now c.scanning.end 0 (omega arith) ∙ and_from _ _ c.scanning.invariant.inside (sym c.is_inside_line.ensures ∙ c.if-is_inside_line.true);
}
