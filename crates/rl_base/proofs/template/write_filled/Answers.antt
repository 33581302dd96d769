use Rattle.std.proofs.Common.{◌≡◌, ◌++◌, Some, None, lit<, rules}
use Rattle.std.proofs.lemmas.Str.Pattern.{split_parts}
use Rattle.rl_base.specs.Templates.{filled, tag_of}
use Rattle.rl_base.specs.Tags.{tagged}
use Rattle.rl_base.proofs.Templates.{filled-step, filled-plain}
use Rattle.rl_base.proofs.template.write_filled.Goals as goal

pub filling-preserved : goal.filling-preserved
filling-preserved g c =
    let parts = split_parts 37 c.filling.rest.now (Some (c.in-Some.before, c.in-Some.after)) c.in-Some.ensures.cases (lit< tt) in
    record {
      utf8 = search rules;
      kept = filled-step _ _ _ _ _ _ _ _ (g.B.TextBuffer.bytes c.args.out.now ++ filled c.args.template.now c.args.word.now) c.tag_of-tag.ensures c.in_ok-write_tagged.ensures
          c.in_ok-append.ensures parts.0 parts.1 c.filling.invariant.kept;
    }

pub returns : goal.returns
returns g c =
    let plain = split_parts 37 c.filling.rest.now None c.in_default.ensures.cases (lit< tt) in
    let same : filled c.filling.rest.now c.args.word.now ≡ tagged c.filling.rest.now (tag_of c.args.word.now) =
    filled-plain c.filling.rest.now c.args.word.now plain in
    cc (c.in_ok-write_tagged-2.ensures, c.tag_of-tag.ensures, c.filling.invariant.kept, same)
