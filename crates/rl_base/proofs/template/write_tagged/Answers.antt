use Rattle.std.proofs.Common.{◌≡◌, ◌++◌, Some, None, lit<, rules}
use Rattle.std.proofs.lemmas.Str.Pattern.{split_parts}
use Rattle.rl_base.specs.Tags.{tagged}
use Rattle.rl_base.proofs.Templates.{tagged-step, tagged-plain}
use Rattle.rl_base.proofs.template.write_tagged.Goals as goal

pub tagging-preserved : goal.tagging-preserved
tagging-preserved g c =
    let parts = split_parts 35 c.tagging.rest.now (Some (c.in-Some.before, c.in-Some.after)) c.in-Some.ensures.cases (lit< tt) in
    record {
      utf8 = search rules;
      kept = tagged-step _ _ _ _ _ _ _ (g.B.TextBuffer.bytes c.args.out.now ++ tagged c.args.template.now c.args.tag.now) c.in_ok-append.ensures c.in_ok-append-2.ensures
          parts.0 parts.1 c.tagging.invariant.kept;
    }

pub returns : goal.returns
returns g c =
    let plain = split_parts 35 c.tagging.rest.now None c.in_default.ensures.cases (lit< tt) in
    let same : tagged c.tagging.rest.now c.args.tag.now ≡ c.tagging.rest.now =
    tagged-plain c.tagging.rest.now c.args.tag.now plain in
    cc (c.in_ok-append-3.ensures, c.tagging.invariant.kept, same)
