use Rattle.std.proofs.Common.{◌≡◌, [], ◌∷◌, codes, map, string_bytes, refl, ap, sym, ◌∙◌}
use Rattle.react_lower.proofs.Words.{five, ok_so, trace_found, trace_none, trace_only}
use Rattle.react_lower.proofs.run.arguments_of.Goals as goal

pub returns-else-not-is_trace : goal.returns-else-not-is_trace
returns-else-not-is_trace c =
    let items = five c.args.words.now _ _ _ _ _ c.in-len5.len_at_least c.in-len5.len_below c.command-item.is c.function-item.is
    c.start-item.is c.args-item.is c.answers-item.is in
    let words : map string_bytes c.args.words.now
    ≡ codes "trace" ∷ c.as_bytes.result.now ∷ c.as_bytes-in-len5.result.now ∷ c.as_bytes-in-len5-2.result.now
    ∷ c.as_bytes-in-len5-3.result.now ∷ [] =
    ap (map string_bytes) items ∙ (λ i. c.if-not-is_trace.ensures.0 refl i ∷ sym c.as_bytes.ensures.value i
    ∷ sym c.as_bytes-in-len5.ensures.value i ∷ sym c.as_bytes-in-len5-2.ensures.value i ∷ sym c.as_bytes-in-len5-3.ensures.value i ∷ []) in
    record {
      found = ok_so c.read_words.result c.read_words.ensures.found (λ o found. trace_found _ _ _ _ _ words o found);
      only = ok_so c.read_words.result c.read_words.ensures.only (λ o only. trace_only _ _ _ _ _ words o only);
      none = ok_so c.read_words.result c.read_words.ensures.none (λ o none. trace_none _ _ _ _ _ words o none);
    }
