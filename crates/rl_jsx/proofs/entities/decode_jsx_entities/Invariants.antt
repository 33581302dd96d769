use Rattle.std.proofs.Common.{◌≡◌, ◌++◌, length, string_bytes}
use denote.Text.{Utf8}
use denote.Shadow.{shadow}
use Rattle.rl_atoms.specs.Entities.{entity_value}
use Rattle.rl_jsx.specs.JsxTexts.{decode_jsx_entities}
use Rattle.rl_jsx.proofs.entities.decode_jsx_entities.Given as goal

abbrev pub invariant-decoding : goal.invariant-decoding
invariant-decoding l = record {
  utf8 : shadow (Utf8 l.rest);
  kept : string_bytes l.decoded ++ decode_jsx_entities (entity_value l.entities) l.rest ≡ decode_jsx_entities (entity_value l.entities) l.text;
}

abbrev pub decreases-decoding : goal.decreases-decoding
decreases-decoding l = length l.rest
