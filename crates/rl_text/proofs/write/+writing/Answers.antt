use Rattle.std.proofs.Common.{◌++◌, List, ℕ, OnOk, Result, Ok, Err, map, ap, ◌∙◌, true, false}
use Rattle.rl_text.specs.declared.raw.Raw.{Raw}
use Rattle.rl_text.specs.Raw.{tree, parts_of}
use Rattle.rl_text.specs.Places.{spelled_parts}
use Rattle.rl_text.proofs.Trees.{node-written, list-written}
use Rattle.rl_text.proofs.write.+writing.Goals as goal

-- Consequences of an outcome's fact.
on_ok : {T E P Q : Type 0} (r : Result T E) → (P → Q) → OnOk r P → OnOk r Q
on_ok (Ok v) f h = f h
on_ok (Err e) f h = tt

pub write_part-returns-in_ok-extend_from_slice-in-Node : goal.write_part-returns-in_ok-extend_from_slice-in-Node
write_part-returns-in_ok-extend_from_slice-in-Node t c =
    on_ok c.write_parts.result (λ e. node-written c.args.raw.now c.in-Node.word c.in-Node.parts c.args.out.now.items c.push.new.self.items c.extend_from_slice.new.self.items c.write_parts.new.out.items c.in-Node.is c.in_ok-push-in-Node.ensures.items
    (c.in_ok-extend_from_slice-in-Node.ensures.items ∙ ap (λ (l : List ℕ). c.push.new.self.items ++ l) c.as_bytes.ensures)
    (e ∙ ap (λ (l : List Raw). c.extend_from_slice.new.self.items ++ spelled_parts true 41 (parts_of (map tree l))) c.as_slice.ensures)) c.write_parts.ensures

pub write_part-returns-in_ok-push-in-List : goal.write_part-returns-in_ok-push-in-List
write_part-returns-in_ok-push-in-List t c =
    on_ok c.write_parts-in-List.result (λ e. list-written c.args.raw.now c.in-List.parts c.args.out.now.items c.push-in-List.new.self.items c.write_parts-in-List.new.out.items c.in-List.is c.in_ok-push-in-List.ensures.items
    (e ∙ ap (λ (l : List Raw). c.push-in-List.new.self.items ++ spelled_parts false 93 (parts_of (map tree l))) c.as_slice-in-List.ensures)) c.write_parts-in-List.ensures
