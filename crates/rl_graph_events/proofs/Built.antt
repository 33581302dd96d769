-- Pieces that are added one behind the other.
use Rattle.std.proofs.Common.{◌≡◌, ◌∙◌, ℕ, List, [], ◌∷◌, ◌++◌, refl, ap, map, append_assoc, append-nil, sym, codes}
use Rattle.rl_hir.specs.Pieces.{Piece, Says, Names, Gives, Spreads, Takes, operands, texts}
use Rattle.rl_hir.specs.Values.{Form, Silent, Asks, Assigns}
use Rattle.rl_machine.specs.Acts.{event_in, operand_value}
use Rattle.rl_machine.specs.Traces.{Store}
use Rattle.rl_machine.specs.declared.trace.Value.{Value}
use Rattle.rl_graph_events.specs.Buildings.{Built, added, adds, blank, event_from, filled, with_operand}

pub adds_append : (ps qs : List Piece) (b : Built) → adds (ps ++ qs) b ≡ adds qs (adds ps b)
adds_append [] qs b = refl
adds_append (p ∷ ps) qs b = adds_append ps qs (added p b)

both : (b : Built) (text : List ℕ) (v : Value) (ps : List Piece)
    → record b {
      texts = (b.texts ++ text ∷ []) ++ texts ps;
      operands = (b.operands ++ v ∷ []) ++ map (operand_value b.store)
          (operands ps);
    }
    ≡ record b { texts = b.texts ++ text ∷ texts ps; operands = b.operands ++ v ∷ map (operand_value b.store) (operands ps) }
both b text v ps =
    ap (λ ts. record b { texts = ts; operands = (b.operands ++ v ∷ []) ++ map (operand_value b.store) (operands ps) })
    (append_assoc b.texts (text ∷ []) (texts ps))
    ∙ ap (λ os. record b { texts = b.texts ++ text ∷ texts ps; operands = os }) (append_assoc b.operands (v ∷ []) (map
    (operand_value b.store) (operands ps)))

-- The texts and operands that pieces add.
pub adds_is : (ps : List Piece) (b : Built)
    → adds ps b ≡ record b { texts = b.texts ++ texts ps; operands = b.operands ++ map (operand_value b.store) (operands ps) }
adds_is [] b =
    ap (λ ts. record b { texts = ts }) (sym (append-nil b.texts))
    ∙ ap (λ os. record b { texts = b.texts ++ []; operands = os }) (sym (append-nil b.operands))
adds_is (Says text ∷ ps) b =
    adds_is ps (added (Says text) b)
    ∙ ap (λ ts. record b { texts = ts; operands = b.operands ++ map (operand_value b.store) (operands ps) }) (append_assoc b.texts
    (text ∷ []) (texts ps))
adds_is (Names name ∷ ps) b =
    adds_is ps (added (Names name) b)
    ∙ ap (λ ts. record b { texts = ts; operands = b.operands ++ map (operand_value b.store) (operands ps) }) (append_assoc b.texts
    ((46 ∷ name) ∷ []) (texts ps))
adds_is (Gives place ∷ ps) b = adds_is ps (added (Gives place) b) ∙ both b (codes "place") (b.store place.identifier.0) ps
adds_is (Spreads place ∷ ps) b = adds_is ps (added (Spreads place) b) ∙ both b (codes "spread") (b.store place.identifier.0) ps
adds_is (Takes operand ∷ ps) b =
    adds_is ps (added (Takes operand) b)
    ∙ ap (λ os. record b { texts = b.texts ++ texts ps; operands = os }) (append_assoc b.operands (operand_value b.store operand ∷ [])
    (map (operand_value b.store) (operands ps)))

-- The event of a form, from a building without texts and operands.
pub filled_event : (store : Store) (word : List ℕ) (form : Form) → event_from word (filled form (blank store)) ≡ event_in store word form
filled_event store word (Silent w fields) = refl
filled_event store word (Asks w ps) = ap (event_from word) (adds_is ps (blank store))
filled_event store word (Assigns w head ps v targets) = ap (λ b. event_from word (with_operand v b)) (adds_is ps (blank store))
