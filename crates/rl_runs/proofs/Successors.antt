-- A terminal names each block to which it leads, and the one behind it.
use Rattle.std.proofs.Common.{◌≡◌, ◌⊎◌, inl, inr, Bool, true, ◌||◌, List, [], ◌∷◌, ◌++◌, map, true≢false, sym, ◌∙◌}
use Rattle.std.specs.List.{list_any}
use Rattle.rl_base.specs.declared.ids.BlockId.{BlockId}
use Rattle.rl_hir.specs.declared.function.BasicBlock.{BasicBlock}
use Rattle.rl_hir.specs.Terminals.{Field, Leads, MayLead, Chooses, Follows, Names, MayName, Reads, MayBind, Says, Holds, fallthrough}
use Rattle.rl_hir.specs.Terminals.{fields_of, follows, leads, listed_id, named_ids, names, successor_ids}
use Rattle.rl_order.proofs.Ordering.{any_append, either, or_left, or_right}
use Rattle.rl_order.specs.Walk.{leads_to}

module _ (test : BlockId → Bool) where
  any_either : (xs ys zs : List BlockId) → (list_any test ys ≡ true → list_any test zs ≡ true) → list_any test (xs ++ ys) ≡ true
      → list_any test (xs ++ zs) ≡ true
  any_either xs ys zs rest h =
      any_append test xs zs ∙ by_part (either (list_any test xs) (list_any test ys) (sym (any_append test xs ys) ∙ h))
    where
      by_part : (list_any test xs ≡ true) ⊎ (list_any test ys ≡ true) → (list_any test xs || list_any test zs) ≡ true
      by_part (inl first) = or_left (list_any test xs) (list_any test zs) first
      by_part (inr second) = or_right (list_any test xs) (list_any test zs) (rest second)

  any_behind : (xs zs : List BlockId) → list_any test zs ≡ true → list_any test (xs ++ zs) ≡ true
  any_behind xs zs h = any_append test xs zs ∙ or_right (list_any test xs) (list_any test zs) h

  led_named : (fields : List Field) → list_any test (leads fields) ≡ true → list_any test (names fields) ≡ true
  led_named [] h = h
  led_named (Leads b ∷ fields) h = any_either (b ∷ []) (leads fields) (names fields) (led_named fields) h
  led_named (MayLead b ∷ fields) h = any_either (listed_id b) (leads fields) (names fields) (led_named fields) h
  led_named (Chooses cases ∷ fields) h = any_either (map (λ c. c.block) cases) (leads fields) (names fields) (led_named fields) h
  led_named (Follows b ∷ fields) h = any_behind (b ∷ []) (names fields) (led_named fields h)
  led_named (Names b ∷ fields) h = any_behind (b ∷ []) (names fields) (led_named fields h)
  led_named (MayName b ∷ fields) h = any_behind (listed_id b) (names fields) (led_named fields h)
  led_named (Reads p ∷ fields) h = led_named fields h
  led_named (MayBind p ∷ fields) h = led_named fields h
  led_named (Says text ∷ fields) h = led_named fields h
  led_named (Holds flag ∷ fields) h = led_named fields h

  followed_named : (fields : List Field) → list_any test (listed_id (follows fields)) ≡ true → list_any test (names fields) ≡ true
  followed_named [] h = h
  followed_named (Leads b ∷ fields) h = any_behind (b ∷ []) (names fields) (followed_named fields h)
  followed_named (MayLead b ∷ fields) h = any_behind (listed_id b) (names fields) (followed_named fields h)
  followed_named (Chooses cases ∷ fields) h = any_behind (map (λ c. c.block) cases) (names fields) (followed_named fields h)
  followed_named (Follows b ∷ fields) h = any_either (b ∷ []) [] (names fields) (λ never. absurd (true≢false (sym never))) h
  followed_named (Names b ∷ fields) h = any_behind (b ∷ []) (names fields) (followed_named fields h)
  followed_named (MayName b ∷ fields) h = any_behind (listed_id b) (names fields) (followed_named fields h)
  followed_named (Reads p ∷ fields) h = followed_named fields h
  followed_named (MayBind p ∷ fields) h = followed_named fields h
  followed_named (Says text ∷ fields) h = followed_named fields h
  followed_named (Holds flag ∷ fields) h = followed_named fields h

  pub leads_named : (block : BasicBlock) → list_any test (leads_to block) ≡ true → list_any test (named_ids block.terminal) ≡ true
  leads_named block h =
      by_part (either (list_any test behind) (list_any test ahead) (sym (any_append test behind ahead) ∙ h))
    where
      behind : List BlockId
      behind = listed_id (fallthrough block.terminal)

      ahead : List BlockId
      ahead = successor_ids block.terminal

      by_part : (list_any test behind ≡ true) ⊎ (list_any test ahead ≡ true) → list_any test (named_ids block.terminal) ≡ true
      by_part (inl first) = followed_named (fields_of block.terminal.kind) first
      by_part (inr second) = led_named (fields_of block.terminal.kind) second
