-- Reading one item, by its leading numbers.
use Prim.Native.Nat.{ℕ, ◌<◌}
use mathlib.Core.Path.{◌≡◌, ap, ◌∙◌, sym}
use mathlib.Core.List.{List}
use native.Mathlib.Nat.{add-zero}
use native.Mathlib.Omega.{arith}
use lib.ListN.{length, get_or}
use Rattle.tables.specs.rows_crate.Walk.{got, fault, and_then, Rule, ListRule, cells, lists, walk_of, Item, no_item, item}
use Rattle.tables.proofs.rows_crate.Walks.{fault_is, walk-map}
use Rattle.tables.proofs.rows_crate.Cells.{cells_got}
use Rattle.tables.proofs.rows_crate.Items.{item_got}
use Rattle.tables.specs.graph_format_crate.declared.Header.{Header}
use Rattle.tables.specs.graph_format_crate.Format.{symbol_rules, symbol_lists, symbol_at, statements_of}
use Rattle.std.specs.Prelude.{Err}
use Rattle.tables.specs.refusal_crate.declared.Refusal.{Refusal}

module _ (rules : List Rule) (rest : List ℕ → List ListRule) (numbers : List ℕ) (at : ℕ) where
  pub item_go : {head : List ℕ} {q : ℕ} → cells rules numbers at ≡ got head q → walk_of (item rules rest numbers at) ≡ walk_of (lists (rest head) numbers q)
  unfolding item and_then
  item_go {head} {q} e = rw (e, item, and_then) (walk-map (lists (rest head) numbers q) (λ ls. record { place = at; head = head; rows = ls }))

  pub item_stop : {why : Refusal} → walk_of (cells rules numbers at) ≡ Err why → walk_of (item rules rest numbers at) ≡ Err why
  unfolding item and_then walk_of
  item_stop {why} e = ap walk_of (stopped (fault_is _ why e))
    where
      stopped : cells rules numbers at ≡ fault why → item rules rest numbers at ≡ fault why
      stopped f = rw (f, item, and_then)

  pub item_place : {x : Item} {q : ℕ} → item rules rest numbers at ≡ got x q → x.place ≡ at
  item_place e = (item_got rules rest numbers at e).place

-- a symbol, by its owner
module _ (h : Header) (ms : List Item) (numbers : List ℕ) (i at : ℕ) where
  pub symbol_stop : {why : Refusal} → walk_of (cells (symbol_rules h) numbers at) ≡ Err why → walk_of (symbol_at h ms numbers i at) ≡ Err why
  unfolding symbol_at
  symbol_stop e = item_stop _ _ numbers at e

  module _ {head : List ℕ} {q : ℕ} (e : cells (symbol_rules h) numbers at ≡ got head q) where
    pub owner-inside : at < length numbers
    unfolding symbol_rules
    owner-inside = omega (arith, (cells_got _ numbers at e).inside 0 (omega arith))

    pub owner-same : get_or head 0 0 ≡ get_or numbers at 0
    unfolding symbol_rules
    owner-same = (cells_got _ numbers at e).same 0 (omega arith) ∙ ap (λ j. get_or numbers j 0) (add-zero at)

    pub owner-good : get_or numbers at 0 < h.modules
    unfolding symbol_rules
    owner-good = omega (arith, owner-same, ((cells_got _ numbers at e).good 0 (omega arith)).1)

    pub symbol-go : (owner count : ℕ) → owner ≡ get_or numbers at 0 → count ≡ get_or (get_or ms owner no_item).head 9 0
        → walk_of (symbol_at h ms numbers i at) ≡ walk_of (lists (symbol_lists h numbers count) numbers q)
    unfolding symbol_at statements_of
    symbol-go owner count o c =
        let w : get_or head 0 0 ≡ owner = owner-same ∙ sym o in
        item_go _ _ numbers at e ∙ rw (w, sym c)
