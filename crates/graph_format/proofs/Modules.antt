-- A module: its numbers, then its lists, by the count of its statements.
-- A statement in the same way.
use Prim.Native.Nat.{ℕ, ◌+◌, ◌<◌}
use mathlib.Core.Path.{◌≡◌, ap, ◌∙◌, sym}
use mathlib.Core.List.{List, [], ◌∷◌}
use native.Mathlib.Omega.{arith}
use lib.Dec.{eqb}
use lib.ListN.{length, get_or, drop}
use Rattle.rows.specs.Walk.{Rule, value, below, any, cells, lists, walk_of}
use Rattle.graph_format.specs.declared.Header.{Header}
use Rattle.graph_format.specs.declared.Left.{Left}
use Rattle.graph_format.specs.Format.{module_rules, namespace_limit, least_statements, statement_limit, module_lists, module_at, statement_at, statement_lists}
use Rattle.graph_format.proofs.Chains.{item_go, item_stop}
use Rattle.std.specs.Prelude.{Ok, Err}
use Rattle.rows.specs.refusal_crate.declared.Refusal.{Refusal}

-- the rules of a module's numbers from its namespace on, with the limits that the code has
pub counts_are : (h : Header) (numbers : List ℕ) (left : Left) (at q : ℕ) {kind highest least limit : ℕ} → kind ≡ get_or numbers at 0 → highest ≡ namespace_limit kind h.symbols
    → least ≡ least_statements kind left.statements (eqb left.modules 1) → limit ≡ statement_limit kind left.statements
    → walk_of (cells (value kind highest ∷ below any ∷ value least limit ∷ below 5 ∷ below any ∷ []) numbers q)
    ≡ walk_of (cells (drop 7 (module_rules h (get_or numbers at 0) left.statements (eqb left.modules 1))) numbers q)
unfolding module_rules
counts_are h numbers left at q k a b d = rw (a, b, d, k)

module _ (h : Header) (numbers : List ℕ) (left : Left) (at : ℕ) where
  abbrev pub module_head : List Rule
  module_head = module_rules h (get_or numbers at 0) left.statements (eqb left.modules 1)

  pub module_stop : {why : Refusal} → walk_of (cells module_head numbers at) ≡ Err why → walk_of (module_at h numbers left at) ≡ Err why
  unfolding module_at
  module_stop e = item_stop module_head _ numbers at e

  pub module_inside : {q : ℕ} → walk_of (cells module_head numbers at) ≡ Ok q → at + 9 < length numbers
  unfolding module_rules
  module_inside e = (item_go module_head (λ head. []) numbers at e).1.inside 9 (omega arith)

  pub module_go : {q count : ℕ} → walk_of (cells module_head numbers at) ≡ Ok q → count ≡ get_or numbers (at + 9) 0
      → walk_of (module_at h numbers left at) ≡ walk_of (lists (module_lists h numbers count) numbers q)
  unfolding module_at module_rules
  module_go {q} {count} e f =
      let g = item_go module_head (λ head. module_lists h numbers (get_or head 9 0)) numbers at e in
      let s : get_or g.0 9 0 ≡ count = g.1.same 9 (omega arith) ∙ sym f in
      g.2 ∙ ap (λ n. walk_of (lists (module_lists h numbers n) numbers q)) s

-- a statement: its bits, then its lists
module _ (h : Header) (import_records : ℕ) (numbers : List ℕ) (i at : ℕ) where
  pub statement_stop : {why : Refusal} → walk_of (cells (below 32 ∷ []) numbers at) ≡ Err why → walk_of (statement_at h import_records numbers i at) ≡ Err why
  unfolding statement_at
  statement_stop e = item_stop (below 32 ∷ []) _ numbers at e

  pub statement_go : {q : ℕ} → walk_of (cells (below 32 ∷ []) numbers at) ≡ Ok q
      → walk_of (statement_at h import_records numbers i at) ≡ walk_of (lists (statement_lists h numbers import_records) numbers q)
  unfolding statement_at
  statement_go e = (item_go (below 32 ∷ []) (λ head. statement_lists h numbers import_records) numbers at e).2
