-- A related statement: whether its import is pure, and whether it lets its entry live.
use Prim.Native.Nat.{ℕ, ◌+◌, ◌-◌, ◌<◌, ◌≤◌}
use mathlib.Core.Path.{◌≡◌, refl, ap, ◌∙◌, sym}
use mathlib.Core.Bool.{Bool, true, false, not, ◌||◌, ◌&&◌}
use mathlib.Core.List.{List, []}
use native.Mathlib.Omega.{arith}
use borrow.Author.Tests.{eq-eqb, ne_eqb}
use lib.ListN.{length, get_or, drop}
use Rattle.determine_side_effects.specs.graph_crate.Check.{Graph}
use Rattle.determine_side_effects.specs.graph_access_crate.declared.entries.RelatedStmt.{RelatedStmt}
use Rattle.determine_side_effects.specs.graph_access_crate.Names.{flags, import_records, import_record_target, import_record_bits, related_module, related_statement, related, unreachable}
use Rattle.determine_side_effects.specs.graph_access_crate.Words.{flag, some, module_of, statement_list, entry_of}
use Rattle.determine_side_effects.specs.graph_access_crate.Related.{RelatedIs}
use Rattle.determine_side_effects.specs.facts_crate.declared.Fact.{Fact}
use Rattle.determine_side_effects.specs.facts_crate.declared.Fact.TheVariants.{Statement}
use Rattle.determine_side_effects.specs.facts_crate.Facts.{statement_fact}
use Rattle.determine_side_effects.proofs.facts_crate.Folds.{some_next, some_here, some_none}
use Rattle.determine_side_effects.specs.Effects.{has_effects}
use Rattle.entry_order.specs.Order.{module_of_entry}
use Rattle.dynamic_entries.specs.Alive.{record_of, is_pure, uses_no_export, lets_live, is_alive}

module _ (g : Graph) (row : List ℕ) (r : RelatedStmt) (is : RelatedIs g row r) where
  -- its import record, by the typed indexes
  pub record_is : get_or (import_records (module_of g r.module.0)) r.import_record.0 [] ≡ record_of g row
  unfolding record_of
  record_is = rw (is.module_is, is.import_record_is)

  pub module_inside : r.module.0 < g.header.modules
  module_inside = rw is.module_is is.here.inside

  pub statement_inside : r.statement.0 < length (statement_list g r.module.0)
  statement_inside = rw (is.module_is, is.statement_is) is.here.statement_inside

  pub import_record_inside : r.import_record.0 < length (import_records (module_of g r.module.0))
  import_record_inside = rw (is.module_is, is.import_record_is) is.here.import_record_inside

  module _ (v : List ℕ) (t : ℕ) (target : t ≡ import_record_target (get_or (import_records (module_of g r.module.0)) r.import_record.0 [])) where
    effects-are : has_effects v (t - 1) ≡ has_effects v (import_record_target (record_of g row) - 1)
    effects-are = ap (λ (x : ℕ). has_effects v (x - 1)) (target ∙ ap import_record_target record_is)

    pub target-some : t ≡ 0 → ⊥
    unfolding record_of
    target-some z = is.here.resolved (sym (ap import_record_target record_is) ∙ sym target ∙ z)

    pub impure : has_effects v (t - 1) ≡ true → false ≡ is_pure g v row
    unfolding is_pure
    impure e = let z : has_effects v (import_record_target (record_of g row) - 1) ≡ true = sym effects-are ∙ e in rw z

    pub pure-by-bits : has_effects v (t - 1) ≡ false → (b : ℕ) → b ≡ import_record_bits (get_or (import_records (module_of g r.module.0)) r.import_record.0 []) → flag 1 b ≡ is_pure g v row
    unfolding is_pure
    pure-by-bits e b q =
        let z : has_effects v (import_record_target (record_of g row) - 1) ≡ false = sym effects-are ∙ e in
        ap (flag 1) (q ∙ ap import_record_bits record_is) ∙ rw z

  -- by its answers in turn
  module _ (v : List ℕ) (kept : Fact → Bool) (m : ℕ) where
    pub never-reached : (r.unreachable ≡ 0 → ⊥) → false ≡ lets_live g v kept m row
    unfolding lets_live
    never-reached h = rw (ne_eqb (unreachable row) 0 (λ z. h (is.unreachable_is ∙ z)), lets_live)

    module _ (z : r.unreachable ≡ 0) (b : Bool) (q : b ≡ kept (Statement r.module r.statement)) where
      reached : lets_live g v kept m row ≡ (b && (not (uses_no_export g m) || not (is_pure g v row)))
      unfolding lets_live
      reached =
          let e : kept (statement_fact (related_module row) (related_statement row)) ≡ b = rw (← is.module_is, ← is.statement_is) (sym q) in
          rw (eq-eqb (unreachable row) 0 (sym is.unreachable_is ∙ z), lets_live, e)

      pub unkept : b ≡ false → false ≡ lets_live g v kept m row
      unkept e = sym (reached ∙ rw e)

      pub kept-used : b ≡ true → uses_no_export g m ≡ false → true ≡ lets_live g v kept m row
      kept-used e u = sym (reached ∙ rw (e, u))

      pub kept-unused : b ≡ true → uses_no_export g m ≡ true → (p : Bool) → p ≡ is_pure g v row → not p ≡ lets_live g v kept m row
      kept-unused e u p i = ap not i ∙ sym (reached ∙ rw (e, u))

-- The related statements of entry e in turn: what those from number k on say is what all say.
module _ (g : Graph) (v : List ℕ) (kept : Fact → Bool) (e k : ℕ) where
  pub record Searching : Type 0 where
    pub on : some (lets_live g v kept (module_of_entry g e)) (drop k (related (entry_of g e))) ≡ is_alive g v kept e

pub search_start : (g : Graph) (v : List ℕ) (kept : Fact → Bool) (e : ℕ) → Searching g v kept e 0
unfolding is_alive
search_start g v kept e = record { on = refl }

module _ (g : Graph) (v : List ℕ) (kept : Fact → Bool) (e k : ℕ) (s : Searching g v kept e k) (n : ℕ) (size : n ≡ length (related (entry_of g e))) where
  pub search_end : n ≤ k → is_alive g v kept e ≡ false
  search_end l = sym s.on ∙ some_none (lets_live g v kept (module_of_entry g e)) [] (related (entry_of g e)) k (omega (arith, size))

  module _ (l : k < n) (b : Bool) (is : b ≡ lets_live g v kept (module_of_entry g e) (get_or (related (entry_of g e)) k [])) where
    pub search-found : b ≡ true → is_alive g v kept e ≡ true
    search-found t = sym s.on ∙ some_here (lets_live g v kept (module_of_entry g e)) [] (related (entry_of g e)) k (omega (arith, size)) (sym is ∙ t)

    pub search-next : b ≡ false → Searching g v kept e (k + 1)
    search-next t = record { on = sym (some_next (lets_live g v kept (module_of_entry g e)) [] (related (entry_of g e)) k (omega (arith, size)) (sym is ∙ t)) ∙ s.on }

-- whether the dynamic imports of an entry's module use no export, by its flags
pub unused_is : (g : Graph) (e u x : ℕ) (b : Bool) → b ≡ flag 4 x → x ≡ flags (module_of g u) → u ≡ module_of_entry g e → b ≡ uses_no_export g (module_of_entry g e)
unfolding uses_no_export
unused_is g e u x b p q r = p ∙ ap (flag 4) (q ∙ ap (λ (m : ℕ). flags (module_of g m)) r)
