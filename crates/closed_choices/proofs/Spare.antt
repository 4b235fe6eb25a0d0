-- A good fact shows no spare bit of an answer row.
use Prim.Native.Nat.{ℕ, ◌+◌, ◌*◌, ◌<◌}
use mathlib.Core.Path.{◌≡◌, refl, sym, subst}
use mathlib.Core.Bool.{Bool, true, ◌&&◌, ◌||◌, not}
use mathlib.Core.List.{List, [], ◌∷◌, ◌++◌}
use native.Mathlib.Omega.{arith}
use Rattle.determine_side_effects.specs.graph_crate.Check.{Graph}
use Rattle.determine_side_effects.specs.graph_access_crate.Names.{owner}
use Rattle.determine_side_effects.specs.index_crate.declared.ModuleIdx.{ModuleIdx}
use Rattle.determine_side_effects.specs.index_crate.declared.StmtIdx.{StmtIdx}
use Rattle.determine_side_effects.specs.index_crate.declared.SymbolIdx.{SymbolIdx}
use Rattle.determine_side_effects.specs.facts_crate.declared.Reason.{Reason}
use Rattle.determine_side_effects.specs.facts_crate.declared.Fact.{Fact}
use Rattle.determine_side_effects.specs.facts_crate.declared.Fact.TheVariants.{Module, Statement, Use, CheckedUse, Forward, Bailout}
use Rattle.determine_side_effects.specs.facts_crate.Facts.{Good}
use Rattle.determine_side_effects.specs.graph_access_crate.Words.{flag, symbol_of, normal}
use Rattle.linking_metadata.specs.Namespaces.{is_namespace, target_of}
use Rattle.keep_rules.specs.Rules.{bypassed, dev_namespace}
use Rattle.keep_record.specs.Lines.{elem}
use Rattle.keep_record.proofs.Counting.{elem_place}
use Rattle.answer_rows.specs.declared.Row.{Row}
use Rattle.answer_rows.specs.declared.Row.TheVariants.{Modules, Statements, Used, External, Json, NamespaceReason}
use Rattle.answer_rows.specs.Shown.{only_if, used_by, external_by, json_by, reason_by, shows}
use Rattle.answer_rows.proofs.Turned.{checked_none, forward_none, bailout_none}
use Rattle.closed_choices.specs.Operation.{Spare}
use Rattle.closed_choices.proofs.Every.{Every, every_append, every_at, every_if}

every_elem : (P : ℕ → Type 0) (xs : List ℕ) → Every P xs → (j : ℕ) → elem j xs ≡ true → P j
every_elem P xs a j e = let p = elem_place j xs e in subst (λ k. P k) (sym p.2) (every_at P xs 0 a p.0 p.1)

only_every : (P : ℕ → Type 0) (b : Bool) (k : ℕ) → P k → Every P (only_if b k)
unfolding only_if
only_every P b k h = every_if P b (k ∷ []) [] (h, tt) tt

-- where the target of every symbol is a symbol
module _ (g : Graph) (target_below : (s : ℕ) → s < g.header.symbols → target_of g s < g.header.symbols) where
  abbrev Meant : Row → ℕ → Type 0
  Meant row j = Spare g row j → ⊥

  -- what a use shows
  module _ (s x : ℕ) (h : s < g.header.symbols) where
    used-meant : Every (Meant Used) (used_by g s x)
    unfolding used_by
    used-meant =
        every_if (Meant Used) (bypassed g s x) [] (s ∷ target_of g s ∷ []) tt ((λ l. omega (arith, l)), ((λ l. omega (arith, l, target_below s h)), tt))

    external-meant : Every (Meant External) (external_by g s x)
    unfolding external_by
    external-meant =
        let a = only_if (not (normal g (owner (symbol_of g s)))) s in
        let b = only_if (not (normal g (owner (symbol_of g (target_of g s))))) (target_of g s) in
        every_if (Meant External) (bypassed g s x) [] (a ++ b) tt
        (every_append (Meant External) a b (only_every (Meant External) _ s (λ l. omega (arith, l))) (only_every (Meant External) _ (target_of g s) (λ l. omega (arith, l, target_below s h))))

    json-meant : Every (Meant Json) (json_by g s x)
    unfolding json_by
    json-meant = every_if (Meant Json) (bypassed g s x) [] _ tt (only_every (Meant Json) _ (target_of g s) (λ l. omega (arith, l, target_below s h)))

    reason-meant : Every (Meant NamespaceReason) (reason_by g s x)
    unfolding reason_by
    reason-meant =
        let o = owner (symbol_of g (target_of g s)) in
        every_if (Meant NamespaceReason) (not (bypassed g s x) && is_namespace g (target_of g s)) _ []
        (every_if (Meant NamespaceReason) (flag 0 x || flag 1 x) ((8 * o) ∷ []) (only_if (flag 2 x) (8 * o + 1)) ((λ l. omega (arith, l)), tt)
        (only_every (Meant NamespaceReason) (flag 2 x) (8 * o + 1) (λ l. omega (arith, l)))) tt

  -- what a fact shows, by its kind and the row
  module_meant : (row : Row) (m : ModuleIdx) → Good g (Module m) → Every (Meant row) (shows g row (Module m))
  unfolding shows
  module_meant Modules m h = ((λ l. omega (arith, l, h.0)), tt)
  module_meant Statements m h = tt
  module_meant Used m h = tt
  module_meant External m h = tt
  module_meant Json m h = tt
  module_meant NamespaceReason m h = only_every (Meant NamespaceReason) (dev_namespace g m.0) (8 * m.0) (λ l. omega (arith, l))

  statement_meant : (row : Row) (m : ModuleIdx) (i : StmtIdx) → Good g (Statement m i) → Every (Meant row) (shows g row (Statement m i))
  unfolding shows
  statement_meant Modules m i h = tt
  statement_meant Statements m i h = ((λ none. none m.0 i.0 h.0 h.1 refl), tt)
  statement_meant Used m i h = tt
  statement_meant External m i h = tt
  statement_meant Json m i h = tt
  statement_meant NamespaceReason m i h = tt

  use_meant : (row : Row) (s : SymbolIdx) (x : Reason) → Good g (Use s x) → Every (Meant row) (shows g row (Use s x))
  unfolding shows
  use_meant Modules s x h = tt
  use_meant Statements s x h = tt
  use_meant Used s x h = used-meant s.0 x.bits h.0
  use_meant External s x h = external-meant s.0 x.bits h.0
  use_meant Json s x h = json-meant s.0 x.bits h.0
  use_meant NamespaceReason s x h = reason-meant s.0 x.bits h.0

  meant : (row : Row) (f : Fact) → Good g f → Every (Meant row) (shows g row f)
  meant row (Module m) h = module_meant row m h
  meant row (Statement m i) h = statement_meant row m i h
  meant row (Use s x) h = use_meant row s x h
  meant row (CheckedUse s x) h = rw (checked_none g row s x) tt
  meant row (Forward s) h = rw (forward_none g row s) tt
  meant row (Bailout m) h = rw (bailout_none g row m) tt

  pub spare_unshown : (row : Row) (f : Fact) (j : ℕ) → Good g f → Spare g row j → elem j (shows g row f) ≡ true → ⊥
  spare_unshown row f j h s e = every_elem (Meant row) (shows g row f) (meant row f h) j e s
