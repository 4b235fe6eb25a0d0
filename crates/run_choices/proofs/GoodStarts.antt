-- What entries, bailouts and the runtime stage start are good facts.
use Prim.Native.Nat.{ℕ, suc, ◌<◌, ◌≤◌}
use mathlib.Core.Path.{◌≡◌, refl, ap, ◌∙◌, sym}
use mathlib.Core.Bool.{Bool, true, false, false≢true}
use mathlib.Core.List.{List, [], ◌∷◌, ◌++◌, map}
use native.Mathlib.Decide.{dec_lt}
use native.Mathlib.Omega.{arith}
use borrow.Author.Tests.{eqb-true, ltb-true}
use lib.Dec.{eqb, ltb}
use lib.ListN.{length, get_or, get_or-eq_default}
use Rattle.determine_side_effects.specs.rows_crate.Walk.{Item, no_item}
use Rattle.determine_side_effects.specs.graph_format_crate.Format as format
use Rattle.determine_side_effects.specs.graph_tables_crate.Tables.{header_in, modules_in}
use Rattle.determine_side_effects.proofs.graph_tables_crate.Facts.{modules_long}
use Rattle.determine_side_effects.specs.graph_crate.Check.{Graph, graph_in, runtime_normal}
use Rattle.determine_side_effects.specs.graph_crate.Loaded.{Loaded}
use Rattle.determine_side_effects.proofs.graph_crate.WellFormed.{runtime_is_normal}
use Rattle.determine_side_effects.specs.graph_access_crate.Names.{kind, owner, declaring_statements, entry_references, resolved_exports, export_symbol, export_from_common_js, only}
use Rattle.determine_side_effects.specs.graph_access_crate.Words.{flag, tabulate, module_of, symbol_of, normal}
use Rattle.determine_side_effects.proofs.graph_access_crate.Indexes as index
use Rattle.determine_side_effects.specs.facts_crate.declared.Fact.{Fact}
use Rattle.determine_side_effects.specs.facts_crate.declared.Fact.TheVariants.{Module, Statement, Use, CheckedUse, Forward, Bailout}
use Rattle.determine_side_effects.specs.facts_crate.Facts.{module_fact, statement_fact, use_fact, checked_fact, bailout_fact, Good}
use Rattle.determine_side_effects.specs.Effects.{has_effects}
use Rattle.keep_record.specs.declared.Line.{Line}
use Rattle.entry_order.specs.Order.{those, module_of_entry}
use Rattle.entry_starts.specs.Starts.{declared, reference_starts, references_starts, module_starts, user_starts}
use Rattle.entry_starts.proofs.Referring.{module_none}
use Rattle.passes.specs.Bailouts.{export_starts, bailout_starts, bailouts_starts}
use Rattle.passes.specs.Helpers.{runtime_starts}
use Rattle.tree_shaking.specs.Rounds.{users_starts}
use Rattle.closed_choices.proofs.Every.{Every, every_append, every_map, every_tabulate}
use Rattle.closed_choices.proofs.GoodGives.{good_module, good_statement, good_use, good_checked, good_bailout}

-- those that pass a test are of the list
every_those : (P : ℕ → Type 0) (test : ℕ → Bool) (xs : List ℕ) → Every P xs → Every P (those test xs)
unfolding those
every_those P test [] a = tt
every_those P test (x ∷ xs) a = go (test x) (every_those P test xs a.1)
  where
    go : (b : Bool) → Every P (those test xs) → Every P (elim b [ true ↦ x ∷ those test xs | false ↦ those test xs ])
    go true r = (a.0, r)
    go false r = r

-- the image of a list
mapped : {A B : Type 0} (P : A → Type 0) (Q : B → Type 0) (f : A → B) → ((x : A) → P x → Q (f x)) → (xs : List A) → Every P xs → Every Q (map f xs)
mapped P Q f h [] a = tt
mapped P Q f h (x ∷ xs) a = (h x a.0, mapped P Q f h xs a.1)

module _ {numbers tables : List ℕ} (t : Loaded numbers tables) where
  abbrev g : Graph
  g = graph_in numbers

  -- a normal module is one of the modules, and the runtime is one
  normal_below : (m : ℕ) → normal g m ≡ true → m < (header_in numbers).modules
  unfolding normal kind module_of graph_in
  normal_below m e = go (dec_lt m (header_in numbers).modules)
    where
      go : Dec (m < (header_in numbers).modules) → m < (header_in numbers).modules
      go (yes l) = l
      go (no l) =
          let z : get_or (modules_in numbers) m no_item ≡ no_item = get_or-eq_default (modules_in numbers) no_item (omega (arith, modules_long numbers _ t.of_modules)) in
          let k : ◌≡◌ {A = ℕ} 0 1 = ap (λ (x : Item). get_or x.head 0 0) (sym z) ∙ eqb-true (get_or (get_or (modules_in numbers) m no_item).head 0 0) 1 e in
          absurd (omega (arith, k))

  -- behind the modules nothing is started
  pub none_behind : (m : ℕ) → (header_in numbers).modules ≤ m → module_starts g m ≡ []
  none_behind m h = go (normal g m) refl
    where
      go : (b : Bool) → normal g m ≡ b → module_starts g m ≡ []
      go true e = absurd (omega (arith, h, normal_below m e))
      go false e = module_none g m e

  runtime_good : Good g (module_fact g.header.runtime)
  unfolding runtime_normal normal kind module_of graph_in format.kind_of
  runtime_good = go (ltb (header_in numbers).runtime (header_in numbers).modules) refl (runtime_is_normal numbers t.accepted)
    where
      go : (b : Bool) → ltb (header_in numbers).runtime (header_in numbers).modules ≡ b
          → elim b [ true ↦ eqb (get_or (get_or (modules_in numbers) (header_in numbers).runtime no_item).head 0 0) 1 | false ↦ false ] ≡ true
          → Good g (module_fact (header_in numbers).runtime)
      go true l n = (ltb-true _ _ l, n)
      go false l n = absurd (false≢true n)

  -- entries
  declared_good : (s : ℕ) → s < (header_in numbers).symbols → Every (Good g) (declared g s)
  unfolding declared
  declared_good s h =
      every_map (Good g) (λ row. statement_fact (owner (symbol_of g s)) (only row)) [] (declaring_statements (symbol_of g s))
      (λ k u. good_statement numbers (owner (symbol_of g s)) (only (get_or (declaring_statements (symbol_of g s)) k [])) (index.owner_below t s h) (index.declared_below t s k h u))

  reference_good : (s : ℕ) → s < (header_in numbers).symbols → Every (Good g) (reference_starts g s)
  unfolding reference_starts
  reference_good s h = go (normal g (owner (symbol_of g s)))
    where
      go : (b : Bool) → Every (Good g) (elim b [ true ↦ declared g s ++ checked_fact s 2 ∷ [] | false ↦ [] ])
      go true = every_append (Good g) (declared g s) (checked_fact s 2 ∷ []) (declared_good s h) (good_checked numbers s 2 h (omega arith) (omega arith), tt)
      go false = tt

  references_good : (rows : List (List ℕ)) → ((k : ℕ) → k < length rows → only (get_or rows k []) < (header_in numbers).symbols) → Every (Good g) (references_starts g rows)
  unfolding references_starts
  references_good [] h = tt
  references_good (row ∷ rows) h =
      every_append (Good g) (reference_starts g (only row)) (references_starts g rows) (reference_good (only row) (h 0 (omega arith))) (references_good rows (λ k u. h (suc k) (omega (arith, u))))

  pub module_starts_good : (m : ℕ) → Every (Good g) (module_starts g m)
  unfolding module_starts
  module_starts_good m = go (normal g m) refl
    where
      go : (b : Bool) → normal g m ≡ b → Every (Good g) (elim b [ true ↦ references_starts g (entry_references (module_of g m)) ++ module_fact m ∷ [] | false ↦ [] ])
      go true e =
          every_append (Good g) (references_starts g (entry_references (module_of g m))) (module_fact m ∷ [])
          (references_good (entry_references (module_of g m)) (λ k u. index.entry_reference_below t m k (normal_below m e) u)) (good_module numbers m (normal_below m e) e, tt)
      go false e = tt

  pub user_starts_good : (m : ℕ) → Every (Good g) (user_starts g m)
  unfolding user_starts
  user_starts_good m = go (normal g m) refl
    where
      go : (b : Bool) → normal g m ≡ b → Every (Good g) (elim b [ true ↦ bailout_fact m ∷ module_starts g m | false ↦ [] ])
      go true e = (good_bailout numbers m (normal_below m e), module_starts_good m)
      go false e = tt

  pub users_starts_good : (es : List ℕ) → Every (Good g) (users_starts g es)
  unfolding users_starts
  users_starts_good [] = tt
  users_starts_good (e ∷ es) = every_append (Good g) (user_starts g (module_of_entry g e)) (users_starts g es) (user_starts_good (module_of_entry g e)) (users_starts_good es)

  -- bailouts
  exports_good : (rows : List (List ℕ)) → ((k : ℕ) → k < length rows → export_symbol (get_or rows k []) < (header_in numbers).symbols) → Every (Good g) (export_starts rows)
  unfolding export_starts
  exports_good [] h = tt
  exports_good (row ∷ rows) h = go (eqb (export_from_common_js row) 1) (exports_good rows (λ k u. h (suc k) (omega (arith, u))))
    where
      go : (b : Bool) → Every (Good g) (export_starts rows) → Every (Good g) (elim b [ true ↦ checked_fact (export_symbol row) 1 ∷ export_starts rows | false ↦ export_starts rows ])
      go true r = (good_checked numbers (export_symbol row) 1 (h 0 (omega arith)) (omega arith) (omega arith), r)
      go false r = r

  bailout_good : (f : Fact) → Good g f → Every (Good g) (bailout_starts g f)
  unfolding bailout_starts graph_in
  bailout_good (Module m) h = tt
  bailout_good (Statement m i) h = tt
  bailout_good (Use s x) h = tt
  bailout_good (CheckedUse s x) h = tt
  bailout_good (Forward s) h = tt
  bailout_good (Bailout m) h = exports_good (resolved_exports (module_of g m.0)) (λ k u. index.resolved_export_below t m.0 k h u)

  pub bailouts_good : (ls : List Line) → Every (λ l. Good g l.fact) ls → Every (Good g) (bailouts_starts g ls)
  unfolding bailouts_starts
  bailouts_good [] a = tt
  bailouts_good (l ∷ ls) a = every_append (Good g) (bailout_starts g l.fact) (bailouts_starts g ls) (bailout_good l.fact a.0) (bailouts_good ls a.1)

  -- the runtime stage
  helpers_good : (test : ℕ → Bool) → Every (Good g) (map (λ h. use_fact (only (get_or g.helpers h [])) 1) (those test (tabulate (λ h. h) 0 g.header.helpers)))
  unfolding graph_in
  helpers_good test =
      mapped (λ h. h < (header_in numbers).helpers) (Good g) (λ h. use_fact (only (get_or g.helpers h [])) 1)
      (λ h l. good_use numbers (only (get_or g.helpers h [])) 1 (index.helper_symbol_below t h l) (omega arith) (omega arith))
      (those test (tabulate (λ h. h) 0 (header_in numbers).helpers))
      (every_those (λ h. h < (header_in numbers).helpers) test (tabulate (λ h. h) 0 (header_in numbers).helpers)
      (every_tabulate (λ h. h < (header_in numbers).helpers) (λ h. h) 0 (header_in numbers).helpers (λ k l u. omega (arith, u))))

  pub runtime_starts_good : (v : List ℕ) (word : ℕ) → Every (Good g) (runtime_starts g v word)
  unfolding runtime_starts
  runtime_starts_good v word = go (eqb word 0) (has_effects v g.header.runtime)
    where
      go : (b c : Bool) → Every (Good g) (elim b [ true ↦ elim c [ true ↦ module_fact g.header.runtime ∷ [] | false ↦ [] ] | false ↦ map (λ h. use_fact (only (get_or g.helpers h [])) 1) (those (λ h. flag h word) (tabulate (λ h. h) 0 g.header.helpers)) ])
      go true true = (runtime_good, tt)
      go true false = tt
      go false c = helpers_good (λ h. flag h word)
