-- What follows from a good fact is good: K2 to K14 lead to facts of the graph.
use Prim.Native.Nat.{ℕ, zero, suc, ◌+◌, ◌-◌, ◌<◌, ◌≤◌}
use mathlib.Core.Path.{◌≡◌, refl}
use mathlib.Core.Bool.{Bool, true, false, ◌&&◌, ◌||◌, not, false≢true}
use mathlib.Core.List.{List, [], ◌∷◌, map}
use native.Mathlib.Omega.{arith}
use borrow.Author.Tests.{eqb-true, eqb-false, ltb-true}
use lib.Dec.{eqb, ltb}
use lib.ListN.{length, get_or, drop, length-drop}
use lib.Seq.{get_or-drop}
use Rattle.determine_side_effects.specs.graph_tables_crate.Tables.{header_in}
use Rattle.determine_side_effects.specs.graph_crate.Check.{Graph, graph_in}
use Rattle.determine_side_effects.specs.graph_access_crate.Names.{module_type, wrap, wrapper, import_records, dependencies, named_imports, common_js_export_symbols, resolved_exports, only, import_record_target, export_name, export_symbol, owner, alias_namespace, alias_name, export_chain, declaring_statements, written_property_statements, statement_bits, statement_import_records, references, reference_kind, reference_symbol, reference_flag, depended_on, namespace_symbol, namespace_module, common_js_namespaces}
use Rattle.determine_side_effects.proofs.graph_access_crate.StatementRanges.{ReferenceGood}
use Rattle.determine_side_effects.specs.facts_crate.declared.Fact.{Fact}
use Rattle.determine_side_effects.specs.facts_crate.declared.Fact.TheVariants.{Module, Statement, Use, CheckedUse, Forward, Bailout}
use Rattle.determine_side_effects.specs.facts_crate.Facts.{module_fact, statement_fact, use_fact, checked_fact, forward_fact, bailout_fact, Good}
use Rattle.determine_side_effects.specs.graph_access_crate.Words.{flag, module_of, symbol_of, root_of, statement_list, statement_of, normal, option}
use Rattle.determine_side_effects.specs.graph_crate.Loaded.{Loaded}
use Rattle.determine_side_effects.proofs.graph_access_crate.Indexes as index
use Rattle.determine_side_effects.specs.Effects.{has_effects}
use Rattle.determine_side_effects.proofs.Lists.{both}
use Rattle.on_demand.specs.Demand.{gated, claims, claimed, body_of}
use Rattle.linking_metadata.specs.Namespaces.{namespace_in, common_js_of, is_namespace, target_of}
use Rattle.keep_rules.specs.declared.Candidate.{Candidate}
use Rattle.keep_rules.specs.declared.Candidate.TheVariants.{Gives, Nothing}
use Rattle.keep_rules.specs.Prepared.{GoodCandidate}
use Rattle.keep_rules.specs.Rules.{Segment, when, has_eval, dev_namespace, swept, sweep_candidate, dependency, dependency_candidate, eval_candidates, eval_candidate, export_symbol_candidate, dev_candidate, module_segments, import_record_of, bails_out, import_record_candidate, reason_of, forwards, forward_candidate, plain_candidate, resolved_candidate, reference_candidates, reference_candidate, reference_segment, statement_segments, bailout_candidate, default_alias, checked_candidate, demanded, demand_candidates, demand_candidate, export_of, export_candidate, alias_candidate, needs_wrapper, wrapper_candidates, wrapper_candidate, declaration_candidates, declaration_candidate, write_candidates, write_candidate, use_segments, segments_of, quiet_runtime, bypassed, Given, picked, given_by, gives}
use Rattle.keep_rules.proofs.Picks.{gives_good, nothing_good}
use Rattle.answer_rows.proofs.InRow.{target_below}
use Rattle.closed_choices.proofs.Every.{Every, every_append}

good_pick : (g : Graph) (f : Fact) → Good g f → GoodCandidate g (Gives f)
good_pick g f h = gives_good {g = g} {f = f} h

pub when_good : (g : Graph) (b : Bool) (f : Fact) → (b ≡ true → Good g f) → GoodCandidate g (when b f)
unfolding when
when_good g true f h = good_pick g f (h refl)
when_good g false f h = nothing_good

-- a segment whose places give good facts
abbrev pub GoodSegment : Graph → Segment → Type 0
GoodSegment g s = (i : ℕ) → i < s.count → GoodCandidate g (s.candidate i)

abbrev pub GoodSegments : Graph → List Segment → Type 0
GoodSegments g ss = Every (GoodSegment g) ss

abbrev pub AllGood : Graph → List Given → Type 0
AllGood g xs = Every (λ x. Good g x.fact) xs

pub picked_good : (g : Graph) (r : ℕ) (pick : ℕ → Candidate) (i n : ℕ) → ((j : ℕ) → i ≤ j → j < i + n → GoodCandidate g (pick j)) → AllGood g (picked r pick i n)
unfolding picked
picked_good g r pick i zero h = tt
picked_good g r pick i (suc n) h = go (pick i) refl (picked_good g r pick (i + 1) n (λ j l u. h j (omega (arith, l)) (omega (arith, u))))
  where
    go : (p : Candidate) → pick i ≡ p → AllGood g (picked r pick (i + 1) n)
        → AllGood g (elim p [ Gives f ↦ record { rule = r; fact = f } ∷ picked r pick (i + 1) n | Nothing ↦ picked r pick (i + 1) n ])
    go (Gives f) e rest = ((h i (omega arith) (omega arith)).known f e, rest)
    go Nothing e rest = rest

pub given_good : (g : Graph) (ss : List Segment) → GoodSegments g ss → AllGood g (given_by ss 0)
unfolding given_by
given_good g [] h = tt
given_good g (s ∷ ss) h =
    every_append (λ x. Good g x.fact) (picked s.rule s.candidate 0 (s.count - 0)) (given_by ss 0) (picked_good g s.rule s.candidate 0 (s.count - 0) (λ j l u. h.0 j (omega (arith, u)))) (given_good g ss h.1)

-- the facts that are good, by their bounds
module _ (numbers : List ℕ) where
  pub good_module : (m : ℕ) → m < (header_in numbers).modules → normal (graph_in numbers) m ≡ true → Good (graph_in numbers) (module_fact m)
  unfolding graph_in
  good_module m h n = (h, n)

  pub good_statement : (m i : ℕ) → m < (header_in numbers).modules → i < length (statement_list (graph_in numbers) m) → Good (graph_in numbers) (statement_fact m i)
  unfolding graph_in
  good_statement m i h l = (h, l)

  pub good_use : (s x : ℕ) → s < (header_in numbers).symbols → 0 < x → x < 32 → Good (graph_in numbers) (use_fact s x)
  unfolding graph_in
  good_use s x h a b = (h, a, b)

  pub good_checked : (s x : ℕ) → s < (header_in numbers).symbols → 0 < x → x < 32 → Good (graph_in numbers) (checked_fact s x)
  unfolding graph_in
  good_checked s x h a b = (h, a, b)

  pub good_forward : (s : ℕ) → s < (header_in numbers).symbols → Good (graph_in numbers) (forward_fact s)
  unfolding graph_in
  good_forward s h = h

  pub good_bailout : (m : ℕ) → m < (header_in numbers).modules → Good (graph_in numbers) (bailout_fact m)
  unfolding graph_in
  good_bailout m h = h

module _ {numbers tables : List ℕ} (t : Loaded numbers tables) where
  abbrev g : Graph
  g = graph_in numbers

  -- K2 to K6
  module _ (v : List ℕ) (m : ℕ) (h : m < (header_in numbers).modules) (n : normal (graph_in numbers) m ≡ true) where
    sweep-good : (i : ℕ) → i < length (statement_list g m) → GoodCandidate g (sweep_candidate g v m i)
    unfolding sweep_candidate
    sweep-good i l = when_good g (swept g v m i) (statement_fact m i) (λ e. good_statement numbers m i h l)

    dependency-good : (k : ℕ) → k < length (dependencies (module_of g m)) → GoodCandidate g (dependency_candidate g v m k)
    unfolding dependency_candidate dependency
    dependency-good k l =
        let d = only (get_or (dependencies (module_of g m)) k []) in
        when_good g (normal g d && (not (option g 0) || has_effects v d)) (module_fact d)
        (λ e. good_module numbers d (index.dependency_below t m k h l) (both (normal g d) (not (option g 0) || has_effects v d) e).0)

    eval_in : (k : ℕ) → k < eval_candidates g m → k < length (named_imports (module_of g m))
    unfolding eval_candidates
    eval_in k l = go (has_eval g m && ltb (module_type (module_of g m)) 2) l
      where
        go : (b : Bool) → k < elim b [ true ↦ length (named_imports (module_of g m)) | false ↦ 0 ] → k < length (named_imports (module_of g m))
        go true l = l
        go false l = absurd (omega (arith, l))

    eval-good : (k : ℕ) → k < eval_candidates g m → GoodCandidate g (eval_candidate g m k)
    unfolding eval_candidate
    eval-good k l = good_pick g (checked_fact (only (get_or (named_imports (module_of g m)) k [])) 1) (good_checked numbers (only (get_or (named_imports (module_of g m)) k [])) 1 (index.named_import_below t m k h (eval_in k l)) (omega arith) (omega arith))

    export-symbol-good : (k : ℕ) → k < length (common_js_export_symbols (module_of g m)) → GoodCandidate g (export_symbol_candidate g m k)
    unfolding export_symbol_candidate
    export-symbol-good k l = good_pick g (checked_fact (only (get_or (common_js_export_symbols (module_of g m)) k [])) 1) (good_checked numbers (only (get_or (common_js_export_symbols (module_of g m)) k [])) 1 (index.export_symbol_below t m k h l) (omega arith) (omega arith))

    dev-good : (k : ℕ) → GoodCandidate g (dev_candidate g m k)
    unfolding dev_candidate
    dev-good k = when_good g (dev_namespace g m) (statement_fact m 0) (λ e. good_statement numbers m 0 h (index.statements_of_normal t m h n))

    module_good : GoodSegments g (module_segments g v m)
    unfolding module_segments
    module_good = (sweep-good, (dependency-good, (eval-good, (export-symbol-good, ((λ k l. dev-good k), tt)))))

  -- K7 and K8
  module _ (v : List ℕ) (m i : ℕ) (h : m < (header_in numbers).modules) (l : i < length (statement_list (graph_in numbers) m)) where
    bails-resolved : (row : List ℕ) → bails_out g v m row ≡ true → 0 < import_record_target row
    unfolding bails_out
    bails-resolved row e = go (eqb (import_record_target row) 0) refl
      where
        go : (b : Bool) → eqb (import_record_target row) 0 ≡ b → 0 < import_record_target row
        go true q = absurd (false≢true (rw (q, bails_out) at e))
        go false q = omega (arith, eqb-false (import_record_target row) 0 q)

    record-good : (k : ℕ) → k < length (statement_import_records (statement_of g m i)) → GoodCandidate g (import_record_candidate g v m i k)
    unfolding import_record_candidate import_record_of
    record-good k u =
        let e = only (get_or (statement_import_records (statement_of g m i)) k []) in
        let row = get_or (import_records (module_of g m)) e [] in
        when_good g (bails_out g v m row) (bailout_fact (import_record_target row - 1))
        (λ q. good_bailout numbers (import_record_target row - 1) (omega (arith, bails-resolved row q, index.record_target_below t m e h (index.statement_record_below t m i k h l u))))

    reason_small : (0 < reason_of g m i) × (reason_of g m i < 32)
    unfolding reason_of
    reason_small = go (flag 3 (statement_bits (statement_of g m i))) (eqb (module_type (module_of g m)) 2)
      where
        go : (a b : Bool) → (0 < elim a [ true ↦ 4 | false ↦ 1 ] + elim b [ true ↦ 8 | false ↦ 0 ]) × (elim a [ true ↦ 4 | false ↦ 1 ] + elim b [ true ↦ 8 | false ↦ 0 ] < 32)
        go true true = (omega arith, omega arith)
        go true false = (omega arith, omega arith)
        go false true = (omega arith, omega arith)
        go false false = (omega arith, omega arith)

  forward_good : (s k : ℕ) → s < (header_in numbers).symbols → k < forwards g s → GoodCandidate g (forward_candidate g s k)
  unfolding forward_candidate forwards
  forward_good s k h u = go (eqb k 0) refl
    where
      go : (b : Bool) → eqb k 0 ≡ b → GoodCandidate g (elim b [ true ↦ Gives (forward_fact s) | false ↦ Gives (forward_fact (only (get_or (export_chain (symbol_of g s)) (k - 1) []))) ])
      go true q = good_pick g (forward_fact s) (good_forward numbers s h)
      go false q =
          good_pick g (forward_fact (only (get_or (export_chain (symbol_of g s)) (k - 1) [])))
          (good_forward numbers (only (get_or (export_chain (symbol_of g s)) (k - 1) [])) (index.chain_below t s (k - 1) h (omega (arith, u, eqb-false k 0 q))))

  plain_good : (s x k : ℕ) → s < (header_in numbers).symbols → 0 < x → x < 32 → GoodCandidate g (plain_candidate g s x k)
  unfolding plain_candidate
  plain_good s x k h a b = go (ltb k (forwards g s)) refl
    where
      go : (c : Bool) → ltb k (forwards g s) ≡ c → GoodCandidate g (elim c [ true ↦ forward_candidate g s k | false ↦ Gives (checked_fact s x) ])
      go true q = forward_good s k h (ltb-true k (forwards g s) q)
      go false q = good_pick g (checked_fact s x) (good_checked numbers s x h a b)

  resolved_good : (row : List ℕ) (x k : ℕ) → ReferenceGood (header_in numbers).symbols row → reference_kind row ≡ 2 → 0 < x → x < 32 → GoodCandidate g (resolved_candidate row x k)
  unfolding resolved_candidate depended_on reference_kind reference_symbol reference_flag
  resolved_good row x k r e a b = go (ltb k (length (depended_on row))) refl
    where
      last : (c : Bool) → GoodCandidate g (elim c [ true ↦ Gives (use_fact (reference_symbol row) x) | false ↦ Gives (checked_fact (reference_symbol row) x) ])
      last true = good_pick g (use_fact (reference_symbol row) x) (good_use numbers (reference_symbol row) x (r.resolved e).0 a b)
      last false = good_pick g (checked_fact (reference_symbol row) x) (good_checked numbers (reference_symbol row) x (r.resolved e).0 a b)

      inside : k < length (drop 3 row) → 3 + k < length row
      inside u = omega (arith, u, length-drop 3 row)

      go : (c : Bool) → ltb k (length (depended_on row)) ≡ c
          → GoodCandidate g (elim c [ true ↦ Gives (forward_fact (get_or (depended_on row) k 0)) | false ↦ elim (eqb (reference_flag row) 1) [ true ↦ Gives (use_fact (reference_symbol row) x) | false ↦ Gives (checked_fact (reference_symbol row) x) ] ])
      go true q =
          good_pick g (forward_fact (get_or (depended_on row) k 0))
          (good_forward numbers (get_or (depended_on row) k 0) (rw (get_or-drop 3 row k 0) (r.depends e k (inside (ltb-true k (length (drop 3 row)) q)))))
      go false q = last (eqb (reference_flag row) 1)

  -- kinds 0 and 3 have a symbol; kind 1 has no places
  plain_symbol : (row : List ℕ) (k : ℕ) → ReferenceGood (header_in numbers).symbols row → eqb (reference_kind row) 2 ≡ false → k < reference_candidates g row → reference_symbol row < (header_in numbers).symbols
  unfolding reference_kind reference_symbol reference_candidates
  plain_symbol row k r q u = by_kind (eqb (reference_kind row) 0) refl (eqb (reference_kind row) 1) refl
    where
      by_kind : (c : Bool) → eqb (reference_kind row) 0 ≡ c → (d : Bool) → eqb (reference_kind row) 1 ≡ d → reference_symbol row < (header_in numbers).symbols
      by_kind true p d e = r.symbol (eqb-true (reference_kind row) 0 p)
      by_kind false p true e = let w : k < 0 = rw (p, e, reference_candidates) at u in absurd (omega (arith, w))
      by_kind false p false e = (r.member (omega (arith, r.few, eqb-false (reference_kind row) 0 p, eqb-false (reference_kind row) 1 e, eqb-false (reference_kind row) 2 q))).0

  reference_good : (x : ℕ) (row : List ℕ) (k : ℕ) → ReferenceGood (header_in numbers).symbols row → 0 < x → x < 32 → k < reference_candidates g row → GoodCandidate g (reference_candidate g x row k)
  unfolding reference_candidate
  reference_good x row k r a b u = go (eqb (reference_kind row) 2) refl
    where
      go : (c : Bool) → eqb (reference_kind row) 2 ≡ c → GoodCandidate g (elim c [ true ↦ resolved_candidate row x k | false ↦ plain_candidate g (reference_symbol row) x k ])
      go true q = resolved_good row x k r (eqb-true (reference_kind row) 2 q) a b
      go false q = plain_good (reference_symbol row) x k (plain_symbol row k r q u) a b

  references_good : (x : ℕ) (rows : List (List ℕ)) → 0 < x → x < 32 → ((r : ℕ) → r < length rows → ReferenceGood (header_in numbers).symbols (get_or rows r [])) → GoodSegments g (map (reference_segment g x) rows)
  unfolding reference_segment
  references_good x [] a b h = tt
  references_good x (row ∷ rows) a b h = ((λ k u. reference_good x row k (h 0 (omega arith)) a b u), references_good x rows a b (λ r u. h (suc r) (omega (arith, u))))

  statement_good : (v : List ℕ) (m i : ℕ) → m < (header_in numbers).modules → i < length (statement_list g m) → GoodSegments g (statement_segments g v m i)
  unfolding statement_segments
  statement_good v m i h l =
      (record-good v m i h l, references_good (reason_of g m i) (references (statement_of g m i)) (reason_small v m i h l).0 (reason_small v m i h l).1 (λ r u. index.reference_good_here t m i r h l u))

  -- K9
  space_fits : (s : ℕ) (rows : List (List ℕ)) (none : ℕ) → none ≤ (header_in numbers).modules → ((k : ℕ) → k < length rows → namespace_module (get_or rows k []) < (header_in numbers).modules)
      → namespace_in s none rows ≤ (header_in numbers).modules
  unfolding namespace_in
  space_fits s [] none h r = h
  space_fits s (row ∷ rows) none h r = space_fits s rows (elim (eqb (namespace_symbol row) s) [ true ↦ namespace_module row + 1 | false ↦ none ]) (go (eqb (namespace_symbol row) s)) (λ k u. r (suc k) (omega (arith, u)))
    where
      go : (b : Bool) → elim b [ true ↦ namespace_module row + 1 | false ↦ none ] ≤ (header_in numbers).modules
      go true = omega (arith, r 0 (omega arith))
      go false = h

  namespace_fits : (s : ℕ) → s < (header_in numbers).symbols → common_js_of g s ≤ (header_in numbers).modules
  unfolding common_js_of
  namespace_fits s h = space_fits s (common_js_namespaces (module_of g (owner (symbol_of g s)))) 0 (omega arith) (λ k u. (index.namespace_row_below t (owner (symbol_of g s)) k (index.owner_below t s h) u).1)

  bailout_good : (n : ℕ) → n ≤ (header_in numbers).modules → GoodCandidate g (bailout_candidate n)
  unfolding bailout_candidate
  bailout_good n h = go (eqb n 0) refl
    where
      go : (b : Bool) → eqb n 0 ≡ b → GoodCandidate g (elim b [ true ↦ Nothing | false ↦ Gives (bailout_fact (n - 1)) ])
      go true q = nothing_good
      go false q = good_pick g (bailout_fact (n - 1)) (good_bailout numbers (n - 1) (omega (arith, h, eqb-false n 0 q)))

  alias_inside : (s : ℕ) → s < (header_in numbers).symbols → eqb (alias_namespace (symbol_of g s)) 0 ≡ false → alias_namespace (symbol_of g s) - 1 < (header_in numbers).symbols
  alias_inside s h q = omega (arith, index.alias_below t s h, eqb-false (alias_namespace (symbol_of g s)) 0 q)

  default_good : (root : ℕ) → root < (header_in numbers).symbols → GoodCandidate g (default_alias g root)
  unfolding default_alias
  default_good root h = go (eqb (alias_namespace (symbol_of g root)) 0) refl
    where
      named : eqb (alias_namespace (symbol_of g root)) 0 ≡ false → (b : Bool) → GoodCandidate g (elim b [ true ↦ bailout_candidate (common_js_of g (alias_namespace (symbol_of g root) - 1)) | false ↦ Nothing ])
      named q true = bailout_good (common_js_of g (alias_namespace (symbol_of g root) - 1)) (namespace_fits (alias_namespace (symbol_of g root) - 1) (alias_inside root h q))
      named q false = nothing_good

      go : (b : Bool) → eqb (alias_namespace (symbol_of g root)) 0 ≡ b
          → GoodCandidate g (elim b [ true ↦ Nothing | false ↦ elim (eqb (alias_name (symbol_of g root)) 0) [ true ↦ bailout_candidate (common_js_of g (alias_namespace (symbol_of g root) - 1)) | false ↦ Nothing ] ])
      go true q = nothing_good
      go false q = named q (eqb (alias_name (symbol_of g root)) 0)

  checked_good : (s x k : ℕ) → s < (header_in numbers).symbols → 0 < x → x < 32 → GoodCandidate g (checked_candidate g s x k)
  unfolding checked_candidate
  checked_good s x k h a b = go (eqb k 0) (eqb k 1) (eqb k 2)
    where
      root : root_of g.symbols s < (header_in numbers).symbols
      root = index.root_below t s h

      go : (c d e : Bool)
          → GoodCandidate g (elim c [ true ↦ Gives (use_fact s x) | false ↦ elim d [ true ↦ bailout_candidate (common_js_of g (root_of g.symbols s)) | false ↦ elim e [ true ↦ when (is_namespace g (root_of g.symbols s)) (bailout_fact (owner (symbol_of g (root_of g.symbols s)))) | false ↦ default_alias g (root_of g.symbols s) ] ] ])
      go true d e = good_pick g (use_fact s x) (good_use numbers s x h a b)
      go false true e = bailout_good (common_js_of g (root_of g.symbols s)) (namespace_fits (root_of g.symbols s) root)
      go false false true = when_good g (is_namespace g (root_of g.symbols s)) (bailout_fact (owner (symbol_of g (root_of g.symbols s)))) (λ q. good_bailout numbers (owner (symbol_of g (root_of g.symbols s))) (index.owner_below t (root_of g.symbols s) root))
      go false false false = default_good (root_of g.symbols s) root

  -- K10
  claimed_fits : (v : List ℕ) (s k : ℕ) → claimed g v s k ≤ k
  unfolding claimed
  claimed_fits v s zero = omega arith
  claimed_fits v s (suc k) = go (claims g v k s) (claimed_fits v s k)
    where
      go : (b : Bool) → claimed g v s k ≤ k → elim b [ true ↦ suc k | false ↦ claimed g v s k ] ≤ suc k
      go true i = omega arith
      go false i = omega (arith, i)

  body_fits : (v : List ℕ) (s : ℕ) → body_of g v s ≤ (header_in numbers).modules
  unfolding body_of graph_in
  body_fits v s = go (option g 0)
    where
      go : (b : Bool) → elim b [ true ↦ claimed g v s (header_in numbers).modules | false ↦ 0 ] ≤ (header_in numbers).modules
      go true = claimed_fits v s (header_in numbers).modules
      go false = omega arith

  demanded_fits : (v : List ℕ) (s x : ℕ) → demanded g v s x ≤ (header_in numbers).modules
  unfolding demanded
  demanded_fits v s x = go (flag 4 x)
    where
      go : (b : Bool) → elim b [ true ↦ 0 | false ↦ body_of g v (root_of g.symbols s) ] ≤ (header_in numbers).modules
      go true = omega arith
      go false = body_fits v (root_of g.symbols s)

  demand_good : (body i : ℕ) → body ≤ (header_in numbers).modules → i < demand_candidates g body → GoodCandidate g (demand_candidate g body i)
  unfolding demand_candidate demand_candidates
  demand_good body i h u = go (eqb body 0) refl
    where
      go : (b : Bool) → eqb body 0 ≡ b → GoodCandidate g (when (gated g (body - 1) i) (statement_fact (body - 1) i))
      go true q = let w : i < 0 = rw (q, demand_candidates) at u in absurd (omega (arith, w))
      go false q =
          let w : i < length (statement_list g (body - 1)) = rw (q, demand_candidates) at u in
          when_good g (gated g (body - 1) i) (statement_fact (body - 1) i) (λ e. good_statement numbers (body - 1) i (omega (arith, h, eqb-false body 0 q)) w)

  -- K11
  export_fits : (name : ℕ) (rows : List (List ℕ)) → ((k : ℕ) → k < length rows → export_symbol (get_or rows k []) < (header_in numbers).symbols) → export_of name rows ≤ (header_in numbers).symbols
  unfolding export_of
  export_fits name [] h = omega arith
  export_fits name (row ∷ rows) h = go (eqb (export_name row) name) (export_fits name rows (λ k u. h (suc k) (omega (arith, u))))
    where
      go : (b : Bool) → export_of name rows ≤ (header_in numbers).symbols → elim b [ true ↦ export_symbol row + 1 | false ↦ export_of name rows ] ≤ (header_in numbers).symbols
      go true i = omega (arith, h 0 (omega arith))
      go false i = i

  exported_good : (name n : ℕ) → n ≤ (header_in numbers).modules → GoodCandidate g (export_candidate g name n)
  unfolding export_candidate
  exported_good name n h = go (eqb n 0) refl (normal g (n - 1)) (eqb name 0) (eqb (export_of name (resolved_exports (module_of g (n - 1)))) 0) refl
    where
      go : (a : Bool) → eqb n 0 ≡ a → (b c d : Bool) → eqb (export_of name (resolved_exports (module_of g (n - 1)))) 0 ≡ d
          → GoodCandidate g (elim a [ true ↦ Nothing | false ↦ elim b [ true ↦ elim c [ true ↦ Nothing | false ↦ elim d [ true ↦ Nothing | false ↦ Gives (use_fact (export_of name (resolved_exports (module_of g (n - 1))) - 1) 1) ] ] | false ↦ Nothing ] ])
      go true p b c d q = nothing_good
      go false p false c d q = nothing_good
      go false p true true d q = nothing_good
      go false p true false true q = nothing_good
      go false p true false false q =
          good_pick g (use_fact (export_of name (resolved_exports (module_of g (n - 1))) - 1) 1)
          (good_use numbers (export_of name (resolved_exports (module_of g (n - 1))) - 1) 1
          (omega (arith, eqb-false (export_of name (resolved_exports (module_of g (n - 1)))) 0 q, export_fits name (resolved_exports (module_of g (n - 1))) (λ k u. index.resolved_export_below t (n - 1) k (omega (arith, h, eqb-false n 0 p)) u)))
          (omega arith) (omega arith))

  alias_good : (root k : ℕ) → root < (header_in numbers).symbols → GoodCandidate g (alias_candidate g root k)
  unfolding alias_candidate
  alias_good root k h = go (eqb (alias_namespace (symbol_of g root)) 0) refl
    where
      go : (b : Bool) → eqb (alias_namespace (symbol_of g root)) 0 ≡ b
          → GoodCandidate g (elim b [ true ↦ Nothing | false ↦ export_candidate g (alias_name (symbol_of g root)) (common_js_of g (alias_namespace (symbol_of g root) - 1)) ])
      go true q = nothing_good
      go false q = exported_good (alias_name (symbol_of g root)) (common_js_of g (alias_namespace (symbol_of g root) - 1)) (namespace_fits (alias_namespace (symbol_of g root) - 1) (alias_inside root h q))

  -- K12, K13, K14
  wrapper_there : (o : ℕ) → needs_wrapper g o ≡ true → 0 < wrapper (module_of g (owner (symbol_of g o)))
  unfolding needs_wrapper
  wrapper_there o e =
      let n = normal g (owner (symbol_of g o)) in
      let a = eqb (wrap (module_of g (owner (symbol_of g o)))) 2 in
      let b = not (eqb (wrapper (module_of g (owner (symbol_of g o)))) 0) in
      let c = not (eqb (wrapper (module_of g (owner (symbol_of g o)))) (o + 1)) in
      go (eqb (wrapper (module_of g (owner (symbol_of g o)))) 0) refl (both b c (both a (b && c) (both n (a && (b && c)) e).1).1).0
    where
      go : (b : Bool) → eqb (wrapper (module_of g (owner (symbol_of g o)))) 0 ≡ b → not b ≡ true → 0 < wrapper (module_of g (owner (symbol_of g o)))
      go true q i = absurd (false≢true i)
      go false q i = omega (arith, eqb-false (wrapper (module_of g (owner (symbol_of g o)))) 0 q)

  wrapper_good : (s o k : ℕ) → s < (header_in numbers).symbols → o < (header_in numbers).symbols → k < wrapper_candidates g s o → GoodCandidate g (wrapper_candidate g s o k)
  unfolding wrapper_candidate wrapper_candidates
  wrapper_good s o k h l u = go (needs_wrapper g o) refl (eqb k 0) refl
    where
      go : (b : Bool) → needs_wrapper g o ≡ b → (c : Bool) → eqb k 0 ≡ c → GoodCandidate g (elim c [ true ↦ Gives (use_fact (wrapper (module_of g (owner (symbol_of g o))) - 1) 1) | false ↦ forward_candidate g s (k - 1) ])
      go false p c q = let w : k < 0 = rw (p, wrapper_candidates) at u in absurd (omega (arith, w))
      go true p true q =
          good_pick g (use_fact (wrapper (module_of g (owner (symbol_of g o))) - 1) 1)
          (good_use numbers (wrapper (module_of g (owner (symbol_of g o))) - 1) 1 (omega (arith, wrapper_there o p, index.wrapper_below t (owner (symbol_of g o)) (index.owner_below t o l))) (omega arith) (omega arith))
      go true p false q = let w : k < 1 + forwards g s = rw (p, wrapper_candidates) at u in forward_good s (k - 1) h (omega (arith, w, eqb-false k 0 q))

  declaration_good : (o x k : ℕ) → o < (header_in numbers).symbols → k < declaration_candidates g o → GoodCandidate g (declaration_candidate g o x k)
  unfolding declaration_candidate declaration_candidates
  declaration_good o x k h u = go (normal g (owner (symbol_of g o))) refl (ltb k (length (declaring_statements (symbol_of g o)))) refl
    where
      go : (b : Bool) → normal g (owner (symbol_of g o)) ≡ b → (c : Bool) → ltb k (length (declaring_statements (symbol_of g o))) ≡ c
          → GoodCandidate g (elim c [ true ↦ Gives (statement_fact (owner (symbol_of g o)) (only (get_or (declaring_statements (symbol_of g o)) k []))) | false ↦ when (not (is_namespace g o && flag 4 x)) (module_fact (owner (symbol_of g o))) ])
      go false p c q = let w : k < 0 = rw (p, declaration_candidates) at u in absurd (omega (arith, w))
      go true p true q =
          good_pick g (statement_fact (owner (symbol_of g o)) (only (get_or (declaring_statements (symbol_of g o)) k [])))
          (good_statement numbers (owner (symbol_of g o)) (only (get_or (declaring_statements (symbol_of g o)) k [])) (index.owner_below t o h) (index.declared_below t o k h (ltb-true k (length (declaring_statements (symbol_of g o))) q)))
      go true p false q = when_good g (not (is_namespace g o && flag 4 x)) (module_fact (owner (symbol_of g o))) (λ e. good_module numbers (owner (symbol_of g o)) (index.owner_below t o h) p)

  write_good : (s k : ℕ) → s < (header_in numbers).symbols → k < write_candidates g s → GoodCandidate g (write_candidate g s k)
  unfolding write_candidate write_candidates
  write_good s k h u = go (option g 3 && normal g (owner (symbol_of g s))) refl
    where
      go : (b : Bool) → (option g 3 && normal g (owner (symbol_of g s))) ≡ b → GoodCandidate g (Gives (statement_fact (owner (symbol_of g s)) (only (get_or (written_property_statements (symbol_of g s)) k []))))
      go false p = let w : k < 0 = rw (p, write_candidates) at u in absurd (omega (arith, w))
      go true p =
          let w : k < length (written_property_statements (symbol_of g s)) = rw (p, write_candidates) at u in
          good_pick g (statement_fact (owner (symbol_of g s)) (only (get_or (written_property_statements (symbol_of g s)) k [])))
          (good_statement numbers (owner (symbol_of g s)) (only (get_or (written_property_statements (symbol_of g s)) k [])) (index.owner_below t s h) (index.written_below t s k h w))

  use_good : (v : List ℕ) (s x : ℕ) → s < (header_in numbers).symbols → GoodSegments g (use_segments g v s x)
  unfolding use_segments
  use_good v s x h = (
    (λ i u. demand_good (demanded g v s x) i (demanded_fits v s x) u),
    (
      (λ k u. alias_good (root_of g.symbols s) k (index.root_below t s h)),
      (
        (λ k u. wrapper_good s (target_of g s) k h (target_below t s h) u),
        ((λ k u. declaration_good (target_of g s) x k (target_below t s h) u), ((λ k u. write_good s k h u), tt)),
      ),
    ),
  )

  -- all segments of a good fact
  pub segments_good : (v : List ℕ) (f : Fact) → Good g f → GoodSegments g (segments_of g v f)
  unfolding segments_of graph_in
  segments_good v (Module m) h = go (quiet_runtime g v m.0)
    where
      go : (b : Bool) → GoodSegments g (elim b [ true ↦ [] | false ↦ module_segments g v m.0 ])
      go true = tt
      go false = module_good v m.0 h.0 h.1
  segments_good v (Statement m i) h = statement_good v m.0 i.0 h.0 h.1
  segments_good v (CheckedUse s x) h = ((λ k u. checked_good s.0 x.bits k h.0 h.1 h.2), tt)
  segments_good v (Use s x) h = go (bypassed g s.0 x.bits)
    where
      go : (b : Bool) → GoodSegments g (elim b [ true ↦ [] | false ↦ use_segments g v s.0 x.bits ])
      go true = tt
      go false = use_good v s.0 x.bits h.0
  segments_good v (Forward s) h = tt
  segments_good v (Bailout m) h = tt

  -- K2 to K14 lead from good facts to good facts
  pub consequences_good : (v : List ℕ) (f : Fact) → Good g f → AllGood g (gives g v f)
  unfolding gives
  consequences_good v f h = given_good g (segments_of g v f) (segments_good v f h)
