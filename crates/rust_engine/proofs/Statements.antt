-- `handle_include_statement` behind its bit asks for what K7 and K8 give.
use Rattle.std.proofs.Common.{◌≡◌, ℕ, ◌-◌, Bool, true, false, not, ◌&&◌, ◌||◌, eqb, ltb, List, [], get_or, refl, subst}
use Rattle.determine_side_effects.specs.graph_crate.Check.{Graph}
use Rattle.determine_side_effects.specs.graph_access_crate.Names.{exports, flags, reexport_count, import_records, only, import_record_target, import_record_kind, import_record_bits, statement_import_records, references, reference_kind, reference_symbol, reference_flag, depended_on}
use Rattle.determine_side_effects.specs.graph_access_crate.Words.{flag, module_of, statement_of, normal}
use Rattle.determine_side_effects.specs.facts_crate.declared.Fact.{Fact}
use Rattle.determine_side_effects.specs.facts_crate.Facts.{use_fact, checked_fact, forward_fact, bailout_fact}
use Rattle.determine_side_effects.specs.Effects.{last_verdicts}
use Rattle.rust_values.specs.Values.{In, Found, none, found, optional}
use Rattle.rust_engine.specs.Context.{Context, symbol_item, push, insert_bailout, for_each, when as when_do}
use Rattle.rust_engine.specs.Tables.{has_side_effects}
use Rattle.rust_engine.specs.Engine.{check_cjs_bailout, push_symbol_and_check_cjs_bailout, retain_forwarding_declaration, retain_forwarding_declarations, scan_record, scan_one, scan_import_records_for_cjs_bailout, is_inlined_enum_member_access, include_kind, include_plain, include_resolved, include_reference}
use Rattle.rust_engine.proofs.Bailing.{none_found, found_same, asks_checked}
use Rattle.rust_engine.proofs.Forwarding.{asks_forward, Forwards, asks_forwards}
use Rattle.rust_engine.proofs.Asking.{World, Asks, asks_nothing, asks_then, asks_when, asks_each, asks_as}
use Rattle.rust_engine.proofs.Inserting.{asks_push, asks_bailout}

module _ (g : Graph) where
  abbrev v : List ℕ
  v = last_verdicts g

  abbrev W : Type 1
  W = World g v

  -- K7
  abbrev pub Scans : ℕ → List ℕ → Found → W → Type 0
  Scans m row r w = (t : ℕ) → r ≡ found t → normal g t ≡ true → not (not (eqb (exports (module_of g t)) 1) || eqb (import_record_kind row) 0) ≡ true
      → not (flag 1 (import_record_bits row) && not (has_side_effects v t)) ≡ true
      → (not (flag 2 (flags (module_of g m))) || ltb 1 (reexport_count (module_of g m))) ≡ true → w.fact (bailout_fact t)

  asks_reexport : (m t : ℕ) (a b : Bool) (c : Context)
      → Asks g v (λ w. (not a || b) ≡ true → w.fact (bailout_fact t)) c
      (elim a [ true ↦ elim b [ true ↦ insert_bailout t c | false ↦ c ] | false ↦ insert_bailout t c ])
  asks_reexport m t true b c = asks_when g v b (λ w. w.fact (bailout_fact t)) (insert_bailout t) c (λ e. asks_bailout g v t c)
  asks_reexport m t false b c =
      asks_as g v (λ w. w.fact (bailout_fact t)) (λ w. true ≡ true → w.fact (bailout_fact t)) c (insert_bailout t c) (λ w q. q refl) (λ w p e. p)
      (asks_bailout g v t c)

  asks_scan : (m : ℕ) (row : List ℕ) (r : Found) (c : Context) → Asks g v (Scans m row r) c (scan_record g v m row r c)
  unfolding scan_record
  asks_scan m row none c = asks_as g v (λ w. Unit {0}) (Scans m row none) c c (λ w q. tt) (λ w p n q. absurd (none_found n q)) (asks_nothing g v c)
  asks_scan m row (found t) c =
      let R : W → Type 0 = λ w. (not (flag 2 (flags (module_of g m))) || ltb 1 (reexport_count (module_of g m))) ≡ true → w.fact (bailout_fact t) in
      let f : Context → Context = λ c. elim (flag 2 (flags (module_of g m))) as (λ b. Context)
      [ true ↦ when_do (ltb 1 (reexport_count (module_of g m))) (insert_bailout t) c | false ↦ insert_bailout t c ] in
      asks_as g v (λ w. normal g t ≡ true → not (not (eqb (exports (module_of g t)) 1) || eqb (import_record_kind row) 0) ≡ true → not
      (flag 1 (import_record_bits row) && not (has_side_effects v t)) ≡ true → R w) (Scans m row (found t)) c _
      (λ w q. q t refl)
      (λ w p n q. subst (λ t. normal g t ≡ true → not (not (eqb (exports (module_of g t)) 1) || eqb (import_record_kind row) 0) ≡ true
      → not (flag 1 (import_record_bits row) && not (has_side_effects v t)) ≡ true
      → (not (flag 2 (flags (module_of g m))) || ltb 1 (reexport_count (module_of g m))) ≡ true → w.fact (bailout_fact t)) (found_same t n q) p)
      (asks_when g v (normal g t) (λ w. not (not (eqb (exports (module_of g t)) 1) || eqb (import_record_kind row) 0) ≡ true → not
      (flag 1 (import_record_bits row) && not (has_side_effects v t)) ≡ true → R w)
      (when_do (not (not (eqb (exports (module_of g t)) 1) || eqb (import_record_kind row) 0))
      (when_do (not (flag 1 (import_record_bits row) && not (has_side_effects v t))) f)) c
      (λ e₁. asks_when g v (not (not (eqb (exports (module_of g t)) 1) || eqb (import_record_kind row) 0))
      (λ w. not (flag 1 (import_record_bits row) && not (has_side_effects v t)) ≡ true → R w)
      (when_do (not (flag 1 (import_record_bits row) && not (has_side_effects v t))) f) c
      (λ e₂. asks_when g v (not (flag 1 (import_record_bits row) && not (has_side_effects v t))) R f c
      (λ e₃. asks_reexport m t (flag 2 (flags (module_of g m))) (ltb 1 (reexport_count (module_of g m))) c))))

  abbrev record_row : ℕ → List ℕ → List ℕ
  record_row m k = get_or (import_records (module_of g m)) (only k) []

  abbrev pub ScansAll : ℕ → ℕ → W → Type 0
  ScansAll m i w = (k : List ℕ) → In k (statement_import_records (statement_of g m i)) → Scans m (record_row m k) (optional (import_record_target (record_row m k))) w

  asks_records : (m i : ℕ) (c : Context) → Asks g v (ScansAll m i) c (scan_import_records_for_cjs_bailout g v m i c)
  unfolding scan_import_records_for_cjs_bailout scan_one
  asks_records m i c =
      asks_each g v (λ k. Scans m (record_row m k) (optional (import_record_target (record_row m k)))) (λ k. scan_one g v m (record_row m k))
      (statement_import_records (statement_of g m i)) c
      (λ k q d. asks_scan m (record_row m k) (optional (import_record_target (record_row m k))) d)

  -- K8
  abbrev pub Plain : ℕ → List ℕ → W → Type 0
  Plain kind row w = Forwards g v (reference_symbol row) w × w.fact (checked_fact (reference_symbol row) kind)

  asks_plain : (kind : ℕ) (row : List ℕ) (c : Context) → Asks g v (Plain kind row) c (include_plain g kind row c)
  unfolding include_plain
  asks_plain kind row c =
      asks_then g v (Forwards g v (reference_symbol row)) (λ w. w.fact (checked_fact (reference_symbol row) kind)) c
      (retain_forwarding_declarations g (reference_symbol row) c) _
      (asks_forwards g v (reference_symbol row) c) (asks_checked g (reference_symbol row) kind (retain_forwarding_declarations g (reference_symbol row) c))

  abbrev pub ResolvedUse : Bool → ℕ → ℕ → (Fact → Type 0) → Type 0
  ResolvedUse true s kind P = P (use_fact s kind)
  ResolvedUse false s kind P = P (checked_fact s kind)

  abbrev pub Resolved : ℕ → List ℕ → W → Type 0
  Resolved kind row w =
      ((s : ℕ) → In s (depended_on row) → w.fact (forward_fact s)) × ResolvedUse (eqb (reference_flag row) 1) (reference_symbol row) kind w.fact

  asks_resolved : (kind : ℕ) (row : List ℕ) (c : Context) → Asks g v (Resolved kind row) c (include_resolved g kind row c)
  unfolding include_resolved push_symbol_and_check_cjs_bailout
  asks_resolved kind row c =
      asks_then g v (λ w. (s : ℕ) → In s (depended_on row) → w.fact (forward_fact s))
      (λ w. ResolvedUse (eqb (reference_flag row) 1) (reference_symbol row) kind w.fact)
      c (for_each (retain_forwarding_declaration g) (depended_on row) c) _
      (asks_each g v (λ s w. w.fact (forward_fact s)) (retain_forwarding_declaration g) (depended_on row) c (λ s q d. asks_forward g v s d))
      (last (for_each (retain_forwarding_declaration g) (depended_on row) c) (eqb (reference_flag row) 1))
    where
      unchecked : (d : Context) → Asks g v (λ w. w.fact (use_fact (reference_symbol row) kind)) d (push (symbol_item (reference_symbol row) kind) d)
      unchecked d = asks_push g v (symbol_item (reference_symbol row) kind) d

      checked : (d : Context) → Asks g v (λ w. w.fact (checked_fact (reference_symbol row) kind)) d
          (check_cjs_bailout g (reference_symbol row) (push (symbol_item (reference_symbol row) kind) d))
      checked d = asks_checked g (reference_symbol row) kind d

      last : (d : Context) (b : Bool)
          → Asks g v (λ w. ResolvedUse b (reference_symbol row) kind w.fact) d
          (elim (not b) [
            | true ↦ check_cjs_bailout g (reference_symbol row) (push (symbol_item (reference_symbol row) kind) d)
            | false ↦ push
                (symbol_item (reference_symbol row) kind) d
          ])
      last d true = unchecked d
      last d false = checked d

  abbrev pub Reference : ℕ → List ℕ → W → Type 0
  Reference kind row w =
      elim (eqb (reference_kind row) 0) [
        | true ↦ Plain kind row w
        | false ↦ elim (eqb (reference_kind row) 1) [
          | true ↦ Unit {0}
          | false ↦ elim (eqb (reference_kind row) 2)
              [ true ↦ Resolved kind row w | false ↦ elim (is_inlined_enum_member_access g row) [ true ↦ Unit {0} | false ↦ Plain kind row w ] ]
        ]
      ]

  asks_reference : (kind : ℕ) (row : List ℕ) (c : Context) → Asks g v (Reference kind row) c (include_reference g kind row c)
  unfolding include_reference
  asks_reference kind row c = go (eqb (reference_kind row) 0) (eqb (reference_kind row) 1) (eqb (reference_kind row) 2) (is_inlined_enum_member_access g row)
    where
      go : (p q r t : Bool)
          → Asks g v (λ w. elim p [
            | true ↦ Plain kind row w
            | false ↦ elim q
                [ true ↦ Unit {0} | false ↦ elim r [ true ↦ Resolved kind row w | false ↦ elim t [ true ↦ Unit {0} | false ↦ Plain kind row w ] ] ]
          ]) c
          (elim p [
            | true ↦ include_plain g kind row c
            | false ↦ elim q
                [ true ↦ c | false ↦ elim r [ true ↦ include_resolved g kind row c | false ↦ elim t [ true ↦ c | false ↦ include_plain g kind row c ] ] ]
          ])
      go true q r t = asks_plain kind row c
      go false true r t = asks_nothing g v c
      go false false true t = asks_resolved kind row c
      go false false false true = asks_nothing g v c
      go false false false false = asks_plain kind row c

  abbrev pub StatementAsks : ℕ → ℕ → W → Type 0
  StatementAsks m i w = ScansAll m i w × ((row : List ℕ) → In row (references (statement_of g m i)) → Reference (include_kind g m i) row w)

  abbrev pub statement_body : ℕ → ℕ → Context → Context
  statement_body m i c = for_each (include_reference g (include_kind g m i)) (references (statement_of g m i)) (scan_import_records_for_cjs_bailout g v m i c)

  pub asks_statement : (m i : ℕ) (c : Context) → Asks g v (StatementAsks m i) c (statement_body m i c)
  asks_statement m i c =
      asks_then g v (ScansAll m i) (λ w. (row : List ℕ) → In row (references (statement_of g m i)) → Reference (include_kind g m i) row w) c
      (scan_import_records_for_cjs_bailout g v m i c) _ (asks_records m i c)
      (asks_each g v (Reference (include_kind g m i)) (include_reference g (include_kind g m i)) (references (statement_of g m i))
      (scan_import_records_for_cjs_bailout g v m i c)
      (λ row q d. asks_reference (include_kind g m i) row d))
