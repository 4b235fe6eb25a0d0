-- An import record is dead exactly if an entry that was found dead leaves it: records by their running number, and as pairs.
use Rattle.std.proofs.Common.{◌≡◌, ℕ, zero, suc, ◌+◌, ◌<◌, ◌≤◌, Bool, true, false, not, ◌&&◌, ◌||◌, eqb, ◌↔◌, List, [], ◌∷◌, length, get_or, sym, refl, ap, ◌∙◌, inl, inr, arith, eq-eqb, eqb-true}
use mathlib.Core.Bool.{false≢true}
use native.Mathlib.Decide.{dec_lt}
use Rattle.determine_side_effects.specs.rows_crate.Walk.{Item, no_item}
use Rattle.determine_side_effects.specs.graph_crate.Check.{Graph, graph_in, check_of, answer_of}
use Rattle.determine_side_effects.specs.graph_access_crate.Names.{import_records, related, related_module, related_import_record, unreachable}
use Rattle.determine_side_effects.specs.graph_access_crate.Words.{some, tabulate, module_of, entry_of}
use Rattle.determine_side_effects.specs.Effects.{last_verdicts}
use Rattle.determine_side_effects.proofs.Lists.{both, some_found, some_holds, length-tabulate, get_d_tabulate}
use Rattle.keep_record.specs.Lines.{elem}
use Rattle.dynamic_entries.specs.Alive.{is_pure, records_before, dead_of}
use Rattle.dead_records.specs.Dead.{is_dead_record}
use Rattle.closed_choices.proofs.Every.{Every}
use Rattle.rust_values.specs.Values.{Pair, pair, In}
use Rattle.rust_run.proofs.Trying.{dead_pairs, pairs_unreachable, pairs_here, pairs_not, RowGood, rows_good, reach_same, pure_same}
use Rattle.std.specs.Prelude.{Ok}

-- Running numbers of records -------------------------------------------------------------------------------------------------------------

none_before : (m : ℕ) → records_before [] m ≡ 0
unfolding records_before
none_before zero = refl
none_before (suc m) = refl

none_at : (m : ℕ) → length (import_records (get_or {A = Item} [] m no_item)) ≡ 0
unfolding import_records
none_at zero = refl
none_at (suc m) = refl

before_step : (ms : List Item) (m : ℕ) → records_before ms (suc m) ≡ records_before ms m + length (import_records (get_or ms m no_item))
unfolding records_before
before_step [] m = omega (arith, none_before m, none_at m)
before_step (x ∷ ms) zero = omega arith
before_step (x ∷ ms) (suc m) = omega (arith, before_step ms m)

before_mono : (ms : List Item) (m n : ℕ) → m ≤ n → records_before ms m ≤ records_before ms n
unfolding records_before
before_mono ms zero n l = omega arith
before_mono [] (suc m) n l = omega arith
before_mono (x ∷ ms) (suc m) zero l = absurd (omega arith)
before_mono (x ∷ ms) (suc m) (suc n) l = omega (arith, before_mono ms m n (omega arith))

-- a record's number tells its module and its place
pub number_tells : (g : Graph) (m n i k : ℕ) → i < length (import_records (module_of g m)) → k < length (import_records (module_of g n)) → records_before g.modules m + i ≡ records_before g.modules n + k
    → pair m i ≡ pair n k
unfolding module_of
number_tells g m n i k a b e = go (dec_lt m n) (dec_lt n m)
  where
    together : m ≡ n → i ≡ k → pair m i ≡ pair n k
    together p q = ap (λ x. pair x i) p ∙ ap (λ x. pair n x) q

    go : Dec (m < n) → Dec (n < m) → pair m i ≡ pair n k
    go (yes p) q = absurd (omega (arith, before_step g.modules m, before_mono g.modules (suc m) n (omega arith), a, e))
    go (no p) (yes q) = absurd (omega (arith, before_step g.modules n, before_mono g.modules (suc n) m (omega arith), b, e))
    go (no p) (no q) = let s : m ≡ n = omega arith in together s (omega (arith, e, ap (records_before g.modules) s))

-- Records of one entry -------------------------------------------------------------------------------------------------------------------

module _ (g : Graph) (v : List ℕ) (r : List ℕ) (rs : List (List ℕ)) where
  abbrev number : ℕ
  number = records_before g.modules (related_module r) + related_import_record r

  dead_here : (eqb (unreachable r) 0 && is_pure g v r) ≡ true → dead_of g v (r ∷ rs) ≡ number ∷ dead_of g v rs
  unfolding dead_of
  dead_here e = rw (e, dead_of)

  dead_not : (eqb (unreachable r) 0 && is_pure g v r) ≡ false → dead_of g v (r ∷ rs) ≡ dead_of g v rs
  unfolding dead_of
  dead_not e = rw (e, dead_of)

-- a row leaves its record in both lists, or in none
data Leaves (g : Graph) (v : List ℕ) (r : List ℕ) (rs : List (List ℕ)) : Type 0 where
  its : dead_of g v (r ∷ rs) ≡ (records_before g.modules (related_module r) + related_import_record r) ∷ dead_of g v rs
      → dead_pairs g v (r ∷ rs) ≡ pair (related_module r) (related_import_record r) ∷ dead_pairs g v rs → Leaves g v r rs
  none : dead_of g v (r ∷ rs) ≡ dead_of g v rs → dead_pairs g v (r ∷ rs) ≡ dead_pairs g v rs → Leaves g v r rs

row_leaves : (g : Graph) (v : List ℕ) (r : List ℕ) (rs : List (List ℕ)) → RowGood g r → Leaves g v r rs
row_leaves g v r rs h = go (eqb (unreachable r) 0) refl (is_pure g v r) refl
  where
    reach : eqb (unreachable r) 1 ≡ not (eqb (unreachable r) 0)
    reach = reach_same (unreachable r) h.reachable

    go : (a : Bool) → eqb (unreachable r) 0 ≡ a → (b : Bool) → is_pure g v r ≡ b → Leaves g v r rs
    go true u true p = its (dead_here g v r rs (rw (u, p) refl)) (pairs_here g v r rs (reach ∙ ap not u) (pure_same g v r ∙ p))
    go true u false p = none (dead_not g v r rs (rw (u, p) refl)) (pairs_not g v r rs (reach ∙ ap not u) (pure_same g v r ∙ p))
    go false u b p = none (dead_not g v r rs (rw u refl)) (pairs_unreachable g v r rs (reach ∙ ap not u))

module _ (g : Graph) (v : List ℕ) (m k : ℕ) (inside : k < length (import_records (module_of g m))) where
  abbrev j : ℕ
  j = records_before g.modules m + k

  number_pair : (rs : List (List ℕ)) → Every (RowGood g) rs → elem j (dead_of g v rs) ≡ true → In (pair m k) (dead_pairs g v rs)
  unfolding dead_of dead_pairs elem
  number_pair [] a e = absurd (false≢true e)
  number_pair (r ∷ rs) a e = go (row_leaves g v r rs a.0) (λ q. number_pair rs a.1 q)
    where
      first : (b : Bool) → eqb j (records_before g.modules (related_module r) + related_import_record r) ≡ b → (b || elem j (dead_of g v rs)) ≡ true
          → (elem j (dead_of g v rs) ≡ true → In (pair m k) (dead_pairs g v rs)) → In (pair m k) (pair (related_module r) (related_import_record r) ∷ dead_pairs g v rs)
      first true q e next = inl (number_tells g m (related_module r) k (related_import_record r) inside a.0.here.import_record_inside (eqb-true _ _ q))
      first false q e next = inr (next e)

      go : Leaves g v r rs → (elem j (dead_of g v rs) ≡ true → In (pair m k) (dead_pairs g v rs)) → In (pair m k) (dead_pairs g v (r ∷ rs))
      go (its d p) next = rw p (first (eqb j (records_before g.modules (related_module r) + related_import_record r)) refl (sym (ap (elem j) d) ∙ e) next)
      go (none d p) next = rw p (next (sym (ap (elem j) d) ∙ e))

  pair_number : (rs : List (List ℕ)) → Every (RowGood g) rs → In (pair m k) (dead_pairs g v rs) → elem j (dead_of g v rs) ≡ true
  unfolding dead_of dead_pairs elem
  pair_number [] a e = absurd e
  pair_number (r ∷ rs) a e = go (row_leaves g v r rs a.0) (λ q. pair_number rs a.1 q)
    where
      same : (b : Bool) → (b || true) ≡ true
      same true = refl
      same false = refl

      first : In (pair m k) (pair (related_module r) (related_import_record r) ∷ dead_pairs g v rs) → (In (pair m k) (dead_pairs g v rs) → elem j (dead_of g v rs) ≡ true)
          → elem j ((records_before g.modules (related_module r) + related_import_record r) ∷ dead_of g v rs) ≡ true
      first (inl q) next =
          let z : j ≡ records_before g.modules (related_module r) + related_import_record r = ap (λ (p : Pair). records_before g.modules p.first + p.second) q in
          ap (λ b. b || elem j (dead_of g v rs)) (eq-eqb j _ z)
      first (inr q) next = ap (λ b. eqb j (records_before g.modules (related_module r) + related_import_record r) || b) (next q) ∙ same (eqb j (records_before g.modules (related_module r) + related_import_record r))

      go : Leaves g v r rs → (In (pair m k) (dead_pairs g v rs) → elem j (dead_of g v rs) ≡ true) → elem j (dead_of g v (r ∷ rs)) ≡ true
      go (its d p) next = ap (elem j) d ∙ first (rw p at e) next
      go (none d p) next = ap (elem j) d ∙ next (rw p at e)

-- Records of all entries -----------------------------------------------------------------------------------------------------------------

numbers_there : (test : ℕ → Bool) (n : ℕ) → some test (tabulate (λ e. e) 0 n) ≡ true → (e : ℕ) × (e < n) × (test e ≡ true)
numbers_there test n h =
    let f = some_found test 0 (tabulate (λ (e : ℕ). e) 0 n) h in
    let w : f.0 < n = omega (arith, f.1, length-tabulate (λ (e : ℕ). e) 0 n) in
    let z : get_or (tabulate (λ (e : ℕ). e) 0 n) f.0 0 ≡ f.0 = omega (arith, get_d_tabulate (λ (e : ℕ). e) 0 n f.0 0 w) in
    (f.0, w, ap test (sym z) ∙ f.2)

there_numbers : (test : ℕ → Bool) (n e : ℕ) → e < n → test e ≡ true → some test (tabulate (λ e. e) 0 n) ≡ true
there_numbers test n e l h =
    let z : get_or (tabulate (λ (e : ℕ). e) 0 n) e 0 ≡ e = omega (arith, get_d_tabulate (λ (e : ℕ). e) 0 n e 0 l) in
    some_holds test 0 (tabulate (λ (e : ℕ). e) 0 n) e (omega (arith, l, length-tabulate (λ (e : ℕ). e) 0 n)) (ap test z ∙ h)

both_hold : (a b : Bool) → a ≡ true → b ≡ true → (a && b) ≡ true
both_hold true b u e = e
both_hold false b u e = absurd (false≢true u)

module _ (numbers : List ℕ) (ok : answer_of (check_of numbers) ≡ Ok tt) where
  pub record_dead : (dead : ℕ → Bool) (m k : ℕ) → m < (graph_in numbers).header.modules → k < length (import_records (module_of (graph_in numbers) m))
      → (is_dead_record (graph_in numbers) dead (records_before (graph_in numbers).modules m + k) ≡ true)
      ↔ ((e : ℕ) × (e < (graph_in numbers).header.entries) × (dead e ≡ true) × In (pair m k) (dead_pairs (graph_in numbers) (last_verdicts (graph_in numbers)) (related (entry_of (graph_in numbers) e))))
  unfolding is_dead_record
  record_dead dead m k l u = (
    λ h.
        let f = numbers_there _ (graph_in numbers).header.entries h in
        let b = both (dead f.0) _ f.2 in
        (f.0, f.1, b.0, number_pair (graph_in numbers) (last_verdicts (graph_in numbers)) m k u (related (entry_of (graph_in numbers) f.0)) (rows_good numbers ok f.0 f.1) b.1),
    λ h.
        there_numbers _ (graph_in numbers).header.entries h.0 h.1
        (both_hold (dead h.0) _ h.2 (pair_number (graph_in numbers) (last_verdicts (graph_in numbers)) m k u (related (entry_of (graph_in numbers) h.0)) (rows_good numbers ok h.0 h.1) h.3)),
  )
