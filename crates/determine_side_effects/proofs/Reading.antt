-- What the functions read, against what the definitions say of the decoded graph.
use Prim.Native.Nat.{ℕ, suc, ◌+◌, ◌-◌, ◌<◌, ◌≤◌, min}
use mathlib.Core.Path.{◌≡◌, refl, ap, ◌∙◌, sym}
use mathlib.Core.Logic.{◌≢◌}
use mathlib.Core.Bool.{Bool, true, false, ◌&&◌, ◌||◌, not}
use mathlib.Core.List.{List, [], ◌∷◌, ◌++◌, append-nil}
use native.Mathlib.Omega.{arith}
use native.Mathlib.Nat.{zero-add}
use native.Mathlib.Numerals.{add-one}
use borrow.Author.Tests.{eq-eqb, ne_eqb}
use lib.Dec.{eqb}
use lib.Seq.{drop-cons, set_at, get_or-take, append_snoc}
use lib.ListN.{length, get_or, drop, drop_of_length-le, take, set, length-take}
use Rattle.facts.specs.rows_crate.Walk.{Item, no_item}
use Rattle.facts.specs.graph_crate.Check.{Graph}
use Rattle.facts.specs.graph_access_crate.Names.{effects, flags, wrap, scan_effects, scan_statement_count, import_records, import_record_target, import_record_kind, import_record_bits, statement_bits}
use Rattle.facts.specs.graph_access_crate.Words.{flag, tabulate, some, module_of, statement_list, normal}
use Rattle.determine_side_effects.specs.Effects.{effectful, seeds, reaches, moves, moved, pass, passes, rescanned, recomputed, relaxed, first_verdict}
use Rattle.determine_side_effects.proofs.Lists.{some_stop, some_go, some_end, length-tabulate, tabulate_snoc}
use Rattle.determine_side_effects.proofs.Settled.{moved_true, moved_false, pass_none}

-- a verdict
pub effectful_1 : (v : ℕ) → v ≡ 1 → true ≡ effectful v
unfolding effectful
effectful_1 v e = rw e

pub effectful_3 : (v : ℕ) → v ≡ 3 → true ≡ effectful v
unfolding effectful
effectful_3 v e = rw e

pub effectful_4 : (v : ℕ) → v ≢ 1 → v ≢ 3 → eqb v 4 ≡ effectful v
unfolding effectful
effectful_4 v n k = rw (ne_eqb v 1 n, ne_eqb v 3 k)

-- a record
module _ (g : Graph) (row : List ℕ) where
  pub seeds_none : import_record_target row ≡ 0 → false ≡ seeds g row
  unfolding seeds
  seeds_none z = rw (eq-eqb (import_record_target row) 0 z, seeds)

  pub seeds_by : (t : ℕ) → t ≡ import_record_target row → t ≢ 0 → {a b c d e : Bool} → eqb (import_record_kind row) 0 ≡ a → flag 0 (import_record_bits row) ≡ b → normal g (t - 1) ≡ c
      → eqb (wrap (module_of g (t - 1))) 0 ≡ d → flag 3 (flags (module_of g (t - 1))) ≡ e → (a && (b && (c && (not d || e)))) ≡ seeds g row
  unfolding seeds
  seeds_by t i n p q r s u =
      let z : eqb (import_record_target row) 0 ≡ false = ne_eqb (import_record_target row) 0 (omega (arith, i, n)) in
      rw (z, seeds, ← i, p, q, r, s, u)

-- the same, test by test
module _ (g : Graph) (row : List ℕ) (t : ℕ) (is : t ≡ import_record_target row) (resolved : t ≢ 0) (k : ℕ) (of_kind : k ≡ import_record_kind row) where
  pub seeds_other : k ≢ 0 → false ≡ seeds g row
  seeds_other n = seeds_by g row t is resolved (ne_eqb (import_record_kind row) 0 (omega (arith, of_kind, n))) refl refl refl refl

  module _ (import : k ≡ 0) {b : Bool} (bits : ℕ) (of-bits : bits ≡ import_record_bits row) (of-b : b ≡ flag 0 bits) where
    star : eqb (import_record_kind row) 0 ≡ true
    star = eq-eqb (import_record_kind row) 0 (sym of_kind ∙ import)

    first : flag 0 (import_record_bits row) ≡ b
    first = ap (λ x. flag 0 x) (sym of-bits) ∙ sym of-b

    pub seeds-unstarred : b ≡ false → false ≡ seeds g row
    seeds-unstarred n = seeds_by g row t is resolved star (first ∙ n) refl refl refl

    module _ (starred : b ≡ true) {y : Bool} (of-y : y ≡ normal g (t - 1)) where
      pub seeds-external : y ≡ false → false ≡ seeds g row
      seeds-external n = seeds_by g row t is resolved star (first ∙ starred) (sym of-y ∙ n) refl refl

      module _ (one : y ≡ true) (w : ℕ) (of-w : w ≡ wrap (module_of g (t - 1))) where
        pub seeds-wrapped : w ≢ 0 → true ≡ seeds g row
        seeds-wrapped n = seeds_by g row t is resolved star (first ∙ starred) (sym of-y ∙ one) (ne_eqb (wrap (module_of g (t - 1))) 0 (omega (arith, of-w, n))) refl

        pub seeds-dynamic : w ≡ 0 → (f : ℕ) → f ≡ flags (module_of g (t - 1)) → {e : Bool} → e ≡ flag 3 f → e ≡ seeds g row
        seeds-dynamic z f of-f of-e =
            of-e
            ∙ ap (λ y. flag 3 y) of-f
            ∙ seeds_by g row t is resolved star (first ∙ starred) (sym of-y ∙ one) (eq-eqb (wrap (module_of g (t - 1))) 0 (sym of-w ∙ z)) refl

pub reaches_none : (v row : List ℕ) → import_record_target row ≡ 0 → false ≡ reaches v row
unfolding reaches
reaches_none v row z = rw (eq-eqb (import_record_target row) 0 z, reaches)

pub reaches_by : (v row : List ℕ) (t : ℕ) → t ≡ import_record_target row → t ≢ 0 → {b : Bool} → b ≡ effectful (get_or v (t - 1) 0) → b ≡ reaches v row
unfolding reaches
reaches_by v row t i n e =
    let z : eqb (import_record_target row) 0 ≡ false = ne_eqb (import_record_target row) 0 (omega (arith, i, n)) in
    rw (z, reaches, ← i) e

-- whether a module moves
module _ (g : Graph) (v : List ℕ) (m : ℕ) where
  pub moves_external : normal g m ≡ false → false ≡ moves g v m
  unfolding moves
  moves_external n = rw n

  module _ (is_normal : normal g m ≡ true) where
    pub moves-other : get_or v m 0 ≢ 0 → false ≡ moves g v m
    unfolding moves
    moves-other n = rw (is_normal, ne_eqb (get_or v m 0) 0 n)

    pub moves-some : get_or v m 0 ≡ 0 → some (λ row. seeds g row || reaches v row) (import_records (module_of g m)) ≡ moves g v m
    unfolding moves
    moves-some z = rw (is_normal, eq-eqb (get_or v m 0) 0 z)

-- a walk over a module's import records, from record k on
module _ (g : Graph) (v : List ℕ) (rows : List (List ℕ)) (k : ℕ) (inside : k < length rows) {whole : Bool} (left : some (λ row. seeds g row || reaches v row) (drop k rows) ≡ whole) where
  pub rows_seeded : {b : Bool} → b ≡ seeds g (get_or rows k []) → b ≡ true → true ≡ whole
  rows_seeded e t = sym (some_stop (λ row. seeds g row || reaches v row) [] rows k inside (ap (λ x. x || reaches v (get_or rows k [])) (sym e ∙ t))) ∙ left

  pub rows_reached : {b c : Bool} → b ≡ seeds g (get_or rows k []) → b ≡ false → c ≡ reaches v (get_or rows k []) → c ≡ true → true ≡ whole
  rows_reached e t f u = sym (some_stop (λ row. seeds g row || reaches v row) [] rows k inside (ap (λ x. x || reaches v (get_or rows k [])) (sym e ∙ t) ∙ sym f ∙ u)) ∙ left

  pub rows_on : {b c : Bool} → b ≡ seeds g (get_or rows k []) → b ≡ false → c ≡ reaches v (get_or rows k []) → c ≡ false
      → some (λ row. seeds g row || reaches v row) (drop (k + 1) rows) ≡ whole
  rows_on e t f u = sym (some_go (λ row. seeds g row || reaches v row) [] rows k inside (ap (λ x. x || reaches v (get_or rows k [])) (sym e ∙ t) ∙ sym f ∙ u)) ∙ left

-- a walk over the modules, from module m on
module _ (xs : List Item) (m : ℕ) {whole : Bool} (left : some (λ x. flag 5 (flags x)) (drop m xs) ≡ whole) where
  module _ (inside : m < length xs) (f : ℕ) (of-f : f ≡ flags (get_or xs m no_item)) {b : Bool} (of-b : b ≡ flag 5 f) where
    pub relaxed-stop : b ≡ true → true ≡ whole
    relaxed-stop t = sym (some_stop (λ x. flag 5 (flags x)) no_item xs m inside (ap (λ y. flag 5 y) (sym of-f) ∙ sym of-b ∙ t)) ∙ left

    pub relaxed-on : b ≡ false → some (λ x. flag 5 (flags x)) (drop (m + 1) xs) ≡ whole
    relaxed-on t = sym (some_go (λ x. flag 5 (flags x)) no_item xs m inside (ap (λ y. flag 5 y) (sym of-f) ∙ sym of-b ∙ t)) ∙ left

  pub relaxed_end : length xs ≤ m → false ≡ whole
  relaxed_end l = sym (some_end (λ x. flag 5 (flags x)) no_item xs m l) ∙ left

-- a relaxed module's statements at scan time, from statement i on
module _ (g : Graph) (m i : ℕ) (left : some (λ x. flag 1 (statement_bits x)) (drop i (take (scan_statement_count (module_of g m)) (statement_list g m)))
    ≡ some (λ x. flag 1 (statement_bits x)) (take (scan_statement_count (module_of g m)) (statement_list g m))) where
  pub scan_over : length (take (scan_statement_count (module_of g m)) (statement_list g m)) ≤ i → 0 ≡ rescanned g m
  unfolding rescanned
  scan_over l = let e = sym left ∙ some_end (λ x. flag 1 (statement_bits x)) no_item (take (scan_statement_count (module_of g m)) (statement_list g m)) i l in rw (e, rescanned)

  module _ (scanned : i < scan_statement_count (module_of g m)) (inside : i < length (statement_list g m)) {b : Bool} (is : b ≡ flag 1 (statement_bits (get_or (statement_list g m) i no_item))) where
    here : length (take (scan_statement_count (module_of g m)) (statement_list g m)) ≡ min (scan_statement_count (module_of g m)) (length (statement_list g m))
    here = length-take (scan_statement_count (module_of g m)) (statement_list g m)

    same : flag 1 (statement_bits (get_or (take (scan_statement_count (module_of g m)) (statement_list g m)) i no_item)) ≡ b
    same = ap (λ x. flag 1 (statement_bits x)) (get_or-take (scan_statement_count (module_of g m)) (statement_list g m) i no_item scanned) ∙ sym is

    pub scan-hit : b ≡ true → 1 ≡ rescanned g m
    unfolding rescanned
    scan-hit t =
        let e = sym left ∙ some_stop (λ x. flag 1 (statement_bits x)) no_item (take (scan_statement_count (module_of g m)) (statement_list g m)) i (omega (arith, here)) (same ∙ t) in
        rw (e, rescanned)

    pub scan-on : b ≡ false → some (λ x. flag 1 (statement_bits x)) (drop (i + 1) (take (scan_statement_count (module_of g m)) (statement_list g m)))
        ≡ some (λ x. flag 1 (statement_bits x)) (take (scan_statement_count (module_of g m)) (statement_list g m))
    scan-on t = sym (some_go (λ x. flag 1 (statement_bits x)) no_item (take (scan_statement_count (module_of g m)) (statement_list g m)) i (omega (arith, here)) (same ∙ t)) ∙ left

-- a module's verdict before the settling
module _ (g : Graph) (m : ℕ) where
  pub recomputed_external : normal g m ≡ false → effects (module_of g m) ≡ recomputed g m
  unfolding recomputed
  recomputed_external n = rw (n, recomputed)

  module _ (is_normal : normal g m ≡ true) where
    pub recomputed-other : scan_effects (module_of g m) ≢ 1 → scan_effects (module_of g m) ≡ recomputed g m
    unfolding recomputed
    recomputed-other n = rw (is_normal, recomputed, ne_eqb (scan_effects (module_of g m)) 1 n, recomputed)

    module _ (one : scan_effects (module_of g m) ≡ 1) where
      pub recomputed-relaxed : flag 5 (flags (module_of g m)) ≡ true → rescanned g m ≡ recomputed g m
      unfolding recomputed
      recomputed-relaxed t = rw (is_normal, recomputed, eq-eqb (scan_effects (module_of g m)) 1 one, t, recomputed)

      pub recomputed-one : flag 5 (flags (module_of g m)) ≡ false → 1 ≡ recomputed g m
      unfolding recomputed
      recomputed-one t = rw (is_normal, recomputed, eq-eqb (scan_effects (module_of g m)) 1 one, t, recomputed) (sym one)

  pub first_again : {b : Bool} → b ≡ relaxed g → b ≡ true → recomputed g m ≡ first_verdict g m
  unfolding first_verdict
  first_again e t = let r = sym e ∙ t in rw (r, first_verdict)

  pub first_given : {b : Bool} → b ≡ relaxed g → b ≡ false → effects (module_of g m) ≡ first_verdict g m
  unfolding first_verdict
  first_given e t = let r = sym e ∙ t in rw (r, first_verdict)

-- a row whose first m numbers are filled in
pub fill_start : (f : ℕ → ℕ) (v : List ℕ) → v ≡ tabulate f 0 0 ++ drop 0 v
unfolding tabulate
fill_start f v = refl

pub fill_step : (f : ℕ → ℕ) (v₀ v : List ℕ) (m x : ℕ) → v ≡ tabulate f 0 m ++ drop m v₀ → m < length v₀ → x ≡ f m → set v m x ≡ tabulate f 0 (m + 1) ++ drop (m + 1) v₀
fill_step f v₀ v m x e l i =
    ap (λ w. set w m x) (e ∙ ap (λ w. tabulate f 0 m ++ w) (drop-cons v₀ m 0 l))
    ∙ set_at (tabulate f 0 m) (get_or v₀ m 0) (drop (suc m) v₀) x m (length-tabulate f 0 m)
    ∙ sym (append_snoc (tabulate f 0 m) x (drop (suc m) v₀))
    ∙ ap (λ y. tabulate f 0 m ++ (y ∷ []) ++ drop (suc m) v₀) (i ∙ ap f (sym (zero-add m)))
    ∙ ap (λ w. w ++ drop (suc m) v₀) (sym (tabulate_snoc f 0 m))
    ∙ ap (λ k. tabulate f 0 k ++ drop k v₀) (sym (add-one m))

pub fill_done : (f : ℕ → ℕ) (v₀ v : List ℕ) (m : ℕ) → v ≡ tabulate f 0 m ++ drop m v₀ → length v₀ ≤ m → v ≡ tabulate f 0 m
fill_done f v₀ v m e l = e ∙ ap (λ w. tabulate f 0 m ++ w) (drop_of_length-le v₀ l) ∙ append-nil (tabulate f 0 m)

-- passes
module _ (g : Graph) (v : List ℕ) (k : ℕ) (more : 0 < k) where
  before : k ≡ suc (k - 1)
  before = omega arith

  pass_turn : pass g (k - 1) (moved g v (k - 1)) ≡ pass g k v
  unfolding pass
  pass_turn = let step : pass g (suc (k - 1)) v ≡ pass g (k - 1) (moved g v (k - 1)) = refl in sym step ∙ ap (λ j. pass g j v) (sym before)

  pub pass_moved : {b : Bool} → b ≡ moves g v (k - 1) → b ≡ true → pass g (k - 1) (set v (k - 1) 1) ≡ pass g k v
  pass_moved e t = ap (λ w. pass g (k - 1) w) (sym (moved_true g v (k - 1) (sym e ∙ t))) ∙ pass_turn

  pub pass_kept : {b : Bool} → b ≡ moves g v (k - 1) → b ≡ false → pass g (k - 1) v ≡ pass g k v
  pass_kept e t = ap (λ w. pass g (k - 1) w) (sym (moved_false g v (k - 1) (sym e ∙ t))) ∙ pass_turn

  pub passes_turn : (w : List ℕ) → w ≡ pass g g.header.modules v → passes g (k - 1) w ≡ passes g k v
  unfolding passes
  passes_turn w e =
      let step : passes g (suc (k - 1)) v ≡ passes g (k - 1) (pass g g.header.modules v) = refl in
      ap (λ x. passes g (k - 1) x) e ∙ sym step ∙ ap (λ j. passes g j v) (sym before)

  pub passes_stop : (w : List ℕ) → w ≡ pass g g.header.modules v → w ≡ v → w ≡ passes g k v
  passes_stop w e s = sym (pass_none g (k - 1) w (ap (λ x. pass g g.header.modules x) s ∙ sym e)) ∙ passes_turn w e

pub pass_done : (g : Graph) (v w : List ℕ) (k : ℕ) → k ≤ 0 → pass g k v ≡ w → v ≡ w
unfolding pass
pass_done g v w k l e = let z : k ≡ 0 = omega arith in rw z at e

pub passes_done : (g : Graph) (v w : List ℕ) (k : ℕ) → k ≤ 0 → passes g k v ≡ w → v ≡ w
unfolding passes
passes_done g v w k l e = let z : k ≡ 0 = omega arith in rw z at e
