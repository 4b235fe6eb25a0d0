-- The walk from a module: its import records, each taken in turn.
use Prim.Native.Nat.{ℕ, zero, suc, ◌+◌, ◌-◌, ◌<◌, ◌≤◌}
use mathlib.Core.Path.{◌≡◌, refl, ap, ◌∙◌, sym}
use mathlib.Core.Bool.{Bool, true, false, ◌||◌}
use mathlib.Core.List.{List, []}
use native.Mathlib.Numerals.{add-one}
use native.Mathlib.Omega.{arith}
use borrow.Author.Tests.{eqb-false}
use lib.Dec.{eqb, eqb-suc-zero}
use lib.ListN.{length, get_or, take, drop, drop_of_length-le}
use lib.Seq.{drop-cons}
use Rattle.graph_access.specs.index_crate.declared.ModuleIdx.{ModuleIdx}
use Rattle.bit_row.specs.Row.{bit_at}
use Rattle.graph_access.specs.graph_crate.Check.{Graph}
use Rattle.graph_access.specs.Names.{import_records}
use Rattle.graph_access.specs.Words.{module_of, normal}
use Rattle.keep_record.proofs.Adding.{left_false, right_false}
use Rattle.entry_graph.specs.declared.Import.{Import}
use Rattle.entry_graph.specs.declared.Step.{Step}
use Rattle.entry_graph.specs.declared.Step.TheVariants.{Walk, Stay}
use Rattle.entry_graph.specs.declared.Taken.TheVariants.{UpTo, All, Overfull}
use Rattle.entry_graph.specs.Ordering.{Ordering, visit, import_record, all_records, construct}
use Rattle.entry_graph.specs.Memory.{succs_in, ordering_in, Stored}
use Rattle.entry_graph.specs.Steps.{records_of, import_as, Asks, Takes, TakesRecords}
use Rattle.entry_graph.proofs.Imports.{records_normal, records_none}

-- the rest of a module's records, from record k on, where a walk may go `fuel` levels deep
abbrev pub take_from : Graph → ℕ → ℕ → ℕ → ℕ → Ordering → Ordering
take_from g fuel root m k s = all_records (λ x y q. construct g fuel x y q) root (drop k (records_of g m)) s

-- one level of the walk
module _ (g : Graph) (root m : ℕ) (s : Ordering) where
  -- a walk that may not go deeper, or from a module that was visited, changes nothing
  walk_over : (fuel : ℕ) → (eqb fuel 0 || s.visited m) ≡ true → construct g fuel root m s ≡ s
  unfolding construct
  walk_over zero e = refl
  walk_over (suc fuel) e = let v : s.visited m ≡ true = rw (eqb-suc-zero fuel) at e in rw (v, construct)

  -- any other visits the module and takes all its records
  walk_in : (fuel : ℕ) → s.visited m ≡ false → construct g (suc fuel) root m s ≡ take_from g fuel root m 0 (visit m s)
  unfolding construct all_records
  walk_in fuel e = go (normal g m) refl
    where
      go : (b : Bool) → normal g m ≡ b → construct g (suc fuel) root m s ≡ take_from g fuel root m 0 (visit m s)
      go true n = rw (records_normal g m n, e, n, construct)
      go false n = rw (records_none g m n, e, n, construct)

-- one more bit is one more module visited
ordering_visited : (M cap m : ℕ) (v v' nodes : List ℕ) (n : ℕ) (outs succs : List ℕ) → ((j : ℕ) → bit_at v' j ≡ (eqb j m || bit_at v j))
    → ordering_in M cap v' nodes n outs succs ≡ visit m (ordering_in M cap v nodes n outs succs)
unfolding ordering_in visit
ordering_visited M cap m v v' nodes n outs succs f = λ i. record { visited = λ x. f x i; nodes = take n nodes; succs = succs_in M cap outs succs }

-- a walk in rows: the module's bit is set, then its records are taken
pub walk_from : (g : Graph) (M cap root m fuel : ℕ) (v v' nodes : List ℕ) (n : ℕ) (outs succs : List ℕ) → bit_at v m ≡ false → ((j : ℕ) → bit_at v' j ≡ (eqb j m || bit_at v j)) → 0 < fuel
    → take_from g (fuel - 1) root m 0 (ordering_in M cap v' nodes n outs succs) ≡ construct g fuel root m (ordering_in M cap v nodes n outs succs)
unfolding ordering_in
walk_from g M cap root m fuel v v' nodes n outs succs e f h =
    let s = ordering_in M cap v nodes n outs succs in
    let q : fuel ≡ suc (fuel - 1) = omega arith in
    ap (take_from g (fuel - 1) root m 0) (ordering_visited M cap m v v' nodes n outs succs f) ∙ sym (ap (λ (k : ℕ). construct g k root m s) q ∙ walk_in g root m s (fuel - 1) e)

-- record k is one of those that are walked
module _ (g : Graph) (m k : ℕ) (h : k < length (records_of g m)) where
  -- a module with records is a normal one, so that they are its import records
  has_records : records_of g m ≡ import_records (module_of g m)
  has_records = go (normal g m) refl
    where
      go : (b : Bool) → normal g m ≡ b → records_of g m ≡ import_records (module_of g m)
      go true e = records_normal g m e
      go false e = let l : k < 0 = rw (records_none g m e) at h in absurd (omega arith)

  -- so it can be read
  pub record_inside : k < length (import_records (module_of g m))
  record_inside = rw has_records at h

  -- and what was read is taken before the records behind it
  record_next : (fuel root : ℕ) (s : Ordering) {M : ℕ} {import : Import} → Asks M root (get_or (import_records (module_of g m)) k []) import
      → take_from g fuel root m k s ≡ take_from g fuel root m (k + 1) (import_as (λ x y q. construct g fuel x y q) root import s)
  unfolding all_records
  record_next fuel root s a =
      let e = ap (λ (rows : List (List ℕ)). import_record (λ x y q. construct g fuel x y q) root (get_or rows k []) s) has_records in
      rw (add-one k, drop-cons (records_of g m) k [] h) (ap (take_from g fuel root m (suc k)) (e ∙ a.is (λ x y q. construct g fuel x y q) s))

-- what is left of the records, from here, is what was left at first
pub record Going (g : Graph) (M cap fuel root m : ℕ) (visited : List ℕ) (whole : Ordering) (nodes outs succs edges : List ℕ) (c k : ℕ) : Type 0 where
  pub stored : Stored M cap nodes c outs succs edges
  pub on : take_from g fuel root m k (ordering_in M cap visited nodes c outs succs) ≡ whole

-- two values of an enum with different names are never equal
pub clash : {A : Type 0} → ◌≡◌ {A = ℕ} 0 1 → A
clash e = absurd (omega arith)

-- one more record is taken
module _ {g : Graph} {M cap fuel root m : ℕ} {visited : List ℕ} {whole : Ordering} {nodes outs succs edges : List ℕ} {c k : ℕ} (i : Going g M cap fuel root m visited whole nodes outs succs edges c k)
    (h : k < length (records_of g m)) {import : Import} (a : Asks M root (get_or (import_records (module_of g m)) k []) import) {nodes' outs' succs' edges' : List ℕ} {r : Step}
    (w : Takes M cap root import nodes c outs succs nodes' outs' succs' edges' r) where
  abbrev deeper : ℕ → ℕ → Ordering → Ordering
  deeper x y q = construct g fuel x y q

  -- what was read, and then the records behind it, is the whole
  next : take_from g fuel root m (k + 1) (import_as deeper root import (ordering_in M cap visited nodes c outs succs)) ≡ whole
  next = sym (record_next g m k h fuel root (ordering_in M cap visited nodes c outs succs) a) ∙ i.on

  -- nothing is left to walk
  pub going_stay : (d : ℕ) → r ≡ Stay d → Going g M cap fuel root m visited whole nodes' outs' succs' edges' d (k + 1)
  going_stay d q = record { stored = w.stay_stored d q; on = ap (take_from g fuel root m (k + 1)) (sym (w.stay_is d q deeper visited)) ∙ next }

  module _ (from t : ModuleIdx) (d : ℕ) (q : r ≡ Walk from t d) where
    -- a walk, and then the records behind it, is the whole
    before : take_from g fuel root m (k + 1) (construct g fuel from.0 t.0 (ordering_in M cap visited nodes' d outs' succs')) ≡ whole
    before = ap (take_from g fuel root m (k + 1)) (sym (w.walk_is from t d q deeper visited)) ∙ next

    -- the walk is over at once
    pub going-over : (eqb fuel 0 || bit_at visited t.0) ≡ true → Going g M cap fuel root m visited whole nodes' outs' succs' edges' d (k + 1)
    unfolding ordering_in
    going-over e = record { stored = w.walk_stored from t d q; on = ap (take_from g fuel root m (k + 1)) (sym (walk_over g from.0 t.0 (ordering_in M cap visited nodes' d outs' succs') fuel e)) ∙ before }

    -- the walk is left to the caller
    pub takes-upto : {k₀ : ℕ} {nodes₀ : List ℕ} {n₀ : ℕ} {outs₀ succs₀ : List ℕ} → take_from g fuel root m k₀ (ordering_in M cap visited nodes₀ n₀ outs₀ succs₀) ≡ whole
        → (eqb fuel 0 || bit_at visited t.0) ≡ false
        → TakesRecords g M cap fuel root m k₀ visited nodes₀ n₀ outs₀ succs₀ nodes' outs' succs' edges' (UpTo (k + 1) from t d)
    takes-upto e f =
        record {
          upto_stored = λ i x y n o. let z : d ≡ n = cc in rw (sym z) (w.walk_stored from t d q);
          upto_below = λ i x y n o. let a : from ≡ x = cc in let b : t ≡ y = cc in let u = w.walk_below from t d q in let z = eqb-false fuel 0 (left_false (eqb fuel 0) _ f) in
              rw (sym a, sym b) (u.0, u.1, omega (arith, z), right_false (eqb fuel 0) _ f);
          upto_is = λ i x y n p. let z : k + 1 ≡ i = cc in let a : from ≡ x = cc in let b : t ≡ y = cc in let o : d ≡ n = cc in rw (sym z, sym a, sym b, sym o) (e ∙ sym before);
          all_stored = λ n q. clash (cc);
          all_is = λ n q. clash (cc);
          too_many = λ q. clash (cc);
        }

module _ {g : Graph} {M cap fuel root m k₀ : ℕ} {visited nodes₀ : List ℕ} {n₀ : ℕ} {outs₀ succs₀ nodes outs succs edges : List ℕ} where
  -- all records are taken
  pub takes_all : {c k : ℕ} → Going g M cap fuel root m visited (take_from g fuel root m k₀ (ordering_in M cap visited nodes₀ n₀ outs₀ succs₀)) nodes outs succs edges c k → length (records_of g m) ≤ k
      → TakesRecords g M cap fuel root m k₀ visited nodes₀ n₀ outs₀ succs₀ nodes outs succs edges (All c)
  unfolding all_records
  takes_all {c} {k} i h =
      record {
        upto_stored = λ i x y n q. clash (cc);
        upto_below = λ i x y n q. clash (cc);
        upto_is = λ i x y n q. clash (cc);
        all_stored = λ n q. let z : c ≡ n = cc in rw (sym z) i.stored;
        all_is = λ n q. let z : c ≡ n = cc in rw (sym z) (sym i.on ∙ rw (drop_of_length-le (records_of g m) h));
        too_many = λ q. clash (cc);
      }

  -- there is no room for an edge
  pub takes_full : cap < M → TakesRecords g M cap fuel root m k₀ visited nodes₀ n₀ outs₀ succs₀ nodes outs succs edges Overfull
  takes_full h =
      record {
        upto_stored = λ i x y n q. clash (cc);
        upto_below = λ i x y n q. clash (cc);
        upto_is = λ i x y n q. clash (cc);
        all_stored = λ n q. clash (cc);
        all_is = λ n q. clash (cc);
        too_many = λ q. h;
      }
